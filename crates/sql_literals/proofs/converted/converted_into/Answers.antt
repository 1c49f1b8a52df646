use Rattle.std.proofs.Common.{◌++◌, ap, ◌∙◌}
use Rattle.std.specs.Prelude.{codes}
use Rattle.sql_cells.specs.Literal.{text_literal}
use Rattle.sql_literals.proofs.Growth.{converted_appended}
use Rattle.sql_literals.proofs.converted.converted_into.Goals as goal

pub returns-clause-ok : goal.returns-clause-ok
returns-clause-ok c =
    let opened = c.push.ensures.bytes ∙ ap (λ t. t ++ codes "CONVERT(") c.reserve_text.ensures.bytes in
    let text = c.push_text.ensures.bytes ∙ ap (λ t. t ++ text_literal c.args.bytes.now) opened in
    c.push-2.ensures.bytes ∙ ap (λ t. t ++ codes " USING utf8mb4)") text ∙ converted_appended c.args.out.now.bytes c.args.bytes.now
