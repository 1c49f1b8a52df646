use Rattle.std.proofs.Common.{◌≡◌, ◌+◌, ◌++◌, length, ap, sym, ◌∙◌, arith, map}
use Rattle.std.specs.List.{flat_map}
use Rattle.folder_forms.specs.Metadata.{ended, table_line}
use Rattle.metadata_ini.proofs.EndFronts.{bad_order, bad_end, whole_first, bad_tables, whole_second, whole_order, second_version}
use Rattle.metadata_ini.proofs.CleanLines.{table_lines_clean}
use Rattle.metadata_ini.proofs.FileFronts.{empty_text}
use Rattle.metadata_ini.proofs.reading.read_end.Goals as goal

pub returns-then-ordered-files-clause-err : goal.returns-then-ordered-files-clause-err
returns-then-ordered-files-clause-err c text head position version before at =
    bad_order text head position c.args.files.now c.args.rest.now at c.in_ok-ordered.ordered (c.args.before + c.in_ok-ordered.ordered + 1) c.if-ordered-files.true c.in_ok-ordered.ensures (omega (arith, before))

pub returns-then-rest-eq0-clause-ok : goal.returns-then-rest-eq0-clause-ok
returns-then-rest-eq0-clause-ok c text head position version at =
    whole_first text head position c.args.files.now c.args.rest.now at (whole_order c.args.files.now c.in_ok-ordered.ordered c.in_ok-ordered.ensures c.if-ordered-files.false) (empty_text c.args.rest.now c.if-rest-eq0.true)
    (λ two. omega (arith, two, version, c.if-version-eq1.true))

pub returns-else-rest-eq0-clause-err : goal.returns-else-rest-eq0-clause-err
returns-else-rest-eq0-clause-err c text head position version before at =
    bad_end text head position c.args.files.now c.args.rest.now at _ (whole_order c.args.files.now c.in_ok-ordered.ordered c.in_ok-ordered.ensures c.if-ordered-files.false)
    (λ e. absurd (c.if-rest-eq0.false (ap length e))) (λ after two e. omega (arith, two, version, c.if-version-eq1.true)) (omega (arith, before))

pub returns-in_default-clause-err : goal.returns-in_default-clause-err
returns-in_default-clause-err c text head position version before at =
    bad_end text head position c.args.files.now c.args.rest.now at _ (whole_order c.args.files.now c.in_ok-ordered.ordered c.in_ok-ordered.ensures c.if-ordered-files.false)
    (λ e. second_version text head position c.args.files.now c.args.rest.now at (λ one. c.if-version-eq1.false (sym version ∙ one))) (λ after two e. c.in_default.ensures after e) (omega (arith, before))

pub returns-in-None-clause-ok : goal.returns-in-None-clause-ok
returns-in-None-clause-ok c text head position version at =
    let t = c.in_ok-append_tables.ensures in
    let wanted : c.as_slice.result.now ≡ flat_map ended (map table_line t.tables) = c.as_slice.ensures ∙ t.is ∙ ap (λ l. l ++ flat_map ended (map table_line t.tables)) c.new-wanted.ensures.bytes in
    whole_second text head position c.args.files.now c.args.rest.now at (second_version text head position c.args.files.now c.args.rest.now at (λ one. c.if-version-eq1.false (sym version ∙ one))) t.tables t.are c.in-Some.rest.now
    (whole_order c.args.files.now c.in_ok-ordered.ordered c.in_ok-ordered.ensures c.if-ordered-files.false) c.in-Some.ensures
    (c.in-None.ensures.lines (map table_line t.tables) (table_lines_clean c.args.files.now t.tables t.are) wanted ∙ wanted)

pub returns-clause-err : goal.returns-clause-err
returns-clause-err c text head position version before at =
    let t = c.in_ok-append_tables.ensures in
    let wanted : c.as_slice.result.now ≡ flat_map ended (map table_line t.tables) = c.as_slice.ensures ∙ t.is ∙ ap (λ l. l ++ flat_map ended (map table_line t.tables)) c.new-wanted.ensures.bytes in
    bad_tables text head position c.args.files.now c.args.rest.now at (second_version text head position c.args.files.now c.args.rest.now at (λ one. c.if-version-eq1.false (sym version ∙ one))) t.tables t.are c.in-Some.rest.now
    c.in-Some-other_line.count (c.args.before + length c.args.files.now + c.in-Some-other_line.count + 2) (whole_order c.args.files.now c.in_ok-ordered.ordered c.in_ok-ordered.ensures c.if-ordered-files.false) c.in-Some.ensures
    (c.in-Some-other_line.ensures.lines (map table_line t.tables) (table_lines_clean c.args.files.now t.tables t.are) wanted) (omega (arith, before))
