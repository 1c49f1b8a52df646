use Rattle.std.proofs.Common.{sym, ◌∙◌, ap, subst, arith}
use Rattle.folder_forms.specs.Metadata.{kind_word}
use Rattle.metadata_ini.specs.Line.{MayHaveRows}
use Rattle.metadata_ini.proofs.LineTexts.{no_fields_line, no_rows_line, no_bytes_line, no_digest_line, no_name_line, other_word_line, other_rows_line}
use Rattle.metadata_ini.proofs.file_lines.read_file_line.Goals as goal

pub returns-in_default : goal.returns-in_default
returns-in_default c = no_fields_line c.args.text.now c.in_default.ensures

pub returns-in_default-read_decimal : goal.returns-in_default-read_decimal
returns-in_default-read_decimal c = no_rows_line c.args.text.now _ c.in-Some.ensures c.in_default-read_decimal.ensures

pub returns-in_default-read_decimal-2 : goal.returns-in_default-read_decimal-2
returns-in_default-read_decimal-2 c = no_bytes_line c.args.text.now _ c.in-Some.ensures c.in_default-read_decimal-2.ensures

pub returns-in_default-read_digest : goal.returns-in_default-read_digest
returns-in_default-read_digest c = no_digest_line c.args.text.now _ c.in-Some.ensures c.in_default-read_digest.ensures

pub returns-in-Err-NotAName : goal.returns-in-Err-NotAName
returns-in-Err-NotAName c = no_name_line c.args.text.now _ c.in-Some.ensures (rw c.in-Err-NotAName.field-0-is at c.in-Err-NotAName.ensures.err)

pub returns-then-not-is_same : goal.returns-then-not-is_same
returns-then-not-is_same c =
    other_word_line c.args.text.now _ c.in-Some.ensures c.in-Ok.name c.in-Ok.ensures.ok
    (λ e. c.is_same.ensures.no c.if-not-is_same.true (e ∙ ap kind_word (sym c.kind-kind.ensures) ∙ sym c.kind_word.ensures))

pub returns-then-not-may_have_rows : goal.returns-then-not-may_have_rows
returns-then-not-may_have_rows c =
    other_rows_line c.args.text.now _ c.in-Some.ensures c.in-Ok.name c.in-Some-read_decimal.rows c.in-Ok.ensures.ok c.in-Some-read_decimal.ensures (omega arith)
    (λ may. c.may_have_rows.ensures.no c.if-not-may_have_rows.true (subst (λ k. MayHaveRows k c.in-Some-read_decimal.rows) (sym c.kind-kind.ensures) may))
