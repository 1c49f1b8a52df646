use Rattle.std.proofs.Common.{sym, ap, subst, length, Some}
use Rattle.metadata_ini.specs.Reading.{IsPosition}
use Rattle.metadata_ini.proofs.PositionFronts.{bad_fifth, bad_file, bad_offset, bad_gtid, bad_ninth, no_file, empty_file, position_found}
use Rattle.metadata_ini.proofs.positions.read_position.Goals as goal

pub returns-in_default-after_word-clause-err : goal.returns-in_default-after_word-clause-err
returns-in_default-after_word-clause-err c whole head h = bad_fifth whole head c.args.text.now h c.in_default.ensures c.in_default-after_word.ensures

pub returns-in_default-printable_line-clause-err : goal.returns-in_default-printable_line-clause-err
returns-in_default-printable_line-clause-err c whole head h =
    bad_file whole head c.args.text.now h c.in-Some-after_word.rest.now c.in-Some-after_word.ensures (no_file c.in-Some-after_word.rest.now c.in_default-printable_line.ensures)

pub returns-then-file-eq0-clause-err : goal.returns-then-file-eq0-clause-err
returns-then-file-eq0-clause-err c whole head h =
    bad_file whole head c.args.text.now h c.in-Some-after_word.rest.now c.in-Some-after_word.ensures (empty_file c.in-Some-after_word.rest.now c.in-Some-printable_line.file.now c.in-Some-printable_line.rest.now c.in-Some-printable_line.ensures c.if-file-eq0.true)

pub returns-in_default-number_line-clause-err : goal.returns-in_default-number_line-clause-err
returns-in_default-number_line-clause-err c whole head h =
    bad_offset whole head c.args.text.now h c.in-Some-after_word.rest.now c.in-Some-after_word.ensures c.in-Some-printable_line.file.now c.in-Some-printable_line.rest.now (λ e. c.if-file-eq0.false (ap length e)) c.in-Some-printable_line.ensures c.in_default-number_line.ensures

pub returns-in_default-printable_line-2-clause-err : goal.returns-in_default-printable_line-2-clause-err
returns-in_default-printable_line-2-clause-err c whole head h =
    bad_gtid whole head c.args.text.now h c.in-Some-after_word.rest.now c.in-Some-after_word.ensures c.in-Some-printable_line.file.now c.in-Some-printable_line.rest.now (λ e. c.if-file-eq0.false (ap length e)) c.in-Some-printable_line.ensures
    c.in-Some-number_line.offset c.in-Some-number_line.rest.now c.in-Some-number_line.ensures c.in_default-printable_line-2.ensures

pub returns-in_default-after_word-2-clause-err : goal.returns-in_default-after_word-2-clause-err
returns-in_default-after_word-2-clause-err c whole head h =
    bad_ninth whole head c.args.text.now h c.in-Some-after_word.rest.now c.in-Some-after_word.ensures c.in-Some-printable_line.file.now c.in-Some-printable_line.rest.now (λ e. c.if-file-eq0.false (ap length e)) c.in-Some-printable_line.ensures
    c.in-Some-number_line.offset c.in-Some-number_line.rest.now c.in-Some-number_line.ensures c.in-Some-printable_line-2.gtid.now c.in-Some-printable_line-2.rest.now c.in-Some-printable_line-2.ensures c.in_default-after_word-2.ensures

pub returns-clause-ok : goal.returns-clause-ok
returns-clause-ok c =
    subst (λ p. IsPosition c.args.text.now (Some p) c.in-Some-after_word-2.rest.now) (sym c.in_ok-position.ensures)
    (position_found c.args.text.now c.in-Some-after_word.rest.now c.in-Some-printable_line.rest.now c.in-Some-number_line.rest.now c.in-Some-printable_line-2.rest.now c.in-Some-after_word-2.rest.now c.in-Some-printable_line.file.now c.in-Some-printable_line-2.gtid.now c.in-Some-number_line.offset
    c.in-Some-after_word.ensures c.in-Some-printable_line.ensures (λ e. c.if-file-eq0.false (ap length e)) c.in-Some-number_line.ensures c.in-Some-printable_line-2.ensures c.in-Some-after_word-2.ensures)
