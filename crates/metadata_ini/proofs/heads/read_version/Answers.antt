use Rattle.std.proofs.Common.{arith}
use Rattle.metadata_ini.proofs.HeadFronts.{bad_first, bad_version, no_version_line, no_version_number, large_version, wrong_version}
use Rattle.metadata_ini.proofs.heads.read_version.Goals as goal

pub returns-in_default-clause-err : goal.returns-in_default-clause-err
returns-in_default-clause-err c = bad_first c.args.text.now c.in_default.ensures

pub returns-in_default-value_line-clause-err : goal.returns-in_default-value_line-clause-err
returns-in_default-value_line-clause-err c = bad_version c.args.text.now c.in-Some.rest.now c.in-Some.ensures (no_version_line c.in-Some.rest.now c.in_default-value_line.ensures)

pub returns-in_default-read_decimal-clause-err : goal.returns-in_default-read_decimal-clause-err
returns-in_default-read_decimal-clause-err c =
    bad_version c.args.text.now c.in-Some.rest.now c.in-Some.ensures (no_version_number c.in-Some.rest.now c.in-Some-value_line.value.now c.in-Some-value_line.rest.now c.in-Some-value_line.ensures c.in_default-read_decimal.ensures)

pub returns-then-version-clause-err : goal.returns-then-version-clause-err
returns-then-version-clause-err c =
    bad_version c.args.text.now c.in-Some.rest.now c.in-Some.ensures (large_version c.in-Some.rest.now c.in-Some-value_line.value.now c.in-Some-value_line.rest.now c.in-Some-read_decimal.version c.in-Some-value_line.ensures c.in-Some-read_decimal.ensures (omega arith) (omega arith))

pub returns-then-version-ne2-clause-err : goal.returns-then-version-ne2-clause-err
returns-then-version-ne2-clause-err c =
    wrong_version c.args.text.now c.in-Some.rest.now c.in-Some-value_line.value.now c.in-Some-value_line.rest.now c.in-Some-read_decimal.version c.in-Some.ensures c.in-Some-value_line.ensures c.in-Some-read_decimal.ensures (omega arith) c.if-version-ne1.true c.if-version-ne2.true
