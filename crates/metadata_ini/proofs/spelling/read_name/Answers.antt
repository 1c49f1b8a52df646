use Rattle.std.proofs.Common.{subst, sym}
use Rattle.std.specs.Prelude.{IsUtf8}
use Rattle.metadata_ini.proofs.Spelled.{empty_spelt, no_utf8}
use Rattle.metadata_ini.proofs.spelling.read_name.Goals as goal

pub returns-then-text-eq0-clause-err : goal.returns-then-text-eq0-clause-err
returns-then-text-eq0-clause-err c = empty_spelt c.args.text.now c.if-text-eq0.true

pub returns-clause-err : goal.returns-clause-err
returns-clause-err c = no_utf8 c.args.text.now c.in_ok-bytes.bytes.items c.in_ok-bytes.ensures.ok (λ u. c.in-Err.ensures.cases.0 (subst IsUtf8 (sym c.as_slice.ensures.value) u))
