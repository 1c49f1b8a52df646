use Rattle.std.proofs.Common.{refl, sym, subst}
use Rattle.metadata_ini.specs.Reading.{HasFiles}
use Rattle.metadata_ini.proofs.reading.read.Goals as goal

pub returns-in-Err-clause-err : goal.returns-in-Err-clause-err
returns-in-Err-clause-err c =
    c.in-Err.ensures.err c.args.text.now c.in_ok-head.head c.in_ok-position.position refl c.lines_before-before.ensures
    (record {
      middle = c.in_ok-head.rest.now;
      after = c.in_ok-position.rest.now;
      head_is = c.in_ok-head.ensures.ok;
      position_is = c.in_ok-position.ensures.ok;
      files_are = subst (λ f. HasFiles c.in_ok-position.rest.now f c.in_ok-files.rest.now) (sym c.as_slice.ensures) c.in_ok-files.ensures;
    })
