use Rattle.std.proofs.Common.{◌≡◌, sym, true, subst}
use Rattle.clap.specs.Words.{App, is_simple_and_free}
use Rattle.command_words.proofs.Matching.{fails_as_meant, found_as_meant}
use Rattle.command_words.proofs.command.matches.Goals as goal

pub returns-in-Ok : goal.returns-in-Ok
returns-in-Ok c =
    let same = c.in_ok-command.ensures in
    let free = subst (λ (a : App). is_simple_and_free a ≡ true) (sym same) c.requires in
    found_as_meant _ _ _ c.in-Ok.found same c.requires (c.in-Ok.ensures.kinds free) c.in-Ok.ensures.matches

pub returns-in-Err : goal.returns-in-Err
returns-in-Err c =
    let same = c.in_ok-command.ensures in
    let free = subst (λ (a : App). is_simple_and_free a ≡ true) (sym same) c.requires in
    fails_as_meant _ _ _ c.in-Err.error c.fault_of.result same (c.in-Err.ensures.kinds free) (rw c.kind.ensures at c.fault_of.ensures)
