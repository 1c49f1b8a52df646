use Rattle.std.proofs.Common.{sym, ◌∙◌, ◌≡◌, true, refl, List, ℕ}
use Rattle.std.specs.List.{list_any}
use Rattle.std.specs.Borrow.{Bor}
use Rattle.clap.specs.Walk.{texts}
use Rattle.clap.proofs.WalkLemmas.{list_any-map}
use Rattle.command_words.specs.Entries.{is_empty_text}
use Rattle.command_words.proofs.entries.names_of.Goals as goal

pub returns-then-has_empty : goal.returns-then-has_empty
returns-then-has_empty c =
    let some : list_any is_empty_text (texts c.args.parts.now) ≡ true =
    sym (list_any-map is_empty_text (λ (part : Bor (List ℕ)). part.now) c.args.parts.now) ∙ (sym c.has_empty.ensures ∙ c.if-has_empty.true) in
    rw some refl
