use Rattle.std.proofs.Common.{◌≡◌, ℕ, ◌+◌, ◌-◌, ◌≤◌, List, length}
use Rattle.splitter_forms.specs.Pieces.{next, with_more}
use Rattle.statement_splitter.specs.State.{unread_at, IsPlaceWithin}
use Rattle.statement_splitter.proofs.place.find.Given as goal

abbrev pub invariant-turns : goal.invariant-turns
invariant-turns l = record { onward : (more : List ℕ) → next (with_more more (unread_at l.bytes l.fn.place)) ≡ next (with_more more (unread_at l.bytes l.place)); low : l.fn.place.at ≤ l.place.at; even : l.place.offset + l.fn.place.at ≡ l.fn.place.offset + l.place.at; place : IsPlaceWithin l.bytes l.place }

abbrev pub decreases-turns : goal.decreases-turns
decreases-turns l = length l.bytes - l.place.at
