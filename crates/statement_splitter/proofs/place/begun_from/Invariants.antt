use Rattle.std.proofs.Common.{◌≡◌, ◌-◌, length}
use Rattle.splitter_forms.specs.Pieces.{last}
use Rattle.statement_splitter.specs.State.{unread_at, IsPlaceWithin}
use Rattle.statement_splitter.proofs.place.begun_from.Given as goal

abbrev pub invariant-pieces : goal.invariant-pieces
invariant-pieces l = record { same : last (unread_at l.bytes l.fn.place) ≡ last (unread_at l.bytes l.now); place : IsPlaceWithin l.bytes l.now }

abbrev pub decreases-pieces : goal.decreases-pieces
decreases-pieces l = length l.bytes - l.now.at
