-- What one step of a splitter does.
use Rattle.std.proofs.Common.{◌≡◌, ◌≢◌, ℕ, ◌<◌, ◌≤◌, List, [], None, refl, sym, ap, ◌∙◌, arith}
use Rattle.splitter_forms.specs.Pieces.{UnreadText, with_more, Piece, piece, unended, waiting, none, next, next_size, PassesLimit, GivesNone}
use Rattle.statement_splitter.specs.State.{unread_at, Finds, Stands, least}
use Rattle.statement_splitter.specs.declared.place.Found.{Found}
use Rattle.statement_splitter.specs.declared.place.Found.TheVariants.{Ended, Unended, Waiting, Nothing}
use Rattle.statement_splitter.specs.declared.place.Place.{Place}
use Rattle.statement_splitter.proofs.Nexts.{passes, stays_within, none_within, passes_onward, passes_back, ended_least, no_more}
use Rattle.statement_splitter.proofs.Wholes.{onward_now}

stands_long : (found : Found) (u : UnreadText) (scanned limit : ℕ) → Stands found u scanned → limit < least found scanned → PassesLimit limit u
stands_long (Ended size) u scanned limit stands long = passes u size limit (ended_least u size stands) long
stands_long Unended u scanned limit stands long = passes u scanned limit stands.1 long
stands_long Waiting u scanned limit stands long = absurd (omega arith)
stands_long Nothing u scanned limit stands long = absurd (omega arith)

nothing_more : (u : UnreadText) → next u ≡ none u → (more : List ℕ) × (next_size (next (with_more more u)) ≡ None)
nothing_more u is = ([], ap (λ v. next_size (next v)) (no_more u) ∙ ap next_size is)

stands_short : (found : Found) (u : UnreadText) (scanned limit : ℕ) → Stands found u scanned → least found scanned ≤ limit → ¬ PassesLimit limit u
stands_short (Ended size) u scanned limit stands short = stays_within u size limit (ended_least u size stands) short
stands_short Unended u scanned limit stands short = stays_within u scanned limit stands.1 short
stands_short Waiting u scanned limit stands short = none_within u limit stands.1
stands_short Nothing u scanned limit stands short = none_within u limit (nothing_more u stands)

no_piece_here : (found : Found) (u : UnreadText) (scanned : ℕ) → Stands found u scanned → ((size : ℕ) → found ≢ Ended size) → (statement : Piece) (v : UnreadText) → next u ≢ piece statement v
no_piece_here (Ended size) u scanned stands other statement v is = absurd (other size refl)
no_piece_here Unended u scanned stands other statement v is = let e : unended u ≡ piece statement v = sym stands.0 ∙ is in cc
no_piece_here Waiting u scanned stands other statement v is = let e : waiting u ≡ piece statement v = sym stands.0 ∙ is in cc
no_piece_here Nothing u scanned stands other statement v is = let e : none u ≡ piece statement v = sym stands ∙ is in cc

module _ (bytes : List ℕ) (old : Place) (found : Found) (new : Place) (finds : Finds bytes old found new) (limit : ℕ) where
  pub finds_long : limit < least found new.scanned → PassesLimit limit (unread_at bytes old)
  finds_long long = passes_onward (unread_at bytes old) (unread_at bytes new) limit finds.onward (stands_long found (unread_at bytes new) new.scanned limit finds.stands long)

  pub finds_short : least found new.scanned ≤ limit → ¬ PassesLimit limit (unread_at bytes old)
  finds_short short long = stands_short found (unread_at bytes new) new.scanned limit finds.stands short (passes_back (unread_at bytes old) (unread_at bytes new) limit finds.onward long)

  pub finds_none : ((size : ℕ) → found ≢ Ended size) → GivesNone (unread_at bytes old) (unread_at bytes new)
  finds_none other = record {
    no_piece = λ statement v is. no_piece_here found (unread_at bytes new) new.scanned finds.stands other statement v (sym (onward_now (unread_at bytes old) (unread_at bytes new) finds.onward) ∙ is);
    same = finds.onward;
  }
