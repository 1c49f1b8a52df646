-- What a link tells, and what its calls do to it.
use Rattle.std.specs.Prelude.{◌≡◌, ◌↔◌, ◌<◌, ◌≤◌, ℕ, Bool, true, false, List, [], ◌∷◌, ◌++◌, length, take, Result, OnOk, OnErr, IfOk}

-- the messages that were sent, the bytes that wait, those that each next send makes wait, and whether the link has failed
pub record Told : Type 0 where
  pub sent : List (List ℕ)
  pub waiting : List ℕ
  pub coming : List (List ℕ)
  pub failed : Bool

-- the lists one after the other
abbrev pub concatenation : List (List ℕ) → List ℕ
concatenation [] = []
concatenation (list ∷ lists) = list ++ concatenation lists

-- all that the peer is still to say: what waits, and then what is still to come
abbrev pub stream : Told → List ℕ
stream told = told.waiting ++ concatenation told.coming

-- the first of the lists, or an empty one
abbrev pub first : List (List ℕ) → List ℕ
first [] = []
first (list ∷ lists) = list

-- the lists after the first
abbrev pub others : List (List ℕ) → List (List ℕ)
others [] = []
others (list ∷ lists) = lists

-- a link at its start: the first bytes of its conversation wait
abbrev pub told_at_start : List (List ℕ) → Told
told_at_start conversation =
    record { sent = []; waiting = first conversation; coming = others conversation; failed = false }

-- the message was sent, and the next bytes wait too
abbrev pub told_after_send : Told → List ℕ → Told
told_after_send old message = record {
  sent = old.sent ++ message ∷ [];
  waiting = old.waiting ++ first old.coming;
  coming = others old.coming;
  failed = false;
}

-- the link has failed, and nothing else has changed
abbrev pub told_after_failure : Told → Told
told_after_failure old = record old { failed = true }

-- a send is answered, or the link fails; one that has failed before fails again
pub record SendsAsTold {T E : Type 0} (old : Told) (message : List ℕ) (result : Result T E)
    (new : Told) : Type 0 where
  pub alive : OnOk result (old.failed ≡ false)
  pub ok : OnOk result (new ≡ told_after_send old message)
  pub err : OnErr result (new ≡ told_after_failure old)

-- so many bytes were taken off what waits
pub record TakesOffAsTold (old : Told) (buffer : List ℕ) (count : ℕ) (new : Told) : Type 0 where
  pub alive : old.failed ≡ false
  pub bytes : old.waiting ≡ take count buffer ++ new.waiting
  pub sent : new.sent ≡ old.sent
  pub coming : new.coming ≡ old.coming
  pub still_alive : new.failed ≡ false

-- bytes are taken off what waits, or the link fails; one that has failed before fails again
pub record ReceivesAsTold {E : Type 0} (old : Told) (buffer : List ℕ) (result : Result ℕ E)
    (new : Told) : Type 0 where
  pub ok : IfOk result (λ count. TakesOffAsTold old buffer count new)
  pub err : OnErr result (new ≡ told_after_failure old)

-- at least one byte was taken, and no more than there is room for
pub record IsWithin (room : List ℕ) (count : ℕ) : Type 0 where
  pub some : 0 < count
  pub fits : count ≤ length room

-- what a call of a link keeps: whether it is honest, and whether it tells what is said on it; and it stays a link of its site.
pub record StaysLink {L : Type 0} (honest tells : L → Type 0) (same_origin : L → L → Type 0)
    (old new : L) : Type 0 where
  pub still_honest : honest old ↔ honest new
  pub still_tells : tells old ↔ tells new
  pub origin : same_origin old new
