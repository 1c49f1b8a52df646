-- What a step tells of its message.
use Rattle.std.proofs.Common.{◌≡◌, ℕ, ◌==◌, Bool, true, false, if◌then◌else◌, List, [], ◌∷◌, Option, Some, None, IsSome, refl, sym, ◌∙◌, ap, subst}
use Rattle.plain_data.specs.Cell.{Cell}
use Rattle.wire_forms.specs.Row.{cells_of}
use Rattle.wire_forms.specs.Reply.{refusal_of}
use Rattle.wire_forms.specs.Reading.{Reading, Further, definition, row, end, refused, garbled, definition_if, end_if, refused_if, row_if, is_before_rows, is_in_ends_place, is_end_packet, row_of, further_of, reading_after}
use Rattle.wire_forms.specs.declared.ends.Ends.{Ends}
use Rattle.wire_forms.specs.declared.refusal.Refusal.{Refusal}
use Rattle.result_rows.specs.Turns.{turn_kind}
use Rattle.result_rows.specs.declared.reader.TurnKind.{TurnKind}
use Rattle.result_rows.specs.declared.reader.TurnKind.TheVariants.{Definition as DefinitionKind, Row as RowKind, End as EndKind, Refused as RefusedKind, Garbled as GarbledKind}

-- what a step tells of the turn, of the refusal that the message spells, and of its cells
abbrev pub Tells : Option Refusal → Option (List Cell) → Further → TurnKind → Type 0
Tells refusal cells turn DefinitionKind = turn ≡ definition
Tells refusal cells turn RowKind = IsSome cells × ((found : List Cell) → cells ≡ Some found → turn ≡ row found)
Tells refusal cells turn EndKind = turn ≡ end
Tells refusal cells turn RefusedKind = IsSome refusal × ((found : Refusal) → refusal ≡ Some found → turn ≡ refused found)
Tells refusal cells turn GarbledKind = turn ≡ garbled

by_refusal : (refusal : Option Refusal) (cells : Option (List Cell)) → Tells refusal cells (refused_if refusal) (turn_kind (refused_if refusal))
by_refusal None cells = refl
by_refusal (Some refusal) cells = (refl, λ found is. cc)

by_cells : (refusal : Option Refusal) (cells : Option (List Cell)) → Tells refusal cells (row_if cells) (turn_kind (row_if cells))
by_cells refusal None = refl
by_cells refusal (Some cells) = (refl, λ found is. cc)

by_tests : (ends refuses is_end : Bool) (refusal : Option Refusal) (cells : Option (List Cell)) → Tells refusal cells (if ends then end_if is_end else (if refuses then refused_if refusal else row_if cells)) (turn_kind (if ends then end_if is_end else (if refuses then refused_if refusal else row_if cells)))
by_tests true refuses true refusal cells = refl
by_tests true refuses false refusal cells = refl
by_tests false true is_end refusal cells = by_refusal refusal cells
by_tests false false is_end refusal cells = by_cells refusal cells

in_rows : (ends : Ends) (columns : ℕ) (message : List ℕ) → Tells (refusal_of message) (cells_of columns message) (row_of ends columns message) (turn_kind (row_of ends columns message))
in_rows ends columns [] = refl
in_rows ends columns (byte ∷ bytes) = by_tests (is_in_ends_place ends (byte ∷ bytes)) (byte == 255) (is_end_packet ends (byte ∷ bytes)) (refusal_of (byte ∷ bytes)) (cells_of columns (byte ∷ bytes))

by_place : (in_place is : Bool) (refusal : Option Refusal) (cells : Option (List Cell)) (turn : Further) → Tells refusal cells turn (turn_kind turn) → Tells refusal cells (if in_place then turn else definition_if is) (turn_kind (if in_place then turn else definition_if is))
by_place true is refusal cells turn tells = tells
by_place false true refusal cells turn tells = refl
by_place false false refusal cells turn tells = refl

at_message : (reading : Reading) (message : List ℕ) → Tells (refusal_of message) (cells_of reading.columns message) (further_of reading message) (turn_kind (further_of reading message))
at_message reading message = by_place (reading.awaited == 0) (is_before_rows reading.ends reading.awaited message) (refusal_of message) (cells_of reading.columns message) (row_of reading.ends reading.columns message) (in_rows reading.ends reading.columns message)

-- a step tells what its message is
pub step_tells : (reading : Reading) (message : List ℕ) (step : TurnKind) → step ≡ turn_kind (further_of reading message) → Tells (refusal_of message) (cells_of reading.columns message) (further_of reading message) step
step_tells reading message step is = rw is (at_message reading message)

-- what stands where a row was found
pub record IsRowFound (reading : Reading) (message : List ℕ) : Type 0 where
  pub cells : List Cell
  pub cells_are : cells_of reading.columns message ≡ Some cells
  pub is : further_of reading message ≡ row cells

row_by : (reading : Reading) (message : List ℕ) (found : Option (List Cell)) → cells_of reading.columns message ≡ found → IsSome found → ((cells : List Cell) → cells_of reading.columns message ≡ Some cells → further_of reading message ≡ row cells) → IsRowFound reading message
row_by reading message None is there tells = let h : false ≡ true = there in absurd (cc)
row_by reading message (Some cells) is there tells = record { cells = cells; cells_are = is; is = tells cells is }

pub row_told : (reading : Reading) (message : List ℕ) → RowKind ≡ turn_kind (further_of reading message) → IsRowFound reading message
row_told reading message is =
    let tells = step_tells reading message RowKind is in
    row_by reading message (cells_of reading.columns message) refl tells.0 tells.1

-- what stands where an ERR was found
pub record IsRefusalFound (reading : Reading) (message : List ℕ) : Type 0 where
  pub refusal : Refusal
  pub refusal_is : refusal_of message ≡ Some refusal
  pub is : further_of reading message ≡ refused refusal

refusal_by : (reading : Reading) (message : List ℕ) (found : Option Refusal) → refusal_of message ≡ found → IsSome found → ((refusal : Refusal) → refusal_of message ≡ Some refusal → further_of reading message ≡ refused refusal) → IsRefusalFound reading message
refusal_by reading message None is there tells = let h : false ≡ true = there in absurd (cc)
refusal_by reading message (Some refusal) is there tells = record { refusal = refusal; refusal_is = is; is = tells refusal is }

pub refusal_told : (reading : Reading) (message : List ℕ) → RefusedKind ≡ turn_kind (further_of reading message) → IsRefusalFound reading message
refusal_told reading message is =
    let tells = step_tells reading message RefusedKind is in
    refusal_by reading message (refusal_of message) refl tells.0 tells.1

-- after a row the reader is where it was, so its columns are those of the row
pub row_found : (reading new : Reading) (message : List ℕ) → RowKind ≡ turn_kind (further_of reading message) → new ≡ reading_after reading (further_of reading message) → IsSome (cells_of new.columns message) × ((found : List Cell) → cells_of new.columns message ≡ Some found → further_of reading message ≡ row found)
row_found reading new message is after =
    let told = row_told reading message is in
    let same : new ≡ reading = after ∙ ap (λ (t : Further). reading_after reading t) told.is in
    subst (λ (r : Reading). IsSome (cells_of r.columns message) × ((found : List Cell) → cells_of r.columns message ≡ Some found → further_of reading message ≡ row found)) (sym same) (step_tells reading message RowKind is)

-- a refusal that was found is read
pub refusal_found : (reading : Reading) (message : List ℕ) (refusal : Refusal) → RefusedKind ≡ turn_kind (further_of reading message) → refusal_of message ≡ Some refusal → further_of reading message ≡ refused refusal
refusal_found reading message refusal is read = (step_tells reading message RefusedKind is).1 refusal read

-- and there is one
pub refusal_there : (reading : Reading) (message : List ℕ) → RefusedKind ≡ turn_kind (further_of reading message) → refusal_of message ≡ None → ⊥
refusal_there reading message is none = let told = (refusal_told reading message is).refusal_is in cc
