-- Shapes of texts: words and parts in a row.
use Rattle.std.specs.Prelude.{◌≡◌, ℕ, suc, ◌&&◌, ◌==◌, if◌then◌else◌, Bool, true, false, List, [], ◌∷◌, ◌++◌, map}
use Rattle.std.specs.List.{slice_index_or}
use Rattle.grammar.specs.Language.{Language, Fixed, Next, Nothing}
use Rattle.statement_reading.specs.Parts.{part_language, is_decimal_digit}
use Rattle.statement_reading.specs.declared.reading.kind.PartKind.{PartKind}
use Rattle.statement_reading.specs.declared.reading.kind.PartKind.TheVariants.{Name, NameList, Keys, TextLiteral, Digest, Count, Bound, Bounds}
use Rattle.statement_reading.specs.declared.reading.slot.Slot.{Slot}
use Rattle.statement_reading.specs.declared.reading.slot.Slot.TheVariants.{Word, Part, Again}

-- a slot of a shape
pub data Place : Type 0 where
  -- these bytes
  word : List ℕ → Place
  -- a part of this kind
  part : PartKind → Place
  -- the same bytes as the part of this index
  again : ℕ → Place

-- the slot that the code declares, as a place of a shape
abbrev pub place_of : Slot → Place
place_of (Word bytes) = word bytes.now
place_of (Part kind) = part kind
place_of (Again index) = again index

-- slots as the places of a shape, in order
abbrev pub places : List Slot → List Place
places slots = map place_of slots

-- what may stand in a slot after the parts before it
abbrev pub slot_language : Place → List (List ℕ) → Language
slot_language (word bytes) before = Fixed bytes
slot_language (part kind) before = part_language kind before
slot_language (again index) before = Fixed (slice_index_or before index [])

-- the parts with that of one more slot
abbrev pub parts_with : Place → List (List ℕ) → List ℕ → List (List ℕ)
parts_with (word bytes) before text = before
parts_with (part kind) before text = before ++ text ∷ []
parts_with (again index) before text = before

-- what stands in slots one after another, after the parts before them
unfoldable pub Shaped : List Place → List (List ℕ) → Language
Shaped [] before = Nothing
Shaped (slot ∷ slots) before =
    Next (slot_language slot before) (λ text. Shaped slots (parts_with slot before text))

-- the bytes have the shape, and these are all parts, with those before
unfoldable pub HasParts : List Place → List (List ℕ) → List (List ℕ) → Language
HasParts [] before parts text = (text ≡ []) × (parts ≡ before)
HasParts (slot ∷ slots) before parts text =
    (a : List ℕ) × (b : List ℕ) × (text ≡ a ++ b) × slot_language slot before a
    × HasParts slots (parts_with slot before a) parts b

-- the byte doesn't lengthen a part of that kind
abbrev pub ends_part : PartKind → ℕ → Bool
ends_part Name byte = if byte == 96 then false else true
ends_part NameList byte = if byte == 96 then false else (if byte == 44 then false else true)
ends_part Keys byte = if byte == 96 then false else (if byte == 44 then false else true)
ends_part TextLiteral byte = true
ends_part Digest byte = true
ends_part Count byte = if is_decimal_digit byte then false else true
ends_part Bound byte = if is_decimal_digit byte then false else true
ends_part (Bounds index) byte =
    if is_decimal_digit byte then false else (if byte == 44 then false else true)

-- nothing lengthens the part before the word, or the word has a first byte, which doesn't
abbrev pub ends_with : PartKind → List ℕ → Bool
ends_with TextLiteral bytes = true
ends_with Digest bytes = true
ends_with kind [] = false
ends_with kind (byte ∷ bytes) = ends_part kind byte

-- the first slot, if any, is a word that ends the part before it
abbrev pub ends_before : PartKind → List Place → Bool
ends_before kind [] = true
ends_before kind (word bytes ∷ slots) = ends_with kind bytes
ends_before kind (slot ∷ slots) = false

-- each part ends where what follows begins
abbrev pub is_clear : List Place → Bool
is_clear [] = true
is_clear (part kind ∷ slots) = ends_before kind slots && is_clear slots
is_clear (slot ∷ slots) = is_clear slots

-- the kinds of the parts
abbrev pub kinds : List Place → List PartKind
kinds [] = []
kinds (part kind ∷ slots) = kind ∷ kinds slots
kinds (slot ∷ slots) = kinds slots

-- how many parts there are
abbrev pub part_count : List Place → ℕ
part_count [] = 0
part_count (part kind ∷ slots) = suc (part_count slots)
part_count (slot ∷ slots) = part_count slots
