-- Reading shapes: slot by slot, and which parts a text of a shape has.
use Rattle.std.proofs.Common.{◌≡◌, ◌≢◌, ℕ, suc, ◌+◌, ◌-◌, ◌<◌, ◌≤◌, inl, inr, ◌&&◌, Bool, true, false, List, [], ◌∷◌, ◌++◌, length, take, drop, get_or, refl, sym, ◌∙◌, ap, subst, arith, drop-cons, add-one, length-append, Result, Ok, Err}
use Rattle.std.proofs.lemmas.List.{take-append-drop, drop-drop, drop_all, get_or-map, length-map}
use Rattle.grammar.specs.Language.{Language, Begins, Reads, Refused, Fixed, Next, Nothing}
use Rattle.grammar.proofs.Empty.{no_empty_fixed, begins_fixed, begins_next}
use Rattle.grammar.proofs.Onward.{Onward, onward_start, onward_next, onward_next_broken, onward_done}
use Rattle.grammar.proofs.Places.{reads_rest}
use Rattle.grammar.proofs.Rows.{NextApart}
use Rattle.grammar.proofs.Sets.{Starts, Lengthens, next_apart_free, next_apart_by, starts_fixed, starts_next, lengthens_fixed, lengthens_wider}
use Rattle.grammar.proofs.Wholes.{refused_more, refused_broken}
use Rattle.statement_reading.specs.Parts.{part_language}
use Rattle.statement_reading.specs.Slots.{place_of, places, slot_language, parts_with, Shaped, HasParts, ends_part, ends_with, ends_before, is_clear, part_count}
use Rattle.statement_reading.specs.declared.reading.kind.PartKind.{PartKind}
use Rattle.statement_reading.specs.declared.reading.kind.PartKind.TheVariants.{Name, NameList, Keys, TextLiteral, Digest, Count, Bound, Bounds}
use Rattle.statement_reading.specs.Slots.{Place}
use Rattle.statement_reading.specs.declared.reading.slot.Slot.{Slot}
use Rattle.statement_reading.specs.Slots.Place.{word, part, again}
use Rattle.statement_reading.proofs.Divisions.{one_cut}
use Rattle.statement_reading.proofs.NameReads.{begins_name, begins_names, begins_keys, lengthens_name, lengthens_names, lengthens_keys}
use Rattle.statement_reading.proofs.TextReads.{begins_text, lengthens_text}
use Rattle.statement_reading.proofs.DigestReads.{nothing_begun, begins_digest, lengthens_digest}
use Rattle.statement_reading.proofs.BoundReads.{begins_bounds, lengthens_bounds}
use Rattle.statement_reading.proofs.NumberReads.{begins_count, begins_bound, lengthens_count, lengthens_bound}

-- Each kind of part has texts.
begins_part : (kind : PartKind) (before : List (List ℕ)) → Begins (part_language kind before) []
begins_part Name before = begins_name
begins_part NameList before = begins_names
begins_part Keys before = begins_keys
begins_part TextLiteral before = begins_text
begins_part Digest before = begins_digest
begins_part Count before = begins_count
begins_part Bound before = begins_bound
begins_part (Bounds index) before = begins_bounds _

begins_slot : (slot : Place) (before : List (List ℕ)) → Begins (slot_language slot before) []
begins_slot (word bytes) before = begins_fixed _
begins_slot (part kind) before = begins_part kind before
begins_slot (again index) before = begins_fixed _

-- Each shape has texts.
pub begins_shaped : (slots : List Place) (before : List (List ℕ)) → Begins (Shaped slots before) []
unfolding Shaped
begins_shaped [] before = nothing_begun
begins_shaped (slot ∷ slots) before = begins_next _ _ (begins_slot slot before) (λ a text. begins_shaped slots (parts_with slot before a))

-- What lengthens a part doesn't end it.
lengthens_kind : (kind : PartKind) (before : List (List ℕ)) → Lengthens (part_language kind before) (λ c. ends_part kind c ≡ false)
lengthens_kind Name before = lengthens_wider _ _ _ (λ c is. rw is refl) lengthens_name
lengthens_kind NameList before = lengthens_wider _ _ _ (λ c is. elim is [ inl quote ↦ rw quote refl | inr comma ↦ rw comma refl ]) lengthens_names
lengthens_kind Keys before = lengthens_wider _ _ _ (λ c is. elim is [ inl quote ↦ rw quote refl | inr comma ↦ rw comma refl ]) lengthens_keys
lengthens_kind TextLiteral before = lengthens_text _
lengthens_kind Digest before = lengthens_digest _
lengthens_kind Count before = lengthens_wider _ _ _ (λ c digit. rw digit refl) lengthens_count
lengthens_kind Bound before = lengthens_wider _ _ _ (λ c digit. rw digit refl) lengthens_bound
lengthens_kind (Bounds index) before = lengthens_wider _ _ _ (λ c is. elim is [ inl digit ↦ rw digit refl | inr comma ↦ rw comma refl ]) (lengthens_bounds _)

apart_nothing : (A : Language) → NextApart A (λ _. Nothing)
unfolding NextApart Nothing
apart_nothing A x c y text next begins = cc

starts_word : (b : ℕ) (r : List ℕ) (B : List ℕ → Language) → Starts (Next (Fixed (b ∷ r)) B) (λ c. c ≡ b)
starts_word b r B = starts_next (Fixed (b ∷ r)) B _ (no_empty_fixed b r) (starts_fixed b r)

both : (a b : Bool) → (a && b) ≡ true → (a ≡ true) × (b ≡ true)
both true true e = (refl, refl)
both true false e = cc
both false b e = cc

starts_apart : (kind : PartKind) (before : List (List ℕ)) (w : List ℕ) (B : List ℕ → List ℕ → Language) → (w ≡ [] → ⊥) → ((b : ℕ) (r : List ℕ) → w ≡ b ∷ r → ends_part kind b ≡ true) → NextApart (part_language kind before) (λ a. Next (Fixed w) (B a))
starts_apart kind before [] B some ends = absurd (some refl)
starts_apart kind before (b ∷ w) B some ends = next_apart_by _ _ _ _ (lengthens_kind kind before) (λ a text. starts_word b w (B a)) (λ c lengthens is. let end : ends_part kind c ≡ true = subst (λ x. ends_part kind x ≡ true) (sym is) (ends b w refl) in cc)

word_apart : (kind : PartKind) (before : List (List ℕ)) (w : List ℕ) (B : List ℕ → List ℕ → Language) → ends_with kind w ≡ true → NextApart (part_language kind before) (λ a. Next (Fixed w) (B a))
word_apart TextLiteral before w B ends = next_apart_free _ _ (lengthens_text _)
word_apart Digest before w B ends = next_apart_free _ _ (lengthens_digest _)
word_apart Name before [] B ends = cc
word_apart Name before (b ∷ w) B ends = starts_apart Name before (b ∷ w) B (λ e. cc) (λ c r e. let head : b ≡ c = cc in subst (λ x. ends_part Name x ≡ true) head ends)
word_apart NameList before [] B ends = cc
word_apart NameList before (b ∷ w) B ends = starts_apart NameList before (b ∷ w) B (λ e. cc) (λ c r e. let head : b ≡ c = cc in subst (λ x. ends_part NameList x ≡ true) head ends)
word_apart Keys before [] B ends = cc
word_apart Keys before (b ∷ w) B ends = starts_apart Keys before (b ∷ w) B (λ e. cc) (λ c r e. let head : b ≡ c = cc in subst (λ x. ends_part Keys x ≡ true) head ends)
word_apart Count before [] B ends = cc
word_apart Count before (b ∷ w) B ends = starts_apart Count before (b ∷ w) B (λ e. cc) (λ c r e. let head : b ≡ c = cc in subst (λ x. ends_part Count x ≡ true) head ends)
word_apart Bound before [] B ends = cc
word_apart Bound before (b ∷ w) B ends = starts_apart Bound before (b ∷ w) B (λ e. cc) (λ c r e. let head : b ≡ c = cc in subst (λ x. ends_part Bound x ≡ true) head ends)
word_apart (Bounds index) before [] B ends = cc
word_apart (Bounds index) before (b ∷ w) B ends = starts_apart (Bounds index) before (b ∷ w) B (λ e. cc) (λ c r e. let head : b ≡ c = cc in subst (λ x. ends_part (Bounds index) x ≡ true) head ends)

part_apart : (kind : PartKind) (slots : List Place) (before : List (List ℕ)) → ends_before kind slots ≡ true → NextApart (part_language kind before) (λ a. Shaped slots (before ++ a ∷ []))
unfolding Shaped
part_apart kind [] before ends = apart_nothing _
part_apart kind (part other ∷ slots) before ends = cc
part_apart kind (again index ∷ slots) before ends = cc
part_apart kind (word bytes ∷ slots) before ends = word_apart kind before bytes (λ a t. Shaped slots (before ++ a ∷ [])) ends

-- What a slot takes ends where what follows it begins.
slot_apart : (slot : Place) (slots : List Place) (before : List (List ℕ)) → is_clear (slot ∷ slots) ≡ true → NextApart (slot_language slot before) (λ a. Shaped slots (parts_with slot before a))
slot_apart (word bytes) slots before clear = next_apart_free _ _ (lengthens_fixed _ _)
slot_apart (part kind) slots before clear = part_apart kind slots before (both _ _ clear).0
slot_apart (again index) slots before clear = next_apart_free _ _ (lengthens_fixed _ _)

clear_after : (slot : Place) (slots : List Place) → is_clear (slot ∷ slots) ≡ true → is_clear slots ≡ true
clear_after (word bytes) slots clear = clear
clear_after (part kind) slots clear = (both _ _ clear).1
clear_after (again index) slots clear = clear

-- Bytes with parts have the shape.
pub shaped_of : (slots : List Place) (before parts : List (List ℕ)) (t : List ℕ) → HasParts slots before parts t → Shaped slots before t
unfolding Shaped HasParts Next Nothing
shaped_of [] before parts t (e, is) = e
shaped_of (slot ∷ slots) before parts t (a, b, e, first, rest) = (a, b, e, first, shaped_of slots (parts_with slot before a) parts b rest)

-- Bytes of the shape have parts.
pub parts_of : (slots : List Place) (before : List (List ℕ)) (t : List ℕ) → Shaped slots before t → (parts : List (List ℕ)) × HasParts slots before parts t
unfolding Shaped HasParts Next Nothing
parts_of [] before t e = (before, (e, refl))
parts_of (slot ∷ slots) before t (a, b, e, first, rest) = let (parts, there) = parts_of slots (parts_with slot before a) b rest in (parts, (a, b, e, first, there))

-- The parts of a text of a shape are determined.
pub one_parts : (slots : List Place) (before x y : List (List ℕ)) (t : List ℕ) → is_clear slots ≡ true → HasParts slots before x t → HasParts slots before y t → x ≡ y
unfolding HasParts
one_parts [] before x y t clear (e, one) (f, other) = one ∙ sym other
one_parts (slot ∷ slots) before x y t clear (a, b, e, first, rest) (c, d, f, other, more) =
    let cut = one_cut (slot_language slot before) (λ w. Shaped slots (parts_with slot before w)) a b c d (slot_apart slot slots before clear) first other (shaped_of slots _ x b rest) (shaped_of slots _ y d more) (sym e ∙ f) in
    one_parts slots (parts_with slot before a) x y b (clear_after slot slots clear) rest
    (subst (λ w. HasParts slots (parts_with slot before w) y b) (sym cut.0) (subst (HasParts slots (parts_with slot before c) y) (sym cut.1) more))

-- reading

-- what is left after `at` bytes and i slots
pub record Along (slots : List Place) (i : ℕ) (parts : List (List ℕ)) (text : List ℕ) (at : ℕ) : Type 0 where
  pub onward : Onward (Shaped slots []) (Shaped (drop i slots) parts) text at
  pub back : (all : List (List ℕ)) → HasParts (drop i slots) parts all (drop at text) → HasParts slots [] all text
  pub clear : is_clear (drop i slots) ≡ true
  pub few : length parts + part_count (drop i slots) ≤ 6

pub along_start : (slots : List Place) (text : List ℕ) → is_clear slots ≡ true → part_count slots ≤ 6 → Along slots 0 [] text 0
along_start slots text clear few = record { onward = onward_start _ text; back = λ all parts. parts; clear = clear; few = omega arith }

slots_at : (slots : List Slot) (i : ℕ) (d : Slot) → i < length slots → drop i (places slots) ≡ place_of (get_or slots i d) ∷ drop (i + 1) (places slots)
slots_at slots i d within =
    drop-cons (places slots) i (place_of d) (omega (arith, length-map slots place_of)) ∙ ap (λ s. s ∷ drop (suc i) (places slots)) (get_or-map place_of slots i d (place_of d) within) ∙ ap (λ k. place_of (get_or slots i d) ∷ drop k (places slots)) (sym (add-one i))

-- how many parts a slot adds
parts_length : (slot : Place) (slots : List Place) (parts : List (List ℕ)) (text : List ℕ) → length (parts_with slot parts text) + part_count slots ≡ length parts + part_count (slot ∷ slots)
parts_length (word bytes) slots parts text = refl
parts_length (part kind) slots parts text = omega (arith, length-append parts (text ∷ []))
parts_length (again index) slots parts text = refl

pub along_few : (slots : List Slot) (i : ℕ) (d : Slot) (parts : List (List ℕ)) (text : List ℕ) (at : ℕ) (a : List ℕ) → i < length slots → Along (places slots) i parts text at → length (parts_with (place_of (get_or slots i d)) parts a) ≤ 6
along_few slots i d parts text at a within along =
    omega (arith, along.few, ap part_count (slots_at slots i d within), parts_length (place_of (get_or slots i d)) (drop (i + 1) (places slots)) parts a)

-- One more slot is read.
pub along_more : (slots : List Slot) (i : ℕ) (d : Slot) (parts : List (List ℕ)) (text : List ℕ) (at k : ℕ) (r : Result ℕ ℕ) → i < length slots → Along (places slots) i parts text at → Reads (slot_language (place_of (get_or slots i d)) parts) (take (length text - at) (drop at text)) r → r ≡ Ok k → Along (places slots) (i + 1) (parts_with (place_of (get_or slots i d)) parts (take k (drop at text))) text (at + k)
unfolding Shaped HasParts
along_more slots i d parts text at k r within along reads was =
    let slot : Place = place_of (get_or slots i d) in
    let rest : List Place = drop (i + 1) (places slots) in
    let split : drop i (places slots) ≡ slot ∷ rest = slots_at slots i d within in
    let clear : is_clear (slot ∷ rest) ≡ true = subst (λ l. is_clear l ≡ true) split along.clear in
    let whole : Reads (slot_language slot parts) (drop at text) (Ok k) = reads_rest _ text at r (Ok k) reads was in
    let left : Onward (Shaped (places slots) []) (Shaped (slot ∷ rest) parts) text at = subst (λ l. Onward (Shaped (places slots) []) (Shaped l parts) text at) split along.onward in
    record {
      onward = onward_next (Shaped (places slots) []) (slot_language slot parts) (λ a. Shaped rest (parts_with slot parts a)) text at k r left (slot_apart slot rest parts clear) reads was;
      back = λ all there. along.back all (subst (λ l. HasParts l parts all (drop at text)) (sym split)
          (take k (drop at text), drop k (drop at text), sym (take-append-drop k (drop at text)), whole.text, subst (HasParts rest (parts_with slot parts (take k (drop at text))) all) (sym (drop-drop k at text)) there));
      clear = clear_after slot rest clear;
      few = omega (arith, along.few, ap part_count split, parts_length slot rest parts (take k (drop at text)));
    }

-- A slot is refused, and with it the text.
pub along_broken : (slots : List Slot) (i : ℕ) (d : Slot) (parts : List (List ℕ)) (text : List ℕ) (at p : ℕ) (r : Result ℕ ℕ) → i < length slots → Along (places slots) i parts text at → Reads (slot_language (place_of (get_or slots i d)) parts) (take (length text - at) (drop at text)) r → r ≡ Err p → Refused (Shaped (places slots) []) text (at + p)
unfolding Shaped
along_broken slots i d parts text at p r within along reads was =
    let slot : Place = place_of (get_or slots i d) in
    let rest : List Place = drop (i + 1) (places slots) in
    let split : drop i (places slots) ≡ slot ∷ rest = slots_at slots i d within in
    let clear : is_clear (slot ∷ rest) ≡ true = subst (λ l. is_clear l ≡ true) split along.clear in
    let left : Onward (Shaped (places slots) []) (Shaped (slot ∷ rest) parts) text at = subst (λ l. Onward (Shaped (places slots) []) (Shaped l parts) text at) split along.onward in
    refused_broken _ text (at + p) (onward_next_broken (Shaped (places slots) []) (slot_language slot parts) (λ a. Shaped rest (parts_with slot parts a)) text at p r left (slot_apart slot rest parts clear) (λ a there. begins_shaped rest _) reads was)

-- All slots are read, to the end of the text.
pub along_all : (slots : List Slot) (i : ℕ) (parts : List (List ℕ)) (text : List ℕ) (at : ℕ) → i ≡ length slots → at ≡ length text → Along (places slots) i parts text at → HasParts (places slots) [] parts text
unfolding HasParts
along_all slots i parts text at end all along =
    along.back parts (subst (λ l. HasParts l parts parts (drop at text)) (sym (drop_all i (places slots) (omega (arith, length-map slots place_of)))) (drop_all at text (omega arith), refl))

-- All slots are read, and more follows.
pub along_less : (slots : List Slot) (i : ℕ) (parts : List (List ℕ)) (text : List ℕ) (at : ℕ) → i ≡ length slots → at ≢ length text → Along (places slots) i parts text at → Refused (Shaped (places slots) []) text at
unfolding Shaped
along_less slots i parts text at end less along =
    refused_more _ text at (onward_done _ text at (subst (λ l. Onward (Shaped (places slots) []) (Shaped l parts) text at) (drop_all i (places slots) (omega (arith, length-map slots place_of))) along.onward)) less
