-- Texts that are cut at a byte: each is cut in one way.
use Rattle.std.proofs.Common.{◌≡◌, ◌≢◌, ℕ, zero, suc, ◌<◌, ◌≤◌, true, ◌==◌, List, [], ◌∷◌, ◌++◌, length, get_or, take, drop, refl, sym, ◌∙◌, ap, subst, arith, slice_index}
use Rattle.std.specs.List.{list_any}
use Rattle.std.proofs.lemmas.Bool.{or_parts, or_from, eqb-false, false_from_ne_true}
use Rattle.metadata_ini.specs.Cut.{FieldTexts, HasFields, HasNoFields, IsCut, Lacks}

lacks_head : (byte b : ℕ) (text : List ℕ) → Lacks byte (b ∷ text) → b ≢ byte
lacks_head byte b text h = eqb-false b byte (or_parts (b == byte) (list_any (λ o. o == byte) text) h).0

lacks_tail : (byte b : ℕ) (text : List ℕ) → Lacks byte (b ∷ text) → Lacks byte text
lacks_tail byte b text h = (or_parts (b == byte) (list_any (λ o. o == byte) text) h).1

head_of : (b c : ℕ) (r s : List ℕ) → b ∷ r ≡ c ∷ s → b ≡ c
head_of b c r s e = ap (λ l. get_or l 0 0) e

-- A cut text has one front.
pub same_cut : (byte : ℕ) (f g r s : List ℕ) → Lacks byte f → Lacks byte g → f ++ byte ∷ r ≡ g ++ byte ∷ s → (f ≡ g) × (r ≡ s)
same_cut byte [] [] r s h k e = (refl, ap (drop 1) e)
same_cut byte [] (c ∷ g) r s h k e = absurd (lacks_head byte c g k (sym (head_of byte c _ _ e)))
same_cut byte (c ∷ f) [] r s h k e = absurd (lacks_head byte c f h (head_of c byte _ _ e))
same_cut byte (c ∷ f) (d ∷ g) r s h k e =
    let rest = same_cut byte f g r s (lacks_tail byte c f h) (lacks_tail byte d g k) (ap (drop 1) e) in
    ((λ i. ap (λ l. get_or l 0 0) e i ∷ rest.0 i), rest.1)

pub lacks_all : (byte : ℕ) (text f r : List ℕ) → Lacks byte text → text ≢ f ++ byte ∷ r
lacks_all byte [] [] r h e = omega (arith, ap length e)
lacks_all byte [] (c ∷ f) r h e = omega (arith, ap length e)
lacks_all byte (b ∷ text) [] r h e = lacks_head byte b text h (head_of b byte _ _ e)
lacks_all byte (b ∷ text) (c ∷ f) r h e = lacks_all byte text f r (lacks_tail byte b text h) (ap (drop 1) e)

pub lacks_from_places : (byte : ℕ) (text : List ℕ) (n : ℕ) → n ≤ length text → ((k : ℕ) → k < n → (slice_index text k == byte) ≢ true) → Lacks byte (take n text)
lacks_from_places byte [] zero h p = refl
lacks_from_places byte [] (suc n) h p = absurd (omega arith)
lacks_from_places byte (b ∷ text) zero h p = refl
lacks_from_places byte (b ∷ text) (suc n) h p =
    or_from (b == byte) (list_any (λ o. o == byte) (take n text)) (false_from_ne_true (b == byte) (p 0 (omega arith))) (lacks_from_places byte text n (omega arith) (λ k low. p (suc k) (omega arith)))

-- a text up to its length is the whole
take_whole : (text : List ℕ) → take (length text) text ≡ text
take_whole [] = refl
take_whole (b ∷ text) = ap (λ l. b ∷ l) (take_whole text)

pub lacks_whole : (byte : ℕ) (text : List ℕ) → ((k : ℕ) → k < length text → (slice_index text k == byte) ≢ true) → Lacks byte text
lacks_whole byte text p = subst (Lacks byte) (take_whole text) (lacks_from_places byte text (length text) (omega arith) p)

drop_at : (byte : ℕ) (text : List ℕ) (at : ℕ) → at < length text → slice_index text at ≡ byte → text ≡ take at text ++ byte ∷ drop 1 (drop at text)
drop_at byte [] at h e = absurd (omega arith)
drop_at byte (b ∷ text) zero h e = ap (λ c. c ∷ text) e
drop_at byte (b ∷ text) (suc at) h e = ap (λ l. b ∷ l) (drop_at byte text at (omega arith) e)

pub cut_at : (byte : ℕ) (text front after : List ℕ) (at : ℕ) → at < length text → ((k : ℕ) → k < at → (slice_index text k == byte) ≢ true) → slice_index text at ≡ byte
    → front ≡ take at text → after ≡ drop 1 (drop at text) → IsCut byte text front after
cut_at byte text front after at low none there is rest = record {
  is = drop_at byte text at low there ∙ (λ i. sym is i ++ byte ∷ sym rest i);
  first = subst (Lacks byte) (sym is) (lacks_from_places byte text at (omega arith) none);
}

-- fields

-- what stands after so many of the fields
abbrev after_kind : FieldTexts → List ℕ
after_kind f = f.rows ++ 32 ∷ (f.bytes ++ 32 ∷ (f.digest ++ 32 ∷ f.name))

abbrev after_rows : FieldTexts → List ℕ
after_rows f = f.bytes ++ 32 ∷ (f.digest ++ 32 ∷ f.name)

abbrev after_bytes : FieldTexts → List ℕ
after_bytes f = f.digest ++ 32 ∷ f.name

first_cut : (text a r : List ℕ) (f : FieldTexts) → IsCut 32 text a r → HasFields text f → (a ≡ f.kind) × (r ≡ after_kind f)
first_cut text a r f c h = same_cut 32 a f.kind r (after_kind f) c.first h.kind_lacks (sym c.is ∙ h.is)

second_cut : (text a r b s : List ℕ) (f : FieldTexts) → IsCut 32 text a r → IsCut 32 r b s → HasFields text f → (b ≡ f.rows) × (s ≡ after_rows f)
second_cut text a r b s f c d h = same_cut 32 b f.rows s (after_rows f) d.first h.rows_lacks (sym d.is ∙ (first_cut text a r f c h).1)

third_cut : (text a r b s e t : List ℕ) (f : FieldTexts) → IsCut 32 text a r → IsCut 32 r b s → IsCut 32 s e t → HasFields text f → (e ≡ f.bytes) × (t ≡ after_bytes f)
third_cut text a r b s e t f c d g h = same_cut 32 e f.bytes t (after_bytes f) g.first h.bytes_lacks (sym g.is ∙ (second_cut text a r b s f c d h).1)

pub no_first : (text : List ℕ) → Lacks 32 text → HasNoFields text
no_first text lacks f h = lacks_all 32 text f.kind (after_kind f) lacks h.is

pub no_second : (text a r : List ℕ) → IsCut 32 text a r → Lacks 32 r → HasNoFields text
no_second text a r c lacks f h = lacks_all 32 r f.rows (after_rows f) lacks (first_cut text a r f c h).1

pub no_third : (text a r b s : List ℕ) → IsCut 32 text a r → IsCut 32 r b s → Lacks 32 s → HasNoFields text
no_third text a r b s c d lacks f h = lacks_all 32 s f.bytes (after_bytes f) lacks (second_cut text a r b s f c d h).1

pub no_fourth : (text a r b s e t : List ℕ) → IsCut 32 text a r → IsCut 32 r b s → IsCut 32 s e t → Lacks 32 t → HasNoFields text
no_fourth text a r b s e t c d g lacks f h = lacks_all 32 t f.digest f.name lacks (third_cut text a r b s e t f c d g h).1

-- two lists of fields of one text
pub record SameFields (f g : FieldTexts) : Type 0 where
  pub kind : f.kind ≡ g.kind
  pub rows : f.rows ≡ g.rows
  pub bytes : f.bytes ≡ g.bytes
  pub digest : f.digest ≡ g.digest
  pub name : f.name ≡ g.name

pub same_fields : (text : List ℕ) (f g : FieldTexts) → HasFields text f → HasFields text g → SameFields f g
same_fields text f g h k =
    let a = same_cut 32 f.kind g.kind (after_kind f) (after_kind g) h.kind_lacks k.kind_lacks (sym h.is ∙ k.is) in
    let b = same_cut 32 f.rows g.rows (after_rows f) (after_rows g) h.rows_lacks k.rows_lacks a.1 in
    let c = same_cut 32 f.bytes g.bytes (after_bytes f) (after_bytes g) h.bytes_lacks k.bytes_lacks b.1 in
    let d = same_cut 32 f.digest g.digest f.name g.name h.digest_lacks k.digest_lacks c.1 in
    record { kind = a.0; rows = b.0; bytes = c.0; digest = d.0; name = d.1 }
