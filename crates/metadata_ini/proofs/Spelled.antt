-- Names as they are spelled in names of files: each spelling is of one name.
use Rattle.std.proofs.Common.{◌≡◌, ℕ, ◌+◌, ◌/◌, ◌%◌, ◌<◌, Bool, true, false, cond, List, [], ◌∷◌, ◌++◌, length, get_or, drop, refl, sym, ◌∙◌, ap, subst, arith, append_assoc, append-nil, nat_lt, inl, inr}
use Rattle.std.proofs.lemmas.Bool.{and_parts, ltb-true, ltb-false}
use lib.Dec.{ltb}
use Rattle.std.specs.Prelude.{IsUtf8}
use lib.Utf8.{encode, encodes, scalar, scalars, scalar_cases}
use Rattle.server_data.specs.Names.{escaped_name, file_name_byte, lower_digit, stands_as_it_is}
use Rattle.metadata_ini.specs.Fault.{IsNoName}
use Rattle.metadata_ini.specs.declared.fault.NameFault.{NameFault}
use Rattle.metadata_ini.specs.declared.fault.NameFault.TheVariants.{NotAName, OutOfMemory}
use Rattle.metadata_ini.specs.Spelling.{AreBytes, IsNoFront, SpellsNone, SpellsNoName}

-- digits

lower_by : (a b : ℕ) (s t : Bool) → nat_lt a 10 ≡ s → nat_lt b 10 ≡ t → cond s (a + 48) (a + 87) ≡ cond t (b + 48) (b + 87) → a ≡ b
lower_by a b true true p q e = omega arith
lower_by a b true false p q e = omega (arith, ltb-true a 10 p, ltb-false b 10 q)
lower_by a b false true p q e = omega (arith, ltb-false a 10 p, ltb-true b 10 q)
lower_by a b false false p q e = omega arith

lower_same : (a b : ℕ) → lower_digit a ≡ lower_digit b → a ≡ b
lower_same a b e = lower_by a b (nat_lt a 10) (nat_lt b 10) refl refl e

-- bytes

abbrev escaped : ℕ → List ℕ
escaped b = 64 ∷ lower_digit (b / 16) ∷ lower_digit (b % 16) ∷ []

no_at : (b : ℕ) → stands_as_it_is b ≡ true → b ≡ 64 → ⊥
no_at b stands is = cc (sym stands ∙ ap stands_as_it_is is)

whole_byte : (b c : ℕ) → b / 16 ≡ c / 16 → b % 16 ≡ c % 16 → b ≡ c
whole_byte b c p q = omega (arith, p, q)

front_by : (b c : ℕ) (x y : List ℕ) (s t : Bool) → stands_as_it_is b ≡ s → stands_as_it_is c ≡ t
    → cond s (b ∷ []) (escaped b) ++ x ≡ cond t (c ∷ []) (escaped c) ++ y → (b ≡ c) × (x ≡ y)
front_by b c x y true true p q e = (ap (λ l. get_or l 0 0) e, ap (drop 1) e)
front_by b c x y true false p q e = absurd (no_at b p (ap (λ l. get_or l 0 0) e))
front_by b c x y false true p q e = absurd (no_at c q (sym (ap (λ l. get_or l 0 0) e)))
front_by b c x y false false p q e =
    (whole_byte b c (lower_same _ _ (ap (λ l. get_or l 1 0) e)) (lower_same _ _ (ap (λ l. get_or l 2 0) e)), ap (drop 3) e)

pub front_same : (b c : ℕ) (x y : List ℕ) → file_name_byte b ++ x ≡ file_name_byte c ++ y → (b ≡ c) × (x ≡ y)
front_same b c x y e = front_by b c x y (stands_as_it_is b) (stands_as_it_is c) refl refl e

some_by : (b : ℕ) (x : List ℕ) (s : Bool) → cond s (b ∷ []) (escaped b) ++ x ≡ [] → ⊥
some_by b x true e = omega (arith, ap length e)
some_by b x false e = omega (arith, ap length e)

some_byte : (b : ℕ) (x : List ℕ) → file_name_byte b ++ x ≡ [] → ⊥
some_byte b x e = some_by b x (stands_as_it_is b) e

-- names

split : (made bytes rest : List ℕ) → escaped_name bytes ≡ escaped_name made ++ rest
    → (more : List ℕ) × (bytes ≡ made ++ more) × (escaped_name more ≡ rest)
split [] bytes rest e = (bytes, refl, e)
split (m ∷ made) [] rest e = absurd (some_byte m (escaped_name made ++ rest) (sym (append_assoc (file_name_byte m) (escaped_name made) rest) ∙ sym e))
split (m ∷ made) (c ∷ bytes) rest e =
    let same = front_same c m (escaped_name bytes) (escaped_name made ++ rest) (e ∙ append_assoc (file_name_byte m) (escaped_name made) rest) in
    let (more, is, rest_is) = split made bytes rest same.1 in
    (more, (λ i. same.0 i ∷ is i), rest_is)

bytes_after : (made more : List ℕ) → AreBytes (made ++ more) → AreBytes more
bytes_after [] more are = are
bytes_after (m ∷ made) more are = bytes_after made more are.1

front_none : (more rest : List ℕ) → AreBytes more → escaped_name more ≡ rest → 0 < length rest → IsNoFront rest → ⊥
front_none [] rest are is some none = omega (arith, ap length is)
front_none (c ∷ more) rest are is some none = none c (escaped_name more) are.0 (sym is)

-- Where what is left begins with no byte's spelling, the whole spells nothing.
pub spelled_none : (made rest text : List ℕ) → escaped_name made ++ rest ≡ text → 0 < length rest → IsNoFront rest → SpellsNone text
spelled_none made rest text whole some none bytes are is =
    let (more, begins, ends) = split made bytes rest (is ∙ sym whole) in
    front_none more rest (bytes_after made more (subst AreBytes begins are)) ends some none

no_more : (more : List ℕ) → escaped_name more ≡ [] → more ≡ []
no_more [] e = refl
no_more (c ∷ more) e = absurd (some_byte c (escaped_name more) e)

-- One name is spelled so.
pub same_names : (a b : List ℕ) → escaped_name a ≡ escaped_name b → a ≡ b
same_names a b e =
    let (more, is, rest) = split b a [] (e ∙ sym (append-nil (escaped_name b))) in
    is ∙ ap (λ l. b ++ l) (no_more more rest) ∙ append-nil b

-- UTF-8 is made of bytes

bytes_append : (a b : List ℕ) → AreBytes a → AreBytes b → AreBytes (a ++ b)
bytes_append [] b p q = q
bytes_append (x ∷ a) b p q = (p.0, bytes_append a b p.1 q)

encoded_by : (c : ℕ) (r s t : Bool) → c < 1114112 → ltb c 128 ≡ r → ltb c 2048 ≡ s → ltb c 65536 ≡ t
    → AreBytes (cond r (c ∷ []) (cond s ((192 + c / 64) ∷ (128 + c % 64) ∷ []) (cond t ((224 + c / 4096) ∷ (128 + c / 64 % 64) ∷ (128 + c % 64) ∷ []) ((240 + c / 262144) ∷ (128 + c / 4096 % 64) ∷ (128 + c / 64 % 64) ∷ (128 + c % 64) ∷ []))))
encoded_by c true s t small p q z = (omega (arith, ltb-true c 128 p), tt)
encoded_by c false true t small p q z = (omega (arith, ltb-true c 2048 q), (omega arith, tt))
encoded_by c false false true small p q z = (omega (arith, ltb-true c 65536 z), (omega arith, (omega arith, tt)))
encoded_by c false false false small p q z = (omega arith, (omega arith, (omega arith, (omega arith, tt))))

below : (c : ℕ) → scalar c ≡ true → c < 1114112
below c is = elim (scalar_cases c is) [
  | inl low ↦ omega arith
  | inr high ↦ high.1
]

encoded : (c : ℕ) → scalar c ≡ true → AreBytes (encode c)
unfolding encode
encoded c is = encoded_by c (ltb c 128) (ltb c 2048) (ltb c 65536) (below c is) refl refl refl

all_encoded : (cs : List ℕ) → scalars cs ≡ true → AreBytes (encodes cs)
all_encoded [] is = tt
all_encoded (c ∷ cs) is = let b = and_parts (scalar c) (scalars cs) is in bytes_append (encode c) (encodes cs) (encoded c b.0) (all_encoded cs b.1)

pub utf8_bytes : (text : List ℕ) → IsUtf8 text → AreBytes text
utf8_bytes text (cs, (scalars, is)) = subst AreBytes is (all_encoded cs scalars)

-- names that are none

pub none_spelt : SpellsNoName []
none_spelt name spelt = spelt.there (no_more name spelt.is)

pub no_bytes : (text : List ℕ) → SpellsNone text → SpellsNoName text
no_bytes text none name spelt = none name (utf8_bytes name spelt.utf8) spelt.is

pub no_utf8 : (text bytes : List ℕ) → escaped_name bytes ≡ text → ¬ IsUtf8 bytes → SpellsNoName text
no_utf8 text bytes is other name spelt = other (subst IsUtf8 (same_names name bytes (spelt.is ∙ sym is)) spelt.utf8)

pub empty_spelt : (text : List ℕ) → length text ≡ 0 → SpellsNoName text
empty_spelt [] is = none_spelt
empty_spelt (c ∷ text) is = absurd (omega arith)

pub no_bytes_fault : (text : List ℕ) (fault : NameFault) → IsNoName (SpellsNone text) fault → IsNoName (SpellsNoName text) fault
no_bytes_fault text NotAName none = no_bytes text none
no_bytes_fault text OutOfMemory none = tt
