-- The names that quoted names are written for.
use Rattle.std.proofs.Common.{◌≡◌, ◌≢◌, ◌==◌, ◌||◌, ℕ, zero, suc, ◌+◌, ◌-◌, ◌<◌, ◌≤◌, Bool, true, false, cond, List, [], ◌∷◌, ◌++◌, length, take, drop, get_or, refl, sym, ◌∙◌, ap, subst, arith, append_assoc, append-nil, length-append, length-drop, take-add, add-zero}
use Rattle.std.specs.List.{flat_map}
use Rattle.std.proofs.lemmas.Bool.Decides.{nat_tests}
use Rattle.std.proofs.lemmas.Grind.{flat_map-append}
use Rattle.std.proofs.lemmas.List.{append_cancel_right, drop-drop, get_or-drop}
use Rattle.std.proofs.Math.Seq.{take-append_seam, drop-append_seam}
use Rattle.grammar.specs.Language.{Fixed, One, Then, Times, Many, Nothing}
use Rattle.sql_cells.specs.Name.{name_byte, quoted_name}
use Rattle.statement_forms.specs.Insert.{is_inside, OpenedName, NamePart, QuotedName, NextName}
use Rattle.statement_reading.specs.Parts.{Names}
use Rattle.statement_reading.specs.Readings.{has_byte, IsDoubled}
use Rattle.statement_forms.specs.Text.{names}
use Rattle.statement_reading.proofs.NameReads.{apart_first_name}
use Rattle.statement_reading.proofs.Divisions.{one_cut_apart}

inside_byte : (c : ℕ) (b : List ℕ) (t : Bool) → (c == 96) ≡ t → is_inside c ≡ true → flat_map name_byte b ≡ b → flat_map name_byte (c ∷ b) ≡ c ∷ b
inside_byte c b true quote inside same = absurd (wrong (sym inside ∙ ap (λ v. cond v false true) quote)) where
  wrong : true ≡ false → ⊥
  wrong h = cc
inside_byte c b false other inside same = ap (λ v. cond v (96 ∷ 96 ∷ []) (c ∷ []) ++ flat_map name_byte b) other ∙ ap (λ l. c ∷ l) same

-- bytes without a backquote are doubled nowhere
inside_same : (n : ℕ) (x : List ℕ) → Times (One is_inside) n x → flat_map name_byte x ≡ x
unfolding Times One Then Nothing
inside_same zero x none = rw none refl
inside_same (suc n) x (a, b, e, (c, is, inside), more) =
    let split : x ≡ c ∷ b = e ∙ ap (λ l. l ++ b) is in
    ap (flat_map name_byte) split ∙ inside_byte c b (c == 96) refl inside (inside_same n b more) ∙ sym split

-- what stands between two backquotes
record Between (t : List ℕ) : Type 0 where
  inner : List ℕ
  is : t ≡ 96 ∷ inner ++ 96 ∷ []
  same : flat_map name_byte inner ≡ inner

part_inner : (t : List ℕ) → NamePart t → Between t
unfolding NamePart OpenedName Then Fixed Many
part_inner t (x, y, e, (a, b, split, begin, (n, inside)), close) =
    let front : x ≡ 96 ∷ b = split ∙ ap (λ l. l ++ b) begin in
    record { inner = b; is = e ∙ ap (λ l. l ++ y) front ∙ ap (λ l. 96 ∷ b ++ l) close; same = inside_same n b inside }

-- a part, and after it a name, are the name with a backquote between
part_before : (x w : List ℕ) → flat_map name_byte x ≡ x → (96 ∷ x ++ 96 ∷ []) ++ quoted_name w ≡ quoted_name (x ++ 96 ∷ w)
part_before x w same =
    append_assoc (96 ∷ x) (96 ∷ []) (quoted_name w) ∙ ap (λ l. 96 ∷ l)
    (ap (λ l. l ++ (96 ∷ 96 ∷ flat_map name_byte w ++ 96 ∷ [])) (sym same) ∙ sym (append_assoc (flat_map name_byte x) (96 ∷ 96 ∷ flat_map name_byte w) (96 ∷ [])) ∙ ap (λ l. l ++ 96 ∷ []) (sym (flat_map-append name_byte x (96 ∷ w))))

parts_name : (n : ℕ) (p b : List ℕ) → NamePart p → Times NamePart n b → (v : List ℕ) × (p ++ b ≡ quoted_name v)
unfolding Times Then Nothing
parts_name zero p b part none =
    let there = part_inner p part in
    (there.inner, ap (λ l. p ++ l) none ∙ append-nil p ∙ there.is ∙ ap (λ l. 96 ∷ l ++ 96 ∷ []) (sym there.same))
parts_name (suc n) p b part (c, d, e, next, more) =
    let there = part_inner p part in
    let (w, is) = parts_name n c d next more in
    (there.inner ++ 96 ∷ w, ap (λ l. p ++ l) (e ∙ is) ∙ ap (λ l. l ++ quoted_name w) there.is ∙ part_before there.inner w there.same)

-- A quoted name is written for some name.
pub name_of : (t : List ℕ) → QuotedName t → (v : List ℕ) × (t ≡ quoted_name v)
unfolding QuotedName Then Many
name_of t (p, b, e, part, (n, more)) = let (v, is) = parts_name n p b part more in (v, e ∙ is)

-- one byte more, inside the first part
into_part : (c : ℕ) (t : List ℕ) → is_inside c ≡ true → QuotedName (96 ∷ t) → QuotedName (96 ∷ c ∷ t)
unfolding QuotedName NamePart OpenedName Then Fixed Many Times One
into_part c t inside (p, b, e, (x, y, e2, (o, i, e3, begin, (n, run)), close), more) =
    let front : x ≡ 96 ∷ i = e3 ∙ ap (λ l. l ++ i) begin in
    let whole : 96 ∷ t ≡ ((96 ∷ i) ++ y) ++ b = e ∙ ap (λ l. l ++ b) (e2 ∙ ap (λ l. l ++ y) front) in
    let rest : t ≡ (i ++ y) ++ b = cc in
    ((96 ∷ c ∷ i) ++ y, b, ap (λ l. 96 ∷ c ∷ l) rest, (96 ∷ c ∷ i, y, refl, (96 ∷ [], c ∷ i, refl, refl, (suc n, (c ∷ [], i, refl, (c, refl, inside), run))), close), more)

-- an empty part in front
empty_part : (t : List ℕ) → QuotedName t → QuotedName (96 ∷ 96 ∷ t)
unfolding QuotedName NamePart OpenedName Then Fixed Many Times Nothing
empty_part t (p, b, e, part, (n, more)) = (96 ∷ 96 ∷ [], t, refl, (96 ∷ [], 96 ∷ [], refl, (96 ∷ [], [], refl, refl, (0, refl)), refl), (suc n, (p, b, e, part, more)))

more_text : (c : ℕ) (v : List ℕ) (t : Bool) → (c == 96) ≡ t → QuotedName (quoted_name v) → QuotedName (quoted_name (c ∷ v))
more_text c v true quote rest = subst (λ k. QuotedName (96 ∷ (cond k (96 ∷ 96 ∷ []) (c ∷ []) ++ flat_map name_byte v) ++ 96 ∷ [])) (sym quote) (empty_part (quoted_name v) rest)
more_text c v false other rest = subst (λ k. QuotedName (96 ∷ (cond k (96 ∷ 96 ∷ []) (c ∷ []) ++ flat_map name_byte v) ++ 96 ∷ [])) (sym other) (into_part c (flat_map name_byte v ++ 96 ∷ []) (ap (λ k. cond k false true) other) rest)

-- The text that is written for a name is a quoted name.
pub name_text : (v : List ℕ) → QuotedName (quoted_name v)
unfolding QuotedName NamePart OpenedName Then Fixed Many Times Nothing
name_text [] = (96 ∷ 96 ∷ [], [], refl, (96 ∷ [], 96 ∷ [], refl, (96 ∷ [], [], refl, refl, (0, refl)), refl), (0, refl))
name_text (c ∷ v) = more_text c v (c == 96) refl (name_text v)

-- two names that are written alike are the same

test_at : (c d : ℕ) (t : Bool) → (c == 96) ≡ t → (d == 96) ≡ true → c ≡ d → t ≡ true
test_at c d t one other same = sym one ∙ ap (λ k. k == 96) same ∙ other

cons_bytes : (c d : ℕ) (u v : List ℕ) (s t : Bool) → (c == 96) ≡ s → (d == 96) ≡ t → cond s (96 ∷ 96 ∷ []) (c ∷ []) ++ u ≡ cond t (96 ∷ 96 ∷ []) (d ∷ []) ++ v → (c ≡ d) × (u ≡ v)
cons_bytes c d u v true true one other e = (eq_of c one ∙ sym (eq_of d other), cc) where
  eq_of : (k : ℕ) → (k == 96) ≡ true → k ≡ 96
  eq_of k is = grind (arith, nat_tests)
cons_bytes c d u v true false one other e = absurd (wrong (let head : 96 ≡ d = cc in sym other ∙ ap (λ k. k == 96) (sym head))) where
  wrong : false ≡ true → ⊥
  wrong h = cc
cons_bytes c d u v false true one other e = absurd (wrong (let head : c ≡ 96 = cc in sym one ∙ ap (λ k. k == 96) head)) where
  wrong : false ≡ true → ⊥
  wrong h = cc
cons_bytes c d u v false false one other e = (cc, cc)

some_bytes : (c : ℕ) (u : List ℕ) (s : Bool) → cond s (96 ∷ 96 ∷ []) (c ∷ []) ++ u ≢ []
some_bytes c u true e = cc
some_bytes c u false e = cc

same_names : (u v : List ℕ) → flat_map name_byte u ≡ flat_map name_byte v → u ≡ v
same_names [] [] e = refl
same_names [] (d ∷ v) e = absurd (some_bytes d (flat_map name_byte v) (d == 96) (sym e))
same_names (c ∷ u) [] e = absurd (some_bytes c (flat_map name_byte u) (c == 96) e)
same_names (c ∷ u) (d ∷ v) e =
    let parts = cons_bytes c d (flat_map name_byte u) (flat_map name_byte v) (c == 96) (d == 96) refl refl e in
    let tail : u ≡ v = same_names u v parts.1 in
    let head : c ≡ d = parts.0 in
    cc

pub one_name : (u v : List ℕ) → quoted_name u ≡ quoted_name v → u ≡ v
one_name u v e = same_names u v (append_cancel_right (flat_map name_byte u) (flat_map name_byte v) (96 ∷ []) (cc))

-- what stands between the first backquote and the last

-- The bytes between the outer ones.
pub inner_of : (a b : ℕ) (x : List ℕ) → take (length (a ∷ x ++ b ∷ []) - 1 - 1) (drop 1 (a ∷ x ++ b ∷ [])) ≡ x
inner_of a b x =
    let size : length (a ∷ x ++ b ∷ []) - 1 - 1 ≡ length x = omega (arith, length-append x (b ∷ [])) in
    ap (λ n. take n (x ++ b ∷ [])) size ∙ take-append_seam x (b ∷ [])

pub outer_size : (a b : ℕ) (x : List ℕ) → 2 ≤ length (a ∷ x ++ b ∷ [])
outer_size a b x = omega (arith, length-append x (b ∷ []))

pub name_size : (t : List ℕ) → QuotedName t → 2 ≤ length t
name_size t quoted = let (v, is) = name_of t quoted in subst (λ l. 2 ≤ length l) (sym is) (outer_size 96 96 (flat_map name_byte v))

name_inner : (t v : List ℕ) → t ≡ quoted_name v → take (length t - 1 - 1) (drop 1 t) ≡ flat_map name_byte v
name_inner t v is = rw is (inner_of 96 96 (flat_map name_byte v))

pub name_doubled : (t : List ℕ) → QuotedName t → IsDoubled (take (length t - 1 - 1) (drop 1 t))
name_doubled t quoted = let (v, is) = name_of t quoted in record { name = v; is = name_inner t v is }

pub name_made : (t made : List ℕ) → QuotedName t → flat_map name_byte made ≡ take (length t - 1 - 1) (drop 1 t) → quoted_name made ≡ t
name_made t made quoted e = let (v, is) = name_of t quoted in ap (λ l. 96 ∷ l ++ 96 ∷ []) (e ∙ name_inner t v is) ∙ sym is

no_quote_cons : (c : ℕ) (u : List ℕ) (s : Bool) → (c == 96) ≡ s → has_byte 96 (cond s (96 ∷ 96 ∷ []) (c ∷ []) ++ u) ≡ false → (s ≡ false) × (has_byte 96 u ≡ false)
no_quote_cons c u true is none = absurd (cc none)
no_quote_cons c u false is none = (refl, ap (λ k. k || has_byte 96 u) (sym is) ∙ none)

undoubled_same : (v : List ℕ) → has_byte 96 (flat_map name_byte v) ≡ false → flat_map name_byte v ≡ v
undoubled_same [] none = refl
undoubled_same (c ∷ v) none =
    let there = no_quote_cons c (flat_map name_byte v) (c == 96) refl none in
    ap (λ s. cond s (96 ∷ 96 ∷ []) (c ∷ []) ++ flat_map name_byte v) there.0 ∙ ap (λ l. c ∷ l) (undoubled_same v there.1)

-- Without a backquote inside, the inner bytes are the name.
pub name_inside : (t : List ℕ) → QuotedName t → has_byte 96 (take (length t - 1 - 1) (drop 1 t)) ≡ false → quoted_name (take (length t - 1 - 1) (drop 1 t)) ≡ t
name_inside t quoted none =
    let (v, is) = name_of t quoted in
    let inner : take (length t - 1 - 1) (drop 1 t) ≡ flat_map name_byte v = name_inner t v is in
    let same : flat_map name_byte v ≡ v = undoubled_same v (subst (λ l. has_byte 96 l ≡ false) inner none) in
    ap quoted_name (inner ∙ same) ∙ sym is

-- undoubling byte by byte

first_byte : (c : ℕ) (u : List ℕ) (s : Bool) → (c == 96) ≡ s → get_or (cond s (96 ∷ 96 ∷ []) (c ∷ []) ++ u) 0 0 ≡ c
first_byte c u true is = grind (arith, nat_tests)
first_byte c u false is = refl

pub doubled_next : (s : List ℕ) (i : ℕ) (made : List ℕ) (size : ℕ) → i < length s → flat_map name_byte made ≡ take i s → IsDoubled (drop i s) → size ≡ length (name_byte (get_or s i 0)) → (i + size ≤ length s) × (flat_map name_byte (made ++ get_or s i 0 ∷ []) ≡ take (i + size) s) × IsDoubled (drop (i + size) s)
doubled_next s i made size within so_far left size_is = by_name left.name left.is where
  by_name : (v : List ℕ) → drop i s ≡ flat_map name_byte v → (i + size ≤ length s) × (flat_map name_byte (made ++ get_or s i 0 ∷ []) ≡ take (i + size) s) × IsDoubled (drop (i + size) s)
  by_name [] e = absurd (omega (arith, length-drop i s, ap length e))
  by_name (c ∷ v) e =
      let head : get_or s i 0 ≡ c = ap (λ k. get_or s k 0) (sym (add-zero i)) ∙ sym (get_or-drop i s 0 0) ∙ ap (λ l. get_or l 0 0) e ∙ first_byte c (flat_map name_byte v) (c == 96) refl in
      let same : size ≡ length (name_byte c) = size_is ∙ ap (λ k. length (name_byte k)) head in
      let fits : i + size ≤ length s = omega (arith, length-drop i s, ap length e, length-append (name_byte c) (flat_map name_byte v)) in
      let taken : take size (drop i s) ≡ name_byte c = ap (take size) e ∙ ap (λ n. take n (name_byte c ++ flat_map name_byte v)) same ∙ take-append_seam (name_byte c) (flat_map name_byte v) in
      let rest : drop (i + size) s ≡ flat_map name_byte v = sym (drop-drop size i s) ∙ ap (drop size) e ∙ ap (λ n. drop n (name_byte c ++ flat_map name_byte v)) same ∙ drop-append_seam (name_byte c) (flat_map name_byte v) in (
        fits,
        flat_map-append name_byte made (get_or s i 0 ∷ []) ∙ ap (λ l. l ++ flat_map name_byte (get_or s i 0 ∷ [])) so_far ∙ ap (λ k. take i s ++ flat_map name_byte (k ∷ [])) head ∙ ap (λ l. take i s ++ l) (append-nil (name_byte c) ∙ sym taken) ∙ sym (take-add i size s),
        record { name = v; is = rest },
      )

-- lists of names

-- what stands after the first of some names
abbrev pub after_name : List (List ℕ) → List ℕ
after_name [] = []
after_name (w ∷ ws) = 44 ∷ names (w ∷ ws)

pub names_cons : (v : List ℕ) (vs : List (List ℕ)) → names (v ∷ vs) ≡ quoted_name v ++ after_name vs
names_cons v [] = sym (append-nil (quoted_name v))
names_cons v (w ∷ ws) = refl

pub after_text : (vs : List (List ℕ)) → Many NextName (after_name vs)
unfolding Many Times NextName Then Fixed Nothing
after_text [] = (0, refl)
after_text (w ∷ ws) = let (n, more) = after_text ws in
    (suc n, (44 ∷ quoted_name w, after_name ws, ap (λ l. 44 ∷ l) (names_cons w ws), (44 ∷ [], quoted_name w, refl, refl, name_text w), more))

-- The text that is written for names is a list of names.
pub names_text : (vs : List (List ℕ)) → 0 < length vs → Names (names vs)
unfolding Names Then
names_text [] some = absurd (omega arith)
names_text (v ∷ vs) some = (quoted_name v, after_name vs, names_cons v vs, name_text v, after_text vs)

after_of : (n : ℕ) (t : List ℕ) → Times NextName n t → (vs : List (List ℕ)) × (t ≡ after_name vs)
unfolding Times NextName Then Fixed Nothing
after_of zero t none = ([], none)
after_of (suc n) t (a, b, e, (x, y, split, comma, name), more) =
    let (v, is) = name_of y name in
    let (vs, rest) = after_of n b more in
    let front : a ≡ 44 ∷ quoted_name v = split ∙ ap (λ l. l ++ y) comma ∙ ap (λ l. 44 ∷ l) is in
    (v ∷ vs, e ∙ ap (λ l. l ++ b) front ∙ ap (λ l. 44 ∷ quoted_name v ++ l) rest ∙ ap (λ l. 44 ∷ l) (sym (names_cons v vs)))

-- A list of names is written for some names.
pub names_of : (t : List ℕ) → Names t → (vs : List (List ℕ)) × (0 < length vs) × (t ≡ names vs)
unfolding Names Then Many
names_of t (a, b, e, name, (n, more)) =
    let (v, is) = name_of a name in
    let (vs, rest) = after_of n b more in
    (v ∷ vs, omega arith, e ∙ ap (λ l. l ++ b) is ∙ ap (λ l. quoted_name v ++ l) rest ∙ sym (names_cons v vs))

one_after : (us vs : List (List ℕ)) → after_name us ≡ after_name vs → (0 < length us → 0 < length vs → names us ≡ names vs → us ≡ vs) → us ≡ vs
one_after [] [] e one = refl
one_after [] (v ∷ vs) e one = cc
one_after (u ∷ us) [] e one = cc
one_after (u ∷ us) (v ∷ vs) e one = one (omega arith) (omega arith) (cc)

pub one_names : (us vs : List (List ℕ)) → 0 < length us → 0 < length vs → names us ≡ names vs → us ≡ vs
one_names [] vs some more e = absurd (omega arith)
one_names (u ∷ us) [] some more e = absurd (omega arith)
one_names (u ∷ us) (v ∷ vs) some more e =
    let cut = one_cut_apart QuotedName (Many NextName) (quoted_name u) (after_name us) (quoted_name v) (after_name vs) apart_first_name (name_text u) (name_text v) (after_text us) (after_text vs) (sym (names_cons u us) ∙ e ∙ names_cons v vs) in
    let head : u ≡ v = one_name u v cut.0 in
    let tail : us ≡ vs = one_after us vs cut.1 (λ some more. one_names us vs some more) in
    cc
