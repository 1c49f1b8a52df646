-- The names of a key of two to four columns, and the numbers of its bounds.
use Rattle.std.proofs.Common.{◌≡◌, ◌==◌, ℕ, zero, suc, ◌+◌, ◌<◌, ◌≤◌, inl, inr, Bool, true, false, cond, List, [], ◌∷◌, ◌++◌, length, take, get_or, refl, sym, ◌∙◌, ap, subst, arith, append_assoc, append-nil, zero-add, ℤ}
use Rattle.std.specs.Fmt.{signed_decimal}
use Rattle.std.specs.List.{All, flat_map}
use Rattle.std.proofs.lemmas.List.{get_or-take}
use Rattle.std.proofs.lemmas.List.Elements.{All-nil, All-cons, All-head, All-tail}
use Rattle.grammar.specs.Language.{Nothing, Fixed, Then, Or, Times, Many}
use Rattle.grammar.proofs.Repeats.{many_of}
use Rattle.sql_cells.specs.Name.{name_byte, quoted_name}
use Rattle.statement_forms.specs.Insert.{NextName}
use Rattle.statement_forms.specs.Number.{IsI128, IsNumberRow}
use Rattle.statement_forms.specs.Statement.{IsWide, IsBounded}
use Rattle.statement_forms.specs.Text.{names, numbers}
use Rattle.statement_reading.specs.Parts.{Names, FourthKey, ThirdKey, LaterKeys, NextKeys, KeyNames, commas, BoundText, NextBound, BoundsAnd, IsBoundRow}
use Rattle.statement_reading.proofs.BoundReads.{apart_first_bounds}
use Rattle.statement_reading.proofs.Divisions.{one_cut_apart}
use Rattle.statement_reading.proofs.NameValues.{after_name, names_cons, name_of, name_text, one_names}
use Rattle.statement_reading.proofs.NumberValues.{bound_of, bound_text, one_bound}

-- counting the names of a list

commas_quotes : (x : List ℕ) → commas true (96 ∷ 96 ∷ x) ≡ commas true x
commas_quotes x = zero-add (0 + commas true x) ∙ zero-add (commas true x)

commas_plain : (c : ℕ) (x : List ℕ) → (c == 96) ≡ false → commas true (c ∷ x) ≡ commas true x
commas_plain c x other = zero-add (commas (cond (c == 96) false true) x) ∙ ap (λ s. commas (cond s false true) x) other

commas_byte : (c : ℕ) (u : List ℕ) (s : Bool) → (c == 96) ≡ s → commas true (cond s (96 ∷ 96 ∷ []) (c ∷ []) ++ u) ≡ commas true u
commas_byte c u true quote = commas_quotes u
commas_byte c u false other = commas_plain c u other

commas_inside : (v rest : List ℕ) → commas true (flat_map name_byte v ++ 96 ∷ rest) ≡ commas false rest
commas_inside [] rest = zero-add (commas false rest)
commas_inside (c ∷ v) rest =
    ap (λ l. commas true l) (append_assoc (name_byte c) (flat_map name_byte v) (96 ∷ rest)) ∙ commas_byte c (flat_map name_byte v ++ 96 ∷ rest) (c == 96) refl ∙ commas_inside v rest

commas_name : (v rest : List ℕ) → commas false (quoted_name v ++ rest) ≡ commas false rest
commas_name v rest = zero-add (commas true ((flat_map name_byte v ++ 96 ∷ []) ++ rest)) ∙ ap (λ l. commas true l) (append_assoc (flat_map name_byte v) (96 ∷ []) rest) ∙ commas_inside v rest

one_more : (n : ℕ) → 1 + n ≡ suc n
one_more n = omega arith

commas_after : (vs : List (List ℕ)) → commas false (after_name vs) ≡ length vs
commas_after [] = refl
commas_after (w ∷ ws) = ap (λ k. 1 + k) (ap (λ l. commas false l) (names_cons w ws) ∙ commas_name w (after_name ws) ∙ commas_after ws) ∙ one_more (length ws)

pub commas_names : (vs : List (List ℕ)) → 0 < length vs → suc (commas false (names vs)) ≡ length vs
commas_names [] some = absurd (omega arith)
commas_names (v ∷ vs) some = ap suc (ap (λ l. commas false l) (names_cons v vs) ∙ commas_name v (after_name vs) ∙ commas_after vs)

-- the names of a key

next_text : (w : List ℕ) → NextName (44 ∷ quoted_name w)
unfolding NextName Then Fixed
next_text w = (44 ∷ [], quoted_name w, refl, refl, name_text w)

pub keys_text : (vs : List (List ℕ)) → IsWide vs → KeyNames (names vs)
unfolding KeyNames NextKeys LaterKeys ThirdKey FourthKey Then Or Nothing
keys_text [] wide = absurd (omega (arith, wide.0))
keys_text (a ∷ []) wide = absurd (omega (arith, wide.0))
keys_text (a ∷ b ∷ []) wide = (quoted_name a, 44 ∷ quoted_name b, refl, name_text a, (44 ∷ quoted_name b, [], sym (append-nil (44 ∷ quoted_name b)), next_text b, inr refl))
keys_text (a ∷ b ∷ c ∷ []) wide = (quoted_name a, 44 ∷ quoted_name b ++ 44 ∷ quoted_name c, refl, name_text a, (44 ∷ quoted_name b, 44 ∷ quoted_name c, refl, next_text b, inl (44 ∷ quoted_name c, [], sym (append-nil (44 ∷ quoted_name c)), next_text c, inr refl)))
keys_text (a ∷ b ∷ c ∷ d ∷ []) wide = (quoted_name a, 44 ∷ quoted_name b ++ 44 ∷ quoted_name c ++ 44 ∷ quoted_name d, ap (λ l. quoted_name a ++ 44 ∷ l) (sym (append_assoc (quoted_name b) (44 ∷ quoted_name c) (44 ∷ quoted_name d))), name_text a, (44 ∷ quoted_name b, 44 ∷ quoted_name c ++ 44 ∷ quoted_name d, ap (λ l. 44 ∷ l) (append_assoc (quoted_name b) (44 ∷ quoted_name c) (44 ∷ quoted_name d)), next_text b, inl (44 ∷ quoted_name c, 44 ∷ quoted_name d, refl, next_text c, inl (next_text d))))
keys_text (a ∷ b ∷ c ∷ d ∷ e ∷ vs) wide = absurd (omega (arith, wide.1))

-- one to three names after the first
record Counted (text : List ℕ) : Type 0 where
  n : ℕ
  least : 1 ≤ n
  most : n ≤ 3
  times : Times NextName n text

counted : (t : List ℕ) → NextKeys t → Counted t
unfolding NextKeys LaterKeys ThirdKey FourthKey Then Or Nothing Times
counted t (x, y, e, next, inr none) = record { n = 1; least = omega arith; most = omega arith; times = (x, y, e, next, none) }
counted t (x, y, e, next, inl (p, q, f, third, inr none)) = record { n = 2; least = omega arith; most = omega arith; times = (x, y, e, next, (p, q, f, third, none)) }
counted t (x, y, e, next, inl (p, q, f, third, inl fourth)) = record { n = 3; least = omega arith; most = omega arith; times = (x, y, e, next, (p, q, f, third, (q, [], sym (append-nil q), fourth, refl))) }

after_counted : (n : ℕ) (t : List ℕ) → Times NextName n t → (vs : List (List ℕ)) × (length vs ≡ n) × (t ≡ after_name vs)
unfolding Times NextName Then Fixed Nothing
after_counted zero t none = ([], refl, none)
after_counted (suc n) t (a, b, e, (x, y, split, comma, name), more) =
    let (v, is) = name_of y name in
    let (vs, size, rest) = after_counted n b more in
    let front : a ≡ 44 ∷ quoted_name v = split ∙ ap (λ l. l ++ y) comma ∙ ap (λ l. 44 ∷ l) is in
    (v ∷ vs, ap suc size, e ∙ ap (λ l. l ++ b) front ∙ ap (λ l. 44 ∷ quoted_name v ++ l) rest ∙ ap (λ l. 44 ∷ l) (sym (names_cons v vs)))

-- The names of a key are written for two to four names.
pub keys_of : (t : List ℕ) → KeyNames t → (vs : List (List ℕ)) × IsWide vs × (t ≡ names vs)
unfolding KeyNames Then
keys_of t (a, b, e, name, later) =
    let (v, is) = name_of a name in
    let count : Counted b = counted b later in
    let (vs, size, rest) = after_counted count.n b count.times in
    (v ∷ vs, (omega (arith, count.least), omega (arith, count.most)), e ∙ ap (λ l. l ++ b) is ∙ ap (λ l. quoted_name v ++ l) rest ∙ sym (names_cons v vs))

-- The names of a key are a list of names.
pub keys_names : (t : List ℕ) → KeyNames t → Names t
unfolding KeyNames Names Then
keys_names t (a, b, e, name, later) = let count : Counted b = counted b later in (a, b, e, name, many_of NextName count.n b count.times)

-- Names that are written as those of a key are two to four.
pub keys_wide : (vs : List (List ℕ)) (t : List ℕ) → KeyNames t → names vs ≡ t → 0 < length vs → IsWide vs
keys_wide vs t key is some =
    let (ws, wide, same) = keys_of t key in
    let one : vs ≡ ws = one_names vs ws some (omega (arith, wide.0)) (is ∙ same) in
    subst IsWide (sym one) wide

-- numbers

-- what stands after the first of some numbers
abbrev pub after_number : List ℤ → List ℕ
after_number [] = []
after_number (z ∷ zs) = 44 ∷ numbers (z ∷ zs)

pub numbers_cons : (z : ℤ) (zs : List ℤ) → numbers (z ∷ zs) ≡ signed_decimal z ++ after_number zs
numbers_cons z [] = sym (append-nil (signed_decimal z))
numbers_cons z (y ∷ zs) = refl

after_bounds : (zs : List ℤ) → All IsI128 zs → Times NextBound (length zs) (after_number zs)
unfolding Times NextBound Then Fixed Nothing
after_bounds [] ranges = refl
after_bounds (z ∷ zs) ranges = (44 ∷ signed_decimal z, after_number zs, ap (λ l. 44 ∷ l) (numbers_cons z zs), (44 ∷ [], signed_decimal z, refl, refl, bound_text z (All-head IsI128 z zs ranges)), after_bounds zs (All-tail IsI128 z zs ranges))

pub bounds_text : (n : ℕ) (zs : List ℤ) → length zs ≡ suc n → All IsI128 zs → BoundsAnd n (numbers zs)
unfolding BoundsAnd Then
bounds_text n [] size ranges = absurd (omega arith)
bounds_text n (z ∷ zs) size ranges =
    let same : length zs ≡ n = omega arith in
    (signed_decimal z, after_number zs, numbers_cons z zs, bound_text z (All-head IsI128 z zs ranges), subst (λ k. Times NextBound k (after_number zs)) same (after_bounds zs (All-tail IsI128 z zs ranges)))

numbers_after : (n : ℕ) (t : List ℕ) → Times NextBound n t → (zs : List ℤ) × (length zs ≡ n) × All IsI128 zs × (t ≡ after_number zs)
unfolding Times NextBound Then Fixed Nothing
numbers_after zero t none = ([], refl, All-nil IsI128, none)
numbers_after (suc n) t (a, b, e, (x, y, split, comma, text), more) =
    let (z, range, is) = bound_of y text in
    let (zs, size, ranges, rest) = numbers_after n b more in
    let front : a ≡ 44 ∷ signed_decimal z = split ∙ ap (λ l. l ++ y) comma ∙ ap (λ l. 44 ∷ l) is in
    (z ∷ zs, ap suc size, All-cons IsI128 z zs range ranges, e ∙ ap (λ l. l ++ b) front ∙ ap (λ l. 44 ∷ signed_decimal z ++ l) rest ∙ ap (λ l. 44 ∷ l) (sym (numbers_cons z zs)))

pub bounds_of : (n : ℕ) (t : List ℕ) → BoundsAnd n t → (zs : List ℤ) × (length zs ≡ suc n) × All IsI128 zs × (t ≡ numbers zs)
unfolding BoundsAnd Then
bounds_of n t (a, b, e, text, more) =
    let (z, range, is) = bound_of a text in
    let (zs, size, ranges, rest) = numbers_after n b more in
    (z ∷ zs, ap suc size, All-cons IsI128 z zs range ranges, e ∙ ap (λ l. l ++ b) is ∙ ap (λ l. signed_decimal z ++ l) rest ∙ sym (numbers_cons z zs))

one_number_after : (ys zs : List ℤ) → after_number ys ≡ after_number zs → (0 < length ys → 0 < length zs → numbers ys ≡ numbers zs → ys ≡ zs) → ys ≡ zs
one_number_after [] [] e one = refl
one_number_after [] (z ∷ zs) e one = cc
one_number_after (y ∷ ys) [] e one = cc
one_number_after (y ∷ ys) (z ∷ zs) e one = one (omega arith) (omega arith) (cc)

-- Numbers that are written alike are the same.
pub one_numbers : (ys zs : List ℤ) → All IsI128 ys → All IsI128 zs → 0 < length ys → 0 < length zs → numbers ys ≡ numbers zs → ys ≡ zs
one_numbers [] zs p q some more e = absurd (omega arith)
one_numbers (y ∷ ys) [] p q some more e = absurd (omega arith)
one_numbers (y ∷ ys) (z ∷ zs) p q some more e =
    let low : IsI128 y = All-head IsI128 y ys p in
    let high : IsI128 z = All-head IsI128 z zs q in
    let lows : All IsI128 ys = All-tail IsI128 y ys p in
    let highs : All IsI128 zs = All-tail IsI128 z zs q in
    let cut = one_cut_apart BoundText (Many NextBound) (signed_decimal y) (after_number ys) (signed_decimal z) (after_number zs) apart_first_bounds (bound_text y low) (bound_text z high)
    (many_of NextBound (length ys) (after_number ys) (after_bounds ys lows)) (many_of NextBound (length zs) (after_number zs) (after_bounds zs highs)) (sym (numbers_cons y ys) ∙ e ∙ numbers_cons z zs) in
    let head : y ≡ z = one_bound y z low high cut.0 in
    let tail : ys ≡ zs = one_number_after ys zs cut.1 (λ some more. one_numbers ys zs lows highs some more) in
    cc

-- a bound beside its key

-- the part that says how many is one before
pub bounds_at : (parts : List (List ℕ)) (i j : ℕ) (u : List ℕ) → j < i → BoundsAnd (commas false (get_or (take i parts) j [])) u → BoundsAnd (commas false (get_or parts j [])) u
bounds_at parts i j u less there = subst (λ l. BoundsAnd (commas false l) u) (get_or-take i parts j [] less) there

-- As many numbers as names are the texts of a bound.
pub bounded_text : (keys : List (List ℕ)) (bound : List ℤ) → IsBounded keys bound → All IsI128 bound → BoundsAnd (commas false (names keys)) (numbers bound)
bounded_text keys bound bounded ranges =
    bounds_text (commas false (names keys)) bound (omega (arith, bounded.1, commas_names keys (omega (arith, bounded.0.0)))) ranges

-- The texts of a bound are as many numbers as names.
pub bounded_of : (keys : List (List ℕ)) (k u : List ℕ) → k ≡ names keys → IsWide keys → BoundsAnd (commas false k) u → (zs : List ℤ) × IsBounded keys zs × All IsI128 zs × (u ≡ numbers zs)
bounded_of keys k u is wide there =
    let (zs, size, ranges, same) = bounds_of (commas false (names keys)) u (subst (λ l. BoundsAnd (commas false l) u) is there) in
    (zs, (wide, omega (arith, size, commas_names keys (omega (arith, wide.0)))), ranges, same)

-- Numbers that are written as a bound are as many as the names.
pub bounded_row : (keys : List (List ℕ)) (k u : List ℕ) (bound : List ℤ) → k ≡ names keys → IsWide keys → BoundsAnd (commas false k) u → numbers bound ≡ u → IsNumberRow bound → IsBounded keys bound
bounded_row keys k u bound is wide there same row =
    let (zs, bounded, ranges, other) = bounded_of keys k u is wide there in
    let one : bound ≡ zs = one_numbers bound zs row.ranges ranges (omega (arith, row.least)) (omega (arith, bounded.0.0, bounded.1)) (same ∙ other) in
    subst (IsBounded keys) (sym one) bounded

-- A bound of a key is a row of two to four numbers.
pub bound_row : (k u : List ℕ) → KeyNames k → BoundsAnd (commas false k) u → IsBoundRow u
bound_row k u key there =
    let (keys, wide, is) = keys_of k key in
    let count : suc (commas false k) ≡ length keys = ap (λ l. suc (commas false l)) is ∙ commas_names keys (omega (arith, wide.0)) in
    record { more = commas false k; least = omega (arith, wide.0); most = omega (arith, wide.1); bounds = there }
