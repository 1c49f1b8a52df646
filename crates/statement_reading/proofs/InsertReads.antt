-- The grammar of INSERT statements: what comes first, what lengthens it, and how it is read.
use Rattle.std.proofs.Common.{◌≡◌, ◌≢◌, ℕ, zero, suc, ◌+◌, ◌-◌, ◌<◌, ◌⊎◌, inl, inr, false, List, [], ◌∷◌, ◌++◌, length, take, drop, refl, sym, ◌∙◌, ap, subst, arith, append_assoc, length-drop, take-add, drop-cons, add-one, zero-add, get_or, codes, Result, Ok, Err}
use Rattle.std.specs.List.{flat_map}
use Rattle.std.proofs.lemmas.List.{take-append-drop, length-take-le, take_all, drop_all, drop-drop}
use Rattle.grammar.specs.Language.{Language, Begins, Reads, Refused, Nothing, Fixed, Then, Next, Times, Many}
use Rattle.grammar.specs.Reading.{shift}
use Rattle.grammar.proofs.Choices.{neither, reads_same}
use Rattle.grammar.proofs.Empty.{no_empty_fixed, no_empty_then, no_empty_after, begins_fixed, begins_then, begins_or, begins_next}
use Rattle.grammar.proofs.Leaves.{fixed_apart}
use Rattle.grammar.proofs.Onward.{Onward, onward_start, onward_same, onward_then, onward_broken, onward_next, onward_next_broken, onward_last, onward_answer, onward_counted, onward_counted_broken, onward_none}
use Rattle.grammar.proofs.Places.{rest_of}
use Rattle.grammar.proofs.Repeats.{apart_many, begins_many, begins_times, many_of}
use Rattle.grammar.proofs.Rows.{Apart, NextApart, then_broken}
use Rattle.grammar.proofs.Sets.{Starts, Lengthens, apart_by, apart_free, next_apart_by, starts_fixed, starts_then, starts_row, starts_either, starts_times, starts_wider, lengthens_wider, lengthens_fixed, lengthens_then, lengthens_or, lengthens_times}
use Rattle.grammar.proofs.Wholes.{refused_broken, refused_row}
use Rattle.sql_cells.specs.Name.{quoted_name, name_byte}
use Rattle.plain_data.specs.Byte.{is_digit}
use Rattle.sql_cells.specs.Spelling.{Literal}
use Rattle.sql_literals.proofs.LiteralReads.{IsLiteralMore, no_empty_literal, begins_literal, lengthens_literal}
use Rattle.sql_literals.proofs.NumberReads.{IsDigit}
use Rattle.statement_forms.specs.Insert.{QuotedName, NextName, NamesAnd, NextLiteral, Row, FurtherRow, Rows, Filled, InsertInto, HasRows}
use Rattle.statement_reading.specs.InsertReading.{RowRest, RowInside, Values, IsRows, HasValues, IsFilled}
use Rattle.statement_reading.specs.Parts.{Names}
use Rattle.statement_reading.proofs.Divisions.{one_cut_apart}
use Rattle.statement_reading.proofs.NameReads.{begins_name, begins_names, lengthens_name, lengthens_names, no_empty_next_name, apart_first_name, apart_next_name}

-- literals

not_digit : (b c : ℕ) → c ≡ b → is_digit b ≡ false → IsDigit c → ⊥
not_digit b c is other digit = let wrong : IsDigit b = subst IsDigit is digit in cc

no_literal_mark : (b c : ℕ) → c ≡ b → is_digit b ≡ false → b ≢ 46 → b ≢ 39 → IsLiteralMore c → ⊥
no_literal_mark b c is digit point quote (inl (inl e)) = point (sym is ∙ e)
no_literal_mark b c is digit point quote (inl (inr d)) = not_digit b c is digit d
no_literal_mark b c is digit point quote (inr e) = quote (sym is ∙ e)

-- rows

pub no_empty_next_literal : ¬ NextLiteral []
unfolding NextLiteral
no_empty_next_literal = no_empty_then _ _ (no_empty_fixed 44 [])

starts_next_literal : Starts NextLiteral (λ c. c ≡ 44)
unfolding NextLiteral
starts_next_literal = starts_then _ _ _ (no_empty_fixed 44 []) (starts_fixed 44 [])

lengthens_next_literal : Lengthens NextLiteral IsLiteralMore
unfolding NextLiteral
lengthens_next_literal = lengthens_then _ _ _ (fixed_apart _ _) no_empty_literal lengthens_literal

begins_next_literal : Begins NextLiteral []
unfolding NextLiteral
begins_next_literal = begins_then _ _ (begins_fixed _) begins_literal

-- what comes after a literal begins with a comma or a closing parenthesis
abbrev IsAfter : ℕ → Type 0
IsAfter c = (c ≡ 44) ⊎ (c ≡ 41)

not_after : (c : ℕ) → IsLiteralMore c → IsAfter c → ⊥
not_after c more (inl comma) = no_literal_mark 44 c comma refl (omega arith) (omega arith) more
not_after c more (inr close) = no_literal_mark 41 c close refl (omega arith) (omega arith) more

apart_next_literals : Apart NextLiteral (Many NextLiteral)
apart_next_literals = apart_many NextLiteral (apart_by _ _ _ _ lengthens_next_literal starts_next_literal (λ c more comma. not_after c more (inl comma))) no_empty_next_literal

starts_rest : (n : ℕ) → Starts (Then (Times NextLiteral n) (Fixed (codes ")"))) IsAfter
starts_rest n = starts_row _ _ _ (starts_wider _ _ _ (λ c comma. inl comma) (starts_times NextLiteral _ n no_empty_next_literal starts_next_literal)) (starts_wider _ _ _ (λ c close. inr close) (starts_fixed 41 []))

pub apart_counted : (n : ℕ) → Apart NextLiteral (Then (Times NextLiteral n) (Fixed (codes ")")))
apart_counted n = apart_by _ _ _ _ lengthens_next_literal (starts_rest n) not_after

pub begins_counted : (n : ℕ) → Begins (Then (Times NextLiteral n) (Fixed (codes ")"))) []
begins_counted n = begins_then _ _ (begins_times NextLiteral n begins_next_literal) (begins_fixed _)

pub begins_rest : (n : ℕ) → Begins (RowRest n) []
unfolding RowRest
begins_rest n = begins_counted n

pub apart_first : (n : ℕ) → Apart Literal (RowRest n)
unfolding RowRest
apart_first n = apart_by _ _ _ _ lengthens_literal (starts_rest n) not_after

pub begins_inside : (n : ℕ) → Begins (RowInside n) []
unfolding RowInside
begins_inside n = begins_then _ _ begins_literal (begins_rest n)

pub begins_row : (n : ℕ) → Begins (Row n) []
unfolding Row
begins_row n = begins_then _ _ (begins_fixed _) (begins_then _ _ begins_literal (begins_counted n))

lengthens_all : (n : ℕ) → Lengthens (Times NextLiteral n) IsLiteralMore
lengthens_all n = lengthens_times NextLiteral IsLiteralMore n apart_next_literals no_empty_next_literal lengthens_next_literal

lengthens_close : (n : ℕ) (P : ℕ → Type 0) → Lengthens (Then (Times NextLiteral n) (Fixed (codes ")"))) P
lengthens_close n P = lengthens_then _ _ P (apart_by _ _ _ _ (lengthens_all n) (starts_fixed 41 []) (λ c more close. not_after c more (inr close))) (no_empty_fixed 41 []) (lengthens_fixed _ P)

no_empty_row : (n : ℕ) → ¬ Row n []
unfolding Row
no_empty_row n = no_empty_then _ _ (no_empty_fixed 40 [])

-- Nothing lengthens a row.
lengthens_row : (n : ℕ) (P : ℕ → Type 0) → Lengthens (Row n) P
unfolding Row
lengthens_row n P = lengthens_then _ _ P (fixed_apart _ _) (no_empty_then _ _ no_empty_literal) (lengthens_inside n P) where
  lengthens_inside : (n : ℕ) (P : ℕ → Type 0) → Lengthens (Then Literal (Then (Times NextLiteral n) (Fixed (codes ")")))) P
  lengthens_inside n P = lengthens_then _ _ P (apart_by _ _ _ _ lengthens_literal (starts_rest n) not_after) (no_empty_after _ _ (no_empty_fixed 41 [])) (lengthens_close n P)

pub no_empty_next_row : (n : ℕ) → ¬ FurtherRow n []
unfolding FurtherRow
no_empty_next_row n = no_empty_then _ _ (no_empty_fixed 44 (10 ∷ []))

lengthens_next_row : (n : ℕ) (P : ℕ → Type 0) → Lengthens (FurtherRow n) P
unfolding FurtherRow
lengthens_next_row n P = lengthens_then _ _ P (fixed_apart _ _) (no_empty_row n) (lengthens_row n P)

pub apart_next_row : (n : ℕ) → Apart (FurtherRow n) (Many (FurtherRow n))
apart_next_row n = apart_many (FurtherRow n) (apart_free _ _ (lengthens_next_row n _)) (no_empty_next_row n)

pub apart_first_row : (n : ℕ) → Apart (Row n) (Many (FurtherRow n))
apart_first_row n = apart_free _ _ (lengthens_row n _)

pub begins_rows : (n : ℕ) → Begins (Rows n) []
unfolding Rows
begins_rows n = begins_then _ _ (begins_row n) (begins_many _)

pub begins_values : (n : ℕ) → Begins (Values n) []
unfolding Values
begins_values n = begins_then _ _ (begins_fixed _) (begins_rows n)

whole_taken : (s : List ℕ) → take (length s - 0) (drop 0 s) ≡ s
whole_taken s = take_all (length s - 0) s (omega arith)

-- reading a row's literals

rest_apart : (n : ℕ) → Apart NextLiteral (Then (Times NextLiteral (n - 1)) (Fixed (codes ")")))
rest_apart n = apart_counted (n - 1)

pub rest_start : (n : ℕ) (s : List ℕ) → Onward (RowRest n) (Then (Times NextLiteral (n - 0)) (Fixed (codes ")"))) s 0
unfolding RowRest
rest_start n s = subst (λ m. Onward (RowRest n) (Then (Times NextLiteral m) (Fixed (codes ")"))) s 0) (omega arith) (onward_start (RowRest n) s)

pub rest_more : (n : ℕ) (s : List ℕ) (i at k : ℕ) → i < n → Onward (RowRest n) (Then (Times NextLiteral (n - i)) (Fixed (codes ")"))) s at → Reads NextLiteral (take (length s - at) (drop at s)) (Ok k) → Onward (RowRest n) (Then (Times NextLiteral (n - (i + 1))) (Fixed (codes ")"))) s (at + k)
rest_more n s i at k few onward reads =
    subst (λ m. Onward (RowRest n) (Then (Times NextLiteral m) (Fixed (codes ")"))) s (at + k)) (omega arith)
    (onward_counted (RowRest n) NextLiteral (Fixed (codes ")")) s at k (n - i) (Ok k) onward (omega arith) (rest_apart (n - i)) reads refl)

pub rest_broken : (n : ℕ) (s : List ℕ) (i at p : ℕ) → i < n → Onward (RowRest n) (Then (Times NextLiteral (n - i)) (Fixed (codes ")"))) s at → Reads NextLiteral (take (length s - at) (drop at s)) (Err p) → Reads (RowRest n) s (Err (at + p))
rest_broken n s i at p few onward reads =
    onward_counted_broken (RowRest n) NextLiteral (Fixed (codes ")")) s at p (n - i) (Err p) onward (omega arith) (rest_apart (n - i)) (begins_counted (n - i - 1)) reads refl

pub rest_end : (n : ℕ) (s : List ℕ) (i at : ℕ) (r q : Result ℕ ℕ) → i ≡ n → Onward (RowRest n) (Then (Times NextLiteral (n - i)) (Fixed (codes ")"))) s at → Reads (Fixed (codes ")")) (take (length s - at) (drop at s)) r → q ≡ shift at r → Reads (RowRest n) s q
rest_end n s i at r q all onward reads is =
    onward_answer (RowRest n) (Fixed (codes ")")) s at r q (onward_none (RowRest n) NextLiteral (Fixed (codes ")")) s at (subst (λ m. Onward (RowRest n) (Then (Times NextLiteral m) (Fixed (codes ")"))) s at) (omega arith) onward)) reads is

-- two parts in a row that were read

pub row_join : (A B : Language) (s : List ℕ) (p k : ℕ) → Reads A s (Ok p) → B (take k (take (length s - p) (drop p s))) → Then A B (take (p + k) s)
unfolding Then
row_join A B s p k first second = (take p s, take k (drop p s), take-add p k s, first.text, subst (λ t. B (take k t)) (rest_of s p) second)

pub names_join : (s : List ℕ) (p k n : ℕ) → Reads QuotedName s (Ok p) → Times NextName n (take k (take (length s - p) (drop p s))) → NamesAnd n (take (p + k) s)
unfolding NamesAnd
names_join s p k n first others = row_join QuotedName (Times NextName n) s p k first others

pub rows_join : (more : ℕ) (s : List ℕ) (p k n : ℕ) → Reads (Row more) s (Ok p) → Times (FurtherRow more) n (take k (take (length s - p) (drop p s))) → IsRows more (n + 1) (take (p + k) s)
rows_join more s p k n first others = record { others = n; filled = row_join (Row more) (Times (FurtherRow more) n) s p k first others; count_is = refl }

pub values_join : (more count : ℕ) (s : List ℕ) (p k : ℕ) → Reads (Fixed (codes ") VALUES\n")) s (Ok p) → IsRows more count (take k (take (length s - p) (drop p s))) → HasValues more count (take (p + k) s)
unfolding Fixed
values_join more count s p k word rows = record {
  body = take k (drop p s);
  text_is = take-add p k s ∙ ap (λ l. l ++ take k (drop p s)) word.text;
  filled = subst (λ t. IsRows more count (take k t)) (rest_of s p) rows;
}

-- the columns and what they ask for

unfoldable pub ValuesAfter : List ℕ → Language
ValuesAfter names text = (more : ℕ) × NamesAnd more names × Values more text

unfoldable pub Named : Language
Named = Next Names ValuesAfter

filled_to : (t : List ℕ) → Filled t → Then (Fixed (codes " (")) Named t
unfolding Filled Named Next Then ValuesAfter Values Names NamesAnd Many
filled_to t (more, (a, b, e, begin, (n, v, split, (x, y, parts, name, others), values))) = (a, b, e, begin, (n, v, split, (x, y, parts, name, (more, others)), (more, (x, y, parts, name, others), values)))

to_filled : (t : List ℕ) → Then (Fixed (codes " (")) Named t → Filled t
unfolding Filled Named Next Then ValuesAfter Values
to_filled t (a, b, e, begin, (n, v, split, names, (more, named, values))) = (more, (a, b, e, begin, (n, v, split, named, values)))

names_counted : (a : List ℕ) → Names a → (more : ℕ) × NamesAnd more a
unfolding Names NamesAnd Then Many
names_counted a (x, y, e, name, (n, others)) = (n, (x, y, e, name, others))

one_times : (m n : ℕ) (t : List ℕ) → Times NextName m t → Times NextName n t → m ≡ n
unfolding Times Then Nothing
one_times zero zero t one other = refl
one_times zero (suc n) t none (a, b, e, first, rest) = absurd (no_empty_next_name (subst NextName (front a b (sym e ∙ none)) first)) where
  front : (a b : List ℕ) → a ++ b ≡ [] → a ≡ []
  front [] b e = refl
  front (c ∷ a) b e = cc
one_times (suc m) zero t (a, b, e, first, rest) none = absurd (no_empty_next_name (subst NextName (front a b (sym e ∙ none)) first)) where
  front : (a b : List ℕ) → a ++ b ≡ [] → a ≡ []
  front [] b e = refl
  front (c ∷ a) b e = cc
one_times (suc m) (suc n) t (a, b, e, first, rest) (c, d, f, other, more) =
    let cut = one_cut_apart NextName (Many NextName) a b c d apart_next_name first other (many_of NextName m b rest) (many_of NextName n d more) (sym e ∙ f) in
    ap suc (one_times m n b rest (subst (Times NextName n) (sym cut.1) more))

-- A list of names has one number of them.
one_number : (m n : ℕ) (t : List ℕ) → NamesAnd m t → NamesAnd n t → m ≡ n
unfolding NamesAnd Then
one_number m n t (a, b, e, first, rest) (c, d, f, other, more) =
    let cut = one_cut_apart QuotedName (Many NextName) a b c d apart_first_name first other (many_of NextName m b rest) (many_of NextName n d more) (sym e ∙ f) in
    one_times m n b rest (subst (Times NextName n) (sym cut.1) more)

begins_after : (a : List ℕ) → Names a → Begins (ValuesAfter a) []
unfolding Begins ValuesAfter
begins_after a names = let (more, named) = names_counted a names in let (t, values) = begins_values more in (t, (more, named, values))

starts_after : (a : List ℕ) → Starts (ValuesAfter a) (λ c. c ≡ 41)
unfolding Starts ValuesAfter Values
starts_after a c y (more, named, values) = starts_then (Fixed (codes ") VALUES\n")) (Rows more) (λ c. c ≡ 41) (no_empty_fixed 41 _) (starts_fixed 41 _) c y values

not_close : (c : ℕ) → (c ≡ 96) ⊎ (c ≡ 44) → c ≡ 41 → ⊥
not_close c (inl quote) close = omega arith
not_close c (inr comma) close = omega arith

apart_names : NextApart Names ValuesAfter
apart_names = next_apart_by Names ValuesAfter _ _ lengthens_names (λ a names. starts_after a) not_close

begins_named : Begins Named []
unfolding Named
begins_named = begins_next Names ValuesAfter begins_names begins_after

pub begins_filled : Begins Filled []
unfolding Begins
begins_filled = let (t, text) = begins_then (Fixed (codes " (")) Named (begins_fixed _) begins_named in (t, to_filled t text)

pub filled_begun : (s : List ℕ) (p : ℕ) → Reads (Fixed (codes " (")) s (Ok p) → Onward Filled Named s p
filled_begun s p reads = subst (Onward Filled Named s) (zero-add p)
    (onward_then Filled (Fixed (codes " (")) Named s 0 p (Ok p) (onward_same Filled Filled (Then (Fixed (codes " (")) Named) s 0 filled_to to_filled (onward_start Filled s)) (fixed_apart _ _) (rw (whole_taken s) reads) refl)

pub filled_broken : (s : List ℕ) (p : ℕ) → Reads (Fixed (codes " (")) s (Err p) → Reads Filled s (Err p)
filled_broken s p reads = reads_same (Then (Fixed (codes " (")) Named) Filled s (Err p) to_filled filled_to (then_broken (Fixed (codes " (")) Named s p (fixed_apart _ _) begins_named reads)

values_of_number : (a : List ℕ) (n : ℕ) → NamesAnd n a → (t : List ℕ) → ValuesAfter a t → Values n t
unfolding ValuesAfter
values_of_number a n named t (more, other, values) = subst (λ m. Values m t) (one_number more n a other named) values

number_of_values : (a : List ℕ) (n : ℕ) → NamesAnd n a → (t : List ℕ) → Values n t → ValuesAfter a t
unfolding ValuesAfter
number_of_values a n named t values = (n, named, values)

pub filled_named : (s : List ℕ) (p k n : ℕ) → Onward Filled Named s p → Reads Names (take (length s - p) (drop p s)) (Ok k) → NamesAnd n (take k (take (length s - p) (drop p s))) → Onward Filled (Values n) s (p + k)
unfolding Named
filled_named s p k n onward reads named =
    let here : NamesAnd n (take k (drop p s)) = subst (λ t. NamesAnd n (take k t)) (rest_of s p) named in
    onward_same Filled (ValuesAfter (take k (drop p s))) (Values n) s (p + k) (values_of_number (take k (drop p s)) n here) (number_of_values (take k (drop p s)) n here)
    (onward_next Filled Names ValuesAfter s p k (Ok k) onward apart_names reads refl)

pub filled_names_broken : (s : List ℕ) (p q : ℕ) → Onward Filled Named s p → Reads Names (take (length s - p) (drop p s)) (Err q) → Reads Filled s (Err (p + q))
unfolding Named
filled_names_broken s p q onward reads = onward_next_broken Filled Names ValuesAfter s p q (Err q) onward apart_names begins_after reads refl

pub filled_values : (s : List ℕ) (at n : ℕ) (r : Result ℕ ℕ) → Onward Filled (Values n) s at → Reads (Values n) (take (length s - at) (drop at s)) r → Reads Filled s (shift at r)
filled_values s at n r onward reads = onward_last Filled (Values n) s at r onward reads

fixed_size : (w s : List ℕ) (p : ℕ) → Reads (Fixed w) s (Ok p) → p ≡ length w
unfolding Fixed
fixed_size w s p reads = sym (length-take-le p s reads.place.within) ∙ ap length reads.text

pub filled_is : (s : List ℕ) (p k q n rows : ℕ) → Reads (Fixed (codes " (")) s (Ok p) → Reads Names (take (length s - p) (drop p s)) (Ok k) → NamesAnd n (take k (take (length s - p) (drop p s))) → HasValues n rows (take q (take (length s - (p + k)) (drop (p + k) s))) → IsFilled s (p + k) rows (p + k + q)
unfolding Fixed
filled_is s p k q n rows word names named values =
    let two : p ≡ 2 = fixed_size (codes " (") s p word in
    let after : (p + k) - 2 ≡ k = omega arith in
    let there : take ((p + k) - 2) (drop 2 s) ≡ take k (drop p s) = (λ i. take (after i) (drop (sym two i) s)) in
    record {
      more = n;
      rest = take q (drop (p + k) s);
      low = omega arith;
      within = omega (arith, names.place.within, word.place.within, length-drop p s, ap length (rest_of s p));
      text_is = take-add (p + k) q s ∙ ap (λ l. l ++ take q (drop (p + k) s)) (take-add p k s ∙ ap (λ l. l ++ take k (drop p s)) word.text ∙ ap (λ l. codes " (" ++ l) (sym there));
      named = subst (NamesAnd n) (sym there) (subst (λ t. NamesAnd n (take k t)) (rest_of s p) named);
      filled = subst (λ t. HasValues n rows (take q t)) (rest_of s (p + k)) values;
    }

starts_filled : Starts Filled (λ c. c ≡ 32)
unfolding Starts
starts_filled c y text = starts_then (Fixed (codes " (")) Named (λ c. c ≡ 32) (no_empty_fixed 32 _) (starts_fixed 32 _) c y (filled_to (c ∷ y) text)

not_space : (c : ℕ) → c ≡ 96 → c ≡ 32 → ⊥
not_space c quote space = omega arith

pub apart_filled : Apart QuotedName Filled
apart_filled = apart_by QuotedName Filled _ _ lengthens_name starts_filled not_space

pub begins_named_filled : Begins (Then QuotedName Filled) []
begins_named_filled = begins_then _ _ begins_name begins_filled

-- a name that is known

fixed_parts : (L : Language) (a b s : List ℕ) (at : ℕ) → Onward L (Fixed (a ++ b)) s at → Onward L (Then (Fixed a) (Fixed b)) s at
unfolding Fixed Then
fixed_parts L a b s at onward = onward_same L (Fixed (a ++ b)) (Then (Fixed a) (Fixed b)) s at (λ t is. (a, b, is, refl, refl)) (λ t (x, y, e, left, right). e ∙ (λ i. left i ++ right i)) onward

-- One part of a fixed text is read: the rest is left.
pub fixed_more : (L : Language) (a b s : List ℕ) (at k : ℕ) → Onward L (Fixed (a ++ b)) s at → Reads (Fixed a) (take (length s - at) (drop at s)) (Ok k) → Onward L (Fixed b) s (at + k)
fixed_more L a b s at k onward reads = onward_then L (Fixed a) (Fixed b) s at k (Ok k) (fixed_parts L a b s at onward) (fixed_apart _ _) reads refl

pub fixed_stuck : (L : Language) (a b s : List ℕ) (at p : ℕ) → Onward L (Fixed (a ++ b)) s at → Reads (Fixed a) (take (length s - at) (drop at s)) (Err p) → Reads L s (Err (at + p))
fixed_stuck L a b s at p onward reads = onward_broken L (Fixed a) (Fixed b) s at p (Err p) (fixed_parts L a b s at onward) (fixed_apart _ _) (begins_fixed b) reads refl

pub fixed_begun : (a b s : List ℕ) (k : ℕ) → Reads (Fixed a) s (Ok k) → Onward (Fixed (a ++ b)) (Fixed b) s k
fixed_begun a b s k reads = subst (λ n. Onward (Fixed (a ++ b)) (Fixed b) s n) (zero-add k) (fixed_more (Fixed (a ++ b)) a b s 0 k (onward_start (Fixed (a ++ b)) s) (rw (whole_taken s) reads))

pub fixed_refused_first : (a b s : List ℕ) (p : ℕ) → Reads (Fixed a) s (Err p) → Reads (Fixed (a ++ b)) s (Err p)
fixed_refused_first a b s p reads = subst (λ n. Reads (Fixed (a ++ b)) s (Err n)) (zero-add p) (fixed_stuck (Fixed (a ++ b)) a b s 0 p (onward_start (Fixed (a ++ b)) s) (rw (whole_taken s) reads))

-- what of a name is still to come, after i of its bytes
abbrev pub name_rest : List ℕ → ℕ → List ℕ
name_rest name i = flat_map name_byte (drop i name) ++ 96 ∷ []

rest_step : (name : List ℕ) (i d : ℕ) → i < length name → name_rest name i ≡ name_byte (get_or name i d) ++ name_rest name (i + 1)
rest_step name i d within =
    ap (λ l. flat_map name_byte l ++ 96 ∷ []) (drop-cons name i d within ∙ ap (λ k. get_or name i d ∷ drop k name) (sym (add-one i))) ∙ append_assoc (name_byte (get_or name i d)) (flat_map name_byte (drop (i + 1) name)) (96 ∷ [])

pub name_begun : (name s : List ℕ) (k : ℕ) → Reads (Fixed (96 ∷ [])) s (Ok k) → Onward (Fixed (quoted_name name)) (Fixed (name_rest name 0)) s k
name_begun name s k reads = fixed_begun (96 ∷ []) (name_rest name 0) s k reads

pub name_more : (name s : List ℕ) (i d at k : ℕ) → i < length name → Onward (Fixed (quoted_name name)) (Fixed (name_rest name i)) s at → Reads (Fixed (name_byte (get_or name i d))) (take (length s - at) (drop at s)) (Ok k) → Onward (Fixed (quoted_name name)) (Fixed (name_rest name (i + 1))) s (at + k)
name_more name s i d at k within onward reads =
    fixed_more (Fixed (quoted_name name)) (name_byte (get_or name i d)) (name_rest name (i + 1)) s at k (subst (λ l. Onward (Fixed (quoted_name name)) (Fixed l) s at) (rest_step name i d within) onward) reads

pub name_stuck : (name s : List ℕ) (i d at p : ℕ) → i < length name → Onward (Fixed (quoted_name name)) (Fixed (name_rest name i)) s at → Reads (Fixed (name_byte (get_or name i d))) (take (length s - at) (drop at s)) (Err p) → Reads (Fixed (quoted_name name)) s (Err (at + p))
name_stuck name s i d at p within onward reads =
    fixed_stuck (Fixed (quoted_name name)) (name_byte (get_or name i d)) (name_rest name (i + 1)) s at p (subst (λ l. Onward (Fixed (quoted_name name)) (Fixed l) s at) (rest_step name i d within) onward) reads

pub name_end : (name s : List ℕ) (i at : ℕ) (r q : Result ℕ ℕ) → i ≡ length name → Onward (Fixed (quoted_name name)) (Fixed (name_rest name i)) s at → Reads (Fixed (96 ∷ [])) (take (length s - at) (drop at s)) r → q ≡ shift at r → Reads (Fixed (quoted_name name)) s q
name_end name s i at r q all onward reads is =
    let none : drop i name ≡ [] = drop_all i name (omega arith) in
    onward_answer (Fixed (quoted_name name)) (Fixed (96 ∷ [])) s at r q (subst (λ l. Onward (Fixed (quoted_name name)) (Fixed (flat_map name_byte l ++ 96 ∷ [])) s at) none onward) reads is

-- the whole INSERT

fixed_then : (a b t : List ℕ) → Then (Fixed a) (Fixed b) t → Fixed (a ++ b) t
unfolding Fixed Then
fixed_then a b t (x, y, e, left, right) = e ∙ (λ i. left i ++ right i)

then_fixed : (a b t : List ℕ) → Fixed (a ++ b) t → Then (Fixed a) (Fixed b) t
unfolding Fixed Then
then_fixed a b t is = (a, b, is, refl, refl)

-- Two fixed texts in a row are one.
pub fixed_row : (a b s : List ℕ) (r : Result ℕ ℕ) → Reads (Then (Fixed a) (Fixed b)) s r → Reads (Fixed (a ++ b)) s r
fixed_row a b s r reads = reads_same (Then (Fixed a) (Fixed b)) (Fixed (a ++ b)) s r (fixed_then a b) (then_fixed a b) reads

pub head_refused : (table text : List ℕ) (p : ℕ) → Reads (Fixed (codes "INSERT INTO " ++ quoted_name table)) text (Err p) → Refused (InsertInto table) text p
unfolding InsertInto
head_refused table text p reads = refused_broken _ text p (then_broken (Fixed (codes "INSERT INTO " ++ quoted_name table)) Filled text p (fixed_apart _ _) begins_filled reads)

pub rest_refused : (table text : List ℕ) (p q : ℕ) → Reads (Fixed (codes "INSERT INTO " ++ quoted_name table)) text (Ok p) → Refused Filled (take (length text - p) (drop p text)) q → Refused (InsertInto table) text (p + q)
unfolding InsertInto
rest_refused table text p q head refused = refused_row (Fixed (codes "INSERT INTO " ++ quoted_name table)) Filled text p q (fixed_apart _ _) head refused

pub insert_has : (table text : List ℕ) (p columns rows size : ℕ) → Reads (Fixed (codes "INSERT INTO " ++ quoted_name table)) text (Ok p) → IsFilled (take (length text - p) (drop p text)) columns rows size → p + size ≡ length text → HasRows table text (take ((p + columns) - (p + 2)) (drop (p + 2) text)) rows
unfolding Fixed
insert_has table text p columns rows size head found all =
    let rest : take (length text - p) (drop p text) ≡ drop p text = rest_of text p in
    let whole : take size (take (length text - p) (drop p text)) ≡ drop p text = ap (take size) rest ∙ take_all size (drop p text) (omega (arith, length-drop p text)) in
    let there : take (columns - 2) (drop 2 (take (length text - p) (drop p text))) ≡ take ((p + columns) - (p + 2)) (drop (p + 2) text) =
    ap (λ t. take (columns - 2) (drop 2 t)) rest ∙ ap (take (columns - 2)) (drop-drop 2 p text) ∙ ap (λ n. take n (drop (p + 2) text)) (omega arith) in
    record {
      more = found.more;
      body = found.filled.body;
      text_is = sym (take-append-drop p text) ∙ (λ i. head.text i ++ sym whole i)
          ∙ ap (λ t. codes "INSERT INTO " ++ quoted_name table ++ t) (found.text_is ∙ (λ i. codes " (" ++ there i ++ found.filled.text_is i))
          ∙ glued (codes "INSERT INTO ") (quoted_name table) (codes " (") (take ((p + columns) - (p + 2)) (drop (p + 2) text)) (codes ") VALUES\n") found.filled.body;
      named = subst (NamesAnd found.more) there found.named;
      others = found.filled.filled.others;
      filled = found.filled.filled.filled;
      count = found.filled.filled.count_is;
    } where
      glued : (a b c d e f : List ℕ) → (a ++ b) ++ ((c ++ d) ++ (e ++ f)) ≡ a ++ b ++ c ++ d ++ e ++ f
      glued a b c d e f = simp append_assoc
