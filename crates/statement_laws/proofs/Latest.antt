-- Which statement a text is read as, by the rows.
use Rattle.std.proofs.Common.{◌≡◌, ◌==◌, ◌||◌, ◌&&◌, ◌⊎◌, inl, inr, ℕ, zero, suc, ◌+◌, ◌-◌, ◌<◌, ◌≤◌, arith, Bool, true, false, List, refl, sym, subst}
use Rattle.std.proofs.lemmas.Bool.{cases_lt}
use Rattle.std.proofs.lemmas.Bool.Decides.{Decides-eqb}
use Rattle.object_forms.specs.Head.{HasHead}
use Rattle.statement_forms.specs.Statement.{IsTextOf, IsReadAs, list_row}
use Rattle.statement_forms.specs.Text.{command_text}
use Rattle.statement_forms.specs.declared.statement.Statement.{Statement}
use Rattle.statement_forms.specs.declared.statement.Statement.TheVariants.{Command as SomeCommand}
use Rattle.statement_forms.specs.declared.command.Command.TheVariants.{Create}
use Rattle.statement_reading.proofs.RowValues.{values_of}
use Rattle.statement_reading.proofs.Rows.{made_of, row_below}
use Rattle.statement_laws.proofs.Heads.{makes_object, no_head_elsewhere}
use Rattle.statement_laws.proofs.Marks.{apart, mark, told_apart}
use Rattle.statement_laws.proofs.Same.{one_in_row}

-- the marks of so many rows from there on are apart from that of the row, but for some rows
abbrev pub all_later : (ℕ → Bool) → ℕ → ℕ → ℕ → Bool
all_later but row zero from = true
all_later but row (suc k) from = (but from || apart (mark row) (mark from)) && all_later but row k (suc from)

pub and_left : (a b : Bool) → (a && b) ≡ true → a ≡ true
and_left true b e = refl
and_left false b e = e

pub and_right : (a b : Bool) → (a && b) ≡ true → b ≡ true
and_right true b e = e
and_right false b e = absurd (cc e)

pub or_cases : (a b : Bool) → (a || b) ≡ true → (a ≡ true) ⊎ (b ≡ true)
or_cases true b e = inl refl
or_cases false b e = inr e

later_at : (but : ℕ → Bool) (row k from m : ℕ) → all_later but row k from ≡ true → from ≤ m → m < from + k → (but m || apart (mark row) (mark m)) ≡ true
later_at but row zero from m e low high = absurd (omega arith)
later_at but row (suc k) from m e low high = elim (cases_lt from m) [
  | inl more ↦ later_at but row k (suc from) m (and_right (but from || apart (mark row) (mark from)) (all_later but row k (suc from)) e) (omega arith) (omega arith)
  | inr most ↦ let same : from ≡ m = omega arith in subst (λ (n : ℕ). (but n || apart (mark row) (mark n)) ≡ true) same (and_left (but from || apart (mark row) (mark from)) (all_later but row k (suc from)) e)
]

-- A text is read as its statement, where no later row has it: the marks tell, but for some rows.
pub read_but : (but : ℕ → Bool) (s : Statement) (text : List ℕ) → IsTextOf s text → all_later but (list_row s) (58 - list_row s) (suc (list_row s)) ≡ true → ((other : Statement) → but (list_row other) ≡ true → list_row s < list_row other → IsTextOf other text → ⊥) → IsReadAs text s
read_but but s text is test none = record {
  text_of = is;
  latest = λ other also. elim (cases_lt (list_row other) (list_row s)) [
    | inl less ↦ inl less
    | inr least ↦ elim (cases_lt (list_row s) (list_row other)) [
      | inl more ↦ absurd (not_later other also more)
      | inr most ↦ inr (one_in_row s other text is also (omega arith))
    ]
  ];
} where
  not_later : (other : Statement) → IsTextOf other text → list_row s < list_row other → ⊥
  not_later other also more = elim (or_cases _ _ (later_at but (list_row s) (58 - list_row s) (suc (list_row s)) (list_row other) test (omega arith) (omega (arith, row_below other)))) [
    | inl here ↦ none other here more also
    | inr differ ↦ told_apart s other text is also differ
  ]

-- the number is that row
abbrev pub is_row : ℕ → ℕ → Bool
is_row row m = m == row

pub row_is : (row m : ℕ) → is_row row m ≡ true → m ≡ row
row_is row m e = (Decides-eqb m row).0 e

-- The text of an object has a head.
pub object_head : (other : Statement) (text : List ℕ) → list_row other ≡ 20 → IsTextOf other text → HasHead text
unfolding command_text
object_head other text row also =
    let here : IsTextOf (SomeCommand (Create (values_of other).a)) text = subst (λ (k : Statement). IsTextOf k text) (made_of 20 other row) also in
    subst (λ (l : List ℕ). HasHead l) (sym here.1) here.0

-- A text without a head is read as its statement, where the marks of all later rows are apart.
pub read_plain : (s : Statement) (text : List ℕ) → IsTextOf s text → all_later (is_row 20) (list_row s) (58 - list_row s) (suc (list_row s)) ≡ true → makes_object (list_row s) ≡ false → IsReadAs text s
read_plain s text is test plain = read_but (is_row 20) s text is test
    (λ other here more also. no_head_elsewhere s text is plain (object_head other text (row_is 20 (list_row other) here) also))
