-- By which of their first bytes texts of statements are told apart, and that a text is read as one statement.
use Rattle.std.proofs.Common.{◌≡◌, ℕ, ◌==◌, ◌||◌, Bool, true, false, List, [], ◌∷◌, ◌++◌, refl, ap, sym, ◌∙◌, arith, ◌<◌, ◌⊎◌, inl, inr}
use Rattle.std.proofs.lemmas.Bool.{true≢false}
use Rattle.grammar.specs.Language.{Fixed, Then}
use Rattle.statement_forms.specs.Insert.{AnyInsert}
use Rattle.statement_forms.specs.Statement.{IsReadAs, list_row}
use Rattle.statement_forms.specs.Text.{query_text}
use Rattle.statement_forms.specs.declared.query.Query.{Query}
use Rattle.statement_forms.specs.declared.query.Query.TheVariants.{MasterStatus, BinaryLogStatus, CreateDatabase, CreateTable, CreateView, CreateProcedure, CreateFunction, CreateTrigger, CreateEvent}
use Rattle.statement_forms.specs.declared.statement.Statement.{Statement}

unfoldable pub first : List ℕ → ℕ
first [] = 0
first (byte ∷ bytes) = byte

unfoldable pub third : List ℕ → ℕ
third (byte ∷ next ∷ after ∷ bytes) = after
third bytes = 0

-- the third byte of SELECT or of SHOW
abbrev pub is_third : ℕ → Bool
is_third byte = byte == 76 || byte == 79

query_third : (query : Query) → is_third (third (query_text query)) ≡ true
unfolding query_text third
query_third MasterStatus = refl
query_third BinaryLogStatus = refl
query_third (CreateDatabase in_schema) = refl
query_third (CreateTable in_schema name) = refl
query_third (CreateView in_schema name) = refl
query_third (CreateProcedure in_schema name) = refl
query_third (CreateFunction in_schema name) = refl
query_third (CreateTrigger in_schema name) = refl
query_third (CreateEvent in_schema name) = refl
query_third query = refl

-- a text with another third byte is no query's
pub no_query : (text : List ℕ) (query : Query) → text ≡ query_text query → is_third (third text) ≡ false → ⊥
no_query text query is other = true≢false (sym (query_third query) ∙ (ap (λ (bytes : List ℕ). is_third (third bytes)) (sym is) ∙ other))

-- an INSERT begins with an I
pub insert_first : (text : List ℕ) → AnyInsert text → first text ≡ 73
unfolding AnyInsert Then Fixed first
insert_first text insert = ap first (insert.2 ∙ ap (λ (front : List ℕ). front ++ insert.1) insert.3)

-- a text is read as one statement
pub one_statement : (text : List ℕ) (one other : Statement) → IsReadAs text one → IsReadAs text other → other ≡ one
one_statement text one other reads also = by_rows (reads.latest other also.text_of) (also.latest one reads.text_of)
  where
    by_rows : (list_row other < list_row one) ⊎ (other ≡ one) → (list_row one < list_row other) ⊎ (one ≡ other) → other ≡ one
    by_rows (inr same) later = same
    by_rows (inl below) (inr same) = sym same
    by_rows (inl below) (inl above) = absurd (omega arith)
