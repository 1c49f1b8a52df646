-- Transactions that keep the catalogue, and one that doesn't.
use Rattle.std.proofs.Common.{◌≡◌, ℕ, List, [], ◌∷◌, ◌++◌, Some, refl, ap, sym, ◌∙◌, subst, codes}
use Rattle.object_forms.specs.declared.kind.Kind.{Kind}
use Rattle.server_data.specs.Fold.{change_db, db, with_row}
use Rattle.server_data.specs.declared.data.Change.{Change}
use Rattle.server_data.specs.declared.data.Change.TheVariants.{Drop, Make}
use Rattle.server_data.specs.declared.data.Database.{Database}
use Rattle.server_data.specs.declared.data.Object.{Object}
use Rattle.server_data.specs.declared.data.Transaction.{Transaction}
use Rattle.sql_cells.specs.declared.cell.Cell.{Cell}
use Rattle.sql_cells.specs.declared.cell.Cell.TheVariants.{Value}
use Rattle.honest_server.specs.Catalogue.{AreOfRows, IsOfRow, KeepCatalogue, KeepsCatalogue, a_rise, a_row, no_more, one_more}
use Rattle.honest_examples.specs.Worked.{history, one, put, row, schema, table, three, two, unmarked, with_rows}
use Rattle.honest_examples.proofs.Worked.{stands}

-- what makes an object isn't of rows
no_make : {old new : Database} {changes : List Change} → AreOfRows old changes new → (object : Object) → changes ≡ Make object ∷ [] → ⊥
no_make no_more object is = absurd (cc)
no_make (a_row {change = change} of_row fits others) object is = let same : change ≡ Make object = cc in subst IsOfRow same of_row
no_make (a_rise {rise = rise} {changes = changes} rises fits is_whole others) object is = absurd (cc (sym is ∙ (is_whole ∙ ap (λ (front : List Change). front ++ changes) rises.changes_are)))

no_first_make : {old new : Database} {more : List Transaction} → KeepCatalogue old more new → (one : Transaction) (object : Object) → more ≡ one ∷ [] → one.changes ≡ Make object ∷ [] → ⊥
no_first_make no_more one object is makes = absurd (cc)
no_first_make (one_more {one = first} of_rows others) one object is makes = let same : first ≡ one = cc in no_make of_rows object (ap (λ (t : Transaction). t.changes) same ∙ makes)

-- nor is what only drops one
no_drop : {old new : Database} {changes : List Change} → AreOfRows old changes new → (kind : Kind) (in_schema name : List ℕ) → changes ≡ Drop kind in_schema name ∷ [] → ⊥
no_drop no_more kind in_schema name is = absurd (cc)
no_drop (a_row {change = change} of_row fits others) kind in_schema name is = let same : change ≡ Drop kind in_schema name = cc in subst IsOfRow same of_row
no_drop (a_rise {rise = rise} {changes = changes} rises fits is_whole others) kind in_schema name is = absurd (cc (sym is ∙ (is_whole ∙ ap (λ (front : List Change). front ++ changes) rises.changes_are)))

no_first_drop : {old new : Database} {more : List Transaction} → KeepCatalogue old more new → (one : Transaction) (kind : Kind) (in_schema name : List ℕ) → more ≡ one ∷ [] → one.changes ≡ Drop kind in_schema name ∷ [] → ⊥
no_first_drop no_more one kind in_schema name is drops = absurd (cc)
no_first_drop (one_more {one = first} of_rows others) one kind in_schema name is drops = let same : first ≡ one = cc in no_drop of_rows kind in_schema name (ap (λ (t : Transaction). t.changes) same ∙ drops)

pub drops_nothing : (before : List Transaction) (one : Transaction) (kind : Kind) (in_schema name : List ℕ) → one.changes ≡ Drop kind in_schema name ∷ [] → KeepsCatalogue before (one ∷ []) → ⊥
drops_nothing before one kind in_schema name drops keeps = no_first_drop keeps.keeps one kind in_schema name refl drops

pub makes_nothing : (before : List Transaction) (one : Transaction) (object : Object) → one.changes ≡ Make object ∷ [] → KeepsCatalogue before (one ∷ []) → ⊥
makes_nothing before one object makes keeps = no_first_make keeps.keeps one object refl makes

-- no transactions keep it
pub keeps_nothing : (before : List Transaction) (end : Database) → db before ≡ Some end → KeepsCatalogue before []
keeps_nothing before end ends = record { old = end; new = end; stands = ends; keeps = no_more }

-- a row that is put into the worked table does
pub keeps_row : (before : List Transaction) (rows : List (List Cell)) (key : List ℕ) (cell : Cell) → db before ≡ Some (with_rows rows) → KeepsCatalogue before (unmarked (put (row key cell) ∷ []) ∷ [])
unfolding change_db
keeps_row before rows key cell ends = record { old = with_rows rows; new = with_row (with_rows rows) schema table (row key cell); stands = ends; keeps = one_more (a_row tt refl no_more) no_more }

-- and so the row (3,'c') after the worked history
pub keeps_three : KeepsCatalogue history (unmarked (put three ∷ []) ∷ [])
keeps_three = keeps_row history (one ∷ two ∷ []) (codes "3") (Value (codes "c")) stands
