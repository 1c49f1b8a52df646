-- What the worked texts say, and where the worked histories end.
use lib.Utf8.{encode}
use Rattle.std.proofs.Common.{◌≡◌, true, List, [], ◌∷◌, Some, None, refl, ap}
use Rattle.std.specs.Str.{chars, is_utf8}
use Rattle.object_forms.specs.Shape.{counter}
use Rattle.object_forms.specs.Token.{tokens}
use Rattle.server_data.specs.Fold.{change_db, db, has_object, may_make, rows_of}
use Rattle.sql_cells.specs.declared.cell.Cell.{Cell}
use Rattle.honest_server.specs.WellFormed.{HasItsHead, IsShaped, is_name}
use Rattle.honest_examples.specs.Worked.{database, history, no_rows, schema, schema_alone, table, table_text, the_schema, the_table, with_rows}

pub schema_head : HasItsHead the_schema
unfolding tokens
schema_head = record { found = _; is_making = refl; kind = refl; name = refl; schema = tt; own = λ e. refl }

pub table_head : HasItsHead the_table
unfolding tokens
table_head = record { found = _; is_making = refl; kind = refl; name = refl; schema = tt; own = λ e. cc }

pub table_shape : IsShaped the_table
unfolding tokens is_utf8 chars encode
table_shape = record { found = _; is_shape = refl; columns = refl; key = refl }

pub no_counter : counter table_text ≡ None
unfolding tokens is_utf8 chars encode
no_counter = refl

pub schema_named : is_name schema ≡ true
unfolding is_utf8 chars encode
schema_named = refl

pub table_named : is_name table ≡ true
unfolding is_utf8 chars encode
table_named = refl

pub stands : db history ≡ Some database
unfolding change_db has_object may_make
stands = refl

pub stands_alone : db schema_alone ≡ Some (record { objects = the_schema ∷ []; rows = [] })
unfolding change_db has_object may_make
stands_alone = refl

pub stands_empty : db no_rows ≡ Some (with_rows [])
unfolding change_db has_object may_make
stands_empty = refl

-- the rows of the table are those that it was made with
pub rows_are : (rows : List (List Cell)) → rows_of (with_rows rows) schema table ≡ rows
unfolding rows_of
rows_are [] = refl
rows_are (cells ∷ rows) = ap (λ (rows : List (List Cell)). cells ∷ rows) (rows_are rows)
