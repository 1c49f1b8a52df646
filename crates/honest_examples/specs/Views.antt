-- A view, and what is told of it.
use Rattle.std.specs.Prelude.{ℕ, List, [], ◌∷◌, codes}
use Rattle.server_data.specs.declared.data.Database.{Database}
use Rattle.server_data.specs.declared.data.Object.{Object}
use Rattle.sql_cells.specs.declared.cell.Cell.{Cell}
use Rattle.sql_cells.specs.declared.cell.Cell.TheVariants.{Null, Value}
use Rattle.statement_forms.specs.declared.query.Query.TheVariants.{CreateView, ViewNeeds}
use Rattle.honest_server.specs.Answer.{Answers}
use Rattle.honest_examples.specs.Answered.{no_table_err}
use Rattle.honest_examples.specs.Routines.{the_view}
use Rattle.honest_examples.specs.Worked.{schema, table, the_schema, the_table}

-- the name of the view
abbrev pub view : List ℕ
view = codes "v"

-- the text that makes it
abbrev pub text : List ℕ
text = codes "CREATE VIEW `v` AS SELECT `a` FROM `t`"

-- a view that needs the worked table
abbrev pub on_table : Object
on_table = record the_view { text = text; needs = record { schema = schema; name = table } ∷ [] }

-- the schema, the table and the view
abbrev pub viewed : Database
viewed = record { objects = the_schema ∷ the_table ∷ on_table ∷ []; rows = [] }

-- the row that SHOW CREATE VIEW shows, with this text and this client character set
abbrev pub shown : Cell → List ℕ → List (List Cell)
shown told client = (Value view ∷ told ∷ Value client ∷ Value (codes "utf8mb4_bin") ∷ []) ∷ []

-- a view's text is shown with its settings, and is never withheld
pub record AViewIsShownWithItsSettings : Type 0 where
  pub allowed : Answers viewed (CreateView schema view) (shown (Value text) (codes "utf8mb4"))
  pub withheld : Answers viewed (CreateView schema view) (shown Null (codes "utf8mb4")) → ⊥
  pub refused : Answers viewed (CreateView schema view) (shown (Value text) (codes "latin1")) → ⊥

-- a view is told beside each thing that it needs
pub record WhatAViewNeedsIsTold : Type 0 where
  pub allowed : Answers viewed (ViewNeeds schema)
      ((Value view ∷ Value schema ∷ Value table ∷ []) ∷ [])
  pub elsewhere : Answers viewed (ViewNeeds no_table_err) []
  pub refused : Answers viewed (ViewNeeds schema) [] → ⊥
