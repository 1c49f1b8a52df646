-- What is told of a view, and of routines beside it.
use Rattle.std.proofs.Common.{ℕ, List, [], ◌∷◌, Option, Some, None, refl, ap, sym, ◌∙◌}
use Rattle.server_data.specs.Bag.{count_of}
use Rattle.server_data.specs.declared.data.Settings.{Settings}
use Rattle.sql_cells.specs.declared.cell.Cell.{Cell}
use Rattle.sql_cells.specs.declared.cell.Cell.TheVariants.{Value}
use Rattle.honest_examples.specs.Routines.{RoutinesAreListed, function, procedure, settings}
use Rattle.honest_examples.specs.Views.{AViewIsShownWithItsSettings, WhatAViewNeedsIsTold, view}
use Rattle.honest_examples.specs.Worked.{schema, table}
use Rattle.honest_examples.proofs.Bags.{other_order, same_rows}

-- the character set of a view's row, and of its settings
client_told : List (List Cell) → List ℕ
client_told ((first ∷ cell ∷ Value client ∷ more) ∷ others) = client
client_told found = []

client_of : Option Settings → List ℕ
client_of None = []
client_of (Some made) = made.client

pub view_shown : AViewIsShownWithItsSettings
unfolding client_told client_of
view_shown = record {
  allowed = record { settings = record settings { sql_mode = [] }; settings_are = refl; first = Value view; more = []; rows_are = refl };
  withheld = λ shows. absurd (cc (shows.rows_are));
  refused = λ shows. absurd (cc (ap client_told shows.rows_are ∙ sym (ap client_of shows.settings_are)));
}

pub needs_told : WhatAViewNeedsIsTold
unfolding count_of
needs_told = record {
  allowed = same_rows _;
  elsewhere = same_rows _;
  refused = λ answer. absurd (cc (answer.counts (Value view ∷ Value schema ∷ Value table ∷ [])));
}

pub routines_listed : RoutinesAreListed
unfolding count_of
routines_listed = record {
  allowed = other_order function procedure;
  refused = λ answer. absurd (cc (answer.counts procedure));
}
