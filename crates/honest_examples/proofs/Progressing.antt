-- The progress of a load.
use lib.Utf8.{encode}
use Rattle.std.proofs.Common.{◌≡◌, true, false, List, [], ◌∷◌, Option, Some, None, refl, ap, sym, ◌∙◌, subst, arith, All, codes, map}
use Rattle.std.specs.Prelude.{option_and_then}
use Rattle.std.specs.Str.{chars, is_utf8}
use Rattle.std.proofs.lemmas.List.Elements.{All-cons, All-nil}
use Rattle.object_forms.specs.Shape.{TableCounter, counter}
use Rattle.object_forms.specs.Token.{tokens}
use Rattle.object_forms.specs.declared.kind.Kind.TheVariants.{Table}
use Rattle.server_data.specs.Fold.{change_db, changes_db, db, has_object, may_make, rows_of}
use Rattle.server_data.specs.declared.data.Change.TheVariants.{Put}
use Rattle.server_data.specs.declared.data.Database.{Database}
use Rattle.sql_cells.specs.declared.cell.Cell.{Cell}
use Rattle.sql_cells.specs.declared.cell.Cell.TheVariants.{Value}
use Rattle.sql_cells.specs.declared.cell_kind.CellKind.TheVariants.{Text}
use Rattle.statement_forms.specs.Text.{command_text}
use Rattle.statement_forms.specs.declared.command.Command.TheVariants.{CreateProgress, CreateProgressFiles, InsertProgressFile}
use Rattle.statement_forms.specs.declared.statement.Statement.TheVariants.{Command as SomeCommand}
use Rattle.honest_server.specs.Answer.{object_at, progress_schema}
use Rattle.honest_server.specs.Catalogue.{a_row, no_more}
use Rattle.honest_server.specs.Columns.{are_numbers, plain_columns}
use Rattle.honest_server.specs.Effect.{IsMade}
use Rattle.honest_server.specs.Insert.{are_spelled_for}
use Rattle.honest_server.specs.Moves.{plainly}
use Rattle.honest_server.specs.Serve.{FitsNowhere, done, refused, rows}
use Rattle.honest_server.specs.State.{with_own}
use Rattle.honest_server.specs.WellFormed.{HasGoodMark, HasGoodRows, HasItsHead, IsCountedWhere, IsShaped, IsSound, IsWellFormedObject, is_name}
use Rattle.honest_examples.specs.Effects.{link}
use Rattle.honest_examples.specs.Worked.{server}
use Rattle.honest_examples.specs.Progress.{TheProgressIsKept, file, makes_files, makes_schema, puts_file, the_files, the_schema, file_database}
use Rattle.honest_examples.proofs.Bags.{same_rows}
use Rattle.honest_examples.proofs.Commanding.{free, may_follow}
use Rattle.honest_examples.proofs.Inserting.{alone_among}
use Rattle.honest_examples.proofs.Serving.{refuses, serves_done}
use Rattle.honest_examples.proofs.Soundness.{all_of_one, printed_in}
use Rattle.plain_data.proofs.Options.{same_some}

-- what the texts say

schema_head : HasItsHead the_schema
unfolding tokens command_text
schema_head = record { found = _; is_making = refl; kind = refl; name = refl; schema = tt; own = λ e. refl }

files_head : HasItsHead the_files
unfolding tokens command_text
files_head = record { found = _; is_making = refl; kind = refl; name = refl; schema = refl; own = λ e. cc }

files_shape : IsShaped the_files
unfolding tokens command_text is_utf8 chars encode
files_shape = record { found = _; is_shape = refl; columns = refl; key = refl }

no_counter : counter the_files.text ≡ None
unfolding tokens command_text is_utf8 chars encode
no_counter = refl

schema_named : is_name progress_schema ≡ true
unfolding is_utf8 chars encode
schema_named = refl

files_named : is_name (codes "files") ≡ true
unfolding is_utf8 chars encode
files_named = refl

-- databases with them

abbrev alone : Database
alone = record { objects = the_schema ∷ []; rows = [] }

abbrev with_files : List (List Cell) → Database
with_files names = record { objects = the_schema ∷ the_files ∷ []; rows = map (λ row. record { table = record { schema = progress_schema; name = codes "files" }; rows = row ∷ [] }) names }

good_schema : (end : Database) → IsWellFormedObject end the_schema
good_schema end = record { named = schema_named; in_schema = schema_named; head = schema_head; settings = refl; shape = record { columns = refl; key = refl }; table = tt; rows = tt; needs = All-nil _; rank = omega arith }

good_files : (end : Database) (names : List (List Cell)) → rows_of end progress_schema (codes "files") ≡ names → All (λ row. are_numbers (plain_columns the_files.columns) row ≡ true) names → IsWellFormedObject end the_files
good_files end names of_end numbers = record { named = files_named; in_schema = schema_named; head = files_head; settings = refl; shape = files_shape; table = tt; rows = subst (λ (names : List (List Cell)). HasGoodRows the_files names) (sym of_end) good; needs = All-nil _; rank = omega arith }
  where
    good : HasGoodRows the_files names
    good = record { numbers = numbers; keys = tt; counted = subst (λ (found : Option TableCounter). IsCountedWhere the_files.columns found names) (sym no_counter) tt }

sound_alone : IsSound server (makes_schema ∷ [])
unfolding change_db has_object may_make
sound_alone = record { database = alone; stands = refl; well_formed = record { objects = all_of_one (IsWellFormedObject alone) the_schema (good_schema alone) }; printed = printed_in _ (the_schema ∷ []) refl; marks = all_of_one HasGoodMark makes_schema tt }

sound_files : IsSound server (makes_schema ∷ makes_files ∷ [])
unfolding change_db has_object may_make rows_of
sound_files = record {
  database = with_files [];
  stands = refl;
  well_formed = record { objects = All-cons (IsWellFormedObject (with_files [])) the_schema (the_files ∷ []) (good_schema (with_files [])) (all_of_one (IsWellFormedObject (with_files [])) the_files (good_files (with_files []) [] refl (All-nil _))) };
  printed = printed_in (with_files []) (the_schema ∷ the_files ∷ []) refl;
  marks = All-cons HasGoodMark makes_schema (makes_files ∷ []) tt (all_of_one HasGoodMark makes_files tt);
}

sound_file : IsSound server (makes_schema ∷ makes_files ∷ puts_file ∷ [])
unfolding change_db has_object may_make rows_of
sound_file = record {
  database = file_database;
  stands = refl;
  well_formed = record { objects = All-cons (IsWellFormedObject file_database) the_schema (the_files ∷ []) (good_schema file_database) (all_of_one (IsWellFormedObject file_database) the_files (good_files file_database ((Value file ∷ []) ∷ []) refl (all_of_one (λ row. are_numbers (plain_columns the_files.columns) row ≡ true) (Value file ∷ []) refl))) };
  printed = printed_in file_database (the_schema ∷ the_files ∷ []) refl;
  marks = All-cons HasGoodMark makes_schema (makes_files ∷ puts_file ∷ []) tt (All-cons HasGoodMark makes_files (puts_file ∷ []) tt (all_of_one HasGoodMark puts_file tt));
}

stands_alone : db (makes_schema ∷ []) ≡ Some alone
unfolding change_db has_object may_make
stands_alone = refl

stands_files : db (makes_schema ∷ makes_files ∷ []) ≡ Some (with_files [])
unfolding change_db has_object may_make
stands_files = refl

-- statements

made_schema : IsMade (link [] None) (record { objects = []; rows = [] }) (command_text CreateProgress) the_schema
unfolding tokens command_text
made_schema = record { text_is = refl; found = _; is_making = refl; kind = refl; name = refl; schema = refl; settings = refl; shape = record { columns = refl; key = refl }; place = record { rank = refl; needs = refl } }

made_files : IsMade (link (makes_schema ∷ []) None) alone (command_text CreateProgressFiles) the_files
unfolding tokens command_text
made_files = record { text_is = refl; found = _; is_making = refl; kind = refl; name = refl; schema = refl; settings = refl; shape = files_shape; place = record { rank = refl; needs = refl } }

pub kept : TheProgressIsKept
unfolding change_db rows_of
kept = record {
  schema = serves_done (link [] None) (SomeCommand CreateProgress) (with_own (link [] None) makes_schema) (free [] None false None None refl)
      (record { middle = link [] None; ended = refl; database = record { objects = []; rows = [] }; stands = refl; object = the_schema; made = made_schema; commits = record { one = makes_schema; changes_are = refl; follows = may_follow [] None None (makes_schema ∷ []); sound = sound_alone; new_is = refl } });
  table = serves_done (link (makes_schema ∷ []) None) (SomeCommand CreateProgressFiles) (with_own (link (makes_schema ∷ []) None) makes_files) (free (makes_schema ∷ []) None false None None refl)
      (record { middle = link (makes_schema ∷ []) None; ended = refl; database = alone; stands = stands_alone; object = the_files; made = made_files; commits = record { one = makes_files; changes_are = refl; follows = may_follow (makes_schema ∷ []) None None (makes_files ∷ []); sound = sound_files; new_is = refl } });
  put = serves_done (link (makes_schema ∷ makes_files ∷ []) None) (SomeCommand (InsertProgressFile file)) (with_own (link (makes_schema ∷ makes_files ∷ []) None) puts_file) (free (makes_schema ∷ makes_files ∷ []) None false None None refl)
      (record {
        database = with_files [];
        found = ap (λ (found : Option Database). option_and_then (λ (database : Database). changes_db database []) found) stands_files;
        changes = Put progress_schema (codes "files") (Value file ∷ []) ∷ [];
        inserts = record {
          object = the_files;
          is_there = refl;
          all_columns = refl;
          numbers = all_of_one (λ row. are_numbers (plain_columns the_files.columns) row ≡ true) (Value file ∷ []) refl;
          rows = (Value file ∷ []) ∷ [];
          rows_are = refl;
          spelled = all_of_one (λ row. are_spelled_for server.prints (plain_columns the_files.columns) row ≡ true) (record { cell = Value file; kind = Some Text } ∷ []) refl;
          keys = tt;
          puts = alone_among (Put progress_schema (codes "files") (Value file ∷ []) ∷ []);
          plain = λ p. refl;
          new = file_database;
          of_rows = a_row tt refl no_more;
        };
        goes = record { one = puts_file; changes_are = refl; follows = may_follow (makes_schema ∷ makes_files ∷ []) None None (puts_file ∷ []); sound = sound_file; new_is = refl };
      });
  told = record { all_columns = refl; same = same_rows _ };
  refused = refuses (link (makes_schema ∷ []) None) (SomeCommand (InsertProgressFile file)) (free (makes_schema ∷ []) None false None None refl) never;
}
  where
    never : FitsNowhere plainly (link (makes_schema ∷ []) None) (SomeCommand (InsertProgressFile file)) []
    never done new found = absurd (cc (subst (λ (end : Database). object_at end Table progress_schema (codes "files") ≡ Some found.inserts.object) (same_some (sym found.found ∙ ap (λ (end : Option Database). option_and_then (λ (database : Database). changes_db database []) end) stands_alone)) found.inserts.is_there))
    never (rows found) new effect = effect
    never (refused found refusal) new effect = effect
