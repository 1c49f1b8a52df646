-- A trigger on the worked table, and INSERTs where it is there and where it isn't.
use Rattle.std.proofs.Common.{◌≡◌, ℕ, Bool, true, false, cond, not, ◌&&◌, List, [], ◌∷◌, ◌++◌, Option, Some, None, refl, ap, sym, ◌∙◌, subst, arith, codes, map, All, length}
use Rattle.std.specs.Prelude.{option_and_then}
use Rattle.std.specs.Fmt.{digits}
use Rattle.std.specs.Str.{chars, is_utf8}
use lib.Utf8.{encode}
use Rattle.std.proofs.lemmas.Bool.{false≢true}
use Rattle.std.proofs.lemmas.List.Elements.{All-cons, All-nil}
use Rattle.object_forms.specs.Head.{Making, making}
use Rattle.object_forms.specs.Token.{tokens}
use Rattle.object_forms.specs.Shape.{TableCounter}
use Rattle.object_forms.specs.declared.kind.Kind.{Kind}
use Rattle.object_forms.specs.declared.kind.Kind.TheVariants.{Schema, Trigger}
use Rattle.server_data.specs.Bag.{count_of}
use Rattle.server_data.specs.Fold.{change_db, changes_db, db, has_object, has_place, may_make, more_db, rows_of, with_object}
use Rattle.server_data.specs.History.{here, none_left, takes, there}
use Rattle.server_data.specs.declared.data.Change.{Change}
use Rattle.server_data.specs.declared.data.Change.TheVariants.{Make}
use Rattle.server_data.specs.declared.data.Database.{Database}
use Rattle.server_data.specs.declared.data.Object.{Object}
use Rattle.server_data.specs.declared.data.Transaction.{Transaction}
use Rattle.sql_cells.specs.declared.cell.Cell.{Cell}
use Rattle.sql_cells.specs.declared.cell.Cell.TheVariants.{Value}
use Rattle.sql_cells.specs.declared.cell_kind.CellKind.TheVariants.{Text}
use Rattle.statement_forms.specs.declared.command.Command.TheVariants.{Create}
use Rattle.statement_forms.specs.declared.statement.Statement.TheVariants.{Command as SomeCommand}
use Rattle.std.specs.List.{list_all}
use Rattle.honest_server.specs.Answer.{has_bytes}
use Rattle.honest_server.specs.Catalogue.{a_row, no_more}
use Rattle.honest_server.specs.Columns.{are_numbers, plain_columns, plain_names}
use Rattle.honest_server.specs.Effect.{IsMade}
use Rattle.honest_server.specs.Insert.{Inserts, Insertion, SpelledCell, SpellsInsert, are_spelled_for, are_under, plain_cells, is_plain_insert, puts_of}
use Rattle.honest_server.specs.Moves.{plainly}
use Rattle.honest_server.specs.Serve.{FitsNowhere, Handles, Serves, done, refused, rows}
use Rattle.honest_server.specs.State.{State, no_settings, with_others, with_own}
use Rattle.honest_server.specs.WellFormed.{HasGoodMark, HasItsHead, HasKeys, IsNamed, IsSound, IsWellFormed, IsWellFormedObject, NeedsItsTable, is_name}
use Rattle.honest_examples.specs.Effects.{insert, link}
use Rattle.honest_examples.specs.Triggers.{ATriggerIsMadeOnItsTable, ATriggerIsTold, ATriggerMayPutMore, the_trigger, trigger, trigger_text, two_inserts, with_trigger}
use Rattle.honest_examples.specs.Worked.{a, no_rows, one, put, row_of_table, schema, schema_alone, server, table, the_schema, the_table, three, unmarked, with_rows}
use Rattle.honest_examples.proofs.Bags.{same_rows}
use Rattle.honest_examples.proofs.Commanding.{free, may_follow}
use Rattle.honest_examples.proofs.Inserting.{IsOneRow, IsTheTable, body_of, in_schema, inserts_there, one_row, only_table, spelled_row, spells_three, text_of}
use Rattle.honest_examples.proofs.Serving.{refuses, serves_done}
use Rattle.honest_examples.proofs.Soundness.{all_of_one, good_schema, good_table, keys_of, printed_in}
use Rattle.honest_examples.proofs.Worked.{no_counter, schema_named, stands_empty, table_named}
use Rattle.plain_data.proofs.Options.{same_some}

-- the trigger is well-formed where its table is

named : is_name trigger ≡ true
unfolding is_utf8 chars encode
named = refl

head : HasItsHead the_trigger
unfolding tokens
head = record { found = _; is_making = refl; kind = refl; name = refl; schema = tt; own = λ e. cc }

needs : NeedsItsTable the_trigger (record { schema = schema; name = table })
unfolding tokens
needs = record { found = _; is_found = refl; schema = tt; own = refl; name = refl; needs = refl }

-- the schema, the table and the trigger, with these rows
abbrev with_all : List (List Cell) → Database
with_all found = record { objects = the_schema ∷ the_table ∷ the_trigger ∷ []; rows = map (row_of_table the_table) found }

all_rows : (found : List (List Cell)) → rows_of (with_all found) schema table ≡ found
unfolding rows_of
all_rows [] = refl
all_rows (cells ∷ found) = ap (λ (found : List (List Cell)). cells ∷ found) (all_rows found)

good_trigger : (found : List (List Cell)) → IsWellFormedObject (with_all found) the_trigger
unfolding has_object
good_trigger found = record {
  named = named;
  in_schema = schema_named;
  head = head;
  settings = record { made = no_settings; settings_are = refl; no_zone = refl };
  shape = record { columns = refl; key = refl };
  table = (record { schema = schema; name = table }, needs, refl);
  rows = tt;
  needs = all_of_one IsNamed (record { schema = schema; name = table }) (record { schema = schema_named; name = table_named });
  rank = omega arith;
}

well_formed : (found : List (List Cell)) → list_all (are_numbers (plain_columns the_table.columns)) found ≡ true → HasKeys the_table.columns 0 found → IsWellFormed (with_all found)
well_formed found numbers keys = record { objects = All-cons (IsWellFormedObject (with_all found)) the_schema (the_table ∷ the_trigger ∷ []) (good_schema (with_all found)) (All-cons (IsWellFormedObject (with_all found)) the_table (the_trigger ∷ []) (good_table (with_all found) found (all_rows found) numbers keys) (all_of_one (IsWellFormedObject (with_all found)) the_trigger (good_trigger found))) }

unmarked_ones : (changes : List (List Change)) → All HasGoodMark (map unmarked changes)
unmarked_ones [] = All-nil _
unmarked_ones (one ∷ changes) = All-cons HasGoodMark (unmarked one) (map unmarked changes) tt (unmarked_ones changes)

sound : IsSound server with_trigger
unfolding change_db has_object may_make
sound = record { database = with_all []; stands = refl; well_formed = well_formed [] refl (keys_of (a ∷ []) [] [] refl refl); printed = printed_in _ (the_schema ∷ the_table ∷ the_trigger ∷ []) refl; marks = unmarked_ones ((Make the_schema ∷ []) ∷ (Make the_table ∷ []) ∷ (Make the_trigger ∷ []) ∷ []) }

is_made : IsMade (link no_rows (Some schema)) (with_rows []) trigger_text the_trigger
unfolding tokens
is_made = record {
  text_is = refl;
  found = _;
  is_making = refl;
  kind = refl;
  name = refl;
  schema = refl;
  settings = refl;
  shape = record { columns = refl; key = refl };
  place = record { table = record { schema = schema; name = table }; needs = needs; rank = refl; small = omega arith };
}

making_is : (found : Making) → making trigger_text ≡ Some found → found.kind ≡ Trigger
unfolding tokens
making_is found is = let same : found ≡ record { kind = Trigger; path = record { schema = None; name = trigger } } = cc in ap (λ (found : Making). found.kind) same

and_false : (b : Bool) → (b && false) ≡ false
and_false true = refl
and_false false = refl

-- without a table no trigger is made
no_table : (one : Transaction) (object : Object) (end : Database) → object.kind ≡ Trigger → one.changes ≡ Make object ∷ [] → db (schema_alone ++ one ∷ []) ≡ Some end → ⊥
unfolding change_db has_object may_make
no_table one object end kind makes stands = absurd (cc (sym ends ∙ stands))
  where
    alone : Database
    alone = record { objects = the_schema ∷ []; rows = [] }

    place : has_place alone object object.kind ≡ false
    place = ap (λ (kind : Kind). has_place alone object kind) kind ∙ and_false (has_object alone Schema object.schema object.schema)

    refused : change_db alone (Make object) ≡ None
    refused = ap (λ (is_there : Bool). cond (not (has_object alone object.kind object.schema object.name) && is_there) (Some (with_object alone object)) None) place
        ∙ ap (λ (fits : Bool). cond fits (Some (with_object alone object)) None) (and_false (not (has_object alone object.kind object.schema object.name)))

    ends : db (schema_alone ++ one ∷ []) ≡ None
    ends = ap (λ (changes : List Change). option_and_then (λ (next : Database). more_db next []) (changes_db alone changes)) makes
        ∙ ap (λ (next : Option Database). option_and_then (λ (next : Database). more_db next []) (option_and_then (λ (next : Database). changes_db next []) next)) refused

pub made : ATriggerIsMadeOnItsTable
made = record {
  allowed = serves_done (link no_rows (Some schema)) (SomeCommand (Create trigger_text)) (with_own (link no_rows (Some schema)) (unmarked (Make the_trigger ∷ []))) (free no_rows (Some schema) false None None refl)
      (record { middle = link no_rows (Some schema); ended = refl; database = with_rows []; stands = stands_empty; object = the_trigger; made = is_made; commits = record { one = unmarked (Make the_trigger ∷ []); changes_are = refl; follows = may_follow no_rows (Some schema) None (unmarked (Make the_trigger ∷ []) ∷ []); sound = sound; new_is = refl } });
  refused = refuses (link schema_alone (Some schema)) (SomeCommand (Create trigger_text)) (free schema_alone (Some schema) false None None refl) never;
}
  where
    never : FitsNowhere plainly (link schema_alone (Some schema)) (SomeCommand (Create trigger_text)) []
    never done new creates = no_table creates.commits.one creates.object creates.commits.sound.database (creates.made.kind ∙ making_is creates.made.found creates.made.is_making) creates.commits.changes_are (ap (λ (state : State). db (state.seen ++ creates.commits.one ∷ [])) (sym creates.ended) ∙ creates.commits.sound.stands)
    never (rows found) new effect = effect
    never (refused found refusal) new effect = effect

pub is_told : ATriggerIsTold
unfolding count_of digits
is_told = record { allowed = same_rows _; refused = λ answer. absurd (cc (answer.counts (Value trigger ∷ Value table ∷ Value (codes "1") ∷ []))) }

-- two rows for one

sound_two : IsSound server (with_trigger ++ unmarked (put three ∷ put one ∷ []) ∷ [])
unfolding change_db has_object may_make
sound_two = record { database = with_all (three ∷ one ∷ []); stands = refl; well_formed = well_formed (three ∷ one ∷ []) refl (keys_of (a ∷ []) (three ∷ one ∷ []) (3 ∷ 1 ∷ []) refl refl); printed = printed_in _ (the_schema ∷ the_table ∷ the_trigger ∷ []) refl; marks = unmarked_ones ((Make the_schema ∷ []) ∷ (Make the_table ∷ []) ∷ (Make the_trigger ∷ []) ∷ (put three ∷ put one ∷ []) ∷ []) }

puts_two : Handles (with_others (link with_trigger (Some schema)) []) (insert (codes "(3,'c')")) done (two_inserts (link with_trigger (Some schema)))
unfolding change_db has_object may_make rows_of
puts_two = record {
  schema = schema;
  is_current = refl;
  table = table;
  says = record { columns = plain_names the_table.columns; rows = spelled_row (codes "3") (Value (codes "c")) (Some Text) ∷ [] };
  spells = record { body = codes "(3,'c')"; text_is = refl; spells = spells_three };
  inserts = record {
    database = with_all [];
    found = refl;
    changes = put three ∷ put one ∷ [];
    inserts = record {
      object = the_table;
      is_there = refl;
      all_columns = refl;
      numbers = all_of_one (λ cells. are_numbers (plain_columns the_table.columns) cells ≡ true) three refl;
      rows = three ∷ [];
      rows_are = refl;
      spelled = all_of_one (λ cells. are_spelled_for server.prints (plain_columns the_table.columns) cells ≡ true) (spelled_row (codes "3") (Value (codes "c")) (Some Text)) refl;
      plain = λ is. absurd (false≢true is);
      puts = (put one ∷ [], takes here (takes (there here) (none_left (All-cons (λ (list : List Change). list ≡ []) [] ([] ∷ []) refl (all_of_one (λ (list : List Change). list ≡ []) [] refl)))));
      keys = keys_of (a ∷ []) (three ∷ []) (3 ∷ []) refl refl;
      new = with_all (three ∷ one ∷ []);
      of_rows = a_row tt refl (a_row tt refl no_more);
    };
    goes = record { one = unmarked (put three ∷ put one ∷ []); changes_are = refl; follows = may_follow with_trigger (Some schema) None (unmarked (put three ∷ put one ∷ []) ∷ []); sound = sound_two; new_is = refl };
  };
}

-- without a trigger one row is put for one
one_for_one : (name : List ℕ) (says : Insertion) (changes : List Change) → SpellsInsert (text_of (codes "(3,'c')")) name says → Inserts server (with_rows []) (in_schema name) says changes → length changes ≡ 1
one_for_one name says changes spells inserts = ap (λ (changes : List Change). length changes) is_put ∙ ap (λ (found : List (List Cell)). length (puts_of the_table found)) (inserts.rows_are ∙ ap (λ (found : List (List SpelledCell)). map plain_cells found) row.rows_are)
  where
    is : IsTheTable name inserts.object
    is = only_table name inserts.object inserts.is_there

    named_so : says.columns ≡ plain_names the_table.columns
    named_so = inserts.all_columns ∙ ap (λ (object : Object). plain_names object.columns) is.is

    row : IsOneRow says.rows
    row = one_row spells.spells (ap (λ (body : List ℕ). has_bytes (codes "),\n") body) (sym (body_of (codes "(3,'c')") name says spells is.named named_so)))

    plain : is_plain_insert (with_rows []) the_table inserts.rows ≡ true → changes ≡ puts_of the_table inserts.rows
    plain = subst (λ (object : Object). is_plain_insert (with_rows []) object inserts.rows ≡ true → changes ≡ puts_of object inserts.rows) is.is inserts.plain

    is_put : changes ≡ puts_of the_table inserts.rows
    is_put = plain (ap (λ (found : Option TableCounter). are_under the_table.columns found inserts.rows) no_counter)

pub puts_more : ATriggerMayPutMore
unfolding change_db has_object may_make
puts_more = record {
  allowed = record { more = []; sees = (free with_trigger (Some schema) false None None refl).nothing; handles = puts_two; ends = tt };
  refused = never;
}
  where
    never : Serves plainly (link no_rows (Some schema)) (insert (codes "(3,'c')")) done (two_inserts (link no_rows (Some schema))) → ⊥
    never served = omega (arith, single, both)
      where
        none : served.more ≡ []
        none = served.sees.sole refl refl

        stands : db (no_rows ++ served.more) ≡ Some (with_rows [])
        stands = ap (λ (more : List Transaction). db (no_rows ++ more)) none ∙ stands_empty

        single : length served.handles.inserts.changes ≡ 1
        single = one_for_one served.handles.table served.handles.says served.handles.inserts.changes served.handles.spells
            (inserts_there served.handles.inserts.database served.handles.schema served.handles.table served.handles.says served.handles.inserts.changes (with_rows [])
            (same_some (sym served.handles.inserts.found ∙ ap (λ (found : Option Database). option_and_then (λ (database : Database). changes_db database []) found) stands))
            (same_some (sym served.handles.is_current)) served.handles.inserts.inserts)

        last : List Transaction → List Change
        last (one ∷ others) = one.changes
        last [] = []

        both : 2 ≡ length served.handles.inserts.changes
        both = ap (λ (state : State). length (last state.mine)) served.handles.inserts.goes.new_is ∙ ap (λ (changes : List Change). length changes) served.handles.inserts.goes.changes_are
