-- Two links that are served side by side.
use lib.Utf8.{encode}
use Rattle.std.specs.Str.{chars, is_utf8}
use Rattle.object_forms.specs.Token.{tokens}
use Rattle.std.proofs.Common.{◌≡◌, ℕ, false, List, [], ◌∷◌, ◌++◌, Some, None, refl, ap, sym, ◌∙◌, subst, arith, codes, filter}
use Rattle.std.proofs.lemmas.Bool.{false≢true, true≢false}
use Rattle.std.proofs.lemmas.List.{append_cancel_left}
use Rattle.std.proofs.lemmas.List.Elements.{All-cons}
use Rattle.server_data.specs.Bag.{IsSameBag, count_of}
use Rattle.server_data.specs.Fold.{change_db, db, has_object, may_make, rows_of}
use Rattle.server_data.specs.History.{IsPrefix}
use Rattle.server_data.specs.declared.data.Database.{Database}
use Rattle.server_data.specs.declared.data.Object.{Object}
use Rattle.server_data.specs.declared.data.Transaction.{Transaction}
use Rattle.sql_cells.specs.declared.cell.Cell.{Cell}
use Rattle.sql_cells.specs.declared.cell.Cell.TheVariants.{Null, Value}
use Rattle.sql_cells.specs.declared.cell_kind.CellKind.TheVariants.{Text}
use Rattle.statement_forms.specs.declared.query.Query.TheVariants.{RowsByKey}
use Rattle.statement_forms.specs.declared.statement.Statement.TheVariants.{Query as SomeQuery}
use Rattle.honest_server.specs.Answer.{Answers, everything, is_between}
use Rattle.honest_server.specs.Columns.{integer_at}
use Rattle.honest_server.specs.Moves.{MayFollow, SeesOthers, beside}
use Rattle.honest_server.specs.Serve.{Serves, rows}
use Rattle.honest_server.specs.State.{State, with_others}
use Rattle.honest_server.specs.WellFormed.{IsSound}
use Rattle.honest_server.specs.WideKey.{KeepsWideKey, KeepsWideKeys, wide_key}
use Rattle.honest_examples.specs.Answered.{columns, key}
use Rattle.honest_examples.specs.Sites.{TwoLinksSideBySide, a_first, a_holds, b_sees, one_of_two, puts_five, puts_four, puts_three}
use Rattle.honest_examples.specs.Worked.{a, database, history, one, put, row, schema, server, table, the_schema, the_table, three, two, unmarked, with_rows}
use Rattle.honest_examples.proofs.Bags.{same_rows}
use Rattle.honest_examples.proofs.Changes.{keeps_nothing, keeps_row}
use Rattle.honest_examples.proofs.Inserting.{put_row, spells_null, spells_three}
use Rattle.honest_examples.proofs.Returning.{a_then_both, b_first}
use Rattle.honest_examples.proofs.Soundness.{all_of_one, good_marks_with, keys_of, sound_with, sound_with_three}
use Rattle.honest_examples.proofs.Worked.{stands}
use Rattle.plain_data.proofs.Options.{same_some}

abbrev four : List Cell
four = row (codes "4") Null

abbrev five : List Cell
five = row (codes "5") Null

-- the database after the row with the key 3, and histories that go on from there

stands_three : db (history ++ puts_three ∷ []) ≡ Some (with_rows (one ∷ two ∷ three ∷ []))
unfolding change_db has_object may_make
stands_three = refl

sound_four : IsSound server (history ++ (puts_three ∷ puts_four ∷ []))
unfolding change_db has_object may_make
sound_four = sound_with (history ++ (puts_three ∷ puts_four ∷ [])) (one ∷ two ∷ three ∷ four ∷ []) (1 ∷ 2 ∷ 3 ∷ 4 ∷ []) refl (good_marks_with ((put three ∷ []) ∷ (put four ∷ []) ∷ [])) refl refl refl

sound_five : IsSound server (history ++ (puts_three ∷ puts_five ∷ []))
unfolding change_db has_object may_make
sound_five = sound_with (history ++ (puts_three ∷ puts_five ∷ [])) (one ∷ two ∷ three ∷ five ∷ []) (1 ∷ 2 ∷ 3 ∷ 5 ∷ []) refl (good_marks_with ((put three ∷ []) ∷ (put five ∷ []) ∷ [])) refl refl refl

sound_both : IsSound server (history ++ (puts_three ∷ puts_five ∷ puts_four ∷ []))
unfolding change_db has_object may_make
sound_both = sound_with (history ++ (puts_three ∷ puts_five ∷ puts_four ∷ [])) (one ∷ two ∷ three ∷ five ∷ four ∷ []) (1 ∷ 2 ∷ 3 ∷ 5 ∷ 4 ∷ []) refl (good_marks_with ((put three ∷ []) ∷ (put five ∷ []) ∷ (put four ∷ []) ∷ [])) refl refl refl

stands_both : db (history ++ (puts_three ∷ puts_five ∷ puts_four ∷ [])) ≡ Some (with_rows (one ∷ two ∷ three ∷ five ∷ four ∷ []))
unfolding change_db has_object may_make
stands_both = refl

-- neither of the two objects has a wide key

pub schema_narrow : wide_key the_schema ≡ None
unfolding tokens is_utf8 chars encode
schema_narrow = refl

table_narrow : wide_key the_table ≡ None
unfolding tokens is_utf8 chars encode
table_narrow = refl

pub narrow : (end : Database) (object : Object) → wide_key object ≡ None → KeepsWideKey end object
narrow end object none = rw none tt

keeps_wide : (whole : List Transaction) (found : List (List Cell)) → db whole ≡ Some (with_rows found) → KeepsWideKeys whole
keeps_wide whole found ends = rw ends (All-cons (KeepsWideKey (with_rows found)) the_schema (the_table ∷ []) (narrow (with_rows found) the_schema schema_narrow) (all_of_one (KeepsWideKey (with_rows found)) the_table (narrow (with_rows found) the_table table_narrow)))

-- a link that isn't the only one sees nothing of others, where its history stands

nothing : (state : State) (end : Database) → state.guarded ≡ false → state.terms.sole ≡ false → db state.seen ≡ Some end → SeesOthers state []
nothing state end unguarded shared ends = record {
  follows = record { frozen = λ p. refl; guarded = λ p. keeps_nothing state.seen end ends; catalogue = λ p q. keeps_nothing state.seen end ends };
  sole = λ p q. refl;
  willing = λ p q. refl;
}

-- a row may follow on a link without the read lock
may_put : (state : State) (before : List (List Cell)) (key : List ℕ) (cell : Cell) → state.frozen ≡ false → db state.seen ≡ Some (with_rows before) → MayFollow state (unmarked (put (row key cell) ∷ []) ∷ [])
may_put state before key cell free ends = record {
  frozen = λ p. absurd (false≢true (sym free ∙ p));
  guarded = λ p. keeps_row state.seen before key cell ends;
  catalogue = λ p q. keeps_row state.seen before key cell ends;
}

-- beside A no less can be seen
no_less : (new : State) → Serves (beside a_holds) one_of_two (SomeQuery (RowsByKey columns schema table key)) (rows (one ∷ two ∷ [])) new → ⊥
unfolding count_of rows_of
no_less new served = never served.handles.0.database (same_some (sym served.handles.0.stands ∙ (ap (λ (more : List Transaction). db (history ++ more)) seen ∙ stands_three))) served.handles.0.answers
  where
    seen : served.more ≡ puts_three ∷ []
    seen = append_cancel_left history served.more (puts_three ∷ []) served.sees.joined

    in_bag : (index : ℕ) → the_table.key ≡ Some index → IsSameBag (one ∷ two ∷ []) (filter (λ row. is_between everything (integer_at the_table.columns index row)) (one ∷ two ∷ three ∷ [])) → ⊥
    in_bag index is_key bag = let same : index ≡ 0 = cc in absurd (cc ((subst (λ index. IsSameBag (one ∷ two ∷ []) (filter (λ row. is_between everything (integer_at the_table.columns index row)) (one ∷ two ∷ three ∷ []))) same bag).counts three))

    never : (end : Database) → end ≡ with_rows (one ∷ two ∷ three ∷ []) → Answers end (RowsByKey columns schema table key) (one ∷ two ∷ []) → ⊥
    never end is answers = in_bag shows.has_key.index shows.has_key.key_is shows.in_order.same
      where
        shows : Answers (with_rows (one ∷ two ∷ three ∷ [])) (RowsByKey columns schema table key) (one ∷ two ∷ [])
        shows = subst (λ (end : Database). Answers end (RowsByKey columns schema table key) (one ∷ two ∷ [])) is answers

pub side_by_side : TwoLinksSideBySide
unfolding rows_of
side_by_side = record {
  a_puts = record {
    more = [];
    sees = nothing one_of_two database refl refl stands;
    handles = put_row (with_others one_of_two []) (one ∷ two ∷ []) (codes "3") (Value (codes "c")) (Some Text) (codes "(3,'c')") refl refl stands spells_three refl refl (keys_of (a ∷ []) (one ∷ two ∷ three ∷ []) (1 ∷ 2 ∷ 3 ∷ []) refl refl) (may_put (with_others one_of_two []) (one ∷ two ∷ []) (codes "3") (Value (codes "c")) refl stands) sound_with_three;
    ends = tt;
  };
  a_locks = record { more = []; sees = nothing a_first (with_rows (one ∷ two ∷ three ∷ [])) refl refl stands_three; handles = refl; ends = tt };
  b_asks = record {
    more = puts_three ∷ [];
    sees = record { follows = may_put one_of_two (one ∷ two ∷ []) (codes "3") (Value (codes "c")) refl stands; joined = refl; alone = λ p q. absurd (false≢true q) };
    handles = (
      record {
        database = with_rows (one ∷ two ∷ three ∷ []);
        stands = stands_three;
        answers = record { all_columns = refl; has_key = record { index = 0; column = _; key_is = refl; column_is = refl; name = refl }; in_order = record { same = same_rows _; rise = refl } };
        texts = λ p. refl;
      },
      refl,
    );
    ends = refl;
  };
  b_sees_no_less = no_less;
  a_unlocks = record { more = []; sees = nothing a_holds (with_rows (one ∷ two ∷ three ∷ [])) refl refl stands_three; handles = refl; ends = tt };
  b_puts = record {
    more = [];
    sees = nothing b_sees (with_rows (one ∷ two ∷ three ∷ [])) refl refl stands_three;
    handles = put_row (with_others b_sees []) (one ∷ two ∷ three ∷ []) (codes "5") Null None (codes "(5,NULL)") refl refl stands_three (spells_null 53 refl (omega arith)) refl refl (keys_of (a ∷ []) (one ∷ two ∷ three ∷ five ∷ []) (1 ∷ 2 ∷ 3 ∷ 5 ∷ []) refl refl) (may_put (with_others b_sees []) (one ∷ two ∷ three ∷ []) (codes "5") Null refl stands_three) sound_five;
    ends = tt;
  };
  a_puts_again = record {
    more = [];
    sees = nothing (record a_holds { frozen = false }) (with_rows (one ∷ two ∷ three ∷ [])) refl refl stands_three;
    handles = put_row (with_others (record a_holds { frozen = false }) []) (one ∷ two ∷ three ∷ []) (codes "4") Null None (codes "(4,NULL)") refl refl stands_three (spells_null 52 refl (omega arith)) refl refl (keys_of (a ∷ []) (one ∷ two ∷ three ∷ four ∷ []) (1 ∷ 2 ∷ 3 ∷ 4 ∷ []) refl refl) (may_put (with_others (record a_holds { frozen = false }) []) (one ∷ two ∷ three ∷ []) (codes "4") Null refl stands_three) sound_four;
    ends = tt;
  };
  a_is_back = record { grows = record { rest = []; joined = refl }; own = record { history = λ quiet. refl; returned = refl }; wide = λ told. told; link_wide = λ told. told; new_is = refl };
  b_is_back = record {
    grows = record { rest = puts_three ∷ puts_five ∷ puts_four ∷ []; joined = refl };
    own = record { whole = puts_three ∷ puts_five ∷ puts_four ∷ []; interleaves = λ quiet. a_then_both; history = λ quiet. refl; none_left = λ quiet. refl; returned = λ loud. absurd (true≢false loud) };
    wide = λ told. told;
    link_wide = λ told. told;
    new_is = refl;
  };
  is_settled = record {
    sound = sound_both;
    sound_grants = all_of_one (IsSound server) (history ++ puts_three ∷ []) sound_with_three;
    grants = λ none. all_of_one (λ grant. IsPrefix grant (history ++ (puts_three ∷ puts_five ∷ puts_four ∷ []))) (history ++ puts_three ∷ []) (record { rest = puts_five ∷ puts_four ∷ []; joined = refl });
    none_left = λ none quiet. refl;
    wide = λ told. keeps_wide (history ++ (puts_three ∷ puts_five ∷ puts_four ∷ [])) (one ∷ two ∷ three ∷ five ∷ four ∷ []) stands_both;
    wide_grants = λ told. all_of_one KeepsWideKeys (history ++ puts_three ∷ []) (keeps_wide (history ++ puts_three ∷ []) (one ∷ two ∷ three ∷ []) stands_three);
  };
  grant_is_lost = λ settled. b_first (settled.grants refl 0 [] (omega arith));
}
