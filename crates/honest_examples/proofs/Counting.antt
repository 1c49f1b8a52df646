-- INSERTs into a table with a counter.
use Rattle.std.proofs.Common.{◌<◌, ◌≡◌, ℕ, zero, suc, true, false, List, [], ◌∷◌, ◌++◌, Option, Some, None, refl, ap, sym, subst, arith, codes, All}
use Rattle.std.proofs.lemmas.Bool.{false≢true}
use Rattle.std.proofs.lemmas.List.Elements.{All-cons}
use Rattle.object_forms.specs.Shape.{TableCounter}
use Rattle.server_data.specs.Fold.{change_db, db, has_object, may_drop, may_make, rows_of}
use Rattle.server_data.specs.History.{Interleaves, here, none_left, takes, there}
use Rattle.server_data.specs.declared.data.Change.{Change}
use Rattle.server_data.specs.declared.data.Database.{Database}
use Rattle.sql_cells.specs.Number.{is_number}
use Rattle.honest_server.specs.Catalogue.{AreOfRows, a_rise, a_row, no_more}
use Rattle.honest_server.specs.Columns.{are_numbers, plain_columns}
use Rattle.honest_server.specs.Insert.{SpellsRows, StandAmong, are_spelled_for, are_under, last_cell, last_row}
use Rattle.honest_server.specs.Moves.{plainly}
use Rattle.honest_server.specs.Serve.{Handles, done, Serves}
use Rattle.honest_server.specs.State.{State, with_others, with_own}
use Rattle.honest_server.specs.WellFormed.{HasGoodMark, HasKeys, IsSound, IsWellFormed}
use Rattle.honest_examples.specs.Catalogue.{ANumberAtTheCounterRaisesIt, anew, counted, counting, counting_link, five, insert_number, numbered, of_number, put_number, six, with_counter}
use Rattle.honest_examples.specs.Worked.{id, schema, server, the_schema, unmarked}
use Rattle.honest_examples.proofs.Commanding.{free, may_follow}
use Rattle.honest_examples.proofs.Inserting.{alone_among, number, spells_digit}
use Rattle.honest_examples.proofs.Rises.{is_five, is_six, not_under, rises_to_six, says_five, well_counted}
use Rattle.honest_examples.proofs.Soundness.{all_of_one, keys_of, printed_in}
use Rattle.plain_data.proofs.Options.{same_some}

stands : db counting ≡ Some (counted five (codes "4" ∷ []))
unfolding change_db has_object may_make
stands = refl

good_marks : (changes : List Change) → All HasGoodMark (counting ++ unmarked changes ∷ [])
good_marks changes zero one within = tt
good_marks changes (suc zero) one within = tt
good_marks changes (suc (suc zero)) one within = tt
good_marks changes (suc (suc (suc k))) one within = absurd (omega arith)

-- a row of one digit is put, and perhaps more is done
put_digit : (digit : ℕ) (changes : List Change) (new : Database) → SpellsRows (codes "(" ++ (digit ∷ []) ++ codes ")") ((number (digit ∷ []) ∷ []) ∷ []) → are_numbers (plain_columns (id ∷ [])) (of_number (digit ∷ [])) ≡ true
    → StandAmong (put_number (digit ∷ []) ∷ []) changes → (are_under (id ∷ []) (Some (record { column = 0; next = 5 })) (of_number (digit ∷ []) ∷ []) ≡ true → changes ≡ put_number (digit ∷ []) ∷ [])
    → HasKeys (id ∷ []) 0 (of_number (codes "4") ∷ of_number (digit ∷ []) ∷ []) → AreOfRows (counted five (codes "4" ∷ [])) changes new → IsSound server (counting ++ unmarked changes ∷ [])
    → Handles (with_others counting_link []) (insert_number (digit ∷ [])) done (with_own counting_link (unmarked changes))
unfolding change_db has_object may_make rows_of
put_digit digit changes new spelled numbers puts plain keys of_rows sound = record {
  schema = schema;
  is_current = refl;
  table = numbered;
  says = record { columns = codes "id" ∷ []; rows = (number (digit ∷ []) ∷ []) ∷ [] };
  spells = record { body = codes "(" ++ (digit ∷ []) ++ codes ")"; text_is = refl; spells = spelled };
  inserts = record {
    database = counted five (codes "4" ∷ []);
    found = refl;
    changes = changes;
    inserts = record {
      object = with_counter five;
      is_there = refl;
      all_columns = refl;
      numbers = all_of_one (λ cells. are_numbers (plain_columns (id ∷ [])) cells ≡ true) (of_number (digit ∷ [])) numbers;
      rows = of_number (digit ∷ []) ∷ [];
      rows_are = refl;
      spelled = all_of_one (λ cells. are_spelled_for server.prints (plain_columns (id ∷ [])) cells ≡ true) (number (digit ∷ []) ∷ []) refl;
      keys = keys;
      puts = puts;
      plain = λ is. plain (subst (λ (found : Option TableCounter). are_under (id ∷ []) found (of_number (digit ∷ []) ∷ []) ≡ true) says_five is);
      new = new;
      of_rows = of_rows;
    };
    goes = record { one = unmarked changes; changes_are = refl; follows = may_follow counting (Some schema) None (unmarked changes ∷ []); sound = sound; new_is = refl };
  };
}

spells : (digit : ℕ) → is_number (digit ∷ []) ≡ true → digit < 256 → SpellsRows (codes "(" ++ (digit ∷ []) ++ codes ")") ((number (digit ∷ []) ∷ []) ∷ [])
spells digit is small = last_row {cells = digit ∷ []} (last_cell (spells_digit digit is small)) refl

-- the number 3 is under the counter
sound_three : IsSound server (counting ++ unmarked (put_number (codes "3") ∷ []) ∷ [])
unfolding change_db has_object may_make
sound_three = record { database = counted five (codes "4" ∷ codes "3" ∷ []); stands = refl; well_formed = well_counted five 5 (codes "4" ∷ codes "3" ∷ []) (4 ∷ 3 ∷ []) is_five refl refl refl refl; printed = printed_in _ (the_schema ∷ with_counter five ∷ []) refl; marks = good_marks _ }

puts_three : Handles (with_others counting_link []) (insert_number (codes "3")) done (with_own counting_link (unmarked (put_number (codes "3") ∷ [])))
unfolding change_db
puts_three = put_digit 51 (put_number (codes "3") ∷ []) (counted five (codes "4" ∷ codes "3" ∷ [])) (spells 51 refl (omega arith)) refl (alone_among (put_number (codes "3") ∷ [])) (λ under. refl) (keys_of [] (of_number (codes "4") ∷ of_number (codes "3") ∷ []) (4 ∷ 3 ∷ []) refl refl) (a_row tt refl no_more) sound_three

-- the number 5 is not, and the counter rises to 6 before it is put
raised : List Change
raised = anew six (codes "4" ∷ []) ++ put_number (codes "5") ∷ []

sound_five : IsSound server (counting ++ unmarked raised ∷ [])
unfolding change_db has_object may_make may_drop raised
sound_five = record { database = counted six (codes "4" ∷ codes "5" ∷ []); stands = refl; well_formed = well_counted six 6 (codes "4" ∷ codes "5" ∷ []) (4 ∷ 5 ∷ []) is_six refl refl refl refl; printed = printed_in _ (the_schema ∷ with_counter six ∷ []) refl; marks = good_marks _ }

order : Interleaves ((put_number (codes "5") ∷ []) ∷ anew six (codes "4" ∷ []) ∷ []) raised
unfolding raised
order = takes (there here) (takes (there here) (takes (there here) (takes here (none_left (All-cons (λ (list : List Change). list ≡ []) [] ([] ∷ []) refl (all_of_one (λ (list : List Change). list ≡ []) [] refl))))))

puts_five : Handles (with_others counting_link []) (insert_number (codes "5")) done (with_own counting_link (unmarked raised))
unfolding change_db has_object may_make may_drop raised
puts_five = put_digit 53 raised (counted six (codes "4" ∷ codes "5" ∷ [])) (spells 53 refl (omega arith)) refl (anew six (codes "4" ∷ []), order) (λ under. absurd (false≢true under)) (keys_of [] (of_number (codes "4") ∷ of_number (codes "5") ∷ []) (4 ∷ 5 ∷ []) refl refl)
    (a_rise {changes = put_number (codes "5") ∷ []} rises_to_six refl refl (a_row tt refl no_more)) sound_five

alone : Serves plainly counting_link (insert_number (codes "5")) done (with_own counting_link (unmarked (put_number (codes "5") ∷ []))) → ⊥
unfolding change_db has_object may_make
alone served = never (subst (IsSound server) (sym (ap (λ (state : State). state.seen) served.handles.inserts.goes.new_is)) served.handles.inserts.goes.sound)
  where
    never : IsSound server (counting ++ unmarked (put_number (codes "5") ∷ []) ∷ []) → ⊥
    never wrong = not_under (codes "4" ∷ codes "5" ∷ []) [] refl (subst IsWellFormed (same_some (sym wrong.stands)) wrong.well_formed)

pub raises : ANumberAtTheCounterRaisesIt
unfolding raised
raises = record {
  under = record { more = []; sees = (free counting (Some schema) false None None refl).nothing; handles = puts_three; ends = tt };
  at = record { more = []; sees = (free counting (Some schema) false None None refl).nothing; handles = puts_five; ends = tt };
  alone = alone;
}
