use Rattle.std.proofs.Common.{◌≡◌, ℕ, List, [], ◌∷◌, ◌++◌, refl, ap}
use Rattle.wire_forms.specs.Reading.{columns_counted}
use Rattle.wire_forms.specs.ResultSet.{IsTaken, turns_of}
use Rattle.wire_forms.specs.declared.ends.Ends.TheVariants.{Eof, Ok}
use Rattle.wire_examples.specs.Replies.{id_definition, eof, ending_ok}
use Rattle.wire_examples.specs.ResultSets.{two_rows, row_messages, set_with_eof, set_without_eof}
use Rattle.wire_examples.proofs.replies.result_sets.Goals as goal

-- the messages after the first
others_are : (first message : List ℕ) (others messages : List (List ℕ)) → message ∷ messages ≡ first ∷ others → others ≡ messages
others_are first message others messages e = cc

pub returns : goal.returns
returns c = record {
  with_eof = record {
    count = 1 ∷ [];
    definitions = id_definition ∷ [];
    between = eof ∷ [];
    row_messages = row_messages;
    last = eof;
    messages_are = refl;
    count_is = refl;
    definitions_are = (refl, tt);
    as_many = refl;
    between_is = refl;
    rows_are = (record { begins = refl; cells_are = refl }, (record { begins = refl; cells_are = refl }, tt));
    last_is = refl;
  };
  with_eof_taken = record { first = _; others = _; messages_are = refl; reply = refl; turns = refl };
  without_eof = record {
    count = 1 ∷ [];
    definitions = id_definition ∷ [];
    between = [];
    row_messages = row_messages;
    last = ending_ok;
    messages_are = refl;
    count_is = refl;
    definitions_are = (refl, tt);
    as_many = refl;
    between_is = tt;
    rows_are = (record { begins = refl; cells_are = refl }, (record { begins = refl; cells_are = refl }, tt));
    last_is = refl;
  };
  without_eof_taken = record { first = _; others = _; messages_are = refl; reply = refl; turns = refl };
  not_with_eof = λ (taken : IsTaken Eof 1 two_rows set_without_eof).
      let others = others_are taken.first (1 ∷ []) taken.others (id_definition ∷ (row_messages ++ ending_ok ∷ [])) taken.messages_are in
      let turns = ap (λ messages. turns_of (columns_counted Eof 1) messages) others in
      let wanted = taken.turns in
      cc;
  not_without_eof = λ (taken : IsTaken Ok 1 two_rows set_with_eof).
      let others = others_are taken.first (1 ∷ []) taken.others (id_definition ∷ eof ∷ (row_messages ++ eof ∷ [])) taken.messages_are in
      let turns = ap (λ messages. turns_of (columns_counted Ok 1) messages) others in
      let wanted = taken.turns in
      cc;
}
