-- Whole result sets and the turns of the reader.
use Rattle.std.proofs.Common.{◌≡◌, ℕ, zero, suc, ◌+◌, ◌-◌, ◌==◌, ◌&&◌, nat_lt, nat_le, not, Bool, true, false, IsTrue, if◌then◌else◌, List, [], ◌∷◌, ◌++◌, length, map, replicate, Option, Some, None, refl, sym, ◌∙◌, ap, append_assoc, option_map, arith}
use Rattle.std.proofs.lemmas.Bool.{ne_eqb}
use Rattle.std.proofs.lemmas.Bool.Decides.{nat_tests}
use Rattle.std.proofs.lemmas.Grind.{replicate_next}
use Rattle.plain_data.specs.Cell.{Cell}
use Rattle.wire_forms.specs.Row.{cells_of}
use Rattle.wire_forms.specs.Definition.{is_definition, column_count}
use Rattle.wire_forms.specs.Packet.{full_size}
use Rattle.wire_forms.specs.Reply.{are_ok_fields, is_ok_packet, is_eof_packet, reply_of, refusal_of}
use Rattle.wire_forms.specs.Reading.{Reading, Further, definition, row, end, idle, awaited_count, definition_if, end_if, refused_if, row_if, is_in_ends_place, is_end_packet, row_of, further_of, reading_after}
use Rattle.wire_forms.specs.ResultSet.{AreDefinitions, AreRows, IsRow, IsBetween, IsResultSet, IsTaken, turns_of}
use Rattle.wire_forms.specs.declared.ends.Ends.{Ends}
use Rattle.wire_forms.specs.declared.ends.Ends.TheVariants.{Eof, Ok}
use Rattle.wire_forms.specs.declared.refusal.Refusal.{Refusal}
use Rattle.wire_forms.specs.declared.reply.Reply.TheVariants.{Done, Refused, Columns}

-- ---- a message in a row's place

neither-first : (a b : Bool) → IsTrue (not b && not a) → a ≡ false
neither-first true true h = cc
neither-first true false h = cc
neither-first false b h = refl

neither-second : (a b : Bool) → IsTrue (not b && not a) → b ≡ false
neither-second a true h = cc
neither-second a false h = refl

-- the record that a message's tests give
record ByTests (ends refuses : Bool) (found : Option (List Cell)) (cells : List Cell) : Type 0 where
  no_end : ends ≡ false
  no_refusal : refuses ≡ false
  cells_are : found ≡ Some cells

row-by_tests : (ends refuses eof : Bool) (refusal : Option Refusal) (found : Option (List Cell)) (cells : List Cell) → (if ends then end_if eof else (if refuses then refused_if refusal else row_if found)) ≡ row cells → ByTests ends refuses found cells
row-by_tests true refuses true refusal found cells h = cc
row-by_tests true refuses false refusal found cells h = cc
row-by_tests false true eof None found cells h = cc
row-by_tests false true eof (Some refusal) found cells h = cc
row-by_tests false false eof refusal None cells h = cc
row-by_tests false false eof refusal (Some others) cells h = record { no_end = refl; no_refusal = refl; cells_are = cc }

end-by_tests : (ends refuses eof : Bool) (refusal : Option Refusal) (found : Option (List Cell)) → (if ends then end_if eof else (if refuses then refused_if refusal else row_if found)) ≡ end → eof ≡ true
end-by_tests true refuses true refusal found h = refl
end-by_tests true refuses false refusal found h = cc
end-by_tests false true eof None found h = cc
end-by_tests false true eof (Some refusal) found h = cc
end-by_tests false false eof refusal None h = cc
end-by_tests false false eof refusal (Some others) h = cc

begins-by_tests : (a b : Bool) → a ≡ false → b ≡ false → not b && not a ≡ true
begins-by_tests a b p q = rw (p, q)

row_of-row : (ends : Ends) (columns : ℕ) (message : List ℕ) (cells : List Cell) → IsRow ends columns message cells → row_of ends columns message ≡ row cells
row_of-row ends columns [] cells is = let h : false ≡ true = is.begins in cc
row_of-row ends columns (byte ∷ bytes) cells is =
    rw (neither-first (is_in_ends_place ends (byte ∷ bytes)) (byte == 255) is.begins, neither-second (is_in_ends_place ends (byte ∷ bytes)) (byte == 255) is.begins, is.cells_are)

row_of-row_back : (ends : Ends) (columns : ℕ) (message : List ℕ) (cells : List Cell) → row_of ends columns message ≡ row cells → IsRow ends columns message cells
row_of-row_back ends columns [] cells h = cc
row_of-row_back ends columns (byte ∷ bytes) cells h =
    let t : ByTests (is_in_ends_place ends (byte ∷ bytes)) (byte == 255) (cells_of columns (byte ∷ bytes)) cells = row-by_tests (is_in_ends_place ends (byte ∷ bytes)) (byte == 255) (is_end_packet ends (byte ∷ bytes)) (refusal_of (byte ∷ bytes)) (cells_of columns (byte ∷ bytes)) cells h in
    record { begins = begins-by_tests (is_in_ends_place ends (byte ∷ bytes)) (byte == 255) t.no_end t.no_refusal; cells_are = t.cells_are }

-- an end is in the end's place
eof-in_place : (a b : Bool) (size : ℕ) → IsTrue (a && b && nat_lt size 8) → a && nat_lt (suc size) 9 ≡ true
eof-in_place true true size h = grind (arith, nat_tests)
eof-in_place true false size h = cc
eof-in_place false b size h = cc

ok-in_place : (a b c : Bool) → IsTrue (a && b && c) → a && b ≡ true
ok-in_place true true c h = refl
ok-in_place true false c h = cc
ok-in_place false b c h = cc

end-in_place : (ends : Ends) (byte : ℕ) (bytes : List ℕ) → IsTrue (is_end_packet ends (byte ∷ bytes)) → is_in_ends_place ends (byte ∷ bytes) ≡ true
end-in_place Eof byte bytes is = eof-in_place (byte == 254) (nat_le 4 (length bytes)) (length bytes) is
end-in_place Ok byte bytes is = ok-in_place (byte == 254) (nat_lt (length (byte ∷ bytes)) full_size) (are_ok_fields bytes) is

no_end-empty : (ends : Ends) → IsTrue (is_end_packet ends []) → ⊥
no_end-empty Eof is = cc
no_end-empty Ok is = cc

row_of-end : (ends : Ends) (columns : ℕ) (message : List ℕ) → IsTrue (is_end_packet ends message) → row_of ends columns message ≡ end
row_of-end ends columns [] is = absurd (no_end-empty ends is)
row_of-end ends columns (byte ∷ bytes) is = rw (end-in_place ends byte bytes is, is)

row_of-end_back : (ends : Ends) (columns : ℕ) (message : List ℕ) → row_of ends columns message ≡ end → IsTrue (is_end_packet ends message)
row_of-end_back ends columns [] h = cc
row_of-end_back ends columns (byte ∷ bytes) h = end-by_tests (is_in_ends_place ends (byte ∷ bytes)) (byte == 255) (is_end_packet ends (byte ∷ bytes)) (refusal_of (byte ∷ bytes)) (cells_of columns (byte ∷ bytes)) h

-- where a reader is before the rows
abbrev at_rows : Ends → ℕ → Reading
at_rows ends columns = record { columns = columns; awaited = 0; ends = ends }

-- ---- one message

taken-step : (reading : Reading) (message : List ℕ) (messages : List (List ℕ)) (turn : Further) → further_of reading message ≡ turn → turns_of reading (message ∷ messages) ≡ turn ∷ turns_of (reading_after reading turn) messages
taken-step reading message messages turn e = ap (λ (found : Further). found ∷ turns_of (reading_after reading found) messages) e

-- the message of the first turn, and the others
record Stepped (reading : Reading) (turn : Further) (turns : List Further) (messages : List (List ℕ)) : Type 0 where
  message : List ℕ
  others : List (List ℕ)
  messages_are : messages ≡ message ∷ others
  turn_is : further_of reading message ≡ turn
  turns_are : turns_of (reading_after reading turn) others ≡ turns

taken-step_back : (reading : Reading) (messages : List (List ℕ)) (turn : Further) (turns : List Further) → turns_of reading messages ≡ turn ∷ turns → Stepped reading turn turns messages
taken-step_back reading [] turn turns e = cc
taken-step_back reading (message ∷ messages) turn turns e =
    let first : further_of reading message ≡ turn = cc in
    let others : turns_of (reading_after reading (further_of reading message)) messages ≡ turns = cc in
    record { message = message; others = messages; messages_are = refl; turn_is = first; turns_are = ap (λ (found : Further). turns_of (reading_after reading found) messages) (sym first) ∙ others }

taken-none : (reading : Reading) (messages : List (List ℕ)) → turns_of reading messages ≡ [] → messages ≡ []
taken-none reading [] e = refl
taken-none reading (message ∷ messages) e = cc

-- ---- the rows and the end

rows-forward : (ends : Ends) (columns : ℕ) (messages : List (List ℕ)) (rows : List (List Cell)) (last : List ℕ) → AreRows ends columns messages rows → IsTrue (is_end_packet ends last) → turns_of (at_rows ends columns) (messages ++ last ∷ []) ≡ map row rows ++ end ∷ []
rows-forward ends columns [] [] last are is = taken-step (at_rows ends columns) last [] end (row_of-end ends columns last is)
rows-forward ends columns [] (cells ∷ rows) last are is = absurd are
rows-forward ends columns (message ∷ messages) [] last are is = absurd are
rows-forward ends columns (message ∷ messages) (cells ∷ rows) last are is =
    taken-step (at_rows ends columns) message (messages ++ last ∷ []) (row cells) (row_of-row ends columns message cells are.0) ∙ ap (λ (turns : List Further). row cells ∷ turns) (rows-forward ends columns messages rows last are.1 is)

-- the messages of rows and the end after them
record RowsAndEnd (ends : Ends) (columns : ℕ) (rows : List (List Cell)) (messages : List (List ℕ)) : Type 0 where
  row_messages : List (List ℕ)
  last : List ℕ
  messages_are : messages ≡ row_messages ++ last ∷ []
  rows_are : AreRows ends columns row_messages rows
  last_is : IsTrue (is_end_packet ends last)

rows-back : (ends : Ends) (columns : ℕ) (rows : List (List Cell)) (messages : List (List ℕ)) → turns_of (at_rows ends columns) messages ≡ map row rows ++ end ∷ [] → RowsAndEnd ends columns rows messages
rows-back ends columns [] messages e =
    let step : Stepped (at_rows ends columns) end [] messages = taken-step_back (at_rows ends columns) messages end [] e in
    record {
      row_messages = [];
      last = step.message;
      messages_are = step.messages_are ∙ ap (λ (others : List (List ℕ)). step.message ∷ others) (taken-none (idle ends) step.others step.turns_are);
      rows_are = tt;
      last_is = row_of-end_back ends columns step.message step.turn_is;
    }
rows-back ends columns (cells ∷ rows) messages e =
    let step : Stepped (at_rows ends columns) (row cells) (map row rows ++ end ∷ []) messages = taken-step_back (at_rows ends columns) messages (row cells) (map row rows ++ end ∷ []) e in
    let found : RowsAndEnd ends columns rows step.others = rows-back ends columns rows step.others step.turns_are in
    record {
      row_messages = step.message ∷ found.row_messages;
      last = found.last;
      messages_are = step.messages_are ∙ ap (λ (others : List (List ℕ)). step.message ∷ others) found.messages_are;
      rows_are = (row_of-row_back ends columns step.message cells step.turn_is, found.rows_are);
      last_is = found.last_is;
    }

-- ---- the messages before the rows

-- so many definitions are awaited, and what stands between them and the rows
abbrev before_rows : Ends → ℕ → ℕ → Reading
before_rows ends columns definitions = record { columns = columns; awaited = awaited_count ends definitions; ends = ends }

after-definition : (ends : Ends) (columns n : ℕ) → reading_after (before_rows ends columns (suc n)) definition ≡ before_rows ends columns n
after-definition Eof columns n = let e : suc n + 1 - 1 ≡ n + 1 = omega arith in ap (λ (awaited : ℕ). record { columns = columns; awaited = awaited; ends = Eof }) e
after-definition Ok columns n = let e : suc n - 1 ≡ n = omega arith in ap (λ (awaited : ℕ). record { columns = columns; awaited = awaited; ends = Ok }) e

definition-if_back : (b : Bool) → definition_if b ≡ definition → IsTrue b
definition-if_back true e = refl
definition-if_back false e = cc

-- where a definition is awaited, the next message is one
definition-turn : (ends : Ends) (columns n : ℕ) (message : List ℕ) → further_of (before_rows ends columns (suc n)) message ≡ definition_if (is_definition message)
definition-turn Eof columns n message =
    let p : (suc n + 1 == 0) ≡ false = ne_eqb (suc n + 1) 0 (λ (h : suc n + 1 ≡ 0). omega arith) in
    let q : (suc n + 1 == 1) ≡ false = ne_eqb (suc n + 1) 1 (λ (h : suc n + 1 ≡ 1). omega arith) in
    rw (p, q)
definition-turn Ok columns n message =
    let p : (suc n == 0) ≡ false = ne_eqb (suc n) 0 (λ (h : suc n ≡ 0). omega arith) in
    rw p

definitions-forward : (ends : Ends) (columns n : ℕ) (definitions rest : List (List ℕ)) → AreDefinitions definitions → length definitions ≡ n → turns_of (before_rows ends columns n) (definitions ++ rest) ≡ replicate n definition ++ turns_of (before_rows ends columns 0) rest
definitions-forward ends columns zero [] rest are as_many = refl
definitions-forward ends columns (suc n) [] rest are as_many = absurd (omega arith)
definitions-forward ends columns zero (message ∷ messages) rest are as_many = absurd (omega arith)
definitions-forward ends columns (suc n) (message ∷ messages) rest are as_many =
    let fewer : length messages ≡ n = omega arith in
    taken-step (before_rows ends columns (suc n)) message (messages ++ rest) definition (definition-turn ends columns n message ∙ ap definition_if are.0)
    ∙ ap (λ (reading : Reading). definition ∷ turns_of reading (messages ++ rest)) (after-definition ends columns n)
    ∙ ap (λ (turns : List Further). definition ∷ turns) (definitions-forward ends columns n messages rest are.1 fewer)

-- the messages of so many definitions, and the others
record Definitions (ends : Ends) (columns n : ℕ) (turns : List Further) (messages : List (List ℕ)) : Type 0 where
  definitions : List (List ℕ)
  others : List (List ℕ)
  messages_are : messages ≡ definitions ++ others
  definitions_are : AreDefinitions definitions
  as_many : length definitions ≡ n
  turns_are : turns_of (before_rows ends columns 0) others ≡ turns

definitions-back : (ends : Ends) (columns n : ℕ) (turns : List Further) (messages : List (List ℕ)) → turns_of (before_rows ends columns n) messages ≡ replicate n definition ++ turns → Definitions ends columns n turns messages
definitions-back ends columns zero turns messages e = record { definitions = []; others = messages; messages_are = refl; definitions_are = tt; as_many = refl; turns_are = e }
definitions-back ends columns (suc n) turns messages e =
    let step : Stepped (before_rows ends columns (suc n)) definition (replicate n definition ++ turns) messages = taken-step_back (before_rows ends columns (suc n)) messages definition (replicate n definition ++ turns) e in
    let found : Definitions ends columns n turns step.others = definitions-back ends columns n turns step.others (ap (λ (reading : Reading). turns_of reading step.others) (sym (after-definition ends columns n)) ∙ step.turns_are) in
    record {
      definitions = step.message ∷ found.definitions;
      others = found.others;
      messages_are = step.messages_are ∙ ap (λ (others : List (List ℕ)). step.message ∷ others) found.messages_are;
      definitions_are = (definition-if_back (is_definition step.message) (sym (definition-turn ends columns n step.message) ∙ step.turn_is), found.definitions_are);
      as_many = ap suc found.as_many;
      turns_are = found.turns_are;
    }

-- ---- what stands between the definitions and the rows

-- an EOF, or nothing
abbrev between_turns : Ends → List Further
between_turns Eof = definition ∷ []
between_turns Ok = []

between-forward : (ends : Ends) (columns : ℕ) (between rest : List (List ℕ)) → IsBetween ends between → turns_of (before_rows ends columns 0) (between ++ rest) ≡ between_turns ends ++ turns_of (at_rows ends columns) rest
between-forward Eof columns [] rest is = absurd is
between-forward Eof columns (message ∷ []) rest is = taken-step (before_rows Eof columns 0) message rest definition (ap definition_if is)
between-forward Eof columns (message ∷ other ∷ messages) rest is = absurd is
between-forward Ok columns [] rest is = refl
between-forward Ok columns (message ∷ messages) rest is = absurd is

-- the messages there, and the others
record Between (ends : Ends) (columns : ℕ) (turns : List Further) (messages : List (List ℕ)) : Type 0 where
  between : List (List ℕ)
  others : List (List ℕ)
  messages_are : messages ≡ between ++ others
  between_is : IsBetween ends between
  turns_are : turns_of (at_rows ends columns) others ≡ turns

between-back : (ends : Ends) (columns : ℕ) (turns : List Further) (messages : List (List ℕ)) → turns_of (before_rows ends columns 0) messages ≡ between_turns ends ++ turns → Between ends columns turns messages
between-back Eof columns turns messages e =
    let step : Stepped (before_rows Eof columns 0) definition turns messages = taken-step_back (before_rows Eof columns 0) messages definition turns e in
    record {
      between = step.message ∷ [];
      others = step.others;
      messages_are = step.messages_are;
      between_is = definition-if_back (is_eof_packet step.message) step.turn_is;
      turns_are = step.turns_are;
    }
between-back Ok columns turns messages e = record { between = []; others = messages; messages_are = refl; between_is = tt; turns_are = e }

-- ---- whole result sets

no-count : (a c : Bool) (columns : ℕ) → (if a && false && c then Some 0 else None) ≡ Some columns → ⊥
no-count true c columns e = cc
no-count false c columns e = cc

count-not_zero : (byte : ℕ) (bytes : List ℕ) (columns : ℕ) → column_count (byte ∷ bytes) ≡ Some columns → byte ≡ 0 → ⊥
count-not_zero byte bytes columns e is = no-count (1 == length (0 ∷ bytes)) (nat_le 0 65535) columns (rw is at e)

count-not_full : (byte : ℕ) (bytes : List ℕ) (columns : ℕ) → column_count (byte ∷ bytes) ≡ Some columns → byte ≡ 255 → ⊥
count-not_full byte bytes columns e is = let none : None ≡ Some columns = rw is at e in cc

other-reply : (byte : ℕ) (bytes : List ℕ) (columns : ℕ) → (byte == 0) ≡ false → (byte == 255) ≡ false → column_count (byte ∷ bytes) ≡ Some columns → reply_of (byte ∷ bytes) ≡ Some (Columns columns)
other-reply byte bytes columns p q e = rw (p, q, e)

count-reply : (message : List ℕ) (columns : ℕ) → column_count message ≡ Some columns → reply_of message ≡ Some (Columns columns)
count-reply [] columns e = cc
count-reply (byte ∷ bytes) columns e =
    other-reply byte bytes columns (ne_eqb byte 0 (count-not_zero byte bytes columns e)) (ne_eqb byte 255 (count-not_full byte bytes columns e)) e

reply-by_tests : (zeroes full done : Bool) (refusal : Option Refusal) (count : Option ℕ) (columns : ℕ) → (if zeroes then (if done then Some Done else None) else (if full then option_map (λ refusal. Refused refusal) refusal else option_map (λ count. Columns count) count)) ≡ Some (Columns columns) → count ≡ Some columns
reply-by_tests true full true refusal count columns e = cc
reply-by_tests true full false refusal count columns e = cc
reply-by_tests false true done None count columns e = cc
reply-by_tests false true done (Some refusal) count columns e = cc
reply-by_tests false false done refusal None columns e = cc
reply-by_tests false false done refusal (Some count) columns e = cc

count-reply_back : (message : List ℕ) (columns : ℕ) → reply_of message ≡ Some (Columns columns) → column_count message ≡ Some columns
count-reply_back [] columns e = cc
count-reply_back (byte ∷ bytes) columns e = reply-by_tests (byte == 0) (byte == 255) (is_ok_packet (byte ∷ bytes)) (refusal_of (byte ∷ bytes)) (column_count (byte ∷ bytes)) columns e

-- all that stands before the rows
all-before_rows : (ends : Ends) (columns : ℕ) (turns : List Further) → replicate (awaited_count ends columns) definition ++ turns ≡ replicate columns definition ++ (between_turns ends ++ turns)
all-before_rows Eof columns turns = ap (λ (l : List Further). l ++ turns) (replicate_next columns definition) ∙ append_assoc (replicate columns definition) (definition ∷ []) turns
all-before_rows Ok columns turns = refl

pub set-taken : (ends : Ends) (columns : ℕ) (rows : List (List Cell)) (messages : List (List ℕ)) → IsResultSet ends columns rows messages → IsTaken ends columns rows messages
set-taken ends columns rows messages set =
    let after : List (List ℕ) = set.row_messages ++ set.last ∷ [] in
    let turns : List Further = map row rows ++ end ∷ [] in
    record {
      first = set.count;
      others = set.definitions ++ (set.between ++ (set.row_messages ++ set.last ∷ []));
      messages_are = set.messages_are;
      reply = count-reply set.count columns set.count_is;
      turns =
          definitions-forward ends columns columns set.definitions (set.between ++ after) set.definitions_are set.as_many
          ∙ ap (λ (l : List Further). replicate columns definition ++ l) (between-forward ends columns set.between after set.between_is ∙ ap (λ (l : List Further). between_turns ends ++ l) (rows-forward ends columns set.row_messages rows set.last set.rows_are set.last_is))
          ∙ sym (all-before_rows ends columns turns);
    }

pub set-taken_back : (ends : Ends) (columns : ℕ) (rows : List (List Cell)) (messages : List (List ℕ)) → IsTaken ends columns rows messages → IsResultSet ends columns rows messages
set-taken_back ends columns rows messages set =
    let turns : List Further = map row rows ++ end ∷ [] in
    let found : Definitions ends columns columns (between_turns ends ++ turns) set.others = definitions-back ends columns columns (between_turns ends ++ turns) set.others (set.turns ∙ all-before_rows ends columns turns) in
    let middle : Between ends columns turns found.others = between-back ends columns turns found.others found.turns_are in
    let ended : RowsAndEnd ends columns rows middle.others = rows-back ends columns rows middle.others middle.turns_are in
    record {
      count = set.first;
      definitions = found.definitions;
      between = middle.between;
      row_messages = ended.row_messages;
      last = ended.last;
      messages_are = set.messages_are ∙ ap (λ (l : List (List ℕ)). set.first ∷ l) (found.messages_are ∙ ap (λ (l : List (List ℕ)). found.definitions ++ l) (middle.messages_are ∙ ap (λ (l : List (List ℕ)). middle.between ++ l) ended.messages_are));
      count_is = count-reply_back set.first columns set.reply;
      definitions_are = found.definitions_are;
      as_many = found.as_many;
      between_is = middle.between_is;
      rows_are = ended.rows_are;
      last_is = ended.last_is;
    }
