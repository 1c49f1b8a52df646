-- The commands that texts are read as.
use Rattle.std.proofs.Common.{◌≡◌, ◌==◌, ◌||◌, ◌-◌, ◌<◌, ◌⊎◌, inl, inr, ℕ, suc, arith, Bool, true, false, cond, List, codes, get_or, refl, sym, ◌∙◌, ap, subst, bytes_eq}
use Rattle.std.proofs.lemmas.Bool.Decides.{nat_tests, Decides-eqb}
use Rattle.std.proofs.lemmas.Slice.Eq.{bytes_eq-Decides}
use Rattle.object_forms.specs.Head.{HasHead}
use Rattle.statement_forms.specs.Statement.{CommandHasText, IsTextOf, IsReadAs, list_row}
use Rattle.statement_forms.specs.Text.{command_text}
use Rattle.statement_forms.specs.declared.command.Command.{Command}
use Rattle.statement_forms.specs.declared.command.Command.TheVariants.{SetUp, NamesUtf8mb4, NamesBinary, ForeignKeyChecksOff, TimeZoneUtc, BinaryLogOff, SqlMode, CharacterSetClient, CollationConnection, RepeatableRead, TimeZone, LockInstance, FlushTables, UnlockTables, UnlockInstance, StartSnapshot, Start, Commit, Rollback, Use, Create, CreateProgress, CreateProgressFiles, CreateProgressDump, Insert, InsertProgressFile, InsertProgressDump}
use Rattle.statement_forms.specs.declared.statement.Statement.{Statement}
use Rattle.statement_forms.specs.declared.statement.Statement.TheVariants.{Command as SomeCommand}
use Rattle.statement_reading.proofs.RowValues.{values_of}
use Rattle.statement_reading.proofs.Rows.{made_of}
use Rattle.statement_laws.specs.Readings.{read_command, read_create}
use Rattle.statement_laws.proofs.Heads.{no_head_elsewhere}
use Rattle.statement_laws.proofs.Latest.{all_later, read_but, read_plain, is_row, row_is}

time_zone_text : command_text TimeZoneUtc ≡ command_text (TimeZone (codes "+00:00"))
unfolding command_text
time_zone_text = refl

abbrev no_row : ℕ → Bool
no_row m = false

-- a command that makes a load's progress
read_progress : (s : Statement) (text : List ℕ) → IsTextOf s text → all_later no_row (list_row s) (58 - list_row s) (suc (list_row s)) ≡ true → IsReadAs text s
read_progress s text is test = read_but no_row s text is test (λ other here more also. cc here)

-- the row of a file's name and that of a digest are put into different tables
other_table : (name : List ℕ) (other : Statement) → is_row 26 (list_row other) ≡ true → IsTextOf other (command_text (InsertProgressFile name)) → ⊥
unfolding command_text
other_table name other here also =
    let there : IsTextOf (SomeCommand (InsertProgressDump (values_of other).a)) (command_text (InsertProgressFile name)) =
    subst (λ (k : Statement). IsTextOf k (command_text (InsertProgressFile name))) (made_of 26 other (row_is 26 (list_row other) here)) also in
    differ (ap (λ (l : List ℕ). get_or l 33 0) there.1) where
      differ : ◌≡◌ {A = ℕ} 102 100 → ⊥
      differ e = omega (arith, e)

abbrev any_row : ℕ → Bool
any_row m = true

is_or_not : (m n : ℕ) (q : Bool) → (m == n) ≡ q → (m ≡ n) ⊎ ((m == n) ≡ false)
is_or_not m n true e = inl ((Decides-eqb m n).0 e)
is_or_not m n false e = inr e

none_of : (a b c d : Bool) → a ≡ false → b ≡ false → c ≡ false → d ≡ false → (a || b || c || d) ≡ false
none_of true b c d p q r s = absurd (cc p)
none_of false true c d p q r s = absurd (cc q)
none_of false false true d p q r s = absurd (cc r)
none_of false false false true p q r s = absurd (cc s)
none_of false false false false p q r s = refl

is_no_object : (m : ℕ) → 20 < m → (m == 20) ≡ false
is_no_object m more = grind (arith, nat_tests)

-- the bytes are none of a command's text
differs : (text other : List ℕ) → bytes_eq text other ≡ false → text ≡ other → ⊥
differs text other e same = wrong (sym e ∙ (bytes_eq-Decides text other).1 same) where
  wrong : false ≡ true → ⊥
  wrong h = cc

made_text : (command : Command) (other : Statement) (text : List ℕ) → other ≡ SomeCommand command → IsTextOf other text → text ≡ command_text command
made_text command other text is also = (subst (λ (k : Statement). IsTextOf k text) is also).1

later_object : (text : List ℕ) → HasHead text → bytes_eq text (command_text CreateProgress) ≡ false → bytes_eq text (command_text CreateProgressFiles) ≡ false → bytes_eq text (command_text CreateProgressDump) ≡ false → (other : Statement) → 20 < list_row other → IsTextOf other text → ⊥
later_object text head p q r other more also = elim (is_or_not (list_row other) 21 _ refl) [
  | inl here ↦ differs text (command_text CreateProgress) p (made_text CreateProgress other text (made_of 21 other here) also)
  | inr not_schema ↦ elim (is_or_not (list_row other) 22 _ refl) [
    | inl here ↦ differs text (command_text CreateProgressFiles) q (made_text CreateProgressFiles other text (made_of 22 other here) also)
    | inr not_files ↦ elim (is_or_not (list_row other) 23 _ refl) [
      | inl here ↦ differs text (command_text CreateProgressDump) r (made_text CreateProgressDump other text (made_of 23 other here) also)
      | inr not_dump ↦ no_head_elsewhere other text also (none_of _ _ _ _ (is_no_object (list_row other) more) not_schema not_files not_dump) head
    ]
  ]
]

-- An object's text that is none of a load's progress is read as such.
read_object : (text : List ℕ) → HasHead text → bytes_eq text (command_text CreateProgress) ≡ false → bytes_eq text (command_text CreateProgressFiles) ≡ false → bytes_eq text (command_text CreateProgressDump) ≡ false → IsReadAs text (SomeCommand (Create text))
unfolding command_text
read_object text head p q r = read_but any_row (SomeCommand (Create text)) text (head, refl) refl
    (λ other here more also. later_object text head p q r other more also)

read_made : (command : Command) (text : List ℕ) → bytes_eq text (command_text command) ≡ true → IsReadAs (command_text command) (SomeCommand command) → IsReadAs text (SomeCommand command)
read_made command text same read = subst (λ (l : List ℕ). IsReadAs l (SomeCommand command)) (sym ((bytes_eq-Decides text (command_text command)).0 same)) read

text_is_read : (text : List ℕ) → HasHead text → (a b c : Bool) → bytes_eq text (command_text CreateProgress) ≡ a → bytes_eq text (command_text CreateProgressFiles) ≡ b → bytes_eq text (command_text CreateProgressDump) ≡ c → IsReadAs text (SomeCommand (cond a CreateProgress (cond b CreateProgressFiles (cond c CreateProgressDump (Create text)))))
text_is_read text head true b c p q r = read_made CreateProgress text p (read_progress (SomeCommand CreateProgress) (command_text CreateProgress) (tt, refl) refl)
text_is_read text head false true c p q r = read_made CreateProgressFiles text q (read_progress (SomeCommand CreateProgressFiles) (command_text CreateProgressFiles) (tt, refl) refl)
text_is_read text head false false true p q r = read_made CreateProgressDump text r (read_progress (SomeCommand CreateProgressDump) (command_text CreateProgressDump) (tt, refl) refl)
text_is_read text head false false false p q r = read_object text head p q r

object_text : (text : List ℕ) → command_text (Create text) ≡ text
unfolding command_text
object_text text = refl

object_is_read : (text : List ℕ) → HasHead text → IsReadAs (command_text (Create text)) (SomeCommand (read_create text))
object_is_read text head = subst (λ (l : List ℕ). IsReadAs l (SomeCommand (read_create text))) (sym (object_text text)) (text_is_read text head _ _ _ refl refl refl)

-- The text of a command is read as a command.
pub command_is_read : (command : Command) → CommandHasText command → IsReadAs (command_text command) (SomeCommand (read_command command))
command_is_read SetUp has = read_plain (SomeCommand SetUp) (command_text SetUp) (has, refl) refl refl
command_is_read NamesUtf8mb4 has = read_plain (SomeCommand NamesUtf8mb4) (command_text NamesUtf8mb4) (has, refl) refl refl
command_is_read NamesBinary has = read_plain (SomeCommand NamesBinary) (command_text NamesBinary) (has, refl) refl refl
command_is_read ForeignKeyChecksOff has = read_plain (SomeCommand ForeignKeyChecksOff) (command_text ForeignKeyChecksOff) (has, refl) refl refl
command_is_read TimeZoneUtc has = read_plain (SomeCommand (TimeZone (codes "+00:00"))) (command_text TimeZoneUtc) (tt, time_zone_text) refl refl
command_is_read BinaryLogOff has = read_plain (SomeCommand BinaryLogOff) (command_text BinaryLogOff) (has, refl) refl refl
command_is_read (SqlMode value) has = read_plain (SomeCommand (SqlMode value)) (command_text (SqlMode value)) (has, refl) refl refl
command_is_read (CharacterSetClient value) has = read_plain (SomeCommand (CharacterSetClient value)) (command_text (CharacterSetClient value)) (has, refl) refl refl
command_is_read (CollationConnection value) has = read_plain (SomeCommand (CollationConnection value)) (command_text (CollationConnection value)) (has, refl) refl refl
command_is_read RepeatableRead has = read_plain (SomeCommand RepeatableRead) (command_text RepeatableRead) (has, refl) refl refl
command_is_read (TimeZone value) has = read_plain (SomeCommand (TimeZone value)) (command_text (TimeZone value)) (has, refl) refl refl
command_is_read LockInstance has = read_plain (SomeCommand LockInstance) (command_text LockInstance) (has, refl) refl refl
command_is_read FlushTables has = read_plain (SomeCommand FlushTables) (command_text FlushTables) (has, refl) refl refl
command_is_read UnlockTables has = read_plain (SomeCommand UnlockTables) (command_text UnlockTables) (has, refl) refl refl
command_is_read UnlockInstance has = read_plain (SomeCommand UnlockInstance) (command_text UnlockInstance) (has, refl) refl refl
command_is_read StartSnapshot has = read_plain (SomeCommand StartSnapshot) (command_text StartSnapshot) (has, refl) refl refl
command_is_read Start has = read_plain (SomeCommand Start) (command_text Start) (has, refl) refl refl
command_is_read Commit has = read_plain (SomeCommand Commit) (command_text Commit) (has, refl) refl refl
command_is_read Rollback has = read_plain (SomeCommand Rollback) (command_text Rollback) (has, refl) refl refl
command_is_read (Use schema) has = read_plain (SomeCommand (Use schema)) (command_text (Use schema)) (has, refl) refl refl
command_is_read (Create text) has = object_is_read text has
command_is_read CreateProgress has = read_progress (SomeCommand CreateProgress) (command_text CreateProgress) (has, refl) refl
command_is_read CreateProgressFiles has = read_progress (SomeCommand CreateProgressFiles) (command_text CreateProgressFiles) (has, refl) refl
command_is_read CreateProgressDump has = read_progress (SomeCommand CreateProgressDump) (command_text CreateProgressDump) (has, refl) refl
command_is_read (Insert text) has = read_plain (SomeCommand (Insert text)) (command_text (Insert text)) (has, refl) refl refl
command_is_read (InsertProgressFile name) has = read_but (is_row 26) (SomeCommand (InsertProgressFile name)) (command_text (InsertProgressFile name)) (has, refl) refl (λ other here more also. other_table name other here also)
command_is_read (InsertProgressDump digest) has = read_plain (SomeCommand (InsertProgressDump digest)) (command_text (InsertProgressDump digest)) (has, refl) refl refl
