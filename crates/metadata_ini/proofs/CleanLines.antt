-- The lines of a `metadata` have no line feeds.
use Rattle.std.proofs.Common.{◌≡◌, ◌≢◌, ℕ, ◌+◌, ◌-◌, ◌/◌, ◌%◌, ◌<◌, ◌^◌, min, Bool, true, false, ◌==◌, cond, List, [], ◌∷◌, ◌++◌, map, Option, Some, None, refl, sym, ◌∙◌, ap, subst, arith, decimal, codes, nat_lt, IfSome, ◌⊎◌, inl, inr}
use Rattle.std.specs.List.{AllByRecursion, list_any, list_all, sum_by}
use Rattle.std.specs.List.Sorted.{IsStrictlySortedBy}
use Rattle.std.specs.Map.{keys_of}
use Rattle.std.specs.Ordering.{is_eq}
use Rattle.std.specs.BTreeMap.{is_at}
use Rattle.std.proofs.lemmas.Bool.{or_from, or_parts, and_parts, ne_eqb}
use Rattle.std.proofs.lemmas.Map.Entries.{lookup_tail}
use Rattle.std.proofs.lemmas.Map.Keys.{sorted_tail}
use Rattle.std.proofs.lemmas.List.Elements.{recursion_from_All}
use Rattle.hex.specs.Hex.{encode_lower}
use Rattle.object_forms.specs.declared.kind.Kind.TheVariants.{Schema, Table, Procedure, Function, View, Trigger, Event}
use Rattle.server_data.specs.Names.{escaped_name, file_name_byte, lower_digit, stands_as_it_is}
use Rattle.server_data.specs.declared.data.Position.{Position}
use Rattle.folder_forms.specs.FileName.{file_number, front_names, is_schema_file, ending}
use Rattle.folder_forms.specs.Metadata.{HasFileLine, HasPositionLines, IsMetadata, IsTableList, IsTimeText, TableNames, file_line, is_file_of, is_printable, kind_word, named_text, position_lines, rows_of_table, table_line, table_order, two_digits}
use Rattle.folder_forms.specs.declared.file_kind.FileKind.{FileKind}
use Rattle.folder_forms.specs.declared.file_kind.FileKind.TheVariants.{Object, Rows}
use Rattle.folder_forms.specs.declared.metadata.FileLine.{FileLine}
use Rattle.folder_forms.specs.declared.metadata.Metadata.{Metadata}
use Rattle.metadata_ini.specs.Cut.{Lacks}
use Rattle.metadata_ini.proofs.DecimalTexts.{decimal_digits}
use Rattle.metadata_ini.proofs.LineTexts.{digits_lack, encoded_lacks}
use Rattle.metadata_ini.proofs.NumberTexts.{file_digits}
use Rattle.metadata_ini.proofs.TableLists.{at_head, past_head, entry_of}

-- no line feed is in the text
abbrev pub Clean : List ℕ → Type 0
Clean text = Lacks 10 text

pub clean_joined : (a b : List ℕ) → Clean a → Clean b → Clean (a ++ b)
clean_joined [] b h k = k
clean_joined (c ∷ a) b h k =
    let parts = or_parts (c == 10) (list_any (λ o. o == 10) a) h in
    or_from (c == 10) (list_any (λ o. o == 10) (a ++ b)) parts.0 (clean_joined a b parts.1 k)

clean_byte : (b : ℕ) (text : List ℕ) → b ≢ 10 → Clean text → Clean (b ∷ text)
clean_byte b text other rest = or_from (b == 10) (list_any (λ o. o == 10) text) (ne_eqb b 10 other) rest

pub clean_by : (test : ℕ → Bool) → test 10 ≡ false → (text : List ℕ) → list_all test text ≡ true → Clean text
clean_by test fails [] all = refl
clean_by test fails (b ∷ text) all =
    let parts = and_parts (test b) (list_all test text) all in
    clean_byte b text (λ is. cc (sym parts.0 ∙ ap test is ∙ fails)) (clean_by test fails text parts.1)

pub clean_decimal : (n : ℕ) → n < 2 ^ 64 → Clean (decimal n)
clean_decimal n small = digits_lack 10 (decimal n) (λ h. omega (arith, h)) (decimal_digits n small)

clean_two : (n : ℕ) (rest : List ℕ) → Clean rest → Clean (two_digits n ++ rest)
clean_two n rest h = clean_byte (n / 10 + 48) ((n % 10 + 48) ∷ rest) (λ e. omega (arith, e)) (clean_byte (n % 10 + 48) rest (λ e. omega (arith, e)) h)

pub clean_time : (text : List ℕ) (seconds : ℕ) → IsTimeText text seconds → Clean text
clean_time text seconds time =
    let m = time.moment in
    let r1 : List ℕ = two_digits m.second ++ codes "Z" in
    let r2 : List ℕ = two_digits m.minute ++ 58 ∷ r1 in
    let r3 : List ℕ = two_digits m.hour ++ 58 ∷ r2 in
    let r4 : List ℕ = two_digits m.day ++ 84 ∷ r3 in
    let r5 : List ℕ = two_digits m.month ++ 45 ∷ r4 in
    let r6 : List ℕ = two_digits (m.year % 100) ++ 45 ∷ r5 in
    subst Clean (sym time.is) (clean_two (m.year / 100) r6 (clean_two (m.year % 100) (45 ∷ r5) (clean_two m.month (45 ∷ r4) (clean_two m.day (84 ∷ r3)
    (clean_two m.hour (58 ∷ r2) (clean_two m.minute (58 ∷ r1) (clean_two m.second (codes "Z") refl)))))))

-- names

lower_clean : (d : ℕ) → lower_digit d ≢ 10
lower_clean d = by (nat_lt d 10) where
  by : (b : Bool) → cond b (d + 48) (d + 87) ≢ 10
  by true e = omega arith
  by false e = omega arith

name_byte_clean : (b : ℕ) (rest : List ℕ) → Clean rest → Clean (file_name_byte b ++ rest)
name_byte_clean b rest h = by (stands_as_it_is b) refl where
  by : (s : Bool) → stands_as_it_is b ≡ s → Clean (cond s (b ∷ []) (64 ∷ lower_digit (b / 16) ∷ lower_digit (b % 16) ∷ []) ++ rest)
  by true is = clean_byte b rest (λ e. cc (sym is ∙ ap stands_as_it_is e)) h
  by false is = clean_byte (lower_digit (b / 16)) (lower_digit (b % 16) ∷ rest) (lower_clean (b / 16)) (clean_byte (lower_digit (b % 16)) rest (lower_clean (b % 16)) h)

name_clean : (name : List ℕ) → Clean (escaped_name name)
name_clean [] = refl
name_clean (b ∷ name) = name_byte_clean b (escaped_name name) (name_clean name)

number_clean : (n : ℕ) → n < 2 ^ 32 → Clean (file_number n)
number_clean n small = digits_lack 10 (file_number n) (λ h. omega (arith, h)) (file_digits n small)

ending_clean : (kind : FileKind) (n : ℕ) → n < 2 ^ 32 → Clean (ending kind n)
ending_clean (Object Schema) n small = refl
ending_clean (Object Table) n small = refl
ending_clean (Object Procedure) n small = refl
ending_clean (Object Function) n small = refl
ending_clean (Object View) n small = refl
ending_clean (Object Trigger) n small = refl
ending_clean (Object Event) n small = refl
ending_clean Rows n small = clean_joined (file_number n) (codes ".sql") (number_clean n small) refl

front_clean : (b : Bool) (schema name : List ℕ) → Clean (cond b (escaped_name schema) (escaped_name schema ++ codes "." ++ escaped_name name))
front_clean true schema name = name_clean schema
front_clean false schema name = clean_joined (escaped_name schema ++ codes ".") (escaped_name name) (clean_joined (escaped_name schema) (codes ".") (name_clean schema) refl) (name_clean name)

word_clean : (kind : FileKind) → Clean (kind_word kind)
word_clean (Object Schema) = refl
word_clean (Object Table) = refl
word_clean Rows = refl
word_clean (Object Procedure) = refl
word_clean (Object Function) = refl
word_clean (Object View) = refl
word_clean (Object Trigger) = refl
word_clean (Object Event) = refl

spaced : (a b : List ℕ) → Clean a → Clean b → Clean (a ++ codes " " ++ b)
spaced a b h k = clean_joined (a ++ codes " ") b (clean_joined a (codes " ") h refl) k

pub file_clean : (file : FileLine) → HasFileLine file → Clean (file_line file)
file_clean file may =
    let name = clean_joined (front_names file.name.kind file.name.schema file.name.name) (ending file.name.kind file.name.number)
    (front_clean (is_schema_file file.name.kind) file.name.schema file.name.name) (ending_clean file.name.kind file.name.number may.named.number_size) in
    let kind = kind_word file.name.kind in
    let rows = decimal file.rows in
    let bytes = decimal file.bytes in
    let digest = encode_lower file.digest in
    spaced (kind ++ codes " " ++ rows ++ codes " " ++ bytes ++ codes " " ++ digest) (named_text file.name) (spaced (kind ++ codes " " ++ rows ++ codes " " ++ bytes) digest (spaced (kind ++ codes " " ++ rows) bytes (spaced kind rows (word_clean file.name.kind) (clean_decimal file.rows may.rows_size)) (clean_decimal file.bytes may.bytes_size)) (encoded_lacks 10 file.digest refl refl)) name

-- lines

AllClean : List (List ℕ) → Type 0
AllClean lines = AllByRecursion Clean lines

files_clean : (files : List FileLine) → AllByRecursion HasFileLine files → AllByRecursion Clean (map file_line files)
files_clean [] all = tt
files_clean (file ∷ files) all = (file_clean file all.0, files_clean files all.1)

small_rows : (es : List (TableNames × ℕ)) → IsStrictlySortedBy table_order (keys_of es) → ((q : TableNames) → IfSome (entry_of q es) (λ n. n < 2 ^ 64)) → AllByRecursion (λ e. e.1 < 2 ^ 64) es
small_rows [] sorted low = tt
small_rows (e ∷ es) sorted low =
    (subst (λ o. IfSome o (λ n. n < 2 ^ 64)) (at_head e es) (low e.0), small_rows es (sorted_tail table_order e.0 (keys_of es) sorted) (λ q. by q (is_eq (table_order q e.0)) refl)) where
      by : (q : TableNames) (b : Bool) → is_eq (table_order q e.0) ≡ b → IfSome (entry_of q es) (λ n. n < 2 ^ 64)
      by q true is = subst (λ o. IfSome o (λ n. n < 2 ^ 64)) (sym (past_head q e es sorted is)) tt
      by q false is = subst (λ o. IfSome o (λ n. n < 2 ^ 64)) (lookup_tail (is_at (table_order q)) e es is) (low q)

rows_low : (files : List FileLine) (q : TableNames) → IfSome (rows_of_table files q) (λ n. n < 2 ^ 64)
rows_low files q = by (list_any (is_file_of q) files) (sum_by (λ file. cond (is_file_of q file) file.rows 0) files) where
  by : (b : Bool) (n : ℕ) → IfSome (cond b (Some (min (2 ^ 64 - 1) n)) None) (λ m. m < 2 ^ 64)
  by true n = omega arith
  by false n = tt

tables_clean : (tables : List (TableNames × ℕ)) → AllByRecursion (λ e. e.1 < 2 ^ 64) tables → AllByRecursion Clean (map table_line tables)
tables_clean [] all = tt
tables_clean (t ∷ tables) all = (
  clean_joined (decimal t.1 ++ codes " " ++ escaped_name t.0.0 ++ codes ".") (escaped_name t.0.1)
      (clean_joined (decimal t.1 ++ codes " " ++ escaped_name t.0.0) (codes ".") (spaced (decimal t.1) (escaped_name t.0.0) (clean_decimal t.1 all.0) (name_clean t.0.0)) refl) (name_clean t.0.1),
  tables_clean tables all.1,
)

all_joined : (a b : List (List ℕ)) → AllByRecursion Clean a → AllByRecursion Clean b → AllByRecursion Clean (a ++ b)
all_joined [] b h k = k
all_joined (x ∷ a) b h k = (h.0, all_joined a b h.1 k)

end_clean : (b : Bool) (tables : List (TableNames × ℕ)) → AllByRecursion (λ e. e.1 < 2 ^ 64) tables → AllByRecursion Clean (cond b (codes "[tables]" ∷ map table_line tables) [])
end_clean true tables all = (refl, tables_clean tables all)
end_clean false tables all = tt

position_clean : (position : Option Position) → IfSome position HasPositionLines → AllByRecursion Clean (position_lines position)
position_clean None may = tt
position_clean (Some p) may = (
  refl,
  (
    clean_joined (codes "file=") p.file refl (clean_by is_printable refl p.file may.file_printable),
    (
      clean_joined (codes "offset=") (decimal p.offset) refl (clean_decimal p.offset may.offset_size),
      (clean_joined (codes "gtid=") p.gtid refl (clean_by is_printable refl p.gtid may.gtid_printable), tt),
    ),
  ),
)

version_clean : (n : ℕ) → (n ≡ 1) ⊎ (n ≡ 2) → Clean (decimal n)
version_clean n known = clean_decimal n (elim known [ inl e ↦ omega (arith, e) | inr e ↦ omega (arith, e) ])

pub metadata_clean : (lines : List (List ℕ)) (value : Metadata) → IsMetadata lines value → AllByRecursion Clean lines
metadata_clean lines value is = subst (AllByRecursion Clean) (sym is.are) (
  refl,
  (
    clean_joined (codes "version=") (decimal value.version) refl (version_clean value.version is.may_be.version),
    (
      clean_joined (codes "started=") is.started_text refl (clean_time is.started_text value.started is.started),
      (
        clean_joined (codes "finished=") is.finished_text refl (clean_time is.finished_text value.finished is.finished),
        all_joined (position_lines value.position) _ (position_clean value.position is.may_be.position) (
          refl,
          all_joined (map file_line value.files) _ (files_clean value.files (recursion_from_All HasFileLine value.files is.may_be.files))
              (end_clean (value.version == 2) is.tables (small_rows is.tables is.tables_are.order (λ q. subst (λ o. IfSome o (λ n. n < 2 ^ 64)) (sym (is.tables_are.rows q)) (rows_low value.files q)))),
        ),
      ),
    ),
  ),
)

-- lines of tables have none either
pub table_lines_clean : (files : List FileLine) (tables : List (TableNames × ℕ)) → IsTableList files tables → AllByRecursion Clean (map table_line tables)
table_lines_clean files tables are = tables_clean tables (small_rows tables are.order (λ q. subst (λ o. IfSome o (λ n. n < 2 ^ 64)) (sym (are.rows q)) (rows_low files q)))
