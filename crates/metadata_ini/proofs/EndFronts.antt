-- From the lines of files on: what they say, and where a text leaves them.
use Rattle.std.proofs.Common.{◌≡◌, ◌≢◌, ◌⊎◌, inl, inr, ℕ, zero, suc, ◌+◌, ◌<◌, ◌≤◌, ◌^◌, Bool, true, false, cond, ◌==◌, List, [], ◌∷◌, ◌++◌, length, get_or, take, drop, map, Option, Some, None, Result, Ok, Err, refl, sym, ◌∙◌, ap, subst, arith, append_assoc, append-nil, decimal, codes, length-append, length-take}
use Rattle.std.specs.List.{All, AllByRecursion, AllPairs, flat_map}
use Rattle.std.proofs.lemmas.Bool.{eqb-true, eq-eqb, cond-true, cond-false, ne_eqb}
use Rattle.std.proofs.lemmas.List.Elements.{All-take, recursion_from_All}
use Rattle.hex.specs.Hex.{encode_lower}
use Rattle.hex.specs.declared.error.FromHexError.{FromHexError}
use Rattle.hex.proofs.HexLemmas.{decode_of-encode_lower}
use Rattle.hex.specs.Hex.{decode_of}
use Rattle.object_forms.specs.declared.kind.Kind.TheVariants.{Schema, Table, Procedure, Function, View, Trigger, Event}
use Rattle.server_data.specs.declared.data.Position.{Position}
use Rattle.folder_forms.specs.Metadata.{BeginsMetadata, HasFileLine, HasMetadata, IsBadLine, IsMetadata, IsMetadataText, IsTableList, IsWrongVersion, MayPrecede, TableNames, ended, file_line, kind_word, named_text, position_lines, table_line, table_lines}
use Rattle.folder_forms.specs.declared.file_kind.FileKind.{FileKind}
use Rattle.folder_forms.specs.declared.file_kind.FileKind.TheVariants.{Object, Rows}
use Rattle.folder_forms.specs.declared.metadata.FileLine.{FileLine}
use Rattle.folder_forms.specs.declared.metadata.Metadata.{Metadata}
use Rattle.metadata_ini.specs.Fault.{IsMetadataFault}
use Rattle.metadata_ini.specs.Line.{IsFileLine}
use Rattle.metadata_ini.specs.Order.{InOrder}
use Rattle.metadata_ini.specs.declared.fault.MetadataFault.TheVariants.{BadLine}
use Rattle.metadata_ini.specs.declared.heads.Head.{Head}
use Rattle.metadata_ini.specs.Reading.{IsAtFiles, LeavesLines, before_files, front_lines, value_of}
use Rattle.metadata_ini.specs.Writing.{head_lines}
use Rattle.metadata_ini.proofs.Appended.{flat_joined}
use Rattle.metadata_ini.proofs.CleanLines.{Clean, file_clean}
use Rattle.metadata_ini.proofs.CutTexts.{same_cut, same_fields}
use Rattle.metadata_ini.proofs.Days.{before_9999}
use Rattle.metadata_ini.proofs.DecimalTexts.{same_decimals}
use Rattle.metadata_ini.proofs.FileFronts.{ended_cons}
use Rattle.metadata_ini.proofs.LineTexts.{line_fields, file_fields}
use Rattle.metadata_ini.proofs.Fronts.{refused, whole}
use Rattle.metadata_ini.proofs.PositionFronts.{head_not_wrong}
use Rattle.metadata_ini.proofs.TableLists.{has_tables, one_table_list}
use Rattle.metadata_ini.proofs.Texts.{one_file}

-- a line is of one file

bytes_or_none : Result (List ℕ) FromHexError → List ℕ
bytes_or_none (Ok bytes) = bytes
bytes_or_none (Err fault) = []

pub one_line : (line : List ℕ) (f g : FileLine) → IsFileLine line f → IsFileLine line g → f ≡ g
unfolding bytes_or_none
one_line line f g p q =
    let s = same_fields line (file_fields f) (file_fields g) (line_fields line f p) (line_fields line g q) in
    let names = one_file (named_text f.name) f.name g.name (record { is = refl; may_be = p.may_be.named }) (record { is = s.name; may_be = q.may_be.named }) in
    let rows = same_decimals f.rows g.rows p.may_be.rows_size q.may_be.rows_size s.rows in
    let bytes = same_decimals f.bytes g.bytes p.may_be.bytes_size q.may_be.bytes_size s.bytes in
    let digests : f.digest ≡ g.digest = ap bytes_or_none (sym (decode_of-encode_lower f.digest p.may_be.digest.bytes) ∙ ap decode_of s.digest ∙ decode_of-encode_lower g.digest q.may_be.digest.bytes) in
    λ i. record { name = names i; rows = rows i; bytes = bytes i; digest = digests i }

abbrev pub tables_word : List ℕ
tables_word = codes "[tables]"

word_first : (kind : FileKind) → get_or (kind_word kind) 0 0 ≡ 91 → ⊥
word_first (Object Schema) e = omega (arith, e)
word_first (Object Table) e = omega (arith, e)
word_first Rows e = omega (arith, e)
word_first (Object Procedure) e = omega (arith, e)
word_first (Object Function) e = omega (arith, e)
word_first (Object View) e = omega (arith, e)
word_first (Object Trigger) e = omega (arith, e)
word_first (Object Event) e = omega (arith, e)

first_of_word : (kind : FileKind) (a b c d e f g h : List ℕ) → get_or (kind_word kind ++ a ++ b ++ c ++ d ++ e ++ f ++ g ++ h) 0 0 ≡ get_or (kind_word kind) 0 0
first_of_word (Object Schema) a b c d e f g h = refl
first_of_word (Object Table) a b c d e f g h = refl
first_of_word Rows a b c d e f g h = refl
first_of_word (Object Procedure) a b c d e f g h = refl
first_of_word (Object Function) a b c d e f g h = refl
first_of_word (Object View) a b c d e f g h = refl
first_of_word (Object Trigger) a b c d e f g h = refl
first_of_word (Object Event) a b c d e f g h = refl

pub no_tables_line : (file : FileLine) → file_line file ≢ tables_word
no_tables_line file e =
    word_first file.name.kind (sym (first_of_word file.name.kind (codes " ") (decimal file.rows) (codes " ") (decimal file.bytes) (codes " ") (encode_lower file.digest) (codes " ") (named_text file.name)) ∙ ap (λ l. get_or l 0 0) e)

-- lines of files in front of others

-- the files go on, and then the end comes
pub record GoesOn (fs gs : List FileLine) (x t : List (List ℕ)) : Type 0 where
  pub more : List FileLine
  pub files : gs ≡ fs ++ more
  pub is : x ≡ map file_line more ++ t

abbrev head_of : List (List ℕ) → List ℕ
head_of lines = get_or lines 0 []

pub goes_on : (fs gs : List FileLine) (x t : List (List ℕ)) → AllByRecursion HasFileLine fs → AllByRecursion HasFileLine gs → ((line : List ℕ) (more : List (List ℕ)) → t ≡ line ∷ more → line ≡ tables_word)
    → map file_line fs ++ x ≡ map file_line gs ++ t → GoesOn fs gs x t
goes_on [] gs x t h k end e = record { more = gs; files = refl; is = e }
goes_on (f ∷ fs) [] x t h k end e = absurd (no_tables_line f (end (file_line f) (map file_line fs ++ x) (sym e)))
goes_on (f ∷ fs) (g ∷ gs) x t h k end e =
    let same : f ≡ g = one_line (file_line f) f g (record { is = refl; may_be = h.0 }) (record { is = ap head_of e; may_be = k.0 }) in
    let rest = goes_on fs gs x t h.1 k.1 end (ap (drop 1) e) in
    record { more = rest.more; files = (λ i. sym same i ∷ rest.files i); is = rest.is }

pub end_first : (version : ℕ) (tables : List (TableNames × ℕ)) (line : List ℕ) (more : List (List ℕ)) → table_lines version tables ≡ line ∷ more → (version ≡ 2) × (line ≡ tables_word)
end_first version tables line more e = by (version == 2) refl e where
  by : (b : Bool) → (version == 2) ≡ b → cond b (tables_word ∷ map table_line tables) [] ≡ line ∷ more → (version ≡ 2) × (line ≡ tables_word)
  by true is e = (eqb-true version 2 is, sym (ap head_of e))
  by false is e = absurd (omega (arith, ap length e))

-- the lines from the position on
after_position : (o p : Option Position) (x y : List (List ℕ)) → before_files o ++ x ≡ position_lines p ++ (codes "[files]" ∷ y) → x ≡ y
after_position None None x y e = ap (drop 1) e
after_position None (Some p) x y e = absurd (omega (arith, ap (λ l. get_or (head_of l) 1 0) e))
after_position (Some o) None x y e = absurd (omega (arith, ap (λ l. get_or (head_of l) 1 0) e))
after_position (Some o) (Some p) x y e = ap (drop 5) e

pub small : (n : ℕ) → (n ≡ 1) ⊎ (n ≡ 2) → n < 2 ^ 64
small n (inl e) = omega (arith, e)
small n (inr e) = omega (arith, e)

-- lists

all_at : (P : FileLine → Type 0) (fs : List FileLine) (g : FileLine) (m : List FileLine) → AllByRecursion P (fs ++ g ∷ m) → P g
all_at P [] g m all = all.0
all_at P (f ∷ fs) g m all = all_at P fs g m all.1

last_at : (fs : List FileLine) (g : FileLine) (m : List FileLine) (d : FileLine) → get_or (fs ++ g ∷ m) (length fs) d ≡ g
last_at [] g m d = refl
last_at (f ∷ fs) g m d = last_at fs g m d

pairs_at : (fs : List FileLine) (g : FileLine) (m : List FileLine) → AllPairs MayPrecede (fs ++ g ∷ m) → All (λ o. MayPrecede o g) fs
pairs_at [] g m pairs k d low = absurd (omega (arith, low))
pairs_at (f ∷ fs) g m pairs zero d low = subst (MayPrecede f) (last_at fs g m d) (pairs 0 (suc (length fs)) d (omega arith) (omega (arith, length-append fs (g ∷ m))))
pairs_at (f ∷ fs) g m pairs (suc k) d low = pairs_at fs g m (λ i j e before within. pairs (suc i) (suc j) e (omega (arith, before)) (omega (arith, within))) k d (omega (arith, low))

-- a file among others
record Split (files : List FileLine) (n : ℕ) : Type 0 where
  file : FileLine
  more : List FileLine
  is : files ≡ take n files ++ file ∷ more

split : (files : List FileLine) (n : ℕ) → n < length files → Split files n
split [] n low = absurd (omega (arith, low))
split (f ∷ files) zero low = record { file = f; more = files; is = refl }
split (f ∷ files) (suc n) low = let s = split files n (omega (arith, low)) in record { file = s.file; more = s.more; is = ap (λ l. f ∷ l) s.is }

take_all : (files : List FileLine) (n : ℕ) → length files ≤ n → take n files ≡ files
take_all [] zero low = refl
take_all [] (suc n) low = refl
take_all (f ∷ files) zero low = absurd (omega (arith, low))
take_all (f ∷ files) (suc n) low = ap (λ l. f ∷ l) (take_all files n (omega (arith, low)))

map_joined : (a b : List FileLine) → map file_line (a ++ b) ≡ map file_line a ++ map file_line b
map_joined [] b = refl
map_joined (f ∷ a) b = ap (λ l. file_line f ∷ l) (map_joined a b)

map_length : (fs : List FileLine) → length (map file_line fs) ≡ length fs
map_length [] = refl
map_length (f ∷ fs) = ap suc (map_length fs)

cancel_lines : (a b c : List (List ℕ)) → a ++ b ≡ a ++ c → b ≡ c
cancel_lines [] b c e = e
cancel_lines (x ∷ a) b c e = cancel_lines a b c (ap (drop 1) e)

lines_path : (o : Option Position) (m t : List (List ℕ)) → position_lines o ++ (codes "[files]" ∷ (m ++ t)) ≡ (before_files o ++ m) ++ t
lines_path None m t = refl
lines_path (Some p) m t = refl

some_end : (version : ℕ) (tables : List (TableNames × ℕ)) → version ≡ 2 → table_lines version tables ≡ tables_word ∷ map table_line tables
some_end version tables is = cond-true (version == 2) (tables_word ∷ map table_line tables) [] (eq-eqb version 2 is)

no_end : (version : ℕ) (tables : List (TableNames × ℕ)) → version ≢ 2 → table_lines version tables ≡ []
no_end version tables other = cond-false (version == 2) (tables_word ∷ map table_line tables) [] (ne_eqb version 2 other)

module _ (text : List ℕ) (head : Head) (position : Option Position) (files : List FileLine) (rest : List ℕ) (at : IsAtFiles text head position files rest) where
  abbrev front : List (List ℕ)
  front = head_lines head.version at.head_is.started_text at.head_is.finished_text ++ before_files position

  front_length : length front ≡ length (front_lines position)
  front_length = refl

  -- what a value says that has such lines in front
  record Says (fs : List FileLine) (x : List (List ℕ)) (value : Metadata) : Type 0 where
    version : value.version ≡ head.version
    tables : List (TableNames × ℕ)
    tables_are : IsTableList value.files tables
    on : GoesOn fs value.files x (table_lines value.version tables)

  says_of : (fs : List FileLine) (x : List (List ℕ)) (value : Metadata) → AllByRecursion HasFileLine fs → IsMetadata ((front ++ map file_line fs) ++ x) value → Says fs x value
  says_of fs x value may says =
      let version : value.version ≡ head.version = same_decimals value.version head.version (small value.version says.may_be.version) (small head.version at.head_is.version) (sym (ap (λ l. drop 8 (get_or l 1 [])) says.are)) in
      let rest : map file_line fs ++ x ≡ map file_line value.files ++ table_lines value.version says.tables =
      after_position position value.position (map file_line fs ++ x) (map file_line value.files ++ table_lines value.version says.tables) (sym (append_assoc (before_files position) (map file_line fs) x) ∙ ap (drop 4) says.are) in
      record {
        version = version;
        tables = says.tables;
        tables_are = says.tables_are;
        on = goes_on fs value.files x (table_lines value.version says.tables) may (recursion_from_All HasFileLine value.files says.may_be.files) (λ line more e. (end_first value.version says.tables line more e).1) rest;
      }

  -- a value with these files
  holds : (fs : List FileLine) → All HasFileLine fs → AllPairs MayPrecede fs → HasMetadata (value_of head position fs)
  holds fs may order = record {
    version = at.head_is.version;
    started = before_9999 at.head_is.started.moment head.started at.head_is.started.real at.head_is.started.value;
    finished = before_9999 at.head_is.finished.moment head.finished at.head_is.finished.real at.head_is.finished.value;
    position = at.position_is.may_be;
    files = may;
    order = order;
  }

  divided_by : (fs : List FileLine) (middle after r : List ℕ) → text ≡ flat_map ended (head_lines head.version at.head_is.started_text at.head_is.finished_text) ++ middle
      → middle ≡ flat_map ended (before_files position) ++ after → after ≡ flat_map ended (map file_line fs) ++ r → text ≡ flat_map ended (front ++ map file_line fs) ++ r
  divided_by fs middle after r p q s =
      let h = flat_map ended (head_lines head.version at.head_is.started_text at.head_is.finished_text) in
      let b = flat_map ended (before_files position) in
      let m = flat_map ended (map file_line fs) in
      p ∙ ap (λ l. h ++ l) (q ∙ ap (λ l. b ++ l) s) ∙ sym (append_assoc h b (m ++ r)) ∙ sym (append_assoc (h ++ b) m r)
      ∙ ap (λ l. l ++ r) (ap (λ l. l ++ m) (sym (flat_joined ended (head_lines head.version at.head_is.started_text at.head_is.finished_text) (before_files position))) ∙ sym (flat_joined ended front (map file_line fs)))

  divided : text ≡ flat_map ended (front ++ map file_line files) ++ rest
  divided = divided_by files at.middle at.after rest at.head_is.is at.position_is.is at.files_are.is

  fronts : (fs : List FileLine) → All HasFileLine fs → AllPairs MayPrecede fs → IsMetadata ((front ++ map file_line fs) ++ table_lines head.version (has_tables fs).tables) (value_of head position fs)
  fronts fs may order =
      subst (λ l. IsMetadata (codes "[dump]" ∷ (codes "version=" ++ decimal head.version) ∷ (codes "started=" ++ at.head_is.started_text) ∷ (codes "finished=" ++ at.head_is.finished_text) ∷ l) (value_of head position fs))
      (lines_path position (map file_line fs) (table_lines head.version (has_tables fs).tables))
      (whole (value_of head position fs) at.head_is.started_text at.head_is.finished_text (holds fs may order) at.head_is.started at.head_is.finished)

  begins : (fs : List FileLine) → All HasFileLine fs → AllPairs MayPrecede fs → BeginsMetadata (front ++ map file_line fs)
  begins fs may order = record { more = table_lines head.version (has_tables fs).tables; value = value_of head position fs; is = fronts fs may order }

  -- the next line of files: that of one that may follow, or that before the tables
  GoodNext : List FileLine → List ℕ → Type 0
  GoodNext fs line = ((file : FileLine) × IsFileLine line file × All (λ o. MayPrecede o file) fs) ⊎ ((head.version ≡ 2) × (line ≡ tables_word))

  next_file : (fs : List FileLine) → All HasFileLine fs → (line : List ℕ) (more : List (List ℕ)) (value : Metadata) → IsMetadata ((front ++ map file_line fs) ++ line ∷ more) value → GoodNext fs line
  unfolding GoodNext
  next_file fs may line more value says = by s.on.more s.on.files s.on.is where
    s : Says fs (line ∷ more) value
    s = says_of fs (line ∷ more) value (recursion_from_All HasFileLine fs may) says

    by : (gs : List FileLine) → value.files ≡ fs ++ gs → line ∷ more ≡ map file_line gs ++ table_lines value.version s.tables
        → ((file : FileLine) × IsFileLine line file × All (λ o. MayPrecede o file) fs) ⊎ ((head.version ≡ 2) × (line ≡ tables_word))
    by [] files_are e = let end = end_first value.version s.tables line more (sym e) in inr (sym s.version ∙ end.0, end.1)
    by (g ∷ gs) files_are e = inl (
      g,
      record { is = ap head_of e; may_be = all_at HasFileLine fs g gs (subst (AllByRecursion HasFileLine) files_are (recursion_from_All HasFileLine value.files says.may_be.files)) },
      pairs_at fs g gs (subst (AllPairs MayPrecede) files_are says.may_be.order),
    )

  lines_length : (fs : List FileLine) → length (front ++ map file_line fs) ≡ length (front_lines position) + length fs
  lines_length fs = omega (arith, length-append front (map file_line fs), map_length fs)

  not_wrong : (m : ℕ) → ¬ IsWrongVersion text m
  not_wrong = head_not_wrong text head at.middle at.head_is

  some_text : (line rest : List ℕ) → ended line ++ rest ≡ [] → ⊥
  some_text line rest e = omega (arith, ap length e, length-append (ended line) rest, length-append line (10 ∷ []))

  -- what follows the files before one
  abbrev from_file : FileLine → List FileLine → List ℕ
  from_file file more = ended (file_line file) ++ (flat_map ended (map file_line more) ++ rest)

  -- a file out of its order
  bad_order_at : (n number : ℕ) → n < length files → (s : Split files n) → InOrder files n → number ≡ length (front_lines position) + n + 1 → IsMetadataFault text (BadLine number)
  unfolding GoodNext
  bad_order_at n number low s order is = (
    subst (IsBadLine text) (sym is_number)
        (refused text (front ++ map file_line (take n files)) (from_file s.file s.more) (GoodNext (take n files)) (divided_by (take n files) at.middle at.after (from_file s.file s.more) at.head_is.is at.position_is.is after_is)
        (begins (take n files) may order.order) (next_file (take n files) may) (λ e value says. some_text (file_line s.file) (flat_map ended (map file_line s.more) ++ rest) e) bad),
    not_wrong,
  ) where
    may : All HasFileLine (take n files)
    may = All-take HasFileLine n files at.files_are.may_be

    has : HasFileLine s.file
    has = all_at HasFileLine (take n files) s.file s.more (subst (AllByRecursion HasFileLine) s.is (recursion_from_All HasFileLine files at.files_are.may_be))

    after_is : at.after ≡ flat_map ended (map file_line (take n files)) ++ from_file s.file s.more
    after_is =
        at.files_are.is ∙ ap (λ l. flat_map ended (map file_line l) ++ rest) s.is ∙ ap (λ l. flat_map ended l ++ rest) (map_joined (take n files) (s.file ∷ s.more))
        ∙ ap (λ l. l ++ rest) (flat_joined ended (map file_line (take n files)) (file_line s.file ∷ map file_line s.more))
        ∙ append_assoc (flat_map ended (map file_line (take n files))) (ended (file_line s.file) ++ flat_map ended (map file_line s.more)) rest
        ∙ ap (λ l. flat_map ended (map file_line (take n files)) ++ l) (append_assoc (ended (file_line s.file)) (flat_map ended (map file_line s.more)) rest)

    is_number : number ≡ length (front ++ map file_line (take n files)) + 1
    is_number = omega (arith, is, lines_length (take n files), length-take n files, low)

    line_is : (line after : List ℕ) → Clean line → from_file s.file s.more ≡ ended line ++ after → line ≡ file_line s.file
    line_is line after clean e = (same_cut 10 line (file_line s.file) after (flat_map ended (map file_line s.more) ++ rest) clean (file_clean s.file has) (sym (ended_cons line after) ∙ sym e ∙ ended_cons (file_line s.file) (flat_map ended (map file_line s.more) ++ rest))).0

    bad : (line after : List ℕ) → ((file : FileLine) × IsFileLine line file × All (λ o. MayPrecede o file) (take n files)) ⊎ ((head.version ≡ 2) × (line ≡ tables_word)) → from_file s.file s.more ≢ ended line ++ after
    bad line after (inl (g, is, all)) e =
        let same : s.file ≡ g = one_line line s.file g (record { is = line_is line after (subst Clean (sym is.is) (file_clean g is.may_be)) e; may_be = has }) is in
        order.stops s.file s.more s.is (subst (λ f. All (λ o. MayPrecede o f) (take n files)) (sym same) all)
    bad line after (inr (two, is)) e = no_tables_line s.file (sym (line_is line after (subst Clean (sym is) refl) e) ∙ is)

  pub bad_order : (n number : ℕ) → n < length files → InOrder files n → number ≡ length (front_lines position) + n + 1 → IsMetadataFault text (BadLine number)
  bad_order n number low order is = bad_order_at n number low (split files n low) order is

  -- what follows the files isn't what does in any
  pub bad_end : (number : ℕ) → AllPairs MayPrecede files → (rest ≡ [] → head.version ≡ 2) → ((after : List ℕ) → head.version ≡ 2 → rest ≢ ended tables_word ++ after) → number ≡ length (front_lines position) + length files + 1 → IsMetadataFault text (BadLine number)
  unfolding GoodNext
  bad_end number order some none is = (
    subst (IsBadLine text) (sym is_number)
        (refused text (front ++ map file_line files) rest (GoodNext files) divided (begins files at.files_are.may_be order) (next_file files at.files_are.may_be) ends bad),
    not_wrong,
  ) where
    is_number : number ≡ length (front ++ map file_line files) + 1
    is_number = omega (arith, is, lines_length files)

    bad : (line after : List ℕ) → ((file : FileLine) × IsFileLine line file × All (λ o. MayPrecede o file) files) ⊎ ((head.version ≡ 2) × (line ≡ tables_word)) → rest ≢ ended line ++ after
    bad line after (inl (g, is, all)) e = at.files_are.stops line after g e is
    bad line after (inr (two, is)) e = none after two (e ∙ ap (λ l. ended l ++ after) is)

    ends : rest ≡ [] → (value : Metadata) → ¬ IsMetadata (front ++ map file_line files) value
    ends e value says =
        let s = says_of files [] value (recursion_from_All HasFileLine files at.files_are.may_be) (subst (λ l. IsMetadata l value) (sym (append-nil (front ++ map file_line files))) says) in
        omega (arith, ap length (s.on.is ∙ ap (λ t. map file_line s.on.more ++ t) (some_end value.version s.tables (s.version ∙ some e))), length-append (map file_line s.on.more) (tables_word ∷ map table_line s.tables))

  -- the whole, where nothing follows the files
  pub whole_first : AllPairs MayPrecede files → rest ≡ [] → head.version ≢ 2 → IsMetadataText text (value_of head position files)
  whole_first order none other = record {
    lines = (front ++ map file_line files) ++ table_lines head.version (has_tables files).tables;
    are = fronts files at.files_are.may_be order;
    is = divided ∙ ap (λ l. flat_map ended (front ++ map file_line files) ++ l) none ∙ append-nil (flat_map ended (front ++ map file_line files))
        ∙ ap (flat_map ended) (sym (ap (λ t. (front ++ map file_line files) ++ t) (no_end head.version (has_tables files).tables other) ∙ append-nil (front ++ map file_line files)));
  }

  -- in version 2, the lines behind `[tables]`
  module _ (two : head.version ≡ 2) (t : List (TableNames × ℕ)) (are : IsTableList files t) where
    abbrev main : List (List ℕ)
    main = front ++ map file_line files

    tables_part : (x : List (List ℕ)) (value : Metadata) → IsMetadata (main ++ (tables_word ∷ x)) value → x ≡ map table_line t
    tables_part x value says = by s.on.more s.on.files s.on.is where
      s : Says files (tables_word ∷ x) value
      s = says_of files (tables_word ∷ x) value (recursion_from_All HasFileLine files at.files_are.may_be) says

      by : (gs : List FileLine) → value.files ≡ files ++ gs → tables_word ∷ x ≡ map file_line gs ++ table_lines value.version s.tables → x ≡ map table_line t
      by [] files_are e =
          let same : s.tables ≡ t = one_table_list files s.tables t (subst (λ l. IsTableList l s.tables) (files_are ∙ append-nil files) s.tables_are) are in
          ap (drop 1) (e ∙ some_end value.version s.tables (s.version ∙ two)) ∙ ap (map table_line) same
      by (g ∷ gs) files_are e = absurd (no_tables_line g (sym (ap head_of e)))

    fronts_tables : AllPairs MayPrecede files → IsMetadata (main ++ (tables_word ∷ map table_line t)) (value_of head position files)
    fronts_tables order =
        subst (λ l. IsMetadata (main ++ l) (value_of head position files))
        (some_end head.version (has_tables files).tables two ∙ ap (λ l. tables_word ∷ map table_line l) (one_table_list files (has_tables files).tables t (has_tables files).are are))
        (fronts files at.files_are.may_be order)

    divided_tables : (r1 : List ℕ) → rest ≡ codes "[tables]\n" ++ r1 → (b : List (List ℕ)) (r2 : List ℕ) → r1 ≡ flat_map ended b ++ r2 → text ≡ flat_map ended (main ++ (tables_word ∷ b)) ++ r2
    divided_tables r1 p b r2 q =
        divided ∙ ap (λ l. flat_map ended main ++ l) (p ∙ ap (λ l. codes "[tables]\n" ++ l) q) ∙ sym (append_assoc (flat_map ended main) (codes "[tables]\n" ++ flat_map ended b) r2) ∙ ap (λ l. l ++ r2) (sym (flat_joined ended main (tables_word ∷ b)))

    pub bad_tables : (r1 : List ℕ) (k number : ℕ) → AllPairs MayPrecede files → rest ≡ codes "[tables]\n" ++ r1 → LeavesLines (map table_line t) r1 k → number ≡ length (front_lines position) + length files + k + 2 → IsMetadataFault text (BadLine number)
    bad_tables r1 k number order p lv is = (
      subst (IsBadLine text) (sym is_number)
          (refused text (main ++ (tables_word ∷ lv.before)) lv.rest (λ line. (more : List (List ℕ)) × (lv.left ≡ line ∷ more)) (divided_tables r1 p lv.before lv.rest lv.text_is)
          (record {
            more = lv.left;
            value = value_of head position files;
            is = subst (λ l. IsMetadata l (value_of head position files)) (ap (λ l. main ++ (tables_word ∷ l)) lv.divided ∙ sym (append_assoc main (tables_word ∷ lv.before) lv.left)) (fronts_tables order);
          })
          (λ line more value says. (more, cancel_lines lv.before lv.left (line ∷ more) (sym lv.divided ∙ sym (tables_part (lv.before ++ line ∷ more) value (subst (λ l. IsMetadata l value) (append_assoc main (tables_word ∷ lv.before) (line ∷ more)) says)))))
          (λ e value says. lv.longer (cancel_lines lv.before lv.left [] (sym lv.divided ∙ sym (tables_part lv.before value says) ∙ sym (append-nil lv.before))) e)
          (λ line after good e. lv.other line good.0 after good.1 e)),
      not_wrong,
    ) where
      is_number : number ≡ length (main ++ (tables_word ∷ lv.before)) + 1
      is_number = omega (arith, is, lv.is, lines_length files, length-append main (tables_word ∷ lv.before))

    pub whole_second : (r1 : List ℕ) → AllPairs MayPrecede files → rest ≡ codes "[tables]\n" ++ r1 → r1 ≡ flat_map ended (map table_line t) → IsMetadataText text (value_of head position files)
    whole_second r1 order p q = record {
      lines = main ++ (tables_word ∷ map table_line t);
      are = fronts_tables order;
      is = divided_tables r1 p (map table_line t) [] (q ∙ sym (append-nil (flat_map ended (map table_line t)))) ∙ append-nil (flat_map ended (main ++ (tables_word ∷ map table_line t)));
    }

-- all files stand in their order
pub whole_order : (files : List FileLine) (n : ℕ) → InOrder files n → length files ≤ n → AllPairs MayPrecede files
whole_order files n order low = subst (AllPairs MayPrecede) (take_all files n low) order.order

-- the version of the text is 1 or 2
pub second_version : (text : List ℕ) (head : Head) (position : Option Position) (files : List FileLine) (rest : List ℕ) → IsAtFiles text head position files rest → head.version ≢ 1 → head.version ≡ 2
second_version text head position files rest at other = by at.head_is.version where
  by : (head.version ≡ 1) ⊎ (head.version ≡ 2) → head.version ≡ 2
  by (inl e) = absurd (other e)
  by (inr e) = e
