-- The lines of a position: what they say, and where a text leaves them.
use Rattle.std.proofs.Common.{◌≡◌, ◌≢◌, ◌⊎◌, inl, inr, ℕ, ◌<◌, ◌^◌, true, List, [], ◌∷◌, ◌++◌, length, get_or, drop, map, Option, Some, None, IfSome, refl, sym, ◌∙◌, ap, subst, arith, append_assoc, append-nil, decimal, codes, length-append}
use Rattle.std.specs.List.{flat_map, list_all}
use Rattle.server_data.specs.declared.data.Position.{Position}
use Rattle.folder_forms.specs.Metadata.{HasPositionLines, IsMetadata, IsWrongVersion, ended, file_line, is_printable, lines_of, position_lines, table_lines}
use Rattle.folder_forms.specs.declared.metadata.Metadata.{Metadata}
use Rattle.metadata_ini.specs.Fault.{IsMetadataFault}
use Rattle.metadata_ini.specs.declared.fault.MetadataFault.TheVariants.{BadLine}
use Rattle.metadata_ini.specs.declared.heads.Head.{Head}
use Rattle.metadata_ini.specs.Reading.{HasNoNumberLine, HasNoPrintableLine, HasNoValueLine, IsHead, IsNumberLine, IsPosition, IsPrintableLine, IsValueLine, IsVersion}
use Rattle.metadata_ini.specs.Writing.{head_lines}
use Rattle.metadata_ini.proofs.Appended.{ended_line, flat_more}
use Rattle.metadata_ini.proofs.CleanLines.{Clean, clean_by, clean_decimal}
use Rattle.metadata_ini.proofs.Fronts.{refused, whole, empty_value, empty_has}
use Rattle.metadata_ini.proofs.HeadFronts.{same_value, not_wrong}
use Rattle.metadata_ini.proofs.TableLists.{has_tables}

-- lines with a value

clean_printable : (text : List ℕ) → list_all is_printable text ≡ true → Clean text
clean_printable text all = clean_by is_printable refl text all

pub no_printable : (word text : List ℕ) → HasNoValueLine word text → HasNoPrintableLine word text
no_printable word text none value after all e = none value after (clean_printable value all) e

pub unprintable : (word text value after : List ℕ) → IsValueLine word text value after → (list_all is_printable value ≡ true → ⊥) → HasNoPrintableLine word text
unprintable word text value after line other v a all e =
    other (subst (λ t. list_all is_printable t ≡ true) (sym (same_value word text value after v a line.is line.one_line e (clean_printable v all)).0) all)

pub no_number_line : (word text : List ℕ) → HasNoValueLine word text → HasNoNumberLine word text
no_number_line word text none number after small e = none (decimal number) after (clean_decimal number small) e

pub no_number : (word text value after : List ℕ) → IsValueLine word text value after → ((n : ℕ) → n < 2 ^ 64 → value ≢ decimal n) → HasNoNumberLine word text
no_number word text value after line none n a small e = none n small (same_value word text value after (decimal n) a line.is line.one_line e (clean_decimal n small)).0

-- after the times

-- one ended line more
pub longer : (text : List ℕ) (before : List (List ℕ)) (line rest after : List ℕ) → text ≡ flat_map ended before ++ rest → rest ≡ ended line ++ after → text ≡ flat_map ended (before ++ line ∷ []) ++ after
longer text before line rest after is more =
    is ∙ ap (λ l. flat_map ended before ++ l) more ∙ sym (append_assoc (flat_map ended before) (ended line) after) ∙ ap (λ l. l ++ after) (sym (flat_more ended before line))

pub head_version : (text : List ℕ) (head : Head) (rest : List ℕ) → (h : IsHead text head rest) → IsVersion text head.version (ended (codes "started=" ++ h.started_text) ++ (ended (codes "finished=" ++ h.finished_text) ++ rest))
head_version text head rest h = record {
  known = h.version;
  is = h.is ∙ regroup (ended (codes "[dump]")) (ended (codes "version=" ++ decimal head.version)) (ended (codes "started=" ++ h.started_text)) (ended (codes "finished=" ++ h.finished_text)) rest;
} where
  regroup : (a b c d e : List ℕ) → a ++ (b ++ (c ++ (d ++ []))) ++ e ≡ a ++ b ++ (c ++ (d ++ e))
  regroup a b c d e = append_assoc a (b ++ (c ++ (d ++ []))) e ∙ ap (λ l. a ++ l) (append_assoc b (c ++ (d ++ [])) e ∙ ap (λ l. b ++ l) (append_assoc c (d ++ []) e ∙ ap (λ l. c ++ (l ++ e)) (append-nil d))) ∙ sym (append_assoc a b (c ++ (d ++ e)))

pub head_not_wrong : (text : List ℕ) (head : Head) (rest : List ℕ) → IsHead text head rest → (m : ℕ) → ¬ IsWrongVersion text m
head_not_wrong text head rest h = not_wrong text head.version _ (head_version text head rest h)

-- what comes after the times

after_times : (o : Option Position) (x : List (List ℕ)) → (get_or (position_lines o ++ (codes "[files]" ∷ x)) 0 [] ≡ codes "[position]") ⊎ (get_or (position_lines o ++ (codes "[files]" ∷ x)) 0 [] ≡ codes "[files]")
after_times None x = inr refl
after_times (Some p) x = inl refl

some_lines : (o : Option Position) (x : List (List ℕ)) → 0 < length (position_lines o ++ (codes "[files]" ∷ x))
some_lines o x = omega (arith, length-append (position_lines o) (codes "[files]" ∷ x))

-- lines that go on with a position
record WithPosition (more : List (List ℕ)) : Type 0 where
  position : Position
  may_be : HasPositionLines position
  left : List (List ℕ)
  is : more ≡ (codes "file=" ++ position.file) ∷ (codes "offset=" ++ decimal position.offset) ∷ (codes "gtid=" ++ position.gtid) ∷ codes "[files]" ∷ left

position_by : (o : Option Position) (x more : List (List ℕ)) → IfSome o HasPositionLines → codes "[position]" ∷ more ≡ position_lines o ++ (codes "[files]" ∷ x) → WithPosition more
position_by None x more may e = absurd (omega (arith, ap (λ l. get_or (get_or l 0 []) 1 0) e))
position_by (Some p) x more may e = record { position = p; may_be = may; left = x; is = ap (drop 1) e }

with_position : (a b c d : List ℕ) (more : List (List ℕ)) (value : Metadata) → IsMetadata (a ∷ b ∷ c ∷ d ∷ codes "[position]" ∷ more) value → WithPosition more
with_position a b c d more value says = position_by value.position _ more says.may_be.position (ap (drop 4) says.are)

-- what follows the times begins with no line of a file that has a name
abbrev pub NoFile : List ℕ → Type 0
NoFile rest = (file after : List ℕ) → file ≢ [] → list_all is_printable file ≡ true → rest ≢ codes "file=" ++ (file ++ 10 ∷ after)

pub no_file : (rest : List ℕ) → HasNoPrintableLine (codes "file=") rest → NoFile rest
no_file rest none file after there all e = none file after all e

pub empty_file : (rest value after : List ℕ) → IsPrintableLine (codes "file=") rest value after → length value ≡ 0 → NoFile rest
empty_file rest value after line none file a there all e =
    there (empty file (ap length (sym (same_value (codes "file=") rest value after file a line.is (clean_printable value line.printable) e (clean_printable file all)).0) ∙ none)) where
      empty : (l : List ℕ) → length l ≡ 0 → l ≡ []
      empty [] h = refl
      empty (c ∷ l) h = absurd (omega (arith, h))

record GoodFile (line : List ℕ) : Type 0 where
  file : List ℕ
  there : file ≢ []
  printable : list_all is_printable file ≡ true
  is : line ≡ codes "file=" ++ file

record GoodNumber (word line : List ℕ) : Type 0 where
  number : ℕ
  size : number < 2 ^ 64
  is : line ≡ word ++ decimal number

record GoodText (word line : List ℕ) : Type 0 where
  text : List ℕ
  printable : list_all is_printable text ≡ true
  is : line ≡ word ++ text

-- a position of these parts
pub has_position : (file gtid : List ℕ) (offset : ℕ) → file ≢ [] → list_all is_printable file ≡ true → list_all is_printable gtid ≡ true → offset < 2 ^ 64 → HasPositionLines (record { file = file; offset = offset; gtid = gtid })
has_position file gtid offset there p g size = record { file_there = there; file_printable = p; gtid_printable = g; offset_size = size }

there_is : (c : ℕ) (l : List ℕ) → c ∷ l ≢ []
there_is c l e = omega (arith, ap length e)

abbrev line_at : ℕ → List (List ℕ) → List ℕ
line_at n lines = get_or lines n []

module _ (text : List ℕ) (head : Head) (rest : List ℕ) (h : IsHead text head rest) where
  abbrev four : List (List ℕ)
  four = head_lines head.version h.started_text h.finished_text

  abbrev filled : Option Position → Metadata
  filled position = empty_value head.version head.started head.finished position

  fills : (position : Option Position) → IfSome position HasPositionLines → IsMetadata (lines_of (filled position) h.started_text h.finished_text (has_tables []).tables) (filled position)
  fills position may = whole (filled position) h.started_text h.finished_text (empty_has head.version head.started head.finished position h.started_text h.finished_text h.version h.started h.finished may) h.started h.finished

  pub bad_fifth : ((r : List ℕ) → rest ≢ codes "[files]\n" ++ r) → ((r : List ℕ) → rest ≢ codes "[position]\n" ++ r) → IsMetadataFault text (BadLine 5)
  bad_fifth no_files no_position = (
    refused text four rest (λ line. (line ≡ codes "[position]") ⊎ (line ≡ codes "[files]")) h.is
        (record { more = _; value = filled None; is = fills None tt })
        next (λ e value says. omega (arith, ap length says.are, some_lines value.position (map file_line value.files ++ table_lines value.version says.tables)))
        bad,
    head_not_wrong text head rest h,
  ) where
    next : (line : List ℕ) (more : List (List ℕ)) (value : Metadata) → IsMetadata (four ++ line ∷ more) value → (line ≡ codes "[position]") ⊎ (line ≡ codes "[files]")
    next line more value says = elim (after_times value.position (map file_line value.files ++ table_lines value.version says.tables)) [ inl e ↦ inl (ap (line_at 4) says.are ∙ e) | inr e ↦ inr (ap (line_at 4) says.are ∙ e) ]

    bad : (line after : List ℕ) → (line ≡ codes "[position]") ⊎ (line ≡ codes "[files]") → rest ≢ ended line ++ after
    bad line after (inl is) e = no_position after (e ∙ ap (λ l. ended l ++ after) is)
    bad line after (inr is) e = no_files after (e ∙ ap (λ l. ended l ++ after) is)

  module _ (r1 : List ℕ) (p1 : rest ≡ codes "[position]\n" ++ r1) where
    abbrev five : List (List ℕ)
    five = four ++ codes "[position]" ∷ []

    divided5 : text ≡ flat_map ended five ++ r1
    divided5 = longer text four (codes "[position]") rest r1 h.is p1

    pub bad_file : NoFile r1 → IsMetadataFault text (BadLine 6)
    bad_file none = (
      refused text five r1 GoodFile divided5
          (record { more = _; value = filled (Some (record { file = codes "x"; offset = 0; gtid = [] })); is = fills (Some (record { file = codes "x"; offset = 0; gtid = [] })) (has_position (codes "x") [] 0 (there_is 120 []) refl refl (omega arith)) })
          (λ line more value says. let w = with_position _ _ _ _ (line ∷ more) value says in record { file = w.position.file; there = w.may_be.file_there; printable = w.may_be.file_printable; is = ap (line_at 0) w.is })
          (λ e value says. omega (arith, ap length (with_position _ _ _ _ [] value says).is))
          (λ line after good e. none good.file after good.there good.printable (e ∙ ap (λ l. ended l ++ after) good.is ∙ ended_line (codes "file=") good.file after)),
      head_not_wrong text head rest h,
    )

    module _ (file r2 : List ℕ) (there : file ≢ []) (f : IsPrintableLine (codes "file=") r1 file r2) where
      abbrev six : List (List ℕ)
      six = five ++ (codes "file=" ++ file) ∷ []

      divided6 : text ≡ flat_map ended six ++ r2
      divided6 = longer text five (codes "file=" ++ file) r1 r2 divided5 (f.is ∙ sym (ended_line (codes "file=") file r2))

      pub bad_offset : HasNoNumberLine (codes "offset=") r2 → IsMetadataFault text (BadLine 7)
      bad_offset none = (
        refused text six r2 (GoodNumber (codes "offset=")) divided6
            (record { more = _; value = filled (Some (record { file = file; offset = 0; gtid = [] })); is = fills (Some (record { file = file; offset = 0; gtid = [] })) (has_position file [] 0 there f.printable refl (omega arith)) })
            (λ line more value says. let w = with_position _ _ _ _ (_ ∷ line ∷ more) value says in record { number = w.position.offset; size = w.may_be.offset_size; is = ap (line_at 1) w.is })
            (λ e value says. omega (arith, ap length (with_position _ _ _ _ (_ ∷ []) value says).is))
            (λ line after good e. none good.number after good.size (e ∙ ap (λ l. ended l ++ after) good.is ∙ ended_line (codes "offset=") (decimal good.number) after)),
        head_not_wrong text head rest h,
      )

      module _ (offset : ℕ) (r3 : List ℕ) (o : IsNumberLine (codes "offset=") r2 offset r3) where
        abbrev seven : List (List ℕ)
        seven = six ++ (codes "offset=" ++ decimal offset) ∷ []

        divided7 : text ≡ flat_map ended seven ++ r3
        divided7 = longer text six (codes "offset=" ++ decimal offset) r2 r3 divided6 (o.is ∙ sym (ended_line (codes "offset=") (decimal offset) r3))

        pub bad_gtid : HasNoPrintableLine (codes "gtid=") r3 → IsMetadataFault text (BadLine 8)
        bad_gtid none = (
          refused text seven r3 (GoodText (codes "gtid=")) divided7
              (record { more = _; value = filled (Some (record { file = file; offset = offset; gtid = [] })); is = fills (Some (record { file = file; offset = offset; gtid = [] })) (has_position file [] offset there f.printable refl o.size) })
              (λ line more value says. let w = with_position _ _ _ _ (_ ∷ _ ∷ line ∷ more) value says in record { text = w.position.gtid; printable = w.may_be.gtid_printable; is = ap (line_at 2) w.is })
              (λ e value says. omega (arith, ap length (with_position _ _ _ _ (_ ∷ _ ∷ []) value says).is))
              (λ line after good e. none good.text after good.printable (e ∙ ap (λ l. ended l ++ after) good.is ∙ ended_line (codes "gtid=") good.text after)),
          head_not_wrong text head rest h,
        )

        pub bad_ninth : (gtid r4 : List ℕ) → IsPrintableLine (codes "gtid=") r3 gtid r4 → ((r : List ℕ) → r4 ≢ codes "[files]\n" ++ r) → IsMetadataFault text (BadLine 9)
        bad_ninth gtid r4 g none = (
          refused text (seven ++ (codes "gtid=" ++ gtid) ∷ []) r4 (λ line. line ≡ codes "[files]") (longer text seven (codes "gtid=" ++ gtid) r3 r4 divided7 (g.is ∙ sym (ended_line (codes "gtid=") gtid r4)))
              (record { more = _; value = filled (Some (record { file = file; offset = offset; gtid = gtid })); is = fills (Some (record { file = file; offset = offset; gtid = gtid })) (has_position file gtid offset there f.printable g.printable o.size) })
              (λ line more value says. ap (line_at 3) (with_position _ _ _ _ (_ ∷ _ ∷ _ ∷ line ∷ more) value says).is)
              (λ e value says. omega (arith, ap length (with_position _ _ _ _ (_ ∷ _ ∷ _ ∷ []) value says).is))
              (λ line after good e. none after (e ∙ ap (λ l. ended l ++ after) good)),
          head_not_wrong text head rest h,
        )

pub position_found : (rest r1 r2 r3 r4 r5 file gtid : List ℕ) (offset : ℕ) → rest ≡ codes "[position]\n" ++ r1 → IsPrintableLine (codes "file=") r1 file r2 → file ≢ [] → IsNumberLine (codes "offset=") r2 offset r3
    → IsPrintableLine (codes "gtid=") r3 gtid r4 → r4 ≡ codes "[files]\n" ++ r5 → IsPosition rest (Some (record { file = file; offset = offset; gtid = gtid })) r5
position_found rest r1 r2 r3 r4 r5 file gtid offset p f there o g q =
    let a : List ℕ = codes "[position]" in
    let b : List ℕ = codes "file=" ++ file in
    let d : List ℕ = codes "offset=" ++ decimal offset in
    let e : List ℕ = codes "gtid=" ++ gtid in
    record {
      may_be = has_position file gtid offset there f.printable g.printable o.size;
      is = longer rest (a ∷ b ∷ d ∷ e ∷ []) (codes "[files]") r4 r5 (longer rest (a ∷ b ∷ d ∷ []) e r3 r4 (longer rest (a ∷ b ∷ []) d r2 r3 (longer rest (a ∷ []) b r1 r2 (longer rest [] a rest r1 refl p)
          (f.is ∙ sym (ended_line (codes "file=") file r2))) (o.is ∙ sym (ended_line (codes "offset=") (decimal offset) r3))) (g.is ∙ sym (ended_line (codes "gtid=") gtid r4))) q;
    }
