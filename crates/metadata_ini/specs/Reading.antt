-- `metadata`, as it is read.
use Rattle.std.specs.Prelude.{◌≡◌, ◌≢◌, ◌⊎◌, ◌<◌, ◌^◌, true, ℕ, List, [], ◌∷◌, ◌++◌, length, map, codes, decimal, Option, IfSome, MatchOption}
use Rattle.std.specs.List.{All, AllByRecursion, flat_map, list_all}
use Rattle.server_data.specs.declared.data.Position.{Position}
use Rattle.folder_forms.specs.Metadata.{HasFileLine, HasPositionLines, IsMetadataText, IsTimeText, ended, file_line, is_printable, position_lines}
use Rattle.folder_forms.specs.declared.metadata.FileLine.{FileLine}
use Rattle.folder_forms.specs.declared.metadata.Metadata.{Metadata}
use Rattle.metadata_ini.specs.Cut.{Lacks}
use Rattle.metadata_ini.specs.Fault.{IsMetadataFault}
use Rattle.metadata_ini.specs.Line.{IsFileLine}
use Rattle.metadata_ini.specs.Writing.{head_lines}
use Rattle.metadata_ini.specs.declared.fault.MetadataFault.{MetadataFault}
use Rattle.metadata_ini.specs.declared.heads.Head.{Head}

-- the text begins with an ended line of the word and a value
pub record IsValueLine (word text value after : List ℕ) : Type 0 where
  pub is : text ≡ word ++ (value ++ 10 ∷ after)
  pub one_line : Lacks 10 value

-- the text begins with no such line
abbrev pub HasNoValueLine : List ℕ → List ℕ → Type 0
HasNoValueLine word text =
    (value after : List ℕ) → Lacks 10 value → text ≢ word ++ (value ++ 10 ∷ after)

-- the text begins with an ended line of the word and a time
pub record IsTimeLine (word text : List ℕ) (seconds : ℕ) (after : List ℕ) : Type 0 where
  pub value : List ℕ
  pub is : text ≡ word ++ (value ++ 10 ∷ after)
  pub time : IsTimeText value seconds

-- the text begins with no such line
abbrev pub HasNoTimeLine : List ℕ → List ℕ → Type 0
HasNoTimeLine word text = (value after : List ℕ) (seconds : ℕ) → IsTimeText value seconds
    → text ≢ word ++ (value ++ 10 ∷ after)

-- the text begins with the lines of a version, which is 1 or 2
pub record IsVersion (text : List ℕ) (version : ℕ) (rest : List ℕ) : Type 0 where
  pub known : (version ≡ 1) ⊎ (version ≡ 2)
  pub is : text ≡ ended (codes "[dump]") ++ ended (codes "version=" ++ decimal version) ++ rest

-- the text begins with the lines up to the times, which say this
pub record IsHead (text : List ℕ) (head : Head) (rest : List ℕ) : Type 0 where
  pub version : (head.version ≡ 1) ⊎ (head.version ≡ 2)
  pub started_text : List ℕ
  pub finished_text : List ℕ
  pub started : IsTimeText started_text head.started
  pub finished : IsTimeText finished_text head.finished
  pub is : text ≡ flat_map ended (head_lines head.version started_text finished_text) ++ rest

-- the text begins with an ended line of the word and printable bytes
pub record IsPrintableLine (word text value after : List ℕ) : Type 0 where
  pub is : text ≡ word ++ (value ++ 10 ∷ after)
  pub printable : list_all is_printable value ≡ true

-- the text begins with no such line
abbrev pub HasNoPrintableLine : List ℕ → List ℕ → Type 0
HasNoPrintableLine word text = (value after : List ℕ) → list_all is_printable value ≡ true
    → text ≢ word ++ (value ++ 10 ∷ after)

-- the text begins with an ended line of the word and a number
pub record IsNumberLine (word text : List ℕ) (number : ℕ) (after : List ℕ) : Type 0 where
  pub is : text ≡ word ++ (decimal number ++ 10 ∷ after)
  pub size : number < 2 ^ 64

-- the text begins with no such line
abbrev pub HasNoNumberLine : List ℕ → List ℕ → Type 0
HasNoNumberLine word text = (number : ℕ) (after : List ℕ) → number < 2 ^ 64
    → text ≢ word ++ (decimal number ++ 10 ∷ after)

-- the lines of a position, or none, and the line before the files
abbrev pub before_files : Option Position → List (List ℕ)
before_files position = position_lines position ++ (codes "[files]" ∷ [])

-- the text begins with them
pub record IsPosition (text : List ℕ) (position : Option Position) (rest : List ℕ) : Type 0 where
  pub may_be : IfSome position HasPositionLines
  pub is : text ≡ flat_map ended (before_files position) ++ rest

-- why a text isn't read that has this behind its times
abbrev pub IsFaultAfterHead : List ℕ → MetadataFault → Type 0
IsFaultAfterHead rest fault =
    (text : List ℕ) (head : Head) → IsHead text head rest → IsMetadataFault text fault

-- the position of these parts
abbrev pub position_with : List ℕ → ℕ → List ℕ → Position
position_with file offset gtid = record { file = file; offset = offset; gtid = gtid }

-- the text begins with the lines of just these files
pub record HasFiles (text : List ℕ) (files : List FileLine) (rest : List ℕ) : Type 0 where
  pub may_be : All HasFileLine files
  pub is : text ≡ flat_map ended (map file_line files) ++ rest
  pub stops : (line after : List ℕ) (file : FileLine) → rest ≡ ended line ++ after
      → ¬ IsFileLine line file

-- the lines before those of files: four, and those of the position and `[files]`
abbrev pub front_lines : Option Position → List (List ℕ)
front_lines position = [] ∷ [] ∷ [] ∷ [] ∷ before_files position

-- the value of these parts
abbrev pub value_of : Head → Option Position → List FileLine → Metadata
value_of head position files = record {
  version = head.version;
  started = head.started;
  finished = head.finished;
  position = position;
  files = files;
}

-- the text says this up to its files, and `rest` follows
pub record IsAtFiles (text : List ℕ) (head : Head) (position : Option Position)
    (files : List FileLine) (rest : List ℕ) : Type 0 where
  pub middle : List ℕ
  pub after : List ℕ
  pub head_is : IsHead text head middle
  pub position_is : IsPosition middle position after
  pub files_are : HasFiles after files rest

-- the text leaves the lines behind just so many of them
pub record LeavesLines (lines : List (List ℕ)) (text : List ℕ) (number : ℕ) : Type 0 where
  pub before : List (List ℕ)
  pub left : List (List ℕ)
  pub rest : List ℕ
  pub divided : lines ≡ before ++ left
  pub is : number ≡ length before
  pub text_is : text ≡ flat_map ended before ++ rest
  pub other : (line : List ℕ) (more : List (List ℕ)) (after : List ℕ) → left ≡ line ∷ more
      → rest ≢ ended line ++ after
  pub longer : left ≡ [] → rest ≢ []

-- whether the text is the wanted one, whose lines have no line feeds, or where it leaves these
abbrev pub ComparesLines : List ℕ → List ℕ → Option ℕ → Type 0
ComparesLines wanted text result =
    (lines : List (List ℕ)) → AllByRecursion (Lacks 10) lines → wanted ≡ flat_map ended lines
    → MatchOption result (text ≡ wanted) (LeavesLines lines text)

-- texts of that version which have this behind these files are the `metadata` of their values
abbrev pub EndsMetadata : ℕ → List FileLine → List ℕ → Type 0
EndsMetadata version files rest =
    (text : List ℕ) (head : Head) (position : Option Position) → head.version ≡ version
    → IsAtFiles text head position files rest → IsMetadataText text (value_of head position files)

-- why texts of that version aren't read that have this behind these files, and so many lines before
abbrev pub IsFaultAtEnd : ℕ → ℕ → List FileLine → List ℕ → MetadataFault → Type 0
IsFaultAtEnd version before files rest fault =
    (text : List ℕ) (head : Head) (position : Option Position) → head.version ≡ version
    → before ≡ length (front_lines position) → IsAtFiles text head position files rest
    → IsMetadataFault text fault
