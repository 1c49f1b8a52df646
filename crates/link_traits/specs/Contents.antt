-- Files, and what a folder and a shelf hold.
use Rattle.std.specs.Prelude.{◌≡◌, ℕ, nat_eq, Bool, false, List, [], ◌∷◌, map, Contains, IsPermutation, IsSorted, Option, Some, None, if◌then◌else◌}
use Rattle.std.specs.List.{list_any}
use Rattle.std.specs.Cmp.Lexicographic.{slice_cmp, pointwise}
use Rattle.std.specs.Ordering.{nat_cmp}

-- a file's name and its bytes
pub record File : Type 0 where
  pub name : List ℕ
  pub bytes : List ℕ

-- the names of the files, in the order of the files
abbrev pub file_names : List File → List (List ℕ)
file_names files = map (λ file. file.name) files

-- whether the file has this name
abbrev pub is_named : List ℕ → File → Bool
is_named name file = pointwise nat_eq file.name name

-- whether one of the files has this name
abbrev pub has_name : List ℕ → List File → Bool
has_name name files = list_any (is_named name) files

-- the bytes of the first file of this name, if there is one
abbrev pub contents_of : List File → List ℕ → Option (List ℕ)
contents_of [] name = None
contents_of (first ∷ others) name =
    if is_named name first then Some first.bytes else contents_of others name

-- no two of the files have one name
abbrev pub HaveOwnNames : List File → Type 0
HaveOwnNames [] = Unit {0}
HaveOwnNames (file ∷ files) = (has_name file.name files ≡ false) × HaveOwnNames files

-- the names of these files, each as often as it stands, in the order of their bytes
pub record IsListing (found : List (List ℕ)) (files : List File) : Type 0 where
  pub same : IsPermutation found (file_names files)
  pub sorted : IsSorted (slice_cmp nat_cmp) found

-- no name of the one stands in the other
abbrev pub ShareNoName : List File → List File → Type 0
ShareNoName files others =
    (name : List ℕ) → Contains (file_names files) name → Contains (file_names others) name → ⊥

-- the bytes of an open file: those that were read, and those that are left
pub record OpenFile : Type 0 where
  pub read : List ℕ
  pub left : List ℕ

-- the files that the folder had when it gave the shelf, and the one of them that is open; the files
-- that the shelf has made, and the one that it has begun
pub record ShelfTold : Type 0 where
  pub seen : List File
  pub opened : OpenFile
  pub made : List File
  pub begun : File

-- no two files that the shelf saw have one name, and no two that it has made
pub record IsSoundShelf (told : ShelfTold) : Type 0 where
  pub seen : HaveOwnNames told.seen
  pub made : HaveOwnNames told.made
