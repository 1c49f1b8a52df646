-- What the calls of a folder and of a shelf do.
use Rattle.std.specs.Prelude.{◌≡◌, ◌<◌, ◌≤◌, ◌+◌, ◌^◌, ◌↔◌, ℕ, nat_eq, Bool, true, false, List, [], ◌∷◌, ◌++◌, take, length, Option, Some, None, option_map, unwrap_or, is_some, IfSome, Result, IfOk, OnOk, OnErr, if◌then◌else◌}
use Rattle.std.specs.Cmp.Lexicographic.{pointwise}
use Rattle.link_traits.specs.Contents.{File, ShelfTold, is_named, contents_of}

-- a file of this name is begun
abbrev pub told_after_create : ShelfTold → List ℕ → ShelfTold
told_after_create told name = record told { begun = record { name = name; bytes = [] } }

-- the begun file has these bytes more
abbrev pub told_after_append : ShelfTold → List ℕ → ShelfTold
told_after_append told bytes =
    record told { begun = record { name = told.begun.name; bytes = told.begun.bytes ++ bytes } }

-- the begun file is made
abbrev pub files_after_finish : ShelfTold → List File
files_after_finish told = told.made ++ told.begun ∷ []

-- nothing but the begun file has changed
abbrev pub KeepsAllButBegun : ShelfTold → ShelfTold → Type 0
KeepsAllButBegun old new = new ≡ record old { begun = new.begun }

-- a file of this name is begun, or at a failure none
pub record BeginsFile {T E : Type 0} (old : ShelfTold) (name : List ℕ) (result : Result T E)
    (new : ShelfTold) : Type 0 where
  pub ok : OnOk result (new ≡ told_after_create old name)
  pub err : OnErr result (KeepsAllButBegun old new)

-- whether a file is begun then, and that it is empty
pub record BeginsEmpty {T E : Type 0} (result : Result T E) (is_begun : Bool)
    (size : ℕ) : Type 0 where
  pub ok : OnOk result (is_begun ≡ true)
  pub empty : OnOk result (size ≡ 0)
  pub err : OnErr result (is_begun ≡ false)

-- the begun file has these bytes more, and at a failure maybe some; its name stays
pub record AddsBytes {T E : Type 0} (old : ShelfTold) (bytes : List ℕ) (result : Result T E)
    (new : ShelfTold) : Type 0 where
  pub ok : OnOk result (new ≡ told_after_append old bytes)
  pub err : OnErr result (KeepsAllButBegun old new)
  pub name : OnErr result (new.begun.name ≡ old.begun.name)

-- the begun file is made, or at a failure nothing has changed
pub record EndsFile {T E : Type 0} (old : ShelfTold) (result : Result T E)
    (new : ShelfTold) : Type 0 where
  pub ok : OnOk result (new.made ≡ files_after_finish old)
  pub others : OnOk result (new ≡ record old { made = new.made; begun = new.begun })
  pub err : OnErr result (new ≡ old)

-- the file of this name is open, and nothing of it was read yet
abbrev pub told_after_open : ShelfTold → List ℕ → ShelfTold
told_after_open told name =
    record told { opened = record { read = []; left = unwrap_or (contents_of told.seen name) [] } }

-- a file of the folder is open from its start, where there is one of this name, and else none is; a failure changes nothing
pub record OpensFile {E : Type 0} (old : ShelfTold) (name : List ℕ) (result : Result Bool E)
    (new : ShelfTold) : Type 0 where
  pub found : IfOk result (λ found. found ≡ is_some (contents_of old.seen name))
  pub ok : OnOk result (new ≡ told_after_open old name)
  pub err : OnErr result (new ≡ old)

-- how many bytes were read of a file that was just opened, if it was found
abbrev pub none_read : Bool → Option ℕ
none_read found = if found then Some 0 else None

-- these bytes were the next of the open file, and were read
pub record TakesNext (old : ShelfTold) (bytes : List ℕ) (new : ShelfTold) : Type 0 where
  pub next : old.opened.left ≡ bytes ++ new.opened.left
  pub read : new.opened.read ≡ old.opened.read ++ bytes
  pub others : new ≡ record old { opened = new.opened }

-- the next bytes are at the front of the buffer, none exactly at the file's end; a failure changes nothing
pub record ReadsOff {E : Type 0} (old : ShelfTold) (buffer : List ℕ) (result : Result ℕ E)
    (new : ShelfTold) : Type 0 where
  pub ok : IfOk result (λ count. TakesNext old (take count buffer) new)
  pub end : IfOk result (λ count. (count ≡ 0) ↔ (old.opened.left ≡ []))
  pub err : OnErr result (new ≡ old)

-- a file is open before and after, of which so many bytes more were read as fit into the buffer, or at a failure none
pub record CountsRead {E : Type 0} (old : Option ℕ) (buffer : List ℕ) (result : Result ℕ E)
    (new : Option ℕ) : Type 0 where
  pub fits : IfOk result (λ count. count ≤ length buffer)
  pub ok : IfOk result (λ count. new ≡ option_map (λ place. place + count) old)
  pub small : OnOk result (IfSome new (λ place. place < 2 ^ 62))
  pub err : OnErr result (new ≡ old)

-- on a shelf no file is begun, and none is open
pub record IsIdle (is_begun : Bool) (reading : Option ℕ) : Type 0 where
  pub none_begun : is_begun ≡ false
  pub none_open : reading ≡ None

-- a shelf that has made nothing, and sees these files
pub record IsNewShelf (contents : List File) (told : ShelfTold) : Type 0 where
  pub none_made : told.made ≡ []
  pub sees : told.seen ≡ contents

-- one shelf more is out, or at a failure as many as before
pub record CountsOut {T E : Type 0} (old : ℕ) (result : Result T E) (new : ℕ) : Type 0 where
  pub ok : OnOk result (new ≡ old + 1)
  pub err : OnErr result (new ≡ old)

-- the files without the first of this name
abbrev pub without : List ℕ → List File → List File
without name [] = []
without name (file ∷ files) = if is_named name file then files else file ∷ without name files

-- the files, of which the first of the one name has the other
abbrev pub with_name : List ℕ → List ℕ → List File → List File
with_name from to [] = []
with_name from to (file ∷ files) =
    if is_named from file then record file { name = to } ∷ files else file ∷ with_name from to files

-- the file of the one name has the other, and replaces a file that had it; under one and the same name all stays
abbrev pub files_after_rename : List ℕ → List ℕ → List File → List File
files_after_rename from to files =
    if pointwise nat_eq from to then files else with_name from to (without to files)

-- the file is renamed, or at a failure the files are as they were
pub record RenamesFile {T E : Type 0} (from to : List ℕ) (old : List File) (result : Result T E)
    (new : List File) : Type 0 where
  pub ok : OnOk result (new ≡ files_after_rename from to old)
  pub err : OnErr result (new ≡ old)
