-- What a folder and a shelf in memory hold.
use Rattle.std.specs.Prelude.{◌≡◌, ◌+◌, ◌-◌, ◌^◌, ℕ, nat_le, Bool, false, List, [], ◌∷◌, ◌++◌, Option, Some, None, take, length, min, option_map, IfSome, if◌then◌else◌}
use Rattle.link_traits.specs.Contents.{File, OpenFile, ShelfTold, HaveOwnNames, is_named, has_name, contents_of}
use Rattle.link_traits.specs.Folder.{files_after_rename}
use Rattle.memory_outside.specs.Script.{Counts, at_most_count, number_of, script_of, sum_of_counts}

-- the files with this one put: in the place of the first of its name, or at the end
abbrev pub with_file : List File → File → List File
with_file [] file = file ∷ []
with_file (first ∷ others) file =
    if is_named file.name first then file ∷ others else first ∷ with_file others file

-- the file with these bytes more
abbrev pub with_bytes : File → List ℕ → File
with_bytes file bytes = record file { bytes = file.bytes ++ bytes }

-- the begun file, or an empty one without a name
abbrev pub begun_of : Option File → File
begun_of None = record { name = []; bytes = [] }
begun_of (Some file) = file

-- a file of these bytes, of which nothing was read yet
abbrev pub unread : List ℕ → OpenFile
unread bytes = record { read = []; left = bytes }

-- the file of this name, of which nothing was read yet, if there is one
abbrev pub opened_in : List File → List ℕ → Option OpenFile
opened_in files name = option_map unread (contents_of files name)

-- the open file, or one without bytes
abbrev pub opened_of : Option OpenFile → OpenFile
opened_of None = unread []
opened_of (Some file) = file

-- how many bytes were read once a read has filled so much room, or has come to the file's end
abbrev pub place_after : OpenFile → ℕ → ℕ
place_after file room = length file.read + min (length file.left) room

-- as many of the file's next bytes are at the front of the buffer as are left and fit
pub record TakesFront (old : OpenFile) (buffer : List ℕ) (count : ℕ) (new : OpenFile) : Type 0 where
  pub fills : count ≡ min (length old.left) (length buffer)
  pub next : old.left ≡ take count buffer ++ new.left
  pub read : new.read ≡ old.read ++ take count buffer

-- the files that the folder had when it gave the shelf, and the one that is open; the files that the
-- shelf has made, and the one that it has begun; and the calls that are to fail
pub record ShelfState : Type 0 where
  pub seen : List File
  pub opened : Option OpenFile
  pub made : List File
  pub begun : Option File
  pub script : Counts

-- no two files that the shelf saw have one name, and no two that it has made or begun
pub record HoldsOwnNames (shelf : ShelfState) : Type 0 where
  pub seen : HaveOwnNames shelf.seen
  pub made : HaveOwnNames shelf.made
  pub begun : IfSome shelf.begun (λ file. has_name file.name shelf.made ≡ false)

-- what the shelf tells
abbrev pub shelf_told : ShelfState → ShelfTold
shelf_told shelf =
    record {
      seen = shelf.seen;
      opened = opened_of shelf.opened;
      made = shelf.made;
      begun = begun_of shelf.begun;
    }

-- how many bytes were read of the open file, if one is open
abbrev pub bytes_read : ShelfState → Option ℕ
bytes_read shelf = option_map (λ file. length file.read) shelf.opened

-- a shelf that sees these files, and has made none
abbrev pub new_shelf : List File → Counts → ShelfState
new_shelf seen script =
    record { seen = seen; opened = None; made = []; begun = None; script = script }

-- whether the begun file has no room for these bytes: it would have 2^62 or more
abbrev pub has_no_room_for : ShelfState → List ℕ → Bool
has_no_room_for shelf bytes = nat_le (2 ^ 62) (length (begun_of shelf.begun).bytes + length bytes)

-- whether a read into this buffer would come to the place 2^62 of the open file, or past it
abbrev pub reads_to_limit : ShelfState → List ℕ → Bool
reads_to_limit shelf buffer = nat_le (2 ^ 62) (place_after (opened_of shelf.opened) (length buffer))

-- a file of this name was to be begun, which went well or not: then none is; and these calls are counted
abbrev pub shelf_after_create : ShelfState → Bool → List ℕ → Counts → ShelfState
shelf_after_create old ok name script = record old {
  begun = if ok then Some (record { name = name; bytes = [] }) else None;
  script = script;
}

-- the begun file was to have these bytes more, which went well or not: then it is as it was; and these calls are counted
abbrev pub shelf_after_append : ShelfState → Bool → List ℕ → Counts → ShelfState
shelf_after_append old ok bytes script = record old {
  begun = if ok then Some (with_bytes (begun_of old.begun) bytes) else old.begun;
  script = script;
}

-- the begun file was to be made, which went well or not: then it is still begun; and these calls are counted
abbrev pub shelf_after_finish : ShelfState → Bool → Counts → ShelfState
shelf_after_finish old ok script = record old {
  made = if ok then old.made ++ begun_of old.begun ∷ [] else old.made;
  begun = if ok then None else old.begun;
  script = script;
}

-- a file was to be opened, which went well or not: then the one that was open still is; and these calls are counted
abbrev pub shelf_after_open : ShelfState → Bool → List ℕ → Counts → ShelfState
shelf_after_open old ok name script = record old {
  opened = if ok then opened_in old.seen name else old.opened;
  script = script;
}

-- a read was asked for, which left the open file like this, or failed and left it as it was; and these calls are counted
abbrev pub shelf_after_read : ShelfState → Bool → Option OpenFile → Counts → ShelfState
shelf_after_read old ok opened script = record old {
  opened = if ok then opened else old.opened;
  script = script;
}

-- the files of a folder, its path, how many shelves are out and how many there were, and the calls
-- that are to fail
pub record FolderState : Type 0 where
  pub contents : List File
  pub path : Option (List ℕ)
  pub out : ℕ
  pub shelves : ℕ
  pub script : Counts

-- an empty folder, of whose calls these are to fail
abbrev pub new_folder : List ℕ → FolderState
new_folder faults =
    record { contents = []; path = None; out = 0; shelves = 0; script = script_of faults 0 }

-- the shelf of this number, which sees the folder's files
abbrev pub next_shelf : FolderState → ℕ → ShelfState
next_shelf folder number =
    new_shelf folder.contents (script_of folder.script.failing (number_of number 0))

-- a file of this name and these bytes was put
abbrev pub folder_after_put : FolderState → List ℕ → List ℕ → FolderState
folder_after_put old name bytes = record old {
  contents = with_file old.contents (record { name = name; bytes = bytes });
}

-- a file was to be renamed, which went well or not: then the files are as they were; and these calls are counted
abbrev pub folder_after_rename : FolderState → Bool → List ℕ → List ℕ → Counts → FolderState
folder_after_rename old ok from to script = record old {
  contents = if ok then files_after_rename from to old.contents else old.contents;
  script = script;
}

-- a shelf was asked for, and is out where that went well; and these calls are counted
abbrev pub folder_after_shelf : FolderState → Bool → Counts → FolderState
folder_after_shelf old ok script = record old {
  out = if ok then old.out + 1 else old.out;
  shelves = if ok then at_most_count (old.shelves + 1) else old.shelves;
  script = script;
}

-- a shelf came back: the files that it has made are the folder's too, and so are its failures
abbrev pub folder_after_return : FolderState → ShelfState → FolderState
folder_after_return old shelf = record old {
  contents = old.contents ++ shelf.made;
  out = old.out - 1;
  script = sum_of_counts old.script shelf.script;
}
