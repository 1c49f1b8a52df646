-- A dump, seen from the site and the folder.
use Rattle.std.specs.Prelude.{◌≡◌, ◌⊎◌, ℕ, List, [], ◌∷◌, ◌++◌, Option, Some}
use Rattle.link_traits.specs.Contents.{File as FolderFile, IsListing}
use Rattle.link_traits.specs.Link.{concatenation}
use Rattle.link_traits.specs.Site.{Aim, SiteTold, next_of, told_after_connect, told_after_return}
use Rattle.my_session.specs.Wire.{Wire}
use Rattle.my_session.specs.declared.fault.SessionFault.TheVariants.{Link, OutOfMemory}
use Rattle.my_session.specs.declared.session.TheConstants.{QUIT}
use Rattle.plain_data.specs.Cell.{Cell}
use Rattle.dumper_cli.specs.Course.{IsWhole, EndsWith, AreAll}
use Rattle.dumper_cli.specs.DataFile.{table_files}
use Rattle.dumper_cli.specs.Run.{SaidFront}
use Rattle.dumper_cli.specs.Words.{Asked}
use Rattle.dumper_cli.specs.declared.column.Column.{Column}
use Rattle.dumper_cli.specs.declared.fault.DumpFault.{DumpFault}
use Rattle.dumper_cli.specs.declared.fault.DumpFault.TheVariants.{FolderNotEmpty, File, Session}
use Rattle.dumper_cli.specs.declared.dump.TheConstants.{HOST, PORT}

-- what goes over the site's next link: its peer's conversation is to be heard, and nothing was sent
abbrev pub next_wire : SiteTold → Wire
next_wire site =
    record { sent = []; stream = concatenation (next_of site.conversations); place = 0; id = 0 }

-- these messages of a dump, and COM_QUIT, which may be missing only where a count rose
pub record IsSaid (asked : Asked) (columns : List Column) (rose : Type 0)
    (messages sent : List (List ℕ)) : Type 0 where
  pub are_all : AreAll asked columns messages
  pub quits : (sent ≡ messages ++ QUIT.now ∷ []) ⊎ ((sent ≡ messages) × rose)

-- one link came back, on which these columns and rows were asked for and came: the messages sent are those of the dump that
-- came to its end by what was heard
pub record SiteDumped (asked : Asked) (columns : List Column) (rows : List (List Cell))
    (rose : Type 0) (old new : SiteTold) : Type 0 where
  pub sent : List (List ℕ)
  pub told : new ≡ told_after_return (told_after_connect old) sent
  pub heard : IsWhole asked columns rows (next_wire old)
  pub said_all : IsSaid asked columns rose heard.wire.sent sent

-- the table was dumped: the messages, the replies and the files are those of one list of columns and one list of rows
pub record Dumped (asked : Asked) (site_tells rose : Type 0) (old new : SiteTold)
    (folder_tells : Type 0) (contents new_contents : List FolderFile) : Type 0 where
  pub columns : List Column
  pub rows : List (List Cell)
  pub site : site_tells → SiteDumped asked columns rows rose old new
  pub was_empty : folder_tells → contents ≡ []
  pub files : folder_tells → new_contents ≡ table_files asked.schema asked.table columns rows

-- nothing was said; or a connection failed; or one link came back, on which the messages of a dump that came to some stage were
-- said, or these and COM_QUIT, and no others
pub data SaidAtMost (asked : Asked) (old new : SiteTold) : Type 0 where
  nothing : new ≡ old → SaidAtMost asked old new
  no_link : new ≡ told_after_connect old → SaidAtMost asked old new
  a_front : {sent : List (List ℕ)} → SaidFront asked (next_wire old) sent →
      new ≡ told_after_return (told_after_connect old) sent → SaidAtMost asked old new
  with_quit : {sent : List (List ℕ)} → SaidFront asked (next_wire old) sent →
      new ≡ told_after_return (told_after_connect old) (sent ++ QUIT.now ∷ []) →
      SaidAtMost asked old new

-- the folder lists this name first, in the order of the bytes
pub record IsLeast (name : List ℕ) (files : List FolderFile) : Type 0 where
  pub others : List (List ℕ)
  pub listed : IsListing (name ∷ others) files

-- why a dump ended
abbrev pub EndedBy : (List ℕ → Type 0) → Asked → Type 0 → SiteTold → Type 0 → Type 0 → DumpFault →
    Type 0
EndedBy NotEmpty asked site_tells site site_rose file_rose (FolderNotEmpty name) = NotEmpty name
EndedBy NotEmpty asked site_tells site site_rose file_rose File = file_rose
EndedBy NotEmpty asked site_tells site site_rose file_rose (Session Link) = site_rose
EndedBy NotEmpty asked site_tells site site_rose file_rose (Session OutOfMemory) = Unit {0}
EndedBy NotEmpty asked site_tells site site_rose file_rose (Session fault) =
    site_tells → EndsWith asked (next_wire site) fault

-- what has to hold where the dump ended after the listing of the folder
abbrev pub ComesLater : Type 0 → DumpFault → Type 0
ComesLater P (FolderNotEmpty name) = Unit {0}
ComesLater P File = Unit {0}
ComesLater P (Session OutOfMemory) = Unit {0}
ComesLater P (Session fault) = P

-- what was dumped over a link of the site, and the files of the shelf
pub record SiteTabled (asked : Asked) (site_tells rose : Type 0) (old new : SiteTold)
    (shelf_tells : Type 0) (made : List FolderFile) : Type 0 where
  pub columns : List Column
  pub rows : List (List Cell)
  pub site : site_tells → SiteDumped asked columns rows rose old new
  pub files : shelf_tells → made ≡ table_files asked.schema asked.table columns rows

-- what was said where the dump ended: nothing where the folder isn't empty
abbrev pub SaidBefore : Asked → SiteTold → SiteTold → DumpFault → Type 0
SaidBefore asked old new (FolderNotEmpty name) = new ≡ old
SaidBefore asked old new File = SaidAtMost asked old new
SaidBefore asked old new (Session fault) = SaidAtMost asked old new

-- why a folder has no first name
abbrev pub IsUnlisted : Type 0 → DumpFault → Type 0
IsUnlisted rose (FolderNotEmpty name) = ⊥
IsUnlisted rose File = rose
IsUnlisted rose (Session OutOfMemory) = Unit {0}
IsUnlisted rose (Session fault) = ⊥

-- the connection was to the local server, and the folder was that of the words
pub record AimsAt (asked : Asked) (aim : Option Aim) (path : Option (List ℕ)) : Type 0 where
  pub site : aim ≡ Some (record { host = HOST.now; port = PORT })
  pub folder : path ≡ Some asked.path
