-- The status of a dump is that of what the server sends.
use Rattle.std.specs.Prelude.{ℕ, ◌≡◌, ◌⊎◌, List, []}
use Rattle.link_traits.specs.Contents.{File as FolderFile}
use Rattle.link_traits.specs.Site.{SiteTold}
use Rattle.my_session.specs.declared.fault.SessionFault.{SessionFault}
use Rattle.plain_data.specs.Cell.{Cell}
use Rattle.dumper_cli.specs.Course.{IsWhole, EndsWith}
use Rattle.dumper_cli.specs.Outside.{next_wire}
use Rattle.dumper_cli.specs.Status.{session_status}
use Rattle.dumper_cli.specs.Words.{Asked}
use Rattle.dumper_cli.specs.declared.column.Column.{Column}

-- that status, but where the site or the folder failed or memory ran out
abbrev pub IsStatusOr : ℕ → Type 0 → Type 0 → ℕ → Type 0
IsStatusOr due site_rose folder_rose status =
    (status ≡ due) ⊎ (((status ≡ 4) × (site_rose ⊎ folder_rose)) ⊎ (status ≡ 5))

-- into an empty folder, what the server sends has its status
pub record IsExact (asked : Asked) (site_tells : Type 0) (site : SiteTold)
    (site_rose folder_tells : Type 0) (contents : List FolderFile) (folder_rose : Type 0)
    (status : ℕ) : Type 0 where
  pub whole : (columns : List Column) (rows : List (List Cell)) → site_tells → folder_tells →
      contents ≡ [] → IsWhole asked columns rows (next_wire site) →
      IsStatusOr 0 site_rose folder_rose status
  pub ends : (fault : SessionFault) → site_tells → folder_tells → contents ≡ [] →
      EndsWith asked (next_wire site) fault →
      IsStatusOr (session_status fault) site_rose folder_rose status
