-- Exit statuses, and why each comes.
use Rattle.std.specs.Prelude.{◌≡◌, ◌≤◌, ◌⊎◌, ℕ, List, [], Result, Ok, Err}
use Rattle.link_traits.specs.Contents.{File as FolderFile}
use Rattle.link_traits.specs.Site.{SiteTold}
use Rattle.my_session.specs.declared.fault.SessionFault.{SessionFault}
use Rattle.my_session.specs.declared.fault.SessionFault.TheVariants.{Link, Refused, Garbled, NotProtocol10, PluginUnsupported, TooLong, StreamTooLong, OutOfMemory}
use Rattle.wire_forms.specs.declared.refusal.Refusal.{Refusal}
use Rattle.statement_forms.specs.declared.form.Form.{Form}
use Rattle.dumper_cli.specs.Course.{EndsWith}
use Rattle.dumper_cli.specs.Outside.{next_wire, IsLeast}
use Rattle.dumper_cli.specs.Words.{Asked}
use Rattle.dumper_cli.specs.declared.fault.DumpFault.{DumpFault}
use Rattle.dumper_cli.specs.declared.fault.DumpFault.TheVariants.{FolderNotEmpty, File, Session}

-- 1 for what isn't read in its place, isn't supported or is too long, 3 for an ERR, 4 for a fault of the link, 5 for want of memory
abbrev pub session_status : SessionFault → ℕ
session_status Link = 4
session_status (Refused form refusal) = 3
session_status (Garbled place) = 1
session_status (NotProtocol10 version) = 1
session_status (PluginUnsupported name) = 1
session_status (TooLong size) = 1
session_status StreamTooLong = 1
session_status OutOfMemory = 5

-- 0 at the end, 1 for a folder that isn't empty, 4 for a fault of the folder, and else that of the session's fault
abbrev pub status_of : Result (Unit {0}) DumpFault → ℕ
status_of (Ok done) = 0
status_of (Err (FolderNotEmpty name)) = 1
status_of (Err File) = 4
status_of (Err (Session fault)) = session_status fault

-- the server's messages or what was to be sent are the cause of a fault with this status
pub record IsEnding (asked : Asked) (site_tells : Type 0) (site : SiteTold)
    (status : ℕ) : Type 0 where
  pub fault : SessionFault
  pub status_is : session_status fault ≡ status
  pub ends : site_tells → EndsWith asked (next_wire site) fault

-- each status but 0, 2 and 5 has its cause here: those of 0 and 2 are said apart, and want of memory has none
pub record IsCaused (asked : Asked) (site_tells : Type 0) (site : SiteTold)
    (site_rose folder_tells : Type 0) (contents : List FolderFile) (folder_rose : Type 0)
    (status : ℕ) : Type 0 where
  pub fine : status ≤ 5
  -- the folder lists a name, or a message came or was to be sent at which a dump ends so
  pub one : status ≡ 1 → ((name : List ℕ) × (folder_tells → IsLeast name contents))
      ⊎ IsEnding asked site_tells site 1
  -- an ERR came, in the greeting's place or in answer to a message
  pub three : status ≡ 3 → (form : Form) × (refusal : Refusal)
      × (site_tells → EndsWith asked (next_wire site) (Refused form refusal))
  -- the site's or the folder's count of faults rose in this call
  pub four : status ≡ 4 → site_rose ⊎ folder_rose

-- a folder that isn't empty is refused, but where it failed or memory ran out
abbrev pub RefusesFull : Type 0 → Type 0 → List FolderFile → ℕ → Type 0
RefusesFull folder_tells folder_rose contents status =
    folder_tells → (contents ≡ [] → ⊥) → (status ≡ 1)
    ⊎ (((status ≡ 4) × folder_rose) ⊎ (status ≡ 5))
