-- How a dump into an empty folder ended, seen from the whole dump.
use Rattle.std.proofs.Common.{◌≡◌, ℕ, List, Result, Ok, Err, IfErr, OnErr, subst}
use Rattle.link_traits.specs.Site.{SiteTold}
use Rattle.my_session.specs.declared.fault.SessionFault.{SessionFault}
use Rattle.my_session.specs.declared.fault.SessionFault.TheVariants.{Link, Refused, Garbled, NotProtocol10, PluginUnsupported, TooLong, StreamTooLong, OutOfMemory}
use Rattle.dumper_cli.specs.Outside.{SaidAtMost, SaidBefore, EndedBy, next_wire}
use Rattle.dumper_cli.specs.Course.{EndsWith}
use Rattle.dumper_cli.specs.Words.{Asked}
use Rattle.dumper_cli.specs.declared.fault.DumpFault.{DumpFault}
use Rattle.dumper_cli.specs.declared.fault.DumpFault.TheVariants.{FolderNotEmpty, File, Session}

pub SaidBefore-empty : (asked : Asked) (tells : Type 0) (site : SiteTold) (rose file_rose : Type 0) (old new : SiteTold) (fault : DumpFault) → EndedBy (λ name. ⊥) asked tells site rose file_rose fault → SaidAtMost asked old new → SaidBefore asked old new fault
SaidBefore-empty asked tells site rose file_rose old new (FolderNotEmpty name) ended said = absurd ended
SaidBefore-empty asked tells site rose file_rose old new File ended said = said
SaidBefore-empty asked tells site rose file_rose old new (Session fault) ended said = said

pub said_before : (asked : Asked) (tells tells_first : Type 0) (site : SiteTold) (rose file_rose : Type 0) (old first new : SiteTold) (result : Result (Unit {0}) DumpFault) → (tells_first → tells) → old ≡ first → IfErr result (λ fault. EndedBy (λ name. ⊥) asked tells site rose file_rose fault) → OnErr result (tells → SaidAtMost asked old new) → IfErr result (λ fault. tells_first → SaidBefore asked first new fault)
said_before asked tells tells_first site rose file_rose old first new (Ok done) telling same ended said = tt
said_before asked tells tells_first site rose file_rose old first new (Err fault) telling same ended said = λ t. subst (λ (o : SiteTold). SaidBefore asked o new fault) same (SaidBefore-empty asked tells site rose file_rose old new fault ended (said (telling t)))

-- why it ended, seen from before the site and the folder were aimed
module _ (NotEmpty : List ℕ → Type 0) (asked : Asked) (tells tells_first : Type 0) (site first : SiteTold) (rose rose_first file_rose file_rose_first : Type 0) (telling : tells_first → tells) (same : site ≡ first) (rising : rose → rose_first) (file_rising : file_rose → file_rose_first) where
  ends_first : (fault : SessionFault) → (tells → EndsWith asked (next_wire site) fault) → tells_first → EndsWith asked (next_wire first) fault
  ends_first fault ends t = subst (λ (s : SiteTold). EndsWith asked (next_wire s) fault) same (ends (telling t))

  pub EndedBy-first : (fault : DumpFault) → EndedBy (λ name. ⊥) asked tells site rose file_rose fault → EndedBy NotEmpty asked tells_first first rose_first file_rose_first fault
  EndedBy-first (FolderNotEmpty name) ended = absurd ended
  EndedBy-first File ended = file_rising ended
  EndedBy-first (Session Link) ended = rising ended
  EndedBy-first (Session (Refused form refusal)) ended = ends_first (Refused form refusal) ended
  EndedBy-first (Session (Garbled place)) ended = ends_first (Garbled place) ended
  EndedBy-first (Session (NotProtocol10 version)) ended = ends_first (NotProtocol10 version) ended
  EndedBy-first (Session (PluginUnsupported name)) ended = ends_first (PluginUnsupported name) ended
  EndedBy-first (Session (TooLong size)) ended = ends_first (TooLong size) ended
  EndedBy-first (Session StreamTooLong) ended = ends_first StreamTooLong ended
  EndedBy-first (Session OutOfMemory) ended = tt
