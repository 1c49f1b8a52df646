-- The exit status of a dump, by its answer.
use Rattle.std.proofs.Common.{◌≡◌, ℕ, List, [], ◌∷◌, length, Result, Ok, Err, OnOk, OnErr, IfErr, inl, inr, refl, ap, arith}
use Rattle.std.proofs.lemmas.List.Sorted.{length_permutation}
use Rattle.link_traits.specs.Contents.{File as FolderFile, file_names}
use Rattle.link_traits.specs.Site.{SiteTold}
use Rattle.my_session.specs.declared.fault.SessionFault.{SessionFault}
use Rattle.my_session.specs.declared.fault.SessionFault.TheVariants.{Link, Refused, Garbled, NotProtocol10, PluginUnsupported, TooLong, StreamTooLong, OutOfMemory}
use Rattle.dumper_cli.proofs.Outcomes.{one_outcome}
use Rattle.dumper_cli.specs.Course.{HasOneOutcome, EndsWith}
use Rattle.dumper_cli.specs.Outcomes.{IsExact, IsStatusOr}
use Rattle.dumper_cli.specs.Outside.{next_wire, Dumped, EndedBy, ComesLater, IsLeast, SaidAtMost, SaidBefore, nothing}
use Rattle.dumper_cli.specs.Status.{session_status, status_of, IsCaused, RefusesFull}
use Rattle.dumper_cli.specs.Words.{Asked}
use Rattle.dumper_cli.specs.declared.fault.DumpFault.{DumpFault}
use Rattle.dumper_cli.specs.declared.fault.DumpFault.TheVariants.{FolderNotEmpty, File, Session}

not_two_by : (fault : SessionFault) → session_status fault ≡ 2 → ⊥
not_two_by Link e = absurd (omega (arith, e))
not_two_by (Refused form refusal) e = absurd (omega (arith, e))
not_two_by (Garbled place) e = absurd (omega (arith, e))
not_two_by (NotProtocol10 version) e = absurd (omega (arith, e))
not_two_by (PluginUnsupported name) e = absurd (omega (arith, e))
not_two_by (TooLong size) e = absurd (omega (arith, e))
not_two_by StreamTooLong e = absurd (omega (arith, e))
not_two_by OutOfMemory e = absurd (omega (arith, e))

not_zero_by : (fault : SessionFault) → session_status fault ≡ 0 → ⊥
not_zero_by Link e = absurd (omega (arith, e))
not_zero_by (Refused form refusal) e = absurd (omega (arith, e))
not_zero_by (Garbled place) e = absurd (omega (arith, e))
not_zero_by (NotProtocol10 version) e = absurd (omega (arith, e))
not_zero_by (PluginUnsupported name) e = absurd (omega (arith, e))
not_zero_by (TooLong size) e = absurd (omega (arith, e))
not_zero_by StreamTooLong e = absurd (omega (arith, e))
not_zero_by OutOfMemory e = absurd (omega (arith, e))

pub not_two : (result : Result (Unit {0}) DumpFault) → status_of result ≡ 2 → ⊥
not_two (Ok done) e = absurd (omega (arith, e))
not_two (Err (FolderNotEmpty name)) e = absurd (omega (arith, e))
not_two (Err File) e = absurd (omega (arith, e))
not_two (Err (Session fault)) e = not_two_by fault e

-- status 0 is an end
pub zero_ended : (result : Result (Unit {0}) DumpFault) (P : Type 0) → OnOk result P → status_of result ≡ 0 → P
zero_ended (Ok done) P ok e = ok
zero_ended (Err (FolderNotEmpty name)) P ok e = absurd (omega (arith, e))
zero_ended (Err File) P ok e = absurd (omega (arith, e))
zero_ended (Err (Session fault)) P ok e = absurd (not_zero_by fault e)

-- any other status is a fault
pub other_failed : (result : Result (Unit {0}) DumpFault) (P : Type 0) → OnErr result P → (status_of result ≡ 0 → ⊥) → P
other_failed (Ok done) P err e = absurd (e refl)
other_failed (Err fault) P err e = err

pub other_said : (asked : Asked) (old new : SiteTold) (tells : Type 0) (result : Result (Unit {0}) DumpFault) → IfErr result (λ fault. tells → SaidBefore asked old new fault) → (status_of result ≡ 0 → ⊥) → tells → SaidAtMost asked old new
other_said asked old new tells (Ok done) said e t = absurd (e refl)
other_said asked old new tells (Err (FolderNotEmpty name)) said e t = nothing (said t)
other_said asked old new tells (Err File) said e t = said t
other_said asked old new tells (Err (Session fault)) said e t = said t

least_of_none : (name : List ℕ) (files : List FolderFile) → files ≡ [] → IsLeast name files → ⊥
least_of_none name files none least =
    let same = length_permutation (name ∷ least.others) (file_names files) least.listed.same in
    let short : length (file_names files) ≡ 0 = (let gone = none in cc) in
    absurd (omega arith)

module _ (asked : Asked) (site_tells : Type 0) (site : SiteTold) (site_rose folder_tells : Type 0) (contents : List FolderFile) (folder_rose : Type 0) where
  -- what the server's messages or those that were to be sent are the cause of
  module _ (fault : SessionFault) (why : site_tells → EndsWith asked (next_wire site) fault) where
    caused_one : session_status fault ≡ 1 → IsCaused asked site_tells site site_rose folder_tells contents folder_rose 1
    caused_one is = record {
      fine = omega arith;
      one = λ e. inr (record { fault = fault; status_is = is; ends = why });
      three = λ e. absurd (omega (arith, e));
      four = λ e. absurd (omega (arith, e));
    }

  pub causes : (result : Result (Unit {0}) DumpFault) → IfErr result (λ fault. EndedBy (λ name. folder_tells → IsLeast name contents) asked site_tells site site_rose folder_rose fault) → IsCaused asked site_tells site site_rose folder_tells contents folder_rose (status_of result)
  causes (Ok done) why = record { fine = omega arith; one = λ e. absurd (omega (arith, e)); three = λ e. absurd (omega (arith, e)); four = λ e. absurd (omega (arith, e)) }
  causes (Err (FolderNotEmpty name)) why = record { fine = omega arith; one = λ e. inl (name, why); three = λ e. absurd (omega (arith, e)); four = λ e. absurd (omega (arith, e)) }
  causes (Err File) why = record { fine = omega arith; one = λ e. absurd (omega (arith, e)); three = λ e. absurd (omega (arith, e)); four = λ e. inr why }
  causes (Err (Session Link)) why = record { fine = omega arith; one = λ e. absurd (omega (arith, e)); three = λ e. absurd (omega (arith, e)); four = λ e. inl why }
  causes (Err (Session (Refused form refusal))) why = record { fine = omega arith; one = λ e. absurd (omega (arith, e)); three = λ e. (form, refusal, why); four = λ e. absurd (omega (arith, e)) }
  causes (Err (Session (Garbled place))) why = caused_one (Garbled place) why refl
  causes (Err (Session (NotProtocol10 version))) why = caused_one (NotProtocol10 version) why refl
  causes (Err (Session (PluginUnsupported name))) why = caused_one (PluginUnsupported name) why refl
  causes (Err (Session (TooLong size))) why = caused_one (TooLong size) why refl
  causes (Err (Session StreamTooLong)) why = caused_one StreamTooLong why refl
  causes (Err (Session OutOfMemory)) why = record { fine = omega arith; one = λ e. absurd (omega (arith, e)); three = λ e. absurd (omega (arith, e)); four = λ e. absurd (omega (arith, e)) }

  pub refuses_full : (result : Result (Unit {0}) DumpFault) → OnOk result (folder_tells → contents ≡ []) → IfErr result (λ fault. ComesLater (folder_tells → contents ≡ []) fault) → IfErr result (λ fault. EndedBy (λ name. folder_tells → IsLeast name contents) asked site_tells site site_rose folder_rose fault) → RefusesFull folder_tells folder_rose contents (status_of result)
  refuses_full (Ok done) ok later why t full = absurd (full (ok t))
  refuses_full (Err (FolderNotEmpty name)) ok later why t full = inl refl
  refuses_full (Err File) ok later why t full = inr (inl (refl, why))
  refuses_full (Err (Session Link)) ok later why t full = absurd (full (later t))
  refuses_full (Err (Session (Refused form refusal))) ok later why t full = absurd (full (later t))
  refuses_full (Err (Session (Garbled place))) ok later why t full = absurd (full (later t))
  refuses_full (Err (Session (NotProtocol10 version))) ok later why t full = absurd (full (later t))
  refuses_full (Err (Session (PluginUnsupported name))) ok later why t full = absurd (full (later t))
  refuses_full (Err (Session (TooLong size))) ok later why t full = absurd (full (later t))
  refuses_full (Err (Session StreamTooLong)) ok later why t full = absurd (full (later t))
  refuses_full (Err (Session OutOfMemory)) ok later why t full = inr (inr refl)

  exact_or : (status : ℕ) → ((due : ℕ) → IsStatusOr due site_rose folder_rose status) → IsExact asked site_tells site site_rose folder_tells contents folder_rose status
  exact_or status cut = record { whole = λ columns rows t f empty is. cut 0; ends = λ fault t f empty is. cut (session_status fault) }

  outcome : HasOneOutcome asked (next_wire site)
  outcome = one_outcome asked (next_wire site)

  exact_by : (fault : SessionFault) → (site_tells → EndsWith asked (next_wire site) fault) → IsExact asked site_tells site site_rose folder_tells contents folder_rose (session_status fault)
  exact_by fault why = record {
    whole = λ columns rows t f empty is. absurd (outcome.whole_does_not_end columns rows fault is (why t));
    ends = λ other t f empty is. inl (ap session_status (outcome.one_end fault other (why t) is));
  }

  pub exact : (new : SiteTold) (new_contents : List FolderFile) (result : Result (Unit {0}) DumpFault) → OnOk result (Dumped asked site_tells site_rose site new folder_tells contents new_contents) → IfErr result (λ fault. EndedBy (λ name. folder_tells → IsLeast name contents) asked site_tells site site_rose folder_rose fault) → IsExact asked site_tells site site_rose folder_tells contents folder_rose (status_of result)
  exact new new_contents (Ok done) ok why = record {
    whole = λ columns rows t f empty is. inl refl;
    ends = λ fault t f empty is. absurd (outcome.whole_does_not_end ok.columns ok.rows fault (ok.site t).heard is);
  }
  exact new new_contents (Err (FolderNotEmpty name)) ok why = record {
    whole = λ columns rows t f empty is. absurd (least_of_none name contents empty (why f));
    ends = λ fault t f empty is. absurd (least_of_none name contents empty (why f));
  }
  exact new new_contents (Err File) ok why = exact_or 4 (λ due. inr (inl (refl, inr why)))
  exact new new_contents (Err (Session Link)) ok why = exact_or 4 (λ due. inr (inl (refl, inl why)))
  exact new new_contents (Err (Session (Refused form refusal))) ok why = exact_by (Refused form refusal) why
  exact new new_contents (Err (Session (Garbled place))) ok why = exact_by (Garbled place) why
  exact new new_contents (Err (Session (NotProtocol10 version))) ok why = exact_by (NotProtocol10 version) why
  exact new new_contents (Err (Session (PluginUnsupported name))) ok why = exact_by (PluginUnsupported name) why
  exact new new_contents (Err (Session (TooLong size))) ok why = exact_by (TooLong size) why
  exact new new_contents (Err (Session StreamTooLong)) ok why = exact_by StreamTooLong why
  exact new new_contents (Err (Session OutOfMemory)) ok why = exact_or 5 (λ due. inr (inr refl))
