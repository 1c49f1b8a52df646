-- A link stays the same, whatever is done on it.
use Rattle.std.proofs.Common.{◌≡◌, ◌≤◌, ◌↔◌, refl, ◌∙◌, ap, arith, Ok, Err}
use Rattle.link_traits.specs.Cause.{Rose}
use Rattle.link_traits.specs.declared.link.Link.{Ghosts}
use Rattle.my_session.specs.Serving.{KeepsLink, Stays}
use Rattle.my_session.specs.declared.fault.SessionFault.{SessionFault}
use Rattle.my_session.specs.declared.fault.SessionFault.TheVariants.{Link}

module _ {L : Type 0} (of : Ghosts L) where
  pub stays_begin : ((link : L) → of.same_origin link link) → (link : L) → Stays of link link
  stays_begin begins link = record {
    honest = (λ h. h, λ h. h);
    origin = begins link;
    terms = λ h. refl;
    back = λ h alive. alive;
    wide = λ h tells. tells;
  }

  pub stays_on : ((one next last : L) → of.same_origin one next → of.same_origin next last → of.same_origin one last) → (one next last : L) → Stays of one next → Stays of next last → Stays of one last
  stays_on joins one next last first later = record {
    honest = (λ h. later.honest.0 (first.honest.0 h), λ h. first.honest.1 (later.honest.1 h));
    origin = joins one next last first.origin later.origin;
    terms = λ h. later.terms (first.honest.0 h) ∙ first.terms h;
    back = λ h alive. first.back h (later.back (first.honest.0 h) alive);
    wide = λ h tells. first.wide h (later.wide (first.honest.0 h) tells);
  }

  pub keeps_ok : {A : Type 0} (answer : A) (old new : L) → Stays of old new → (of.tells old ↔ of.tells new) → of.faults old ≤ of.faults new → KeepsLink of old new (Ok answer)
  keeps_ok answer old new stays tells later = record { stays = stays; tells = tells; counted = record { later = later; failed = λ is. absurd (cc) } }

  pub keeps_err : {A : Type 0} (fault : SessionFault) (old new : L) → Stays of old new → (of.tells old ↔ of.tells new) → of.faults old ≤ of.faults new → (fault ≡ Link → Rose (of.faults old) (of.faults new)) → KeepsLink of {A = A} old new (Err fault)
  keeps_err fault old new stays tells later rose = record { stays = stays; tells = tells; counted = record { later = later; failed = λ is. rose (cc) } }

  -- what a call of a part keeps, the whole keeps with what was done before
  pub keeps_err_on : {A B : Type 0} → ((one next last : L) → of.same_origin one next → of.same_origin next last → of.same_origin one last) → (fault : SessionFault) (start link next : L) → Stays of start link → (of.tells start ↔ of.tells link) → of.faults start ≤ of.faults link → KeepsLink of {A = A} link next (Err fault) → KeepsLink of {A = B} start next (Err fault)
  keeps_err_on joins fault start link next stays tells later keeps =
      let after = keeps.counted.later in
      keeps_err fault start next (stays_on joins start link next stays keeps.stays)
      (λ t. keeps.tells.0 (tells.0 t), λ t. tells.1 (keeps.tells.1 t))
      (omega arith)
      (λ is. let rose = keeps.counted.failed (ap (λ (f : SessionFault). Err f) is) in (omega arith))
