-- A dump over a link of a site, seen from the site.
use Rattle.std.proofs.Common.{◌≡◌, ◌≤◌, ◌+◌, ◌-◌, ◌^◌, min, ℕ, List, [], ◌∷◌, refl, ◌∙◌, ap, subst, inl, inr, arith}
use Rattle.link_traits.specs.Cause.{Rose}
use Rattle.link_traits.specs.Link.{Told, concatenation, stream, told_at_start}
use Rattle.link_traits.specs.Site.{SiteTold, next_of, told_after_connect, told_after_return}
use Rattle.link_traits.specs.declared.link.Link.{Ghosts as LinkGhosts}
use Rattle.link_traits.specs.declared.folder.Shelf.{Ghosts as ShelfGhosts}
use Rattle.my_session.specs.Session.{fresh}
use Rattle.my_session.specs.Wire.{Wire}
use Rattle.my_session.specs.declared.fault.SessionFault.{SessionFault}
use Rattle.my_session.specs.declared.fault.SessionFault.TheVariants.{Link, Refused, Garbled, NotProtocol10, PluginUnsupported, TooLong, StreamTooLong, OutOfMemory}
use Rattle.dumper_cli.specs.Course.{Comes, EndsWith}
use Rattle.dumper_cli.specs.Outside.{next_wire, SaidAtMost, a_front, with_quit, EndedBy, SiteTabled}
use Rattle.dumper_cli.specs.OverLink.{LinkDumped, LinkStopped, StoppedOver}
use Rattle.dumper_cli.specs.Run.{SaidFront}
use Rattle.dumper_cli.specs.Stage.{is_over}
use Rattle.dumper_cli.specs.Words.{Asked}
use Rattle.dumper_cli.specs.declared.fault.DumpFault.{DumpFault}
use Rattle.dumper_cli.specs.declared.fault.DumpFault.TheVariants.{FolderNotEmpty, File, Session}

-- all that a new link's peer is to say is its conversation
stream_begun : (conversation : List (List ℕ)) → stream (told_at_start conversation) ≡ concatenation conversation
stream_begun [] = refl
stream_begun (list ∷ lists) = refl

-- the site's count rose where the link's did
pub Rose-back : (site link_start link_end between now : ℕ) → site ≤ between → Rose link_start link_end → min (between + link_end) (2 ^ 64 - 1) ≤ now → Rose site now
Rose-back site link_start link_end between now before rose back = omega arith

module _ {L S : Type 0} (link : LinkGhosts L) (shelf : ShelfGhosts S) (asked : Asked) (old : SiteTold) (a : L) where
  same_start : link.told a ≡ told_at_start (next_of old.conversations) → fresh link a ≡ next_wire old
  same_start begins =
      ap (λ (t : Told). let w : Wire = record { sent = t.sent; stream = stream t; place = 0; id = 0 } in w) begins
      ∙ ap (λ (s : List ℕ). let w : Wire = record { sent = []; stream = s; place = 0; id = 0 } in w) (stream_begun (next_of old.conversations))

  module _ (tells : Type 0) (new : SiteTold) (b : L) (before after : S) (telling : tells → link.tells b) (begins : tells → link.told a ≡ told_at_start (next_of old.conversations)) (told : tells → new ≡ told_after_return (told_after_connect old) (link.told b).sent) where
    pub SaidAtMost-stopped : (fault : DumpFault) → LinkStopped link shelf asked a before b after fault → tells → SaidAtMost asked old new
    SaidAtMost-stopped fault stopped t =
        let said = stopped.front (telling t) in
        let front = subst (λ (w : Wire). SaidFront asked w said.sent) (same_start (begins t)) said.front in
        elim said.sent_is [
          | inl is ↦ a_front front (told t ∙ ap (told_after_return (told_after_connect old)) is)
          | inr is ↦ with_quit front (told t ∙ ap (told_after_return (told_after_connect old)) is)
        ]

    pub SiteTabled-dumped : (rose : Type 0) → (Rose (link.faults a) (link.faults b) → rose) → LinkDumped link shelf asked a before b after → SiteTabled asked tells rose old new (shelf.tells before) (shelf.told after).made
    SiteTabled-dumped rose rising dumped = record {
      columns = dumped.columns;
      rows = dumped.rows;
      site = λ t.
          let whole = dumped.heard (telling t) in
          let said = dumped.all_said (telling t) in
          record {
            sent = (link.told b).sent;
            told = told t;
            heard = record { wire = whole.wire; comes = subst (λ (w : Wire). Comes asked w (is_over dumped.columns dumped.rows) whole.wire) (same_start (begins t)) whole.comes };
            said_all = record {
              are_all = said.are_all (ap (λ (t : Told). t.sent) (begins t));
              quits = elim said.quits [ inl e ↦ inl e | inr e ↦ inr (e.0, rising e.1) ];
            };
          };
      files = dumped.made;
    }

  module _ (tells rose : Type 0) (b : L) (before after : S) (telling : tells → link.tells b) (begins : tells → link.told a ≡ told_at_start (next_of old.conversations)) (rising : Rose (link.faults a) (link.faults b) → rose) where
    ended : (fault : SessionFault) → (link.tells b → EndsWith asked (fresh link a) fault) → tells → EndsWith asked (next_wire old) fault
    ended fault why t = subst (λ (w : Wire). EndsWith asked w fault) (same_start (begins t)) (why (telling t))

    pub EndedBy-stopped : (fault : DumpFault) → StoppedOver link shelf asked a before b after fault → EndedBy (λ name. ⊥) asked tells old rose (Rose (shelf.faults before) (shelf.faults after)) fault
    EndedBy-stopped (FolderNotEmpty name) why = why
    EndedBy-stopped File why = why
    EndedBy-stopped (Session Link) why = rising why
    EndedBy-stopped (Session (Refused form refusal)) why = ended (Refused form refusal) why
    EndedBy-stopped (Session (Garbled place)) why = ended (Garbled place) why
    EndedBy-stopped (Session (NotProtocol10 version)) why = ended (NotProtocol10 version) why
    EndedBy-stopped (Session (PluginUnsupported name)) why = ended (PluginUnsupported name) why
    EndedBy-stopped (Session (TooLong size)) why = ended (TooLong size) why
    EndedBy-stopped (Session StreamTooLong) why = ended StreamTooLong why
    EndedBy-stopped (Session OutOfMemory) why = tt
