-- What a reply's first message says.
use Rattle.std.proofs.Common.{◌≡◌, ℕ, true, List, take, refl, sym, ◌∙◌, ap, inl, inr, Option, Some}
use Rattle.link_traits.specs.declared.link.Link.{Ghosts}
use Rattle.wire_forms.specs.Packet.{packets}
use Rattle.my_packets.specs.Skimmed.{Skimmed as SkimmedView}
use Rattle.my_packets.specs.Skims.{Skims}
use Rattle.result_rows.proofs.Fronts.{front_tells}
use Rattle.wire_forms.specs.Reply.{reply_of}
use Rattle.wire_forms.specs.declared.reply.Reply.{Reply}
use Rattle.statement_forms.specs.declared.form.Form.{Form}
use Rattle.my_session.specs.Awaited.{Awaited, done, count, done_fault, count_fault}
use Rattle.my_session.specs.Channel.{HearsFront, IsOfChannel}
use Rattle.my_session.specs.Halt.{Halts, Misheard}
use Rattle.my_session.specs.Heard.{HearsReply}
use Rattle.my_session.specs.Serving.{DeliversFront, DeliversReply}
use Rattle.my_session.specs.Session.{IsOfStatement, ends_session}
use Rattle.my_session.specs.Wire.{Wire}
use Rattle.my_session.specs.declared.fault.SessionFault.{SessionFault}
use Rattle.my_session.specs.declared.fault.SessionFault.TheVariants.{Link, Refused, Garbled, NotProtocol10, PluginUnsupported, TooLong, StreamTooLong, OutOfMemory}

-- the front that a skim kept tells the reply
pub skim_tells : (skim : SkimmedView) (kept : List ℕ) (reply : Option Reply) (old new : Wire) → ((seq limit : ℕ) (fed message : List ℕ) → Skims seq limit fed skim → fed ≡ packets seq message → kept ≡ take 1024 message) → reply ≡ reply_of kept → HearsFront skim old new → HearsReply reply old new
skim_tells skim kept reply old new keeps is heard = record {
  message = heard.message;
  heard = heard.heard;
  reply_is = sym (is ∙ ap (λ (l : List ℕ). reply_of l) (keeps old.id 67108864 (packets old.id heard.message) heard.message heard.skims refl) ∙ front_tells heard.message);
}

pub halts_done : (form : Form) (reply : Option Reply) (fault : SessionFault) (old new : Wire) → HearsReply reply old new → done_fault form old.place reply ≡ Some fault → Halts (done form) old fault new
halts_done form reply fault old new heard is = inl record {
  message = heard.message;
  heard = heard.heard;
  fault_is = ap (λ (r : Option Reply). done_fault form old.place r) heard.reply_is ∙ is;
}

pub halts_count : (form : Form) (reply : Option Reply) (fault : SessionFault) (old new : Wire) → HearsReply reply old new → count_fault form old.place reply ≡ Some fault → Halts (count form) old fault new
halts_count form reply fault old new heard is = inl record {
  message = heard.message;
  heard = heard.heard;
  fault_is = ap (λ (r : Option Reply). count_fault form old.place r) heard.reply_is ∙ is;
}

pub misheard_halts : (awaited : Awaited) (fault : SessionFault) (old new : Wire) → Misheard old fault new → Halts awaited old fault new
misheard_halts awaited fault old new misheard = inr misheard

-- the front that a skim kept tells the reply of the message that was taken off an honest link
pub front_tells_reply : {L : Type 0} (of : Ghosts L) (skim : SkimmedView) (kept : List ℕ) (reply : Option Reply) (old new : L) (id now : ℕ) → ((seq limit : ℕ) (fed message : List ℕ) → Skims seq limit fed skim → fed ≡ packets seq message → kept ≡ take 1024 message) → reply ≡ reply_of kept → DeliversFront of skim old id new now → DeliversReply of reply old id new now
front_tells_reply of skim kept reply old new id now keeps is front = record {
  message = front.message;
  delivers = front.delivers;
  reply_is = sym (is ∙ ap (λ (l : List ℕ). reply_of l) (keeps id 67108864 (packets id front.message) front.message front.skims refl) ∙ front_tells front.message);
}

-- a fault that comes without a whole message ends the session
pub channel_ends : (fault : SessionFault) → IsOfChannel fault → ends_session fault ≡ true
channel_ends Link is = refl
channel_ends (Refused form refusal) is = absurd is
channel_ends (Garbled place) is = refl
channel_ends (NotProtocol10 version) is = absurd is
channel_ends (PluginUnsupported name) is = absurd is
channel_ends (TooLong size) is = refl
channel_ends StreamTooLong is = refl
channel_ends OutOfMemory is = refl

-- a fault that comes without a whole message may come at a statement
pub channel_of_statement : (fault : SessionFault) → IsOfChannel fault → IsOfStatement fault
channel_of_statement Link is = tt
channel_of_statement (Refused form refusal) is = absurd is
channel_of_statement (Garbled place) is = tt
channel_of_statement (NotProtocol10 version) is = absurd is
channel_of_statement (PluginUnsupported name) is = absurd is
channel_of_statement (TooLong size) is = tt
channel_of_statement StreamTooLong is = tt
channel_of_statement OutOfMemory is = tt
