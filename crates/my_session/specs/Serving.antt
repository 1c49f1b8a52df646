-- What is heard and sent on a link whose server is honest.
use Rattle.std.specs.Prelude.{ℕ, ◌≡◌, ◌<◌, ◌+◌, ◌*◌, ◌^◌, ◌↔◌, false, List, ◌++◌, length, Option, Some, None, Result}
use Rattle.honest_server.specs.Exchange.{Replies, BeginsAt, packets_from, query_payload}
use Rattle.honest_server.specs.Link.{MayStandBeside, TellsNoMore}
use Rattle.honest_server.specs.Moves.{Way, plainly, beside}
use Rattle.honest_server.specs.State.{State, in_session}
use Rattle.link_traits.specs.declared.link.Link.{Ghosts}
use Rattle.wire_forms.specs.Packet.{packets, packet_count, id_after}
use Rattle.my_packets.specs.Skimmed.{Skimmed as SkimmedView}
use Rattle.my_packets.specs.Skims.{Skims}
use Rattle.object_forms.specs.Head.{HasHead}
use Rattle.wire_forms.specs.Reply.{reply_of}
use Rattle.wire_forms.specs.declared.reply.Reply.{Reply}
use Rattle.wire_forms.specs.declared.reply.Reply.TheVariants.{Refused}
use Rattle.my_session.specs.Served.{IsSeenBy}
use Rattle.my_session.specs.Session.{IsCounted}
use Rattle.my_session.specs.declared.fault.SessionFault.{SessionFault}
use Rattle.my_session.specs.declared.fault.SessionFault.TheVariants.{Link, Refused, Garbled, NotProtocol10, PluginUnsupported, TooLong, StreamTooLong, OutOfMemory}
use Rattle.my_session.specs.declared.limits.TheConstants.{MESSAGE_LIMIT}

-- a whole message waits, whose packets begin with this id
pub record MessageWaits (id : ℕ) (waiting : List ℕ) : Type 0 where
  pub message : List ℕ
  pub after : List ℕ
  pub waits : waiting ≡ packets id message ++ after

-- the payload isn't that of an object's text
abbrev pub MakesNoObject : List ℕ → Type 0
MakesNoObject payload = (text : List ℕ) → payload ≡ query_payload text → HasHead text → ⊥

-- a payload may be sent in packets from this id on: the server awaits that id, and in a session that isn't sole it is no object's text
pub record MaySay (id : ℕ) (payload : List ℕ) (state : State) : Type 0 where
  pub begins : BeginsAt state.phase id
  pub no_create : state.phase ≡ in_session → state.terms.sole ≡ false → MakesNoObject payload

-- Why a message that waits isn't heard, which begins after so many bytes. An honest server's packets are in order.
abbrev pub IsUnheard : List ℕ → ℕ → SessionFault → Type 0
IsUnheard message place Link = Unit {0}
IsUnheard message place (Refused form refusal) = ⊥
IsUnheard message place (Garbled at) = ⊥
IsUnheard message place (NotProtocol10 version) = ⊥
IsUnheard message place (PluginUnsupported name) = ⊥
IsUnheard message place (TooLong size) = MESSAGE_LIMIT < length message
IsUnheard message place StreamTooLong =
    2 ^ 62 < place + 4 * packet_count (length message) + length message
IsUnheard message place OutOfMemory = Unit {0}

module _ {L : Type 0} (of : Ghosts L) where
  -- how a message is sent: plainly, or beside the holder of the read lock that is lent
  abbrev pub way_of : Option L → Way
  way_of None = plainly
  way_of (Some holder) = beside (of.served holder).state

  -- a link may send beside one of its site that holds the read lock
  pub record MayBeBeside (holder sender : L) : Type 0 where
    pub one_site : of.same_origin sender holder
    pub stands : MayStandBeside (of.served holder) (of.served sender)

  -- it may send beside the holder, where one is lent
  abbrev pub MaySendBy : Option L → L → Type 0
  MaySendBy None sender = Unit {0}
  MaySendBy (Some holder) sender = MayBeBeside holder sender

  -- the server is honest, and the link hasn't failed
  pub record IsServing (link : L) : Type 0 where
    pub honest : of.honest link
    pub alive : (of.served link).failed ≡ false

  -- what is the same of a link, whatever is done on it: one that has failed stays so
  pub record Stays (old new : L) : Type 0 where
    pub honest : of.honest old ↔ of.honest new
    pub origin : of.same_origin old new
    pub terms : of.honest old → (of.served new).state.terms ≡ (of.served old).state.terms
    pub back : of.honest old → (of.served new).failed ≡ false → (of.served old).failed ≡ false
    pub wide : of.honest old → TellsNoMore (of.served old).keeps_wide (of.served new).keeps_wide

  -- what every call keeps of its link, whatever it answers
  pub record KeepsLink {A : Type 0} (old new : L) (result : Result A SessionFault) : Type 0 where
    pub stays : Stays old new
    pub tells : of.tells old ↔ of.tells new
    pub counted : IsCounted (of.faults old) (of.faults new) result

  -- these bytes were taken off what waits, and nothing else has changed
  pub record Gives (bytes : List ℕ) (old new : L) : Type 0 where
    pub alive : (of.served new).failed ≡ false
    pub state : (of.served new).state ≡ (of.served old).state
    pub waits : (of.served old).waiting ≡ bytes ++ (of.served new).waiting

  -- those of a message, after which the next packet has this id
  pub record Delivers (message : List ℕ) (old : L) (id_before : ℕ) (new : L)
      (id_now : ℕ) : Type 0 where
    pub gives : Gives (packets id_before message) old new
    pub id : id_now ≡ id_after (packet_count (length message)) id_before

  -- those of a message of which a skim kept the front
  pub record DeliversFront (skim : SkimmedView) (old : L) (id_before : ℕ) (new : L)
      (id_now : ℕ) : Type 0 where
    pub message : List ℕ
    pub delivers : Delivers message old id_before new id_now
    pub skims : Skims id_before 67108864 (packets id_before message) skim

  -- those of a message that is this reply's first, or spells none
  pub record DeliversReply (reply : Option Reply) (old : L) (id_before : ℕ) (new : L)
      (id_now : ℕ) : Type 0 where
    pub message : List ℕ
    pub delivers : Delivers message old id_before new id_now
    pub reply_is : reply_of message ≡ reply

  -- the server has handled a payload that was sent in this way, and the packets of its reply wait too, from this id on
  pub record Replied (way : Way) (payload : List ℕ) (old new : L) (id : ℕ) : Type 0 where
    pub messages : List (List ℕ)
    pub replies : Replies way (of.served old).state payload messages (of.served new).state
    pub before : IsSeenBy way (of.served old).state
    pub was_alive : (of.served old).failed ≡ false
    pub alive : (of.served new).failed ≡ false
    pub waits : (of.served new).waiting ≡ (of.served old).waiting ++ packets_from id messages
