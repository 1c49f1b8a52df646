-- A link, what is sent on it, and the message that was heard last on it.
use Rattle.std.specs.Prelude.{ℕ, ◌≡◌, ◌<◌, ◌+◌, ◌-◌, ◌/◌, Bool, false, List, [], ◌∷◌, ◌++◌, Option, length}
use Rattle.honest_server.specs.Link.{IsExchanged, MaySend}
use Rattle.link_traits.specs.Link.{stream}
use Rattle.link_traits.specs.declared.link.Link.{Ghosts}
use Rattle.wire_forms.specs.Packet.{packets, id_after}
use Rattle.my_packets.specs.Skimmed.{Skimmed as SkimmedView}
use Rattle.my_packets.specs.Skims.{Skims}
use Rattle.my_session.specs.Halt.{Misheard, Unsaid}
use Rattle.my_session.specs.Served.{IsSeenBy, LeavesUnsaid}
use Rattle.my_session.specs.Serving.{IsServing, Delivers, DeliversFront, IsUnheard, MaySay, MaySendBy, Replied, way_of}
use Rattle.my_session.specs.Session.{LinkAt, link_at}
use Rattle.my_session.specs.Wire.{Wire, Hears, IsOnward, Sent}
use Rattle.my_session.specs.declared.fault.SessionFault.{SessionFault}
use Rattle.my_session.specs.declared.fault.SessionFault.TheVariants.{Link, Refused, NotProtocol10, PluginUnsupported, TooLong}
use Rattle.my_session.specs.declared.limits.TheConstants.{MESSAGE_LIMIT}

-- a link, how many bytes were heard on it, the sequence id of the next packet, whether it has failed, and the message that was heard last and its place
pub record ChannelView (L : Type 0) : Type 0 where
  pub link : L
  pub place : ℕ
  pub id : ℕ
  pub has_failed : Bool
  pub message : List ℕ
  pub began : ℕ

-- bytes that are to be sent, and the link that is lent meanwhile, where they are sent beside one
pub record Outgoing (L : Type 0) : Type 0 where
  pub bytes : List ℕ
  pub holder : Option L

-- the bytes that are to be sent beside the holder, where one is lent
abbrev pub outgoing : {L : Type 0} → List ℕ → Option L → Outgoing L
outgoing bytes holder = record { bytes = bytes; holder = holder }

-- where a channel's link is
abbrev pub link_of : {L : Type 0} → ChannelView L → LinkAt L
link_of channel = link_at channel.link channel.place channel.id

-- what goes over a link
abbrev pub wire_at : {L : Type 0} → Ghosts L → LinkAt L → Wire
wire_at of here = record {
  sent = (of.told here.link).sent;
  stream = stream (of.told here.link);
  place = here.place;
  id = here.id;
}

-- what goes over a channel
abbrev pub channel_wire : {L : Type 0} → Ghosts L → ChannelView L → Wire
channel_wire of channel = wire_at of (link_of channel)

-- a message was heard, of which a skim kept the front
pub record HearsFront (skim : SkimmedView) (old new : Wire) : Type 0 where
  pub message : List ℕ
  pub heard : Hears message old new
  pub skims : Skims old.id 67108864 (packets old.id message) skim

-- a fault that comes without a whole message
abbrev pub IsOfChannel : SessionFault → Type 0
IsOfChannel (Refused form refusal) = ⊥
IsOfChannel (NotProtocol10 version) = ⊥
IsOfChannel (PluginUnsupported name) = ⊥
IsOfChannel fault = Unit {0}

-- the link's own failure
abbrev pub IsOfLink : SessionFault → Type 0
IsOfLink fault = fault ≡ Link

-- a payload is answered as too long only where it is
abbrev pub IsOverLimit : List ℕ → SessionFault → Type 0
IsOverLimit payload (TooLong size) = MESSAGE_LIMIT < length payload
IsOverLimit payload fault = Unit {0}

-- how many packets are so many bytes, where a message has no others: each but the last has 16,777,219
abbrev pub packets_within : ℕ → ℕ
packets_within bytes = (bytes - 4) / 16777219 + 1

module _ {L : Type 0} (of : Ghosts L) where
  -- where the link tells, this holds of what goes over the channel before and after
  abbrev pub WhereTold : (Wire → Wire → Type 0) → ChannelView L → ChannelView L → Type 0
  WhereTold Holds old new = of.tells old.link → Holds (channel_wire of old) (channel_wire of new)

  -- where the link tells, this holds of a fault and of what goes over the channel before and after
  abbrev pub FaultWhereTold : (Wire → SessionFault → Wire → Type 0) → ChannelView L →
      ChannelView L →
      SessionFault → Type 0
  FaultWhereTold Holds old new fault =
      of.tells old.link → Holds (channel_wire of old) fault (channel_wire of new)

  -- packets may be sent on a link
  pub record MaySendPackets (out : Outgoing L) (link : L) : Type 0 where
    pub may : of.honest link → MaySend (of.served link).state out.bytes
    pub beside : of.honest link → MaySendBy of out.holder link

  -- a payload may be sent on a link in packets from this id on
  pub record MaySayPayload (id : ℕ) (out : Outgoing L) (link : L) : Type 0 where
    pub may : of.honest link → MaySay id out.bytes (of.served link).state
    pub beside : of.honest link → MaySendBy of out.holder link

  -- packets were sent as one message: an honest server has answered them, and what is still to be heard is the same
  pub record SendsPackets (out : Outgoing L) (old new : L) : Type 0 where
    pub alive : of.honest old → (of.served old).failed ≡ false
    pub before : of.honest old → IsSeenBy (way_of of out.holder) (of.served old).state
    pub answered : of.honest old →
        IsExchanged (way_of of out.holder) (of.served old) out.bytes (of.served new)
    pub sent : of.tells old → (of.told new).sent ≡ (of.told old).sent ++ out.bytes ∷ []
    pub stream : of.tells old → stream (of.told new) ≡ stream (of.told old)

  -- packets weren't sent, for one of these reasons
  pub record SendsNone (IsReason : SessionFault → Type 0) (out : Outgoing L) (old new : L)
      (fault : SessionFault) : Type 0 where
    pub kind : IsReason fault
    pub silent : of.tells old → (of.told new).sent ≡ (of.told old).sent
    pub left : of.honest old →
        LeavesUnsaid (way_of of out.holder) out.bytes (of.served old) fault (of.served new)

  -- a payload was sent in packets from this id on, and an honest server's reply waits
  pub record Says (id : ℕ) (out : Outgoing L) (old new : ChannelView L) : Type 0 where
    pub place : new.place ≡ old.place
    pub replied : of.honest old.link →
        Replied of (way_of of out.holder) out.bytes old.link new.link new.id
    pub sent : of.tells old.link → Sent id out.bytes (channel_wire of old) (channel_wire of new)

  -- why a payload wasn't sent in packets from this id on, and that nothing of it was
  pub record SaysNone (id : ℕ) (out : Outgoing L) (old new : ChannelView L)
      (fault : SessionFault) : Type 0 where
    pub kind : IsOfChannel fault
    pub long : IsOverLimit out.bytes fault
    pub unsaid : of.tells old.link →
        Unsaid out.bytes (channel_wire of old) fault (channel_wire of new)
    pub left : of.honest old.link →
        LeavesUnsaid (way_of of out.holder) (packets id out.bytes) (of.served old.link) fault
        (of.served new.link)

  -- the next message was taken off a link, and nothing else
  pub record HearsNext (message : List ℕ) (old new : LinkAt L) : Type 0 where
    pub alive : of.honest old.link → (of.served old.link).failed ≡ false
    pub delivers : IsServing of old.link → Delivers of message old.link old.id new.link new.id
    pub onward : IsOnward old.place new.place
    pub heard : of.tells old.link → Hears message (wire_at of old) (wire_at of new)

  -- the next message was taken off a link, of which a skim kept the front
  pub record SkimsNext (skim : SkimmedView) (old new : LinkAt L) : Type 0 where
    pub delivers : IsServing of old.link → DeliversFront of skim old.link old.id new.link new.id
    pub heard : of.tells old.link → HearsFront skim (wire_at of old) (wire_at of new)

  -- the next message was taken off a link up to this place, and the next packet has the id after its packets
  abbrev pub SkimsTo : SkimmedView → LinkAt L → L → ℕ → Type 0
  SkimsTo skim old link place =
      SkimsNext skim old (link_at link place (id_after (packets_within (place - old.place)) old.id))

  -- a message that waits on the link of an honest server wasn't heard: its state stays
  pub record HearsNothing (old new : LinkAt L) (fault : SessionFault) : Type 0 where
    pub state : (of.served new.link).state ≡ (of.served old.link).state
    pub unheard : (message after : List ℕ) →
        (of.served old.link).waiting ≡ packets old.id message ++ after →
        IsUnheard message old.place fault

  -- why the next message wasn't heard
  pub record HearsNone (old new : LinkAt L) (fault : SessionFault) : Type 0 where
    pub kind : IsOfChannel fault
    pub served : IsServing of old.link → HearsNothing old new fault
    pub misheard : of.tells old.link → Misheard (wire_at of old) fault (wire_at of new)
