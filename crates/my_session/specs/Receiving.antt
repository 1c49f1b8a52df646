-- How the bytes of a message are taken off a link.
use Rattle.std.specs.Prelude.{ℕ, ◌≡◌, ◌<◌, ◌≤◌, ◌+◌, ◌^◌, ◌↔◌, ◌≢◌, false, List, [], ◌++◌, length, None}
use Rattle.link_traits.specs.Link.{stream}
use Rattle.link_traits.specs.declared.link.Link.{Ghosts}
use Rattle.my_packets.specs.Begins.{IsWrong}
use Rattle.my_packets.specs.Front.{HasMessage, HasWrongId, IsTooLong}
use Rattle.my_packets.specs.Skimmed.{Skimmed}
use Rattle.my_packets.specs.Skims.{Skims, fault_of}
use Rattle.my_packets.specs.Unread.{Unread}
use Rattle.my_packets.specs.declared.frames.FrameFault.{FrameFault}
use Rattle.my_packets.specs.declared.frames.FrameFault.TheVariants.{BadSequence, TooLong as FrameTooLong}
use Rattle.my_session.specs.Serving.{IsServing, Stays, Gives}
use Rattle.my_session.specs.Session.{LinkAt}
use Rattle.my_session.specs.declared.fault.SessionFault.{SessionFault}
use Rattle.my_session.specs.declared.fault.SessionFault.TheVariants.{Link, Refused, Garbled, NotProtocol10, PluginUnsupported, TooLong, StreamTooLong, OutOfMemory}

-- a link, what was taken off it and is unread, and how many bytes were taken off it in all
pub record Reader (L : Type 0) : Type 0 where
  pub link : L
  pub frames : Unread
  pub taken : ℕ

-- the reader of these
abbrev pub reader_at : {L : Type 0} → L → Unread → ℕ → Reader L
reader_at link frames taken = record { link = link; frames = frames; taken = taken }

-- a link, a skim of what was taken off it, and how many bytes were taken off it in all
pub record Skimmer (L : Type 0) : Type 0 where
  pub link : L
  pub skim : Skimmed
  pub taken : ℕ

-- the skimmer of these
abbrev pub skimmer_at : {L : Type 0} → L → Skimmed → ℕ → Skimmer L
skimmer_at link skim taken = record { link = link; skim = skim; taken = taken }

-- what holds between messages: the longest message, and no more bytes were read than taken, nor taken than a session hears
pub record IsReader (frames : Unread) (taken : ℕ) : Type 0 where
  pub limit : frames.limit ≡ 67108864
  pub place : frames.place ≤ taken
  pub within : taken ≤ 2 ^ 62

-- no fewer bytes were taken than before, and no more than a session hears
pub record IsStillWithin (old new : ℕ) : Type 0 where
  pub later : old ≤ new
  pub within : new ≤ 2 ^ 62

-- bytes can be taken off a link: no more were than a session hears, and at an honest server some wait
pub record MayTake {L : Type 0} (of : Ghosts L) (link : L) (taken : ℕ) : Type 0 where
  pub within : taken ≤ 2 ^ 62
  pub waits : IsServing of link → (of.served link).waiting ≢ []

-- nothing was sent, and an honest server's state stays
pub record SaysNothing {L : Type 0} (of : Ghosts L) (old new : L) : Type 0 where
  pub sent : of.tells old → (of.told new).sent ≡ (of.told old).sent
  pub state : of.honest old → (of.served new).state ≡ (of.served old).state

-- what stays of a reader, whether bytes come or not
pub record StaysReader {L : Type 0} (of : Ghosts L) (old new : Reader L) : Type 0 where
  pub still : IsStillWithin old.taken new.taken
  pub place : new.frames.place ≡ old.frames.place
  pub limit : new.frames.limit ≡ old.frames.limit
  pub same : SaysNothing of old.link new.link

-- some bytes of a message were taken off a link, no more than are wanted
pub record Fetches {L : Type 0} (of : Ghosts L) (wants : ℕ) (old new : Reader L) : Type 0 where
  pub piece : List ℕ
  pub some : 0 < length piece
  pub fits : length piece ≤ wants
  pub frames : new.frames
      ≡ record old.frames {
        message = [];
        bytes = old.frames.bytes ++ piece;
        room = new.frames.room;
      }
  pub taken : new.taken ≡ old.taken + length piece
  pub stream : of.tells old.link → stream (of.told old.link) ≡ piece ++ stream (of.told new.link)
  pub was_alive : of.honest old.link → (of.served old.link).failed ≡ false
  pub gives : of.honest old.link → Gives of piece old.link new.link

-- why none were
abbrev pub Unfetched : ℕ → SessionFault → Type 0
Unfetched taken Link = Unit {0}
Unfetched taken (Refused form refusal) = ⊥
Unfetched taken (Garbled place) = ⊥
Unfetched taken (NotProtocol10 version) = ⊥
Unfetched taken (PluginUnsupported name) = ⊥
Unfetched taken (TooLong size) = ⊥
Unfetched taken StreamTooLong = taken ≡ 2 ^ 62
Unfetched taken OutOfMemory = Unit {0}

-- a packet of the bytes has another sequence id than it should have, and their message began at this place
pub record IsDisordered (frames : Unread) (place began : ℕ) : Type 0 where
  pub place_is : place ≡ began
  pub found : ℕ
  pub wanted : ℕ
  pub wrong : HasWrongId frames.limit frames.id found wanted frames.bytes

-- why the bytes hold no message that can be taken for one
abbrev pub Unsettled : Unread → ℕ → SessionFault → Type 0
Unsettled frames began Link = ⊥
Unsettled frames began (Refused form refusal) = ⊥
Unsettled frames began (Garbled place) = IsDisordered frames place began
Unsettled frames began (NotProtocol10 version) = ⊥
Unsettled frames began (PluginUnsupported name) = ⊥
Unsettled frames began (TooLong size) = IsTooLong frames.limit frames.id size frames.bytes
Unsettled frames began StreamTooLong = ⊥
Unsettled frames began OutOfMemory = ⊥

-- the bytes hold no message, or a message and nothing after it
pub record HoldsAtMostOne (limit id : ℕ) (bytes : List ℕ) : Type 0 where
  pub ends : (message after : List ℕ) → HasMessage limit id message bytes after → after ≡ []

-- the bytes of a reader are those that were taken off a link since then
pub record HoldsTaken {L : Type 0} (of : Ghosts L) (old new : Reader L) : Type 0 where
  pub tells : of.tells old.link ↔ of.tells new.link
  pub later : of.faults old.link ≤ of.faults new.link
  pub id : new.frames.id ≡ old.frames.id
  pub place : new.frames.place ≡ old.frames.place
  pub limit : new.frames.limit ≡ old.frames.limit
  pub taken : new.taken ≡ old.taken + length new.frames.bytes
  pub exact : HoldsAtMostOne old.frames.limit old.frames.id new.frames.bytes
  pub sent : of.tells old.link → (of.told new.link).sent ≡ (of.told old.link).sent
  pub stream : of.tells old.link →
      new.frames.bytes ++ stream (of.told new.link) ≡ stream (of.told old.link)
  pub stays : Stays of old.link new.link
  pub was_alive : 0 < length new.frames.bytes → of.honest old.link →
      (of.served old.link).failed ≡ false
  pub gives : IsServing of old.link → Gives of new.frames.bytes old.link new.link

-- some bytes of a message were taken off a link, which a skim read
pub record SkimsPiece {L : Type 0} (of : Ghosts L) (old new : Skimmer L) : Type 0 where
  pub piece : List ℕ
  pub some : 0 < length piece
  pub follows : (seq limit : ℕ) (fed : List ℕ) → Skims seq limit fed old.skim →
      Skims seq limit (fed ++ piece) new.skim
  pub right : fault_of new.skim ≡ None
  pub taken : new.taken ≡ old.taken + length piece
  pub stream : of.tells old.link → stream (of.told old.link) ≡ piece ++ stream (of.told new.link)
  pub gives : of.honest old.link → Gives of piece old.link new.link

-- with some bytes that were taken off the link a packet is wrong
pub record Spoils {L : Type 0} (of : Ghosts L) (old : Skimmer L) (new : L)
    (fault : FrameFault) : Type 0 where
  pub piece : List ℕ
  pub within : old.taken + length piece ≤ 2 ^ 62
  pub wrong : (seq limit : ℕ) (fed : List ℕ) → Skims seq limit fed old.skim →
      IsWrong limit seq (fed ++ piece) fault
  pub stream : of.tells old.link → stream (of.told old.link) ≡ piece ++ stream (of.told new)
  pub gives : of.honest old.link → Gives of piece old.link new

-- with them a packet has another sequence id than it should have, and its message began at this place
pub record Disorders {L : Type 0} (of : Ghosts L) (old : Skimmer L) (new : L)
    (place began : ℕ) : Type 0 where
  pub place_is : place ≡ began
  pub found : ℕ
  pub wanted : ℕ
  pub spoils : Spoils of old new (BadSequence found wanted)

-- why a skim read none
abbrev pub Unskimmed : {L : Type 0} → Ghosts L → Skimmer L → L → ℕ → SessionFault → Type 0
Unskimmed of old new began Link = Unit {0}
Unskimmed of old new began (Refused form refusal) = ⊥
Unskimmed of old new began (Garbled place) = Disorders of old new place began
Unskimmed of old new began (NotProtocol10 version) = ⊥
Unskimmed of old new began (PluginUnsupported name) = ⊥
Unskimmed of old new began (TooLong size) = Spoils of old new (FrameTooLong size)
Unskimmed of old new began StreamTooLong = old.taken ≡ 2 ^ 62
Unskimmed of old new began OutOfMemory = ⊥

-- the bytes that a skim was fed are those that were taken off a link since then
pub record Drains {L : Type 0} (of : Ghosts L) (old : LinkAt L) (new : Skimmer L) : Type 0 where
  pub tells : of.tells old.link ↔ of.tells new.link
  pub later : of.faults old.link ≤ of.faults new.link
  pub fed : List ℕ
  pub skims : Skims old.id 67108864 fed new.skim
  pub right : fault_of new.skim ≡ None
  pub taken : new.taken ≡ old.place + length fed
  pub sent : of.tells old.link → (of.told new.link).sent ≡ (of.told old.link).sent
  pub stream : of.tells old.link → fed ++ stream (of.told new.link) ≡ stream (of.told old.link)
  pub stays : Stays of old.link new.link
  pub gives : IsServing of old.link → Gives of fed old.link new.link
