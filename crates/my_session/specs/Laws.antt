-- What follows from the definitions of what a session hears.
use Rattle.std.specs.Prelude.{ℕ, ◌≡◌, List}
use Rattle.my_packets.specs.Front.{IsTooLong}
use Rattle.my_session.specs.Halt.{OutOfOrder, IsFull}
use Rattle.my_session.specs.Wire.{Wire, Hears, within}
use Rattle.my_session.specs.declared.limits.TheConstants.{MESSAGE_LIMIT, SESSION_LIMIT, SHORT_PAYLOAD, PIECE}

-- of a message, a packet out of order, one past the limit, and 2^62 bytes before its end, no two come next; the message and the length are one each
pub record HasOneNext (wire : Wire) : Type 0 where
  pub one_message : (message other : List ℕ) (new also : Wire) → Hears message wire new →
      Hears other wire also → (message ≡ other) × (new ≡ also)
  pub message_in_order : (message : List ℕ) (new : Wire) → Hears message wire new →
      ¬ OutOfOrder wire
  pub message_is_short : (message : List ℕ) (new : Wire) (size : ℕ) → Hears message wire new →
      ¬ IsTooLong MESSAGE_LIMIT wire.id size (within wire)
  pub message_ends : (message : List ℕ) (new : Wire) → Hears message wire new → ¬ IsFull wire
  pub disorder_is_not_long : (size : ℕ) → OutOfOrder wire →
      ¬ IsTooLong MESSAGE_LIMIT wire.id size (within wire)
  pub disorder_ends : OutOfOrder wire → ¬ IsFull wire
  pub long_ends : (size : ℕ) → IsTooLong MESSAGE_LIMIT wire.id size (within wire) → ¬ IsFull wire
  pub one_size : (size other : ℕ) → IsTooLong MESSAGE_LIMIT wire.id size (within wire) →
      IsTooLong MESSAGE_LIMIT wire.id other (within wire) → size ≡ other

-- what comes next on a wire is one thing
abbrev pub WhatComesNextIsOneThing : Type 0
WhatComesNextIsOneThing = (wire : Wire) → HasOneNext wire

-- the limits of a session, written out: messages of 64 MiB, 2^62 bytes in all, COM_QUERY with 1,000 bytes of text, 1 KiB at once
pub record LimitsAreThese : Type 0 where
  pub message : MESSAGE_LIMIT ≡ 67108864
  pub session : SESSION_LIMIT ≡ 4611686018427387904
  pub short_payload : SHORT_PAYLOAD ≡ 1001
  pub piece : PIECE ≡ 1024
