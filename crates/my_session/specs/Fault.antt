-- A channel's faults, as its session answers them.
use Rattle.std.specs.Prelude.{Result, Ok, Err}
use Rattle.my_session.specs.declared.fault.ChannelFault.{ChannelFault}
use Rattle.my_session.specs.declared.fault.ChannelFault.TheVariants.{Link as ChannelLink, Garbled as ChannelGarbled, TooLong as ChannelTooLong, StreamTooLong as ChannelStreamTooLong, OutOfMemory as ChannelOutOfMemory}
use Rattle.my_session.specs.declared.fault.SessionFault.{SessionFault}
use Rattle.my_session.specs.declared.fault.SessionFault.TheVariants.{Link, Garbled, TooLong, StreamTooLong, OutOfMemory}

-- the fault of the same name
abbrev pub session_fault : ChannelFault → SessionFault
session_fault ChannelLink = Link
session_fault (ChannelGarbled place) = Garbled place
session_fault (ChannelTooLong size) = TooLong size
session_fault ChannelStreamTooLong = StreamTooLong
session_fault ChannelOutOfMemory = OutOfMemory

-- a channel's result, with the fault of the same name
abbrev pub session_result : {A : Type 0} → Result A ChannelFault → Result A SessionFault
session_result (Ok answer) = Ok answer
session_result (Err fault) = Err (session_fault fault)
