-- How far a dump is, from its start on.
use Rattle.std.specs.Prelude.{ℕ, ◌≡◌, ◌≤◌, List}
use Rattle.link_traits.specs.Cause.{Rose}
use Rattle.link_traits.specs.declared.link.Link.{Ghosts}
use Rattle.my_session.specs.Session.{SessionView, wire_of}
use Rattle.my_session.specs.Wire.{Wire}
use Rattle.my_session.specs.declared.fault.SessionFault.{SessionFault}
use Rattle.my_session.specs.declared.fault.SessionFault.TheVariants.{Link, OutOfMemory}
use Rattle.dumper_cli.specs.Course.{Comes, EndsWith}
use Rattle.dumper_cli.specs.Stage.{Stage}
use Rattle.dumper_cli.specs.Words.{Asked}

-- a link at a run's start: what goes over it, and how often it has failed
pub record Start : Type 0 where
  pub wire : Wire
  pub faults : ℕ

-- these messages were sent when the dump came to some stage
pub record SaidFront (asked : Asked) (start : Wire) (sent : List (List ℕ)) : Type 0 where
  pub stage : Stage
  pub wire : Wire
  pub comes : Comes asked start stage wire
  pub sent_is : sent ≡ wire.sent

module _ {L : Type 0} (of : Ghosts L) (asked : Asked) where
  -- since the start the dump has come to this stage
  pub record Reached (stage : Stage) (start : Start) (now : SessionView L) : Type 0 where
    pub later : start.faults ≤ of.faults now.link
    pub comes : of.tells now.link → Comes asked start.wire stage (wire_of of now)

  -- why a run stopped
  abbrev pub StoppedBy : Start → L → SessionFault → Type 0
  StoppedBy start now Link = Rose start.faults (of.faults now)
  StoppedBy start now OutOfMemory = Unit {0}
  StoppedBy start now fault = of.tells now → EndsWith asked start.wire fault

  -- a run that stopped
  pub record Halted (start : Start) (now : L) (fault : SessionFault) : Type 0 where
    pub later : start.faults ≤ of.faults now
    pub front : of.tells now → SaidFront asked start.wire (of.told now).sent
    pub why : StoppedBy start now fault
