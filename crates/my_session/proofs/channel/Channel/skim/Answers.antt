use Rattle.std.proofs.Common.{sym}
use Rattle.my_session.specs.Fault.{session_fault}
use Rattle.my_session.proofs.Answering.{channel_ends}
use Rattle.my_session.proofs.channel.Channel.skim.Goals as goal

pub returns-in-Err-clause-failed : goal.returns-in-Err-clause-failed
returns-in-Err-clause-failed g c = sym (channel_ends (session_fault c.in-Err.fault) (c.in-Err.ensures.err c.self.inside.id).kind)

pub returns-in-Err-clause-err : goal.returns-in-Err-clause-err
returns-in-Err-clause-err g c = rw (← c.self.view_is) (c.in-Err.ensures.err c.self.inside.id)
