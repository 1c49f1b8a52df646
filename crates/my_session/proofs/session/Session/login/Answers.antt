use Rattle.my_session.proofs.LoggingIn.{login_stopped}
use Rattle.my_session.proofs.session.Session.login.Goals as goal

pub returns-in-Err-clause-logs_in : goal.returns-in-Err-clause-logs_in
returns-in-Err-clause-logs_in g c = login_stopped g.L.Link c.args.user.now c.args.password.now c.args.link c.into_link.result c.in-Err.fault c.log_in.new.channel c.into_link.ensures c.new-channel.result c.new-channel.ensures c.in-Err.ensures.keeps.tells c.in-Err.ensures.keeps.counted c.in-Err.ensures.err
