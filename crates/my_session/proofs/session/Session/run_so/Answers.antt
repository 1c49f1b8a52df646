use Rattle.my_session.proofs.session.Session.run_so.Goals as goal

pub returns-in-Err-clause-runs : goal.returns-in-Err-clause-runs
returns-in-Err-clause-runs g c = rw (← c.self.view_is) c.in-Err.ensures.runs
