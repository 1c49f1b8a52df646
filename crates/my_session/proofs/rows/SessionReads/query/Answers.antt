use Rattle.my_session.proofs.rows.SessionReads.query.Goals as goal

pub returns-in-Err-clause-asks : goal.returns-in-Err-clause-asks
returns-in-Err-clause-asks g c = rw (← c.self.view_is) c.in-Err.ensures.asks

pub returns-in-Err-clause-served : goal.returns-in-Err-clause-served
returns-in-Err-clause-served g c = rw (← c.self.view_is) c.in-Err.ensures.served
