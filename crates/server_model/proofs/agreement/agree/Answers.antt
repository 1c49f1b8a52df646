use Rattle.server_model.proofs.Agreements.{agreed}
use Rattle.server_model.proofs.agreement.agree.Goals as goal

pub returns : goal.returns
returns c = agreed c.args.one.now c.args.other.now c.agrees.result c.agrees.ensures
