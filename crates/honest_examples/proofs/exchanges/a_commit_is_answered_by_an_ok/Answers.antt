use Rattle.honest_examples.proofs.Exchanging.{commits}
use Rattle.honest_examples.proofs.exchanges.a_commit_is_answered_by_an_ok.Goals as goal

pub returns : goal.returns
returns c = commits
