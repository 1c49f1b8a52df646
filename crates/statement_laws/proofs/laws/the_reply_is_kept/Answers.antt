use Rattle.statement_laws.proofs.Replies.{replies_kept}
use Rattle.statement_laws.proofs.laws.the_reply_is_kept.Goals as goal

pub returns : goal.returns
returns c = replies_kept
