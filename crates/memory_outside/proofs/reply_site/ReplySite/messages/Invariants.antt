use Rattle.std.proofs.Common.{◌≡◌, drop}
use Rattle.memory_outside.specs.Replies.{messages_of}
use Rattle.memory_outside.proofs.reply_site.ReplySite.messages.Given as goal

abbrev pub invariant-links : goal.invariant-links
invariant-links l = messages_of l.self.returned l.number ≡ messages_of (drop l.link-index l.self.returned) l.number
