use Rattle.std.proofs.Common.{◌+◌, ◌*◌, length}
use Rattle.server_model.proofs.Matching.{Known}
use Rattle.server_model.proofs.pattern.pattern_matches.Given as goal

abbrev pub invariant-bytes : goal.invariant-bytes
invariant-bytes l = Known l.pattern l.text l.left l.rest l.again l.from

-- what is left of the pattern after the last star, then of the text after it, and then of the pattern
abbrev pub decreases-bytes : goal.decreases-bytes
decreases-bytes l = (length l.again * (length l.text + 1) + length l.from) * (length l.pattern + 1) + length l.left
