use Rattle.std.proofs.Common.{ℕ, ◌<◌, ◌≤◌, get_or}
use Rattle.statement_splitter.specs.State.{IsPlain}
use Rattle.splitter_forms.specs.declared.within.Within.TheVariants.{Text}
use Rattle.statement_splitter.proofs.runs.text_until.Given as goal

abbrev pub invariant-loop-i : goal.invariant-loop-i
invariant-loop-i l = (k : ℕ) → l.from ≤ k → k < l.i → IsPlain Text (get_or l.bytes k 0)
