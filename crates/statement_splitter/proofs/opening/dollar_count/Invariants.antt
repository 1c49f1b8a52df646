use Rattle.std.proofs.Common.{◌≡◌, ◌+◌, drop}
use Rattle.std.specs.List.{prefix_len}
use Rattle.splitter_forms.specs.Pieces.{is_dollar}
use Rattle.statement_splitter.proofs.opening.dollar_count.Given as goal

abbrev pub invariant-loop-i : goal.invariant-loop-i
invariant-loop-i l = prefix_len is_dollar l.bytes ≡ l.i + prefix_len is_dollar (drop l.i l.bytes)
