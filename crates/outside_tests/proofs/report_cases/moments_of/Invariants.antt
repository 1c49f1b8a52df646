use Rattle.std.proofs.Common.{◌<◌, All}
use Rattle.outside_tests.proofs.report_cases.moments_of.Given as goal

abbrev pub invariant-loop-word : goal.invariant-loop-word
invariant-loop-word l = All (λ moment. moment < 253370764800) l.moments
