use Rattle.std.proofs.Common.{◌≡◌, length}
use Rattle.object_forms.specs.Head.{kind_in}
use Rattle.sql_tokens.specs.Left.{IsLeft}
use Rattle.object_forms.specs.Token.{tokens}
use Rattle.object_texts.proofs.head.kind_in.Given as goal

abbrev pub invariant-tokens : goal.invariant-tokens
invariant-tokens l = record { left : IsLeft l.text l.rest; kind : kind_in (tokens l.rest) ≡ kind_in (tokens l.text) }

abbrev pub decreases-tokens : goal.decreases-tokens
decreases-tokens l = length l.rest
