use Rattle.std.proofs.Common.{◌≡◌, ◌+◌, ◌-◌, ◌≤◌, length, take}
use Rattle.object_forms.specs.Shape.{up_to}
use Rattle.sql_tokens.specs.Left.{IsLeft}
use Rattle.object_forms.specs.Token.{tokens}
use Rattle.object_texts.proofs.Parts.{onto_all}
use Rattle.object_texts.proofs.items.up_to.Given as goal

abbrev pub invariant-tokens : goal.invariant-tokens
invariant-tokens l = record {
  left : IsLeft l.text l.rest;
  deep : l.depth + length l.rest ≤ length l.text;
  cut : up_to l.byte 0 (tokens l.text) ≡ onto_all (tokens (take (length l.text - length l.rest) l.text)) (up_to l.byte l.depth (tokens l.rest));
}

abbrev pub decreases-tokens : goal.decreases-tokens
decreases-tokens l = length l.rest
