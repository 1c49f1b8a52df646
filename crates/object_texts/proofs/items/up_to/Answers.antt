use Rattle.std.proofs.Common.{sym, subst, arith}
use Rattle.sql_tokens.specs.Reading.{token_of}
use Rattle.object_forms.specs.Shape.{up_to}
use Rattle.sql_tokens.specs.Left.{IsLeft}
use Rattle.object_forms.specs.Token.{tokens}
use Rattle.sql_tokens.proofs.Cuts.{left-all, left-next}
use Rattle.object_texts.proofs.Parts.{cut-next, cut-none, depth_after-le}
use Rattle.object_texts.proofs.items.up_to.Goals as goal

pub tokens-init : goal.tokens-init
tokens-init c = record { left = left-all c.args.text.now; deep = omega arith; cut = cut-none c.args.text.now (up_to c.args.byte 0 (tokens c.args.text.now)) }

pub tokens-preserved : goal.tokens-preserved
tokens-preserved c =
    let later : IsLeft c.args.text.now c.in-Some.after.now = subst (IsLeft c.args.text.now) (sym c.in-Some.ensures.after) (left-next c.args.text.now c.tokens.rest.now c.tokens.invariant.left) in
    let deeper = depth_after-le (token_of c.in-Some.token) c.tokens.depth in
    record {
      left = later;
      deep = omega (arith, c.in-Some.ensures.shorter);
      cut = rw c.depth_after-depth.ensures (cut-next c.args.byte c.tokens.depth c.args.text.now c.tokens.rest.now c.in-Some.after.now (token_of c.in-Some.token) c.tokens.invariant.left later c.in-Some.ensures.first (sym c.if-ends.ensures) c.tokens.invariant.cut);
    }
