use Rattle.std.proofs.Common.{length, drop, ◌∙◌, ap, arith, length-drop}
use Rattle.object_forms.specs.Token.{Lexeme}
use Rattle.sql_tokens.specs.Reading.{token_of}
use Rattle.sql_tokens.proofs.Tokens.{first-read}
use Rattle.sql_tokens.proofs.token.next_token.Goals as goal

pub returns-clause-first : goal.returns-clause-first
returns-clause-first c =
    let first = first-read c.args.text.now c.in_ok-first.first.size (token_of c.in_ok-first.first.token) c.in_ok-first.ensures.0 c.in_ok-first.ensures.1 in
    rw c.split_at.ensures.back first.tokens

pub returns-clause-shorter : goal.returns-clause-shorter
returns-clause-shorter c =
    let first = first-read c.args.text.now c.in_ok-first.first.size (token_of c.in_ok-first.first.token) c.in_ok-first.ensures.0 c.in_ok-first.ensures.1 in
    omega (arith, first.some, first.within, ap length c.split_at.ensures.back, length-drop c.in_ok-first.first.size c.args.text.now)

pub split_at-requires : goal.split_at-requires
split_at-requires c = (first-read c.args.text.now c.in_ok-first.first.size (token_of c.in_ok-first.first.token) c.in_ok-first.ensures.0 c.in_ok-first.ensures.1).within

pub returns-clause-after : goal.returns-clause-after
returns-clause-after c = c.split_at.ensures.back ∙ ap (λ (found : Lexeme). drop found.size c.args.text.now) c.in_ok-first.ensures.1
