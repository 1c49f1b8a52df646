use Rattle.std.proofs.Common.{rules, inr, ◌≡◌, true, arith}
use Rattle.command_words.specs.Numbers.{is_plain_number}
use Rattle.command_words.proofs.Numerals.{too_large}
use Rattle.command_words.proofs.values.number_in.Goals as goal

pub returns-in_default-clause-value : goal.returns-in_default-clause-value
returns-in_default-clause-value c =
    let plain : is_plain_number c.args.text.now ≡ true = search rules in
    inr (too_large c.args.least c.args.most c.args.text.now plain (omega arith) c.in_default.ensures.value.0)
