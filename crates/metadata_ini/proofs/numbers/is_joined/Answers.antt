use Rattle.std.proofs.Common.{rules}
use Rattle.metadata_ini.proofs.NumberTexts.{other_front, other_back}
use Rattle.metadata_ini.proofs.numbers.is_joined.Goals as goal

pub returns-then-ne-clause-no : goal.returns-then-ne-clause-no
returns-then-ne-clause-no c same is = other_front c.args.text.now c.args.front.now c.args.back.now c.split_at.result.0.now (search rules) (search rules) is

pub returns-clause-no : goal.returns-clause-no
returns-clause-no c same is = other_back c.args.text.now c.args.front.now c.args.back.now c.split_at.result.1.now (search rules) (search rules) is
