use Rattle.sql_literals.proofs.Grammar.{number_holds, number_passes}
use Rattle.sql_literals.proofs.laws.numbers_are_of_the_grammar.Goals as goal

pub returns : goal.returns
returns c = λ bytes. (number_holds bytes, number_passes bytes)
