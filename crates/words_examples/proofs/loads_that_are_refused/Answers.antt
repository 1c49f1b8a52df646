use Rattle.std.proofs.Common.{refl}
use Rattle.clap.proofs.OnLiterals.{clap_on_literals}
use Rattle.command_words.specs.Load.{load_command, load_of_words}
use Rattle.command_words.specs.Matches.{matched}
use Rattle.words_examples.proofs.loads_that_are_refused.Goals as goal

pub returns : goal.returns
unfolding clap_on_literals matched load_command load_of_words
returns c = record {
  no_folder = refl;
  other_program = refl;
  no_source = refl;
  no_name = refl;
  no_name_first = refl;
}
