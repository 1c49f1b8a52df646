use Rattle.std.proofs.Common.{◌∙◌, ap, ap₂, sym, map, subst, List, ℕ}
use Rattle.std.specs.Prelude.{Result}
use Rattle.std.specs.Borrow.{Bor}
use Rattle.clap.specs.Words.{Row}
use Rattle.command_words.specs.Meant.{FailsAsMeant}
use Rattle.command_words.specs.Dump.{dump_command, dump_of_rows, dump_of_words}
use Rattle.command_words.specs.Matches.{matched}
use Rattle.command_words.specs.declared.fault.WordsFault.{WordsFault}
use Rattle.command_words.proofs.Commands.{dump_command_made}
use Rattle.command_words.proofs.Stages.{first_fails, handed_on, second_answers}
use Rattle.command_words.proofs.dump.read_dump_words.Goals as goal

abbrev texts_of : List (Bor (List ℕ)) → List (List ℕ)
texts_of = map (λ (word : Bor (List ℕ)). word.now)

pub returns-in_err-found-clause-meaning : goal.returns-in_err-found-clause-meaning
unfolding dump_of_words
returns-in_err-found-clause-meaning c =
    let same = ap₂ matched (dump_command_made c.as_slice.result.now c.dump_options-options.result c.as_slice.ensures c.dump_options-options.ensures) (ap texts_of c.as_slice-2.ensures.value ∙ c.in_ok-texts.ensures) in
    handed_on _ _ _ c.from_residual-in_err-found.ensures.1
    (first_fails (matched dump_command c.args.words.now) dump_of_rows _ (subst (λ (r : Result (List Row) WordsFault). FailsAsMeant r c.in_err-found.field-0.0) same c.in_err-found.ensures))

pub returns-clause-meaning : goal.returns-clause-meaning
unfolding dump_of_words
returns-clause-meaning c =
    let same = ap₂ matched (dump_command_made c.as_slice.result.now c.dump_options-options.result c.as_slice.ensures c.dump_options-options.ensures) (ap texts_of c.as_slice-2.ensures.value ∙ c.in_ok-texts.ensures) in
    second_answers (matched dump_command c.args.words.now) dump_of_rows _ c.dump_words.result (sym same ∙ c.in_ok-found.ensures) c.dump_words.ensures.meaning
