use Rattle.std.proofs.Common.{◌∙◌, ap₂}
use Rattle.clap.specs.Words.{with_rule}
use Rattle.command_words.proofs.Commands.{one_more}
use Rattle.command_words.proofs.command.command.Goals as goal

pub loop-option-preserved : goal.loop-option-preserved
loop-option-preserved c =
    c.in_ok-command.ensures.shape c.argument.ensures.local ∙ (ap₂ with_rule c.loop-option.invariant c.argument.ensures.rule
    ∙ one_more _ _ _ _ c.loop-option-test.true)
