-- The text COMMIT is read as the command, and as nothing else.
use Rattle.std.proofs.Common.{◌≡◌, ◌<◌, ℕ, List, refl, ap, sym, arith, ◌⊎◌, inl, inr, codes, subst}
use Rattle.object_forms.specs.Head.{HasHead}
use Rattle.object_forms.specs.Token.{tokens}
use Rattle.statement_forms.specs.Statement.{CommandHasText, IsReadAs, IsTextOf, command_row, list_row}
use Rattle.statement_forms.specs.Text.{command_text}
use Rattle.statement_forms.specs.declared.command.Command.{Command}
use Rattle.statement_forms.specs.declared.command.Command.TheVariants.{Commit, Rollback, Use, Create, CreateProgress, CreateProgressFiles, CreateProgressDump, Insert, InsertProgressFile, InsertProgressDump}
use Rattle.statement_forms.specs.declared.statement.Statement.{Statement}
use Rattle.statement_forms.specs.declared.statement.Statement.TheVariants.{Command as SomeCommand, Query as SomeQuery}
use Rattle.honest_examples.proofs.Texts.{first, insert_first, no_query, third}

abbrev text : List ℕ
text = codes "COMMIT"

pub no_head : HasHead text → ⊥
unfolding HasHead tokens
no_head head = cc (head.1)

of_command : (command : Command) → CommandHasText command → text ≡ command_text command → (command_row command < 17) ⊎ (SomeCommand command ≡ SomeCommand Commit)
unfolding command_text first third
of_command Commit has is = inr refl
of_command Rollback has is = absurd (omega (arith, ap first is))
of_command (Use schema) has is = absurd (omega (arith, ap first is))
of_command (Create other) has is = absurd (no_head (subst HasHead (sym is) has))
of_command CreateProgress has is = absurd (omega (arith, ap third is))
of_command CreateProgressFiles has is = absurd (omega (arith, ap third is))
of_command CreateProgressDump has is = absurd (omega (arith, ap third is))
of_command (Insert other) has is = absurd (omega (arith, ap first is, insert_first other has))
of_command (InsertProgressFile name) has is = absurd (omega (arith, ap first is))
of_command (InsertProgressDump digest) has is = absurd (omega (arith, ap first is))
of_command command has is = inl (omega arith)

pub latest : (other : Statement) → IsTextOf other text → (list_row other < 17) ⊎ (other ≡ SomeCommand Commit)
unfolding third
latest (SomeCommand command) is = of_command command is.0 is.1
latest (SomeQuery query) is = absurd (no_query text query is.2 refl)

pub read : IsReadAs text (SomeCommand Commit)
unfolding command_text
read = record { text_of = (tt, refl); latest = latest }
