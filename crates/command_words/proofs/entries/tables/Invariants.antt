use Rattle.std.proofs.Common.{◌≡◌, drop}
use Rattle.command_words.specs.Meant.{each}
use Rattle.command_words.specs.Entries.{need_of}
use Rattle.command_words.proofs.Each.{onto}
use Rattle.command_words.proofs.entries.tables.Given as goal

abbrev pub invariant-loop-entry : goal.invariant-loop-entry
invariant-loop-entry l = each (λ entry. need_of l.databases entry.now) l.entry-items
    ≡ onto l.needs (each (λ entry. need_of l.databases entry.now) (drop l.entry-index l.entry-items))
