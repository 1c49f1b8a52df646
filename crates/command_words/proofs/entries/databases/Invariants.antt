use Rattle.std.proofs.Common.{◌≡◌, drop}
use Rattle.command_words.specs.Meant.{each}
use Rattle.command_words.specs.Entries.{database_of}
use Rattle.command_words.proofs.Each.{onto}
use Rattle.command_words.proofs.entries.databases.Given as goal

abbrev pub invariant-loop-entry : goal.invariant-loop-entry
invariant-loop-entry l = each (λ entry. database_of entry.now) l.entry-items
    ≡ onto l.names (each (λ entry. database_of entry.now) (drop l.entry-index l.entry-items))
