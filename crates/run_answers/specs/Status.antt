-- Exit statuses.
use Rattle.std.specs.Prelude.{ℕ, Bool, true, false, ◌==◌, if◌then◌else◌}
use Rattle.run_answers.specs.declared.answer.Answer.{Answer}
use Rattle.run_answers.specs.declared.answer.Answer.TheVariants.{Dumped, Loaded, Failed}
use Rattle.run_answers.specs.declared.fault.RunFault.{RunFault}
use Rattle.run_answers.specs.declared.fault.RunFault.TheVariants.{CommandLine, Outside, Refused, Protocol, Limit, Name, Object, Folder, Target, OutOfMemory}

-- 2 for the command line, 3 for an ERR of the server, 4 for a fault of the outside, 5 for want of memory, and else 1
abbrev pub fault_status : RunFault → ℕ
fault_status (CommandLine fault) = 2
fault_status (Outside fault) = 4
fault_status (Refused form refusal) = 3
fault_status (Protocol fault) = 1
fault_status (Limit fault) = 1
fault_status (Name fault) = 1
fault_status (Object fault) = 1
fault_status (Folder fault) = 1
fault_status (Target fault) = 1
fault_status OutOfMemory = 5

-- 0 for a run that came to its end, and else that of its fault
abbrev pub answer_status : Answer → ℕ
answer_status (Dumped tables rows files) = 0
answer_status (Loaded loaded before) = 0
answer_status (Failed fault) = fault_status fault

-- 4 where the report of a run that came to its end wasn't written
abbrev pub status_unreported : ℕ → ℕ
status_unreported status = if status == 0 then 4 else status

-- the status of a run whose report was written, or wasn't
abbrev pub status_after_report : Answer → Bool → ℕ
status_after_report answer true = answer_status answer
status_after_report answer false = status_unreported (answer_status answer)
