use Rattle.std.proofs.Common.{rules}
use Rattle.snapshot_handover.proofs.Statuses.{no_text, no_decimal, other_decimal}
use Rattle.snapshot_handover.proofs.status.read_decimal.Goals as goal

pub returns-in_default : goal.returns-in_default
returns-in_default c = no_text c.args.text.now c.in_default.ensures.cases.0

pub returns-in_default-from_str_radix : goal.returns-in_default-from_str_radix
returns-in_default-from_str_radix c = search (rules, no_decimal)

pub returns-else-is_decimal : goal.returns-else-is_decimal
returns-else-is_decimal c = search (rules, other_decimal)
