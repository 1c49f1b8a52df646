use Rattle.std.proofs.Common.{rules}
use Rattle.metadata_ini.proofs.NumberTexts.{not_utf8, not_parsed, other_number}
use Rattle.metadata_ini.proofs.numbers.read_file_number.Goals as goal

pub returns-in_default : goal.returns-in_default
returns-in_default c = not_utf8 c.args.text.now c.in_default.ensures.cases.0

pub returns-in_default-from_str_radix : goal.returns-in_default-from_str_radix
returns-in_default-from_str_radix c = search (rules, not_parsed)

pub returns-else-is_file_number : goal.returns-else-is_file_number
returns-else-is_file_number c = search (rules, other_number)
