-- the strings that are left begin the bytes that are left
use Rattle.std.proofs.Common.{◌≡◌, ◌-◌}
use Rattle.wire_forms.specs.Definition.{after_strings}
use Rattle.result_rows.proofs.fields.after_strings.Given as goal

abbrev pub invariant-loop : goal.invariant-loop
invariant-loop l = after_strings (l.count - l.counter) l.rest ≡ after_strings l.fn.count l.fn.bytes
