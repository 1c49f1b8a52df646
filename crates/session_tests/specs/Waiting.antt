-- What is pending on a session.
use Rattle.std.specs.Prelude.{◌≡◌, ◌<◌, Bool, true, false}
use Rattle.wire_forms.specs.Reading.{Reading, idle}
use Rattle.wire_forms.specs.declared.ends.Ends.{Ends}

-- rows are pending, or nothing is, where result sets end so
abbrev pub Pends : Ends → Bool → Reading → Type 0
Pends ends true reading = (0 < reading.columns) × (reading.awaited ≡ 0)
Pends ends false reading = reading ≡ idle ends
