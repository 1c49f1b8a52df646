-- A request for another plugin (MySQL source documentation, Protocol::AuthSwitchRequest, Protocol::OldAuthSwitchRequest).
use Rattle.std.specs.Prelude.{ℕ, ◌==◌, ◌&&◌, ◌||◌, if◌then◌else◌, List, [], ◌∷◌, length, take, slice_index, Option, Some, None, option_map, ok_or, codes, bytes_eq, Result, Err}
use Rattle.wire_forms.specs.KeptText.{kept_text}
use Rattle.wire_forms.specs.Texts.{to_zero, native_password}
use Rattle.wire_forms.specs.declared.switch.Switch.{Switch}
use Rattle.wire_forms.specs.declared.login_fault.LoginFault.{LoginFault}
use Rattle.wire_forms.specs.declared.login_fault.LoginFault.TheVariants.{PluginUnsupported, Garbled}

-- twenty bytes, after which a 00 may stand
abbrev pub new_scramble : List ℕ → Option (List ℕ)
new_scramble bytes =
    if length bytes == 20 || (length bytes == 21 && slice_index bytes 20 == 0)
    then Some (take 20 bytes) else None

-- a switch to this plugin, with these bytes after its name
abbrev pub switch_to : List ℕ → List ℕ → Result Switch LoginFault
switch_to plugin bytes =
    if bytes_eq plugin native_password
    then ok_or (option_map (λ scramble. record { scramble = scramble }) (new_scramble bytes))
    Garbled else
    Err (PluginUnsupported (kept_text plugin))

-- a plugin's name, its 00, and the other bytes
abbrev pub switch_named : Option (List ℕ × List ℕ) → Result Switch LoginFault
switch_named None = Err Garbled
switch_named (Some parts) = switch_to parts.0 parts.1

-- what stands after the first byte: nothing, where the oldest plugin is asked for
abbrev pub after_request : List ℕ → Result Switch LoginFault
after_request [] = Err (PluginUnsupported (kept_text (codes "mysql_old_password")))
after_request (byte ∷ bytes) = switch_named (to_zero (byte ∷ bytes))

-- a request for another plugin: fe, and what names it
abbrev pub switch_of : List ℕ → Result Switch LoginFault
switch_of [] = Err Garbled
switch_of (byte ∷ bytes) = if byte == 254 then after_request bytes else Err Garbled
