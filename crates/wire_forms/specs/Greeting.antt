-- The greeting of a server (MySQL source documentation, Protocol::HandshakeV10).
use Rattle.std.specs.Prelude.{ℕ, ◌==◌, ◌&&◌, ◌+◌, ◌-◌, nat_le, max, if◌then◌else◌, Bool, true, false, List, [], ◌∷◌, ◌++◌, length, take, drop, slice_index, bit_and, Option, Some, None, option_map, option_and_then, unwrap_or, ok_or, Result, Err}
use Rattle.std.specs.Int.{w32, from_le_bytes}
use Rattle.wire_forms.specs.KeptText.{kept_text}
use Rattle.wire_forms.specs.Reply.{refusal_of}
use Rattle.wire_forms.specs.Texts.{text_size, to_zero, native_password}
use Rattle.wire_forms.specs.Version.{is_newer}
use Rattle.wire_forms.specs.declared.ends.Ends.{Ends}
use Rattle.wire_forms.specs.declared.ends.Ends.TheVariants.{Eof, Ok}
use Rattle.wire_forms.specs.declared.greeting.Greeting.{Greeting}
use Rattle.wire_forms.specs.declared.login_fault.LoginFault.{LoginFault}
use Rattle.wire_forms.specs.declared.login_fault.LoginFault.TheVariants.{NotProtocol10, Refused, Garbled}

-- the capabilities that stand after the version: their low half at byte 13, their high half at byte 18
abbrev pub capabilities : List ℕ → ℕ
capabilities bytes =
    from_le_bytes w32 (slice_index bytes 13 ∷ slice_index bytes 14 ∷ slice_index bytes 18
    ∷ slice_index bytes 19 ∷ [])

-- all of these capabilities are offered
abbrev pub offers : ℕ → List ℕ → Bool
offers wanted bytes = bit_and (capabilities bytes) wanted == wanted

-- the size of the scramble's second part: the scramble's length, which stands at byte 20, less the first part's 8, but 13 at least
abbrev pub second_size : List ℕ → ℕ
second_size bytes = max 13 (slice_index bytes 20 - 8)

-- What stands after the version: connection id 4, scramble 8, 00, low capabilities 2, character set 1, status 2,
-- high capabilities 2, scramble length 1, ten bytes, the scramble's second part, the plugin.

-- the fields up to the plugin are there, and protocol 41 (0x200) and a scramble of twenty bytes (0x8000) are offered
abbrev pub are_fields : List ℕ → Bool
are_fields bytes =
    nat_le (31 + second_size bytes)
    (length bytes) && slice_index bytes 12 == 0 && offers 0x8200 bytes

-- the scramble: its first part's 8 bytes, and the first 12 of its second part
abbrev pub scramble_of : List ℕ → List ℕ
scramble_of bytes = take 8 (drop 4 bytes) ++ take 12 (drop 31 bytes)

-- a name and its 00, which may be missing; nothing stands after the 00
abbrev pub plugin_name : List ℕ → Option (List ℕ)
plugin_name bytes =
    if nat_le (length bytes) (text_size bytes + 1) then Some (take (text_size bytes) bytes)
    else None

-- the plugin: the one that is named where plugins are offered (0x80000); else mysql_native_password, and its name may be missing
abbrev pub plugin_of : Bool → List ℕ → Option (List ℕ)
plugin_of true [] = None
plugin_of true (byte ∷ bytes) = plugin_name (byte ∷ bytes)
plugin_of false bytes = option_map (λ name. native_password) (plugin_name bytes)

-- how result sets end: by an OK where CLIENT_DEPRECATE_EOF (0x1000000) is offered
abbrev pub ends_of : List ℕ → Ends
ends_of bytes = if offers 0x1000000 bytes then Ok else Eof

-- the greeting of a server of this version
abbrev pub after_version : List ℕ → List ℕ → Option Greeting
after_version version bytes =
    if are_fields bytes then option_map
    (λ plugin. record {
      version = kept_text version;
      scramble = scramble_of bytes;
      plugin = kept_text plugin;
      ends = ends_of bytes;
      newer = is_newer version;
    })
    (plugin_of (offers 0x80000 bytes) (drop (31 + second_size bytes) bytes)) else None

-- what stands after the protocol's version: the server's version, its 00, and the other fields
abbrev pub after_protocol : List ℕ → Option Greeting
after_protocol bytes =
    option_and_then (λ (parts : List ℕ × List ℕ). after_version parts.0 parts.1) (to_zero bytes)

-- a server's first message: a greeting of protocol version 10, or an ERR
abbrev pub greeting_of : List ℕ → Result Greeting LoginFault
greeting_of [] = Err Garbled
greeting_of (byte ∷ bytes) =
    if byte == 10 then ok_or (after_protocol bytes) Garbled else
    (if byte == 255 then Err
    (unwrap_or (option_map (λ refusal. Refused refusal) (refusal_of (byte ∷ bytes))) Garbled)
    else Err (NotProtocol10 byte))
