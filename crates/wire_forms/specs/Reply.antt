-- The packets that end a reply, and a reply's first message (MySQL source documentation, OK_Packet, ERR_Packet, EOF_Packet, COM_QUERY Response).
use Rattle.std.specs.Prelude.{ℕ, ◌≡◌, ◌+◌, ◌*◌, ◌==◌, ◌&&◌, nat_le, nat_lt, if◌then◌else◌, Bool, false, List, [], ◌∷◌, length, take, drop, Option, Some, None, option_and_then, option_map, codes}
use Rattle.std.specs.Option.{option_map_or}
use Rattle.wire_forms.specs.Lenenc.{lenenc_of}
use Rattle.wire_forms.specs.Definition.{column_count}
use Rattle.wire_forms.specs.KeptText.{kept_text}
use Rattle.wire_forms.specs.Packet.{full_size}
use Rattle.wire_forms.specs.declared.refusal.Refusal.{Refusal}
use Rattle.wire_forms.specs.declared.reply.Reply.{Reply}
use Rattle.wire_forms.specs.declared.reply.Reply.TheVariants.{Done, Refused, Columns}

-- what stands after the length-encoded integer that begins the bytes
abbrev pub after_number : List ℕ → Option (List ℕ)
after_number bytes = option_map (λ (number : ℕ × ℕ). drop number.1 bytes) (lenenc_of bytes)

-- what stands after the first byte of an OK: affected rows and last insert id length-encoded, status 2, warnings 2, then anything
abbrev pub are_ok_fields : List ℕ → Bool
are_ok_fields bytes =
    option_map_or (λ (rest : List ℕ). nat_le 4 (length rest))
    (option_and_then after_number (after_number bytes)) false

-- an OK: 00, and its fields
abbrev pub is_ok_packet : List ℕ → Bool
is_ok_packet [] = false
is_ok_packet (byte ∷ bytes) = byte == 0 && are_ok_fields bytes

-- an OK in place of an EOF: fe and the fields of an OK, fewer bytes in all than a full packet has (CLIENT_DEPRECATE_EOF)
abbrev pub is_ending_ok : List ℕ → Bool
is_ending_ok [] = false
is_ending_ok (byte ∷ bytes) =
    byte == 254 && nat_lt (length (byte ∷ bytes)) full_size && are_ok_fields bytes

-- an EOF: fe, warnings 2, status 2, and fewer than nine bytes in all
abbrev pub is_eof_packet : List ℕ → Bool
is_eof_packet [] = false
is_eof_packet (byte ∷ bytes) = byte == 254 && nat_le 4 (length bytes) && nat_lt (length bytes) 8

-- what an ERR says after its code: `#`, the state's five bytes and the message, or the message alone
abbrev pub refusal_of_code : ℕ → List ℕ → Option Refusal
refusal_of_code code [] =
    Some (record { code = code; state = codes "HY000"; message = kept_text [] })
refusal_of_code code (byte ∷ bytes) =
    if byte == 35 then (if nat_le 5 (length bytes)
    then Some (record {
      code = code;
      state = take 5 bytes;
      message = kept_text (drop 5 bytes);
    }) else None) else
    Some (record { code = code; state = codes "HY000"; message = kept_text (byte ∷ bytes) })

-- an ERR: ff, the code in two bytes, the state and the message
abbrev pub refusal_of : List ℕ → Option Refusal
refusal_of (byte ∷ low ∷ high ∷ bytes) =
    if byte == 255 then refusal_of_code (low + 256 * high) bytes else None
refusal_of bytes = None

-- a reply's first message: OK, ERR, or the number of columns of a result set
abbrev pub reply_of : List ℕ → Option Reply
reply_of [] = None
reply_of (byte ∷ bytes) =
    if byte == 0 then (if is_ok_packet (byte ∷ bytes) then Some Done else None) else
    (if byte == 255 then option_map (λ refusal. Refused refusal) (refusal_of (byte ∷ bytes)) else
    option_map (λ count. Columns count) (column_count (byte ∷ bytes)))

-- the first 1,024 bytes of a reply's first message tell what it is
abbrev pub AFrontTellsAReply : Type 0
AFrontTellsAReply = (payload : List ℕ) → reply_of (take 1024 payload) ≡ reply_of payload
