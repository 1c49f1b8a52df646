-- Length-encoded integers and packets (MySQL source documentation, Protocol::LengthEncodedInteger, "MySQL Packets").
use Rattle.std.specs.Prelude.{◌≡◌, [], ◌∷◌, Some, None, codes}
use Rattle.wire_forms.specs.Lenenc.{lenenc, lenenc_of}
use Rattle.wire_forms.specs.Packet.{packet_header, packets, packet_count, id_after}

-- numbers, written as short as it goes and read
pub record Numbers : Type 0 where
  pub one_byte : lenenc 250 ≡ 250 ∷ []
  pub two_bytes : lenenc 251 ≡ 252 ∷ 251 ∷ 0 ∷ []
  pub last_of_two : lenenc 65535 ≡ 252 ∷ 255 ∷ 255 ∷ []
  pub three_bytes : lenenc 65536 ≡ 253 ∷ 0 ∷ 0 ∷ 1 ∷ []
  pub eight_bytes : lenenc 16777216 ≡ 254 ∷ 0 ∷ 0 ∷ 0 ∷ 1 ∷ 0 ∷ 0 ∷ 0 ∷ 0 ∷ []
  pub read : lenenc_of (253 ∷ 0 ∷ 0 ∷ 1 ∷ 7 ∷ []) ≡ Some (65536, 4)
  pub long_spelling : lenenc_of (252 ∷ 5 ∷ 0 ∷ []) ≡ Some (5, 3)
  pub null : lenenc_of (251 ∷ []) ≡ None
  pub error : lenenc_of (255 ∷ []) ≡ None
  pub nothing : lenenc_of [] ≡ None
  pub short : lenenc_of (252 ∷ 5 ∷ []) ≡ None
  pub short_eight : lenenc_of (254 ∷ 1 ∷ 2 ∷ 3 ∷ 4 ∷ 5 ∷ 6 ∷ 7 ∷ []) ≡ None

-- a query is one packet, and the answer to it has the next sequence id; and the headers of the longest packet but one and of a full one
pub record PacketsOfAQuery : Type 0 where
  pub query : packets 0 (3 ∷ codes "SELECT 1") ≡ 9 ∷ 0 ∷ 0 ∷ 0 ∷ 3 ∷ codes "SELECT 1"
  pub after_it : id_after (packet_count 9) 0 ≡ 1
  pub after_full : id_after (packet_count 16777215) 255 ≡ 1
  pub most_of_one : packet_header 16777214 255 ≡ 254 ∷ 255 ∷ 255 ∷ 255 ∷ []
  pub full : packet_header 16777215 0 ≡ 255 ∷ 255 ∷ 255 ∷ 0 ∷ []
