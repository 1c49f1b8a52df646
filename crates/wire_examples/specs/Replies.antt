-- Messages of replies (MySQL source documentation, OK_Packet, ERR_Packet, EOF_Packet, COM_QUERY Response, ProtocolText::Resultset).
use Rattle.std.specs.Prelude.{ℕ, ◌≡◌, List, [], ◌∷◌, ◌++◌, true, false, length, Some, None, codes}
use Rattle.wire_forms.specs.KeptText.{kept_text}
use Rattle.wire_forms.specs.Reading.{Reading, columns_counted, is_in_ends_place, is_end_packet, further_of, reading_after, definition, row, end, refused, garbled}
use Rattle.wire_forms.specs.Reply.{reply_of}
use Rattle.wire_forms.specs.declared.ends.Ends.{Ends}
use Rattle.wire_forms.specs.declared.ends.Ends.TheVariants.{Eof, Ok}
use Rattle.wire_forms.specs.declared.refusal.Refusal.{Refusal}
use Rattle.wire_forms.specs.declared.reply.Reply.TheVariants.{Done, Refused, Columns}

-- the ERR of a table that doesn't exist, without a message
abbrev pub no_table : List ℕ
no_table = 255 ∷ 122 ∷ 4 ∷ codes "#42S02"

-- what that ERR says
abbrev pub no_table_refusal : Refusal
no_table_refusal = record { code = 1146; state = codes "42S02"; message = kept_text [] }

-- what the first messages of replies say
pub record FirstMessages : Type 0 where
  pub ok : reply_of (0 ∷ 0 ∷ 0 ∷ 2 ∷ 0 ∷ 0 ∷ 0 ∷ []) ≡ Some Done
  pub ok_too_short : reply_of (0 ∷ 0 ∷ 0 ∷ 2 ∷ 0 ∷ 0 ∷ []) ≡ None
  pub err : reply_of no_table ≡ Some (Refused no_table_refusal)
  pub err_with_message : reply_of (no_table ++ codes "No")
      ≡ Some (Refused
      (record { code = 1146; state = codes "42S02"; message = kept_text (codes "No") }))
  pub err_without_state : reply_of (255 ∷ 16 ∷ 4 ∷ codes "Too many")
      ≡ Some (Refused
      (record { code = 1040; state = codes "HY000"; message = kept_text (codes "Too many") }))
  pub err_too_short : reply_of (255 ∷ 122 ∷ []) ≡ None
  pub state_too_short : reply_of (255 ∷ 122 ∷ 4 ∷ codes "#42S0") ≡ None
  pub columns : reply_of (1 ∷ []) ≡ Some (Columns 1)
  pub most_columns : reply_of (252 ∷ 255 ∷ 255 ∷ []) ≡ Some (Columns 65535)
  pub no_columns : reply_of (252 ∷ 0 ∷ 0 ∷ []) ≡ None
  pub too_many_columns : reply_of (253 ∷ 0 ∷ 0 ∷ 1 ∷ []) ≡ None
  pub byte_after_count : reply_of (1 ∷ 0 ∷ []) ≡ None
  pub local_file : reply_of (251 ∷ codes "/etc/passwd") ≡ None
  pub nothing : reply_of [] ≡ None

-- the definition of the column `id` of the table `t` of the schema `s`
abbrev pub id_definition : List ℕ
id_definition =
    3 ∷ codes "def" ++ 1 ∷ codes "s" ++ 1 ∷ codes "t" ++ 1 ∷ codes "t" ++ 2 ∷ codes "id" ++ 2
    ∷ codes "id" ++ 12 ∷ 63 ∷ 0 ∷ 11 ∷ 0 ∷ 0 ∷ 0 ∷ 3 ∷ 3 ∷ 0 ∷ 0 ∷ 0 ∷ 0 ∷ []

-- an EOF
abbrev pub eof : List ℕ
eof = 254 ∷ 0 ∷ 0 ∷ 2 ∷ 0 ∷ []

-- an OK that ends a result set in place of an EOF
abbrev pub ending_ok : List ℕ
ending_ok = 254 ∷ 0 ∷ 0 ∷ 2 ∷ 0 ∷ 0 ∷ 0 ∷ []

-- the OK with which a statement is answered
abbrev pub done_ok : List ℕ
done_ok = 0 ∷ 0 ∷ 0 ∷ 2 ∷ 0 ∷ 0 ∷ 0 ∷ []

-- a result set of so many columns whose definitions were read, before the EOF after them
abbrev pub at_eof : ℕ → Reading
at_eof columns = record { columns = columns; awaited = 1; ends = Eof }

-- a result set of so many columns, before its rows
abbrev pub at_rows : Ends → ℕ → Reading
at_rows ends columns = record { columns = columns; awaited = 0; ends = ends }

-- what the further messages of a result set say that ends by EOF packets
pub record FurtherMessages : Type 0 where
  pub column : further_of (columns_counted Eof 1) id_definition ≡ definition
  pub byte_after_column : further_of (columns_counted Eof 1) (id_definition ++ 0 ∷ []) ≡ garbled
  pub eof_for_column : further_of (columns_counted Eof 1) eof ≡ garbled
  pub eof_after : further_of (at_eof 1) eof ≡ definition
  pub column_for_eof : further_of (at_eof 1) id_definition ≡ garbled
  pub cells : further_of (at_rows Eof 2) (1 ∷ codes "2" ++ 251 ∷ [])
      ≡ row (Some (codes "2") ∷ None ∷ [])
  pub long_spelling : further_of (at_rows Eof 2) (0 ∷ 252 ∷ 1 ∷ 0 ∷ codes "a")
      ≡ row (Some [] ∷ Some (codes "a") ∷ [])
  pub byte_after_cells : further_of (at_rows Eof 1) (1 ∷ codes "3" ++ 0 ∷ []) ≡ garbled
  pub the_end : further_of (at_rows Eof 1) eof ≡ end
  pub long_end : further_of (at_rows Eof 1) (eof ++ 0 ∷ 0 ∷ 0 ∷ []) ≡ end
  pub row_like_an_end : further_of (at_rows Eof 1) (254 ∷ 0 ∷ 0 ∷ 0 ∷ 0 ∷ 0 ∷ 0 ∷ 0 ∷ 0 ∷ [])
      ≡ row (Some [] ∷ [])
  pub short_end : further_of (at_rows Eof 1) (254 ∷ 0 ∷ 0 ∷ 2 ∷ []) ≡ garbled
  pub err : further_of (at_rows Eof 1) no_table ≡ refused no_table_refusal
  pub nothing : further_of (at_rows Eof 1) [] ≡ garbled

-- what the further messages of a result set say that ends by an OK
pub record FurtherMessagesWithoutEof : Type 0 where
  pub column : further_of (columns_counted Ok 1) id_definition ≡ definition
  pub eof_for_column : further_of (columns_counted Ok 1) eof ≡ garbled
  pub after_column : reading_after (columns_counted Ok 1) definition ≡ at_rows Ok 1
  pub eof_after : further_of (at_rows Ok 1) eof ≡ garbled
  pub column_for_row : further_of (at_rows Ok 1) id_definition ≡ garbled
  pub cells : further_of (at_rows Ok 2) (1 ∷ codes "2" ++ 251 ∷ [])
      ≡ row (Some (codes "2") ∷ None ∷ [])
  pub the_end : further_of (at_rows Ok 1) ending_ok ≡ end
  pub long_end : further_of (at_rows Ok 1) (ending_ok ++ codes "info") ≡ end
  pub long_numbers : further_of (at_rows Ok 1)
      (254 ∷ 252 ∷ 1 ∷ 0 ∷ 253 ∷ 1 ∷ 0 ∷ 0 ∷ 2 ∷ 0 ∷ 0 ∷ 0 ∷ []) ≡ end
  pub short_end : further_of (at_rows Ok 1) (254 ∷ 0 ∷ 0 ∷ 2 ∷ 0 ∷ 0 ∷ []) ≡ garbled
  pub short_row_like_an_end : further_of (at_rows Ok 1) (254 ∷ 0 ∷ 0 ∷ 0 ∷ 0 ∷ 0 ∷ 0 ∷ 0 ∷ 0 ∷ [])
      ≡ end
  pub other_ok : further_of (at_rows Ok 1) done_ok ≡ garbled
  pub err : further_of (at_rows Ok 1) no_table ≡ refused no_table_refusal
  pub nothing : further_of (at_rows Ok 1) [] ≡ garbled

-- a message that begins with fe is in the end's place up to eight bytes where EOF packets end result sets, and else unless it fills a packet
pub record PlacesOfEnds : Type 0 where
  pub last_with_eof : (bytes : List ℕ) → length bytes ≡ 7 →
      is_in_ends_place Eof (254 ∷ bytes) ≡ true
  pub first_row_with_eof : (bytes : List ℕ) → length bytes ≡ 8 →
      is_in_ends_place Eof (254 ∷ bytes) ≡ false
  pub last_without_eof : (bytes : List ℕ) → length bytes ≡ 16777213 →
      is_in_ends_place Ok (254 ∷ bytes) ≡ true
  pub first_row_without_eof : (bytes : List ℕ) → length bytes ≡ 16777214 →
      is_in_ends_place Ok (254 ∷ bytes) ≡ false
  pub full_is_no_end : (bytes : List ℕ) → length bytes ≡ 16777214 →
      is_end_packet Ok (254 ∷ bytes) ≡ false
