-- What is written for a cell of any kind is read back.
use Rattle.std.proofs.Common.{◌≡◌, true, inl, inr, [], ◌∷◌, refl, sym, ◌∙◌, ap, Some, None}
use Rattle.std.specs.Prelude.{IfSome}
use Rattle.std.specs.List.{flat_map}
use Rattle.hex.specs.Hex.{IsBytes, encode_upper, upper_digits, decode_pairs}
use Rattle.hex.proofs.HexLemmas.{IsDigits-upper_digits, decode_pairs-encode_with}
use Rattle.grammar.specs.Language.{Fixed, Or}
use Rattle.plain_data.specs.Cell.{Cell}
use Rattle.sql_cells.specs.Literal.{escaped_byte, has_literal}
use Rattle.sql_cells.specs.Spelling.{Null, Literal, text_value, hex_bytes, IsReadBack}
use Rattle.sql_cells.specs.declared.cell_kind.CellKind.{CellKind}
use Rattle.sql_cells.specs.declared.cell_kind.CellKind.TheVariants.{Number, Text, Hex, Converted}
use Rattle.sql_literals.proofs.Grammar.{number_holds}
use Rattle.sql_literals.proofs.ReadBacks.{inside_of, inside_text, quoted_text, encoded_hex, converted_text, read_null, read_number, read_quoted, read_hexadecimal, read_converted, spells_number, kind_number}
use Rattle.sql_literals.proofs.Units.{escaped_back}

pub read_back : (kind : CellKind) (cell : Cell) → has_literal kind cell ≡ true → IfSome cell IsBytes → IsReadBack kind cell
unfolding Literal Or Null Fixed
read_back Number None has bytes = record { spells = record { literal = inl refl; cell_is = refl }; kind_is = refl; whole = λ more ends. read_null more }
read_back Text None has bytes = record { spells = record { literal = inl refl; cell_is = refl }; kind_is = refl; whole = λ more ends. read_null more }
read_back Hex None has bytes = record { spells = record { literal = inl refl; cell_is = refl }; kind_is = refl; whole = λ more ends. read_null more }
read_back Converted None has bytes = record { spells = record { literal = inl refl; cell_is = refl }; kind_is = refl; whole = λ more ends. read_null more }
read_back Number (Some cell) has bytes = record {
  spells = record { literal = inr (inl (number_holds cell has)); cell_is = spells_number cell (number_holds cell has) };
  kind_is = kind_number cell (number_holds cell has);
  whole = λ more ends. read_number cell more (number_holds cell has) ends;
}
read_back Text (Some cell) has bytes = record {
  spells = record {
    literal = inr (inr (inl (quoted_text cell)));
    cell_is = ap Some (sym (ap text_value (inside_of (39 ∷ []) (flat_map escaped_byte cell) (39 ∷ [])) ∙ escaped_back cell));
  };
  kind_is = refl;
  whole = λ more ends. read_quoted cell more ends;
}
read_back Hex (Some cell) has bytes = record {
  spells = record {
    literal = inr (inr (inr (inl (encoded_hex cell bytes))));
    cell_is = ap Some (sym (ap (λ t. hex_bytes (decode_pairs 0 t)) (inside_of (88 ∷ 39 ∷ []) (encode_upper cell) (39 ∷ [])) ∙ ap hex_bytes (decode_pairs-encode_with upper_digits IsDigits-upper_digits 0 cell bytes)));
  };
  kind_is = refl;
  whole = λ more ends. read_hexadecimal cell more bytes;
}
read_back Converted (Some cell) has bytes = record {
  spells = record { literal = inr (inr (inr (inr (converted_text cell)))); cell_is = ap Some (sym (ap text_value (inside_text cell) ∙ escaped_back cell)) };
  kind_is = refl;
  whole = λ more ends. read_converted cell more;
}
