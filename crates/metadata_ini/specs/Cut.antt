-- Texts that are cut at a byte.
use Rattle.std.specs.Prelude.{◌≡◌, ◌==◌, false, ℕ, List, ◌∷◌, ◌++◌}
use Rattle.std.specs.List.{list_any}
use Rattle.metadata_ini.specs.declared.cuts.Fields.{Fields}

-- the byte isn't in the text
abbrev pub Lacks : ℕ → List ℕ → Type 0
Lacks byte text = list_any (λ other. other == byte) text ≡ false

-- what stands before the first such byte in the text, and what after it
pub record IsCut (byte : ℕ) (text front rest : List ℕ) : Type 0 where
  pub is : text ≡ front ++ byte ∷ rest
  pub first : Lacks byte front

-- the five fields of a line of a file
pub record FieldTexts : Type 0 where
  pub kind : List ℕ
  pub rows : List ℕ
  pub bytes : List ℕ
  pub digest : List ℕ
  pub name : List ℕ

-- fields that are lent, as lists of bytes
abbrev pub texts_of : Fields → FieldTexts
texts_of fields = record {
  kind = fields.kind.now;
  rows = fields.rows.now;
  bytes = fields.bytes.now;
  digest = fields.digest.now;
  name = fields.name.now;
}

-- the text is these fields with a space between each two
pub record HasFields (text : List ℕ) (fields : FieldTexts) : Type 0 where
  pub is : text ≡ fields.kind ++ 32 ∷ (fields.rows ++ 32 ∷ (fields.bytes ++ 32 ∷ (fields.digest
      ++ 32 ∷ fields.name)))
  pub kind_lacks : Lacks 32 fields.kind
  pub rows_lacks : Lacks 32 fields.rows
  pub bytes_lacks : Lacks 32 fields.bytes
  pub digest_lacks : Lacks 32 fields.digest

-- the text isn't five fields
abbrev pub HasNoFields : List ℕ → Type 0
HasNoFields text = (fields : FieldTexts) → ¬ HasFields text fields
