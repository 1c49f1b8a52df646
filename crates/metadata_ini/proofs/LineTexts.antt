-- Lines of files: their fields, and what is no such line.
use Rattle.std.proofs.Common.{◌≡◌, ◌≢◌, ℕ, zero, suc, ◌/◌, ◌%◌, ◌<◌, ◌^◌, false, ◌==◌, List, [], ◌∷◌, ◌++◌, length, refl, sym, ◌∙◌, ap, subst, arith, append_assoc, slice_index, decimal, codes, Ok, Err, Result, MatchResult}
use Rattle.std.specs.List.{list_any}
use Rattle.std.specs.Str.Parse.{AllDigits}
use Rattle.std.specs.Char.{digit_value}
use Rattle.std.proofs.lemmas.Bool.{or_from, or_parts, ne_eqb}
use Rattle.hex.specs.Hex.{encode_lower, encode_with, lower_digits, decode_sized}
use Rattle.hex.specs.declared.error.FromHexError.{FromHexError}
use Rattle.hex.proofs.HexLemmas.{decode_of-encode_lower, decode_sized-twice, length-encode_with}
use Rattle.object_forms.specs.declared.kind.Kind.TheVariants.{Schema, Table, Procedure, Function, View, Trigger, Event}
use Rattle.folder_forms.specs.FileName.{NamedFile, IsFileName, IsNoFileName}
use Rattle.folder_forms.specs.Metadata.{kind_word, named_text}
use Rattle.folder_forms.specs.declared.file_kind.FileKind.{FileKind}
use Rattle.folder_forms.specs.declared.file_kind.FileKind.TheVariants.{Object, Rows}
use Rattle.folder_forms.specs.declared.metadata.FileLine.{FileLine}
use Rattle.metadata_ini.specs.Cut.{FieldTexts, HasFields, HasNoFields, Lacks}
use Rattle.metadata_ini.specs.Line.{IsFileLine, IsNoFileLine, SpellsDigest, MayHaveRows}
use Rattle.metadata_ini.proofs.CutTexts.{same_fields}
use Rattle.metadata_ini.proofs.DecimalTexts.{decimal_digits, same_decimals}
use Rattle.metadata_ini.proofs.Texts.{one_file}

-- fields lack spaces

word_lacks : (kind : FileKind) → Lacks 32 (kind_word kind)
word_lacks (Object Schema) = refl
word_lacks (Object Table) = refl
word_lacks Rows = refl
word_lacks (Object Procedure) = refl
word_lacks (Object Function) = refl
word_lacks (Object View) = refl
word_lacks (Object Trigger) = refl
word_lacks (Object Event) = refl

no_digit : (byte c : ℕ) → (digit_value byte < 10 → ⊥) → digit_value c < 10 → (c == byte) ≡ false
no_digit byte c none digit = ne_eqb c byte (λ e. none (subst (λ x. digit_value x < 10) e digit))

pub digits_lack : (byte : ℕ) (ds : List ℕ) → (digit_value byte < 10 → ⊥) → AllDigits 10 ds → Lacks byte ds
digits_lack byte [] none digits = refl
digits_lack byte (c ∷ ds) none digits = or_from (c == byte) (list_any (λ o. o == byte) ds) (no_digit byte c none digits.0) (digits_lack byte ds none digits.1)

pub decimal_lacks : (n : ℕ) → n < 2 ^ 64 → Lacks 32 (decimal n)
decimal_lacks n small = digits_lack 32 (decimal n) (λ h. omega (arith, h)) (decimal_digits n small)

lacks_at : (byte : ℕ) (text : List ℕ) (at : ℕ) → (0 == byte) ≡ false → Lacks byte text → (slice_index text at == byte) ≡ false
lacks_at byte [] at z h = z
lacks_at byte (b ∷ text) zero z h = (or_parts (b == byte) (list_any (λ o. o == byte) text) h).0
lacks_at byte (b ∷ text) (suc at) z h = lacks_at byte text at z (or_parts (b == byte) (list_any (λ o. o == byte) text) h).1

lower_lacks : (byte d : ℕ) → (0 == byte) ≡ false → Lacks byte lower_digits → (slice_index lower_digits d == byte) ≡ false
lower_lacks byte d z h = lacks_at byte lower_digits d z h

pub encoded_lacks : (byte : ℕ) (d : List ℕ) → (0 == byte) ≡ false → Lacks byte lower_digits → Lacks byte (encode_lower d)
unfolding encode_with
encoded_lacks byte [] z h = refl
encoded_lacks byte (b ∷ d) z h =
    or_from (slice_index lower_digits (b / 16) == byte) _ (lower_lacks byte (b / 16) z h) (or_from (slice_index lower_digits (b % 16) == byte) _ (lower_lacks byte (b % 16) z h) (encoded_lacks byte d z h))

-- the fields of a line
abbrev pub file_fields : FileLine → FieldTexts
file_fields file = record {
  kind = kind_word file.name.kind;
  rows = decimal file.rows;
  bytes = decimal file.bytes;
  digest = encode_lower file.digest;
  name = named_text file.name;
}

regrouped : (a b c d e : List ℕ) → a ++ codes " " ++ b ++ codes " " ++ c ++ codes " " ++ d ++ codes " " ++ e ≡ a ++ 32 ∷ (b ++ 32 ∷ (c ++ 32 ∷ (d ++ 32 ∷ e)))
regrouped a b c d e = simp append_assoc

pub line_fields : (text : List ℕ) (file : FileLine) → IsFileLine text file → HasFields text (file_fields file)
line_fields text file line = record {
  is = line.is ∙ regrouped (kind_word file.name.kind) (decimal file.rows) (decimal file.bytes) (encode_lower file.digest) (named_text file.name);
  kind_lacks = word_lacks file.name.kind;
  rows_lacks = decimal_lacks file.rows line.may_be.rows_size;
  bytes_lacks = decimal_lacks file.bytes line.may_be.bytes_size;
  digest_lacks = encoded_lacks 32 file.digest refl refl;
}

-- digests

decoded : (text d : List ℕ) → SpellsDigest text d → decode_sized text 20 ≡ Ok d
decoded text d spells =
    let size : length (encode_lower d) ≡ 40 = omega (arith, length-encode_with lower_digits d, spells.sound.size) in
    ap (λ t. decode_sized t 20) spells.is ∙ decode_sized-twice (encode_lower d) 20 size ∙ decode_of-encode_lower d spells.sound.bytes

-- what decoding a spelled digest gives
pub decoded_out : (text d out : List ℕ) (n : ℕ) (r : Result (Unit {0}) FromHexError) → n ≡ 20
    → MatchResult (decode_sized text n) (λ bytes. (r ≡ Ok tt) × (out ≡ bytes)) (λ e. r ≡ Err e) → SpellsDigest text d → (r ≡ Ok tt) × (out ≡ d)
decoded_out text d out n r size gives spells =
    subst (λ x. MatchResult x (λ bytes. (r ≡ Ok tt) × (out ≡ bytes)) (λ e. r ≡ Err e)) (ap (decode_sized text) size ∙ decoded text d spells) gives

-- no lines

module _ (text : List ℕ) where
  pub no_fields_line : HasNoFields text → IsNoFileLine text
  no_fields_line none file line = none (file_fields file) (line_fields text file line)

  module _ (f : FieldTexts) (has : HasFields text f) where
    pub no_rows_line : ((n : ℕ) → n < 2 ^ 64 → f.rows ≢ decimal n) → IsNoFileLine text
    no_rows_line none file line = none file.rows line.may_be.rows_size (same_fields text f (file_fields file) has (line_fields text file line)).rows

    pub no_bytes_line : ((n : ℕ) → n < 2 ^ 64 → f.bytes ≢ decimal n) → IsNoFileLine text
    no_bytes_line none file line = none file.bytes line.may_be.bytes_size (same_fields text f (file_fields file) has (line_fields text file line)).bytes

    pub no_digest_line : ((d : List ℕ) → ¬ SpellsDigest f.digest d) → IsNoFileLine text
    no_digest_line none file line = none file.digest (record { is = (same_fields text f (file_fields file) has (line_fields text file line)).digest; sound = line.may_be.digest })

    pub no_name_line : IsNoFileName f.name → IsNoFileLine text
    no_name_line none file line = none file.name (record { is = (same_fields text f (file_fields file) has (line_fields text file line)).name; may_be = line.may_be.named })

    same_name : (name : NamedFile) (file : FileLine) → IsFileName f.name name → IsFileLine text file → file.name ≡ name
    same_name name file named line =
        one_file f.name file.name name (record { is = (same_fields text f (file_fields file) has (line_fields text file line)).name; may_be = line.may_be.named }) named

    pub other_word_line : (name : NamedFile) → IsFileName f.name name → f.kind ≢ kind_word name.kind → IsNoFileLine text
    other_word_line name named other file line =
        other ((same_fields text f (file_fields file) has (line_fields text file line)).kind ∙ ap (λ n. kind_word n.kind) (same_name name file named line))

    pub other_rows_line : (name : NamedFile) (rows : ℕ) → IsFileName f.name name → f.rows ≡ decimal rows → rows < 2 ^ 64 → ¬ MayHaveRows name.kind rows → IsNoFileLine text
    other_rows_line name rows named is small other file line =
        let same : file.rows ≡ rows = same_decimals file.rows rows line.may_be.rows_size small (sym (same_fields text f (file_fields file) has (line_fields text file line)).rows ∙ is) in
        let may : MayHaveRows file.name.kind file.rows = record { some = line.may_be.some_rows; none = line.may_be.no_rows } in
        other (subst (λ n. MayHaveRows n.kind rows) (same_name name file named line) (subst (MayHaveRows file.name.kind) same may))

pub line_read : (text : List ℕ) (f : FieldTexts) (file : FileLine) → HasFields text f → f.kind ≡ kind_word file.name.kind → f.rows ≡ decimal file.rows → f.bytes ≡ decimal file.bytes
    → SpellsDigest f.digest file.digest → IsFileName f.name file.name → MayHaveRows file.name.kind file.rows → file.rows < 2 ^ 64 → file.bytes < 2 ^ 64 → IsFileLine text file
line_read text f file has kind rows bytes digest name may small low = record {
  is = has.is ∙ (λ i. kind i ++ 32 ∷ (rows i ++ 32 ∷ (bytes i ++ 32 ∷ (digest.is i ++ 32 ∷ name.is i))))
      ∙ sym (regrouped (kind_word file.name.kind) (decimal file.rows) (decimal file.bytes) (encode_lower file.digest) (named_text file.name));
  may_be = record { named = name.may_be; some_rows = may.some; no_rows = may.none; rows_size = small; bytes_size = low; digest = digest.sound };
}
