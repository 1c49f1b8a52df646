-- What files are called, as texts.
use Rattle.std.proofs.Common.{◌≡◌, ℕ, ◌<◌, ◌/◌, ◌%◌, Bool, true, false, cond, List, [], ◌∷◌, ◌++◌, refl, sym, ◌∙◌, ap, subst, arith, codes, nat_lt, inl, inr, ◌⊎◌, ◌+◌, ◌^◌, zero, suc, length, get_or}
use Rattle.std.proofs.lemmas.Bool.{ltb-true, leb-true, eqb-true, and_parts}
use Rattle.std.specs.Prelude.{IsUtf8, IsAscii, ◌&&◌, ◌||◌, ◌==◌, nat_le}
use Rattle.std.specs.List.{list_all}
use Rattle.std.proofs.lemmas.Str.{IsUtf8-from_ascii, IsAscii-append}
use Rattle.std.proofs.lemmas.Str.Ascii.{IsAscii-nil, IsAscii-cons}
use Rattle.server_data.specs.Names.{escaped_name, file_name_byte, lower_digit, stands_as_it_is}
use Rattle.object_forms.specs.declared.kind.Kind.TheVariants.{Schema, Table, Procedure, Function, View, Trigger, Event}
use Rattle.folder_forms.specs.FileName.{file_number, NamedFile, HasFileName, IsFileName, IsNoFileName, file_text, front_names, ending, is_schema_file, file_of}
use Rattle.folder_forms.specs.declared.file_kind.FileKind.{FileKind}
use Rattle.folder_forms.specs.declared.file_kind.FileKind.TheVariants.{Object, Rows}
use Rattle.metadata_ini.specs.Division.{is_spelling_byte, Divides, IsUndivided, joined}
use Rattle.metadata_ini.specs.Fault.{IsNoName}
use Rattle.metadata_ini.specs.declared.fault.NameFault.{NameFault}
use Rattle.metadata_ini.specs.declared.fault.NameFault.TheVariants.{NotAName, OutOfMemory}
use Rattle.metadata_ini.specs.Spelling.{AreBytes, IsSpelt, SpellsNoName}
use Rattle.metadata_ini.proofs.NumberTexts.{file_number_ascii}
use Rattle.metadata_ini.proofs.Parts.{same_divisions}
use Rattle.metadata_ini.proofs.Spelled.{same_names, utf8_bytes}

-- ASCII

or_by : (x y : Bool) → x || y ≡ true → (x ≡ true) ⊎ (y ≡ true)
or_by true y e = inl refl
or_by false y e = inr e

up_to : (x b n : ℕ) → n < 128 → nat_le x b && nat_le b n ≡ true → b < 128
up_to x b n small e = omega (arith, leb-true b n (and_parts (nat_le x b) (nat_le b n) e).1)

stands_low : (b : ℕ) → stands_as_it_is b ≡ true → b < 128
stands_low b e = elim (or_by _ _ e) [
  | inl small ↦ up_to 97 b 122 (omega arith) small
  | inr other ↦ elim (or_by _ _ other) [
    | inl capital ↦ up_to 65 b 90 (omega arith) capital
    | inr last ↦ elim (or_by _ _ last) [
      | inl digit ↦ up_to 48 b 57 (omega arith) digit
      | inr line ↦ omega (arith, eqb-true b 95 line)
    ]
  ]
]

digit_by : (d : ℕ) (s : Bool) → d < 16 → nat_lt d 10 ≡ s → cond s (d + 48) (d + 87) < 128
digit_by d true small p = omega arith
digit_by d false small p = omega arith

digit_low : (d : ℕ) → d < 16 → lower_digit d < 128
digit_low d small = digit_by d (nat_lt d 10) small refl

byte_by : (b : ℕ) (s : Bool) → b < 256 → stands_as_it_is b ≡ s → IsAscii (cond s (b ∷ []) (64 ∷ lower_digit (b / 16) ∷ lower_digit (b % 16) ∷ []))
byte_by b true small p = IsAscii-cons b [] (stands_low b p) IsAscii-nil
byte_by b false small p = IsAscii-cons 64 (lower_digit (b / 16) ∷ lower_digit (b % 16) ∷ []) (omega arith) (IsAscii-cons (lower_digit (b / 16)) (lower_digit (b % 16) ∷ []) (digit_low (b / 16) (omega arith)) (IsAscii-cons (lower_digit (b % 16)) [] (digit_low (b % 16) (omega arith)) IsAscii-nil))

name_ascii : (name : List ℕ) → AreBytes name → IsAscii (escaped_name name)
name_ascii [] are = IsAscii-nil
name_ascii (b ∷ name) are = IsAscii-append (file_name_byte b) (escaped_name name) (byte_by b (stands_as_it_is b) are.0 refl) (name_ascii name are.1)

point_ascii : IsAscii (46 ∷ [])
point_ascii = IsAscii-cons 46 [] (omega arith) IsAscii-nil

ascii_of : (l : List ℕ) → list_all (λ b. nat_lt b 128) l ≡ true → IsAscii l
ascii_of [] e = IsAscii-nil
ascii_of (b ∷ l) e = let p = and_parts (nat_lt b 128) (list_all (λ b. nat_lt b 128) l) e in IsAscii-cons b l (ltb-true b 128 p.0) (ascii_of l p.1)

ending_ascii : (kind : FileKind) (number : ℕ) → number < 2 ^ 32 → IsAscii (ending kind number)
ending_ascii (Object Schema) number small = ascii_of (ending (Object Schema) number) refl
ending_ascii (Object Table) number small = ascii_of (ending (Object Table) number) refl
ending_ascii (Object Procedure) number small = ascii_of (ending (Object Procedure) number) refl
ending_ascii (Object Function) number small = ascii_of (ending (Object Function) number) refl
ending_ascii (Object View) number small = ascii_of (ending (Object View) number) refl
ending_ascii (Object Trigger) number small = ascii_of (ending (Object Trigger) number) refl
ending_ascii (Object Event) number small = ascii_of (ending (Object Event) number) refl
ending_ascii Rows number small = IsAscii-append (46 ∷ file_number number) (codes ".sql") (IsAscii-append (46 ∷ []) (file_number number) point_ascii (file_number_ascii number small)) (ascii_of (codes ".sql") refl)

front_by : (b : Bool) (s n : List ℕ) → IsAscii s → IsAscii n → IsAscii (cond b s (s ++ codes "." ++ n))
front_by true s n p q = p
front_by false s n p q = IsAscii-append (s ++ codes ".") n (IsAscii-append s (46 ∷ []) p point_ascii) q

-- What a file is called is UTF-8.
pub text_utf8 : (file : NamedFile) → HasFileName file → IsUtf8 (file_text file.kind file.schema file.name file.number)
text_utf8 file may = IsUtf8-from_ascii _ (IsAscii-append (front_names file.kind file.schema file.name) (ending file.kind file.number)
    (front_by (is_schema_file file.kind) (escaped_name file.schema) (escaped_name file.name) (name_ascii file.schema (utf8_bytes file.schema may.schema_text)) (name_ascii file.name (utf8_bytes file.name may.name_text)))
    (ending_ascii file.kind file.number may.number_size))

pub is_utf8 : (text : List ℕ) (file : NamedFile) → IsFileName text file → IsUtf8 text
is_utf8 text file named = subst IsUtf8 (sym named.is) (text_utf8 file named.may_be)

-- the division of a file's name

all_append : (a b : List ℕ) → list_all is_spelling_byte a ≡ true → list_all is_spelling_byte b ≡ true → list_all is_spelling_byte (a ++ b) ≡ true
all_append [] b p q = q
all_append (c ∷ a) b p q =
    let parts = and_parts (is_spelling_byte c) (list_all is_spelling_byte a) p in
    ap (λ x. x && list_all is_spelling_byte (a ++ b)) parts.0 ∙ all_append a b parts.1 q

stands_name : (b : ℕ) → stands_as_it_is b ≡ true → is_spelling_byte b ≡ true
stands_name b e = ap (λ x. x || (b == 64)) e

abbrev sixteen : List ℕ
sixteen = 0 ∷ 1 ∷ 2 ∷ 3 ∷ 4 ∷ 5 ∷ 6 ∷ 7 ∷ 8 ∷ 9 ∷ 10 ∷ 11 ∷ 12 ∷ 13 ∷ 14 ∷ 15 ∷ []

lower_names : list_all (λ d. is_spelling_byte (lower_digit d)) sixteen ≡ true
lower_names = refl

member : (l : List ℕ) (i d : ℕ) → list_all (λ d. is_spelling_byte (lower_digit d)) l ≡ true → i < length l → get_or l i 0 ≡ d → is_spelling_byte (lower_digit d) ≡ true
member [] i d p q e = absurd (omega arith)
member (c ∷ l) zero d p q e = ap (λ x. is_spelling_byte (lower_digit x)) (sym e) ∙ (and_parts _ _ p).0
member (c ∷ l) (suc i) d p q e = member l i d (and_parts _ _ p).1 (omega arith) e

digit_at : (d : ℕ) → d < 16 → get_or sixteen d 0 ≡ d
digit_at zero s = refl
digit_at (suc zero) s = refl
digit_at (suc (suc zero)) s = refl
digit_at (suc (suc (suc zero))) s = refl
digit_at (suc (suc (suc (suc zero)))) s = refl
digit_at (suc (suc (suc (suc (suc zero))))) s = refl
digit_at (suc (suc (suc (suc (suc (suc zero)))))) s = refl
digit_at (suc (suc (suc (suc (suc (suc (suc zero))))))) s = refl
digit_at (suc (suc (suc (suc (suc (suc (suc (suc zero)))))))) s = refl
digit_at (suc (suc (suc (suc (suc (suc (suc (suc (suc zero))))))))) s = refl
digit_at (suc (suc (suc (suc (suc (suc (suc (suc (suc (suc zero)))))))))) s = refl
digit_at (suc (suc (suc (suc (suc (suc (suc (suc (suc (suc (suc zero))))))))))) s = refl
digit_at (suc (suc (suc (suc (suc (suc (suc (suc (suc (suc (suc (suc zero)))))))))))) s = refl
digit_at (suc (suc (suc (suc (suc (suc (suc (suc (suc (suc (suc (suc (suc zero))))))))))))) s = refl
digit_at (suc (suc (suc (suc (suc (suc (suc (suc (suc (suc (suc (suc (suc (suc zero)))))))))))))) s = refl
digit_at (suc (suc (suc (suc (suc (suc (suc (suc (suc (suc (suc (suc (suc (suc (suc zero))))))))))))))) s = refl
digit_at (suc (suc (suc (suc (suc (suc (suc (suc (suc (suc (suc (suc (suc (suc (suc (suc d)))))))))))))))) s = absurd (omega arith)

digit_name : (d : ℕ) → d < 16 → is_spelling_byte (lower_digit d) ≡ true
digit_name d small = member sixteen d d lower_names small (digit_at d small)

spelled_by : (b : ℕ) (s : Bool) → b < 256 → stands_as_it_is b ≡ s → list_all is_spelling_byte (cond s (b ∷ []) (64 ∷ lower_digit (b / 16) ∷ lower_digit (b % 16) ∷ [])) ≡ true
spelled_by b true small p = ap (λ x. x && true) (stands_name b p)
spelled_by b false small p =
    (λ i. true && (digit_name (b / 16) (omega arith) i && (digit_name (b % 16) (omega arith) i && true)))

byte_spelled : (b : ℕ) → b < 256 → list_all is_spelling_byte (file_name_byte b) ≡ true
byte_spelled b small = spelled_by b (stands_as_it_is b) small refl

escaped_spelled : (name : List ℕ) → AreBytes name → list_all is_spelling_byte (escaped_name name) ≡ true
escaped_spelled [] are = refl
escaped_spelled (b ∷ name) are = all_append (file_name_byte b) (escaped_name name) (byte_spelled b are.0) (escaped_spelled name are.1)

pub division : (text : List ℕ) (file : NamedFile) → IsFileName text file → Divides text file.kind (escaped_name file.schema) (escaped_name file.name) file.number
division text file named = record {
  is = named.is;
  schema_spelled = escaped_spelled file.schema (utf8_bytes file.schema named.may_be.schema_text);
  name_spelled = escaped_spelled file.name (utf8_bytes file.name named.may_be.name_text);
  one_schema = λ is. ap escaped_name (named.may_be.one_schema is);
  numbered = record { none = named.may_be.no_number; size = named.may_be.number_size };
}

-- A text is the name of one file.
pub one_file : (text : List ℕ) (a b : NamedFile) → IsFileName text a → IsFileName text b → a ≡ b
one_file text a b p q =
    let same = same_divisions text a.kind b.kind _ _ _ _ a.number b.number (division text a p) (division text b q) in
    let schemas = same_names a.schema b.schema same.schemas in
    let names = same_names a.name b.name same.names in
    λ i. record { kind = same.kinds i; schema = schemas i; name = names i; number = same.numbers i }

-- What isn't divided is no name.
pub undivided : (text : List ℕ) → IsUndivided text → IsNoFileName text
undivided text none file named = none file.kind _ _ file.number (division text file named)

pub no_schema_name : (text : List ℕ) (kind : FileKind) (schema name : List ℕ) (number : ℕ) → Divides text kind schema name number → SpellsNoName schema → IsNoFileName text
no_schema_name text kind schema name number d none file named =
    let same = same_divisions text file.kind kind _ schema _ name file.number number (division text file named) d in
    none file.schema (record { is = same.schemas; utf8 = named.may_be.schema_text; there = named.may_be.schema_there })

pub no_object_name : (text : List ℕ) (kind : FileKind) (schema name : List ℕ) (number : ℕ) → Divides text kind schema name number → SpellsNoName name → IsNoFileName text
no_object_name text kind schema name number d none file named =
    let same = same_divisions text file.kind kind _ schema _ name file.number number (division text file named) d in
    none file.name (record { is = same.names; utf8 = named.may_be.name_text; there = named.may_be.name_there })

-- The file whose names are spelled so.
pub named : (text : List ℕ) (kind : FileKind) (s n : List ℕ) (number : ℕ) (schema name : List ℕ) → Divides text kind s n number → IsSpelt s schema → IsSpelt n name
    → IsFileName text (file_of kind schema name number)
named text kind s n number schema name d p q = record {
  is = d.is ∙ (λ i. joined kind (sym p.is i) (sym q.is i) ++ ending kind number);
  may_be = record {
    schema_text = p.utf8;
    schema_there = p.there;
    name_text = q.utf8;
    name_there = q.there;
    one_schema = λ is. same_names name schema (q.is ∙ d.one_schema is ∙ sym p.is);
    no_number = d.numbered.none;
    number_size = d.numbered.size;
  };
}

pub no_schema_fault : (text : List ℕ) (kind : FileKind) (schema name : List ℕ) (number : ℕ) (fault : NameFault) → Divides text kind schema name number
    → IsNoName (SpellsNoName schema) fault → IsNoName (IsNoFileName text) fault
no_schema_fault text kind schema name number NotAName d none = no_schema_name text kind schema name number d none
no_schema_fault text kind schema name number OutOfMemory d none = tt

pub no_name_fault : (text : List ℕ) (kind : FileKind) (schema name : List ℕ) (number : ℕ) (fault : NameFault) → Divides text kind schema name number
    → IsNoName (SpellsNoName name) fault → IsNoName (IsNoFileName text) fault
no_name_fault text kind schema name number NotAName d none = no_object_name text kind schema name number d none
no_name_fault text kind schema name number OutOfMemory d none = tt

-- That a text is what a file is called, by what its names spell.
pub named_utf8 : (text : List ℕ) (kind : FileKind) (s n : List ℕ) (number : ℕ) (schema name : List ℕ) → Divides text kind s n number → IsSpelt s schema → IsSpelt n name → IsUtf8 text
named_utf8 text kind s n number schema name d p q = is_utf8 text (file_of kind schema name number) (named text kind s n number schema name d p q)
