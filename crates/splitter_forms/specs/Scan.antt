-- Where a statement ends (MySQL 8.0 Reference Manual, 6.5.1.2 "mysql Client Commands", 11.1.1 "String Literals", 11.2 "Schema Object Names", 11.7 "Comments").
use Rattle.std.specs.Prelude.{ℕ, ◌+◌, ◌==◌, ◌&&◌, ◌||◌, if◌then◌else◌, Bool, true, false, List, [], ◌∷◌, ◌++◌, replicate, Option, Some, None, nat_eq}
use Rattle.std.specs.List.{starts_with}
use Rattle.splitter_forms.specs.declared.delimiter.Delimiter.{Delimiter}
use Rattle.splitter_forms.specs.declared.delimiter.Delimiter.TheVariants.{Semicolon, Dollars}
use Rattle.splitter_forms.specs.declared.within.Within.{Within}
use Rattle.splitter_forms.specs.declared.within.Within.TheVariants.{Text, Dash, Dashes, Slash, Opened, Comment, Star, Line, Quoted, Escaped, Name}

-- where the next byte stands after a byte of a text
abbrev pub after_text : ℕ → Within
after_text byte =
    if byte == 45 then Dash
    else (if byte == 47 then Slash
    else (if byte == 35 then Line
    else (if byte == 39 || byte == 34 then Quoted byte
    else (if byte == 96 then Name
    else Text))))

-- the same after a byte that stands there
abbrev pub after_byte : Within → ℕ → Within
after_byte Text byte = after_text byte
after_byte Dash byte = if byte == 45 then Dashes else after_text byte
after_byte Dashes byte =
    if byte == 32 then Line else (if byte == 45 then Dashes else after_text byte)
after_byte Slash byte = if byte == 42 then Opened else after_text byte
after_byte Opened byte = if byte == 33 then Text else (if byte == 42 then Star else Comment)
after_byte Comment byte = if byte == 42 then Star else Comment
after_byte Star byte = if byte == 47 then Text else (if byte == 42 then Star else Comment)
after_byte Line byte = if byte == 10 then Text else Line
after_byte (Quoted quote) byte =
    if byte == quote then Text else (if byte == 92 then Escaped quote else Quoted quote)
after_byte (Escaped quote) byte = Quoted quote
after_byte Name byte = if byte == 96 then Text else Name

-- neither in quotes nor in a comment
abbrev pub is_text : Within → Bool
is_text Text = true
is_text Dash = true
is_text Dashes = true
is_text Slash = true
is_text within = false

-- so many bytes more
abbrev pub plus : ℕ → Option ℕ → Option ℕ
plus n None = None
plus n (Some size) = Some (n + size)

-- how many bytes come before the first `;` that is in no quotes and in no comment
abbrev pub before_semicolon : Within → List ℕ → Option ℕ
before_semicolon within [] = None
before_semicolon within (byte ∷ bytes) =
    if byte == 59 && is_text within then Some 0
    else plus 1 (before_semicolon (after_byte within byte) bytes)

-- how many bytes come before the first place where the mark stands
abbrev pub before_mark : List ℕ → List ℕ → Option ℕ
before_mark mark [] = None
before_mark mark (byte ∷ bytes) =
    if starts_with nat_eq (byte ∷ bytes) mark then Some 0 else plus 1 (before_mark mark bytes)

-- so many dollars on a line of their own
abbrev pub dollar_line : ℕ → List ℕ
dollar_line n = 10 ∷ replicate n 36 ++ 10 ∷ []

-- how many bytes a statement has, where it is ended
abbrev pub size_in : Delimiter → List ℕ → Option ℕ
size_in Semicolon bytes = before_semicolon Text bytes
size_in (Dollars n) bytes = before_mark (dollar_line n) bytes

-- how many bytes end a statement
abbrev pub end_size : Delimiter → ℕ
end_size Semicolon = 1
end_size (Dollars n) = n + 2

-- whether what ends a statement is a line
abbrev pub is_line : Delimiter → Bool
is_line Semicolon = false
is_line (Dollars n) = true
