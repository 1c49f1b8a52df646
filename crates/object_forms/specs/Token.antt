-- Tokens of SQL texts (MySQL 8.0 Reference Manual, 11.1.1 "String Literals", 11.2 "Schema Object Names", 11.7 "Comments").
use Rattle.std.specs.Prelude.{ℕ, zero, suc, ◌+◌, ◌-◌, ◌==◌, ◌&&◌, ◌||◌, not, nat_le, if◌then◌else◌, Bool, true, false, List, [], ◌∷◌, length, take, drop, map, bytes_eq, Option, Some, None}
use Rattle.std.specs.List.{prefix_len}
use Rattle.std.specs.Option.{option_map}
use Rattle.std.specs.Char.{to_ascii_lowercase}
use Rattle.plain_data.specs.Byte.{is_white}

-- a token of a text, with the bytes of a word, of a name between backquotes or of a mark
pub data Token : Type 0 where
  -- letters, digits, `_`, `$` and bytes from 80 on, as many as stand together
  word : List ℕ → Token
  -- what stands between backquotes, as it is spelled there
  quoted_name : List ℕ → Token
  -- a string in single or double quotes
  string : Token
  -- one byte of white space
  white : Token
  -- a comment from `/*` to `*/`, of any version
  comment : Token
  -- any other byte
  mark : ℕ → Token
  -- a quote or a `/*` that nothing ends, with all that follows it
  unended : Token

-- a letter or a digit of ASCII, `_`, `$`, or a byte from 80 on
abbrev pub is_word_byte : ℕ → Bool
is_word_byte byte =
    (nat_le 48 byte && nat_le byte 57) || (nat_le 65 byte && nat_le byte 90) ||
    (nat_le 97 byte && nat_le byte 122) || byte == 95 || byte == 36 || nat_le 128 byte

-- a backquote, a single or a double quote
abbrev pub is_quote : ℕ → Bool
is_quote byte = byte == 96 || byte == 39 || byte == 34

-- a size that is greater by n, where there is one
abbrev pub more : ℕ → Option ℕ → Option ℕ
more n size = option_map (λ m. n + m) size

-- how many bytes stand up to and with the closing quote: not a doubled one, nor, but for backquotes, one after a backslash
abbrev pub closing : ℕ → List ℕ → Option ℕ
closing quote [] = None
closing quote (byte ∷ []) = if byte == quote then Some 1 else None
closing quote (byte ∷ next ∷ bytes) =
    if byte == quote then (if next == quote then more 2 (closing quote bytes) else Some 1)
    else (if byte == 92 && not (quote == 96) then more 2 (closing quote bytes)
    else more 1 (closing quote (next ∷ bytes)))

-- a star and a slash
abbrev pub ends_comment : ℕ → ℕ → Bool
ends_comment byte next = byte == 42 && next == 47

-- how many bytes there are up to the end of a comment and with it, after its beginning
abbrev pub comment_end : List ℕ → Option ℕ
comment_end [] = None
comment_end (byte ∷ []) = None
comment_end (byte ∷ next ∷ bytes) =
    if ends_comment byte next then Some 2 else more 1 (comment_end (next ∷ bytes))

-- a token, and how many bytes it has
pub record Lexeme : Type 0 where
  pub size : ℕ
  pub token : Token

-- a word of so many bytes
abbrev pub word_lexeme : List ℕ → ℕ → Lexeme
word_lexeme bytes size = record { size = size; token = word (take size bytes) }

-- what begins with a quote, after which its end comes at that place
abbrev pub quoted_lexeme : ℕ → List ℕ → Option ℕ → Lexeme
quoted_lexeme quote bytes None = record { size = suc (length bytes); token = unended }
quoted_lexeme quote bytes (Some size) =
    record {
      size = suc size;
      token = if quote == 96 then quoted_name (take (size - 1) bytes)
          else string;
    }

-- a comment, after whose beginning its end comes at that place
abbrev pub comment_lexeme : List ℕ → Option ℕ → Lexeme
comment_lexeme bytes None = record { size = suc (length bytes); token = unended }
comment_lexeme bytes (Some size) = record { size = 2 + size; token = comment }

-- what begins with a slash
abbrev pub slash_lexeme : List ℕ → Lexeme
slash_lexeme [] = record { size = 1; token = mark 47 }
slash_lexeme (byte ∷ bytes) =
    if byte == 42 then comment_lexeme (byte ∷ bytes) (comment_end bytes)
    else record { size = 1; token = mark 47 }

-- the first token of bytes that aren't empty
abbrev pub first_token : List ℕ → Lexeme
first_token [] = record { size = 0; token = unended }
first_token (byte ∷ bytes) =
    if is_word_byte byte then word_lexeme (byte ∷ bytes) (prefix_len is_word_byte (byte ∷ bytes))
    else (if is_quote byte then quoted_lexeme byte bytes (closing byte bytes)
    else (if is_white byte then record { size = 1; token = white }
    else (if byte == 47 then slash_lexeme bytes
    else record { size = 1; token = mark byte })))

-- at most so many tokens from the front on
abbrev pub tokens_within : ℕ → List ℕ → List Token
tokens_within zero bytes = []
tokens_within (suc n) [] = []
tokens_within (suc n) (byte ∷ bytes) =
    (first_token (byte ∷ bytes)).token
    ∷ tokens_within n (drop (first_token (byte ∷ bytes)).size (byte ∷ bytes))

-- the tokens of a text
unfoldable pub tokens : List ℕ → List Token
tokens bytes = tokens_within (length bytes) bytes

-- what is left after so many tokens
abbrev pub left_after : ℕ → List ℕ → List ℕ
left_after zero bytes = bytes
left_after (suc n) bytes = left_after n (drop (first_token bytes).size bytes)

-- whether a token is that word, which is given in lower case, in any case
abbrev pub is_word : List ℕ → Token → Bool
is_word lower (word bytes) = bytes_eq (map to_ascii_lowercase bytes) lower
is_word lower token = false

-- whether a token is that byte
abbrev pub is_mark : ℕ → Token → Bool
is_mark byte (mark other) = byte == other
is_mark byte token = false

-- white space
abbrev pub is_space : Token → Bool
is_space white = true
is_space token = false

-- white space or a comment
abbrev pub is_gap : Token → Bool
is_gap white = true
is_gap comment = true
is_gap token = false

-- the tokens without those in front that pass the test
abbrev pub past : (Token → Bool) → List Token → List Token
past test [] = []
past test (token ∷ rest) = if test token then past test rest else token ∷ rest

-- the tokens without white space and comments in front
abbrev pub past_gaps : List Token → List Token
past_gaps tokens = past is_gap tokens

-- the tokens without white space in front
abbrev pub past_spaces : List Token → List Token
past_spaces tokens = past is_space tokens
