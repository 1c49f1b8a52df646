-- The tokens that the code reads, as the definitions have them.
use Rattle.std.specs.Prelude.{◌≡◌, ◌≢◌, ℕ, Bool, [], ◌∷◌, ◌==◌, ◌&&◌, ◌||◌, not, if◌then◌else◌, List, Option, MatchOption, option_map, drop, false}
use Rattle.std.specs.Borrow.{Bor}
use Rattle.object_forms.specs.Token.{Lexeme, Token, first_token, tokens}
use Rattle.object_forms.specs.Token.Token.{word, quoted_name, string, white, comment, mark, unended}
use Rattle.sql_tokens.specs.declared.token.Token as read
use Rattle.sql_tokens.specs.declared.token.Token.TheVariants.{Word, QuotedName, String, White, Comment, Mark, Unended}
use Rattle.sql_tokens.specs.declared.token.Lexeme as lexed

-- the token that was read
abbrev pub token_of : read.Token → Token
token_of (Word bytes) = word bytes.now
token_of (QuotedName bytes) = quoted_name bytes.now
token_of String = string
token_of White = white
token_of Comment = comment
token_of (Mark byte) = mark byte
token_of Unended = unended

-- the token that was read, with how many bytes it has
abbrev pub lexeme_of : lexed.Lexeme → Lexeme
lexeme_of found = record { size = found.size; token = token_of found.token }

-- how many bytes are passed over at once inside quotes, at a byte that doesn't end them
abbrev pub quoted_step : ℕ → ℕ → ℕ
quoted_step quote byte = if byte == quote || (byte == 92 && not (quote == 96)) then 2 else 1

-- the bytes begin with a quote that isn't doubled
abbrev pub closes : ℕ → List ℕ → Bool
closes quote [] = false
closes quote (byte ∷ []) = byte == quote
closes quote (byte ∷ next ∷ bytes) = byte == quote && not (next == quote)

-- the first token of a text that isn't empty, with its size; none where the text is empty
abbrev pub IsFirstLexeme : List ℕ → Option lexed.Lexeme → Type 0
IsFirstLexeme text found =
    MatchOption found (text ≡ []) (λ lexeme. (text ≢ []) × (lexeme_of lexeme ≡ first_token text))

-- what is left of a text after its first token
abbrev pub past_first : List ℕ → List ℕ
past_first text = drop (first_token text).size text

-- the tokens of a text, if there is one
abbrev pub tokens_of : Option (Bor (List ℕ)) → Option (List Token)
tokens_of rest = option_map (λ text. tokens text.now) rest
