-- Where a text leaves those that begin with a word, and those that go on with a name.
use Rattle.std.specs.Prelude.{ℕ, ◌==◌, ◌||◌, if◌then◌else◌, List, [], ◌∷◌, length, slice_index, Option, Some, None}
use Rattle.std.specs.Char.{to_ascii_lowercase}
use Rattle.std.specs.List.{common_prefix_len}
use Rattle.object_forms.specs.Token.{Token, tokens}
use Rattle.object_forms.specs.Token.Token.{word, quoted_name, mark, unended}

-- how many bytes of a word stand at the front, in any case, where the word is given in lower case
abbrev pub agreement : List ℕ → List ℕ → ℕ
agreement text lower =
    common_prefix_len (λ byte letter. to_ascii_lowercase byte == letter) text lower

-- how far a text that begins with that byte goes along where a name is to begin, by its first token
abbrev pub token_reach : ℕ → ℕ → Token → Option ℕ
token_reach byte size (word bytes) = None
token_reach byte size (quoted_name bytes) = None
token_reach byte size unended = Some (if byte == 96 || byte == 47 then size else 0)
token_reach byte size (mark other) = Some (if other == 47 then 1 else 0)
token_reach byte size token = Some 0

-- the same by the tokens of a text, where none means its end
abbrev pub place_in : ℕ → ℕ → List Token → Option ℕ
place_in byte size [] = Some 0
place_in byte size (token ∷ rest) = token_reach byte size token

-- how far a text goes along where a name is to begin past white space and comments; none where one does
abbrev pub name_place : List ℕ → Option ℕ
name_place text = place_in (slice_index text 0) (length text) (tokens text)
