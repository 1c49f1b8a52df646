-- Where the name of a head stands in its text, and the text with another name there.
use Rattle.std.specs.Prelude.{ℕ, ◌-◌, ◌+◌, List, ◌++◌, length, take, drop, Option}
use Rattle.std.specs.Option.{option_map}
use Rattle.object_forms.specs.Token.{Token, first_token, left_after, tokens}
use Rattle.object_forms.specs.Head.{Making, head}
use Rattle.object_forms.specs.declared.place.Span.{Span}

-- where the token stands that so many others stand before
abbrev pub token_span : ℕ → List ℕ → Span
token_span count text =
    record {
      before = length text - length (left_after count text);
      size = (first_token (left_after count text)).size;
    }

-- how many tokens stand before the last one that those aren't that are left
abbrev pub count_before : List Token → List Token → ℕ
count_before all rest = length all - length rest - 1

-- where the object's name stands in a text with a head, as it is spelled, with its backquotes: it is the head's last token
abbrev pub name_span : List ℕ → Option Span
name_span text =
    option_map (λ found. token_span (count_before (tokens text) found.rest) text) (head text)

-- the text with other bytes in that place
abbrev pub replaced : List ℕ → Span → List ℕ → List ℕ
replaced text span bytes = take span.before text ++ bytes ++ drop (span.before + span.size) text

-- the same object under another name
abbrev pub renamed : Making → List ℕ → Making
renamed making name =
    record { kind = making.kind; path = record { schema = making.path.schema; name = name } }
