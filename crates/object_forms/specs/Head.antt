-- Heads of the texts that SHOW CREATE gives (MySQL 8.0 Reference Manual, 15.1.12 "CREATE DATABASE" and the other CREATE statements).
use Rattle.std.specs.Prelude.{◌≡◌, ℕ, true, false, if◌then◌else◌, Bool, List, [], ◌∷◌, codes, Option, Some, None}
use Rattle.std.specs.Option.{option_map, option_or, option_and_then}
use Rattle.object_forms.specs.Token.{Token, is_word, is_mark, past_gaps, tokens}
use Rattle.object_forms.specs.Token.Token.{word, quoted_name}
use Rattle.object_forms.specs.declared.kind.Kind.{Kind}
use Rattle.object_forms.specs.declared.kind.Kind.TheVariants.{Schema, Table, Procedure, Function, View, Trigger, Event}

-- a name, and the schema that was named with it, both as they are spelled, without backquotes
pub record Path : Type 0 where
  pub schema : Option (List ℕ)
  pub name : List ℕ

-- what was found at the front of tokens, and the tokens after it
pub record Found (A : Type 0) : Type 0 where
  pub value : A
  pub rest : List Token

-- the kind that a word of a head says
abbrev pub kind_of : Token → Option Kind
kind_of token =
    if is_word (codes "database") token then Some Schema
    else (if is_word (codes "table") token then Some Table
    else (if is_word (codes "procedure") token then Some Procedure
    else (if is_word (codes "function") token then Some Function
    else (if is_word (codes "view") token then Some View
    else (if is_word (codes "trigger") token then Some Trigger
    else (if is_word (codes "event") token then Some Event
    else None))))))

-- the first word that says a kind
abbrev pub kind_in : List Token → Option (Found Kind)
kind_in [] = None
kind_in (token ∷ rest) =
    option_or (option_map (λ kind. record { value = kind; rest = rest }) (kind_of token))
    (kind_in rest)

-- the tokens after one at the front that passes the test
abbrev pub after_token : (Token → Bool) → List Token → Option (List Token)
after_token test [] = None
after_token test (token ∷ rest) = if test token then Some rest else None

-- the tokens after a word, which is given in lower case, past white space and comments
abbrev pub after_word : List ℕ → List Token → Option (List Token)
after_word lower tokens = after_token (is_word lower) (past_gaps tokens)

-- the tokens after the words IF NOT EXISTS
abbrev pub after_exists : List Token → Option (List Token)
after_exists tokens =
    option_and_then (after_word (codes "exists"))
    (option_and_then (after_word (codes "not")) (after_word (codes "if") tokens))

-- a name is between backquotes or is a word
abbrev pub name_of : Token → Option (List ℕ)
name_of (word bytes) = Some bytes
name_of (quoted_name bytes) = Some bytes
name_of token = None

-- a name at the very front, and the tokens after it
abbrev pub name_at : List Token → Option (Found (List ℕ))
name_at [] = None
name_at (token ∷ rest) = option_map (λ bytes. record { value = bytes; rest = rest }) (name_of token)

-- a name past white space and comments
abbrev pub name_in : List Token → Option (Found (List ℕ))
name_in tokens = name_at (past_gaps tokens)

-- a dot and a name
abbrev pub dotted_name : List Token → Option (Found (List ℕ))
dotted_name tokens = option_and_then name_in (after_token (is_mark 46) (past_gaps tokens))

-- a name alone, or after the name of a schema
abbrev pub with_schema : Found (List ℕ) → Option (Found (List ℕ)) → Found Path
with_schema first None =
    record { value = record { schema = None; name = first.value }; rest = first.rest }
with_schema first (Some second) =
    record { value = record { schema = Some first.value; name = second.value }; rest = second.rest }

-- a name, or a schema, a dot and a name
abbrev pub path_in : List Token → Option (Found Path)
path_in tokens = option_map (λ first. with_schema first (dotted_name first.rest)) (name_in tokens)

-- what kind of object a text makes, under which name
pub record Making : Type 0 where
  pub kind : Kind
  pub path : Path

-- the name after a kind: after the words IF NOT EXISTS, where these stand there and a name after them
abbrev pub making_after : Found Kind → Option (Found Making)
making_after kind =
    option_map (λ path. record {
      value = record { kind = kind.value; path = path.value };
      rest = path.rest;
    })
    (option_or (option_and_then path_in (after_exists kind.rest)) (path_in kind.rest))

-- the head: the word CREATE, tokens up to the first word that says a kind, that word, and the name.
abbrev pub head_in : List Token → Option (Found Making)
head_in tokens =
    option_and_then making_after
    (option_and_then kind_in (after_token (is_word (codes "create")) tokens))

-- the head of a text, and the tokens after it
abbrev pub head : List ℕ → Option (Found Making)
head text = head_in (tokens text)

-- which object a text makes
abbrev pub making : List ℕ → Option Making
making text = option_map (λ found. found.value) (head text)

-- a text with a head
unfoldable pub HasHead : List ℕ → Type 0
HasHead text = (found : Found Making) × (head text ≡ Some found)

-- the tokens after the first word ON
abbrev pub after_on : List Token → Option (List Token)
after_on [] = None
after_on (token ∷ rest) = if is_word (codes "on") token then Some rest else after_on rest

-- whether the kind is that of triggers
abbrev pub is_trigger : Kind → Bool
is_trigger Schema = false
is_trigger Table = false
is_trigger Procedure = false
is_trigger Function = false
is_trigger View = false
is_trigger Trigger = true
is_trigger Event = false

-- whether the kind is that of tables
abbrev pub is_table : Kind → Bool
is_table Schema = false
is_table Table = true
is_table Procedure = false
is_table Function = false
is_table View = false
is_table Trigger = false
is_table Event = false

-- the table of a trigger's text: the one named after the first word ON after the head
abbrev pub table_of : Found Making → Option Path
table_of found =
    if is_trigger found.value.kind
    then option_map (λ path. path.value) (option_and_then path_in (after_on found.rest)) else None

-- the table that a text names for its trigger; none where the text makes no trigger or no name stands after the first word ON
abbrev pub trigger_table : List ℕ → Option Path
trigger_table text = option_and_then table_of (head text)
