-- A head under another name: the tokens before the name's and those after it stay.
use Rattle.std.proofs.Common.{◌≡◌, ℕ, Bool, true, false, cond, List, [], ◌∷◌, ◌++◌, Option, Some, None, option_map, codes, refl, sym, ◌∙◌, ap, subst, append_assoc}
use Rattle.std.specs.Option.{option_and_then, option_or}
use Rattle.plain_data.proofs.Options.{same_some}
use Rattle.object_forms.specs.declared.kind.Kind.{Kind}
use Rattle.object_forms.specs.Head.{Found, Making, Path, after_token, after_exists, after_word, dotted_name, head_in, kind_in, making_after, name_in, name_of, path_in, with_schema}
use Rattle.object_forms.specs.Place.{renamed}
use Rattle.object_forms.specs.Token.{Token, is_mark, is_word, past_gaps}
use Rattle.object_forms.specs.Token.Token.{comment, mark, quoted_name, string, unended, white, word}
use Rattle.object_texts.proofs.Fronts.{LastStops}
use Rattle.object_texts.proofs.NameSteps.{after_gaps, both, exists-step, first-step, joined-step, kind-step, last-append, mark-solid, mark-stops, name-again, name-solid, name-step, past-step, with_kind, word-stops}

-- where a dot stands no word does
dot-not_word : (lower : List ℕ) (all rest : List Token) → after_token (is_mark 46) all ≡ Some rest → after_token (is_word lower) all ≡ None
dot-not_word lower [] rest e = refl
dot-not_word lower (word bytes ∷ all) rest e = absurd (cc)
dot-not_word lower (quoted_name bytes ∷ all) rest e = refl
dot-not_word lower (string ∷ all) rest e = refl
dot-not_word lower (white ∷ all) rest e = refl
dot-not_word lower (comment ∷ all) rest e = refl
dot-not_word lower (mark byte ∷ all) rest e = refl
dot-not_word lower (unended ∷ all) rest e = refl

-- one token more in front, where a dot is found in what is there
dot-last : (front : List Token) (token : Token) → after_gaps (is_mark 46) (front ++ []) ≡ Some [] → LastStops 96 front → LastStops 96 (token ∷ front)
dot-last [] token some stops = absurd (cc)
dot-last (next ∷ front) token some stops = stops

none-either : {A B : Type 0} (test : Bool) (f : A → Option B) (x : A) → f x ≡ None → option_and_then f (cond test (Some x) None) ≡ None
none-either true f x e = e
none-either false f x e = refl

-- the words IF NOT EXISTS don't stand where IF isn't followed by NOT
no_exists : (all left : List Token) → past_gaps all ≡ left → option_and_then (after_word (codes "not")) (after_token (is_word (codes "if")) left) ≡ None → after_exists all ≡ None
no_exists all left e none =
    ap (λ (left : List Token). option_and_then (after_word (codes "exists")) (option_and_then (after_word (codes "not")) (after_token (is_word (codes "if")) left))) e
    ∙ ap (option_and_then (after_word (codes "exists"))) none

-- the name of a path after a front, and the path where another name stands there
record PathIn (all : List Token) (found : Found Path) : Type 0 where
  front : List Token
  token : Token
  splits : all ≡ front ++ (token ∷ found.rest)
  is_name : name_of token ≡ Some found.value.name
  renames : (other : List ℕ) → path_in (front ++ (quoted_name other ∷ found.rest)) ≡ Some (record { value = record { schema = found.value.schema; name = other }; rest = found.rest })
  no_exists : (other : List ℕ) → after_exists (front ++ (quoted_name other ∷ found.rest)) ≡ None
  stops : LastStops 96 front

abbrev path_after : Found (List ℕ) → Found Path
path_after first = with_schema first (dotted_name first.rest)

alone-path : (all : List Token) (first : Found (List ℕ)) → name_in all ≡ Some first → dotted_name first.rest ≡ None → PathIn all (with_schema first None)
alone-path all first e none =
    let name = name-step all first e in
    record {
      front = name.front;
      token = name.token;
      splits = name.splits;
      is_name = name.is_name;
      renames = λ other.
          ap (option_map path_after) (name-again name (quoted_name other) other refl first.rest)
          ∙ ap (λ (second : Option (Found (List ℕ))). Some (with_schema (record { value = other; rest = first.rest }) second)) none;
      no_exists = λ other. no_exists (name.front ++ (quoted_name other ∷ first.rest)) (quoted_name other ∷ first.rest) (name.passes (quoted_name other ∷ first.rest)) refl;
      stops = name.stops;
    }

dotted-path : (all : List Token) (first second : Found (List ℕ)) → name_in all ≡ Some first → dotted_name first.rest ≡ Some second → PathIn all (with_schema first (Some second))
dotted-path all first second e dotted =
    let schema = name-step all first e in
    let dots = both name_in (after_gaps (is_mark 46) first.rest) second dotted in
    let dot = past-step (is_mark 46) (mark-stops 46) (mark-solid 46) first.rest dots.0 dots.1 in
    let name = name-step dots.0 second dots.2 in
    let middle = dot.front ++ name.front in
    let tail : List ℕ → List Token = λ other. quoted_name other ∷ second.rest in
    let after_dot : (other : List ℕ) → after_gaps (is_mark 46) (middle ++ tail other) ≡ Some (name.front ++ tail other) =
    λ other. ap (after_gaps (is_mark 46)) (append_assoc dot.front name.front (tail other)) ∙ dot.goes_on (name.front ++ tail other) in
    let whole : (other : List ℕ) → (schema.front ++ (schema.token ∷ middle)) ++ tail other ≡ schema.front ++ (schema.token ∷ (middle ++ tail other)) =
    λ other. append_assoc schema.front (schema.token ∷ middle) (tail other) in
    record {
      front = schema.front ++ (schema.token ∷ middle);
      token = name.token;
      splits =
          schema.splits
          ∙ ap (λ (rest : List Token). schema.front ++ (schema.token ∷ rest)) (dot.splits ∙ ap (λ (rest : List Token). dot.front ++ rest) name.splits ∙ sym (append_assoc dot.front name.front (name.token ∷ second.rest)))
          ∙ sym (append_assoc schema.front (schema.token ∷ middle) (name.token ∷ second.rest));
      is_name = name.is_name;
      renames = λ other.
          ap path_in (whole other)
          ∙ ap (option_map path_after) (name-again schema schema.token first.value schema.is_name (middle ++ tail other))
          ∙ ap (λ (second : Option (Found (List ℕ))). Some (with_schema (record { value = first.value; rest = middle ++ tail other }) second)) (ap (option_and_then name_in) (after_dot other) ∙ name-again name (quoted_name other) other refl second.rest);
      no_exists = λ other.
          ap after_exists (whole other)
          ∙ no_exists (schema.front ++ (schema.token ∷ (middle ++ tail other))) (schema.token ∷ (middle ++ tail other)) (schema.passes (schema.token ∷ (middle ++ tail other)) ∙ name-solid schema.token first.value schema.is_name (middle ++ tail other))
          (none-either (is_word (codes "if") schema.token) (after_word (codes "not")) (middle ++ tail other) (dot-not_word (codes "not") (past_gaps (middle ++ tail other)) (name.front ++ tail other) (after_dot other)));
      stops = last-append 96 schema.front (schema.token ∷ middle) schema.stops (last-append 96 (schema.token ∷ dot.front) name.front (dot-last dot.front schema.token (dot.goes_on []) dot.stops) name.stops);
    }

path-dotted : (second : Option (Found (List ℕ))) (all : List Token) (first : Found (List ℕ)) (found : Found Path) → name_in all ≡ Some first → dotted_name first.rest ≡ second → with_schema first second ≡ found → PathIn all found
path-dotted None all first found e dotted same = subst (PathIn all) same (alone-path all first e dotted)
path-dotted (Some second) all first found e dotted same = subst (PathIn all) same (dotted-path all first second e dotted)

path-of : (first : Option (Found (List ℕ))) (all : List Token) (found : Found Path) → name_in all ≡ first → option_map path_after first ≡ Some found → PathIn all found
path-of None all found e same = absurd (cc)
path-of (Some first) all found e same = path-dotted (dotted_name first.rest) all first found e refl (same_some same)

path-step : (all : List Token) (found : Found Path) → path_in all ≡ Some found → PathIn all found
path-step all found e = path-of (name_in all) all found refl e

-- the name of an object after a front, and what is read where another one stands there
pub record Named (read : List Token → Option (Found Making)) (all : List Token) (found : Found Making) : Type 0 where
  pub front : List Token
  pub token : Token
  pub splits : all ≡ front ++ (token ∷ found.rest)
  pub is_name : name_of token ≡ Some found.value.path.name
  pub renames : (other : List ℕ) → read (front ++ (quoted_name other ∷ found.rest)) ≡ Some (record { value = renamed found.value other; rest = found.rest })
  pub stops : LastStops 96 front

abbrev making_of : Kind → Found Path → Found Making
making_of kind path = record { value = record { kind = kind; path = path.value }; rest = path.rest }

abbrev making_in : Kind → List Token → Option (Found Making)
making_in kind all = making_after (record { value = kind; rest = all })

-- the name after the words IF NOT EXISTS
exists-named : (kind : Kind) (all middle : List Token) (path : Found Path) → after_exists all ≡ Some middle → path_in middle ≡ Some path → Named (making_in kind) all (making_of kind path)
exists-named kind all middle path e f =
    let words = exists-step all middle e in
    let name = path-step middle path f in
    let tail : List ℕ → List Token = λ other. quoted_name other ∷ path.rest in
    record {
      front = words.front ++ name.front;
      token = name.token;
      splits = words.splits ∙ ap (λ (rest : List Token). words.front ++ rest) name.splits ∙ sym (append_assoc words.front name.front (name.token ∷ path.rest));
      is_name = name.is_name;
      renames = λ other.
          ap (making_in kind) (append_assoc words.front name.front (tail other))
          ∙ ap (λ (left : Option (List Token)). option_map (making_of kind) (option_or (option_and_then path_in left) (path_in (words.front ++ (name.front ++ tail other))))) (words.goes_on (name.front ++ tail other))
          ∙ ap (λ (path : Option (Found Path)). option_map (making_of kind) (option_or path (path_in (words.front ++ (name.front ++ tail other))))) (name.renames other);
      stops = last-append 96 words.front name.front words.stops name.stops;
    }

-- the name right after the kind
plain-named : (kind : Kind) (all : List Token) (path : Found Path) → path_in all ≡ Some path → Named (making_in kind) all (making_of kind path)
plain-named kind all path e =
    let name = path-step all path e in
    let tail : List ℕ → List Token = λ other. quoted_name other ∷ path.rest in
    record {
      front = name.front;
      token = name.token;
      splits = name.splits;
      is_name = name.is_name;
      renames = λ other.
          ap (λ (left : Option (List Token)). option_map (making_of kind) (option_or (option_and_then path_in left) (path_in (name.front ++ tail other)))) (name.no_exists other)
          ∙ ap (option_map (making_of kind)) (name.renames other);
      stops = name.stops;
    }

second-named : (second : Option (Found Path)) (kind : Kind) (all : List Token) (found : Found Making) → path_in all ≡ second → option_map (making_of kind) second ≡ Some found → Named (making_in kind) all found
second-named None kind all found e same = absurd (cc)
second-named (Some path) kind all found e same = subst (Named (making_in kind) all) (same_some same) (plain-named kind all path e)

first-named : (first : Option (Found Path)) (kind : Kind) (all : List Token) (found : Found Making) → option_and_then path_in (after_exists all) ≡ first → option_map (making_of kind) (option_or first (path_in all)) ≡ Some found → Named (making_in kind) all found
first-named None kind all found e same = second-named (path_in all) kind all found refl same
first-named (Some path) kind all found e same =
    let words = both path_in (after_exists all) path e in
    subst (Named (making_in kind) all) (same_some same) (exists-named kind all words.0 path words.1 words.2)

making-named : (kind : Kind) (all : List Token) (found : Found Making) → making_in kind all ≡ Some found → Named (making_in kind) all found
making-named kind all found e = first-named (option_and_then path_in (after_exists all)) kind all found refl e

abbrev created_kind : List Token → Option (Found Kind)
created_kind all = option_and_then kind_in (after_token (is_word (codes "create")) all)

-- a head's name, and the head with another one
pub head-named : (all : List Token) (found : Found Making) → head_in all ≡ Some found → Named head_in all found
head-named all found e =
    let kinds = both making_after (created_kind all) found e in
    let kind = kinds.0 in
    let creates = both kind_in (after_token (is_word (codes "create")) all) kind kinds.1 in
    let words = joined-step (after_token (is_word (codes "create"))) kind_in (with_kind kind.value) all creates.0 kind.rest
    (first-step (is_word (codes "create")) (word-stops (codes "create")) all creates.0 creates.1)
    (kind-step creates.0 kind.rest kind.value creates.2) in
    let name = making-named kind.value kind.rest found kinds.2 in
    let tail : List ℕ → List Token = λ other. quoted_name other ∷ found.rest in
    record {
      front = words.front ++ name.front;
      token = name.token;
      splits = words.splits ∙ ap (λ (rest : List Token). words.front ++ rest) name.splits ∙ sym (append_assoc words.front name.front (name.token ∷ found.rest));
      is_name = name.is_name;
      renames = λ other.
          ap head_in (append_assoc words.front name.front (tail other))
          ∙ ap (option_and_then making_after) (words.goes_on (name.front ++ tail other))
          ∙ name.renames other;
      stops = last-append 96 words.front name.front words.stops name.stops;
    }
