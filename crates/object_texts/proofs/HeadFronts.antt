-- Heads by the tokens after the kind: a text has one exactly where a name comes next, past white space and comments.
use Rattle.std.proofs.Common.{◌≡◌, ℕ, suc, ◌<◌, ◌≤◌, ◌&&◌, Bool, true, false, cond, List, [], ◌∷◌, ◌++◌, length, Option, Some, None, option_map, is_some, codes, refl, sym, ◌∙◌, ap, arith, append_assoc, length-append}
use Rattle.std.specs.Option.{option_and_then, option_or}
use Rattle.std.specs.List.{list_all}
use Rattle.object_forms.specs.Head.{Found, after_token, after_exists, dotted_name, head_in, kind_in, kind_of, name_at, making_after, path_in, with_schema}
use Rattle.object_forms.specs.declared.kind.Kind.{Kind}
use Rattle.object_forms.specs.Token.{Token, is_gap, is_word, past_gaps}
use Rattle.object_forms.specs.Token.Token.{comment, mark, quoted_name, string, unended, white, word}
use Rattle.object_texts.proofs.Fronts.{is_ended}
use Rattle.object_texts.proofs.Utf8.{both_true}

-- where no name stands in front, no word does
after-no_name : (lower : List ℕ) (all : List Token) → name_at all ≡ None → after_token (is_word lower) all ≡ None
after-no_name lower [] e = refl
after-no_name lower (word bytes ∷ all) e = absurd (cc)
after-no_name lower (quoted_name bytes ∷ all) e = refl
after-no_name lower (string ∷ all) e = refl
after-no_name lower (white ∷ all) e = refl
after-no_name lower (comment ∷ all) e = refl
after-no_name lower (mark byte ∷ all) e = refl
after-no_name lower (unended ∷ all) e = refl

is_some-map : {A B : Type 0} (f : A → B) (found : Option A) → is_some (option_map f found) ≡ is_some found
is_some-map f None = refl
is_some-map f (Some x) = refl

is_some-or : {A : Type 0} (first second : Option A) → is_some second ≡ true → is_some (option_or first second) ≡ true
is_some-or None second e = e
is_some-or (Some x) second e = refl

-- after a kind an object is named exactly where a name comes next
named-is : (kind : Found Kind) (name : Option (Found (List ℕ))) → name_at (past_gaps kind.rest) ≡ name → is_some (making_after kind) ≡ is_some name
named-is kind None e =
    let no_if : after_token (is_word (codes "if")) (past_gaps kind.rest) ≡ None = after-no_name (codes "if") (past_gaps kind.rest) e in
    rw (no_if, e) refl
named-is kind (Some name) e =
    let path : path_in kind.rest ≡ Some (with_schema name (dotted_name name.rest)) = rw e refl in
    is_some-map _ (option_or (option_and_then path_in (after_exists kind.rest)) (path_in kind.rest)) ∙ is_some-or (option_and_then path_in (after_exists kind.rest)) (path_in kind.rest) (ap is_some path)

-- after CREATE and a kind, such tokens follow, but for white space and comments
pub record Reaches (all rest : List Token) : Type 0 where
  pub created : List Token
  pub kind : Kind
  pub after_kind : List Token
  pub create : after_token (is_word (codes "create")) all ≡ Some created
  pub kinds : kind_in created ≡ Some (record { value = kind; rest = after_kind })
  pub gaps : past_gaps after_kind ≡ past_gaps rest

pub reaches-head : (all rest : List Token) → Reaches all rest → is_some (head_in all) ≡ is_some (name_at (past_gaps rest))
reaches-head all rest reaches =
    let found : Found Kind = record { value = reaches.kind; rest = reaches.after_kind } in
    ap (λ (created : Option (List Token)). is_some (option_and_then making_after (option_and_then kind_in created))) reaches.create
    ∙ ap (λ (kind : Option (Found Kind)). is_some (option_and_then making_after kind)) reaches.kinds
    ∙ named-is found (name_at (past_gaps reaches.after_kind)) refl ∙ ap (λ (left : List Token). is_some (name_at left)) reaches.gaps

rest_of : Option (Found Kind) → List Token
rest_of None = []
rest_of (Some found) = found.rest

value_of : Kind → Option (Found Kind) → Kind
value_of other None = other
value_of other (Some found) = found.value

abbrev pub from_kind : Option Kind → List Token → Option (Found Kind)
from_kind found all = option_or (option_map (λ (kind : Kind). record { value = kind; rest = all }) found) (kind_in all)

-- what stands after the kind is shorter
shorter-of : (found : Option Kind) (all rest : List Token) (kind : Kind) → (kind_in all ≡ Some (record { value = kind; rest = rest }) → length rest < length all) → from_kind found all ≡ Some (record { value = kind; rest = rest }) → length rest < suc (length all)
unfolding rest_of
shorter-of None all rest kind later e = let below = later e in omega arith
shorter-of (Some first) all rest kind later e = let same : all ≡ rest = ap rest_of e in omega (arith, ap length same)

kind_in-shorter : (all rest : List Token) (kind : Kind) → kind_in all ≡ Some (record { value = kind; rest = rest }) → length rest < length all
kind_in-shorter [] rest kind e = absurd (cc)
kind_in-shorter (token ∷ all) rest kind e = shorter-of (kind_of token) all rest kind (kind_in-shorter all rest kind) e

alone : (front rest : List Token) → front ++ rest ≡ rest → length front ≡ 0
alone front rest e = omega (arith, ap length e, length-append front rest)

-- the first kind is the same whatever follows it
front-of_kind : (found : Option Kind) (front rest others : List Token) (kind : Kind) → (kind_in (front ++ rest) ≡ Some (record { value = kind; rest = rest }) → kind_in (front ++ others) ≡ Some (record { value = kind; rest = others })) → from_kind found (front ++ rest) ≡ Some (record { value = kind; rest = rest }) → from_kind found (front ++ others) ≡ Some (record { value = kind; rest = others })
unfolding rest_of value_of
front-of_kind None front rest others kind later e = later e
front-of_kind (Some first) [] rest others kind later e = ap (λ (kind : Kind). Some (record { value = kind; rest = others })) (ap (value_of first) e)
front-of_kind (Some first) (token ∷ front) rest others kind later e = absurd (omega (arith, alone (token ∷ front) rest (ap rest_of e)))

kind_in-front : (front rest others : List Token) (kind : Kind) → kind_in (front ++ rest) ≡ Some (record { value = kind; rest = rest }) → kind_in (front ++ others) ≡ Some (record { value = kind; rest = others })
kind_in-front [] rest others kind e = absurd (omega (arith, kind_in-shorter rest rest kind e))
kind_in-front (token ∷ front) rest others kind e = front-of_kind (kind_of token) front rest others kind (kind_in-front front rest others kind) e

-- what is passed over is the same whatever follows it
past-of : (gap : Bool) (token : Token) (front rest others : List Token) → (past_gaps (front ++ rest) ≡ rest → past_gaps (front ++ others) ≡ past_gaps others) → cond gap (past_gaps (front ++ rest)) (token ∷ front ++ rest) ≡ rest → cond gap (past_gaps (front ++ others)) (token ∷ front ++ others) ≡ past_gaps others
past-of true token front rest others later e = later e
past-of false token front rest others later e = absurd (omega (arith, alone (token ∷ front) rest e))

past-front : (front rest others : List Token) → past_gaps (front ++ rest) ≡ rest → past_gaps (front ++ others) ≡ past_gaps others
past-front [] rest others e = refl
past-front (token ∷ front) rest others e = past-of (is_gap token) token front rest others (past-front front rest others) e

-- only the last token may be one that takes all that follows
abbrev pub EndsLast : List Token → Type 0
EndsLast [] = Unit {0}
EndsLast (token ∷ []) = Unit {0}
EndsLast (token ∷ next ∷ all) = (is_ended token ≡ true) × EndsLast (next ∷ all)

kind-ended : (token : Token) (kind : Kind) → kind_of token ≡ Some kind → is_ended token ≡ true
kind-ended (word bytes) kind e = refl
kind-ended (quoted_name bytes) kind e = refl
kind-ended string kind e = refl
kind-ended white kind e = refl
kind-ended comment kind e = refl
kind-ended (mark byte) kind e = refl
kind-ended unended kind e = absurd (cc)

gap-ended : (token : Token) → is_gap token ≡ true → is_ended token ≡ true
gap-ended (word bytes) e = refl
gap-ended (quoted_name bytes) e = refl
gap-ended string e = refl
gap-ended white e = refl
gap-ended comment e = refl
gap-ended (mark byte) e = refl
gap-ended unended e = absurd (cc)

pub word-ended : (lower : List ℕ) (token : Token) → is_word lower token ≡ true → is_ended token ≡ true
word-ended lower (word bytes) e = refl
word-ended lower (quoted_name bytes) e = refl
word-ended lower string e = refl
word-ended lower white e = refl
word-ended lower comment e = refl
word-ended lower (mark byte) e = refl
word-ended lower unended e = absurd (cc)

last_is_kind : (found : Option Kind) (token : Token) (rest : List Token) (kind : Kind) → kind_of token ≡ found → from_kind found rest ≡ Some (record { value = kind; rest = rest }) → is_ended token ≡ true
last_is_kind None token rest kind e f = absurd (omega (arith, kind_in-shorter rest rest kind f))
last_is_kind (Some first) token rest kind e f = kind-ended token first e

later_kind : (found : Option Kind) (front rest : List Token) (kind : Kind) → 1 ≤ length front → from_kind found (front ++ rest) ≡ Some (record { value = kind; rest = rest }) → kind_in (front ++ rest) ≡ Some (record { value = kind; rest = rest })
unfolding rest_of
later_kind None front rest kind some e = e
later_kind (Some first) front rest kind some e = absurd (omega (arith, alone front rest (ap rest_of e)))

kind_in-ended : (front rest : List Token) (kind : Kind) → EndsLast (front ++ rest) → kind_in (front ++ rest) ≡ Some (record { value = kind; rest = rest }) → list_all is_ended front ≡ true
kind_in-ended [] rest kind last e = refl
kind_in-ended (token ∷ []) rest kind last e = let ended = last_is_kind (kind_of token) token rest kind refl e in rw ended refl
kind_in-ended (token ∷ next ∷ front) rest kind last e =
    let others = kind_in-ended (next ∷ front) rest kind last.1 (later_kind (kind_of token) (next ∷ front) rest kind (omega arith) e) in
    rw (last.0) others

ended-of : (gap : Bool) (token : Token) (front rest : List Token) → is_gap token ≡ gap → (past_gaps (front ++ rest) ≡ rest → list_all is_ended front ≡ true) → cond gap (past_gaps (front ++ rest)) (token ∷ front ++ rest) ≡ rest → (is_ended token && list_all is_ended front) ≡ true
ended-of true token front rest g later e = rw (gap-ended token g) (later e)
ended-of false token front rest g later e = absurd (omega (arith, alone (token ∷ front) rest e))

past-ended : (front rest : List Token) → past_gaps (front ++ rest) ≡ rest → list_all is_ended front ≡ true
past-ended [] rest e = refl
past-ended (token ∷ front) rest e = ended-of (is_gap token) token front rest refl (past-ended front rest) e

all_both : (front others : List Token) → list_all is_ended front ≡ true → list_all is_ended others ≡ true → list_all is_ended (front ++ others) ≡ true
all_both [] others e f = f
all_both (token ∷ front) others e f = let both = both_true (is_ended token) (list_all is_ended front) e in rw both.0 (all_both front others both.1 f)

-- tokens up to a name: CREATE, those up to the kind and with it, white space and comments
pub record IsFront (front : List Token) : Type 0 where
  pub ended : list_all is_ended front ≡ true
  pub goes_on : (others : List Token) → Reaches (front ++ others) others

pub front-is : (created : Token) (front gaps after_token rest : List Token) (kind : Kind) → is_word (codes "create") created ≡ true → EndsLast (front ++ after_token) → kind_in (front ++ after_token) ≡ Some (record { value = kind; rest = after_token }) → after_token ≡ gaps ++ rest → past_gaps after_token ≡ rest → IsFront (created ∷ (front ++ gaps))
front-is created front gaps after_token rest kind create last kinds split past =
    let passed : past_gaps (gaps ++ rest) ≡ rest = ap past_gaps (sym split) ∙ past in
    record {
      ended = rw (word-ended (codes "create") created create) (all_both front gaps (kind_in-ended front after_token kind last kinds) (past-ended gaps rest passed));
      goes_on = λ others. record {
        created = front ++ (gaps ++ others);
        kind = kind;
        after_kind = gaps ++ others;
        create = rw create (ap (λ (all : List Token). Some all) (append_assoc front gaps others));
        kinds = kind_in-front front after_token (gaps ++ others) kind kinds;
        gaps = past-front gaps rest others passed;
      };
    }
