-- How a head is read: each of its readers takes a front off the tokens, and the same front whatever follows.
use Rattle.std.proofs.Common.{◌≡◌, ℕ, Bool, true, false, cond, List, [], ◌∷◌, ◌++◌, Option, Some, None, option_map, codes, refl, sym, ◌∙◌, ap, subst, append_assoc}
use Rattle.std.specs.Option.{option_and_then}
use Rattle.plain_data.proofs.Options.{same_some}
use Rattle.object_forms.specs.declared.kind.Kind.{Kind}
use Rattle.object_forms.specs.Head.{Found, after_token, after_exists, after_word, kind_in, kind_of, name_at, name_in, name_of}
use Rattle.object_forms.specs.Token.{Token, is_gap, is_mark, is_word, past_gaps}
use Rattle.object_forms.specs.Token.Token.{comment, mark, quoted_name, string, unended, white, word}
use Rattle.object_texts.proofs.Fronts.{LastStops}
use Rattle.object_texts.proofs.HeadFronts.{from_kind}
use Rattle.object_texts.proofs.Longer.{Stops}

pub last-append : (byte : ℕ) (front others : List Token) → LastStops byte front → LastStops byte others → LastStops byte (front ++ others)
last-append byte [] others a b = b
last-append byte (token ∷ []) [] a b = a
last-append byte (token ∷ []) (next ∷ others) a b = b
last-append byte (token ∷ next ∷ front) others a b = last-append byte (next ∷ front) others a b

last-one : (byte : ℕ) (front : List Token) (token : Token) → Stops byte token → LastStops byte (front ++ (token ∷ []))
last-one byte [] token stops = stops
last-one byte (first ∷ []) token stops = stops
last-one byte (first ∷ next ∷ front) token stops = last-one byte (next ∷ front) token stops

-- what is read off all tokens but the rest, whatever stands in the rest's place
pub record Step {X : Type 0} (read answer : List Token → X) (all rest : List Token) : Type 0 where
  pub front : List Token
  pub splits : all ≡ front ++ rest
  pub goes_on : (others : List Token) → read (front ++ others) ≡ answer others
  pub stops : LastStops 96 front

gap-stops : (token : Token) → is_gap token ≡ true → Stops 96 token
gap-stops (word bytes) e = absurd (cc)
gap-stops (quoted_name bytes) e = absurd (cc)
gap-stops string e = absurd (cc)
gap-stops white e = tt
gap-stops comment e = tt
gap-stops (mark byte) e = absurd (cc)
gap-stops unended e = absurd (cc)

pub word-stops : (lower : List ℕ) (token : Token) → is_word lower token ≡ true → Stops 96 token
word-stops lower (word bytes) e = refl
word-stops lower (quoted_name bytes) e = absurd (cc)
word-stops lower string e = absurd (cc)
word-stops lower white e = absurd (cc)
word-stops lower comment e = absurd (cc)
word-stops lower (mark byte) e = absurd (cc)
word-stops lower unended e = absurd (cc)

word-solid : (lower : List ℕ) (token : Token) → is_word lower token ≡ true → is_gap token ≡ false
word-solid lower (word bytes) e = refl
word-solid lower (quoted_name bytes) e = absurd (cc)
word-solid lower string e = absurd (cc)
word-solid lower white e = absurd (cc)
word-solid lower comment e = absurd (cc)
word-solid lower (mark byte) e = absurd (cc)
word-solid lower unended e = absurd (cc)

pub mark-stops : (byte : ℕ) (token : Token) → is_mark byte token ≡ true → Stops 96 token
mark-stops byte (word bytes) e = absurd (cc)
mark-stops byte (quoted_name bytes) e = absurd (cc)
mark-stops byte string e = absurd (cc)
mark-stops byte white e = absurd (cc)
mark-stops byte comment e = absurd (cc)
mark-stops byte (mark other) e = refl
mark-stops byte unended e = absurd (cc)

pub mark-solid : (byte : ℕ) (token : Token) → is_mark byte token ≡ true → is_gap token ≡ false
mark-solid byte (word bytes) e = absurd (cc)
mark-solid byte (quoted_name bytes) e = absurd (cc)
mark-solid byte string e = absurd (cc)
mark-solid byte white e = absurd (cc)
mark-solid byte comment e = absurd (cc)
mark-solid byte (mark other) e = refl
mark-solid byte unended e = absurd (cc)

kind-stops : (token : Token) (kind : Kind) → kind_of token ≡ Some kind → Stops 96 token
kind-stops (word bytes) kind e = refl
kind-stops (quoted_name bytes) kind e = absurd (cc)
kind-stops string kind e = absurd (cc)
kind-stops white kind e = absurd (cc)
kind-stops comment kind e = absurd (cc)
kind-stops (mark byte) kind e = absurd (cc)
kind-stops unended kind e = absurd (cc)

-- a token of a name is no gap
pub name-solid : (token : Token) (name : List ℕ) → name_of token ≡ Some name → (others : List Token) → past_gaps (token ∷ others) ≡ token ∷ others
name-solid (word bytes) name e others = refl
name-solid (quoted_name bytes) name e others = refl
name-solid string name e others = absurd (cc)
name-solid white name e others = absurd (cc)
name-solid comment name e others = absurd (cc)
name-solid (mark byte) name e others = absurd (cc)
name-solid unended name e others = absurd (cc)

-- white space and comments
gap-step : (gap : Bool) (token : Token) (all : List Token) → is_gap token ≡ gap → Step past_gaps past_gaps all (past_gaps all) → Step past_gaps past_gaps (token ∷ all) (cond gap (past_gaps all) (token ∷ all))
gap-step true token all e later = record {
  front = token ∷ later.front;
  splits = ap (λ (others : List Token). token ∷ others) later.splits;
  goes_on = λ others. rw e (later.goes_on others);
  stops = last-append 96 (token ∷ []) later.front (gap-stops token e) later.stops;
}
gap-step false token all e later = record { front = []; splits = refl; goes_on = λ others. refl; stops = tt }

gaps-step : (all : List Token) → Step past_gaps past_gaps all (past_gaps all)
gaps-step [] = record { front = []; splits = refl; goes_on = λ others. refl; stops = tt }
gaps-step (token ∷ all) = gap-step (is_gap token) token all refl (gaps-step all)

-- one token that passes a test
one-step : (test : Token → Bool) (passes : Bool) (token : Token) (all rest : List Token) → test token ≡ passes → (test token ≡ true → Stops 96 token) → cond passes (Some all) None ≡ Some rest → Step (after_token test) (λ others. Some others) (token ∷ all) rest
one-step test true token all rest e stops same = record {
  front = token ∷ [];
  splits = ap (λ (others : List Token). token ∷ others) (same_some same);
  goes_on = λ others. rw e refl;
  stops = stops e;
}
one-step test false token all rest e stops same = absurd (cc)

pub first-step : (test : Token → Bool) → ((token : Token) → test token ≡ true → Stops 96 token) → (all rest : List Token) → after_token test all ≡ Some rest → Step (after_token test) (λ others. Some others) all rest
first-step test stops [] rest e = absurd (cc)
first-step test stops (token ∷ all) rest e = one-step test (test token) token all rest refl (stops token) e

-- the same past white space and comments
abbrev pub after_gaps : (Token → Bool) → List Token → Option (List Token)
after_gaps test all = after_token test (past_gaps all)

past-one : (test : Token → Bool) (passes : Bool) (token : Token) (all left rest : List Token) → test token ≡ passes → (test token ≡ true → Stops 96 token) → (test token ≡ true → is_gap token ≡ false) → Step past_gaps past_gaps all (token ∷ left) → cond passes (Some left) None ≡ Some rest → Step (after_gaps test) (λ others. Some others) all rest
past-one test true token all left rest e stops solid gaps same = record {
  front = gaps.front ++ (token ∷ []);
  splits = gaps.splits ∙ ap (λ (others : List Token). gaps.front ++ (token ∷ others)) (same_some same) ∙ sym (append_assoc gaps.front (token ∷ []) rest);
  goes_on = λ others. ap (after_gaps test) (append_assoc gaps.front (token ∷ []) others) ∙ ap (after_token test) (gaps.goes_on (token ∷ others)) ∙ rw (solid e, e) refl;
  stops = last-one 96 gaps.front token (stops e);
}
past-one test false token all left rest e stops solid gaps same = absurd (cc)

past-left : (test : Token → Bool) → ((token : Token) → test token ≡ true → Stops 96 token) → ((token : Token) → test token ≡ true → is_gap token ≡ false) → (all left rest : List Token) → Step past_gaps past_gaps all left → after_token test left ≡ Some rest → Step (after_gaps test) (λ others. Some others) all rest
past-left test stops solid all [] rest gaps e = absurd (cc)
past-left test stops solid all (token ∷ left) rest gaps e = past-one test (test token) token all left rest refl (stops token) (solid token) gaps e

pub past-step : (test : Token → Bool) → ((token : Token) → test token ≡ true → Stops 96 token) → ((token : Token) → test token ≡ true → is_gap token ≡ false) → (all rest : List Token) → after_gaps test all ≡ Some rest → Step (after_gaps test) (λ others. Some others) all rest
past-step test stops solid all rest e = past-left test stops solid all (past_gaps all) rest (gaps-step all) e

word-step : (lower : List ℕ) (all rest : List Token) → after_word lower all ≡ Some rest → Step (after_word lower) (λ others. Some others) all rest
word-step lower all rest e = past-step (is_word lower) (word-stops lower) (word-solid lower) all rest e

-- one reader after another
pub both : {A B : Type 0} (f : A → Option B) (first : Option A) (second : B) → option_and_then f first ≡ Some second → (middle : A) × (first ≡ Some middle) × (f middle ≡ Some second)
both f None second e = absurd (cc)
both f (Some middle) second e = (middle, refl, e)

pub joined-step : {X : Type 0} (first : List Token → Option (List Token)) (next answer : List Token → Option X) (all middle rest : List Token) → Step first (λ others. Some others) all middle → Step next answer middle rest → Step (λ all. option_and_then next (first all)) answer all rest
joined-step first next answer all middle rest a b = record {
  front = a.front ++ b.front;
  splits = a.splits ∙ ap (λ (others : List Token). a.front ++ others) b.splits ∙ sym (append_assoc a.front b.front rest);
  goes_on = λ others. ap (λ (all : List Token). option_and_then next (first all)) (append_assoc a.front b.front others) ∙ ap (option_and_then next) (a.goes_on (b.front ++ others)) ∙ b.goes_on others;
  stops = last-append 96 a.front b.front a.stops b.stops;
}

pub exists-step : (all rest : List Token) → after_exists all ≡ Some rest → Step after_exists (λ others. Some others) all rest
exists-step all rest e =
    let second = both (after_word (codes "exists")) (option_and_then (after_word (codes "not")) (after_word (codes "if") all)) rest e in
    let first = both (after_word (codes "not")) (after_word (codes "if") all) second.0 second.1 in
    joined-step (λ (all : List Token). option_and_then (after_word (codes "not")) (after_word (codes "if") all)) (after_word (codes "exists")) (λ others. Some others) all second.0 rest
    (joined-step (after_word (codes "if")) (after_word (codes "not")) (λ others. Some others) all first.0 second.0 (word-step (codes "if") all first.0 first.1) (word-step (codes "not") first.0 second.0 first.2))
    (word-step (codes "exists") second.0 rest second.2)

-- one token more in front, where a kind is found in what is there
kind-last : (front : List Token) (token : Token) (found : Found Kind) → kind_in (front ++ []) ≡ Some found → LastStops 96 front → LastStops 96 (token ∷ front)
kind-last [] token found some stops = absurd (cc)
kind-last (next ∷ front) token found some stops = stops

abbrev pub with_kind : Kind → List Token → Option (Found Kind)
with_kind kind others = Some (record { value = kind; rest = others })

rest_of : Option (Found Kind) → List Token
rest_of None = []
rest_of (Some found) = found.rest

value_of : Kind → Option (Found Kind) → Kind
value_of other None = other
value_of other (Some found) = found.value

kind-next : (found : Option Kind) (token : Token) (all rest : List Token) (kind : Kind) → kind_of token ≡ found → (kind_in all ≡ with_kind kind rest → Step kind_in (with_kind kind) all rest) → from_kind found all ≡ with_kind kind rest → Step kind_in (with_kind kind) (token ∷ all) rest
unfolding rest_of value_of
kind-next None token all rest kind e later same =
    let step = later same in
    record {
      front = token ∷ step.front;
      splits = ap (λ (others : List Token). token ∷ others) step.splits;
      goes_on = λ others. ap (λ (found : Option Kind). from_kind found (step.front ++ others)) e ∙ step.goes_on others;
      stops = kind-last step.front token (record { value = kind; rest = [] }) (step.goes_on []) step.stops;
    }
kind-next (Some first) token all rest kind e later same = record {
  front = token ∷ [];
  splits = ap (λ (others : List Token). token ∷ others) (ap rest_of same);
  goes_on = λ others. ap (λ (found : Option Kind). from_kind found others) e ∙ ap (λ (kind : Kind). with_kind kind others) (ap (value_of first) same);
  stops = kind-stops token first e;
}

pub kind-step : (all rest : List Token) (kind : Kind) → kind_in all ≡ with_kind kind rest → Step kind_in (with_kind kind) all rest
kind-step [] rest kind e = absurd (cc)
kind-step (token ∷ all) rest kind e = kind-next (kind_of token) token all rest kind refl (kind-step all rest kind) e

-- a name past white space and comments
pub record NameIn (all : List Token) (name : List ℕ) (rest : List Token) : Type 0 where
  pub front : List Token
  pub token : Token
  pub splits : all ≡ front ++ (token ∷ rest)
  pub is_name : name_of token ≡ Some name
  pub passes : (others : List Token) → past_gaps (front ++ others) ≡ past_gaps others
  pub stops : LastStops 96 front

name-token : (name : Option (List ℕ)) (token : Token) (all left : List Token) (found : Found (List ℕ)) → name_of token ≡ name → Step past_gaps past_gaps all (token ∷ left) → option_map (λ bytes. record { value = bytes; rest = left }) name ≡ Some found → NameIn all found.value found.rest
name-token None token all left found e gaps same = absurd (cc)
name-token (Some bytes) token all left found e gaps same =
    let P : Found (List ℕ) → Type 0 = λ found. NameIn all found.value found.rest in
    subst P (same_some same) (record { front = gaps.front; token = token; splits = gaps.splits; is_name = e; passes = gaps.goes_on; stops = gaps.stops })

name-left : (all left : List Token) (found : Found (List ℕ)) → Step past_gaps past_gaps all left → name_at left ≡ Some found → NameIn all found.value found.rest
name-left all [] found gaps e = absurd (cc)
name-left all (token ∷ left) found gaps e = name-token (name_of token) token all left found refl gaps e

pub name-step : (all : List Token) (found : Found (List ℕ)) → name_in all ≡ Some found → NameIn all found.value found.rest
name-step all found e = name-left all (past_gaps all) found (gaps-step all) e

-- another name after the same front
pub name-again : {all : List Token} {name : List ℕ} {rest : List Token} (there : NameIn all name rest) (token : Token) (other : List ℕ) → name_of token ≡ Some other → (others : List Token) → name_in (there.front ++ (token ∷ others)) ≡ Some (record { value = other; rest = others })
name-again there token other e others =
    ap name_at (there.passes (token ∷ others) ∙ name-solid token other e others) ∙ ap (λ (name : Option (List ℕ)). option_map (λ (bytes : List ℕ). record { value = bytes; rest = others }) name) e
