-- Where a text leaves the texts with heads.
use Rattle.std.proofs.Common.{◌≡◌, ℕ, suc, zero, ◌+◌, ◌-◌, ◌<◌, ◌≤◌, Bool, true, false, cond, List, [], ◌∷◌, ◌++◌, length, take, drop, Option, Some, None, is_some, codes, refl, sym, ◌∙◌, ap, subst, arith, append_assoc}
use Rattle.std.proofs.lemmas.List.{append_cancel_right}
use Rattle.grammar.specs.Language.{Begins, Refused}
use Rattle.object_forms.specs.declared.kind.Kind.{Kind}
use Rattle.object_forms.specs.Head.{HasHead, after_token, head, head_in, kind_in, name_at}
use Rattle.object_forms.specs.Token.{left_after}
use Rattle.sql_tokens.specs.Left.{IsLeft}
use Rattle.object_forms.specs.Token.{Token, first_token, is_gap, is_word, past_gaps, tokens}
use Rattle.object_texts.proofs.Closers.{ends-last}
use Rattle.sql_tokens.proofs.Cuts.{left-all, left-read, parted}
use Rattle.object_texts.proofs.Fronts.{tokens-alike-after, tokens-break}
use Rattle.object_texts.proofs.HeadFronts.{EndsLast, IsFront, front-is, reaches-head}
use Rattle.object_texts.proofs.Longer.{IsBreak}
use Rattle.sql_tokens.proofs.Tokens.{tokens-cons, tokens-nil}

there : {A : Type 0} (found : Option A) → is_some found ≡ true → (x : A) × (found ≡ Some x)
there None e = absurd (cc)
there (Some x) e = (x, refl)

pub has-head : (text : List ℕ) → is_some (head text) ≡ true → HasHead text
unfolding HasHead
has-head text e = there (head text) e

head-there : (text : List ℕ) → HasHead text → is_some (head text) ≡ true
unfolding HasHead
head-there text has = ap is_some has.1

pub no-head : (text : List ℕ) → is_some (head text) ≡ false → HasHead text → ⊥
no-head text e has = cc (head-there text has)

pub begins-with : (front more : List ℕ) → is_some (head (front ++ more)) ≡ true → Begins HasHead front
unfolding Begins
begins-with front more e = (more, has-head (front ++ more) e)

pub begins-not : (front : List ℕ) → ((more : List ℕ) → is_some (head (front ++ more)) ≡ false) → Begins HasHead front → ⊥
unfolding Begins
begins-not front none begins = no-head (front ++ begins.0) (none begins.0) begins.1

left_after-add : (m n : ℕ) (text : List ℕ) → left_after (m + n) text ≡ left_after n (left_after m text)
left_after-add zero n text = let e : 0 + n ≡ n = omega arith in rw e refl
left_after-add (suc m) n text = let e : suc m + n ≡ suc (m + n) = omega arith in rw e (left_after-add m n (drop (first_token text).size text))

left-trans : (text middle rest : List ℕ) → IsLeft text middle → IsLeft middle rest → IsLeft text rest
left-trans text middle rest a b = record { count = a.count + b.count; is = left_after-add a.count b.count text ∙ ap (left_after b.count) a.is ∙ b.is }

gaps-of : (gap : Bool) (token : Token) (all : List Token) → is_gap token ≡ gap → past_gaps (past_gaps all) ≡ past_gaps all → past_gaps (cond gap (past_gaps all) (token ∷ all)) ≡ cond gap (past_gaps all) (token ∷ all)
gaps-of true token all e later = later
gaps-of false token all e later = rw e refl

past-past : (all : List Token) → past_gaps (past_gaps all) ≡ past_gaps all
past-past [] = refl
past-past (token ∷ all) = gaps-of (is_gap token) token all refl (past-past all)

-- what stands after CREATE, a kind, white space and comments
pub record Stands (text rest : List ℕ) : Type 0 where
  pub left : IsLeft text rest
  pub front : IsFront (tokens (take (length text - length rest) text))
  pub gapless : past_gaps (tokens rest) ≡ tokens rest

created-word : (test : Bool) (all created : List Token) → cond test (Some all) None ≡ Some created → test ≡ true
created-word true all created e = refl
created-word false all created e = absurd (cc)

pub is_created : (first : ℕ) (bytes created : List ℕ) → after_token (is_word (codes "create")) (tokens (first ∷ bytes)) ≡ Some (tokens created) → is_word (codes "create") (first_token (first ∷ bytes)).token ≡ true
is_created first bytes created e =
    let found = first_token (first ∷ bytes) in
    created-word (is_word (codes "create") found.token) (tokens (drop found.size (first ∷ bytes))) (tokens created) (sym (ap (after_token (is_word (codes "create"))) (tokens-cons first bytes)) ∙ e)

pub stands-from :
    (first : ℕ) (bytes created after_kind rest : List ℕ) (kind : Kind)
    → after_token (is_word (codes "create")) (tokens (first ∷ bytes)) ≡ Some (tokens created) → created ≡ drop (first_token (first ∷ bytes)).size (first ∷ bytes)
    → Some (record { value = kind; rest = tokens after_kind }) ≡ kind_in (tokens created) → IsLeft created after_kind
    → tokens rest ≡ past_gaps (tokens after_kind) → IsLeft after_kind rest
    → Stands (first ∷ bytes) rest
stands-from first bytes created after_kind rest kind create at kinds kind_left past gap_left =
    let text = first ∷ bytes in
    let found = first_token text in
    let create_left = left-read text text created at (left-all text) in
    let left = left-trans text created rest create_left (left-trans created after_kind rest kind_left gap_left) in
    let words = tokens (take (length created - length after_kind) created) in
    let gaps = tokens (take (length after_kind - length rest) after_kind) in
    let to_kind = (parted created after_kind kind_left).tokens in
    let to_name = (parted after_kind rest gap_left).tokens in
    let whole : tokens text ≡ found.token ∷ tokens created = tokens-cons first bytes ∙ ap (λ (left : List ℕ). found.token ∷ tokens left) (sym at) in
    let front = found.token ∷ (words ++ gaps) in
    let joined : front ++ tokens rest ≡ tokens text =
    ap (λ (all : List Token). found.token ∷ all) (append_assoc words gaps (tokens rest) ∙ ap (λ (all : List Token). words ++ all) (sym to_name) ∙ sym to_kind) ∙ sym whole in
    let same : front ≡ tokens (take (length text - length rest) text) = append_cancel_right front (tokens (take (length text - length rest) text)) (tokens rest) (joined ∙ (parted text rest left).tokens) in
    let last = subst EndsLast to_kind (ends-last created) in
    let kinds_again : kind_in (words ++ tokens after_kind) ≡ Some (record { value = kind; rest = tokens after_kind }) = ap kind_in (sym to_kind) ∙ sym kinds in
    record {
      left = left;
      front = subst IsFront same (front-is found.token words gaps (tokens after_kind) (tokens rest) kind (is_created first bytes created create) last kinds_again to_name (sym past));
      gapless = ap past_gaps past ∙ past-past (tokens after_kind) ∙ sym past;
    }

pub none-created : (created : List ℕ) → after_token (is_word (codes "create")) (tokens []) ≡ Some (tokens created) → ⊥
none-created created e = cc (sym (ap (after_token (is_word (codes "create"))) tokens-nil) ∙ e)

pub stands-after :
    (text created after_kind rest : List ℕ) (kind : Kind)
    → Some (tokens created) ≡ after_token (is_word (codes "create")) (tokens text) → created ≡ drop (first_token text).size text
    → Some (record { value = kind; rest = tokens after_kind }) ≡ kind_in (tokens created) → IsLeft created after_kind
    → tokens rest ≡ past_gaps (tokens after_kind) → IsLeft after_kind rest
    → Stands text rest
stands-after [] created after_kind rest kind create at kinds kind_left past gap_left = absurd (none-created created (sym create))
stands-after (first ∷ bytes) created after_kind rest kind create at kinds kind_left past gap_left = stands-from first bytes created after_kind rest kind (sym create) at kinds kind_left past gap_left

-- the place of what stands there, and the texts that agree so far
module _ {text rest : List ℕ} (stands : Stands text rest) where
  -- where a name stands there the text has a head, and else none
  pub head-of : is_some (head text) ≡ is_some (name_at (tokens rest))
  head-of =
      let split = (parted text rest stands.left).tokens in
      ap (λ (all : List Token). is_some (head_in all)) split ∙ reaches-head (tokens (take (length text - length rest) text) ++ tokens rest) (tokens rest) (stands.front.goes_on (tokens rest)) ∙ ap (λ (all : List Token). is_some (name_at all)) stands.gapless

  pub break-head : (byte : ℕ) (more : List ℕ) → IsBreak byte → is_some (head (take (length text - length rest) text ++ (byte ∷ more))) ≡ is_some (name_at (past_gaps (tokens (byte ∷ more))))
  break-head byte more breaks =
      let front = take (length text - length rest) text in
      ap (λ (all : List Token). is_some (head_in all)) (tokens-break front byte more breaks stands.front.ended) ∙ reaches-head (tokens front ++ tokens (byte ∷ more)) (tokens (byte ∷ more)) (stands.front.goes_on (tokens (byte ∷ more)))

  pub alike-head : (n : ℕ) (more : List ℕ) → length text - length rest < n → n ≤ length text → is_some (head (take n text ++ more)) ≡ is_some (name_at (past_gaps (tokens (take (n - (length text - length rest)) rest ++ more))))
  alike-head n more below within =
      let front = tokens (take (length text - length rest) text) in
      let left = tokens (take (n - (length text - length rest)) rest ++ more) in
      ap (λ (all : List Token). is_some (head_in all)) (tokens-alike-after text rest n more stands.left below within) ∙ reaches-head (front ++ left) left (stands.front.goes_on left)

-- the text is refused at a place, if it has no head
pub refused-at : (text : List ℕ) (place : ℕ) → place ≤ length text → is_some (head text) ≡ false → Begins HasHead (take place text) → ((n : ℕ) → place < n → n ≤ length text → (more : List ℕ) → is_some (head (take n text ++ more)) ≡ false) → Refused HasHead text place
refused-at text place within none begins ends = record {
  at = record { within = within; begins = begins; ends = λ n below fits. begins-not (take n text) (ends n below fits) };
  no_text = no-head text none;
}
