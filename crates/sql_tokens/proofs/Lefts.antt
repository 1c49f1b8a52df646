-- What is left of a text after some of its tokens.
use Rattle.std.proofs.Common.{◌≡◌, ℕ, suc, zero, ◌-◌, ◌<◌, ◌≤◌, List, [], ◌∷◌, length, drop, refl, arith}
use Rattle.object_forms.specs.Token.{first_token, left_after}
use Rattle.sql_tokens.proofs.Cuts.{parted}
use Rattle.sql_tokens.proofs.Tokens.{first_token-fits}

pub left-step : (n : ℕ) (text : List ℕ) → 0 < n → left_after n text ≡ left_after (n - 1) (drop (first_token text).size text)
left-step zero text some = absurd (omega arith)
left-step (suc n) text some = let less : suc n - 1 ≡ n = omega arith in rw less refl

pub left-within : (n : ℕ) (text : List ℕ) → length (left_after n text) ≤ length text
left-within n text = (parted text (left_after n text) (record { count = n; is = refl })).within

pub first-within : (text : List ℕ) → (first_token text).size ≤ length text
first-within [] = omega arith
first-within (byte ∷ bytes) = (first_token-fits byte bytes).within

pub ruleset lefts = (left-step, left-within, first-within)
