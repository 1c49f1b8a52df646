-- How far a text agrees with a word, one letter at a time.
use Rattle.std.proofs.Common.{◌≡◌, ℕ, ◌+◌, ◌<◌, ◌≤◌, ◌==◌, true, false, List, [], ◌∷◌, length, drop, get_or, refl, drop_of_length-le}
use Rattle.std.specs.Char.{to_ascii_lowercase}
use Rattle.object_texts.specs.Left.{agreement}
use Rattle.sql_tokens.proofs.Quotes.{drop-at}

pub agreement-more : (text lower : List ℕ) (at : ℕ) → at < length text → at < length lower → (to_ascii_lowercase (get_or text at 0) == get_or lower at 0) ≡ true → agreement (drop at text) (drop at lower) ≡ 1 + agreement (drop (at + 1) text) (drop (at + 1) lower)
agreement-more text lower at a b e = rw (drop-at text at a, drop-at lower at b, e) refl

pub agreement-stops : (text lower : List ℕ) (at : ℕ) → at < length text → at < length lower → (to_ascii_lowercase (get_or text at 0) == get_or lower at 0) ≡ false → agreement (drop at text) (drop at lower) ≡ 0
agreement-stops text lower at a b e = rw (drop-at text at a, drop-at lower at b, e) refl

pub agreement-text_ends : (text lower : List ℕ) (at : ℕ) → length text ≤ at → agreement (drop at text) (drop at lower) ≡ 0
agreement-text_ends text lower at a = rw (drop_of_length-le text a) refl

agreement-nil : (text : List ℕ) → agreement text [] ≡ 0
agreement-nil [] = refl
agreement-nil (byte ∷ text) = refl

pub agreement-word_ends : (text lower : List ℕ) (at : ℕ) → length lower ≤ at → agreement (drop at text) (drop at lower) ≡ 0
agreement-word_ends text lower at b = rw (drop_of_length-le lower b) (agreement-nil (drop at text))

pub ruleset agreements = (agreement-more, agreement-stops, agreement-text_ends, agreement-word_ends)
