-- The tables of what each byte is written as, and text that is written over them.
use Rattle.std.proofs.Common.{◌≡◌, ◌==◌, ◌&&◌, ℕ, ◌+◌, ◌<◌, ◌≤◌, Bool, true, false, List, [], ◌∷◌, ◌++◌, length, take, get_or, refl, sym, ap, ◌∙◌, arith}
use Rattle.std.specs.List.{flat_map}
use Rattle.std.proofs.lemmas.Bool.{agree_below_at, and_parts, eqb-true}
use Rattle.std.proofs.lemmas.List.{take-append-le, take_all, length-take-le}
use Rattle.std.proofs.Math.Seq.{take-append-add}
use borrow.Rule.Slice.PartMut.{put_mid, post_of}
use Rattle.sql_cells.specs.Literal.{escaped_byte}
use Rattle.sql_literals.specs.declared.pairs.TheConstants.{PAIRS, WIDTHS}
use Rattle.sql_literals.specs.Runs.{Escaped}
use Rattle.sql_literals.proofs.Growth.{one_more, byte_length}

-- Two lists are the same, as a test.
abbrev is_same : List ℕ → List ℕ → Bool
is_same [] [] = true
is_same [] (y ∷ ys) = false
is_same (x ∷ xs) [] = false
is_same (x ∷ xs) (y ∷ ys) = x == y && is_same xs ys

same_lists : (xs ys : List ℕ) → is_same xs ys ≡ true → xs ≡ ys
same_lists [] [] h = refl
same_lists [] (y ∷ ys) h = absurd (cc)
same_lists (x ∷ xs) [] h = absurd (cc)
same_lists (x ∷ xs) (y ∷ ys) h =
    let parts = and_parts (x == y) (is_same xs ys) h in
    ap (λ b. b ∷ xs) (eqb-true x y parts.0) ∙ ap (λ t. y ∷ t) (same_lists xs ys parts.1)

pub width_of : (b : ℕ) → b < 256 → get_or WIDTHS b 0 ≡ length (escaped_byte b)
width_of b small = eqb-true _ _ (agree_below_at (λ b. get_or WIDTHS b 0 == length (escaped_byte b)) (λ _. true) 256 b refl small)

pub pair_of : (b : ℕ) → b < 256 → take (length (escaped_byte b)) (get_or PAIRS b []) ≡ escaped_byte b
pair_of b small = same_lists _ _ (agree_below_at (λ b. is_same (take (length (escaped_byte b)) (get_or PAIRS b [])) (escaped_byte b)) (λ _. true) 256 b refl small)

pub escaped_short : (b : ℕ) → length (escaped_byte b) ≤ 2
escaped_short b = grind (arith, byte_length b)

-- What is written in front of a place.
pub placed : (room pair e : List ℕ) (at k : ℕ) → at + 2 ≤ length room → length pair ≡ 2 → length e ≤ 2 → take (length e) pair ≡ e → take (at + length e) (put_mid at k room pair) ≡ take at room ++ e
placed room pair e at k fits two short front =
    let size : length (take at room) ≡ at = length-take-le at room (omega arith) in
    ap (λ n. take (n + length e) (put_mid at k room pair)) (sym size)
    ∙ take-append-add (take at room) (pair ++ post_of at k room) (length e)
    ∙ ap (λ t. take at room ++ t) (take-append-le (length e) pair (post_of at k room) (omega arith) ∙ front)

pub escaped_start : (bytes room : List ℕ) → Escaped bytes 0 room 0
escaped_start bytes room = record { within = omega arith; bytes_are = refl }

-- One byte more stands escaped.
pub escaped_next : (bytes room new : List ℕ) (done at to : ℕ)
    → Escaped bytes done room at
    → done < length bytes
    → take to new ≡ take at room ++ escaped_byte (get_or bytes done 0)
    → to ≡ at + length (escaped_byte (get_or bytes done 0))
    → Escaped bytes (done + 1) new to
escaped_next bytes room new done at to before more front place = record {
  within = omega (arith, before.within, escaped_short (get_or bytes done 0));
  bytes_are = front ∙ ap (λ t. t ++ escaped_byte (get_or bytes done 0)) before.bytes_are ∙ sym (one_more escaped_byte bytes done more);
}

pub escaped_whole : (bytes room : List ℕ) (done at : ℕ) → Escaped bytes done room at → length bytes ≤ done → take at room ≡ flat_map escaped_byte bytes
escaped_whole bytes room done at all end = all.bytes_are ∙ ap (flat_map escaped_byte) (take_all done bytes end)
