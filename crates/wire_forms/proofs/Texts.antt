-- A text is kept in its front, with zeros after it.
use Rattle.std.proofs.Common.{◌≡◌, ℕ, ◌-◌, ◌≤◌, List, ◌++◌, length, take, drop, min, sym, ◌∙◌, ap, arith, length-append}
use Rattle.std.proofs.Math.ListN.{replicate}
use Rattle.std.proofs.Math.Seq.{take-append_seam}
use Rattle.std.proofs.lemmas.List.{length-take, length-take-le, take_min, drop-replicate}
use Rattle.wire_forms.specs.KeptText.{padded, short_text, kept_text, text_of}
use Rattle.wire_forms.specs.declared.short_text.ShortText.{ShortText}

-- what the front of the bytes, written over zeros, keeps
record Keeps (size : ℕ) (bytes all : List ℕ) : Type 0 where
  there : size ≤ length all
  zeros : all ≡ padded (take size all)
  text : take size all ≡ take 512 bytes

front_kept : (size : ℕ) (bytes all : List ℕ) → size ≡ min (length bytes) 512 → all ≡ take size bytes ++ drop (length (take size bytes)) (replicate 512 0) → Keeps size bytes all
front_kept size bytes all is written =
    let within : size ≤ length bytes = omega arith in
    let e : length (take size bytes) ≡ size = length-take-le size bytes within in
    let after : drop (length (take size bytes)) (replicate 512 0) ≡ replicate (512 - length (take size bytes)) 0 = drop-replicate (length (take size bytes)) 512 0 in
    let front : take size all ≡ take size bytes = ap (λ (n : ℕ). take n all) (sym e) ∙ ap (λ (l : List ℕ). take (length (take size bytes)) l) written ∙ take-append_seam (take size bytes) (drop (length (take size bytes)) (replicate 512 0)) in
    let whole : all ≡ padded (take size bytes) = written ∙ ap (λ (l : List ℕ). take size bytes ++ l) after in
    let least : size ≡ min 512 (length bytes) = omega arith in
    record {
      there = omega (arith, simp (length-append, e) at (ap length written));
      zeros = whole ∙ ap padded (sym front);
      text = front ∙ ap (λ (n : ℕ). take n bytes) least ∙ take_min 512 bytes;
    }

-- so the fields keep the first 512 bytes
pub is_kept : (size : ℕ) (bytes all : List ℕ) → size ≡ min (length bytes) 512 → all ≡ take size bytes ++ drop (length (take size bytes)) (replicate 512 0) → (let t : ShortText = record { bytes = all; size = size } in t) ≡ kept_text bytes
unfolding short_text
is_kept size bytes all is written =
    let keeps : Keeps size bytes all = front_kept size bytes all is written in
    let within : size ≤ length all = keeps.there in
    let e : length (take size all) ≡ size = length-take-le size all within in
    ap (λ (l : List ℕ). let t : ShortText = record { bytes = l; size = size } in t) (keeps.zeros ∙ ap padded keeps.text)
    ∙ ap (λ (n : ℕ). let t : ShortText = record { bytes = padded (take 512 bytes); size = n } in t) (sym e ∙ ap (λ (l : List ℕ). length l) keeps.text)

-- and the text that is kept is these bytes
pub kept_is : (bytes : List ℕ) → text_of (kept_text bytes) ≡ take 512 bytes
unfolding short_text
kept_is bytes =
    let text = take 512 bytes in
    let size : length text ≡ min 512 (length bytes) = length-take 512 bytes in
    let least : min (length text) 512 ≡ length text = omega arith in
    ap (λ (n : ℕ). take n (padded text)) least ∙ take-append_seam text (replicate (512 - length text) 0)
