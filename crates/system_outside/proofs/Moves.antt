-- What several reads and writes in a row do to known bytes.
use Rattle.std.proofs.Common.{◌≡◌, ℕ, ◌+◌, ◌-◌, ◌≤◌, length, List, ◌++◌, None, Some, Option, take, drop, sym, ap, ◌∙◌, subst, arith}
use Rattle.std.proofs.Math.Seq.{take-add, take-append_seam}
use Rattle.std.proofs.lemmas.List.{take_rest, take-append-drop, length-take-le, drop-take, drop-drop}
use Rattle.std.proofs.KnownBytes.{Appends-trans}
use Rattle.std.specs.Io.KnownBytes.{Appends, Consumes, Keeps}

-- so many bytes were written, and then more of the rest
pub appends_more : (a b c : Option (List ℕ)) (bytes : List ℕ) (written count : ℕ) → Appends a b (take written bytes) → Appends b c (take count (take (length bytes - written) (drop written bytes))) → Appends a c (take (written + count) bytes)
appends_more a b c bytes written count first second =
    let rest = subst (λ more. Appends b c (take count more)) (take_rest bytes written) second in
    subst (Appends a c) (sym (take-add written count bytes)) (Appends-trans a b c _ _ first rest)

-- nothing was read, and then these bytes were
pub consumes_after_none : (a b c : Option (List ℕ)) (bytes : List ℕ) → Keeps a b → Consumes b c bytes → Consumes a c bytes
consumes_after_none None b c bytes kept read = tt
consumes_after_none (Some x) None c bytes kept read = absurd kept
consumes_after_none (Some x) (Some y) None bytes kept read = read
consumes_after_none (Some x) (Some y) (Some z) bytes kept read = sym kept ∙ read

-- nothing was written, and then nothing again
pub appends_after_none : (a b c : Option (List ℕ)) (bytes : List ℕ) → Appends a b bytes → Keeps b c → Appends a c bytes
appends_after_none None b c bytes written kept = tt
appends_after_none (Some x) None c bytes written kept = absurd written
appends_after_none (Some x) (Some y) None bytes written kept = kept
appends_after_none (Some x) (Some y) (Some z) bytes written kept = kept ∙ written

-- so many bytes of those from start to stop were copied to the front of a buffer, and the others wait on
pub taken_off : (bytes into front : List ℕ) (start stop count : ℕ) → start + count ≤ stop → count ≤ length (take (stop - start) (drop start bytes))
    → front ≡ take count (take (stop - start) (drop start bytes))
    → take (stop - start) (drop start bytes) ≡ take count (front ++ drop count into) ++ take (stop - (start + count)) (drop (start + count) bytes)
taken_off bytes into front start stop count fits enough copied =
    let waiting = take (stop - start) (drop start bytes) in
    let more = stop - (start + count) in
    let whole : stop - start ≡ count + more = omega arith in
    let len : length front ≡ count = ap length copied ∙ length-take-le count waiting enough in
    let in_front : take count (front ++ drop count into) ≡ front = subst (λ n. take n (front ++ drop count into) ≡ front) len (take-append_seam front (drop count into)) in
    let after : drop count waiting ≡ take more (drop (start + count) bytes) =
    ap (λ n. drop count (take n (drop start bytes))) whole ∙ drop-take count more (drop start bytes) ∙ ap (take more) (drop-drop count start bytes) in
    sym (take-append-drop count waiting) ∙ ap (λ l. l ++ drop count waiting) (sym (in_front ∙ copied)) ∙ ap (λ l. take count (front ++ drop count into) ++ l) after
