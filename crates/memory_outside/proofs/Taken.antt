-- What is read off the front of what is left.
use Rattle.std.proofs.Common.{◌≡◌, ℕ, ◌+◌, ◌-◌, min, length, List, ◌++◌, take, drop, sym, ap, ◌∙◌, subst, arith}
use Rattle.std.proofs.Math.Seq.{take-add, take-append_seam}
use Rattle.std.proofs.lemmas.List.{take_rest, take-append-drop, length-take-le, length-append, length-drop, drop-drop}
use Rattle.memory_outside.specs.Memory.{TakesFront}

-- as many bytes as are left and fit were copied to the front of a buffer
pub front_taken : (bytes into front : List ℕ) (place count : ℕ) → count ≡ min (length (take (length bytes - place) (drop place bytes))) (length into) → front ≡ take count (take (length bytes - place) (drop place bytes))
    → TakesFront (record { read = take place bytes; left = drop place bytes }) (front ++ drop count into) count (record { read = take (place + count) bytes; left = drop (place + count) bytes })
front_taken bytes into front place count most is =
    let left = drop place bytes in
    let rest = take_rest bytes place in
    let fills : count ≡ min (length left) (length into) = most ∙ ap (λ l. min (length l) (length into)) rest in
    let copied : front ≡ take count left = is ∙ ap (take count) rest in
    let long : length front ≡ count = ap length copied ∙ length-take-le count left (omega arith) in
    let buffer = front ++ drop count into in
    let in_front : take count buffer ≡ front = subst (λ n. take n (front ++ drop count into) ≡ front) long (take-append_seam front (drop count into)) in
    let parts = length-append front (drop count into) in
    let after = length-drop count into in
    let same : length buffer ≡ length into = omega arith in
    let taken : take count left ≡ take count buffer = sym (in_front ∙ copied) in
    record {
      fills = fills ∙ ap (min (length left)) (sym same);
      next = sym (take-append-drop count left) ∙ (ap (λ l. l ++ drop count left) taken ∙ ap (λ l. take count buffer ++ l) (drop-drop count place bytes));
      read = take-add place count bytes ∙ ap (λ l. take place bytes ++ l) taken;
    }
