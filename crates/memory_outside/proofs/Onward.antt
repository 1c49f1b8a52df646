-- Laws of the calls that take bytes: what was taken is no longer there.
use Rattle.std.proofs.Common.{◌≡◌, ℕ, ◌+◌, ◌≤◌, length, List, ◌++◌, take, min, ap, ◌∙◌, arith}
use Rattle.std.proofs.lemmas.List.{length-append, length-take-le}
use Rattle.link_traits.specs.Contents.{OpenFile}
use Rattle.link_traits.specs.Link.{Told, TakesOffAsTold, IsWithin}
use Rattle.memory_outside.specs.Memory.{TakesFront}

-- so many bytes of a list stand in front of the others
front_length : (bytes front others : List ℕ) (count : ℕ) → count ≤ length front → bytes ≡ take count front ++ others → length bytes ≡ count + length others
front_length bytes front others count fits is =
    ap length is ∙ length-append (take count front) others ∙ ap (λ n. n + length others) (length-take-le count front fits)

-- after a read as many bytes fewer are left as were read
pub read_goes_on : (old : OpenFile) (buffer : List ℕ) (count : ℕ) (new : OpenFile) → TakesFront old buffer count new → length old.left ≡ count + length new.left
read_goes_on old buffer count new takes =
    let fills : count ≡ min (length old.left) (length buffer) = takes.fills in
    front_length old.left buffer new.left count (omega arith) takes.next

-- after bytes were received as many fewer wait, and at least one fewer
pub recv_goes_on : (old : Told) (buffer : List ℕ) (count : ℕ) (new : Told) → IsWithin buffer count → TakesOffAsTold old buffer count new → length old.waiting ≡ count + length new.waiting
recv_goes_on old buffer count new within takes =
    front_length old.waiting buffer new.waiting count within.fits takes.bytes
