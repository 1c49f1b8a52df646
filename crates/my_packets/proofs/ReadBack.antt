-- A length-encoded integer is read as the number that was written.
use Rattle.std.proofs.Common.{◌≡◌, ◌<◌, ◌^◌, ℕ, List, ◌++◌, length, Some, arith}
use Rattle.std.proofs.lemmas.Bool.Decides.{nat_tests}
use Rattle.std.proofs.lemmas.Nat.{from_le_bytes-to_le_bytes_8}
use Rattle.wire_forms.specs.Lenenc.{lenenc, lenenc_of}

pub read_back : (n : ℕ) (rest : List ℕ) → n < 2 ^ 64 → lenenc_of (lenenc n ++ rest) ≡ Some (n, length (lenenc n))
read_back n rest fits = let eight = from_le_bytes-to_le_bytes_8 n fits in grind (arith, nat_tests)
