-- Bytes that are UTF-8 to their end.
use Rattle.std.proofs.Common.{◌≡◌, ◌==◌, true, ℕ, List, length, IsUtf8, arith}
use Rattle.std.proofs.lemmas.Str.{utf8_valid_len-IsUtf8}
use Rattle.std.proofs.lemmas.Bool.Decides.{nat_tests}
use Rattle.std.specs.Str.Lossy.{utf8_valid_len}

pub valid_whole : (bytes : List ℕ) → IsUtf8 bytes → (utf8_valid_len bytes == length bytes) ≡ true
valid_whole bytes is = let e = utf8_valid_len-IsUtf8 bytes is in grind (arith, nat_tests)
