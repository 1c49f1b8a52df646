-- How many bytes stand before a 00.
use Rattle.std.proofs.Common.{◌≡◌, ℕ, ◌≤◌, ◌==◌, not, List, length, unwrap_or, arith}
use Rattle.std.specs.Prelude.{position}
use Rattle.std.proofs.lemmas.List.Sums.{prefix_len-le-length}
use Rattle.wire_forms.specs.Texts.{text_size}

pub size_within : (bytes : List ℕ) → text_size bytes ≤ length bytes
size_within bytes = prefix_len-le-length (λ byte. not (byte == 0)) bytes

pub size_found : (bytes : List ℕ) → unwrap_or (position (λ byte. byte == 0) bytes) (length bytes) ≡ text_size bytes
size_found bytes = grind (arith, size_within bytes)
