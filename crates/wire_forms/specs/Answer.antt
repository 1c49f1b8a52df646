-- The answer of mysql_native_password to a scramble (MySQL source documentation, Native Authentication, Authentication::NativePassword41).
use Rattle.std.specs.Prelude.{ℕ, List, ◌++◌, map, zip, bit_xor}
use Rattle.sha1.specs.Sha1.{sha1}

-- two texts of one length, byte by byte
abbrev pub xor_of : List ℕ → List ℕ → List ℕ
xor_of xs ys = map (λ (pair : ℕ × ℕ). bit_xor pair.0 pair.1) (zip xs ys)

-- SHA1(password) XOR SHA1(scramble, SHA1(SHA1(password)))
abbrev pub native_answer : List ℕ → List ℕ → List ℕ
native_answer password scramble = xor_of (sha1 password) (sha1 (scramble ++ sha1 (sha1 password)))
