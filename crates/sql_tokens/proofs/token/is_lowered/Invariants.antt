use Rattle.std.proofs.Common.{◌≡◌, drop, map}
use Rattle.std.specs.Char.{to_ascii_lowercase}
use Rattle.std.specs.Str.{bytes_eq}
use Rattle.sql_tokens.proofs.token.is_lowered.Given as goal

abbrev pub invariant-loop-i : goal.invariant-loop-i
invariant-loop-i l = bytes_eq (map to_ascii_lowercase (drop l.i l.bytes)) (drop l.i l.lower) ≡ bytes_eq (map to_ascii_lowercase l.bytes) l.lower
