-- Options that are equal.
use Rattle.std.proofs.Common.{◌≡◌, Some}

pub same_some : {X : Type 0} {x y : X} → Some x ≡ Some y → x ≡ y
same_some e = cc
