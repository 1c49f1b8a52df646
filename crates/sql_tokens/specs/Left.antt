-- What is left of a text after some of its tokens.
use Rattle.std.specs.Prelude.{◌≡◌, ℕ, List}
use Rattle.object_forms.specs.Token.{left_after}

-- the rest of a text is what is left after some of its tokens
pub record IsLeft (text rest : List ℕ) : Type 0 where
  pub count : ℕ
  pub is : left_after count text ≡ rest
