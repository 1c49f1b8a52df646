-- What a buffer shows.
use Rattle.std.specs.Prelude.{ℕ, List}

-- its bytes, and how many more it takes without asking for memory
pub record BufferView : Type 0 where
  pub bytes : List ℕ
  pub spare : ℕ
