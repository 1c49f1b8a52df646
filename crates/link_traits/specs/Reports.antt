-- What a sink is told, and what a clock gives.
use Rattle.std.specs.Prelude.{◌≡◌, ℕ, List, [], ◌∷◌, ◌++◌, take, Result, IfOk, OnOk, OnErr}

-- all of these bytes were written, or at a failure a front of them
pub record Reports {T E : Type 0} (old bytes : List ℕ) (result : Result T E)
    (new : List ℕ) : Type 0 where
  pub ok : OnOk result (new ≡ old ++ bytes)
  pub err : OnErr result ((count : ℕ) × (new ≡ old ++ take count bytes))

-- a moment was given, or at a failure none
pub record GivesMoment {E : Type 0} (old : List ℕ) (result : Result ℕ E)
    (new : List ℕ) : Type 0 where
  pub ok : IfOk result (λ moment. new ≡ old ++ moment ∷ [])
  pub err : OnErr result (new ≡ old)
