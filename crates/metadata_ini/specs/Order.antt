-- The order of files, as it is read.
use Rattle.std.specs.Prelude.{◌≡◌, ◌≤◌, nat_lt, ℕ, Bool, true, List, ◌∷◌, ◌++◌, length, take, Option, Some, None}
use Rattle.std.specs.List.{All, AllPairs}
use Rattle.folder_forms.specs.Metadata.{MayPrecede}
use Rattle.folder_forms.specs.declared.metadata.FileLine.{FileLine}

-- whether a number is greater than an earlier one, if there is one
abbrev pub rises : Option ℕ → ℕ → Bool
rises None number = true
rises (Some before) number = nat_lt before number

-- just so many files in front stand in their order
pub record InOrder (files : List FileLine) (number : ℕ) : Type 0 where
  pub within : number ≤ length files
  pub order : AllPairs MayPrecede (take number files)
  pub stops : (next : FileLine) (after : List FileLine) → files ≡ take number files ++ next ∷ after
      → ¬ All (λ file. MayPrecede file next) (take number files)
