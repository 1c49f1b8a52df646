-- What is done next in matching a pattern.
use Rattle.std.specs.Prelude.{ℕ, ◌==◌, ◌||◌, if◌then◌else◌, List, [], ◌∷◌}
use Rattle.server_model.specs.declared.pattern.Step.{Step}
use Rattle.server_model.specs.declared.pattern.Step.TheVariants.{Whole, Star, Byte, Miss, Short}

-- where nothing is left of the pattern, and this of the text
abbrev pub end_step : List ℕ → Step
end_step [] = Whole
end_step (first ∷ rest) = Miss

-- at a byte of the pattern that isn't a star
abbrev pub byte_step : ℕ → List ℕ → Step
byte_step byte [] = Short
byte_step byte (first ∷ rest) = if byte == 63 || byte == first then Byte else Miss

-- where this is left of the pattern and of the text
abbrev pub next_step : List ℕ → List ℕ → Step
next_step [] text = end_step text
next_step (byte ∷ pattern) text = if byte == 42 then Star else byte_step byte text
