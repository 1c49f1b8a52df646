-- A language of commas.
use Rattle.std.specs.Prelude.{[], ◌∷◌}
use Rattle.grammar.specs.Language.{Language, Many, Fixed}

-- any number of commas, one after the other
abbrev pub comma_texts : Language
comma_texts = Many (Fixed (44 ∷ []))
