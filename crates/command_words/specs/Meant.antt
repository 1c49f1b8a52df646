-- What a reading means, and what a call answers that only memory can refuse besides.
use Rattle.std.specs.Prelude.{◌≡◌, ◌⊎◌, List, [], ◌∷◌, Result, Ok, Err, MatchResult}
use Rattle.command_words.specs.declared.fault.WordsFault.{WordsFault}
use Rattle.command_words.specs.declared.fault.WordsFault.TheVariants.{OutOfMemory}

-- the fault is the one that is meant, or memory ran out
abbrev pub FailsAsMeant : {T : Type 0} → Result T WordsFault → WordsFault → Type 0
FailsAsMeant meant fault = (fault ≡ OutOfMemory) ⊎ (meant ≡ Err fault)

-- the answer is seen as the one that is meant, or memory ran out
abbrev pub IsSeenAsMeant : {T U : Type 0} → (T → U) → Result U WordsFault → Result T WordsFault →
    Type 0
IsSeenAsMeant seen meant result =
    MatchResult result (λ made. meant ≡ Ok (seen made)) (FailsAsMeant meant)

-- the answer is the one that is meant, or memory ran out
abbrev pub IsAsMeant : {T : Type 0} → Result T WordsFault → Result T WordsFault → Type 0
IsAsMeant meant result = IsSeenAsMeant (λ made. made) meant result

-- what a second reading makes of what a first one gives
abbrev pub and_then : {T U : Type 0} → Result T WordsFault → (T → Result U WordsFault) →
    Result U WordsFault
and_then (Ok found) read = read found
and_then (Err fault) read = Err fault

-- each is read in turn, up to the first that isn't
abbrev pub each : {T U : Type 0} → (T → Result U WordsFault) → List T → Result (List U) WordsFault
each read [] = Ok []
each read (first ∷ rest) =
    and_then (read first) (λ made. and_then (each read rest) (λ others. Ok (made ∷ others)))
