-- What a parse answers, as what is meant.
use Rattle.std.proofs.Common.{◌≡◌, ◌∙◌, ◌≢◌, ◌⊎◌, ◌&&◌, Bool, true, false, List, [], ◌∷◌, ℕ, Ok, Err, ap, sym, refl, inl, inr, subst}
use Rattle.clap.specs.Words.{App, HasKind, HasMatchesOf, IsAmong, Kinds, Row, fault_of, is_simple, is_simple_and_free, kind_of, matches_of}
use Rattle.clap.specs.declared.error.Error.{Error}
use Rattle.clap.specs.declared.error.kind.ErrorKind.{ErrorKind}
use Rattle.clap.specs.declared.error.kind.ErrorKind.TheVariants as kind
use Rattle.clap.specs.declared.parser.matches.ArgMatches.{ArgMatches}
use Rattle.command_words.specs.Meant.{FailsAsMeant}
use Rattle.command_words.specs.Matches.{matched, found_rows, unless_refused}
use Rattle.command_words.specs.declared.fault.WordsFault.{WordsFault}
use Rattle.command_words.specs.declared.fault.WordsFault.TheVariants.{NotRead, OutOfMemory}

first_true : (a b : Bool) → (a && b) ≡ true → a ≡ true
first_true true b both = refl
first_true false b both = both

matched-is : (command : App) (words : List (List ℕ)) → matched command words ≡ unless_refused (fault_of command words) (matches_of command words)
unfolding matched
matched-is command words = refl

none_refused : (kinds : Kinds) (rows found : List Row) → kinds ≡ [] → found ≡ rows → unless_refused kinds rows ≡ Ok found
none_refused kinds rows found none same = subst (λ (k : Kinds). unless_refused k rows ≡ Ok found) (sym none) (ap Ok (sym same))

-- clap answers with matches only where it finds no fault, and these are the command's
pub found_as_meant : (made command : App) (words : List (List ℕ)) (found : ArgMatches) → made ≡ command → is_simple_and_free command ≡ true
    → fault_of made words ≡ [] → HasMatchesOf made words found → matched command words ≡ Ok (found_rows found)
found_as_meant made command words found same free none has =
    let simple : is_simple made ≡ true = subst (λ (a : App). is_simple a ≡ true) (sym same) (first_true (is_simple command) _ free) in
    subst (λ (a : App). matched a words ≡ Ok (found_rows found)) same
    (matched-is made words ∙ none_refused (fault_of made words) (matches_of made words) (found_rows found) none (has simple).0)

some_refused : (kinds : Kinds) (rows : List Row) (k : ErrorKind) → IsAmong k kinds → unless_refused kinds rows ≡ Err NotRead
some_refused [] rows k among = absurd among
some_refused (x ∷ xs) rows k among = refl

refused_as : (kinds : Kinds) (rows : List Row) (e : Error) (fault : WordsFault)
    → HasKind kinds e → (fault ≡ OutOfMemory) ⊎ ((fault ≡ NotRead) × (kind_of e ≢ kind.OutOfMemory))
    → FailsAsMeant (unless_refused kinds rows) fault
refused_as kinds rows e fault has (inl memory) = inl memory
refused_as kinds rows e fault (inl memory) (inr other) = absurd (other.1 memory)
refused_as kinds rows e fault (inr among) (inr other) = inr (some_refused kinds rows (kind_of e) among ∙ ap Err (sym other.0))

-- and with a fault that isn't memory's only where it finds one
pub fails_as_meant : (made command : App) (words : List (List ℕ)) (e : Error) (fault : WordsFault) → made ≡ command
    → HasKind (fault_of made words) e → (fault ≡ OutOfMemory) ⊎ ((fault ≡ NotRead) × (kind_of e ≢ kind.OutOfMemory))
    → FailsAsMeant (matched command words) fault
fails_as_meant made command words e fault same has answer =
    subst (λ (a : App). FailsAsMeant (matched a words) fault) same
    (subst (λ r. FailsAsMeant r fault) (sym (matched-is made words)) (refused_as (fault_of made words) (matches_of made words) e fault has answer))
