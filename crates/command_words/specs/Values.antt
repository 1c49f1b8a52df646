-- What the options of a command line give, by the rows that clap finds.
use Rattle.std.specs.Prelude.{ℕ, Bool, false, List, Option, Some, None, Result, Ok, bytes_eq, codes, ok_or, unwrap_or}
use Rattle.std.specs.Option.{option_map_or}
use Rattle.clap.specs.Words.{Row, first_of}
use Rattle.command_words.specs.Meant.{and_then}
use Rattle.command_words.specs.Numbers.{number_in}
use Rattle.command_words.specs.declared.fault.WordsFault.{WordsFault}
use Rattle.command_words.specs.declared.fault.WordsFault.TheVariants.{NotRead}

-- the value of an option, or a default
abbrev pub text_or : List Row → List ℕ → List ℕ → List ℕ
text_or rows name default = unwrap_or (first_of name rows) default

-- the value of an option that has to be given
abbrev pub required_value : List Row → List ℕ → Result (List ℕ) WordsFault
required_value rows name = ok_or (first_of name rows) NotRead

-- the value that clap gives a flag is `true` where the flag is given, and else `false`
abbrev pub is_set : List Row → List ℕ → Bool
is_set rows name = option_map_or (λ value. bytes_eq value (codes "true")) (first_of name rows) false

-- the number of an option, from `least` to `most`, or a default
abbrev pub number_or : List Row → List ℕ → ℕ → ℕ → ℕ → Result ℕ WordsFault
number_or rows name least most default =
    option_map_or (number_in least most) (first_of name rows) (Ok default)

-- the number of an option, where it is given
abbrev pub optional_number : List Row → List ℕ → ℕ → ℕ → Result (Option ℕ) WordsFault
optional_number rows name least most = option_map_or
    (λ text. and_then (number_in least most text) (λ number. Ok (Some number)))
    (first_of name rows) (Ok None)
