-- The words of a command line.
use Rattle.std.specs.Prelude.{ℕ, ◌==◌, ◌&&◌, ◌||◌, not, nat_le, bytes_eq, Bool, true, false, List, [], ◌∷◌, length, Option, Some, None, codes}
use Rattle.std.specs.Option.{option_or}
use Rattle.std.specs.List.{list_all}
use Rattle.plain_data.specs.Byte.{is_digit}

-- the account and its password, the schema and the table that are named, and the folder's path
pub record Asked : Type 0 where
  pub user : List ℕ
  pub password : List ℕ
  pub schema : List ℕ
  pub table : List ℕ
  pub path : List ℕ

-- a letter, a digit or `_` of ASCII
abbrev pub is_name_byte : ℕ → Bool
is_name_byte byte =
    (nat_le 97 byte && nat_le byte 122) ||
    ((nat_le 65 byte && nat_le byte 90) || (is_digit byte || byte == 95))

-- one to a hundred letters, digits and `_`
abbrev pub is_plain_word : List ℕ → Bool
is_plain_word word =
    nat_le 1 (length word) && nat_le (length word) 100 && list_all is_name_byte word

-- a password or a path isn't empty and doesn't begin with `-`
abbrev pub is_free_word : List ℕ → Bool
is_free_word [] = false
is_free_word (byte ∷ bytes) = not (byte == 45)

-- the four options that every command line has, in their order
abbrev pub are_options : List ℕ → List ℕ → List ℕ → List ℕ → Bool
are_options a b c d =
    bytes_eq a (codes "-u") && bytes_eq b (codes "-B") && bytes_eq c (codes "-T") && bytes_eq d
    (codes "-o")

-- the option of a password, and the password
abbrev pub is_password : List ℕ → List ℕ → Bool
is_password option password = bytes_eq option (codes "-p") && is_free_word password

-- each word has its form
abbrev pub are_words : Asked → Bool
are_words asked =
    is_plain_word asked.user && is_plain_word asked.schema && is_plain_word asked.table &&
    is_free_word asked.path

-- what is asked for, where the words have their forms
abbrev pub asked_if : Bool → Asked → Option Asked
asked_if true asked = Some asked
asked_if false asked = None

-- the eight words `-u USER -B SCHEMA -T TABLE -o PATH`
abbrev pub without_password : List (List ℕ) → Option Asked
without_password (a ∷ user ∷ b ∷ schema ∷ c ∷ table ∷ d ∷ path ∷ []) =
    asked_if (are_options a b c d && are_words
    (record { user = user; password = []; schema = schema; table = table; path = path }))
    (record { user = user; password = []; schema = schema; table = table; path = path })
without_password words = None

-- the same with `-p PASSWORD` after the user
abbrev pub with_password : List (List ℕ) → Option Asked
with_password (a ∷ user ∷ p ∷ password ∷ b ∷ schema ∷ c ∷ table ∷ d ∷ path ∷ []) =
    asked_if (are_options a b c d && is_password p password && are_words
    (record { user = user; password = password; schema = schema; table = table; path = path }))
    (record { user = user; password = password; schema = schema; table = table; path = path })
with_password words = None

-- exactly the eight words `-u USER -B SCHEMA -T TABLE -o PATH`, or ten with `-p PASSWORD` after the user
abbrev pub asked_of : List (List ℕ) → Option Asked
asked_of words = option_or (without_password words) (with_password words)
