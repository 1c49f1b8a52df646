-- Rows of a status.
use Rattle.std.proofs.Common.{◌≡◌, ◌≢◌, ℕ, ◌<◌, ◌≤◌, ◌^◌, length, slice_index_or, Some, None, arith, Bool, true, false, List, [], ◌∷◌, refl, ap, sym, ◌∙◌, subst, decimal, Result, Ok, Err}
use Rattle.std.specs.Prelude.{◌==◌, ◌&&◌, ◌||◌, not, cond, nat_lt}
use Rattle.std.proofs.lemmas.Bool.Decides.{Decides-ltb}
use Rattle.std.proofs.lemmas.Fmt.{IsAscii-decimal, parse-decimal}
use Rattle.std.proofs.lemmas.Str.{IsUtf8-from_ascii}
use Rattle.std.specs.List.{list_all}
use Rattle.std.specs.Prelude.{IsUtf8}
use Rattle.std.specs.Str.Parse.{ParsesUnsigned}
use Rattle.honest_server.specs.Answer.{without_line_feeds}
use Rattle.honest_server.specs.WellFormed.{can_be_written, is_visible}
use Rattle.plain_data.specs.Cell.{Cell}
use Rattle.server_data.specs.Select.{is_empty}
use Rattle.server_data.specs.declared.data.Position.{Position}
use Rattle.snapshot_handover.specs.Status.{SaysNoPosition, SaysPosition, are_written, is_file, is_visible_or_fed}

visible_step : (fed : Bool) (byte : ℕ) (made bytes : List ℕ) → list_all is_visible made ≡ list_all is_visible_or_fed bytes → list_all is_visible (cond (not fed) (byte ∷ made) made) ≡ ((fed || is_visible byte) && list_all is_visible_or_fed bytes)
visible_step true byte made bytes same = same
visible_step false byte made bytes same = ap (λ (b : Bool). is_visible byte && b) same

pub visible_without : (bytes : List ℕ) → list_all is_visible (without_line_feeds bytes) ≡ list_all is_visible_or_fed bytes
visible_without [] = refl
visible_without (byte ∷ bytes) = visible_step (byte == 10) byte (without_line_feeds bytes) bytes (visible_without bytes)

pub no_text : (text : List ℕ) → ¬ IsUtf8 text → (number : ℕ) → number < 2 ^ 64 → text ≢ decimal number
no_text text other number low is = other (subst IsUtf8 (sym is) (IsUtf8-from_ascii (decimal number) (IsAscii-decimal number low)))

pub no_decimal : {E : Type 0} (text : List ℕ) (fault : E) (r : Result ℕ E) → ParsesUnsigned 64 10 text r → r ≡ Err fault → (number : ℕ) → number < 2 ^ 64 → text ≢ decimal number
no_decimal text fault r parses is number low e = cc (parse-decimal 64 number text r low low e parses)

pub other_decimal : {E : Type 0} (text : List ℕ) (found : ℕ) (r : Result ℕ E) → ParsesUnsigned 64 10 text r → r ≡ Ok found → text ≢ decimal found → (number : ℕ) → number < 2 ^ 64 → text ≢ decimal number
other_decimal text found r parses is other number low e =
    let same : r ≡ Ok number = parse-decimal 64 number text r low low e parses in
    let one : number ≡ found = cc in
    other (e ∙ ap decimal one)

-- ---- what a row says

and_all : (a b c d : Bool) → (a && (b && (c && d))) ≡ true → ((a && b) && c) ≡ true
and_all true true true d e = refl
and_all true true false d e = e
and_all true false c d e = e
and_all false b c d e = e

all_and : (a b c d : Bool) → ((a && b) && c) ≡ true → d ≡ true → (a && (b && (c && d))) ≡ true
all_and true true true d e f = f
all_and true true false d e f = e
all_and true false c d e f = e
all_and false b c d e f = e

and_last : (a b c d : Bool) → (a && (b && (c && d))) ≡ true → d ≡ true
and_last true true true d e = e
and_last true true false d e = absurd (cc)
and_last true false c d e = absurd (cc)
and_last false b c d e = absurd (cc)

pub can_be_written_low : (position : Position) → can_be_written position ≡ true → position.offset < 2 ^ 64
can_be_written_low position written =
    (Decides-ltb position.offset (2 ^ 64)).0
    (and_last (not (is_empty position.file)) (list_all is_visible position.file) (list_all is_visible position.gtid) (nat_lt position.offset (2 ^ 64)) written)

pub says_status : (cells : List Cell) (file text gtid : List ℕ) (offset : ℕ) → 5 ≤ length cells
    → Some file ≡ slice_index_or cells 0 None → Some text ≡ slice_index_or cells 1 None → text ≡ decimal offset
    → Some gtid ≡ slice_index_or cells 4 None → are_written file gtid ≡ true → offset < 2 ^ 64
    → SaysPosition cells (record { file = file; offset = offset; gtid = without_line_feeds gtid })
says_status [] file text gtid offset long is_file_ is_text number is_gtid written low = absurd (omega (arith, long))
says_status (a ∷ []) file text gtid offset long is_file_ is_text number is_gtid written low = absurd (omega (arith, long))
says_status (a ∷ b ∷ []) file text gtid offset long is_file_ is_text number is_gtid written low = absurd (omega (arith, long))
says_status (a ∷ b ∷ c ∷ []) file text gtid offset long is_file_ is_text number is_gtid written low = absurd (omega (arith, long))
says_status (a ∷ b ∷ c ∷ d ∷ []) file text gtid offset long is_file_ is_text number is_gtid written low = absurd (omega (arith, long))
says_status (a ∷ b ∷ c ∷ d ∷ e ∷ more) file text gtid offset long is_file_ is_text number is_gtid written low = record {
  third = c;
  fourth = d;
  gtid = gtid;
  more = more;
  cells_are = cc;
  gtid_is = refl;
  written = all_and (not (is_empty file)) (list_all is_visible file) (list_all is_visible (without_line_feeds gtid)) _ (ap (λ (b : Bool). is_file file && b) (visible_without gtid) ∙ written) ((Decides-ltb offset (2 ^ 64)).1 low);
}

pub says_unwritten : (cells : List Cell) (file gtid : List ℕ) → Some file ≡ slice_index_or cells 0 None → Some gtid ≡ slice_index_or cells 4 None → are_written file gtid ≡ false → SaysNoPosition cells
says_unwritten cells file gtid is_file_ is_gtid written = λ position says.
    let same_file : file ≡ position.file = cc (ap (λ (l : List Cell). slice_index_or l 0 None) says.cells_are) in
    let same_gtid : gtid ≡ says.gtid = cc (ap (λ (l : List Cell). slice_index_or l 4 None) says.cells_are) in
    let is : are_written position.file says.gtid ≡ true = ap (λ (b : Bool). is_file position.file && b) (sym (visible_without says.gtid) ∙ ap (λ (l : List ℕ). list_all is_visible l) says.gtid_is) ∙ and_all (not (is_empty position.file)) (list_all is_visible position.file) (list_all is_visible position.gtid) (nat_lt position.offset (2 ^ 64)) says.written in
    let no : are_written position.file says.gtid ≡ false = ap (λ (l : List ℕ). are_written l says.gtid) (sym same_file) ∙ ap (λ (l : List ℕ). are_written file l) (sym same_gtid) ∙ written in
    cc
