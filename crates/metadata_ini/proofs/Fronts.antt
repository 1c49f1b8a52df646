-- Where a text leaves `metadata`: the lines before that, and the line that doesn't go on.
use Rattle.std.proofs.Common.{◌≡◌, ◌≢◌, ◌⊎◌, ℕ, ◌+◌, ◌<◌, List, [], ◌∷◌, ◌++◌, length, Option, IfSome, refl, sym, ◌∙◌, ap, subst, arith, append_assoc, append-nil, codes, pos}
use Rattle.std.specs.List.{AllByRecursion, flat_map}
use Rattle.std.proofs.lemmas.Int.{ints}
use Rattle.jiff_core.proofs.CalendarLemmas.{day_count-epoch, days_from_civil-day_count}
use Rattle.server_data.specs.declared.data.Position.{Position}
use Rattle.folder_forms.specs.Metadata.{BeginsMetadata, HasMetadata, HasPositionLines, IsBadLine, IsMetadata, IsTimeText, ended, lines_of, year_9999}
use Rattle.folder_forms.specs.declared.metadata.Metadata.{Metadata}
use Rattle.folder_forms.specs.declared.moment.Moment.{Moment}
use Rattle.metadata_ini.proofs.CleanLines.{Clean, metadata_clean}
use Rattle.metadata_ini.proofs.CutTexts.{same_cut}
use Rattle.metadata_ini.proofs.Days.{before_9999}
use Rattle.metadata_ini.proofs.TableLists.{has_tables}

-- lines that begin others

-- of lines with one text, what follows the first of them
pub record Following (lines before : List (List ℕ)) (rest : List ℕ) : Type 0 where
  pub more : List (List ℕ)
  pub is : lines ≡ before ++ more
  pub text : flat_map ended more ≡ rest

ended_cons : (line rest : List ℕ) → ended line ++ rest ≡ line ++ 10 ∷ rest
ended_cons line rest = append_assoc line (10 ∷ []) rest

no_lines : (line : List ℕ) (a b : List ℕ) → [] ≡ ended line ++ a ++ b → ⊥
no_lines [] a b e = omega (arith, ap length e)
no_lines (c ∷ line) a b e = omega (arith, ap length e)

pub following : (lines before : List (List ℕ)) (rest : List ℕ) → AllByRecursion Clean lines → AllByRecursion Clean before → flat_map ended lines ≡ flat_map ended before ++ rest → Following lines before rest
following lines [] rest h k e = record { more = lines; is = refl; text = e }
following [] (b ∷ before) rest h k e = absurd (no_lines b (flat_map ended before) rest e)
following (l ∷ lines) (b ∷ before) rest h k e =
    let cut = same_cut 10 l b (flat_map ended lines) (flat_map ended before ++ rest) h.0 k.0
    (sym (ended_cons l (flat_map ended lines)) ∙ e ∙ append_assoc (ended b) (flat_map ended before) rest ∙ ended_cons b (flat_map ended before ++ rest)) in
    let tail = following lines before rest h.1 k.1 cut.1 in
    record { more = tail.more; is = (λ i. cut.0 i ∷ tail.is i); text = tail.text }

pub front_clean : (before more : List (List ℕ)) → AllByRecursion Clean (before ++ more) → AllByRecursion Clean before
front_clean [] more all = tt
front_clean (b ∷ before) more all = (all.0, front_clean before more all.1)

-- A line that doesn't go on.
pub refused : (text : List ℕ) (before : List (List ℕ)) (rest : List ℕ) (Good : List ℕ → Type 0) → text ≡ flat_map ended before ++ rest → BeginsMetadata before
    → ((line : List ℕ) (more : List (List ℕ)) (value : Metadata) → IsMetadata (before ++ line ∷ more) value → Good line)
    → (rest ≡ [] → (value : Metadata) → ¬ IsMetadata before value)
    → ((line after : List ℕ) → Good line → rest ≢ ended line ++ after)
    → IsBadLine text (length before + 1)
refused text before rest Good divided front next ends bad = record {
  before = before;
  rest = rest;
  divided = divided;
  is = refl;
  front = front;
  stops = λ line after there begun. bad line after (next line begun.more begun.value (subst (λ l. IsMetadata l begun.value) (append_assoc before (line ∷ []) begun.more) begun.is)) there;
  none = λ value says.
      let f = following says.lines before rest (metadata_clean says.lines value says.are) (front_clean before front.more (metadata_clean (before ++ front.more) front.value front.is)) (sym says.is ∙ divided) in
      at f.more value (subst (λ l. IsMetadata l value) f.is says.are) f.text;
} where
  at : (more : List (List ℕ)) (value : Metadata) → IsMetadata (before ++ more) value → flat_map ended more ≡ rest → ⊥
  at [] value says e = ends (sym e) value (subst (λ l. IsMetadata l value) (append-nil before) says)
  at (line ∷ more) value says e = bad line (flat_map ended more) (next line more value says) (sym e)

-- values that lines begin

pub whole : (value : Metadata) (started finished : List ℕ) → HasMetadata value → IsTimeText started value.started → IsTimeText finished value.finished
    → IsMetadata (lines_of value started finished (has_tables value.files).tables) value
whole value started finished may s f = record {
  may_be = may;
  started_text = started;
  finished_text = finished;
  tables = (has_tables value.files).tables;
  started = s;
  finished = f;
  tables_are = (has_tables value.files).are;
  are = refl;
}

-- the value of these parts, without files
abbrev pub empty_value : ℕ → ℕ → ℕ → Option Position → Metadata
empty_value version started finished position = record { version = version; started = started; finished = finished; position = position; files = [] }

time_low : (text : List ℕ) (seconds : ℕ) → IsTimeText text seconds → seconds < year_9999
time_low text seconds time = before_9999 time.moment seconds time.real time.value

pub empty_has : (version started finished : ℕ) (position : Option Position) (s f : List ℕ) → (version ≡ 1) ⊎ (version ≡ 2) → IsTimeText s started → IsTimeText f finished → IfSome position HasPositionLines
    → HasMetadata (empty_value version started finished position)
empty_has version started finished position s f known t u may = record {
  version = known;
  started = time_low s started t;
  finished = time_low f finished u;
  position = may;
  files = λ k d low. absurd (omega (arith, low));
  order = λ i j d low within. absurd (omega (arith, within));
}

-- the first moment
epoch : Moment
epoch = record { year = 1970; month = 1; day = 1; hour = 0; minute = 0; second = 0 }

abbrev pub epoch_text : List ℕ
epoch_text = codes "1970-01-01T00:00:00Z"

pub epoch_time : IsTimeText epoch_text 0
unfolding epoch
epoch_time = record {
  moment = epoch;
  is = refl;
  real = record { date = ((omega (arith, ints), omega (arith, ints)), (omega arith, omega arith), (omega arith, omega arith)); years = (omega arith, omega arith); hours = omega arith; minutes = omega arith; seconds = omega arith };
  value = omega (arith, ints, day_count-epoch, days_from_civil-day_count (pos 1970) 1 1);
}
