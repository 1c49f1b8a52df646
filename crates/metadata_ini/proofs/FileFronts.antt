-- The lines of files and of tables: what they say, and where a text leaves them.
use Rattle.std.proofs.Common.{◌≡◌, ◌≢◌, ℕ, ◌+◌, List, [], ◌∷◌, ◌++◌, length, drop, map, refl, sym, ◌∙◌, ap, subst, arith, append_assoc, append-nil, length-append}
use Rattle.std.specs.List.{All, AllByRecursion, flat_map}
use Rattle.std.proofs.lemmas.List.Elements.{All-push, All-nil}
use Rattle.folder_forms.specs.Metadata.{HasFileLine, ended, file_line}
use Rattle.folder_forms.specs.declared.metadata.FileLine.{FileLine}
use Rattle.metadata_ini.specs.Cut.{IsCut, Lacks}
use Rattle.metadata_ini.specs.Line.{IsFileLine, IsNoFileLine}
use Rattle.metadata_ini.specs.Reading.{HasFiles, LeavesLines}
use Rattle.metadata_ini.proofs.Appended.{flat_more}
use Rattle.metadata_ini.proofs.CleanLines.{Clean, file_clean}
use Rattle.metadata_ini.proofs.CutTexts.{same_cut, lacks_all}

pub ended_cons : (line rest : List ℕ) → ended line ++ rest ≡ line ++ 10 ∷ rest
ended_cons line rest = append_assoc line (10 ∷ []) rest

-- files that were read

pub record FilesSoFar (text : List ℕ) (files : List FileLine) (rest : List ℕ) : Type 0 where
  pub may_be : All HasFileLine files
  pub is : text ≡ flat_map ended (map file_line files) ++ rest

map_push : (files : List FileLine) (file : FileLine) → map file_line (files ++ file ∷ []) ≡ map file_line files ++ file_line file ∷ []
map_push [] file = refl
map_push (f ∷ files) file = ap (λ l. file_line f ∷ l) (map_push files file)

pub no_files_yet : (text : List ℕ) → FilesSoFar text [] text
no_files_yet text = record { may_be = All-nil HasFileLine; is = refl }

pub file_more : (text : List ℕ) (files : List FileLine) (rest line after : List ℕ) (file : FileLine) → FilesSoFar text files rest → IsCut 10 rest line after → IsFileLine line file → FilesSoFar text (files ++ file ∷ []) after
file_more text files rest line after file so_far cut is = record {
  may_be = All-push HasFileLine files file so_far.may_be is.may_be;
  is = so_far.is ∙ ap (λ l. flat_map ended (map file_line files) ++ l) (cut.is ∙ sym (ended_cons line after) ∙ ap (λ l. ended l ++ after) is.is)
      ∙ sym (append_assoc (flat_map ended (map file_line files)) (ended (file_line file)) after) ∙ ap (λ l. l ++ after) (sym (ap (flat_map ended) (map_push files file) ∙ flat_more ended (map file_line files) (file_line file)));
}

line_is : (rest line after other more : List ℕ) (file : FileLine) → IsCut 10 rest line after → rest ≡ ended other ++ more → IsFileLine other file → line ≡ other
line_is rest line after other more file cut e is =
    (same_cut 10 line other after more cut.first (subst Clean (sym is.is) (file_clean file is.may_be)) (sym cut.is ∙ e ∙ ended_cons other more)).0

pub files_end : (text : List ℕ) (files : List FileLine) (rest : List ℕ) → FilesSoFar text files rest → Lacks 10 rest → HasFiles text files rest
files_end text files rest so_far lacks = record { may_be = so_far.may_be; is = so_far.is; stops = λ line after file e is. lacks_all 10 rest line after lacks (e ∙ ended_cons line after) }

pub files_stop : (text : List ℕ) (files : List FileLine) (rest line after : List ℕ) → FilesSoFar text files rest → IsCut 10 rest line after → IsNoFileLine line → HasFiles text files rest
files_stop text files rest line after so_far cut none = record {
  may_be = so_far.may_be;
  is = so_far.is;
  stops = λ other more file e is. none file (subst (λ l. IsFileLine l file) (sym (line_is rest line after other more file cut e is)) is);
}

-- lines that were compared

pub record Compared (lines : List (List ℕ)) (text left rest : List ℕ) (count : ℕ) : Type 0 where
  pub before : List (List ℕ)
  pub further : List (List ℕ)
  pub divided : lines ≡ before ++ further
  pub is : count ≡ length before
  pub left_is : left ≡ flat_map ended further
  pub text_is : text ≡ flat_map ended before ++ rest

pub none_compared : (lines : List (List ℕ)) (wanted text : List ℕ) → wanted ≡ flat_map ended lines → Compared lines text wanted text 0
none_compared lines wanted text is = record { before = []; further = lines; divided = refl; is = refl; left_is = is; text_is = refl }

-- what is left begins with the line that is left
first_left : (line further : List ℕ) (left : List ℕ) (x : List ℕ) (xs : List (List ℕ)) → IsCut 10 left line further → Clean x → left ≡ flat_map ended (x ∷ xs) → (line ≡ x) × (further ≡ flat_map ended xs)
first_left line further left x xs cut clean is = same_cut 10 line x further (flat_map ended xs) cut.first clean (sym cut.is ∙ is ∙ ended_cons x (flat_map ended xs))

all_left : (lines before further : List (List ℕ)) → lines ≡ before ++ further → AllByRecursion Clean lines → AllByRecursion Clean further
all_left lines [] further is all = subst (AllByRecursion Clean) is all
all_left [] (b ∷ before) further is all = absurd (omega (arith, ap length is))
all_left (l ∷ lines) (b ∷ before) further is all = all_left lines before further (ap (drop 1) is) all.1

pub empty_text : (t : List ℕ) → length t ≡ 0 → t ≡ []
empty_text [] e = refl
empty_text (c ∷ t) e = absurd (omega (arith, e))

nothing_left : (further : List (List ℕ)) (left : List ℕ) → left ≡ flat_map ended further → length left ≡ 0 → further ≡ []
nothing_left [] left is none = refl
nothing_left (x ∷ xs) left is none = absurd (omega (arith, none, ap length is, length-append (ended x) (flat_map ended xs), length-append x (10 ∷ [])))

lacks_some : (a b : List ℕ) → a ++ 10 ∷ b ≡ [] → ⊥
lacks_some [] b e = omega (arith, ap length e)
lacks_some (x ∷ a) b e = omega (arith, ap length e)

module _ (lines : List (List ℕ)) (text left rest : List ℕ) (count : ℕ) (c : Compared lines text left rest count) where
  -- a line that differs
  pub other_found : (line further : List ℕ) → AllByRecursion Clean lines → IsCut 10 left line further → ((after : List ℕ) → rest ≢ ended line ++ after) → LeavesLines lines text count
  other_found line further all cut other = record {
    before = c.before;
    left = c.further;
    rest = rest;
    divided = c.divided;
    is = c.is;
    text_is = c.text_is;
    other = λ x xs after is e.
        let clean : Clean x = (subst (AllByRecursion Clean) is (all_left lines c.before c.further c.divided all)).0 in
        other after (e ∙ ap (λ l. ended l ++ after) (sym (first_left line further left x xs cut clean (c.left_is ∙ ap (flat_map ended) is)).0));
    longer = λ none e. lacks_some line further (sym cut.is ∙ c.left_is ∙ ap (flat_map ended) none);
  }

  pub line_compared : (line further after : List ℕ) → AllByRecursion Clean lines → IsCut 10 left line further → rest ≡ ended line ++ after → Compared lines text further after (count + 1)
  line_compared line further after all cut same = by c.further refl where
    by : (xs : List (List ℕ)) → c.further ≡ xs → Compared lines text further after (count + 1)
    by [] is = absurd (lacks_some line further (sym cut.is ∙ c.left_is ∙ ap (flat_map ended) is))
    by (x ∷ xs) is =
        let clean : Clean x = (subst (AllByRecursion Clean) is (all_left lines c.before c.further c.divided all)).0 in
        let parts = first_left line further left x xs cut clean (c.left_is ∙ ap (flat_map ended) is) in
        record {
          before = c.before ++ x ∷ [];
          further = xs;
          divided = c.divided ∙ ap (λ l. c.before ++ l) is ∙ sym (append_assoc c.before (x ∷ []) xs);
          is = omega (arith, c.is, length-append c.before (x ∷ []));
          left_is = parts.1;
          text_is = c.text_is ∙ ap (λ l. flat_map ended c.before ++ l) (same ∙ ap (λ l. ended l ++ after) parts.0) ∙ sym (append_assoc (flat_map ended c.before) (ended x) after) ∙ ap (λ l. l ++ after) (sym (flat_more ended c.before x));
        }

  -- all lines are the same
  pub all_compared : length left ≡ 0 → length rest ≡ 0 → text ≡ flat_map ended lines
  all_compared none end =
      let no_further : c.further ≡ [] = nothing_left c.further left c.left_is none in
      c.text_is ∙ ap (λ l. flat_map ended c.before ++ l) (empty_text rest end) ∙ append-nil (flat_map ended c.before)
      ∙ ap (flat_map ended) (sym (c.divided ∙ ap (λ l. c.before ++ l) no_further ∙ append-nil c.before))

  pub text_left : length left ≡ 0 → (length rest ≡ 0 → ⊥) → LeavesLines lines text count
  text_left none some =
      let no_further : c.further ≡ [] = nothing_left c.further left c.left_is none in
      record {
        before = c.before;
        left = c.further;
        rest = rest;
        divided = c.divided;
        is = c.is;
        text_is = c.text_is;
        other = λ x xs after is e. omega (arith, ap length (sym no_further ∙ is));
        longer = λ is e. some (ap length e);
      }
