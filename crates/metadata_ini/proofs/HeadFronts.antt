-- The lines up to the times: what they say, and where a text leaves them.
use Rattle.std.proofs.Common.{◌≡◌, ◌≢◌, ◌⊎◌, inl, inr, ℕ, ◌<◌, ◌≤◌, ◌^◌, List, [], ◌∷◌, ◌++◌, length, get_or, drop, None, refl, sym, ◌∙◌, ap, subst, arith, append_assoc, append-nil, decimal, codes}
use Rattle.std.specs.List.{flat_map}
use Rattle.folder_forms.specs.Metadata.{BeginsMetadata, IsTimeText, IsWrongVersion, ended}
use Rattle.metadata_ini.specs.Cut.{Lacks}
use Rattle.metadata_ini.specs.Fault.{IsMetadataFault}
use Rattle.metadata_ini.specs.Time.{IsNoTime}
use Rattle.metadata_ini.specs.declared.fault.MetadataFault.TheVariants.{BadLine}
use Rattle.metadata_ini.specs.declared.heads.Head.{Head}
use Rattle.metadata_ini.specs.Reading.{HasNoTimeLine, HasNoValueLine, IsHead, IsTimeLine, IsValueLine, IsVersion}
use Rattle.metadata_ini.proofs.Appended.{ended_line}
use Rattle.metadata_ini.proofs.CleanLines.{Clean, clean_decimal, clean_time}
use Rattle.metadata_ini.proofs.CutTexts.{same_cut, lacks_all}
use Rattle.metadata_ini.proofs.DecimalTexts.{same_decimals}
use Rattle.metadata_ini.proofs.Fronts.{refused, whole, empty_value, empty_has, epoch_time, epoch_text}

pub cancel : (word a b : List ℕ) → word ++ a ≡ word ++ b → a ≡ b
cancel [] a b e = e
cancel (c ∷ word) a b e = cancel word a b (ap (drop 1) e)

pub no_end : (word text rest : List ℕ) → text ≡ word ++ rest → Lacks 10 rest → HasNoValueLine word text
no_end word text rest is lacks value after clean e = lacks_all 10 rest value after lacks (cancel word rest (value ++ 10 ∷ after) (sym is ∙ e))

-- one value
pub same_value : (word text v a w b : List ℕ) → text ≡ word ++ (v ++ 10 ∷ a) → Clean v → text ≡ word ++ (w ++ 10 ∷ b) → Clean w → (v ≡ w) × (a ≡ b)
same_value word text v a w b p h q k = same_cut 10 v w a b h k (cancel word (v ++ 10 ∷ a) (w ++ 10 ∷ b) (sym p ∙ q))

pub no_time_line : (word text value after : List ℕ) → IsValueLine word text value after → IsNoTime value → HasNoTimeLine word text
no_time_line word text value after line none v a seconds time e =
    none seconds (subst (λ t. IsTimeText t seconds) (sym (same_value word text value after v a line.is line.one_line e (clean_time v seconds time)).0) time)

-- versions

small_version : (n : ℕ) → (n ≡ 1) ⊎ (n ≡ 2) → n < 2 ^ 32
small_version n (inl e) = omega (arith, e)
small_version n (inr e) = omega (arith, e)

clean_version : (n : ℕ) → n < 2 ^ 32 → Clean (decimal n)
clean_version n small = clean_decimal n (omega arith)

abbrev dump : List ℕ
dump = codes "[dump]"

abbrev version_line : ℕ → List ℕ
version_line n = codes "version=" ++ decimal n

-- what follows the first line begins with no version
abbrev pub NoVersion : List ℕ → Type 0
NoVersion rest = (n : ℕ) (after : List ℕ) → n < 2 ^ 32 → rest ≢ codes "version=" ++ (decimal n ++ 10 ∷ after)

pub no_version_line : (rest : List ℕ) → HasNoValueLine (codes "version=") rest → NoVersion rest
no_version_line rest none n after small e = none (decimal n) after (clean_version n small) e

pub no_version_number : (rest value after : List ℕ) → IsValueLine (codes "version=") rest value after → ((n : ℕ) → n < 2 ^ 64 → value ≢ decimal n) → NoVersion rest
no_version_number rest value after line none n a small e =
    none n (omega arith) (same_value (codes "version=") rest value after (decimal n) a line.is line.one_line e (clean_version n small)).0

pub large_version : (rest value after : List ℕ) (m : ℕ) → IsValueLine (codes "version=") rest value after → value ≡ decimal m → m < 2 ^ 64 → 2 ^ 32 ≤ m → NoVersion rest
large_version rest value after m line is low large n a small e =
    let same : m ≡ n = same_decimals m n low (omega arith) (sym is ∙ (same_value (codes "version=") rest value after (decimal n) a line.is line.one_line e (clean_version n small)).0) in
    omega (arith, same)

-- what follows the first line of a text of another version
wrong_rest : (text rest : List ℕ) (n : ℕ) → text ≡ codes "[dump]\n" ++ rest → (w : IsWrongVersion text n) → rest ≡ codes "version=" ++ (decimal n ++ 10 ∷ w.rest)
wrong_rest text rest n is w =
    ap (drop 7) (sym is ∙ w.is ∙ append_assoc (ended dump) (ended (version_line n)) w.rest) ∙ ended_line (codes "version=") (decimal n) w.rest

begins_none : BeginsMetadata []
begins_none = record { more = _; value = empty_value 1 0 0 None; is = whole (empty_value 1 0 0 None) epoch_text epoch_text (empty_has 1 0 0 None epoch_text epoch_text (inl refl) epoch_time epoch_time tt) epoch_time epoch_time }

begins_dump : BeginsMetadata (dump ∷ [])
begins_dump = record { more = _; value = empty_value 1 0 0 None; is = whole (empty_value 1 0 0 None) epoch_text epoch_text (empty_has 1 0 0 None epoch_text epoch_text (inl refl) epoch_time epoch_time tt) epoch_time epoch_time }

begins_version : (n : ℕ) → (n ≡ 1) ⊎ (n ≡ 2) → BeginsMetadata (dump ∷ version_line n ∷ [])
begins_version n known = record { more = _; value = empty_value n 0 0 None; is = whole (empty_value n 0 0 None) epoch_text epoch_text (empty_has n 0 0 None epoch_text epoch_text known epoch_time epoch_time tt) epoch_time epoch_time }

begins_started : (n seconds : ℕ) (s : List ℕ) → (n ≡ 1) ⊎ (n ≡ 2) → IsTimeText s seconds → BeginsMetadata (dump ∷ version_line n ∷ (codes "started=" ++ s) ∷ [])
begins_started n seconds s known time = record { more = _; value = empty_value n seconds 0 None; is = whole (empty_value n seconds 0 None) s epoch_text (empty_has n seconds 0 None s epoch_text known time epoch_time tt) time epoch_time }

-- the first line

pub bad_first : (text : List ℕ) → ((rest : List ℕ) → text ≢ codes "[dump]\n" ++ rest) → IsMetadataFault text (BadLine 1)
bad_first text none = (
  refused text [] text (λ line. line ≡ dump) refl begins_none (λ line more value is. ap (λ l. get_or l 0 []) is.are) (λ e value is. omega (arith, ap length is.are)) (λ line after good e. none after (e ∙ ap (λ l. ended l ++ after) good)),
  λ version wrong. none (ended (version_line version) ++ wrong.rest) (wrong.is ∙ append_assoc (ended dump) (ended (version_line version)) wrong.rest),
)

-- the second line

pub bad_version : (text rest : List ℕ) → text ≡ codes "[dump]\n" ++ rest → NoVersion rest → IsMetadataFault text (BadLine 2)
bad_version text rest is none = (
  refused text (dump ∷ []) rest (λ line. (n : ℕ) × (n < 2 ^ 32) × (line ≡ version_line n)) is begins_dump
      (λ line more value says. (value.version, small_version value.version says.may_be.version, ap (λ l. get_or l 1 []) says.are))
      (λ e value says. omega (arith, ap length says.are))
      (λ line after good e. none good.0 after good.1 (e ∙ ap (λ l. ended l ++ after) good.2 ∙ ended_line (codes "version=") (decimal good.0) after)),
  λ version wrong. none version wrong.rest wrong.size (wrong_rest text rest version is wrong),
)

pub wrong_version : (text rest value after : List ℕ) (n : ℕ) → text ≡ codes "[dump]\n" ++ rest → IsValueLine (codes "version=") rest value after → value ≡ decimal n → n < 2 ^ 32 → n ≢ 1 → n ≢ 2 → IsWrongVersion text n
wrong_version text rest value after n is line number small first second = record {
  rest = after;
  is = is ∙ ap (λ l. codes "[dump]\n" ++ l) (line.is ∙ ap (λ v. codes "version=" ++ (v ++ 10 ∷ after)) number ∙ sym (ended_line (codes "version=") (decimal n) after)) ∙ sym (append_assoc (ended dump) (ended (version_line n)) after);
  size = small;
  first = first;
  second = second;
}

pub version_found : (text rest value after : List ℕ) (n : ℕ) → text ≡ codes "[dump]\n" ++ rest → IsValueLine (codes "version=") rest value after → value ≡ decimal n → (n ≡ 1) ⊎ (n ≡ 2) → IsVersion text n after
version_found text rest value after n is line number known = record {
  known = known;
  is = is ∙ ap (λ l. codes "[dump]\n" ++ l) (line.is ∙ ap (λ v. codes "version=" ++ (v ++ 10 ∷ after)) number ∙ sym (ended_line (codes "version=") (decimal n) after)) ∙ sym (append_assoc (ended dump) (ended (version_line n)) after);
}

-- a text of a known version is of no other one
pub not_wrong : (text : List ℕ) (n : ℕ) (rest : List ℕ) → IsVersion text n rest → (m : ℕ) → ¬ IsWrongVersion text m
not_wrong text n rest v m wrong =
    let after : codes "version=" ++ (decimal n ++ 10 ∷ rest) ≡ codes "version=" ++ (decimal m ++ 10 ∷ wrong.rest) =
    sym (ended_line (codes "version=") (decimal n) rest) ∙ wrong_rest text (ended (version_line n) ++ rest) m (v.is ∙ append_assoc (ended dump) (ended (version_line n)) rest) wrong in
    let same = same_value (codes "version=") _ (decimal n) rest (decimal m) wrong.rest refl (clean_version n (small_version n v.known)) after (clean_version m wrong.size) in
    let one : n ≡ m = same_decimals n m (omega (arith, small_version n v.known)) (omega (arith, wrong.size)) same.0 in
    by v.known one where
      by : (n ≡ 1) ⊎ (n ≡ 2) → n ≡ m → ⊥
      by (inl e) one = wrong.first (sym one ∙ e)
      by (inr e) one = wrong.second (sym one ∙ e)

-- the times

record GoodTime (word line : List ℕ) : Type 0 where
  text : List ℕ
  seconds : ℕ
  is : line ≡ word ++ text
  time : IsTimeText text seconds

no_good : (word rest : List ℕ) → HasNoTimeLine word rest → (line after : List ℕ) → GoodTime word line → rest ≢ ended line ++ after
no_good word rest none line after good e = none good.text after good.seconds good.time (e ∙ ap (λ l. ended l ++ after) good.is ∙ ended_line word good.text after)

version_lines : (text : List ℕ) (n : ℕ) (rest : List ℕ) → IsVersion text n rest → text ≡ flat_map ended (dump ∷ version_line n ∷ []) ++ rest
version_lines text n rest v = v.is ∙ ap (λ l. ended dump ++ l ++ rest) (sym (append-nil (ended (version_line n))))

pub bad_started : (text : List ℕ) (n : ℕ) (rest : List ℕ) → IsVersion text n rest → HasNoTimeLine (codes "started=") rest → IsMetadataFault text (BadLine 3)
bad_started text n rest v none = (
  refused text (dump ∷ version_line n ∷ []) rest (GoodTime (codes "started=")) (version_lines text n rest v) (begins_version n v.known)
      (λ line more value says. record { text = says.started_text; seconds = value.started; is = ap (λ l. get_or l 2 []) says.are; time = says.started })
      (λ e value says. omega (arith, ap length says.are)) (no_good (codes "started=") rest none),
  not_wrong text n rest v,
)

started_lines : (text : List ℕ) (n : ℕ) (rest after : List ℕ) (seconds : ℕ) → IsVersion text n rest → (t : IsTimeLine (codes "started=") rest seconds after)
    → text ≡ flat_map ended (dump ∷ version_line n ∷ (codes "started=" ++ t.value) ∷ []) ++ after
started_lines text n rest after seconds v t =
    v.is ∙ ap (λ l. ended dump ++ ended (version_line n) ++ l) (t.is ∙ sym (ended_line (codes "started=") t.value after))
    ∙ regroup (ended dump) (ended (version_line n)) (ended (codes "started=" ++ t.value)) after where
      regroup : (a b c d : List ℕ) → a ++ b ++ (c ++ d) ≡ a ++ (b ++ (c ++ [])) ++ d
      regroup a b c d = sym (append_assoc (a ++ b) c d) ∙ ap (λ l. l ++ d) (append_assoc a b c ∙ ap (λ l. a ++ (b ++ l)) (sym (append-nil c)))

pub bad_finished : (text : List ℕ) (n : ℕ) (rest after : List ℕ) (seconds : ℕ) → IsVersion text n rest → IsTimeLine (codes "started=") rest seconds after → HasNoTimeLine (codes "finished=") after
    → IsMetadataFault text (BadLine 4)
bad_finished text n rest after seconds v t none = (
  refused text (dump ∷ version_line n ∷ (codes "started=" ++ t.value) ∷ []) after (GoodTime (codes "finished=")) (started_lines text n rest after seconds v t) (begins_started n seconds t.value v.known t.time)
      (λ line more value says. record { text = says.finished_text; seconds = value.finished; is = ap (λ l. get_or l 3 []) says.are; time = says.finished })
      (λ e value says. omega (arith, ap length says.are)) (no_good (codes "finished=") after none),
  not_wrong text n rest v,
)

pub head_found : (text : List ℕ) (head : Head) (rest middle after : List ℕ) → IsVersion text head.version rest → IsTimeLine (codes "started=") rest head.started middle
    → IsTimeLine (codes "finished=") middle head.finished after → IsHead text head after
head_found text head rest middle after v s f = record {
  version = v.known;
  started_text = s.value;
  finished_text = f.value;
  started = s.time;
  finished = f.time;
  is = started_lines text head.version rest middle head.started v s ∙ ap (λ l. flat_map ended (dump ∷ version_line head.version ∷ (codes "started=" ++ s.value) ∷ []) ++ l) (f.is ∙ sym (ended_line (codes "finished=") f.value after))
      ∙ regroup (ended dump) (ended (version_line head.version)) (ended (codes "started=" ++ s.value)) (ended (codes "finished=" ++ f.value)) after;
} where
  regroup : (a b c d e : List ℕ) → a ++ (b ++ (c ++ [])) ++ (d ++ e) ≡ a ++ (b ++ (c ++ (d ++ []))) ++ e
  regroup a b c d e = sym (append_assoc (a ++ (b ++ (c ++ []))) d e) ∙ ap (λ l. l ++ e) (append_assoc a (b ++ (c ++ [])) d ∙ ap (λ l. a ++ l) (append_assoc b (c ++ []) d ∙ ap (λ l. b ++ l) (append_assoc c [] d ∙ ap (λ l. c ++ l) (sym (append-nil d)))))
