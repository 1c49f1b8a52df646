-- The parts of a file's name: each text has one division.
use Rattle.std.proofs.Common.{◌≡◌, ◌≢◌, ℕ, ◌<◌, ◌^◌, Bool, true, false, cond, List, [], ◌∷◌, ◌++◌, length, get_or, take, drop, refl, sym, ◌∙◌, ap, subst, arith, append_assoc, append-nil, codes, zero, suc, ◌==◌, ◌-◌, length-append}
use Rattle.std.proofs.lemmas.Bool.{and_parts}
use Rattle.std.proofs.lemmas.List.{take-append-drop, append_cancel_right}
use Rattle.std.specs.List.{list_all}
use Rattle.object_forms.specs.declared.kind.Kind.{Kind}
use Rattle.object_forms.specs.declared.kind.Kind.TheVariants.{Schema, Table, Procedure, Function, View, Trigger, Event}
use Rattle.folder_forms.specs.FileName.{file_number, is_schema_file, ending}
use Rattle.folder_forms.specs.declared.file_kind.FileKind.{FileKind}
use Rattle.folder_forms.specs.declared.file_kind.FileKind.TheVariants.{Object, Rows}
use Rattle.metadata_ini.specs.Division.{is_spelling_byte, IsNameFront, HasNumber, Divides, IsUndivided, IsNameEnding, IsNoNameEnding, IsObjectEnding, IsNoObjectEnding, IsBetweenNone, NumbersNone}
use Rattle.metadata_ini.proofs.NumberTexts.{same_numbers}

-- fronts

head_drop : (text : List ℕ) (at : ℕ) (byte : ℕ) (more : List ℕ) → drop at text ≡ byte ∷ more → get_or text at 0 ≡ byte
head_drop [] zero byte more e = absurd (omega (arith, ap length e))
head_drop [] (suc at) byte more e = absurd (omega (arith, ap length e))
head_drop (c ∷ text) zero byte more e = ap (λ l. get_or l 0 0) e
head_drop (c ∷ text) (suc at) byte more e = head_drop text at byte more e

pub front_at : (text : List ℕ) (at : ℕ) → list_all is_spelling_byte (take at text) ≡ true → is_spelling_byte (get_or text at 0) ≡ false → IsNameFront text (take at text) (drop at text)
front_at text at spelled other = record {
  is = sym (take-append-drop at text);
  spelled = spelled;
  ends = λ byte more e. ap is_spelling_byte (sym (head_drop text at byte more e)) ∙ other;
}

pub front_all : (text rest : List ℕ) → list_all is_spelling_byte text ≡ true → rest ≡ [] → IsNameFront text text rest
front_all text rest spelled none = record {
  is = sym (append-nil text) ∙ ap (λ l. text ++ l) (sym none);
  spelled = spelled;
  ends = λ byte more e. absurd (omega (arith, ap length (sym none ∙ e)));
}

all_one : (c : ℕ) (l : List ℕ) → list_all is_spelling_byte (c ∷ l) ≡ true → is_spelling_byte c ≡ true
all_one c l e = (and_parts (is_spelling_byte c) (list_all is_spelling_byte l) e).0

all_rest : (c : ℕ) (l : List ℕ) → list_all is_spelling_byte (c ∷ l) ≡ true → list_all is_spelling_byte l ≡ true
all_rest c l e = (and_parts (is_spelling_byte c) (list_all is_spelling_byte l) e).1

-- What stands in front of a byte that is of no name is one.
same_fronts : (f g : List ℕ) (b c : ℕ) (x y : List ℕ) → list_all is_spelling_byte f ≡ true → list_all is_spelling_byte g ≡ true
    → is_spelling_byte b ≡ false → is_spelling_byte c ≡ false → f ++ b ∷ x ≡ g ++ c ∷ y → (f ≡ g) × (b ∷ x ≡ c ∷ y)
same_fronts [] [] b c x y p q r s e = (refl, e)
same_fronts [] (d ∷ g) b c x y p q r s e = cc (sym r ∙ ap (λ l. is_spelling_byte (get_or l 0 0)) e ∙ all_one d g q)
same_fronts (d ∷ f) [] b c x y p q r s e = cc (sym s ∙ ap (λ l. is_spelling_byte (get_or l 0 0)) (sym e) ∙ all_one d f p)
same_fronts (d ∷ f) (h ∷ g) b c x y p q r s e =
    let rest = same_fronts f g b c x y (all_rest d f p) (all_rest h g q) r s (ap (drop 1) e) in
    ((λ i. ap (λ l. get_or l 0 0) e i ∷ rest.0 i), rest.1)

no_front : (f g : List ℕ) (c : ℕ) (y : List ℕ) → list_all is_spelling_byte f ≡ true → is_spelling_byte c ≡ false → f ≡ g ++ c ∷ y → ⊥
no_front [] [] c y p s e = cc e
no_front [] (d ∷ g) c y p s e = cc e
no_front (d ∷ f) [] c y p s e = cc (sym s ∙ ap (λ l. is_spelling_byte (get_or l 0 0)) (sym e) ∙ all_one d f p)
no_front (d ∷ f) (h ∷ g) c y p s e = no_front f g c y (all_rest d f p) s (ap (drop 1) e)

-- The front that was found is the one that stands before such a byte.
found_front : (text f r g : List ℕ) (c : ℕ) (y : List ℕ) → IsNameFront text f r → list_all is_spelling_byte g ≡ true → is_spelling_byte c ≡ false → text ≡ g ++ c ∷ y
    → (g ≡ f) × (c ∷ y ≡ r)
found_front text f [] g c y front q s e = absurd (no_front f g c y front.spelled s (sym (append-nil f) ∙ sym front.is ∙ e))
found_front text f (b ∷ r) g c y front q s e = same_fronts g f c b y r q front.spelled s (front.ends b r refl) (sym e ∙ front.is)

-- endings

-- an ending begins with a byte that is of no name
record Ends (text : List ℕ) : Type 0 where
  byte : ℕ
  more : List ℕ
  is : text ≡ byte ∷ more
  other : is_spelling_byte byte ≡ false

ends : (kind : FileKind) (number : ℕ) → Ends (ending kind number)
ends (Object Schema) number = record { byte = 45; more = _; is = refl; other = refl }
ends (Object Table) number = record { byte = 45; more = _; is = refl; other = refl }
ends (Object Procedure) number = record { byte = 45; more = _; is = refl; other = refl }
ends (Object Function) number = record { byte = 45; more = _; is = refl; other = refl }
ends (Object View) number = record { byte = 45; more = _; is = refl; other = refl }
ends (Object Trigger) number = record { byte = 45; more = _; is = refl; other = refl }
ends (Object Event) number = record { byte = 45; more = _; is = refl; other = refl }
ends Rows number = record { byte = 46; more = _; is = refl; other = refl }

-- the kind that an ending is of, by its first and its ninth byte
abbrev kind_by : ℕ → ℕ → FileKind
kind_by first ninth =
    cond (first == 46) Rows (cond (ninth == 99) (Object Schema) (cond (ninth == 115) (Object Table)
    (cond (ninth == 112) (Object Procedure) (cond (ninth == 102) (Object Function)
    (cond (ninth == 118) (Object View) (cond (ninth == 116) (Object Trigger) (Object Event)))))))

abbrev kind_in : List ℕ → FileKind
kind_in text = kind_by (get_or text 0 0) (get_or text 8 0)

kind_told : (kind : FileKind) (number : ℕ) → kind_in (ending kind number) ≡ kind
kind_told (Object Schema) number = refl
kind_told (Object Table) number = refl
kind_told (Object Procedure) number = refl
kind_told (Object Function) number = refl
kind_told (Object View) number = refl
kind_told (Object Trigger) number = refl
kind_told (Object Event) number = refl
kind_told Rows number = refl

numbers_same : (m n : ℕ) → m < 2 ^ 32 → n < 2 ^ 32 → ending Rows m ≡ ending Rows n → m ≡ n
numbers_same m n p q e = same_numbers m n p q (append_cancel_right (file_number m) (file_number n) (codes ".sql") (ap (drop 1) e))

number_told : (kind : FileKind) (m n : ℕ) → HasNumber kind m → HasNumber kind n → ending kind m ≡ ending kind n → m ≡ n
number_told (Object kind) m n p q e = p.none (λ is. cc is) ∙ sym (q.none (λ is. cc is))
number_told Rows m n p q e = numbers_same m n p.size q.size e

same_endings : (a b : FileKind) (m n : ℕ) → HasNumber a m → HasNumber b n → ending a m ≡ ending b n → (a ≡ b) × (m ≡ n)
same_endings a b m n p q e =
    let kinds : a ≡ b = sym (kind_told a m) ∙ ap kind_in e ∙ kind_told b n in
    (kinds, number_told b m n (subst (λ k. HasNumber k m) kinds p) q (ap (λ k. ending k m) (sym kinds) ∙ e))

no_schema_byte : (n : List ℕ) (k : FileKind) (m : ℕ) → codes "." ++ n ++ ending k m ≡ codes "-schema-create.sql" → ⊥
no_schema_byte n k m e = omega (arith, ap (λ l. get_or l 0 0) e)

-- what comes after the schema's name
abbrev tail : Bool → FileKind → List ℕ → ℕ → List ℕ
tail true kind name number = ending kind number
tail false kind name number = 46 ∷ name ++ ending kind number

tail_ends : (b : Bool) (kind : FileKind) (name : List ℕ) (number : ℕ) → Ends (tail b kind name number)
tail_ends true kind name number = ends kind number
tail_ends false kind name number = record { byte = 46; more = _; is = refl; other = refl }

joined_tail : (b : Bool) (kind : FileKind) (schema name : List ℕ) (number : ℕ)
    → cond b schema (schema ++ codes "." ++ name) ++ ending kind number ≡ schema ++ tail b kind name number
joined_tail true kind schema name number = refl
joined_tail false kind schema name number =
    ap (λ l. l ++ ending kind number) (append_assoc schema (codes ".") name) ∙ append_assoc schema (46 ∷ name) (ending kind number)

before : (text f r : List ℕ) (kind : FileKind) (schema name : List ℕ) (number : ℕ) → IsNameFront text f r → Divides text kind schema name number
    → (schema ≡ f) × (tail (is_schema_file kind) kind name number ≡ r)
before text f r kind schema name number front d =
    let t = tail_ends (is_schema_file kind) kind name number in
    let found = found_front text f r schema t.byte t.more front d.schema_spelled t.other
    (d.is ∙ joined_tail (is_schema_file kind) kind schema name number ∙ ap (λ l. schema ++ l) t.is) in
    (found.0, t.is ∙ found.1)

after_by : (b : Bool) (kind : FileKind) (name : List ℕ) (number : ℕ) (after : List ℕ) → tail b kind name number ≡ 46 ∷ after
    → is_schema_file kind ≡ b → (b ≡ false) × (name ++ ending kind number ≡ after)
after_by true (Object Schema) name number after e is = absurd (omega (arith, ap (λ l. get_or l 0 0) e))
after_by true (Object Table) name number after e is = cc is
after_by true (Object Procedure) name number after e is = cc is
after_by true (Object Function) name number after e is = cc is
after_by true (Object View) name number after e is = cc is
after_by true (Object Trigger) name number after e is = cc is
after_by true (Object Event) name number after e is = cc is
after_by true Rows name number after e is = cc is
after_by false kind name number after e is = (refl, ap (drop 1) e)

second : (after f r : List ℕ) (kind : FileKind) (name : List ℕ) (number : ℕ) → IsNameFront after f r → list_all is_spelling_byte name ≡ true
    → name ++ ending kind number ≡ after → (name ≡ f) × (ending kind number ≡ r)
second after f r kind name number front spelled is =
    let t = ends kind number in
    let found = found_front after f r name t.byte t.more front spelled t.other (sym is ∙ ap (λ l. name ++ l) t.is) in
    (found.0, t.is ∙ found.1)

-- no division where neither comes

schema_by : (kind : FileKind) (name : List ℕ) (number : ℕ) (b : Bool) → is_schema_file kind ≡ b → tail b kind name number ≢ codes "-schema-create.sql" → ((after : List ℕ) → tail b kind name number ≢ 46 ∷ after) → ⊥
schema_by (Object Schema) name number true is none other = none refl
schema_by (Object Table) name number true is none other = cc is
schema_by (Object Procedure) name number true is none other = cc is
schema_by (Object Function) name number true is none other = cc is
schema_by (Object View) name number true is none other = cc is
schema_by (Object Trigger) name number true is none other = cc is
schema_by (Object Event) name number true is none other = cc is
schema_by Rows name number true is none other = cc is
schema_by kind name number false is none other = other _ refl

pub no_division : (text f r : List ℕ) → IsNameFront text f r → r ≢ codes "-schema-create.sql" → ((after : List ℕ) → r ≢ 46 ∷ after) → IsUndivided text
no_division text f r front none other kind schema name number d =
    let there = (before text f r kind schema name number front d).1 in
    schema_by kind name number (is_schema_file kind) refl (λ e. none (sym there ∙ e)) (λ after e. other after (sym there ∙ e))

pub no_ending : (text f r after g end : List ℕ) → IsNameFront text f r → r ≡ 46 ∷ after → IsNameFront after g end → IsNoNameEnding end → IsUndivided text
no_ending text f r after g end front point next none kind schema name number d =
    let there = (before text f r kind schema name number front d).1 in
    let found = after_by (is_schema_file kind) kind name number after (there ∙ point) refl in
    let last = second after g end kind name number next d.name_spelled found.1 in
    none kind number (record { is = sym last.1; no_schema = found.0; numbered = d.numbered })

-- divisions that are there

pub schema_division : (text f r : List ℕ) → IsNameFront text f r → r ≡ codes "-schema-create.sql" → Divides text (Object Schema) f f 0
schema_division text f r front is = record {
  is = front.is ∙ ap (λ l. f ++ l) is;
  schema_spelled = front.spelled;
  name_spelled = front.spelled;
  one_schema = λ _. refl;
  numbered = record { none = λ _. refl; size = omega arith };
}

joined_by : (b : Bool) (kind : FileKind) (text f r after g end : List ℕ) (number : ℕ) → b ≡ false → text ≡ f ++ r → r ≡ 46 ∷ after → after ≡ g ++ end → end ≡ ending kind number
    → text ≡ cond b f (f ++ codes "." ++ g) ++ ending kind number
joined_by true kind text f r after g end number is e p q l = cc is
joined_by false kind text f r after g end number is e p q l =
    e ∙ ap (λ x. f ++ x) (p ∙ ap (λ x. 46 ∷ x) (q ∙ ap (λ x. g ++ x) l)) ∙ sym (joined_tail false kind f g number)

pub named_division : (text f r after g end : List ℕ) (kind : FileKind) (number : ℕ) → IsNameFront text f r → r ≡ 46 ∷ after → IsNameFront after g end → IsNameEnding end kind number → Divides text kind f g number
named_division text f r after g end kind number front point next ending_is = record {
  is = joined_by (is_schema_file kind) kind text f r after g end number ending_is.no_schema front.is point next.is ending_is.is;
  schema_spelled = front.spelled;
  name_spelled = next.spelled;
  one_schema = λ is. cc (sym is ∙ ending_is.no_schema);
  numbered = ending_is.numbered;
}

-- one division

tail_kind : (a b : FileKind) (m n : List ℕ) (i j : ℕ) (p q : Bool) → is_schema_file a ≡ p → is_schema_file b ≡ q → tail p a m i ≡ tail q b n j → p ≡ q
tail_kind a b m n i j true true s t e = refl
tail_kind a b m n i j false false s t e = refl
tail_kind (Object Schema) b m n i j true false s t e = absurd (omega (arith, ap (λ l. get_or l 0 0) e))
tail_kind (Object Table) b m n i j true false s t e = cc s
tail_kind (Object Procedure) b m n i j true false s t e = cc s
tail_kind (Object Function) b m n i j true false s t e = cc s
tail_kind (Object View) b m n i j true false s t e = cc s
tail_kind (Object Trigger) b m n i j true false s t e = cc s
tail_kind (Object Event) b m n i j true false s t e = cc s
tail_kind Rows b m n i j true false s t e = cc s
tail_kind a (Object Schema) m n i j false true s t e = absurd (omega (arith, ap (λ l. get_or l 0 0) e))
tail_kind a (Object Table) m n i j false true s t e = cc t
tail_kind a (Object Procedure) m n i j false true s t e = cc t
tail_kind a (Object Function) m n i j false true s t e = cc t
tail_kind a (Object View) m n i j false true s t e = cc t
tail_kind a (Object Trigger) m n i j false true s t e = cc t
tail_kind a (Object Event) m n i j false true s t e = cc t
tail_kind a Rows m n i j false true s t e = cc t

-- the front of a division, and its rest
divided_front : (text : List ℕ) (kind : FileKind) (schema name : List ℕ) (number : ℕ) → Divides text kind schema name number
    → IsNameFront text schema (tail (is_schema_file kind) kind name number)
divided_front text kind schema name number d =
    let t = tail_ends (is_schema_file kind) kind name number in
    record {
      is = d.is ∙ joined_tail (is_schema_file kind) kind schema name number;
      spelled = d.schema_spelled;
      ends = λ byte more e. ap is_spelling_byte (ap (λ l. get_or l 0 0) (sym e ∙ t.is)) ∙ t.other;
    }

named_front : (kind : FileKind) (name : List ℕ) (number : ℕ) → list_all is_spelling_byte name ≡ true → IsNameFront (name ++ ending kind number) name (ending kind number)
named_front kind name number spelled =
    let t = ends kind number in
    record { is = refl; spelled = spelled; ends = λ byte more e. ap is_spelling_byte (ap (λ l. get_or l 0 0) (sym e ∙ t.is)) ∙ t.other }

-- two divisions have the same parts
pub record SameParts (a b : FileKind) (s t m n : List ℕ) (i j : ℕ) : Type 0 where
  pub kinds : a ≡ b
  pub schemas : s ≡ t
  pub names : m ≡ n
  pub numbers : i ≡ j

same_by : (p q : Bool) (a b : FileKind) (s t m n : List ℕ) (i j : ℕ) → p ≡ q → is_schema_file a ≡ p → is_schema_file b ≡ q → s ≡ t → tail p a m i ≡ tail q b n j
    → (p ≡ true → m ≡ s) → (q ≡ true → n ≡ t) → HasNumber a i → HasNumber b j → list_all is_spelling_byte m ≡ true → list_all is_spelling_byte n ≡ true → SameParts a b s t m n i j
same_by true true a b s t m n i j pq pa qb st e ms nt hi hj lm ln =
    let ended = same_endings a b i j hi hj e in
    record { kinds = ended.0; schemas = st; names = ms refl ∙ st ∙ sym (nt refl); numbers = ended.1 }
same_by false false a b s t m n i j pq pa qb st e ms nt hi hj lm ln =
    let found = second (n ++ ending b j) n (ending b j) a m i (named_front b n j ln) lm (ap (drop 1) e) in
    let ended = same_endings a b i j hi hj found.1 in
    record { kinds = ended.0; schemas = st; names = found.0; numbers = ended.1 }
same_by true false a b s t m n i j pq pa qb st e ms nt hi hj lm ln = cc pq
same_by false true a b s t m n i j pq pa qb st e ms nt hi hj lm ln = cc pq

-- A text has one division.
pub same_divisions : (text : List ℕ) (a b : FileKind) (s t m n : List ℕ) (i j : ℕ) → Divides text a s m i → Divides text b t n j → SameParts a b s t m n i j
same_divisions text a b s t m n i j d e =
    let found = before text t (tail (is_schema_file b) b n j) a s m i (divided_front text b t n j e) d in
    same_by (is_schema_file a) (is_schema_file b) a b s t m n i j
    (tail_kind a b m n i j (is_schema_file a) (is_schema_file b) refl refl found.1) refl refl found.0 found.1 d.one_schema e.one_schema d.numbered e.numbered d.name_spelled e.name_spelled

-- endings that are read

pub no_object_ending : (text : List ℕ) → text ≢ codes "-schema.sql" → text ≢ codes "-schema-procedure.sql" → text ≢ codes "-schema-function.sql" → text ≢ codes "-schema-view.sql"
    → text ≢ codes "-schema-trigger.sql" → text ≢ codes "-schema-event.sql" → IsNoObjectEnding text
no_object_ending text t p f v g e Schema is = cc is.no_schema
no_object_ending text t p f v g e Table is = t is.is
no_object_ending text t p f v g e Procedure is = p is.is
no_object_ending text t p f v g e Function is = f is.is
no_object_ending text t p f v g e View is = v is.is
no_object_ending text t p f v g e Trigger is = g is.is
no_object_ending text t p f v g e Event is = e is.is

pub no_ending_of : (text : List ℕ) → IsNoObjectEnding text → NumbersNone text → IsNoNameEnding text
no_ending_of text none numbers (Object kind) number is =
    none kind (record { is = is.is ∙ ap (ending (Object kind)) (is.numbered.none (λ rows. cc rows)); no_schema = is.no_schema })
no_ending_of text none numbers Rows number is = numbers number is.numbered.size is.is

pub object_ended : (text : List ℕ) (kind : Kind) → IsObjectEnding text kind → IsNameEnding text (Object kind) 0
object_ended text kind is = record { is = is.is; no_schema = is.no_schema; numbered = record { none = λ _. refl; size = omega arith } }

pub rows_ended : (text : List ℕ) (number : ℕ) → number < 2 ^ 32 → text ≡ codes "." ++ file_number number ++ codes ".sql" → IsNameEnding text Rows number
rows_ended text number small is = record { is = is; no_schema = refl; numbered = record { none = λ other. absurd (other refl); size = small } }

pub numbers_between : (text inner : List ℕ) → text ≡ codes "." ++ inner ++ codes ".sql" → ((number : ℕ) → number < 2 ^ 32 → inner ≢ file_number number) → NumbersNone text
numbers_between text inner is none number small e = none number small (append_cancel_right inner (file_number number) (codes ".sql") (ap (drop 1) (sym is ∙ e)))

pub short_between : (text : List ℕ) → length text < 5 → IsBetweenNone text
short_between text short inner is = omega (arith, ap length is, length-append inner (codes ".sql"))

pub no_point : (text point : List ℕ) → point ≡ take 1 text → point ≢ codes "." → IsBetweenNone text
no_point text point front none inner is = none (front ∙ ap (take 1) is)

drop-append : (xs ys : List ℕ) → drop (length xs) (xs ++ ys) ≡ ys
drop-append [] ys = refl
drop-append (x ∷ xs) ys = drop-append xs ys

pub no_end : (text rest end : List ℕ) → rest ≡ drop 1 text → end ≡ drop (length rest - 4) rest → end ≢ codes ".sql" → IsBetweenNone text
no_end text rest end back last none inner is =
    let whole : rest ≡ inner ++ codes ".sql" = back ∙ ap (drop 1) is in
    let size : length rest - 4 ≡ length inner = omega (arith, ap length whole, length-append inner (codes ".sql")) in
    none (last ∙ (λ i. drop (size i) (whole i)) ∙ drop-append inner (codes ".sql"))
