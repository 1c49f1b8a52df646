-- What comes next, and the same with more bytes.
use Rattle.std.proofs.Common.{◌≡◌, ℕ, zero, suc, ◌+◌, ◌-◌, ◌<◌, ◌≤◌, Bool, true, false, List, [], ◌∷◌, ◌++◌, length, get_or, take, drop, Option, Some, None, refl, sym, ap, ◌∙◌, arith, subst, length-append}
use Rattle.std.proofs.lemmas.List.{length-drop, length-take, drop-append-le, get_or_append_left, append-nil, append_assoc, drop_all}
use Rattle.splitter_forms.specs.Scan.{before_semicolon, before_mark, dollar_line, end_size, plus}
use Rattle.splitter_forms.specs.Pieces.{begins, is_front_of, opening, UnreadText, with_more, unread_past, ends_line, NextPiece, unended, none, PieceStep, found, further, statement_next, passed, comment_step, step_by, step, next_within, next, next_size, PassesLimit}
use Rattle.statement_splitter.specs.State.{GoesOn, FindsEnd, size_from, MayEnd, InComment, InStatement, LeastSize, IsEnded}
use Rattle.splitter_forms.specs.declared.delimiter.Delimiter.{Delimiter}
use Rattle.splitter_forms.specs.declared.delimiter.Delimiter.TheVariants.{Semicolon, Dollars}
use Rattle.splitter_forms.specs.declared.within.Within.{Within}
use Rattle.splitter_forms.specs.declared.opening.Opening.{Opening}
use Rattle.splitter_forms.specs.declared.opening.Opening.TheVariants.{Nothing, White, Comment, DelimiterLine, Statement, Undecided}
use Rattle.statement_splitter.proofs.Words.{begins_self, begins_long, front_completed, front_short}
use Rattle.statement_splitter.proofs.Openings.{HasRoom, opening_room}

pub drop_less : (n : ℕ) (bytes : List ℕ) → 0 < n → 0 < length bytes → length (drop n bytes) < length bytes
drop_less n bytes some any = omega (arith, length-drop n bytes)

comment_shorter : (u v : UnreadText) (word : List ℕ) (n : ℕ) (size : Option ℕ) → 0 < n → n ≤ length u.rest → comment_step u word (plus n size) ≡ further v → length v.rest < length u.rest
comment_shorter u v word n None some room is = absurd (cc)
comment_shorter u v word n (Some size) some room is =
    let e : length (drop (n + size + length word) u.rest) ≡ length v.rest = cc in
    omega (arith, drop_less (n + size + length word) u.rest (omega arith) (omega arith))

shorter_by : (u v : UnreadText) (o : Opening) → HasRoom (length u.rest) o → step_by u o ≡ further v → length v.rest < length u.rest
shorter_by u v Nothing room is = absurd (cc)
shorter_by u v White room is =
    let e : length (drop 1 u.rest) ≡ length v.rest = cc in
    omega (arith, drop_less 1 u.rest (omega arith) room)
shorter_by u v (Comment n end) room is = comment_shorter u v _ n _ room.0 room.1 is
shorter_by u v (DelimiterLine n ending) room is =
    let e : length (drop n u.rest) ≡ length v.rest = cc in
    omega (arith, drop_less n u.rest room.0 (omega (arith, room.1, room.0)))
shorter_by u v Statement room is = absurd (cc)
shorter_by u v Undecided room is = absurd (cc)

-- what is passed over has a byte or more
pub step_shorter : (u v : UnreadText) → step u ≡ further v → length v.rest < length u.rest
step_shorter u v is = shorter_by u v (opening u.fresh u.rest) (opening_room u.fresh u.rest) is

by_fuel : (n m : ℕ) (s : PieceStep) → ((v : UnreadText) → s ≡ further v → next_within n v ≡ next_within m v) → (elim s as (λ _. NextPiece) [ found x ↦ x | further v ↦ next_within n v ]) ≡ (elim s as (λ _. NextPiece) [ found x ↦ x | further v ↦ next_within m v ])
by_fuel n m (found x) h = refl
by_fuel n m (further v) h = h v refl

fuel : (n m : ℕ) (u : UnreadText) → length u.rest < n → length u.rest < m → next_within n u ≡ next_within m u
fuel zero m u a b = absurd (omega arith)
fuel (suc n) zero u a b = absurd (omega arith)
fuel (suc n) (suc m) u a b = by_fuel n m (step u) (λ v is. fuel n m v (omega (arith, step_shorter u v is)) (omega (arith, step_shorter u v is)))

next_after : PieceStep → NextPiece
next_after (found x) = x
next_after (further u) = next u

is_by : (u : UnreadText) (s : PieceStep) → step u ≡ s → (elim s as (λ _. NextPiece) [ found x ↦ x | further v ↦ next_within (length u.rest) v ]) ≡ next_after s
unfolding next next_after
is_by u (found x) is = refl
is_by u (further v) is = fuel (length u.rest) (suc (length v.rest)) v (step_shorter u v is) (omega arith)

next_is : (u : UnreadText) → next u ≡ next_after (step u)
unfolding next next_after
next_is u = is_by u (step u) refl

pub no_more : (u : UnreadText) → with_more [] u ≡ u
no_more u = ap (λ rest. record u { rest = rest }) (append-nil u.rest)

pub more_twice : (a b : List ℕ) (u : UnreadText) → with_more b (with_more a u) ≡ with_more (a ++ b) u
more_twice a b u = ap (λ rest. record u { rest = rest }) (append_assoc u.rest a b)

-- what is passed over is so with more bytes
pub passes_more : (n : ℕ) (u : UnreadText) (more : List ℕ) → 0 < n → n ≤ length u.rest → passed n (with_more more u) ≡ further (with_more more (unread_past n (ends_line n u.rest) u.ending u))
passes_more n u more some room =
    let rest : drop n (u.rest ++ more) ≡ drop n u.rest ++ more = drop-append-le n u.rest more room in
    let last : get_or (u.rest ++ more) (n - 1) 0 ≡ get_or u.rest (n - 1) 0 = get_or_append_left u.rest more 0 (n - 1) (omega arith) in
    cc

pub onward_further : (u v : UnreadText) → ((more : List ℕ) → step (with_more more u) ≡ further (with_more more v)) → (more : List ℕ) → next (with_more more u) ≡ next (with_more more v)
unfolding next_after
onward_further u v h more = next_is (with_more more u) ∙ ap next_after (h more)

pub found_here : (u : UnreadText) (x : NextPiece) → step u ≡ found x → next u ≡ x
unfolding next_after
found_here u x is = next_is u ∙ ap next_after is

pub further_here : (u v : UnreadText) → step u ≡ further v → next u ≡ next v
unfolding next_after
further_here u v is = next_is u ∙ ap next_after is

no_mark_by : (word : List ℕ) (b : ℕ) (bs : List ℕ) (here : Bool) → begins word (b ∷ bs) ≡ here → length (b ∷ bs) < length word → before_mark word bs ≡ None → before_mark word (b ∷ bs) ≡ None
no_mark_by word b bs true is short rest = absurd (omega (arith, begins_long word (b ∷ bs) is))
no_mark_by word b bs false is short rest = rw (is, rest)

short_no_mark : (word bytes : List ℕ) → length bytes < length word → before_mark word bytes ≡ None
short_no_mark word [] short = refl
short_no_mark word (b ∷ bs) short = no_mark_by word b bs (begins word (b ∷ bs)) refl short (short_no_mark word bs (omega arith))

-- a comment that is ended
pub comment_over : (u : UnreadText) (scanned : ℕ) (word : List ℕ) (to : ℕ) → 0 < length word → InComment u scanned word → FindsEnd (before_mark word) u.rest scanned to (length word) → (more : List ℕ) → next (with_more more u) ≡ next (with_more more (unread_past (to + length word) (ends_line (to + length word) u.rest) u.ending u))
comment_over u scanned word to some comment ends =
    onward_further u (unread_past (to + length word) (ends_line (to + length word) u.rest) u.ending u) (λ more.
    comment.steps more ∙ ap (comment_step (with_more more u) word) (ends.finds more) ∙ passes_more (to + length word) u more (omega arith) ends.high)

-- a comment that is scanned further
pub comment_on : (u : UnreadText) (scanned to : ℕ) (word : List ℕ) → InComment u scanned word → GoesOn (before_mark word) (before_mark word) u.rest scanned to → InComment u to word
comment_on u scanned to word comment goes = record {
  within = goes.high;
  steps = λ more. comment.steps more ∙ ap (comment_step (with_more more u) word) (goes.same more);
}

pub comment_open : (u : UnreadText) (scanned : ℕ) (word : List ℕ) → InComment u scanned word → is_front_of word (drop scanned u.rest) ≡ true → next u ≡ none u
comment_open u scanned word comment front =
    let none_there : before_mark word (drop scanned u.rest) ≡ None = short_no_mark word (drop scanned u.rest) (front_short word (drop scanned u.rest) front) in
    let here : step (with_more [] u) ≡ found (none (with_more [] u)) =
    comment.steps [] ∙ ap (λ t. comment_step (with_more [] u) word (plus scanned (before_mark word t))) (append-nil (drop scanned u.rest)) ∙ ap (λ size. comment_step (with_more [] u) word (plus scanned size)) none_there in
    found_here u (none u) (subst (λ v. step v ≡ found (none v)) (no_more u) here)

-- what comes next where a statement is begun
pub statement_is : (u : UnreadText) (scanned : ℕ) (within : Within) → InStatement u scanned within → (more : List ℕ) → next (with_more more u) ≡ statement_next (with_more more u) (plus scanned (size_from u.ending within (drop scanned u.rest ++ more)))
statement_is u scanned within statement more =
    found_here (with_more more u) _ (ap (step_by (with_more more u)) (statement.begins more) ∙ ap (λ size. found (statement_next (with_more more u) size)) (statement.ends more))

pub statement_on : (u : UnreadText) (scanned to : ℕ) (within now : Within) → InStatement u scanned within → GoesOn (size_from u.ending within) (size_from u.ending now) u.rest scanned to → InStatement u to now
statement_on u scanned to within now statement goes = record {
  inside = goes.high;
  begins = statement.begins;
  ends = λ more. statement.ends more ∙ goes.same more;
}

pub statement_ended : (u : UnreadText) (scanned : ℕ) (within : Within) (to : ℕ) → InStatement u scanned within → FindsEnd (size_from u.ending within) u.rest scanned to (end_size u.ending) → IsEnded u to
statement_ended u scanned within to statement ends = record {
  fits = ends.high;
  is = λ more. statement_is u scanned within statement more ∙ ap (statement_next (with_more more u)) (ends.finds more);
}

none_yet : (ending : Delimiter) (within : Within) (bytes : List ℕ) (to : ℕ) → MayEnd ending bytes to → size_from ending within (drop to bytes) ≡ None
none_yet Semicolon within bytes to is = ap (before_semicolon within) (drop_all to bytes (omega arith))
none_yet (Dollars n) within bytes to is = short_no_mark (dollar_line n) (drop to bytes) (front_short (dollar_line n) (drop to bytes) is)

pub statement_open : (u : UnreadText) (scanned : ℕ) (within : Within) → InStatement u scanned within → MayEnd u.ending u.rest scanned → next u ≡ unended u
statement_open u scanned within statement may =
    let here : next (with_more [] u) ≡ unended (with_more [] u) =
    statement_is u scanned within statement [] ∙ ap (λ t. statement_next (with_more [] u) (plus scanned (size_from u.ending within t))) (append-nil (drop scanned u.rest)) ∙ ap (λ size. statement_next (with_more [] u) (plus scanned size)) (none_yet u.ending within u.rest scanned may) in
    subst (λ v. next v ≡ unended v) (no_more u) here

-- how many bytes a statement has that is ended after so many, or isn't
least_size : (u : UnreadText) (least : ℕ) (found : Option ℕ) → least ≤ length u.rest → (size : ℕ) × (next_size (statement_next u (plus least found)) ≡ Some size) × (least ≤ size)
least_size u least None inside = (length u.rest, refl, inside)
least_size u least (Some n) inside = (length (take (least + n) u.rest), refl, omega (arith, length-take (least + n) u.rest))

-- what may follow so that the statement ends there
reaches : (u : UnreadText) (ending : Delimiter) (scanned : ℕ) (within : Within) → u.ending ≡ ending → InStatement u scanned within → MayEnd ending u.rest scanned → (more : List ℕ) × (next_size (next (with_more more u)) ≡ Some scanned)
reaches u Semicolon scanned within is statement may =
    let open_here = statement_open u scanned within statement (subst (λ ending. MayEnd ending u.rest scanned) (sym is) may) in
    ([], ap (λ v. next_size (next v)) (no_more u) ∙ ap next_size open_here ∙ ap (λ n. Some n) (sym may))
reaches u (Dollars n) scanned within is statement may =
    let word = dollar_line n in
    let more : List ℕ = drop (length (drop scanned u.rest)) word in
    let whole : drop scanned u.rest ++ more ≡ word = front_completed word (drop scanned u.rest) may in
    let self : begins word word ≡ true = begins_self word in
    let none_left : before_mark word word ≡ Some 0 = rw self in
    let size : plus scanned (size_from u.ending within (drop scanned u.rest ++ more)) ≡ Some (scanned + 0) =
    ap (λ ending. plus scanned (size_from ending within (drop scanned u.rest ++ more))) is ∙ ap (λ t. plus scanned (before_mark word t)) whole ∙ ap (plus scanned) none_left in
    let long : length (take (scanned + 0) (u.rest ++ more)) ≡ scanned = omega (arith, length-take (scanned + 0) (u.rest ++ more), length-append u.rest more, statement.inside) in
    (more, ap next_size (statement_is u scanned within statement more) ∙ ap (λ s. next_size (statement_next (with_more more u) s)) size ∙ ap (λ n. Some n) long)

pub statement_least : (u : UnreadText) (scanned : ℕ) (within : Within) → InStatement u scanned within → MayEnd u.ending u.rest scanned → LeastSize u scanned
statement_least u scanned within statement may = record {
  no_less = λ more.
      let least = least_size (with_more more u) scanned (size_from u.ending within (drop scanned u.rest ++ more)) (omega (arith, length-append u.rest more, statement.inside)) in
      (least.0, ap next_size (statement_is u scanned within statement more) ∙ least.1, least.2);
  reached = reaches u u.ending scanned within refl statement may;
}

ended_size : (u : UnreadText) (size : ℕ) → IsEnded u size → (more : List ℕ) → next_size (next (with_more more u)) ≡ Some size
ended_size u size ended more =
    let long : length (take size (u.rest ++ more)) ≡ size = omega (arith, length-take size (u.rest ++ more), length-append u.rest more, ended.fits) in
    ap next_size (ended.is more) ∙ ap (λ n. Some n) long

pub ended_least : (u : UnreadText) (size : ℕ) → IsEnded u size → LeastSize u size
ended_least u size ended = record {
  no_less = λ more. (size, ended_size u size ended more, omega arith);
  reached = ([], ended_size u size ended []);
}

pub passes : (u : UnreadText) (least limit : ℕ) → LeastSize u least → limit < least → PassesLimit limit u
passes u least limit size more_than = λ more. (let s = size.no_less more in (s.0, s.1, omega (arith, s.2)))

pub stays_within : (u : UnreadText) (least limit : ℕ) → LeastSize u least → least ≤ limit → ¬ PassesLimit limit u
stays_within u least limit size no_more_than long =
    let here = long size.reached.0 in
    let same : Some here.0 ≡ Some least = sym here.1 ∙ size.reached.1 in
    let is : here.0 ≡ least = cc in
    omega (arith, here.2)

pub none_within : (u : UnreadText) (limit : ℕ) → (more : List ℕ) × (next_size (next (with_more more u)) ≡ None) → ¬ PassesLimit limit u
none_within u limit (more, is) long = let here = long more in let same : Some here.0 ≡ None = sym here.1 ∙ is in absurd (cc)

pub passes_onward : (u v : UnreadText) (limit : ℕ) → ((more : List ℕ) → next (with_more more u) ≡ next (with_more more v)) → PassesLimit limit v → PassesLimit limit u
passes_onward u v limit onward long = λ more. (let here = long more in (here.0, ap next_size (onward more) ∙ here.1, here.2))

pub passes_back : (u v : UnreadText) (limit : ℕ) → ((more : List ℕ) → next (with_more more u) ≡ next (with_more more v)) → PassesLimit limit u → PassesLimit limit v
passes_back u v limit onward long = λ more. (let here = long more in (here.0, ap next_size (sym (onward more)) ∙ here.1, here.2))
