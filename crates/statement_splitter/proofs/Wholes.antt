-- The statements of a whole file, one after the other.
use Rattle.std.proofs.Common.{◌≡◌, ◌≢◌, ℕ, zero, suc, ◌+◌, ◌<◌, ◌≤◌, List, [], ◌∷◌, ◌++◌, length, take, drop, Option, Some, None, refl, sym, ap, ◌∙◌, arith, take-add, length-append}
use Rattle.std.proofs.lemmas.List.{append_assoc, append-nil, take_all}
use Rattle.splitter_forms.specs.Scan.{size_in, end_size}
use Rattle.splitter_forms.specs.Pieces.{opening, UnreadText, with_more, Piece, NextPiece, piece, unended, waiting, none, PieceStep, found, further, statement_next, comment_step, step_by, step, next_within, next, pieces_within, pieces, last_within, last, begun_size, next_size, PassesLimit, GivesPiece, GivesNone, unread_file}
use Rattle.statement_splitter.specs.Laws.{SameFromThenOn, written, WritesOut}
use Rattle.splitter_forms.specs.declared.delimiter.Delimiter.{Delimiter}
use Rattle.splitter_forms.specs.declared.delimiter.Delimiter.TheVariants.{Semicolon, Dollars}
use Rattle.splitter_forms.specs.declared.opening.Opening.{Opening}
use Rattle.splitter_forms.specs.declared.opening.Opening.TheVariants.{Nothing, White, Comment, DelimiterLine, Statement, Undecided}
use Rattle.statement_splitter.proofs.Nexts.{step_shorter, drop_less, no_more, more_twice}

some_there : (ending : Delimiter) (bytes : List ℕ) (size : ℕ) → size_in ending bytes ≡ Some size → 0 < length bytes
some_there Semicolon [] size is = absurd (cc)
some_there (Dollars n) [] size is = absurd (cc)
some_there ending (b ∷ bs) size is = omega arith

pub end_some : (ending : Delimiter) → 0 < end_size ending
end_some Semicolon = omega arith
end_some (Dollars n) = omega arith

statement_shorter : (u v : UnreadText) (statement : Piece) (size : Option ℕ) → size_in u.ending u.rest ≡ size → statement_next u size ≡ piece statement v → length v.rest < length u.rest
statement_shorter u v statement None is given = absurd (cc)
statement_shorter u v statement (Some size) is given =
    let e : length (drop (size + end_size u.ending) u.rest) ≡ length v.rest = cc in
    omega (arith, drop_less (size + end_size u.ending) u.rest (omega (arith, end_some u.ending)) (some_there u.ending u.rest size is))

found_comment : (u v : UnreadText) (statement : Piece) (word : List ℕ) (size : Option ℕ) → comment_step u word size ≡ found (piece statement v) → ⊥
found_comment u v statement word None is = cc
found_comment u v statement word (Some size) is = cc

found_shorter : (u v : UnreadText) (statement : Piece) (o : Opening) → step_by u o ≡ found (piece statement v) → length v.rest < length u.rest
found_shorter u v statement Nothing is = absurd (cc)
found_shorter u v statement White is = absurd (cc)
found_shorter u v statement (Comment n end) is = absurd (found_comment u v statement _ _ is)
found_shorter u v statement (DelimiterLine n ending) is = absurd (cc)
found_shorter u v statement Statement is = statement_shorter u v statement (size_in u.ending u.rest) refl (let e : statement_next u (size_in u.ending u.rest) ≡ piece statement v = cc in e)
found_shorter u v statement Undecided is = absurd (cc)

shorter_of : (n : ℕ) (u v : UnreadText) (statement : Piece) (s : PieceStep) → step u ≡ s → ((w : UnreadText) → next_within n w ≡ piece statement v → length v.rest < length w.rest) → (elim s as (λ _. NextPiece) [ found x ↦ x | further w ↦ next_within n w ]) ≡ piece statement v → length v.rest < length u.rest
shorter_of n u v statement (found x) is rest given = found_shorter u v statement (opening u.fresh u.rest) (is ∙ ap found given)
shorter_of n u v statement (further w) is rest given = omega (arith, rest w given, step_shorter u w is)

shorter_within : (n : ℕ) (u v : UnreadText) (statement : Piece) → next_within n u ≡ piece statement v → length v.rest < length u.rest
shorter_within zero u v statement given = absurd (cc)
shorter_within (suc n) u v statement given = shorter_of n u v statement (step u) refl (λ w is. shorter_within n w v statement is) given

-- a statement has what ends it, and is not given twice
piece_shorter : (u v : UnreadText) (statement : Piece) → next u ≡ piece statement v → length v.rest < length u.rest
unfolding next
piece_shorter u v statement given = shorter_within (suc (length u.rest)) u v statement given

by_fuel : (n m : ℕ) (x : NextPiece) → ((statement : Piece) (v : UnreadText) → x ≡ piece statement v → pieces_within n v ≡ pieces_within m v) → (elim x as (λ _. List Piece) [ piece s v ↦ s ∷ pieces_within n v | unended v ↦ [] | waiting v ↦ [] | none v ↦ [] ]) ≡ (elim x as (λ _. List Piece) [ piece s v ↦ s ∷ pieces_within m v | unended v ↦ [] | waiting v ↦ [] | none v ↦ [] ])
by_fuel n m (piece s v) h = ap (λ rest. s ∷ rest) (h s v refl)
by_fuel n m (unended v) h = refl
by_fuel n m (waiting v) h = refl
by_fuel n m (none v) h = refl

fuel : (n m : ℕ) (u : UnreadText) → length u.rest < n → length u.rest < m → pieces_within n u ≡ pieces_within m u
fuel zero m u a b = absurd (omega arith)
fuel (suc n) zero u a b = absurd (omega arith)
fuel (suc n) (suc m) u a b = by_fuel n m (next u) (λ s v is. fuel n m v (omega (arith, piece_shorter u v s is)) (omega (arith, piece_shorter u v s is)))

pieces_by : NextPiece → List Piece
pieces_by (piece s v) = s ∷ pieces v
pieces_by (unended v) = []
pieces_by (waiting v) = []
pieces_by (none v) = []

is_by : (u : UnreadText) (x : NextPiece) → next u ≡ x → (elim x as (λ _. List Piece) [ piece s v ↦ s ∷ pieces_within (length u.rest) v | unended v ↦ [] | waiting v ↦ [] | none v ↦ [] ]) ≡ pieces_by x
unfolding pieces pieces_by
is_by u (piece s v) is = ap (λ rest. s ∷ rest) (fuel (length u.rest) (suc (length v.rest)) v (piece_shorter u v s is) (omega arith))
is_by u (unended v) is = refl
is_by u (waiting v) is = refl
is_by u (none v) is = refl

pieces_is : (u : UnreadText) → pieces u ≡ pieces_by (next u)
unfolding pieces pieces_by
pieces_is u = is_by u (next u) refl

last_by_fuel : (n m : ℕ) (x : NextPiece) → ((statement : Piece) (v : UnreadText) → x ≡ piece statement v → last_within n v ≡ last_within m v) → (elim x as (λ _. NextPiece) [ piece s v ↦ last_within n v | unended v ↦ unended v | waiting v ↦ waiting v | none v ↦ none v ]) ≡ (elim x as (λ _. NextPiece) [ piece s v ↦ last_within m v | unended v ↦ unended v | waiting v ↦ waiting v | none v ↦ none v ])
last_by_fuel n m (piece s v) h = h s v refl
last_by_fuel n m (unended v) h = refl
last_by_fuel n m (waiting v) h = refl
last_by_fuel n m (none v) h = refl

last_fuel : (n m : ℕ) (u : UnreadText) → length u.rest < n → length u.rest < m → last_within n u ≡ last_within m u
last_fuel zero m u a b = absurd (omega arith)
last_fuel (suc n) zero u a b = absurd (omega arith)
last_fuel (suc n) (suc m) u a b = last_by_fuel n m (next u) (λ s v is. last_fuel n m v (omega (arith, piece_shorter u v s is)) (omega (arith, piece_shorter u v s is)))

last_by : NextPiece → NextPiece
last_by (piece s v) = last v
last_by (unended v) = unended v
last_by (waiting v) = waiting v
last_by (none v) = none v

last_is_by : (u : UnreadText) (x : NextPiece) → next u ≡ x → (elim x as (λ _. NextPiece) [ piece s v ↦ last_within (length u.rest) v | unended v ↦ unended v | waiting v ↦ waiting v | none v ↦ none v ]) ≡ last_by x
unfolding last last_by
last_is_by u (piece s v) is = last_fuel (length u.rest) (suc (length v.rest)) v (piece_shorter u v s is) (omega arith)
last_is_by u (unended v) is = refl
last_is_by u (waiting v) is = refl
last_is_by u (none v) is = refl

last_is : (u : UnreadText) → last u ≡ last_by (next u)
unfolding last last_by
last_is u = last_is_by u (next u) refl

-- what is last after a statement, and where none is ended
pub last_after : (u v : UnreadText) (statement : Piece) → next u ≡ piece statement v → last u ≡ last v
unfolding last_by
last_after u v statement is = last_is u ∙ ap last_by is

pub last_same : (u v : UnreadText) → next u ≡ next v → last u ≡ last v
last_same u v is = last_is u ∙ ap last_by is ∙ sym (last_is v)

pub last_unended : (u : UnreadText) → next u ≡ unended u → begun_size (last u) ≡ Some u.offset
unfolding last_by
last_unended u is = ap begun_size (last_is u ∙ ap last_by is)

pub last_waiting : (u : UnreadText) → next u ≡ waiting u → begun_size (last u) ≡ Some u.offset
unfolding last_by
last_waiting u is = ap begun_size (last_is u ∙ ap last_by is)

pub last_none : (u : UnreadText) → next u ≡ none u → begun_size (last u) ≡ None
unfolding last_by
last_none u is = ap begun_size (last_is u ∙ ap last_by is)

-- with no bytes more
pub onward_now : (u v : UnreadText) → ((more : List ℕ) → next (with_more more u) ≡ next (with_more more v)) → next u ≡ next v
onward_now u v onward = ap next (sym (no_more u)) ∙ onward [] ∙ ap next (no_more v)

pub gives_now : (u v : UnreadText) (statement : Piece) → GivesPiece u statement v → next u ≡ piece statement v
gives_now u v statement gives = ap next (sym (no_more u)) ∙ gives [] ∙ ap (piece statement) (no_more v)

-- the laws of calls of `next`
pub piece_given : (old new : UnreadText) (statement : Piece) → GivesPiece old statement new → (more : List ℕ) → pieces (with_more more old) ≡ statement ∷ pieces (with_more more new)
unfolding pieces_by
piece_given old new statement gives more = pieces_is (with_more more old) ∙ ap pieces_by (gives more)

none_given : (old new : UnreadText) → GivesNone old new → (more : List ℕ) → pieces (with_more more old) ≡ pieces (with_more more new)
none_given old new gives more = pieces_is (with_more more old) ∙ ap pieces_by (gives.same more) ∙ sym (pieces_is (with_more more new))

none_by : (u : UnreadText) (x : NextPiece) → next u ≡ x → ((statement : Piece) (v : UnreadText) → next u ≢ piece statement v) → pieces_by x ≡ []
unfolding pieces_by
none_by u (piece s v) is none_is = absurd (none_is s v is)
none_by u (unended v) is none_is = refl
none_by u (waiting v) is none_is = refl
none_by u (none v) is none_is = refl

none_ended : (old new : UnreadText) → GivesNone old new → pieces old ≡ []
none_ended old new gives = pieces_is old ∙ none_by old (next old) refl gives.no_piece

pub none_lost : (old new : UnreadText) → GivesNone old new → SameFromThenOn old new
none_lost old new gives = record { none = none_ended old new gives; same = none_given old new gives }

pub still_passes : (limit : ℕ) (u : UnreadText) (more : List ℕ) → PassesLimit limit u → PassesLimit limit (with_more more u)
still_passes limit u more long = λ rest. (let here = long (more ++ rest) in (here.0, ap (λ v. next_size (next v)) (more_twice more rest u) ∙ here.1, here.2))

pub gives_smaller : (old new : UnreadText) (statement : Piece) → GivesPiece old statement new → length new.rest < length old.rest
gives_smaller old new statement gives = piece_shorter old new statement (gives_now old new statement gives)

-- a statement that is given is written out
pub written_more : (old new : UnreadText) (statement : Piece) (before now : List ℕ) → GivesPiece old statement new → now ≡ (before ++ statement.text) ++ 124 ∷ [] → (more : List ℕ) → now ++ written (pieces (with_more more new)) ≡ before ++ written (pieces (with_more more old))
written_more old new statement before now gives is more =
    let left : List ℕ = written (pieces (with_more more new)) in
    ap (λ t. t ++ left) (is ∙ append_assoc before statement.text (124 ∷ []))
    ∙ append_assoc before (statement.text ++ 124 ∷ []) left
    ∙ ap (λ statements. before ++ written statements) (sym (piece_given old new statement gives more))

pub written_all : (start old new : UnreadText) (before now : List ℕ) → GivesNone old new → ((more : List ℕ) → now ++ written (pieces (with_more more old)) ≡ before ++ written (pieces (with_more more start))) → WritesOut start before new now
written_all start old new before now gives so_far = record {
  same = λ more. ap (λ statements. now ++ written statements) (sym (none_given old new gives more)) ∙ so_far more;
  none = ap pieces (sym (no_more new)) ∙ sym (none_given old new gives []) ∙ ap pieces (no_more old) ∙ none_ended old new gives;
}

pub nothing_written : pieces (unread_file []) ≡ []
unfolding pieces next
nothing_written = refl

-- a piece of the file is fed, and its statements are written out
pub written_on : (file : List ℕ) (at size : ℕ) (u fed new : UnreadText) (before now fed_bytes : List ℕ) → fed_bytes ≡ take size (drop at file) → fed ≡ with_more fed_bytes u → ((more : List ℕ) → before ++ written (pieces (with_more more u)) ≡ written (pieces (unread_file (take at file ++ more)))) → WritesOut fed before new now → (more : List ℕ) → now ++ written (pieces (with_more more new)) ≡ written (pieces (unread_file (take (at + size) file ++ more)))
written_on file at size u fed new before now fed_bytes bytes_are fed_is so_far writes more =
    let whole : take at file ++ (fed_bytes ++ more) ≡ take (at + size) file ++ more =
    sym (append_assoc (take at file) fed_bytes more) ∙ ap (λ t. (take at file ++ t) ++ more) bytes_are ∙ ap (λ t. t ++ more) (sym (take-add at size file)) in
    writes.same more
    ∙ ap (λ v. before ++ written (pieces (with_more more v))) fed_is
    ∙ ap (λ v. before ++ written (pieces v)) (more_twice fed_bytes more u)
    ∙ so_far (fed_bytes ++ more)
    ∙ ap (λ t. written (pieces (unread_file t))) whole

pub fed_even : (u fed : UnreadText) (bytes : List ℕ) → fed ≡ with_more bytes u → fed.offset + length fed.rest ≡ u.offset + length u.rest + length bytes
fed_even u fed bytes is = ap (λ v. v.offset + length v.rest) is ∙ simp length-append (omega arith)

-- the whole file was fed
pub all_written : (file : List ℕ) (at : ℕ) (u : UnreadText) (now : List ℕ) → length file ≤ at → pieces u ≡ [] → ((more : List ℕ) → now ++ written (pieces (with_more more u)) ≡ written (pieces (unread_file (take at file ++ more)))) → now ≡ written (pieces (unread_file file))
all_written file at u now all empty so_far =
    sym (append-nil now)
    ∙ ap (λ statements. now ++ written statements) (sym empty)
    ∙ ap (λ v. now ++ written (pieces v)) (sym (no_more u))
    ∙ so_far []
    ∙ ap (λ t. written (pieces (unread_file t))) (append-nil (take at file) ∙ take_all at file all)
