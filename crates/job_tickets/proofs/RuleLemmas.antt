-- Each kind of step keeps the rule.
use Rattle.std.proofs.Common.{◌≡◌, ℕ, ◌+◌, ◌*◌, ◌%◌, ◌^◌, ◌<◌, ◌≤◌, List, [], ◌∷◌, ◌++◌, length, get_or, set, sym, refl, ap, ◌∙◌, subst, ⊎_elim, sum_by, nat_eq, arith, All, length-append, length-set, get_or-set_same, mod-eq_of_lt}
use Rattle.std.proofs.lemmas.List.Sums.{sum_by_push, count_by-le-length}
use mathlib.Core.Option.{none, some, some-injective, some-ne-none}
use lib.ListN.{get_elem?}
use Rattle.atomic_table.specs.Table.{State, Me, step, keeps, Allows, Splits, Joins, Final, Seen}
use Rattle.atomic_table.proofs.Lists.{at_set, at_snoc, set_else}
use Rattle.job_tickets.specs.declared.holding.Holding.{Holding}
use Rattle.job_tickets.specs.Dealt.{times, once_below}
use Rattle.job_tickets.specs.Rule.{holding_of, word_of, KeepsTickets, HasDrawn, without_one, one_share, both_holdings, spent}
use Rattle.job_tickets.proofs.DealtLemmas.{sum-set, member-le-sum, sum-le, others-le, times-push, times-append, times-here, once-more, once-is-below}

abbrev DealTable : Type 0
DealTable = State (Unit {0}) Holding

-- how many numbers a seat drew
abbrev count_of : Holding → ℕ
count_of seat = length seat.drawn

-- each seat's share has room for what it drew
abbrev HaveRoom : List Holding → Type 0
HaveRoom views = (place : ℕ) (seat : Holding) → get_elem? views place ≡ some seat
    → length seat.drawn ≤ 4294967296 * seat.share

-- a change of one seat leaves room
room-set : (views : List Holding) (place : ℕ) (new : Holding) → HaveRoom views
    → length new.drawn ≤ 4294967296 * new.share → HaveRoom (set views place new)
room-set views place new room fits other seat at = ⊎_elim
    (λ t. subst (λ (x : Holding). length x.drawn ≤ 4294967296 * x.share) t.1 fits)
    (λ t. room other seat t.1)
    (at_set views place other new seat at)

-- so does a seat more
room-push : (views : List Holding) (new : Holding) → HaveRoom views
    → length new.drawn ≤ 4294967296 * new.share → HaveRoom (views ++ new ∷ [])
room-push views new room fits other seat at = ⊎_elim
    (λ t. room other seat t)
    (λ t. subst (λ (x : Holding). length x.drawn ≤ 4294967296 * x.share) t fits)
    (at_snoc views new seat other at)

-- a seat's numbers are below the word
below-word : (seats : ℕ) (state : DealTable) → KeepsTickets seats state → (place : ℕ) (seat : Holding)
    → get_elem? state.views place ≡ some seat → All (λ number. number < word_of state) seat.drawn
below-word seats state rule place seat at index other within =
    let number = get_or seat.drawn index other in
    once-is-below (word_of state) number (omega (
      arith,
      times-here seat.drawn index other within,
      member-le-sum (λ (x : Holding). times number x.drawn) state.views place seat at,
      rule.once number,
    ))

pub draws : (seats slots place : ℕ) (seat : Me (Unit {0}) Holding) → seat.0.share ≡ 1
    → length seat.0.drawn < 2 ^ 32
    → Allows (KeepsTickets seats) slots place seat 0 (λ n. (n + 1) % 2 ^ 64) (HasDrawn (step slots 0 1 0 none) seat)
draws seats slots place seat one few state rule homes at fits =
    let found = word_of state in
    let old = seat.0 in
    let new = holding_of old.share (old.drawn ++ found ∷ []) in
    let views = set state.views place new in
    let longer : length new.drawn ≡ length old.drawn + 1 = length-append old.drawn (found ∷ []) in
    let room : HaveRoom views = room-set state.views place new rule.room (omega arith) in
    let shares : sum_by (λ (x : Holding). x.share) views ≡ seats =
    omega (arith, sum-set (λ (x : Holding). x.share) state.views place old new at, rule.shares) in
    let counted : sum_by count_of views ≡ found + 1 =
    omega (arith, sum-set count_of state.views place old new at, rule.counted) in
    let small : found < 274877906944 =
    omega (arith, sum-le count_of (λ (x : Holding). x.share) views room, rule.few) in
    let next : (found + 1) % 2 ^ 64 ≡ found + 1 = mod-eq_of_lt (omega arith) in
    let word : get_or (set state.words 0 ((found + 1) % 2 ^ 64)) 0 0 ≡ found + 1 =
    get_or-set_same state.words 0 ((found + 1) % 2 ^ 64) 0 (omega (arith, rule.one_word)) ∙ next in (
      new,
      keeps,
      tt,
      record {
        few = rule.few;
        one_word = length-set state.words 0 ((found + 1) % 2 ^ 64) ∙ rule.one_word;
        once = λ number. omega (
          arith,
          sum-set (λ (x : Holding). times number x.drawn) state.views place old new at,
          times-push number old.drawn found,
          rule.once number,
          once-more found number,
          ap (λ count. once_below count number) word,
        );
        counted = counted ∙ sym word;
        shares = shares;
        room = room;
      },
      record {
        added = refl;
        greater = below-word seats state rule place old at;
        at_least = omega (arith, member-le-sum count_of state.views place old at, rule.counted);
        below = small;
      },
    )

pub splits : (seats place : ℕ) (seat : Holding) → 2 ≤ seat.share → seat.drawn ≡ []
    → Splits (KeepsTickets seats) place seat (without_one seat) (one_share seat)
splits seats place seat two undrawn state rule at =
    let left = without_one seat in
    let right = one_share seat in
    let views = set state.views place left in
    let empty : length seat.drawn ≡ 0 = ap length undrawn in
    let sums = λ (f : Holding → ℕ). sum-set f state.views place seat left at in
    record {
      few = rule.few;
      one_word = rule.one_word;
      once = λ number. omega (
        arith,
        sum_by_push (λ (x : Holding). times number x.drawn) views right,
        sums (λ (x : Holding). times number x.drawn),
        rule.once number,
      );
      counted = omega (arith, sum_by_push count_of views right, sums count_of, rule.counted);
      shares = omega (
        arith,
        sum_by_push (λ (x : Holding). x.share) views right,
        sums (λ (x : Holding). x.share),
        rule.shares,
      );
      room = room-push views right (room-set state.views place left rule.room (omega arith)) (omega arith);
    }

-- a sum after a seat took in another
sum-together : (f : Holding → ℕ) (views : List Holding) (place : ℕ) (seat : Holding) (other : ℕ) (taken : Holding)
    → get_elem? views place ≡ some seat
    → get_elem? (set views place (both_holdings seat taken)) other ≡ some taken
    → f (both_holdings seat taken) ≡ f seat + f taken → f spent ≡ 0
    → sum_by f (set (set views place (both_holdings seat taken)) other spent) ≡ sum_by f views
sum-together f views place seat other taken at taken_at sum nothing = let both = both_holdings seat taken in omega (
  arith,
  sum-set f views place seat both at,
  sum-set f (set views place both) other taken spent taken_at,
  sum,
  nothing,
)

pub joins : (seats place : ℕ) (seat : Holding) (other : ℕ) (taken : Holding)
    → Joins (KeepsTickets seats) place seat other taken (both_holdings seat taken) spent
joins seats place seat other taken state rule at apart taken_at =
    let both = both_holdings seat taken in
    let taken_before : get_elem? state.views other ≡ some taken =
    sym (set_else state.views place other both apart) ∙ taken_at in
    let longer : length both.drawn ≡ length seat.drawn + length taken.drawn = length-append seat.drawn taken.drawn in
    let fits : length both.drawn ≤ 4294967296 * both.share =
    omega (arith, rule.room place seat at, rule.room other taken taken_before) in
    record {
      few = rule.few;
      one_word = rule.one_word;
      once = λ number. sum-together (λ (x : Holding). times number x.drawn) state.views place seat other taken at
          taken_at (times-append number seat.drawn taken.drawn) refl
          ∙ rule.once number;
      counted = sum-together count_of state.views place seat other taken at taken_at longer refl ∙ rule.counted;
      shares = sum-together (λ (x : Holding). x.share) state.views place seat other taken at taken_at refl refl
          ∙ rule.shares;
      room = room-set (set state.views place both) other spent
          (room-set state.views place both rule.room fits) (omega arith);
    }

-- the word, found at its place
word-at : (words : List ℕ) (count : ℕ) → get_elem? words 0 ≡ some count → get_or words 0 0 ≡ count
word-at [] count at = absurd (some-ne-none count (sym at))
word-at (x ∷ words) count at = some-injective x count at

-- a seat that has all shares drew all numbers
pub drew-all : (seats place : ℕ) (seat : Holding) (words : List ℕ) (slots : List (Unit {0})) (count : ℕ)
    → Final (Seen (KeepsTickets seats) place seat) words slots → seat.share ≡ seats
    → get_elem? words 0 ≡ some count → (number : ℕ) → times number seat.drawn ≡ once_below count number
drew-all seats place seat words slots count last all found number =
    let state = last.0 in
    let rule = last.1.0 in
    let at = last.1.1 in
    let f : Holding → ℕ = λ x. times number x.drawn in
    let each : (place : ℕ) (x : Holding) → get_elem? state.views place ≡ some x → f x ≤ 4294967296 * x.share =
    λ place x at. omega (
      arith,
      count_by-le-length (λ other. nat_eq other number) x.drawn,
      rule.room place x at,
    ) in
    let word : word_of state ≡ count = ap (λ ws. get_or ws 0 0) last.2 ∙ word-at words count found in
    omega (
      arith,
      others-le f (λ (x : Holding). x.share) state.views place seat each at,
      member-le-sum f state.views place seat at,
      rule.shares,
      all,
      rule.once number,
      ap (λ count. once_below count number) word,
    )
