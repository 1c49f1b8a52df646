-- Interleavings of lists that change the rows of different tables.
use Rattle.std.proofs.Common.{◌≡◌, ℕ, Bool, true, false, not, List, [], ◌∷◌, Some, refl, ap, sym, ◌∙◌}
use Rattle.std.specs.Prelude.{All, map}
use Rattle.std.specs.List.{list_all}
use Rattle.std.proofs.lemmas.Bool.{false≢true}
use Rattle.std.proofs.lemmas.List.Elements.{All-cons, All-head, All-nil, All-tail}
use Rattle.std.proofs.lemmas.Option.{option_and_then_some}
use Rattle.server_data.proofs.Counts.{and_left, and_right}
use Rattle.server_data.specs.Fold.{changes_db, more_db, rows_of}
use Rattle.server_data.specs.History.{TakesHead, here, there}
use Rattle.server_data.specs.declared.data.Database.{Database}
use Rattle.server_data.specs.declared.data.Transaction.{Transaction}
use Rattle.history_laws.proofs.Objects.{is_not}
use Rattle.history_laws.proofs.Rows.{Alike, Follows, Untouched, steps}
use Rattle.history_laws.proofs.Steps.{kept_to_end}
use Rattle.history_laws.specs.Laws.{AreApart, IsApart, IsShareOf, ListsOverDifferentTablesCommute, Share, changes_row, is_none_of, is_over}
use Rattle.plain_data.proofs.Options.{same_some}

-- what is left of a share's list: it leads from a database that has the state's objects and, in the share's tables, its rows to where the share leads
record Stands (state : Database) (share : Share) (list : List Transaction) : Type 0 where
  now : Database
  over : is_over share.takes list ≡ true
  fits : more_db now list ≡ Some share.after
  alike : Alike share.takes now state

-- what is left of the lists of all shares
abbrev AllStand : Database → List Share → List (List Transaction) → Type 0
AllStand state [] [] = Unit {0}
AllStand state (share ∷ shares) (list ∷ lists) = Stands state share list × AllStand state shares lists
AllStand state [] (list ∷ lists) = ⊥
AllStand state (share ∷ shares) [] = ⊥

-- a step of one of the lists leads to a database where all stand
record Steps (state : Database) (shares : List Share) (fewer : List (List Transaction)) (one : Transaction) : Type 0 where
  next : Database
  fits : changes_db state one.changes ≡ Some next
  objects : next.objects ≡ state.objects
  others : (schema name : List ℕ) → is_none_of shares schema name ≡ true → rows_of next schema name ≡ rows_of state schema name
  stand : AllStand next shares fewer

-- where a share's tables are untouched, it stands as before
stands_still : {state next : Database} {share : Share} {list : List Transaction} → next.objects ≡ state.objects → ((schema name : List ℕ) → share.takes schema name ≡ true → rows_of next schema name ≡ rows_of state schema name)
    → Stands state share list → Stands next share list
stands_still objects rows stands = record {
  now = stands.now;
  over = stands.over;
  fits = stands.fits;
  alike = record {
    objects = stands.alike.objects ∙ sym objects;
    rows = λ schema name taken. stands.alike.rows schema name taken ∙ sym (rows schema name taken);
  };
}

all_still : (share : Share) (state next : Database) → Untouched share.takes state next → (shares : List Share) (lists : List (List Transaction)) → All (IsApart share) shares → AllStand state shares lists → AllStand next shares lists
all_still share state next untouched [] [] apart stand = tt
all_still share state next untouched (other ∷ others) (list ∷ lists) apart stand = (
  stands_still untouched.objects (λ schema name taken. untouched.rows schema name (not_taken schema name taken)) stand.0,
  all_still share state next untouched others lists (All-tail (IsApart share) other others apart) stand.1,
)
  where
    not_taken : (schema name : List ℕ) → other.takes schema name ≡ true → share.takes schema name ≡ false
    not_taken schema name taken = by_test (share.takes schema name) refl
      where
        by_test : (b : Bool) → share.takes schema name ≡ b → b ≡ false
        by_test false e = refl
        by_test true e = absurd (false≢true (sym (All-head (IsApart share) other others apart schema name e) ∙ taken))
all_still share state next untouched [] (list ∷ lists) apart stand = absurd stand
all_still share state next untouched (other ∷ others) [] apart stand = absurd stand

-- a table that a share takes is taken by none of those that it is apart from
none_takes : (share : Share) (shares : List Share) → All (IsApart share) shares → (schema name : List ℕ) → share.takes schema name ≡ true → is_none_of shares schema name ≡ true
none_takes share [] apart schema name taken = refl
none_takes share (other ∷ others) apart schema name taken =
    let rest = none_takes share others (All-tail (IsApart share) other others apart) schema name taken in
    rw (All-head (IsApart share) other others apart schema name taken) rest

-- the share's next transaction fits its own database, and the state after it
record FirstStep (state : Database) (share : Share) (one : Transaction) (list : List Transaction) : Type 0 where
  middle : Database
  follows : Follows share.takes middle state (changes_db state one.changes)
  rest : more_db middle list ≡ Some share.after

first_step : (share : Share) (state : Database) (one : Transaction) (list : List Transaction) → Stands state share (one ∷ list) → FirstStep state share one list
first_step share state one list stands =
    option_and_then_some (λ (next : Database). more_db next list) (changes_db stands.now one.changes) share.after stands.fits (λ middle first rest. record {
      middle = middle;
      follows = steps share.takes one.changes (and_left (list_all (changes_row share.takes) one.changes) (is_over share.takes list) stands.over) stands.now state middle stands.alike first;
      rest = rest;
    })

steps_on : {lists fewer : List (List Transaction)} {one : Transaction} → TakesHead lists one fewer → (shares : List Share) → AreApart shares → (state : Database) → AllStand state shares lists → Steps state shares fewer one
steps_on here [] apart state stand = absurd stand
steps_on (here {x} {list} {lists}) (share ∷ others) apart state stand =
    let step = first_step share state x list stand.0 in
    let follows = step.follows in
    record {
      next = follows.next;
      fits = follows.fits;
      objects = follows.untouched.objects;
      others = λ schema name none. follows.untouched.rows schema name (is_not (share.takes schema name) (and_left (not (share.takes schema name)) (is_none_of others schema name) none));
      stand = (
        record {
          now = step.middle;
          over = and_right (list_all (changes_row share.takes) x.changes) (is_over share.takes list) stand.0.over;
          fits = step.rest;
          alike = follows.alike;
        },
        all_still share state follows.next follows.untouched others lists apart.0 stand.1,
      );
    }
steps_on (there head) [] apart state stand = absurd stand
steps_on (there head) (share ∷ others) apart state stand =
    let step = steps_on head others apart.1 state stand.1 in
    record {
      next = step.next;
      fits = step.fits;
      objects = step.objects;
      others = λ schema name none. step.others schema name (and_right (not (share.takes schema name)) (is_none_of others schema name) none);
      stand = (
        stands_still step.objects (λ schema name taken. step.others schema name (none_takes share others apart.0 schema name taken)) stand.0,
        step.stand,
      );
    }

-- what holds before each step
record Holds (start : Database) (shares : List Share) (lists : List (List Transaction)) (state : Database) : Type 0 where
  objects : state.objects ≡ start.objects
  others : (schema name : List ℕ) → is_none_of shares schema name ≡ true → rows_of state schema name ≡ rows_of start schema name
  stand : AllStand state shares lists

stand_first : (start : Database) (shares : List Share) → All (IsShareOf start) shares → AllStand start shares (map (λ (share : Share). share.list) shares)
stand_first start [] are = tt
stand_first start (share ∷ shares) are = (
  record {
    now = start;
    over = (All-head (IsShareOf start) share shares are).over;
    fits = (All-head (IsShareOf start) share shares are).fits;
    alike = record { objects = refl; rows = λ schema name taken. refl };
  },
  stand_first start shares (All-tail (IsShareOf start) share shares are),
)

-- the rows of its tables are those that the share leaves
abbrev HasOwn : Database → Share → Type 0
HasOwn last share = (schema name : List ℕ) → share.takes schema name ≡ true → rows_of last schema name ≡ rows_of share.after schema name

-- where nothing is left of a list, its share's rows are there
own_rows : (last : Database) (share : Share) (list : List Transaction) → list ≡ [] → Stands last share list → HasOwn last share
own_rows last share [] none stands schema name taken = sym (stands.alike.rows schema name taken) ∙ ap (λ (d : Database). rows_of d schema name) (same_some stands.fits)
own_rows last share (one ∷ list) none stands schema name taken = absurd (cc)

all_own : (last : Database) (shares : List Share) (left : List (List Transaction)) → All (λ (list : List Transaction). list ≡ []) left → AllStand last shares left → All (HasOwn last) shares
all_own last [] [] none stand = All-nil (HasOwn last)
all_own last (share ∷ shares) (list ∷ lists) none stand =
    All-cons (HasOwn last) share shares (own_rows last share list (All-head (λ (list : List Transaction). list ≡ []) list lists none) stand.0) (all_own last shares lists (All-tail (λ (list : List Transaction). list ≡ []) list lists none) stand.1)
all_own last [] (list ∷ lists) none stand = absurd stand
all_own last (share ∷ shares) [] none stand = absurd stand

pub commute : ListsOverDifferentTablesCommute
commute start shares are apart whole order =
    let after = kept_to_end (Holds start shares) keeps (map (λ (share : Share). share.list) shares) whole order start (record { objects = refl; others = λ schema name none. refl; stand = stand_first start shares are }) in
    (after.last, after.fits, record { objects = after.held.objects; own = all_own after.last shares after.left after.none after.held.stand; others = after.held.others })
  where
    keeps : (lists fewer : List (List Transaction)) (one : Transaction) (state : Database) → TakesHead lists one fewer → Holds start shares lists state
        → (next : Database) × (changes_db state one.changes ≡ Some next) × Holds start shares fewer next
    keeps lists fewer one state head holds =
        let step = steps_on head shares apart state holds.stand in (
          step.next,
          step.fits,
          record {
            objects = step.objects ∙ holds.objects;
            others = λ schema name none. step.others schema name none ∙ holds.others schema name none;
            stand = step.stand;
          },
        )
