-- Databases that are alike stay alike under the same changes.
use Rattle.std.proofs.Common.{◌≡◌, ℕ, true, not, ◌&&◌, cond, List, [], ◌∷◌, ◌++◌, Option, Some, None, refl, ap, sym, ◌∙◌, subst, bytes_eq}
use Rattle.std.specs.Prelude.{IfSome, filter, find, is_some, option_and_then}
use Rattle.std.proofs.lemmas.Option.{cond_some, option_and_then_some}
use Rattle.object_forms.specs.declared.kind.Kind.{Kind}
use Rattle.object_forms.specs.declared.kind.Kind.TheVariants.{Table}
use Rattle.server_data.specs.Equal.{kind_eq}
use Rattle.server_data.specs.Fold.{change_db, changes_db, db, empty_db, has_object, is_object, may_drop, may_make, more_db, rows_of, with_object, without_object}
use Rattle.server_data.specs.declared.data.Change.{Change}
use Rattle.server_data.specs.declared.data.Change.TheVariants.{Make, Drop, Put, Remove}
use Rattle.server_data.specs.declared.data.Database.{Database}
use Rattle.server_data.specs.declared.data.Object.{Object}
use Rattle.server_data.specs.declared.data.Transaction.{Transaction}
use Rattle.sql_cells.specs.declared.cell.Cell.{Cell}
use Rattle.plain_data.proofs.Options.{same_some}
use Rattle.history_laws.proofs.Drops.{rows_after_drop}
use Rattle.history_laws.proofs.Rows.{Alike, Follows, step}
use Rattle.version_store.specs.Laws.{HistoriesGoOn, HistoriesTellWhatFits, HistoriesTellWhatIsRead}
use Rattle.version_store.specs.Read.{AreRead, ReadsTable}
use Rattle.version_store.specs.Store.{AreAlike, Leaves}

pub alike_self : (database : Database) → AreAlike database database
alike_self database = record { objects = refl; rows = λ schema name. refl }

alike_turned : (one other : Database) → AreAlike one other → AreAlike other one
alike_turned one other same = record { objects = sym same.objects; rows = λ schema name. sym (same.rows schema name) }

alike_joined : (one next last : Database) → AreAlike one next → AreAlike next last → AreAlike one last
alike_joined one next last same more = record { objects = same.objects ∙ more.objects; rows = λ schema name. same.rows schema name ∙ more.rows schema name }

-- what fits one of two databases fits the other, and leaves a database that is alike
record AlsoFits (next : Database) (found : Option Database) : Type 0 where
  last : Database
  fits : found ≡ Some last
  alike : AreAlike next last

-- the tests of an object depend on the objects alone

makes_alike : (one other : Database) (object : Object) → one.objects ≡ other.objects → may_make one object ≡ may_make other object
unfolding may_make has_object
makes_alike one other object e = ap (λ (objects : List Object). may_make (record { objects = objects; rows = one.rows }) object) e

drops_alike : (one other : Database) (kind : Kind) (schema name : List ℕ) → one.objects ≡ other.objects → may_drop one kind schema name ≡ may_drop other kind schema name
unfolding may_drop has_object
drops_alike one other kind schema name e = ap (λ (objects : List Object). may_drop (record { objects = objects; rows = one.rows }) kind schema name) e

made_rows : (database : Database) (object : Object) (schema name : List ℕ) → rows_of (with_object database object) schema name ≡ rows_of database schema name
unfolding rows_of
made_rows database object schema name = refl

make_alike : (object : Object) (one other next : Database) → AreAlike one other → change_db one (Make object) ≡ Some next → AlsoFits next (change_db other (Make object))
unfolding change_db
make_alike object one other next same fits =
    let made = cond_some (may_make one object) (with_object one object) next fits in
    let may : may_make other object ≡ true = sym (makes_alike one other object same.objects) ∙ made.0 in
    record {
      last = with_object other object;
      fits = rw may refl;
      alike = subst (λ (d : Database). AreAlike d (with_object other object)) made.1 (record {
        objects = ap (λ (objects : List Object). objects ++ object ∷ []) same.objects;
        rows = λ schema name. made_rows one object schema name ∙ (same.rows schema name ∙ sym (made_rows other object schema name));
      });
    }

drop_alike : (kind : Kind) (schema name : List ℕ) (one other next : Database) → AreAlike one other → change_db one (Drop kind schema name) ≡ Some next → AlsoFits next (change_db other (Drop kind schema name))
unfolding change_db
drop_alike kind schema name one other next same fits =
    let dropped = cond_some (may_drop one kind schema name) (without_object one kind schema name) next fits in
    let may : may_drop other kind schema name ≡ true = sym (drops_alike one other kind schema name same.objects) ∙ dropped.0 in
    record {
      last = without_object other kind schema name;
      fits = rw may refl;
      alike = subst (λ (d : Database). AreAlike d (without_object other kind schema name)) dropped.1 (record {
        objects = ap (λ (objects : List Object). filter (λ (object : Object). not (is_object kind schema name object)) objects) same.objects;
        rows = λ s n.
            rows_after_drop one kind schema name s n
            ∙ (ap (λ (rows : List (List Cell)). cond (kind_eq kind Table && (bytes_eq schema s && bytes_eq name n)) [] rows) (same.rows s n)
            ∙ sym (rows_after_drop other kind schema name s n));
      });
    }

-- rows that are put and removed
row_alike : (change : Change) (one other next : Database) → AreAlike one other → Follows (λ schema name. true) next other (change_db other change) → AlsoFits next (change_db other change)
row_alike change one other next same follows = record {
  last = follows.next;
  fits = follows.fits;
  alike = record { objects = follows.alike.objects; rows = λ schema name. follows.alike.rows schema name refl };
}

taken : (one other : Database) → AreAlike one other → Alike (λ schema name. true) one other
taken one other same = record { objects = same.objects; rows = λ schema name e. same.rows schema name }

change_alike : (change : Change) (one other next : Database) → AreAlike one other → change_db one change ≡ Some next → AlsoFits next (change_db other change)
change_alike (Make object) one other next same fits = make_alike object one other next same fits
change_alike (Drop kind schema name) one other next same fits = drop_alike kind schema name one other next same fits
change_alike (Put schema name row) one other next same fits =
    row_alike (Put schema name row) one other next same (step (λ schema name. true) (Put schema name row) refl one other next (taken one other same) fits)
change_alike (Remove schema name row) one other next same fits =
    row_alike (Remove schema name row) one other next same (step (λ schema name. true) (Remove schema name row) refl one other next (taken one other same) fits)

changes_alike : (changes : List Change) (one other next : Database) → AreAlike one other → changes_db one changes ≡ Some next → AlsoFits next (changes_db other changes)
changes_alike [] one other next same fits = record { last = other; fits = refl; alike = subst (λ (d : Database). AreAlike d other) (same_some fits) same }
changes_alike (change ∷ changes) one other next same fits =
    option_and_then_some (λ (d : Database). changes_db d changes) (change_db one change) next fits (λ middle first rest.
    let here = change_alike change one other middle same first in
    let more = changes_alike changes middle here.last next here.alike rest in
    record {
      last = more.last;
      fits = ap (λ (found : Option Database). option_and_then (λ (d : Database). changes_db d changes) found) here.fits ∙ more.fits;
      alike = more.alike;
    })

-- the changes fit both databases or none
fit_alike : (changes : List Change) (one other : Database) → AreAlike one other → is_some (changes_db one changes) ≡ is_some (changes_db other changes)
fit_alike changes one other same = by_found (changes_db one changes) refl (changes_db other changes) refl
  where
    by_found : (a : Option Database) → changes_db one changes ≡ a → (b : Option Database) → changes_db other changes ≡ b → is_some a ≡ is_some b
    by_found None e None f = refl
    by_found (Some x) e (Some y) f = refl
    by_found (Some x) e None f = let also = changes_alike changes one other x same e in absurd (cc)
    by_found None e (Some y) f = let also = changes_alike changes other one y (alike_turned one other same) f in absurd (cc)

-- the database after one transaction more
more_at_end : (history : List Transaction) (one : Transaction) (start : Database) → more_db start (history ++ one ∷ []) ≡ option_and_then (λ (d : Database). changes_db d one.changes) (more_db start history)
more_at_end [] one start = last (changes_db start one.changes)
  where
    last : (found : Option Database) → option_and_then (λ (d : Database). Some d) found ≡ found
    last None = refl
    last (Some d) = refl
more_at_end (first ∷ history) one start = by_found (λ d. more_at_end history one d) (changes_db start first.changes)
  where
    by_found : ((d : Database) → more_db d (history ++ one ∷ []) ≡ option_and_then (λ (d : Database). changes_db d one.changes) (more_db d history)) → (found : Option Database) → option_and_then (λ (d : Database). more_db d (history ++ one ∷ [])) found ≡ option_and_then (λ (d : Database). changes_db d one.changes) (option_and_then (λ (d : Database). more_db d history) found)
    by_found more None = refl
    by_found more (Some d) = more d

after_one : (history : List Transaction) (one : Transaction) (last : Database) → db history ≡ Some last → db (history ++ one ∷ []) ≡ changes_db last one.changes
after_one history one last stands =
    more_at_end history one empty_db ∙ ap (λ (found : Option Database). option_and_then (λ (d : Database). changes_db d one.changes) found) stands

pub tell_what_fits : HistoriesTellWhatFits
tell_what_fits history one database leaves =
    fit_alike one.changes database leaves.last (alike_turned leaves.last database leaves.alike)
    ∙ ap (λ (found : Option Database). is_some found) (sym (after_one history one leaves.last leaves.stands))

pub go_on : HistoriesGoOn
go_on history one old new leaves fits applies = by_found (changes_db old.present one.changes) refl fits applies.present
  where
    by_found : (found : Option Database) → changes_db old.present one.changes ≡ found → is_some found ≡ true → IfSome found (λ (next : Database). AreAlike next new.present) → Leaves (history ++ one ∷ []) new.present
    by_found None e f alike = absurd (cc)
    by_found (Some next) e f alike =
        let also = changes_alike one.changes old.present leaves.last next (alike_turned leaves.last old.present leaves.alike) e in
        record {
          last = also.last;
          stands = after_one history one leaves.last leaves.stands ∙ also.fits;
          alike = alike_joined also.last next new.present (alike_turned next also.last also.alike) alike;
        }

pub tell_what_is_read : HistoriesTellWhatIsRead
tell_what_is_read history database table bounds read leaves reads =
    rw leaves.stands (reads_last leaves.last database leaves.alike reads)
  where
    reads_last : (last database : Database) → AreAlike last database → ReadsTable database table bounds read → ReadsTable last table bounds read
    reads_last last database alike reads =
        subst (λ (objects : List Object). IfSome (find (is_object Table table.schema table.name) objects) (λ object. AreRead object.columns object.key bounds (rows_of last table.schema table.name) read)) (sym alike.objects)
        (subst (λ (rows : List (List Cell)). IfSome (find (is_object Table table.schema table.name) database.objects) (λ object. AreRead object.columns object.key bounds rows read)) (sym (alike.rows table.schema table.name)) reads)
