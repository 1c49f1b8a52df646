-- A step leads a load on.
use Rattle.std.proofs.Common.{◌≡◌, ℕ, ◌+◌, ◌<◌, ◌≤◌, arith, Bool, true, false, cond, List, [], ◌∷◌, ◌++◌, length, take, Some, refl, ap, sym, ◌∙◌, subst, append_assoc, ◌⊎◌, inl, inr}
use Rattle.std.specs.Prelude.{Contains, count_by, slice_get}
use Rattle.std.proofs.lemmas.Bool.{false≢true}
use Rattle.std.proofs.lemmas.List.{take_more}
use Rattle.std.proofs.lemmas.List.Elements.{All-contains, Contains-append_cases, Contains-append_left, Contains-append_right, Contains-push}
use Rattle.std.proofs.lemmas.List.Sorted.{IsPermutation-refl}
use Rattle.std.proofs.lemmas.Option.{get_or_from_slice_get, slice_get_within}
use Rattle.folder_meaning.specs.Loading.{LoadingAt, MakesObject, MakesOnly, NamesSchema, IsInOrder, all_plan_lines, digest_row, digest_table, keeps_digest, loading, loads_file, makes_object, makes_progress, marks_table, no_marks, no_object, no_rows, object_lines, preparing, progress_objects, progress_rows}
use Rattle.folder_meaning.specs.Plan.{LoadPlan, PlanLine}
use Rattle.honest_server.specs.Answer.{progress_schema}
use Rattle.honest_server.specs.Effect.{HasItsPlace}
use Rattle.honest_server.specs.WellFormed.{IsWellFormed}
use Rattle.link_traits.specs.Contents.{File}
use Rattle.load_laws.proofs.Files.{HasMore, changes_more, count_tables, file_goes_on, put_count, put_rows_count}
use Rattle.load_laws.proofs.Making.{IsNoTrigger, goes_last, made_push, no_triggers, with_made}
use Rattle.load_laws.proofs.Triggers.{GoesLast, IsSame, is_same, one_more}
use Rattle.load_laws.specs.LoadLaws.{AStepGoesOn, HaveTheirPlaces}
use Rattle.object_forms.specs.declared.kind.Kind.{Kind}
use Rattle.object_forms.specs.declared.kind.Kind.TheVariants.{Trigger}
use Rattle.server_data.proofs.Counts.{count_front, count_none}
use Rattle.server_data.specs.Agree.{Agree, is_before, is_trigger_named, object_eq}
use Rattle.server_data.specs.Bag.{count_of}
use Rattle.server_data.specs.Equal.{kind_eq}
use Rattle.server_data.specs.Fold.{changes_db, is_of_table, rows_in, rows_of, with_object}
use Rattle.server_data.specs.declared.data.Change.{Change}
use Rattle.server_data.specs.declared.data.Change.TheVariants.{Make, Put}
use Rattle.server_data.specs.declared.data.Database.{Database}
use Rattle.server_data.specs.declared.data.Object.{Object}
use Rattle.server_data.specs.declared.data.TableRows.{TableRows}
use Rattle.sql_cells.specs.declared.cell.Cell.{Cell}

-- an object that isn't a trigger goes last wherever it is made
quiet : (now meant : Database) (object wanted : Object) → IsSame object wanted → kind_eq wanted.kind Trigger ≡ false → GoesLast now meant object wanted
quiet now meant object wanted same none = record {
  same = same;
  last = λ schema table first second on. absurd (false≢true (sym (not_object schema table second) ∙ on));
  last_too = λ schema table first second on. absurd (false≢true (sym (not_wanted schema table second) ∙ on));
  on_table = λ schema table name. not_object schema table name ∙ sym (not_wanted schema table name);
  others = λ schema table name second on. absurd (false≢true (sym (not_wanted schema table second) ∙ on));
}
  where
    not_wanted : (schema table name : List ℕ) → is_trigger_named schema table name wanted ≡ false
    not_wanted schema table name = rw none refl

    not_object : (schema table name : List ℕ) → is_trigger_named schema table name object ≡ false
    not_object schema table name = let none_too : kind_eq object.kind Trigger ≡ false = ap (λ (kind : Kind). kind_eq kind Trigger) same.kind ∙ none in rw none_too refl

-- the place of an object that is made
its_place : (now : Database) (changes : List Change) (object : Object) → changes ≡ Make object ∷ [] → HaveTheirPlaces now changes → HasItsPlace now object object.kind
its_place now changes object are places = places object (subst (λ (all : List Change). Contains all (Make object)) (sym are) (0, omega arith, refl))

-- one more of a list
module _ {X : Type 0} where
  next_taken : (xs : List X) (count : ℕ) (x : X) → slice_get xs count ≡ Some x → take (count + 1) xs ≡ take count xs ++ x ∷ []
  next_taken xs count x found = take_more xs count x (slice_get_within xs count x found) ∙ ap (λ (y : X). take count xs ++ y ∷ []) (get_or_from_slice_get xs count x x found)

  is_member : (xs : List X) (count : ℕ) (x : X) → slice_get xs count ≡ Some x → Contains xs x
  is_member xs count x found = (count, slice_get_within xs count x found, get_or_from_slice_get xs count x x found)

-- an object of the progress
progress_goes_on : (files : List File) (plan : LoadPlan) (count : ℕ) (wanted : Object) (changes : List Change) (before now after : Database) → LoadingAt files plan (preparing count) before now → slice_get progress_objects count ≡ Some wanted → MakesOnly changes wanted
    → changes_db now changes ≡ Some after → LoadingAt files plan (preparing (count + 1)) before after
progress_goes_on files plan count wanted changes before now after at found makes fits = record {
  fresh = at.fresh;
  added = record { objects = take (count + 1) progress_objects; rows = [] };
  at_stage = (less (slice_get_within progress_objects count wanted found), refl);
  agree = subst (λ (d : Database). Agree d (record { objects = before.objects ++ take (count + 1) progress_objects; rows = before.rows ++ [] })) (with_made now after changes makes.object makes.changes_are fits)
      (subst (λ (objects : List Object). Agree (with_object now makes.object) (record { objects = objects; rows = before.rows ++ [] })) objects_are (one_more now meant makes.object wanted agree (quiet now meant makes.object wanted (is_same makes.object wanted makes.same) none)));
}
  where
    less : count < 3 → count + 1 ≤ 3
    less e = omega arith

    meant : Database
    meant = record { objects = before.objects ++ take count progress_objects; rows = before.rows ++ [] }

    agree : Agree now (record { objects = before.objects ++ take count progress_objects; rows = before.rows ++ [] })
    agree = subst (λ (d : Database). Agree now (record { objects = before.objects ++ d.objects; rows = before.rows ++ d.rows })) at.at_stage.1 at.agree

    objects_are : (before.objects ++ take count progress_objects) ++ wanted ∷ [] ≡ before.objects ++ take (count + 1) progress_objects
    objects_are = append_assoc before.objects (take count progress_objects) (wanted ∷ []) ∙ ap (λ (objects : List Object). before.objects ++ objects) (sym (next_taken progress_objects count wanted found))

    none : kind_eq wanted.kind Trigger ≡ false
    none = All-contains IsNoTrigger progress_objects wanted no_triggers (is_member progress_objects count wanted found)

-- an object of a line
object_goes_on : (files : List File) (plan : LoadPlan) (made loaded : List PlanLine) (line : PlanLine) (wanted : Object) (changes : List Change) (before now after : Database) → IsWellFormed now → LoadingAt files plan (loading made loaded) before now
    → IsInOrder plan (made ++ line ∷ []) loaded → MakesObject files (length made) line wanted → MakesOnly changes wanted → HaveTheirPlaces now changes → changes_db now changes ≡ Some after → LoadingAt files plan (loading (made ++ line ∷ []) loaded) before after
object_goes_on files plan made loaded line wanted changes before now after formed at order makes only places fits = record {
  fresh = at.fresh;
  added = record { objects = progress_objects ++ (at.at_stage.objects ++ wanted ∷ []); rows = rows };
  at_stage = record {
    in_order = order;
    objects = at.at_stage.objects ++ wanted ∷ [];
    are_made = made_push at.at_stage.are_made (length made) line wanted (omega arith) makes;
    rows = at.at_stage.rows;
    are_loaded = at.at_stage.are_loaded;
    marks = at.at_stage.marks;
    are_marked = at.at_stage.are_marked;
    database_is = refl;
  };
  agree = subst (λ (d : Database). Agree d (record { objects = before.objects ++ (progress_objects ++ (at.at_stage.objects ++ wanted ∷ [])); rows = before.rows ++ rows })) (with_made now after changes only.object only.changes_are fits)
      (subst (λ (objects : List Object). Agree (with_object now only.object) (record { objects = objects; rows = before.rows ++ rows })) (append_assoc before.objects (progress_objects ++ at.at_stage.objects) (wanted ∷ [])) (one_more now meant only.object wanted agree last));
}
  where
    rows : List TableRows
    rows = progress_rows digest_table (digest_row plan.digest ∷ []) ∷ progress_rows marks_table at.at_stage.marks ∷ at.at_stage.rows

    meant : Database
    meant = record { objects = before.objects ++ (progress_objects ++ at.at_stage.objects); rows = before.rows ++ rows }

    agree : Agree now meant
    agree = subst (λ (d : Database). Agree now (record { objects = before.objects ++ d.objects; rows = before.rows ++ d.rows })) at.at_stage.database_is at.agree

    in_plan : Contains plan.first line ⊎ Contains plan.last line → Contains (all_plan_lines plan) line
    in_plan (inl found) = Contains-append_left (plan.first ++ plan.bulk) plan.last line (Contains-append_left plan.first plan.bulk line found)
    in_plan (inr found) = Contains-append_right (plan.first ++ plan.bulk) plan.last line found

    names : NamesSchema plan line.line.name.schema
    names = inr (
      line,
      in_plan (Contains-append_cases plan.first plan.last line (subst (λ (lines : List PlanLine). Contains lines line) order.made_first (Contains-append_left (made ++ line ∷ []) order.left line (Contains-push made line)))),
      refl,
    )

    last : GoesLast now meant only.object wanted
    last = goes_last files plan made loaded before now at.fresh at.at_stage.objects at.at_stage.are_made meant refl agree formed line names only.object wanted makes (is_same only.object wanted only.same) (its_place now changes only.object only.changes_are places)

-- the dump's digest
digest_goes_on : (files : List File) (plan : LoadPlan) (changes : List Change) (before now after : Database) → LoadingAt files plan (preparing 3) before now → changes ≡ Put progress_schema digest_table (digest_row plan.digest) ∷ [] → changes_db now changes ≡ Some after
    → LoadingAt files plan (loading [] []) before after
unfolding rows_of is_before
digest_goes_on files plan changes before now after at are fits = record {
  fresh = at.fresh;
  added = record { objects = progress_objects ++ []; rows = digest ∷ progress_rows marks_table [] ∷ [] };
  at_stage = record {
    in_order = record {
      left = object_lines plan;
      made_first = refl;
      unloaded = plan.bulk;
      of_plan = IsPermutation-refl plan.bulk;
      after_first = λ some. absurd (some refl);
      before_last = λ less. absurd (omega arith);
    };
    objects = [];
    are_made = no_object;
    rows = [];
    are_loaded = no_rows;
    marks = [];
    are_marked = no_marks;
    database_is = refl;
  };
  agree = record {
    objects = record { counts = λ object. ap (count_by (object_eq object)) more.objects ∙ agree.objects.counts object };
    order = λ schema table first second. rw more.objects (agree.order schema table first second);
    rows = λ schema name. record {
      counts = λ row.
          let counts = more.counts schema name row in
          let bag = (agree.rows schema name).counts row in
          let put = put_rows_count schema name row digest in
          let old = count_tables row schema name before.rows [] in
          let new = count_tables row schema name before.rows (digest ∷ progress_rows marks_table [] ∷ []) in
          let front = count_front row schema name digest (progress_rows marks_table [] ∷ []) in
          let none = no_mark schema name row in
          let nothing = count_none row in
          omega arith;
    };
  };
}
  where
    digest : TableRows
    digest = progress_rows digest_table (digest_row plan.digest ∷ [])

    agree : Agree now (record { objects = before.objects ++ progress_objects; rows = before.rows ++ [] })
    agree = subst (λ (d : Database). Agree now (record { objects = before.objects ++ d.objects; rows = before.rows ++ d.rows })) at.at_stage.1 at.agree

    more : HasMore now after (λ schema name row. put_count schema name row (Put progress_schema digest_table (digest_row plan.digest) ∷ []))
    more = changes_more (Put progress_schema digest_table (digest_row plan.digest) ∷ []) now after refl (ap (changes_db now) (sym are) ∙ fits)

    no_mark : (schema name : List ℕ) (row : List Cell) → count_of row (rows_in schema name (progress_rows marks_table [] ∷ [])) ≡ 0
    no_mark schema name row = by_test (is_of_table schema name (progress_rows marks_table []))
      where
        by_test : (b : Bool) → count_of row (cond b [] []) ≡ 0
        by_test false = count_none row
        by_test true = count_none row

pub step_goes_on : AStepGoesOn
step_goes_on files plan stage next before now after changes formed at (makes_progress {count} {object} found makes) places fits = progress_goes_on files plan count object changes before now after at found makes fits
step_goes_on files plan stage next before now after changes formed at (keeps_digest are) places fits = digest_goes_on files plan changes before now after at are fits
step_goes_on files plan stage next before now after changes formed at (makes_object {made} {loaded} {line} {object} order makes only) places fits = object_goes_on files plan made loaded line object changes before now after formed at order makes only places fits
step_goes_on files plan stage next before now after changes formed at (loads_file {made} {loaded} {line} order puts) places fits = file_goes_on files plan made loaded line before now after changes at order puts fits
