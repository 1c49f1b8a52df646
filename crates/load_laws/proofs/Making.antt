-- An object that a load makes.
use Rattle.std.proofs.Common.{◌≡◌, ℕ, ◌+◌, ◌<◌, ◌≤◌, arith, Bool, true, false, ◌||◌, cond, List, [], ◌∷◌, ◌++◌, length, Option, Some, None, refl, ap, sym, ◌∙◌, subst, bytes_eq, ◌⊎◌, inl, inr}
use Rattle.std.specs.Prelude.{All, Contains, map, option_map, unwrap_or}
use Rattle.std.specs.List.{list_any}
use Rattle.std.proofs.lemmas.Bool.{false≢true}
use Rattle.std.proofs.lemmas.List.Elements.{All-cons, All-contains, All-contains_itself, All-nil, All-weaker, Contains-append_cases}
use Rattle.std.proofs.lemmas.Option.{cond_some, option_and_then_some}
use Rattle.file_forms.specs.SchemaFile.{NeedsNamedTable, NeedsWhatIsNamed}
use Rattle.folder_meaning.specs.Loading.{IsFreshFor, MakeObjects, MakesObject, NamesSchema, StandsApart, next_object, no_object, progress_objects}
use Rattle.folder_meaning.specs.Plan.{LoadPlan, PlanLine}
use Rattle.folder_meaning.specs.Renamed.{in_schema, made_in, need_in}
use Rattle.honest_server.specs.Effect.{HasItsPlace, IsLastTrigger, greatest_rank}
use Rattle.honest_server.specs.Insert.{is_on_table}
use Rattle.honest_server.specs.WellFormed.{HasItsTable, IsWellFormed, IsWellFormedObject, NamesOrLeavesOut, NeedsItsTable}
use Rattle.link_traits.specs.Contents.{File}
use Rattle.load_laws.proofs.Triggers.{GoesLast, IsLastAmong, IsSame, Passing, any_of, is_same, no_greater, passing, same_back, same_objects_back, same_test, there_too}
use Rattle.object_forms.specs.Head.{Path, trigger_table}
use Rattle.object_forms.specs.Shape.{name_value}
use Rattle.object_forms.specs.declared.kind.Kind.{Kind}
use Rattle.object_forms.specs.declared.kind.Kind.TheVariants.{Schema, Table, Procedure, Function, View, Trigger, Event}
use Rattle.plain_data.proofs.Options.{same_some}
use Rattle.server_data.proofs.Counts.{and_both, and_left, and_right}
use Rattle.server_data.proofs.Equals.{bytes_are, kind_is}
use Rattle.server_data.specs.Agree.{Agree, is_trigger_named, object_eq}
use Rattle.server_data.specs.Equal.{kind_eq}
use Rattle.server_data.specs.Fold.{change_db, changes_db, is_need, may_make, table_of_trigger, with_object}
use Rattle.server_data.specs.declared.data.Change.{Change}
use Rattle.server_data.specs.declared.data.Change.TheVariants.{Make}
use Rattle.server_data.specs.declared.data.Database.{Database}
use Rattle.server_data.specs.declared.data.Need.{Need}
use Rattle.server_data.specs.declared.data.Object.{Object}

-- an object that is made in a schema

kind_kept : (name : List ℕ) (object : Object) → (made_in name object).kind ≡ object.kind
kind_kept name object = by_test (bytes_eq object.schema name)
  where
    by_kind : (kind : Kind) → (in_schema name object kind).kind ≡ object.kind
    by_kind Schema = refl
    by_kind Table = refl
    by_kind Procedure = refl
    by_kind Function = refl
    by_kind View = refl
    by_kind Trigger = refl
    by_kind Event = refl

    by_test : (b : Bool) → (cond b object (in_schema name object object.kind)).kind ≡ object.kind
    by_test true = refl
    by_test false = by_kind object.kind

schema_given : (name : List ℕ) (object : Object) → (made_in name object).schema ≡ name
schema_given name object = by_test (bytes_eq object.schema name) refl
  where
    by_kind : (kind : Kind) → (in_schema name object kind).schema ≡ name
    by_kind Schema = refl
    by_kind Table = refl
    by_kind Procedure = refl
    by_kind Function = refl
    by_kind View = refl
    by_kind Trigger = refl
    by_kind Event = refl

    by_test : (b : Bool) → bytes_eq object.schema name ≡ b → (cond b object (in_schema name object object.kind)).schema ≡ name
    by_test true e = bytes_are object.schema name e
    by_test false e = by_kind object.kind

-- a trigger keeps its text, and its table is in its schema
record IsTriggerIn (name : List ℕ) (object made : Object) (found : Path) : Type 0 where
  text : made.text ≡ object.text
  table : ((spelled : List ℕ) → found.schema ≡ Some spelled → name_value spelled ≡ name) → table_of_trigger made.needs ≡ record { schema = name; name = name_value found.name }

trigger_in : (name : List ℕ) (object : Object) → object.kind ≡ Trigger → (named : NeedsNamedTable object) → IsTriggerIn name object (made_in name object) named.found
trigger_in name object kind named = by_test (bytes_eq object.schema name) refl
  where
    own : bytes_eq object.schema name ≡ true → (schema : Option (List ℕ)) → ((spelled : List ℕ) → schema ≡ Some spelled → name_value spelled ≡ name) → unwrap_or (option_map name_value schema) object.schema ≡ name
    own e None spells = bytes_are object.schema name e
    own e (Some spelled) spells = spells spelled refl

    moved : IsTriggerIn name object (in_schema name object Trigger) named.found
    moved = record {
      text = refl;
      table = λ spells. ap (λ (needs : List Need). table_of_trigger (map (need_in name) needs)) named.needs;
    }

    by_test : (b : Bool) → bytes_eq object.schema name ≡ b → IsTriggerIn name object (cond b object (in_schema name object object.kind)) named.found
    by_test true e = record {
      text = refl;
      table = λ spells.
          ap table_of_trigger named.needs
          ∙ ap (λ (schema : List ℕ). table_of_trigger (record { schema = schema; name = name_value named.found.name } ∷ [])) (own e named.found.schema spells);
    }
    by_test false e = subst (λ (kind : Kind). IsTriggerIn name object (in_schema name object kind) named.found) (sym kind) moved

made_schema : {files : List File} {place : ℕ} {line : PlanLine} {made : Object} → MakesObject files place line made → made.schema ≡ line.line.name.schema
made_schema {line = line} is = ap (λ (o : Object). o.schema) is.made_is ∙ schema_given line.line.name.schema is.object

made_rank : {files : List File} {place : ℕ} {line : PlanLine} {made : Object} → MakesObject files place line made → made.rank ≡ place
made_rank is = ap (λ (o : Object). o.rank) is.made_is

-- what the server has and what is meant stand on one table
pub same_table : (files : List File) (place : ℕ) (line : PlanLine) (made : Object) → MakesObject files place line made → (x : Object) → IsSame x made → x.kind ≡ Trigger → (table : Need) → NeedsItsTable x table
    → (schema table_name name : List ℕ) → is_trigger_named schema table_name name x ≡ is_trigger_named schema table_name name made
same_table files place line made is x same kind table needs schema table_name name = rw (same.kind, same.name, tables) refl
  where
    object_kind : is.object.kind ≡ Trigger
    object_kind = sym (kind_kept line.line.name.schema is.object) ∙ (ap (λ (o : Object). o.kind) (sym is.made_is) ∙ (sym same.kind ∙ kind))

    named : NeedsNamedTable is.object
    named = subst (NeedsWhatIsNamed is.object) object_kind is.whole.spells.said.needs

    trigger : IsTriggerIn line.line.name.schema is.object (made_in line.line.name.schema is.object) named.found
    trigger = trigger_in line.line.name.schema is.object object_kind named

    schema_is : x.schema ≡ line.line.name.schema
    schema_is = same.schema ∙ made_schema is

    found_is : needs.found ≡ named.found
    found_is = same_some (sym needs.is_found ∙ (ap trigger_table (same.text ∙ (ap (λ (o : Object). o.text) is.made_is ∙ trigger.text)) ∙ named.is_found))

    spells : (found : Option (List ℕ)) → NamesOrLeavesOut found x.schema → (spelled : List ℕ) → found ≡ Some spelled → name_value spelled ≡ line.line.name.schema
    spells None leaves spelled e = absurd (cc)
    spells (Some one) says spelled e = ap name_value (sym (same_some e)) ∙ (says ∙ schema_is)

    need_is : table ≡ record { schema = line.line.name.schema; name = name_value named.found.name }
    need_is = same_need table.schema table.name line.line.name.schema (name_value named.found.name) (needs.own ∙ schema_is) (needs.name ∙ ap (λ (p : Path). name_value p.name) found_is)
      where
        same_need : (a b c d : List ℕ) → a ≡ c → b ≡ d → ◌≡◌ {A = Need} (record { schema = a; name = b }) (record { schema = c; name = d })
        same_need a b c d p q = rw (p, q) refl

    tables : table_of_trigger x.needs ≡ table_of_trigger made.needs
    tables =
        ap table_of_trigger needs.needs
        ∙ (need_is
        ∙ (sym (trigger.table (spells named.found.schema (subst (λ (p : Path). NamesOrLeavesOut p.schema x.schema) found_is needs.schema)))
        ∙ ap (λ (o : Object). table_of_trigger o.needs) (sym is.made_is)))

-- lists of objects that are made

pub made_push : {files : List File} {place : ℕ} {lines : List PlanLine} {objects : List Object} → MakeObjects files place lines objects → (next : ℕ) (line : PlanLine) (object : Object) → next ≡ place + length lines → MakesObject files next line object
    → MakeObjects files place (lines ++ line ∷ []) (objects ++ object ∷ [])
made_push {files} {place} no_object next line object e is = next_object (subst (λ (n : ℕ). MakesObject files n line object) (omega arith) is) no_object
made_push {files} {place} (next_object {lines = lines} first rest) next line object e is = next_object first (made_push rest next line object (omega arith) is)

record IsMadeUnder (files : List File) (bound : ℕ) (made : Object) : Type 0 where
  place : ℕ
  line : PlanLine
  makes : MakesObject files place line made
  below : place < bound

all_made : {files : List File} {place : ℕ} {lines : List PlanLine} {objects : List Object} → MakeObjects files place lines objects → (bound : ℕ) → place + length lines ≤ bound → All (IsMadeUnder files bound) objects
all_made {files} no_object bound e = All-nil (IsMadeUnder files bound)
all_made {files} {place} (next_object {line = line} {lines = lines} {made = made} {objects = objects} first rest) bound e =
    All-cons (IsMadeUnder files bound) made objects (record { place = place; line = line; makes = first; below = omega arith }) (all_made rest bound (omega arith))

or_none : (a b : Bool) → (a || b) ≡ false → (a ≡ false) × (b ≡ false)
or_none true b e = absurd (false≢true (sym e))
or_none false b e = (refl, e)

-- no object of the progress is a trigger
abbrev pub IsNoTrigger : Object → Type 0
IsNoTrigger object = kind_eq object.kind Trigger ≡ false

none_of : (objects : List Object) → list_any (λ (object : Object). kind_eq object.kind Trigger) objects ≡ false → All IsNoTrigger objects
none_of [] none = All-nil IsNoTrigger
none_of (object ∷ objects) none =
    let both = or_none (kind_eq object.kind Trigger) (list_any (λ (object : Object). kind_eq object.kind Trigger) objects) none in
    All-cons IsNoTrigger object objects both.0 (none_of objects both.1)

pub no_triggers : All IsNoTrigger progress_objects
no_triggers = none_of progress_objects refl

-- a trigger on a table
record IsOn (schema table : List ℕ) (object : Object) : Type 0 where
  kind_eq_is : kind_eq object.kind Trigger ≡ true
  kind : object.kind ≡ Trigger
  schema_is : (table_of_trigger object.needs).schema ≡ schema
  table_is : (table_of_trigger object.needs).name ≡ table

is_on : (schema table name : List ℕ) (object : Object) → is_trigger_named schema table name object ≡ true → IsOn schema table object
is_on schema table name object e =
    let after_kind = and_right (kind_eq object.kind Trigger) _ e in
    let need = and_left (is_need schema table (table_of_trigger object.needs)) _ after_kind in
    record {
      kind_eq_is = and_left _ _ e;
      kind = kind_is object.kind Trigger (and_left _ _ e);
      schema_is = bytes_are (table_of_trigger object.needs).schema schema (and_left _ _ need);
      table_is = bytes_are (table_of_trigger object.needs).name table (and_right (bytes_eq (table_of_trigger object.needs).schema schema) _ need);
    }

-- a trigger of the server stands on a table of its own schema
own_schema : (object : Object) (table : Need) → NeedsItsTable object table → (table_of_trigger object.needs).schema ≡ object.schema
own_schema object table needs = ap (λ (all : List Need). (table_of_trigger all).schema) needs.needs ∙ needs.own

-- what is made of an object's changes
pub with_made : (now after : Database) (changes : List Change) (object : Object) → changes ≡ Make object ∷ [] → changes_db now changes ≡ Some after → with_object now object ≡ after
unfolding change_db
with_made now after changes object are fits =
    option_and_then_some (λ (next : Database). Some next) (change_db now (Make object)) after (ap (changes_db now) (sym are) ∙ fits) (λ next first rest.
    (cond_some (may_make now object) (with_object now object) next first).1 ∙ same_some rest)

-- the making of a line's object

module _ (files : List File) (plan : LoadPlan) (made loaded : List PlanLine) (before now : Database) (fresh : IsFreshFor plan before) (is : List Object) (are : MakeObjects files 0 made is) (meant : Database) (meant_is : meant.objects ≡ before.objects ++ (progress_objects ++ is))
    (agree : Agree now meant) (formed : IsWellFormed now) where
  -- where an object of those that are meant stands
  sorted : (object : Object) → Contains meant.objects object → Contains before.objects object ⊎ (IsNoTrigger object ⊎ IsMadeUnder files (length made) object)
  sorted object is_there = by_first (Contains-append_cases before.objects (progress_objects ++ is) object (subst (λ (objects : List Object). Contains objects object) meant_is is_there))
    where
      by_second : Contains progress_objects object ⊎ Contains is object → Contains before.objects object ⊎ (IsNoTrigger object ⊎ IsMadeUnder files (length made) object)
      by_second (inl found) = inr (inl (All-contains IsNoTrigger progress_objects object no_triggers found))
      by_second (inr found) = inr (inr (All-contains (IsMadeUnder files (length made)) is object (all_made are (length made) (omega arith)) found))

      by_first : Contains before.objects object ⊎ Contains (progress_objects ++ is) object → Contains before.objects object ⊎ (IsNoTrigger object ⊎ IsMadeUnder files (length made) object)
      by_first (inl found) = inl found
      by_first (inr found) = by_second (Contains-append_cases progress_objects is object found)

  -- a trigger of those that are meant, on a table of a schema of the plan, is one that was made
  made_there : (schema table name : List ℕ) → NamesSchema plan schema → (object : Object) → Contains meant.objects object → is_trigger_named schema table name object ≡ true → IsMadeUnder files (length made) object
  made_there schema table name names object is_there on = by_place (sorted object is_there)
    where
      stands : IsOn schema table object
      stands = is_on schema table name object on

      by_place : Contains before.objects object ⊎ (IsNoTrigger object ⊎ IsMadeUnder files (length made) object) → IsMadeUnder files (length made) object
      by_place (inl found) = absurd (All-contains (StandsApart plan) before.objects object fresh.triggers found stands.kind (subst (NamesSchema plan) (sym stands.schema_is) names))
      by_place (inr (inl none)) = absurd (false≢true (sym none ∙ stands.kind_eq_is))
      by_place (inr (inr makes)) = makes

  -- a trigger of the server, and its table
  needs_table : (object : Object) → Contains now.objects object → object.kind ≡ Trigger → (table : Need) × NeedsItsTable object table
  needs_table object is_there kind = first_two (subst (HasItsTable now object) kind (All-contains (IsWellFormedObject now) now.objects object formed.objects is_there).table)
    where
      first_two : HasItsTable now object Trigger → (table : Need) × NeedsItsTable object table
      first_two has = (has.0, has.1)

  -- triggers of a name stand on a table in both, or in none
  as_meant : (schema table name : List ℕ) → NamesSchema plan schema → list_any (is_trigger_named schema table name) now.objects ≡ list_any (is_trigger_named schema table name) meant.objects
  as_meant schema table name names = same_test _ _ to from
    where
      to : list_any (is_trigger_named schema table name) now.objects ≡ true → list_any (is_trigger_named schema table name) meant.objects ≡ true
      to any = by_there (there_too now meant agree.objects found.one found.is_there)
        where
          found : Passing (is_trigger_named schema table name) now.objects
          found = passing (is_trigger_named schema table name) now.objects any

          stands : IsOn schema table found.one
          stands = is_on schema table name found.one found.passes

          needs : (table : Need) × NeedsItsTable found.one table
          needs = needs_table found.one found.is_there stands.kind

          by_there : Passing (object_eq found.one) meant.objects → list_any (is_trigger_named schema table name) meant.objects ≡ true
          by_there other = by_place (sorted other.one other.is_there)
            where
              same : IsSame found.one other.one
              same = is_same found.one other.one other.passes

              by_place : Contains before.objects other.one ⊎ (IsNoTrigger other.one ⊎ IsMadeUnder files (length made) other.one) → list_any (is_trigger_named schema table name) meant.objects ≡ true
              by_place (inl old) = absurd (All-contains (λ (object : Object). ¬ NamesSchema plan object.schema) before.objects other.one fresh.objects old (subst (NamesSchema plan) (sym stands.schema_is ∙ (own_schema found.one needs.0 needs.1 ∙ same.schema)) names))
              by_place (inr (inl none)) = absurd (false≢true (sym none ∙ (ap (λ (kind : Kind). kind_eq kind Trigger) (sym same.kind) ∙ stands.kind_eq_is)))
              by_place (inr (inr makes)) =
                  any_of (is_trigger_named schema table name) meant.objects other.one other.is_there
                  (sym (same_table files makes.place makes.line other.one makes.makes found.one same stands.kind needs.0 needs.1 schema table name) ∙ found.passes)

      from : list_any (is_trigger_named schema table name) meant.objects ≡ true → list_any (is_trigger_named schema table name) now.objects ≡ true
      from any = by_there (there_too meant now (same_objects_back now meant agree.objects) found.one found.is_there)
        where
          found : Passing (is_trigger_named schema table name) meant.objects
          found = passing (is_trigger_named schema table name) meant.objects any

          makes : IsMadeUnder files (length made) found.one
          makes = made_there schema table name names found.one found.is_there found.passes

          by_there : Passing (object_eq found.one) now.objects → list_any (is_trigger_named schema table name) now.objects ≡ true
          by_there other =
              let same = same_back (is_same found.one other.one other.passes) in
              let kind = same.kind ∙ (is_on schema table name found.one found.passes).kind in
              let needs = needs_table other.one other.is_there kind in
              any_of (is_trigger_named schema table name) now.objects other.one other.is_there
              (same_table files makes.place makes.line found.one makes.makes other.one same kind needs.0 needs.1 schema table name ∙ found.passes)

  -- the object that is made and the one that is meant
  module _ (line : PlanLine) (names : NamesSchema plan line.line.name.schema) (object wanted : Object) (makes : MakesObject files (length made) line wanted) (same : IsSame object wanted) (place : HasItsPlace now object object.kind) where
    is_last : object.kind ≡ Trigger → IsLastTrigger now object
    is_last kind = subst (HasItsPlace now object) kind place

    on_table : (schema table name : List ℕ) → is_trigger_named schema table name object ≡ is_trigger_named schema table name wanted
    on_table schema table name = by_test (kind_eq object.kind Trigger) refl
      where
        by_test : (b : Bool) → kind_eq object.kind Trigger ≡ b → is_trigger_named schema table name object ≡ is_trigger_named schema table name wanted
        by_test false e =
            let other : kind_eq wanted.kind Trigger ≡ false = ap (λ (kind : Kind). kind_eq kind Trigger) (sym same.kind) ∙ e in
            rw (e, other) refl
        by_test true e =
            let kind = kind_is object.kind Trigger e in
            let last = is_last kind in
            same_table files (length made) line wanted makes object same kind last.table last.needs schema table name

    -- its table is in a schema of the plan
    names_table : (schema table name : List ℕ) → is_trigger_named schema table name object ≡ true → NamesSchema plan schema
    names_table schema table name on =
        let stands = is_on schema table name object on in
        let last = is_last stands.kind in
        subst (NamesSchema plan) (sym (made_schema makes) ∙ (sym same.schema ∙ (sym (own_schema object last.table last.needs) ∙ stands.schema_is))) names

    last_there : IsLastAmong now.objects object
    last_there schema table first second on = All-weaker (λ (one : Object). is_on_table last.table.schema last.table.name one ≡ true → one.rank ≤ greatest_rank now last.table) (λ (one : Object). is_trigger_named schema table first one ≡ true → one.rank < object.rank) each now.objects (no_greater (is_on_table last.table.schema last.table.name) now.objects 0)
      where
        stands : IsOn schema table object
        stands = is_on schema table second object on

        last : IsLastTrigger now object
        last = is_last stands.kind

        schema_is : last.table.schema ≡ schema
        schema_is = ap (λ (all : List Need). (table_of_trigger all).schema) (sym last.needs.needs) ∙ stands.schema_is

        table_is : last.table.name ≡ table
        table_is = ap (λ (all : List Need). (table_of_trigger all).name) (sym last.needs.needs) ∙ stands.table_is

        each : (one : Object) → (is_on_table last.table.schema last.table.name one ≡ true → one.rank ≤ greatest_rank now last.table) → is_trigger_named schema table first one ≡ true → one.rank < object.rank
        each one bounded named =
            let after_kind = and_right (kind_eq one.kind Trigger) _ named in
            let need = and_left (is_need schema table (table_of_trigger one.needs)) _ after_kind in
            let on_there : is_on_table last.table.schema last.table.name one ≡ true = rw (schema_is, table_is) (and_both (kind_eq one.kind Trigger) (is_need schema table (table_of_trigger one.needs)) (and_left _ _ named) need) in
            let bound = bounded on_there in
            let rank = last.rank in
            omega arith

    last_meant : IsLastAmong meant.objects wanted
    last_meant schema table first second on = All-weaker (Contains meant.objects) (λ (one : Object). is_trigger_named schema table first one ≡ true → one.rank < wanted.rank) each meant.objects (All-contains_itself meant.objects)
      where
        each : (one : Object) → Contains meant.objects one → is_trigger_named schema table first one ≡ true → one.rank < wanted.rank
        each one is_there named =
            let makes_one = made_there schema table first (names_table schema table second (on_table schema table second ∙ on)) one is_there named in
            let below = makes_one.below in
            let rank = made_rank makes_one.makes in
            let rank_too = made_rank makes in
            omega arith

    pub goes_last : GoesLast now meant object wanted
    goes_last = record {
      same = same;
      last = last_there;
      last_too = last_meant;
      on_table = on_table;
      others = λ schema table name second on. as_meant schema table name (names_table schema table second (on_table schema table second ∙ on));
    }
