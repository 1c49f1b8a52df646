-- Laws of loads. The functions of src/laws.rt are their proofs.
use Rattle.std.specs.Prelude.{◌≡◌, List, [], ◌∷◌, ◌++◌, flat_map, Contains, Some}
use Rattle.folder_meaning.specs.Loading.{IsInOrder, IsLoadStep, LoadingAt, PutsFile, LoadStage, loading}
use Rattle.folder_meaning.specs.Plan.{LoadPlan, PlanLine}
use Rattle.honest_server.specs.Effect.{HasItsPlace}
use Rattle.honest_server.specs.WellFormed.{IsWellFormed}
use Rattle.link_traits.specs.Contents.{File}
use Rattle.server_data.specs.Fold.{changes_db, more_db}
use Rattle.server_data.specs.History.{Interleaves}
use Rattle.server_data.specs.declared.data.Change.{Change}
use Rattle.server_data.specs.declared.data.Change.TheVariants.{Make}
use Rattle.server_data.specs.declared.data.Database.{Database}
use Rattle.server_data.specs.declared.data.Object.{Object}
use Rattle.server_data.specs.declared.data.Transaction.{Transaction}

-- each object that the changes make has the place that the server gives it: a trigger stands last on its table
abbrev pub HaveTheirPlaces : Database → List Change → Type 0
HaveTheirPlaces database changes =
    (object : Object) → Contains changes (Make object) → HasItsPlace database object object.kind

-- A step leads a load on: what is there after it is a load at the next stage. The database is as an honest server holds it, so that each trigger's table is that
-- of its text.
abbrev pub AStepGoesOn : Type 0
AStepGoesOn = (files : List File) (plan : LoadPlan) (stage next : LoadStage)
    (before now after : Database) (changes : List Change) → IsWellFormed now →
    LoadingAt files plan stage before now → IsLoadStep files plan stage changes next →
    HaveTheirPlaces now changes → changes_db now changes ≡ Some after →
    LoadingAt files plan next before after

-- each transaction puts the rows and the mark of one of these files, in their order
pub data PutFiles (files : List File) : List PlanLine → List Transaction → Type 0 where
  no_files : PutFiles files [] []
  next_file : {line : PlanLine} {lines : List PlanLine} {one : Transaction}
      {others : List Transaction} → PutsFile files line one.changes →
      PutFiles files lines others → PutFiles files (line ∷ lines) (one ∷ others)

-- each worker's transactions put the files of its list
pub data PutFilesOfEach (files : List File) :
    List (List PlanLine) → List (List Transaction) → Type 0 where
  no_workers : PutFilesOfEach files [] []
  next_worker : {lines : List PlanLine} {workers : List (List PlanLine)}
      {list : List Transaction} {lists : List (List Transaction)} → PutFiles files lines list →
      PutFilesOfEach files workers lists →
      PutFilesOfEach files (lines ∷ workers) (list ∷ lists)

-- the files of all workers, one worker after the other
abbrev pub all_lines : List (List PlanLine) → List PlanLine
all_lines workers = flat_map (λ (lines : List PlanLine). lines) workers

-- Whatever the interleaving of the workers' transactions, what is there after it is a load that has loaded the files of all lists: each of these is another one of the
-- plan that wasn't loaded, since so says the order in which a load goes.
abbrev pub WorkersGoOn : Type 0
WorkersGoOn = (files : List File) (plan : LoadPlan) (made loaded : List PlanLine)
    (workers : List (List PlanLine)) (lists : List (List Transaction)) (whole : List Transaction)
    (before now after : Database) → LoadingAt files plan (loading made loaded) before now →
    IsInOrder plan made (loaded ++ all_lines workers) →
    PutFilesOfEach files workers lists → Interleaves lists whole → more_db now whole ≡ Some after →
    LoadingAt files plan (loading made (loaded ++ all_lines workers)) before after
