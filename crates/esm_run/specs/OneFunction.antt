-- One function of clean files: the status, and, unless a limit of loading stopped the run, the text behind what comes before it. own
use Rattle.std.specs.Prelude.{◌≡◌, ℕ, Bool, true, List, ◌++◌, take, Option, Some, All}
use Rattle.esm_base.specs.declared.status.Status.{Status}
use Rattle.esm_base.specs.Urls.{Url}
use Rattle.esm_import_map.specs.ImportMap.{Maps}
use Rattle.esm_ports.specs.declared.asked.Asked.{Asked}
use Rattle.esm_ports.specs.Asks.{failed_count}
use Rattle.esm_ports.specs.Sink.{Grew}
use Rattle.esm_ast.specs.Deliveries.{Delivery, Files, AreOfFiles}
use Rattle.esm_ast.specs.Outcome.{OutcomeView}
use Rattle.esm_fetch.specs.Answered.{Contents, IsRead}
use Rattle.esm_loads.specs.LoadsView.{every_form}
use Rattle.esm_world.specs.World.{World}
use Rattle.esm_world.specs.Run.{Shown, StandardRun}
use Rattle.esm_world.specs.Direct.{IsClean, DirectRun, MeetsNoLimit, ShowsDirect}
use Rattle.esm_limit_laws.specs.Loaded.{StoppedLoading}
use Rattle.esm_arguments.specs.declared.command.Command.{Command}
use Rattle.esm_run.specs.CommandMap.{DeskChange}
use Rattle.esm_run.specs.Generated.{IsOfFile}
use Rattle.esm_run.specs.Recorded.{IsFront}
use Rattle.esm_run.specs.Written.{SinkChange, written_text}

-- ---- the files of a run

-- the source tells that it holds this, and none of its fetches has failed: by `counted` of `Source` these are its faults
abbrev pub AnswersFrom : {S : Type 0} → (S → List Asked) → (S → Option Contents) → Contents → S → Type 0
AnswersFrom asked_of holds_of contents source = (holds_of source ≡ Some contents) × (failed_count (asked_of source) ≡ 0)

-- what the files have for a URL is what the contents there are read as
abbrev pub AreContents : Contents → Files → Type 0
AreContents contents files =
    (url : Url) (outcome : OutcomeView) → files url ≡ Some outcome → IsOfFile (contents url) outcome × IsRead outcome

-- These are files of a run: each completed fetch came to what they have, or they are what the sources of the workers hold, where these
-- all tell that they hold the same and no fetch failed.
pub data AreFilesOf {S : Type 0} (asked_of : S → List Asked) (holds_of : S → Option Contents) (workers : ℕ)
    (taken : List Delivery) (back : List S) (files : Files) : Type 0 where
  OfTaken : AreOfFiles files taken → AreFilesOf asked_of holds_of workers taken back files
  OfSources : (contents : Contents) → All (AnswersFrom asked_of holds_of contents) (take workers back) → AreContents contents files
      → AreFilesOf asked_of holds_of workers taken back files

-- ---- what is written

-- the run ends with this status; unless a limit of loading stopped it, the whole of what was written is its text, behind what comes before
-- it
pub record WroteAs (what : Shown) (front : List ℕ) (status : Status) (sink : SinkChange) : Type 0 where
  pub status_is : what.status ≡ Some status
  pub whole : (StoppedLoading what → ⊥) → Grew sink.written_before sink.written_after (front ++ written_text what)

-- so it is of every standard run of these files that has ended, in whatever order they came
abbrev pub WroteAsEachRun : Maps → Files → Url → Bool → List ℕ → Status → SinkChange → Type 0
WroteAsEachRun maps files entry trace front status sink =
    (others : List Delivery) (other : Shown) → AreOfFiles files others → StandardRun maps every_form entry trace others other
    → other.ended ≡ true → WroteAs other front status sink

-- and, where their direct run meets no limit, of what that shows
abbrev pub WroteAsDirect : Maps → Files → Url → Bool → List ℕ → Status → SinkChange → Type 0
WroteAsDirect maps files entry trace front status sink =
    (modules : List Url) (after : World) → DirectRun maps every_form files entry trace modules after
    → MeetsNoLimit maps every_form files modules after
    → (what : Shown) × ShowsDirect after what × (what.status ≡ Some status)
    × Grew sink.written_before sink.written_after (front ++ written_text what)

-- what was taken are deliveries of these files
pub record WroteAsFiles (maps : Maps) (files : Files) (entry : Url) (trace : Bool) (taken : List Delivery) (front : List ℕ)
    (status : Status) (sink : SinkChange) : Type 0 where
  pub of_files : AreOfFiles files taken
  pub each_run : WroteAsEachRun maps files entry trace front status sink
  pub direct : WroteAsDirect maps files entry trace front status sink

-- So it is of all clean files of the run. So the status is one function of the files alone, and unless a limit of loading stopped the run
-- so is what was written, behind what comes before it.
abbrev pub IsOneFunction : {S : Type 0} → (S → List Asked) → (S → Option Contents) → Maps → Url → Bool → ℕ → List Delivery → List S
    → List ℕ → Status → SinkChange → Type 0
IsOneFunction asked_of holds_of maps entry trace workers taken back front status sink =
    (files : Files) → AreFilesOf asked_of holds_of workers taken back files → IsClean maps every_form files entry
    → WroteAsFiles maps files entry trace taken front status sink

-- so it is of a command, whose record stands in front, where the words ask for it
abbrev pub IsOfFilesAlone : {S : Type 0} → (S → List Asked) → (S → Option Contents) → Command → Maps → DeskChange → List Delivery → List S
    → Status → SinkChange → Type 0
IsOfFilesAlone asked_of holds_of c maps desk taken back status sink =
    (front : List ℕ) × IsFront c desk maps taken front
    × IsOneFunction asked_of holds_of maps c.entry c.trace c.workers taken back front status sink
