-- The direct run, which knows no loading: linking, evaluation and jobs, from the files alone. own
use Rattle.std.specs.Prelude.{◌≡◌, ◌≤◌, ℕ, Bool, true, false, List, [], ◌∷◌, length, Option, Some, None, Ok}
use Rattle.std.specs.List.{sum_by}
use Rattle.esm_base.specs.declared.limits.TheConstants.{MAX_DELIVERED_BYTES, MAX_URLS}
use Rattle.esm_base.specs.Urls.{Url, has}
use Rattle.esm_tree.specs.Syntax.{Item}
use Rattle.esm_ast.specs.Entries.{requests_of}
use Rattle.esm_ast.specs.ModuleTree.{IsModuleTree}
use Rattle.esm_ast.specs.Outcome.{OutcomeView, Script}
use Rattle.esm_ast.specs.Script.{SpelledText}
use Rattle.esm_import_map.specs.ImportMap.{Maps}
use Rattle.esm_realm.specs.Laws.{AreDistinct}
use Rattle.esm_values.specs.Value.{Undefined}
use Rattle.esm_promise.specs.Promises.{make, settle, no_promises, Fulfilled}
use Rattle.esm_promise.specs.Reactions.{EntryLoaded}
use Rattle.esm_loads.specs.UrlTable.{TableEntry, Module, Found, Entries, targets_of, targets_in, found}
use Rattle.esm_loads.specs.UrlTable.{Found as founds}
use Rattle.esm_loads.specs.Loading.{LoadComplete, no_pending, opening_loading}
use Rattle.esm_loads.specs.Host.{Host}
use Rattle.esm_loads.specs.Arrival.{bytes_of}
use Rattle.esm_world.specs.ImportCalls.{holds_import}
use Rattle.esm_world.specs.World.{World, world_over, stopped}
use Rattle.esm_world.specs.Jobs.{Jobs}
use Rattle.esm_world.specs.LastLine.{IsLastLine, Ending, ending_by, exit_status}
use Rattle.esm_world.specs.Run.{Shown}
use Rattle.esm_ast.specs.Deliveries.{Files}

module _ (maps : Maps) (built : List Item → Bool) (files : Files) where
  abbrev pub entry_found : Found → Option TableEntry
  entry_found (founds.Script m) = Some (Module m)
  entry_found _ = None

  abbrev pub entry_by : Url → Option OutcomeView → Option TableEntry
  entry_by u None = None
  entry_by u (Some c) = entry_found (found maps built u c)

  -- the modules that the files are
  abbrev pub file_entries : Entries
  file_entries = λ u. entry_by u (files u)

  -- the closure: the least set that has the entry, and with a URL what its requests resolve to
  pub data Closure (entry : Url) : Url → Type 0 where
    itself : Closure entry entry
    requested : {u t : Url} → Closure entry u → has (targets_in (file_entries u)) t ≡ true → Closure entry t

  -- the file is a module text that can be run and holds no import(), and each of its requests resolves
  pub record IsCleanFile (u : Url) : Type 0 where
    pub text : SpelledText
    pub urls : List Url
    pub file : files u ≡ Some (Script text)
    pub tree : IsModuleTree text.items
    pub can_run : built text.items ≡ true
    pub no_import : holds_import text.items ≡ false
    pub resolves : targets_of maps u (requests_of text.items) ≡ Ok urls

  -- each URL of the closure has such a file
  pub record IsClean (entry : Url) : Type 0 where
    pub files_are : (u : Url) → Closure entry u → IsCleanFile u

  -- these are the URLs of the closure, each once
  pub record AreClosure (entry : Url) (modules : List Url) : Type 0 where
    pub each : (u : Url) → Closure entry u → has modules u ≡ true
    pub only : (u : Url) → has modules u ≡ true → Closure entry u
    pub once : AreDistinct modules

  -- all modules of the closure are there, and the entry's load is complete
  abbrev pub gathered : Url → List Url → Host
  gathered entry modules = record {
    promises = settle (make no_promises (EntryLoaded ∷ [])) 0 (Fulfilled Undefined);
    errors = [];
    imports = record (opening_loading maps built entry 0) {
      asked = modules;
      entries = file_entries;
      pending = no_pending;
      loads = LoadComplete entry ∷ [];
      unlinked = λ u. true;
    };
  }

  -- what the direct run of the entry leaves, over the modules of its closure: it is linked and evaluated, and then jobs run until none
  -- is left
  pub record DirectRun (entry : Url) (trace : Bool) (modules : List Url) (after : World) : Type 0 where
    pub closure : AreClosure entry modules
    pub jobs : Jobs (world_over (gathered entry modules) trace) after

  abbrev pub file_bytes_by : Option OutcomeView → ℕ
  file_bytes_by (Some c) = bytes_of c
  file_bytes_by None = 0

  -- the bytes of a file
  abbrev pub file_bytes : Url → ℕ
  file_bytes u = file_bytes_by (files u)

  -- the closure has at most 4,096 URLs and 16,777,216 bytes, and no limit stops the direct run
  pub record MeetsNoLimit (modules : List Url) (after : World) : Type 0 where
    pub few : length modules ≤ MAX_URLS
    pub small : sum_by file_bytes modules ≤ MAX_DELIVERED_BYTES
    pub live : stopped after ≡ None

-- how a world has ended in which nothing is asked
abbrev pub direct_ending : World → Option Ending
direct_ending w = ending_by (stopped w) [] w.entry

-- log, starts and ends of bodies, status and last line are those that the direct run leaves
pub record ShowsDirect (after : World) (what : Shown) : Type 0 where
  pub ending : Ending
  pub ends : direct_ending after ≡ Some ending
  pub log : what.log ≡ after.engine.log
  pub events : what.events ≡ after.engine.events
  pub status : what.status ≡ Some (exit_status ending)
  pub last_line : IsLastLine after (Some ending) what.last_line
