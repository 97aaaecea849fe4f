-- What a machine holds between two jobs, by ids, and the worlds that it stands for.
use Rattle.std.specs.Prelude.{◌≡◌, ◌≤◌, ℕ, Bool, false, List, [], ◌∷◌, ◌++◌, map, length, Some, None}
use Rattle.esm_base.specs.declared.limits.Limit.{Limit}
use Rattle.esm_base.specs.Urls.{Url, has}
use Rattle.esm_import_map.specs.ImportMap.{Maps}
use Rattle.esm_values.specs.Value.{Value}
use Rattle.esm_values.specs.Errors.{Errors}
use Rattle.esm_values.specs.Naming.{renamed_value}
use Rattle.esm_promise.specs.Code.{Numbered}
use Rattle.esm_promise.specs.Promises.{make, no_promises}
use Rattle.esm_promise.specs.Reactions.{EntryLoaded}
use Rattle.esm_promise.specs.Renaming.{renamed}
use Rattle.esm_env.specs.Cells.{Cells, no_cells}
use Rattle.esm_env.specs.Naming.{renamed_cells}
use Rattle.esm_eval.specs.Naming.{named_node}
use Rattle.esm_eval.specs.Table.{Table, node_at, no_nodes}
use Rattle.esm_loads.specs.Loading.{Loading, opening_loading}
use Rattle.esm_loads.specs.LoadsView.{every_form}
use Rattle.esm_loads.specs.Hosted.{host_of}
use Rattle.esm_rewriting.specs.State.{State, Engine, opening_engine}
use Rattle.esm_rewriting.specs.Keeps.{started}
use Rattle.esm_rewriting.specs.Naming.{renamed_engine}
use Rattle.esm_world.specs.World as world
use Rattle.esm_world.specs.World.{World, EntryState, opening, stopped}
use Rattle.esm_world.specs.World.{EntryState as entry_state}
use Rattle.esm_world.specs.Fits.{FitsWorld}
use Rattle.esm_values.specs.Numbering.{numbering, is_total}
use Rattle.esm_machine.specs.Seen.{Seen, HaveIds}

-- how far the entry has come. own
pub data EntryHeld : Type 0 where
  Underway : EntryHeld
  Ended : EntryHeld
  Failed : (v : Value ℕ) → EntryHeld

pub record Held : Type 0 where
  -- loading, the URLs of the records and the modules that are linked
  pub seen : Seen
  -- what evaluation has written of the modules
  pub nodes : Table
  pub promises : Numbered
  pub errors : Errors
  -- the cells that were written
  pub cells : Cells ℕ
  pub engine : Engine ℕ
  pub entry : EntryHeld

abbrev pub renamed_entry : (ℕ → Url) → EntryHeld → EntryState
renamed_entry name Underway = entry_state.Underway
renamed_entry name Ended = entry_state.Ended
renamed_entry name (Failed v) = entry_state.Failed (renamed_value name v)

-- all of it by the names of its modules, where these are the URLs of the records, and these modules are linked, in this order
abbrev pub world_by : List Url → Held → List Url → World
world_by urls h linked =
    let n = numbering urls in
    record {
      loading = h.seen.loading;
      linked = linked;
      nodes = λ u. named_node n (renamed_value n.name) (node_at h.nodes ((is_total urls u).0));
      stamps = map n.name h.nodes.stamps;
      promises = renamed n.name h.promises;
      errors = h.errors;
      cells = renamed_cells n h.cells;
      engine = renamed_engine n h.engine;
      entry = renamed_entry n.name h.entry;
    }

abbrev pub world_of : Held → List Url → World
world_of h linked = world_by h.seen.urls h linked

-- what bodies read and write of it
abbrev pub body_state : Held → State ℕ Seen
body_state h = record { engine = h.engine; cells = h.cells; outer = record { promises = h.promises; errors = h.errors; imports = h.seen } }

-- what it holds is that of the world. own: it doesn't keep the order in which modules were linked
pub record StandsFor (h : Held) (w : World) : Type 0 where
  pub linked : (u : Url) → has w.linked u ≡ has h.seen.linked u
  pub world : w ≡ world_of h w.linked

-- a limit has stopped the world, of which the engine has the log, and as many bodies have begun
pub record IsHalted (limit : Limit) (e : Engine ℕ) (w : World) : Type 0 where
  pub stopped : stopped w ≡ Some limit
  pub written : w.engine.log ≡ e.log
  pub begun : length (started w.engine.events) ≡ length (started e.events)

-- ---- the end of a fetch that brings a record

-- the records have URLs that differ, among them those of what is linked, and nodes and cells are of modules that have a record
pub record RecordsCover (h : Held) (linked : List Url) : Type 0 where
  pub ids : HaveIds h.seen.urls linked
  pub nodes : length h.nodes.nodes ≤ length h.seen.urls
  pub cells : (m : ℕ) (x : List ℕ) → length h.seen.urls ≤ m → h.cells m x ≡ None

-- what holds of it between two jobs: the world fits, and records cover it
pub record IsHeld (h : Held) (linked : List Url) : Type 0 where
  pub fits : FitsWorld linked h.seen.loading.entries (world_of h linked)
  pub covered : RecordsCover h linked

-- with a record more, which has this URL
abbrev pub with_record : Held → Url → Held
with_record h u = record h { seen = record h.seen { urls = h.seen.urls ++ u ∷ [] } }

-- a record more changes nothing of the world that it stands for
abbrev pub RecordsAreAdded : Type 0
RecordsAreAdded = (h : Held) (linked : List Url) (u : Url) → IsHeld h linked → has h.seen.urls u ≡ false
    → world_of (with_record h u) linked ≡ world_of h linked

-- ---- the opening

-- the entry alone is asked, by a load that has the first promise
abbrev pub opening_held : Maps → Url → Bool → Held
opening_held maps entry trace = record {
  seen = record { loading = opening_loading maps every_form entry 0; urls = []; linked = [] };
  nodes = no_nodes;
  promises = make no_promises (EntryLoaded ∷ []);
  errors = [];
  cells = no_cells;
  engine = opening_engine trace;
  entry = Underway;
}

abbrev pub OpensAsWorld : Type 0
OpensAsWorld = (maps : Maps) (entry : Url) (trace : Bool) → StandsFor (opening_held maps entry trace) (opening maps every_form entry trace)

-- ---- loading

-- the parts that loading reads and writes are as in the host
abbrev pub with_host : Held → Numbered → Errors → Loading → Held
with_host h promises errors l = record h { seen = record h.seen { loading = l }; promises = promises; errors = errors }

-- what loading does by ids it does in the world
abbrev pub LoadingIsOfTheWorld : Type 0
LoadingIsOfTheWorld = (h : Held) (w : World) (promises : Numbered) (errors : Errors) (l : Loading) → StandsFor h w
    → StandsFor (with_host h promises errors l) (world.with_host w (host_of (numbering h.seen.urls).name promises errors l))
