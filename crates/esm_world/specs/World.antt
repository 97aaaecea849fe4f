-- The world: one record of the parts of all layers, each as its owner defines it. own: a module is named by its URL.
use Rattle.std.specs.Prelude.{Bool, List, [], length, Option}
use Rattle.std.specs.Option.{option_or}
use Rattle.esm_tree.specs.Syntax.{Item}
use Rattle.esm_base.specs.declared.limits.Limit.{Limit}
use Rattle.esm_base.specs.Urls.{Url}
use Rattle.esm_ast.specs.Entries.{place_of}
use Rattle.esm_import_map.specs.ImportMap.{Maps}
use Rattle.esm_values.specs.Value.{Value}
use Rattle.esm_values.specs.Errors.{Errors}
use Rattle.esm_promise.specs.Promises.{Promises}
use Rattle.esm_promise.specs.Reactions.{Reaction}
use Rattle.esm_env.specs.Modules.{Modules}
use Rattle.esm_env.specs.Cells.{Cells, no_cells}
use Rattle.esm_loads.specs.Loading.{Loading, targets, body}
use Rattle.esm_loads.specs.LoadsView.{url_at}
use Rattle.esm_loads.specs.Host.{Host, opening_host}
use Rattle.esm_eval.specs.Nodes.{Node, untouched}
use Rattle.esm_rewriting.specs.State.{Engine, State, opening_engine}

-- own: how far the entry has come
pub data EntryState : Type 0 where
  -- its evaluation hasn't ended
  Underway : EntryState
  -- it was evaluated
  Ended : EntryState
  -- its load, its linking or its evaluation failed, with this value
  Failed : (v : Value Url) → EntryState

pub record World : Type 0 where
  -- the URL table, pending requests and loads
  pub loading : Loading
  -- the modules that are linked, in the order in which their components closed
  pub linked : List Url
  -- the fields of module records that evaluation writes
  pub nodes : Url → Node Url (Value Url)
  -- the modules with an [[AsyncEvaluationOrder]], in that order
  pub stamps : List Url
  pub promises : Promises (Reaction Url) (Value Url)
  pub errors : Errors
  -- the cells that were written
  pub cells : Cells Url
  -- log, steps, starts and ends of bodies, and the bodies that stand at an await
  pub engine : Engine Url
  pub entry : EntryState

abbrev pub world_over : Host → Bool → World
world_over h trace = record {
  loading = h.imports;
  linked = [];
  nodes = λ u. untouched;
  stamps = [];
  promises = h.promises;
  errors = h.errors;
  cells = no_cells;
  engine = opening_engine trace;
  entry = Underway;
}

-- the world in which the entry alone is asked, under this import map, where these are the module texts that can be run, with or
-- without trace lines
abbrev pub opening : Maps → (List Item → Bool) → Url → Bool → World
opening maps built entry trace = world_over (opening_host maps built entry) trace

-- own: the limit that has stopped the world: one that loading met, or one that a body met
abbrev pub stopped : World → Option Limit
stopped w = option_or w.loading.stopped w.engine.stopped

-- ---- modules

-- the modules that loading has brought; a URL's number is its place in the order of asking. ECMA-262, GetImportedModule
abbrev pub modules_in : Loading → Modules Url
modules_in l = record {
  url = λ u. u;
  tree = body l;
  target = λ u i. url_at (targets l u) i;
  size = length l.asked;
  number = place_of l.asked;
  named = url_at l.asked;
}

-- ---- the parts that a layer reads and writes

-- those of loading
abbrev pub host_of : World → Host
host_of w = record { promises = w.promises; errors = w.errors; imports = w.loading }

abbrev pub with_host : World → Host → World
with_host w h = record w { loading = h.imports; promises = h.promises; errors = h.errors }

-- those of bodies
abbrev pub body_state : World → State Url Loading
body_state w = record { engine = w.engine; cells = w.cells; outer = host_of w }

abbrev pub with_state : World → State Url Loading → World
with_state w s = record w {
  engine = s.engine;
  cells = s.cells;
  loading = s.outer.imports;
  promises = s.outer.promises;
  errors = s.outer.errors;
}
