-- The records of a realm as a graph, and the indexes over it.
use Rattle.std.specs.Prelude.{◌≡◌, ◌<◌, ℕ, Bool, if◌then◌else◌, nat_eq, List, [], ◌∷◌, map, length, Option, Some, None}
use Rattle.std.specs.Arc.{arc_value}
use Rattle.std.specs.HashMap as maps
use Rattle.std.specs.Str.{bytes_eq}
use Rattle.esm_base.specs.TextMap.{TextMapView, at}
use Rattle.esm_base.specs.declared.module_id.ModuleId.{ModuleId}
use Rattle.esm_tree.specs.declared.node.Wanted.{Wanted}
use Rattle.esm_tree.specs.declared.node.Wanted.TheVariants as wanted
use Rattle.esm_ast.specs.declared.entries.ImportEntry.{ImportEntry}
use Rattle.esm_tree.specs.Syntax.{Parts}
use Rattle.esm_realm.specs.Sound.{RecordParts, records_of}
use Rattle.esm_realm.specs.ById.{entries_at, target_at}
use Rattle.esm_resolve.specs.Graph.{Graph}
use Rattle.esm_resolve.specs.Index.{IsIndexOf}
use Rattle.esm_resolve.specs.Resolution.{module_id}
use Rattle.esm_env.specs.Modules.{Modules, entries, graph}
use Rattle.esm_link.specs.Realm.{modules_of, AreTrees}
use Rattle.esm_link.specs.declared.graph.RealmGraph.{RealmGraph}
use Rattle.esm_link.specs.declared.indexes.Indexes.{Indexes}
use Rattle.esm_link.specs.declared.namespaces.Namespaces.{Namespaces}

abbrev pub modules_in : RealmGraph → Modules ℕ
modules_in g = modules_of (map arc_value g.trees.now) (records_of g.realm.now)

-- the same as a graph of exports
abbrev pub graph_of : List RecordParts → Graph
graph_of rs = record { size = length rs; entries = entries_at rs; target = target_at rs }

-- requests lead to modules, and each has its tree
pub record IsInside (trees : List Parts) (rs : List RecordParts) : Type 0 where
  pub target : (x i : ℕ) → x < length rs → target_at rs x i < length rs
  pub trees_are : AreTrees trees rs

abbrev pub IsWholeGraph : RealmGraph → Type 0
IsWholeGraph g = IsInside (map arc_value g.trees.now) (records_of g.realm.now)

-- ---- namespaces by local name

abbrev pub only_if_named : List ℕ → ModuleId → List ℕ → Option ModuleId
only_if_named name m x = if bytes_eq name x then Some m else None

abbrev pub namespace_by : Wanted → Bool → ModuleId → Option ModuleId → Option ModuleId
namespace_by wanted.Whole is_named m later = if is_named then Some m else later
namespace_by (wanted.Named name) is_named m later = later

-- the module of the first import `* as` with this local name
abbrev pub namespace_in : (ℕ → ℕ) → List ImportEntry → List ℕ → Option ModuleId
namespace_in to [] x = None
namespace_in to (e ∷ es) x = namespace_by e.wanted (bytes_eq e.local x) (module_id (to e.request)) (namespace_in to es x)

abbrev pub namespace_of : Modules ℕ → ℕ → List ℕ → Option ModuleId
namespace_of g m x = namespace_in (g.target m) (entries g m).imports x

abbrev pub AreNames : Modules ℕ → ℕ → TextMapView ModuleId → Type 0
AreNames g m names = (x : List ℕ) → at x names ≡ namespace_of g m x

-- each module that was asked for has its namespaces
abbrev pub AreNamespaces : Modules ℕ → Namespaces → Type 0
AreNamespaces g n = (m : ℕ) (names : TextMapView ModuleId) → maps.get nat_eq n.modules m ≡ Some names → AreNames g m names

pub record AreIndexes (g : Modules ℕ) (i : Indexes) : Type 0 where
  pub exports : IsIndexOf (graph g) i.exports
  pub namespaces : AreNamespaces g i.namespaces
