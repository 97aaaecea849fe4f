-- The modules that are there, as linking and bodies see them. Modules have names of any kind N.
use Rattle.std.specs.Prelude.{◌≡◌, ◌<◌, ℕ, List, [], Option, Some, None}
use Rattle.esm_tree.specs.Syntax.{Item}
use Rattle.esm_ast.specs.Entries.{EntryLists, entries_of}
use Rattle.esm_resolve.specs.Graph.{Graph}
use Rattle.esm_resolve.specs.declared.graph.Resolution.{Resolution}
use Rattle.esm_resolve.specs.Resolution.{pair_of, IsResolutionOf}
use Rattle.esm_env.specs.Declarations.{FunctionCode, function_at}

-- As a graph, over which exports are resolved, modules have numbers below the size
pub record Modules (N : Type 0) : Type 0 where
  pub url : N → List ℕ
  -- ECMA-262, [[ECMAScriptCode]] of a Source Text Module Record
  pub tree : N → List Item
  -- the module of its i-th request. ECMA-262, GetImportedModule
  pub target : N → ℕ → N
  pub size : ℕ
  pub number : N → ℕ
  pub named : ℕ → N

-- the number of each module that is there names it
abbrev pub IsNumbered : {N : Type 0} → Modules N → Type 0
IsNumbered {N} g = (m : N) → g.number m < g.size → g.named (g.number m) ≡ m

-- what a module requests, imports and exports
abbrev pub entries : {N : Type 0} → Modules N → N → EntryLists
entries g m = entries_of (g.tree m)

-- the graph of the modules, by numbers
abbrev pub graph : {N : Type 0} → Modules N → Graph
graph g = record {
  size = g.size;
  entries = λ n. entries g (g.named n);
  target = λ n i. g.number (g.target (g.named n) i);
}

-- ECMA-262, ResolveExport: what the module exports by this name
abbrev pub Exports : {N : Type 0} → Modules N → N → List ℕ → Resolution → Type 0
Exports g m name r = IsResolutionOf (graph g) (pair_of (g.number m) name) r

-- the function with this number in this module
abbrev pub function_of : {N : Type 0} → Modules N → N → ℕ → Option FunctionCode
function_of g m index = function_at (g.tree m) index

abbrev pub name_by : Option FunctionCode → List ℕ
name_by None = []
name_by (Some f) = f.name

-- the name of the function with this number in this module
abbrev pub function_name : {N : Type 0} → Modules N → N → ℕ → List ℕ
function_name g m index = name_by (function_of g m index)
