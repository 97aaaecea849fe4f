-- What the imports of a module are bound to.
use Rattle.std.specs.Prelude.{◌≡◌, ℕ, List, Option, Some, None}
use Rattle.esm_ast.specs.declared.entries.ImportEntry.{ImportEntry}
use Rattle.esm_ast.specs.Entries.{import_named}
use Rattle.esm_tree.specs.declared.node.Wanted.{Wanted}
use Rattle.esm_tree.specs.declared.node.Wanted.TheVariants as wanted
use Rattle.esm_resolve.specs.declared.graph.Resolution.{Resolution}
use Rattle.esm_resolve.specs.declared.graph.Resolution.TheVariants as resolutions
use Rattle.esm_resolve.specs.declared.graph.Binding.TheVariants as bindings
use Rattle.esm_env.specs.Declarations.{Initial, initial}
use Rattle.esm_env.specs.Modules.{Modules, entries, Exports}

-- what an import is bound to: a cell of a module, or its whole namespace
pub data Target (N : Type 0) : Type 0 where
  CellOf : (m : N) (x : List ℕ) → Target N
  WholeOf : (m : N) → Target N

module _ {N : Type 0} (g : Modules N) where
  -- the import of m with this local name
  abbrev pub import_as : N → List ℕ → Option ImportEntry
  import_as m x = import_named (entries g m).imports x

  abbrev pub whole_only : N → ℕ → Wanted → Option (Target N)
  whole_only m request wanted.Whole = Some (WholeOf (g.target m request))
  whole_only m request (wanted.Named name) = None

  abbrev pub whole_by : N → Option ImportEntry → Option (Target N)
  whole_by m None = None
  whole_by m (Some e) = whole_only m e.request e.wanted

  -- a name that the module exports as its own is a cell of it, or what it imports as `* as`
  abbrev pub own_by : N → List ℕ → Option Initial → Option (Target N)
  own_by m x (Some i) = Some (CellOf m x)
  own_by m x None = whole_by m (import_as m x)

  -- the end of a resolution, if it has one. ECMA-262, ResolvedBinding Records
  abbrev pub target_of : Resolution → Option (Target N)
  target_of resolutions.Missing = None
  target_of (resolutions.One id (bindings.Local x)) = own_by (g.named id.0) x (initial (g.tree (g.named id.0)) x)
  target_of (resolutions.One id bindings.Whole) = Some (WholeOf (g.named id.0))
  target_of resolutions.Ambiguous = None

  -- what the import of m with this local name is bound to. ECMA-262, InitializeEnvironment, the steps on [[ImportEntries]]
  pub data Binds (m : N) (x : List ℕ) : Option (Target N) → Type 0 where
    no_import : import_as m x ≡ None → Binds m x None
    whole : (e : ImportEntry) → import_as m x ≡ Some e → e.wanted ≡ wanted.Whole → Binds m x (Some (WholeOf (g.target m e.request)))
    named : (e : ImportEntry) (name : List ℕ) (r : Resolution) → import_as m x ≡ Some e → e.wanted ≡ wanted.Named name
        → Exports g (g.target m e.request) name r → Binds m x (target_of r)
