-- What the imports of a module are bound to, one after the other.
use Rattle.std.specs.Prelude.{◌≡◌, ℕ, true, false, List, [], ◌∷◌, Option, Some, None, Result, Ok, Err}
use Rattle.esm_base.specs.declared.end.End.{End}
use Rattle.esm_base.specs.declared.end.End.TheVariants.{Fault, Memory}
use Rattle.esm_base.specs.declared.module_id.ModuleId.{ModuleId}
use Rattle.esm_tree.specs.declared.node.Wanted.TheVariants as wanted
use Rattle.esm_ast.specs.declared.entries.ImportEntry.{ImportEntry}
use Rattle.esm_resolve.specs.Keys.{is_one}
use Rattle.esm_resolve.specs.declared.graph.Binding.{Binding}
use Rattle.esm_resolve.specs.declared.graph.Binding.TheVariants as bindings
use Rattle.esm_resolve.specs.declared.graph.Resolution.{Resolution}
use Rattle.esm_env.specs.Modules.{Modules, entries, Exports}
use Rattle.esm_env.specs.Bindings.{target_of}
use Rattle.esm_env.specs.Faithful.{target_in}
use Rattle.esm_env.specs.declared.scope.Target.{Target}
use Rattle.esm_env.specs.declared.scope.Target.TheVariants as targets
use Rattle.esm_link.specs.Faults.{FirstFault, ImportFault, import_kind}
use Rattle.esm_link.specs.Realm.{fault_of}
use Rattle.esm_link.specs.Inner.Graph.{namespace_of}
use Rattle.esm_link.specs.declared.LinkFault.{LinkFault}

abbrev pub cell_or : ModuleId → List ℕ → Option ModuleId → Target
cell_or home x None = targets.Cell home x
cell_or home x (Some of) = targets.Whole of

-- where the end of a resolution stands
abbrev pub end_target : Modules ℕ → ModuleId → Binding → Target
end_target g home bindings.Whole = targets.Whole home
end_target g home (bindings.Local x) = cell_or home x (namespace_of g home.0 x)

module _ (g : Modules ℕ) (x : ℕ) where
  -- a name of a module resolves to one binding, which stands there
  pub record IsBoundName (target : ℕ) (name : List ℕ) (t : Target) : Type 0 where
    pub resolution : Resolution
    pub resolves : Exports g target name resolution
    pub one : is_one resolution ≡ true
    pub there : target_of g resolution ≡ target_in (Some t)

  -- or it doesn't
  pub record IsUnboundName (target : ℕ) (name : List ℕ) (f : LinkFault) : Type 0 where
    pub resolution : Resolution
    pub resolves : Exports g target name resolution
    pub none : is_one resolution ≡ false
    pub fault : fault_of f ≡ record { kind = import_kind resolution; module_is = x; name = name; target = target }

  abbrev pub IsNameBoundTo : ℕ → List ℕ → Result Target (End LinkFault) → Type 0
  IsNameBoundTo target name (Ok t) = IsBoundName target name t
  IsNameBoundTo target name (Err (Fault f)) = IsUnboundName target name f
  IsNameBoundTo target name (Err Memory) = Unit {0}

  pub data IsBoundEntry (e : ImportEntry) (t : Target) : Type 0 where
    whole : e.wanted ≡ wanted.Whole → target_in (Some t) ≡ target_in (Some (targets.Whole (record { 0 = g.target x e.request })))
        → IsBoundEntry e t
    named : (name : List ℕ) → e.wanted ≡ wanted.Named name → IsBoundName (g.target x e.request) name t → IsBoundEntry e t

  pub record IsUnboundEntry (e : ImportEntry) (f : LinkFault) : Type 0 where
    pub name : List ℕ
    pub wants : e.wanted ≡ wanted.Named name
    pub unbound : IsUnboundName (g.target x e.request) name f

  abbrev pub IsBoundTo : ImportEntry → Result Target (End LinkFault) → Type 0
  IsBoundTo e (Ok t) = IsBoundEntry e t
  IsBoundTo e (Err (Fault f)) = IsUnboundEntry e f
  IsBoundTo e (Err Memory) = Unit {0}

  -- each import with its local name, in order
  pub data BindEach : List ImportEntry → List (List ℕ × Target) → Type 0 where
    none : BindEach [] []
    next : {e : ImportEntry} {es : List ImportEntry} {t : Target} {bound : List (List ℕ × Target)}
        → IsBoundEntry e t → BindEach es bound → BindEach (e ∷ es) ((e.local, t) ∷ bound)

  -- none of these imports has a fault, and each is bound
  pub record AreBoundImports (es : List ImportEntry) (bound : List (List ℕ × Target)) : Type 0 where
    pub fault : ImportFault g x es None
    pub each : BindEach es bound

  abbrev pub HasImportFault : List ImportEntry → End LinkFault → Type 0
  HasImportFault es (Fault f) = ImportFault g x es (Some (fault_of f))
  HasImportFault es Memory = Unit {0}

  -- the module has no fault, and each import is bound
  pub record IsBound (bound : List (List ℕ × Target)) : Type 0 where
    pub fault : FirstFault g x None
    pub each : BindEach (entries g x).imports bound

  -- the end tells the first fault of the module
  abbrev pub HasFault : End LinkFault → Type 0
  HasFault (Fault f) = FirstFault g x (Some (fault_of f))
  HasFault Memory = Unit {0}
