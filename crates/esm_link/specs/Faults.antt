-- Why a module can't be linked. ECMA-262, InitializeEnvironment: its indirect exports first, then its imports, each in order.
use Rattle.std.specs.Prelude.{◌≡◌, ℕ, true, false, List, [], ◌∷◌, ◌++◌, Option, Some, None, codes}
use Rattle.esm_ast.specs.declared.entries.ImportEntry.{ImportEntry}
use Rattle.esm_ast.specs.declared.entries.IndirectExport.{IndirectExport}
use Rattle.esm_tree.specs.declared.node.Wanted.TheVariants as wanted
use Rattle.esm_resolve.specs.Keys.{is_one}
use Rattle.esm_resolve.specs.declared.graph.Resolution.{Resolution}
use Rattle.esm_resolve.specs.declared.graph.Resolution.TheVariants as resolutions
use Rattle.esm_values.specs.Errors.{fault}
use Rattle.esm_values.specs.declared.errors.Fault.{Fault}
use Rattle.esm_values.specs.declared.errors.FaultKind.TheVariants as kinds
use Rattle.esm_env.specs.Modules.{Modules, entries, Exports}
use Rattle.esm_link.specs.declared.LinkKind.{LinkKind}
use Rattle.esm_link.specs.declared.LinkKind.TheVariants.{K1, K2, K3, K4}

-- the fault of a module that has a name of any kind N
pub record FaultAt (N : Type 0) : Type 0 where
  pub kind : LinkKind
  pub module_is : N
  -- of an import the name that it wants, of an export the exported name
  pub name : List ℕ
  -- the module of the entry's request
  pub target : N

abbrev pub export_kind : Resolution → LinkKind
export_kind resolutions.Ambiguous = K4
export_kind other = K3

abbrev pub import_kind : Resolution → LinkKind
import_kind resolutions.Ambiguous = K2
import_kind other = K1

module _ {N : Type 0} (g : Modules N) (x : N) where
  abbrev pub export_fault : IndirectExport → Resolution → FaultAt N
  export_fault e r = record { kind = export_kind r; module_is = x; name = e.name; target = g.target x e.request }

  abbrev pub import_fault : ImportEntry → List ℕ → Resolution → FaultAt N
  import_fault e name r = record { kind = import_kind r; module_is = x; name = name; target = g.target x e.request }

  -- the first of these indirect exports that doesn't resolve to one binding: ResolveExport of x itself, by the exported name
  pub data ExportFault : List IndirectExport → Option (FaultAt N) → Type 0 where
    none : ExportFault [] None
    fine : {e : IndirectExport} {es : List IndirectExport} {f : Option (FaultAt N)} (r : Resolution)
        → Exports g x e.name r → is_one r ≡ true → ExportFault es f → ExportFault (e ∷ es) f
    found : {e : IndirectExport} {es : List IndirectExport} (r : Resolution)
        → Exports g x e.name r → is_one r ≡ false → ExportFault (e ∷ es) (Some (export_fault e r))

  -- the first of these imports by name that doesn't resolve to one binding: ResolveExport of its target, by the name that it wants
  pub data ImportFault : List ImportEntry → Option (FaultAt N) → Type 0 where
    none : ImportFault [] None
    -- an import `* as` never fails
    whole : {e : ImportEntry} {es : List ImportEntry} {f : Option (FaultAt N)} → e.wanted ≡ wanted.Whole → ImportFault es f
        → ImportFault (e ∷ es) f
    fine : {e : ImportEntry} {es : List ImportEntry} {f : Option (FaultAt N)} (name : List ℕ) (r : Resolution)
        → e.wanted ≡ wanted.Named name → Exports g (g.target x e.request) name r → is_one r ≡ true → ImportFault es f
        → ImportFault (e ∷ es) f
    found : {e : ImportEntry} {es : List ImportEntry} (name : List ℕ) (r : Resolution)
        → e.wanted ≡ wanted.Named name → Exports g (g.target x e.request) name r → is_one r ≡ false
        → ImportFault (e ∷ es) (Some (import_fault e name r))

  -- the first fault of the module, if it has one
  pub data FirstFault : Option (FaultAt N) → Type 0 where
    of_exports : {f : FaultAt N} → ExportFault (entries g x).indirects (Some f) → FirstFault (Some f)
    of_imports : {f : Option (FaultAt N)} → ExportFault (entries g x).indirects None → ImportFault (entries g x).imports f
        → FirstFault f

-- ---- own: the texts of the SyntaxErrors

abbrev pub message : List ℕ → List ℕ → List ℕ → LinkKind → List ℕ
message url name target K1 = url ++ codes ": no export " ++ name ++ codes " in " ++ target
message url name target K2 = url ++ codes ": export " ++ name ++ codes " in " ++ target ++ codes " is ambiguous"
message url name target K3 = url ++ codes ": no binding for export " ++ name
message url name target K4 = url ++ codes ": binding for export " ++ name ++ codes " is ambiguous"

abbrev pub link_error : {N : Type 0} → Modules N → FaultAt N → Fault
link_error g f = fault kinds.SyntaxError (message (g.url f.module_is) f.name (g.url f.target) f.kind)
