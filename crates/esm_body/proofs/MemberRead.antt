-- What the code reads at the end of a resolution is the member of the namespace.
use Rattle.std.proofs.Common.{◌≡◌, ℕ, ◌≤◌, Bool, true, false, List, [], ◌∷◌, Option, Some, None, refl, ap, subst, sym, ◌∙◌, arith}
use Rattle.std.specs.Prelude.{⊤, Contains, if◌then◌else◌}
use Rattle.std.specs.Option.{option_or}
use Rattle.std.specs.Str.{bytes_eq}
use Rattle.std.specs.List.{AllByRecursion}
use Rattle.std.proofs.lemmas.List.Elements.{recursion_from_All, All-contains_itself}
use Rattle.esm_base.specs.declared.module_id.ModuleId.{ModuleId}
use Rattle.esm_tree.specs.declared.node.Wanted.{Wanted}
use Rattle.esm_tree.specs.declared.node.Wanted.TheVariants as wanted
use Rattle.esm_ast.specs.declared.entries.LocalExport.{LocalExport}
use Rattle.esm_ast.specs.declared.entries.IndirectExport.{IndirectExport}
use Rattle.esm_resolve.specs.Graph.{Graph}
use Rattle.esm_resolve.specs.Renumbered.{FollowsNumbers, renumbered}
use Rattle.esm_resolve.specs.Resolution.{End, module_id, pair_of, local_export, wanted_of, indirect_export, end_by, LeadsTo, IsResolutionOf}
use Rattle.esm_resolve.specs.declared.graph.Binding.TheVariants as bindings
use Rattle.esm_resolve.specs.declared.graph.Resolution.{Resolution}
use Rattle.esm_resolve.specs.declared.graph.Resolution.TheVariants as resolutions
use Rattle.esm_resolve.specs.declared.pair.Export.{Export}
use Rattle.esm_resolve.specs.declared.pair.Export.TheVariants as exports
use Rattle.esm_resolve.specs.declared.pair.Pair.{Pair}
use Rattle.esm_values.specs.Value as value
use Rattle.esm_values.specs.Code.{CodeValue}
use Rattle.esm_env.specs.Declarations.{initial}
use Rattle.esm_env.specs.Modules.{Modules, graph, entries, Exports}
use Rattle.esm_env.specs.Bindings.{own_by, target_of}
use Rattle.esm_env.specs.Cells.{Reading}
use Rattle.esm_env.specs.Cells.{Reading as reading}
use Rattle.esm_env.specs.Reading.{IsMemberOf, read_member}
use Rattle.esm_env.specs.Reading.IsMemberOf.{member}
use Rattle.esm_env.specs.Scopes.{Scopes, scope_in, import_of, cells_of, read_end_in, defined}
use Rattle.esm_env.specs.Faithful.{HasScope, AreScopesOf}
use Rattle.esm_env.specs.Laws.{EndsRight}
use Rattle.esm_rewriting.specs.Fits.{AreLinked}
use Rattle.esm_body.specs.Importers.{HasLinked}
use Rattle.esm_body.specs.Inner.Displayed.{IsMember, end_reading}
use Rattle.esm_body.proofs.LinkedGraph.{renumbers, end_linked}

-- ---- an end at a binding is a local export

abbrev IsLocal : (LocalExport → Type 0) → ℕ → ModuleId → List ℕ → Type 0
IsLocal Q n id x = (l : LocalExport) × (Q l × ((l.local ≡ x) × (n ≡ id.0)))

found_local : (Q : LocalExport → Type 0) (n : ℕ) (es : List LocalExport) (name : List ℕ) (id : ModuleId) (x : List ℕ) → AllByRecursion Q es
    → local_export n es name ≡ Some (exports.End id (bindings.Local x)) → IsLocal Q n id x
found_local Q n [] name id x a e = absurd cc
found_local Q n (d ∷ es) name id x a e = by (bytes_eq d.name name) (found_local Q n es name id x a.1) e
  where
    by : (b : Bool) → (local_export n es name ≡ Some (exports.End id (bindings.Local x)) → IsLocal Q n id x)
        → (if b then Some (exports.End (module_id n) (bindings.Local d.local)) else local_export n es name) ≡ Some (exports.End id (bindings.Local x)) → IsLocal Q n id x
    by true later q = (d, (a.0, ((let k : d.local ≡ x = cc in k), ap (λ (i : ModuleId). i.0) (let k : module_id n ≡ id = cc in k))))
    by false later q = later q

abbrev NotLocal : Option Export → Type 0
NotLocal o = (id : ModuleId) (x : List ℕ) → end_by o ≡ Some (id, bindings.Local x) → ⊥

wanted_not : (n : ℕ) (w : Wanted) → NotLocal (Some (wanted_of n w))
wanted_not n wanted.Whole id x e =
    let k : (module_id n, bindings.Whole) ≡ (id, bindings.Local x) = cc in
    let j : bindings.Whole ≡ bindings.Local x = ap (λ (p : End). p.1) k in
    absurd cc
wanted_not n (wanted.Named name) id x e = absurd cc

indirect_not : (to : ℕ → ℕ) (es : List IndirectExport) (name : List ℕ) → NotLocal (indirect_export to es name)
indirect_not to [] name id x e = absurd cc
indirect_not to (d ∷ es) name id x e = by (bytes_eq d.name name) (λ q. indirect_not to es name id x q) e
  where
    by : (b : Bool) → (end_by (indirect_export to es name) ≡ Some (id, bindings.Local x) → ⊥)
        → end_by (if b then Some (wanted_of (to d.request) d.wanted) else indirect_export to es name) ≡ Some (id, bindings.Local x) → ⊥
    by true later q = wanted_not (to d.request) d.wanted id x q
    by false later q = later q

abbrev IsThere : Graph → ModuleId → List ℕ → Type 0
IsThere g id x = (l : LocalExport) × (Contains (g.entries id.0).locals l × (l.local ≡ x))

from_either : (g : Graph) (n : ℕ) (name : List ℕ) (id : ModuleId) (x : List ℕ) (a b : Option Export) → local_export n (g.entries n).locals name ≡ a → NotLocal b
    → end_by (option_or a b) ≡ Some (id, bindings.Local x) → IsThere g id x
from_either g n name id x None b q k e = absurd (k id x e)
from_either g n name id x (Some (exports.End y c)) b q k e =
    let s : (y, c) ≡ (id, bindings.Local x) = cc in
    let same : exports.End y c ≡ exports.End id (bindings.Local x) = ap (λ (p : End). exports.End p.0 p.1) s in
    let ls = (g.entries n).locals in
    let r = found_local (Contains ls) n ls name id x (recursion_from_All (Contains ls) ls (All-contains_itself ls)) (q ∙ ap Some same) in
    (r.0, (subst (λ m. Contains (g.entries m).locals r.0) r.1.1.1 r.1.0, r.1.1.0))
from_either g n name id x (Some (exports.Other p)) b q k e = absurd cc

local_at_end : (g : Graph) (from : Pair) (id : ModuleId) (x : List ℕ) → LeadsTo g from (id, bindings.Local x) → IsThere g id x
local_at_end g from id x l =
    let p = l.0 in
    from_either g p.home.0 p.name id x (local_export p.home.0 (g.entries p.home.0).locals p.name) (indirect_export (g.target p.home.0) (g.entries p.home.0).indirects p.name)
    refl (indirect_not (g.target p.home.0) (g.entries p.home.0).indirects p.name) l.2

-- ---- what is read there

-- the end of the code's resolution is linked, and so it has its number among the modules
abbrev EndLinked : (ℕ → Bool) → Resolution → Type 0
EndLinked linked resolutions.Missing = ⊤
EndLinked linked (resolutions.One id b) = linked id.0 ≡ true
EndLinked linked resolutions.Ambiguous = ⊤

module _ (g : Modules ℕ) (linked : ℕ → Bool) (e : Scopes) (right : EndsRight) (a : AreScopesOf g linked e) (h : AreLinked g linked) where
  local_read : (id : ModuleId) (y : List ℕ) → linked id.0 ≡ true → IsThere (graph g) (module_id (g.number id.0)) y
      → end_reading e (resolutions.One id (bindings.Local y)) ≡ read_member g (cells_of e) (target_of g (resolutions.One (module_id (g.number id.0)) (bindings.Local y)))
  local_read id y k f =
      let s = a.made id.0 k in
      let there : Contains (entries g id.0).locals f.0 = subst (λ n. Contains (entries g n).locals f.0) (h.named id.0 k) f.1.0 in
      let scope : HasScope e (import_of (scope_in e id.0) f.0.local) = subst (λ o. HasScope e (import_of o f.0.local)) (sym s.1) (a.bound id.0 s.0 k s.1 f.0.local) in
      let q = right g e id.0 s.0 f.0 a.faithful s.1 scope there in
      subst (λ z. defined (read_end_in e id.0 z) ≡ read_member g (cells_of e) (own_by g id.0 z (initial (g.tree id.0) z))) f.1.1 q
      ∙ ap (λ n. read_member g (cells_of e) (own_by g n y (initial (g.tree n) y))) (sym (h.named id.0 k))

  ends_read : (m : ℕ) (x : List ℕ) (r : Resolution) → EndLinked linked r → Exports g m x (renumbered g.number r)
      → end_reading e r ≡ read_member g (cells_of e) (target_of g (renumbered g.number r))
  ends_read m x resolutions.Missing l i = refl
  ends_read m x (resolutions.One id (bindings.Local y)) l i = local_read id y l (local_at_end (graph g) (pair_of (g.number m) x) (module_id (g.number id.0)) y i.0)
  ends_read m x (resolutions.One id bindings.Whole) l i = ap (λ n. reading.Value (value.Namespace n)) (sym (h.named id.0 l))
  ends_read m x resolutions.Ambiguous l i = refl

module _ (g : Modules ℕ) (h : Graph) (urls : ℕ → List ℕ) (linked : ℕ → Bool) (e : Scopes) (same : AreLinked g linked → HasLinked g linked h urls) where
  end_is : FollowsNumbers → (right : EndsRight) (a : AreScopesOf g linked e) (links : AreLinked g linked) (m : ℕ) (x : List ℕ) (r : Resolution)
      → linked m ≡ true → IsResolutionOf h (pair_of m x) r → EndLinked linked r
  end_is follows right a links m x resolutions.Missing l i = tt
  end_is follows right a links m x (resolutions.One id b) l i = end_linked g linked h urls links (same links) follows m x id b l i
  end_is follows right a links m x resolutions.Ambiguous l i = tt

  pub member_is : FollowsNumbers → EndsRight → (m : ℕ) (x : List ℕ) (r : Resolution) (read : Reading CodeValue) → IsResolutionOf h (pair_of m x) r → read ≡ end_reading e r → IsMember g linked e m x read
  member_is follows right m x r read i q = λ a links l.
      let j : Exports g m x (renumbered g.number r) = follows.resolution h (graph g) g.number m x r (renumbers g linked h urls links (same links) m l) i in
      let k = end_is follows right a links m x r l i in
      subst (IsMemberOf g (cells_of e) m x) (sym (q ∙ ends_read g linked e right a links m x r k j)) (member (renumbered g.number r) j)

  pub member_not : (m : ℕ) (x : List ℕ) (read : Reading CodeValue) → h.size ≤ m → IsMember g linked e m x read
  member_not m x read le = λ a links l. let b = (same links).below m l in absurd (omega (arith, b, le))
