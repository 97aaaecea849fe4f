-- Linking modules is linking them by their names.
use Rattle.std.proofs.Common.{◌≡◌, ℕ, suc, ◌+◌, ◌<◌, Bool, List, [], ◌∷◌, ◌++◌, map, length, Option, Some, None, All, refl, ap, subst, sym, ◌∙◌, arith}
use Rattle.std.specs.Option.{option_map}
use Rattle.std.proofs.lemmas.List.{map-append}
use Rattle.std.proofs.lemmas.List.Elements.{All-head, All-tail}
use Rattle.esm_tree.specs.Syntax.{Item}
use Rattle.esm_ast.specs.Entries.{entries_of}
use Rattle.esm_ast.specs.declared.entries.ImportEntry.{ImportEntry}
use Rattle.esm_ast.specs.declared.entries.IndirectExport.{IndirectExport}
use Rattle.esm_ast.proofs.Requests.{names_requests}
use Rattle.esm_realm.specs.Walk.{Mark}
use Rattle.esm_realm.specs.Naming as walks
use Rattle.esm_realm.specs.Naming.{WalkFollows, named_mark}
use Rattle.esm_realm.proofs.Named.{walks_follow_names}
use Rattle.esm_realm.specs.Components.{opened_from, opened_before}
use Rattle.esm_resolve.specs.declared.graph.Resolution.{Resolution}
use Rattle.esm_resolve.specs.declared.graph.Resolution.TheVariants as resolutions
use Rattle.esm_resolve.specs.Keys.{is_one}
use Rattle.esm_resolve.specs.Resolution.{pair_of, IsResolutionOf}
use Rattle.esm_resolve.specs.Renumbered.{renumbered}
use Rattle.esm_resolve.proofs.Renumbered.{follows_numbers}
use Rattle.esm_values.specs.Naming.{Naming}
use Rattle.esm_env.specs.Modules.{Modules, entries, graph, Exports}
use Rattle.esm_env.specs.Naming.{AreNamed}
use Rattle.esm_link.specs.Faults.{FaultAt, export_kind, import_kind, export_fault, import_fault, ExportFault, ImportFault, FirstFault, message, link_error}
use Rattle.esm_values.specs.Errors.{fault}
use Rattle.esm_values.specs.declared.errors.FaultKind.TheVariants as kinds
use Rattle.esm_link.specs.Link.{targets_from, targets, LinksMarks, IsLinking}
use Rattle.esm_link.specs.Link.LinksMarks.{done, enters, passes, fails, stays, component}
use Rattle.esm_link.specs.Naming.{named_fault, LinkingFollowsNames}

module _ {M N : Type 0} (names : Naming M N) (same : M → M → Bool) (other : N → N → Bool) (g : Modules M) (h : Modules N) (alike : (x y : M) → other (names.name x) (names.name y) ≡ same x y) (k : AreNamed names g h) where
  abbrev nm : M → N
  nm = names.name

  abbrev fault_of : Option (FaultAt M) → Option (FaultAt N)
  fault_of f = option_map (named_fault names) f

  -- ---- faults

  one_is : (number : ℕ → ℕ) (r : Resolution) → is_one (renumbered number r) ≡ is_one r
  one_is number resolutions.Missing = refl
  one_is number (resolutions.One x b) = refl
  one_is number resolutions.Ambiguous = refl

  export_kind_is : (number : ℕ → ℕ) (r : Resolution) → export_kind (renumbered number r) ≡ export_kind r
  export_kind_is number resolutions.Missing = refl
  export_kind_is number (resolutions.One x b) = refl
  export_kind_is number resolutions.Ambiguous = refl

  import_kind_is : (number : ℕ → ℕ) (r : Resolution) → import_kind (renumbered number r) ≡ import_kind r
  import_kind_is number resolutions.Missing = refl
  import_kind_is number (resolutions.One x b) = refl
  import_kind_is number resolutions.Ambiguous = refl

  exports_follow : (m : M) (x : List ℕ) (r : Resolution) → Exports g m x r → Exports h (nm m) x (renumbered k.number r)
  exports_follow m x r p = subst (λ n. IsResolutionOf (graph h) (pair_of n x) (renumbered k.number r)) (k.numbers m) (follows_numbers.resolution (graph g) (graph h) k.number (g.number m) x r (k.renumbers m) p)

  module _ (x : M) where
    abbrev Below : ℕ → Type 0
    Below i = i < length (entries g x).requests

    export_named : {es : List IndirectExport} {f : Option (FaultAt M)} → ExportFault g x es f → All (λ (e : IndirectExport). Below e.request) es → ExportFault h (nm x) es (fault_of f)
    export_named ExportFault.none a = ExportFault.none
    export_named (ExportFault.fine {e = e} {es = es} r p o q) a = ExportFault.fine (renumbered k.number r) (exports_follow x e.name r p) (one_is k.number r ∙ o) (export_named q (All-tail (λ (i : IndirectExport). Below i.request) e es a))
    export_named (ExportFault.found {e = e} {es = es} r p o) a =
        let t : h.target (nm x) e.request ≡ nm (g.target x e.request) = k.target x e.request (All-head (λ (i : IndirectExport). Below i.request) e es a) in
        let is : export_fault h (nm x) e (renumbered k.number r) ≡ named_fault names (export_fault g x e r) = λ i. record { kind = export_kind_is k.number r i; module_is = nm x; name = e.name; target = t i } in
        subst (λ f. ExportFault h (nm x) (e ∷ es) (Some f)) is (ExportFault.found (renumbered k.number r) (exports_follow x e.name r p) (one_is k.number r ∙ o))

    import_named : {es : List ImportEntry} {f : Option (FaultAt M)} → ImportFault g x es f → All (λ (e : ImportEntry). Below e.request) es → ImportFault h (nm x) es (fault_of f)
    import_named ImportFault.none a = ImportFault.none
    import_named (ImportFault.whole {e = e} {es = es} w q) a = ImportFault.whole w (import_named q (All-tail (λ (i : ImportEntry). Below i.request) e es a))
    import_named (ImportFault.fine {e = e} {es = es} name r w p o q) a =
        let t : h.target (nm x) e.request ≡ nm (g.target x e.request) = k.target x e.request (All-head (λ (i : ImportEntry). Below i.request) e es a) in
        ImportFault.fine name (renumbered k.number r) w (subst (λ y. Exports h y name (renumbered k.number r)) (sym t) (exports_follow (g.target x e.request) name r p)) (one_is k.number r ∙ o) (import_named q (All-tail (λ (i : ImportEntry). Below i.request) e es a))
    import_named (ImportFault.found {e = e} {es = es} name r w p o) a =
        let t : h.target (nm x) e.request ≡ nm (g.target x e.request) = k.target x e.request (All-head (λ (i : ImportEntry). Below i.request) e es a) in
        let is : import_fault h (nm x) e name (renumbered k.number r) ≡ named_fault names (import_fault g x e name r) = λ i. record { kind = import_kind_is k.number r i; module_is = nm x; name = name; target = t i } in
        subst (λ f. ImportFault h (nm x) (e ∷ es) (Some f)) is
        (ImportFault.found name (renumbered k.number r) w (subst (λ y. Exports h y name (renumbered k.number r)) (sym t) (exports_follow (g.target x e.request) name r p)) (one_is k.number r ∙ o))

    exports_so : (f : Option (FaultAt M)) → ExportFault g x (entries g x).indirects f → ExportFault h (nm x) (entries h (nm x)).indirects (fault_of f)
    exports_so f p = subst (λ (items : List Item). ExportFault h (nm x) (entries_of items).indirects (fault_of f)) (sym (k.tree x)) (export_named p (names_requests (g.tree x)).exports.indirects)

    imports_so : (f : Option (FaultAt M)) → ImportFault g x (entries g x).imports f → ImportFault h (nm x) (entries h (nm x)).imports (fault_of f)
    imports_so f p = subst (λ (items : List Item). ImportFault h (nm x) (entries_of items).imports (fault_of f)) (sym (k.tree x)) (import_named p (names_requests (g.tree x)).imports)

    first_named : (f : Option (FaultAt M)) → FirstFault g x f → FirstFault h (nm x) (fault_of f)
    first_named f (FirstFault.of_exports {f = e} p) = FirstFault.of_exports (exports_so (Some e) p)
    first_named f (FirstFault.of_imports p q) = FirstFault.of_imports (exports_so None p) (imports_so f q)

    targets_named : (i : ℕ) (rs : List (List ℕ)) → ((j : ℕ) → j < length rs → h.target (nm x) (i + j) ≡ nm (g.target x (i + j))) → targets_from h (nm x) i rs ≡ map nm (targets_from g x i rs)
    targets_named i [] t = refl
    targets_named i (r ∷ rs) t =
        let here : h.target (nm x) i ≡ nm (g.target x i) = subst (λ n. h.target (nm x) n ≡ nm (g.target x n)) (omega arith) (t 0 (omega arith)) in
        let rest = targets_named (suc i) rs (λ j lt. subst (λ n. h.target (nm x) n ≡ nm (g.target x n)) (omega arith) (t (suc j) (omega (arith, lt)))) in
        λ n. here n ∷ rest n

    targets_is : targets h (nm x) ≡ map nm (targets g x)
    targets_is =
        ap (λ (items : List Item). targets_from h (nm x) 0 (entries_of items).requests) (k.tree x)
        ∙ targets_named 0 (entries g x).requests (λ j lt. subst (λ n. h.target (nm x) n ≡ nm (g.target x n)) (omega arith) (k.target x j lt))

  -- ---- the walk

  named : walks.AreNamed nm same other (targets g) (targets h)
  named = record { alike = alike; targets = targets_is }

  follows : WalkFollows nm same other (targets g) (targets h)
  follows = walks_follow_names nm same other (targets g) (targets h) named

  marks : {opened closed : List M} {ms : List (Mark M)} {f : Option (FaultAt M)} {after : List M} → LinksMarks same g opened closed ms f after → LinksMarks other h (map nm opened) (map nm closed) (map (named_mark nm) ms) (fault_of f) (map nm after)
  marks done = done
  marks {closed = closed} {f = f} {after = after} (enters {opened = opened} {x = x} {ms = ms} p) = enters (subst (λ o. LinksMarks other h o (map nm closed) (map (named_mark nm) ms) (fault_of f) (map nm after)) (map-append nm opened (x ∷ [])) (marks p))
  marks (passes p) = passes (marks p)
  marks (fails {x = x} {f = f} e) = fails (first_named x (Some f) e)
  marks (stays {opened = opened} {x = x} e c p) = stays (first_named x None e) (follows.closes_so opened x ∙ c) (marks p)
  marks {f = f} {after = after} (component {opened = opened} {closed = closed} {x = x} {ms = ms} e c p) =
      let more : map nm closed ++ opened_from other (map nm opened) (nm x) ≡ map nm (closed ++ opened_from same opened x) = ap (λ us. map nm closed ++ us) (follows.onwards opened x) ∙ sym (map-append nm closed (opened_from same opened x)) in
      component (first_named x None e) (follows.closes_so opened x ∙ c)
      (subst (λ o. LinksMarks other h o (map nm closed ++ opened_from other (map nm opened) (nm x)) (map (named_mark nm) ms) (fault_of f) (map nm after)) (sym (follows.before opened x))
      (subst (λ us. LinksMarks other h (map nm (opened_before same opened x)) us (map (named_mark nm) ms) (fault_of f) (map nm after)) (sym more) (marks p)))

  links : (closed : List M) (root : M) (f : Option (FaultAt M)) (after : List M) → IsLinking same g closed root f after → IsLinking other h (map nm closed) (nm root) (fault_of f) (map nm after)
  links closed root f after p = record { marks = map (named_mark nm) p.marks; walk = follows.walk closed root p.marks p.walk; links = marks p.links }

  error_is : (f : FaultAt M) → link_error h (named_fault names f) ≡ link_error g f
  error_is f = λ i. fault kinds.SyntaxError (message (k.url f.module_is i) f.name (k.url f.target i) f.kind)

pub linking_follows_names : {M N : Type 0} (names : Naming M N) (same : M → M → Bool) (other : N → N → Bool) → LinkingFollowsNames names same other
linking_follows_names names same other g h alike k = record { links = links names same other g h alike k; error = error_is names same other g h alike k }
