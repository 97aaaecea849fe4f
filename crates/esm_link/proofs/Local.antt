-- Modules that agree on what is there: the same faults, the same bindings, the same linking.
use Rattle.std.proofs.Common.{◌≡◌, ℕ, suc, ◌+◌, ◌<◌, Bool, true, false, List, [], ◌∷◌, ◌++◌, length, Option, Some, None, All, Contains, refl, ap, subst, sym, ◌∙◌, arith, append_assoc}
use Rattle.std.specs.Prelude.{if◌then◌else◌}
use Rattle.std.specs.List.{AllByRecursion}
use Rattle.std.specs.Str.{bytes_eq}
use Rattle.std.proofs.lemmas.List.{append-nil}
use Rattle.std.proofs.lemmas.List.Elements.{All-head, All-tail, All-contains}
use Rattle.esm_tree.specs.Syntax.{Item}
use Rattle.esm_tree.specs.declared.node.Wanted.{Wanted}
use Rattle.esm_tree.specs.declared.node.Wanted.TheVariants as wanted
use Rattle.esm_ast.specs.Entries.{entries_of, import_named}
use Rattle.esm_ast.specs.declared.entries.ImportEntry.{ImportEntry}
use Rattle.esm_ast.specs.declared.entries.IndirectExport.{IndirectExport}
use Rattle.esm_ast.proofs.Requests.{names_requests}
use Rattle.esm_realm.specs.Walk.{Mark, IsWalkOf}
use Rattle.esm_realm.specs.Walk.Mark.{Leave}
use Rattle.esm_realm.specs.Components.{opened_before, opened_from, closes}
use Rattle.esm_resolve.specs.declared.graph.Binding.{Binding}
use Rattle.esm_resolve.specs.declared.graph.Binding.TheVariants as bindings
use Rattle.esm_resolve.specs.declared.graph.Resolution.{Resolution}
use Rattle.esm_resolve.specs.declared.graph.Resolution.TheVariants as resolutions
use Rattle.esm_resolve.specs.Graph.{IsReached}
use Rattle.esm_resolve.specs.Keys.{is_one}
use Rattle.esm_resolve.specs.Resolution.{pair_of, IsResolutionOf}
use Rattle.esm_resolve.specs.Renumbered.{Renumbers, renumbered}
use Rattle.esm_resolve.proofs.Renumbered.{follows_numbers, end_home}
use Rattle.esm_values.specs.Errors.{fault}
use Rattle.esm_values.specs.declared.errors.FaultKind.TheVariants as kinds
use Rattle.esm_env.specs.Declarations.{Initial, initial}
use Rattle.esm_env.specs.Modules.{Modules, entries, graph, Exports}
use Rattle.esm_env.specs.Bindings.{Target, WholeOf, import_as, whole_only, whole_by, own_by, target_of, Binds}
use Rattle.esm_link.specs.Faults.{FaultAt, export_kind, import_kind, export_fault, import_fault, ExportFault, ImportFault, FirstFault, message, link_error}
use Rattle.esm_link.specs.Link.{targets_from, targets, LinksMarks, LinksPart, IsLinking, IsCutLinking}
use Rattle.esm_link.specs.Local.{AreWhole, AgreeOn, HaveSame, LinkAlike, LinkingIsLocal, ClosingIsLocal}
use Rattle.esm_link.proofs.LocalWalks as local

import_below : (n : ℕ) (x : List ℕ) (e : ImportEntry) (es : List ImportEntry) → All (λ (i : ImportEntry). i.request < n) es → import_named es x ≡ Some e → e.request < n
unfolding import_named
import_below n x e [] a is = cc
import_below n x e (d ∷ ds) a is = by (bytes_eq d.local x) is (import_below n x e ds (All-tail (λ (i : ImportEntry). i.request < n) d ds a))
  where
    by : (b : Bool) → (if b then Some d else import_named ds x) ≡ Some e → (import_named ds x ≡ Some e → e.request < n) → e.request < n
    by true is rest = let same : d ≡ e = cc in subst (λ (i : ImportEntry). i.request < n) same (All-head (λ (i : ImportEntry). i.request < n) d ds a)
    by false is rest = rest is

-- ---- what is reached from a module that is there

module _ {N : Type 0} (g : Modules N) (there : N → Bool) (w : AreWhole g there) where
  abbrev There : N → Type 0
  There m = there m ≡ true

  -- the number is that of the module which it names, and that is there
  pub record Stands (n : ℕ) : Type 0 where
    pub there_is : There (g.named n)
    pub number_is : g.number (g.named n) ≡ n

  stands_of : (m : N) → There m → Stands (g.number m)
  stands_of m p = record { there_is = subst There (sym (w.named m p)) p; number_is = ap g.number (w.named m p) }

  indirect_below : (m : N) (e : IndirectExport) → Contains (entries g m).indirects e → e.request < length (entries g m).requests
  indirect_below m e c = All-contains (λ (i : IndirectExport). i.request < length (entries g m).requests) (entries g m).indirects e (names_requests (g.tree m)).exports.indirects c

  star_below : (m : N) (s : ℕ) → Contains (entries g m).stars s → s < length (entries g m).requests
  star_below m s c = All-contains (λ (i : ℕ). i < length (entries g m).requests) (entries g m).stars s (names_requests (g.tree m)).exports.stars c

  pub imported_below : (m : N) (x : List ℕ) (e : ImportEntry) → import_as g m x ≡ Some e → e.request < length (entries g m).requests
  imported_below m x e is = import_below (length (entries g m).requests) x e (entries g m).imports (names_requests (g.tree m)).imports is

  pub reached : {m : N} {n : ℕ} → There m → IsReached (graph g) (g.number m) n → Stands n
  reached {m} p IsReached.itself = stands_of m p
  reached p (IsReached.by_name {x = n} {e = e} r c) =
      let s = reached p r in
      stands_of (g.target (g.named n) e.request) (w.targets (g.named n) e.request s.there_is (indirect_below (g.named n) e c))
  reached p (IsReached.by_star {x = n} {r = s} r c) =
      let k = reached p r in
      stands_of (g.target (g.named n) s) (w.targets (g.named n) s k.there_is (star_below (g.named n) s c))

-- ---- two that agree

module _ {N : Type 0} (same : N → N → Bool) (g h : Modules N) (there : N → Bool) (k : AgreeOn g h there) where
  abbrev P : N → Type 0
  P m = there m ≡ true

  entries_alike : (m : N) → P m → entries h m ≡ entries g m
  entries_alike m p = ap entries_of (k.tree m p)

  abbrev number : ℕ → ℕ
  number n = h.number (g.named n)

  number_is : (m : N) → P m → number (g.number m) ≡ h.number m
  number_is m p = ap h.number (k.whole.named m p)

  -- the target of a request that stands behind a number
  target_number : (n i : ℕ) → Stands g there k.whole n → i < length (entries g (g.named n)).requests → h.number (h.target (h.named (number n)) i) ≡ number (g.number (g.target (g.named n) i))
  target_number n i s lt =
      let m = g.named n in
      ap (λ z. h.number (h.target z i)) (k.named m s.there_is)
      ∙ ap h.number (k.target m i s.there_is lt)
      ∙ ap h.number (sym (k.whole.named (g.target m i) (k.whole.targets m i s.there_is lt)))

  renumbers : (m : N) → P m → Renumbers (graph g) (graph h) number (g.number m)
  renumbers m p = record {
    entries = λ n r. let s = reached g there k.whole p r in ap (entries h) (k.named (g.named n) s.there_is) ∙ entries_alike (g.named n) s.there_is;
    by_name = λ n e r c. target_number n e.request (reached g there k.whole p r) (indirect_below g there k.whole (g.named n) e c);
    by_star = λ n s r c. target_number n s (reached g there k.whole p r) (star_below g there k.whole (g.named n) s c);
    apart = λ n o r q e.
        let a = reached g there k.whole p r in
        let b = reached g there k.whole p q in
        sym a.number_is ∙ ap g.number (sym (k.named (g.named n) a.there_is) ∙ ap h.named e ∙ k.named (g.named o) b.there_is) ∙ b.number_is;
  }

  exports_alike : (m : N) (x : List ℕ) (r : Resolution) → P m → Exports g m x r → Exports h m x (renumbered number r)
  exports_alike m x r p q = subst (λ n. IsResolutionOf (graph h) (pair_of n x) (renumbered number r)) (number_is m p) (follows_numbers.resolution (graph g) (graph h) number (g.number m) x r (renumbers m p) q)

  one_is : (r : Resolution) → is_one (renumbered number r) ≡ is_one r
  one_is resolutions.Missing = refl
  one_is (resolutions.One x b) = refl
  one_is resolutions.Ambiguous = refl

  export_kind_is : (r : Resolution) → export_kind (renumbered number r) ≡ export_kind r
  export_kind_is resolutions.Missing = refl
  export_kind_is (resolutions.One x b) = refl
  export_kind_is resolutions.Ambiguous = refl

  import_kind_is : (r : Resolution) → import_kind (renumbered number r) ≡ import_kind r
  import_kind_is resolutions.Missing = refl
  import_kind_is (resolutions.One x b) = refl
  import_kind_is resolutions.Ambiguous = refl

  -- ---- faults

  -- both modules of a fault are there
  abbrev IsThere : FaultAt N → Type 0
  IsThere f = P f.module_is × P f.target

  module _ (x : N) (p : P x) where
    abbrev Below : ℕ → Type 0
    Below i = i < length (entries g x).requests

    export_so : {es : List IndirectExport} {f : Option (FaultAt N)} → ExportFault g x es f → All (λ (e : IndirectExport). Below e.request) es → ExportFault h x es f
    export_so ExportFault.none a = ExportFault.none
    export_so (ExportFault.fine {e = e} {es = es} r q o rest) a =
        ExportFault.fine (renumbered number r) (exports_alike x e.name r p q) (one_is r ∙ o) (export_so rest (All-tail (λ (i : IndirectExport). Below i.request) e es a))
    export_so (ExportFault.found {e = e} {es = es} r q o) a =
        let t : h.target x e.request ≡ g.target x e.request = k.target x e.request p (All-head (λ (i : IndirectExport). Below i.request) e es a) in
        let is : export_fault h x e (renumbered number r) ≡ export_fault g x e r = λ i. record { kind = export_kind_is r i; module_is = x; name = e.name; target = t i } in
        subst (λ f. ExportFault h x (e ∷ es) (Some f)) is (ExportFault.found (renumbered number r) (exports_alike x e.name r p q) (one_is r ∙ o))

    import_so : {es : List ImportEntry} {f : Option (FaultAt N)} → ImportFault g x es f → All (λ (e : ImportEntry). Below e.request) es → ImportFault h x es f
    import_so ImportFault.none a = ImportFault.none
    import_so (ImportFault.whole {e = e} {es = es} w rest) a = ImportFault.whole w (import_so rest (All-tail (λ (i : ImportEntry). Below i.request) e es a))
    import_so (ImportFault.fine {e = e} {es = es} name r w q o rest) a =
        let below = All-head (λ (i : ImportEntry). Below i.request) e es a in
        let t : h.target x e.request ≡ g.target x e.request = k.target x e.request p below in
        ImportFault.fine name (renumbered number r) w
        (subst (λ y. Exports h y name (renumbered number r)) (sym t) (exports_alike (g.target x e.request) name r (k.whole.targets x e.request p below) q))
        (one_is r ∙ o) (import_so rest (All-tail (λ (i : ImportEntry). Below i.request) e es a))
    import_so (ImportFault.found {e = e} {es = es} name r w q o) a =
        let below = All-head (λ (i : ImportEntry). Below i.request) e es a in
        let t : h.target x e.request ≡ g.target x e.request = k.target x e.request p below in
        let is : import_fault h x e name (renumbered number r) ≡ import_fault g x e name r = λ i. record { kind = import_kind_is r i; module_is = x; name = name; target = t i } in
        subst (λ f. ImportFault h x (e ∷ es) (Some f)) is
        (ImportFault.found name (renumbered number r) w (subst (λ y. Exports h y name (renumbered number r)) (sym t) (exports_alike (g.target x e.request) name r (k.whole.targets x e.request p below) q)) (one_is r ∙ o))

    exports_so : (f : Option (FaultAt N)) → ExportFault g x (entries g x).indirects f → ExportFault h x (entries h x).indirects f
    exports_so f q = subst (λ (items : List Item). ExportFault h x (entries_of items).indirects f) (sym (k.tree x p)) (export_so q (names_requests (g.tree x)).exports.indirects)

    imports_so : (f : Option (FaultAt N)) → ImportFault g x (entries g x).imports f → ImportFault h x (entries h x).imports f
    imports_so f q = subst (λ (items : List Item). ImportFault h x (entries_of items).imports f) (sym (k.tree x p)) (import_so q (names_requests (g.tree x)).imports)

    first_so : (f : Option (FaultAt N)) → FirstFault g x f → FirstFault h x f
    first_so f (FirstFault.of_exports {f = e} q) = FirstFault.of_exports (exports_so (Some e) q)
    first_so f (FirstFault.of_imports q r) = FirstFault.of_imports (exports_so None q) (imports_so f r)

    -- ---- where a fault is

    abbrev IsThereIf : Option (FaultAt N) → Type 0
    IsThereIf None = Unit {0}
    IsThereIf (Some f) = IsThere f

    export_there : {es : List IndirectExport} {f : Option (FaultAt N)} → ExportFault g x es f → All (λ (e : IndirectExport). Below e.request) es → IsThereIf f
    export_there ExportFault.none a = tt
    export_there (ExportFault.fine {e = e} {es = es} r q o rest) a = export_there rest (All-tail (λ (i : IndirectExport). Below i.request) e es a)
    export_there (ExportFault.found {e = e} {es = es} r q o) a = (p, k.whole.targets x e.request p (All-head (λ (i : IndirectExport). Below i.request) e es a))

    import_there : {es : List ImportEntry} {f : Option (FaultAt N)} → ImportFault g x es f → All (λ (e : ImportEntry). Below e.request) es → IsThereIf f
    import_there ImportFault.none a = tt
    import_there (ImportFault.whole {e = e} {es = es} w rest) a = import_there rest (All-tail (λ (i : ImportEntry). Below i.request) e es a)
    import_there (ImportFault.fine {e = e} {es = es} name r w q o rest) a = import_there rest (All-tail (λ (i : ImportEntry). Below i.request) e es a)
    import_there (ImportFault.found {e = e} {es = es} name r w q o) a = (p, k.whole.targets x e.request p (All-head (λ (i : ImportEntry). Below i.request) e es a))

    first_there : {f : Option (FaultAt N)} → FirstFault g x f → IsThereIf f
    first_there (FirstFault.of_exports q) = export_there q (names_requests (g.tree x)).exports.indirects
    first_there (FirstFault.of_imports q r) = import_there r (names_requests (g.tree x)).imports

  -- ---- bindings

  pub import_alike : (m : N) (x : List ℕ) → P m → import_as h m x ≡ import_as g m x
  import_alike m x p = ap (λ (items : List Item). import_named (entries_of items).imports x) (k.tree m p)

  imported : (m : N) (x : List ℕ) (e : ImportEntry) → P m → import_as g m x ≡ Some e → h.target m e.request ≡ g.target m e.request
  imported m x e p is = k.target m e.request p (imported_below g there k.whole m x e is)

  own_alike : (m : N) (x : List ℕ) (i : Option Initial) → P m → own_by h m x i ≡ own_by g m x i
  own_alike m x (Some i) p = refl
  own_alike m x None p = ap (whole_by h m) (import_alike m x p) ∙ by (import_as g m x) refl
    where
      only : (e : ImportEntry) → import_as g m x ≡ Some e → (w : Wanted) → whole_only h m e.request w ≡ whole_only g m e.request w
      only e is wanted.Whole = ap (λ t. Some (WholeOf t)) (imported m x e p is)
      only e is (wanted.Named name) = refl

      by : (o : Option ImportEntry) → import_as g m x ≡ o → whole_by h m o ≡ whole_by g m o
      by None is = refl
      by (Some e) is = only e is e.wanted

  pub home : (m : N) (x : List ℕ) (n : ℕ) (b : Binding) → P m → Exports g m x (resolutions.One (record { 0 = n }) b) → Stands g there k.whole n
  home m x n b p q = reached g there k.whole p (end_home (graph g) (graph h) number (g.number m) (renumbers m p) x (record { 0 = n }, b) q.0)

  target_alike : (m : N) (x : List ℕ) (r : Resolution) → P m → Exports g m x r → target_of h (renumbered number r) ≡ target_of g r
  target_alike m x resolutions.Missing p q = refl
  target_alike m x resolutions.Ambiguous p q = refl
  target_alike m x (resolutions.One id bindings.Whole) p q = ap (λ n. Some (WholeOf n)) (k.named (g.named id.0) (home m x id.0 bindings.Whole p q).there_is)
  target_alike m x (resolutions.One id (bindings.Local y)) p q =
      let at = (home m x id.0 (bindings.Local y) p q).there_is in
      let z = g.named id.0 in
      ap (λ n. own_by h n y (initial (h.tree n) y)) (k.named z at)
      ∙ ap (λ items. own_by h z y (initial items y)) (k.tree z at)
      ∙ own_alike z y (initial (g.tree z) y) at

  pub binds_alike : (m : N) (x : List ℕ) {t : Option (Target N)} → P m → Binds g m x t → Binds h m x t
  binds_alike m x p (Binds.no_import e) = Binds.no_import (import_alike m x p ∙ e)
  binds_alike m x p (Binds.whole e is w) = subst (λ t. Binds h m x (Some (WholeOf t))) (imported m x e p is) (Binds.whole e (import_alike m x p ∙ is) w)
  binds_alike m x p (Binds.named e name r is w q) =
      let to = k.whole.targets m e.request p (imported_below g there k.whole m x e is) in
      subst (λ t. Binds h m x t) (target_alike (g.target m e.request) name r to q)
      (Binds.named e name (renumbered number r) (import_alike m x p ∙ is) w (subst (λ t. Exports h t name (renumbered number r)) (sym (imported m x e p is)) (exports_alike (g.target m e.request) name r to q)))

  -- ---- walks

  targets_so : (x : N) (i : ℕ) (rs : List (List ℕ)) → ((j : ℕ) → j < length rs → h.target x (i + j) ≡ g.target x (i + j)) → targets_from h x i rs ≡ targets_from g x i rs
  targets_so x i [] t = refl
  targets_so x i (r ∷ rs) t =
      let here : h.target x i ≡ g.target x i = subst (λ n. h.target x n ≡ g.target x n) (omega arith) (t 0 (omega arith)) in
      let rest = targets_so x (suc i) rs (λ j lt. subst (λ n. h.target x n ≡ g.target x n) (omega arith) (t (suc j) (omega (arith, lt)))) in
      λ n. here n ∷ rest n

  targets_alike : (x : N) → P x → targets h x ≡ targets g x
  targets_alike x p =
      ap (λ (items : List Item). targets_from h x 0 (entries_of items).requests) (k.tree x p)
      ∙ targets_so x 0 (entries g x).requests (λ j lt. subst (λ n. h.target x n ≡ g.target x n) (omega arith) (k.target x j p lt))

  targets_in : (x : N) (i : ℕ) (rs : List (List ℕ)) → ((j : ℕ) → j < length rs → P (g.target x (i + j))) → AllByRecursion P (targets_from g x i rs)
  targets_in x i [] t = tt
  targets_in x i (r ∷ rs) t = (
    subst (λ n. P (g.target x n)) (omega arith) (t 0 (omega arith)),
    targets_in x (suc i) rs (λ j lt. subst (λ n. P (g.target x n)) (omega arith) (t (suc j) (omega (arith, lt)))),
  )

  targets_inside : (x : N) → P x → AllByRecursion P (targets g x)
  targets_inside x p = targets_in x 0 (entries g x).requests (λ j lt. subst (λ n. P (g.target x n)) (omega arith) (k.whole.targets x j p lt))

  abbrev MarksIn : List (Mark N) → Type 0
  MarksIn ms = local.MarksThere same (targets g) (targets h) P targets_alike targets_inside ms

  closes_so : (opened : List N) (x : N) → AllByRecursion P opened → closes same (targets h) opened x ≡ closes same (targets g) opened x
  closes_so opened x a = local.closes_alike same (targets g) (targets h) P targets_alike targets_inside opened x a

  abbrev push : (opened : List N) (x : N) → AllByRecursion P opened → P x → AllByRecursion P (opened ++ x ∷ [])
  push opened x a p = local.push_there same (targets g) (targets h) P targets_alike targets_inside opened x a p

  abbrev before : (opened : List N) (x : N) → AllByRecursion P opened → AllByRecursion P (opened_before same opened x)
  before opened x a = local.before_there same (targets g) (targets h) P targets_alike targets_inside opened x a

  -- ---- the marks

  -- over h, with these closed, the marks come to the same, and close as much
  abbrev MarksSo : List N → List N → List N → List (Mark N) → Option (FaultAt N) → List N → Type 0
  MarksSo opened closed others ms f after = (more : List N) × (after ≡ closed ++ more) × LinksMarks same h opened others ms f (others ++ more)

  abbrev PartSo : List N → List N → List N → List (Mark N) → List N → Type 0
  PartSo opened closed others ms after = (more : List N) × (after ≡ closed ++ more) × LinksPart same h opened others ms (others ++ more)

  marks : {opened closed : List N} {ms : List (Mark N)} {f : Option (FaultAt N)} {after : List N} → LinksMarks same g opened closed ms f after → MarksIn ms → AllByRecursion P opened → (others : List N) → MarksSo opened closed others ms f after
  marks (LinksMarks.done {closed = closed}) m a others = ([], sym (append-nil closed), subst (λ l. LinksMarks same h [] others [] None l) (sym (append-nil others)) LinksMarks.done)
  marks (LinksMarks.enters {opened = opened} {x = x} q) m a others = let r = marks q m.1 (push opened x a m.0) others in (r.0, r.1, LinksMarks.enters r.2)
  marks (LinksMarks.passes q) m a others = let r = marks q m a others in (r.0, r.1, LinksMarks.passes r.2)
  marks (LinksMarks.fails {opened = opened} {closed = closed} {x = x} {ms = ms} {f = f} e) m a others =
      ([], sym (append-nil closed), subst (λ l. LinksMarks same h opened others (Leave x ∷ ms) (Some f) l) (sym (append-nil others)) (LinksMarks.fails (first_so x m.0 (Some f) e)))
  marks (LinksMarks.stays {opened = opened} {x = x} e c q) m a others =
      let r = marks q m.1 a others in
      (r.0, r.1, LinksMarks.stays (first_so x m.0 None e) (closes_so opened x a ∙ c) r.2)
  marks {after = after} (LinksMarks.component {opened = opened} {closed = closed} {x = x} {ms = ms} {f = f} e c q) m a others =
      let from = opened_from same opened x in
      let r = marks q m.1 (before opened x a) (others ++ from) in (
        from ++ r.0,
        r.1 ∙ append_assoc closed from r.0,
        LinksMarks.component (first_so x m.0 None e) (closes_so opened x a ∙ c)
            (subst (λ l. LinksMarks same h (opened_before same opened x) (others ++ from) ms f l) (append_assoc others from r.0) r.2),
      )

  parts : {opened closed : List N} {ms : List (Mark N)} {after : List N} → LinksPart same g opened closed ms after → MarksIn ms → AllByRecursion P opened → (others : List N) → PartSo opened closed others ms after
  parts (LinksPart.cut {opened = opened} {closed = closed} {ms = ms}) m a others = ([], sym (append-nil closed), subst (λ l. LinksPart same h opened others ms l) (sym (append-nil others)) LinksPart.cut)
  parts (LinksPart.enters {opened = opened} {x = x} q) m a others = let r = parts q m.1 (push opened x a m.0) others in (r.0, r.1, LinksPart.enters r.2)
  parts (LinksPart.passes q) m a others = let r = parts q m a others in (r.0, r.1, LinksPart.passes r.2)
  parts (LinksPart.stays {opened = opened} {x = x} e c q) m a others =
      let r = parts q m.1 a others in
      (r.0, r.1, LinksPart.stays (first_so x m.0 None e) (closes_so opened x a ∙ c) r.2)
  parts (LinksPart.component {opened = opened} {closed = closed} {x = x} {ms = ms} e c q) m a others =
      let from = opened_from same opened x in
      let r = parts q m.1 (before opened x a) (others ++ from) in (
        from ++ r.0,
        r.1 ∙ append_assoc closed from r.0,
        LinksPart.component (first_so x m.0 None e) (closes_so opened x a ∙ c)
            (subst (λ l. LinksPart same h (opened_before same opened x) (others ++ from) ms l) (append_assoc others from r.0) r.2),
      )

  marks_there : {opened closed : List N} {ms : List (Mark N)} {f : FaultAt N} {o : Option (FaultAt N)} {after : List N} → LinksMarks same g opened closed ms o after → o ≡ Some f → MarksIn ms → IsThere f
  marks_there LinksMarks.done is m = absurd cc
  marks_there (LinksMarks.enters q) is m = marks_there q is m.1
  marks_there (LinksMarks.passes q) is m = marks_there q is m
  marks_there {f = f} (LinksMarks.fails {x = x} {f = d} e) is m = let same : d ≡ f = cc in subst IsThere same (first_there x m.0 e)
  marks_there (LinksMarks.stays e c q) is m = marks_there q is m.1
  marks_there (LinksMarks.component e c q) is m = marks_there q is m.1

  -- ---- linking

  in_walk : (closed : List N) (root : N) (ms : List (Mark N)) → P root → IsWalkOf same (targets g) closed root ms → MarksIn ms
  in_walk closed root ms p walk = local.marks_there same (targets g) (targets h) P targets_alike targets_inside closed root ms p walk

  pub links_so : (closed others : List N) (root : N) (f : Option (FaultAt N)) (after : List N) → P root → HaveSame same there closed others → IsLinking same g closed root f after
      → (more : List N) × (after ≡ closed ++ more) × IsLinking same h others root f (others ++ more)
  links_so closed others root f after p s l =
      let r = marks l.links (in_walk closed root l.marks p l.walk) tt others in
      (r.0, r.1, record { marks = l.marks; walk = local.walks same (targets g) (targets h) P targets_alike targets_inside closed others root l.marks p s l.walk; links = r.2 })

  pub cut_so : (closed others : List N) (root : N) (after : List N) → P root → HaveSame same there closed others → IsCutLinking same g closed root after
      → (more : List N) × (after ≡ closed ++ more) × IsCutLinking same h others root (others ++ more)
  cut_so closed others root after p s l =
      let r = parts l.part (in_walk closed root l.marks p l.walk) tt others in
      (r.0, r.1, record { marks = l.marks; walk = local.walks same (targets g) (targets h) P targets_alike targets_inside closed others root l.marks p s l.walk; part = r.2 })

  fault_there : (closed : List N) (root : N) (f : FaultAt N) (after : List N) → P root → IsLinking same g closed root (Some f) after → IsThere f
  fault_there closed root f after p l = marks_there l.links refl (in_walk closed root l.marks p l.walk)

  error_alike : (f : FaultAt N) → IsThere f → link_error h f ≡ link_error g f
  error_alike f t = λ i. fault kinds.SyntaxError (message (k.url f.module_is t.0 i) f.name (k.url f.target t.1 i) f.kind)

  link_alike : LinkAlike same g h there
  link_alike = record {
    links = λ closed root f after p l. let r = links_so closed closed root f after p (λ x q. refl) l in subst (IsLinking same h closed root f) (sym r.1) r.2;
    cut = λ closed root after p l. let r = cut_so closed closed root after p (λ x q. refl) l in subst (IsCutLinking same h closed root) (sym r.1) r.2;
    error = λ closed root f after p l. error_alike f (fault_there closed root f after p l);
    faults = λ m f p q. first_so m p f q;
    binds = λ m x t p q. binds_alike m x p q;
    renumbers = renumbers;
  }

pub linking_is_local : (N : Type 0) → LinkingIsLocal N
linking_is_local N same g h there k = link_alike same g h there k

pub agree_itself : {N : Type 0} (g : Modules N) (there : N → Bool) → AreWhole g there → AgreeOn g g there
agree_itself g there w = record { whole = w; url = λ m p. refl; tree = λ m p. refl; target = λ m i p lt. refl; named = w.named }

pub closing_is_local : (N : Type 0) → ClosingIsLocal N
closing_is_local N same = record {
  links = λ g there closed others root f after w p s l. links_so same g g there (agree_itself g there w) closed others root f after p s l;
  cut = λ g there closed others root after w p s l. cut_so same g g there (agree_itself g there w) closed others root after p s l;
}
