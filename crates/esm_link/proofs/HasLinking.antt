-- Linking has an outcome.
use Rattle.std.proofs.Common.{◌≡◌, ℕ, zero, suc, ◌+◌, ◌<◌, Bool, true, false, List, [], ◌∷◌, ◌++◌, length, Option, Some, None, refl, subst, sym, arith}
use Rattle.std.specs.Prelude.{All}
use Rattle.esm_ast.specs.declared.entries.ImportEntry.{ImportEntry}
use Rattle.esm_ast.specs.declared.entries.IndirectExport.{IndirectExport}
use Rattle.esm_ast.proofs.Requests.{names_requests}
use Rattle.esm_tree.specs.declared.node.Wanted.{Wanted}
use Rattle.esm_tree.specs.declared.node.Wanted.TheVariants as wanted
use Rattle.esm_resolve.specs.Keys.{is_one}
use Rattle.esm_resolve.specs.declared.graph.Resolution.{Resolution}
use Rattle.esm_env.specs.Modules.{Modules, entries, Exports}
use Rattle.esm_realm.specs.Walk.{Mark, Visits, Passes}
use Rattle.esm_base.specs.Lists.{IsSameness, is_in}
use Rattle.esm_realm.specs.Walk.Mark.{Enter, Pass, Leave}
use Rattle.esm_realm.specs.Walk.Visits.{known, fresh}
use Rattle.esm_realm.specs.Walk.Passes.{all, next}
use Rattle.esm_realm.specs.Components.{closes, opened_after, opened_from, open_behind}
use Rattle.esm_realm.proofs.Components.{none_open}
use Rattle.esm_realm.proofs.HasWalks.{walks_inside}
use Rattle.esm_realm.proofs.Lists.{in_first, in_later}
use Rattle.esm_link.specs.Faults.{FaultAt, ExportFault, ImportFault, FirstFault, export_fault, import_fault}
use Rattle.esm_link.specs.Faults.FirstFault.{of_exports, of_imports}
use Rattle.esm_link.specs.Link.{targets, targets_from, LinksMarks}
use Rattle.esm_link.specs.Link.LinksMarks.{done, enters, passes, fails, stays, component}
use Rattle.esm_link.specs.Laws.{HaveResolutions, IsClosedUnder, HasLinking}

module _ {N : Type 0} (same : N → N → Bool) (g : Modules N) (modules : List N) (d : IsSameness same) (resolves : HaveResolutions same g modules)
    (whole : IsClosedUnder same g modules) where
  abbrev Inside : N → Type 0
  Inside x = is_in same modules x ≡ true

  -- the module of a request is among those of all requests
  target_from : (x : N) (i k : ℕ) (rs : List (List ℕ)) → k < length rs → is_in same (targets_from g x i rs) (g.target x (i + k)) ≡ true
  target_from x i k [] lt = absurd (omega (arith, lt))
  target_from x i zero (r ∷ rs) lt =
      let e : i + 0 ≡ i = omega arith in
      subst (λ j. is_in same (targets_from g x i (r ∷ rs)) (g.target x j) ≡ true) (sym e) (in_first same d.own d.equal (g.target x i) (targets_from g x (suc i) rs))
  target_from x i (suc k) (r ∷ rs) lt =
      let e : suc i + k ≡ i + suc k = omega arith in
      let later = target_from x (suc i) k rs (omega (arith, lt)) in
      subst (λ j. is_in same (targets_from g x i (r ∷ rs)) (g.target x j) ≡ true) e (in_later same d.own d.equal (g.target x i) (targets_from g x (suc i) rs) (g.target x (suc i + k)) later)

  target_inside : (x : N) (k : ℕ) → Inside x → k < length (entries g x).requests → Inside (g.target x k)
  target_inside x k h lt =
      let e : 0 + k ≡ k = omega arith in
      whole x (g.target x k) h (subst (λ j. is_in same (targets_from g x 0 (entries g x).requests) (g.target x j) ≡ true) e (target_from x 0 k (entries g x).requests lt))

  module _ (x : N) (inside : Inside x) where
    abbrev HasExportFault : List IndirectExport → Type 0
    HasExportFault es = (f : Option (FaultAt N)) × ExportFault g x es f

    -- an export, with its resolution
    export_at : (e : IndirectExport) (es : List IndirectExport) (r : Resolution) → Exports g x e.name r → (b : Bool) → is_one r ≡ b → HasExportFault es → HasExportFault (e ∷ es)
    export_at e es r q true one rest = (rest.0, ExportFault.fine r q one rest.1)
    export_at e es r q false one rest = (Some (export_fault g x e r), ExportFault.found r q one)

    export_has : (es : List IndirectExport) → HasExportFault es
    export_has [] = (None, ExportFault.none)
    export_has (e ∷ es) = let r = resolves x e.name inside in export_at e es r.0 r.1 (is_one r.0) refl (export_has es)

    abbrev HasImportFault : List ImportEntry → Type 0
    HasImportFault es = (f : Option (FaultAt N)) × ImportFault g x es f

    import_at : (e : ImportEntry) (es : List ImportEntry) (name : List ℕ) → e.wanted ≡ wanted.Named name → (r : Resolution) → Exports g (g.target x e.request) name r → (b : Bool) → is_one r ≡ b → HasImportFault es → HasImportFault (e ∷ es)
    import_at e es name w r q true one rest = (rest.0, ImportFault.fine name r w q one rest.1)
    import_at e es name w r q false one rest = (Some (import_fault g x e name r), ImportFault.found name r w q one)

    import_has : (es : List ImportEntry) → All (λ (e : ImportEntry). e.request < length (entries g x).requests) es → HasImportFault es
    import_has [] h = (None, ImportFault.none)
    import_has (e ∷ es) h = by e.wanted refl (import_has es (λ k i lt. h (suc k) i (omega (arith, lt))))
      where
        to : Inside (g.target x e.request)
        to = target_inside x e.request inside (h 0 e (omega arith))

        by : (w : Wanted) → e.wanted ≡ w → HasImportFault es → HasImportFault (e ∷ es)
        by wanted.Whole w rest = (rest.0, ImportFault.whole w rest.1)
        by (wanted.Named name) w rest = let r = resolves (g.target x e.request) name to in import_at e es name w r.0 r.1 (is_one r.0) refl rest

    fault_has : (f : Option (FaultAt N)) × FirstFault g x f
    fault_has = by (export_has (entries g x).indirects) (import_has (entries g x).imports (names_requests (g.tree x)).imports)
      where
        by : HasExportFault (entries g x).indirects → HasImportFault (entries g x).imports → (f : Option (FaultAt N)) × FirstFault g x f
        by (Some f, e) i = (Some f, of_exports e)
        by (None, e) (f, i) = (f, of_imports e i)

  -- ---- the marks of a walk leave modules that are inside

  abbrev LeavesInside : List (Mark N) → Type 0
  LeavesInside [] = Unit {0}
  LeavesInside (Enter x ∷ ms) = LeavesInside ms
  LeavesInside (Pass x i ∷ ms) = LeavesInside ms
  LeavesInside (Leave x ∷ ms) = Inside x × LeavesInside ms

  inside_on : (ms ns : List (Mark N)) → LeavesInside ms → LeavesInside ns → LeavesInside (ms ++ ns)
  inside_on [] ns h k = k
  inside_on (Enter x ∷ ms) ns h k = inside_on ms ns h k
  inside_on (Pass x i ∷ ms) ns h k = inside_on ms ns h k
  inside_on (Leave x ∷ ms) ns h k = (h.0, inside_on ms ns h.1 k)

  mutual
    visits_inside : {to : N → List N} {seen : List N} {x : N} {ms : List (Mark N)} {after : List N} → Visits same to seen x ms after → ((y t : N) → Inside y → is_in same (to y) t ≡ true → Inside t) → Inside x → LeavesInside ms
    visits_inside (known h) c i = tt
    visits_inside {x = x} (fresh {marks = marks} h p) c i = inside_on marks (Leave x ∷ []) (passes_inside p c (λ t k. c x t i k)) (i, tt)

    passes_inside : {to : N → List N} {seen : List N} {x : N} {i : ℕ} {ts : List N} {ms : List (Mark N)} {after : List N} → Passes same to seen x i ts ms after → ((y t : N) → Inside y → is_in same (to y) t ≡ true → Inside t) → ((t : N) → is_in same ts t ≡ true → Inside t) → LeavesInside ms
    passes_inside all c h = tt
    passes_inside {x = x} {i = i} (next {t = t} {ts = ts} {first = first} {marks = marks} v p) c h =
        inside_on first (Pass x i ∷ marks) (visits_inside v c (h t (in_first same d.own d.equal t ts))) (passes_inside p c (λ u k. h u (in_later same d.own d.equal t ts u k)))

  abbrev HasLinks : List N → List N → List (Mark N) → Type 0
  HasLinks opened closed ms = (f : Option (FaultAt N)) × (after : List N) × LinksMarks same g opened closed ms f after

  leave_by : (opened closed : List N) (x : N) (ms : List (Mark N)) → FirstFault g x None → (b : Bool) → closes same (targets g) opened x ≡ b
      → ((others : List N) → HasLinks (open_behind same b opened x) others ms) → HasLinks opened closed (Leave x ∷ ms)
  leave_by opened closed x ms first true c rest = let l = rest (closed ++ opened_from same opened x) in (l.0, l.1, component first c l.2)
  leave_by opened closed x ms first false c rest = let l = rest closed in (l.0, l.1, stays first c l.2)

  leave_at : (opened closed : List N) (x : N) (ms : List (Mark N)) → (f : Option (FaultAt N)) → FirstFault g x f
      → ((others : List N) → HasLinks (open_behind same (closes same (targets g) opened x) opened x) others ms)
      → HasLinks opened closed (Leave x ∷ ms)
  leave_at opened closed x ms (Some f) first rest = (Some f, closed, fails first)
  leave_at opened closed x ms None first rest = leave_by opened closed x ms first (closes same (targets g) opened x) refl rest

  links_have : (opened closed : List N) (ms : List (Mark N)) → LeavesInside ms → opened_after same (targets g) opened ms ≡ [] → HasLinks opened closed ms
  links_have opened closed [] h e = subst (λ o. HasLinks o closed []) (sym e) (None, closed, done)
  links_have opened closed (Enter x ∷ ms) h e = let l = links_have (opened ++ x ∷ []) closed ms h e in (l.0, l.1, enters l.2)
  links_have opened closed (Pass x i ∷ ms) h e = let l = links_have opened closed ms h e in (l.0, l.1, passes l.2)
  links_have opened closed (Leave x ∷ ms) h e =
      let f = fault_has x h.0 in
      leave_at opened closed x ms f.0 f.1 (λ others. links_have (open_behind same (closes same (targets g) opened x) opened x) others ms h.1 e)

pub has_linking : (N : Type 0) → HasLinking N
has_linking N same g modules closed root d resolves whole inside =
    let w = walks_inside same d.own d.equal (targets g) modules (λ x. is_in same modules x ≡ true) (λ x t i h. whole x t i h) (λ x i. i) closed root inside in
    let l = links_have same g modules d resolves whole [] closed w.0 (visits_inside same g modules d resolves whole w.2 (λ y t i h. whole y t i h) inside) (none_open same d.own d.equal (targets g) closed root w.0 (w.1, w.2)) in
    (l.0, l.1, record { marks = w.0; walk = (w.1, w.2); links = l.2 })
