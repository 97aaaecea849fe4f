-- Modules whose graph has more numbers: scopes whose imports lead to what has a number are as they were.
use Rattle.std.proofs.Common.{◌≡◌, ℕ, ◌<◌, ◌≤◌, Bool, List, Contains, Option, Some, None, refl, ap, subst, sym, ◌∙◌, arith, length}
use Rattle.esm_tree.specs.declared.node.Wanted.{Wanted}
use Rattle.esm_tree.specs.declared.node.Wanted.TheVariants as wanted
use Rattle.esm_ast.specs.Entries.{EntryLists, ExportsNameRequests}
use Rattle.esm_ast.specs.declared.entries.ImportEntry.{ImportEntry}
use Rattle.esm_resolve.specs.declared.graph.Resolution.{Resolution}
use Rattle.esm_resolve.specs.declared.graph.Resolution.TheVariants as resolutions
use Rattle.esm_resolve.specs.declared.graph.Binding.TheVariants as bindings
use Rattle.esm_resolve.specs.Graph.{Graph, IsReached, IsSound, IsSoundAt}
use Rattle.esm_resolve.specs.Resolution.{pair_of, IsResolutionOf}
use Rattle.esm_resolve.specs.Renumbered.{Renumbers, renumbered}
use Rattle.esm_resolve.proofs.Renumbered.{follows_numbers, end_home}
use Rattle.esm_env.specs.Declarations.{Initial, initial}
use Rattle.esm_env.specs.Modules.{Modules, entries, graph}
use Rattle.esm_env.specs.Bindings.{Target, WholeOf, import_as, whole_only, whole_by, own_by, target_of, Binds}
use Rattle.esm_env.specs.Scopes.{Scopes}
use Rattle.esm_env.specs.Faithful.{AreScopesOf}

module _ (g : Modules ℕ) (size : ℕ) (number named : ℕ → ℕ) (more : g.size ≤ size)
    (numbers : (m : ℕ) → g.number m < g.size → number m ≡ g.number m)
    (names : (x : ℕ) → x < g.size → named x ≡ g.named x) where
  abbrev pub H : Modules ℕ
  H = record g { size = size; number = number; named = named }

  abbrev Before : Graph
  Before = graph g

  abbrev After : Graph
  After = graph H

  target_stays : (x i : ℕ) → x < g.size → Before.target x i < g.size → After.target x i ≡ Before.target x i
  target_stays x i below there = ap (λ n. number (g.target n i)) (names x below) ∙ numbers (g.target (g.named x) i) there

  entries_stay : (x : ℕ) → x < g.size → After.entries x ≡ Before.entries x
  entries_stay x below = ap (entries g) (names x below)

  renumbers : (p : ℕ) → IsSound Before p → Renumbers Before After (λ n. n) p
  renumbers p s = record {
    entries = λ x r. entries_stay x (s x r).below;
    by_name = λ x e r c. target_stays x e.request (s x r).below (s _ (IsReached.by_name r c)).below;
    by_star = λ x star r c. target_stays x star (s x r).below (s _ (IsReached.by_star r c)).below;
    apart = λ x y r q e. e;
  }

  renumbered_same : (r : Resolution) → renumbered (λ n. n) r ≡ r
  renumbered_same resolutions.Missing = refl
  renumbered_same (resolutions.One id b) = refl
  renumbered_same resolutions.Ambiguous = refl

  -- ---- what an end of a resolution is

  only_same : (m request : ℕ) (w : Wanted) → whole_only H m request w ≡ whole_only g m request w
  only_same m request wanted.Whole = refl
  only_same m request (wanted.Named name) = refl

  whole_same : (m : ℕ) (o : Option ImportEntry) → whole_by H m o ≡ whole_by g m o
  whole_same m None = refl
  whole_same m (Some e) = only_same m e.request e.wanted

  own_same : (m : ℕ) (x : List ℕ) (o : Option Initial) → own_by H m x o ≡ own_by g m x o
  own_same m x (Some i) = refl
  own_same m x None = whole_same m (import_as g m x)

  target_same : (p : ℕ) (name : List ℕ) (r : Resolution) → IsSound Before p → IsResolutionOf Before (pair_of p name) r
      → target_of H r ≡ target_of g r
  target_same p name resolutions.Missing s q = refl
  target_same p name resolutions.Ambiguous s q = refl
  target_same p name (resolutions.One id bindings.Whole) s q =
      ap (λ n. Some (WholeOf n))
      (names id.0 (s id.0 (end_home Before After (λ n. n) p (renumbers p s) name (id, bindings.Whole) q.0)).below)
  target_same p name (resolutions.One id (bindings.Local x)) s q =
      ap (λ n. own_by H n x (initial (g.tree n) x))
      (names id.0 (s id.0 (end_home Before After (λ n. n) p (renumbers p s) name (id, bindings.Local x) q.0)).below)
      ∙ own_same (g.named id.0) x (initial (g.tree (g.named id.0)) x)

  resolution_stays : (p : ℕ) (name : List ℕ) (r : Resolution) → IsSound Before p → IsResolutionOf Before (pair_of p name) r
      → IsResolutionOf After (pair_of p name) r
  resolution_stays p name r s q =
      subst (IsResolutionOf After (pair_of p name)) (renumbered_same r)
      (follows_numbers.resolution Before After (λ n. n) p name r (renumbers p s) q)

  abbrev Leads : ℕ → ℕ → Type 0
  Leads m request = IsSound Before (g.number (g.target m request))

  binds_stay : (m : ℕ) (x : List ℕ) {t : Option (Target ℕ)} → ((i : ImportEntry) → import_as g m x ≡ Some i → Leads m i.request)
      → Binds g m x t → Binds H m x t
  binds_stay m x l (Binds.no_import e) = Binds.no_import e
  binds_stay m x l (Binds.whole e is w) = Binds.whole e is w
  binds_stay m x l (Binds.named e name r is w q) =
      let s : Leads m e.request = l e is in
      let p : ℕ = g.number (g.target m e.request) in
      let at : number (g.target m e.request) ≡ p = numbers (g.target m e.request) (s p IsReached.itself).below in
      subst (Binds H m x) (target_same p name r s q)
      (Binds.named e name r is w (subst (λ n. IsResolutionOf After (pair_of n name) r) (sym at) (resolution_stays p name r s q)))

  -- ---- what is reached

  reached_before : (p x : ℕ) → IsSound Before p → IsReached After p x → IsReached Before p x
  reached_before p _ s IsReached.itself = IsReached.itself
  reached_before p _ s (IsReached.by_name {x = y} {e = e} r c) =
      let q : IsReached Before p y = reached_before p y s r in
      let k : Contains (Before.entries y).indirects e = subst (λ (es : EntryLists). Contains es.indirects e)
      (entries_stay y (s y q).below) c in
      let next : IsReached Before p (Before.target y e.request) = IsReached.by_name q k in
      subst (IsReached Before p) (sym (target_stays y e.request (s y q).below (s _ next).below)) next
  reached_before p _ s (IsReached.by_star {x = y} {r = i} r c) =
      let q : IsReached Before p y = reached_before p y s r in
      let k : Contains (Before.entries y).stars i = subst (λ (es : EntryLists). Contains es.stars i) (entries_stay y (s y q).below) c in
      let next : IsReached Before p (Before.target y i) = IsReached.by_star q k in
      subst (IsReached Before p) (sym (target_stays y i (s y q).below (s _ next).below)) next

  sound_stays : (p : ℕ) → IsSound Before p → IsSound After p
  sound_stays p s x r =
      let at : IsSoundAt Before x = s x (reached_before p x s r) in
      let below : x < g.size = at.below in
      record {
        below = omega (arith, below, more);
        exports = subst (λ (es : EntryLists). ExportsNameRequests es (length es.requests)) (sym (entries_stay x below)) at.exports;
      }

  -- ---- scopes

  pub scopes_stay : (linked : ℕ → Bool) (e : Scopes) → AreScopesOf g linked e → AreScopesOf H linked e
  scopes_stay linked e a = record {
    faithful = λ m s is. let f = a.faithful m s is in record {
      slots = f.slots;
      bound = λ x. binds_stay m x
          (λ i im. a.inside m s x i is im) (f.bound x);
      namespace = f.namespace;
    };
    trees = a.trees;
    made = a.made;
    bound = a.bound;
    imports = a.imports;
    unwritten = a.unwritten;
    inside = λ m s x i is im.
        let before : Leads m i.request = a.inside m s x i is im in
        let p : ℕ = g.number (g.target m i.request) in
        subst (IsSound After) (sym (numbers (g.target m i.request) (before p IsReached.itself).below)) (sound_stays p before);
  }
