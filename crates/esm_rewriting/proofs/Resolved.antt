-- What linked modules export is resolved, and leads to linked modules.
use Rattle.std.proofs.Common.{◌≡◌, ℕ, ◌<◌, Bool, true, false, cond, List, [], ◌∷◌, map, Option, Some, None, All, ap, subst, ◌∙◌, arith, length}
use Rattle.std.specs.Prelude.{⊤, codes, Contains}
use Rattle.std.specs.Option.{option_or}
use Rattle.std.specs.Str.{bytes_eq}
use Rattle.std.specs.List.{AllByRecursion}
use Rattle.std.proofs.lemmas.List.Elements.{All-contains, recursion_from_All}
use Rattle.esm_tree.specs.declared.node.Wanted.{Wanted}
use Rattle.esm_tree.specs.declared.node.Wanted.TheVariants as wanted
use Rattle.esm_ast.specs.declared.entries.LocalExport.{LocalExport}
use Rattle.esm_ast.specs.declared.entries.IndirectExport.{IndirectExport}
use Rattle.esm_ast.specs.Entries.{NamesRequests}
use Rattle.esm_ast.proofs.Requests.{names_requests}
use Rattle.esm_resolve.specs.Graph.{IsReached, IsSound}
use Rattle.esm_resolve.specs.Graph.IsReached.{itself, by_name, by_star}
use Rattle.esm_resolve.specs.SharedSet.{SharedSetAgrees, SharedSetEnds}
use Rattle.esm_resolve.specs.Resolution.{End, module_id, pair_of, local_export, wanted_of, indirect_export, export_of, end_by, star_pairs, next_by, Reaches, LeadsTo, IsResolutionOf}
use Rattle.esm_resolve.specs.Resolution.Reaches.{itself as reaches_itself, onward}
use Rattle.esm_resolve.specs.declared.graph.Binding.TheVariants as bindings
use Rattle.esm_resolve.specs.declared.graph.Resolution.{Resolution}
use Rattle.esm_resolve.specs.declared.graph.Resolution.TheVariants as resolutions
use Rattle.esm_resolve.specs.declared.pair.Export.{Export}
use Rattle.esm_resolve.specs.declared.pair.Export.TheVariants as exports
use Rattle.esm_resolve.specs.declared.pair.Pair.{Pair}
use Rattle.esm_env.specs.Modules.{Modules, graph}
use Rattle.esm_rewriting.specs.Fits.{AreLinked}

-- ---- members of lists

pub not_in_nil : {A : Type 0} (x : A) → Contains [] x → ⊥
not_in_nil x c = absurd (omega (arith, c.1))

pub in_one : {A : Type 0} (P : A → Type 0) (y x : A) → P y → Contains (y ∷ []) x → P x
in_one P y x h c = All-contains P (y ∷ []) x (Rattle.std.proofs.lemmas.List.Elements.All-cons P y [] h (Rattle.std.proofs.lemmas.List.Elements.All-nil P)) c

pub in_map : {A B : Type 0} (P : B → Type 0) (f : A → B) (xs : List A) (z : B) → All (λ x. P (f x)) xs → Contains (map f xs) z → P z
in_map P f xs z h c = All-contains P (map f xs) z (Rattle.std.proofs.lemmas.List.Elements.All-map P f xs h) c

module _ {N : Type 0} (g : Modules N) (linked : N → Bool) (h : AreLinked g linked) where
  -- the number of a linked module
  pub record Good (n : ℕ) : Type 0 where
    pub is_linked : linked (g.named n) ≡ true
    pub number : g.number (g.named n) ≡ n

  pub good : (m : N) → linked m ≡ true → Good (g.number m)
  good m l = record { is_linked = ap linked (h.named m l) ∙ l; number = ap g.number (h.named m l) }

  requests_named : (n : ℕ) → NamesRequests ((graph g).entries n) (length ((graph g).entries n).requests)
  requests_named n = names_requests (g.tree (g.named n))

  pub good_target : (n request : ℕ) → Good n → request < length ((graph g).entries n).requests → Good ((graph g).target n request)
  good_target n request k lt = good (g.target (g.named n) request) (h.targets (g.named n) request k.is_linked lt)

  reached_good : (m x : ℕ) → Good m → IsReached (graph g) m x → Good x
  reached_good m x k itself = k
  reached_good m x k (by_name {x = y} {e = e} r c) = good_target y e.request (reached_good m y k r) (All-contains (λ (e : IndirectExport). e.request < length ((graph g).entries y).requests) _ e (requests_named y).exports.indirects c)
  reached_good m x k (by_star {x = y} {r = s} r c) = good_target y s (reached_good m y k r) (All-contains (λ s. s < length ((graph g).entries y).requests) _ s (requests_named y).exports.stars c)

  pub sound : (m : ℕ) → Good m → IsSound (graph g) m
  sound m k x r =
      let q = reached_good m x k r in
      record { below = subst (λ n. n < g.size) q.number (h.below (g.named x) q.is_linked); exports = (requests_named x).exports }

  -- ---- what is exported

  ExportGood : Option Export → Type 0
  ExportGood None = ⊤
  ExportGood (Some (exports.End x b)) = Good x.0
  ExportGood (Some (exports.Other p)) = Good p.home.0

  picked : (b : Bool) (x y : Option Export) → ExportGood x → ExportGood y → ExportGood (cond b x y)
  picked true x y p q = p
  picked false x y p q = q

  local_good : (n : ℕ) (es : List LocalExport) (name : List ℕ) → Good n → ExportGood (local_export n es name)
  unfolding ExportGood
  local_good n [] name k = tt
  local_good n (e ∷ es) name k = picked (bytes_eq e.name name) (Some (exports.End (module_id n) (bindings.Local e.local))) (local_export n es name) k (local_good n es name k)

  wanted_good : (n : ℕ) (w : Wanted) → Good n → ExportGood (Some (wanted_of n w))
  unfolding ExportGood
  wanted_good n wanted.Whole k = k
  wanted_good n (wanted.Named name) k = k

  indirect_good : (n : ℕ) (es : List IndirectExport) (name : List ℕ) → Good n → AllByRecursion (λ (e : IndirectExport). e.request < length ((graph g).entries n).requests) es → ExportGood (indirect_export ((graph g).target n) es name)
  unfolding ExportGood
  indirect_good n [] name k a = tt
  indirect_good n (e ∷ es) name k a =
      picked (bytes_eq e.name name) (Some (wanted_of ((graph g).target n e.request) e.wanted)) (indirect_export ((graph g).target n) es name) (wanted_good _ e.wanted (good_target n e.request k a.0)) (indirect_good n es name k a.1)

  either_good : (x y : Option Export) → ExportGood x → ExportGood y → ExportGood (option_or x y)
  either_good None y p q = q
  either_good (Some e) y p q = p

  export_good : (p : Pair) → Good p.home.0 → ExportGood (export_of (graph g) p)
  export_good p k =
      either_good (local_export p.home.0 ((graph g).entries p.home.0).locals p.name) (indirect_export ((graph g).target p.home.0) ((graph g).entries p.home.0).indirects p.name)
      (local_good p.home.0 ((graph g).entries p.home.0).locals p.name k)
      (indirect_good p.home.0 ((graph g).entries p.home.0).indirects p.name k (recursion_from_All (λ (e : IndirectExport). e.request < length ((graph g).entries p.home.0).requests) _ (requests_named p.home.0).exports.indirects))

  HomeGood : Pair → Type 0
  HomeGood p = Good p.home.0

  star_good : (p q : Pair) → Good p.home.0 → (b : Bool) → Contains (cond b [] (map (λ star. pair_of ((graph g).target p.home.0 star) p.name) ((graph g).entries p.home.0).stars)) q → Good q.home.0
  star_good p q k true c = absurd (not_in_nil q c)
  star_good p q k false c =
      in_map (λ (q : Pair). Good q.home.0) (λ star. pair_of ((graph g).target p.home.0 star) p.name) ((graph g).entries p.home.0).stars q
      (Rattle.std.proofs.lemmas.List.Elements.All-weaker (λ s. s < length ((graph g).entries p.home.0).requests) (λ s. Good ((graph g).target p.home.0 s)) (λ s lt. good_target p.home.0 s k lt) _ (requests_named p.home.0).exports.stars) c

  next_good : (p q : Pair) → Good p.home.0 → (o : Option Export) → ExportGood o → Contains (next_by o (star_pairs (graph g) p)) q → Good q.home.0
  unfolding ExportGood
  next_good p q k None e c = star_good p q k (bytes_eq p.name (codes "default")) c
  next_good p q k (Some (exports.End x b)) e c = absurd (not_in_nil q c)
  next_good p q k (Some (exports.Other s)) e c = in_one (λ (q : Pair). Good q.home.0) s q e c

  reaches_good : (from p : Pair) → Good from.home.0 → Reaches (graph g) from p → Good p.home.0
  reaches_good from p k reaches_itself = k
  reaches_good from p k (onward {p = q} r c) = let j = reaches_good from q k r in next_good q p j (export_of (graph g) q) (export_good q j) c

  end_good : (o : Option Export) → ExportGood o → (e : End) → end_by o ≡ Some e → Good e.0.0
  unfolding ExportGood
  end_good None k e q = absurd cc
  end_good (Some (exports.End x b)) k e q = subst (λ (e : End). Good e.0.0) (let s : (x, b) ≡ e = cc in s) k
  end_good (Some (exports.Other p)) k e q = absurd cc

  leads_good : (from : Pair) (e : End) → Good from.home.0 → LeadsTo (graph g) from e → Good e.0.0
  leads_good from e k l = let j = reaches_good from l.0 k l.1 in end_good (export_of (graph g) l.0) (export_good l.0 j) e l.2

  abbrev pub ResolvedGood : Resolution → Type 0
  ResolvedGood resolutions.Missing = ⊤
  ResolvedGood (resolutions.One x b) = Good x.0
  ResolvedGood resolutions.Ambiguous = ⊤

  pub resolved_good : (m : ℕ) (name : List ℕ) (s : Resolution) → Good m → IsResolutionOf (graph g) (pair_of m name) s → ResolvedGood s
  resolved_good m name resolutions.Missing k i = tt
  resolved_good m name (resolutions.One x b) k i = leads_good (pair_of m name) (x, b) k i.0
  resolved_good m name resolutions.Ambiguous k i = tt

  -- an export of a linked module is resolved
  pub resolved : SharedSetAgrees → SharedSetEnds → (m : ℕ) (name : List ℕ) → Good m → (s : Resolution) × (IsResolutionOf (graph g) (pair_of m name) s × ResolvedGood s)
  resolved agrees ends m name k =
      let e = ends (graph g) m name (sound m k) in
      let i = agrees (graph g) m name e.0 e.1 e.2 in
      (e.0, (i, resolved_good m name e.0 k i))
