-- What is resolved over the code's graph, from a linked module, is resolved over the modules, under their numbers there.
use Rattle.std.proofs.Common.{◌≡◌, ℕ, ◌<◌, Bool, true, List, length, refl, ap, subst, sym, ◌∙◌}
use Rattle.std.specs.Prelude.{Contains}
use Rattle.std.proofs.lemmas.List.Elements.{All-contains}
use Rattle.esm_ast.specs.Entries.{EntryLists}
use Rattle.esm_ast.specs.declared.entries.IndirectExport.{IndirectExport}
use Rattle.esm_ast.proofs.Requests.{names_requests}
use Rattle.esm_base.specs.declared.module_id.ModuleId.{ModuleId}
use Rattle.esm_resolve.specs.Graph.{Graph, IsReached}
use Rattle.esm_resolve.specs.Graph.IsReached.{itself, by_name, by_star}
use Rattle.esm_resolve.specs.Renumbered.{Renumbers, FollowsNumbers}
use Rattle.esm_resolve.specs.Resolution.{module_id, pair_of, IsResolutionOf}
use Rattle.esm_resolve.specs.declared.graph.Binding.{Binding}
use Rattle.esm_resolve.specs.declared.graph.Resolution.TheVariants as resolutions
use Rattle.esm_env.specs.Modules.{Modules, graph, entries}
use Rattle.esm_rewriting.specs.Fits.{AreLinked}
use Rattle.esm_body.specs.Importers.{HasLinked}
use Rattle.esm_rewriting.proofs.Resolved.{good, resolved_good}

module _ (g : Modules ℕ) (linked : ℕ → Bool) (h : Graph) (urls : ℕ → List ℕ) (l : AreLinked g linked) (has : HasLinked g linked h urls) where
  -- ---- what exports lead to is linked

  indirect_below : (m : ℕ) (e : IndirectExport) → linked m ≡ true → Contains (h.entries m).indirects e → e.request < length (entries g m).requests
  indirect_below m e k c =
      let there : Contains (entries g m).indirects e = subst (λ (es : EntryLists). Contains es.indirects e) (has.same m k) c in
      All-contains (λ (e : IndirectExport). e.request < length (entries g m).requests) _ e (names_requests (g.tree m)).exports.indirects there

  star_below : (m star : ℕ) → linked m ≡ true → Contains (h.entries m).stars star → star < length (entries g m).requests
  star_below m star k c =
      let there : Contains (entries g m).stars star = subst (λ (es : EntryLists). Contains es.stars star) (has.same m k) c in
      All-contains (λ s. s < length (entries g m).requests) _ star (names_requests (g.tree m)).exports.stars there

  target_linked : (m request : ℕ) → linked m ≡ true → request < length (entries g m).requests → linked (h.target m request) ≡ true
  target_linked m request k lt = subst (λ n. linked n ≡ true) (sym (has.target m request k lt)) (l.targets m request k lt)

  reached_linked : (m x : ℕ) → linked m ≡ true → IsReached h m x → linked x ≡ true
  reached_linked m x k itself = k
  reached_linked m x k (by_name {x = y} {e = e} r c) = let j = reached_linked m y k r in target_linked y e.request j (indirect_below y e j c)
  reached_linked m x k (by_star {x = y} {r = s} r c) = let j = reached_linked m y k r in target_linked y s j (star_below y s j c)

  -- ---- the modules, under their numbers

  target_is : (m request : ℕ) → linked m ≡ true → request < length (entries g m).requests → (graph g).target (g.number m) request ≡ g.number (h.target m request)
  target_is m request k lt = ap (λ n. g.number (g.target n request)) (l.named m k) ∙ ap g.number (sym (has.target m request k lt))

  pub renumbers : (m : ℕ) → linked m ≡ true → Renumbers h (graph g) g.number m
  renumbers m k = record {
    entries = λ x r. let j = reached_linked m x k r in ap (entries g) (l.named x j) ∙ sym (has.same x j);
    by_name = λ x e r c. let j = reached_linked m x k r in target_is x e.request j (indirect_below x e j c);
    by_star = λ x star r c. let j = reached_linked m x k r in target_is x star j (star_below x star j c);
    apart = λ x y r q e. sym (l.named x (reached_linked m x k r)) ∙ ap g.named e ∙ l.named y (reached_linked m y k q);
  }

  -- ---- the end of a resolution is linked

  -- the same modules, with their ids as numbers
  abbrev by_ids : Modules ℕ
  by_ids = record { url = g.url; tree = g.tree; target = g.target; size = h.size; number = λ m. m; named = λ m. m }

  ids_linked : AreLinked by_ids linked
  ids_linked = record { trees = l.trees; targets = l.targets; below = has.below; named = λ m k. refl }

  ids_renumber : (m : ℕ) → linked m ≡ true → Renumbers h (graph by_ids) (λ n. n) m
  ids_renumber m k = record {
    entries = λ x r. sym (has.same x (reached_linked m x k r));
    by_name = λ x e r c. let j = reached_linked m x k r in sym (has.target x e.request j (indirect_below x e j c));
    by_star = λ x star r c. let j = reached_linked m x k r in sym (has.target x star j (star_below x star j c));
    apart = λ x y r q e. e;
  }

  pub end_linked : FollowsNumbers → (m : ℕ) (x : List ℕ) (id : ModuleId) (b : Binding) → linked m ≡ true
      → IsResolutionOf h (pair_of m x) (resolutions.One id b) → linked id.0 ≡ true
  end_linked follows m x id b k i =
      let j = follows.resolution h (graph by_ids) (λ n. n) m x (resolutions.One id b) (ids_renumber m k) i in
      (resolved_good by_ids linked ids_linked m x (resolutions.One (module_id id.0) b) (good by_ids linked ids_linked m k) j).is_linked
