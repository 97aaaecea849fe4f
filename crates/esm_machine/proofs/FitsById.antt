-- Where the world that is stood for fits, what is held fits by ids.
use Rattle.std.proofs.Common.{◌≡◌, ℕ, true, List, [], ◌∷◌, map, All, Option, Some, None, ap, subst, sym, ◌∙◌}
use Rattle.std.specs.Prelude.{IfSome, ⊤}
use Rattle.std.specs.List.{AllByRecursion}
use Rattle.std.specs.Option.{option_map}
use Rattle.std.proofs.lemmas.List.Elements.{All-from_recursion, recursion_from_All}
use Rattle.esm_base.specs.Urls.{Url, has}
use Rattle.esm_values.specs.Value.{Value, Undefined, Truth, Text, Func, Error, Namespace, Promise}
use Rattle.esm_values.specs.Naming.{renamed_value}
use Rattle.esm_env.specs.Naming.{renamed_in}
use Rattle.esm_eval.specs.Keeping.{IsNodeOf}
use Rattle.esm_eval.specs.Naming.{named_node}
use Rattle.esm_eval.specs.Nodes.{Node, was_entered}
use Rattle.esm_eval.specs.Table.{node_at}
use Rattle.esm_rewriting.specs.Fits.{FitStanding, Knows, of_body}
use Rattle.esm_rewriting.specs.Naming.{renamed_standing}
use Rattle.esm_rewriting.specs.State.{Standing}
use Rattle.esm_world.specs.World.{World, modules_in}
use Rattle.esm_world.specs.Layers as layers
use Rattle.esm_world.specs.Fits.{IsLinkedModule, AreModules, IsKnownValue, FitsWorld, IsFit}
use Rattle.esm_world.proofs.FitLoading.{relinked}
use Rattle.esm_machine.specs.Seen.{HaveIds, names, modules, linked}
use Rattle.esm_machine.specs.Held.{Held, StandsFor, world_of}
use Rattle.esm_machine.specs.FitsById.{IsLinkedId, KnowsId, FitsById, WorldsFitById}
use Rattle.esm_machine.proofs.HoldsBack.{rest_back}
use Rattle.esm_machine.specs.Inner.Numbers.{number, number_url}

-- ---- the same linked modules, in the order that is held

module _ (h : Held) (w : World) (s : StandsFor h w) (f : IsFit w) where
  abbrev L : List Url
  L = h.seen.linked

  modules_held : AreModules L w.loading.entries
  modules_held = record {
    stands = λ u k. f.modules.stands u (s.linked u ∙ k);
    trees = λ u k. f.modules.trees u (s.linked u ∙ k);
    targets = λ u i k lt. sym (s.linked _) ∙ f.modules.targets u i (s.linked u ∙ k) lt;
  }

  fit_held : FitsWorld L h.seen.loading.entries (world_of h L)
  fit_held =
      let there : FitsWorld L w.loading.entries (layers.with_linked w L) = relinked w.linked L w.loading.entries f.modules modules_held (λ u k. sym (s.linked u) ∙ k) w f in
      subst (λ (v : World). FitsWorld L v.loading.entries (layers.with_linked v L)) s.world there

-- ---- by ids

module _ (h : Held) (f : FitsWorld h.seen.linked h.seen.loading.entries (world_of h h.seen.linked)) where
  abbrev name : ℕ → Url
  name m = (names h.seen).name m

  abbrev value : Value ℕ → Value Url
  value v = renamed_value name v

  known_back : (v : Value ℕ) → IsKnownValue h.seen.linked h.seen.loading.entries (value v) → KnowsId h.seen v
  known_back Undefined k = tt
  known_back (Truth b) k = tt
  known_back (Text t) k = tt
  known_back (Func m i) k = k
  known_back (Error id) k = tt
  known_back (Namespace m) k = k
  known_back (Promise id) k = tt

  seen_back : (v : Value ℕ) → Knows modules_in (λ l. has h.seen.linked) h.seen.loading (value v) → KnowsId h.seen v
  seen_back Undefined k = tt
  seen_back (Truth b) k = tt
  seen_back (Text t) k = tt
  seen_back (Func m i) k = k
  seen_back (Error id) k = tt
  seen_back (Namespace m) k = k
  seen_back (Promise id) k = tt

  -- ---- what bodies read and write

  cells_back : (m : ℕ) (x : List ℕ) (v : Value ℕ) → h.cells m x ≡ Some v → KnowsId h.seen v
  cells_back m x v e = seen_back v (f.state.cells (name m) x (value v) (ap (renamed_in (names h.seen) h.cells x) ((names h.seen).back m) ∙ ap (λ o. option_map value o) e))

  standing_back : (ss : List (Standing ℕ)) → FitStanding modules_in (λ l. has h.seen.linked) h.seen.loading (map (renamed_standing (names h.seen)) ss) → FitStanding modules linked h.seen ss
  standing_back [] k = tt
  standing_back (t ∷ ss) k =
      (k.0, rest_back value (Knows modules_in (λ l. has h.seen.linked) h.seen.loading) (KnowsId h.seen) seen_back ⊤ (of_body true) t.rest k.1, standing_back ss k.2)

  -- ---- what evaluation keeps

  if_back : {A B : Type 0} (g : A → B) (P : B → Type 0) (Q : A → Type 0) → ((a : A) → P (g a) → Q a) → (o : Option A) → IfSome (option_map g o) P → IfSome o Q
  if_back g P Q back None k = tt
  if_back g P Q back (Some a) k = back a k

  each_back : {A B : Type 0} (g : A → B) (P : B → Type 0) (Q : A → Type 0) → ((a : A) → P (g a) → Q a) → (xs : List A) → AllByRecursion P (map g xs) → AllByRecursion Q xs
  each_back g P Q back [] k = tt
  each_back g P Q back (x ∷ xs) k = (back x k.0, each_back g P Q back xs k.1)

  all_back : (ms : List ℕ) → All (IsLinkedModule h.seen.linked h.seen.loading.entries) (map name ms) → All (IsLinkedId h.seen) ms
  all_back ms k = All-from_recursion (IsLinkedId h.seen) ms (each_back name (IsLinkedModule h.seen.linked h.seen.loading.entries) (IsLinkedId h.seen) (λ m q. q) ms (recursion_from_All (IsLinkedModule h.seen.linked h.seen.loading.entries) (map name ms) k))

  node_back : (n : Node ℕ (Value ℕ)) → IsNodeOf (IsLinkedModule h.seen.linked h.seen.loading.entries) (IsKnownValue h.seen.linked h.seen.loading.entries) (named_node (names h.seen) value n)
      → IsNodeOf (IsLinkedId h.seen) (KnowsId h.seen) n
  node_back n k = record {
    error = if_back value (IsKnownValue h.seen.linked h.seen.loading.entries) (KnowsId h.seen) known_back n.error k.error;
    root = if_back name (IsLinkedModule h.seen.linked h.seen.loading.entries) (IsLinkedId h.seen) (λ m q. q) n.cycle_root k.root;
    waits = all_back n.waits k.waits;
    waiters = all_back n.waiters k.waiters;
  }

  -- the node of a URL is that of its number
  node_named : (m : ℕ) → named_node (names h.seen) value (node_at h.nodes (number h.seen.urls (name m))) ≡ named_node (names h.seen) value (node_at h.nodes m)
  node_named m = ap (λ k. named_node (names h.seen) value (node_at h.nodes k)) (number_url h.seen.urls m)

  by_ids : HaveIds h.seen.urls h.seen.linked → FitsById h
  by_ids ids = record {
    state = record {
      whole = record { modules = f.modules; host = f.state.whole; ids = ids };
      cells = cells_back;
      standing = standing_back h.engine.standing f.state.standing;
    };
    nodes = λ m. node_back (node_at h.nodes m) (subst (λ n. IsNodeOf (IsLinkedModule h.seen.linked h.seen.loading.entries) (IsKnownValue h.seen.linked h.seen.loading.entries) n) (node_named m) (f.nodes (name m)));
    entered = λ m e. f.entered (name m) (ap (λ (n : Node Url (Value Url)). was_entered n.phase) (node_named m) ∙ e);
    stamps = all_back h.nodes.stamps f.stamps;
  }

pub worlds_fit_by_id : WorldsFitById
worlds_fit_by_id h w s f ids = by_ids h (fit_held h w s f) ids
