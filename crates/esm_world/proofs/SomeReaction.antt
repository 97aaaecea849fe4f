-- In a world that fits each job has an outcome: linking and evaluating a load that is complete, what follows the end of a body, and a
-- body that goes on.
use Rattle.std.proofs.Common.{◌≡◌, ℕ, ◌<◌, true, List, Option, Some, None, refl, ap, subst, sym, ◌∙◌, length}
use Rattle.std.specs.Prelude.{Result, Ok, Err}
use Rattle.esm_base.specs.declared.limits.Limit.{Limit}
use Rattle.esm_base.specs.Urls.{Url, has, same_url}
use Rattle.esm_ast.specs.Entries.{requests_of, entries_of, entries_with}
use Rattle.esm_values.specs.Value.{Value, Namespace}
use Rattle.esm_values.specs.Errors.{Errors}
use Rattle.esm_promise.specs.Promises.{Promises, Settled, Fulfilled, Rejected, settle, register}
use Rattle.esm_promise.specs.Reactions.{Reaction, Await, BodyEnd, Loaded, Evaluated, EntryLoaded, EntryDone}
use Rattle.esm_resolve.specs.SharedSet.{SharedSetAgrees, SharedSetEnds}
use Rattle.esm_env.specs.Modules as mods
use Rattle.esm_link.specs.Faults.{FaultAt}
use Rattle.esm_loads.specs.UrlTable.{Entries, body_in}
use Rattle.esm_loads.specs.Loading.{Loading, root_of_load, import_promise}
use Rattle.esm_rewriting.specs.Bodies.{Taken, take_standing}
use Rattle.esm_rewriting.specs.Fits.{AreLinked}
use Rattle.esm_world.specs.World.{World, EntryState, modules_in, with_state}
use Rattle.esm_world.specs.Layers.{LinksTo, with_linked}
use Rattle.esm_world.specs.Jobs.{Reacts, when_evaluated}
use Rattle.esm_world.specs.Fits.{IsLinkedModule, AreModules, IsKnownValue, FitReaction, FitSettled, FitPromises, FitEntry, FitsWorld, IsFit}
use Rattle.esm_world.specs.Loaded.{FitsLoading}
use Rattle.esm_world.specs.Told.{IsTold}
use Rattle.esm_world.specs.Sound.{LinkedAreUnlinked, Finds, LinkingStaysReady}
use Rattle.esm_world.proofs.FitLists.{settled, registered}
use Rattle.esm_world.proofs.FitBodies.{are_linked}
use Rattle.esm_world.proofs.FitLoading.{relinked}
use Rattle.esm_world.proofs.FitEvaluation.{evaluated as evaluates, resumed}
use Rattle.esm_world.proofs.LoadedFits.{has_link, linked_stays_linked}
use Rattle.esm_world.proofs.LoadingKept.{reacts_keep_loading}
use Rattle.esm_world.proofs.StartsOnce.{lawful}

-- ---- worlds

-- a world that fits, over its own modules
pub fit_own : (linked : List Url) (entries : Entries) (w : World) → FitsWorld linked entries w → IsFit w
fit_own linked entries w f =
    subst (λ es. FitsWorld w.linked es w) (sym f.state.whole.entries_are) (subst (λ us. FitsWorld us entries w) (sym f.linked_are) f)

-- other errors and promises, and another state of the entry
pub fit_with : (linked : List Url) (entries : Entries) (w : World) (es : Errors) (ps : Promises (Reaction Url) (Value Url)) (e : EntryState) → FitsWorld linked entries w → FitPromises linked entries ps
    → FitEntry linked entries e → FitsWorld linked entries (record w { errors = es; promises = ps; entry = e })
fit_with linked entries w es ps e f k n = record {
  modules = f.modules;
  linked_are = f.linked_are;
  state = record { whole = record { entries_are = f.state.whole.entries_are; orderly = f.state.whole.orderly; promises = k }; cells = f.state.cells; standing = f.state.standing };
  nodes = f.nodes;
  stamps = f.stamps;
  entered = f.entered;
  events = f.events;
  entry = n;
}

-- ---- linking

requests_are : (l : Loading) (u : Url) (i : ℕ) → i < length (requests_of (body_in (l.entries u))) → i < length (mods.entries (modules_in l) u).requests
unfolding entries_of entries_with
requests_are l u i lt = lt

-- what is linked, and Unlinked, are modules
modules_of : (l : Loading) (us : List Url) → FitsLoading l → AreLinked (modules_in l) (has us) → ((u : Url) → has us u ≡ true → l.unlinked u ≡ true) → AreModules us l.entries
modules_of l us f a among = record {
  stands = λ u k. (f.whole.loaded u (among u k)).stands;
  trees = a.trees;
  targets = λ u i k lt. a.targets u i k (requests_are l u i lt);
}

-- the root is linked with this fault, or with none, and the world fits still
record LinksSome (w : World) (root : Url) : Type 0 where
  fault : Option (FaultAt Url)
  linked : List Url
  links : LinksTo w root fault linked
  fits : FitsWorld linked w.loading.entries (with_linked w linked)
  unlinked : (u : Url) → has linked u ≡ true → w.loading.unlinked u ≡ true
  stays : (u : Url) → has w.linked u ≡ true → has linked u ≡ true

module _ (agrees : SharedSetAgrees) (ends : SharedSetEnds) where
  links_some : (w : World) (root : Url) → IsFit w → FitsLoading w.loading → LinkedAreUnlinked w → w.loading.unlinked root ≡ true → LinksSome w root
  links_some w root f g among h =
      let p = (has_link agrees ends).links w.loading w.linked root g h in
      let still = linked_stays_linked.links w.loading w.linked p.1 root p.0 g h (are_linked w.linked w.loading.entries f.modules w.loading refl f.state.whole.orderly) among p.2 in
      record {
        fault = p.0;
        linked = p.1;
        links = p.2;
        fits = relinked w.linked p.1 w.loading.entries f.modules (modules_of w.loading p.1 g still.modules still.unlinked) still.stays w f;
        unlinked = still.unlinked;
        stays = still.stays;
      }

  -- ---- jobs

  -- an outcome of the job of this reaction, whose promise was settled so
  pub record SomeReaction (w : World) (r : Reaction Url) (how : Settled (Value Url)) : Type 0 where
    pub after : World
    pub reacts : Reacts w r how after
    pub fits : IsFit after
    pub unlinked : LinkedAreUnlinked after
    pub stays : (u : Url) → has w.linked u ≡ true → has after.linked u ≡ true

  -- what is linked behind a job is Unlinked
  among_still : (w after : World) (linked : List Url) {r : Reaction Url} {how : Settled (Value Url)} → Reacts w r how after → after.linked ≡ linked → ((u : Url) → has linked u ≡ true → w.loading.unlinked u ≡ true) → LinkedAreUnlinked after
  among_still w after linked p e among = λ u h. (reacts_keep_loading p).unlinked u (among u (ap (λ us. has us u) (sym e) ∙ h))

  -- the job leaves a world that fits over the linked modules
  some_of : (w after : World) (linked : List Url) (entries : Entries) (r : Reaction Url) (how : Settled (Value Url)) → Reacts w r how after → FitsWorld linked entries after
      → ((u : Url) → has linked u ≡ true → w.loading.unlinked u ≡ true) → ((u : Url) → has w.linked u ≡ true → has linked u ≡ true) → SomeReaction w r how
  some_of w after linked entries r how p f among stays = record {
    after = after;
    reacts = p;
    fits = fit_own linked entries after f;
    unlinked = among_still w after linked p f.linked_are among;
    stays = λ u h. ap (λ us. has us u) f.linked_are ∙ stays u h;
  }

  -- the reaction to an evaluation is registered
  fit_when : (linked : List Url) (entries : Entries) (w : World) (r : Reaction Url) (a : Result ℕ Limit) → FitReaction linked entries r → FitsWorld linked entries w → FitsWorld linked entries (when_evaluated w r a)
  fit_when linked entries w r (Ok p) k f = fit_with linked entries w w.errors (register w.promises p r) w.entry f (registered linked entries w.promises p r k f.state.whole.promises) f.entry
  fit_when linked entries w r (Err why) k f = f

  module _ (w : World) (f : IsFit w) (g : FitsLoading w.loading) (among : LinkedAreUnlinked w) where
    -- a promise is settled
    settles : (after : World) (p : ℕ) (value : Settled (Value Url)) (r : Reaction Url) (how : Settled (Value Url)) → FitSettled w.linked w.loading.entries value
        → after ≡ (record w { promises = settle w.promises p value }) → Reacts w r how after → SomeReaction w r how
    settles after p value r how k e q = some_of w after w.linked w.loading.entries r how q
        (subst (λ v. FitsWorld w.linked w.loading.entries v) (sym e) (fit_with w.linked w.loading.entries w w.errors (settle w.promises p value) w.entry f (settled w.linked w.loading.entries w.promises p value k f.state.whole.promises) f.entry)) among (λ u h. h)

    -- the state of the entry changes alone
    enters : (e : EntryState) (r : Reaction Url) (how : Settled (Value Url)) → FitEntry w.linked w.loading.entries e → Reacts w r how (record w { entry = e }) → SomeReaction w r how
    enters e r how n q = some_of w (record w { entry = e }) w.linked w.loading.entries r how q (fit_with w.linked w.loading.entries w w.errors w.promises e f f.state.whole.promises n) among (λ u h. h)

    -- the root of a load that is complete is one that can be linked
    links_root : (s : ℕ) (root : Url) → root_of_load w.loading s ≡ Some root → LinksSome w root
    links_root s root h = links_some w root f g among ((has_link agrees ends).root w.loading s root g h)

    -- ---- the entry

    entry_loaded : (v : Value Url) (root : Url) → root_of_load w.loading 0 ≡ Some root → SomeReaction w EntryLoaded (Fulfilled v)
    entry_loaded v root h = let k = links_root 0 root h in by k.fault k.linked k.links k.fits k.unlinked k.stays
      where
        by : (o : Option (FaultAt Url)) (us : List Url) → LinksTo w root o us → FitsWorld us w.loading.entries (with_linked w us) → ((u : Url) → has us u ≡ true → w.loading.unlinked u ≡ true) → ((u : Url) → has w.linked u ≡ true → has us u ≡ true) → SomeReaction w EntryLoaded (Fulfilled v)
        by None us l fit all more =
            let e = (evaluates us w.loading.entries fit.modules agrees ends lawful).evaluates (with_linked w us) root fit (linked_stays_linked.root w.loading w.linked us root l) in
            some_of w (when_evaluated e.1 EntryDone e.0) us w.loading.entries EntryLoaded (Fulfilled v)
            (Reacts.entry_linked (record { root = root; linked = us; links = record { is_root = h; links = l }; evaluates = e.2 }))
            (fit_when us w.loading.entries e.1 EntryDone e.0 tt e.3) all more
        by (Some x) us l fit all more =
            some_of w _ us w.loading.entries EntryLoaded (Fulfilled v) (Reacts.entry_fault root x us (record { is_root = h; links = l }))
            (fit_with us w.loading.entries (with_linked w us) _ w.promises _ fit fit.state.whole.promises tt) all more

    -- ---- an import()

    loaded : (s : ℕ) (v : Value Url) (p : ℕ) (root : Url) → import_promise w.loading s ≡ Some p → root_of_load w.loading s ≡ Some root → SomeReaction w (Loaded s) (Fulfilled v)
    loaded s v p root i h = let k = links_root s root h in by k.fault k.linked k.links k.fits k.unlinked k.stays
      where
        by : (o : Option (FaultAt Url)) (us : List Url) → LinksTo w root o us → FitsWorld us w.loading.entries (with_linked w us) → ((u : Url) → has us u ≡ true → w.loading.unlinked u ≡ true) → ((u : Url) → has w.linked u ≡ true → has us u ≡ true) → SomeReaction w (Loaded s) (Fulfilled v)
        by None us l fit all more =
            let e = (evaluates us w.loading.entries fit.modules agrees ends lawful).evaluates (with_linked w us) root fit (linked_stays_linked.root w.loading w.linked us root l) in
            some_of w (when_evaluated e.1 (Evaluated s) e.0) us w.loading.entries (Loaded s) (Fulfilled v)
            (Reacts.linked (record { root = root; linked = us; links = record { is_root = h; links = l }; evaluates = e.2 }))
            (fit_when us w.loading.entries e.1 (Evaluated s) e.0 tt e.3) all more
        by (Some x) us l fit all more =
            some_of w _ us w.loading.entries (Loaded s) (Fulfilled v) (Reacts.fault p root x us i (record { is_root = h; links = l }))
            (fit_with us w.loading.entries (with_linked w us) _ (settle w.promises p (Rejected _)) w.entry fit (settled us w.loading.entries w.promises p (Rejected _) tt fit.state.whole.promises) fit.entry) all more

    -- the root of the load is linked
    evaluated_root : (s : ℕ) (v : Value Url) (p : ℕ) (root : Url) → import_promise w.loading s ≡ Some p → root_of_load w.loading s ≡ Some root → has w.linked root ≡ true → SomeReaction w (Evaluated s) (Fulfilled v)
    evaluated_root s v p root i h k = settles _ p (Fulfilled (Namespace root)) (Evaluated s) (Fulfilled v) k refl (Reacts.evaluated p root i h)

    -- ---- bodies

    ended : (m : Url) (v : Value Url) → IsLinkedModule w.linked w.loading.entries m → SomeReaction w (BodyEnd m) (Fulfilled v)
    ended m v k =
        let e = (evaluates w.linked w.loading.entries f.modules agrees ends lawful).fulfills w m f k in
        some_of w e.1 w.linked w.loading.entries (BodyEnd m) (Fulfilled v) (Reacts.body_ended e.2) e.3 among (λ u h. h)

    threw_so : (m : Url) (v : Value Url) → IsLinkedModule w.linked w.loading.entries m → IsKnownValue w.linked w.loading.entries v → SomeReaction w (BodyEnd m) (Rejected v)
    threw_so m v k n =
        let e = (evaluates w.linked w.loading.entries f.modules agrees ends lawful).rejects w m v f k n in
        some_of w e.0 w.linked w.loading.entries (BodyEnd m) (Rejected v) (Reacts.body_threw e.1) e.2 among (λ u h. h)

    goes_on : (m : Url) (how : Settled (Value Url)) (t : Taken Url) → IsLinkedModule w.linked w.loading.entries m → take_standing same_url w.engine.standing m ≡ Some t → FitSettled w.linked w.loading.entries how → SomeReaction w (Await m) how
    goes_on m how t k e n =
        let r = resumed w.linked w.loading.entries f.modules agrees ends w m t how f k e n in
        some_of w (with_state w r.1.0) w.linked w.loading.entries (Await m) how (Reacts.resumes r.1.1.0) r.1.1.1 among (λ u h. h)

    -- ---- each reaction

    pub some_reaction : (r : Reaction Url) (how : Settled (Value Url)) → FitReaction w.linked w.loading.entries r → FitSettled w.linked w.loading.entries how → IsTold w.loading r how → Finds w r → SomeReaction w r how
    some_reaction (Await m) how k n t finds = goes_on m how finds.0 k finds.1 n
    some_reaction (BodyEnd m) (Fulfilled v) k n t finds = ended m v k
    some_reaction (BodyEnd m) (Rejected v) k n t finds = threw_so m v k n
    some_reaction (Loaded s) (Fulfilled v) k n t finds = loaded s v t.0 t.1 t.2 t.3
    some_reaction (Loaded s) (Rejected v) k n t finds = settles _ t.0 (Rejected v) (Loaded s) (Rejected v) n refl (Reacts.refused t.0 t.1)
    some_reaction (Evaluated s) (Fulfilled v) k n t finds = evaluated_root s v t.0 finds.root t.2 finds.is_root finds.linked
    some_reaction (Evaluated s) (Rejected v) k n t finds = settles _ t.0 (Rejected v) (Evaluated s) (Rejected v) n refl (Reacts.threw t.0 t.2)
    some_reaction EntryLoaded (Fulfilled v) k n t finds = entry_loaded v t.0 t.1
    some_reaction EntryLoaded (Rejected v) k n t finds = enters (EntryState.Failed v) EntryLoaded (Rejected v) n Reacts.entry_refused
    some_reaction EntryDone (Fulfilled v) k n t finds = enters EntryState.Ended EntryDone (Fulfilled v) tt Reacts.entry_ended
    some_reaction EntryDone (Rejected v) k n t finds = enters (EntryState.Failed v) EntryDone (Rejected v) n Reacts.entry_threw

  -- ---- linking keeps what jobs need

  pub links_stay_ready : LinkingStaysReady
  links_stay_ready = record {
    root = λ w s root f h. (has_link agrees ends).root w.loading s root f.loading h;
    links = λ w root fault linked f h p.
        let still = linked_stays_linked.links w.loading w.linked linked root fault f.loading h (are_linked w.linked w.loading.entries f.fit.modules w.loading refl f.fit.state.whole.orderly) f.unlinked p in
        record {
          fit = relinked w.linked linked w.loading.entries f.fit.modules (modules_of w.loading linked f.loading still.modules still.unlinked) still.stays w f.fit;
          loading = f.loading;
          unlinked = still.unlinked;
          steps = f.steps;
        };
    linked = λ w root linked p. linked_stays_linked.root w.loading w.linked linked root p;
  }
