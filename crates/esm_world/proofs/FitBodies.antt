-- Over a world that fits, what bodies ask of promises, errors and modules is kept, and import() has an outcome.
use Rattle.std.proofs.Common.{◌≡◌, ℕ, ◌<◌, Bool, true, false, List, [], ◌∷◌, Option, Some, None, refl, ap, subst, sym, ◌∙◌, length}
use Rattle.std.specs.Prelude.{Result, slice_get}
use Rattle.esm_base.specs.declared.limits.Limit.{Limit}
use Rattle.esm_base.specs.Urls.{Url, has}
use Rattle.esm_ast.specs.Entries.{requests_of, entries_of, entries_with}
use Rattle.esm_ast.specs.ModuleTree.{IsModuleTree}
use Rattle.esm_values.specs.Value.{Value, Undefined, Truth, Text, Func, Error, Namespace, Promise}
use Rattle.esm_promise.specs.Promises.{Settled, Fulfilled, Rejected}
use Rattle.esm_promise.specs.Reactions.{Loaded}
use Rattle.esm_expr_eval.specs.Ready.{Holds}
use Rattle.esm_resolve.specs.SharedSet.{SharedSetAgrees, SharedSetEnds}
use Rattle.esm_env.specs.Modules as mods
use Rattle.esm_loads.specs.UrlTable.{Entries, TableEntry, Throw, New, Kept, targets_in, body_in, thrown_by}
use Rattle.esm_loads.specs.Whole.{is_module}
use Rattle.esm_loads.specs.Loading.{Loading, LoadState, Asked, Open, LoadComplete, Thrown, PendingRequest, Root, Request, Purpose, ForEntry, ForImport, is_fetching}
use Rattle.esm_loads.specs.Host.{Host, settle_by, begin_by, begin_load, with_loading, reject, Answered}
use Rattle.esm_loads.specs.Host.Answered.{late, answered}
use Rattle.esm_loads.specs.ImportCall.{Imports, BeginsImport}
use Rattle.esm_loads.specs.ImportCall.Imports.{limit, unresolved, asks, answers}
use Rattle.esm_loads.specs.Laws.{IsOrderly}
use Rattle.esm_loads.proofs.HasLoad.{has_load}
use Rattle.esm_loads.proofs.Orderly.{stays_orderly, only_grows}
use Rattle.esm_rewriting.specs.Bodies.{given_by}
use Rattle.esm_rewriting.specs.Fits.{AreLinked, Knows}
use Rattle.esm_rewriting.proofs.SomeAct.{BeginsSome}
use Rattle.esm_rewriting.proofs.LinkedRead.{linked_read}
use Rattle.esm_world.specs.World.{modules_in}
use Rattle.esm_loads.specs.LoadsView.{url_at}
use Rattle.esm_world.specs.Fits.{IsLinkedModule, AreModules, IsKnownValue, FitSettled, FitPromises, FitsHost}
use Rattle.esm_world.proofs.FitLists.{place_below, place_names, made, settled, awaited}

requests_are : (l : Loading) (u : Url) (i : ℕ) → i < length (mods.entries (modules_in l) u).requests → i < length (requests_of (body_in (l.entries u)))
unfolding entries_of entries_with
requests_are l u i lt = lt

module _ (linked : List Url) (entries : Entries) (h : AreModules linked entries) where
  abbrev pub IsIn : Loading → Url → Bool
  IsIn l = has linked

  abbrev K : Loading → Value Url → Type 0
  K l v = Knows modules_in IsIn l v

  -- what is known is the same by the table alone
  pub known_in : (l : Loading) → l.entries ≡ entries → (v : Value Url) → IsKnownValue linked entries v → K l v
  known_in l e Undefined k = tt
  known_in l e (Truth b) k = tt
  known_in l e (Text t) k = tt
  known_in l e (Func m i) k = subst (λ es. IsKnownValue linked es (Func m i)) (sym e) k
  known_in l e (Error id) k = tt
  known_in l e (Namespace m) k = k
  known_in l e (Promise id) k = tt

  pub known_out : (l : Loading) → l.entries ≡ entries → (v : Value Url) → K l v → IsKnownValue linked entries v
  known_out l e Undefined k = tt
  known_out l e (Truth b) k = tt
  known_out l e (Text t) k = tt
  known_out l e (Func m i) k = subst (λ es. IsKnownValue linked es (Func m i)) e k
  known_out l e (Error id) k = tt
  known_out l e (Namespace m) k = k
  known_out l e (Promise id) k = tt

  abbrev Host' : Host → Type 0
  Host' o = FitsHost linked entries o

  -- ---- modules

  not_fetching : (o : Option TableEntry) → is_module o ≡ true → is_fetching o ≡ false
  not_fetching None e = absurd cc
  not_fetching (Some x) e = refl

  pub asked_for : (l : Loading) → l.entries ≡ entries → IsOrderly l → (u : Url) → IsLinkedModule linked entries u → has l.asked u ≡ true
  asked_for l e o u k = o.fetched u (not_fetching (l.entries u) (ap (λ es. is_module (es u)) e ∙ h.stands u k))

  pub are_linked : (l : Loading) → l.entries ≡ entries → IsOrderly l → AreLinked (modules_in l) (has linked)
  are_linked l e o = record {
    trees = λ u k. subst (λ es. IsModuleTree (body_in (es u))) (sym e) (h.trees u k);
    targets = λ u i k lt. subst (λ (es : Entries). i < length (requests_of (body_in (es u))) → has linked (url_at (targets_in (es u)) i) ≡ true) (sym e) (h.targets u i k) (requests_are l u i lt);
    below = λ u k. place_below l.asked u (asked_for l e o u k);
    named = λ u k. place_names l.asked u (asked_for l e o u k);
  }

  -- ---- settled values

  holds_settled : (l : Loading) → l.entries ≡ entries → (how : Settled (Value Url)) → Holds (K l) ⊥ (given_by how) → FitSettled linked entries how
  holds_settled l e (Fulfilled v) k = known_out l e v k
  holds_settled l e (Rejected v) k = known_out l e v k

  -- ---- import()

  fit_reject : (o : Host) (q : ℕ) (t : Throw) → FitPromises linked entries o.promises → FitPromises linked entries (reject o q t).promises
  fit_reject o q (New f) k = settled linked entries o.promises q _ tt k
  fit_reject o q (Kept error) k = settled linked entries o.promises q _ tt k

  fit_settle : (o : Host) (p : Option Purpose) (s : Option LoadState) → FitPromises linked entries o.promises → FitPromises linked entries (settle_by o p s).promises
  fit_settle o None s k = k
  fit_settle o (Some p) None k = k
  fit_settle o (Some p) (Some Asked) k = k
  fit_settle o (Some p) (Some (Open root visited)) k = k
  fit_settle o (Some p) (Some (LoadComplete root)) k = settled linked entries o.promises _ (Fulfilled Undefined) tt k
  fit_settle o (Some p) (Some (Thrown t)) k = fit_reject o _ t k

  fit_begin_by : (o : Host) (s : ℕ) (t : Option Throw) (p : Option Purpose) → FitPromises linked entries o.promises → FitPromises linked entries (begin_by o s t p).promises
  fit_begin_by o s None None k = k
  fit_begin_by o s None (Some (ForEntry q)) k = k
  fit_begin_by o s None (Some (ForImport q None)) k = made linked entries o.promises (Loaded s ∷ []) (tt, tt) k
  fit_begin_by o s None (Some (ForImport q (Some load))) k = k
  fit_begin_by o s (Some t) p k = k

  fit_begin : (o : Host) (a : PendingRequest) (u : Url) (e : TableEntry) → FitPromises linked entries o.promises → FitPromises linked entries (begin_load o a u e).promises
  fit_begin o (Root s) u e k = fit_begin_by o s (thrown_by u e) (slice_get o.imports.purposes s) k
  fit_begin o (Request s x i) u e k = k

  pub fit_answered : {o after : Host} {a : PendingRequest} {u : Url} {e : TableEntry} → Answered o a u e after → FitPromises linked entries o.promises → FitPromises linked entries after.promises
  fit_answered (late q) k = k
  fit_answered {o} (answered {a = a} {u = u} {e = e} {l = l} q) k = fit_settle (with_loading (begin_load o a u e) l) _ _ (fit_begin o a u e k)

  fit_imports : {o after : Host} {referrer : Url} {specifier : List ℕ} {promise : ℕ} → Imports o referrer specifier promise after → FitPromises linked entries o.promises → FitPromises linked entries after.promises
  fit_imports (limit f) k = k
  fit_imports {o} (unresolved f r q) k = settled linked entries o.promises _ _ tt k
  fit_imports (asks u r q n) k = k
  fit_imports (answers u e r q n a) k = fit_answered a k

  abbrev Begun : Host → Url → List ℕ → ℕ → Type 0
  Begun o m text q = (r : Result (Unit {0}) Limit) × ((after : Host) × (BeginsImport o m text q r after × (Host' after × ((v : Value Url) → K o.imports v → K after.imports v))))

  begun : (o : Host) (m : Url) (text : List ℕ) (q : ℕ) → Host' o → Begun o m text q
  begun o m text q f =
      let b = has_load.begins o m text q f.orderly in
      let g = only_grows.imports o b.1 m text q b.2.imports in
      let e = g.entries ∙ f.entries_are in
      (b.0, (b.1, (b.2, (record { entries_are = e; orderly = stays_orderly.imports o b.1 m text q f.orderly b.2.imports; promises = fit_imports b.2.imports f.promises }, λ v k. known_in b.1.imports e v (known_out o.imports f.entries_are v k)))))

  pub bodies : SharedSetAgrees → SharedSetEnds → BeginsSome modules_in IsIn Host' BeginsImport
  bodies agrees ends = record {
    readable = λ o f. linked_read (modules_in o.imports) (has linked) agrees ends (are_linked o.imports f.entries_are f.orderly);
    errors = λ o es f. record { entries_are = f.entries_are; orderly = f.orderly; promises = f.promises };
    makes = λ o f. record { entries_are = f.entries_are; orderly = f.orderly; promises = made linked entries o.promises [] tt f.promises };
    settles = λ o q how k f. record { entries_are = f.entries_are; orderly = f.orderly; promises = settled linked entries o.promises q how (holds_settled o.imports f.entries_are how k) f.promises };
    awaits = λ o v m k l f. record { entries_are = f.entries_are; orderly = f.orderly; promises = awaited linked entries o.promises v m (known_out o.imports f.entries_are v k) l f.promises };
    some = begun;
  }
