-- The opening world fits, and what loading brings keeps that a world fits, as does that more modules are linked.
use Rattle.std.proofs.Common.{◌≡◌, ℕ, ◌+◌, ◌<◌, Bool, true, false, List, [], ◌∷◌, Option, Some, None, refl, ap, subst, sym, ◌∙◌, length}
use Rattle.std.specs.Prelude.{⊤, IfSome, nat_lt}
use Rattle.std.specs.List.{AllByRecursion}
use Rattle.std.proofs.lemmas.List.Elements.{All-nil, All-weaker}
use Rattle.esm_base.specs.declared.limits.Limit.{Limit}
use Rattle.esm_base.specs.declared.limits.TheConstants.{MAX_DELIVERED_BYTES}
use Rattle.esm_base.specs.Urls.{Url, has, same_url}
use Rattle.esm_tree.specs.Syntax.{Item}
use Rattle.esm_import_map.specs.ImportMap.{Maps}
use Rattle.esm_ast.specs.Outcome.{OutcomeView}
use Rattle.esm_ast.specs.Entries.{requests_of}
use Rattle.esm_ast.specs.ModuleTree.{IsModuleTree}
use Rattle.esm_values.specs.Value.{Value, Undefined, Truth, Text, Func, Error, Namespace, Promise}
use Rattle.esm_promise.specs.Promises as p
use Rattle.esm_promise.specs.Promises.{Settled, Fulfilled, Rejected, Pending, Done, Promises, Job}
use Rattle.esm_promise.specs.Reactions.{Reaction, Await, BodyEnd, Loaded, Evaluated, EntryLoaded, EntryDone}
use Rattle.esm_env.specs.Declarations.{function_at}
use Rattle.esm_loads.specs.UrlTable.{Entries, Found, Nothing, Faulty, Script, found, targets_in, body_in}
use Rattle.esm_loads.specs.Loading.{Loading}
use Rattle.esm_loads.specs.Host.{Host}
use Rattle.esm_loads.specs.Arrival.{after_fetch, store_by, put_found, count, count_by, bytes_of, AnswersNext}
use Rattle.esm_loads.specs.Whole.{is_module}
use Rattle.esm_loads.specs.Laws.{IsOrderly}
use Rattle.esm_loads.proofs.Orderly.{stays_orderly, only_grows, put_other}
use Rattle.esm_eval.specs.Nodes.{Node}
use Rattle.esm_eval.specs.Keeping.{IsNodeOf}
use Rattle.esm_rewriting.specs.State.{Standing, Event, Begins, Ends, Throws}
use Rattle.esm_rewriting.specs.Fits.{FitStanding, Knows, of_body}
use Rattle.esm_rewriting.proofs.Grown.{held_rest}
use Rattle.esm_world.specs.World.{World, EntryState, Underway, Ended, Failed, modules_in, host_of, with_host, opening}
use Rattle.esm_loads.specs.LoadsView.{url_at}
use Rattle.esm_world.specs.Layers.{with_linked}
use Rattle.esm_world.specs.Turn.{fetched}
use Rattle.esm_world.specs.Fits.{IsLinkedModule, AreModules, IsKnownValue, FitReaction, FitSettled, FitPromise, FitPromises, FitsHost, FitEvent, FitEntry, FitsWorld, IsFit}
use Rattle.esm_world.proofs.Each.{all_on}
use Rattle.esm_world.proofs.FitBodies.{IsIn, known_in, known_out, fit_answered}

-- ---- the opening world

pub opening_fits : (maps : Maps) (built : List Item → Bool) (entry : Url) (trace : Bool) → IsFit (opening maps built entry trace)
opening_fits maps built entry trace = record {
  modules = record { stands = λ u k. absurd cc; trees = λ u k. absurd cc; targets = λ u i k lt. absurd cc };
  linked_are = refl;
  state = record {
    whole = record { entries_are = refl; orderly = stays_orderly.opening maps built entry; promises = record { all = ((tt, tt), tt); jobs = tt } };
    cells = λ m x v e. absurd cc;
    standing = tt;
  };
  nodes = λ u. record { error = tt; root = tt; waits = All-nil _; waiters = All-nil _ };
  stamps = All-nil _;
  entered = λ u e. absurd cc;
  events = tt;
  entry = tt;
}

-- ---- what fits with less fits with more

module _ (linked more : List Url) (entries later : Entries) (h : AreModules linked entries) (g : AreModules more later)
    (grow : (u : Url) → IsLinkedModule linked entries u → IsLinkedModule more later u) (keeps : (v : Value Url) → IsKnownValue linked entries v → IsKnownValue more later v) where
  more_reaction : (r : Reaction Url) → FitReaction linked entries r → FitReaction more later r
  more_reaction (Await m) k = grow m k
  more_reaction (BodyEnd m) k = grow m k
  more_reaction (Loaded s) k = tt
  more_reaction (Evaluated s) k = tt
  more_reaction EntryLoaded k = tt
  more_reaction EntryDone k = tt

  more_settled : (how : Settled (Value Url)) → FitSettled linked entries how → FitSettled more later how
  more_settled (Fulfilled v) k = keeps v k
  more_settled (Rejected v) k = keeps v k

  more_reactions : (rs : List (Reaction Url)) → AllByRecursion (FitReaction linked entries) rs → AllByRecursion (FitReaction more later) rs
  more_reactions [] k = tt
  more_reactions (r ∷ rs) k = (more_reaction r k.0, more_reactions rs k.1)

  more_promise : (x : p.Promise (Reaction Url) (Value Url)) → FitPromise linked entries x → FitPromise more later x
  more_promise (Pending rs) k = more_reactions rs k
  more_promise (Done how) k = more_settled how k

  more_all : (xs : List (p.Promise (Reaction Url) (Value Url))) → AllByRecursion (FitPromise linked entries) xs → AllByRecursion (FitPromise more later) xs
  more_all [] k = tt
  more_all (x ∷ xs) k = (more_promise x k.0, more_all xs k.1)

  more_jobs : (js : List (Job (Reaction Url))) → AllByRecursion (λ (j : Job (Reaction Url)). FitReaction linked entries j.reaction) js → AllByRecursion (λ (j : Job (Reaction Url)). FitReaction more later j.reaction) js
  more_jobs [] k = tt
  more_jobs (j ∷ js) k = (more_reaction j.reaction k.0, more_jobs js k.1)

  pub more_promises : (ps : Promises (Reaction Url) (Value Url)) → FitPromises linked entries ps → FitPromises more later ps
  more_promises ps k = record { all = more_all ps.all k.all; jobs = more_jobs ps.jobs k.jobs }

  more_known : (l m : Loading) → l.entries ≡ entries → m.entries ≡ later → (v : Value Url) → Knows modules_in (IsIn linked entries h) l v → Knows modules_in (IsIn more later g) m v
  more_known l m e f v k = known_in more later g m f v (keeps v (known_out linked entries h l e v k))

  more_standing : (l m : Loading) → l.entries ≡ entries → m.entries ≡ later → (ss : List (Standing Url)) → FitStanding modules_in (IsIn linked entries h) l ss → FitStanding modules_in (IsIn more later g) m ss
  more_standing l m e f [] k = tt
  more_standing l m e f (s ∷ ss) k =
      (grow s.at k.0, held_rest (Knows modules_in (IsIn linked entries h) l) (Knows modules_in (IsIn more later g) m) (more_known l m e f) ⊤ (of_body true) s.rest k.1, more_standing l m e f ss k.2)

  more_event : (e : Event Url) → FitEvent linked entries e → FitEvent more later e
  more_event (Begins m) k = grow m k
  more_event (Ends m) k = grow m k
  more_event (Throws m) k = grow m k

  more_entry : (e : EntryState) → FitEntry linked entries e → FitEntry more later e
  more_entry Underway k = tt
  more_entry Ended k = tt
  more_entry (Failed v) k = keeps v k

  some_more : {A : Type 0} (P Q : A → Type 0) (o : Option A) → ((a : A) → P a → Q a) → IfSome o P → IfSome o Q
  some_more P Q None f k = tt
  some_more P Q (Some a) f k = f a k

  more_node : (n : Node Url (Value Url)) → IsNodeOf (IsLinkedModule linked entries) (IsKnownValue linked entries) n → IsNodeOf (IsLinkedModule more later) (IsKnownValue more later) n
  more_node n k = record {
    error = some_more _ _ n.error keeps k.error;
    root = some_more _ _ n.cycle_root grow k.root;
    waits = All-weaker _ _ grow n.waits k.waits;
    waiters = All-weaker _ _ grow n.waiters k.waiters;
  }

  -- the world with more linked modules and what loading brings
  pub grown : (w : World) (o : Host) → FitsWorld linked entries w → FitsHost more later o → FitsWorld more later (with_linked (with_host w o) more)
  grown w o f k = record {
    modules = g;
    linked_are = refl;
    state = record {
      whole = record { entries_are = k.entries_are; orderly = k.orderly; promises = k.promises };
      cells = λ m x v e. more_known w.loading o.imports f.state.whole.entries_are k.entries_are v (f.state.cells m x v e);
      standing = more_standing w.loading o.imports f.state.whole.entries_are k.entries_are w.engine.standing f.state.standing;
    };
    nodes = λ u. more_node (w.nodes u) (f.nodes u);
    stamps = All-weaker _ _ grow w.stamps f.stamps;
    entered = λ u e. grow u (f.entered u e);
    events = all_on (FitEvent linked entries) (FitEvent more later) w.engine.events more_event f.events;
    entry = more_entry w.entry f.entry;
  }

-- ---- more modules are linked

module _ (linked more : List Url) (entries : Entries) (h : AreModules linked entries) (g : AreModules more entries) (grow : (u : Url) → IsLinkedModule linked entries u → IsLinkedModule more entries u) where
  known_more : (v : Value Url) → IsKnownValue linked entries v → IsKnownValue more entries v
  known_more Undefined k = tt
  known_more (Truth b) k = tt
  known_more (Text t) k = tt
  known_more (Func m i) k = (grow m k.0, k.1)
  known_more (Error id) k = tt
  known_more (Namespace m) k = grow m k
  known_more (Promise id) k = tt

  pub relinked : (w : World) → FitsWorld linked entries w → FitsWorld more entries (with_linked w more)
  relinked w f =
      grown linked more entries entries h g grow known_more w (host_of w) f
      (record { entries_are = f.state.whole.entries_are; orderly = f.state.whole.orderly; promises = more_promises linked more entries entries h g grow known_more w.promises f.state.whole.promises })

-- ---- a pending request is answered

pub answers_fit : (w : World) (o : Host) → IsFit w → AnswersNext (host_of w) o → FitsWorld w.linked w.loading.entries (with_host w o)
answers_fit w o f a =
    let e = (only_grows.next (host_of w) o a).entries in
    let k : FitsHost w.linked w.loading.entries o = record {
      entries_are = e;
      orderly = stays_orderly.next (host_of w) o f.state.whole.orderly a;
      promises = fit_answered w.linked w.loading.entries f.modules a.answered f.state.whole.promises;
    } in
    grown w.linked w.linked w.loading.entries w.loading.entries f.modules f.modules (λ u q. q) (λ v q. q) w o f k

-- ---- a fetch ends

module _ (linked : List Url) (entries later : Entries) (h : AreModules linked entries) (agree : (u : Url) → IsLinkedModule linked entries u → later u ≡ entries u) where
  later_modules : AreModules linked later
  later_modules = record {
    stands = λ u k. subst (λ o. is_module o ≡ true) (sym (agree u k)) (h.stands u k);
    trees = λ u k. subst (λ o. IsModuleTree (body_in o)) (sym (agree u k)) (h.trees u k);
    targets = λ u i k. subst (λ o. i < length (requests_of (body_in o)) → has linked (url_at (targets_in o) i) ≡ true) (sym (agree u k)) (h.targets u i k);
  }

  later_known : (v : Value Url) → IsKnownValue linked entries v → IsKnownValue linked later v
  later_known Undefined k = tt
  later_known (Truth b) k = tt
  later_known (Text t) k = tt
  later_known (Func m i) k = (k.0, (k.1.0, subst (λ o. function_at (body_in o) i ≡ Some k.1.0) (sym (agree m k.0)) k.1.1))
  later_known (Error id) k = tt
  later_known (Namespace m) k = k
  later_known (Promise id) k = tt

  pub later_fits : (w : World) (o : Host) → FitsWorld linked entries w → o.imports.entries ≡ later → IsOrderly o.imports → o.promises ≡ w.promises → FitsWorld linked later (with_linked (with_host w o) linked)
  later_fits w o f e i q =
      grown linked linked entries later h later_modules (λ u k. k) later_known w o f
      (record { entries_are = e; orderly = i; promises = subst (FitPromises linked later) (sym q) (more_promises linked linked entries later h later_modules (λ u k. k) later_known w.promises f.state.whole.promises) })

put_entries : (o : Host) (u m : Url) (x : Found) → same_url u m ≡ false → (put_found o u x).imports.entries m ≡ o.imports.entries m
put_entries o u m Nothing s = put_other o.imports.entries u m _ s
put_entries o u m (Script r) s = put_other o.imports.entries u m _ s
put_entries o u m (Faulty f) s = put_other o.imports.entries u m _ s

stored_entries : (l : Option Limit) (o : Host) (u m : Url) (c : OutcomeView) → same_url u m ≡ false → (store_by l o u c).imports.entries m ≡ o.imports.entries m
stored_entries None o u m c s = put_entries o u m (found o.imports.maps o.imports.built u c) s
stored_entries (Some limit) o u m c s = refl

counted_entries : (b : Bool) (l : Loading) (n : ℕ) → (count_by b l n).entries ≡ l.entries
counted_entries true l n = refl
counted_entries false l n = refl

pub fetched_entries : (o : Host) (u m : Url) (c : OutcomeView) → same_url u m ≡ false → (after_fetch o u c).imports.entries m ≡ o.imports.entries m
fetched_entries o u m c s =
    stored_entries _ (record o { imports = count o.imports (bytes_of c) }) u m c s ∙ ap (λ (es : Entries). es m) (counted_entries (nat_lt MAX_DELIVERED_BYTES (o.imports.bytes + bytes_of c)) o.imports (bytes_of c))

put_promises : (o : Host) (u : Url) (x : Found) → (put_found o u x).promises ≡ o.promises
put_promises o u Nothing = refl
put_promises o u (Script r) = refl
put_promises o u (Faulty f) = refl

pub stored_promises : (l : Option Limit) (o : Host) (u : Url) (c : OutcomeView) → (store_by l o u c).promises ≡ o.promises
stored_promises None o u c = put_promises o u (found o.imports.maps o.imports.built u c)
stored_promises (Some limit) o u c = refl

-- where nothing stands under a URL yet, no linked module has it
apart : (linked : List Url) (entries : Entries) → AreModules linked entries → (u m : Url) → entries u ≡ None → IsLinkedModule linked entries m → same_url u m ≡ false
apart linked entries h u m e k = by (same_url u m) refl
  where
    by : (b : Bool) → same_url u m ≡ b → b ≡ false
    by true q =
        let s : u ≡ m = (Rattle.std.proofs.lemmas.Slice.Eq.bytes_eq-Decides u m).0 q in
        let x : false ≡ true = sym (ap is_module (ap entries (sym s) ∙ e)) ∙ h.stands m k in
        absurd cc
    by false q = refl

pub fetch_fits : (w : World) (u : Url) (c : OutcomeView) → IsFit w → w.loading.entries u ≡ None → has w.loading.asked u ≡ true → IsFit (fetched w u c)
fetch_fits w u c f e a =
    later_fits w.linked w.loading.entries (after_fetch (host_of w) u c).imports.entries f.modules
    (λ m k. fetched_entries (host_of w) u m c (apart w.linked w.loading.entries f.modules u m e k))
    w (after_fetch (host_of w) u c) f refl (stays_orderly.fetched (host_of w) u c f.state.whole.orderly a) (stored_promises _ (record (host_of w) { imports = count w.loading (bytes_of c) }) u c)
