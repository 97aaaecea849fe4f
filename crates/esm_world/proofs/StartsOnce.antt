-- No body begins twice.
use Rattle.std.proofs.Common.{◌≡◌, ◌⊎◌, inl, inr, ℕ, Bool, true, false, List, [], ◌∷◌, ◌++◌, Option, Some, None, refl, ap, subst, sym, ◌∙◌}
use Rattle.std.specs.Prelude.{Result, Ok, Err, is_some, ◌||◌}
use Rattle.std.specs.List.{list_any}
use Rattle.std.specs.Option.{option_or, unwrap_or}
use Rattle.esm_base.specs.declared.limits.Limit.{Limit}
use Rattle.esm_base.specs.Urls.{Url, has, same_url}
use Rattle.esm_tree.specs.Syntax.{Item}
use Rattle.esm_ast.specs.Outcome.{OutcomeView}
use Rattle.esm_import_map.specs.ImportMap.{Maps}
use Rattle.esm_realm.specs.Laws.{AreDistinct}
use Rattle.esm_base.specs.Lists.{is_in, EachOnce}
use Rattle.esm_values.specs.Value.{Value}
use Rattle.esm_promise.specs.Promises.{Settled}
use Rattle.esm_promise.specs.Reactions.{Reaction}
use Rattle.esm_loads.specs.UrlTable.{body_in}
use Rattle.esm_loads.specs.Loading.{Loading}
use Rattle.esm_loads.specs.ImportCall.{BeginsImport, end_by}
use Rattle.esm_loads.specs.Arrival.{open_asks}
use Rattle.esm_realm.proofs.Urls.{has_append, has_own, or_left, or_true, or_cases, own_text, same_text}
use Rattle.esm_ast.specs.Entries.{entries_of}
use Rattle.esm_eval.specs.Nodes.{Call, CallAnswer, module_of}
use Rattle.esm_eval.specs.Evaluation.{IsLawful, IsSteady}
use Rattle.esm_eval.specs.Evaluate.{Evaluates}
use Rattle.esm_eval.specs.BodyEnd.{Fulfills}
use Rattle.esm_eval.specs.Begins.{First, BeginsOne, HaveBegunOnce}
use Rattle.esm_eval.specs.Waiting.{IsBetweenCalls, HasOpenWait}
use Rattle.esm_eval.specs.Laws.{MakesFirstCalls}
use Rattle.esm_eval.proofs.OnceEnds.{begins_once}
use Rattle.esm_rewriting.specs.State.{State, Event, Begins, Ends, Throws, begins_at}
use Rattle.esm_world.specs.World.{World, modules_in, body_state, with_host, opening, stopped}
use Rattle.esm_world.specs.Layers.{CallsForBody, evaluation, with_linked, with_promises}
use Rattle.esm_world.specs.Jobs.{EvaluatesLoad, Reacts, Jobs, when_evaluated}
use Rattle.esm_world.specs.Jobs.Reacts.{entry_linked, entry_fault, entry_refused, entry_ended, entry_threw, linked, fault, refused, evaluated, threw, body_ended, body_threw, resumes}
use Rattle.esm_world.specs.Turn.{Tasks, Turn, fetched}
use Rattle.esm_world.specs.Run.{Runs, Shown, StandardRun}
use Rattle.esm_ast.specs.Deliveries.{Delivery, asks_by}
use Rattle.esm_rewriting.specs.Keeps.{started}
use Rattle.esm_world.specs.Laws.{StopsAreTold}
use Rattle.esm_world.proofs.Distinct.{Adds, same, add, adds_on, adds_same, adds_distinct}
use Rattle.esm_world.proofs.Grows.{Progress}
use Rattle.esm_world.proofs.WorldGrows.{imported, executes_progress}
use Rattle.esm_world.proofs.EvalKeeps.{Lasts, evaluates_keeps, fulfills_keeps, rejects_keeps}
use Rattle.esm_world.proofs.EvalStops.{StopsCall, evaluates_stop, fulfills_stop}
use Rattle.esm_rewriting.proofs.BodyKeeps.{starts_body_keeps, runs_body_keeps, resumes_body_keeps, starts_body_begins, runs_body_begins}
use Rattle.esm_world.proofs.BodyStops.{StopsState, StopsTold, starts_body_stop, runs_body_stop, resumes_body_stop}

-- ---- a stop leaves a world that is stopped

abbrev pub IsStoppedState : State Url Loading → Type 0
IsStoppedState s = is_some (option_or s.outer.imports.stopped s.engine.stopped) ≡ true

abbrev pub IsStopped : World → Type 0
IsStopped w = is_some (stopped w) ≡ true

engine_stop : (o : Option Limit) (limit : Limit) → is_some (option_or o (Some limit)) ≡ true
engine_stop None limit = refl
engine_stop (Some other) limit = refl

import_stop : (o e : Option Limit) → (limit : Limit) → ◌≡◌ {A = Result (Unit {0}) Limit} (Err limit) (end_by o) → is_some (option_or o e) ≡ true
import_stop None e limit h = absurd cc
import_stop (Some other) e limit h = refl

pub stops_state : StopsState BeginsImport IsStoppedState
stops_state = record {
  stops = λ w limit. engine_stop w.outer.imports.stopped limit;
  begin = λ {o} {x} {m} {text} {p} {limit} b w. import_stop x.imports.stopped w.engine.stopped limit b.ends;
}

by_stop : {v w : World} {c : Call Url} {r : Result (CallAnswer (Value Url) c) Limit} → CallsForBody v c r w → StopsTold IsStoppedState r (body_state w)
by_stop (CallsForBody.start p) = starts_body_stop BeginsImport IsStoppedState stops_state same_url modules_in p
by_stop (CallsForBody.run p) = runs_body_stop BeginsImport IsStoppedState stops_state same_url modules_in p

pub stops_call : StopsCall evaluation CallsForBody IsStopped
stops_call = record { call = λ p. by_stop p }

-- ---- bodies that have begun

has_is : (es : List (Event Url)) (m : Url) → list_any (begins_at same_url m) es ≡ has (started es) m
has_is [] m = refl
has_is (Begins x ∷ es) m = ap (λ b. same_url m x || b) (has_is es m)
has_is (Ends x ∷ es) m = has_is es m
has_is (Throws x ∷ es) m = has_is es m

abbrev pub starts : World → List Url
starts w = started w.engine.events

pub begun_is : (w : World) (m : Url) → evaluation.begun w m ≡ has (starts w) m
begun_is w m = has_is w.engine.events m

pub begun_alike : (v w : World) → starts w ≡ starts v → (m : Url) → evaluation.begun w m ≡ evaluation.begun v m
begun_alike v w e m = begun_is w m ∙ ap (λ xs. has xs m) e ∙ sym (begun_is v m)

-- what a call begins
pub record CallBegins (v : World) (m : Url) (w : World) : Type 0 where
  pub starts_are : (starts w ≡ starts v) ⊎ (starts w ≡ starts v ++ m ∷ [])

pub call_begins : {v w : World} {c : Call Url} {r : Result (CallAnswer (Value Url) c) Limit} → CallsForBody v c r w → CallBegins v (module_of c) w
call_begins (CallsForBody.start p) = record { starts_are = (starts_body_keeps same_url modules_in BeginsImport Progress imported p).starts }
call_begins (CallsForBody.run p) = record { starts_are = (runs_body_keeps same_url modules_in BeginsImport Progress imported p).starts }

abbrev pub IsOk : {A : Type 0} → Result A Limit → Type 0
IsOk (Ok a) = Unit {0}
IsOk (Err limit) = ⊥

pub ok_unit : (r : Result (Unit {0}) Limit) → IsOk r → r ≡ Ok tt
ok_unit (Ok tt) h = refl
ok_unit (Err limit) h = absurd h

pub ok_some : {A : Type 0} (r : Result A Limit) → IsOk r → (a : A) × (r ≡ Ok a)
ok_some (Ok a) h = (a, refl)
ok_some (Err limit) h = absurd h

pub call_starts : {v w : World} {c : Call Url} {r : Result (CallAnswer (Value Url) c) Limit} → CallsForBody v c r w → IsOk r → starts w ≡ starts v ++ module_of c ∷ []
call_starts (CallsForBody.start {end = end} p) h = starts_body_begins same_url modules_in BeginsImport Progress imported p (ok_unit end h)
call_starts (CallsForBody.run {end = end} p) h = let k = ok_some end h in runs_body_begins same_url modules_in BeginsImport Progress imported p k.0 k.1

has_on : (us : List Url) (m x : Url) → has us x ≡ true → has (us ++ m ∷ []) x ≡ true
has_on us m x h = has_append us (m ∷ []) x ∙ or_left (has us x) (has (m ∷ []) x) h

has_last : (us : List Url) (m : Url) → has (us ++ m ∷ []) m ≡ true
has_last us m = has_append us (m ∷ []) m ∙ or_true (has us m) (has (m ∷ []) m) (has_own m [])

has_split : (us : List Url) (m x : Url) → has (us ++ m ∷ []) x ≡ true → (has us x ≡ true) ⊎ (x ≡ m)
has_split us m x h = by (or_cases (has us x) (has (m ∷ []) x) (sym (has_append us (m ∷ []) x) ∙ h))
  where
    own : (same_url x m ≡ true) ⊎ (false ≡ true) → x ≡ m
    own (inl k) = same_text x m k
    own (inr k) = absurd cc

    by : (has us x ≡ true) ⊎ (has (m ∷ []) x ≡ true) → (has us x ≡ true) ⊎ (x ≡ m)
    by (inl k) = inl k
    by (inr k) = inr (own (or_cases (same_url x m) false k))

-- ---- the conditions of the laws of evaluation

pub lawful : IsLawful evaluation
lawful = record {
  names = record { own = own_text; equal = same_text };
  put = λ w x n. record { node = λ y. refl; stamps = refl; begun = λ y. refl; awaits = λ y. refl };
  add_stamp = λ w x. record { nodes = λ y. refl; stamps = refl; begun = λ y. refl; awaits = λ y. refl };
  make_promise = λ w. record { far = record { nodes = λ y. refl; stamps = refl; begun = λ y. refl }; awaits = λ y. refl };
  make_body_promise = λ w x. record { far = record { nodes = λ y. refl; stamps = refl; begun = λ y. refl }; awaits = λ y. refl };
  fulfill = λ w p. record { far = record { nodes = λ y. refl; stamps = refl; begun = λ y. refl }; awaits = λ y. refl };
  reject = λ w p v. record { far = record { nodes = λ y. refl; stamps = refl; begun = λ y. refl }; awaits = λ y. refl };
}

nodes_of : {v w : World} {c : Call Url} {r : Result (CallAnswer (Value Url) c) Limit} → CallsForBody v c r w → (w.nodes ≡ v.nodes) × (w.stamps ≡ v.stamps)
nodes_of (CallsForBody.start p) = (refl, refl)
nodes_of (CallsForBody.run p) = (refl, refl)

pub begun_keeps : {v w : World} {m : Url} → CallBegins v m w → (x : Url) → evaluation.begun v x ≡ true → evaluation.begun w x ≡ true
begun_keeps {v} {w} {m} p x h = by p.starts_are
  where
    by : (starts w ≡ starts v) ⊎ (starts w ≡ starts v ++ m ∷ []) → evaluation.begun w x ≡ true
    by (inl e) = begun_alike v w e x ∙ h
    by (inr e) = begun_is w x ∙ ap (λ xs. has xs x) e ∙ has_on (starts v) m x (sym (begun_is v x) ∙ h)

begins_other : {v w : World} {m : Url} → CallBegins v m w → (x : Url) → evaluation.begun w x ≡ true → (evaluation.begun v x ≡ true) ⊎ (x ≡ m)
begins_other {v} {w} {m} p x h = by p.starts_are
  where
    on : (has (starts v) x ≡ true) ⊎ (x ≡ m) → (evaluation.begun v x ≡ true) ⊎ (x ≡ m)
    on (inl k) = inl (begun_is v x ∙ k)
    on (inr k) = inr k

    by : (starts w ≡ starts v) ⊎ (starts w ≡ starts v ++ m ∷ []) → (evaluation.begun v x ≡ true) ⊎ (x ≡ m)
    by (inl e) = inl (sym (begun_alike v w e x) ∙ h)
    by (inr e) = on (has_split (starts v) m x (sym (ap (λ xs. has xs x) e) ∙ sym (begun_is w x) ∙ h))

pub steady : IsSteady evaluation CallsForBody
steady = record {
  call = λ w v c r p. record {
    nodes = λ x. ap (λ ns. ns x) (nodes_of p).0;
    stamps = (nodes_of p).1;
    begun = begun_keeps (call_begins p);
    awaits = λ x h. ap (λ es. (entries_of (body_in (es x))).awaits) (executes_progress p).grows.entries;
  };
  starts = λ w v c r p. begun_is v (module_of c) ∙ ap (λ xs. has xs (module_of c)) (call_starts p tt) ∙ has_last (starts w) (module_of c);
}

begins_its_own : BeginsOne evaluation CallsForBody
begins_its_own = record { call = λ w v c r p x h. begins_other (call_begins p) x h }

pub makes_first_calls : MakesFirstCalls evaluation CallsForBody
makes_first_calls = begins_once evaluation CallsForBody lawful steady begins_its_own

-- ---- an evaluation whose calls are of bodies that haven't begun

abbrev Grow : World → World → Type 0
Grow v w = Adds (starts v) (starts w)

grow_same : (w : World) → Grow w w
grow_same w = same

first_call : (v w : World) (c : Call Url) (r : Result (CallAnswer (Value Url) c) Limit) → First evaluation CallsForBody v c r w → Grow v w
first_call v w c r p = by (call_begins p.1).starts_are
  where
    by : (starts w ≡ starts v) ⊎ (starts w ≡ starts v ++ module_of c ∷ []) → Grow v w
    by (inl e) = adds_same e
    by (inr e) = add (module_of c) (sym (begun_is v (module_of c)) ∙ p.0) (adds_same e)

grows_first : Lasts evaluation (First evaluation CallsForBody) Grow
grows_first = record {
  same = grow_same;
  on = λ p q. adds_on p q;
  put = λ w x n. same;
  stamp = λ w x. same;
  make = λ w. same;
  make_body = λ w x. same;
  fulfill = λ w p. same;
  reject = λ w p v. same;
  call = λ {v} {w} {c} {r} p. first_call v w c r p;
}

-- ---- runs

-- no body has begun twice, and, where no limit has stopped, none begins twice
pub record Once (w : World) : Type 0 where
  pub distinct : AreDistinct (starts w)
  pub calm : stopped w ≡ None → HaveBegunOnce evaluation w

pub none_stopped : (o : Option Limit) → is_some o ≡ true → o ≡ None → ⊥
none_stopped None h e = cc
none_stopped (Some limit) h e = cc

-- the same nodes, stamps and begun bodies
calm_alike : (v w : World) → HaveBegunOnce evaluation v → w.nodes ≡ v.nodes → w.stamps ≡ v.stamps → ((x : Url) → evaluation.begun w x ≡ evaluation.begun v x) → HaveBegunOnce evaluation w
calm_alike v w h n s b = record {
  between = record {
    idle = λ x e. p.idle x (sym (ap (λ ns. (ns x).phase) n) ∙ e);
    unstamped = λ x e. ap (λ us. is_in same_url us x) s ∙ p.unstamped x (sym (ap (λ ns. (ns x).phase) n) ∙ e);
    undone = λ x e. ap (λ ns. (ns x).done) n ∙ p.undone x (sym (ap (λ ns. (ns x).phase) n) ∙ e);
    free = λ x e. ap (λ ns. (ns x).waits) n ∙ p.free x (sym (ap (λ ns. (ns x).phase) n) ∙ e);
    stamped = λ x e. ap (λ us. is_in same_url us x) s ∙ p.stamped x (sym (ap (λ ns. (ns x).phase) n) ∙ e);
    joined = λ x y e. ap (λ ns. is_in same_url (ns y).waiters x) n ∙ p.joined x y (sym (ap (λ ns. is_in same_url (ns x).waits y) n) ∙ e);
    waiting = λ x e f g. on x (p.waiting x (sym (ap (λ ns. (ns x).phase) n) ∙ e) (sym (b x) ∙ f) (sym (ap (λ ns. (ns (unwrap_or (ns x).cycle_root x)).error) n) ∙ g));
  };
  unbegun = λ x e. b x ∙ h.unbegun x (sym (ap (λ ns. (ns x).phase) n) ∙ e);
  distinct = subst (λ us. EachOnce same_url us) (sym s) h.distinct;
}
  where
    p : IsBetweenCalls evaluation v
    p = h.between

    on : (x : Url) → HasOpenWait evaluation v x → HasOpenWait evaluation w x
    on x q = (q.0, ap (λ ns. is_in same_url (ns x).waits q.0) n ∙ q.1, ap (λ ns. (ns q.0).done) n ∙ q.2)

pub calm_same : (v w : World) → HaveBegunOnce evaluation v → w.nodes ≡ v.nodes → w.stamps ≡ v.stamps → starts w ≡ starts v → HaveBegunOnce evaluation w
calm_same v w h n s e = calm_alike v w h n s (begun_alike v w e)

-- nothing of evaluation or of what bodies began is changed
pub once_same : (v w : World) → HaveBegunOnce evaluation v → AreDistinct (starts v) → w.nodes ≡ v.nodes → w.stamps ≡ v.stamps → starts w ≡ starts v → Once w
once_same v w h d n s e = record { distinct = subst AreDistinct (sym e) d; calm = λ live. calm_same v w h n s e }

by_answer : (w : World) (r : Reaction Url) (a : Result ℕ Limit) → ((when_evaluated w r a).nodes ≡ w.nodes) × ((when_evaluated w r a).stamps ≡ w.stamps) × (starts (when_evaluated w r a) ≡ starts w) × (stopped (when_evaluated w r a) ≡ stopped w)
by_answer w r (Ok p) = (refl, refl, refl, refl)
by_answer w r (Err limit) = (refl, refl, refl, refl)

evaluated_once : (v : World) (m : Url) (a : Result ℕ Limit) (w : World) → HaveBegunOnce evaluation v → AreDistinct (starts v) → Evaluates evaluation CallsForBody v m a w → Once w
evaluated_once v m a w h d p = record {
  distinct = adds_distinct (evaluates_keeps evaluation (First evaluation CallsForBody) Grow grows_first v m (makes_first_calls.evaluates v w m a h p)) d;
  calm = by a p;
}
  where
    by : (a : Result ℕ Limit) → Evaluates evaluation CallsForBody v m a w → stopped w ≡ None → HaveBegunOnce evaluation w
    by (Ok n) p live = makes_first_calls.keeps_evaluates v w m n h p
    by (Err limit) p live = absurd (none_stopped (stopped w) (evaluates_stop evaluation CallsForBody IsStopped stops_call v m p) live)

fulfilled_once : (v : World) (m : Url) (a : Result (Unit {0}) Limit) (w : World) → HaveBegunOnce evaluation v → AreDistinct (starts v) → Fulfills evaluation CallsForBody v m a w → Once w
fulfilled_once v m a w h d p = record {
  distinct = adds_distinct (fulfills_keeps evaluation (First evaluation CallsForBody) Grow grows_first (makes_first_calls.fulfills v w m a h p)) d;
  calm = by a p;
}
  where
    by : (a : Result (Unit {0}) Limit) → Fulfills evaluation CallsForBody v m a w → stopped w ≡ None → HaveBegunOnce evaluation w
    by (Ok tt) p live = makes_first_calls.keeps_fulfills v w m h p
    by (Err limit) p live = absurd (none_stopped (stopped w) (fulfills_stop evaluation CallsForBody IsStopped stops_call p) live)

once_to : (v w : World) → Once v → w.nodes ≡ v.nodes → w.stamps ≡ v.stamps → starts w ≡ starts v → stopped w ≡ stopped v → Once w
once_to v w o n s e l = record { distinct = subst AreDistinct (sym e) o.distinct; calm = λ live. calm_same v w (o.calm (sym l ∙ live)) n s e }

load_once : {v w : World} {s : ℕ} {a : Result ℕ Limit} → HaveBegunOnce evaluation v → AreDistinct (starts v) → EvaluatesLoad v s a w → (r : Reaction Url) → Once (when_evaluated w r a)
load_once {v} {w} {s} {a} h d p r =
    let k = by_answer w r a in
    let o = evaluated_once (with_linked v p.linked) p.root a w (calm_same v (with_linked v p.linked) h refl refl refl) d p.evaluates in
    once_to w (when_evaluated w r a) o k.0 k.1 k.2 k.3

pub reacts_once : {v : World} {r : Reaction Url} {how : Settled (Value Url)} {w : World} → HaveBegunOnce evaluation v → AreDistinct (starts v) → Reacts v r how w → Once w
reacts_once h d (entry_linked p) = load_once h d p _
reacts_once {v} {w = w} h d (entry_fault root f ls l) = once_same v w h d refl refl refl
reacts_once {v} {w = w} h d entry_refused = once_same v w h d refl refl refl
reacts_once {v} {w = w} h d entry_ended = once_same v w h d refl refl refl
reacts_once {v} {w = w} h d entry_threw = once_same v w h d refl refl refl
reacts_once h d (linked p) = load_once h d p _
reacts_once {v} {w = w} h d (fault p root f ls n l) = once_same v w h d refl refl refl
reacts_once {v} {w = w} h d (refused p n) = once_same v w h d refl refl refl
reacts_once {v} {w = w} h d (evaluated p root n o) = once_same v w h d refl refl refl
reacts_once {v} {w = w} h d (threw p n) = once_same v w h d refl refl refl
reacts_once {v} {w = w} h d (body_ended {m = m} {end = a} p) = fulfilled_once v m a w h d p
reacts_once {v} {w = w} h d (body_threw {m = m} {v = u} p) = record {
  distinct = adds_distinct (rejects_keeps evaluation (First evaluation CallsForBody) Grow grows_first p) d;
  calm = λ live. makes_first_calls.keeps_rejects v w m u h p;
}
reacts_once {v} {w = w} h d (resumes p) = once_same v w h d refl refl (resumes_body_keeps same_url modules_in BeginsImport Progress imported p).starts

pub jobs_once : {v w : World} → Once v → Jobs v w → Once w
jobs_once o (Jobs.none n) = o
jobs_once o (Jobs.stops l s) = o
jobs_once {v} o (Jobs.job j left how live i g f p) = jobs_once (reacts_once (calm_same v (with_promises v left) (o.calm live) refl refl refl) o.distinct f) p

pub tasks_once : {v w : World} → Once v → Tasks v w → Once w
tasks_once o (Tasks.none n) = o
tasks_once o (Tasks.stops l s) = o
tasks_once {v} o (Tasks.task {h = h} live a j p) = tasks_once (jobs_once (once_same v (with_host v h) (o.calm live) o.distinct refl refl refl) j) p

turn_once : {v : World} {u : Url} {c : OutcomeView} {w : World} → stopped v ≡ None → Once v → Turn v u c w → Once w
turn_once {v} {u} {c} {w} live o (Turn.limit l s) = once_same v w (o.calm live) o.distinct refl refl refl
turn_once {v} {u} {c} live o (Turn.turn l p) = tasks_once (once_same v (fetched v u c) (o.calm live) o.distinct refl refl refl) p

-- an open ask is there only where no limit has stopped
pub live_by : (o : Option Limit) (us : List Url) (u : Url) → has (asks_by o us) u ≡ true → o ≡ None
live_by None us u h = refl
live_by (Some limit) us u h = absurd cc

runs_once : (ds : List Delivery) (v w : World) → Once v → Runs v ds w → Once w
runs_once [] v w o p = subst (λ w. Once w) (sym p) o
runs_once (d ∷ ds) v w o p = runs_once ds p.1 w (turn_once (live_by (stopped v) (open_asks v.loading) d.url p.0.asked) o p.2) p.3

pub opening_once : (maps : Maps) (built : List Item → Bool) (entry : Url) (trace : Bool) → Once (opening maps built entry trace)
opening_once maps built entry trace = record {
  distinct = tt;
  calm = λ live. makes_first_calls.opening (opening maps built entry trace) (record { phases = λ x. refl; free = λ x. refl; undone = λ x. refl; stamps = refl }) (λ x. refl);
}

pub starts_once : (maps : Maps) (built : List Item → Bool) (entry : Url) (trace : Bool) (ds : List Delivery) (what : Shown) → StandardRun maps built entry trace ds what → AreDistinct (started what.events)
starts_once maps built entry trace ds what p =
    subst (λ es. AreDistinct (started es)) (ap (λ (s : Shown). s.events) (sym p.shows)) (runs_once ds (opening maps built entry trace) p.world (opening_once maps built entry trace) p.runs).distinct

-- ---- what is told of limits

pub stops_are_told : StopsAreTold
stops_are_told = record {
  executes = λ w after c limit p. by_stop p;
  evaluates = λ w after m limit p. evaluates_stop evaluation CallsForBody IsStopped stops_call w m p;
  fulfills = λ w after m limit p. fulfills_stop evaluation CallsForBody IsStopped stops_call p;
  resumes = λ w m how limit s p. resumes_body_stop BeginsImport IsStoppedState stops_state same_url modules_in p;
}
