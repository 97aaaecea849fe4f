-- Over the steps of a world each body that begins has what it needs among the events before, given that evaluation keeps its invariant.
use Rattle.std.proofs.Common.{◌≡◌, ℕ, Bool, true, false, List, [], ◌∷◌, ◌++◌, Option, Some, None, refl, ap, subst, sym, ◌∙◌}
use Rattle.std.specs.Prelude.{Result, Ok, Err, ⊤}
use Rattle.esm_base.specs.declared.limits.Limit.{Limit}
use Rattle.esm_base.specs.Urls.{Url, has, same_url}
use Rattle.esm_realm.proofs.Urls.{not_true, same_text}
use Rattle.esm_tree.specs.Syntax.{Item}
use Rattle.esm_import_map.specs.ImportMap.{Maps}
use Rattle.esm_ast.specs.Deliveries.{Delivery, asks_by}
use Rattle.esm_values.specs.Value.{Value}
use Rattle.esm_promise.specs.Promises.{Settled, Fulfilled}
use Rattle.esm_promise.specs.Reactions.{Reaction, BodyEnd, EntryDone, Evaluated}
use Rattle.esm_loads.specs.UrlTable.{TableEntry, Entries}
use Rattle.esm_loads.specs.Loading.{Loading, is_fetching}
use Rattle.esm_loads.specs.Arrival.{open_asks}
use Rattle.esm_loads.specs.ImportCall.{BeginsImport}
use Rattle.esm_loads.specs.Whole.{is_module}
use Rattle.esm_eval.specs.Nodes.{was_entered}
use Rattle.esm_eval.specs.Evaluation.{IsAsFar}
use Rattle.esm_eval.specs.Evaluate.{Evaluates}
use Rattle.esm_eval.specs.BodyEnd.{Fulfills, Rejects}
use Rattle.esm_rewriting.specs.State.{State, Begins, has_begun}
use Rattle.esm_rewriting.specs.Bodies.{ResumesBody}
use Rattle.esm_rewriting.proofs.BodyKeeps.{resumes_body_keeps}
use Rattle.esm_world.specs.World.{World, opening, stopped, modules_in, body_state, host_of, with_host, with_state}
use Rattle.esm_world.specs.Layers.{CallsForBody, evaluation, with_linked, with_promises}
use Rattle.esm_world.specs.Jobs.{EvaluatesLoad, Reacts, Jobs, when_evaluated, with_reaction}
use Rattle.esm_world.specs.Jobs.Reacts.{entry_linked, entry_fault, entry_refused, entry_ended, entry_threw, linked, fault, refused, evaluated, threw, body_ended, body_threw, resumes}
use Rattle.esm_world.specs.Turn.{Tasks, Turn, fetched}
use Rattle.esm_world.specs.Run.{IsAllowed, Runs}
use Rattle.esm_world.specs.Fits.{IsFit, IsLinkedModule}
use Rattle.esm_world.specs.Loaded.{FitsLoading}
use Rattle.esm_world.specs.RunLaws.{RunsFit}
use Rattle.esm_world.proofs.EvalKeeps.{Lasts, evaluates_keeps, fulfills_keeps, rejects_keeps}
use Rattle.esm_world.proofs.EvalStops.{evaluates_stop}
use Rattle.esm_world.proofs.FitLoading.{fetched_entries}
use Rattle.esm_world.proofs.Grows.{Progress, next_grows}
use Rattle.esm_world.proofs.LoadedFits.{loading_stays_fit, in_filter}
use Rattle.esm_world.proofs.StartsOnce.{IsStopped, stops_call, none_stopped, begun_alike, live_by}
use Rattle.esm_world.proofs.WorldGrows.{imported, executes_progress}
use Rattle.esm_needs_laws.proofs.Begun.{NeedsBefore, FineCall, KeepNeeds, lasts_needs, needs_end, nil_not}
use Rattle.esm_needs_laws.proofs.Calls.{EndEvents, end_keeps, resume_events}
use Rattle.esm_needs_laws.proofs.Requested.{to_of, HaveTrees, targets_are, same_targets, needs_grown}
use Rattle.esm_needs_laws.proofs.Shape.{Inv}
use Rattle.esm_needs_laws.proofs.Told.{EndedIn, Ended, EndsTold, taken_ends, job_ends, job_ended, answer_ends, fetch_ends, opening_ends}

-- the invariant of evaluation, between two of its calls
abbrev pub IsCalm : (Url → List Url) → World → Type 0
IsCalm to w = Inv evaluation to Ended w []

-- an evaluation that wasn't stopped leaves it
abbrev pub LeavesCalm : (Url → List Url) → Result ℕ Limit → World → Type 0
LeavesCalm to (Ok p) w = IsCalm to w
LeavesCalm to (Err why) w = ⊤

-- evaluation keeps the invariant, and begins a body where all that the body needs has ended
pub record KeepsCalm : Type 0 where
  pub evaluates : (w after : World) (m : Url) (a : Result ℕ Limit) → IsCalm (evaluation.targets w) w → Evaluates evaluation CallsForBody w m a after
      → Evaluates evaluation (FineCall (evaluation.targets w)) w m a after × LeavesCalm (evaluation.targets w) a after
  pub fulfills : (to : Url → List Url) (w after : World) (m : Url) (a : Result (Unit {0}) Limit) → IsCalm to w → Ended w m → Fulfills evaluation CallsForBody w m a after
      → Fulfills evaluation (FineCall to) w m a after × IsCalm to after
  pub rejects : (to : Url → List Url) (w after : World) (m : Url) (v : Value Url) → IsCalm to w → Rejects evaluation w m v after → IsCalm to after
  -- and it stays where what was entered keeps its requests
  pub far : (to more : Url → List Url) (w v : World) → IsAsFar evaluation w v → ((y : Url) → Ended w y → Ended v y)
      → ((x : Url) → was_entered (w.nodes x).phase ≡ true → more x ≡ to x) → IsCalm to w → IsCalm more v

-- ---- the URL table stays

abbrev SameTable : World → World → Type 0
SameTable v w = w.loading.entries ≡ v.loading.entries

lasts_table : Lasts evaluation CallsForBody SameTable
lasts_table = record {
  same = λ w. refl;
  on = λ p q. q ∙ p;
  put = λ w x n. refl;
  stamp = λ w x. refl;
  make = λ w. refl;
  make_body = λ w x. refl;
  fulfill = λ w p. refl;
  reject = λ w p v. refl;
  call = λ p. (executes_progress p).grows.entries;
}

-- ---- what holds of a world, over this table

pub record Framed (es : Entries) (w : World) : Type 0 where
  pub table : w.loading.entries ≡ es
  pub told : EndsTold w
  pub needs : NeedsBefore (to_of es) w.engine.events
  pub calm : stopped w ≡ None → IsCalm (to_of es) w

module _ (k : KeepsCalm) where
  -- the same nodes, orders and events
  calm_same : (to : Url → List Url) (v w : World) → w.nodes ≡ v.nodes → w.stamps ≡ v.stamps → w.engine ≡ v.engine → IsCalm to v → IsCalm to w
  calm_same to v w n s e h = k.far to to v w (record {
    nodes = λ x. ap (λ ns. ns x) n;
    stamps = s;
    begun = λ x. ap (λ g. has_begun same_url g x) e;
  }) (λ y d. subst (λ g. EndedIn g.events y) (sym e) d) (λ x h. refl) h

  module _ (es : Entries) (trees : HaveTrees es) where
    abbrev to : Url → List Url
    to = to_of es

    -- what evaluation sees of requests is what stands in the table
    seen : (w : World) → w.loading.entries ≡ es → evaluation.targets w ≡ to
    seen w e = λ i x. targets_are w.loading es e trees x i

    abbrev EvaluatesSo : (Url → List Url) → World → Url → Result ℕ Limit → World → Type 0
    EvaluatesSo f w m a after = IsCalm f w → Evaluates evaluation (FineCall f) w m a after × LeavesCalm f a after

    evaluates_so : (w after : World) (m : Url) (a : Result ℕ Limit) → w.loading.entries ≡ es → Evaluates evaluation CallsForBody w m a after → EvaluatesSo to w m a after
    evaluates_so w after m a e p = subst (λ f. EvaluatesSo f w m a after) (seen w e) (λ h. k.evaluates w after m a h p)

    -- ---- jobs

    -- only promises, errors, loading or the entry's state change
    framed_same : (v w : World) → Framed es v → EndsTold w → w.loading.entries ≡ v.loading.entries → w.nodes ≡ v.nodes → w.stamps ≡ v.stamps → w.engine ≡ v.engine → IsCalm to v → Framed es w
    framed_same v w f t l n s e h = record {
      table = l ∙ f.table;
      told = t;
      needs = subst (λ g. NeedsBefore to g.events) (sym e) f.needs;
      calm = λ live. calm_same to v w n s e h;
    }

    by_answer : (w : World) (r : Reaction Url) (a : Result ℕ Limit) → EndsTold (when_evaluated w r a) → w.loading.entries ≡ es → NeedsBefore to w.engine.events → (stopped w ≡ None → IsCalm to w) → Framed es (when_evaluated w r a)
    by_answer w r (Ok p) t l n h = record { table = l; told = t; needs = n; calm = λ live. calm_same to w (with_reaction w p r) refl refl refl (h live) }
    by_answer w r (Err why) t l n h = record { table = l; told = t; needs = n; calm = h }

    load_framed : {v after : World} {s : ℕ} {a : Result ℕ Limit} (r : Reaction Url) → Framed es v → IsCalm to v → EndsTold (when_evaluated after r a) → EvaluatesLoad v s a after → Framed es (when_evaluated after r a)
    load_framed {v} {after} {a = a} r f h t p =
        let now : World = with_linked v p.linked in
        let q = evaluates_so now after p.root a f.table p.evaluates (calm_same to v now refl refl refl h) in
        by_answer after r a t
        (evaluates_keeps evaluation CallsForBody SameTable lasts_table now p.root p.evaluates ∙ f.table)
        (evaluates_keeps evaluation (FineCall to) (KeepNeeds to) (lasts_needs to) now p.root q.0 f.needs)
        (λ live. left a q.1 (λ why e. none_stopped (stopped after) (stops why e) live))
      where
        stops : (why : Limit) → a ≡ Err why → IsStopped after
        stops why e = evaluates_stop evaluation CallsForBody IsStopped stops_call (with_linked v p.linked) p.root (subst (λ x. Evaluates evaluation CallsForBody (with_linked v p.linked) p.root x after) e p.evaluates)

        left : (a : Result ℕ Limit) → LeavesCalm to a after → ((why : Limit) → a ≡ Err why → ⊥) → IsCalm to after
        left (Ok q) c n = c
        left (Err why) c n = absurd (n why refl)

    resumes_framed : (v : World) (m : Url) (how : Settled (Value Url)) (end : Result (Unit {0}) Limit) (s : State Url Loading) → Framed es v → IsCalm to v → EndsTold (with_state v s) → ResumesBody same_url modules_in BeginsImport (body_state v) m how end s → Framed es (with_state v s)
    resumes_framed v m how end s f h t p =
        let q = resumes_body_keeps same_url modules_in BeginsImport Progress imported p in
        let e : EndEvents v.engine.events s.engine.events = resume_events p in
        record {
          table = q.imports.grows.entries ∙ f.table;
          told = t;
          needs = needs_end to v.engine.events s.engine.events e f.needs;
          calm = λ live. k.far to to v (with_state v s) (record { nodes = λ x. refl; stamps = refl; begun = begun_alike v (with_state v s) q.starts })
              (λ y d. end_keeps y v.engine.events s.engine.events e d) (λ x g. refl) h;
        }

    reacts_framed : {v : World} {r : Reaction Url} {how : Settled (Value Url)} {w : World} → Framed es v → IsCalm to v → EndsTold w → ((m : Url) (u : Value Url) → r ≡ BodyEnd m → how ≡ Fulfilled u → Ended v m) → Reacts v r how w → Framed es w
    reacts_framed f h t d (entry_linked p) = load_framed EntryDone f h t p
    reacts_framed {v} {w = w} f h t d (entry_fault root g ls l) = framed_same v w f t refl refl refl refl h
    reacts_framed {v} {w = w} f h t d entry_refused = framed_same v w f t refl refl refl refl h
    reacts_framed {v} {w = w} f h t d entry_ended = framed_same v w f t refl refl refl refl h
    reacts_framed {v} {w = w} f h t d entry_threw = framed_same v w f t refl refl refl refl h
    reacts_framed f h t d (linked {s = s} p) = load_framed (Evaluated s) f h t p
    reacts_framed {v} {w = w} f h t d (fault q root g ls n l) = framed_same v w f t refl refl refl refl h
    reacts_framed {v} {w = w} f h t d (refused q n) = framed_same v w f t refl refl refl refl h
    reacts_framed {v} {w = w} f h t d (evaluated q root n o) = framed_same v w f t refl refl refl refl h
    reacts_framed {v} {w = w} f h t d (threw q n) = framed_same v w f t refl refl refl refl h
    reacts_framed {v} {w = w} f h t d (body_ended {m = m} {v = u} {end = end} p) =
        let q = k.fulfills to v w m end h (d m u refl refl) p in
        record {
          table = fulfills_keeps evaluation CallsForBody SameTable lasts_table p ∙ f.table;
          told = t;
          needs = fulfills_keeps evaluation (FineCall to) (KeepNeeds to) (lasts_needs to) q.0 f.needs;
          calm = λ live. q.1;
        }
    reacts_framed {v} {w = w} f h t d (body_threw {m = m} {v = u} p) = record {
      table = rejects_keeps evaluation CallsForBody SameTable lasts_table p ∙ f.table;
      told = t;
      needs = rejects_keeps evaluation (FineCall to) (KeepNeeds to) (lasts_needs to) p f.needs;
      calm = λ live. k.rejects to v w m u h p;
    }
    reacts_framed {v} {how = how} f h t d (resumes {m = m} {end = end} {s = s} p) = resumes_framed v m how end s f h t p

    jobs_framed : {v w : World} → Framed es v → Jobs v w → Framed es w
    jobs_framed f (Jobs.none n) = f
    jobs_framed f (Jobs.stops l s) = f
    jobs_framed {v} f (Jobs.job {mid = mid} j left how live e s r p) =
        let c = f.calm live in
        let u : World = with_promises v left in
        jobs_framed (reacts_framed (framed_same v u f (taken_ends v j left f.told e) refl refl refl refl c) (calm_same to v u refl refl refl c) (job_ends v mid j left how f.told e s r)
        (λ m x is so. job_ended v j left m x f.told e is (s ∙ ap (λ y. Some y) so)) r) p

    tasks_framed : {v w : World} → Framed es v → Tasks v w → Framed es w
    tasks_framed f (Tasks.none n) = f
    tasks_framed f (Tasks.stops l s) = f
    tasks_framed {v} f (Tasks.task {h = h} live a j p) =
        tasks_framed (jobs_framed (framed_same v (with_host v h) f (answer_ends v h f.told live a) (next_grows a).grows.entries refl refl refl (f.calm live)) j) p

  -- ---- a turn

  open_of : (o : Option Limit) (us : List Url) (u : Url) → has (asks_by o us) u ≡ true → has us u ≡ true
  open_of None us u h = h
  open_of (Some limit) us u h = absurd (let n : false ≡ true = h in cc)

  not_fetched : (o : Option TableEntry) → is_fetching o ≡ true → o ≡ None
  not_fetched None h = refl
  not_fetched (Some e) h = absurd (let n : false ≡ true = h in cc)

  module _ (v : World) (d : Delivery) (fit : IsFit v) (loading : FitsLoading v.loading) (a : IsAllowed v d) where
    abbrev now : World
    now = fetched v d.url d.outcome

    open_one : has (open_asks v.loading) d.url ≡ true
    open_one = open_of (stopped v) (open_asks v.loading) d.url a.asked

    no_entry : v.loading.entries d.url ≡ None
    no_entry = not_fetched (v.loading.entries d.url) (in_filter (λ x. is_fetching (v.loading.entries x)) v.loading.asked d.url open_one).1

    agree : (x : Url) → IsLinkedModule v.linked v.loading.entries x → now.loading.entries x ≡ v.loading.entries x
    agree x h = fetched_entries (host_of v) d.url x d.outcome (not_true (same_url d.url x) (λ e. apart (same_text d.url x e)))
      where
        apart : d.url ≡ x → ⊥
        apart e =
            let there = fit.modules.stands x h in
            let none : v.loading.entries x ≡ None = subst (λ y. v.loading.entries y ≡ None) e no_entry in
            let n : false ≡ true = sym (ap is_module none) ∙ there in
            cc

    live_now : stopped v ≡ None
    live_now = live_by (stopped v) (open_asks v.loading) d.url a.asked

    fetch_framed : Framed v.loading.entries v → Framed now.loading.entries now
    fetch_framed f = record {
      table = refl;
      told = fetch_ends v d f.told a;
      needs = needs_grown v.linked v.loading.entries now.loading.entries fit.modules loading.trees agree v.engine.events fit.events f.needs;
      calm = λ live. k.far (to_of v.loading.entries) (to_of now.loading.entries) v now (record { nodes = λ x. refl; stamps = refl; begun = λ x. refl }) (λ y h. h)
          (λ x h. same_targets v.linked v.loading.entries now.loading.entries fit.modules loading.trees agree x (fit.entered x h)) (f.calm live_now);
    }

    turn_framed : {w : World} → Framed v.loading.entries v → Turn v d.url d.outcome w → Framed w.loading.entries w
    turn_framed f (Turn.limit l s) = fetch_framed f
    turn_framed {w} f (Turn.turn s p) =
        let later = loading_stays_fit.fetched (host_of v) d.url d.outcome loading open_one a.tree in
        let g = tasks_framed now.loading.entries later.trees (fetch_framed f) p in
        subst (λ es. Framed es w) (sym g.table) g

  -- ---- runs

  pub opening_framed : (maps : Maps) (built : List Item → Bool) (entry : Url) (trace : Bool) → ((to : Url → List Url) → IsCalm to (opening maps built entry trace)) → Framed (opening maps built entry trace).loading.entries (opening maps built entry trace)
  opening_framed maps built entry trace calm = record {
    table = refl;
    told = opening_ends maps built entry trace;
    needs = λ x before rest e. absurd (nil_not before rest (Begins x) e);
    calm = λ live. calm _;
  }

  runs_on : (ds : List Delivery) (u v w : World) (d : Delivery) → Runs u ds v → IsAllowed v d → Turn v d.url d.outcome w → Runs u (ds ++ d ∷ []) w
  runs_on [] u v w d p a t = let one : Runs v (d ∷ []) w = (a, w, t, refl) in subst (λ x. Runs x (d ∷ []) w) p one
  runs_on (x ∷ ds) u v w d p a t = (p.0, p.1, p.2, runs_on ds p.1 v w d p.3 a t)

  module _ (fits : RunsFit) (maps : Maps) (built : List Item → Bool) (entry : Url) (trace : Bool) where
    pub runs_framed : (ds past : List Delivery) (v w : World) → Runs (opening maps built entry trace) past v → Framed v.loading.entries v → Runs v ds w → Framed w.loading.entries w
    runs_framed [] past v w r f p = subst (λ x. Framed x.loading.entries x) (sym p) f
    runs_framed (d ∷ ds) past v w r f p =
        let live = live_by (stopped v) (open_asks v.loading) d.url p.0.asked in
        let fit = fits.fits maps built entry trace past v r live in
        let loading = fits.loading maps built entry trace past v r live in
        runs_framed ds (past ++ d ∷ []) p.1 w (runs_on past (opening maps built entry trace) v p.1 d r p.0 p.2) (turn_framed v d fit loading p.0 f p.2) p.3
