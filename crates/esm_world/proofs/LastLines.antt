-- The last line of a run: an uncaught value has a display text, since its module, if it is a namespace, is linked.
use Rattle.std.proofs.Common.{◌≡◌, ℕ, zero, suc, true, List, [], ◌∷◌, ◌++◌, Option, Some, None, refl, ap, subst, sym, ◌∙◌}
use Rattle.std.specs.Prelude.{Result, Ok, Err, ⊤, slice_get, codes}
use Rattle.std.specs.List.{AllByRecursion}
use Rattle.esm_base.specs.declared.limits.Limit.{Limit}
use Rattle.esm_base.specs.Limits.{limit_name}
use Rattle.esm_base.specs.Urls as urls
use Rattle.esm_base.specs.Urls.{Url, has, same_url}
use Rattle.esm_realm.specs.Walk.{Mark}
use Rattle.esm_realm.specs.Components.{opened_from}
use Rattle.esm_realm.proofs.Urls.{has_append, or_left}
use Rattle.esm_values.specs.Value.{Value, Undefined, Truth, Text, Func, Error, Namespace, Promise}
use Rattle.esm_values.specs.Display.{namespace_text}
use Rattle.esm_promise.specs.Promises as p
use Rattle.esm_promise.specs.Promises.{Settled, Fulfilled, Rejected, Pending, Done, Promises, Job, next_job, settled, settled_by}
use Rattle.esm_promise.specs.Reactions.{Reaction}
use Rattle.esm_resolve.specs.SharedSet.{SharedSetAgrees, SharedSetEnds}
use Rattle.esm_env.specs.Modules.{Modules}
use Rattle.esm_loads.specs.UrlTable.{Entries}
use Rattle.esm_link.specs.Faults.{FaultAt}
use Rattle.esm_link.specs.Link.{LinksMarks}
use Rattle.esm_link.specs.Link.LinksMarks.{done, enters, passes, fails, stays, component}
use Rattle.esm_eval.specs.Nodes.{Call, CallAnswer}
use Rattle.esm_rewriting.specs.Acts.{Displays}
use Rattle.esm_rewriting.proofs.LinkedRead.{linked_read}
use Rattle.esm_world.specs.World.{World, EntryState, Underway, Ended, Failed, stopped, modules_in, body_state}
use Rattle.esm_world.specs.Layers.{CallsForBody, evaluation}
use Rattle.esm_world.specs.Jobs.{EvaluatesLoad, Reacts, when_evaluated}
use Rattle.esm_world.specs.Jobs.Reacts.{entry_linked, entry_fault, entry_refused, entry_ended, entry_threw, linked, fault, refused, evaluated, threw, body_ended, body_threw, resumes}
use Rattle.esm_world.specs.LastLine.{Uncaught, ending_by, IsLastLine}
use Rattle.esm_world.specs.Run.{asks, ending, shown}
use Rattle.esm_world.specs.Fits.{IsKnownValue, FitSettled, FitPromise, IsFit}
use Rattle.esm_world.specs.Outcomes.{StepsHaveOutcomes}
use Rattle.esm_world.specs.Laws.{HasStandardRun}
use Rattle.esm_world.proofs.EvalKeeps.{Lasts, evaluates_keeps, fulfills_keeps, rejects_keeps}
use Rattle.esm_world.proofs.FitBodies.{are_linked}
use Rattle.esm_world.proofs.ToldHost.{same_rows}
use Rattle.esm_world.proofs.HasTurns.{run_fits}

-- ---- what can be shown

-- the value has a display text where these modules are linked
abbrev IsShown : List Url → Value Url → Type 0
IsShown us (Namespace m) = has us m ≡ true
IsShown us _ = ⊤

abbrev pub IsEntryShown : List Url → EntryState → Type 0
IsEntryShown us (Failed v) = IsShown us v
IsEntryShown us _ = ⊤

known_shown : (us : List Url) (entries : Entries) (v : Value Url) → IsKnownValue us entries v → IsShown us v
known_shown us entries Undefined k = tt
known_shown us entries (Truth b) k = tt
known_shown us entries (Text t) k = tt
known_shown us entries (Func m i) k = tt
known_shown us entries (Error id) k = tt
known_shown us entries (Namespace m) k = k
known_shown us entries (Promise id) k = tt

abbrev Grow : List Url → List Url → Type 0
Grow us vs = (u : Url) → has us u ≡ true → has vs u ≡ true

shown_on : (us vs : List Url) (e : EntryState) → Grow us vs → IsEntryShown us e → IsEntryShown vs e
shown_on us vs Underway g h = tt
shown_on us vs Ended g h = tt
shown_on us vs (Failed Undefined) g h = tt
shown_on us vs (Failed (Truth b)) g h = tt
shown_on us vs (Failed (Text t)) g h = tt
shown_on us vs (Failed (Func m i)) g h = tt
shown_on us vs (Failed (Error id)) g h = tt
shown_on us vs (Failed (Namespace m)) g h = g m h
shown_on us vs (Failed (Promise id)) g h = tt

-- ---- what is linked grows, and jobs alone change the state of the entry

links_grow : {g : Modules Url} {opened closed : List Url} {ms : List (Mark Url)} {f : Option (FaultAt Url)} {after : List Url} → LinksMarks same_url g opened closed ms f after → Grow closed after
links_grow done = λ u h. h
links_grow (enters p) = links_grow p
links_grow (passes p) = links_grow p
links_grow (fails e) = λ u h. h
links_grow (stays e c p) = links_grow p
links_grow {opened = opened} {closed = closed} (component {x = x} e c p) =
    let more = opened_from same_url opened x in
    λ u h. links_grow p u (has_append closed more u ∙ or_left (has closed u) (has more u) h)

record IsSame (v w : World) : Type 0 where
  linked : w.linked ≡ v.linked
  entry : w.entry ≡ v.entry

called_same : {v w : World} {c : Call Url} {r : Result (CallAnswer (Value Url) c) Limit} → CallsForBody v c r w → IsSame v w
called_same (CallsForBody.start p) = record { linked = refl; entry = refl }
called_same (CallsForBody.run p) = record { linked = refl; entry = refl }

evaluation_same : Lasts evaluation CallsForBody IsSame
evaluation_same = record {
  same = λ w. record { linked = refl; entry = refl };
  on = λ a b. record { linked = b.linked ∙ a.linked; entry = b.entry ∙ a.entry };
  put = λ w x n. record { linked = refl; entry = refl };
  stamp = λ w x. record { linked = refl; entry = refl };
  make = λ w. record { linked = refl; entry = refl };
  make_body = λ w x. record { linked = refl; entry = refl };
  fulfill = λ w q. record { linked = refl; entry = refl };
  reject = λ w q v. record { linked = refl; entry = refl };
  call = λ e. called_same e;
}

when_same : (w : World) (r : Reaction Url) (a : Result ℕ Limit) → IsSame w (when_evaluated w r a)
when_same w r (Ok q) = record { linked = refl; entry = refl }
when_same w r (Err limit) = record { linked = refl; entry = refl }

same_shown : {v w : World} → IsSame v w → IsEntryShown v.linked v.entry → IsEntryShown w.linked w.entry
same_shown {v} {w} s h = subst (λ us. IsEntryShown us w.entry) (sym s.linked) (subst (λ e. IsEntryShown v.linked e) (sym s.entry) h)

load_shown : (v w : World) (s : ℕ) (a : Result ℕ Limit) (r : Reaction Url) → EvaluatesLoad v s a w → IsEntryShown v.linked v.entry → IsEntryShown (when_evaluated w r a).linked (when_evaluated w r a).entry
load_shown v w s a r e h =
    let k = evaluates_keeps evaluation CallsForBody IsSame evaluation_same _ e.root e.evaluates in
    let more : IsEntryShown e.linked v.entry = shown_on v.linked e.linked v.entry (links_grow e.links.links.links) h in
    same_shown (when_same w r a) (same_shown k more)

-- a promise that was settled so rejects with a value that can be shown
abbrev IsSettledShown : List Url → Settled (Value Url) → Type 0
IsSettledShown us (Fulfilled v) = ⊤
IsSettledShown us (Rejected v) = IsShown us v

settled_shown : (us : List Url) (entries : Entries) (how : Settled (Value Url)) → FitSettled us entries how → IsSettledShown us how
settled_shown us entries (Fulfilled v) k = tt
settled_shown us entries (Rejected v) k = known_shown us entries v k

reacts_shown : {v w : World} {r : Reaction Url} {how : Settled (Value Url)} → Reacts v r how w → IsSettledShown v.linked how → IsEntryShown v.linked v.entry → IsEntryShown w.linked w.entry
reacts_shown {v} (entry_linked {after = after} {answer = a} e) s h = load_shown v after 0 a _ e h
reacts_shown (entry_fault root f ls l) s h = tt
reacts_shown entry_refused s h = s
reacts_shown entry_ended s h = tt
reacts_shown entry_threw s h = s
reacts_shown {v} (linked {after = after} {s = load} {answer = a} e) s h = load_shown v after load a _ e h
reacts_shown {v} (fault q root f ls n l) s h = shown_on v.linked ls v.entry (links_grow l.links.links) h
reacts_shown (refused q n) s h = h
reacts_shown (evaluated q root n o) s h = h
reacts_shown (threw q n) s h = h
reacts_shown (body_ended e) s h = same_shown (fulfills_keeps evaluation CallsForBody IsSame evaluation_same e) h
reacts_shown (body_threw e) s h = same_shown (rejects_keeps evaluation CallsForBody IsSame evaluation_same e) h
reacts_shown (resumes e) s h = h

-- ---- each world of a run

rows_settled : (us : List Url) (entries : Entries) (xs : List (p.Promise (Reaction Url) (Value Url))) (q : ℕ) (how : Settled (Value Url)) → settled_by (slice_get xs q) ≡ Some how → AllByRecursion (FitPromise us entries) xs → FitSettled us entries how
rows_settled us entries [] q how e h = cc
rows_settled us entries (Pending rs ∷ xs) zero how e h = cc
rows_settled us entries (Done by ∷ xs) zero how e h = let same : by ≡ how = cc in subst (FitSettled us entries) same h.0
rows_settled us entries (x ∷ xs) (suc q) how e h = rows_settled us entries xs q how e h.1

module _ (Fits : World → Type 0) (k : StepsHaveOutcomes Fits) (fit : (w : World) → Fits w → IsFit w) where
  abbrev FitsShown : World → Type 0
  FitsShown w = Fits w × IsEntryShown w.linked w.entry

  job_settled : (w : World) (j : Job (Reaction Url)) (left : Promises (Reaction Url) (Value Url)) (how : Settled (Value Url)) → Fits w → next_job w.promises ≡ Some (j, left) → settled left j.promise ≡ Some how → IsSettledShown w.linked how
  job_settled w j left how f e s =
      let rows = same_rows w.promises left j e in
      settled_shown w.linked w.loading.entries how
      (rows_settled w.linked w.loading.entries w.promises.all j.promise how (ap (λ (xs : List (p.Promise (Reaction Url) (Value Url))). settled_by (slice_get xs j.promise)) (sym rows) ∙ s) (fit w f).state.whole.promises.all)

  shown_steps : StepsHaveOutcomes FitsShown
  shown_steps = record {
    opens = λ maps built entry trace. (k.opens maps built entry trace, tt);
    fetches = λ w d f a live. (k.fetches w d f.0 a live, f.1);
    answer = λ w n f live e. let t = k.answer w n f.0 live e in record { host = t.host; answers = t.answers; fits = λ l. (t.fits l, f.1) };
    job = λ w j left f live e.
        let t = k.job w j left f.0 live e in
        record {
          how = t.how;
          settled_so = t.settled_so;
          after = t.after;
          reacts = t.reacts;
          fits = λ l. (t.fits l, reacts_shown t.reacts (job_settled w j left t.how f.0 e t.settled_so) f.1);
        };
  }

  module _ (agrees : SharedSetAgrees) (ends : SharedSetEnds) where
    displays : (w : World) (v : Value Url) → IsFit w → IsShown w.linked v → (text : urls.Text) × Displays modules_in (body_state w) v text
    displays w Undefined f h = (_, refl)
    displays w (Truth b) f h = (_, refl)
    displays w (Text t) f h = (_, refl)
    displays w (Func m i) f h = (_, refl)
    displays w (Error id) f h = (_, refl)
    displays w (Namespace m) f h =
        let r = (linked_read (modules_in w.loading) (has w.linked) agrees ends (are_linked w.linked w.loading.entries f.modules w.loading refl f.state.whole.orderly)).keys m h in
        (namespace_text r.0, (r.0, r.1, r.2, refl))
    displays w (Promise id) f h = (_, refl)

    last_line : (w : World) → (stopped w ≡ None → FitsShown w) → (text : urls.Text) × IsLastLine w (ending w) text
    last_line w f = by (stopped w) refl (asks w) w.entry refl
      where
        uncaught : (v : Value Url) → (text : urls.Text) × Displays modules_in (body_state w) v text → (text : urls.Text) × IsLastLine w (Some (Uncaught v)) text
        uncaught v t = (codes "Uncaught " ++ t.0, (t.0, t.1, refl))

        by : (s : Option Limit) → stopped w ≡ s → (us : List Url) (e : EntryState) → w.entry ≡ e → (text : urls.Text) × IsLastLine w (ending_by s us e) text
        by (Some limit) d us e q = (codes "Limit " ++ limit_name limit, refl)
        by None d (u ∷ us) e q = ([], refl)
        by None d [] (Failed v) q = let g = f d in uncaught v (displays w v (fit w g.0) (subst (λ e. IsEntryShown w.linked e) q g.1))
        by None d [] Ended q = ([], refl)
        by None d [] Underway q = (codes "Unsettled", refl)

    pub has_standard_run : HasStandardRun
    has_standard_run maps built entry trace ds w r =
        let text = last_line w (λ live. run_fits FitsShown shown_steps maps built entry trace ds w r live) in
        (shown w text.0, record { world = w; line = text.0; runs = r; last_line = text.1; shows = refl })
