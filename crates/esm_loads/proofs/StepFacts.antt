-- An answer to a pending request, with what the end of its load settles.
use Rattle.std.proofs.Common.{◌≡◌, ℕ, ◌≤◌, Bool, List, ◌++◌, length, map, Option, Some, None, refl, ap, sym, subst, ◌∙◌, arith}
use Rattle.std.specs.Prelude.{slice_get, slice_set, Result, OnOk}
use Rattle.esm_base.specs.declared.end.End.{End}
use Rattle.esm_base.specs.declared.limits.Limit.{Limit}
use Rattle.esm_base.specs.Urls.{Url}
use Rattle.esm_realm.specs.Sound.{RecordParts}
use Rattle.esm_import_map.specs.ImportMap.{Maps, no_maps}
use Rattle.esm_values.specs.Errors.{Errors}
use Rattle.esm_promise.specs.Code.{Numbered}
use Rattle.esm_promise.specs.Renaming.{renamed}
use Rattle.esm_loads.specs.UrlTable.{TableEntry, put_at}
use Rattle.esm_loads.specs.Loading as loading
use Rattle.esm_loads.specs.Loading.{Loading, PendingRequest, load_of}
use Rattle.esm_loads.specs.Load.{Answers}
use Rattle.esm_loads.specs.Host.{Host, Answered, begin_load, settle_by, settle_load, with_loading}
use Rattle.esm_loads.specs.Host.Answered.{answered}
use Rattle.esm_loads.specs.Arrival.{Next, next, AnswersNext}
use Rattle.esm_loads.specs.LoadsView.{urls_of, url_at, request_of, request_by, before_linking, is_in, load_state, modules_in, state_of}
use Rattle.esm_loads.specs.LoadsAsLoading.{loading_of, trees_of}
use Rattle.esm_loads.specs.Fits.{AreJoined, HaveRecords, RecordsMatch, FitRecords}
use Rattle.esm_loads.specs.Hosted.{host_of, stopped_by, stopped_host, StopsHost}
use Rattle.esm_loads.specs.Inner.Steps.{IsLoading}
use Rattle.esm_loads.specs.Inner.Answering.{KeepsUrls}
use Rattle.esm_loads.specs.Inner.Stepping.{Settles, IsAnsweredIn, Takes}
use Rattle.esm_loads.specs.Inner.Targets.{KnowTargets}
use Rattle.esm_loads.specs.declared.data.Waiting.{Waiting}
use Rattle.esm_loads.specs.declared.data.Requester.{Requester}
use Rattle.esm_loads.specs.declared.data.Requester.TheVariants as requesters
use Rattle.esm_loads.specs.declared.loads.Loads.{Loads}
use Rattle.esm_loads.proofs.Places.{get_kept, get_map, on_ok}
use Rattle.esm_loads.proofs.Unlinks.{long_stale, matching_stale}
use Rattle.esm_loads.proofs.EnterFacts.{old_module}
use Rattle.esm_loads.proofs.KnownPlaces.{known_same, targets_stale}
use Rattle.esm_loads.proofs.NextFacts as next_facts

-- ---- the records still fit

matching_more : (t new : Loads) (R : List RecordParts) → RecordsMatch t.urls.slots (trees_of t) R → KeepsUrls t new → RecordsMatch new.urls.slots (trees_of new) R
matching_more t new R h k = subst (λ ss. RecordsMatch ss (trees_of new) R) (sym k.slots) (subst (λ ts. RecordsMatch (t.urls.slots ++ k.more) ts R) (sym (ap trees_of k.rest)) (record {
  have = record { kept = λ i id m. h.have.kept i id (record { slot = m.slot; at = old_module t.urls.slots k.more i id k.fetching m; stands = m.stands }) };
  known = λ id r e. let f = h.known id r e in (f.0, record { slot = f.1.slot; at = get_kept t.urls.slots k.more f.0 f.1.slot f.1.at; stands = f.1.stands });
  as_many = h.as_many;
  entries = h.entries;
  spelled = h.spelled;
}))

pub fits_after : (t new : Loads) (R R' : List RecordParts) → FitRecords t R → AreJoined new (length R) → KnowTargets new.urls R → KeepsUrls t new → map before_linking R' ≡ map before_linking R → FitRecords new R'
fits_after t new R R' h j w k e = record {
  joined = subst (AreJoined new) (sym (long_stale R R' e)) j;
  matching = matching_stale R R' new.urls.slots (trees_of new) e (matching_more t new R h.matching k);
  known = known_same (urls_of new.urls.slots) new.urls.starts new.urls.places R R' (targets_stale R R' e) w;
  purposes = ap (λ (l : Loads). length l.purposes.items) k.rest ∙ (h.purposes ∙ sym k.loads);
  few_calls = let c = ap (λ (l : Loads). l.import_calls) k.rest in omega (arith, c, h.few_calls);
}

pub fits_taken : (t mid : Loads) (R : List RecordParts) (w : Waiting) → FitRecords t R → Takes t mid w → FitRecords mid R
fits_taken t mid R w h x = record {
  joined = next_facts.joined_taken no_maps R t (length R) h.joined mid w x;
  matching = subst (λ (l : Loads). RecordsMatch l.urls.slots (trees_of l) R) (sym x.new_is) h.matching;
  known = subst (λ (l : Loads). KnowTargets l.urls R) (sym x.new_is) h.known;
  purposes = subst (λ (l : Loads). length l.purposes.items ≡ length l.loads.items) (sym x.new_is) h.purposes;
  few_calls = subst (λ (l : Loads). l.import_calls ≤ 4096) (sym x.new_is) h.few_calls;
}

-- ---- what the end of the load settles

same_load : (us : List Url) (w : Waiting) → load_of (request_of us w) ≡ w.load
same_load us w = by w.requester
  where
    by : (r : Requester) → load_of (request_by us w.load r) ≡ w.load
    by requesters.Root = refl
    by (requesters.Module referrer request) = refl

pub settles : (h : Host) (us : List Url) (w : Waiting) (u : Url) (e : TableEntry) (l : Loading) (after : Host) → Answers h.imports (request_of us w) u e l → after ≡ settle_load (with_loading h l) w.load → Settles h (request_of us w) u e after
settles h us w u e l after a s = record { answered = l; answers = a; settled = s ∙ ap (settle_load (with_loading h l)) (sym (same_load us w)) }

-- the end of no load is settled where the load goes on
unsettled : (h : Host) (s : ℕ) (root : Url) (visited : Url → Bool) → slice_get h.imports.loads s ≡ Some (loading.Open root visited) → settle_load h s ≡ h
unsettled h s root visited e = ap (settle_by h (slice_get h.imports.purposes s)) e ∙ by (slice_get h.imports.purposes s)
  where
    by : (o : Option loading.Purpose) → settle_by h o (Some (loading.Open root visited)) ≡ h
    by None = refl
    by (Some p) = refl

-- a limit stops the answer, and the load goes on
pub settle_stops : (named : ℕ → Url) (maps : Maps) (R : List RecordParts) (new : Loads) (ps : Numbered) (errors : Errors) (h : Host) (us : List Url) (w : Waiting) (u : Url) (e : TableEntry) (limit : Limit) → h.promises ≡ renamed named ps → h.errors ≡ errors
    → Answers h.imports (request_of us w) u e (stopped_by (loading_of maps new R) limit) → IsLoading new w.load → Settles h (request_of us w) u e (stopped_host (host_of named ps errors (loading_of maps new R)) limit)
settle_stops named maps R new ps errors h us w u e limit promises made a g =
    let l = stopped_by (loading_of maps new R) limit in
    let ss = new.urls.slots in
    let at : slice_get l.loads w.load ≡ Some (loading.Open (url_at (urls_of ss) g.root) (modules_in ss (is_in g.load.visited))) =
    get_map (load_state ss) new.loads.items w.load g.load g.at ∙ ap (λ stage. Some (state_of ss stage g.load.visited)) g.open_is in
    record {
      answered = l;
      answers = a;
      settled = ap (λ ps. record { promises = ps; errors = errors; imports = l }) (sym promises) ∙ (ap (λ errors. record { promises = h.promises; errors = errors; imports = l }) (sym made)
          ∙ sym (ap (settle_load (with_loading h l)) (same_load us w) ∙ unsettled (with_loading h l) w.load _ _ at));
    }

-- ---- with the beginning of the load

pub began : (h before : Host) (a : PendingRequest) (u : Url) (e : TableEntry) (after : Host) → before ≡ begin_load h a u e → Settles before a u e after → Answered h a u e after
began h before a u e after is s =
    let t = subst (λ b. Settles b a u e after) is s in
    subst (Answered h a u e) (sym t.settled) (answered t.answers)

-- ---- the next request

pub next_answers : (named : ℕ → Url) (maps : Maps) (R : List RecordParts) (t mid : Loads) (w : Waiting) (j : AreJoined t (length R)) (h : HaveRecords t.urls.slots R) (x : Takes t mid w) (ps after : Numbered) (errors made : Errors) (result : Result (Unit {0}) (End Limit)) (new : Loads) (R' : List RecordParts)
    → IsAnsweredIn named maps mid ps errors R w t.delivered result new after made R'
    → OnOk result (AnswersNext (host_of named ps errors (loading_of maps t R)) (host_of named after made (loading_of maps new R'))) × StopsHost result (host_of named after made (loading_of maps new R')) (AnswersNext (host_of named ps errors (loading_of maps t R)))
next_answers named maps R t mid w j h x ps after errors made result new R' given =
    let i = next_facts.taken_next maps R t (length R) j mid w h x in
    let us = urls_of t.urls.slots in
    let u = url_at us t.delivered in
    let taken : Loads = record t { queues = record t.queues { queues = slice_set t.queues.queues t.delivered x.rest } } in
    let at : IsAnsweredIn named maps taken ps errors R w t.delivered result new after made R' = subst (λ m. IsAnsweredIn named maps m ps errors R w t.delivered result new after made R') x.new_is given in
    let f = at i.entry i.is in
    let who : Next = record { url = u; pending_request = request_of us w; entry = i.entry; others = map (request_of us) x.rest } in
    let answers_it = λ (k : Host) (a : Answered (host_of named ps errors (loading_of maps taken R)) (request_of us w) u i.entry k). next_by_answer named maps R t ps errors who i.next_is (loading_of maps taken R) i.left k a in (
      on_ok result _ _ f.0 (answers_it (host_of named after made (loading_of maps new R'))),
      λ limit e. answers_it _ (f.1 limit e),
    )
  where
    next_by_answer : (named : ℕ → Url) (maps : Maps) (R : List RecordParts) (t : Loads) (ps : Numbered) (errors : Errors) (who : Next) → next (loading_of maps t R) ≡ Some who → (l : Loading)
        → l ≡ record (loading_of maps t R) { pending = put_at (loading_of maps t R).pending who.url who.others } → (k : Host) → Answered (host_of named ps errors l) who.pending_request who.url who.entry k → AnswersNext (host_of named ps errors (loading_of maps t R)) k
    next_by_answer named maps R t ps errors who is l left k a = record { who = who; is_next = is; answered = subst (λ l. Answered (host_of named ps errors l) who.pending_request who.url who.entry k) left a }
