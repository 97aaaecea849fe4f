-- The steps of the code are those of the definition.
use Rattle.std.proofs.Common.{◌≡◌, ◌<◌, length, ap, subst, sym, ◌∙◌, arith, rules, true, false, refl, [], ℕ, Some, Err}
use Rattle.std.specs.Prelude.{slice_get}
use Rattle.std.proofs.lemmas.Option.{slice_get_within}
use Rattle.esm_base.specs.declared.end.End.TheVariants.{Fault}
use Rattle.esm_realm.specs.Sound.{records_of}
use Rattle.esm_loads.specs.Loading.{Request, open_load, targets, ask}
use Rattle.esm_loads.specs.Load.{Enters, Asks}
use Rattle.esm_loads.specs.Load.Enters.{known}
use Rattle.esm_loads.specs.LoadsView.{urls_of, url_at, place_in}
use Rattle.esm_loads.specs.LoadsAsLoading.{loading_of, trees_of}
use Rattle.esm_loads.specs.Fits.{AreJoined}
use Rattle.esm_loads.specs.Hosted.{stopped_by}
use Rattle.esm_loads.specs.Inner.Steps.{Grown, IsLoading, freshness}
use Rattle.esm_loads.specs.Inner.Targets.{KnowTargets, all_targets, with_place}
use Rattle.esm_loads.specs.declared.loads.Loads.{Loads}
use Rattle.esm_loads.specs.declared.data.Slot.{Slot}
use Rattle.esm_loads.specs.declared.data.TargetState.TheVariants as target_states
use Rattle.esm_loads.proofs.Places.{index_get, same_err}
use Rattle.esm_loads.proofs.KnownPlaces as places
use Rattle.esm_loads.proofs.LoadSteps as tables
use Rattle.esm_loads.proofs.EnterFacts as facts
use Rattle.esm_loads.proofs.EnterSteps as steps
use Rattle.esm_loads.proofs.entering.+enter.Goals as goal
use Rattle.esm_loads.proofs.entering.+enter.Goals.{in-Fetching+in-Ok-ask, in-Throws, in-Module+in-Ok-enter}

pub is_fresh-requires-clause-load : goal.is_fresh-requires-clause-load
is_fresh-requires-clause-load t c = slice_get_within c.args.loads.now.loads.items c.args.load c.requires.begun.load c.requires.begun.at

pub is_fresh-requires-clause-record : goal.is_fresh-requires-clause-record
is_fresh-requires-clause-record t c = facts.module_record c.args.loads.now c.args.realm.now c.args.place c.args.id.0 c.requires.kept c.requires.module_at

pub visit-requires : goal.visit-requires
visit-requires t c = slice_get_within c.args.loads.now.loads.items c.args.load c.requires.begun.load c.requires.begun.at

pub index-requires : goal.index-requires
index-requires t c = let h = facts.module_record c.args.loads.now c.args.realm.now c.args.place c.args.id.0 c.requires.kept c.requires.module_at in omega (arith, h)

pub returns-then-not-is_fresh-clause-enters : goal.returns-then-not-is_fresh-clause-enters
returns-then-not-is_fresh-clause-enters t c maps =
    let f = c.args.loads.now in
    let b = c.requires.begun in
    let stale : c.is_fresh.result ≡ false = search rules in
    known _ (tables.open_is maps (records_of c.args.realm.now) f c.args.load b.load b.at b.root b.open_is)
    (facts.fresh_told f c.args.realm.now c.args.place c.args.id.0 b.load c.args.load c.is_fresh.result c.requires.joined c.requires.kept c.requires.module_at b.at c.is_fresh.ensures maps ∙ stale)

pub returns-then-not-is_fresh-clause-grown : goal.returns-then-not-is_fresh-clause-grown
returns-then-not-is_fresh-clause-grown t c = facts.grown_same (length (records_of c.args.realm.now)) c.args.load c.args.loads.now

pub loop-request-init : goal.loop-request-init
loop-request-init t c =
    let f = c.args.loads.now in
    let R = records_of c.args.realm.now in
    let k = c.args.place in
    let id = c.args.id.0 in
    let s = c.args.load in
    let b = c.requires.begun in
    let fresh : c.is_fresh.result ≡ true = search rules in
    let is = c.in-Ok.ensures b.load b.at in
    let more = facts.visit_grown f c.args.realm.now k id b.load s c.is_fresh.result c.requires.joined c.requires.kept c.requires.module_at b.at c.is_fresh.ensures fresh in
    let inside = facts.module_record f c.args.realm.now k id c.requires.kept c.requires.module_at in
    let record_is = index_get c.args.realm.now.records.items id c.index.result.now inside c.index.ensures in
    record {
      joined = subst (λ v. AreJoined v (length R)) (sym is) (facts.visit_joined f c.args.realm.now k id b.load s c.is_fresh.result c.requires.joined c.requires.kept c.requires.module_at b.at c.is_fresh.ensures);
      known = subst (λ (v : Loads). KnowTargets v.urls R) (sym is) c.requires.known;
      grown = subst (Grown (length R) s f) (sym is) more.0;
      fresh = subst (λ v. freshness (length R) s v < freshness (length R) s f) (sym is) more.1;
      completes = λ maps m q.
          let x = url_at (urls_of f.urls.slots) k in
          let list : c.as_slice-targets.result.now ≡ targets (loading_of maps f R) x = c.as_slice-targets.ensures.value ∙ facts.targets_are maps f (length R) c.args.realm.now k id c.index.result.now c.requires.joined c.requires.kept c.requires.module_at record_is in
          steps.begun (loading_of maps f R) (loading_of maps c.visit.new.loads R) s x _ (tables.open_is maps R f s b.load b.at b.root b.open_is)
          (facts.fresh_told f c.args.realm.now k id b.load s c.is_fresh.result c.requires.joined c.requires.kept c.requires.module_at b.at c.is_fresh.ensures maps ∙ fresh)
          (ap (λ v. loading_of maps v R) is ∙ tables.visited_is maps R f s b.load b.at b.root id x b.open_is c.requires.kept (facts.id_at f (length R) k id c.requires.joined c.requires.module_at)) m (subst (λ ts. Asks (loading_of maps c.visit.new.loads R) s x 0 ts m) list q);
    }

pub is_open-requires : goal.is_open-requires
is_open-requires t c =
    let inside = slice_get_within c.args.loads.now.loads.items c.args.load c.requires.begun.load c.requires.begun.at in
    omega (arith, inside, c.loop-request.invariant.grown.loads)

pub set_stage-requires : goal.set_stage-requires
set_stage-requires t c =
    let inside = slice_get_within c.args.loads.now.loads.items c.args.load c.requires.begun.load c.requires.begun.at in
    omega (arith, inside, c.loop-request.invariant.grown.loads)

pub ask-requires-clause-load : goal.ask-requires-clause-load
ask-requires-clause-load t c =
    let inside = slice_get_within c.args.loads.now.loads.items c.args.load c.requires.begun.load c.requires.begun.at in
    omega (arith, inside, c.loop-request.invariant.grown.loads, c.loop-request.invariant.joined.counts)

pub ask-requires-clause-fits : goal.ask-requires-clause-fits
ask-requires-clause-fits t c = c.loop-request.invariant.joined.queues

pub find_target-at-requires : goal.find_target-at-requires
find_target-at-requires t c k x =
    let R = records_of c.args.realm.now in
    let f = c.args.loads.now in
    let u = c.index-targets-request.result in
    let i = c.loop-request.request in
    let target = index_get c.as_slice-targets.result.now i u (omega arith) c.index-targets-request.is in
    let inside = facts.module_record f c.args.realm.now c.args.place c.args.id.0 c.requires.kept c.requires.module_at in
    let record_is = facts.record_at c.args.realm.now.records.items c.args.id.0 c.index.result.now (index_get c.args.realm.now.records.items c.args.id.0 c.index.result.now inside c.index.ensures) in
    c.loop-request.invariant.known.right c.args.id.0 i k u x (places.target_at R c.args.id.0 i _ u record_is (ap (λ ts. slice_get ts i) (sym c.as_slice-targets.ensures.value) ∙ target))

pub target_state-requires : goal.target_state-requires
target_state-requires t c = facts.found_within c.loop-request.loads.urls.slots c.index-targets-request.result c.find_target-at.result c.find_target-at.ensures (length c.loop-request.loads.urls.slots) refl

pub ask-requires-clause-within : goal.ask-requires-clause-within
ask-requires-clause-within t c = facts.found_within c.loop-request.loads.urls.slots c.index-targets-request.result c.find_target-at.result c.find_target-at.ensures (length c.loop-request.loads.queues.queues) c.loop-request.invariant.joined.queues

pub returns-then-not-is_open-clause-enters : goal.returns-then-not-is_open-clause-enters
returns-then-not-is_open-clause-enters t c maps =
    let l = c.loop-request.loads in
    let inside = slice_get_within c.args.loads.now.loads.items c.args.load c.requires.begun.load c.requires.begun.at in
    let over : c.is_open.result ≡ false = search rules in
    c.loop-request.invariant.completes maps _ (steps.stood_over _ _ _ c.as_slice-targets.result.now c.loop-request.request
    (facts.is_over l c.args.load (omega (arith, inside, c.loop-request.invariant.grown.loads)) c.is_open.result c.is_open.ensures maps (records_of c.args.realm.now) over))

pub returns-in-Err-ask-clause-limit : goal.returns-in-Err-ask-clause-limit
returns-in-Err-ask-clause-limit t c maps limit e =
    let f = c.args.loads.now in
    let l = c.loop-request.loads in
    let R = records_of c.args.realm.now in
    let s = c.args.load in
    let x = url_at (urls_of f.urls.slots) c.args.place in
    let h = c.loop-request.invariant in
    let u = c.index-targets-request.result in
    let inside = slice_get_within f.loads.items s c.requires.begun.load c.requires.begun.at in
    let on : c.is_open.result ≡ true = search rules in
    let b = facts.goes_on l s (omega (arith, inside, h.grown.loads)) c.is_open.result c.is_open.ensures on in
    let target = index_get c.as_slice-targets.result.now c.loop-request.request u (omega arith) c.index-targets-request.is in
    let kept = facts.records_grown (length R) s f l R c.requires.kept h.grown in
    let none = facts.told (trees_of l) R l.urls.slots u c.find_target-at.result target_states.Fetching kept c.find_target-at.ensures (sym c.in-Fetching.is ∙ c.target_state.ensures) in
    let asks = same_err {A = Unit {0}} {B = ℕ} (Err c.in-Err-ask.end) (Err c.in-Err-ask.end) c.in-Err-ask.end (Fault limit) refl refl e in
    let full = c.in-Err-ask.ensures.limit limit asks in
    let stop = facts.asked_limit maps R l u (Request s x c.loop-request.request) limit (sym c.find_target-at.ensures ∙ full.0) full.1 full.2 in
    let is = facts.asked_full maps R l u (Request s x c.loop-request.request) limit (sym c.find_target-at.ensures ∙ full.0) full.1 full.2 in
    subst (λ v. Enters (loading_of maps f R) s x (stopped_by (loading_of maps v R) limit)) (sym (c.in-Err-ask.ensures.same limit asks))
    (subst (Enters (loading_of maps f R) s x) (sym is) (h.completes maps _ (steps.asked_stops (loading_of maps l R) s x c.as_slice-targets.result.now c.loop-request.request u target _ (tables.open_is maps R l s b.load b.at b.root b.open_is) limit none stop)))

pub returns-in-Err-ask-clause-going : goal.returns-in-Err-ask-clause-going
returns-in-Err-ask-clause-going t c limit e =
    let f = c.args.loads.now in
    let l = c.loop-request.loads in
    let s = c.args.load in
    let h = c.loop-request.invariant in
    let inside = slice_get_within f.loads.items s c.requires.begun.load c.requires.begun.at in
    let on : c.is_open.result ≡ true = search rules in
    let asks = same_err {A = Unit {0}} {B = ℕ} (Err c.in-Err-ask.end) (Err c.in-Err-ask.end) c.in-Err-ask.end (Fault limit) refl refl e in
    subst (λ v. IsLoading v s) (sym (c.in-Err-ask.ensures.same limit asks)) (facts.goes_on l s (omega (arith, inside, h.grown.loads)) c.is_open.result c.is_open.ensures on)

pub enter-requires : goal.enter-requires
enter-requires t c =
    let f = c.args.loads.now in
    let l = c.loop-request.loads in
    let R = records_of c.args.realm.now in
    let s = c.args.load in
    let h = c.loop-request.invariant in
    let inside = slice_get_within f.loads.items s c.requires.begun.load c.requires.begun.at in
    let on : c.is_open.result ≡ true = search rules in
    let b = facts.goes_on l s (omega (arith, inside, h.grown.loads)) c.is_open.result c.is_open.ensures on in
    let kept = facts.records_grown (length R) s f l R c.requires.kept h.grown in
    let stood = facts.told [] R l.urls.slots c.index-targets-request.result c.find_target-at.result (target_states.Module c.in-Module.found c.in-Module.module) kept c.find_target-at.ensures (sym c.in-Module.is ∙ c.target_state.ensures) in
    (omega (arith, c.decreases, h.fresh), (h.joined, (kept, (c.requires.sound, (h.known, (stood.3, b))))))

pub returns-in-Err-enter-clause-limit : goal.returns-in-Err-enter-clause-limit
returns-in-Err-enter-clause-limit t c maps limit e =
    let f = c.args.loads.now in
    let l = c.loop-request.loads in
    let R = records_of c.args.realm.now in
    let s = c.args.load in
    let x = url_at (urls_of f.urls.slots) c.args.place in
    let h = c.loop-request.invariant in
    let u = c.index-targets-request.result in
    let inside = slice_get_within f.loads.items s c.requires.begun.load c.requires.begun.at in
    let on : c.is_open.result ≡ true = search rules in
    let b = facts.goes_on l s (omega (arith, inside, h.grown.loads)) c.is_open.result c.is_open.ensures on in
    let target = index_get c.as_slice-targets.result.now c.loop-request.request u (omega arith) c.index-targets-request.is in
    let kept = facts.records_grown (length R) s f l R c.requires.kept h.grown in
    let stood = facts.told (trees_of l) R l.urls.slots u c.find_target-at.result (target_states.Module c.in-Module.found c.in-Module.module) kept c.find_target-at.ensures (sym c.in-Module.is ∙ c.target_state.ensures) in
    let end = stopped_by (loading_of maps c.enter.new.loads R) limit in
    h.completes maps end (steps.loaded_stops (loading_of maps l R) s x c.as_slice-targets.result.now c.loop-request.request u target _ (tables.open_is maps R l s b.load b.at b.root b.open_is) end limit stood.0 stood.1 stood.2 (subst (λ u. Enters (loading_of maps l R) s u end) stood.4 (c.in-Err-enter.ensures.limit maps limit e)) refl)

pub keep-requires : goal.keep-requires
keep-requires t c = facts.asked_few c.loop-request.loads (length (records_of c.args.realm.now)) c.in-Ok-ask.asked c.index-targets-request.result c.find_target-at.result c.loop-request.invariant.joined c.find_target-at.ensures c.in-Ok-ask.ensures.room c.in-Ok-ask.ensures.place

pub keep-requires-in-Ok-enter : goal.keep-requires-in-Ok-enter
keep-requires-in-Ok-enter t c =
    let l = c.loop-request.loads in
    let stands = sym c.find_target-at.ensures ∙ facts.found_at l.urls.slots c.find_target-at.result c.in-Module.found c.in-Module.module (sym c.in-Module.is ∙ c.target_state.ensures) in
    facts.place_few l (length (records_of c.args.realm.now)) c.in-Module.found c.index-targets-request.result c.loop-request.invariant.joined stands

pub loop-request-preserved : goal.loop-request-preserved
loop-request-preserved t c =
    let f = c.args.loads.now in
    let l = c.loop-request.loads in
    let R = records_of c.args.realm.now in
    let n = length R in
    let s = c.args.load in
    let k = c.args.place in
    let x = url_at (urls_of f.urls.slots) k in
    let h = c.loop-request.invariant in
    let ts = c.as_slice-targets.result.now in
    let i = c.loop-request.request in
    let u = c.index-targets-request.result in
    let inside = slice_get_within f.loads.items s c.requires.begun.load c.requires.begun.at in
    let on : c.is_open.result ≡ true = search rules in
    let b = facts.goes_on l s (omega (arith, inside, h.grown.loads)) c.is_open.result c.is_open.ensures on in
    let target = index_get ts i u (omega arith) c.index-targets-request.is in
    let kept = facts.records_grown n s f l R c.requires.kept h.grown in
    let mine = facts.module_grown n s f l k c.args.id.0 c.requires.module_at h.grown in
    let source = slice_get_within l.urls.slots k mine.slot mine.at in
    let here = facts.url_grown n s f l k c.args.id.0 c.requires.module_at h.grown in
    let record_within = facts.module_record f c.args.realm.now k c.args.id.0 c.requires.kept c.requires.module_at in
    let record_is = facts.record_at c.args.realm.now.records.items c.args.id.0 c.index.result.now (index_get c.args.realm.now.records.items c.args.id.0 c.index.result.now record_within c.index.ensures) in
    let own = ap (λ ts. slice_get ts i) (sym c.as_slice-targets.ensures.value) ∙ target in
    let usable = facts.target_usable R c.args.id.0 _ i u c.requires.sound record_is own in
    let requested = places.target_at R c.args.id.0 i _ u record_is own in
    elim c.match-target_state.branch [
      | in-Fetching+in-Ok-ask w ↦
          let new = w.ask.new.loads in
          let asks = w.in-Ok-ask.ensures.asks in
          let room = w.in-Ok-ask.ensures.room in
          let fetching = λ (j : ℕ) (r : Slot) (e : c.find_target-at.result ≡ Some j) (g : slice_get l.urls.slots j ≡ Some r). facts.open_target l.urls.slots j r (ap (Rattle.esm_loads.specs.Inner.Steps.target_at l.urls.slots) (sym e) ∙ (sym c.target_state.ensures ∙ w.in-Fetching.is)) g in
          let joined = subst (λ v. AreJoined v n) (sym asks) (tables.joined_ask l n u c.find_target-at.result _ h.joined source usable (sym c.find_target-at.ensures) room fetching) in
          let grown = subst (Grown n s l) (sym asks) (facts.grown_ask n s l u c.find_target-at.result _ _) in
          let stands = subst (λ (v : Loads). place_in (urls_of v.urls.slots) u ≡ Some w.in-Ok-ask.asked) (sym asks) (places.place_asked l u c.find_target-at.result (sym c.find_target-at.ensures) ∙ ap (λ k. Some k) (sym w.in-Ok-ask.ensures.place)) in
          let known : KnowTargets new.urls R = subst (λ (v : Loads). KnowTargets v.urls R) (sym asks) (places.known_asked l u c.find_target-at.result R h.known) in
          let kept_places = with_place new.urls.starts new.urls.places c.args.id.0 i w.in-Ok-ask.asked in
          let less : freshness n s new < freshness n s f = omega (arith, grown.fresh, h.fresh) in
          rw (w.loads-is, w.keep.ensures) (record {
            joined = tables.joined_placed new n kept_places joined;
            known = places.known_keep (urls_of new.urls.slots) new.urls.starts new.urls.places (all_targets R) known c.args.id.0 i u requested w.in-Ok-ask.asked stands;
            grown = facts.grown_placed n s f new kept_places (facts.grown_grown n s f l new h.grown grown);
            fresh = less;
            completes = λ maps m q.
                h.completes maps m (steps.asked_next (loading_of maps l R) s x ts i u target _ (tables.open_is maps R l s b.load b.at b.root b.open_is) (loading_of maps new R) m
                (facts.told (trees_of l) R l.urls.slots u c.find_target-at.result target_states.Fetching kept c.find_target-at.ensures (sym w.in-Fetching.is ∙ c.target_state.ensures))
                (ap (λ t. loading_of maps t R) asks ∙ (tables.asked_is maps R l n u c.find_target-at.result _ h.joined source (sym c.find_target-at.ensures) room ∙ ap (λ v. ask (loading_of maps l R) u (Request s v i)) here)) q);
          })
      | in-Throws w ↦
          let new = w.set_stage.new.loads in
          let is = w.set_stage.ensures b.load b.at in
          let stood = facts.told (trees_of l) R l.urls.slots u c.find_target-at.result (target_states.Throws w.in-Throws.cause) kept c.find_target-at.ensures (sym w.in-Throws.is ∙ c.target_state.ensures) in
          let grown = subst (Grown n s l) (sym is) (facts.throw_grown n l s b.load w.in-Throws.cause b.at) in
          rw w.loads-is (record {
            known = subst (λ (v : Loads). KnowTargets v.urls R) (sym is) h.known;
            joined = subst (λ v. AreJoined v n) (sym is) (facts.throw_joined l n s b.load w.in-Throws.cause h.joined b.at stood.3);
            grown = facts.grown_grown n s f l new h.grown grown;
            fresh = omega (arith, grown.fresh, h.fresh);
            completes = λ maps m q.
                let threw = ap (λ t. loading_of maps t R) is ∙ tables.threw_is maps R l s b.load b.at w.in-Throws.cause in
                h.completes maps m (steps.threw_next (loading_of maps l R) s x ts i u target _ (tables.open_is maps R l s b.load b.at b.root b.open_is) (loading_of maps new R) m stood.0 _ stood.1 stood.2 threw
                (ap (λ t. open_load (loading_of maps t R) s) is ∙ facts.throw_over maps R l s b.load w.in-Throws.cause b.at) q);
          })
      | in-Module+in-Ok-enter w ↦
          let new = w.enter.new.loads in
          let stood = facts.told (trees_of l) R l.urls.slots u c.find_target-at.result (target_states.Module w.in-Module.found w.in-Module.module) kept c.find_target-at.ensures (sym w.in-Module.is ∙ c.target_state.ensures) in
          let more = w.in-Ok-enter.ensures.grown in
          let stands = places.place_grown n s l new u w.in-Module.found more (sym c.find_target-at.ensures ∙ facts.found_at l.urls.slots c.find_target-at.result w.in-Module.found w.in-Module.module (sym w.in-Module.is ∙ c.target_state.ensures)) in
          let kept_places = with_place new.urls.starts new.urls.places c.args.id.0 i w.in-Module.found in
          let less : freshness n s new < freshness n s f = omega (arith, more.fresh, h.fresh) in
          rw (w.loads-is, w.keep-in-Ok-enter.ensures) (record {
            joined = tables.joined_placed new n kept_places w.in-Ok-enter.ensures.joined;
            known = places.known_keep (urls_of new.urls.slots) new.urls.starts new.urls.places (all_targets R) w.in-Ok-enter.ensures.known c.args.id.0 i u requested w.in-Module.found stands;
            grown = facts.grown_placed n s f new kept_places (facts.grown_grown n s f l new h.grown more);
            fresh = less;
            completes = λ maps m q.
                h.completes maps m (steps.loaded_next (loading_of maps l R) s x ts i u target _ (tables.open_is maps R l s b.load b.at b.root b.open_is) (loading_of maps new R) m stood.0 stood.1 stood.2
                (subst (λ u. Enters (loading_of maps l R) s u (loading_of maps new R)) stood.4 (w.in-Ok-enter.ensures.enters maps)) q);
          })
    ]

pub returns-clause-enters : goal.returns-clause-enters
returns-clause-enters t c maps = c.loop-request.invariant.completes maps _ (steps.asks_done _ _ _ c.as_slice-targets.result.now c.loop-request.request (omega arith))
