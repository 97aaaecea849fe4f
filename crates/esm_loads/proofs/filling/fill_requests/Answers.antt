-- Each request in its turn.
use Rattle.std.proofs.Common.{◌≡◌, Some, ◌+◌, ◌<◌, ◌∙◌, sym, subst, length, arith, refl}
use Rattle.std.specs.Prelude.{slice_get}
use Rattle.esm_realm.specs.Sound.{RecordParts, records_of}
use Rattle.esm_loads.specs.LoadsView.{urls_of}
use Rattle.esm_loads.specs.Inner.Filling.{AreIdsBelow, Fills}
use Rattle.esm_loads.proofs.Places.{get_within, some_is}
use Rattle.esm_loads.proofs.FillFacts as facts
use Rattle.esm_loads.proofs.KnownPlaces.{fills_targets, known_same}
use Rattle.esm_loads.proofs.filling.fill_requests.Goals as goal

pub loop-request-init : goal.loop-request-init
loop-request-init c = record {
  fills = λ r e. facts.fills_none c.args.urls.now.slots (records_of c.args.realm.now) c.args.id.0 r e;
  sound = c.requires.sound;
  long = refl;
}

pub fill_request-requires-clause-below : goal.fill_request-requires-clause-below
fill_request-requires-clause-below c = subst (AreIdsBelow c.args.urls.now.slots) (sym c.loop-request.invariant.long) c.requires.below

pub fill_request-requires-clause-known : goal.fill_request-requires-clause-known
fill_request-requires-clause-known c =
    let v = c.args.urls.now in
    let R = records_of c.args.realm.now in
    let r = get_within R c.args.id.0 c.requires.id in
    let same = fills_targets v.slots c.loop-request.request c.args.id.0 r.0 R (records_of c.loop-request.realm) r.1 (c.loop-request.invariant.fills r.0 r.1) in
    known_same (urls_of v.slots) v.starts v.places R (records_of c.loop-request.realm) same c.requires.known

pub fill_request-requires-clause-id : goal.fill_request-requires-clause-id
fill_request-requires-clause-id c = subst (λ n. c.args.id.0 < n) (sym c.loop-request.invariant.long) c.requires.id

pub fill_request-requires-clause-request : goal.fill_request-requires-clause-request
fill_request-requires-clause-request c q e =
    let R = records_of c.args.realm.now in
    let r = get_within R c.args.id.0 c.requires.id in
    let f = c.loop-request.invariant.fills r.0 r.1 in
    let same = some_is (sym (facts.fills_at c.args.urls.now.slots c.loop-request.request c.args.id.0 r.0 R (records_of c.loop-request.realm) r.1 f) ∙ e) in
    let many = c.requests_of-many.ensures r.0 r.1 in
    let l : c.loop-request.request < length r.0.targets = omega (arith, many) in
    subst (λ (q : RecordParts). c.loop-request.request < length q.targets) same l

pub loop-request-preserved : goal.loop-request-preserved
loop-request-preserved c =
    let R = records_of c.args.realm.now in
    let r = get_within R c.args.id.0 c.requires.id in
    let many = c.requests_of-many.ensures r.0 r.1 in
    let l : c.loop-request.request < length r.0.targets = omega (arith, many) in
    let next : (q : RecordParts) → slice_get R c.args.id.0 ≡ Some q → Fills c.args.urls.now.slots (c.loop-request.request + 1) c.args.id.0 q R (records_of c.fill_request.new.realm) = λ q e. facts.fills_next c.args.urls.now.slots c.loop-request.request c.args.id.0 q R (records_of c.loop-request.realm) (records_of c.fill_request.new.realm) e
    (subst (λ (q : RecordParts). c.loop-request.request < length q.targets) (some_is (sym r.1 ∙ e)) l) (facts.as_many_places R c.args.id.0 q c.requires.sound e) (c.loop-request.invariant.fills q e) c.fill_request.ensures.loads in
    record {
      fills = next;
      sound = c.fill_request.ensures.sound;
      long = facts.fills_long c.args.urls.now.slots (c.loop-request.request + 1) c.args.id.0 r.0 R (records_of c.fill_request.new.realm) (next r.0 r.1);
    }

pub returns-clause-fills : goal.returns-clause-fills
returns-clause-fills c r e =
    let many = c.requests_of-many.ensures r e in
    facts.fills_all c.args.urls.now.slots c.loop-request.request c.args.id.0 r (records_of c.args.realm.now) (records_of c.loop-request.realm) (omega (arith, many)) (c.loop-request.invariant.fills r e)
