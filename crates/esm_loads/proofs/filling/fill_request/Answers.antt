-- By the module under the target.
use Rattle.std.proofs.Common.{refl}
use Rattle.esm_realm.specs.Sound.{records_of}
use Rattle.esm_loads.proofs.Places.{get_within}
use Rattle.esm_loads.proofs.KnownPlaces.{target_at}
use Rattle.esm_loads.proofs.FillFacts as facts
use Rattle.esm_loads.proofs.filling.fill_request.Goals as goal

pub module_under-found-requires : goal.module_under-found-requires
module_under-found-requires c k x =
    let R = records_of c.args.realm.now in
    let r = get_within R c.args.id.0 c.requires.id in
    c.requires.known.right c.args.id.0 c.args.request k c.target_of.result.now x (target_at R c.args.id.0 c.args.request r.0 c.target_of.result.now r.1 (c.target_of.ensures r.0 r.1))

pub load_request-requires-clause-request : goal.load_request-requires-clause-request
load_request-requires-clause-request c = facts.request_within (records_of c.args.realm.now) c.args.id.0 c.args.request c.requires.sound c.requires.id c.requires.request

pub load_request-requires-clause-target : goal.load_request-requires-clause-target
load_request-requires-clause-target c = c.requires.below c.target_of.result.now c.in-Some.target.0 c.in-Some.ensures.some

pub returns-in-Some-clause-loads : goal.returns-in-Some-clause-loads
returns-in-Some-clause-loads c r u at e =
    facts.loads_some c.args.urls.now.slots (records_of c.args.realm.now) (records_of c.load_request.new.self) c.args.id.0 c.args.request c.in-Some.target r u c.target_of.result.now at c.load_request.ensures.loaded c.in-Some.ensures.some (c.target_of.ensures r at) e

pub returns-in-None-clause-loads : goal.returns-in-None-clause-loads
returns-in-None-clause-loads c r u at e =
    facts.loads_none c.args.urls.now.slots (records_of c.args.realm.now) c.args.id.0 c.args.request r u c.target_of.result.now at (c.in-None.ensures.none refl) (c.target_of.ensures r at) e
