use Rattle.std.proofs.Common.{subst}
use Rattle.esm_ast.specs.Outcome.{outcome_view}
use Rattle.esm_loads.specs.Arrival.{AreResolved}
use Rattle.esm_machine.proofs.Arriving.{fetched_sound, leads_fetched, leads_stopped, maps_seen}
use Rattle.esm_machine.proofs.turn.arrive.Goals as goal

pub arrive_resolved-requires-clause-whole : goal.arrive_resolved-requires-clause-whole
arrive_resolved-requires-clause-whole c = c.requires.sound.order.whole

pub arrive_resolved-requires-clause-targets : goal.arrive_resolved-requires-clause-targets
arrive_resolved-requires-clause-targets c =
    subst (λ m. AreResolved m c.args.url.now (outcome_view c.args.outcome.now) c.args.targets.now) (maps_seen c.args.parts.now.host.bodies.imports) c.requires.targets

pub returns-in-Ok-add_node-clause-fetched : goal.returns-in-Ok-add_node-clause-fetched
returns-in-Ok-add_node-clause-fetched c =
    leads_fetched c.args.parts.now c.args.url.now (outcome_view c.args.outcome.now) c.arrive_resolved.new.errors c.arrive_resolved.new.self c.requires.sound c.count-had.result c.count-had.ensures c.requires.«open» c.requires.tree
    c.in-Ok.ensures.fetches c.in-Ok.ensures.urls c.in-Ok.ensures.linked c.in-Ok.ensures.condition c.known.ensures c.records_show.ensures c.arrivals_are_of_the_world.ensures c.add_node.new.parts c.in-Ok-add_node.ensures

pub returns-in-Ok-add_node-clause-sound : goal.returns-in-Ok-add_node-clause-sound
returns-in-Ok-add_node-clause-sound c =
    fetched_sound c.args.parts.now c.args.url.now (outcome_view c.args.outcome.now) c.arrive_resolved.new.errors c.arrive_resolved.new.self c.requires.sound c.count-had.result c.count-had.ensures c.requires.«open» c.requires.tree
    c.in-Ok.ensures.fetches c.in-Ok.ensures.urls c.in-Ok.ensures.linked c.in-Ok.ensures.condition c.known.ensures c.records_show.ensures c.arrivals_are_of_the_world.ensures c.worlds_stay_sound.ensures.steps c.scopes_stay.ensures c.add_node.new.parts c.in-Ok-add_node.ensures

pub returns-in-Err-clause-fetched : goal.returns-in-Err-clause-fetched
returns-in-Err-clause-fetched c =
    leads_stopped c.args.parts.now c.args.url.now (outcome_view c.args.outcome.now) c.arrive_resolved.new.errors c.arrive_resolved.new.self c.in-Err.end c.in-Err.ensures.fetches c.arrivals_are_of_the_world.ensures
