-- What is asked of the definition is so in the tables.
use Rattle.std.proofs.Common.{◌≡◌, true, sym, subst}
use Rattle.esm_base.specs.Urls.{has}
use Rattle.esm_realm.specs.Sound.{records_of}
use Rattle.esm_loads.proofs.Arrived.{none_pending}
use Rattle.esm_loads.proofs.PublicFacts.{asks_are}
use Rattle.esm_loads.proofs.loads.Loads.arrive_resolved.Goals as goal

pub arrive-requires-clause-open : goal.arrive-requires-clause-open
arrive-requires-clause-open c = subst (λ us. has us c.args.url.now ≡ true) (sym (asks_are c.args.map.now (records_of c.args.realm.now) c.args.self.now c.requires.fits)) c.requires.open

pub arrive-requires-clause-answered : goal.arrive-requires-clause-answered
arrive-requires-clause-answered c = none_pending c.args.map.now (records_of c.args.realm.now) c.args.self.now c.requires.fits c.requires.answered
