-- What is asked of the definition is so in the tables.
use Rattle.std.proofs.Common.{◌≡◌, true, sym, subst}
use Rattle.esm_base.specs.Urls.{has}
use Rattle.esm_realm.specs.Sound.{records_of}
use Rattle.esm_loads.proofs.Arrived.{none_pending, url_usable}
use Rattle.esm_loads.proofs.ArrivedEntry.{open_listed}
use Rattle.esm_loads.proofs.PublicFacts.{asks_are}
use Rattle.esm_loads.proofs.loads.Loads.arrive.Goals as goal

pub resolve-requires : goal.resolve-requires
resolve-requires c =
    let url = c.args.url.now in
    let open_in = subst (λ us. has us url ≡ true) (sym (asks_are c.args.map.now (records_of c.args.realm.now) c.args.self.now c.requires.fits)) c.requires.open in
    let found = open_listed c.args.self.now.urls.slots url open_in in
    url_usable c.args.self.now (records_of c.args.realm.now) found.0 url c.requires.fits found.1

pub arrive-requires-clause-open : goal.arrive-requires-clause-open
arrive-requires-clause-open c = subst (λ us. has us c.args.url.now ≡ true) (sym (asks_are c.args.map.now (records_of c.args.realm.now) c.args.self.now c.requires.fits)) c.requires.open

pub arrive-requires-clause-answered : goal.arrive-requires-clause-answered
arrive-requires-clause-answered c = none_pending c.args.map.now (records_of c.args.realm.now) c.args.self.now c.requires.fits c.requires.answered
