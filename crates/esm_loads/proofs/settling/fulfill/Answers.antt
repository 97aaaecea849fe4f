use Rattle.esm_loads.proofs.HostFacts.{fulfilled}
use Rattle.esm_loads.proofs.settling.fulfill.Goals as goal

pub returns : goal.returns
returns c named errors l = fulfilled named c.args.promises.now c.settle.new.self errors l c.args.promise.0 c.settle.ensures
