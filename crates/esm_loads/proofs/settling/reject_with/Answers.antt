use Rattle.esm_loads.proofs.HostFacts.{rejected}
use Rattle.esm_loads.proofs.settling.reject_with.Goals as goal

pub returns : goal.returns
returns c named errors l = rejected named c.args.promises.now c.settle.new.self errors l c.args.promise.0 c.args.error.0 c.settle.ensures
