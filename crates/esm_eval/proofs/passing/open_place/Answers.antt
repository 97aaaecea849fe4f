use Rattle.std.proofs.Common.{length, refl}
use Rattle.esm_eval.proofs.Inner.Passing as passing
use Rattle.esm_eval.proofs.Inner.Tables as tables
use Rattle.esm_eval.proofs.passing.open_place.Goals as goal

pub returns : goal.returns
returns c = passing.passes_to c.args.nodes.now c.args.y c.index-nodes-y.result c.as_slice.result.now c.open_from.result (tables.reads c.args.nodes.now (length c.args.nodes.now) c.args.y c.index-nodes-y.result refl c.requires c.index-nodes-y.is) c.as_slice.ensures.value c.open_from.ensures.within c.open_from.ensures.passed
