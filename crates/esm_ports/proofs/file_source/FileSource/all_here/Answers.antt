use Rattle.std.proofs.Common.{◌≡◌, List, [], arith}
use Rattle.std.proofs.lemmas.List.Elements.{All-push}
use Rattle.esm_ports.specs.declared.asked.Asked.{Asked}
use Rattle.esm_ports.proofs.file_source.FileSource.all_here.Goals as goal

pub loop-preserved : goal.loop-preserved
loop-preserved g c = record {
  count = omega (arith, c.loop.invariant.count, c.in_ok-push.ensures.len);
  fresh = rw c.in_ok-push.ensures.items (All-push (λ (s : List Asked). s ≡ []) c.loop.sources.items c.in_ok-source.source c.loop.invariant.fresh c.in_ok-source.ensures);
}
