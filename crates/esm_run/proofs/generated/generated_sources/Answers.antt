use Rattle.std.proofs.Common.{◌≡◌, ap₂, [], arith}
use Rattle.std.proofs.lemmas.List.Elements.{All-push}
use Rattle.esm_gen.specs.declared.source.GeneratedSource.{GeneratedSource}
use Rattle.esm_gen.specs.Generated.{generated_at}
use Rattle.esm_run.specs.Inner.Generating.{HoldsGenerated}
use Rattle.esm_run.proofs.generated.generated_sources.Goals as goal

pub loop-preserved : goal.loop-preserved
loop-preserved c =
    let one = c.in_ok-push.ensures.len in let all = c.loop.invariant.many in
    record {
      many = omega (arith, one, all);
      fresh = rw c.in_ok-push.ensures.items (All-push (λ (s : GeneratedSource). s.asked ≡ []) c.loop.sources.items c.new.result c.loop.invariant.fresh c.new.ensures.asked);
      holds = rw c.in_ok-push.ensures.items (All-push (HoldsGenerated c.args.generation.now) c.loop.sources.items c.new.result c.loop.invariant.holds (λ url. ap₂ (λ s n. generated_at s n url) c.new.ensures.start c.new.ensures.count));
    }
