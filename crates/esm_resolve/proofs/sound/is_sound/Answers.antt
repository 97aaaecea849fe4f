use Rattle.std.proofs.Common.{◌≡◌, arith, rules, true}
use Rattle.esm_resolve.specs.Inner.Inside.{is_sound_at}
use Rattle.esm_resolve.proofs.AllSound.{all_sound, passes}
use Rattle.esm_resolve.proofs.sound.is_sound.Goals as goal

pub returns-then-not-is_sound_at : goal.returns-then-not-is_sound_at
returns-then-not-is_sound_at g c =
    let graph = g.G.ExportGraph.graph c.args.graph.now in (
      λ h. absurd (cc h),
      λ sound.
          let pass : is_sound_at graph c.loop-x.x ≡ true = passes graph sound c.loop-x.x (omega (arith, c.loop-x-test.true, c.size-x-end.ensures)) in
          absurd (cc (pass, c.is_sound_at.ensures, c.if-not-is_sound_at.true)),
    )

pub returns : goal.returns
returns g c =
    let graph = g.G.ExportGraph.graph c.args.graph.now in
    (λ h. all_sound graph (λ x below. c.loop-x.invariant x (omega (arith, below, c.loop-x-test.false, c.size-x-end.ensures))), λ sound. search rules)
