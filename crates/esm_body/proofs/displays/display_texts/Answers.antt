use Rattle.esm_env.specs.Calls.{scopes_of}
use Rattle.esm_body.proofs.Shown.{leads_begin, leads_on, leads_end}
use Rattle.esm_body.proofs.displays.display_texts.Goals as goal

pub loop-value-init : goal.loop-value-init
loop-value-init g c = rw c.new-texts.ensures.items (leads_begin (g.I.Importer.modules (g.I.Importer.seen c.args.imports.now)) (g.I.Importer.linked (g.I.Importer.seen c.args.imports.now)) (scopes_of c.args.envs.now) c.args.errors.now c.args.values.now)

pub loop-value-preserved : goal.loop-value-preserved
loop-value-preserved g c =
    rw c.in_ok-push.ensures.items (leads_on (g.I.Importer.modules (g.I.Importer.seen c.args.imports.now)) (g.I.Importer.linked (g.I.Importer.seen c.args.imports.now)) (scopes_of c.args.envs.now) c.args.errors.now c.args.values.now c.loop-value.value-index _ c.loop-value.texts.items c.in_ok-text.text c.loop-value-test.true (rw c.value-item.is at c.in_ok-text.ensures) c.loop-value.invariant)

pub returns : goal.returns
returns g c = leads_end (g.I.Importer.modules (g.I.Importer.seen c.args.imports.now)) (g.I.Importer.linked (g.I.Importer.seen c.args.imports.now)) (scopes_of c.args.envs.now) c.args.errors.now c.args.values.now c.loop-value.value-index c.loop-value.texts.items c.loop-value-test.false c.loop-value.invariant
