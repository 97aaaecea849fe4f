use Rattle.esm_env.specs.Calls.{scopes_of}
use Rattle.esm_body.proofs.Shown.{LeadsOn}
use Rattle.esm_body.proofs.displays.display_texts.Given as goal

abbrev pub invariant-loop-value : goal.invariant-loop-value
invariant-loop-value g l = LeadsOn (g.I.Importer.modules (g.I.Importer.seen l.imports)) (g.I.Importer.linked (g.I.Importer.seen l.imports)) (scopes_of l.envs) l.errors l.values l.value-index l.texts.items
