use Rattle.std.proofs.Common.{true, ap, subst, ◌∙◌}
use Rattle.std.specs.Prelude.{Err}
use Rattle.esm_body.specs.Inner.Noting.{Notes}
use Rattle.esm_body.specs.declared.engine.Event.TheVariants as events
use Rattle.esm_env.specs.Calls.{scopes_of}
use Rattle.esm_base.specs.declared.module_id.ModuleId.{ModuleId}
use Rattle.esm_body.proofs.StartedLemmas.{begin_stopped, begun_at, begun_code, begun_fits, starts_end, starts_ready, went_stopped}
use Rattle.esm_body.proofs.Returned.{on_ok}
use Rattle.esm_body.proofs.engine.Engine.start.Goals as goal

pub begun-requires : goal.begun-requires
begun-requires g c = c.requires.ready.made.made c.args.m.0 c.requires.home

pub go_on-requires-clause-code : goal.go_on-requires-clause-code
go_on-requires-clause-code g c = begun_code g.I.Importer.seen g.I.ExportGraph.graph g.I.Importer.urls g.I.Importer.modules g.I.Importer.linked g.I.Importer.fits g.I.Importer.begins g.met.I.Importer.has_linked c.shared_set.ensures.agrees c.shared_set.ensures.ends g.met.I.Importer.lawful c.args.self.now (scopes_of c.args.envs.now) c.args.promises.now c.args.errors.now c.args.imports.now c.args.m c.requires.ready c.requires.home c.in-Ok-begun.now c.in-Ok-begun.ensures

pub go_on-requires-clause-fits : goal.go_on-requires-clause-fits
go_on-requires-clause-fits g c = (true, begun_fits g.I.Importer.seen g.I.ExportGraph.graph g.I.Importer.urls g.I.Importer.modules g.I.Importer.linked g.I.Importer.fits g.I.Importer.begins g.met.I.Importer.has_linked c.shared_set.ensures.agrees c.shared_set.ensures.ends g.met.I.Importer.lawful c.args.self.now (scopes_of c.args.envs.now) c.args.promises.now c.args.errors.now c.args.imports.now c.args.m c.requires.ready c.requires.home c.in-Ok-begun.now c.in-Ok-begun.ensures c.note.new.self (rw c.url.ensures at c.in-Ok.ensures) true (λ e. absurd cc))

pub end_segment-requires : goal.end_segment-requires
end_segment-requires g c = ap (λ (m : ModuleId). m.0) c.in-Ok-go_on.ensures.tells.at ∙ begun_at g.I.Importer.seen g.I.ExportGraph.graph g.I.Importer.urls g.I.Importer.modules g.I.Importer.linked g.I.Importer.fits g.I.Importer.begins g.met.I.Importer.has_linked c.shared_set.ensures.agrees c.shared_set.ensures.ends g.met.I.Importer.lawful c.args.self.now (scopes_of c.args.envs.now) c.args.promises.now c.args.errors.now c.args.imports.now c.args.m c.requires.ready c.requires.home c.in-Ok-begun.now c.in-Ok-begun.ensures

pub returns-in-Ok-go_on-clause-tells : goal.returns-in-Ok-go_on-clause-tells
returns-in-Ok-go_on-clause-tells g c =
    starts_end g.I.Importer.seen g.I.ExportGraph.graph g.I.Importer.urls g.I.Importer.modules g.I.Importer.linked g.I.Importer.fits g.I.Importer.begins g.met.I.Importer.has_linked c.shared_set.ensures.agrees c.shared_set.ensures.ends g.met.I.Importer.lawful c.args.self.now (scopes_of c.args.envs.now) c.args.promises.now c.args.errors.now c.args.imports.now c.args.m c.requires.ready c.requires.home c.in-Ok-begun.now c.in-Ok-begun.ensures c.note.new.self (rw c.url.ensures at c.in-Ok.ensures) true (λ e. absurd cc) c.go_on.new.self (scopes_of c.go_on.new.envs) c.go_on.new.promises c.go_on.new.errors c.go_on.new.imports c.in-Ok-go_on.halt c.in-Ok-go_on.ensures.tells c.end_segment.new.self c.end_segment.new.promises c.args.done.0 c.end_segment.result (c.end_segment.ensures.ends (scopes_of c.go_on.new.envs) c.go_on.new.errors)

pub returns-in-Ok-go_on-clause-ready : goal.returns-in-Ok-go_on-clause-ready
returns-in-Ok-go_on-clause-ready g c =
    starts_ready g.I.Importer.seen g.I.ExportGraph.graph g.I.Importer.urls g.I.Importer.modules g.I.Importer.linked g.I.Importer.fits g.I.Importer.begins g.met.I.Importer.has_linked c.shared_set.ensures.agrees c.shared_set.ensures.ends g.met.I.Importer.lawful c.args.self.now (scopes_of c.args.envs.now) c.args.promises.now c.args.errors.now c.args.imports.now c.args.m c.requires.ready c.requires.home c.in-Ok-begun.now c.in-Ok-begun.ensures c.note.new.self (rw c.url.ensures at c.in-Ok.ensures) true (λ e. absurd cc) c.go_on.new.self (scopes_of c.go_on.new.envs) c.go_on.new.promises c.go_on.new.errors c.go_on.new.imports c.in-Ok-go_on.halt c.in-Ok-go_on.ensures.tells c.end_segment.new.self c.end_segment.new.promises c.args.done c.end_segment.result c.in-Ok-go_on.ensures.stands
    (starts_end g.I.Importer.seen g.I.ExportGraph.graph g.I.Importer.urls g.I.Importer.modules g.I.Importer.linked g.I.Importer.fits g.I.Importer.begins g.met.I.Importer.has_linked c.shared_set.ensures.agrees c.shared_set.ensures.ends g.met.I.Importer.lawful c.args.self.now (scopes_of c.args.envs.now) c.args.promises.now c.args.errors.now c.args.imports.now c.args.m c.requires.ready c.requires.home c.in-Ok-begun.now c.in-Ok-begun.ensures c.note.new.self (rw c.url.ensures at c.in-Ok.ensures) true (λ e. absurd cc) c.go_on.new.self (scopes_of c.go_on.new.envs) c.go_on.new.promises c.go_on.new.errors c.go_on.new.imports c.in-Ok-go_on.halt c.in-Ok-go_on.ensures.tells c.end_segment.new.self c.end_segment.new.promises c.args.done.0 c.end_segment.result (c.end_segment.ensures.ends (scopes_of c.go_on.new.envs) c.go_on.new.errors))
    c.end_segment.ensures.stands

pub returns-in-Err-go_on-clause-tells : goal.returns-in-Err-go_on-clause-tells
returns-in-Err-go_on-clause-tells g c = went_stopped g.I.Importer.seen g.I.ExportGraph.graph g.I.Importer.urls g.I.Importer.modules g.I.Importer.linked g.I.Importer.fits g.I.Importer.begins g.met.I.Importer.has_linked c.shared_set.ensures.agrees c.shared_set.ensures.ends g.met.I.Importer.lawful c.args.self.now (scopes_of c.args.envs.now) c.args.promises.now c.args.errors.now c.args.imports.now c.args.m c.requires.ready c.requires.home c.in-Ok-begun.now c.in-Ok-begun.ensures c.note.new.self (rw c.url.ensures at c.in-Ok.ensures) true (λ e. absurd cc) _ (scopes_of c.go_on.new.envs) c.args.done.0 c.in-Err-go_on.stop c.in-Err-go_on.ensures.tells

pub returns-in-Err-clause-tells : goal.returns-in-Err-clause-tells
returns-in-Err-clause-tells g c = begin_stopped g.I.Importer.seen g.I.ExportGraph.graph g.I.Importer.urls g.I.Importer.modules g.I.Importer.linked g.I.Importer.fits g.I.Importer.begins g.met.I.Importer.has_linked c.shared_set.ensures.agrees c.shared_set.ensures.ends g.met.I.Importer.lawful c.args.self.now (scopes_of c.args.envs.now) c.args.promises.now c.args.errors.now c.args.imports.now c.args.m c.requires.ready c.requires.home c.note.new.self c.args.done.0 c.in-Err.stop (subst (λ u. Notes c.args.self.now (events.Begins c.args.m) u (Err c.in-Err.stop) c.note.new.self) c.url.ensures c.in-Err.ensures)

pub returns-in-Ok-go_on-clause-scopes : goal.returns-in-Ok-go_on-clause-scopes
returns-in-Ok-go_on-clause-scopes g c = on_ok c.end_segment.result c.in-Ok-go_on.ensures.scopes
