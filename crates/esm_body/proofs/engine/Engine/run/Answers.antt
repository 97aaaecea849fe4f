use Rattle.std.proofs.Common.{false, subst}
use Rattle.std.specs.Prelude.{Err}
use Rattle.esm_body.specs.Inner.Noting.{Notes}
use Rattle.esm_body.specs.declared.engine.Event.TheVariants as events
use Rattle.esm_env.specs.Calls.{scopes_of}
use Rattle.esm_body.proofs.StartedLemmas.{begun_code, begun_fits, ran_stopped, run_stopped, runs_end, runs_final, runs_known, runs_ready}
use Rattle.std.proofs.Common.{refl}
use Rattle.esm_body.proofs.Returned.{on_ok}
use Rattle.esm_body.proofs.engine.Engine.run.Goals as goal

pub begun-requires : goal.begun-requires
begun-requires g c = c.requires.ready.made.made c.args.m.0 c.requires.home

pub go_on-requires-clause-code : goal.go_on-requires-clause-code
go_on-requires-clause-code g c = begun_code g.I.Importer.seen g.I.ExportGraph.graph g.I.Importer.urls g.I.Importer.modules g.I.Importer.linked g.I.Importer.fits g.I.Importer.begins g.met.I.Importer.has_linked c.shared_set.ensures.agrees c.shared_set.ensures.ends g.met.I.Importer.lawful c.args.self.now (scopes_of c.args.envs.now) c.args.promises.now c.args.errors.now c.args.imports.now c.args.m c.requires.ready c.requires.home c.in-Ok-begun.now c.in-Ok-begun.ensures

pub go_on-requires-clause-fits : goal.go_on-requires-clause-fits
go_on-requires-clause-fits g c = (false, begun_fits g.I.Importer.seen g.I.ExportGraph.graph g.I.Importer.urls g.I.Importer.modules g.I.Importer.linked g.I.Importer.fits g.I.Importer.begins g.met.I.Importer.has_linked c.shared_set.ensures.agrees c.shared_set.ensures.ends g.met.I.Importer.lawful c.args.self.now (scopes_of c.args.envs.now) c.args.promises.now c.args.errors.now c.args.imports.now c.args.m c.requires.ready c.requires.home c.in-Ok-begun.now c.in-Ok-begun.ensures c.note.new.self (rw c.url.ensures at c.in-Ok.ensures) false (λ e. c.requires.ends))

pub end_body-requires : goal.end_body-requires
end_body-requires g c = runs_final g.I.Importer.seen g.I.ExportGraph.graph g.I.Importer.urls g.I.Importer.modules g.I.Importer.linked g.I.Importer.fits g.I.Importer.begins g.met.I.Importer.has_linked c.shared_set.ensures.agrees c.shared_set.ensures.ends g.met.I.Importer.lawful c.args.self.now (scopes_of c.args.envs.now) c.args.promises.now c.args.errors.now c.args.imports.now c.args.m c.requires.ready c.requires.home c.in-Ok-begun.now c.in-Ok-begun.ensures c.note.new.self (rw c.url.ensures at c.in-Ok.ensures) false (λ e. c.requires.ends) c.go_on.new.self (scopes_of c.go_on.new.envs) c.go_on.new.promises c.go_on.new.errors c.go_on.new.imports c.in-Ok-go_on.halt c.in-Ok-go_on.ensures.tells refl

pub returns-in-Ok-go_on-clause-tells : goal.returns-in-Ok-go_on-clause-tells
returns-in-Ok-go_on-clause-tells g c =
    runs_end g.I.Importer.seen g.I.ExportGraph.graph g.I.Importer.urls g.I.Importer.modules g.I.Importer.linked g.I.Importer.fits g.I.Importer.begins g.met.I.Importer.has_linked c.shared_set.ensures.agrees c.shared_set.ensures.ends g.met.I.Importer.lawful c.args.self.now (scopes_of c.args.envs.now) c.args.promises.now c.args.errors.now c.args.imports.now c.args.m c.requires.ready c.requires.home c.in-Ok-begun.now c.in-Ok-begun.ensures c.note.new.self (rw c.url.ensures at c.in-Ok.ensures) false (λ e. c.requires.ends) c.go_on.new.self (scopes_of c.go_on.new.envs) c.go_on.new.promises c.go_on.new.errors c.go_on.new.imports c.in-Ok-go_on.halt c.in-Ok-go_on.ensures.tells c.end_body.new.self c.end_body.result (c.end_body.ensures.ends c.in-Ok-go_on.halt.body (scopes_of c.go_on.new.envs) c.go_on.new.promises c.go_on.new.errors)

pub returns-in-Ok-go_on-clause-ready : goal.returns-in-Ok-go_on-clause-ready
returns-in-Ok-go_on-clause-ready g c =
    runs_ready g.I.Importer.seen g.I.ExportGraph.graph g.I.Importer.urls g.I.Importer.modules g.I.Importer.linked g.I.Importer.fits g.I.Importer.begins g.met.I.Importer.has_linked c.shared_set.ensures.agrees c.shared_set.ensures.ends g.met.I.Importer.lawful c.args.self.now (scopes_of c.args.envs.now) c.args.promises.now c.args.errors.now c.args.imports.now c.args.m c.requires.ready c.requires.home c.in-Ok-begun.now c.in-Ok-begun.ensures c.note.new.self (rw c.url.ensures at c.in-Ok.ensures) false (λ e. c.requires.ends) c.go_on.new.self (scopes_of c.go_on.new.envs) c.go_on.new.promises c.go_on.new.errors c.go_on.new.imports c.in-Ok-go_on.halt c.in-Ok-go_on.ensures.tells c.end_body.new.self c.end_body.result c.in-Ok-go_on.ensures.stands c.requires.ends
    (runs_end g.I.Importer.seen g.I.ExportGraph.graph g.I.Importer.urls g.I.Importer.modules g.I.Importer.linked g.I.Importer.fits g.I.Importer.begins g.met.I.Importer.has_linked c.shared_set.ensures.agrees c.shared_set.ensures.ends g.met.I.Importer.lawful c.args.self.now (scopes_of c.args.envs.now) c.args.promises.now c.args.errors.now c.args.imports.now c.args.m c.requires.ready c.requires.home c.in-Ok-begun.now c.in-Ok-begun.ensures c.note.new.self (rw c.url.ensures at c.in-Ok.ensures) false (λ e. c.requires.ends) c.go_on.new.self (scopes_of c.go_on.new.envs) c.go_on.new.promises c.go_on.new.errors c.go_on.new.imports c.in-Ok-go_on.halt c.in-Ok-go_on.ensures.tells c.end_body.new.self c.end_body.result (c.end_body.ensures.ends c.in-Ok-go_on.halt.body (scopes_of c.go_on.new.envs) c.go_on.new.promises c.go_on.new.errors))
    c.end_body.ensures.stands

pub returns-in-Ok-go_on-clause-knows : goal.returns-in-Ok-go_on-clause-knows
returns-in-Ok-go_on-clause-knows g c =
    runs_known g.I.Importer.seen g.I.ExportGraph.graph g.I.Importer.urls g.I.Importer.modules g.I.Importer.linked g.I.Importer.fits g.I.Importer.begins g.met.I.Importer.has_linked c.shared_set.ensures.agrees c.shared_set.ensures.ends g.met.I.Importer.lawful c.args.self.now (scopes_of c.args.envs.now) c.args.promises.now c.args.errors.now c.args.imports.now c.args.m c.requires.ready c.requires.home c.in-Ok-begun.now c.in-Ok-begun.ensures c.note.new.self (rw c.url.ensures at c.in-Ok.ensures) false (λ e. c.requires.ends) c.go_on.new.self (scopes_of c.go_on.new.envs) c.go_on.new.promises c.go_on.new.errors c.go_on.new.imports c.in-Ok-go_on.halt c.in-Ok-go_on.ensures.tells c.end_body.new.self c.end_body.result c.requires.ends
    (runs_end g.I.Importer.seen g.I.ExportGraph.graph g.I.Importer.urls g.I.Importer.modules g.I.Importer.linked g.I.Importer.fits g.I.Importer.begins g.met.I.Importer.has_linked c.shared_set.ensures.agrees c.shared_set.ensures.ends g.met.I.Importer.lawful c.args.self.now (scopes_of c.args.envs.now) c.args.promises.now c.args.errors.now c.args.imports.now c.args.m c.requires.ready c.requires.home c.in-Ok-begun.now c.in-Ok-begun.ensures c.note.new.self (rw c.url.ensures at c.in-Ok.ensures) false (λ e. c.requires.ends) c.go_on.new.self (scopes_of c.go_on.new.envs) c.go_on.new.promises c.go_on.new.errors c.go_on.new.imports c.in-Ok-go_on.halt c.in-Ok-go_on.ensures.tells c.end_body.new.self c.end_body.result (c.end_body.ensures.ends c.in-Ok-go_on.halt.body (scopes_of c.go_on.new.envs) c.go_on.new.promises c.go_on.new.errors))

pub returns-in-Err-go_on-clause-tells : goal.returns-in-Err-go_on-clause-tells
returns-in-Err-go_on-clause-tells g c = ran_stopped g.I.Importer.seen g.I.ExportGraph.graph g.I.Importer.urls g.I.Importer.modules g.I.Importer.linked g.I.Importer.fits g.I.Importer.begins g.met.I.Importer.has_linked c.shared_set.ensures.agrees c.shared_set.ensures.ends g.met.I.Importer.lawful c.args.self.now (scopes_of c.args.envs.now) c.args.promises.now c.args.errors.now c.args.imports.now c.args.m c.requires.ready c.requires.home c.in-Ok-begun.now c.in-Ok-begun.ensures c.note.new.self (rw c.url.ensures at c.in-Ok.ensures) false (λ e. c.requires.ends) _ (scopes_of c.go_on.new.envs) c.in-Err-go_on.stop c.in-Err-go_on.ensures.tells

pub returns-in-Err-clause-tells : goal.returns-in-Err-clause-tells
returns-in-Err-clause-tells g c = run_stopped g.I.Importer.seen g.I.ExportGraph.graph g.I.Importer.urls g.I.Importer.modules g.I.Importer.linked g.I.Importer.fits g.I.Importer.begins g.met.I.Importer.has_linked c.shared_set.ensures.agrees c.shared_set.ensures.ends g.met.I.Importer.lawful c.args.self.now (scopes_of c.args.envs.now) c.args.promises.now c.args.errors.now c.args.imports.now c.args.m c.requires.ready c.requires.home c.note.new.self c.in-Err.stop (subst (λ u. Notes c.args.self.now (events.Begins c.args.m) u (Err c.in-Err.stop) c.note.new.self) c.url.ensures c.in-Err.ensures)

pub returns-in-Ok-go_on-clause-scopes : goal.returns-in-Ok-go_on-clause-scopes
returns-in-Ok-go_on-clause-scopes g c = on_ok c.end_body.result c.in-Ok-go_on.ensures.scopes
