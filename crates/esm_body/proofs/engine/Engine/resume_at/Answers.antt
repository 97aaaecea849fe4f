use Rattle.std.proofs.Common.{true, refl, ap, ◌∙◌, arith}
use Rattle.esm_env.specs.Calls.{scopes_of}
use Rattle.esm_promise.specs.Code.{settled_of}
use Rattle.esm_base.specs.declared.module_id.ModuleId.{ModuleId}
use Rattle.esm_body.proofs.ResumedLemmas.{at_home, goes_fit, resume_stopped, resumes_end, resumes_ready, stood}
use Rattle.esm_body.proofs.Returned.{on_ok}
use Rattle.esm_body.proofs.engine.Engine.resume_at.Goals as goal

pub remove-standing-requires : goal.remove-standing-requires
remove-standing-requires g c = let n = c.requires.stands.0 in let o = c.args.self.now.standing.ok.0 in omega (arith, n, o)

pub go_behind-requires-clause-code : goal.go_behind-requires-clause-code
go_behind-requires-clause-code g c = (stood g.I.Importer.seen g.I.ExportGraph.graph g.I.Importer.urls g.I.Importer.modules g.I.Importer.linked g.I.Importer.fits g.I.Importer.begins g.met.I.Importer.has_linked c.shared_set.ensures.agrees c.shared_set.ensures.ends g.met.I.Importer.lawful c.args.self.now (record c.args.self.now { standing = c.remove-standing.new.self }) (scopes_of c.args.envs.now) c.args.promises.now c.args.errors.now c.args.imports.now c.args.m c.args.at c.remove-standing.result (settled_of c.args.how) c.requires.ready c.requires.home c.requires.stands c.requires.knows c.remove-standing.ensures.value refl c.remove-standing.ensures.items).code

pub go_behind-requires-clause-purpose : goal.go_behind-requires-clause-purpose
go_behind-requires-clause-purpose g c = (stood g.I.Importer.seen g.I.ExportGraph.graph g.I.Importer.urls g.I.Importer.modules g.I.Importer.linked g.I.Importer.fits g.I.Importer.begins g.met.I.Importer.has_linked c.shared_set.ensures.agrees c.shared_set.ensures.ends g.met.I.Importer.lawful c.args.self.now (record c.args.self.now { standing = c.remove-standing.new.self }) (scopes_of c.args.envs.now) c.args.promises.now c.args.errors.now c.args.imports.now c.args.m c.args.at c.remove-standing.result (settled_of c.args.how) c.requires.ready c.requires.home c.requires.stands c.requires.knows c.remove-standing.ensures.value refl c.remove-standing.ensures.items).purpose

pub go_behind-requires-clause-fits : goal.go_behind-requires-clause-fits
go_behind-requires-clause-fits g c = (true, goes_fit g.I.Importer.seen g.I.ExportGraph.graph g.I.Importer.urls g.I.Importer.modules g.I.Importer.linked g.I.Importer.fits g.I.Importer.begins g.met.I.Importer.has_linked c.shared_set.ensures.agrees c.shared_set.ensures.ends g.met.I.Importer.lawful c.args.self.now (record c.args.self.now { standing = c.remove-standing.new.self }) (scopes_of c.args.envs.now) c.args.promises.now c.args.errors.now c.args.imports.now c.args.m c.args.at c.remove-standing.result (settled_of c.args.how) c.requires.ready c.requires.home c.requires.stands c.requires.knows c.remove-standing.ensures.value refl c.remove-standing.ensures.items)

pub end_segment-requires : goal.end_segment-requires
end_segment-requires g c = ap (λ (m : ModuleId). m.0) c.in-Ok.ensures.tells.at ∙ at_home g.I.Importer.seen g.I.ExportGraph.graph g.I.Importer.urls g.I.Importer.modules g.I.Importer.linked g.I.Importer.fits g.I.Importer.begins g.met.I.Importer.has_linked c.shared_set.ensures.agrees c.shared_set.ensures.ends g.met.I.Importer.lawful c.args.self.now (record c.args.self.now { standing = c.remove-standing.new.self }) (scopes_of c.args.envs.now) c.args.promises.now c.args.errors.now c.args.imports.now c.args.m c.args.at c.remove-standing.result (settled_of c.args.how) c.requires.ready c.requires.home c.requires.stands c.requires.knows c.remove-standing.ensures.value refl c.remove-standing.ensures.items

pub returns-in-Ok-clause-tells : goal.returns-in-Ok-clause-tells
returns-in-Ok-clause-tells g c =
    resumes_end g.I.Importer.seen g.I.ExportGraph.graph g.I.Importer.urls g.I.Importer.modules g.I.Importer.linked g.I.Importer.fits g.I.Importer.begins g.met.I.Importer.has_linked c.shared_set.ensures.agrees c.shared_set.ensures.ends g.met.I.Importer.lawful c.args.self.now (record c.args.self.now { standing = c.remove-standing.new.self }) (scopes_of c.args.envs.now) c.args.promises.now c.args.errors.now c.args.imports.now c.args.m c.args.at c.remove-standing.result (settled_of c.args.how) c.requires.ready c.requires.home c.requires.stands c.requires.knows c.remove-standing.ensures.value refl c.remove-standing.ensures.items c.go_behind.new.self (scopes_of c.go_behind.new.envs) c.go_behind.new.promises c.go_behind.new.errors c.go_behind.new.imports c.in-Ok.halt c.in-Ok.ensures.tells c.end_segment.new.self c.end_segment.new.promises c.end_segment.result (c.end_segment.ensures.ends (scopes_of c.go_behind.new.envs) c.go_behind.new.errors)

pub returns-in-Ok-clause-ready : goal.returns-in-Ok-clause-ready
returns-in-Ok-clause-ready g c =
    resumes_ready g.I.Importer.seen g.I.ExportGraph.graph g.I.Importer.urls g.I.Importer.modules g.I.Importer.linked g.I.Importer.fits g.I.Importer.begins g.met.I.Importer.has_linked c.shared_set.ensures.agrees c.shared_set.ensures.ends g.met.I.Importer.lawful c.args.self.now (record c.args.self.now { standing = c.remove-standing.new.self }) (scopes_of c.args.envs.now) c.args.promises.now c.args.errors.now c.args.imports.now c.args.m c.args.at c.remove-standing.result (settled_of c.args.how) c.requires.ready c.requires.home c.requires.stands c.requires.knows c.remove-standing.ensures.value refl c.remove-standing.ensures.items c.go_behind.new.self (scopes_of c.go_behind.new.envs) c.go_behind.new.promises c.go_behind.new.errors c.go_behind.new.imports c.in-Ok.halt c.in-Ok.ensures.tells c.end_segment.new.self c.end_segment.new.promises c.end_segment.result c.in-Ok.ensures.stands
    (resumes_end g.I.Importer.seen g.I.ExportGraph.graph g.I.Importer.urls g.I.Importer.modules g.I.Importer.linked g.I.Importer.fits g.I.Importer.begins g.met.I.Importer.has_linked c.shared_set.ensures.agrees c.shared_set.ensures.ends g.met.I.Importer.lawful c.args.self.now (record c.args.self.now { standing = c.remove-standing.new.self }) (scopes_of c.args.envs.now) c.args.promises.now c.args.errors.now c.args.imports.now c.args.m c.args.at c.remove-standing.result (settled_of c.args.how) c.requires.ready c.requires.home c.requires.stands c.requires.knows c.remove-standing.ensures.value refl c.remove-standing.ensures.items c.go_behind.new.self (scopes_of c.go_behind.new.envs) c.go_behind.new.promises c.go_behind.new.errors c.go_behind.new.imports c.in-Ok.halt c.in-Ok.ensures.tells c.end_segment.new.self c.end_segment.new.promises c.end_segment.result (c.end_segment.ensures.ends (scopes_of c.go_behind.new.envs) c.go_behind.new.errors))
    c.end_segment.ensures.stands

pub returns-in-Err-clause-tells : goal.returns-in-Err-clause-tells
returns-in-Err-clause-tells g c = resume_stopped g.I.Importer.seen g.I.ExportGraph.graph g.I.Importer.urls g.I.Importer.modules g.I.Importer.linked g.I.Importer.fits g.I.Importer.begins g.met.I.Importer.has_linked c.shared_set.ensures.agrees c.shared_set.ensures.ends g.met.I.Importer.lawful c.args.self.now (record c.args.self.now { standing = c.remove-standing.new.self }) (scopes_of c.args.envs.now) c.args.promises.now c.args.errors.now c.args.imports.now c.args.m c.args.at c.remove-standing.result (settled_of c.args.how) c.requires.ready c.requires.home c.requires.stands c.requires.knows c.remove-standing.ensures.value refl c.remove-standing.ensures.items _ (scopes_of c.go_behind.new.envs) c.in-Err.stop c.in-Err.ensures.tells

pub returns-in-Ok-clause-scopes : goal.returns-in-Ok-clause-scopes
returns-in-Ok-clause-scopes g c = on_ok c.end_segment.result c.in-Ok.ensures.scopes
