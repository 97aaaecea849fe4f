use Rattle.std.proofs.Common.{sym}
use Rattle.esm_body.proofs.GoesOn.{follows_behind, not_given}
use Rattle.esm_body.proofs.Returned.{halts_behind_back, scopes_behind_back, stands_behind_back, stops_behind_back}
use Rattle.esm_body.proofs.engine.Engine.go_behind.Goals as goal

pub segment-requires-clause-code : goal.segment-requires-clause-code
segment-requires-clause-code g c = c.in-Ok.ensures.same.code

pub segment-requires-clause-outcome : goal.segment-requires-clause-outcome
segment-requires-clause-outcome g c = c.in-Ok.ensures.same.outcome

pub segment-requires-clause-fits : goal.segment-requires-clause-fits
segment-requires-clause-fits g c = follows_behind g.I.Importer.seen g.I.Importer.modules g.I.Importer.linked g.I.Importer.fits g.I.Importer.begins c.shared_set.ensures.agrees c.shared_set.ensures.ends g.met.I.Importer.lawful _ c.given.new.inside _ c.in-Ok.outcome c.requires.fits c.in-Ok.ensures

pub returns-in-Ok-segment-clause-tells : goal.returns-in-Ok-segment-clause-tells
returns-in-Ok-segment-clause-tells g c =
    halts_behind_back g.I.Importer.seen g.I.Importer.modules g.I.Importer.linked g.I.Importer.fits g.I.Importer.begins _ _ c.requires.fits c.segment.new.inside c.self-1.given.0 c.errors-1.given.0 c.envs-1.given.0 c.promises-1.given.0 c.imports-1.given.0
    (record {
      engine_is = λ l. c.self-1.given.1 (sym l.engine);
      errors_are = λ l. c.errors-1.given.1 (sym l.errors);
      envs_are = λ l. c.envs-1.given.1 (sym l.envs);
      promises_are = λ l. c.promises-1.given.1 (sym l.promises);
      imports_are = λ l. c.imports-1.given.1 (sym l.imports);
    })
    c.shared_set.ensures.agrees c.shared_set.ensures.ends g.met.I.Importer.lawful c.given.new.inside c.in-Ok.outcome c.in-Ok.ensures c.in-Ok-segment.ended c.body-in-Ok-1.given.0 c.segment.result c.segment.ensures c.in-Ok-segment.is (λ l. c.body-in-Ok-1.given.1 (sym l.code))

pub returns-in-Ok-segment-clause-stands : goal.returns-in-Ok-segment-clause-stands
returns-in-Ok-segment-clause-stands g c =
    stands_behind_back g.I.Importer.seen g.I.Importer.modules g.I.Importer.linked g.I.Importer.fits g.I.Importer.begins _ _ c.requires.fits c.segment.new.inside c.self-1.given.0 c.errors-1.given.0 c.envs-1.given.0 c.promises-1.given.0 c.imports-1.given.0
    (record {
      engine_is = λ l. c.self-1.given.1 (sym l.engine);
      errors_are = λ l. c.errors-1.given.1 (sym l.errors);
      envs_are = λ l. c.envs-1.given.1 (sym l.envs);
      promises_are = λ l. c.promises-1.given.1 (sym l.promises);
      imports_are = λ l. c.imports-1.given.1 (sym l.imports);
    })
    c.shared_set.ensures.agrees c.shared_set.ensures.ends g.met.I.Importer.lawful c.given.new.inside c.in-Ok.outcome c.in-Ok.ensures c.in-Ok-segment.ended c.segment.result c.segment.ensures c.in-Ok-segment.is

pub returns-in-Ok-segment-clause-scopes : goal.returns-in-Ok-segment-clause-scopes
returns-in-Ok-segment-clause-scopes g c =
    scopes_behind_back g.I.Importer.seen g.I.Importer.modules g.I.Importer.linked g.I.Importer.fits g.I.Importer.begins _ _ c.requires.fits c.segment.new.inside c.self-1.given.0 c.errors-1.given.0 c.envs-1.given.0 c.promises-1.given.0 c.imports-1.given.0
    (record {
      engine_is = λ l. c.self-1.given.1 (sym l.engine);
      errors_are = λ l. c.errors-1.given.1 (sym l.errors);
      envs_are = λ l. c.envs-1.given.1 (sym l.envs);
      promises_are = λ l. c.promises-1.given.1 (sym l.promises);
      imports_are = λ l. c.imports-1.given.1 (sym l.imports);
    })
    c.shared_set.ensures.agrees c.shared_set.ensures.ends g.met.I.Importer.lawful c.given.new.inside c.in-Ok.outcome c.in-Ok.ensures c.in-Ok-segment.ended c.segment.result c.segment.ensures c.in-Ok-segment.is

pub returns-in-Err-segment-clause-tells : goal.returns-in-Err-segment-clause-tells
returns-in-Err-segment-clause-tells g c =
    stops_behind_back g.I.Importer.seen g.I.Importer.modules g.I.Importer.linked g.I.Importer.fits g.I.Importer.begins _ _ c.requires.fits c.segment.new.inside c.self-1.given.0 c.errors-1.given.0 c.envs-1.given.0 c.promises-1.given.0 c.imports-1.given.0
    (record {
      engine_is = λ l. c.self-1.given.1 (sym l.engine);
      errors_are = λ l. c.errors-1.given.1 (sym l.errors);
      envs_are = λ l. c.envs-1.given.1 (sym l.envs);
      promises_are = λ l. c.promises-1.given.1 (sym l.promises);
      imports_are = λ l. c.imports-1.given.1 (sym l.imports);
    })
    c.shared_set.ensures.agrees c.shared_set.ensures.ends g.met.I.Importer.lawful c.given.new.inside c.in-Ok.outcome c.in-Ok.ensures c.in-Err-segment.stop c.segment.result c.segment.ensures c.in-Err-segment.is

pub returns-in-Err-clause-tells : goal.returns-in-Err-clause-tells
returns-in-Err-clause-tells g c = not_given g.I.Importer.seen g.I.Importer.modules g.I.Importer.linked g.I.Importer.fits g.I.Importer.begins _ c.given.new.inside _ c.given.result c.in-Err.stop _ _ c.requires.fits c.given.ensures c.in-Err.is
