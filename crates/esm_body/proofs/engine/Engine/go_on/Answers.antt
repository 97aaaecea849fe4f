use Rattle.std.proofs.Common.{refl, sym}
use Rattle.esm_body.proofs.GoesOn.{begins_follow}
use Rattle.esm_body.proofs.Returned.{halts_on_back, scopes_on_back, stands_on_back, stops_on_back}
use Rattle.esm_body.proofs.engine.Engine.go_on.Goals as goal

pub segment-requires-clause-fits : goal.segment-requires-clause-fits
segment-requires-clause-fits g c = begins_follow g.I.Importer.seen g.I.Importer.modules g.I.Importer.linked g.I.Importer.fits g.I.Importer.begins _ c.requires.fits

pub returns-in-Ok-clause-tells : goal.returns-in-Ok-clause-tells
returns-in-Ok-clause-tells g c =
    halts_on_back g.I.Importer.seen g.I.Importer.modules g.I.Importer.linked g.I.Importer.fits g.I.Importer.begins _ _ c.requires.fits c.segment.new.inside c.self-1.given.0 c.errors-1.given.0 c.envs-1.given.0 c.promises-1.given.0 c.imports-1.given.0
    (record {
      engine_is = λ l. c.self-1.given.1 (sym l.engine);
      errors_are = λ l. c.errors-1.given.1 (sym l.errors);
      envs_are = λ l. c.envs-1.given.1 (sym l.envs);
      promises_are = λ l. c.promises-1.given.1 (sym l.promises);
      imports_are = λ l. c.imports-1.given.1 (sym l.imports);
    })
    refl c.in-Ok.ended c.body-2-1.given.0 c.segment.result c.segment.ensures c.in-Ok.is (λ l. c.body-2-1.given.1 (sym l.code))

pub returns-in-Ok-clause-stands : goal.returns-in-Ok-clause-stands
returns-in-Ok-clause-stands g c =
    stands_on_back g.I.Importer.seen g.I.Importer.modules g.I.Importer.linked g.I.Importer.fits g.I.Importer.begins _ _ c.requires.fits c.segment.new.inside c.self-1.given.0 c.errors-1.given.0 c.envs-1.given.0 c.promises-1.given.0 c.imports-1.given.0
    (record {
      engine_is = λ l. c.self-1.given.1 (sym l.engine);
      errors_are = λ l. c.errors-1.given.1 (sym l.errors);
      envs_are = λ l. c.envs-1.given.1 (sym l.envs);
      promises_are = λ l. c.promises-1.given.1 (sym l.promises);
      imports_are = λ l. c.imports-1.given.1 (sym l.imports);
    })
    refl c.in-Ok.ended c.segment.result c.segment.ensures c.in-Ok.is

pub returns-in-Ok-clause-scopes : goal.returns-in-Ok-clause-scopes
returns-in-Ok-clause-scopes g c =
    scopes_on_back g.I.Importer.seen g.I.Importer.modules g.I.Importer.linked g.I.Importer.fits g.I.Importer.begins _ _ c.requires.fits c.segment.new.inside c.self-1.given.0 c.errors-1.given.0 c.envs-1.given.0 c.promises-1.given.0 c.imports-1.given.0
    (record {
      engine_is = λ l. c.self-1.given.1 (sym l.engine);
      errors_are = λ l. c.errors-1.given.1 (sym l.errors);
      envs_are = λ l. c.envs-1.given.1 (sym l.envs);
      promises_are = λ l. c.promises-1.given.1 (sym l.promises);
      imports_are = λ l. c.imports-1.given.1 (sym l.imports);
    })
    refl c.in-Ok.ended c.segment.result c.segment.ensures c.in-Ok.is

pub returns-in-Err-clause-tells : goal.returns-in-Err-clause-tells
returns-in-Err-clause-tells g c =
    stops_on_back g.I.Importer.seen g.I.Importer.modules g.I.Importer.linked g.I.Importer.fits g.I.Importer.begins _ _ c.requires.fits c.segment.new.inside c.self-1.given.0 c.errors-1.given.0 c.envs-1.given.0 c.promises-1.given.0 c.imports-1.given.0
    (record {
      engine_is = λ l. c.self-1.given.1 (sym l.engine);
      errors_are = λ l. c.errors-1.given.1 (sym l.errors);
      envs_are = λ l. c.envs-1.given.1 (sym l.envs);
      promises_are = λ l. c.promises-1.given.1 (sym l.promises);
      imports_are = λ l. c.imports-1.given.1 (sym l.imports);
    })
    refl c.in-Err.stop c.segment.result c.segment.ensures c.in-Err.is
