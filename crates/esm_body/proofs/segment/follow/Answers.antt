use Rattle.esm_body.proofs.Followed.{on_followed, done_followed, never_returns, thrown_followed, waits_followed}
use Rattle.esm_body.proofs.segment.follow.Goals as goal

pub returns-in-On-clause-follows : goal.returns-in-On-clause-follows
returns-in-On-clause-follows g c = rw c.in-On.is (on_followed g.I.Importer.seen g.I.Importer.modules g.I.Importer.linked g.I.Importer.fits g.I.Importer.begins c.args.inside.now c.requires.fits.0 c.requires.code (rw c.in-On.is at c.requires.fits.1))

pub returns-in-Done-clause-follows : goal.returns-in-Done-clause-follows
returns-in-Done-clause-follows g c = rw c.in-Done.is (done_followed g.I.Importer.seen g.I.Importer.modules g.I.Importer.linked g.I.Importer.fits g.I.Importer.begins c.args.inside.now c.requires.fits.0 c.requires.code (rw c.in-Done.is at c.requires.fits.1))

pub unreachable-requires : goal.unreachable-requires
unreachable-requires g c = never_returns g.I.Importer.seen g.I.Importer.modules g.I.Importer.linked g.I.Importer.fits g.I.Importer.begins c.args.inside.now c.requires.fits.0 c.in-Returns._value (rw c.in-Returns.is at c.requires.fits.1)

pub returns-in-Thrown-clause-follows : goal.returns-in-Thrown-clause-follows
returns-in-Thrown-clause-follows g c = rw c.in-Thrown.is (thrown_followed g.I.Importer.seen g.I.Importer.modules g.I.Importer.linked g.I.Importer.fits g.I.Importer.begins c.args.inside.now c.requires.fits.0 c.in-Thrown.value c.requires.code (rw c.in-Thrown.is at c.requires.fits.1))

pub call-requires-clause-calling : goal.call-requires-clause-calling
call-requires-clause-calling g c = rw c.in-Calls.is at c.requires.outcome

pub call-requires-clause-fits : goal.call-requires-clause-fits
call-requires-clause-fits g c = rw c.in-Calls.is at c.requires.fits

pub returns-in-Calls-clause-follows : goal.returns-in-Calls-clause-follows
returns-in-Calls-clause-follows g c = rw c.in-Calls.is c.call.ensures.follows

pub returns-in-Waits-clause-follows : goal.returns-in-Waits-clause-follows
returns-in-Waits-clause-follows g c =
    rw c.in-Waits.is (waits_followed g.I.Importer.seen g.I.Importer.modules g.I.Importer.linked g.I.Importer.fits g.I.Importer.begins c.args.inside.now c.requires.fits.0 c.in-Waits.value c.in-Waits.purpose c.requires.code (rw c.in-Waits.is at c.requires.outcome) (rw c.in-Waits.is at c.requires.fits.1))
