use Rattle.esm_body.proofs.FailsLemmas.{fails_turned}
use Rattle.esm_body.proofs.segment.turn_at.Goals as goal

pub turn-requires-clause-fits : goal.turn-requires-clause-fits
turn-requires-clause-fits g c = rw c.in-Turn.is at c.requires.fits

pub advance-requires-clause-purpose : goal.advance-requires-clause-purpose
advance-requires-clause-purpose g c = rw c.into_inner.ensures (rw c.in-Gives.is at c.requires.place).purpose

pub advance-requires-clause-sound : goal.advance-requires-clause-sound
advance-requires-clause-sound g c = rw c.into_inner.ensures (rw c.in-Gives.is at c.requires.place).sound

pub advance-requires-clause-given : goal.advance-requires-clause-given
advance-requires-clause-given g c = rw c.into_inner.ensures (rw (rw c.in-Gives.is at c.requires.place).waits tt)

pub advance-requires-clause-fits : goal.advance-requires-clause-fits
advance-requires-clause-fits g c = rw c.into_inner.ensures (rw c.in-Gives.is at c.requires.fits)

pub returns-in-Gives : goal.returns-in-Gives
returns-in-Gives g c = rw c.in-Gives.is (rw c.into_inner.ensures at c.advance.ensures)

pub returns-in-Throws : goal.returns-in-Throws
returns-in-Throws g c =
    let fits = rw c.in-Throws.is at c.requires.fits in
    rw c.in-Throws.is (fails_turned g.I.Importer.seen g.I.Importer.modules g.I.Importer.linked g.I.Importer.fits g.I.Importer.begins c.args.inside.now c.throw.new.inside fits.0 _ c.in-Throws._doing.value c.in-Throws.value c.throw.result (rw c.in-Throws.is at c.requires.place) fits.1 c.throw.ensures)
