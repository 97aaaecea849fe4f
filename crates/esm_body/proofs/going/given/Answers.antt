use Rattle.esm_body.proofs.GoesOn.{value_given, throw_given}
use Rattle.esm_body.proofs.going.given.Goals as goal

pub returns-in-Fulfilled : goal.returns-in-Fulfilled
returns-in-Fulfilled g c = rw c.in-Fulfilled.is (value_given g.I.Importer.seen g.I.Importer.modules g.I.Importer.linked g.I.Importer.fits g.I.Importer.begins c.args.inside.now c.give.new.inside c.args.purpose c.in-Fulfilled.value c.give.result c.requires.code c.give.ensures)

pub returns-in-Rejected : goal.returns-in-Rejected
returns-in-Rejected g c = rw c.in-Rejected.is (throw_given g.I.Importer.seen g.I.Importer.modules g.I.Importer.linked g.I.Importer.fits g.I.Importer.begins c.args.inside.now c.throw.new.inside c.args.purpose c.in-Rejected.value c.throw.result c.requires.code c.throw.ensures)
