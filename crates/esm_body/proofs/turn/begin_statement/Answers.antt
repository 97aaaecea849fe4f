use Rattle.std.proofs.Common.{refl}
use Rattle.std.specs.Arc.{arc_value}
use Rattle.esm_body.proofs.TurnSteps.{begun_came, begin_stops, code_there, id_there, node_there}
use Rattle.esm_body.proofs.turn.begin_statement.Goals as goal

pub stmt-node-requires : goal.stmt-node-requires
stmt-node-requires g c = rw c.deref.ensures (id_there g.I.Importer.seen g.I.Importer.modules g.I.Importer.linked g.I.Importer.fits g.I.Importer.begins c.args.inside.now c.step.new.self c.args.id c.in-Ok.ensures.0 c.requires.id)

pub begin-requires-clause-levels : goal.begin-requires-clause-levels
begin-requires-clause-levels g c = (code_there g.I.Importer.seen g.I.Importer.modules g.I.Importer.linked g.I.Importer.fits g.I.Importer.begins c.args.inside.now c.step.new.self c.in-Ok.ensures.0 c.requires.code).some

pub begin-requires-clause-id : goal.begin-requires-clause-id
begin-requires-clause-id g c = id_there g.I.Importer.seen g.I.Importer.modules g.I.Importer.linked g.I.Importer.fits g.I.Importer.begins c.args.inside.now c.step.new.self c.args.id c.in-Ok.ensures.0 c.requires.id

pub begin-requires-clause-node : goal.begin-requires-clause-node
begin-requires-clause-node g c =
    node_there (arc_value c.step.new.self.code.now.tree) c.deref.result.now c.args.id c.stmt-node.result.now c.deref.ensures c.stmt-node.ensures.node c.stmt-node.ensures.exprs_there c.stmt-node.ensures.below

pub returns-in-Ok-begin : goal.returns-in-Ok-begin
returns-in-Ok-begin g c =
    let sound = c.in-Ok-begin.ensures.sound (code_there g.I.Importer.seen g.I.Importer.modules g.I.Importer.linked g.I.Importer.fits g.I.Importer.begins c.args.inside.now c.step.new.self c.in-Ok.ensures.0 c.requires.code).levels in
    begun_came g.I.Importer.seen g.I.Importer.modules g.I.Importer.linked g.I.Importer.fits g.I.Importer.begins c.args.inside.now c.step.new.self _ c.requires.fits.0 c.args.id c.requires.code c.requires.fits.1 c.in-Ok.ensures refl refl sound c.in-Ok-begin.ensures.begun

pub returns-in-Err : goal.returns-in-Err
returns-in-Err g c = begin_stops g.I.Importer.seen g.I.Importer.modules g.I.Importer.linked g.I.Importer.fits g.I.Importer.begins c.args.inside.now c.step.new.self c.requires.fits.0 c.args.id c.in-Err.stop c.requires.fits.1 c.in-Err.ensures
