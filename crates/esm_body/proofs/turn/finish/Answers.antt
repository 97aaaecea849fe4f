use Rattle.std.proofs.Common.{length, refl}
use Rattle.std.specs.Prelude.{codes, Ok}
use Rattle.std.specs.Arc.{arc_value}
use Rattle.esm_base.specs.DefaultExport.{star_default}
use Rattle.esm_body.specs.declared.turn.Outcome.TheVariants as o
use Rattle.esm_body.specs.declared.work.Use.TheVariants as u
use Rattle.esm_body.proofs.TurnLemmas.{drops_came, returns_came, sets_came, throws_turned}
use Rattle.esm_body.proofs.Used.{is_as, may_as, turned_as}
use Rattle.esm_body.proofs.turn.finish.Goals as goal

pub returns-in-Drops : goal.returns-in-Drops
returns-in-Drops g c =
    let m = may_as g.I.Importer.seen g.I.Importer.modules g.I.Importer.linked g.I.Importer.fits g.I.Importer.begins c.args.inside.now c.args.value c.args.purpose u.Drops c.in-Drops.is c.requires.fits in
    turned_as g.I.Importer.seen g.I.Importer.modules g.I.Importer.linked g.I.Importer.fits g.I.Importer.begins c.args.inside.now c.args.inside.now c.args.value c.args.purpose u.Drops (Ok o.On) c.in-Drops.is (drops_came g.I.Importer.seen g.I.Importer.modules g.I.Importer.linked g.I.Importer.fits g.I.Importer.begins c.args.inside.now m.0 c.args.value c.requires.code m.1)

pub set-requires-clause-id : goal.set-requires-clause-id
set-requires-clause-id g c = is_as (length (arc_value c.args.inside.now.code.now.tree).stmts) c.args.purpose (u.Sets c.in-Sets.id c.in-Sets.place) c.in-Sets.is c.requires.purpose

pub set-requires-clause-fits : goal.set-requires-clause-fits
set-requires-clause-fits g c = may_as g.I.Importer.seen g.I.Importer.modules g.I.Importer.linked g.I.Importer.fits g.I.Importer.begins c.args.inside.now c.args.value c.args.purpose (u.Sets c.in-Sets.id c.in-Sets.place) c.in-Sets.is c.requires.fits

pub returns-in-Sets : goal.returns-in-Sets
returns-in-Sets g c = turned_as g.I.Importer.seen g.I.Importer.modules g.I.Importer.linked g.I.Importer.fits g.I.Importer.begins c.args.inside.now c.set.new.inside c.args.value c.args.purpose (u.Sets c.in-Sets.id c.in-Sets.place) c.set.result c.in-Sets.is c.set.ensures

pub returns-in-Defaults : goal.returns-in-Defaults
unfolding star_default
returns-in-Defaults g c =
    let m = may_as g.I.Importer.seen g.I.Importer.modules g.I.Importer.linked g.I.Importer.fits g.I.Importer.begins c.args.inside.now c.args.value c.args.purpose u.Defaults c.in-Defaults.is c.requires.fits in
    turned_as g.I.Importer.seen g.I.Importer.modules g.I.Importer.linked g.I.Importer.fits g.I.Importer.begins c.args.inside.now c.set_name.new.inside c.args.value c.args.purpose u.Defaults (Ok o.On) c.in-Defaults.is
    (sets_came g.I.Importer.seen g.I.Importer.modules g.I.Importer.linked g.I.Importer.fits g.I.Importer.begins c.args.inside.now c.set_name.new.inside m.0 u.Defaults (codes "*default*") c.args.value refl c.requires.code m.1 c.set_name.ensures)

pub write-requires-clause-id : goal.write-requires-clause-id
write-requires-clause-id g c = is_as (length (arc_value c.args.inside.now.code.now.tree).stmts) c.args.purpose (u.Writes c.in-Writes.id) c.in-Writes.is c.requires.purpose

pub write-requires-clause-fits : goal.write-requires-clause-fits
write-requires-clause-fits g c = may_as g.I.Importer.seen g.I.Importer.modules g.I.Importer.linked g.I.Importer.fits g.I.Importer.begins c.args.inside.now c.args.value c.args.purpose (u.Writes c.in-Writes.id) c.in-Writes.is c.requires.fits

pub returns-in-Writes : goal.returns-in-Writes
returns-in-Writes g c = turned_as g.I.Importer.seen g.I.Importer.modules g.I.Importer.linked g.I.Importer.fits g.I.Importer.begins c.args.inside.now c.write.new.inside c.args.value c.args.purpose (u.Writes c.in-Writes.id) c.write.result c.in-Writes.is c.write.ensures

pub returns-in-Throws : goal.returns-in-Throws
returns-in-Throws g c =
    let m = may_as g.I.Importer.seen g.I.Importer.modules g.I.Importer.linked g.I.Importer.fits g.I.Importer.begins c.args.inside.now c.args.value c.args.purpose u.Throws c.in-Throws.is c.requires.fits in
    turned_as g.I.Importer.seen g.I.Importer.modules g.I.Importer.linked g.I.Importer.fits g.I.Importer.begins c.args.inside.now c.throw.new.inside c.args.value c.args.purpose u.Throws c.throw.result c.in-Throws.is
    (throws_turned g.I.Importer.seen g.I.Importer.modules g.I.Importer.linked g.I.Importer.fits g.I.Importer.begins c.args.inside.now c.throw.new.inside m.0 c.args.value c.throw.result m.1 c.throw.ensures)

pub returns-in-Returns : goal.returns-in-Returns
returns-in-Returns g c =
    let m = may_as g.I.Importer.seen g.I.Importer.modules g.I.Importer.linked g.I.Importer.fits g.I.Importer.begins c.args.inside.now c.args.value c.args.purpose u.Returns c.in-Returns.is c.requires.fits in
    turned_as g.I.Importer.seen g.I.Importer.modules g.I.Importer.linked g.I.Importer.fits g.I.Importer.begins c.args.inside.now c.args.inside.now c.args.value c.args.purpose u.Returns (Ok (o.Returns c.args.value)) c.in-Returns.is (returns_came g.I.Importer.seen g.I.Importer.modules g.I.Importer.linked g.I.Importer.fits g.I.Importer.begins c.args.inside.now m.0 c.args.value c.requires.code m.1)

pub print_awaited-requires-clause-fits : goal.print_awaited-requires-clause-fits
print_awaited-requires-clause-fits g c = may_as g.I.Importer.seen g.I.Importer.modules g.I.Importer.linked g.I.Importer.fits g.I.Importer.begins c.args.inside.now c.args.value c.args.purpose u.Prints c.in-Prints.is c.requires.fits

pub returns-in-Prints : goal.returns-in-Prints
returns-in-Prints g c = turned_as g.I.Importer.seen g.I.Importer.modules g.I.Importer.linked g.I.Importer.fits g.I.Importer.begins c.args.inside.now c.print_awaited.new.inside c.args.value c.args.purpose u.Prints c.print_awaited.result c.in-Prints.is c.print_awaited.ensures

pub branch-inside-requires-clause-id : goal.branch-inside-requires-clause-id
branch-inside-requires-clause-id g c = is_as (length (arc_value c.args.inside.now.code.now.tree).stmts) c.args.purpose (u.Chooses c.in-Chooses.id) c.in-Chooses.is c.requires.purpose

pub branch-inside-requires-clause-fits : goal.branch-inside-requires-clause-fits
branch-inside-requires-clause-fits g c = may_as g.I.Importer.seen g.I.Importer.modules g.I.Importer.linked g.I.Importer.fits g.I.Importer.begins c.args.inside.now c.args.value c.args.purpose (u.Chooses c.in-Chooses.id) c.in-Chooses.is c.requires.fits

pub returns-in-Chooses : goal.returns-in-Chooses
returns-in-Chooses g c = turned_as g.I.Importer.seen g.I.Importer.modules g.I.Importer.linked g.I.Importer.fits g.I.Importer.begins c.args.inside.now c.branch-inside.new.inside c.args.value c.args.purpose (u.Chooses c.in-Chooses.id) c.branch-inside.result c.in-Chooses.is c.branch-inside.ensures
