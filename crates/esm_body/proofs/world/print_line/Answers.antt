use Rattle.std.proofs.Common.{ap, sym, ◌∙◌}
use Rattle.esm_values.specs.Code.{values_of}
use Rattle.esm_values.specs.Display.{printed_line}
use Rattle.esm_body.proofs.WorldActs.{prints}
use Rattle.esm_body.proofs.world.print_line.Goals as goal

pub returns-in-Ok-printed_line : goal.returns-in-Ok-printed_line
returns-in-Ok-printed_line g c =
    let text = c.as_str-in-Ok-printed_line.ensures.value ∙ c.in-Ok-printed_line.ensures ∙ ap printed_line c.as_slice-in-None.ensures.value in
    prints g.I.Importer.seen g.I.Importer.modules g.I.Importer.linked g.I.Importer.fits g.I.Importer.begins c.args.inside.now (values_of c.args.values.now) c.in-Ok.texts.items c.line-in-Ok-printed_line.result c.line-in-Ok-printed_line.new.self g.met.I.Importer.lawful c.in-Ok.ensures
    (rw text at c.line-in-Ok-printed_line.ensures)

pub returns-in-Some : goal.returns-in-Some
returns-in-Some g c =
    let text = c.as_str.ensures.value ∙ ap printed_line (sym c.in-Some.ensures ∙ c.as_slice.ensures.value) in
    prints g.I.Importer.seen g.I.Importer.modules g.I.Importer.linked g.I.Importer.fits g.I.Importer.begins c.args.inside.now (values_of c.args.values.now) c.in-Ok.texts.items c.line.result c.line.new.self g.met.I.Importer.lawful c.in-Ok.ensures
    (rw text at c.line.ensures)
