use Rattle.std.proofs.Common.{ap, ◌∙◌}
use Rattle.esm_values.specs.Code.{value_of}
use Rattle.esm_env.specs.Calls.{told_read}
use Rattle.esm_env.specs.Cells.{Reading as reading}
use Rattle.esm_body.proofs.RowPlans.{reads_own, reads_value}
use Rattle.esm_body.proofs.outside.InsideOutside.read_own.Goals as goal

pub returns-in-Ok : goal.returns-in-Ok
returns-in-Ok g c =
    reads_value g.I.Importer.seen g.I.Importer.modules g.I.Importer.linked g.I.Importer.fits g.I.Importer.begins g.met.I.Importer.lawful c.shared_set.ensures.agrees c.shared_set.ensures.ends c.args.self.now c.args.m.0 c.args.place c.in-Ok.value c.reads_right.ensures
    (λ x there. ap (λ v. reading.Value (value_of v)) c.in-Ok.ensures ∙ (rw c.in-Value.is at c.value.ensures x there))

pub returns-in-Ok-tell_read : goal.returns-in-Ok-tell_read
returns-in-Ok-tell_read g c =
    reads_own g.I.Importer.seen g.I.Importer.modules g.I.Importer.linked g.I.Importer.fits g.I.Importer.begins g.met.I.Importer.lawful c.shared_set.ensures.agrees c.shared_set.ensures.ends c.args.self.now c.args.m.0 c.args.place c.name_at.result.now (told_read c.value.result) c.in-Ok-tell_read.out c.tell_read.new.errors c.reads_right.ensures
    c.name_at.ensures c.value.ensures c.in-Ok-tell_read.ensures
