use Rattle.std.proofs.Common.{◌-◌}
use Rattle.esm_base.specs.declared.limits.TheConstants.{MAX_STEPS}
use Rattle.esm_body.specs.Inner.Functions.{steps_of}
use Rattle.esm_body.specs.Inner.Running.{HasRows}
use Rattle.esm_body.proofs.Stepping.{Onway}
use Rattle.esm_body.proofs.segment.run_from.Given as goal

-- a segment of what is left is one of the whole
abbrev pub invariant-loop-next : goal.invariant-loop-next
invariant-loop-next g l = record {
  rows : HasRows g.I.Importer.seen g.I.Importer.modules g.I.Importer.linked g.I.Importer.fits g.I.Importer.begins l.inside l.functions.rows;
  onway : Onway g.I.Importer.seen g.I.Importer.modules g.I.Importer.linked g.I.Importer.fits g.I.Importer.begins l.fn.inside l.fn.place l.inside l.here;
}

-- steps are left
abbrev pub decreases-loop-next : goal.decreases-loop-next
decreases-loop-next g l = MAX_STEPS - steps_of l.inside
