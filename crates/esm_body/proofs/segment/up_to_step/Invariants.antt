use Rattle.esm_resolve.specs.SharedSet.{SharedSetAgrees, SharedSetEnds}
use Rattle.esm_body.specs.Inner.Running.{HasRows}
use Rattle.esm_body.proofs.Stepping.{Midway, left_of}
use Rattle.esm_body.proofs.segment.up_to_step.Given as goal

-- no step was taken so far, and a segment of what is left is one of the whole
abbrev pub invariant-loop-next : goal.invariant-loop-next
invariant-loop-next g l = record {
  agrees : SharedSetAgrees;
  ends : SharedSetEnds;
  rows : HasRows g.I.Importer.seen g.I.Importer.modules g.I.Importer.linked g.I.Importer.fits g.I.Importer.begins l.inside l.functions.rows;
  midway : Midway g.I.Importer.seen g.I.Importer.modules g.I.Importer.linked g.I.Importer.fits g.I.Importer.begins l.fn.inside l.fn.place l.inside l.here;
}

abbrev pub decreases-loop-next : goal.decreases-loop-next
decreases-loop-next g l = left_of l.inside l.here
