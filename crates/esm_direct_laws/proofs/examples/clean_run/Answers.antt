use Rattle.esm_direct_laws.proofs.CleanRun.{clean_run, second_first, clean_direct}
use Rattle.esm_direct_laws.proofs.examples.clean_run.Goals as goal

pub returns-clause-run : goal.returns-clause-run
returns-clause-run c = clean_run

pub returns-clause-second_first : goal.returns-clause-second_first
returns-clause-second_first c other run none = second_first other run none

pub returns-clause-direct : goal.returns-clause-direct
returns-clause-direct c = clean_direct c.shared_set.ensures.agrees c.shared_set.ensures.ends
