use Rattle.esm_machine.specs.Machine.{state_of}
use Rattle.esm_examples.proofs.DriveLemmas.{ends}
use Rattle.esm_examples.proofs.fetches.ended.Goals as goal

pub returns : goal.returns
returns c =
    λ maps entry files driven.
    ends c.has_standard_run.ensures maps entry files (state_of c.args.machine) (record { log = c.into_log-log.result; status = c.in-Some.status; last_line = c.in_ok-last_line.last_line; fetched = c.args.fetched }) c.end.result driven
    c.in-Some.is c.end.ensures.standard c.end.ensures.ended c.into_log-log.ensures.standard c.in_ok-last_line.ensures.standard
