use Rattle.esm_machine.proofs.LinkJobs.{fault_told, if_ok}
use Rattle.esm_machine.proofs.linking.fault_text.Goals as goal

pub returns : goal.returns
returns c = if_ok c.fault_line.result _ _ c.fault_line.ensures (λ text e.
    fault_told c.args.parts.now c.args.found.now c.url-referrer.result.now c.as_str.result.now c.url-target.result.now text c.requires.ids c.url-referrer.ensures c.as_str.ensures.value c.url-target.ensures e)
