use Rattle.std.proofs.Common.{◌∙◌, Some, ap, inl, sym}
use Rattle.esm_run.proofs.lead.fetch_or_wait.Goals as goal

pub fetch_one-requires-clause-guide : goal.fetch_one-requires-clause-guide
fetch_one-requires-clause-guide g c = c.requires.guide ∙ ap Some (sym c.deref.ensures)

pub returns-in-Closed-clause-served : goal.returns-in-Closed-clause-served
returns-in-Closed-clause-served g c = inl c.in-Ok.ensures.served
