use Rattle.std.proofs.Common.{Err, ap}
use Rattle.esm_parse_expr.proofs.of_text.parse_among.Goals as goal

pub returns-in-Ok : goal.returns-in-Ok
returns-in-Ok c = record { grows = c.in-Ok.ensures.grows; found = c.in-Ok.ensures.found; fault = λ f e. absurd (cc); none = λ e x j r. absurd (cc); err = tt }

pub returns-in-Err-Fault : goal.returns-in-Err-Fault
returns-in-Err-Fault c =
    let end = c.in-Err-Fault in
    record { grows = tt; found = tt; fault = λ f e. cc; none = λ e x j r. end.ensures.none (ap Err end.field-0-is) x j r; err = end.ensures.err }

pub returns-in-Err-Memory : goal.returns-in-Err-Memory
returns-in-Err-Memory c = record { grows = tt; found = tt; fault = λ f e. absurd (cc); none = λ e x j r. absurd (cc); err = c.in-Err-Memory.ensures.err }
