use Rattle.std.proofs.Common.{ap, ◌∙◌, length}
use Rattle.esm_rows.proofs.tasks.push_print.Goals as goal

pub returns : goal.returns
returns c =
    let many = c.in_ok-many.ensures ∙ ap length c.as_slice-ids.ensures in
    let all = rw (many, c.as_slice-ids.ensures) at c.push_all.ensures in
    all
