use Rattle.std.proofs.lemmas.Result.{on_ok_weaker}
use Rattle.esm_rows.specs.Locals.{names_of}
use Rattle.esm_rows.specs.Making.{plain}
use Rattle.esm_rows.specs.declared.tasks.Task.TheVariants as task
use Rattle.esm_rows.proofs.Steps.{after, plain_last}
use Rattle.esm_rows.proofs.exprs.do_task.Goals as goal

pub returns-in-Put : goal.returns-in-Put
returns-in-Put c = λ whole given.
    let leads = rw c.in-Put.is at given in
    on_ok_weaker c.put.result (after (names_of c.args.blocks.now) c.args.tree.now.exprs c.args.tasks.now.items (task.Put c.in-Put.op) leads) (c.put.ensures leads.row (plain c.in-Put.op) leads.told (plain_last c.args.tasks.now.items (task.Put c.in-Put.op) leads.plain_tasks _))

pub returns-in-Part : goal.returns-in-Part
returns-in-Part c = λ whole given. c.put_part.ensures whole (rw c.in-Part.is at given)

pub returns-in-Member : goal.returns-in-Member
returns-in-Member c = λ whole given.
    let leads = rw c.in-Member.is at given in
    on_ok_weaker c.put_member.result (after (names_of c.args.blocks.now) c.args.tree.now.exprs c.args.tasks.now.items (task.Member c.in-Member.id c.in-Member.at) leads) (rw c.member_text.ensures at (c.put_member.ensures leads.row leads.told))
