use Rattle.esm_row_machine.proofs.AtOnce.{end_goes_on, given_told}
use Rattle.esm_row_machine.proofs.shortcuts.resume_here.Goals as goal

pub returns-in-Some : goal.returns-in-Some
returns-in-Some g c = (
  given_told c.args._world.now c.args.machine.now c.args.frame.now (record c.args.machine.now { operands = c.give_here.new.operands; names = c.keep_names.new.names; handlers = c.keep_handlers.new.handlers; frames = c.pop.new.self }) c.args.rows.now c.args.machine.now.operands.items c.in-Some.caller c.args.value c.give_here.result c.give_here.new.frame c.give_here.new.operands.items c.give_here.ensures,
  λ w0 h ws body gives fit.
      end_goes_on g.W.Outside.state g.W.Outside.modules g.W.Outside.linked g.W.Outside.begins g.W.Outside.ready g.W.Outside.keeps g.W.Outside.owns (record { itself = g.met.W.Outside.keeps_itself; both = g.met.W.Outside.keeps_both; stays = g.met.W.Outside.stays }) w0 c.args._world.now h ws body c.args.machine.now (record c.args.machine.now { operands = c.give_here.new.operands; names = c.keep_names.new.names; handlers = c.keep_handlers.new.handlers; frames = c.pop.new.self })
      c.args.frame.now c.args.value c.keep_names.ensures c.keep_handlers.ensures gives c.in-Some.caller c.in-Some.ensures.items c.args.rows.now c.give_here.result c.give_here.new.frame c.give_here.ensures,
)

pub returns-in-None : goal.returns-in-None
returns-in-None g c = (tt, λ w0 h ws body gives fit. tt)
