use Rattle.std.proofs.Common.{sym, ◌∙◌}
use Rattle.esm_row_machine.proofs.Returned.{to_body, to_caller, none_left}
use Rattle.esm_row_machine.proofs.ending.give_back.Goals as goal

pub returns-in-Some : goal.returns-in-Some
returns-in-Some g c = λ w0 h ws body gives. to_caller g.W.Outside.state g.W.Outside.modules g.W.Outside.linked g.W.Outside.begins g.W.Outside.ready g.W.Outside.keeps g.W.Outside.owns w0 c.args._world.now h ws body c.args.machine.now (record c.args.machine.now { operands = c.go_back.new.operands; names = c.truncate.new.self; handlers = c.truncate-2.new.self; frames = c.pop.new.self }) c.args.frame c.args.value c.truncate.ensures.items c.truncate-2.ensures.items gives c.in-Some.caller c.in-Some.ensures.items c.go_back.result c.go_back.ensures

pub returns-in-None : goal.returns-in-None
returns-in-None g c = λ w0 h ws body gives. to_body g.W.Outside.state g.W.Outside.modules g.W.Outside.linked g.W.Outside.begins g.W.Outside.ready g.W.Outside.keeps g.W.Outside.owns w0 c.args._world.now h ws body c.args.machine.now (record c.args.machine.now { names = c.truncate.new.self; handlers = c.truncate-2.new.self; frames = c.pop.new.self }) c.args.frame c.args.value c.truncate.ensures.items c.truncate-2.ensures.items gives (none_left c.args.machine.now.frames.items (sym c.args.machine.now.frames.ok.0 ∙ c.in-None.ensures.cases.0))
