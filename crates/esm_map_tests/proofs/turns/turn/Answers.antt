use Rattle.esm_module_map.specs.Views.{view_in}
use Rattle.esm_map_tests.proofs.TurnLemmas.{filled_if}
use Rattle.esm_map_tests.proofs.turns.turn.Goals as goal

pub returns-in-Ok-false-clause-filled : goal.returns-in-Ok-false-clause-filled
returns-in-Ok-false-clause-filled g c = let took = c.post_and_take_all in
    filled_if g.P.Payload.weight g.P.Payload.fits (view_in took.new.caller.pass).seen c.args.caller.now.number c.requires.any took.new.caller.number took.new.orders.items c.as_slice.result.now _ c.fill_all.result
    took.ensures.same.1 c.as_slice.ensures.value took.ensures.says.own took.ensures.says.once c.fill_all.ensures
