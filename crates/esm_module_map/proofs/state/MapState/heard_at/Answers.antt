use Rattle.esm_module_map.proofs.Posted.{no_gap}
use Rattle.esm_module_map.proofs.state.MapState.heard_at.Goals as goal

pub unreachable-requires : goal.unreachable-requires
unreachable-requires g c = let me = c.args.self.now in no_gap g.P.Payload.weight me.events.items c.args.place c.in-Some.number c.in-Ok.entry me.legal c.in-Some.ensures c.in-Ok.ensures.exact c.in_default-entry-2.is
