use Rattle.std.proofs.Common.{◌∙◌}
use Rattle.esm_env.proofs.FoundNames.{slot_place}
use Rattle.esm_env.proofs.scope.ModuleScope.place.Goals as goal

pub returns : goal.returns
returns c = slot_place c.args.self.now.slots.items c.args.name.now c.copied.result (c.copied.ensures ∙ c.get.ensures ∙ c.args.self.now.slots_at c.args.name.now)
