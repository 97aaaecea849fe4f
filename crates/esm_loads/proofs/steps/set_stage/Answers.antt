-- The load with this number is set.
use Rattle.std.proofs.Common.{◌∙◌, ap, sym}
use Rattle.esm_loads.specs.LoadsView.{LoadView}
use Rattle.esm_loads.specs.Inner.Steps.{set_load}
use Rattle.esm_loads.proofs.Places.{index_get, some_is}
use Rattle.esm_loads.proofs.steps.set_stage.Goals as goal

pub returns : goal.returns
returns c l e =
    let t = c.args.loads.now in
    let same = some_is (sym (index_get t.loads.items c.args.load c.index_mut.result.now c.requires c.index_mut.ensures.value) ∙ e) in
    ap (λ l. set_load t c.args.load l) (c.set_stage.ensures ∙ ap (λ (l : LoadView). record l { stage = c.args.stage }) same)
