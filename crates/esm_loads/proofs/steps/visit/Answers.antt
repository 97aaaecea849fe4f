-- The load with this number has visited one more.
use Rattle.std.proofs.Common.{◌∙◌, ◌++◌, ◌∷◌, [], ap, sym}
use Rattle.esm_loads.specs.LoadsView.{LoadView}
use Rattle.esm_loads.specs.Inner.Steps.{set_load}
use Rattle.esm_loads.proofs.Places.{index_get, some_is, on_ok}
use Rattle.esm_loads.proofs.steps.visit.Goals as goal

pub returns : goal.returns
returns c l e =
    let t = c.args.loads.now in
    let same = some_is (sym (index_get t.loads.items c.args.load c.index_mut.result.now c.requires c.index_mut.ensures.value) ∙ e) in
    let next = ap (λ (l : LoadView). record l { visited = l.visited ++ c.args.id.0 ∷ [] }) same in
    on_ok c.visit.result _ _ c.visit.ensures (λ e. ap (λ l. set_load t c.args.load l) (e ∙ next))
