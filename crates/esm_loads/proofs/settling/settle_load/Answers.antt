-- By how far the load has come.
use Rattle.std.proofs.Common.{sym, subst, ◌∙◌, length, refl}
use Rattle.esm_loads.specs.Fits.{IsStageWithin}
use Rattle.esm_loads.specs.LoadsAsLoading.{loading_of}
use Rattle.esm_loads.specs.declared.data.Stage.TheVariants as stages
use Rattle.esm_loads.proofs.Places.{get_within}
use Rattle.esm_loads.proofs.HostFacts.{settles_none, settles_complete, settles_thrown, cause_within}
use Rattle.esm_loads.proofs.settling.settle_load.Goals as goal

pub reject-requires : goal.reject-requires
reject-requires c =
    let t = c.args.loads.now in
    let v = get_within t.loads.items c.args.load c.requires.load in
    cause_within (length t.urls.slots) c.in-Thrown.cause (subst (IsStageWithin (length t.urls.slots)) (sym (c.stage_of.ensures v.0 v.1) ∙ c.in-Thrown.is) (c.requires.within v.0 v.1))

pub returns-in-Asked : goal.returns-in-Asked
returns-in-Asked c named maps R =
    let t = c.args.loads.now in
    let v = get_within t.loads.items c.args.load c.requires.load in
    settles_none named maps R t c.args.load v.0 c.purpose_at.result v.1 c.purpose_at.ensures c.args.promises.now c.args.errors.now stages.Asked (sym c.in-Asked.is ∙ c.stage_of.ensures v.0 v.1) (λ h q. refl)

pub returns-in-Open : goal.returns-in-Open
returns-in-Open c named maps R =
    let t = c.args.loads.now in
    let v = get_within t.loads.items c.args.load c.requires.load in
    settles_none named maps R t c.args.load v.0 c.purpose_at.result v.1 c.purpose_at.ensures c.args.promises.now c.args.errors.now (stages.Open c.in-Open._root) (sym c.in-Open.is ∙ c.stage_of.ensures v.0 v.1) (λ h q. refl)

pub returns-in-Complete : goal.returns-in-Complete
returns-in-Complete c named maps R =
    let t = c.args.loads.now in
    let v = get_within t.loads.items c.args.load c.requires.load in
    settles_complete named maps R t c.args.load v.0 c.purpose_at.result v.1 c.purpose_at.ensures c.args.promises.now c.args.errors.now c.stage_of.result c.in-Complete._root c.promise_of-promise.result.0 c.fulfill.new.promises (c.stage_of.ensures v.0 v.1) c.in-Complete.is c.promise_of-promise.ensures
    (c.fulfill.ensures named c.args.errors.now (loading_of maps t R))

pub returns-in-Ok : goal.returns-in-Ok
returns-in-Ok c named maps R =
    let t = c.args.loads.now in
    let v = get_within t.loads.items c.args.load c.requires.load in
    settles_thrown named maps R t c.args.load v.0 c.purpose_at.result v.1 c.purpose_at.ensures c.args.promises.now c.args.errors.now c.stage_of.result c.in-Thrown.cause c.promise_of-promise.result.0 c.reject.new.promises c.reject.new.errors (c.stage_of.ensures v.0 v.1) c.in-Thrown.is c.promise_of-promise.ensures
    (c.in-Ok.ensures named (loading_of maps t R))
