use Rattle.esm_body.proofs.NamesWritten.{place_as, top_place, top_set, top_stays}
use Rattle.esm_body.proofs.writes.set_top.Goals as goal

pub set_slot-requires-clause-place : goal.set_slot-requires-clause-place
set_slot-requires-clause-place c =
    let p = place_as c.args.levels.now.items c.args.level c.args.name.now _ _ _ c.index.ensures c.in-Some.ensures in
    top_place c.args.levels.now.items c.args.level c.args.name.now _ c.requires c.in-Some.at p

pub returns-in-Some : goal.returns-in-Some
returns-in-Some c =
    let p = place_as c.args.levels.now.items c.args.level c.args.name.now _ _ _ c.index.ensures c.in-Some.ensures in
    top_set c.args.levels.now.items c.args.level c.args.name.now _ c.requires c.in-Some.at c.args.value c.set_slot.new.levels.items p c.set_slot.ensures

pub returns-in-None : goal.returns-in-None
returns-in-None c =
    let p = place_as c.args.levels.now.items c.args.level c.args.name.now _ _ _ c.index.ensures c.in-None.ensures in
    top_stays c.args.levels.now.items c.args.level c.args.name.now _ c.requires c.args.value p
