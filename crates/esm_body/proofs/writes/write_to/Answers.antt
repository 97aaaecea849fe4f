use Rattle.esm_env.specs.Calls.{scopes_of}
use Rattle.esm_body.proofs.LevelNames.{place_bound}
use Rattle.esm_body.proofs.NamesWritten.{writes_block, writes_module}
use Rattle.esm_body.proofs.writes.write_to.Goals as goal

pub write_slot-requires-clause-level : goal.write_slot-requires-clause-level
write_slot-requires-clause-level c =
    let h = rw c.as_slice.ensures.value at c.in-Some.ensures in
    (place_bound c.args.levels.now.items c.in-Some.level c.in-Some.at c.args.name.now h.1).0

pub write_slot-requires-clause-place : goal.write_slot-requires-clause-place
write_slot-requires-clause-place c =
    let h = rw c.as_slice.ensures.value at c.in-Some.ensures in
    (place_bound c.args.levels.now.items c.in-Some.level c.in-Some.at c.args.name.now h.1).1

pub returns-in-Some : goal.returns-in-Some
returns-in-Some c =
    let h = rw c.as_slice.ensures.value at c.in-Some.ensures in
    writes_block c.args.levels.now.items c.in-Some.level c.in-Some.at c.args.name.now c.args.value c.write_slot.result c.write_slot.new.levels.items (scopes_of c.args.envs.now) c.args.m.0 h c.write_slot.ensures

pub returns-in-None : goal.returns-in-None
returns-in-None c =
    let h = rw c.as_slice.ensures.value at c.in-None.ensures in
    writes_module c.args.levels.now.items c.args.name.now c.args.value c.write.result (scopes_of c.args.envs.now) (scopes_of c.write.new.self) c.args.m.0 h c.write.ensures
