use Rattle.esm_machine.specs.Machine.{state_of}
use Rattle.esm_machine.proofs.Told.{line_live_at, line_stopped_at, line_told}
use Rattle.esm_machine.proofs.machine.Machine.last_line.Goals as goal

pub live_line-requires : goal.live_line-requires
live_line-requires c =
    let kept = rw c.in-None.is at c.self.invariant in
    kept.0

pub returns-in-Some-clause-state : goal.returns-in-Some-clause-state
returns-in-Some-clause-state c =
    line_stopped_at c.self.inside.parts c.self.inside.stopped c.args.self.now c.self.view_is c.in-Some.end c.stopped_line.result c.in-Some.is (c.stopped_line.ensures _)

pub returns-in-Some-clause-standard : goal.returns-in-Some-clause-standard
returns-in-Some-clause-standard c =
    line_told (state_of c.args.self.now) c.stopped_line.result
    (line_stopped_at c.self.inside.parts c.self.inside.stopped c.args.self.now c.self.view_is c.in-Some.end c.stopped_line.result c.in-Some.is (c.stopped_line.ensures _))

pub returns-in-None-clause-state : goal.returns-in-None-clause-state
returns-in-None-clause-state c =
    line_live_at c.self.inside.parts c.self.inside.stopped c.args.self.now c.self.view_is c.live_line.result c.in-None.is c.requires c.live_line.ensures

pub returns-in-None-clause-standard : goal.returns-in-None-clause-standard
returns-in-None-clause-standard c =
    line_told (state_of c.args.self.now) c.live_line.result
    (line_live_at c.self.inside.parts c.self.inside.stopped c.args.self.now c.self.view_is c.live_line.result c.in-None.is c.requires c.live_line.ensures)
