use Rattle.std.proofs.Common.{Some, None}
use Rattle.esm_machine.specs.Machine.{state_of}
use Rattle.esm_machine.proofs.Told.{ended_told, exactly_told, known_told, memory_told, status_at, status_told}
use Rattle.esm_machine.proofs.machine.Machine.end.Goals as goal

pub live_status-requires : goal.live_status-requires
live_status-requires c =
    let kept = rw c.in-None.is at c.self.invariant in
    kept.0

pub returns-in-Some-clause-state : goal.returns-in-Some-clause-state
returns-in-Some-clause-state c =
    status_at c.self.inside.parts c.self.inside.stopped c.args.self.now c.self.view_is (Some c.in-Some.end) _ c.in-Some.is (c.stopped_status.ensures _)

pub returns-in-Some-clause-known : goal.returns-in-Some-clause-known
returns-in-Some-clause-known c =
    known_told (state_of c.args.self.now) _ (status_at c.self.inside.parts c.self.inside.stopped c.args.self.now c.self.view_is (Some c.in-Some.end) _ c.in-Some.is (c.stopped_status.ensures _))

pub returns-in-Some-clause-exactly : goal.returns-in-Some-clause-exactly
returns-in-Some-clause-exactly c =
    exactly_told (state_of c.args.self.now) _ (status_at c.self.inside.parts c.self.inside.stopped c.args.self.now c.self.view_is (Some c.in-Some.end) _ c.in-Some.is (c.stopped_status.ensures _))

pub returns-in-Some-clause-memory : goal.returns-in-Some-clause-memory
returns-in-Some-clause-memory c =
    memory_told (state_of c.args.self.now) _ (status_at c.self.inside.parts c.self.inside.stopped c.args.self.now c.self.view_is (Some c.in-Some.end) _ c.in-Some.is (c.stopped_status.ensures _))

pub returns-in-Some-clause-standard : goal.returns-in-Some-clause-standard
returns-in-Some-clause-standard c =
    status_told (state_of c.args.self.now) _ (status_at c.self.inside.parts c.self.inside.stopped c.args.self.now c.self.view_is (Some c.in-Some.end) _ c.in-Some.is (c.stopped_status.ensures _))

pub returns-in-Some-clause-ended : goal.returns-in-Some-clause-ended
returns-in-Some-clause-ended c =
    ended_told (state_of c.args.self.now) _ (status_at c.self.inside.parts c.self.inside.stopped c.args.self.now c.self.view_is (Some c.in-Some.end) _ c.in-Some.is (c.stopped_status.ensures _))

pub returns-in-None-clause-state : goal.returns-in-None-clause-state
returns-in-None-clause-state c =
    status_at c.self.inside.parts c.self.inside.stopped c.args.self.now c.self.view_is (None) _ c.in-None.is (c.live_status.ensures)

pub returns-in-None-clause-known : goal.returns-in-None-clause-known
returns-in-None-clause-known c =
    known_told (state_of c.args.self.now) _ (status_at c.self.inside.parts c.self.inside.stopped c.args.self.now c.self.view_is (None) _ c.in-None.is (c.live_status.ensures))

pub returns-in-None-clause-exactly : goal.returns-in-None-clause-exactly
returns-in-None-clause-exactly c =
    exactly_told (state_of c.args.self.now) _ (status_at c.self.inside.parts c.self.inside.stopped c.args.self.now c.self.view_is (None) _ c.in-None.is (c.live_status.ensures))

pub returns-in-None-clause-memory : goal.returns-in-None-clause-memory
returns-in-None-clause-memory c =
    memory_told (state_of c.args.self.now) _ (status_at c.self.inside.parts c.self.inside.stopped c.args.self.now c.self.view_is (None) _ c.in-None.is (c.live_status.ensures))

pub returns-in-None-clause-standard : goal.returns-in-None-clause-standard
returns-in-None-clause-standard c =
    status_told (state_of c.args.self.now) _ (status_at c.self.inside.parts c.self.inside.stopped c.args.self.now c.self.view_is (None) _ c.in-None.is (c.live_status.ensures))

pub returns-in-None-clause-ended : goal.returns-in-None-clause-ended
returns-in-None-clause-ended c =
    ended_told (state_of c.args.self.now) _ (status_at c.self.inside.parts c.self.inside.stopped c.args.self.now c.self.view_is (None) _ c.in-None.is (c.live_status.ensures))
