use Rattle.std.specs.Prelude.{Ok, Err}
use Rattle.esm_row_machine.specs.declared.runs.Next.TheVariants as next
use Rattle.esm_row_machine.proofs.Followed.{running_starts, running_goes, run_gave, run_threw, run_stops}
use Rattle.esm_row_machine.proofs.AtOnce.{leaves_on, stops_on}
use Rattle.esm_row_machine.proofs.runs.run.Goals as goal

pub running-init : goal.running-init
running-init g c = running_starts g.W.Outside.state g.W.Outside.modules g.W.Outside.linked g.W.Outside.begins g.W.Outside.ready g.W.Outside.keeps g.W.Outside.owns (record { itself = g.met.W.Outside.keeps_itself; both = g.met.W.Outside.keeps_both; stays = g.met.W.Outside.stays }) c.args.world.now c.args.machine.now c.args.rows.now c.args.frame

pub running-preserved : goal.running-preserved
running-preserved g c = running_goes g.W.Outside.state g.W.Outside.modules g.W.Outside.linked g.W.Outside.begins g.W.Outside.ready g.W.Outside.keeps g.W.Outside.owns (record { itself = g.met.W.Outside.keeps_itself; both = g.met.W.Outside.keeps_both; stays = g.met.W.Outside.stays }) c.args.world.now c.args.machine.now c.args.rows.now c.args.frame c.running.here c.running.world c.running.machine c.running.rows c.running.invariant c.in-Goes.frame c.follow.new.world c.follow.new.machine c.follow.new.rows (leaves_on g.W.Outside.state g.W.Outside.modules g.W.Outside.linked g.W.Outside.begins g.W.Outside.ready g.W.Outside.keeps g.W.Outside.owns (record { itself = g.met.W.Outside.keeps_itself; both = g.met.W.Outside.keeps_both; stays = g.met.W.Outside.stays }) c.running.world c.running.machine c.running.rows c.running.here c.go_on.new.frame c.go_on.new.world c.go_on.new.machine c.in-Ok.turn c.in-Ok.ensures (Ok (next.Goes c.in-Goes.frame)) c.follow.new.world c.follow.new.machine c.follow.new.rows (rw c.in-Goes.is at c.in-Ok-follow.ensures))

pub returns-in-Gave : goal.returns-in-Gave
returns-in-Gave g c = run_gave g.W.Outside.state g.W.Outside.modules g.W.Outside.linked g.W.Outside.begins g.W.Outside.ready g.W.Outside.keeps g.W.Outside.owns (record { itself = g.met.W.Outside.keeps_itself; both = g.met.W.Outside.keeps_both; stays = g.met.W.Outside.stays }) c.args.world.now c.args.machine.now c.args.rows.now c.args.frame c.running.here c.running.world c.running.machine c.running.rows c.running.invariant c.in-Gave.value c.follow.new.world c.follow.new.machine c.follow.new.rows (leaves_on g.W.Outside.state g.W.Outside.modules g.W.Outside.linked g.W.Outside.begins g.W.Outside.ready g.W.Outside.keeps g.W.Outside.owns (record { itself = g.met.W.Outside.keeps_itself; both = g.met.W.Outside.keeps_both; stays = g.met.W.Outside.stays }) c.running.world c.running.machine c.running.rows c.running.here c.go_on.new.frame c.go_on.new.world c.go_on.new.machine c.in-Ok.turn c.in-Ok.ensures (Ok (next.Gave c.in-Gave.value)) c.follow.new.world c.follow.new.machine c.follow.new.rows (rw c.in-Gave.is at c.in-Ok-follow.ensures))

pub returns-in-Thrown : goal.returns-in-Thrown
returns-in-Thrown g c = run_threw g.W.Outside.state g.W.Outside.modules g.W.Outside.linked g.W.Outside.begins g.W.Outside.ready g.W.Outside.keeps g.W.Outside.owns (record { itself = g.met.W.Outside.keeps_itself; both = g.met.W.Outside.keeps_both; stays = g.met.W.Outside.stays }) c.args.world.now c.args.machine.now c.args.rows.now c.args.frame c.running.here c.running.world c.running.machine c.running.rows c.running.invariant c.in-Thrown.value c.follow.new.world c.follow.new.machine c.follow.new.rows (leaves_on g.W.Outside.state g.W.Outside.modules g.W.Outside.linked g.W.Outside.begins g.W.Outside.ready g.W.Outside.keeps g.W.Outside.owns (record { itself = g.met.W.Outside.keeps_itself; both = g.met.W.Outside.keeps_both; stays = g.met.W.Outside.stays }) c.running.world c.running.machine c.running.rows c.running.here c.go_on.new.frame c.go_on.new.world c.go_on.new.machine c.in-Ok.turn c.in-Ok.ensures (Ok (next.Thrown c.in-Thrown.value)) c.follow.new.world c.follow.new.machine c.follow.new.rows (rw c.in-Thrown.is at c.in-Ok-follow.ensures))

pub returns-in-Err-follow : goal.returns-in-Err-follow
returns-in-Err-follow g c = run_stops g.W.Outside.state g.W.Outside.modules g.W.Outside.linked g.W.Outside.begins g.W.Outside.ready g.W.Outside.keeps g.W.Outside.owns (record { itself = g.met.W.Outside.keeps_itself; both = g.met.W.Outside.keeps_both; stays = g.met.W.Outside.stays }) c.args.world.now c.args.machine.now c.args.rows.now c.args.frame c.running.here c.running.world c.running.machine c.running.rows c.running.invariant c.in-Err-follow.stop c.follow.new.world c.follow.new.machine c.follow.new.rows (leaves_on g.W.Outside.state g.W.Outside.modules g.W.Outside.linked g.W.Outside.begins g.W.Outside.ready g.W.Outside.keeps g.W.Outside.owns (record { itself = g.met.W.Outside.keeps_itself; both = g.met.W.Outside.keeps_both; stays = g.met.W.Outside.stays }) c.running.world c.running.machine c.running.rows c.running.here c.go_on.new.frame c.go_on.new.world c.go_on.new.machine c.in-Ok.turn c.in-Ok.ensures (Err c.in-Err-follow.stop) c.follow.new.world c.follow.new.machine c.follow.new.rows c.in-Err-follow.ensures)

pub returns-in-Err : goal.returns-in-Err
returns-in-Err g c = run_stops g.W.Outside.state g.W.Outside.modules g.W.Outside.linked g.W.Outside.begins g.W.Outside.ready g.W.Outside.keeps g.W.Outside.owns (record { itself = g.met.W.Outside.keeps_itself; both = g.met.W.Outside.keeps_both; stays = g.met.W.Outside.stays }) c.args.world.now c.args.machine.now c.args.rows.now c.args.frame c.running.here c.running.world c.running.machine c.running.rows c.running.invariant c.in-Err.stop c.go_on.new.world c.go_on.new.machine c.running.rows (stops_on g.W.Outside.state g.W.Outside.modules g.W.Outside.linked g.W.Outside.begins g.W.Outside.ready g.W.Outside.keeps g.W.Outside.owns (record { itself = g.met.W.Outside.keeps_itself; both = g.met.W.Outside.keeps_both; stays = g.met.W.Outside.stays }) c.running.world c.running.machine c.running.rows c.running.here c.go_on.new.frame c.go_on.new.world c.go_on.new.machine c.in-Err.stop c.in-Err.ensures)
