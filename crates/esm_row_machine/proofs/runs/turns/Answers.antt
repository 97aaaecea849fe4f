use Rattle.std.proofs.Common.{◌≡◌, ◌+◌, ◌-◌, refl, arith}
use Rattle.std.specs.Prelude.{Ok, Err}
use Rattle.esm_row_machine.specs.declared.turn.Turn.TheVariants as turn
use Rattle.esm_row_machine.proofs.AtOnce.{amid_starts, amid_goes, amid_leaves, amid_stops, amid_moves, amid_declines, amid_halts, turn_any}
use Rattle.esm_row_machine.proofs.runs.turns.Goals as goal

pub functions-init : goal.functions-init
functions-init g c = amid_starts g.W.Outside.state g.W.Outside.modules g.W.Outside.linked g.W.Outside.begins g.W.Outside.ready g.W.Outside.keeps g.W.Outside.owns (record { itself = g.met.W.Outside.keeps_itself; both = g.met.W.Outside.keeps_both; stays = g.met.W.Outside.stays }) c.args.world.now c.args.machine.now c.args.rows.now c.args.frame.now c.args.start.now c.requires

pub turning-init : goal.turning-init
turning-init g c = c.functions.invariant

pub op_at-op-requires : goal.op_at-op-requires
op_at-op-requires g c = omega (arith, c.turning-test.true, c.turning.invariant.within)

pub operate_at-requires : goal.operate_at-requires
operate_at-requires g c = omega (arith, c.turning-test.true, c.turning.invariant.within)

pub operate_at-requires-in_default : goal.operate_at-requires-in_default
operate_at-requires-in_default g c = omega (arith, c.turning-test.true, c.turning.invariant.within)

pub turning-preserved-in-None : goal.turning-preserved-in-None
turning-preserved-in-None g c =
    let e : c.turning.left - 1 + 1 ≡ c.turning.left = omega (arith, c.turning-test.true) in
    amid_goes g.W.Outside.state g.W.Outside.modules g.W.Outside.linked g.W.Outside.begins g.W.Outside.ready g.W.Outside.keeps g.W.Outside.owns (record { itself = g.met.W.Outside.keeps_itself; both = g.met.W.Outside.keeps_both; stays = g.met.W.Outside.stays }) c.args.world.now c.args.machine.now c.args.rows.now c.args.frame.now c.turning.frame c.turning.row.now c.turning.left c.turning.world c.turning.machine c.turning.invariant (c.turning.left - 1) c.do_here.new.world c.do_here.new.machine (omega (arith, c.turning-test.true)) (turn_any g.W.Outside.state g.W.Outside.modules g.W.Outside.linked g.W.Outside.begins g.W.Outside.ready g.W.Outside.keeps g.W.Outside.owns (record { itself = g.met.W.Outside.keeps_itself; both = g.met.W.Outside.keeps_both; stays = g.met.W.Outside.stays }) c.turning.world c.turning.machine c.turning.frame c.turning.left (c.turning.left - 1) c.turning.row.now e (Ok (turn.On (c.turning.left - 1))) c.do_here.new.world c.do_here.new.machine (rw c.in-None.is at c.in-Ok.ensures c.turning.frame c.turning.row.now (c.turning.left - 1) refl c.op_at-op.ensures))

pub returns-in-Some : goal.returns-in-Some
returns-in-Some g c =
    let e : c.turning.left - 1 + 1 ≡ c.turning.left = omega (arith, c.turning-test.true) in
    amid_leaves g.W.Outside.state g.W.Outside.modules g.W.Outside.linked g.W.Outside.begins g.W.Outside.ready g.W.Outside.keeps g.W.Outside.owns (record { itself = g.met.W.Outside.keeps_itself; both = g.met.W.Outside.keeps_both; stays = g.met.W.Outside.stays }) c.args.world.now c.args.machine.now c.args.rows.now c.args.frame.now c.turning.frame c.turning.row.now c.turning.left c.turning.world c.turning.machine c.turning.invariant (turn.Throws c.in-Some.error) c.do_here.new.world c.do_here.new.machine (turn_any g.W.Outside.state g.W.Outside.modules g.W.Outside.linked g.W.Outside.begins g.W.Outside.ready g.W.Outside.keeps g.W.Outside.owns (record { itself = g.met.W.Outside.keeps_itself; both = g.met.W.Outside.keeps_both; stays = g.met.W.Outside.stays }) c.turning.world c.turning.machine c.turning.frame c.turning.left (c.turning.left - 1) c.turning.row.now e (Ok (turn.Throws c.in-Some.error)) c.do_here.new.world c.do_here.new.machine (rw c.in-Some.is at c.in-Ok.ensures c.turning.frame c.turning.row.now (c.turning.left - 1) refl c.op_at-op.ensures))

pub returns-in-Err : goal.returns-in-Err
returns-in-Err g c =
    let e : c.turning.left - 1 + 1 ≡ c.turning.left = omega (arith, c.turning-test.true) in
    amid_stops g.W.Outside.state g.W.Outside.modules g.W.Outside.linked g.W.Outside.begins g.W.Outside.ready g.W.Outside.keeps g.W.Outside.owns (record { itself = g.met.W.Outside.keeps_itself; both = g.met.W.Outside.keeps_both; stays = g.met.W.Outside.stays }) c.args.world.now c.args.machine.now c.args.rows.now c.args.frame.now c.turning.frame c.turning.row.now c.turning.left c.turning.world c.turning.machine c.turning.invariant c.in-Err.stop c.do_here.new.world c.do_here.new.machine (turn_any g.W.Outside.state g.W.Outside.modules g.W.Outside.linked g.W.Outside.begins g.W.Outside.ready g.W.Outside.keeps g.W.Outside.owns (record { itself = g.met.W.Outside.keeps_itself; both = g.met.W.Outside.keeps_both; stays = g.met.W.Outside.stays }) c.turning.world c.turning.machine c.turning.frame c.turning.left (c.turning.left - 1) c.turning.row.now e (Err c.in-Err.stop) c.do_here.new.world c.do_here.new.machine (c.in-Err.ensures c.turning.frame c.turning.row.now (c.turning.left - 1) refl c.op_at-op.ensures))

pub functions-preserved : goal.functions-preserved
functions-preserved g c =
    let e : c.turning.left - 1 + 1 ≡ c.turning.left = omega (arith, c.turning-test.true) in
    amid_moves g.W.Outside.state g.W.Outside.modules g.W.Outside.linked g.W.Outside.begins g.W.Outside.ready g.W.Outside.keeps g.W.Outside.owns (record { itself = g.met.W.Outside.keeps_itself; both = g.met.W.Outside.keeps_both; stays = g.met.W.Outside.stays }) c.args.world.now c.args.machine.now c.args.rows.now c.args.frame.now c.turning.frame c.turning.row.now c.turning.left c.turning.world c.turning.machine c.turning.invariant (c.turning.left - 1) e c.op_at-op.result c.op_at-op.ensures c.in-Some-next.next c.leave_here.new.world c.leave_here.new.machine c.leave_here.new.frame (rw c.in-Some-next.is at c.in-Ok-leave_here.ensures)

pub returns-in-None-next : goal.returns-in-None-next
returns-in-None-next g c =
    let e : c.turning.left - 1 + 1 ≡ c.turning.left = omega (arith, c.turning-test.true) in
    amid_declines g.W.Outside.state g.W.Outside.modules g.W.Outside.linked g.W.Outside.begins g.W.Outside.ready g.W.Outside.keeps g.W.Outside.owns (record { itself = g.met.W.Outside.keeps_itself; both = g.met.W.Outside.keeps_both; stays = g.met.W.Outside.stays }) c.args.world.now c.args.machine.now c.args.rows.now c.args.frame.now c.turning.frame c.turning.row.now c.turning.left c.turning.world c.turning.machine c.turning.invariant (c.turning.left - 1) e c.op_at-op.result c.op_at-op.ensures c.leave_here.new.world c.leave_here.new.machine c.leave_here.new.frame (rw c.in-None-next.is at c.in-Ok-leave_here.ensures) c.operate_at.result c.operate_at.new.world c.operate_at.new.machine c.operate_at.ensures.turns

pub returns-in-Err-leave_here : goal.returns-in-Err-leave_here
returns-in-Err-leave_here g c =
    let e : c.turning.left - 1 + 1 ≡ c.turning.left = omega (arith, c.turning-test.true) in
    amid_halts g.W.Outside.state g.W.Outside.modules g.W.Outside.linked g.W.Outside.begins g.W.Outside.ready g.W.Outside.keeps g.W.Outside.owns (record { itself = g.met.W.Outside.keeps_itself; both = g.met.W.Outside.keeps_both; stays = g.met.W.Outside.stays }) c.args.world.now c.args.machine.now c.args.rows.now c.args.frame.now c.turning.frame c.turning.row.now c.turning.left c.turning.world c.turning.machine c.turning.invariant (c.turning.left - 1) e c.op_at-op.result c.op_at-op.ensures c.in-Err-leave_here.stop c.leave_here.new.world c.leave_here.new.machine c.leave_here.new.frame c.in-Err-leave_here.ensures

pub turning-preserved : goal.turning-preserved
turning-preserved g c =
    let e : c.turning.left - 1 + 1 ≡ c.turning.left = omega (arith, c.turning-test.true) in
    let k = rw c.in-On.is at c.in-Ok-operate_at.ensures.leads in
    amid_goes g.W.Outside.state g.W.Outside.modules g.W.Outside.linked g.W.Outside.begins g.W.Outside.ready g.W.Outside.keeps g.W.Outside.owns (record { itself = g.met.W.Outside.keeps_itself; both = g.met.W.Outside.keeps_both; stays = g.met.W.Outside.stays }) c.args.world.now c.args.machine.now c.args.rows.now c.args.frame.now c.turning.frame c.turning.row.now c.turning.left c.turning.world c.turning.machine c.turning.invariant c.in-On.next c.operate_at-in_default.new.world c.operate_at-in_default.new.machine (omega (arith, c.turning-test.true, k)) (turn_any g.W.Outside.state g.W.Outside.modules g.W.Outside.linked g.W.Outside.begins g.W.Outside.ready g.W.Outside.keeps g.W.Outside.owns (record { itself = g.met.W.Outside.keeps_itself; both = g.met.W.Outside.keeps_both; stays = g.met.W.Outside.stays }) c.turning.world c.turning.machine c.turning.frame c.turning.left (c.turning.left - 1) c.turning.row.now e (Ok (turn.On c.in-On.next)) c.operate_at-in_default.new.world c.operate_at-in_default.new.machine (rw c.in-On.is at c.in-Ok-operate_at.ensures.turns))

pub turning-smaller : goal.turning-smaller
turning-smaller g c = let k = rw c.in-On.is at c.in-Ok-operate_at.ensures.leads in omega (arith, c.turning-test.true, k)

pub returns-in_default-told : goal.returns-in_default-told
returns-in_default-told g c =
    let e : c.turning.left - 1 + 1 ≡ c.turning.left = omega (arith, c.turning-test.true) in
    amid_leaves g.W.Outside.state g.W.Outside.modules g.W.Outside.linked g.W.Outside.begins g.W.Outside.ready g.W.Outside.keeps g.W.Outside.owns (record { itself = g.met.W.Outside.keeps_itself; both = g.met.W.Outside.keeps_both; stays = g.met.W.Outside.stays }) c.args.world.now c.args.machine.now c.args.rows.now c.args.frame.now c.turning.frame c.turning.row.now c.turning.left c.turning.world c.turning.machine c.turning.invariant c.in-Ok-operate_at.told c.operate_at-in_default.new.world c.operate_at-in_default.new.machine (turn_any g.W.Outside.state g.W.Outside.modules g.W.Outside.linked g.W.Outside.begins g.W.Outside.ready g.W.Outside.keeps g.W.Outside.owns (record { itself = g.met.W.Outside.keeps_itself; both = g.met.W.Outside.keeps_both; stays = g.met.W.Outside.stays }) c.turning.world c.turning.machine c.turning.frame c.turning.left (c.turning.left - 1) c.turning.row.now e (Ok c.in-Ok-operate_at.told) c.operate_at-in_default.new.world c.operate_at-in_default.new.machine c.in-Ok-operate_at.ensures.turns)

pub returns-in-Err-operate_at : goal.returns-in-Err-operate_at
returns-in-Err-operate_at g c =
    let e : c.turning.left - 1 + 1 ≡ c.turning.left = omega (arith, c.turning-test.true) in
    amid_stops g.W.Outside.state g.W.Outside.modules g.W.Outside.linked g.W.Outside.begins g.W.Outside.ready g.W.Outside.keeps g.W.Outside.owns (record { itself = g.met.W.Outside.keeps_itself; both = g.met.W.Outside.keeps_both; stays = g.met.W.Outside.stays }) c.args.world.now c.args.machine.now c.args.rows.now c.args.frame.now c.turning.frame c.turning.row.now c.turning.left c.turning.world c.turning.machine c.turning.invariant c.in-Err-operate_at.stop c.operate_at-in_default.new.world c.operate_at-in_default.new.machine (turn_any g.W.Outside.state g.W.Outside.modules g.W.Outside.linked g.W.Outside.begins g.W.Outside.ready g.W.Outside.keeps g.W.Outside.owns (record { itself = g.met.W.Outside.keeps_itself; both = g.met.W.Outside.keeps_both; stays = g.met.W.Outside.stays }) c.turning.world c.turning.machine c.turning.frame c.turning.left (c.turning.left - 1) c.turning.row.now e (Err c.in-Err-operate_at.stop) c.operate_at-in_default.new.world c.operate_at-in_default.new.machine c.in-Err-operate_at.ensures.turns)
