use Rattle.std.proofs.Common.{sym, ◌∙◌, arith}
use Rattle.esm_text_table.proofs.Slots.{room_zero, room_none, room_end, room_here, room_next}
use Rattle.esm_text_table.proofs.text_table.+room_of.Goals as goal

pub returns-then-at-slots : goal.returns-then-at-slots
returns-then-at-slots t c = room_end c.args.slots.now c.args.left c.args.at (omega (arith, c.if-at-slots.true))

pub returns-then-left-eq0 : goal.returns-then-left-eq0
returns-then-left-eq0 t c = room_zero c.args.slots.now c.args.left c.args.at (omega (arith, c.if-left-eq0.true))

pub returns-then-number-eq0 : goal.returns-then-number-eq0
returns-then-number-eq0 t c =
    room_here c.args.slots.now c.args.left c.args.at c.in-Some.number (omega (arith, c.if-left-eq0.false)) (sym c.slot_at.ensures ∙ c.in-Some.is) (omega (arith, c.if-number-eq0.true))

pub returns-else-number-eq0 : goal.returns-else-number-eq0
returns-else-number-eq0 t c =
    c.room_of.ensures ∙ room_next c.args.slots.now c.args.left c.args.at c.in-Some.number (omega (arith, c.if-left-eq0.false)) (sym c.slot_at.ensures ∙ c.in-Some.is) (omega (arith, c.if-number-eq0.false))

pub returns-in-None : goal.returns-in-None
returns-in-None t c = room_none c.args.slots.now c.args.left c.args.at (sym c.slot_at.ensures ∙ c.in-None.is)
