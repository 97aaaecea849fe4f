use Rattle.std.proofs.Common.{◌≤◌, length, slice_get, ap, sym, ◌∙◌, arith}
use Rattle.std.specs.BTreeMap.{get}
use Rattle.std.specs.Cmp.Lexicographic.{slice_cmp}
use Rattle.std.specs.Ordering.{nat_cmp}
use Rattle.esm_text_table.specs.TextTable.{tells}
use Rattle.esm_text_table.proofs.Slots.{look_zero, look_end, look_free, look_told, look_next}
use Rattle.esm_text_table.proofs.text_table.Places.+look.Goals as goal

pub returns-then-left-eq0 : goal.returns-then-left-eq0
returns-then-left-eq0 t c =
    let s = c.args.self.now in let told = tells s.marks.items c.args.texts.now c.args.mark c.args.text.now in let other = get (slice_cmp nat_cmp) s.others c.args.text.now in
    c.copied.ensures ∙ (c.get.ensures.value ∙ look_zero s.slots.items told other c.args.left c.args.at (omega (arith, c.if-left-eq0.true)))

pub returns-then-at-len : goal.returns-then-at-len
returns-then-at-len t c =
    let s = c.args.self.now in let told = tells s.marks.items c.args.texts.now c.args.mark c.args.text.now in let other = get (slice_cmp nat_cmp) s.others c.args.text.now in
    let past : length s.slots.items ≤ c.args.at = omega (arith, c.if-at-len.true) in
    c.copied-then-at-len.ensures ∙ (c.get-then-at-len.ensures.value ∙ look_end s.slots.items told other c.args.left c.args.at past)

pub returns-then-number-eq0 : goal.returns-then-number-eq0
returns-then-number-eq0 t c =
    let s = c.args.self.now in let told = tells s.marks.items c.args.texts.now c.args.mark c.args.text.now in let other = get (slice_cmp nat_cmp) s.others c.args.text.now in
    look_free s.slots.items told other c.args.left c.args.at c.in-Some.number (omega (arith, c.if-left-eq0.false)) (sym (c.slot_at.ensures ∙ ap (λ l. slice_get l c.args.at) c.as_slice.ensures.value) ∙ c.in-Some.is) (omega (arith, c.if-number-eq0.true))

pub returns-then-tells : goal.returns-then-tells
returns-then-tells t c =
    let s = c.args.self.now in let told = tells s.marks.items c.args.texts.now c.args.mark c.args.text.now in let other = get (slice_cmp nat_cmp) s.others c.args.text.now in
    look_told s.slots.items told other c.args.left c.args.at c.in-Some.number (omega (arith, c.if-left-eq0.false)) (sym (c.slot_at.ensures ∙ ap (λ l. slice_get l c.args.at) c.as_slice.ensures.value) ∙ c.in-Some.is) (omega (arith, c.if-number-eq0.false)) (sym c.tells.ensures ∙ c.if-tells.true)

pub returns-else-tells : goal.returns-else-tells
returns-else-tells t c =
    let s = c.args.self.now in let told = tells s.marks.items c.args.texts.now c.args.mark c.args.text.now in let other = get (slice_cmp nat_cmp) s.others c.args.text.now in
    c.look.ensures ∙ look_next s.slots.items told other c.args.left c.args.at c.in-Some.number (omega (arith, c.if-left-eq0.false)) (sym (c.slot_at.ensures ∙ ap (λ l. slice_get l c.args.at) c.as_slice.ensures.value) ∙ c.in-Some.is) (omega (arith, c.if-number-eq0.false)) (sym c.tells.ensures ∙ c.if-tells.false)
