use Rattle.std.proofs.Common.{◌≡◌, ◌++◌, [], ◌∷◌, None, length, bytes_eq, ap, subst, sym, ◌∙◌, arith}
use Rattle.std.specs.Prelude.{position}
use Rattle.std.specs.BTreeMap.{get}
use Rattle.std.specs.Cmp.Lexicographic.{slice_cmp}
use Rattle.std.specs.Ordering.{nat_cmp}
use Rattle.esm_text_table.specs.TextTable.{room, reach, start_of, mark_of, Puts}
use Rattle.esm_text_table.proofs.Slots.{ok_by}
use Rattle.esm_text_table.proofs.TextTables.{some_is, none_by, listed_more}
use Rattle.esm_text_table.proofs.text_table.TextTable.append.Goals as goal

pub invariant_of-self-2 : goal.invariant_of-self-2
invariant_of-self-2 c =
    let t = c.self.inside in let q = c.args.text in let slots = t.places.slots.items in let now = c.put-done.new.slots.items in
    let O = get (slice_cmp nat_cmp) t.places.others in let P = get (slice_cmp nat_cmp) c.put-done.new.others in
    let fresh : position (bytes_eq q) t.texts.items ≡ None = ap (position (bytes_eq q)) c.self.view_is ∙ none_by (position (bytes_eq q) c.args.self.now) (some_is (bytes_eq q) c.args.self.now ∙ c.requires.new) in
    let place : c.len-place.result ≡ length t.texts.items = omega arith in
    let start : c.start_of-start.result ≡ start_of t.places.mask (mark_of q) = c.start_of-start.ensures ∙ ap (start_of t.places.mask) c.requires.mark in
    let puts = ok_by c.put-done.result (sym c.is_err-3.ensures.value ∙ c.if-is_err-3.false) c.put-done.ensures.put in
    let placed = subst (λ n. Puts (room slots reach c.start_of-start.result) slots O q n now P) place puts in
    let more_marks : c.push_reserved.new.self.items ≡ t.places.marks.items ++ mark_of q ∷ [] = c.push_reserved.ensures.items ∙ (ap (λ l. l ++ c.args.mark ∷ []) c.reserve.ensures.items ∙ ap (λ m. t.places.marks.items ++ m ∷ []) c.requires.mark) in
    let more : c.push_reserved-2.new.self.items ≡ t.texts.items ++ q ∷ [] = c.push_reserved-2.ensures.items ∙ ap (λ l. l ++ q ∷ []) c.reserve-2.ensures.items in
    listed_more slots now t.places.mask t.places.marks.items c.push_reserved.new.self.items O P t.texts.items c.push_reserved-2.new.self.items q c.self.invariant fresh more_marks more
    (subst (λ s. Puts (room slots reach s) slots O q (length t.texts.items) now P) start placed)
