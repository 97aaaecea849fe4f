-- Each place is reached as it is put in.
use Rattle.std.proofs.Common.{◌≡◌, ◌+◌, ◌<◌, suc, Some, length, slice_get, ap, subst, sym, ◌∙◌, refl, arith}
use Rattle.std.specs.BTreeMap.{get}
use Rattle.std.specs.Cmp.Lexicographic.{slice_cmp}
use Rattle.std.specs.Ordering.{nat_cmp}
use Rattle.std.proofs.lemmas.Option.{slice_get-get_or}
use Rattle.esm_text_table.specs.TextTable.{room, reach, start_of, mark_of, Puts, AreReached}
use Rattle.esm_text_table.proofs.Slots.{at_is, ok_by}
use Rattle.esm_text_table.proofs.TextTables.{put_by, mark_is, as_many}
use Rattle.esm_text_table.proofs.text_table.put_all.Goals as goal

pub loop-place-preserved : goal.loop-place-preserved
loop-place-preserved c =
    let slots = c.loop-place.slots.items in let now = c.put.new.slots.items in
    let O = get (slice_cmp nat_cmp) c.loop-place.others in let P = get (slice_cmp nat_cmp) c.put.new.others in
    let texts = c.args.texts.now in let marks = c.args.marks.now in let n = c.loop-place.place in let t = c.index-texts-place.result in
    let many = as_many marks texts c.requires.marks in
    let within : n < length texts = omega (arith, c.loop-place-test.true) in
    let marked : n < length marks = omega (arith, within, many) in
    let at : slice_get texts n ≡ Some t = at_is texts n t _ within c.index-texts-place.is in
    let start : c.start_of-start.result ≡ start_of c.args.mask (mark_of t) = c.start_of-start.ensures ∙ ap (start_of c.args.mask) (mark_is marks texts n _ t c.requires.marks at (slice_get-get_or marks n _ marked)) in
    let puts : Puts (room slots reach (start_of c.args.mask (mark_of t))) slots O t n now P = subst (λ s. Puts (room slots reach s) slots O t n now P) start (ok_by c.put.result (sym c.is_err.ensures.value ∙ c.if-is_err.false) c.put.ensures.put) in
    let put = put_by slots c.args.mask marks O texts n t c.requires.marks c.loop-place.invariant.sound at (room slots reach (start_of c.args.mask (mark_of t))) now P refl puts in
    let next : suc n ≡ n + 1 = omega arith in
    record {
      sound = put.0;
      kept = λ q p h. put.1.0 q p (c.loop-place.invariant.kept q p h);
      reached = subst (λ k. AreReached k now c.args.mask marks P texts) next (put.1.1 c.loop-place.invariant.reached);
    }
