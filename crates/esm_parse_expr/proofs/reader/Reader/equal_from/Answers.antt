use Rattle.std.proofs.Common.{sym, ap, ◌∙◌, ◌+◌, ◌-◌, arith}
use Rattle.std.proofs.Math.Nat.{sub-zero}
use Rattle.std.proofs.lemmas.Result.{err_from_is_err_and}
use Rattle.esm_tree.specs.Flat.{part, compared_parts}
use Rattle.esm_tree.specs.Syntax.{last, compared}
use Rattle.esm_grammar.specs.Reading as read
use Rattle.esm_parse_expr.proofs.OutcomeLemmas.{grows_none, grows_then, no_memory, refused, continued, part_later, longer}
use Rattle.esm_parse_expr.proofs.Lists.{turn_more, turn_none}
use Rattle.esm_parse_expr.proofs.Compared.{append, below_push, pushed, gathered, from_first, comparisons_over, comparisons_done, comparisons_refused, comparisons_one}
use Rattle.esm_parse_expr.proofs.reader.Reader.equal_from.Goals as goal

pub turns-init : goal.turns-init
turns-init g c =
    rw (c.new-others.ensures.items, sub-zero) (record { grows = grows_none _; first = c.requires.first_below; below = tt; same = from_first _ _ })

pub returns-in_default : goal.returns-in_default
returns-in_default g c =
    let l = c.turns in
    let ts = c.args.tokens.now in
    let room = c.args.self.now.room in
    let operand = read.sum ts (read.expr ts room) room in
    let e = part l.tree.exprs c.args.first in
    let d = compared_parts l.tree.exprs l.others.items in
    let turn = turn_more (λ n. gathered e d (read.comparisons ts operand n l.next)) room l._turn c.turns-test.true l.invariant.same in
    continued _ _ _ _ _ _ l.invariant.grows c.equal_of.ensures (turn ∙ comparisons_done ts operand e d _ l.next c.in_default.ensures.none)

pub returns-in_err-id : goal.returns-in_err-id
returns-in_err-id g c =
    let l = c.turns in
    let ts = c.args.tokens.now in
    let room = c.args.self.now.room in
    let operand = read.sum ts (read.expr ts room) room in
    let e = part l.tree.exprs c.args.first in
    let d = compared_parts l.tree.exprs l.others.items in
    let turn = turn_more (λ n. gathered e d (read.comparisons ts operand n l.next)) room l._turn c.turns-test.true l.invariant.same in
    refused _ _ _ _ _ _ _ l.invariant.grows c.in_err-id.ensures (err_from_is_err_and c.from_residual.result c.from_residual.ensures.1)
    (λ gone. turn ∙ comparisons_refused ts operand e d _ l.next c.in-Some.is_same c.in-Some.ensures.some gone)

pub turns-preserved : goal.turns-preserved
turns-preserved g c =
    let l = c.turns in
    let ts = c.args.tokens.now in
    let room = c.args.self.now.room in
    let operand = read.sum ts (read.expr ts room) room in
    let e = part l.tree.exprs c.args.first in
    let d = compared_parts l.tree.exprs l.others.items in
    let turn = turn_more (λ n. gathered e d (read.comparisons ts operand n l.next)) room l._turn c.turns-test.true l.invariant.same in
    let one = c.in_ok-id.ensures in
    let first = c.args.first in
    let stays = part_later _ _ first one.grows l.invariant.first in
    let same = pushed _ _ l.others.items c.in-Some.is_same c.in_ok-id.id one.grows l.invariant.below in
    let longer_now = longer _ _ one.grows in
    rw c.in_ok-push.ensures.items (record {
      grows = grows_then _ _ _ l.invariant.grows one.grows;
      first = omega (arith, l.invariant.first, longer_now);
      below = below_push _ _ l.others.items c.in-Some.is_same c.in_ok-id.id longer_now l.invariant.below one.gives.0;
      same = turn ∙ comparisons_one ts operand e d _ l.next c.in-Some.is_same _ _ c.in-Some.ensures.some one.gives.1
          ∙ ap (λ x. gathered x (append d (compared c.in-Some.is_same (part c.sum.new.tree.exprs c.in_ok-id.id) last)) (read.comparisons ts operand (room - (l._turn + 1)) c.in_ok-id.after)) (sym stays)
          ∙ ap (λ x. gathered (part c.sum.new.tree.exprs first) x (read.comparisons ts operand (room - (l._turn + 1)) c.in_ok-id.after)) (sym same);
    })

pub returns : goal.returns
returns g c =
    let l = c.turns in
    let ts = c.args.tokens.now in
    let room = c.args.self.now.room in
    let operand = read.sum ts (read.expr ts room) room in
    let e = part l.tree.exprs c.args.first in
    let d = compared_parts l.tree.exprs l.others.items in
    let turn = turn_none (λ n. gathered e d (read.comparisons ts operand n l.next)) room l._turn c.turns-test.false l.invariant.same in
    record { grows = l.invariant.grows; gives = turn ∙ comparisons_over ts operand e d 0 l.next }

pub returns-in_err-push : goal.returns-in_err-push
returns-in_err-push g c = no_memory _ _ _ _ (grows_then _ _ _ c.turns.invariant.grows c.in_ok-id.ensures.grows) (err_from_is_err_and c.from_residual-in_err-push.result c.from_residual-in_err-push.ensures.1)
