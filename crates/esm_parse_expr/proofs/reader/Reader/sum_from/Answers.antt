use Rattle.std.proofs.Common.{sym, ap, ◌∙◌, ◌+◌, ◌-◌, arith}
use Rattle.std.proofs.Math.Nat.{sub-zero}
use Rattle.std.proofs.lemmas.Result.{err_from_is_err_and}
use Rattle.esm_tree.specs.Syntax.{Sum, none, more}
use Rattle.esm_tree.specs.Flat.{part, parts}
use Rattle.esm_tree.specs.declared.lexeme.Terminal.TheVariants as t
use Rattle.esm_grammar.specs.Reading as read
use Rattle.esm_parse_expr.proofs.OutcomeLemmas.{grows_none, grows_then, no_memory, refused, continued, part_later, longer}
use Rattle.esm_parse_expr.proofs.Lists.{append, turn_more, turn_none, pushed_below, pushed_parts, gathered, from_first, further_over, further_done, further_refused, further_one}
use Rattle.esm_parse_expr.proofs.reader.Reader.sum_from.Goals as goal

pub turns-init : goal.turns-init
turns-init g c =
    rw (c.new-others.ensures.items, sub-zero) (record { grows = grows_none _; first = c.requires.first_below; below = tt; same = from_first Sum _ _ })

pub returns-then-not-sees : goal.returns-then-not-sees
returns-then-not-sees g c =
    let l = c.turns in
    let ts = c.args.tokens.now in
    let room = c.args.self.now.room in
    let operand = read.unary ts (read.expr ts room) room room in
    let e = part l.tree.exprs c.args.first in
    let d = parts l.tree.exprs l.others.items in
    let turn = turn_more (λ n. gathered Sum e d (read.further ts t.Plus operand n l.next)) room l._turn c.turns-test.true l.invariant.same in
    continued _ _ _ _ _ _ l.invariant.grows c.sum_of.ensures (turn ∙ further_done ts t.Plus Sum operand e d _ l.next c.if-not-sees.ensures.value)

pub returns-in_err-id : goal.returns-in_err-id
returns-in_err-id g c =
    let l = c.turns in
    let ts = c.args.tokens.now in
    let room = c.args.self.now.room in
    let operand = read.unary ts (read.expr ts room) room room in
    let e = part l.tree.exprs c.args.first in
    let d = parts l.tree.exprs l.others.items in
    let turn = turn_more (λ n. gathered Sum e d (read.further ts t.Plus operand n l.next)) room l._turn c.turns-test.true l.invariant.same in
    refused _ _ _ _ _ _ _ l.invariant.grows c.in_err-id.ensures (err_from_is_err_and c.from_residual.result c.from_residual.ensures.1)
    (λ gone. turn ∙ further_refused ts t.Plus Sum operand e d _ l.next c.if-not-sees.ensures.value gone)

pub turns-preserved : goal.turns-preserved
turns-preserved g c =
    let l = c.turns in
    let ts = c.args.tokens.now in
    let room = c.args.self.now.room in
    let operand = read.unary ts (read.expr ts room) room room in
    let e = part l.tree.exprs c.args.first in
    let d = parts l.tree.exprs l.others.items in
    let turn = turn_more (λ n. gathered Sum e d (read.further ts t.Plus operand n l.next)) room l._turn c.turns-test.true l.invariant.same in
    let one = c.in_ok-id.ensures in
    let first = c.args.first in
    let stays = part_later _ _ first one.grows l.invariant.first in
    let same = pushed_parts _ _ l.others.items c.in_ok-id.id one.grows l.invariant.below in
    let longer_now = longer _ _ one.grows in
    rw c.in_ok-push.ensures.items (record {
      grows = grows_then _ _ _ l.invariant.grows one.grows;
      first = omega (arith, l.invariant.first, longer_now);
      below = pushed_below _ _ l.others.items c.in_ok-id.id one.grows l.invariant.below one.gives.0;
      same = turn ∙ further_one ts t.Plus Sum operand e d _ l.next _ _ c.if-not-sees.ensures.value one.gives.1
          ∙ ap (λ x. gathered Sum x (append d (more (part c.unary.new.tree.exprs c.in_ok-id.id) none)) (read.further ts t.Plus operand (room - (l._turn + 1)) c.in_ok-id.after)) (sym stays)
          ∙ ap (λ x. gathered Sum (part c.unary.new.tree.exprs first) x (read.further ts t.Plus operand (room - (l._turn + 1)) c.in_ok-id.after)) (sym same);
    })

pub returns : goal.returns
returns g c =
    let l = c.turns in
    let ts = c.args.tokens.now in
    let room = c.args.self.now.room in
    let operand = read.unary ts (read.expr ts room) room room in
    let e = part l.tree.exprs c.args.first in
    let d = parts l.tree.exprs l.others.items in
    let turn = turn_none (λ n. gathered Sum e d (read.further ts t.Plus operand n l.next)) room l._turn c.turns-test.false l.invariant.same in
    record { grows = l.invariant.grows; gives = turn ∙ further_over ts t.Plus Sum operand e d 0 l.next }

pub returns-in_err-push : goal.returns-in_err-push
returns-in_err-push g c = no_memory _ _ _ _ (grows_then _ _ _ c.turns.invariant.grows c.in_ok-id.ensures.grows) (err_from_is_err_and c.from_residual-in_err-push.result c.from_residual-in_err-push.ensures.1)
