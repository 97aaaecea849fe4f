use Rattle.std.proofs.Common.{◌+◌, sym, refl, ◌∙◌, arith, rules}
use Rattle.esm_tree.specs.Flat.{parts}
use Rattle.esm_values.specs.Code.{value_of}
use Rattle.esm_expr_eval.proofs.PartsLemmas.{links_stand, links_end, below_is}
use Rattle.esm_expr_eval.proofs.Steps as steps
use Rattle.esm_expr_eval.specs.declared.frame.Frame.TheVariants as f
use Rattle.esm_expr_eval.proofs.frame.post_on.Goals as goal

pub returns-then-is_pushed-clause-tells : goal.returns-then-is_pushed-clause-tells
returns-then-is_pushed-clause-tells g c =
    let it = links_stand c.args.tree.now.exprs _ c.links-links.result.now _ c.args.next c.links-links.ensures.links c.if-next-links.true (sym c.index-links-next.is ∙ c.in-Member.is) in
    let a = rw (c.in-Ok-Value.field-0-is, c.as_str.ensures.value) at c.in-Ok-Value.ensures in
    steps.value_pushed g.W.World.url_of g.W.World.acts c.args.tree.now.exprs c.args.frames.now.items _ _ _ _ (f.Post c.args.at (c.args.next + 1)) (value_of c.in-Ok-Value.member) (steps.member_goes g.W.World.url_of g.W.World.acts c.args.tree.now.exprs c.args.frames.now.items _ c.args.at c.args.next (value_of c.args.value) c.in-Member.name it _ (value_of c.in-Ok-Value.member) a) (c.if-is_pushed.ensures refl)

pub returns-then-is_pushed-clause-keeps : goal.returns-then-is_pushed-clause-keeps
returns-then-is_pushed-clause-keeps g c =
    let it = links_stand c.args.tree.now.exprs _ c.links-links.result.now _ c.args.next c.links-links.ensures.links c.if-next-links.true (sym c.index-links-next.is ∙ c.in-Member.is) in
    let k = steps.member_work it in
    steps.keeps_value c.args.tree.now.exprs c.args.frames.now.items _ (f.Post c.args.at (c.args.next + 1)) _ c.requires.frames c.requires.at (omega (arith, k)) (c.if-is_pushed.ensures refl)

pub returns-in-Ok-Thrown-clause-tells : goal.returns-in-Ok-Thrown-clause-tells
returns-in-Ok-Thrown-clause-tells g c =
    let it = links_stand c.args.tree.now.exprs _ c.links-links.result.now _ c.args.next c.links-links.ensures.links c.if-next-links.true (sym c.index-links-next.is ∙ c.in-Member.is) in
    let a = rw (c.in-Ok-Thrown.field-0-is, c.as_str.ensures.value) at c.in-Ok-Thrown.ensures in
    steps.member_leaves g.W.World.url_of g.W.World.acts c.args.tree.now.exprs c.args.frames.now.items _ c.args.at c.args.next (value_of c.args.value) c.in-Member.name it _ (value_of c.in-Ok-Thrown.error) a

pub returns-in-Err-clause-tells : goal.returns-in-Err-clause-tells
returns-in-Err-clause-tells g c =
    let it = links_stand c.args.tree.now.exprs _ c.links-links.result.now _ c.args.next c.links-links.ensures.links c.if-next-links.true (sym c.index-links-next.is ∙ c.in-Member.is) in
    let a = rw c.as_str.ensures.value at c.in-Err.ensures in
    steps.member_stops g.W.World.url_of g.W.World.acts c.args.tree.now.exprs c.args.frames.now.items _ c.args.at c.args.next (value_of c.args.value) c.in-Member.name it _ c.in-Err.stop a

pub returns-in-Some-clause-tells : goal.returns-in-Some-clause-tells
returns-in-Some-clause-tells g c =
    let s = sym c.index-links-next.is ∙ c.in-Call.is in
    let it = links_stand c.args.tree.now.exprs _ c.links-links.result.now _ c.args.next c.links-links.ensures.links c.if-next-links.true s in
    let below = below_is c.args.at.0 c.links-links.result.now _ c.args.next c.links-links.ensures.below c.if-next-links.true s in
    let id = (rw c.as_slice.ensures at c.in-Some.ensures.next) c.args.tree.now.exprs c.args.at.0 below in
    steps.begins_tells g.W.World.url_of g.W.World.acts c.args.tree.now.exprs c.args.frames.now.items _ _ _ (f.Arguments c.args.at c.args.next 1 c.args.value c.new.result) c.in-Some.id _ (steps.argument_first g.W.World.url_of g.W.World.acts c.args.tree.now.exprs c.args.frames.now.items _ c.args.at c.args.next c.args.value c.new.result c.in-Some.id (parts c.args.tree.now.exprs c.in-Call.ids.items) c.new.ensures.items it id.1) c.begin_in.ensures

pub returns-in-Some-clause-keeps : goal.returns-in-Some-clause-keeps
returns-in-Some-clause-keeps g c =
    let s = sym c.index-links-next.is ∙ c.in-Call.is in
    let it = links_stand c.args.tree.now.exprs _ c.links-links.result.now _ c.args.next c.links-links.ensures.links c.if-next-links.true s in
    let below = below_is c.args.at.0 c.links-links.result.now _ c.args.next c.links-links.ensures.below c.if-next-links.true s in
    let id = (rw c.as_slice.ensures at c.in-Some.ensures.next) c.args.tree.now.exprs c.args.at.0 below in
    let b = id.0 in
    let a = c.requires.at in
    let k = steps.call_work it in
    let m = steps.operand_work id.1 in
    steps.begins_keeps c.args.tree.now.exprs c.args.frames.now.items _ (f.Arguments c.args.at c.args.next 1 c.args.value c.new.result) c.in-Some.id _ _ c.requires.frames (c.requires.at, search rules) (omega (arith, a, b)) (rw it (omega (arith, m))) c.begin_in.ensures

pub returns-in-None-clause-tells : goal.returns-in-None-clause-tells
returns-in-None-clause-tells g c =
    let s = sym c.index-links-next.is ∙ c.in-Call.is in
    let it = links_stand c.args.tree.now.exprs _ c.links-links.result.now _ c.args.next c.links-links.ensures.links c.if-next-links.true s in
    let below = below_is c.args.at.0 c.links-links.result.now _ c.args.next c.links-links.ensures.below c.if-next-links.true s in
    let nothing = (rw c.as_slice.ensures at c.in-None.ensures.next) c.args.tree.now.exprs c.args.at.0 below in
    let called = rw c.new-in-None.ensures.items at c.call.ensures in
    rw (it, nothing) (steps.called_tells g.W.World.url_of g.W.World.acts c.args.tree.now.exprs c.args.frames.now.items _ _ _ c.args.at (c.args.next + 1) (value_of c.args.value) _ _ called)

pub returns-in-None-clause-keeps : goal.returns-in-None-clause-keeps
returns-in-None-clause-keeps g c = steps.called_keeps g.W.World.url_of g.W.World.acts c.args.tree.now.exprs c.args.frames.now.items _ _ _ c.args.at (c.args.next + 1) _ (value_of c.args.value) _ _ c.requires.frames c.requires.at c.call.ensures

pub returns-else-next-links-clause-tells : goal.returns-else-next-links-clause-tells
returns-else-next-links-clause-tells g c = steps.post_last g.W.World.url_of g.W.World.acts c.args.tree.now.exprs c.args.frames.now.items _ c.args.at c.args.next (value_of c.args.value) (links_end c.args.tree.now.exprs _ c.links-links.result.now c.args.next c.links-links.ensures.links c.if-next-links.false)
