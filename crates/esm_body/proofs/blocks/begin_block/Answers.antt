use Rattle.std.proofs.Common.{refl, ap, ◌∙◌, length}
use Rattle.esm_tree.specs.Flat.{stmt_parts}
use Rattle.std.specs.Arc.{arc_value}
use Rattle.esm_body.specs.Slots.{scope_of_slots}
use Rattle.esm_rewriting.specs.Contexts.{placed, surrounded}
use Rattle.esm_body.specs.Code.{contexts_of, context_by, innermost}
use Rattle.esm_body.specs.declared.work.Level.{Level}
use Rattle.esm_body.proofs.Levels.{begun, levels_push, slots_scope, push_some}
use Rattle.esm_body.proofs.blocks.begin_block.Goals as goal

pub returns-then-is_begun-clause-begun : goal.returns-then-is_begun-clause-begun
returns-then-is_begun-clause-begun c =
    let stmts = (arc_value c.args.tree.now).stmts in
    let ls = c.args.levels.now.items in
    let m : Level = record { kind = c.args.kind; slots = c.in_ok-slots.slots; work = c.in-Ok.work } in
    let scope = ap scope_of_slots (rw c.deref.ensures at c.in_ok-slots.ensures) ∙ slots_scope c.args.names.items (stmt_parts stmts c.args.ids.now) in
    let work = c.in-Ok.ensures.work stmts in
    rw (c.if-is_begun.ensures refl) (begun stmts ls m c.requires.levels ∙ (λ i. surrounded (contexts_of stmts ls) (placed (context_by stmts c.args.kind (scope i) (innermost stmts ls)) (work i))))

pub returns-then-is_begun-clause-sound : goal.returns-then-is_begun-clause-sound
returns-then-is_begun-clause-sound c =
    let n = length (arc_value c.args.tree.now).stmts in
    let ls = c.args.levels.now.items in
    let m : Level = record { kind = c.args.kind; slots = c.in_ok-slots.slots; work = c.in-Ok.work } in
    λ k all. rw (c.if-is_begun.ensures refl) (levels_push n ls m all k (c.in-Ok.ensures.sound n c.requires.ids), push_some ls m)
