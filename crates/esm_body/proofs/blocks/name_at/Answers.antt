use Rattle.std.proofs.Common.{sym}
use Rattle.esm_body.proofs.Levels.{binding_name, name_beyond}
use Rattle.esm_body.proofs.blocks.name_at.Goals as goal

pub returns-then-place-bindings : goal.returns-then-place-bindings
returns-then-place-bindings c = λ exprs. rw (c.as_str.ensures.value, c.index-bindings-place.is) (sym (binding_name exprs c.args.bindings.now c.args.place _ c.if-place-bindings.true))

pub returns-else-place-bindings : goal.returns-else-place-bindings
returns-else-place-bindings c = λ exprs. sym (name_beyond exprs c.args.bindings.now c.args.place c.if-place-bindings.false)
