use Rattle.std.proofs.Common.{[], ◌∷◌, refl}
use Rattle.esm_tree.specs.Flat.{bindings_of}
use Rattle.esm_env.specs.Declarations.{declared_by}
use Rattle.esm_rows.proofs.Entered.{goes, ends}
use Rattle.esm_rows.proofs.blocks.add_bindings.Goals as goal

pub loop-binding-preserved : goal.loop-binding-preserved
loop-binding-preserved c = λ exprs. goes (λ b. record { name = b.name; constant = c.args.constant } ∷ []) (λ bs. declared_by c.args.constant (bindings_of exprs bs)) c.args.bindings.now (λ b bs. refl) c.loop-binding.binding-index _ _ _ _ c.binding-item.is c.loop-binding-test.true (rw c.as_str.ensures.value at c.in_ok-add_name.ensures) (c.loop-binding.invariant exprs)

pub returns : goal.returns
returns c = λ exprs. ends (λ b. record { name = b.name; constant = c.args.constant } ∷ []) (λ bs. declared_by c.args.constant (bindings_of exprs bs)) c.args.bindings.now refl c.loop-binding.binding-index _ _ c.loop-binding-test.false (c.loop-binding.invariant exprs)
