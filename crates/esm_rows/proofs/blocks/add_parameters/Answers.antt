use Rattle.std.proofs.Common.{[], ◌∷◌, refl}
use Rattle.std.specs.Prelude.{map}
use Rattle.esm_rows.specs.Rows.{parameter}
use Rattle.esm_rows.proofs.Entered.{goes, ends}
use Rattle.esm_rows.proofs.blocks.add_parameters.Goals as goal

pub loop-name-preserved : goal.loop-name-preserved
loop-name-preserved c = goes (λ p. parameter p ∷ []) (map parameter) c.args.parameters.now (λ p ps. refl) c.loop-name.name-index _ _ _ _ c.name-item.is c.loop-name-test.true (rw c.as_str.ensures.value at c.in_ok-add_name.ensures) c.loop-name.invariant

pub returns : goal.returns
returns c = ends (λ p. parameter p ∷ []) (map parameter) c.args.parameters.now refl c.loop-name.name-index _ _ c.loop-name-test.false c.loop-name.invariant
