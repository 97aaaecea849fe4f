use Rattle.std.proofs.Common.{◌++◌, ◌∷◌, [], ap, ◌∙◌}
use Rattle.esm_values.specs.declared.value.Value.TheVariants as values
use Rattle.esm_row_machine.proofs.calls.stack.Goals as goal

pub returns : goal.returns
returns c = record {
  operands = c.in_ok-append.ensures.items ∙ ap (λ vs. vs ++ c.args.values.items) (c.in_ok-push.ensures.items ∙ ap (λ vs. vs ++ values.Func c.args.function ∷ []) c.clear.ensures.items);
  names = c.clear-2.ensures.items;
  handlers = c.clear-3.ensures.items;
  frames = c.clear-4.ensures.items;
}
