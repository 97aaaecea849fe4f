use Rattle.std.proofs.Common.{◌++◌, ap, ◌∙◌}
use Rattle.std.specs.Prelude.{None, replicate}
use Rattle.std.proofs.lemmas.List.{append_assoc}
use Rattle.std.proofs.lemmas.Result.{on_ok_weaker}
use Rattle.esm_row_machine.specs.Naming.{caught_by}
use Rattle.esm_row_machine.proofs.uses.catch.Goals as goal

pub returns : goal.returns
returns c = on_ok_weaker c.begin_names.result (λ e. e ∙ ap (λ ns. ns ++ replicate c.args.count None) c.in_ok-name_caught.ensures ∙ append_assoc c.args.names.now.items (caught_by c.args.named c.args.value) (replicate c.args.count None)) c.begin_names.ensures
