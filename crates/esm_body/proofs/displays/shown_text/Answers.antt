use Rattle.std.proofs.Common.{ap, ◌∙◌}
use Rattle.esm_values.specs.Display.{namespace_text}
use Rattle.esm_body.proofs.Shown.{weaker}
use Rattle.esm_body.proofs.displays.shown_text.Goals as goal

pub returns-in_ok-keys-in-Namespace : goal.returns-in_ok-keys-in-Namespace
returns-in_ok-keys-in-Namespace g c =
    let keys = c.in_ok-keys-in-Namespace.keys.items in
    rw c.in-Namespace.is (weaker _ _ (λ text h. λ a l k. let are = c.in_ok-keys-in-Namespace.ensures l k in (keys, are.0, are.1, h ∙ ap namespace_text c.as_slice.ensures.value)) c.namespace_text.result c.namespace_text.ensures)
