use Rattle.std.proofs.Common.{◌∙◌, ap, ◌+◌, ◌*◌, ◌++◌, string_bytes}
use Rattle.esm_gen.specs.Generated as spec
use Rattle.esm_gen.proofs.modules.module_text.Goals as goal

-- each line stands behind those before it
pub returns : goal.returns
returns c =
    let start = c.args.start in
    let count = c.args.count in
    let i = c.args.number in
    let awaits = spec.has_await start i in
    let last = spec.last_import start count i in
    c.in_ok-add_print.ensures
    ∙ ap (λ t. t ++ spec.print_line i) (c.in_ok-add_await.ensures
    ∙ (ap (λ b. string_bytes c.add_import.new.text ++ spec.await_line b) c.has_await.ensures
    ∙ ap (λ t. t ++ spec.await_line awaits) (c.in_ok-add_import.ensures
    ∙ (ap (λ k. string_bytes c.add_import_below-4.new.text ++ spec.import_line k) c.last_import.ensures
    ∙ ap (λ t. t ++ spec.import_line last) (c.in_ok-add_import_below-4.ensures
    ∙ ap (λ t. t ++ spec.import_below count (4 * i + 4)) (c.in_ok-add_import_below-3.ensures
    ∙ ap (λ t. t ++ spec.import_below count (4 * i + 3)) (c.in_ok-add_import_below-2.ensures
    ∙ ap (λ t. t ++ spec.import_below count (4 * i + 2)) (c.in_ok-add_import_below.ensures
    ∙ ap (λ t. t ++ spec.import_below count (4 * i + 1)) c.new-text.ensures.bytes))))))))
