use Rattle.std.proofs.Common.{◌≡◌, ◌∙◌, ap, ap₂, ℕ, Vec, Global}
use Rattle.esm_base.specs.Urls.{Text, Url}
use Rattle.esm_gen.specs.Generated as spec
use Rattle.esm_gen.proofs.modules.module_file.Goals as goal

pub returns : goal.returns
returns c =
    let start = c.args.start in
    let count = c.args.count in
    let i = c.args.number in
    let file : Url → Text → spec.File = λ url text. record { url = url; text = text } in
    let url_is : c.in_ok-url.url ≡ spec.module_url i = c.in_ok-url.ensures ∙ ap spec.module_url c.from-number.ensures in
    let text_is : c.into_bytes.result.items ≡ spec.module_text start count i =
    ap (λ (v : Vec ℕ Global). v.items) c.into_bytes.ensures.value
    ∙ (c.in_ok-text.ensures
    ∙ (ap (λ s. spec.module_text s c.from-2.result c.from-number.result) c.from.ensures
    ∙ (ap (λ n. spec.module_text start n c.from-number.result) c.from-2.ensures
    ∙ ap (spec.module_text start count) c.from-number.ensures))) in
    ap₂ file url_is text_is
