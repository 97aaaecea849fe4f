use Rattle.std.proofs.Common.{◌≡◌, ◌∙◌, ap, subst, ℕ, Vec, Global, Some, arith}
use Rattle.esm_gen.specs.Generated as spec
use Rattle.esm_gen.specs.Held.{IsNumberOf}
use Rattle.esm_gen.proofs.Numbers.{nothing_above, nothing_at, text_of}
use Rattle.esm_gen.proofs.source.made_at.Goals as goal

pub returns-in_default : goal.returns-in_default
returns-in_default c =
    nothing_at c.args.start c.args.count c.args.url.now (omega (arith, c.ranges.count.fits)) (subst (IsNumberOf c.args.url.now) c.in_default.is c.in_ok-number.ensures)

pub returns-then-number-count : goal.returns-then-number-count
returns-then-number-count c =
    nothing_above c.args.start c.args.count c.in-Some.number c.args.url.now c.if-number-count.true (subst (IsNumberOf c.args.url.now) c.in-Some.is c.in_ok-number.ensures)

pub returns : goal.returns
returns c =
    let start = c.args.start in
    let count = c.args.count in
    let i = c.in-Some.number in
    let text_is : c.into_bytes.result.items ≡ spec.module_text start count i =
    ap (λ (v : Vec ℕ Global). v.items) c.into_bytes.ensures.value
    ∙ (c.in_ok-text.ensures
    ∙ (ap (λ s. spec.module_text s c.from-2.result c.from-3.result) c.from.ensures
    ∙ (ap (λ n. spec.module_text start n c.from-3.result) c.from-2.ensures
    ∙ ap (spec.module_text start count) c.from-3.ensures))) in
    ap Some text_is ∙ text_of start count i c.args.url.now (omega (arith, c.if-number-count.false)) (omega (arith, c.ranges.count.fits)) (subst (IsNumberOf c.args.url.now) c.in-Some.is c.in_ok-number.ensures)
