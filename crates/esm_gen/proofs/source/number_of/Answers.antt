use Rattle.std.proofs.Common.{◌≡◌, ◌∙◌, ap, sym, arith}
use Rattle.std.specs.Prelude.{decimal}
use Rattle.std.proofs.lemmas.Fmt.{parse-decimal}
use Rattle.std.proofs.lemmas.Slice.Eq.{bytes_eq-Decides}
use Rattle.esm_gen.specs.Generated.{module_url}
use Rattle.esm_gen.proofs.Numbers.{ok_same, the_same}
use Rattle.esm_gen.proofs.source.number_of.Goals as goal

pub returns-in_default-from_str_radix : goal.returns-in_default-from_str_radix
returns-in_default-from_str_radix c = λ i small is.
    let same = the_same c.in-Some.digits.now (decimal i) (c.in-Some.ensures i is) in
    let parsed = parse-decimal 32 i c.in-Some.digits.now c.from_str_radix.result small (omega (arith, small)) same c.from_str_radix.ensures.value in
    cc (sym c.in_default-from_str_radix.is ∙ parsed)

pub returns : goal.returns
returns c = λ i small is.
    let same = the_same c.in-Some.digits.now (decimal i) (c.in-Some.ensures i is) in
    let parsed = parse-decimal 32 i c.in-Some.digits.now c.from_str_radix.result small (omega (arith, small)) same c.from_str_radix.ensures.value in
    let read : c.in-Ok.number ≡ i = ok_same c.from_str_radix.result c.in-Ok.number i c.in-Ok.is parsed in
    let named : c.as_str.result.now ≡ c.args.url.now =
    c.as_str.ensures.value ∙ (c.in_ok-named.ensures ∙ (ap module_url (c.from.ensures ∙ read) ∙ sym is)) in
    cc (sym ((bytes_eq-Decides c.as_str.result.now c.args.url.now).1 named) ∙ (sym c.eq.ensures ∙ c.if-eq.false))
