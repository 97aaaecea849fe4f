use Rattle.std.proofs.Common.{◌++◌, Some}
use Rattle.std.specs.Prelude.{codes, decimal}
use Rattle.esm_gen.proofs.Numbers.{back_cut, front_cut, the_same}
use Rattle.esm_gen.proofs.source.digits_of.Goals as goal

pub returns-in_err-strip_prefix : goal.returns-in_err-strip_prefix
returns-in_err-strip_prefix c = λ i is. absurd (c.in_err-strip_prefix.ensures.cases (decimal i ++ codes ".js") is)

pub returns : goal.returns
returns c = λ i is.
    let rest = the_same c.in_ok-strip_prefix.field-0.now (decimal i ++ codes ".js")
    (front_cut (codes "https://gen.test/m") c.args.url.now (Some c.in_ok-strip_prefix.field-0) c.in_ok-strip_prefix.ensures.cases (decimal i ++ codes ".js") is) in
    back_cut (codes ".js") c.in_ok-strip_prefix.field-0.now c.strip_suffix.result c.strip_suffix.ensures.cases (decimal i) rest
