use Rattle.std.proofs.Common.{sym, ◌∙◌}
use Rattle.esm_specifier.proofs.Web.{web_kind}
use Rattle.esm_specifier.proofs.resolving.is_web.Goals as goal

pub returns-then-is_special : goal.returns-then-is_special
returns-then-is_special c = λ other.
    web_kind c.args.url.now (sym c.is_special.ensures ∙ c.if-is_special.true) _ (rw c.scheme.ensures.value at c.ne.ensures) other
