use Rattle.std.proofs.Common.{ap}
use Rattle.std.specs.Prelude.{length, nat_le}
use Rattle.esm_base.specs.declared.limits.TheConstants.{MAX_URL_BYTES}
use Rattle.esm_specifier.proofs.Web.{web_usable}
use Rattle.esm_specifier.proofs.resolving.names_module.Goals as goal

pub returns-then-is_web : goal.returns-then-is_web
returns-then-is_web c =
    web_usable c.args.url.now _ c.as_str-text.ensures.valid (c.is_web.ensures c.if-is_web.true) (ap (λ text. nat_le (length text) MAX_URL_BYTES) c.as_str-text.ensures.value)
