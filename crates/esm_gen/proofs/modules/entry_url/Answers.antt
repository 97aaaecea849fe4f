use Rattle.std.proofs.Common.{◌≡◌, sym, subst, ℕ, List, true, lit<}
use Rattle.std.proofs.lemmas.Result.{IfOk-weaker}
use Rattle.esm_base.specs.Urls.{is_usable}
use Rattle.esm_gen.specs.Generated.{module_url}
use Rattle.esm_gen.proofs.Usable.{usable}
use Rattle.esm_gen.proofs.modules.entry_url.Goals as goal

pub returns-clause-usable : goal.returns-clause-usable
returns-clause-usable c =
    IfOk-weaker c.module_url.result (λ url. url ≡ module_url 0) (λ url. is_usable url ≡ true)
    (λ url same. subst (λ (u : List ℕ). is_usable u ≡ true) (sym same) (usable 0 (lit< tt))) c.module_url.ensures
