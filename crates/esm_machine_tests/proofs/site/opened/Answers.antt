use Rattle.std.proofs.Common.{◌≡◌, true, refl, sym, subst}
use Rattle.std.specs.Prelude.{codes}
use Rattle.url.proofs.OnLiterals.{url_on_literals}
use Rattle.esm_base.specs.Urls.{Url, is_usable}
use Rattle.esm_machine_tests.proofs.site.opened.Goals as goal

usable_main : is_usable (codes "https://a.test/main.js") ≡ true
unfolding url_on_literals
usable_main = refl

pub new-requires-2 : goal.new-requires-2
new-requires-2 c =
    let same : c.in_ok-entry.entry ≡ codes "https://a.test/main.js" = c.in_ok-entry.ensures in
    subst (λ (u : Url). is_usable u ≡ true) (sym same) usable_main
