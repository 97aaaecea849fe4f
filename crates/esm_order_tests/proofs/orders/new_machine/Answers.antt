use Rattle.std.proofs.Common.{◌≡◌, true, sym, subst}
use Rattle.std.specs.Prelude.{codes}
use Rattle.esm_base.specs.Urls.{Url, is_usable}
use Rattle.esm_realm.proofs.PlainRecords.{main_usable}
use Rattle.esm_order_tests.proofs.orders.new_machine.Goals as goal

pub new-requires-2 : goal.new-requires-2
new-requires-2 c =
    let same : c.in_ok-copy.field-0 ≡ codes "https://a.test/main.js" = c.in_ok-copy.ensures in
    subst (λ (u : Url). is_usable u ≡ true) (sym same) main_usable
