use Rattle.std.proofs.Common.{◌≡◌, true, List, subst}
use Rattle.esm_base.specs.Urls.{Url, has}
use Rattle.esm_machine.specs.Machine.{state_of}
use Rattle.esm_machine_tests.proofs.FreshStores.{has_first}
use Rattle.esm_machine_tests.proofs.OpenAsks.{may_take}
use Rattle.esm_machine_tests.proofs.site.first_ask.Goals as goal

pub returns-in_ok-clone-in-len1-up : goal.returns-in_ok-clone-in-len1-up
returns-in_ok-clone-in-len1-up c =
    may_take (state_of c.args.machine.now) c.in_ok-clone-in-len1-up.field-0
    (subst (λ (us : List Url). has us c.in_ok-clone-in-len1-up.field-0 ≡ true) c.asks.ensures.«open»
    (has_first c.asks.result.now c.url-item.result c.in_ok-clone-in-len1-up.field-0 c.in-len1-up.len_at_least c.url-item.is c.in_ok-clone-in-len1-up.ensures))
