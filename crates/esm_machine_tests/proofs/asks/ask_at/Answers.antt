use Rattle.std.proofs.Common.{◌≡◌, true, List, arith, subst, sym}
use Rattle.esm_base.specs.Urls.{Url, has}
use Rattle.esm_loads.proofs.Places.{index_get}
use Rattle.esm_loads.proofs.PlacesOfUrls.{listed}
use Rattle.esm_machine.specs.Machine.{state_of}
use Rattle.esm_machine_tests.proofs.OpenAsks.{may_take}
use Rattle.esm_machine_tests.proofs.asks.ask_at.Goals as goal

pub returns : goal.returns
returns c =
    let urls = c.asks-asks.result.now in
    let url = c.index-asks-place.result in
    let within = c.if-place-asks.false in
    let there = listed urls c.args.place url (index_get urls c.args.place url (omega (arith, within)) c.index-asks-place.is) in
    may_take (state_of c.args.machine.now) c.in_ok-clone.field-0
    (subst (λ (us : List Url). has us c.in_ok-clone.field-0 ≡ true) c.asks-asks.ensures.«open»
    (subst (λ (u : Url). has urls u ≡ true) (sym c.in_ok-clone.ensures) there))
