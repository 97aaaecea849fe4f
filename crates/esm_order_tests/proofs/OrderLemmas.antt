-- An open ask may be delivered.
use mathlib.Core.Bool.{true≢false}
use Rattle.std.proofs.Common.{◌≡◌, ◌<◌, sym, subst, refl, ℕ, zero, suc, List, [], ◌∷◌, length, get_or, Bool, true, false, arith}
use Rattle.std.specs.Prelude.{Option, Some, None, ◌||◌, bytes_eq}
use Rattle.std.proofs.lemmas.Slice.Eq.{bytes_eq-Decides}
use Rattle.esm_base.specs.Urls.{Url, has}
use Rattle.esm_loads.specs.Loading.{Loading}
use Rattle.esm_machine.specs.Represents.{TurnEnd, MachineState, MayTake, MayTakeBy, asks_of, asks_by_stop}

or_left : (a b : Bool) → a ≡ true → (a || b) ≡ true
or_left true b h = refl
or_left false b h = absurd (true≢false (sym h))

or_right : (a b : Bool) → b ≡ true → (a || b) ≡ true
or_right true b h = refl
or_right false b h = h

has_at : (asks : List Url) (place : ℕ) (url : Url) → place < length asks → url ≡ get_or asks place url → has asks url ≡ true
has_at [] place url within is = absurd (omega arith)
has_at (u ∷ asks) zero url within is = or_left (bytes_eq url u) (has asks url) ((bytes_eq-Decides url u).1 is)
has_at (u ∷ asks) (suc place) url within is = or_right (bytes_eq url u) (has asks url) (has_at asks place url (omega arith) is)

may_take_by : (stop : Option TurnEnd) (l : Loading) (url : Url) → has (asks_by_stop stop l) url ≡ true → MayTakeBy stop l url
may_take_by None l url there = there
may_take_by (Some end) l url there = tt

pub may_take_open : (m : MachineState) (url : Url) → has (asks_of m) url ≡ true → MayTake m url
may_take_open m url there = may_take_by m.stopped m.held.seen.loading url there

pub may_take : (m : MachineState) (asks : List Url) (place : ℕ) (url copy : Url) → asks ≡ asks_of m → place < length asks → url ≡ get_or asks place url → copy ≡ url → MayTake m copy
may_take m asks place url copy same within is copied =
    may_take_open m copy (subst (λ u. has (asks_of m) u ≡ true) (sym copied) (subst (λ us. has us url ≡ true) same (has_at asks place url within is)))
