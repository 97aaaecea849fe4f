-- An open ask of a machine may be delivered.
use Rattle.std.proofs.Common.{◌≡◌, true, Option, Some, None}
use Rattle.esm_base.specs.Urls.{Url, has}
use Rattle.esm_loads.specs.Loading.{Loading}
use Rattle.esm_machine.specs.Represents.{MayTake, MayTakeBy, MachineState, TurnEnd, asks_by_stop, asks_of}

may_by : (o : Option TurnEnd) (l : Loading) (u : Url) → has (asks_by_stop o l) u ≡ true → MayTakeBy o l u
may_by None l u h = h
may_by (Some end) l u h = tt

pub may_take : (m : MachineState) (u : Url) → has (asks_of m) u ≡ true → MayTake m u
may_take m u h = may_by m.stopped m.held.seen.loading u h
