-- What a load is for, as the functions of settling see it.
use Rattle.std.specs.Prelude.{ℕ, ◌<◌, Option, Some, None}
use Rattle.esm_loads.specs.declared.data.Purpose.{Purpose}
use Rattle.esm_loads.specs.declared.data.Purpose.TheVariants as purposes
use Rattle.esm_loads.specs.declared.data.Cause.{Cause}
use Rattle.esm_loads.specs.declared.data.Cause.TheVariants as causes
use Rattle.esm_values.specs.declared.value.PromiseId.{PromiseId}

abbrev pub promise_by : ℕ → Option PromiseId → ℕ
promise_by promise None = promise
promise_by promise (Some load) = load.0

-- the promise that the end of the load settles
abbrev pub promise_in : Purpose → ℕ
promise_in (purposes.ForEntry promise) = promise.0
promise_in (purposes.ForImport promise load) = promise_by promise.0 load

-- the load has the promise that its end settles
abbrev pub OwnsBy : Option PromiseId → Type 0
OwnsBy None = ⊥
OwnsBy (Some load) = Unit {0}

abbrev pub OwnsLoad : Purpose → Type 0
OwnsLoad (purposes.ForEntry promise) = Unit {0}
OwnsLoad (purposes.ForImport promise load) = OwnsBy load

abbrev pub IsCauseWithin : ℕ → Cause → Type 0
IsCauseWithin many (causes.Unfetched place) = place < many
IsCauseWithin many (causes.Kept error) = Unit {0}
