-- How a limit that ends a call stops loading.
use Rattle.std.specs.Prelude.{◌≡◌, Result, Err}
use Rattle.esm_base.specs.declared.end.End.{End}
use Rattle.esm_base.specs.declared.end.End.TheVariants.{Fault}
use Rattle.esm_base.specs.declared.limits.Limit.{Limit}
use Rattle.esm_loads.specs.Loading.{Loading}
use Rattle.esm_loads.specs.Hosted.{stopped_by}

-- where a limit ends the call, the loading that is left, stopped by it, is one of this kind
abbrev pub StopsIn : {T : Type 0} → Result T (End Limit) → Loading → (Loading → Type 0) → Type 0
StopsIn result left IsOne = (limit : Limit) → result ≡ Err (Fault limit) → IsOne (stopped_by left limit)
