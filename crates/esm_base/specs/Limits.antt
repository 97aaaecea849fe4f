-- The printed names of the limits.
use Rattle.std.specs.Prelude.{ℕ, List, codes}
use Rattle.esm_base.specs.declared.limits.Limit.{Limit}
use Rattle.esm_base.specs.declared.limits.Limit.TheVariants.{L1, L2, L3, L4, L5}

-- own: the name of a limit in the last line of the log
abbrev pub limit_name : Limit → List ℕ
limit_name L1 = codes "L1"
limit_name L2 = codes "L2"
limit_name L3 = codes "L3"
limit_name L4 = codes "L4"
limit_name L5 = codes "L5"
