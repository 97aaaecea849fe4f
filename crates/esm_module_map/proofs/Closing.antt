-- What closing a lock says, said of a caller's pass.
use Rattle.std.proofs.Common.{◌≡◌, ℕ, List, Option, Some, sym, subst}
use Rattle.esm_hlock.specs.Closing.{ClosedWith}
use Rattle.esm_hlock.specs.declared.pass.PassOf.{PassOf}
use Rattle.esm_module_map.specs.Closing.{ClosedBy}

pub closed_by : {T E : Type 0} (story : T → List E) (maker : E → Option ℕ) {pass : Option (PassOf T E)} {p : PassOf T E}
    → pass ≡ Some p → (ticket serving : ℕ) → ClosedWith story maker p.seat.id p.seat.me.0 ticket serving
    → ClosedBy pass story maker ticket serving
closed_by story maker is ticket serving h = subst (λ o. ClosedBy o story maker ticket serving) (sym is) h
