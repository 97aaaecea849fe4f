-- How a map was closed.
use Rattle.std.specs.Prelude.{ℕ, List, Option, Some, None}
use Rattle.esm_hlock.specs.Closing.{ClosedWith}
use Rattle.esm_hlock.specs.declared.pass.PassOf.{PassOf}

module _ {T E : Type 0} where
  -- the pass has closed a lock with these two words: some table that keeps the lock's rule has them, and this pass
  abbrev pub ClosedBy : Option (PassOf T E) → (T → List E) → (E → Option ℕ) → ℕ → ℕ → Type 0
  ClosedBy None story maker ticket serving = ⊥
  ClosedBy (Some p) story maker ticket serving = ClosedWith story maker p.seat.id p.seat.me.0 ticket serving
