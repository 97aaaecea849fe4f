-- What follows of an import(), where no limit has stopped the run: its promise is settled, unless its load or the evaluation
-- of its root is under way.
use Rattle.std.specs.Prelude.{◌≡◌, ℕ, true, Contains, List, slice_get, is_some, Some}
use Rattle.esm_base.specs.Urls.{Url}
use Rattle.esm_values.specs.Value.{Value}
use Rattle.esm_promise.specs.Promises.{Promises, Pending, settled}
use Rattle.esm_promise.specs.Reactions.{Reaction, Evaluated}
use Rattle.esm_loads.specs.Loading.{LoadState, import_promise}
use Rattle.esm_loads.specs.Whole.{HasEnded}
use Rattle.esm_world.specs.World.{World}
use Rattle.esm_world.specs.RunLaws.{HoldsOfRuns}

abbrev pub IsSettled : Promises (Reaction Url) (Value Url) → ℕ → Type 0
IsSettled ps p = is_some (settled ps p) ≡ true

-- how far the import() has come that the load s is for, whose promise is q
pub data HasGoneOn (w : World) (s q : ℕ) : Type 0 where
  ends : IsSettled w.promises q → HasGoneOn w s q
  -- its load hasn't ended
  loads : ((state : LoadState) → slice_get w.loading.loads s ≡ Some state → HasEnded state → ⊥) → HasGoneOn w s q
  -- the promise of its root's evaluation is pending, with the reaction that settles the import()
  evaluates : (p : ℕ) (rs : List (Reaction Url)) → slice_get w.promises.all p ≡ Some (Pending rs) → Contains rs (Evaluated s)
      → HasGoneOn w s q

-- behind each turn it is so of each import() that has a load
abbrev pub ImportsGoOn : Type 0
ImportsGoOn = HoldsOfRuns (λ w. (s q : ℕ) → import_promise w.loading s ≡ Some q → HasGoneOn w s q)
