-- Modules by their orders of asynchronous evaluation.
use Rattle.std.specs.Prelude.{◌≡◌, ◌<◌, ◌||◌, ℕ, Bool, true, false, nat_eq, List, [], ◌∷◌, length, slice_get, Option, Some, None}
use Rattle.std.specs.Option.{unwrap_or}
use Rattle.esm_eval.specs.Calls.{CodeEvaluation}
use Rattle.esm_eval.specs.Inner.Ready.{ready_by}

-- the option is x
abbrev pub is_just : Option ℕ → ℕ → Bool
is_just None x = false
is_just (Some y) x = nat_eq x y

-- x has one of these orders
abbrev pub has_one_of : List ℕ → List ℕ → ℕ → Bool
has_one_of stamps [] x = false
has_one_of stamps (k ∷ ks) x = is_just (slice_get stamps k) x || has_one_of stamps ks x

-- the modules that have these orders
abbrev pub modules_at : List ℕ → List ℕ → List ℕ
modules_at stamps [] = []
modules_at stamps (k ∷ ks) = unwrap_or (slice_get stamps k) 0 ∷ modules_at stamps ks

-- each of these is an order that a module has
abbrev pub AreOrders : List ℕ → List ℕ → Type 0
AreOrders stamps [] = Unit {0}
AreOrders stamps (k ∷ ks) = (k < length stamps) × AreOrders stamps ks

module _ {W : Type 0} (E : CodeEvaluation W) (w : W) where
  -- the modules that have these orders
  abbrev pub gathered_by : List ℕ → ℕ → Bool
  gathered_by ks = has_one_of (E.stamps w) ks

  -- the order of x, which is ready where these are and isn't one of them; or x isn't to join them
  abbrev pub Joins : List ℕ → ℕ → Option ℕ → Type 0
  Joins ks x None = ready_by E w (gathered_by ks) x ≡ true → gathered_by ks x ≡ true
  Joins ks x (Some k) =
      (slice_get (E.stamps w) k ≡ Some x) × (gathered_by ks x ≡ false) × (ready_by E w (gathered_by ks) x ≡ true)
