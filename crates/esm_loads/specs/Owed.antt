-- The promises that loads have still to settle. own
use Rattle.std.specs.Prelude.{◌≡◌, ℕ, ◌+◌, ◌==◌, Bool, true, false, cond, List, [], ◌∷◌, length, slice_get, Option, Some, None}
use Rattle.esm_base.specs.Urls.{Url}
use Rattle.esm_promise.specs.Promises.{is_pending}
use Rattle.esm_loads.specs.Loading.{Loading, LoadState, Asked, Open, PendingRequest, Root, Request, Purpose}
use Rattle.esm_loads.specs.Host.{Host, promise_of}

-- ---- roots

-- the load's root was asked for, and the load hasn't begun
abbrev pub is_asked : Option LoadState → Bool
is_asked (Some Asked) = true
is_asked _ = false

abbrev pub is_root_of : ℕ → PendingRequest → Bool
is_root_of s (Root k) = k == s
is_root_of s (Request k x i) = false

abbrev pub roots_in : ℕ → List PendingRequest → ℕ
roots_in s [] = 0
roots_in s (a ∷ rs) = cond (is_root_of s a) 1 0 + roots_in s rs

abbrev pub roots_among : (Url → List PendingRequest) → List Url → ℕ → ℕ
roots_among pending [] s = 0
roots_among pending (u ∷ us) s = roots_in s (pending u) + roots_among pending us s

-- how many pending requests there are for the root of the load
abbrev pub roots_of : Loading → ℕ → ℕ
roots_of l s = roots_among l.pending l.asked s

-- ---- promises

-- whether a load in this state has still to settle its promise
abbrev pub owes : Option LoadState → Bool
owes (Some Asked) = true
owes (Some (Open start visited)) = true
owes _ = false

abbrev pub owed_by : Bool → Option Purpose → Option ℕ
owed_by true (Some p) = Some (promise_of p)
owed_by _ _ = None

-- the promise that the load has still to settle
abbrev pub owed : Loading → ℕ → Option ℕ
owed l s = owed_by (owes (slice_get l.loads s)) (slice_get l.purposes s)

pub record OwesPromises (h : Host) : Type 0 where
  -- each load has a purpose
  pub sizes : length h.imports.purposes ≡ length h.imports.loads
  -- a load whose root was asked for awaits it by one request, and no other load awaits its root, unless a limit has stopped loading
  pub roots : h.imports.stopped ≡ None → (s : ℕ) → roots_of h.imports s ≡ cond (is_asked (slice_get h.imports.loads s)) 1 0
  -- the promise that a load has still to settle is pending
  pub pending : (s p : ℕ) → owed h.imports s ≡ Some p → is_pending h.promises p ≡ true
  -- and no other load has to settle it
  pub once : (s k p : ℕ) → owed h.imports s ≡ Some p → owed h.imports k ≡ Some p → s ≡ k
