-- What holds between two answers: what is Unlinked is loaded with all that it reaches, and a load that goes on waits for
-- something. own
use Rattle.std.specs.Prelude.{◌≡◌, ◌⊎◌, ℕ, suc, Bool, true, false, Contains, List, [], ◌∷◌, filter, slice_get, Option, Some, None}
use Rattle.esm_base.specs.Urls.{Url, has}
use Rattle.esm_loads.specs.UrlTable.{TableEntry, Module}
use Rattle.esm_loads.specs.Loading.{Loading, LoadState, Asked, Open, LoadComplete, Thrown, PendingRequest, Root, Request, load_of, is_fresh, targets}

abbrev pub is_module : Option TableEntry → Bool
is_module (Some (Module m)) = true
is_module _ = false

-- the request waits for this URL, which was asked for
abbrev pub IsPending : Loading → Url → PendingRequest → Type 0
IsPending l u a = (has l.asked u ≡ true) × Contains (l.pending u) a

-- ---- what is Unlinked

abbrev pub AreUnlinked : Loading → List Url → Type 0
AreUnlinked l [] = Unit {0}
AreUnlinked l (t ∷ ts) = (l.unlinked t ≡ true) × AreUnlinked l ts

-- a module stands under the URL, and its targets are Unlinked
pub record IsLoaded (l : Loading) (x : Url) : Type 0 where
  pub stands : is_module (l.entries x) ≡ true
  pub targets_are : AreUnlinked l (targets l x)

-- ---- a load that goes on

-- the URL isn't New, or the load has visited it
abbrev pub IsKnown : Loading → (Url → Bool) → Url → Type 0
IsKnown l visited x = is_fresh l visited x ≡ false

-- each of these targets of x, from its i-th request on, is known or waited for
abbrev pub AreFollowed : Loading → ℕ → (Url → Bool) → Url → ℕ → List Url → Type 0
AreFollowed l s visited x i [] = Unit {0}
AreFollowed l s visited x i (t ∷ ts) =
    (IsKnown l visited t ⊎ IsPending l t (Request s x i)) × AreFollowed l s visited x (suc i) ts

-- a module stands under the URL, and its targets are known or waited for
pub record IsVisited (l : Loading) (s : ℕ) (visited : Url → Bool) (x : Url) : Type 0 where
  pub stands : is_module (l.entries x) ≡ true
  pub targets_are : AreFollowed l s visited x 0 (targets l x)

-- a request of the load is pending
pub record Awaits (l : Loading) (s : ℕ) : Type 0 where
  pub url : Url
  pub pending_request : PendingRequest
  pub of_load : load_of pending_request ≡ s
  pub is : IsPending l url pending_request

pub record GoesOn (l : Loading) (s : ℕ) (start : Url) (visited : Url → Bool) : Type 0 where
  pub known : IsKnown l visited start
  pub visits : (x : Url) → visited x ≡ true → IsVisited l s visited x
  pub awaits : Awaits l s

-- ---- the state between two answers

-- how the load s is
pub record IsLoadWhole (l : Loading) (s : ℕ) : Type 0 where
  -- where it has ended with all modules loaded, its root is Unlinked
  pub complete : (start : Url) → slice_get l.loads s ≡ Some (LoadComplete start) → l.unlinked start ≡ true
  -- unless a limit has stopped loading, it has ended or waits
  pub goes_on : l.stopped ≡ None → (start : Url) (visited : Url → Bool)
      → slice_get l.loads s ≡ Some (Open start visited) → GoesOn l s start visited
  pub asked : l.stopped ≡ None → slice_get l.loads s ≡ Some Asked → (u : Url) × IsPending l u (Root s)

pub record IsWhole (l : Loading) : Type 0 where
  pub loaded : (x : Url) → l.unlinked x ≡ true → IsLoaded l x
  pub each : (s : ℕ) → IsLoadWhole l s

-- the load has ended
abbrev pub HasEnded : LoadState → Type 0
HasEnded Asked = ⊥
HasEnded (Open start visited) = ⊥
HasEnded (LoadComplete start) = Unit {0}
HasEnded (Thrown thrown) = Unit {0}

-- the URLs of the modules that are Unlinked
abbrev pub unlinked_modules : Loading → List Url
unlinked_modules l = filter l.unlinked l.asked
