-- When the counts of pending requests are right.
use Rattle.std.specs.Prelude.{◌≡◌, ℕ, suc, ◌+◌, ◌<◌, Bool, true, false, List, [], ◌∷◌, length, slice_get, Some, All}
use Rattle.std.specs.declared.collections.VecDeque.{VecDeque}
use Rattle.std.specs.declared.alloc.Global.{Global}
use Rattle.esm_loads.specs.declared.data.Waiting.{Waiting}
use Rattle.esm_loads.specs.Inner.Requests.{is_of}

abbrev pub add_by : Bool → ℕ → ℕ
add_by true n = suc n
add_by false n = n

-- how many requests in a queue are this load's
abbrev pub count_in : ℕ → List Waiting → ℕ
count_in s [] = 0
count_in s (w ∷ ws) = add_by (is_of s w) (count_in s ws)

-- how many pending requests the load has
abbrev pub count_all : ℕ → List (VecDeque Waiting Global) → ℕ
count_all s [] = 0
count_all s (q ∷ qs) = count_in s q.items + count_all s qs

abbrev pub AreOfLoads : ℕ → VecDeque Waiting Global → Type 0
AreOfLoads many q = All (λ (w : Waiting). w.load < many) q.items

pub record AreCounted (queues : List (VecDeque Waiting Global)) (counts : List ℕ) : Type 0 where
  pub counted : (s n : ℕ) → slice_get counts s ≡ Some n → n ≡ count_all s queues
  pub within : All (AreOfLoads (length counts)) queues
