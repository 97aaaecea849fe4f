-- What the functions of loading see of pending requests.
use Rattle.std.specs.Prelude.{◌≡◌, ℕ, ◌<◌, ◌==◌, Bool, List, [], ◌∷◌, ◌++◌, slice_set, slice_index_or, Option, Some, None}
use Rattle.std.specs.declared.collections.VecDeque.{VecDeque}
use Rattle.std.specs.declared.alloc.Global.{Global}
use Rattle.esm_loads.specs.declared.data.Waiting.{Waiting}

pub record QueuesView : Type 0 where
  -- the pending requests of each URL, in order of asking
  pub queues : List (List Waiting)
  -- how many loads there are
  pub loads : ℕ

abbrev pub no_queues : QueuesView
no_queues = record { queues = []; loads = 0 }

abbrev pub queue_items : VecDeque Waiting Global → List Waiting
queue_items q = q.items

-- the request is one of this load
abbrev pub is_of : ℕ → Waiting → Bool
is_of load w = w.load == load

abbrev pub queue_at : List (List Waiting) → ℕ → List Waiting
queue_at queues k = slice_index_or queues k []

abbrev pub push_at : List (List Waiting) → ℕ → Waiting → List (List Waiting)
push_at queues k w = slice_set queues k (queue_at queues k ++ w ∷ [])

-- the first request of the URL is taken, or there is none
abbrev pub IsPopped : ℕ → QueuesView → QueuesView → Option Waiting → Type 0
IsPopped k old new None = (queue_at old.queues k ≡ []) × (new ≡ old)
IsPopped k old new (Some w) = (rest : List Waiting) × (queue_at old.queues k ≡ w ∷ rest)
    × (new ≡ record old { queues = slice_set old.queues k rest }) × (w.load < old.loads)
