-- Promises and jobs. ECMA-262, Promise Objects, and Jobs and Host Operations to Enqueue Jobs, over reactions R and
-- values V of any kind.
use Rattle.std.specs.Prelude.{ℕ, Bool, true, false, List, [], ◌∷◌, ◌++◌, map, length, slice_get, slice_set, Option, Some, None}

-- how a promise was settled: ECMA-262, [[PromiseState]] and [[PromiseResult]]
pub data Settled (V : Type 0) : Type 0 where
  Fulfilled : (v : V) → Settled V
  Rejected : (v : V) → Settled V

pub data Promise (R V : Type 0) : Type 0 where
  -- with its reactions, in order of registration
  Pending : (reactions : List R) → Promise R V
  Done : (how : Settled V) → Promise R V

-- ECMA-262, NewPromiseReactionJob: a reaction, and the settled promise whose result it is given
pub record Job (R : Type 0) : Type 0 where
  pub reaction : R
  pub promise : ℕ

abbrev pub job : {R : Type 0} → ℕ → R → Job R
job p r = record { reaction = r; promise = p }

pub record Promises (R V : Type 0) : Type 0 where
  -- the promise with an id is the one at that place: they are made in order of ids
  pub all : List (Promise R V)
  -- the next one first
  pub jobs : List (Job R)

module _ {R V : Type 0} where
  abbrev pub no_promises : Promises R V
  no_promises = record { all = []; jobs = [] }

  -- the id of the promise that is made next
  abbrev pub next_promise : Promises R V → ℕ
  next_promise ps = length ps.all

  -- ECMA-262, NewPromiseCapability: a pending promise. own: with reactions that it has from the beginning
  abbrev pub make : Promises R V → List R → Promises R V
  make ps reactions = record ps { all = ps.all ++ Pending reactions ∷ [] }

  -- ECMA-262, PromiseResolve of a value that is no promise: one that is fulfilled already
  abbrev pub make_fulfilled : Promises R V → V → Promises R V
  make_fulfilled ps v = record ps { all = ps.all ++ Done (Fulfilled v) ∷ [] }

  -- the jobs that settling the promise adds. ECMA-262, TriggerPromiseReactions: one for each reaction, in order
  abbrev pub triggered : ℕ → Option (Promise R V) → List (Job R)
  triggered p None = []
  triggered p (Some (Pending reactions)) = map (job p) reactions
  triggered p (Some (Done how)) = []

  -- ECMA-262, FulfillPromise and RejectPromise
  abbrev pub settle : Promises R V → ℕ → Settled V → Promises R V
  settle ps p how = record { all = slice_set ps.all p (Done how); jobs = ps.jobs ++ triggered p (slice_get ps.all p) }

  abbrev pub register_by : Option (Promise R V) → Promises R V → ℕ → R → Promises R V
  register_by None ps p r = ps
  register_by (Some (Pending reactions)) ps p r = record ps { all = slice_set ps.all p (Pending (reactions ++ r ∷ [])) }
  register_by (Some (Done how)) ps p r = record ps { jobs = ps.jobs ++ job p r ∷ [] }

  -- ECMA-262, PerformPromiseThen: on a settled promise a job is added at once
  abbrev pub register : Promises R V → ℕ → R → Promises R V
  register ps p r = register_by (slice_get ps.all p) ps p r

  abbrev pub first_job : List (Job R) → Promises R V → Option (Job R × Promises R V)
  first_job [] ps = None
  first_job (next ∷ jobs) ps = Some (next, record ps { jobs = jobs })

  -- the job that runs next, and what is left. ECMA-262, Jobs and Host Operations to Enqueue Jobs: in the order in which they
  -- were added
  abbrev pub next_job : Promises R V → Option (Job R × Promises R V)
  next_job ps = first_job ps.jobs ps

abbrev pub settled_by : {R V : Type 0} → Option (Promise R V) → Option (Settled V)
settled_by None = None
settled_by (Some (Pending reactions)) = None
settled_by (Some (Done how)) = Some how

-- what a promise was settled with
abbrev pub settled : {R V : Type 0} → Promises R V → ℕ → Option (Settled V)
settled ps p = settled_by (slice_get ps.all p)

abbrev pub is_pending_by : {R V : Type 0} → Option (Promise R V) → Bool
is_pending_by None = false
is_pending_by (Some (Pending reactions)) = true
is_pending_by (Some (Done how)) = false

-- the promise was made, and isn't settled
abbrev pub is_pending : {R V : Type 0} → Promises R V → ℕ → Bool
is_pending ps p = is_pending_by (slice_get ps.all p)
