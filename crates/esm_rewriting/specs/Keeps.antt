-- What calls for bodies change beside what they are told to do: what lies outside changes by import() alone, and of bodies
-- they begin their own.
use Rattle.std.specs.Prelude.{◌≡◌, ◌⊎◌, ℕ, Bool, List, [], ◌∷◌, ◌++◌, Result, Ok}
use Rattle.std.specs.List.{list_any}
use Rattle.esm_base.specs.declared.limits.Limit.{Limit}
use Rattle.esm_values.specs.Value.{Value}
use Rattle.esm_values.specs.Ran.{Ran}
use Rattle.esm_promise.specs.Promises.{Settled}
use Rattle.esm_promise.specs.Outer.{Outer}
use Rattle.esm_env.specs.Modules.{Modules}
use Rattle.esm_rewriting.specs.State.{Event, Begins, Ends, Throws, Engine, State, Importing, has_begun}
use Rattle.esm_rewriting.specs.Bodies.{StartsBody, RunsBody, ResumesBody}

-- the modules whose bodies have begun, in that order
abbrev pub started : {N : Type 0} → List (Event N) → List N
started [] = []
started (Begins x ∷ es) = x ∷ started es
started (Ends x ∷ es) = started es
started (Throws x ∷ es) = started es

-- what import() reads and writes beside promises and errors has become this by calls of import() alone
pub data ChangedBy {N I : Type 0} (begins : Importing N I) (old : I) : I → Type 0 where
  none : ChangedBy begins old old
  call : {o after : Outer N I} {m : N} {specifier : List ℕ} {promise : ℕ} {end : Result (Unit {0}) Limit}
      → ChangedBy begins old o.imports → begins o m specifier promise end after → ChangedBy begins old after.imports

-- import() alone was called, and no body has begun
pub record BeginsNone {N I : Type 0} (begins : Importing N I) (old new : State N I) : Type 0 where
  pub imports : ChangedBy begins old.outer.imports new.outer.imports
  pub starts : started new.engine.events ≡ started old.engine.events

-- import() alone was called, and the body of this module has begun, or none
pub record BeginsOwnBody {N I : Type 0} (begins : Importing N I) (m : N) (old new : State N I) : Type 0 where
  pub imports : ChangedBy begins old.outer.imports new.outer.imports
  pub starts : (started new.engine.events ≡ started old.engine.events)
      ⊎ (started new.engine.events ≡ started old.engine.events ++ m ∷ [])

module _ {N I : Type 0} (same : N → N → Bool) (modules : I → Modules N) (begins : Importing N I) where
  -- a body that starts or runs begins no other, and one that goes on behind its await begins none
  pub record BodiesKeep : Type 0 where
    pub start : (w after : State N I) (m : N) (done : ℕ) (end : Result (Unit {0}) Limit)
        → StartsBody same modules begins w m done end after → BeginsOwnBody begins m w after
    pub run : (w after : State N I) (m : N) (end : Result (Ran (Value N)) Limit)
        → RunsBody same modules begins w m end after → BeginsOwnBody begins m w after
    pub resume : (w after : State N I) (m : N) (how : Settled (Value N)) (end : Result (Unit {0}) Limit)
        → ResumesBody same modules begins w m how end after → BeginsNone begins w after

  -- where no limit is passed, a body that starts or runs has begun
  pub record BodiesBegin : Type 0 where
    pub start : (w after : State N I) (m : N) (done : ℕ) → StartsBody same modules begins w m done (Ok tt) after
        → started after.engine.events ≡ started w.engine.events ++ m ∷ []
    pub run : (w after : State N I) (m : N) (how : Ran (Value N)) → RunsBody same modules begins w m (Ok how) after
        → started after.engine.events ≡ started w.engine.events ++ m ∷ []
    pub begun : (e : Engine N) (m : N) → has_begun same e m ≡ list_any (same m) (started e.events)
