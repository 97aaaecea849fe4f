-- Laws of the definitions.
use Rattle.std.specs.Prelude.{◌≡◌, ⊤, ℕ, true, List, [], ◌∷◌, ◌++◌, map, slice_get, is_some, Some, None}
use Rattle.esm_values.specs.Value.{Value}
use Rattle.esm_promise.specs.Reactions.{Reaction}
use Rattle.esm_promise.specs.Code.{Numbered}
use Rattle.esm_promise.specs.Promises.{Pending, Done, Job, job, Settled, Fulfilled, no_promises, next_promise, make, make_fulfilled, register, settle, next_job, settled, is_pending}

-- each job is that of a settled promise, so there is a result that it is given
abbrev pub AreSettled : Numbered → List (Job (Reaction ℕ)) → Type 0
AreSettled ps [] = ⊤
AreSettled ps (j ∷ js) = (is_some (settled ps j.promise) ≡ true) × AreSettled ps js

-- a promise that is settled stays settled as it is
abbrev pub StaysSettled : Numbered → Numbered → Type 0
StaysSettled old new = (p : ℕ) (how : Settled (Value ℕ)) → settled old p ≡ Some how → settled new p ≡ Some how

-- what is settled stays settled as it is, whatever is made, registered, or settled besides
pub record SettlesOnce : Type 0 where
  pub made : (ps : Numbered) (reactions : List (Reaction ℕ)) → StaysSettled ps (make ps reactions)
  pub made_fulfilled : (ps : Numbered) (v : Value ℕ) → StaysSettled ps (make_fulfilled ps v)
  pub registered : (ps : Numbered) (p : ℕ) (r : Reaction ℕ) → StaysSettled ps (register ps p r)
  pub settles : (ps : Numbered) (p : ℕ) (how : Settled (Value ℕ)) → is_pending ps p ≡ true → StaysSettled ps (settle ps p how)
  pub new : (ps : Numbered) (p : ℕ) (how : Settled (Value ℕ)) → is_pending ps p ≡ true → settled (settle ps p how) p ≡ Some how

-- each job's promise is settled
pub record JobsAreOfSettled : Type 0 where
  pub none : AreSettled no_promises []
  pub made : (ps : Numbered) (rs : List (Reaction ℕ)) → AreSettled ps ps.jobs → AreSettled (make ps rs) (make ps rs).jobs
  pub registered : (ps : Numbered) (p : ℕ) (r : Reaction ℕ) → AreSettled ps ps.jobs → AreSettled (register ps p r) (register ps p r).jobs
  pub settles : (ps : Numbered) (p : ℕ) (how : Settled (Value ℕ)) → is_pending ps p ≡ true → AreSettled ps ps.jobs
      → AreSettled (settle ps p how) (settle ps p how).jobs
  pub made_fulfilled : (ps : Numbered) (v : Value ℕ) → AreSettled ps ps.jobs
      → AreSettled (make_fulfilled ps v) (make_fulfilled ps v).jobs
  pub taken : (ps left : Numbered) (j : Job (Reaction ℕ)) → next_job ps ≡ Some (j, left) → AreSettled ps ps.jobs
      → (is_some (settled left j.promise) ≡ true) × AreSettled left left.jobs

-- a promise that is made is there under its id, pending with its reactions or fulfilled with its value, and adds no job
pub record MadePending : Type 0 where
  pub made : (ps : Numbered) (rs : List (Reaction ℕ)) → slice_get (make ps rs).all (next_promise ps) ≡ Some (Pending rs)
  pub fulfilled : (ps : Numbered) (v : Value ℕ) → settled (make_fulfilled ps v) (next_promise ps) ≡ Some (Fulfilled v)
  pub no_job : (ps : Numbered) (rs : List (Reaction ℕ)) → (make ps rs).jobs ≡ ps.jobs
  pub fulfilled_no_job : (ps : Numbered) (v : Value ℕ) → (make_fulfilled ps v).jobs ≡ ps.jobs

-- jobs are added at the end, and taken from the front: none by a reaction on a pending promise, which keeps it behind its
-- others; one at once by a reaction on a settled promise; and one for each reaction, in order, by the settling of a promise
pub record JobsAreInOrder : Type 0 where
  pub waits : (ps : Numbered) (p : ℕ) (rs : List (Reaction ℕ)) (r : Reaction ℕ)
      → slice_get ps.all p ≡ Some (Pending rs) → slice_get (register ps p r).all p ≡ Some (Pending (rs ++ r ∷ []))
  pub pending : (ps : Numbered) (p : ℕ) (rs : List (Reaction ℕ)) (r : Reaction ℕ)
      → slice_get ps.all p ≡ Some (Pending rs) → (register ps p r).jobs ≡ ps.jobs
  pub at_once : (ps : Numbered) (p : ℕ) (how : Settled (Value ℕ)) (r : Reaction ℕ)
      → slice_get ps.all p ≡ Some (Done how) → (register ps p r).jobs ≡ ps.jobs ++ job p r ∷ []
  pub settles : (ps : Numbered) (p : ℕ) (rs : List (Reaction ℕ)) (how : Settled (Value ℕ))
      → slice_get ps.all p ≡ Some (Pending rs) → (settle ps p how).jobs ≡ ps.jobs ++ map (job p) rs
  pub next : (ps : Numbered) (j : Job (Reaction ℕ)) (js : List (Job (Reaction ℕ)))
      → ps.jobs ≡ j ∷ js → next_job ps ≡ Some (j, record ps { jobs = js })
  pub no_next : (ps : Numbered) → ps.jobs ≡ [] → next_job ps ≡ None
