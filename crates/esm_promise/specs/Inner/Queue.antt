-- What is kept of promises, and how many reactions wait.
use Rattle.std.specs.Prelude.{◌≡◌, ℕ, Bool, true, false, List, [], ◌∷◌, ◌++◌, map, length, Result, Ok, Err}
use Rattle.esm_base.specs.declared.memory.Memory.{Memory}
use Rattle.esm_values.specs.Value.{Value}
use Rattle.esm_values.specs.declared.value.PromiseId.{PromiseId}
use Rattle.esm_promise.specs.Reactions as reaction
use Rattle.esm_promise.specs.Promises as promise
use Rattle.esm_promise.specs.Code.{Numbered, reaction_of, settled_of}
use Rattle.esm_promise.specs.declared.reaction.Reaction.{Reaction}
use Rattle.esm_promise.specs.declared.promises.Promise.{Promise}
use Rattle.esm_promise.specs.declared.promises.Promise.TheVariants as kept
use Rattle.esm_promise.specs.declared.promises.Job.{Job}

abbrev pub promise_of : Promise → promise.Promise (reaction.Reaction ℕ) (Value ℕ)
promise_of (kept.Pending rs) = promise.Pending (map reaction_of rs.items)
promise_of (kept.Done how) = promise.Done (settled_of how)

abbrev pub job_of : Job → promise.Job (reaction.Reaction ℕ)
job_of j = promise.job j.promise.0 (reaction_of j.reaction)

abbrev pub promises_of : List Promise → List Job → Numbered
promises_of all jobs = record { all = map promise_of all; jobs = map job_of jobs }

-- how many reactions the promise has that wait for it
abbrev pub waiting : Promise → ℕ
waiting (kept.Pending rs) = length rs.items
waiting (kept.Done how) = 0

-- the jobs of reactions to a promise
abbrev pub jobs_for : PromiseId → List Reaction → List Job
jobs_for p rs = map (λ r. record { reaction = r; promise = p }) rs

-- a promise with one reaction more
abbrev pub HasAdded : Promise → Reaction → Promise → Type 0
HasAdded (kept.Pending rs) r (kept.Pending ss) = ss.items ≡ rs.items ++ r ∷ []
HasAdded (kept.Pending rs) r (kept.Done how) = ⊥
HasAdded (kept.Done how) r new = ⊥

abbrev pub IsDone : Promise → Type 0
IsDone (kept.Pending rs) = ⊥
IsDone (kept.Done how) = Unit {0}

-- a reaction is added to a promise that is pending, and a settled one stays as it is
abbrev pub AddsReaction : Promise → Reaction → Result Bool Memory → Promise → Type 0
AddsReaction old r (Ok true) new = HasAdded old r new
AddsReaction old r (Ok false) new = IsDone old × (new ≡ old)
AddsReaction old r (Err end) new = promise_of new ≡ promise_of old
