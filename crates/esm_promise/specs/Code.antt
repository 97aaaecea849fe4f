-- The code's reactions, results, promises and jobs as those of the language, whose modules have numbers.
use Rattle.std.specs.Prelude.{◌≡◌, ℕ, Option, Some, None}
use Rattle.std.specs.Option.{option_map, option_copied}
use Rattle.std.specs.Borrow.{Bor}
use Rattle.esm_values.specs.Value.{Value}
use Rattle.esm_values.specs.Code.{value_of}
use Rattle.esm_values.specs.declared.value.PromiseId.{PromiseId}
use Rattle.esm_promise.specs.Reactions as reaction
use Rattle.esm_promise.specs.Promises as promise
use Rattle.esm_promise.specs.declared.reaction.ReactionKind.{ReactionKind}
use Rattle.esm_promise.specs.declared.reaction.ReactionKind.TheVariants as kinds
use Rattle.esm_promise.specs.declared.reaction.Reaction.{Reaction}
use Rattle.esm_promise.specs.declared.reaction.Settled.{Settled}
use Rattle.esm_promise.specs.declared.reaction.Settled.TheVariants as how

-- promises of modules with numbers
abbrev pub Numbered : Type 0
Numbered = promise.Promises (reaction.Reaction ℕ) (Value ℕ)

abbrev pub reaction_by : ReactionKind → ℕ → reaction.Reaction ℕ
reaction_by kinds.Await subject = reaction.Await subject
reaction_by kinds.BodyEnd subject = reaction.BodyEnd subject
reaction_by kinds.Loaded subject = reaction.Loaded subject
reaction_by kinds.Evaluated subject = reaction.Evaluated subject
reaction_by kinds.EntryLoaded subject = reaction.EntryLoaded
reaction_by kinds.EntryDone subject = reaction.EntryDone

abbrev pub reaction_of : Reaction → reaction.Reaction ℕ
reaction_of r = reaction_by r.kind r.subject

abbrev pub settled_of : Settled → promise.Settled (Value ℕ)
settled_of (how.Fulfilled v) = promise.Fulfilled (value_of v)
settled_of (how.Rejected v) = promise.Rejected (value_of v)

-- what is told of a settled promise
abbrev pub told : Option (Bor Settled) → Option (promise.Settled (Value ℕ))
told r = option_map settled_of (option_copied r)

-- the job that was taken, if there was one, and what is left
abbrev pub IsTaken : Numbered → Option (Reaction × PromiseId) → Numbered → Type 0
IsTaken old None new = (promise.next_job old ≡ None) × (new ≡ old)
IsTaken old (Some taken) new = promise.next_job old ≡ Some (promise.job taken.1.0 (reaction_of taken.0), new)
