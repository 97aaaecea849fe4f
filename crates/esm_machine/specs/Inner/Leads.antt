-- What steps of a machine lead to: a world that its parts are in then, or one that a limit has stopped. Where memory ran out nothing is
-- said.
use Rattle.std.specs.Prelude.{◌≡◌, ℕ, Bool, true, false, List, Option, Some, None, Result, Ok, Err, is_some}
use Rattle.esm_base.specs.declared.end.End.{End}
use Rattle.esm_base.specs.declared.end.End.TheVariants as ends
use Rattle.esm_base.specs.declared.limits.Limit.{Limit}
use Rattle.esm_base.specs.Urls.{Url}
use Rattle.esm_ast.specs.Outcome.{OutcomeView}
use Rattle.esm_values.specs.Value as value
use Rattle.esm_values.specs.Value.{Error}
use Rattle.esm_values.specs.Errors.{next_error}
use Rattle.esm_values.specs.Code.{value_of}
use Rattle.esm_values.specs.declared.value.Value.{Value}
use Rattle.esm_values.specs.declared.value.PromiseId.{PromiseId}
use Rattle.esm_promise.specs.Promises.{Settled, Fulfilled, Rejected, next_job, register, settle}
use Rattle.esm_promise.specs.Reactions.{Reaction, EntryDone, Evaluated}
use Rattle.esm_loads.specs.Arrival.{AnswersNext, next}
use Rattle.esm_loads.specs.Host.{Host}
use Rattle.esm_loads.specs.Loading.{import_promise}
use Rattle.esm_link.specs.Faults.{FaultAt}
use Rattle.esm_link.specs.Realm.{fault_of}
use Rattle.esm_link.specs.declared.LinkFault.{LinkFault}
use Rattle.esm_eval.specs.Evaluate.{Evaluates}
use Rattle.esm_world.specs.World.{World, stopped, host_of, with_host}
use Rattle.esm_world.specs.Layers.{CallsForBody, evaluation, LinksTo, with_linked}
use Rattle.esm_world.specs.Jobs.{Reacts, Jobs, IsJob, EvaluatesLoad, LinksLoad, link_failed, new_error}
use Rattle.esm_world.specs.Turn.{fetched}
use Rattle.esm_machine.specs.Held.{EntryHeld, Ended, Failed, IsHalted}
use Rattle.esm_machine.specs.Represents.{TurnEnd}
use Rattle.esm_machine.specs.Inner.Parts.{AreLive, reaction_in, seen_in, settled_in, url_in, value_in, with_fault, parts_with_promises}
use Rattle.esm_machine.specs.Machine.{held_of}
use Rattle.esm_machine.specs.declared.linking.Linked.{Linked}
use Rattle.esm_machine.specs.declared.linking.Linked.TheVariants as outcomes
use Rattle.esm_machine.specs.declared.parts.Parts.{Parts}
use Rattle.esm_machine.specs.declared.parts.EntryState.TheVariants as states

-- the limit has stopped the world, and the parts have its log and as many starts of bodies
abbrev pub AreHalted : Limit → Parts → World → Type 0
AreHalted limit p w = IsHalted limit (held_of p).engine w

abbrev pub LeadsTo : (World → Type 0) → Result (Unit {0}) TurnEnd → Parts → Type 0
LeadsTo To (Ok done) p = (after : World) × To after × AreLive p after
LeadsTo To (Err (ends.Fault limit)) p = (after : World) × To after × AreHalted limit p after
LeadsTo To (Err ends.Memory) p = Unit {0}

-- so it is for each world that the old parts are in
abbrev pub LeadsFrom : Parts → (World → World → Type 0) → Result (Unit {0}) TurnEnd → Parts → Type 0
LeadsFrom old To result new = (w : World) → AreLive old w → LeadsTo (To w) result new

-- ---- linking and evaluation

-- the module is linked; or linking it has a fault, whose error is this value
abbrev pub LinksRoot : World → Url → Option Value → Parts → Type 0
LinksRoot w root None p = (after : List Url) × LinksTo w root None after × AreLive p (with_linked w after)
LinksRoot w root (Some v) p = (f : FaultAt Url) × (after : List Url) × LinksTo w root (Some f) after
    × (value_in p (value_of v) ≡ new_error w) × AreLive p (link_failed w f after)

-- the module is evaluated, with this promise
abbrev pub EvaluatesModule : World → Url → Result PromiseId TurnEnd → Parts → Type 0
EvaluatesModule w root (Ok promise) p = (after : World) × Evaluates evaluation CallsForBody w root (Ok promise.0) after × AreLive p after
EvaluatesModule w root (Err (ends.Fault limit)) p =
    (after : World) × Evaluates evaluation CallsForBody w root (Err limit) after × AreHalted limit p after
EvaluatesModule w root (Err ends.Memory) p = Unit {0}

-- the root of a complete load is linked and evaluated, with the promise of its evaluation; or linking it has a fault, whose error is this
-- value
abbrev pub LinksAndEvaluates : World → ℕ → Result Linked TurnEnd → Parts → Type 0
LinksAndEvaluates w load (Ok (outcomes.Evaluates promise)) p =
    (after : World) × EvaluatesLoad w load (Ok promise.0) after × AreLive p after
LinksAndEvaluates w load (Ok (outcomes.Fault v)) p = (root : Url) × (f : FaultAt Url) × (after : List Url)
    × LinksLoad w load root (Some f) after × (value_in p (value_of v) ≡ new_error w) × AreLive p (link_failed w f after)
LinksAndEvaluates w load (Err (ends.Fault limit)) p =
    (after : World) × EvaluatesLoad w load (Err limit) after × AreHalted limit p after
LinksAndEvaluates w load (Err ends.Memory) p = Unit {0}

-- the error of a link fault was made, and this is its value
abbrev pub TellsFault : Parts → End LinkFault → Option Value → Parts → Type 0
TellsFault p (ends.Fault f) (Some v) new = (value_of v ≡ Error (next_error p.host.bodies.errors)) × (new ≡ with_fault p (fault_of f))
TellsFault p (ends.Fault f) None new = ⊥
TellsFault p ends.Memory error new = ⊥

-- the module is evaluated, where linking it had no fault
abbrev pub EvaluatesUnless : Parts → ℕ → Option Value → Result Linked TurnEnd → Parts → Type 0
EvaluatesUnless old root (Some v) result new = (result ≡ Ok (outcomes.Fault v)) × (new ≡ old)
EvaluatesUnless old root None (Ok (outcomes.Evaluates promise)) new =
    (w : World) → AreLive old w → EvaluatesModule w (url_in old root) (Ok promise) new
EvaluatesUnless old root None (Ok (outcomes.Fault v)) new = ⊥
EvaluatesUnless old root None (Err end) new = (w : World) → AreLive old w → EvaluatesModule w (url_in old root) (Err end) new

-- ---- what follows the linking of a root

-- the reaction is registered on the promise, unless memory runs out
abbrev pub Registers : Parts → PromiseId → Reaction ℕ → Result (Unit {0}) TurnEnd → Parts → Type 0
Registers p promise r (Ok done) new = new ≡ parts_with_promises p (register p.host.promises promise.0 r)
Registers p promise r (Err (ends.Fault limit)) new = ⊥
Registers p promise r (Err ends.Memory) new = Unit {0}

-- the promise of the import() that the load is for is settled so
abbrev pub SettlesImport : Parts → ℕ → Settled (value.Value ℕ) → Parts → Type 0
SettlesImport p load how new = (promise : ℕ) → import_promise (seen_in p).loading load ≡ Some promise
    → new ≡ parts_with_promises p (settle p.host.promises promise how)

-- the end of the entry's evaluation is awaited; or the entry failed by a link fault
abbrev pub TakesEntry : Parts → Linked → Result (Unit {0}) TurnEnd → Parts → Type 0
TakesEntry p (outcomes.Evaluates promise) result new = Registers p promise EntryDone result new
TakesEntry p (outcomes.Fault v) (Ok done) new = new ≡ record p { entry = states.Failed v }
TakesEntry p (outcomes.Fault v) (Err end) new = ⊥

-- how far the entry has come where its evaluation has ended so
abbrev pub entry_after : Settled (value.Value ℕ) → EntryHeld
entry_after (Fulfilled v) = Ended
entry_after (Rejected v) = Failed v

-- a link fault rejects the promise of the import(), which there is
abbrev pub MayTakeLoad : Parts → ℕ → Linked → Type 0
MayTakeLoad p load (outcomes.Evaluates promise) = Unit {0}
MayTakeLoad p load (outcomes.Fault v) = is_some (import_promise (seen_in p).loading load) ≡ true

-- the end of the evaluation is awaited; or a link fault rejects the promise of the import()
abbrev pub TakesLoad : Parts → ℕ → Linked → Result (Unit {0}) TurnEnd → Parts → Type 0
TakesLoad p load (outcomes.Evaluates promise) result new = Registers p promise (Evaluated load) result new
TakesLoad p load (outcomes.Fault v) (Ok done) new = SettlesImport p load (Rejected (value_of v)) new
TakesLoad p load (outcomes.Fault v) (Err end) new = ⊥

-- ---- turns: the end of a fetch, its jobs and its tasks

-- the bytes are counted, and the outcome stands in the table
abbrev pub IsFetched : Url → OutcomeView → World → World → Type 0
IsFetched u c w after = after ≡ fetched w u c

-- the job of this reaction is done, whose promise was settled so
abbrev pub DoesJob : Parts → Reaction ℕ → Settled (value.Value ℕ) → Result (Unit {0}) TurnEnd → Parts → Type 0
DoesJob old r how result new = LeadsFrom old (λ w. Reacts w (reaction_in old r) (settled_in old how)) result new

-- a job has led to the world that the parts are in, or none was left
abbrev pub LeadsByJob : World → Result Bool TurnEnd → Parts → Type 0
LeadsByJob w (Ok true) p = (after : World) × IsJob w after × AreLive p after
LeadsByJob w (Ok false) p = (next_job w.promises ≡ None) × AreLive p w
LeadsByJob w (Err (ends.Fault limit)) p = (after : World) × IsJob w after × AreHalted limit p after
LeadsByJob w (Err ends.Memory) p = Unit {0}

-- jobs, of which the last alone has taken a step, have led to the world that the parts are in; or none is left there
abbrev pub LeadsByJobs : World → Result Bool TurnEnd → Parts → Type 0
LeadsByJobs w (Ok true) p = (mid : World) × AreLive p mid × ((after : World) → Jobs mid after → Jobs w after)
LeadsByJobs w (Ok false) p = (after : World) × Jobs w after × AreLive p after
LeadsByJobs w (Err (ends.Fault limit)) p = (after : World) × Jobs w after × AreHalted limit p after
LeadsByJobs w (Err ends.Memory) p = Unit {0}

-- the first pending request of a fetched URL is answered, and all jobs run behind it
pub record IsTask (w after : World) : Type 0 where
  pub live : stopped w ≡ None
  pub host : Host
  pub answers : AnswersNext (host_of w) host
  pub jobs : Jobs (with_host w host) after

-- a task has led to the world that the parts are in, or none was left
abbrev pub LeadsByTask : World → Result Bool TurnEnd → Parts → Type 0
LeadsByTask w (Ok true) p = (after : World) × IsTask w after × AreLive p after
LeadsByTask w (Ok false) p = (next w.loading ≡ None) × AreLive p w
LeadsByTask w (Err (ends.Fault limit)) p = (after : World) × IsTask w after × AreHalted limit p after
LeadsByTask w (Err ends.Memory) p = Unit {0}

-- where a request was answered all jobs have led to the world that the parts are in; where none was, nothing has changed
abbrev pub LeadsBehind : Bool → Parts → Result Bool TurnEnd → Parts → Type 0
LeadsBehind true old (Ok answered) new = (answered ≡ true) × LeadsFrom old Jobs (Ok tt) new
LeadsBehind true old (Err end) new = LeadsFrom old Jobs (Err end) new
LeadsBehind false old result new = (result ≡ Ok false) × (new ≡ old)
