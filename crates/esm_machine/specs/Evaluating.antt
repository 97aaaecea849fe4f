-- Evaluation by ids, over nodes, promises and bodies of which contracts see these parts.
use Rattle.std.specs.Prelude.{◌≡◌, ℕ, true, List, nat_eq, Result}
use Rattle.esm_base.specs.declared.limits.Limit.{Limit}
use Rattle.esm_base.specs.Urls.{Url, has}
use Rattle.esm_values.specs.Value.{Value}
use Rattle.esm_values.specs.Errors.{Errors}
use Rattle.esm_values.specs.Naming.{renamed_value}
use Rattle.esm_values.specs.Numbering.{numbering}
use Rattle.esm_env.specs.Cells.{Cells}
use Rattle.esm_env.specs.Modules.{entries}
use Rattle.esm_link.specs.Link.{targets}
use Rattle.esm_eval.specs.Nodes.{Call, CallAnswer, Start, Run}
use Rattle.esm_eval.specs.Evaluation.{Evaluation, IsLawful, IsSteady}
use Rattle.esm_eval.specs.Begins.{BeginsOne}
use Rattle.esm_eval.specs.Calls.{CodeCalls}
use Rattle.esm_eval.specs.Naming.{EvaluationFollows}
use Rattle.esm_eval.specs.Host as host
use Rattle.esm_eval.specs.Host.{Outside}
use Rattle.esm_eval.specs.declared.host.EvalHost.{EvalHost}
use Rattle.esm_rewriting.specs.Bodies.{StartsBody, RunsBody}
use Rattle.esm_rewriting.specs.State.{State, Engine, has_begun}
use Rattle.esm_world.specs.World.{World}
use Rattle.esm_world.specs.Layers as layers
use Rattle.esm_machine.specs.Seen.{Seen, modules}
use Rattle.esm_machine.specs.Seen.{BeginsById}
use Rattle.esm_machine.specs.Held.{Held, EntryHeld, world_of}

abbrev pub value_by : List Url → Value ℕ → Value Url
value_by urls v = renamed_value (numbering urls).name v

-- the module with this id is linked
abbrev pub IsLinkedNumber : List Url → List Url → ℕ → Type 0
IsLinkedNumber urls linked m = has linked ((numbering urls).name m) ≡ true

module _ {B : Type 0} (seen : B → Seen) (errors : B → Errors) (cells : B → Cells ℕ) (engine : B → Engine ℕ) where
  -- with how far the entry has come
  abbrev pub held_in : EntryHeld → EvalHost B → Held
  held_in entry w = record {
    seen = seen w.bodies;
    nodes = w.nodes;
    promises = w.promises;
    errors = errors w.bodies;
    cells = cells w.bodies;
    engine = engine w.bodies;
    entry = entry;
  }

  -- the world, where these modules are linked, in this order
  abbrev pub world_in : EntryHeld → List Url → EvalHost B → World
  world_in entry linked w = world_of (held_in entry w) linked

  -- what evaluation reads and writes
  abbrev pub by_ids : Evaluation ℕ (Value ℕ) (EvalHost B)
  by_ids = host.evaluation (λ b m. targets (modules (seen b)) m) (λ b m. (entries (modules (seen b)) m).awaits)
      (λ b m. has_begun nat_eq (engine b) m)

  -- what bodies read and write
  abbrev pub state_in : Outside B → State ℕ Seen
  state_in o = record {
    engine = engine o.bodies;
    cells = cells o.bodies;
    outer = record { promises = o.promises; errors = errors o.bodies; imports = seen o.bodies };
  }

  -- a call for a body
  abbrev pub ActsById : Outside B → (c : Call ℕ) → Result (CallAnswer (Value ℕ) c) Limit → Outside B → Type 0
  ActsById o (Start m done) r v = StartsBody nat_eq modules BeginsById (state_in o) m done r (state_in v)
  ActsById o (Run m) r v = RunsBody nat_eq modules BeginsById (state_in o) m r (state_in v)

  -- these are the URLs of the records
  abbrev pub HasUrls : List Url → EvalHost B → Type 0
  HasUrls urls w = (seen w.bodies).urls ≡ urls

  -- as long as these are the URLs of the records, evaluating a module by ids, and what follows the end of a body, are so in the world,
  -- where each call is one for a body
  abbrev pub EvaluationIsOfTheWorld : CodeCalls (Outside B) Limit → Type 0
  EvaluationIsOfTheWorld acts = (entry : EntryHeld) (linked urls : List Url)
      → ((o v : Outside B) (c : Call ℕ) (r : Result (CallAnswer (Value ℕ) c) Limit) → acts o c r v → ActsById o c r v)
      → IsLawful by_ids → IsSteady by_ids (host.calls acts) → BeginsOne by_ids (host.calls acts)
      → EvaluationFollows (numbering urls) (value_by urls) (HasUrls urls) by_ids layers.evaluation (world_in entry linked)
      (IsLinkedNumber urls linked) (host.calls acts) layers.CallsForBody
