-- What contracts of private functions see of the parts of a machine, and what holds of them between two steps.
use Rattle.std.specs.Prelude.{◌≡◌, ℕ, nat_eq, nat_lt, Bool, true, false, List, length, None}
use Rattle.esm_base.specs.Urls.{Url}
use Rattle.esm_values.specs.Value.{Value}
use Rattle.esm_values.specs.Errors.{Errors, make_error}
use Rattle.esm_values.specs.Code.{CodeValue}
use Rattle.esm_values.specs.Naming.{renamed_value}
use Rattle.esm_promise.specs.Code.{Numbered}
use Rattle.esm_promise.specs.Promises.{Settled}
use Rattle.esm_promise.specs.Reactions.{Reaction}
use Rattle.esm_promise.specs.Renaming.{renamed_reaction, renamed_settled}
use Rattle.esm_env.specs.Modules.{entries}
use Rattle.esm_link.specs.Faults.{FaultAt, link_error}
use Rattle.esm_link.specs.Link.{targets}
use Rattle.esm_eval.specs.Begins.{HaveBegunOnce}
use Rattle.esm_eval.specs.Calls.{CodeEvaluation, CodeCalls}
use Rattle.esm_eval.specs.Host.{Outside}
use Rattle.esm_eval.specs.Table.{Table, size, with_one}
use Rattle.esm_eval.specs.declared.host.EvalHost.{EvalHost}
use Rattle.esm_base.specs.declared.limits.Limit.{Limit}
use Rattle.esm_body.specs.Engines.{TakesBodies, AreStanding}
use Rattle.esm_rewriting.specs.Fits.{IsKnown}
use Rattle.esm_rewriting.specs.State.{has_begun}
use Rattle.esm_world.specs.World.{World}
use Rattle.esm_world.specs.Sound.{TakesCalls, IsSound, MayReact}
use Rattle.esm_machine.specs.Seen.{Seen, HaveIds, names, modules, linked, Fits, BeginsById}
use Rattle.esm_machine.specs.Evaluating.{by_ids, ActsById}
use Rattle.esm_machine.specs.Machine.{cells_by, engine_by, errors_by, held_of, scopes_by, seen_by}
use Rattle.esm_machine.specs.ModuleStore.{is_whole}
use Rattle.esm_machine.specs.Represents.{IsLive}
use Rattle.esm_machine.specs.SeenScopes.{AreScopesIn}
use Rattle.esm_machine.specs.declared.host.BodyHost.{BodyHost}
use Rattle.esm_machine.specs.declared.parts.Parts.{Parts}

-- ---- the host of bodies

abbrev pub linked_by : BodyHost → ℕ → Bool
linked_by b m = linked (seen_by b) m

abbrev pub targets_by : BodyHost → ℕ → List ℕ
targets_by b m = targets (modules (seen_by b)) m

abbrev pub awaits_by : BodyHost → ℕ → Bool
awaits_by b m = (entries (modules (seen_by b)) m).awaits

abbrev pub begun_by : BodyHost → ℕ → Bool
begun_by b m = has_begun nat_eq (engine_by b) m

abbrev pub KnowsBy : BodyHost → CodeValue → Type 0
KnowsBy b v = IsKnown (modules (seen_by b)) (linked (seen_by b)) v

-- what a call for a body needs: nothing was refused, no limit has stopped the engine, it takes bodies, and only what is loaded has a scope
pub record FitsBodies (o : Outside BodyHost) : Type 0 where
  pub whole : is_whole o.bodies.imports.condition ≡ true
  pub live : (engine_by o.bodies).stopped ≡ None
  pub ready : TakesBodies modules linked Fits BeginsById o.bodies.engine (scopes_by o.bodies) o.promises o.bodies.errors (seen_by o.bodies)
  pub scopes : AreScopesIn (seen_by o.bodies) (scopes_by o.bodies)

-- what a call for a body does
abbrev pub CallsBodies : CodeCalls (Outside BodyHost) Limit
CallsBodies = ActsById seen_by errors_by cells_by engine_by

-- what evaluation reads and writes
abbrev pub ByIds : CodeEvaluation (EvalHost BodyHost)
ByIds = by_ids seen_by errors_by cells_by engine_by

-- ---- the parts of a machine

abbrev pub seen_in : Parts → Seen
seen_in p = seen_by p.host.bodies

-- the parts are in the state of the world, which no limit has stopped
abbrev pub AreLive : Parts → World → Type 0
AreLive p w = IsLive (held_of p) w

-- by the URLs of modules

abbrev pub url_in : Parts → ℕ → Url
url_in p m = (names (seen_in p)).name m

abbrev pub value_in : Parts → Value ℕ → Value Url
value_in p v = renamed_value (url_in p) v

abbrev pub reaction_in : Parts → Reaction ℕ → Reaction Url
reaction_in p r = renamed_reaction (url_in p) r

abbrev pub settled_in : Parts → Settled (Value ℕ) → Settled (Value Url)
settled_in p how = renamed_settled (url_in p) how

-- ---- with other parts

abbrev pub parts_with_promises : Parts → Numbered → Parts
parts_with_promises p ps = record p { host = record p.host { promises = ps } }

abbrev pub parts_with_errors : Parts → Errors → Parts
parts_with_errors p es = record p { host = record p.host { bodies = record p.host.bodies { errors = es } } }

-- the SyntaxError of a link fault was made
abbrev pub with_fault : Parts → FaultAt ℕ → Parts
with_fault p f = parts_with_errors p (make_error p.host.bodies.errors (link_error (modules (seen_in p)) f))

abbrev pub nodes_behind : Bool → Table → Table
nodes_behind true t = with_one t
nodes_behind false t = t

-- one node more, if there are more records than there were
abbrev pub with_node_behind : ℕ → Parts → Parts
with_node_behind had p = record p { host = record p.host { nodes = nodes_behind (nat_lt had (length (seen_in p).urls)) p.host.nodes } }

-- ---- between two steps

-- what the world doesn't tell: nothing was refused, each record has a node, scopes are those of the modules, bodies at their awaits are
-- of their modules' trees, and evaluation is between two calls
pub record AreInOrder (p : Parts) : Type 0 where
  pub whole : is_whole p.host.bodies.imports.condition ≡ true
  pub nodes : size p.host.nodes ≡ length (seen_in p).urls
  pub ids : HaveIds (seen_in p).urls (seen_in p).linked
  pub scopes : AreScopesIn (seen_in p) (scopes_by p.host.bodies)
  pub standing : AreStanding modules (seen_in p) p.host.bodies.engine.standing.items
  pub between : HaveBegunOnce ByIds p.host

-- linking, evaluation and bodies can be called
pub record TakeCalls (p : Parts) : Type 0 where
  pub world : World
  pub live : AreLive p world
  pub ready : TakesCalls world
  pub order : AreInOrder p

-- a job can be taken, and a pending request answered
pub record AreSound (p : Parts) : Type 0 where
  pub world : World
  pub live : AreLive p world
  pub sound : IsSound world
  pub order : AreInOrder p

-- the job of this reaction can be done, whose promise was settled so
pub record MayDo (p : Parts) (r : Reaction ℕ) (how : Settled (Value ℕ)) : Type 0 where
  pub world : World
  pub live : AreLive p world
  pub may : MayReact world (reaction_in p r) (settled_in p how)
  pub order : AreInOrder p
