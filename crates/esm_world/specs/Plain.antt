-- Bodies that run in the order in which a walk leaves them: what evaluation is where no module awaits. own
use Rattle.std.specs.Prelude.{◌≡◌, false, List, [], ◌∷◌, slice_get, Some, None, Ok, Err}
use Rattle.esm_base.specs.declared.limits.Limit.{Limit}
use Rattle.esm_base.specs.Urls.{Url, same_url}
use Rattle.esm_realm.specs.Walk.{Mark, Enter, Pass, Leave, leaves}
use Rattle.esm_realm.specs.Components.{opened_after}
use Rattle.esm_values.specs.Value.{Value}
use Rattle.esm_values.specs.Ran.Ran.{Normal, Thrown}
use Rattle.esm_env.specs.Modules.{entries}
use Rattle.esm_loads.specs.Loading.{Loading}
use Rattle.esm_loads.specs.ImportCall.{BeginsImport}
use Rattle.esm_eval.specs.Evaluate.{WalkEnd, Ends, Throws, Stops, Marks}
use Rattle.esm_rewriting.specs.State.{State}
use Rattle.esm_rewriting.specs.Bodies.{RunsBody}
use Rattle.esm_world.specs.World.{World, modules_in, body_state}
use Rattle.esm_world.specs.Layers.{CallsForBody, evaluation}

-- x doesn't await
abbrev pub IsPlainModule : State Url Loading → Url → Type 0
IsPlainModule s x = (entries (modules_in s.outer.imports) x).awaits ≡ false

-- the bodies of these modules, none of which awaits, run in this order, up to the first that throws or is stopped
pub data RunInOrder : State Url Loading → List Url → WalkEnd (Value Url) Limit → State Url Loading → Type 0 where
  done : {s : State Url Loading} → RunInOrder s [] Ends s
  next : {s mid after : State Url Loading} {x : Url} {xs : List Url} {end : WalkEnd (Value Url) Limit} → IsPlainModule s x
      → RunsBody same_url modules_in BeginsImport s x (Ok Normal) mid → RunInOrder mid xs end after
      → RunInOrder s (x ∷ xs) end after
  throws : {s after : State Url Loading} {x : Url} {xs : List Url} (v : Value Url) → IsPlainModule s x
      → RunsBody same_url modules_in BeginsImport s x (Ok (Thrown v)) after → RunInOrder s (x ∷ xs) (Throws v) after
  stops : {s after : State Url Loading} {x : Url} {xs : List Url} (why : Limit) → IsPlainModule s x
      → RunsBody same_url modules_in BeginsImport s x (Err why) after → RunInOrder s (x ∷ xs) (Stops why) after

-- nothing has thrown, and nothing waits
pub record IsPlain (w : World) : Type 0 where
  pub no_error : (u : Url) → (w.nodes u).error ≡ None
  pub no_waits : (u : Url) → (w.nodes u).waits ≡ []
  pub no_stamps : w.stamps ≡ []

-- each passed request has its target
abbrev pub HaveTargets : (Url → List Url) → List (Mark Url) → Type 0
HaveTargets to [] = Unit {0}
HaveTargets to (Enter x ∷ ms) = HaveTargets to ms
HaveTargets to (Pass x i ∷ ms) = (t : Url) × (slice_get (to x) i ≡ Some t) × HaveTargets to ms
HaveTargets to (Leave x ∷ ms) = HaveTargets to ms

-- a world to which the marks lead, with that state
pub record LeadsTo (to : Url → List Url) (w : World) (opened : List Url) (ms : List (Mark Url)) (end : WalkEnd (Value Url) Limit)
    (s : State Url Loading) : Type 0 where
  pub after : World
  pub marks : Marks evaluation CallsForBody to w opened ms end after
  pub state : body_state after ≡ s

-- where nothing waits, the marks of a walk whose components all close run the bodies in the order in which it leaves them
abbrev pub PlainEvaluation : Type 0
PlainEvaluation = (to : Url → List Url) (ms : List (Mark Url)) (w : World) (opened : List Url) (end : WalkEnd (Value Url) Limit)
    (s : State Url Loading) → IsPlain w → HaveTargets to ms → opened_after same_url to opened ms ≡ []
    → RunInOrder (body_state w) (leaves ms) end s → LeadsTo to w opened ms end s
