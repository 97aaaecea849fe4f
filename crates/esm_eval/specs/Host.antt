-- What evaluation reads and writes where nodes are kept in a table, beside promises and the bodies of modules.
use Rattle.std.specs.Prelude.{◌≡◌, ◌<◌, ◌⊎◌, ℕ, Bool, true, nat_eq, List, [], ◌∷◌, All, Result, Ok, Err}
use Rattle.esm_values.specs.Value as value
use Rattle.esm_values.specs.Code.{CodeValue, ran_of}
use Rattle.esm_values.specs.declared.value.Ran.{Ran}
use Rattle.esm_promise.specs.Promises as promise
use Rattle.esm_promise.specs.Reactions as reaction
use Rattle.esm_promise.specs.Code.{Numbered}
use Rattle.esm_eval.specs.Nodes.{Call, CallAnswer, Start, Run, module_of, was_entered}
use Rattle.esm_eval.specs.Keeping.{IsNodeOf}
use Rattle.esm_eval.specs.Table.{node_at, size, with_node, with_stamp}
use Rattle.esm_eval.specs.Calls.{CodeEvaluation, CodeCalls}
use Rattle.esm_eval.specs.declared.walk.EvalEnd.{EvalEnd}
use Rattle.esm_eval.specs.declared.walk.EvalEnd.TheVariants as ends
use Rattle.esm_eval.specs.declared.host.EvalHost.{EvalHost}

-- ---- bodies

-- what a call for a body reads and writes: the promises, and all else
pub record Outside (B : Type 0) : Type 0 where
  pub promises : Numbered
  pub bodies : B

abbrev pub outside_with : {B : Type 0} → Numbered → B → Outside B
outside_with promises bodies = record { promises = promises; bodies = bodies }

module _ {B S : Type 0} (acts : CodeCalls (Outside B) S) where
  -- a call for a body that awaits, where its end settles this promise. Where memory ran out nothing is said
  abbrev pub StartsAs : Outside B → ℕ → ℕ → Result (Unit {0}) (EvalEnd S) → Outside B → Type 0
  StartsAs w m end (Ok u) v = acts w (Start m end) (Ok tt) v
  StartsAs w m end (Err (ends.Stopped why)) v = acts w (Start m end) (Err why) v
  StartsAs w m end (Err ends.Memory) v = Unit {0}

  -- a call for any other
  abbrev pub RunsAs : Outside B → ℕ → Result Ran (EvalEnd S) → Outside B → Type 0
  RunsAs w m (Ok ran) v = acts w (Run m) (Ok (ran_of ran)) v
  RunsAs w m (Err (ends.Stopped why)) v = acts w (Run m) (Err why) v
  RunsAs w m (Err ends.Memory) v = Unit {0}

  -- a call that isn't stopped begins its body; no call begins another, and what has begun stays so
  pub record BeginsItsOwn (begun : B → ℕ → Bool) : Type 0 where
    pub stays : (w v : Outside B) (c : Call ℕ) (r : Result (CallAnswer CodeValue c) S) → acts w c r v
        → (x : ℕ) → begun w.bodies x ≡ true → begun v.bodies x ≡ true
    pub starts : (w v : Outside B) (c : Call ℕ) (r : CallAnswer CodeValue c) → acts w c (Ok r) v
        → begun v.bodies (module_of c) ≡ true
    pub one : (w v : Outside B) (c : Call ℕ) (r : Result (CallAnswer CodeValue c) S) → acts w c r v
        → (x : ℕ) → begun v.bodies x ≡ true → (begun w.bodies x ≡ true) ⊎ (x ≡ module_of c)

  -- what a call leaves of modules and values: the same ones are linked, with the same targets, and what was known is known
  pub record LeavesModules (linked : B → ℕ → Bool) (targets : B → ℕ → List ℕ) (awaits : B → ℕ → Bool) (knows : B → CodeValue → Type 0)
      : Type 0 where
    pub links : (w v : Outside B) (c : Call ℕ) (r : Result (CallAnswer CodeValue c) S) → acts w c r v
        → (x : ℕ) → linked v.bodies x ≡ linked w.bodies x
    pub leads : (w v : Outside B) (c : Call ℕ) (r : Result (CallAnswer CodeValue c) S) → acts w c r v
        → (x : ℕ) → linked w.bodies x ≡ true → targets v.bodies x ≡ targets w.bodies x
    pub waits : (w v : Outside B) (c : Call ℕ) (r : Result (CallAnswer CodeValue c) S) → acts w c r v
        → (x : ℕ) → awaits v.bodies x ≡ awaits w.bodies x
    pub still : (w v : Outside B) (c : Call ℕ) (r : Result (CallAnswer CodeValue c) S) → acts w c r v
        → (u : CodeValue) → knows w.bodies u → knows v.bodies u

-- what evaluation does to promises leaves what fits: it makes them, for the end of the body of a linked module too, and settles
-- them with what is known
pub record StaysFit {B : Type 0} (fits : Outside B → Type 0) (linked : B → ℕ → Bool) (knows : B → CodeValue → Type 0) : Type 0 where
  pub makes : (w : Outside B) → fits w → fits (record w { promises = promise.make w.promises [] })
  pub makes_end : (w : Outside B) (m : ℕ) → fits w → linked w.bodies m ≡ true
      → fits (record w { promises = promise.make w.promises (reaction.BodyEnd m ∷ []) })
  pub fulfills : (w : Outside B) (p : ℕ) → fits w
      → fits (record w { promises = promise.settle w.promises p (promise.Fulfilled value.Undefined) })
  pub rejects : (w : Outside B) (p : ℕ) (v : CodeValue) → fits w → knows w.bodies v
      → fits (record w { promises = promise.settle w.promises p (promise.Rejected v) })

-- ---- nodes, promises and bodies

abbrev pub outside : {B : Type 0} → EvalHost B → Outside B
outside w = outside_with w.promises w.bodies

-- what evaluation reads and writes: modules and which bodies have begun are told by the bodies
abbrev pub evaluation : {B : Type 0} → (B → ℕ → List ℕ) → (B → ℕ → Bool) → (B → ℕ → Bool) → CodeEvaluation (EvalHost B)
evaluation targets awaits begun = record {
  same = nat_eq;
  targets = λ w. targets w.bodies;
  awaits = λ w. awaits w.bodies;
  node = λ w. node_at w.nodes;
  put = λ w x n. record w { nodes = with_node w.nodes x n };
  stamps = λ w. w.nodes.stamps;
  add_stamp = λ w x. record w { nodes = with_stamp w.nodes x };
  begun = λ w. begun w.bodies;
  next_promise = λ w. promise.next_promise w.promises;
  make_promise = λ w. record w { promises = promise.make w.promises [] };
  make_body_promise = λ w m. record w { promises = promise.make w.promises (reaction.BodyEnd m ∷ []) };
  fulfill = λ w p. record w { promises = promise.settle w.promises p (promise.Fulfilled value.Undefined) };
  reject = λ w p v. record w { promises = promise.settle w.promises p (promise.Rejected v) };
}

-- a call for a body doesn't reach what evaluation keeps of modules
abbrev pub calls : {B S : Type 0} → CodeCalls (Outside B) S → CodeCalls (EvalHost B) S
calls acts w c r v = (v.nodes ≡ w.nodes) × acts (outside w) c r (outside v)

abbrev pub knows_in : {B : Type 0} → (B → CodeValue → Type 0) → EvalHost B → CodeValue → Type 0
knows_in knows w = knows w.bodies

-- what lies outside fits, each linked module has a node, what evaluation has entered is linked, and nodes and stamps are of linked
-- modules and known errors
pub record HostFits {B : Type 0} (fits : Outside B → Type 0) (linked : B → ℕ → Bool) (knows : B → CodeValue → Type 0) (w : EvalHost B)
    : Type 0 where
  pub outside_fits : fits (outside w)
  pub have : (x : ℕ) → linked w.bodies x ≡ true → x < size w.nodes
  pub entered : (x : ℕ) → was_entered (node_at w.nodes x).phase ≡ true → linked w.bodies x ≡ true
  pub nodes_fit : (x : ℕ) → IsNodeOf (λ y. linked w.bodies y ≡ true) (knows w.bodies) (node_at w.nodes x)
  pub stamps_fit : All (λ y. linked w.bodies y ≡ true) w.nodes.stamps

-- from b to c the same modules are linked, with the same targets, and what was known is known
pub record LeavesBodies {B : Type 0} (linked : B → ℕ → Bool) (targets : B → ℕ → List ℕ) (knows : B → CodeValue → Type 0) (b c : B)
    : Type 0 where
  pub links : (x : ℕ) → linked c x ≡ linked b x
  pub leads : (x : ℕ) → linked b x ≡ true → targets c x ≡ targets b x
  pub still : (u : CodeValue) → knows b u → knows c u
