-- What evaluation reads and writes of a world W: any kind of record that has these parts.
use Rattle.std.specs.Prelude.{◌≡◌, ℕ, Bool, true, false, List, [], ◌∷◌, ◌++◌, if◌then◌else◌, Option, Some, None, Result, Ok}
use Rattle.std.specs.Option.{unwrap_or, option_or}
use Rattle.esm_base.specs.Lists.{IsSameness, is_in}
use Rattle.esm_eval.specs.Nodes.{Phase, Evaluating, was_entered, Node, Call, CallAnswer, BodyCalls, module_of}

pub record Evaluation (N V W : Type 0) : Type 0 where
  -- two names are the same
  pub same : N → N → Bool
  -- the modules of its requests, in order. [[LoadedModules]]
  pub targets : W → N → List N
  -- [[HasTLA]]
  pub awaits : W → N → Bool
  pub node : W → N → Node N V
  pub put : W → N → Node N V → W
  -- the stamps: the modules with an [[AsyncEvaluationOrder]], in that order. It is never taken back
  pub stamps : W → List N
  -- IncrementModuleAsyncEvaluationCount: the module has the next order
  pub add_stamp : W → N → W
  -- the body of the module has begun
  pub begun : W → N → Bool
  -- the id of the promise that is made next
  pub next_promise : W → ℕ
  -- NewPromiseCapability
  pub make_promise : W → W
  -- the same, with the reactions of ExecuteAsyncModule to the end of the module's body
  pub make_body_promise : W → N → W
  -- the promise is fulfilled with undefined
  pub fulfill : W → ℕ → W
  pub reject : W → ℕ → V → W

module _ {N V W : Type 0} (E : Evaluation N V W) where
  abbrev pub phase : W → N → Phase
  phase w x = (E.node w x).phase

  abbrev pub waits : W → N → List N
  waits w x = (E.node w x).waits

  abbrev pub waiters : W → N → List N
  waiters w x = (E.node w x).waiters

  abbrev pub is_done : W → N → Bool
  is_done w x = (E.node w x).done

  abbrev pub is_stamped : W → N → Bool
  is_stamped w x = is_in E.same (E.stamps w) x

  -- [[CycleRoot]] of x. own: x itself where there is none, which a throw in a cycle leaves so
  abbrev pub root_of : W → N → N
  root_of w x = unwrap_or (E.node w x).cycle_root x

  -- the error of x, or else that of its cycle root
  abbrev pub error_of : W → N → Option V
  error_of w x = option_or (E.node w x).error (E.node w (root_of w x)).error

  abbrev pub fulfill_kept : W → Option ℕ → W
  fulfill_kept w None = w
  fulfill_kept w (Some p) = E.fulfill w p

  abbrev pub reject_kept : W → Option ℕ → V → W
  reject_kept w None v = w
  reject_kept w (Some p) v = E.reject w p v

  abbrev pub wait_by : N → N → Phase → Bool → Bool → Bool → Option N
  wait_by t root Evaluating true root_stamped root_done = Some t
  wait_by t root Evaluating false root_stamped root_done = None
  wait_by t root other stamped true false = Some root
  wait_by t root other stamped _ _ = None

  -- the module that a request of t makes wait for, if there is one. ECMA-262, InnerModuleEvaluation: where t is still evaluating it is
  -- of the same component, and the wait is t itself if it has an order; else it is its cycle root, if that has an order that isn't done
  abbrev pub wait_on : W → N → Option N
  wait_on w t = wait_by t (root_of w t) (phase w t) (is_stamped w t) (is_stamped w (root_of w t)) (is_done w (root_of w t))

  abbrev pub put_wait : W → N → N → W
  put_wait w x y = E.put w x (record (E.node w x) { waits = waits w x ++ y ∷ [] })

  abbrev pub put_waiter : W → N → N → W
  put_waiter w x y = E.put w y (record (E.node w y) { waiters = waiters w y ++ x ∷ [] })

  -- x waits for y: the count of the one rises, and the other's list of parents gets x
  abbrev pub add_wait : W → N → Option N → W
  add_wait w x None = w
  add_wait w x (Some y) = put_waiter (put_wait w x y) x y

  -- evaluation has come as far in v as in w: the same was written of modules, and the same bodies have begun
  pub record IsAsFar (w v : W) : Type 0 where
    pub nodes : (x : N) → E.node v x ≡ E.node w x
    pub stamps : E.stamps v ≡ E.stamps w
    pub begun : (x : N) → E.begun v x ≡ E.begun w x

  -- and whether modules await is as it was
  pub record IsAlike (w v : W) : Type 0 where
    pub far : IsAsFar w v
    pub awaits : (x : N) → E.awaits v x ≡ E.awaits w x

  pub record IsPut (w : W) (x : N) (n : Node N V) (v : W) : Type 0 where
    pub node : (y : N) → E.node v y ≡ if E.same x y then n else E.node w y
    pub stamps : E.stamps v ≡ E.stamps w
    pub begun : (y : N) → E.begun v y ≡ E.begun w y
    pub awaits : (y : N) → E.awaits v y ≡ E.awaits w y

  pub record IsStamped (w : W) (x : N) (v : W) : Type 0 where
    pub nodes : (y : N) → E.node v y ≡ E.node w y
    pub stamps : E.stamps v ≡ E.stamps w ++ x ∷ []
    pub begun : (y : N) → E.begun v y ≡ E.begun w y
    pub awaits : (y : N) → E.awaits v y ≡ E.awaits w y

  -- a part that is read is what was written last, and a write changes no other part
  pub record IsLawful : Type 0 where
    pub names : IsSameness E.same
    pub put : (w : W) (x : N) (n : Node N V) → IsPut w x n (E.put w x n)
    pub add_stamp : (w : W) (x : N) → IsStamped w x (E.add_stamp w x)
    pub make_promise : (w : W) → IsAlike w (E.make_promise w)
    pub make_body_promise : (w : W) (x : N) → IsAlike w (E.make_body_promise w x)
    pub fulfill : (w : W) (p : ℕ) → IsAlike w (E.fulfill w p)
    pub reject : (w : W) (p : ℕ) (v : V) → IsAlike w (E.reject w p v)

  pub record IsSteadyCall (w : W) (m : N) (v : W) : Type 0 where
    pub nodes : (x : N) → E.node v x ≡ E.node w x
    pub stamps : E.stamps v ≡ E.stamps w
    pub begun : (x : N) → E.begun w x ≡ true → E.begun v x ≡ true
    pub awaits : (x : N) → was_entered (phase w x) ≡ true → E.awaits v x ≡ E.awaits w x

  module _ {S : Type 0} (acts : BodyCalls N V W S) where
    -- a call for a body has at most one outcome
    pub record HasOneOutcome : Type 0 where
      pub one : {w x y : W} {c : Call N} {r s : Result (CallAnswer V c) S} → acts w c r x → acts w c s y → (s ≡ r) × (y ≡ x)

    -- a call for a body that isn't stopped begins it. No call writes what evaluation writes; it may load modules, which no evaluation
    -- has entered
    pub record IsSteady : Type 0 where
      pub call : (w v : W) (c : Call N) (r : Result (CallAnswer V c) S) → acts w c r v → IsSteadyCall w (module_of c) v
      pub starts : (w v : W) (c : Call N) (r : CallAnswer V c) → acts w c (Ok r) v → E.begun v (module_of c) ≡ true
