-- Calls for bodies, as steps of evaluation over nodes, promises and bodies.
use Rattle.std.proofs.Common.{◌≡◌, ℕ, Bool, true, List, [], ◌∷◌, ◌++◌, length, Option, Some, None, Result, Ok, Err, refl, ap, subst, sym, slice_get}
use Rattle.std.specs.Prelude.{OnOk}
use Rattle.esm_values.specs.Code.{CodeValue, value_of}
use Rattle.esm_values.specs.declared.value.Ran.{Ran}
use Rattle.esm_values.specs.declared.value.Ran.TheVariants as r
use Rattle.esm_promise.specs.Code.{Numbered}
use Rattle.esm_promise.specs.Promises as promise
use Rattle.esm_promise.specs.Reactions as reaction
use Rattle.esm_eval.specs.Nodes.{Call, CallAnswer, Evaluated, Start, Run}
use Rattle.esm_eval.specs.Evaluation.{waits, fulfill_kept, reject_kept}
use Rattle.esm_eval.specs.Evaluate.{Executes, ExecutesAsync, Leaves}
use Rattle.esm_eval.specs.BodyEnd.{finish, refuse}
use Rattle.esm_eval.specs.Calls.{CodeEvaluation, CodeCalls, numbered}
use Rattle.esm_eval.specs.Host.{Outside, HostFits, LeavesBodies, LeavesModules, StaysFit, StartsAs, RunsAs, calls, evaluation, knows_in, outside, outside_with}
use Rattle.esm_eval.specs.EndSteps.{Begins, RanKnown, RunFits, Runs, Stays}
use Rattle.esm_eval.specs.Inner.Visit.{LeavesAsync}
use Rattle.esm_eval.specs.WalkSteps.{Keeps}
use Rattle.esm_eval.specs.declared.host.EvalHost.{EvalHost}
use Rattle.esm_eval.specs.declared.walk.EvalEnd.{EvalEnd}
use Rattle.esm_eval.specs.declared.walk.EvalEnd.TheVariants as ends
use Rattle.esm_eval.proofs.Inner.HostSteps as steps

last : {X : Type 0} (xs : List X) (x : X) → slice_get (xs ++ x ∷ []) (length xs) ≡ Some x
last [] x = refl
last (y ∷ ys) x = last ys x

-- a promise that was just made is pending
pub just_made : (ps qs : Numbered) (rs : List (reaction.Reaction ℕ)) (p : ℕ) → qs ≡ promise.make ps rs → p ≡ promise.next_promise ps → promise.is_pending qs p ≡ true
just_made ps qs rs p e n =
    subst (λ q. promise.is_pending q p ≡ true) (sym e) (subst (λ k. promise.is_pending (promise.make ps rs) k ≡ true) (sym n) (ap promise.is_pending_by (last ps.all (promise.Pending rs))))

module _ {B S : Type 0} (targets : B → ℕ → List ℕ) (awaits begun : B → ℕ → Bool) (linked : B → ℕ → Bool) (knows : B → CodeValue → Type 0) (acts : CodeCalls (Outside B) S) where
  abbrev E : CodeEvaluation (EvalHost B)
  E = evaluation targets awaits begun

  pub begins_by : (w v : EvalHost B) (x end : ℕ) (ps : Numbered) → end ≡ promise.next_promise w.promises → ps ≡ promise.make w.promises (reaction.BodyEnd x ∷ []) → v.nodes ≡ w.nodes
      → (res : Result (Unit {0}) (EvalEnd S)) → StartsAs acts (outside_with ps w.bodies) x end res (outside v) → Begins E (calls acts) w x res v
  begins_by w v x end ps n m k (Ok u) s =
      ExecutesAsync.starts (k, subst (λ q. acts (outside_with q w.bodies) (Start x (promise.next_promise w.promises)) (Ok tt) (outside v)) m (subst (λ p. acts (outside_with ps w.bodies) (Start x p) (Ok tt) (outside v)) n s))
  begins_by w v x end ps n m k (Err (ends.Stopped why)) s =
      ExecutesAsync.stops why (k, subst (λ q. acts (outside_with q w.bodies) (Start x (promise.next_promise w.promises)) (Err why) (outside v)) m (subst (λ p. acts (outside_with ps w.bodies) (Start x p) (Err why) (outside v)) n s))
  begins_by w v x end ps n m k (Err ends.Memory) s = tt

  pub runs_by : (w v : EvalHost B) (x : ℕ) → v.nodes ≡ w.nodes → (res : Result Ran (EvalEnd S)) → RunsAs acts (outside w) x res (outside v) → Runs E (calls acts) w x res v
  runs_by w v x k (Ok r.Normal) s = Executes.ends (k, s)
  runs_by w v x k (Ok (r.Thrown e)) s = Executes.throws (value_of e) (k, s)
  runs_by w v x k (Err (ends.Stopped why)) s = Executes.stops why (k, s)
  runs_by w v x k (Err ends.Memory) s = tt

  -- x, which waits for nothing and awaits, is left
  pub leaves_async : (w v : EvalHost B) (x : ℕ) → waits E w x ≡ [] → awaits w.bodies x ≡ true → (left : EvalHost B → ℕ)
      → (res : Result (Unit {0}) (EvalEnd S)) → Begins E (calls acts) (E.add_stamp w x) x res v → OnOk res (Keeps E (λ u. linked u.bodies) left w v)
      → LeavesAsync E (λ u. linked u.bodies) left (calls acts) w x res v
  leaves_async w v x n a left (Ok u) b k = (Leaves.starts n a b, k)
  leaves_async w v x n a left (Err (ends.Stopped why)) b k = Leaves.starts n a b
  leaves_async w v x n a left (Err ends.Memory) b k = tt

  module _ (modules : LeavesModules acts linked targets awaits knows) where
    left_by : (o p : Outside B) (c : Call ℕ) (res : Result (CallAnswer CodeValue c) S) → acts o c res p → LeavesBodies linked targets knows o.bodies p.bodies
    left_by o p c res a = record { links = modules.links o p c res a; leads = modules.leads o p c res a; still = modules.still o p c res a }

    pub started_bodies : (o p : Outside B) (x end : ℕ) (res : Result (Unit {0}) (EvalEnd S)) → StartsAs acts o x end res p → OnOk res (LeavesBodies linked targets knows o.bodies p.bodies)
    started_bodies o p x end (Ok u) s = left_by o p (Start x end) (Ok tt) s
    started_bodies o p x end (Err why) s = tt

    pub ran_bodies : (o p : Outside B) (x : ℕ) (res : Result Ran (EvalEnd S)) → RunsAs acts o x res p → OnOk res (LeavesBodies linked targets knows o.bodies p.bodies)
    ran_bodies o p x (Ok ran) s = left_by o p (Run x) _ s
    ran_bodies o p x (Err why) s = tt

  module _ (fits : Outside B → Type 0) where
    abbrev Fits : EvalHost B → Type 0
    Fits w = HostFits fits linked knows w

    pub start_fits : (w v : EvalHost B) → Fits w → v.nodes ≡ w.nodes → (res : Result (Unit {0}) (EvalEnd S)) → OnOk res (LeavesBodies linked targets knows w.bodies v.bodies) → OnOk res (fits (outside v)) → OnOk res (Fits v)
    start_fits w v f n (Ok u) l o = steps.fits_like targets awaits begun linked knows fits w v f n l o
    start_fits w v f n (Err why) l o = tt

    ran_known : (v : EvalHost B) (ran : Ran) → RanKnown (λ (o : Outside B). knows o.bodies) ran (outside v) → RanKnown (knows_in knows) ran v
    ran_known v r.Normal k = k
    ran_known v (r.Thrown e) k = k

    pub run_fits : (w v : EvalHost B) → Fits w → v.nodes ≡ w.nodes → (res : Result Ran (EvalEnd S)) → OnOk res (LeavesBodies linked targets knows w.bodies v.bodies)
        → RunFits fits (λ (o : Outside B). knows o.bodies) res (outside v) → RunFits (HostFits fits linked knows) (knows_in knows) res v
    run_fits w v f n (Ok ran) l o = (steps.fits_like targets awaits begun linked knows fits w v f n l o.0, ran_known v ran o.1)
    run_fits w v f n (Err why) l o = tt

    pub stays_by : (w v : EvalHost B) → LeavesBodies linked targets knows w.bodies v.bodies → Stays (λ u. linked u.bodies) (knows_in knows) w v
    stays_by w v l = record { link = l.links; know = l.still }

    pub stays_ok : {X Y : Type 0} (w v : EvalHost B) (res : Result X Y) → OnOk res (LeavesBodies linked targets knows w.bodies v.bodies) → OnOk res (Stays (λ u. linked u.bodies) (knows_in knows) w v)
    stays_ok w v (Ok x) l = stays_by w v l
    stays_ok w v (Err y) l = tt

    module _ (stays : StaysFit fits linked knows) where
      -- promises that evaluation makes and settles
      pub fits_make : (w : EvalHost B) → Fits w → Fits (E.make_promise w)
      fits_make w f = steps.fits_like targets awaits begun linked knows fits w (E.make_promise w) f refl (steps.same_bodies targets awaits begun linked knows w.bodies) (stays.makes (outside w) f.outside_fits)

      pub fits_fulfill : (w : EvalHost B) (p : ℕ) → Fits w → Fits (E.fulfill w p)
      fits_fulfill w p f = steps.fits_like targets awaits begun linked knows fits w (E.fulfill w p) f refl (steps.same_bodies targets awaits begun linked knows w.bodies) (stays.fulfills (outside w) p f.outside_fits)

      pub fits_reject : (w : EvalHost B) (p : ℕ) (v : CodeValue) → Fits w → knows w.bodies v → Fits (E.reject w p v)
      fits_reject w p v f k = steps.fits_like targets awaits begun linked knows fits w (E.reject w p v) f refl (steps.same_bodies targets awaits begun linked knows w.bodies) (stays.rejects (outside w) p v f.outside_fits k)

      pub fits_fulfill_kept : (w : EvalHost B) (p : Option ℕ) → Fits w → Fits (fulfill_kept E w p)
      fits_fulfill_kept w None f = f
      fits_fulfill_kept w (Some p) f = fits_fulfill w p f

      pub fits_reject_kept : (w : EvalHost B) (p : Option ℕ) (v : CodeValue) → Fits w → knows w.bodies v → Fits (reject_kept E w p v)
      fits_reject_kept w None v f k = f
      fits_reject_kept w (Some p) v f k = fits_reject w p v f k

      pub fits_finish : (w : EvalHost B) (x : ℕ) → Fits w → linked w.bodies x ≡ true → Fits (finish (numbered E) w x)
      fits_finish w x f l = fits_fulfill_kept _ (E.node w x).promise (steps.fits_plain targets awaits begun linked knows fits w x (record (E.node w x) { phase = Evaluated; done = true }) f l refl refl refl refl)

      pub fits_refuse : (w : EvalHost B) (x : ℕ) (v : CodeValue) → Fits w → linked w.bodies x ≡ true → knows w.bodies v → Fits (refuse (numbered E) w x v)
      fits_refuse w x v f l k =
          let g = f.nodes_fit x in
          fits_reject_kept _ (E.node w x).promise v (steps.fits_put targets awaits begun linked knows fits w x (record (E.node w x) { phase = Evaluated; error = Some v; done = true }) f l
          (record { error = k; root = g.root; waits = g.waits; waiters = g.waiters })) k
