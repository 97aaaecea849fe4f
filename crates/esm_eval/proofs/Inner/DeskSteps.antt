-- Steps of a walk over nodes, promises and bodies.
use mathlib.Core.Bool.{true≢false}
use Rattle.std.proofs.Common.{◌≡◌, ℕ, Bool, true, false, cond, List, [], ◌∷◌, ◌++◌, Option, Some, None, Result, Ok, Err, refl, ap, subst, sym, ◌∙◌, nat_eq}
use Rattle.std.specs.Prelude.{All, IfOk, IfSome, OnOk}
use Rattle.esm_base.specs.Lists.{is_in}
use Rattle.esm_realm.proofs.Lists.{either}
use Rattle.esm_realm.proofs.Numbers.{in_cons}
use Rattle.std.specs.Option.{option_map, option_or}
use Rattle.esm_values.specs.Code.{CodeValue, value_of}
use Rattle.esm_values.specs.declared.value.Ran.{Ran}
use Rattle.esm_values.specs.declared.value.Ran.TheVariants as r
use Rattle.esm_values.specs.declared.value.Value.{Value}
use Rattle.esm_promise.specs.Code.{Numbered}
use Rattle.esm_promise.specs.Promises as promise
use Rattle.esm_eval.specs.Nodes.{Phase, NotEntered, Evaluating, EvaluatingAsync, Evaluated}
use Rattle.esm_eval.specs.Evaluation.{phase, waits, is_done, is_stamped, root_of, error_of, wait_by, wait_on, add_wait}
use Rattle.esm_eval.specs.Evaluate.{Ends, Throws, Executes, Leaves, closed_phase, fail, fulfill_by, keep}
use Rattle.esm_eval.specs.Calls.{CodeEvaluation, CodeCalls, numbered}
use Rattle.esm_eval.specs.Host.{Outside, HostFits, LeavesBodies, evaluation, knows_in}
use Rattle.esm_eval.specs.Table.{Table, node_at, with_node, with_stamp}
use Rattle.esm_eval.specs.EndSteps.{Runs, Says}
use Rattle.esm_eval.specs.Inner.Visit.{LeavesAsync, ThrowsBy, cut_of}
use Rattle.esm_eval.specs.WalkSteps.{Keeps, KnowsError, LeavesBy, LeavesFit, PassesBy}
use Rattle.esm_eval.specs.declared.host.EvalHost.{EvalHost}
use Rattle.esm_eval.specs.declared.walk.EvalEnd.{EvalEnd}
use Rattle.esm_eval.specs.declared.walk.EvalEnd.TheVariants as ends
use Rattle.esm_eval.specs.declared.walk.Cut.{Cut}
use Rattle.esm_eval.specs.declared.walk.Cut.TheVariants as cuts
use Rattle.esm_eval.proofs.HasMarks.{first_has, others_have}
use Rattle.esm_eval.proofs.Inner.HostSteps as steps

pub on_ok : {X Y P : Type 0} (res : Result X Y) → P → OnOk res P
on_ok (Ok x) p = p
on_ok (Err y) p = tt

pub on_ok_map : {X Y P Q : Type 0} (res : Result X Y) → OnOk res P → (P → Q) → OnOk res Q
on_ok_map (Ok x) p f = f p
on_ok_map (Err y) p f = tt

pub copied_error : {X : Type 0} {o : Option CodeValue} (u : CodeValue) (res : Result (Option Value) X) → IfOk res (λ e. option_map value_of e ≡ Some u) → o ≡ Some u → IfOk res (λ e. option_map value_of e ≡ o)
copied_error u (Ok e) h k = h ∙ sym k
copied_error u (Err x) h k = tt

some_is : {A : Type 0} {x y : A} → Some x ≡ Some y → x ≡ y
some_is e = cc

pub says : {P : Type 0} (b : Bool) → Says b P → b ≡ true → P
says true h e = h
says false h e = absurd (true≢false (sym e))

pub denies : {P : Type 0} (b : Bool) → Says b P → b ≡ false → P → ⊥
denies true h e = absurd (true≢false e)
denies false h e = h

module _ {B : Type 0} (targets : B → ℕ → List ℕ) (awaits begun : B → ℕ → Bool) (linked : B → ℕ → Bool) (knows : B → CodeValue → Type 0) where
  abbrev E : CodeEvaluation (EvalHost B)
  E = evaluation targets awaits begun

  pub copied_known : {X : Type 0} (w : EvalHost B) (u : CodeValue) (res : Result (Option Value) X) → IfOk res (λ e. option_map value_of e ≡ Some u) → knows w.bodies u → IfOk res (KnowsError (knows_in knows) w)
  copied_known w u (Ok None) h k = tt
  copied_known w u (Ok (Some v)) h k = subst (λ z. knows w.bodies z) (sym (some_is h)) k
  copied_known w u (Err x) h k = tt

  or_known : (b : B) (o p : Option CodeValue) (u : CodeValue) → IfSome o (knows b) → IfSome p (knows b) → option_or o p ≡ Some u → knows b u
  or_known b None p u h k e = subst (λ q. IfSome q (knows b)) e k
  or_known b (Some x) p u h k e = subst (λ q. IfSome q (knows b)) e h

  -- waits
  pub own_wait : (w : EvalHost B) (t : ℕ) → phase E w t ≡ Evaluating → is_stamped E w t ≡ true → Some t ≡ wait_on E w t
  own_wait w t p s = sym (ap (λ q. wait_by E t (root_of E w t) q (is_stamped E w t) (is_stamped E w (root_of E w t)) (is_done E w (root_of E w t))) p ∙ ap (λ b. wait_by E t (root_of E w t) Evaluating b (is_stamped E w (root_of E w t)) (is_done E w (root_of E w t))) s)

  pub own_free : (w : EvalHost B) (t : ℕ) → phase E w t ≡ Evaluating → is_stamped E w t ≡ false → None ≡ wait_on E w t
  own_free w t p s = sym (ap (λ q. wait_by E t (root_of E w t) q (is_stamped E w t) (is_stamped E w (root_of E w t)) (is_done E w (root_of E w t))) p ∙ ap (λ b. wait_by E t (root_of E w t) Evaluating b (is_stamped E w (root_of E w t)) (is_done E w (root_of E w t))) s)

  root_waits : (t root : ℕ) (p : Phase) (s rs rd : Bool) → (p ≡ Evaluating → ⊥) → rs ≡ true → rd ≡ false → Some root ≡ wait_by E t root p s rs rd
  root_waits t root Evaluating s rs rd n a b = absurd (n refl)
  root_waits t root NotEntered s true false n a b = refl
  root_waits t root EvaluatingAsync s true false n a b = refl
  root_waits t root Evaluated s true false n a b = refl
  root_waits t root NotEntered s false rd n a b = cc
  root_waits t root EvaluatingAsync s false rd n a b = cc
  root_waits t root Evaluated s false rd n a b = cc
  root_waits t root NotEntered s true true n a b = cc
  root_waits t root EvaluatingAsync s true true n a b = cc
  root_waits t root Evaluated s true true n a b = cc

  pub root_wait : (w : EvalHost B) (t : ℕ) → (phase E w t ≡ Evaluating → ⊥) → is_stamped E w (root_of E w t) ≡ true → is_done E w (root_of E w t) ≡ false → Some (root_of E w t) ≡ wait_on E w t
  root_wait w t n a b = root_waits t (root_of E w t) (phase E w t) (is_stamped E w t) (is_stamped E w (root_of E w t)) (is_done E w (root_of E w t)) n a b

  root_free_by : (t root : ℕ) (p : Phase) (s rs rd : Bool) → (p ≡ Evaluating → ⊥) → rs ≡ false → None ≡ wait_by E t root p s rs rd
  root_free_by t root Evaluating s rs rd n a = absurd (n refl)
  root_free_by t root NotEntered s false rd n a = refl
  root_free_by t root EvaluatingAsync s false rd n a = refl
  root_free_by t root Evaluated s false rd n a = refl
  root_free_by t root NotEntered s true rd n a = cc
  root_free_by t root EvaluatingAsync s true rd n a = cc
  root_free_by t root Evaluated s true rd n a = cc

  root_done_by : (t root : ℕ) (p : Phase) (s rs rd : Bool) → (p ≡ Evaluating → ⊥) → rd ≡ true → None ≡ wait_by E t root p s rs rd
  root_done_by t root p s false rd n a = root_free_by t root p s false rd n refl
  root_done_by t root Evaluating s true rd n a = absurd (n refl)
  root_done_by t root NotEntered s true true n a = refl
  root_done_by t root EvaluatingAsync s true true n a = refl
  root_done_by t root Evaluated s true true n a = refl
  root_done_by t root NotEntered s true false n a = cc
  root_done_by t root EvaluatingAsync s true false n a = cc
  root_done_by t root Evaluated s true false n a = cc

  pub root_free : (w : EvalHost B) (t : ℕ) → (phase E w t ≡ Evaluating → ⊥) → is_stamped E w (root_of E w t) ≡ false → None ≡ wait_on E w t
  root_free w t n a = root_free_by t (root_of E w t) (phase E w t) (is_stamped E w t) (is_stamped E w (root_of E w t)) (is_done E w (root_of E w t)) n a

  pub root_done : (w : EvalHost B) (t : ℕ) → (phase E w t ≡ Evaluating → ⊥) → is_done E w (root_of E w t) ≡ true → None ≡ wait_on E w t
  root_done w t n a = root_done_by t (root_of E w t) (phase E w t) (is_stamped E w t) (is_stamped E w (root_of E w t)) (is_done E w (root_of E w t)) n a

  pub stamped_linked : (fits : Outside B → Type 0) (w : EvalHost B) (t : ℕ) → HostFits fits linked knows w → is_stamped E w t ≡ true → linked w.bodies t ≡ true
  stamped_linked fits w t f s = all_in w.nodes.stamps t f.stamps_fit s
    where
      all_in : (xs : List ℕ) (y : ℕ) → All (λ z. linked w.bodies z ≡ true) xs → is_in nat_eq xs y ≡ true → linked w.bodies y ≡ true
      all_in [] y h i = cc
      all_in (x ∷ xs) y h i = either (in_cons x xs y i) (λ e. subst (λ z. linked w.bodies z ≡ true) (sym e) (first_has (λ z. linked w.bodies z ≡ true) x xs h)) (λ k. all_in xs y (others_have (λ z. linked w.bodies z ≡ true) x xs h) k)

  -- a cycle root is linked, and the module itself where it has none
  pub root_linked : (fits : Outside B → Type 0) (w : EvalHost B) (t : ℕ) → HostFits fits linked knows w → is_stamped E w (root_of E w t) ≡ true → linked w.bodies (root_of E w t) ≡ true
  root_linked fits w t f s = stamped_linked fits w (root_of E w t) f s

  pub error_known : (fits : Outside B → Type 0) (w : EvalHost B) (t : ℕ) (u : CodeValue) → HostFits fits linked knows w → error_of E w t ≡ Some u → knows w.bodies u
  error_known fits w t u f e = or_known w.bodies (E.node w t).error (E.node w (root_of E w t)).error u (f.nodes_fit t).error (f.nodes_fit (root_of E w t)).error e

  pub own_error_known : (fits : Outside B → Type 0) (w : EvalHost B) (t : ℕ) (u : CodeValue) → HostFits fits linked knows w → (E.node w t).error ≡ Some u → knows w.bodies u
  own_error_known fits w t u f e = subst (λ q. IfSome q (knows w.bodies)) e (f.nodes_fit t).error

  -- writes as worlds
  pub waits_world : {X Y : Type 0} (w : EvalHost B) (x y : ℕ) (t u : Table) (res : Result X Y) → t ≡ with_node w.nodes x (record (node_at w.nodes x) { waits = (node_at w.nodes x).waits ++ y ∷ [] })
      → OnOk res (u ≡ with_node t y (record (node_at t y) { waiters = (node_at t y).waiters ++ x ∷ [] })) → OnOk res (record w { nodes = u } ≡ add_wait E w x (Some y))
  waits_world w x y t u res e f = on_ok_map res f (λ h. ap (λ s. record w { nodes = s }) (h ∙ ap (λ s. with_node s y (record (node_at s y) { waiters = (node_at s y).waiters ++ x ∷ [] })) e))

  pub keep_world : (w : EvalHost B) (m : ℕ) (t : Table) (ps : Numbered) (p : ℕ) → ps ≡ promise.make w.promises [] → p ≡ promise.next_promise w.promises
      → t ≡ with_node w.nodes m (record (node_at w.nodes m) { promise = Some p }) → record w { nodes = t; promises = ps } ≡ keep E w m
  keep_world w m t ps p a b c =
      ap (λ s. record w { nodes = s; promises = ps }) (c ∙ ap (λ q. with_node w.nodes m (record (node_at w.nodes m) { promise = Some q })) b) ∙ ap (λ q. record w { nodes = with_node w.nodes m (record (node_at w.nodes m) { promise = Some (promise.next_promise w.promises) }); promises = q }) a

  pub keeps_keep : (fits : Outside B → Type 0) (w : EvalHost B) (m : ℕ) → HostFits fits linked knows w → linked w.bodies m ≡ true → Keeps E (λ u. linked u.bodies) (λ u. Rattle.esm_eval.specs.Counts.unentered u.nodes) w (keep E w m)
  keeps_keep fits w m f l = steps.keeps_on targets awaits begun linked knows w (E.make_promise w) (keep E w m) (steps.keeps_like targets awaits begun linked knows w (E.make_promise w) refl (steps.same_bodies targets awaits begun linked knows w.bodies))
      (steps.keeps_put targets awaits begun linked knows (E.make_promise w) m _ (f.have m l) refl)

  pub fulfilled_by : (w : EvalHost B) (p : ℕ) (h : Phase) → h ≡ Evaluated → E.fulfill w p ≡ fulfill_by E w p h
  fulfilled_by w p h e = ap (λ q. fulfill_by E w p q) (sym e)

  pub unfulfilled_by : (w : EvalHost B) (p : ℕ) (h : Phase) → (h ≡ Evaluated → ⊥) → w ≡ fulfill_by E w p h
  unfulfilled_by w p NotEntered n = refl
  unfulfilled_by w p Evaluating n = refl
  unfulfilled_by w p EvaluatingAsync n = refl
  unfulfilled_by w p Evaluated n = absurd (n refl)

  pub closed_by : (w : EvalHost B) (x : ℕ) (b : Bool) (p : Phase) → p ≡ cond b EvaluatingAsync Evaluated → b ≡ is_stamped E w x → p ≡ closed_phase E (is_stamped E w x)
  closed_by w x b p e s = e ∙ by b ∙ ap (closed_phase E) s
    where
      by : (b : Bool) → cond b EvaluatingAsync Evaluated ≡ closed_phase E b
      by true = refl
      by false = refl

  pub async_keeps : {X Y : Type 0} (w v : EvalHost B) (x : ℕ) (t : Table) (res : Result X Y) → t ≡ with_stamp w.nodes x → OnOk res (v.nodes ≡ t) → OnOk res (LeavesBodies linked targets knows w.bodies v.bodies)
      → OnOk res (Keeps E (λ u. linked u.bodies) (λ u. Rattle.esm_eval.specs.Counts.unentered u.nodes) w v)
  async_keeps w v x t (Ok a) e n l = steps.keeps_like targets awaits begun linked knows w v (ap (λ s. s.nodes) (n ∙ e)) l
  async_keeps w v x t (Err a) e n l = tt

  module _ {S : Type 0} (acts : CodeCalls (EvalHost B) S) where
    abbrev links : EvalHost B → ℕ → Bool
    links w = linked w.bodies

    abbrev left : EvalHost B → ℕ
    left w = Rattle.esm_eval.specs.Counts.unentered w.nodes

    pub passes_throw : (w v : EvalHost B) (opened : List ℕ) (x t : ℕ) (u : CodeValue) (res : Result (Unit {0}) (Cut S)) → error_of (numbered E) w t ≡ Some u → ThrowsBy E w opened u res v → PassesBy E links left acts w opened x t res v
    passes_throw w v opened x t u (Ok a) e h = absurd h
    passes_throw w v opened x t u (Err (cuts.Thrown z)) e h = (e ∙ ap Some (sym h.0), h.1 ∙ ap (λ q. fail (numbered E) w q opened) (sym h.0))
    passes_throw w v opened x t u (Err (cuts.Stopped why)) e h = absurd h
    passes_throw w v opened x t u (Err cuts.Memory) e h = tt

    waiting_by : (w : EvalHost B) (x : ℕ) (ws : List ℕ) → waits E w x ≡ ws → (ws ≡ [] → ⊥) → Leaves (numbered E) acts w x Ends (E.add_stamp w x)
    waiting_by w x [] e n = absurd (n refl)
    waiting_by w x (y ∷ ys) e n = Leaves.waiting e

    pub leaves_waiting : (w : EvalHost B) (x : ℕ) (opened : List ℕ) (t : Table) → (waits E w x ≡ [] → ⊥) → t ≡ with_stamp w.nodes x → LeavesBy E links left acts w opened x (Ok tt) (record w { nodes = t })
    leaves_waiting w x opened t n e =
        subst (λ s. LeavesBy E links left acts w opened x (Ok tt) (record w { nodes = s })) (sym e)
        (waiting_by w x (waits E w x) refl n, steps.keeps_like targets awaits begun linked knows w (E.add_stamp w x) refl (steps.same_bodies targets awaits begun linked knows w.bodies))

    pub cut_leaves : (w v : EvalHost B) (x : ℕ) (opened : List ℕ) (end : EvalEnd S) (c : Cut S) → c ≡ cut_of end → LeavesAsync E links left acts w x (Err end) v → LeavesBy E links left acts w opened x (Err c) v
    cut_leaves w v x opened (ends.Stopped why) c e h = subst (λ d. LeavesBy E links left acts w opened x (Err d) v) (sym e) h
    cut_leaves w v x opened ends.Memory c e h = subst (λ d. LeavesBy E links left acts w opened x (Err d) v) (sym e) tt

    module _ (w : EvalHost B) (x : ℕ) (free : waits E w x ≡ []) (plain : awaits w.bodies x ≡ false) where
      pub left_normal : (v : EvalHost B) (opened : List ℕ) (ran : Ran) → Runs E acts w x (Ok ran) v → ran ≡ r.Normal → Keeps E links left w v → LeavesBy E links left acts w opened x (Ok tt) v
      left_normal v opened r.Normal p e k = (Leaves.runs free plain p, k)
      left_normal v opened (r.Thrown u) p e k = cc

      thrown_by : (mid v : EvalHost B) (opened : List ℕ) (u : Value) → Executes (numbered E) acts w x (Throws (value_of u)) mid → (res : Result (Unit {0}) (Cut S)) → ThrowsBy E mid opened (value_of u) res v → LeavesBy E links left acts w opened x res v
      thrown_by mid v opened u p (Ok a) h = absurd h
      thrown_by mid v opened u p (Err (cuts.Thrown z)) h = (mid, subst (λ q. Leaves (numbered E) acts w x (Throws q) mid) (sym h.0) (Leaves.runs free plain p), h.1 ∙ ap (λ q. fail (numbered E) mid q opened) (sym h.0))
      thrown_by mid v opened u p (Err (cuts.Stopped why)) h = absurd h
      thrown_by mid v opened u p (Err cuts.Memory) h = tt

      pub left_thrown : (mid v : EvalHost B) (opened : List ℕ) (ran : Ran) (u : Value) → Runs E acts w x (Ok ran) mid → ran ≡ r.Thrown u → (res : Result (Unit {0}) (Cut S)) → ThrowsBy E mid opened (value_of u) res v → LeavesBy E links left acts w opened x res v
      left_thrown mid v opened ran u p e res h = thrown_by mid v opened u (subst (λ q. Runs E acts w x (Ok q) mid) e p) res h

      pub left_cut : (v : EvalHost B) (opened : List ℕ) (end : EvalEnd S) (c : Cut S) → c ≡ cut_of end → Runs E acts w x (Err end) v → LeavesBy E links left acts w opened x (Err c) v
      left_cut v opened (ends.Stopped why) c e p = subst (λ d. LeavesBy E links left acts w opened x (Err d) v) (sym e) (Leaves.runs free plain p)
      left_cut v opened ends.Memory c e p = subst (λ d. LeavesBy E links left acts w opened x (Err d) v) (sym e) tt

pub cut_fits : {W S : Type 0} (A : Type 0) (fits : W → Type 0) (knows : W → CodeValue → Type 0) (v : W) (end : EvalEnd S) (c : Cut S) → c ≡ cut_of end → LeavesFit fits knows {A = A} (Err c) v
cut_fits A fits knows v (ends.Stopped why) c e = subst (λ d. LeavesFit fits knows {A = A} (Err d) v) (sym e) tt
cut_fits A fits knows v ends.Memory c e = subst (λ d. LeavesFit fits knows {A = A} (Err d) v) (sym e) tt
