-- The end of a body over nodes, promises and bodies.
use Rattle.std.proofs.Common.{◌≡◌, ℕ, zero, suc, arith, ◌+◌, ◌<◌, ◌≤◌, Bool, true, false, List, [], ◌∷◌, drop, length, Option, Some, None, Result, refl, ap, subst, sym, ◌∙◌, slice_get, inl, inr, nat_eq}
use Rattle.std.specs.Prelude.{◌⊎◌, ◌||◌, ◌&&◌, not, All, IfOk, OnOk, Ok, Err}
use Rattle.std.proofs.Math.ListN.{drop_of_length-le}
use Rattle.esm_base.specs.Lists.{is_in}
use Rattle.esm_realm.proofs.Urls.{not_both}
use Rattle.esm_realm.proofs.Lists.{either}
use Rattle.esm_realm.proofs.Numbers.{has_at, in_cons}
use Rattle.esm_values.specs.Code.{CodeValue}
use Rattle.esm_promise.specs.Code.{Numbered}
use Rattle.esm_promise.specs.Promises as promise
use Rattle.esm_values.specs.Value as value
use Rattle.esm_eval.specs.Nodes.{Phase, NotEntered, Evaluating, EvaluatingAsync, Evaluated, Node, was_entered}
use Rattle.esm_eval.specs.Evaluation.{phase, waits, waiters, is_done, is_stamped, root_of, fulfill_kept, reject_kept}
use Rattle.esm_eval.specs.BodyEnd.{ReadyAmong, finish, refuse}
use Rattle.esm_eval.specs.Calls.{CodeEvaluation, numbered}
use Rattle.esm_eval.specs.Host.{Outside, HostFits, evaluation, knows_in}
use Rattle.esm_eval.specs.Table.{Table, node_at, with_node, size}
use Rattle.esm_eval.specs.Counts.{is_over, unfinished}
use Rattle.esm_eval.specs.EndSteps.{EachIsLinked, IsEvaluated, IsFinished, SameWaiters, Stays}
use Rattle.esm_eval.specs.Inner.Hosts.{lawful}
use Rattle.esm_eval.specs.Inner.Orders.{has_one_of, Joins}
use Rattle.esm_eval.specs.Inner.Ready as ready
use Rattle.esm_eval.specs.declared.host.EvalHost.{EvalHost}
use Rattle.esm_eval.proofs.EndsKeep.{finished}
use Rattle.esm_eval.proofs.HasReady.{both}
use Rattle.esm_eval.proofs.OnceEnds.{among_in}
use Rattle.esm_eval.proofs.HasMarks.{first_has, others_have}
use Rattle.esm_eval.proofs.Inner.HostSteps as steps
use Rattle.esm_eval.proofs.Inner.Steps.{drop_at}
use Rattle.esm_eval.proofs.Inner.Gathering as gathering
use Rattle.esm_eval.proofs.Inner.Orders as orders
use Rattle.esm_eval.proofs.Inner.DeskSteps.{on_ok_map}

not_ready : (s a n e o : Bool) → (a ≡ false) ⊎ ((n ≡ false) ⊎ (e ≡ false)) → false ≡ (s && (a && (n && (e && o))))
not_ready false a n e o h = refl
not_ready true false n e o h = refl
not_ready true true false e o h = refl
not_ready true true true false o h = refl
not_ready true true true true o (inl h) = cc
not_ready true true true true o (inr (inl h)) = cc
not_ready true true true true o (inr (inr h)) = cc

so_ready : (s a n e o r : Bool) → s ≡ true → a ≡ true → n ≡ true → e ≡ true → r ≡ o → r ≡ (s && (a && (n && (e && o))))
so_ready true true true true o r hs ha hn he h = h
so_ready false a n e o r hs ha hn he h = cc
so_ready true false n e o r hs ha hn he h = cc
so_ready true true false e o r hs ha hn he h = cc
so_ready true true true false o r hs ha hn he h = cc

not_not : (b c : Bool) → c ≡ not b → c ≡ true → b ≡ false
not_not true c h k = cc
not_not false c h k = refl

pub failed : (b r : Bool) → r ≡ not b → r ≡ true → b ≡ false
failed b r h k = not_not b r h k

pub unfailed : (b r : Bool) → r ≡ not b → r ≡ false → b ≡ true
unfailed true r h k = refl
unfailed false r h k = cc

over_none : (d a k : Bool) → d ≡ false → a ≡ true → false ≡ (d || (not a && k))
over_none true a k h l = cc
over_none false true k h l = refl
over_none false false k h l = cc

over_known : (d a k r : Bool) → d ≡ false → a ≡ false → r ≡ k → r ≡ (d || (not a && k))
over_known true a k r h l m = cc
over_known false true k r h l m = cc
over_known false false k r h l m = m

module _ {B : Type 0} (targets : B → ℕ → List ℕ) (awaits begun : B → ℕ → Bool) (linked : B → ℕ → Bool) (knows : B → CodeValue → Type 0) where
  abbrev E : CodeEvaluation (EvalHost B)
  E = evaluation targets awaits begun

  abbrev links : EvalHost B → ℕ → Bool
  links w = linked w.bodies

  -- ---- promises that are kept

  pub fulfills_one : (w : EvalHost B) (p : ℕ) (o : Option ℕ) (ps : Numbered) → ps ≡ promise.settle w.promises p (promise.Fulfilled value.Undefined) → o ≡ Some p
      → record w { promises = ps } ≡ fulfill_kept E w o
  fulfills_one w p o ps h k = ap (λ q. record w { promises = q }) h ∙ ap (λ q. fulfill_kept E w q) (sym k)

  pub fulfills_none : (w : EvalHost B) (o : Option ℕ) → o ≡ None → w ≡ fulfill_kept E w o
  fulfills_none w o k = ap (λ q. fulfill_kept E w q) (sym k)

  pub rejects_one : (w : EvalHost B) (p : ℕ) (o : Option ℕ) (e v : CodeValue) (ps : Numbered) → ps ≡ promise.settle w.promises p (promise.Rejected e) → e ≡ v → o ≡ Some p
      → record w { promises = ps } ≡ reject_kept E w o v
  rejects_one w p o e v ps h l k =
      ap (λ q. record w { promises = q }) h ∙ ap (λ u. E.reject w p u) l ∙ ap (λ q. reject_kept E w q v) (sym k)

  pub rejects_none : (w : EvalHost B) (o : Option ℕ) (v : CodeValue) → o ≡ None → w ≡ reject_kept E w o v
  rejects_none w o v k = ap (λ q. reject_kept E w q v) (sym k)

  fulfill_nodes : (w : EvalHost B) (o : Option ℕ) → (fulfill_kept E w o).nodes ≡ w.nodes
  fulfill_nodes w None = refl
  fulfill_nodes w (Some p) = refl

  fulfill_bodies : (w : EvalHost B) (o : Option ℕ) → (fulfill_kept E w o).bodies ≡ w.bodies
  fulfill_bodies w None = refl
  fulfill_bodies w (Some p) = refl

  reject_nodes : (w : EvalHost B) (o : Option ℕ) (v : CodeValue) → (reject_kept E w o v).nodes ≡ w.nodes
  reject_nodes w None v = refl
  reject_nodes w (Some p) v = refl

  reject_bodies : (w : EvalHost B) (o : Option ℕ) (v : CodeValue) → (reject_kept E w o v).bodies ≡ w.bodies
  reject_bodies w None v = refl
  reject_bodies w (Some p) v = refl

  stays_by : (w v : EvalHost B) → v.bodies ≡ w.bodies → Stays links (knows_in knows) w v
  stays_by w v e = record { link = λ y. ap (λ b. linked b y) e; know = λ u k. subst (λ b. knows b u) (sym e) k }

  -- ---- a module is done

  abbrev done_node : EvalHost B → ℕ → Node ℕ CodeValue
  done_node w x = record (E.node w x) { phase = Evaluated; done = true }

  abbrev refused_node : EvalHost B → ℕ → CodeValue → Node ℕ CodeValue
  refused_node w x v = record (E.node w x) { phase = Evaluated; error = Some v; done = true }

  pub finish_world : (w : EvalHost B) (x : ℕ) (t : Table) (o : Option ℕ) (after : EvalHost B) → o ≡ (E.node w x).promise
      → t ≡ with_node w.nodes x (record (node_at w.nodes x) { phase = Evaluated; done = true }) → after ≡ fulfill_kept E (record w { nodes = t }) o → after ≡ finish (numbered E) w x
  finish_world w x t o after k e h =
      h ∙ ap (λ s. fulfill_kept E (record w { nodes = s }) o) e ∙ ap (λ q. fulfill_kept E (E.put w x (done_node w x)) q) k

  pub finish_size : (w : EvalHost B) (x : ℕ) (t : Table) (o : Option ℕ) (after : EvalHost B) → x < size w.nodes
      → t ≡ with_node w.nodes x (record (node_at w.nodes x) { phase = Evaluated; done = true }) → after ≡ fulfill_kept E (record w { nodes = t }) o → size after.nodes ≡ size w.nodes
  finish_size w x t o after lt e h =
      ap (λ u. size u) (ap (λ u. u.nodes) h ∙ fulfill_nodes (record w { nodes = t }) o ∙ e) ∙ steps.size_put w.nodes x (done_node w x) lt

  pub finish_stays : (w : EvalHost B) (x : ℕ) (after : EvalHost B) → after ≡ finish (numbered E) w x → Stays links (knows_in knows) w after
  finish_stays w x after e = stays_by w after (ap (λ u. u.bodies) e ∙ fulfill_bodies (E.put w x (done_node w x)) (E.node w x).promise)

  pub refuse_world : {X Y : Type 0} (w : EvalHost B) (x : ℕ) (e v : CodeValue) (t : Table) (o : Option ℕ) (res : Result X Y) (after : EvalHost B) → e ≡ v → o ≡ (E.node w x).promise
      → t ≡ with_node w.nodes x (record (node_at w.nodes x) { phase = Evaluated; error = Some e; done = true }) → OnOk res (after ≡ reject_kept E (record w { nodes = t }) o v)
      → OnOk res (after ≡ refuse (numbered E) w x v)
  refuse_world w x e v t o res after l k n h = on_ok_map res h (λ a.
      a ∙ ap (λ s. reject_kept E (record w { nodes = s }) o v) (n ∙ ap (λ u. with_node w.nodes x (record (node_at w.nodes x) { phase = Evaluated; error = Some u; done = true })) l)
      ∙ ap (λ q. reject_kept E (E.put w x (refused_node w x v)) q v) k)

  refused_nodes : (w : EvalHost B) (x : ℕ) (v : CodeValue) (after : EvalHost B) → after ≡ refuse (numbered E) w x v → after.nodes ≡ with_node w.nodes x (refused_node w x v)
  refused_nodes w x v after e = ap (λ u. u.nodes) e ∙ reject_nodes (E.put w x (refused_node w x v)) (E.node w x).promise v

  not_over : (p : Phase) → (p ≡ Evaluated → ⊥) → is_over p ≡ false
  not_over NotEntered n = refl
  not_over Evaluating n = refl
  not_over EvaluatingAsync n = refl
  not_over Evaluated n = absurd (n refl)

  pub refuse_fewer : (w : EvalHost B) (x : ℕ) (v : CodeValue) (after : EvalHost B) → x < size w.nodes → (IsEvaluated E w x → ⊥) → after ≡ refuse (numbered E) w x v
      → unfinished after.nodes < unfinished w.nodes
  refuse_fewer w x v after h n e =
      subst (λ t. unfinished t < unfinished w.nodes) (sym (refused_nodes w x v after e)) (steps.fewer_left is_over w.nodes.nodes x (refused_node w x v) h (not_over (phase E w x) n) refl)

  pub refuse_waiters : (w : EvalHost B) (x : ℕ) (v : CodeValue) (after : EvalHost B) → after ≡ refuse (numbered E) w x v → SameWaiters E w after
  refuse_waiters w x v after e y =
      ap (λ t. (node_at t y).waiters) (refused_nodes w x v after e)
      ∙ steps.read_by (λ m. m.waiters ≡ waiters E w y) w.nodes.nodes x (refused_node w x v) y (λ s. ap (λ z. waiters E w z) s) refl

  pub refuse_stays : (w : EvalHost B) (x : ℕ) (v : CodeValue) (after : EvalHost B) → after ≡ refuse (numbered E) w x v → Stays links (knows_in knows) w after
  refuse_stays w x v after e = stays_by w after (ap (λ u. u.bodies) e ∙ reject_bodies (E.put w x (refused_node w x v)) (E.node w x).promise v)

  -- ---- what nodes name

  all_in : (b : B) (xs : List ℕ) (y : ℕ) → All (λ z. linked b z ≡ true) xs → is_in nat_eq xs y ≡ true → linked b y ≡ true
  all_in b [] y h i = cc
  all_in b (x ∷ xs) y h i = either (in_cons x xs y i) (λ e. subst (λ z. linked b z ≡ true) (sym e) (first_has (λ z. linked b z ≡ true) x xs h)) (λ k. all_in b xs y (others_have (λ z. linked b z ≡ true) x xs h) k)

  module _ (fits : Outside B → Type 0) (w : EvalHost B) (f : HostFits fits linked knows w) where
    pub waiter_linked : (x i y : ℕ) → slice_get (waiters E w x) i ≡ Some y → linked w.bodies y ≡ true
    waiter_linked x i y at = all_in w.bodies (waiters E w x) y (f.nodes_fit x).waiters (has_at (waiters E w x) i y at)

    pub wait_linked : (x k y : ℕ) → slice_get (waits E w x) k ≡ Some y → linked w.bodies y ≡ true
    wait_linked x k y at = all_in w.bodies (waits E w x) y (f.nodes_fit x).waits (has_at (waits E w x) k y at)

    pub among_linked : {A X : Type 0} (items : A → List ℕ) (res : Result A X) → IfOk res (λ xs. ReadyAmong E w w.nodes.stamps (items xs)) → IfOk res (λ xs. EachIsLinked links w (items xs))
    among_linked items (Ok xs) r = λ y i. all_in w.bodies w.nodes.stamps y f.stamps_fit (among_in E (lawful targets awaits begun) r y i)
    among_linked items (Err x) r = tt

    -- all that are ready are gathered
    pub gathered_all : (m : ℕ) → IsFinished E m w → (before after : List ℕ) → before ≡ [] → ready.Gathered E w m (has_one_of w.nodes.stamps before) (has_one_of w.nodes.stamps after)
        → ready.AreAllReady E w (has_one_of w.nodes.stamps after)
    gathered_all m p before after e g =
        subst (λ u. ready.Gathered E u m (has_one_of w.nodes.stamps before) (has_one_of w.nodes.stamps after) → ready.AreAllReady E u (has_one_of w.nodes.stamps after)) (sym p.2)
        (gathering.all_gathered E (lawful targets awaits begun) p.0 m (has_one_of w.nodes.stamps before) (has_one_of w.nodes.stamps after) (orders.has_no_orders w.nodes.stamps before e) p.1) g

    pub finished_joined : (m : ℕ) → IsFinished E m w → ready.IsJoined E w
    finished_joined m p = subst (λ u. ready.IsJoined E u) (sym p.2) (gathering.joined_after E (lawful targets awaits begun) p.0 m p.1)

    -- a module that was finished is linked
    pub finished_linked : (m : ℕ) → IsFinished E m w → linked w.bodies m ≡ true
    finished_linked m p =
        let g = (finished (numbered E) (lawful targets awaits begun) p.0 m).now in
        f.entered m (ap was_entered (ap (λ u. phase E u m) p.2 ∙ g))

  -- ---- whether a module is ready

  module _ (w : EvalHost B) (known : ℕ → Bool) (x : ℕ) where
    abbrev fine : Bool
    fine = ready.no_error (E.node w (root_of E w x)).error

    abbrev all_over : Bool
    all_over = ready.over E w known (waits E w x)

    abbrev answer : Bool
    answer = ready.ready_by E w known x

    pub not_async : ready.is_async (phase E w x) ≡ false → false ≡ answer
    not_async h = not_ready (is_stamped E w x) (ready.is_async (phase E w x)) (not (E.begun w x)) fine all_over (inl h)

    pub has_begun : E.begun w x ≡ true → false ≡ answer
    has_begun h = not_ready (is_stamped E w x) (ready.is_async (phase E w x)) (not (E.begun w x)) fine all_over (inr (inl (ap not h)))

    pub has_failed : fine ≡ false → false ≡ answer
    has_failed h = not_ready (is_stamped E w x) (ready.is_async (phase E w x)) (not (E.begun w x)) fine all_over (inr (inr h))

    pub by_waits : (r : Bool) → is_stamped E w x ≡ true → ready.is_async (phase E w x) ≡ true → E.begun w x ≡ false → fine ≡ true → r ≡ all_over → r ≡ answer
    by_waits r s a b e h = so_ready (is_stamped E w x) (ready.is_async (phase E w x)) (not (E.begun w x)) fine all_over r s a (ap not b) e h

  -- ---- whether a wait is over

  module _ (w : EvalHost B) (known : ℕ → Bool) (y : ℕ) where
    pub over_done : is_done E w y ≡ true → true ≡ ready.one_over E w known y
    over_done h = sym (ap (λ d. d || (not (E.awaits w y) && known y)) h)

    pub over_waits : is_done E w y ≡ false → E.awaits w y ≡ true → false ≡ ready.one_over E w known y
    over_waits h a = over_none (is_done E w y) (E.awaits w y) (known y) h a

    pub over_joins : (r : Bool) → is_done E w y ≡ false → E.awaits w y ≡ false → r ≡ known y → r ≡ ready.one_over E w known y
    over_joins r h a k = over_known (is_done E w y) (E.awaits w y) (known y) r h a k

  module _ (w : EvalHost B) (known : ℕ → Bool) where
    -- the test of all waits is that of those from place k on
    over_at : (ws : List ℕ) (k y : ℕ) → slice_get ws k ≡ Some y → ready.over E w known (drop k ws) ≡ (ready.one_over E w known y && ready.over E w known (drop (k + 1) ws))
    over_at ws k y e = ap (λ l. ready.over E w known l) (drop_at ws k y e)

    pub over_next : (ws : List ℕ) (k y : ℕ) (r all : Bool) → slice_get ws k ≡ Some y → r ≡ ready.one_over E w known y → r ≡ true → ready.over E w known (drop k ws) ≡ all
        → ready.over E w known (drop (k + 1) ws) ≡ all
    over_next ws k y r all at h t i = sym (over_at ws k y at ∙ ap (λ b. b && ready.over E w known (drop (k + 1) ws)) (sym h ∙ t)) ∙ i

    pub over_fails : (ws : List ℕ) (k y : ℕ) (r all : Bool) → slice_get ws k ≡ Some y → r ≡ ready.one_over E w known y → r ≡ false → ready.over E w known (drop k ws) ≡ all → false ≡ all
    over_fails ws k y r all at h t i = sym (over_at ws k y at ∙ ap (λ b. b && ready.over E w known (drop (k + 1) ws)) (sym h ∙ t)) ∙ i

    -- where those before a place are done, those from there on tell of all
    pub over_passed : (ws : List ℕ) (p : ℕ) → ((k y : ℕ) → k < p → slice_get ws k ≡ Some y → is_done E w y ≡ true) → ready.over E w known (drop p ws) ≡ ready.over E w known ws
    over_passed [] zero d = refl
    over_passed [] (suc p) d = refl
    over_passed (y ∷ ws) zero d = refl
    over_passed (y ∷ ws) (suc p) d =
        let first : true ≡ ready.one_over E w known y = over_done w known y (d zero y (omega arith) refl) in
        over_passed ws p (λ k z lt at. d (suc k) z (omega (arith, lt)) at) ∙ ap (λ b. b && ready.over E w known ws) first

    pub over_ends : (ws : List ℕ) (k : ℕ) (all : Bool) → length ws ≤ k → ready.over E w known (drop k ws) ≡ all → true ≡ all
    over_ends ws k all le i = sym (ap (λ l. ready.over E w known l) (drop_of_length-le ws le)) ∙ i

  -- ---- joining

  pub joins_unstamped : (w : EvalHost B) (ks : List ℕ) (x : ℕ) → is_stamped E w x ≡ false → Joins E w ks x None
  joins_unstamped w ks x n = λ r. absurd (not_both (is_stamped E w x) (both (is_stamped E w x) _ r).0 n)

  pub joins_known : (w : EvalHost B) (ks : List ℕ) (x : ℕ) → has_one_of w.nodes.stamps ks x ≡ true → Joins E w ks x None
  joins_known w ks x h = λ r. h

  pub joins_unready : (w : EvalHost B) (ks : List ℕ) (x : ℕ) (b : Bool) → b ≡ ready.ready_by E w (has_one_of w.nodes.stamps ks) x → b ≡ false → Joins E w ks x None
  joins_unready w ks x b e n = λ r. absurd (not_both (ready.ready_by E w (has_one_of w.nodes.stamps ks) x) r (sym e ∙ n))
