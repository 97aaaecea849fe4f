-- What holds of a world, where each write and each call for a body keeps it, evaluation keeps. Of promises evaluation settles those
-- alone that modules keep; those of the ends of bodies are made by it, and settled by the bodies.
use Rattle.std.proofs.Common.{◌≡◌, ℕ, true, List, [], ◌∷◌, Option, Some, None, refl, subst}
use Rattle.std.specs.Prelude.{Result, ◌++◌, ⊤}
use Rattle.esm_realm.specs.Walk.{Mark}
use Rattle.esm_realm.specs.Components.{opened_from}
use Rattle.esm_eval.specs.Nodes.{Phase, NotEntered, Evaluating, EvaluatingAsync, Evaluated, Node, Call, CallAnswer, Start, Run, BodyCalls}
use Rattle.esm_eval.specs.Evaluation.{Evaluation, fulfill_kept, reject_kept, add_wait, put_wait, is_stamped}
use Rattle.esm_eval.specs.Evaluate.{WalkEnd, ExecutesAsync, Executes, Leaves, Marks, EvaluatesRoot, Evaluates, close, fail, keep, fulfill_by, closed_phase}
use Rattle.esm_eval.specs.Evaluate.Marks.{done, enters, passes, pass_throws, stays, component, leave_throws, leave_stops}
use Rattle.esm_eval.specs.BodyEnd.{Rejects, RejectsAll, GoOn, Fulfills, finish, refuse}

-- the promise of a call is one of the end of this body
abbrev pub OwnCall : {N W : Type 0} → (W → ℕ → N → Type 0) → W → Call N → Type 0
OwnCall Own w (Start m end) = Own w end m
OwnCall Own w (Run m) = ⊤

-- P holds of worlds, Free of promises that may be settled, and Own of those that the end of a body settles. Keep says that P holds
-- then, and what was free is free
pub record Holding {N V W S : Type 0} (E : Evaluation N V W) (acts : BodyCalls N V W S) (P : W → Type 0) (Free : W → ℕ → Type 0)
    (Own : W → ℕ → N → Type 0) (Keep : W → W → Type 0) : Type 0 where
  pub same : (w : W) → P w → Keep w w
  pub on : {u v w : W} → Keep u v → Keep v w → Keep u w
  pub holds : {v w : W} → Keep v w → P w
  pub free : {v w : W} → Keep v w → (p : ℕ) → Free v p → Free w p
  -- the promise that a module keeps is free
  pub node : (w : W) (x : N) (p : ℕ) → P w → (E.node w x).promise ≡ Some p → Free w p
  pub put : (w : W) (x : N) (n : Node N V) → P w → ((p : ℕ) → n.promise ≡ Some p → Free w p) → Keep w (E.put w x n)
  pub stamp : (w : W) (x : N) → P w → Keep w (E.add_stamp w x)
  pub make : (w : W) → P w → Keep w (E.make_promise w)
  pub made : (w : W) → P w → Free (E.make_promise w) (E.next_promise w)
  pub make_body : (w : W) (x : N) → P w → Keep w (E.make_body_promise w x)
  pub made_body : (w : W) (x : N) → P w → Own (E.make_body_promise w x) (E.next_promise w) x
  pub fulfill : (w : W) (p : ℕ) → P w → Free w p → Keep w (E.fulfill w p)
  pub reject : (w : W) (p : ℕ) (v : V) → P w → Free w p → Keep w (E.reject w p v)
  pub call : {v w : W} {c : Call N} {r : Result (CallAnswer V c) S} → P v → OwnCall Own v c → acts v c r w → Keep v w

module _ {N V W S : Type 0} (E : Evaluation N V W) (acts : BodyCalls N V W S) (P : W → Type 0) (Free : W → ℕ → Type 0)
    (Own : W → ℕ → N → Type 0) (Keep : W → W → Type 0) (k : Holding E acts P Free Own Keep) where
  -- what follows in a world that is reached
  next : {u v w : W} → Keep u v → (P v → Keep v w) → Keep u w
  next a f = k.on a (f (k.holds a))

  starts : {v w : W} {m : N} {end : WalkEnd V S} → P v → ExecutesAsync E acts v m end w → Keep v w
  starts {v} {m = m} h (ExecutesAsync.starts p) = next (k.make_body v m h) (λ g. k.call g (k.made_body v m h) p)
  starts {v} {m = m} h (ExecutesAsync.stops why p) = next (k.make_body v m h) (λ g. k.call g (k.made_body v m h) p)

  runs : {v w : W} {m : N} {end : WalkEnd V S} → P v → Executes E acts v m end w → Keep v w
  runs h (Executes.ends p) = k.call h tt p
  runs h (Executes.throws v p) = k.call h tt p
  runs h (Executes.stops why p) = k.call h tt p

  leaves : {v : W} {m : N} {end : WalkEnd V S} {w : W} → P v → Leaves E acts v m end w → Keep v w
  leaves h (Leaves.runs n o p) = runs h p
  leaves {v} {m = m} h (Leaves.starts n o p) = next (k.stamp v m h) (λ g. starts g p)
  leaves {v} {m = m} h (Leaves.waiting n) = k.stamp v m h

  -- a node is written, with the promise that it had
  put_same : (w : W) (x : N) (n : Node N V) → P w → n.promise ≡ (E.node w x).promise → Keep w (E.put w x n)
  put_same w x n h e = k.put w x n h (λ p d. k.node w x p h (subst (λ o. o ≡ Some p) e d))

  closes : (w : W) (x : N) (ys : List N) → P w → Keep w (close E w x ys)
  closes w x [] h = k.same w h
  closes w x (y ∷ ys) h =
      let n : Node N V = record (E.node w y) { phase = closed_phase E (is_stamped E w y); cycle_root = Some x } in
      next (put_same w y n h refl) (λ g. closes (E.put w y n) x ys g)

  fails : (w : W) (v : V) (ys : List N) → P w → Keep w (fail E w v ys)
  fails w v [] h = k.same w h
  fails w v (y ∷ ys) h =
      let n : Node N V = record (E.node w y) { phase = Evaluated; error = Some v } in
      next (put_same w y n h refl) (λ g. fails (E.put w y n) v ys g)

  waits : (w : W) (x : N) (y : Option N) → P w → Keep w (add_wait E w x y)
  waits w x None h = k.same w h
  waits w x (Some y) h =
      next (put_same w x (record (E.node w x) { waits = (E.node w x).waits ++ y ∷ [] }) h refl)
      (λ g. put_same (put_wait E w x y) y (record (E.node (put_wait E w x y) y) { waiters = (E.node (put_wait E w x y) y).waiters ++ x ∷ [] }) g refl)

  marks : {to : N → List N} {v : W} {opened : List N} {ms : List (Mark N)} {end : WalkEnd V S} {w : W} → P v → Marks E acts to v opened ms end w → Keep v w
  marks {v = v} h done = k.same v h
  marks {v = v} h (enters {x = x} p) = next (put_same v x (record (E.node v x) { phase = Evaluating }) h refl) (λ g. marks g p)
  marks {v = v} h (passes {x = x} t n p) = next (waits v x _ h) (λ g. marks g p)
  marks {v = v} {opened = o} h (pass_throws u t n) = fails v u o h
  marks h (stays l c p) = next (leaves h l) (λ g. marks g p)
  marks {opened = o} h (component {mid = mid} {x = x} l c p) = next (leaves h l) (λ g. next (closes mid x (opened_from E.same o x) g) (λ f. marks f p))
  marks {opened = o} h (leave_throws {mid = mid} u l) = next (leaves h l) (λ g. fails mid u o g)
  marks h (leave_stops why l) = leaves h l

  -- m keeps a new promise
  keeps : (w : W) (m : N) → P w → Keep w (keep E w m)
  keeps w m h = next (k.make w h) (λ g. k.put (E.make_promise w) m (record (E.node w m) { promise = Some (E.next_promise w) }) g (λ p e. new p e))
    where
      new : (p : ℕ) → Some (E.next_promise w) ≡ Some p → Free (E.make_promise w) p
      new p e = let same : E.next_promise w ≡ p = cc in subst (λ q. Free (E.make_promise w) q) same (k.made w h)

  kept_free : (w : W) (m : N) → P w → Free (keep E w m) (E.next_promise w)
  kept_free w m h =
      let a = k.make w h in
      let n : Node N V = record (E.node w m) { promise = Some (E.next_promise w) } in
      k.free (k.put (E.make_promise w) m n (k.holds a) (λ p e. let same : E.next_promise w ≡ p = cc in subst (λ q. Free (E.make_promise w) q) same (k.made w h))) (E.next_promise w) (k.made w h)

  settles : (w : W) (p : ℕ) (phase : Phase) → P w → Free w p → Keep w (fulfill_by E w p phase)
  settles w p NotEntered h f = k.same w h
  settles w p Evaluating h f = k.same w h
  settles w p EvaluatingAsync h f = k.same w h
  settles w p Evaluated h f = k.fulfill w p h f

  root : {v : W} {m : N} {a : Result ℕ S} {w : W} → P v → EvaluatesRoot E acts v m a w → Keep v w
  root {v} h (EvaluatesRoot.kept p n) = k.same v h
  root {v} {m = m} h (EvaluatesRoot.thrown u n e) = next (keeps v m h) (λ g. k.reject (keep E v m) (E.next_promise v) u g (kept_free v m h))
  root {v} {m = m} h (EvaluatesRoot.walks {after = after} n e p) =
      let a = keeps v m h in
      let b = marks (k.holds a) p.leads in
      k.on a (k.on b (settles after (E.next_promise v) _ (k.holds b) (k.free b (E.next_promise v) (kept_free v m h))))
  root {v} {m = m} h (EvaluatesRoot.throws {after = after} u n e p) =
      let a = keeps v m h in
      let b = marks (k.holds a) p.leads in
      k.on a (k.on b (k.reject after (E.next_promise v) u (k.holds b) (k.free b (E.next_promise v) (kept_free v m h))))
  root {v} {m = m} h (EvaluatesRoot.stops why n e p) = next (keeps v m h) (λ g. marks g p.leads)

  pub evaluates_holds : (v : W) (m : N) {w : W} {a : Result ℕ S} → P v → Evaluates E acts v m a w → Keep v w
  evaluates_holds v m h p = root h p

  fulfills_kept : (w : W) (o : Option ℕ) → P w → ((p : ℕ) → o ≡ Some p → Free w p) → Keep w (fulfill_kept E w o)
  fulfills_kept w None h f = k.same w h
  fulfills_kept w (Some p) h f = k.fulfill w p h (f p refl)

  rejects_kept : (w : W) (o : Option ℕ) (v : V) → P w → ((p : ℕ) → o ≡ Some p → Free w p) → Keep w (reject_kept E w o v)
  rejects_kept w None v h f = k.same w h
  rejects_kept w (Some p) v h f = k.reject w p v h (f p refl)

  finishes : (w : W) (x : N) → P w → Keep w (finish E w x)
  finishes w x h =
      let n : Node N V = record (E.node w x) { phase = Evaluated; done = true } in
      let a = put_same w x n h refl in
      k.on a (fulfills_kept (E.put w x n) (E.node w x).promise (k.holds a) (λ p e. k.free a p (k.node w x p h e)))

  refuses : (w : W) (x : N) (v : V) → P w → Keep w (refuse E w x v)
  refuses w x v h =
      let n : Node N V = record (E.node w x) { phase = Evaluated; error = Some v; done = true } in
      let a = put_same w x n h refl in
      k.on a (rejects_kept (E.put w x n) (E.node w x).promise v (k.holds a) (λ p e. k.free a p (k.node w x p h e)))

  mutual
    pub rejects_holds : {u w : W} {x : N} {v : V} → P u → Rejects E u x v w → Keep u w
    rejects_holds {u} h (Rejects.over e) = k.same u h
    rejects_holds {u} {x = x} {v = v} h (Rejects.rejects n p) = next (refuses u x v h) (λ g. rejects_all g p)

    rejects_all : {u w : W} {xs : List N} {v : V} → P u → RejectsAll E u xs v w → Keep u w
    rejects_all {u} h RejectsAll.none = k.same u h
    rejects_all h (RejectsAll.next p q) = next (rejects_holds h p) (λ g. rejects_all g q)

  go_on : {v w : W} {xs : List N} {a : Result (Unit {0}) S} → P v → GoOn E acts v xs a w → Keep v w
  go_on {v} h GoOn.none = k.same v h
  go_on h (GoOn.skips e p) = go_on h p
  go_on h (GoOn.starts n o s p) = next (starts h s) (λ g. go_on g p)
  go_on h (GoOn.runs {mid = mid} {x = x} n o s p) = next (runs h s) (λ g. next (finishes mid x g) (λ f. go_on f p))
  go_on h (GoOn.throws v n o s r p) = next (runs h s) (λ g. next (rejects_holds g r) (λ f. go_on f p))
  go_on h (GoOn.start_stops why n o s) = starts h s
  go_on h (GoOn.run_stops why n o s) = runs h s

  pub fulfills_holds : {v w : W} {m : N} {a : Result (Unit {0}) S} → P v → Fulfills E acts v m a w → Keep v w
  fulfills_holds {v} h (Fulfills.over e) = k.same v h
  fulfills_holds {v} {m = m} h (Fulfills.goes_on n r p) = next (finishes v m h) (λ g. go_on g p)
