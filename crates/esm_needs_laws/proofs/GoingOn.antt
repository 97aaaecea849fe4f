-- Where a body has ended: the modules that go on have all that they need.
use Rattle.std.proofs.Common.{◌≡◌, ◌⊎◌, inl, inr, true, false, List, [], ◌∷◌, ◌++◌, Option, Some, None, refl, ap, subst, sym, ◌∙◌, append_assoc}
use Rattle.std.specs.Prelude.{Result}
use Rattle.esm_base.specs.Lists.{is_in}
use Rattle.esm_realm.proofs.Urls.{not_both}
use Rattle.esm_realm.proofs.Lists.{either, in_cons, in_split}
use Rattle.esm_eval.specs.Nodes.{Phase, NotEntered, Evaluating, EvaluatingAsync, Evaluated, was_entered, Call, CallAnswer, BodyCalls}
use Rattle.esm_eval.specs.Evaluation.{Evaluation, IsLawful, IsSteady, phase, waits, is_done}
use Rattle.esm_eval.specs.Evaluate.{WalkEnd, Ends, ExecutesAsync, Executes}
use Rattle.esm_eval.specs.BodyEnd.{IsReady, AreOver, ReadyAmong, GoOn, Fulfills, finish}
use Rattle.esm_needs_laws.proofs.Shape.{Over, Grows, Base, Inv, ready_shut}
use Rattle.esm_needs_laws.proofs.Moves.{Tells}
use Rattle.esm_needs_laws.proofs.Bodies.{ReadyAt, Fine, starts_fine, runs_fine}
use Rattle.esm_needs_laws.proofs.Ending.{Since, since_same, since_on, since_nodes, stays_over, finish_now, finish_since, finish_inv}
use Rattle.esm_needs_laws.proofs.Rejected.{rejected}

new_apart : NotEntered ≡ EvaluatingAsync → ⊥
new_apart h = cc

module _ {N V W S : Type 0} (E : Evaluation N V W) (acts : BodyCalls N V W S) (L : IsLawful E) (steady : IsSteady E acts) (to : N → List N) (Ended : W → N → Type 0) (tells : Tells E acts Ended) where
  abbrev Has : List N → N → Type 0
  Has xs y = is_in E.same xs y ≡ true

  abbrev I : W → List N → Type 0
  I = Inv E to Ended

  abbrev Onwards : W → W → Type 0
  Onwards = Since E to Ended

  abbrev fine : BodyCalls N V W S
  fine = Fine E acts L steady to Ended tells

  one : (x y : N) → Has (x ∷ []) y → y ≡ x
  one x y h = either (in_cons E.same L.names.own L.names.equal x [] y h) (λ e. e) (λ k. cc)

  nothing : (y : N) → Has [] y → ⊥
  nothing y h = cc

  -- ---- calls change no nodes

  call_since : {w v : W} {c : Call N} {r : Result (CallAnswer V c) S} → acts w c r v → Grows E to Ended w v → Onwards w v
  call_since {w} {v} {c} {r} p g = let s = steady.call w v c r p in since_nodes E to Ended w v s.nodes s.stamps s.awaits g

  run_since : {w v : W} {x : N} {end : WalkEnd V S} → Executes E acts w x end v → Grows E to Ended w v → Onwards w v
  run_since (Executes.ends p) g = call_since p g
  run_since (Executes.throws u p) g = call_since p g
  run_since (Executes.stops why p) g = call_since p g

  start_since : {w v : W} {x : N} → ExecutesAsync E acts w x Ends v → Grows E to Ended w v → Onwards w v
  start_since {w} {v} {x} (ExecutesAsync.starts p) g =
      let s = steady.call _ _ _ _ p in
      let l = L.make_body_promise w x in
      since_nodes E to Ended w v (λ y. s.nodes y ∙ l.far.nodes y) (s.stamps ∙ l.far.stamps)
      (λ y h. s.awaits y (ap (λ n. was_entered n.phase) (l.far.nodes y) ∙ h) ∙ l.awaits y) g

  -- ---- the modules that were ready in w go on, in turn

  module _ (w : W) (b : Base E to Ended w []) where
    -- of these those that were ready and don't await are Evaluated
    abbrev Passed : W → List N → Type 0
    Passed u past = (y : N) → Has past y → IsReady E w y → E.awaits w y ≡ false → phase E u y ≡ Evaluated

    ready_phase : {x : N} → IsReady E w x → phase E w x ≡ EvaluatingAsync
    ready_phase (IsReady.ready s p n f o) = p

    ready_waits : {x : N} → IsReady E w x → AreOver E w (waits E w x)
    ready_waits (IsReady.ready s p n f o) = o

    over_each : {ys : List N} → AreOver E w ys → (y : N) → Has ys y → (is_done E w y ≡ true) ⊎ ((E.awaits w y ≡ false) × IsReady E w y)
    over_each AreOver.none y h = absurd (nothing y h)
    over_each (AreOver.done {y = z} {ys = zs} d p) y h = either (in_cons E.same L.names.own L.names.equal z zs y h) (λ e. inl (subst (λ t. is_done E w t ≡ true) (sym e) d)) (over_each p y)
    over_each (AreOver.joins {y = z} {ys = zs} a r p) y h = either (in_cons E.same L.names.own L.names.equal z zs y h) (λ e. inr (subst (λ t. E.awaits w t ≡ false) (sym e) a, subst (λ t. IsReady E w t) (sym e) r)) (over_each p y)

    record Turn (u : W) (x : N) : Type 0 where
      async : phase E u x ≡ EvaluatingAsync
      over : (y : N) → Has (waits E u x) y → Over E to Ended u y
      needs : ReadyAt E acts L steady to Ended tells u x

    entered : {u : W} {x : N} → Turn u x → phase E u x ≡ NotEntered → ⊥
    entered t h = new_apart (sym h ∙ t.async)

    -- at the turn of x all that it waits for is over
    turn : {u : W} {x : N} (past rest : List N) → E.stamps w ≡ past ++ x ∷ rest → IsReady E w x → Onwards w u → I u [] → Passed u past → (phase E u x ≡ Evaluated → ⊥) → Turn u x
    turn {u} {x} past rest e r s i k n = record {
      async = async;
      over = over;
      needs = let q = i.base.rooted x (inl async) in ready_shut E to Ended tells.begun i.base x q.0 q.1 over;
    }
      where
        async : phase E u x ≡ EvaluatingAsync
        async = either (s.phases x) (λ q. q ∙ ready_phase r) (λ q. absurd (n q))

        clean : (y : N) → Has (waits E u x) y → (o : Option V) → (E.node u y).error ≡ o → (E.node u y).error ≡ None
        clean y h None q = q
        clean y h (Some v) q = absurd (n (i.failed x y v h q))

        ended : (y : N) → Has (waits E w x) y → phase E u y ≡ Evaluated
        ended y h = either (over_each (ready_waits r) y h) (λ d. stays_over E to Ended s y (b.done y d)) (λ q. k y (b.order x y past rest e h) q.1 q.0)

        over : (y : N) → Has (waits E u x) y → Over E to Ended u y
        over y h = record { phase_is = ended y (subst (λ zs. Has zs y) (s.all_waits x) h); clean = clean y h (E.node u y).error refl }

    passed_on : {u v : W} (past : List N) → Onwards u v → Passed u past → Passed v past
    passed_on past s k y h r a = stays_over E to Ended s y (k y h r a)

    passed_more : {v : W} (past : List N) (x : N) → Passed v past → (IsReady E w x → E.awaits w x ≡ false → phase E v x ≡ Evaluated) → Passed v (past ++ x ∷ [])
    passed_more {v} past x k f y h r a = either (in_split E.same L.names.own L.names.equal past (x ∷ []) y h) (λ q. k y q r a)
        (λ q. let e : y ≡ x = one x y q in subst (λ t. phase E v t ≡ Evaluated) (sym e) (f (subst (λ t. IsReady E w t) e r) (subst (λ t. E.awaits w t ≡ false) e a)))

    further : (past : List N) (x : N) (rest : List N) → E.stamps w ≡ past ++ x ∷ rest → E.stamps w ≡ (past ++ x ∷ []) ++ rest
    further past x rest e = e ∙ sym (append_assoc past (x ∷ []) rest)

    -- a module that awaits isn't among those that run
    apart : {u : W} {x : N} → IsReady E w x → Onwards w u → E.awaits u x ≡ true → E.awaits w x ≡ false → ⊥
    apart {u} {x} r s o a = not_both (E.awaits w x) (sym (s.awaits x (ap was_entered (ready_phase r))) ∙ o) a

    go_on : {rest xs : List N} {u v : W} {end : Result (Unit {0}) S} (past : List N) → ReadyAmong E w rest xs → E.stamps w ≡ past ++ rest → Onwards w u → I u [] → Passed u past → GoOn E acts u xs end v → GoOn E fine u xs end v × I v []
    go_on past ReadyAmong.none e s i k GoOn.none = (GoOn.none, i)
    go_on past (ReadyAmong.dropped {x = x} {xs = rest} n p) e s i k g = go_on (past ++ x ∷ []) p (further past x rest e) s i (passed_more past x k (λ r a. absurd (n r))) g
    go_on past (ReadyAmong.kept {x = x} {xs = rest} r p) e s i k (GoOn.skips h g) =
        let q = go_on (past ++ x ∷ []) p (further past x rest e) s i (passed_more past x k (λ j a. h)) g in
        (GoOn.skips h q.0, q.1)
    go_on past (ReadyAmong.kept {x = x} {xs = rest} r p) e s i k (GoOn.starts n o c g) =
        let t = turn past rest e r s i k n in
        let f = starts_fine E acts L steady to Ended tells [] (entered t) t.over t.needs i c in
        let m = start_since c f.called.grows in
        let q = go_on (past ++ x ∷ []) p (further past x rest e) (since_on E to Ended s m) f.called.inv (passed_more past x (passed_on past m k) (λ j a. absurd (apart r s o a))) g in
        (GoOn.starts n o f.fine q.0, q.1)
    go_on past (ReadyAmong.kept {x = x} {xs = rest} r p) e s i k (GoOn.start_stops why n o c) =
        let t = turn past rest e r s i k n in
        let f = starts_fine E acts L steady to Ended tells [] (entered t) t.over t.needs i c in
        (GoOn.start_stops why n o f.fine, f.called.inv)
    go_on {u = u} past (ReadyAmong.kept {x = x} {xs = rest} r p) e s i k (GoOn.runs {mid = mid} n o c g) =
        let t = turn past rest e r s i k n in
        let f = runs_fine E acts L steady to Ended tells [] (entered t) t.over t.needs i c in
        let a : phase E mid x ≡ EvaluatingAsync = ap (λ n. n.phase) (f.called.nodes x) ∙ t.async in
        let d : Ended mid x = f.ended refl in
        let m : Onwards u (finish E mid x) = since_on E to Ended (run_since c f.called.grows) (finish_since E acts L steady to Ended tells mid x a d) in
        let q = go_on (past ++ x ∷ []) p (further past x rest e) (since_on E to Ended s m) (finish_inv E acts L steady to Ended tells mid x a d f.called.inv)
        (passed_more past x (passed_on past m k) (λ j l. finish_now E acts L steady to Ended tells mid x)) g in
        (GoOn.runs n o f.fine q.0, q.1)
    go_on {u = u} past (ReadyAmong.kept {x = x} {xs = rest} r p) e s i k (GoOn.throws {late = late} v n o c d g) =
        let t = turn past rest e r s i k n in
        let f = runs_fine E acts L steady to Ended tells [] (entered t) t.over t.needs i c in
        let j = rejected E acts L steady to Ended tells d f.called.inv in
        let m : Onwards u late = since_on E to Ended (run_since c f.called.grows) j.since in
        let q = go_on (past ++ x ∷ []) p (further past x rest e) (since_on E to Ended s m) j.inv (passed_more past x (passed_on past m k) (λ z l. j.now)) g in
        (GoOn.throws v n o f.fine d q.0, q.1)
    go_on past (ReadyAmong.kept {x = x} {xs = rest} r p) e s i k (GoOn.run_stops why n o c) =
        let t = turn past rest e r s i k n in
        let f = runs_fine E acts L steady to Ended tells [] (entered t) t.over t.needs i c in
        (GoOn.run_stops why n o f.fine, f.called.inv)

  -- a body that has ended is that of a module that was left
  ended_async : (w : W) (m : N) → I w [] → Ended w m → (phase E w m ≡ Evaluated → ⊥) → phase E w m ≡ EvaluatingAsync
  ended_async w m i h n = by (phase E w m) refl
    where
      by : (p : Phase) → phase E w m ≡ p → phase E w m ≡ EvaluatingAsync
      by NotEntered e = absurd (not_both (E.begun w m) (tells.begun w m h) (i.base.unbegun m e))
      by Evaluating e = absurd (nothing m (i.base.open_is m e))
      by EvaluatingAsync e = e
      by Evaluated e = absurd (n e)

  pub fulfills_fine : (w v : W) (m : N) (a : Result (Unit {0}) S) → I w [] → ((phase E w m ≡ Evaluated → ⊥) → Ended w m) → Fulfills E acts w m a v → Fulfills E fine w m a v × I v []
  fulfills_fine w v m a i ended (Fulfills.over h) = (Fulfills.over h, i)
  fulfills_fine w v m a i ended (Fulfills.goes_on n r g) =
      let d = ended n in
      let l = finish_inv E acts L steady to Ended tells w m (ended_async w m i d n) d i in
      let q = go_on (finish E w m) l.base [] r refl (since_same E to Ended (finish E w m)) l (λ y h j k. absurd (nothing y h)) g in
      (Fulfills.goes_on n r q.0, q.1)
