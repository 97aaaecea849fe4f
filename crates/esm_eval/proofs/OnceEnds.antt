-- No body begins twice: behind the end of a body.
use Rattle.std.proofs.Common.{◌≡◌, true, false, List, [], ◌∷◌, Some, refl, ap, subst, sym, ◌∙◌, inl, inr}
use Rattle.std.specs.Prelude.{◌⊎◌, Result, Ok}
use Rattle.esm_base.specs.Lists.{is_in, EachOnce}
use Rattle.esm_realm.proofs.Urls.{not_true, not_both}
use Rattle.esm_realm.proofs.Lists.{either, in_first, in_later, in_cons}
use Rattle.esm_eval.specs.Nodes.{NotEntered, Evaluated, was_entered, BodyCalls}
use Rattle.esm_eval.specs.Evaluation.{Evaluation, IsLawful, IsSteady, phase}
use Rattle.esm_eval.specs.BodyEnd.{IsReady, ReadyAmong, Rejects, RejectsAll, GoOn, Fulfills, finish, refuse}
use Rattle.esm_eval.specs.Begins.{First, BeginsOne, HaveBegunOnce}
use Rattle.esm_eval.specs.Laws.{BeginsOnce}
use Rattle.esm_eval.proofs.Amid.{In}
use Rattle.esm_eval.proofs.EndsKeep.{Later, later_on, rejects_go, finished, kept_alike, refused_alike, among_ready, rejects_keep, fulfills_keep, go_on, ready_entered}
use Rattle.esm_eval.proofs.WaitsStayOpen.{opens}
use Rattle.esm_eval.proofs.Once.{IsQuiet, quiet_on, quiet_put, quiet_same, quiet_alike, once_run, once_start, run_of, start_of, CallOf, evaluates_once, evaluates_keeps_unbegun}

module _ {N V W : Type 0} (E : Evaluation N V W) (L : IsLawful E) where
  pub quiet_finish : (w : W) (x : N) → IsQuiet E L w (finish E w x)
  quiet_finish w x =
      let v : W = E.put w x (record (E.node w x) { phase = Evaluated; done = true }) in
      quiet_on E L w v (finish E w x) (quiet_put E L w x _) (quiet_alike E L v (finish E w x) (kept_alike E L v (E.node w x).promise))

  quiet_refuse : (w : W) (x : N) (u : V) → IsQuiet E L w (refuse E w x u)
  quiet_refuse w x u =
      let v : W = E.put w x (record (E.node w x) { phase = Evaluated; error = Some u; done = true }) in
      quiet_on E L w v (refuse E w x u) (quiet_put E L w x _) (quiet_alike E L v (refuse E w x u) (refused_alike E L v (E.node w x).promise u))

  mutual
    pub quiet_rejects : {w : W} {x : N} {u : V} {v : W} → Rejects E w x u v → IsQuiet E L w v
    quiet_rejects {w} (Rejects.over h) = quiet_same E L w
    quiet_rejects {w} {x} {u} {v} (Rejects.rejects n p) = quiet_on E L w (refuse E w x u) v (quiet_refuse w x u) (quiet_rejects_all p)

    quiet_rejects_all : {w : W} {xs : List N} {u : V} {v : W} → RejectsAll E w xs u v → IsQuiet E L w v
    quiet_rejects_all {w} RejectsAll.none = quiet_same E L w
    quiet_rejects_all {w} {v = v} (RejectsAll.next {mid = mid} p q) = quiet_on E L w mid v (quiet_rejects p) (quiet_rejects_all q)

  pub among_in : {w : W} {zs xs : List N} → ReadyAmong E w zs xs → (y : N) → In E xs y → In E zs y
  among_in ReadyAmong.none y h = h
  among_in (ReadyAmong.kept {x = x} {xs = zs} {ys = ys} r p) y h = either (in_cons E.same L.names.own L.names.equal x ys y h) (λ e. subst (λ z. In E (x ∷ zs) z) (sym e) (in_first E.same L.names.own L.names.equal x zs)) (λ k. in_later E.same L.names.own L.names.equal x zs y (among_in p y k))
  among_in (ReadyAmong.dropped {x = x} {xs = zs} n p) y h = in_later E.same L.names.own L.names.equal x zs y (among_in p y h)

  among_distinct : {w : W} {zs xs : List N} → ReadyAmong E w zs xs → EachOnce E.same zs → EachOnce E.same xs
  among_distinct ReadyAmong.none d = tt
  among_distinct (ReadyAmong.kept {x = x} {xs = zs} {ys = ys} r p) d = (not_true (is_in E.same ys x) (λ k. not_both (is_in E.same zs x) (among_in p x k) d.0), among_distinct p d.1)
  among_distinct (ReadyAmong.dropped n p) d = among_distinct p d.1

  ready_unbegun : {w : W} {y : N} → IsReady E w y → E.begun w y ≡ false
  ready_unbegun (IsReady.ready s p b f r) = b

  -- no stamp is given, and only these bodies may have begun
  record Began (w v : W) (xs : List N) : Type 0 where
    stamps : E.stamps v ≡ E.stamps w
    begun : (y : N) → E.begun v y ≡ true → (E.begun w y ≡ true) ⊎ In E xs y

  Unbegun : W → List N → Type 0
  Unbegun w xs = (y : N) → In E xs y → E.begun w y ≡ false

  began_quiet : (w v : W) (x : N) → IsQuiet E L w v → Began w v (x ∷ [])
  began_quiet w v x q = record { stamps = q.stamps; begun = λ y h. inl (sym (q.begun y) ∙ h) }

  began_on : (w u v : W) (x : N) (xs : List N) → Began w u (x ∷ []) → Began u v xs → Began w v (x ∷ xs)
  began_on w u v x xs k l = record {
    stamps = l.stamps ∙ k.stamps;
    begun = λ y h. either (l.begun y h) (λ i. either (k.begun y i) inl (λ j. inr (either (in_cons E.same L.names.own L.names.equal x [] y j) (λ e. subst (λ z. In E (x ∷ xs) z) (sym e) (in_first E.same L.names.own L.names.equal x xs)) (λ z. cc)))) (λ i. inr (in_later E.same L.names.own L.names.equal x xs y i));
  }

  rest_unbegun : (w u : W) (x : N) (xs : List N) → EachOnce E.same (x ∷ xs) → Unbegun w (x ∷ xs) → Began w u (x ∷ []) → Unbegun u xs
  unfolding Unbegun
  rest_unbegun w u x xs d b k y h = not_true (E.begun u y) (λ i. either (k.begun y i) (λ j. not_both (E.begun w y) j (b y (in_later E.same L.names.own L.names.equal x xs y h)))
      (λ j. either (in_cons E.same L.names.own L.names.equal x [] y j) (λ e. not_both (is_in E.same xs x) (subst (λ z. In E xs z) e h) d.0) (λ z. cc)))

module _ {N V W S : Type 0} (E : Evaluation N V W) (acts : BodyCalls N V W S) (L : IsLawful E) (steady : IsSteady E acts) (one : BeginsOne E acts) where
  began_call : (w v : W) (x : N) → CallOf E acts L steady one w v x → Began E L w v (x ∷ [])
  began_call w v x c = record { stamps = c.stamps; begun = λ y h. either (c.begun y h) inl (λ e. inr (subst (λ z. In E (x ∷ []) z) (sym e) (in_first E.same L.names.own L.names.equal x []))) }

  began_then : (w u v : W) (x : N) → Began E L w u (x ∷ []) → IsQuiet E L u v → Began E L w v (x ∷ [])
  began_then w u v x k q = record { stamps = q.stamps ∙ k.stamps; begun = λ y h. k.begun y (sym (q.begun y) ∙ h) }

  go_once : {w : W} {xs : List N} {end : Result (Unit {0}) S} {v : W} → GoOn E acts w xs end v → EachOnce E.same xs → Unbegun E L w xs → GoOn E (First E acts) w xs end v × Began E L w v xs
  unfolding Unbegun
  go_once {w} GoOn.none d b = (GoOn.none, record { stamps = refl; begun = λ y h. inl h })
  go_once {w} {v = v} (GoOn.skips {x = x} {xs = xs} h p) d b =
      let k = began_quiet E L w w x (quiet_same E L w) in
      let r = go_once p d.1 (rest_unbegun E L w w x xs d b k) in
      (GoOn.skips h r.0, began_on E L w w v x xs k r.1)
  go_once {w} {v = v} (GoOn.starts {mid = mid} {x = x} {xs = xs} n o s p) d b =
      let k = began_call w mid x (start_of E acts L steady one s) in
      let r = go_once p d.1 (rest_unbegun E L w mid x xs d b k) in
      (GoOn.starts n o (once_start E acts L steady one s (b x (in_first E.same L.names.own L.names.equal x xs))) r.0, began_on E L w mid v x xs k r.1)
  go_once {w} {v = v} (GoOn.runs {mid = mid} {x = x} {xs = xs} n o s p) d b =
      let k = began_then w mid (finish E mid x) x (began_call w mid x (run_of E acts L steady one s)) (quiet_finish E L mid x) in
      let r = go_once p d.1 (rest_unbegun E L w (finish E mid x) x xs d b k) in
      (GoOn.runs n o (once_run E acts L steady one s (b x (in_first E.same L.names.own L.names.equal x xs))) r.0, began_on E L w (finish E mid x) v x xs k r.1)
  go_once {w} {v = v} (GoOn.throws {mid = mid} {late = late} {x = x} {xs = xs} u n o s q p) d b =
      let k = began_then w mid late x (began_call w mid x (run_of E acts L steady one s)) (quiet_rejects E L q) in
      let r = go_once p d.1 (rest_unbegun E L w late x xs d b k) in
      (GoOn.throws u n o (once_run E acts L steady one s (b x (in_first E.same L.names.own L.names.equal x xs))) q r.0, began_on E L w late v x xs k r.1)
  go_once {w} {v = v} (GoOn.start_stops {x = x} {xs = xs} why n o s) d b = (
    GoOn.start_stops why n o (once_start E acts L steady one s (b x (in_first E.same L.names.own L.names.equal x xs))),
    began_on E L w v v x xs (began_call w v x (start_of E acts L steady one s)) (record { stamps = refl; begun = λ y h. inl h }),
  )
  go_once {w} {v = v} (GoOn.run_stops {x = x} {xs = xs} why n o s) d b = (
    GoOn.run_stops why n o (once_run E acts L steady one s (b x (in_first E.same L.names.own L.names.equal x xs))),
    began_on E L w v v x xs (began_call w v x (run_of E acts L steady one s)) (record { stamps = refl; begun = λ y h. inl h }),
  )

  -- the modules that are ready, in the order of stamps, before any of them goes on
  ready_once : (w : W) (m : N) (xs : List N) → HaveBegunOnce E w → ReadyAmong E (finish E w m) (E.stamps (finish E w m)) xs → EachOnce E.same xs × Unbegun E L (finish E w m) xs
  unfolding Unbegun
  ready_once w m xs u r =
      (among_distinct E L r (subst (λ zs. EachOnce E.same zs) (sym (quiet_finish E L w m).stamps) u.distinct), λ y h. ready_unbegun E L (among_ready E L r y h))

  pub ready_each : (w : W) (m : N) (xs : List N) → HaveBegunOnce E w → ReadyAmong E (finish E w m) (E.stamps (finish E w m)) xs → EachOnce E.same xs × ((y : N) → In E xs y → E.begun (finish E w m) y ≡ false)
  unfolding Unbegun
  ready_each w m xs u r = ready_once w m xs u r

  pub fulfills_once : (w after : W) (m : N) (a : Result (Unit {0}) S) → HaveBegunOnce E w → Fulfills E acts w m a after → Fulfills E (First E acts) w m a after
  fulfills_once w after m a u (Fulfills.over h) = Fulfills.over h
  fulfills_once w after m a u (Fulfills.goes_on {xs = xs} n r p) = let k = ready_once w m xs u r in Fulfills.goes_on n r (go_once p k.0 k.1).0

  pub rejects_keeps_unbegun : (w after : W) (m : N) (v : V) → HaveBegunOnce E w → Rejects E w m v after → HaveBegunOnce E after
  rejects_keeps_unbegun w after m v u p =
      let q = quiet_rejects E L p in
      let l = (rejects_go E L p).later in
      record {
        between = rejects_keep E L w after m v u.between p;
        unbegun = λ y h. q.begun y ∙ u.unbegun y (either (l.phases y) (λ e. sym e ∙ h) (λ e. let k = sym e ∙ h in cc));
        distinct = subst (λ zs. EachOnce E.same zs) (sym q.stamps) u.distinct;
      }

  went_unbegun : (w v : W) (m : N) (xs : List N) → HaveBegunOnce E w → Fulfills E acts w m (Ok tt) v → ReadyAmong E (finish E w m) (E.stamps (finish E w m)) xs → GoOn E acts (finish E w m) xs (Ok tt) v → HaveBegunOnce E v
  went_unbegun w v m xs u f r p =
      let k = ready_once w m xs u r in
      let b = (go_once p k.0 k.1).1 in
      let q = quiet_finish E L w m in
      let first = finished E L w m in
      let went = go_on E acts L steady p (λ x h. ready_entered E L (among_ready E L r x h)) in
      let l : Later E w v = later_on E w (finish E w m) v first.later went.later in
      let new : (y : N) → phase E v y ≡ NotEntered → phase E w y ≡ NotEntered = λ y h. either (l.phases y) (λ e. sym e ∙ h) (λ e. let i = sym e ∙ h in cc) in
      let before : (y : N) → phase E v y ≡ NotEntered → phase E (finish E w m) y ≡ NotEntered = λ y h. either (went.later.phases y) (λ e. sym e ∙ h) (λ e. let i = sym e ∙ h in cc) in
      record {
        between = fulfills_keep E acts L steady w v m u.between f;
        unbegun = λ y h. not_true (E.begun v y) (λ i. either (b.begun y i) (λ j. not_both (E.begun w y) (sym (q.begun y) ∙ j) (u.unbegun y (new y h)))
            (λ j. not_both (was_entered (phase E (finish E w m) y)) (ready_entered E L (among_ready E L r y j)) (ap was_entered (before y h))));
        distinct = subst (λ zs. EachOnce E.same zs) (sym (b.stamps ∙ q.stamps)) u.distinct;
      }

  pub fulfills_keeps_unbegun : (w after : W) (m : N) → HaveBegunOnce E w → Fulfills E acts w m (Ok tt) after → HaveBegunOnce E after
  fulfills_keeps_unbegun w after m u (Fulfills.over h) = u
  fulfills_keeps_unbegun w after m u (Fulfills.goes_on {xs = xs} n r p) = went_unbegun w after m xs u (Fulfills.goes_on n r p) r p

module _ {N V W S : Type 0} (E : Evaluation N V W) (acts : BodyCalls N V W S) where
  pub begins_once : BeginsOnce E acts
  begins_once L steady one = record {
    opening = λ w o b. record { between = opens E acts w o; unbegun = λ x h. b x; distinct = subst (λ xs. EachOnce E.same xs) (sym o.stamps) tt };
    evaluates = evaluates_once E acts L steady one;
    fulfills = fulfills_once E acts L steady one;
    keeps_evaluates = evaluates_keeps_unbegun E acts L steady one;
    keeps_fulfills = fulfills_keeps_unbegun E acts L steady one;
    keeps_rejects = rejects_keeps_unbegun E acts L steady one;
  }
