-- The calls for bodies that evaluation makes: of modules that were entered and are linked, each started where it awaits.
use Rattle.std.proofs.Common.{◌≡◌, ℕ, Bool, true, false, List, [], ◌∷◌, ◌++◌, Option, Some, None, refl, ap, subst, sym, ◌∙◌}
use Rattle.std.specs.Prelude.{Result}
use Rattle.std.proofs.lemmas.List.{append-nil}
use Rattle.esm_realm.specs.Walk.{Mark}
use Rattle.esm_base.specs.Lists.{is_in}
use Rattle.esm_realm.specs.Components.{opened_from}
use Rattle.esm_realm.proofs.Urls.{not_both}
use Rattle.esm_realm.proofs.Lists.{either, in_first, in_later, in_cons}
use Rattle.esm_eval.specs.Nodes.{Evaluating, was_entered, Node, Call, Start, BodyCalls, module_of}
use Rattle.esm_eval.specs.Evaluation.{Evaluation, IsLawful, IsSteady, phase, is_stamped, root_of, add_wait, wait_on, put_wait, waits, waiters}
use Rattle.esm_eval.specs.Evaluate.{WalkEnd, ExecutesAsync, Executes, Leaves, Marks, Walks, EvaluatesRoot, Evaluates, enter, close, keep, closed_phase}
use Rattle.esm_eval.specs.Evaluate.Marks.{done, enters, passes, pass_throws, stays, component, leave_throws, leave_stops}
use Rattle.esm_eval.specs.BodyEnd.{ReadyAmong, GoOn, Fulfills, finish}
use Rattle.esm_eval.specs.Naming.{is_start}
use Rattle.esm_eval.proofs.Fits.{Fits, walk_fits}
use Rattle.esm_eval.proofs.Puts.{put_at}
use Rattle.esm_eval.proofs.WalkKeeps.{keep_like}
use Rattle.esm_eval.proofs.Marked.{AreMarked, visits_marked}
use Rattle.esm_eval.proofs.EndsKeep.{Later, finished, rejects_go, among_ready, ready_entered}

module _ {N V W : Type 0} (E : Evaluation N V W) (IsLinked : N → Type 0) where
  -- such a call, but for what has begun
  pub record MayCall (w : W) (c : Call N) : Type 0 where
    pub linked : IsLinked (module_of c)
    pub entered : was_entered (phase E w (module_of c)) ≡ true
    pub awaits : E.awaits w (module_of c) ≡ is_start c

  abbrev pub Due : {S : Type 0} → BodyCalls N V W S → BodyCalls N V W S
  Due acts w c r v = MayCall w c × acts w c r v

module _ {N V W : Type 0} (E : Evaluation N V W) (L : IsLawful E) where
  abbrev Entered : W → N → Type 0
  Entered w y = was_entered (phase E w y) ≡ true

  -- what was entered still is
  abbrev pub Onwards : W → W → Type 0
  Onwards w v = (y : N) → Entered w y → Entered v y

  onwards_nodes : (w v : W) → ((y : N) → E.node v y ≡ E.node w y) → Onwards w v
  onwards_nodes w v e y h = ap (λ n. was_entered n.phase) (e y) ∙ h

  onwards_put : (w : W) (x : N) (n : Node N V) → (Entered w x → was_entered n.phase ≡ true) → Onwards w (E.put w x n)
  onwards_put w x n f y h = either (put_at E L w x n y)
      (λ q. ap (λ m. was_entered m.phase) q.1 ∙ f (subst (λ z. Entered w z) q.0 h))
      (λ q. ap (λ m. was_entered m.phase) q.1 ∙ h)

  onwards_enter : (w : W) (x : N) → Onwards w (enter E w x)
  onwards_enter w x = onwards_put w x (record (E.node w x) { phase = Evaluating }) (λ h. refl)

  now_entered : (w : W) (x : N) → Entered (enter E w x) x
  now_entered w x = either (put_at E L w x (record (E.node w x) { phase = Evaluating }) x)
      (λ q. ap (λ m. was_entered m.phase) q.1)
      (λ q. absurd (not_both (E.same x x) (L.names.own x) q.0))

  onwards_wait : (w : W) (x : N) (o : Option N) → Onwards w (add_wait E w x o)
  onwards_wait w x None y h = h
  onwards_wait w x (Some z) y h =
      let v : W = put_wait E w x z in
      let n : Node N V = record (E.node w x) { waits = waits E w x ++ z ∷ [] } in
      let m : Node N V = record (E.node v z) { waiters = waiters E v z ++ x ∷ [] } in
      onwards_put v z m (λ k. k) y (onwards_put w x n (λ k. k) y h)

  closed_entered : (b : Bool) → was_entered (closed_phase E b) ≡ true
  closed_entered true = refl
  closed_entered false = refl

  onwards_close : (x : N) (ys : List N) (w : W) → Onwards w (close E w x ys)
  onwards_close x [] w y h = h
  onwards_close x (z ∷ zs) w y h =
      let n : Node N V = record (E.node w z) { phase = closed_phase E (is_stamped E w z); cycle_root = Some x } in
      onwards_close x zs (E.put w z n) y (onwards_put w z n (λ k. closed_entered (is_stamped E w z)) y h)

  onwards_later : (w v : W) → Later E w v → Onwards w v
  onwards_later w v l y h = either (l.phases y) (λ e. ap was_entered e ∙ h) (λ e. ap was_entered e)

  among_in : {w : W} {zs xs : List N} → ReadyAmong E w zs xs → (y : N) → is_in E.same xs y ≡ true → is_in E.same zs y ≡ true
  among_in ReadyAmong.none y h = h
  among_in (ReadyAmong.kept {x = x} {xs = zs} {ys = ys} r p) y h =
      either (in_cons E.same L.names.own L.names.equal x ys y h)
      (λ e. subst (λ z. is_in E.same (x ∷ zs) z ≡ true) (sym e) (in_first E.same L.names.own L.names.equal x zs))
      (λ k. in_later E.same L.names.own L.names.equal x zs y (among_in p y k))
  among_in (ReadyAmong.dropped {x = x} {xs = zs} n p) y h = in_later E.same L.names.own L.names.equal x zs y (among_in p y h)

module _ {N V W S : Type 0} (E : Evaluation N V W) (acts : BodyCalls N V W S) (L : IsLawful E) (steady : IsSteady E acts) (IsLinked : N → Type 0) where
  abbrev Calls : BodyCalls N V W S
  Calls w c r v = Due E IsLinked acts w c r v

  run_due : {w : W} {x : N} {end : WalkEnd V S} {mid : W} → Executes E acts w x end mid → Entered E L w x → IsLinked x → E.awaits w x ≡ false → Executes E Calls w x end mid
  run_due {w} {x} (Executes.ends p) b m o = Executes.ends (record { linked = m; entered = b; awaits = o }, p)
  run_due {w} {x} (Executes.throws v p) b m o = Executes.throws v (record { linked = m; entered = b; awaits = o }, p)
  run_due {w} {x} (Executes.stops why p) b m o = Executes.stops why (record { linked = m; entered = b; awaits = o }, p)

  may_start : (w : W) (x : N) → Entered E L w x → IsLinked x → E.awaits w x ≡ true → MayCall E IsLinked (E.make_body_promise w x) (Start x (E.next_promise w))
  may_start w x b m o =
      let l = L.make_body_promise w x in
      record { linked = m; entered = onwards_nodes E L w (E.make_body_promise w x) l.far.nodes x b; awaits = l.awaits x ∙ o }

  start_due : {w : W} {x : N} {end : WalkEnd V S} {mid : W} → ExecutesAsync E acts w x end mid → Entered E L w x → IsLinked x → E.awaits w x ≡ true → ExecutesAsync E Calls w x end mid
  start_due {w} {x} (ExecutesAsync.starts p) b m o = ExecutesAsync.starts (may_start w x b m o, p)
  start_due {w} {x} (ExecutesAsync.stops why p) b m o = ExecutesAsync.stops why (may_start w x b m o, p)

  run_onwards : {w : W} {x : N} {end : WalkEnd V S} {mid : W} → Executes E acts w x end mid → Onwards E L w mid
  run_onwards {w} {mid = mid} (Executes.ends p) = onwards_nodes E L w mid (steady.call _ _ _ _ p).nodes
  run_onwards {w} {mid = mid} (Executes.throws v p) = onwards_nodes E L w mid (steady.call _ _ _ _ p).nodes
  run_onwards {w} {mid = mid} (Executes.stops why p) = onwards_nodes E L w mid (steady.call _ _ _ _ p).nodes

  start_onwards : {w : W} {x : N} {end : WalkEnd V S} {mid : W} → ExecutesAsync E acts w x end mid → Onwards E L w mid
  start_onwards {w} {x} {mid = mid} (ExecutesAsync.starts p) = let s = steady.call _ _ _ _ p in onwards_nodes E L w mid (λ y. s.nodes y ∙ (L.make_body_promise w x).far.nodes y)
  start_onwards {w} {x} {mid = mid} (ExecutesAsync.stops why p) = let s = steady.call _ _ _ _ p in onwards_nodes E L w mid (λ y. s.nodes y ∙ (L.make_body_promise w x).far.nodes y)

  leave_due : {w : W} {x : N} {end : WalkEnd V S} {mid : W} → Leaves E acts w x end mid → Entered E L w x → IsLinked x → Leaves E Calls w x end mid
  leave_due (Leaves.runs n o r) b m = Leaves.runs n o (run_due r b m o)
  leave_due {w} {x} (Leaves.starts n o r) b m =
      let l = L.add_stamp w x in
      Leaves.starts n o (start_due r (onwards_nodes E L w (E.add_stamp w x) l.nodes x b) m (l.awaits x ∙ o))
  leave_due (Leaves.waiting n) b m = Leaves.waiting n

  leave_onwards : {w : W} {x : N} {end : WalkEnd V S} {mid : W} → Leaves E acts w x end mid → Onwards E L w mid
  leave_onwards (Leaves.runs n o r) = run_onwards r
  leave_onwards {w} {x} (Leaves.starts n o r) = λ y h. start_onwards r y (onwards_nodes E L w (E.add_stamp w x) (L.add_stamp w x).nodes y h)
  leave_onwards {w} {x} (Leaves.waiting n) = onwards_nodes E L w (E.add_stamp w x) (L.add_stamp w x).nodes

  -- ---- a walk

  module _ (to : N → List N) (inside : (x t : N) → IsLinked x → is_in E.same (to x) t ≡ true → IsLinked t) where
    abbrev Fit : List N → List (Mark N) → Type 0
    Fit = Fits E.same L.names.own L.names.equal to

    abbrev Linked : List (Mark N) → Type 0
    Linked ms = AreMarked E.same L.names.own L.names.equal to IsLinked inside ms

    abbrev Seen : W → List N → Type 0
    Seen w seen = (y : N) → is_in E.same seen y ≡ true → Entered E L w y

    seen_enter : (w : W) (x : N) (seen : List N) → Seen w seen → Seen (enter E w x) (x ∷ seen)
    seen_enter w x seen k y h = either (in_cons E.same L.names.own L.names.equal x seen y h)
        (λ e. subst (λ z. Entered E L (enter E w x) z) (sym e) (now_entered E L w x))
        (λ i. onwards_enter E L w x y (k y i))

    marks_due : {w : W} {opened : List N} {ms : List (Mark N)} {end : WalkEnd V S} {after : W} (seen : List N) → Marks E acts to w opened ms end after → Fit seen ms → Linked ms → Seen w seen → Marks E Calls to w opened ms end after
    marks_due seen done f m k = done
    marks_due {w} seen (enters {x = x} p) f m k = enters (marks_due (x ∷ seen) p f.1 m.1 (seen_enter w x seen k))
    marks_due {w} seen (passes {x = x} {t = t} s n p) f m k = passes s n (marks_due seen p f.1 m.2 (λ y h. onwards_wait E L w x (wait_on E w t) y (k y h)))
    marks_due seen (pass_throws v s n) f m k = pass_throws v s n
    marks_due seen (stays {x = x} l c p) f m k = stays (leave_due l (k x f.0) m.0) c (marks_due seen p f.1 m.1 (λ y h. leave_onwards l y (k y h)))
    marks_due {opened = opened} seen (component {mid = mid} {x = x} l c p) f m k =
        component (leave_due l (k x f.0) m.0) c (marks_due seen p f.1 m.1 (λ y h. onwards_close E L x (opened_from E.same opened x) mid y (leave_onwards l y (k y h))))
    marks_due seen (leave_throws {x = x} v l) f m k = leave_throws v (leave_due l (k x f.0) m.0)
    marks_due seen (leave_stops {x = x} why l) f m k = leave_stops why (leave_due l (k x f.0) m.0)

  walks_due : (w : W) (m : N) (end : WalkEnd V S) (after : W) → IsLinked m → ((x t : N) → IsLinked x → is_in E.same (E.targets w x) t ≡ true → IsLinked t) → Walks E acts w m (keep E w m) end after → Walks E Calls w m (keep E w m) end after
  walks_due w m end after linked inside p =
      let to = E.targets w in
      record {
        closed = p.closed;
        closed_is = p.closed_is;
        marks = p.marks;
        walk = p.walk;
        leads = marks_due to inside p.closed p.leads
            (subst (λ ms. Fits E.same L.names.own L.names.equal to p.closed ms) (append-nil p.marks) (walk_fits E.same L.names.own L.names.equal to p.walk.1))
            (visits_marked E.same L.names.own L.names.equal to IsLinked inside p.walk.1 linked)
            (λ y h. ap was_entered ((keep_like E acts L steady w m).phases y) ∙ (sym (p.closed_is y) ∙ h));
      }

  root_due : {w : W} {m : N} {a : Result ℕ S} {after : W} → IsLinked m → ((x t : N) → IsLinked x → is_in E.same (E.targets w x) t ≡ true → IsLinked t) → EvaluatesRoot E acts w m a after → EvaluatesRoot E Calls w m a after
  root_due linked inside (EvaluatesRoot.kept p h) = EvaluatesRoot.kept p h
  root_due linked inside (EvaluatesRoot.thrown v h e) = EvaluatesRoot.thrown v h e
  root_due linked inside (EvaluatesRoot.walks h e p) = EvaluatesRoot.walks h e (walks_due _ _ _ _ linked inside p)
  root_due linked inside (EvaluatesRoot.throws v h e p) = EvaluatesRoot.throws v h e (walks_due _ _ _ _ linked inside p)
  root_due linked inside (EvaluatesRoot.stops why h e p) = EvaluatesRoot.stops why h e (walks_due _ _ _ _ linked inside p)

  pub evaluates_due : (w after : W) (m : N) (a : Result ℕ S) → IsLinked (root_of E w m) → ((x t : N) → IsLinked x → is_in E.same (E.targets w x) t ≡ true → IsLinked t) → Evaluates E acts w m a after → Evaluates E Calls w m a after
  evaluates_due w after m a linked inside p = root_due linked inside p

  -- ---- the end of a body

  abbrev AllEntered : W → List N → Type 0
  AllEntered w xs = (y : N) → is_in E.same xs y ≡ true → Entered E L w y

  abbrev AllLinked : List N → Type 0
  AllLinked xs = (y : N) → is_in E.same xs y ≡ true → IsLinked y

  go_due : {w : W} {xs : List N} {end : Result (Unit {0}) S} {v : W} → GoOn E acts w xs end v → AllEntered w xs → AllLinked xs → GoOn E Calls w xs end v
  go_due GoOn.none b m = GoOn.none
  go_due (GoOn.skips {x = x} {xs = xs} h p) b m =
      let later = in_later E.same L.names.own L.names.equal x xs in
      GoOn.skips h (go_due p (λ y i. b y (later y i)) (λ y i. m y (later y i)))
  go_due (GoOn.starts {x = x} {xs = xs} n o s p) b m =
      let first = in_first E.same L.names.own L.names.equal x xs in
      let later = in_later E.same L.names.own L.names.equal x xs in
      GoOn.starts n o (start_due s (b x first) (m x first) o) (go_due p (λ y i. start_onwards s y (b y (later y i))) (λ y i. m y (later y i)))
  go_due (GoOn.start_stops {x = x} {xs = xs} why n o s) b m =
      let first = in_first E.same L.names.own L.names.equal x xs in
      GoOn.start_stops why n o (start_due s (b x first) (m x first) o)
  go_due (GoOn.runs {mid = mid} {x = x} {xs = xs} n o s p) b m =
      let first = in_first E.same L.names.own L.names.equal x xs in
      let later = in_later E.same L.names.own L.names.equal x xs in
      GoOn.runs n o (run_due s (b x first) (m x first) o)
      (go_due p (λ y i. onwards_later E L mid (finish E mid x) (finished E L mid x).later y (run_onwards s y (b y (later y i)))) (λ y i. m y (later y i)))
  go_due (GoOn.throws {mid = mid} {late = late} {x = x} {xs = xs} u n o s q p) b m =
      let first = in_first E.same L.names.own L.names.equal x xs in
      let later = in_later E.same L.names.own L.names.equal x xs in
      GoOn.throws u n o (run_due s (b x first) (m x first) o) q
      (go_due p (λ y i. onwards_later E L mid late (rejects_go E L q).later y (run_onwards s y (b y (later y i)))) (λ y i. m y (later y i)))
  go_due (GoOn.run_stops {x = x} {xs = xs} why n o s) b m =
      let first = in_first E.same L.names.own L.names.equal x xs in
      GoOn.run_stops why n o (run_due s (b x first) (m x first) o)

  pub fulfills_due : (w after : W) (m : N) (a : Result (Unit {0}) S) → ((x : N) → is_stamped E w x ≡ true → IsLinked x) → Fulfills E acts w m a after → Fulfills E Calls w m a after
  fulfills_due w after m a linked (Fulfills.over h) = Fulfills.over h
  fulfills_due w after m a linked (Fulfills.goes_on {xs = xs} n r p) =
      let stamps = (finished E L w m).later.grown.stamps in
      Fulfills.goes_on n r (go_due p (λ y h. ready_entered E L (among_ready E L r y h))
      (λ y h. linked y (subst (λ zs. is_in E.same zs y ≡ true) stamps (among_in E L r y h))))
