-- What the writes of evaluation keep of modules that are closed, or open and left.
use Rattle.std.proofs.Common.{◌≡◌, ◌⊎◌, inl, inr, ℕ, Bool, true, false, List, [], ◌∷◌, Option, Some, None, refl, ap, subst, sym, ◌∙◌}
use Rattle.std.specs.Prelude.{Result, Ok, ◌||◌}
use Rattle.esm_base.specs.Lists.{is_in}
use Rattle.esm_realm.proofs.Urls.{not_true, not_both, or_false}
use Rattle.esm_realm.proofs.Lists.{either, in_first, in_later, in_cons}
use Rattle.esm_eval.specs.Nodes.{NotEntered, Evaluating, EvaluatingAsync, Evaluated, Node, Call, CallAnswer, Run, BodyCalls, module_of}
use Rattle.esm_eval.specs.Evaluation.{Evaluation, IsLawful, IsSteady, IsAlike, phase, waits, waiters, is_done, is_stamped}
use Rattle.esm_eval.specs.Evaluate.{close, closed_phase, fail}
use Rattle.esm_values.specs.Ran.Ran.{Normal}
use Rattle.esm_eval.proofs.Amid.{IsLike, like_nodes}
use Rattle.esm_eval.proofs.Puts.{put_at, put_stamped}
use Rattle.esm_needs_laws.proofs.Shape.{young, Over, Shut, Grows, Base, Inv, shut_on}

-- what is said of bodies that have ended: writes keep it, and calls
pub record Tells {N V W S : Type 0} (E : Evaluation N V W) (acts : BodyCalls N V W S) (Ended : W → N → Type 0) : Type 0 where
  pub begun : (w : W) (y : N) → Ended w y → E.begun w y ≡ true
  pub put : (w : W) (x : N) (n : Node N V) (y : N) → Ended w y → Ended (E.put w x n) y
  pub stamp : (w : W) (x y : N) → Ended w y → Ended (E.add_stamp w x) y
  pub make : (w : W) (y : N) → Ended w y → Ended (E.make_promise w) y
  pub make_body : (w : W) (x y : N) → Ended w y → Ended (E.make_body_promise w x) y
  pub fulfill : (w : W) (p : ℕ) (y : N) → Ended w y → Ended (E.fulfill w p) y
  pub reject : (w : W) (p : ℕ) (v : V) (y : N) → Ended w y → Ended (E.reject w p v) y
  pub call : {w v : W} {c : Call N} {r : Result (CallAnswer V c) S} → acts w c r v → (y : N) → Ended w y → Ended v y
  pub runs : {w v : W} {m : N} → acts w (Run m) (Ok Normal) v → Ended v m
  pub others : {w v : W} {c : Call N} {r : Result (CallAnswer V c) S} → acts w c r v → (x : N) → E.begun v x ≡ true → (E.begun w x ≡ true) ⊎ (x ≡ module_of c)

module _ {N V W S : Type 0} (E : Evaluation N V W) (acts : BodyCalls N V W S) (L : IsLawful E) (steady : IsSteady E acts) (to : N → List N) (Ended : W → N → Type 0) (tells : Tells E acts Ended) where
  abbrev pub Has : List N → N → Type 0
  Has xs y = is_in E.same xs y ≡ true

  abbrev pub Out : List N → N → Type 0
  Out xs y = is_in E.same xs y ≡ false

  abbrev pub G : W → W → Type 0
  G = Grows E to Ended

  abbrev pub I : W → List N → Type 0
  I = Inv E to Ended

  abbrev pub IsOver : W → N → Type 0
  IsOver = Over E to Ended

  abbrev pub rooted_at : W → N → Option N
  rooted_at w y = (E.node w y).cycle_root

  abbrev pub error_at : W → N → Option V
  error_at w y = (E.node w y).error

  -- ---- nothing of nodes is changed

  module _ (w v : W) (l : IsLike E w v) (stamps : E.stamps v ≡ E.stamps w) (ended : (y : N) → Ended w y → Ended v y) where
    stamped_like : (y : N) → is_stamped E v y ≡ is_stamped E w y
    stamped_like y = ap (λ xs. is_in E.same xs y) stamps

    waits_back : (x y : N) → Has (waits E v x) y → Has (waits E w x) y
    waits_back x y h = subst (λ zs. Has zs y) (l.all_waits x) h

    over_back : (y : N) → IsOver v y → IsOver w y
    over_back y o = record { phase_is = sym (l.phases y) ∙ o.phase_is; clean = sym (l.errors y) ∙ o.clean }

    pub like_grows : G w v
    like_grows = record {
      ended = ended;
      over = λ y o. record { phase_is = l.phases y ∙ o.phase_is; clean = l.errors y ∙ o.clean };
      roots = λ y r h. l.roots y ∙ h;
      keeps_waits = λ y z h. subst (λ zs. Has zs z) (sym (l.all_waits y)) h;
      stamped = λ y h. stamped_like y ∙ h;
    }

    pub like_inv : (opened : List N) → ((x y : N) → E.begun v x ≡ true → Has (waits E w x) y → IsOver w y) → ((y : N) → phase E w y ≡ NotEntered → E.begun v y ≡ false) → I w opened → I v opened
    like_inv opened begins unbegun i = record {
      base = record {
        open_is = λ y h. i.base.open_is y (sym (l.phases y) ∙ h);
        opens = λ y h. l.phases y ∙ i.base.opens y h;
        unstamped = λ y h. stamped_like y ∙ i.base.unstamped y (sym (l.phases y) ∙ h);
        unbegun = λ y h. unbegun y (sym (l.phases y) ∙ h);
        stamped = λ y h. stamped_like y ∙ i.base.stamped y (sym (l.phases y) ∙ h);
        joined = λ x y h. subst (λ zs. Has zs x) (sym (l.all_waiters y)) (i.base.joined x y (waits_back x y h));
        unrooted = λ y h. l.roots y ∙ i.base.unrooted y (ap young (sym (l.phases y)) ∙ h);
        rooted = λ y h. let r = i.base.rooted y (either h (λ e. inl (sym (l.phases y) ∙ e)) (λ o. inr (over_back y o))) in (r.0, l.roots y ∙ r.1);
        shut = λ x r h. shut_on E to Ended like_grows (i.base.shut x r (sym (l.roots x) ∙ h));
        begun_waits = λ x y h k. like_grows.over y (begins x y h (waits_back x y k));
        stamped_waits = λ x y h. stamped_like y ∙ i.base.stamped_waits x y (waits_back x y h);
        order = λ x y past rest e h. i.base.order x y past rest (sym stamps ∙ e) (waits_back x y h);
        done = λ y h. l.phases y ∙ i.base.done y (sym (l.dones y) ∙ h);
        ended = λ y o. ended y (i.base.ended y (over_back y o));
        open_waits = λ x y h k. i.base.open_waits x y (waits_back x y h) k;
      };
      failed = λ x y u h k. l.phases x ∙ i.failed x y u (waits_back x y h) (sym (l.errors y) ∙ k);
    }

  pub alike_inv : (w v : W) (opened : List N) → IsAlike E w v → ((y : N) → Ended w y → Ended v y) → I w opened → I v opened
  alike_inv w v opened a ended i = like_inv w v (like_nodes E w v a.far.nodes) a.far.stamps ended opened
      (λ x y h k. i.base.begun_waits x y (sym (a.far.begun x) ∙ h) k) (λ y h. a.far.begun y ∙ i.base.unbegun y h) i

  -- a call for the body of a module that was entered, and all of whose waits are over
  module _ {w v : W} {c : Call N} {r : Result (CallAnswer V c) S} (p : acts w c r v) where
    pub call_grows : G w v
    call_grows = let s = steady.call w v c r p in like_grows w v (like_nodes E w v s.nodes) s.stamps (λ y e. tells.call p y e)

    pub call_inv : (opened : List N) → (phase E w (module_of c) ≡ NotEntered → ⊥) → ((y : N) → Has (waits E w (module_of c)) y → IsOver w y) → I w opened → I v opened
    call_inv opened entered over i = let s = steady.call w v c r p in like_inv w v (like_nodes E w v s.nodes) s.stamps (λ y e. tells.call p y e) opened
        (λ x y h k. either (tells.others p x h) (λ g. i.base.begun_waits x y g k) (λ e. over y (subst (λ z. Has (waits E w z) y) e k)))
        (λ y h. not_true (E.begun v y) (λ k. either (tells.others p y k) (λ g. not_both (E.begun w y) g (i.base.unbegun y h)) (λ e. entered (subst (λ z. phase E w z ≡ NotEntered) e h)))) i

  -- ---- the nodes of these modules are changed

  pub record Moved (w v : W) (ms : List N) (f : N → Node N V → Node N V) : Type 0 where
    pub nodes : (y : N) → (Has ms y × (E.node v y ≡ f y (E.node w y))) ⊎ (Out ms y × (E.node v y ≡ E.node w y))
    pub stamps : E.stamps v ≡ E.stamps w
    pub begun : (y : N) → E.begun v y ≡ E.begun w y
    pub ended : (y : N) → Ended w y → Ended v y

  abbrev pub KeepsLinks : (N → Node N V → Node N V) → Type 0
  KeepsLinks f = (y : N) (n : Node N V) → ((f y n).waits ≡ n.waits) × ((f y n).waiters ≡ n.waiters)

  one_is : (x y : N) → Has (x ∷ []) y → y ≡ x
  one_is x y h = either (in_cons E.same L.names.own L.names.equal x [] y h) (λ e. e) (λ k. cc)

  pub moved_put : (w : W) (x : N) (f : N → Node N V → Node N V) → Moved w (E.put w x (f x (E.node w x))) (x ∷ []) f
  moved_put w x f = record {
    nodes = λ y. either (put_at E L w x n y)
        (λ q. inl (subst (λ z. Has (x ∷ []) z) (sym q.0) (in_first E.same L.names.own L.names.equal x []), q.1 ∙ ap (λ z. f z (E.node w z)) (sym q.0)))
        (λ q. inr (ap (λ b. b || false) q.0, q.1));
    stamps = (L.put w x n).stamps;
    begun = (L.put w x n).begun;
    ended = tells.put w x n;
  }
    where
      n : Node N V
      n = f x (E.node w x)

  pub moved_alike : {w u v : W} {ms : List N} {f : N → Node N V → Node N V} → Moved w u ms f → IsAlike E u v → ((y : N) → Ended u y → Ended v y) → Moved w v ms f
  moved_alike m a ended = record {
    nodes = λ y. either (m.nodes y) (λ q. inl (q.0, a.far.nodes y ∙ q.1)) (λ q. inr (q.0, a.far.nodes y ∙ q.1));
    stamps = a.far.stamps ∙ m.stamps;
    begun = λ y. a.far.begun y ∙ m.begun y;
    ended = λ y h. ended y (m.ended y h);
  }

  -- one more, where to write twice is to write once
  moved_more : {w u v : W} {ms : List N} {f : N → Node N V → Node N V} (x : N) → ((y : N) (n : Node N V) → f y (f y n) ≡ f y n) → Moved w u (x ∷ []) f → Moved u v ms f → Moved w v (x ∷ ms) f
  moved_more {w} {u} {v} {ms} {f} x twice a b = record {
    nodes = λ y. either (b.nodes y)
        (λ q. inl (in_later E.same L.names.own L.names.equal x ms y q.0, either (a.nodes y) (λ k. q.1 ∙ ap (f y) k.1 ∙ twice y (E.node w y)) (λ k. q.1 ∙ ap (f y) k.1)))
        (λ q. either (a.nodes y) (λ k. inl (subst (λ z. Has (x ∷ ms) z) (sym (one_is x y k.0)) (in_first E.same L.names.own L.names.equal x ms), q.1 ∙ k.1))
        (λ k. inr (neither (E.same y x) (is_in E.same ms y) (or_false (E.same y x) false k.0).0 q.0, q.1 ∙ k.1)));
    stamps = b.stamps ∙ a.stamps;
    begun = λ y. b.begun y ∙ a.begun y;
    ended = λ y h. b.ended y (a.ended y h);
  }
    where
      neither : (s t : Bool) → s ≡ false → t ≡ false → (s || t) ≡ false
      neither s t e k = ap (λ b. b || t) e ∙ k

  moved_none : (w : W) (f : N → Node N V → Node N V) → Moved w w [] f
  moved_none w f = record { nodes = λ y. inr (refl, refl); stamps = refl; begun = λ y. refl; ended = λ y h. h }

  abbrev pub closing : W → N → N → Node N V → Node N V
  closing w r y n = record n { phase = closed_phase E (is_stamped E w y); cycle_root = Some r }

  moved_same : {w v : W} {ms : List N} {f h : N → Node N V → Node N V} → ((y : N) (n : Node N V) → h y n ≡ f y n) → Moved w v ms f → Moved w v ms h
  moved_same e m = record { nodes = λ y. either (m.nodes y) (λ q. inl (q.0, q.1 ∙ sym (e y _))) (λ q. inr q); stamps = m.stamps; begun = m.begun; ended = m.ended }

  pub moved_close : (r : N) (ms : List N) (w : W) → Moved w (close E w r ms) ms (closing w r)
  moved_close r [] w = moved_none w (closing w r)
  moved_close r (y ∷ ms) w =
      let u : W = E.put w y (closing w r y (E.node w y)) in
      moved_more y (λ z n. refl) (moved_put w y (closing w r))
      (moved_same (λ z n. ap (λ b. record n { phase = closed_phase E b; cycle_root = Some r }) (sym (put_stamped E L w y (closing w r y (E.node w y)) z))) (moved_close r ms u))

  abbrev pub failing : V → N → Node N V → Node N V
  failing u y n = record n { phase = Evaluated; error = Some u }

  pub moved_fail : (u : V) (ms : List N) (w : W) → Moved w (fail E w u ms) ms (failing u)
  moved_fail u [] w = moved_none w (failing u)
  moved_fail u (y ∷ ms) w = moved_more y (λ z n. refl) (moved_put w y (failing u)) (moved_fail u ms (E.put w y (failing u y (E.node w y))))

  -- what has to be so of the changed modules
  module _ {w v : W} {ms : List N} {f : N → Node N V → Node N V} (m : Moved w v ms f) (links : KeepsLinks f) where
    pub waits_is : (y : N) → waits E v y ≡ waits E w y
    waits_is y = either (m.nodes y) (λ q. ap (λ n. n.waits) q.1 ∙ (links y (E.node w y)).0) (λ q. ap (λ n. n.waits) q.1)

    pub waiters_is : (y : N) → waiters E v y ≡ waiters E w y
    waiters_is y = either (m.nodes y) (λ q. ap (λ n. n.waiters) q.1 ∙ (links y (E.node w y)).1) (λ q. ap (λ n. n.waiters) q.1)

    pub stamped_is : (y : N) → is_stamped E v y ≡ is_stamped E w y
    stamped_is y = ap (λ xs. is_in E.same xs y) m.stamps

    moved_back : (x y : N) → Has (waits E v x) y → Has (waits E w x) y
    moved_back x y h = subst (λ zs. Has zs y) (waits_is x) h

    -- of each of them, and of the others
    pub by_moved : {A : Type 0} (y : N) → (Has ms y → A) → (E.node v y ≡ E.node w y → A) → A
    by_moved y f g = either (m.nodes y) (λ q. f q.0) (λ q. g q.1)

    pub record KeepsMoved : Type 0 where
      pub over : (y : N) → Has ms y → IsOver w y → IsOver v y
      pub roots : (y r : N) → Has ms y → rooted_at w y ≡ Some r → rooted_at v y ≡ Some r

    module _ (k : KeepsMoved) where
      pub moved_grows : G w v
      moved_grows = record {
        ended = m.ended;
        over = λ y o. by_moved y (λ h. k.over y h o) (λ e. record { phase_is = ap (λ n. n.phase) e ∙ o.phase_is; clean = ap (λ n. n.error) e ∙ o.clean });
        roots = λ y r h. by_moved y (λ i. k.roots y r i h) (λ e. ap (λ n. n.cycle_root) e ∙ h);
        keeps_waits = λ y z h. subst (λ zs. Has zs z) (sym (waits_is y)) h;
        stamped = λ y h. stamped_is y ∙ h;
      }

      pub record FitsMoved (opened after : List N) : Type 0 where
        pub still : (y : N) → Out ms y → Has opened y → Has after y
        pub open_is : (y : N) → Has ms y → phase E v y ≡ Evaluating → Has after y
        pub opens : (y : N) → Has after y → phase E v y ≡ Evaluating
        pub entered : (y : N) → Has ms y → phase E v y ≡ NotEntered → ⊥
        pub stamped : (y : N) → Has ms y → phase E v y ≡ EvaluatingAsync → is_stamped E w y ≡ true
        pub unrooted : (y : N) → Has ms y → young (phase E v y) ≡ true → rooted_at v y ≡ None
        pub rooted : (y : N) → Has ms y → (phase E v y ≡ EvaluatingAsync) ⊎ IsOver v y → (r : N) × (rooted_at v y ≡ Some r)
        pub shut : (y r : N) → Has ms y → rooted_at v y ≡ Some r → Shut E to Ended v y r
        pub done : (y : N) → Has ms y → is_done E v y ≡ true → phase E v y ≡ Evaluated
        pub ended : (y : N) → Has ms y → IsOver v y → Ended v y
        pub open_waits : (x y : N) → Has (waits E w x) y → Has after y → Has after x × Has (to x) y

      pub moved_base : (opened after : List N) → FitsMoved opened after → Base E to Ended w opened → Base E to Ended v after
      moved_base opened after q b = record {
        open_is = λ y h. either (m.nodes y) (λ k. q.open_is y k.0 h) (λ k. q.still y k.0 (b.open_is y (sym (ap (λ n. n.phase) k.1) ∙ h)));
        opens = q.opens;
        unstamped = λ y h. stamped_is y ∙ by_moved y (λ i. absurd (q.entered y i h)) (λ e. b.unstamped y (sym (ap (λ n. n.phase) e) ∙ h));
        unbegun = λ y h. m.begun y ∙ by_moved y (λ i. absurd (q.entered y i h)) (λ e. b.unbegun y (sym (ap (λ n. n.phase) e) ∙ h));
        stamped = λ y h. stamped_is y ∙ by_moved y (λ i. q.stamped y i h) (λ e. b.stamped y (sym (ap (λ n. n.phase) e) ∙ h));
        joined = λ x y h. subst (λ zs. Has zs x) (sym (waiters_is y)) (b.joined x y (moved_back x y h));
        unrooted = λ y h. by_moved y (λ i. q.unrooted y i h) (λ e. ap (λ n. n.cycle_root) e ∙ b.unrooted y (sym (ap (λ n. young n.phase) e) ∙ h));
        rooted = λ y h. by_moved y (λ i. q.rooted y i h) (λ e. let r = b.rooted y (either h (λ p. inl (sym (ap (λ n. n.phase) e) ∙ p)) (λ o. inr (back y e o))) in (r.0, ap (λ n. n.cycle_root) e ∙ r.1));
        shut = λ y r h. by_moved y (λ i. q.shut y r i h) (λ e. shut_on E to Ended moved_grows (b.shut y r (sym (ap (λ n. n.cycle_root) e) ∙ h)));
        begun_waits = λ x y h k. moved_grows.over y (b.begun_waits x y (sym (m.begun x) ∙ h) (moved_back x y k));
        stamped_waits = λ x y h. stamped_is y ∙ b.stamped_waits x y (moved_back x y h);
        order = λ x y past rest e h. b.order x y past rest (sym m.stamps ∙ e) (moved_back x y h);
        done = λ y h. by_moved y (λ i. q.done y i h) (λ e. ap (λ n. n.phase) e ∙ b.done y (sym (ap (λ n. n.done) e) ∙ h));
        ended = λ y o. by_moved y (λ i. q.ended y i o) (λ e. m.ended y (b.ended y (back y e o)));
        open_waits = λ x y h k. q.open_waits x y (moved_back x y h) k;
      }
        where
          back : (y : N) → E.node v y ≡ E.node w y → IsOver v y → IsOver w y
          back y e o = record { phase_is = sym (ap (λ n. n.phase) e) ∙ o.phase_is; clean = sym (ap (λ n. n.error) e) ∙ o.clean }
