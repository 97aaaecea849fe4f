-- What the waits and the stamps of a walk keep.
use Rattle.std.proofs.Common.{◌≡◌, ◌⊎◌, inl, inr, Bool, true, false, List, [], ◌∷◌, ◌++◌, Option, Some, None, refl, ap, subst, sym, ◌∙◌}
use Rattle.std.specs.Option.{unwrap_or, option_or}
use Rattle.esm_base.specs.Lists.{is_in}
use Rattle.esm_realm.proofs.Urls.{not_true, not_both}
use Rattle.esm_realm.proofs.Lists.{either, split}
use Rattle.esm_eval.specs.Nodes.{Phase, NotEntered, Evaluating, EvaluatingAsync, Evaluated, Node, BodyCalls}
use Rattle.esm_eval.specs.Evaluation.{Evaluation, IsLawful, IsSteady, phase, waits, waiters, is_done, is_stamped, root_of, error_of, wait_on, wait_by, put_wait, put_waiter, add_wait}
use Rattle.esm_eval.proofs.Puts.{put_at, same_field, put_stamped}
use Rattle.esm_needs_laws.proofs.Shape.{young, Leads, Over, OpenMet, Grows, Base, Inv, shut_on, grows_same}
use Rattle.esm_needs_laws.proofs.Moves.{Tells}
use Rattle.esm_needs_laws.proofs.Steps.{none_is, one_in, first_in, left_in, right_in, split_in}

module _ {N V W S : Type 0} (E : Evaluation N V W) (acts : BodyCalls N V W S) (L : IsLawful E) (steady : IsSteady E acts) (to : N → List N) (Ended : W → N → Type 0) (tells : Tells E acts Ended) where
  abbrev Has : List N → N → Type 0
  Has xs y = is_in E.same xs y ≡ true

  abbrev To : N → N → Type 0
  To x y = Leads E.same to x y

  abbrev G : W → W → Type 0
  G = Grows E to Ended

  abbrev I : W → List N → Type 0
  I = Inv E to Ended

  abbrev root_at : W → N → Option N
  root_at w y = (E.node w y).cycle_root

  abbrev error_at : W → N → Option V
  error_at w y = (E.node w y).error

  -- its body hasn't begun, and it has no order
  pub record Idle (w : W) (x : N) : Type 0 where
    pub unstamped : is_stamped E w x ≡ false
    pub unbegun : E.begun w x ≡ false

  -- ---- x waits for y

  module _ (w : W) (x y : N) where
    abbrev n : Node N V
    n = record (E.node w x) { waits = waits E w x ++ y ∷ [] }

    abbrev u : W
    u = put_wait E w x y

    abbrev k : Node N V
    k = record (E.node u y) { waiters = waiters E u y ++ x ∷ [] }

    abbrev v : W
    v = put_waiter E u x y

    pub wait_phases : (z : N) → phase E v z ≡ phase E w z
    wait_phases z = same_field E L (λ m. m.phase) u y k refl z ∙ same_field E L (λ m. m.phase) w x n refl z

    dones : (z : N) → is_done E v z ≡ is_done E w z
    dones z = same_field E L (λ m. m.done) u y k refl z ∙ same_field E L (λ m. m.done) w x n refl z

    errors : (z : N) → error_at v z ≡ error_at w z
    errors z = same_field E L (λ m. m.error) u y k refl z ∙ same_field E L (λ m. m.error) w x n refl z

    roots : (z : N) → root_at v z ≡ root_at w z
    roots z = same_field E L (λ m. m.cycle_root) u y k refl z ∙ same_field E L (λ m. m.cycle_root) w x n refl z

    stamps : E.stamps v ≡ E.stamps w
    stamps = (L.put u y k).stamps ∙ (L.put w x n).stamps

    stamped : (z : N) → is_stamped E v z ≡ is_stamped E w z
    stamped z = put_stamped E L u y k z ∙ put_stamped E L w x n z

    begun : (z : N) → E.begun v z ≡ E.begun w z
    begun z = (L.put u y k).begun z ∙ (L.put w x n).begun z

    ended : (z : N) → Ended w z → Ended v z
    ended z h = tells.put u y k z (tells.put w x n z h)

    pub wait_idle : (z : N) → Idle w z → Idle v z
    wait_idle z i = record { unstamped = stamped z ∙ i.unstamped; unbegun = begun z ∙ i.unbegun }

    at : (z : N) → ((z ≡ x) × (waits E v z ≡ waits E w x ++ y ∷ [])) ⊎ (waits E v z ≡ waits E w z)
    at z = either (put_at E L w x n z) (λ q. inl (q.0, same_field E L (λ m. m.waits) u y k refl z ∙ ap (λ m. m.waits) q.1)) (λ q. inr (same_field E L (λ m. m.waits) u y k refl z ∙ ap (λ m. m.waits) q.1))

    forth : (z t : N) → Has (waits E w z) t → Has (waits E v z) t
    forth z t h = either (at z) (λ q. subst (λ zs. Has zs t) (sym q.1) (left_in E acts L steady to Ended tells (waits E w x) (y ∷ []) t (subst (λ s. Has (waits E w s) t) q.0 h))) (λ q. subst (λ zs. Has zs t) (sym q) h)

    back : (z t : N) → Has (waits E v z) t → Has (waits E w z) t ⊎ ((z ≡ x) × (t ≡ y))
    back z t h = either (at z)
        (λ q. either (split_in E acts L steady to Ended tells (waits E w x) (y ∷ []) t (subst (λ zs. Has zs t) q.1 h)) (λ i. inl (subst (λ s. Has (waits E w s) t) (sym q.0) i)) (λ i. inr (q.0, one_in E acts L steady to Ended tells y t i)))
        (λ q. inl (subst (λ zs. Has zs t) q h))

    pub new_wait : Has (waits E v x) y
    new_wait = either (put_at E L w x n x)
        (λ q. subst (λ zs. Has zs y) (sym (same_field E L (λ m. m.waits) u y k refl x ∙ ap (λ m. m.waits) q.1)) (right_in E acts L steady to Ended tells (waits E w x) (y ∷ []) y (first_in E acts L steady to Ended tells y [])))
        (λ q. absurd (not_both (E.same x x) (L.names.own x) q.0))

    waiters_before : (z : N) → waiters E u z ≡ waiters E w z
    waiters_before z = same_field E L (λ m. m.waiters) w x n refl z

    new_waiter : Has (waiters E v y) x
    new_waiter = either (put_at E L u y k y)
        (λ q. subst (λ zs. Has zs x) (sym (ap (λ m. m.waiters) q.1)) (right_in E acts L steady to Ended tells (waiters E u y) (x ∷ []) x (first_in E acts L steady to Ended tells x [])))
        (λ q. absurd (not_both (E.same y y) (L.names.own y) q.0))

    forth_waiters : (z t : N) → Has (waiters E w z) t → Has (waiters E v z) t
    forth_waiters z t h = let i = subst (λ zs. Has zs t) (sym (waiters_before z)) h in
        either (put_at E L u y k z) (λ q. subst (λ zs. Has zs t) (sym (ap (λ m. m.waiters) q.1)) (left_in E acts L steady to Ended tells (waiters E u y) (x ∷ []) t (subst (λ s. Has (waiters E u s) t) q.0 i))) (λ q. subst (λ zs. Has zs t) (sym (ap (λ m. m.waiters) q.1)) i)

    pub wait_grows : G w v
    wait_grows = record {
      ended = ended;
      over = λ z o. record { phase_is = wait_phases z ∙ o.phase_is; clean = errors z ∙ o.clean };
      roots = λ z r h. roots z ∙ h;
      keeps_waits = forth;
      stamped = λ z h. stamped z ∙ h;
    }

    module _ (opened : List N) (open_x : Has opened x) (idle : Idle w x) (y_stamped : is_stamped E w y ≡ true) (y_clean : error_at w y ≡ None) (y_near : Has opened y → Has (to x) y) (i : I w opened) where
      over_back : (z : N) → Over E to Ended v z → Over E to Ended w z
      over_back z o = record { phase_is = sym (wait_phases z) ∙ o.phase_is; clean = sym (errors z) ∙ o.clean }

      wait_base : Base E to Ended v opened
      wait_base = record {
        open_is = λ z h. i.base.open_is z (sym (wait_phases z) ∙ h);
        opens = λ z h. wait_phases z ∙ i.base.opens z h;
        unstamped = λ z h. stamped z ∙ i.base.unstamped z (sym (wait_phases z) ∙ h);
        unbegun = λ z h. begun z ∙ i.base.unbegun z (sym (wait_phases z) ∙ h);
        stamped = λ z h. stamped z ∙ i.base.stamped z (sym (wait_phases z) ∙ h);
        joined = λ a b h. either (back a b h) (λ q. forth_waiters b a (i.base.joined a b q)) (λ q. subst (λ t. Has (waiters E v t) a) (sym q.1) (subst (λ t. Has (waiters E v y) t) (sym q.0) new_waiter));
        unrooted = λ z h. roots z ∙ i.base.unrooted z (ap young (sym (wait_phases z)) ∙ h);
        rooted = λ z h. let r = i.base.rooted z (either h (λ e. inl (sym (wait_phases z) ∙ e)) (λ o. inr (over_back z o))) in (r.0, roots z ∙ r.1);
        shut = λ z r h. shut_on E to Ended wait_grows (i.base.shut z r (sym (roots z) ∙ h));
        begun_waits = λ a b h q. either (back a b q) (λ j. wait_grows.over b (i.base.begun_waits a b (sym (begun a) ∙ h) j)) (λ j. absurd (not_both (E.begun w x) (subst (λ t. E.begun w t ≡ true) j.0 (sym (begun a) ∙ h)) idle.unbegun));
        stamped_waits = λ a b h. stamped b ∙ either (back a b h) (i.base.stamped_waits a b) (λ q. subst (λ t. is_stamped E w t ≡ true) (sym q.1) y_stamped);
        order = λ a b past rest e h. either (back a b h) (i.base.order a b past rest (sym stamps ∙ e)) (λ q. absurd (not_both (is_stamped E w x) (stands a past rest q.0 (sym stamps ∙ e)) idle.unstamped));
        done = λ z h. wait_phases z ∙ i.base.done z (sym (dones z) ∙ h);
        ended = λ z o. ended z (i.base.ended z (over_back z o));
        open_waits = λ a b h q. either (back a b h) (λ j. i.base.open_waits a b j q) (λ j.
            (subst (λ t. Has opened t) (sym j.0) open_x, subst (λ s. Has (to s) b) (sym j.0) (subst (λ t. Has (to x) t) (sym j.1) (y_near (subst (λ t. Has opened t) j.1 q)))));
      }
        where
          stands : (a : N) (past rest : List N) → a ≡ x → E.stamps w ≡ past ++ a ∷ rest → is_stamped E w x ≡ true
          stands a past rest f e = subst (λ xs. Has xs x) (sym e) (right_in E acts L steady to Ended tells past (a ∷ rest) x (subst (λ z. Has (z ∷ rest) x) (sym f) (first_in E acts L steady to Ended tells x rest)))

      pub wait_inv : I v opened
      wait_inv = record {
        base = wait_base;
        failed = λ a b c h q. wait_phases a ∙ either (back a b h) (λ j. i.failed a b c j (sym (errors b) ∙ q)) (λ j. absurd (none_is y_clean (subst (λ t. error_at w t ≡ Some c) j.1 (sym (errors b) ∙ q))));
      }

  -- ---- x gets an order

  module _ (w : W) (x : N) where
    abbrev later : W
    later = E.add_stamp w x

    stamp_ended : (z : N) → Ended w z → Ended later z
    stamp_ended z h = tells.stamp w x z h

    stamp_nodes : (z : N) → E.node later z ≡ E.node w z
    stamp_nodes z = (L.add_stamp w x).nodes z

    pub stamp_split : (z : N) → is_stamped E later z ≡ true → (is_stamped E w z ≡ true) ⊎ (z ≡ x)
    stamp_split z h = either (split_in E acts L steady to Ended tells (E.stamps w) (x ∷ []) z (subst (λ zs. Has zs z) (L.add_stamp w x).stamps h)) inl (λ q. inr (one_in E acts L steady to Ended tells x z q))

    stamp_keeps : (z : N) → is_stamped E w z ≡ true → is_stamped E later z ≡ true
    stamp_keeps z h = subst (λ zs. Has zs z) (sym (L.add_stamp w x).stamps) (left_in E acts L steady to Ended tells (E.stamps w) (x ∷ []) z h)

    pub has_stamp : is_stamped E later x ≡ true
    has_stamp = subst (λ zs. Has zs x) (sym (L.add_stamp w x).stamps) (right_in E acts L steady to Ended tells (E.stamps w) (x ∷ []) x (first_in E acts L steady to Ended tells x []))

    pub stamp_grows : G w later
    stamp_grows = record {
      ended = stamp_ended;
      over = λ z o. record { phase_is = ap (λ m. m.phase) (stamp_nodes z) ∙ o.phase_is; clean = ap (λ m. m.error) (stamp_nodes z) ∙ o.clean };
      roots = λ z r h. ap (λ m. m.cycle_root) (stamp_nodes z) ∙ h;
      keeps_waits = λ z t h. subst (λ m. Has m.waits t) (sym (stamp_nodes z)) h;
      stamped = stamp_keeps;
    }

    module _ (opened : List N) (open_x : phase E w x ≡ Evaluating) (i : I w opened) where
      had : (a b : N) → Has (waits E later a) b → Has (waits E w a) b
      had a b h = subst (λ m. Has m.waits b) (stamp_nodes a) h

      over_had : (z : N) → Over E to Ended later z → Over E to Ended w z
      over_had z o = record { phase_is = sym (ap (λ m. m.phase) (stamp_nodes z)) ∙ o.phase_is; clean = sym (ap (λ m. m.error) (stamp_nodes z)) ∙ o.clean }

      phase_had : {p : Phase} (z : N) → phase E later z ≡ p → phase E w z ≡ p
      phase_had z h = sym (ap (λ m. m.phase) (stamp_nodes z)) ∙ h

      stamp_base : Base E to Ended later opened
      stamp_base = record {
        open_is = λ z h. i.base.open_is z (phase_had z h);
        opens = λ z h. ap (λ m. m.phase) (stamp_nodes z) ∙ i.base.opens z h;
        unstamped = λ z h. not_true (is_stamped E later z) (λ s. either (stamp_split z s) (λ q. not_both (is_stamped E w z) q (i.base.unstamped z (phase_had z h))) (λ q. let a = phase_had z h in let b = subst (λ t. phase E w t ≡ Evaluating) (sym q) open_x in cc));
        unbegun = λ z h. (L.add_stamp w x).begun z ∙ i.base.unbegun z (phase_had z h);
        stamped = λ z h. stamp_keeps z (i.base.stamped z (phase_had z h));
        joined = λ a b h. subst (λ m. Has m.waiters a) (sym (stamp_nodes b)) (i.base.joined a b (had a b h));
        unrooted = λ z h. ap (λ m. m.cycle_root) (stamp_nodes z) ∙ i.base.unrooted z (ap (λ m. young m.phase) (sym (stamp_nodes z)) ∙ h);
        rooted = λ z h. let r = i.base.rooted z (either h (λ e. inl (phase_had z e)) (λ o. inr (over_had z o))) in (r.0, ap (λ m. m.cycle_root) (stamp_nodes z) ∙ r.1);
        shut = λ z r h. shut_on E to Ended stamp_grows (i.base.shut z r (sym (ap (λ m. m.cycle_root) (stamp_nodes z)) ∙ h));
        begun_waits = λ a b h q. stamp_grows.over b (i.base.begun_waits a b (sym ((L.add_stamp w x).begun a) ∙ h) (had a b q));
        stamped_waits = λ a b h. stamp_keeps b (i.base.stamped_waits a b (had a b h));
        order = λ a b past rest e h. either (split (E.stamps w) (x ∷ []) past rest a (sym (L.add_stamp w x).stamps ∙ e)) (λ q. i.base.order a b past q.0 q.1 (had a b h))
            (λ q. subst (λ zs. Has zs b) (sym q.1) (left_in E acts L steady to Ended tells (E.stamps w) q.0 b (i.base.stamped_waits a b (had a b h))));
        done = λ z h. ap (λ m. m.phase) (stamp_nodes z) ∙ i.base.done z (sym (ap (λ m. m.done) (stamp_nodes z)) ∙ h);
        ended = λ z o. stamp_ended z (i.base.ended z (over_had z o));
        open_waits = λ a b h q. i.base.open_waits a b (had a b h) q;
      }

      pub stamp_inv : I later opened
      stamp_inv = record {
        base = stamp_base;
        failed = λ a b c h q. ap (λ m. m.phase) (stamp_nodes a) ∙ i.failed a b c (had a b h) (sym (ap (λ m. m.error) (stamp_nodes b)) ∙ q);
      }

  -- ---- a request of x for t is passed

  pub record Passing (w : W) (opened : List N) (x t : N) (v : W) : Type 0 where
    pub inv : I v opened
    pub grows : G w v
    pub met : OpenMet E to Ended v opened x t
    pub phases : (z : N) → phase E v z ≡ phase E w z
    pub idle : (z : N) → Idle w z → Idle v z
    pub joins : phase E w t ≡ Evaluating → is_stamped E w t ≡ true → Has (waits E v x) t

  or_none : {A : Type 0} (a b : Option A) → option_or a b ≡ None → (a ≡ None) × (b ≡ None)
  or_none None b h = (refl, h)
  or_none (Some x) b h = cc

  module _ (w : W) (opened : List N) (x t : N) (known : phase E w t ≡ NotEntered → ⊥) (asks : Has (to x) t) (open_x : Has opened x) (idle : Idle w x) (reach : Has opened t → To t x) (fine : error_of E w t ≡ None) (i : I w opened) where
    abbrev R : N
    R = root_of E w t

    clean_t : error_at w t ≡ None
    clean_t = (or_none (error_at w t) (error_at w R) fine).0

    clean_root : error_at w R ≡ None
    clean_root = (or_none (error_at w t) (error_at w R) fine).1

    -- t waits for nothing new
    as_it_was : OpenMet E to Ended w opened x t → (phase E w t ≡ Evaluating → is_stamped E w t ≡ true → ⊥) → Passing w opened x t w
    as_it_was m n = record { inv = i; grows = grows_same E to Ended w; met = m; phases = λ z. refl; idle = λ z h. h; joins = λ e h. absurd (n e h) }

    open_case : (b : Bool) → is_stamped E w t ≡ b → (c d : Bool) → phase E w t ≡ Evaluating → Passing w opened x t (add_wait E w x (wait_by E t R Evaluating b c d))
    open_case true s c d e = record {
      inv = wait_inv w x t opened open_x idle s clean_t (λ h. asks) i;
      grows = wait_grows w x t;
      met = let o = i.base.open_is t e in inl (o, reach o);
      phases = wait_phases w x t;
      idle = wait_idle w x t;
      joins = λ e h. new_wait w x t;
    }
    open_case false s c d e = as_it_was (let o = i.base.open_is t e in inl (o, reach o)) (λ e h. not_both (is_stamped E w t) h s)

    -- the component of t has closed
    module _ (r : N) (root_is : root_at w t ≡ Some r) (closed : phase E w t ≡ Evaluating → ⊥) where
      is_r : R ≡ r
      is_r = ap (λ o. unwrap_or o t) root_is

      root_R : root_at w t ≡ Some R
      root_R = root_is ∙ ap (λ z. Some z) (sym is_r)

      own_R : root_at w R ≡ Some R
      own_R = (i.base.shut t R root_R).own

      old_R : young (phase E w R) ≡ true → ⊥
      old_R h = none_is (i.base.unrooted R h) own_R

      over_R : phase E w R ≡ Evaluated → Passing w opened x t w
      over_R e = as_it_was (inr (inl (record { that = R; is_root = root_R; over = record { phase_is = e; clean = clean_root } }))) (λ p s. closed p)

      unstamped_R : (p : Phase) → phase E w R ≡ p → is_stamped E w R ≡ false → Passing w opened x t w
      unstamped_R NotEntered e s = absurd (old_R (ap young e))
      unstamped_R Evaluating e s = absurd (old_R (ap young e))
      unstamped_R EvaluatingAsync e s = absurd (not_both (is_stamped E w R) (i.base.stamped R e) s)
      unstamped_R Evaluated e s = over_R e

      waits_R : is_stamped E w R ≡ true → Passing w opened x t (add_wait E w x (Some R))
      waits_R s = record {
        inv = wait_inv w x R opened open_x idle s clean_root (λ h. absurd (old_R (ap young (i.base.opens R h)))) i;
        grows = wait_grows w x R;
        met = inr (inr (record { that = R; is_root = (wait_grows w x R).roots t R root_R; waited = new_wait w x R }));
        phases = wait_phases w x R;
        idle = wait_idle w x R;
        joins = λ e h. absurd (closed e);
      }

      late_case : (b c d : Bool) → is_stamped E w R ≡ c → is_done E w R ≡ d → Passing w opened x t (add_wait E w x (wait_by E t R EvaluatingAsync b c d))
      late_case b true true s f = over_R (i.base.done R f)
      late_case b true false s f = waits_R s
      late_case b false d s f = unstamped_R (phase E w R) refl s

      over_case : (b c d : Bool) → is_stamped E w R ≡ c → is_done E w R ≡ d → Passing w opened x t (add_wait E w x (wait_by E t R Evaluated b c d))
      over_case b true true s f = over_R (i.base.done R f)
      over_case b true false s f = waits_R s
      over_case b false d s f = unstamped_R (phase E w R) refl s

    cases_of : (p : Phase) → phase E w t ≡ p → (b : Bool) → is_stamped E w t ≡ b → (c : Bool) → is_stamped E w R ≡ c → (d : Bool) → is_done E w R ≡ d → Passing w opened x t (add_wait E w x (wait_by E t R p b c d))
    cases_of NotEntered e b s c f d g = absurd (known e)
    cases_of Evaluating e b s c f d g = open_case b s c d e
    cases_of EvaluatingAsync e b s c f d g = let r = i.base.rooted t (inl e) in late_case r.0 r.1 (λ h. let k = sym e ∙ h in cc) b c d f g
    cases_of Evaluated e b s c f d g = let r = i.base.rooted t (inr (record { phase_is = e; clean = clean_t })) in over_case r.0 r.1 (λ h. let k = sym e ∙ h in cc) b c d f g

    pub pass_inv : Passing w opened x t (add_wait E w x (wait_on E w t))
    pass_inv = cases_of (phase E w t) refl (is_stamped E w t) refl (is_stamped E w R) refl (is_done E w R) refl
