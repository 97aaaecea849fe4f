-- What is so of modules whose component has closed, and of those that are open and were left.
use Rattle.std.proofs.Common.{◌≡◌, ◌⊎◌, inl, inr, Bool, true, false, List, [], ◌∷◌, ◌++◌, Option, Some, None, subst}
use Rattle.esm_base.specs.Lists.{is_in}
use Rattle.esm_realm.proofs.Lists.{either}
use Rattle.esm_eval.specs.Nodes.{Phase, NotEntered, Evaluating, EvaluatingAsync, Evaluated}
use Rattle.esm_eval.specs.Evaluation.{Evaluation, phase, waits, waiters, is_done, is_stamped}

-- x reaches y by requests
pub data Leads {N : Type 0} (same : N → N → Bool) (to : N → List N) : N → N → Type 0 where
  itself : {x : N} → Leads same to x x
  step : {x t y : N} → is_in same (to x) t ≡ true → Leads same to t y → Leads same to x y

pub leads_on : {N : Type 0} {same : N → N → Bool} {to : N → List N} {x y z : N} → Leads same to x y → Leads same to y z → Leads same to x z
leads_on itself q = q
leads_on (step h p) q = step h (leads_on p q)

-- its component hasn't closed
abbrev pub young : Phase → Bool
young NotEntered = true
young Evaluating = true
young EvaluatingAsync = false
young Evaluated = false

module _ {N V W : Type 0} (E : Evaluation N V W) (to : N → List N) (Ended : W → N → Type 0) where
  abbrev pub Has : List N → N → Type 0
  Has xs y = is_in E.same xs y ≡ true

  abbrev pub To : N → N → Type 0
  To x y = Leads E.same to x y

  abbrev pub root : W → N → Option N
  root w x = (E.node w x).cycle_root

  abbrev pub error : W → N → Option V
  error w x = (E.node w x).error

  -- the module is evaluated, without an error of its own
  pub record Over (w : W) (x : N) : Type 0 where
    pub phase_is : phase E w x ≡ Evaluated
    pub clean : error w x ≡ None

  -- so is its cycle root
  pub record OverRoot (w : W) (t : N) : Type 0 where
    pub that : N
    pub is_root : root w t ≡ Some that
    pub over : Over w that

  -- x waits for the cycle root of t
  pub record WaitsFor (w : W) (x t : N) : Type 0 where
    pub that : N
    pub is_root : root w t ≡ Some that
    pub waited : Has (waits E w x) that

  -- r waits for it, or for a module that does
  pub data Joined (w : W) (r : N) : N → Type 0 where
    first : Joined w r r
    waited : {p m : N} → Joined w r p → Has (waits E w p) m → Joined w r m

  abbrev pub Joint : W → N → N → Type 0
  Joint w r x = Ended w x ⊎ Joined w r x

  abbrev pub Met : W → N → N → N → Type 0
  Met w x r t = (root w t ≡ Some r) ⊎ (OverRoot w t ⊎ WaitsFor w x t)

  -- a module whose component has closed, with root r
  pub record Shut (w : W) (x r : N) : Type 0 where
    pub own : root w r ≡ Some r
    pub there : To x r
    pub back : To r x
    pub met : (t : N) → Has (to x) t → Met w x r t
    pub joint : Joint w r x

  abbrev pub OpenMet : W → List N → N → N → Type 0
  OpenMet w opened m t = (Has opened t × To t m) ⊎ (OverRoot w t ⊎ WaitsFor w m t)

  -- a module that was left, and whose component is open
  pub record Left (w : W) (opened : List N) (m : N) : Type 0 where
    pub ran : is_stamped E w m ≡ false → Ended w m
    pub met : (t : N) → Has (to m) t → OpenMet w opened m t

  -- what stays so
  pub record Grows (w v : W) : Type 0 where
    pub ended : (y : N) → Ended w y → Ended v y
    pub over : (y : N) → Over w y → Over v y
    pub roots : (y r : N) → root w y ≡ Some r → root v y ≡ Some r
    pub keeps_waits : (y z : N) → Has (waits E w y) z → Has (waits E v y) z
    pub stamped : (y : N) → is_stamped E w y ≡ true → is_stamped E v y ≡ true

  pub record Base (w : W) (opened : List N) : Type 0 where
    pub open_is : (y : N) → phase E w y ≡ Evaluating → Has opened y
    pub opens : (y : N) → Has opened y → phase E w y ≡ Evaluating
    pub unstamped : (y : N) → phase E w y ≡ NotEntered → is_stamped E w y ≡ false
    pub unbegun : (y : N) → phase E w y ≡ NotEntered → E.begun w y ≡ false
    pub stamped : (y : N) → phase E w y ≡ EvaluatingAsync → is_stamped E w y ≡ true
    pub joined : (x y : N) → Has (waits E w x) y → Has (waiters E w y) x
    pub unrooted : (y : N) → young (phase E w y) ≡ true → root w y ≡ None
    pub rooted : (y : N) → (phase E w y ≡ EvaluatingAsync) ⊎ Over w y → (r : N) × (root w y ≡ Some r)
    pub shut : (x r : N) → root w x ≡ Some r → Shut w x r
    pub begun_waits : (x y : N) → E.begun w x ≡ true → Has (waits E w x) y → Over w y
    pub stamped_waits : (x y : N) → Has (waits E w x) y → is_stamped E w y ≡ true
    pub order : (x y : N) (past rest : List N) → E.stamps w ≡ past ++ x ∷ rest → Has (waits E w x) y → Has past y
    pub done : (y : N) → is_done E w y ≡ true → phase E w y ≡ Evaluated
    pub ended : (y : N) → Over w y → Ended w y
    pub open_waits : (x y : N) → Has (waits E w x) y → Has opened y → Has opened x × Has (to x) y

  -- what waits for a module with an error is evaluated
  abbrev pub Failed : W → Type 0
  Failed w = (x y : N) (v : V) → Has (waits E w x) y → error w y ≡ Some v → phase E w x ≡ Evaluated

  pub record Inv (w : W) (opened : List N) : Type 0 where
    pub base : Base w opened
    pub failed : Failed w

  -- ---- they stay so

  pub grows_same : (w : W) → Grows w w
  grows_same w = record { ended = λ y h. h; over = λ y h. h; roots = λ y r h. h; keeps_waits = λ y z h. h; stamped = λ y h. h }

  pub grows_on : {u v w : W} → Grows u v → Grows v w → Grows u w
  grows_on f g = record {
    ended = λ y h. g.ended y (f.ended y h);
    over = λ y h. g.over y (f.over y h);
    roots = λ y r h. g.roots y r (f.roots y r h);
    keeps_waits = λ y z h. g.keeps_waits y z (f.keeps_waits y z h);
    stamped = λ y h. g.stamped y (f.stamped y h);
  }

  module _ {w v : W} (g : Grows w v) where
    pub over_root_on : {t : N} → OverRoot w t → OverRoot v t
    over_root_on {t} o = record { that = o.that; is_root = g.roots t o.that o.is_root; over = g.over o.that o.over }

    pub waits_for_on : {x t : N} → WaitsFor w x t → WaitsFor v x t
    waits_for_on {x} {t} f = record { that = f.that; is_root = g.roots t f.that f.is_root; waited = g.keeps_waits x f.that f.waited }

    pub joined_on : {r m : N} → Joined w r m → Joined v r m
    joined_on first = first
    joined_on (waited {p = p} {m = m} j h) = waited (joined_on j) (g.keeps_waits p m h)

    pub joint_on : {r m : N} → Joint w r m → Joint v r m
    joint_on {r} {m} j = either j (λ e. inl (g.ended m e)) (λ k. inr (joined_on k))

    pub met_on : {x r t : N} → Met w x r t → Met v x r t
    met_on {x} {r} {t} m = either m (λ e. inl (g.roots t r e)) (λ q. inr (either q (λ o. inl (over_root_on o)) (λ f. inr (waits_for_on f))))

    pub shut_on : {x r : N} → Shut w x r → Shut v x r
    shut_on {x} {r} s = record { own = g.roots r r s.own; there = s.there; back = s.back; met = λ t h. met_on (s.met t h); joint = joint_on s.joint }

    pub left_on : {opened more : List N} {m : N} → ((y : N) → Has opened y → Has more y) → (is_stamped E v m ≡ false → is_stamped E w m ≡ false) → Left w opened m → Left v more m
    left_on {m = m} f s l = record {
      ran = λ h. g.ended m (l.ran (s h));
      met = λ t h. either (l.met t h) (λ q. inl (f t q.0, q.1)) (λ q. inr (either q (λ o. inl (over_root_on o)) (λ k. inr (waits_for_on k))));
    }

  -- ---- what a module whose cycle root is over needs has ended

  module _ (begun : (w : W) (y : N) → Ended w y → E.begun w y ≡ true) {w : W} {opened : List N} (b : Base w opened) where
    joined_over : {r m : N} → Joined w r m → Over w r → Over w m
    joined_over first o = o
    joined_over (waited {p = p} {m = m} j h) o = b.begun_waits p m (begun w p (b.ended p (joined_over j o))) h

    root_ended : {t : N} → OverRoot w t → Ended w t
    root_ended {t} o = either (b.shut t o.that o.is_root).joint (λ e. e) (λ j. b.ended t (joined_over j o.over))

    next_over : {t u : N} → OverRoot w t → Has (to t) u → OverRoot w u
    next_over {t} {u} o h = either ((b.shut t o.that o.is_root).met u h)
        (λ k. record { that = o.that; is_root = k; over = o.over })
        (λ q. either q (λ k. k) (λ f. record { that = f.that; is_root = f.is_root; over = b.begun_waits t f.that (begun w t (root_ended o)) f.waited }))

    pub settled : {t y : N} → OverRoot w t → To t y → Ended w y
    settled o itself = root_ended o
    settled o (step h p) = settled (next_over o h) p

    -- all that x needs has ended
    abbrev pub Ready : N → Type 0
    Ready x = (t y : N) → Has (to x) t → (To t x → ⊥) → To t y → Ended w y

    -- where x is left, and waits for nothing
    pub ready_open : (x : N) → waits E w x ≡ [] → ((t : N) → Has (to x) t → OpenMet w opened x t) → Ready x
    ready_open x none met t y h apart p = either (met t h) (λ q. absurd (apart q.1)) (λ q. either q (λ o. settled o p) (λ f. absurd (nothing f.that (subst (λ zs. Has zs f.that) none f.waited))))
      where
        nothing : (z : N) → Has [] z → ⊥
        nothing z h = cc

    -- where its component has closed, and all that it waits for is over
    pub ready_shut : (x r : N) → root w x ≡ Some r → ((y : N) → Has (waits E w x) y → Over w y) → Ready x
    ready_shut x r is over t y h apart p =
        let s = b.shut x r is in
        either (s.met t h) (λ k. absurd (apart (leads_on (b.shut t r k).there s.back))) (λ q. either q (λ o. settled o p)
        (λ f. settled (record { that = f.that; is_root = f.is_root; over = over f.that f.waited }) p))
