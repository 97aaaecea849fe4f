-- Gathering the modules that are ready.
use Rattle.std.proofs.Common.{◌≡◌, ℕ, suc, zero, ◌+◌, ◌<◌, ◌≤◌, Bool, true, false, List, [], ◌∷◌, length, Some, None, refl, ap, subst, sym, ◌∙◌, inl, inr, arith, slice_get}
use Rattle.std.specs.Prelude.{◌⊎◌, ◌||◌, ◌&&◌, not}
use Rattle.std.specs.Option.{unwrap_or}
use Rattle.esm_base.specs.Lists.{EachOnce, is_in}
use Rattle.esm_realm.proofs.Urls.{cases, not_true, not_both, or_left, or_true}
use Rattle.esm_realm.proofs.Lists.{either, in_first, in_later, in_cons}
use Rattle.esm_eval.specs.Nodes.{EvaluatingAsync, Evaluated}
use Rattle.esm_eval.specs.Evaluation.{Evaluation, IsLawful, phase, waits, waiters, is_done, is_stamped, root_of}
use Rattle.esm_eval.specs.BodyEnd.{IsReady, finish}
use Rattle.esm_eval.specs.Begins.{HaveBegunOnce}
use Rattle.esm_eval.specs.Counts.{unless}
use Rattle.esm_eval.specs.Inner.Ready.{RepeatsAt, is_async, no_error, one_over, over, ready_by, AreReady, IsJoined, Shut, Closed, Gathered, AreAllReady}
use Rattle.esm_eval.proofs.EndsKeep.{finished}
use Rattle.esm_eval.proofs.HasReady.{async_is, error_is, both, and_true, or_either, not_is, is_ready, ready_in}

-- ---- how many are left

unless_less : (a b : Bool) (m n : ℕ) → (a ≡ true → b ≡ true) → m ≤ n → unless b m ≤ unless a n
unless_less a true m n h le = by a
  where
    by : (a : Bool) → m ≤ unless a n
    by true = le
    by false = omega (arith, le)
unless_less true false m n h le = absurd (let q : false ≡ true = h refl in cc)
unless_less false false m n h le = omega (arith, le)

unless_fewer : (a b : Bool) (m n : ℕ) → (a ≡ true → b ≡ true) → m < n → unless b m < unless a n
unless_fewer true true m n h lt = lt
unless_fewer false true m n h lt = omega (arith, lt)
unless_fewer true false m n h lt = absurd (let q : false ≡ true = h refl in cc)
unless_fewer false false m n h lt = omega (arith, lt)

unless_gained : (a b : Bool) (m n : ℕ) → a ≡ false → b ≡ true → m ≤ n → unless b m < unless a n
unless_gained false true m n o j le = omega (arith, le)
unless_gained true b m n o j le = cc
unless_gained false false m n o j le = cc

-- the parts of a test, and back
pub parts : (s a n e o : Bool) → (s && (a && (n && (e && o)))) ≡ true → (s ≡ true) × (a ≡ true) × (n ≡ true) × (e ≡ true) × (o ≡ true)
parts true true true true o h = (refl, refl, refl, refl, h)
parts false a n e o h = cc
parts true false n e o h = cc
parts true true false e o h = cc
parts true true true false o h = cc

whole_of : (s a n e o : Bool) → s ≡ true → a ≡ true → n ≡ true → e ≡ true → o ≡ true → (s && (a && (n && (e && o)))) ≡ true
whole_of s a n e o hs ha hn he ho = and_true s _ hs (and_true a _ ha (and_true n _ hn (and_true e _ he ho)))

less_or_is : (j i : ℕ) → j < i + 1 → (j < i) ⊎ (j ≡ i)
less_or_is zero zero lt = inr refl
less_or_is zero (suc i) lt = inl (omega arith)
less_or_is (suc j) zero lt = absurd (omega (arith, lt))
less_or_is (suc j) (suc i) lt = either (less_or_is j i (omega (arith, lt))) (λ l. inl (omega (arith, l))) (λ e. inr (ap suc e))

module _ {N : Type 0} where
  -- how many of these don't pass the test
  abbrev pub missing : (N → Bool) → List N → ℕ
  missing test [] = 0
  missing test (x ∷ xs) = unless (test x) (missing test xs)

  pub missing_grown : (a b : N → Bool) (xs : List N) → ((x : N) → a x ≡ true → b x ≡ true) → missing b xs ≤ missing a xs
  missing_grown a b [] h = omega arith
  missing_grown a b (x ∷ xs) h = unless_less (a x) (b x) _ _ (h x) (missing_grown a b xs h)

  pub missing_gained : (same : N → N → Bool) (own : (x : N) → same x x ≡ true) (equal : (x y : N) → same x y ≡ true → x ≡ y) (a b : N → Bool) (xs : List N) (x : N)
      → ((y : N) → a y ≡ true → b y ≡ true) → is_in same xs x ≡ true → a x ≡ false → b x ≡ true → missing b xs < missing a xs
  missing_gained same own equal a b [] x h i o j = cc
  missing_gained same own equal a b (m ∷ ms) x h i o j = either (in_cons same own equal m ms x i)
      (λ e. unless_gained (a m) (b m) _ _ (subst (λ z. a z ≡ false) e o) (subst (λ z. b z ≡ true) e j) (missing_grown a b ms h))
      (λ k. unless_fewer (a m) (b m) _ _ (h m) (missing_gained same own equal a b ms x h k o j))

-- ---- gathering

module _ {N V W : Type 0} (E : Evaluation N V W) (L : IsLawful E) (w : W) where
  abbrev In : List N → N → Type 0
  In xs y = is_in E.same xs y ≡ true

  abbrev pub Grows : (N → Bool) → (N → Bool) → Type 0
  Grows known after = (x : N) → known x ≡ true → after x ≡ true

  -- one of these was added, and doesn't await
  abbrev IsAdded : (N → Bool) → (N → Bool) → List N → Type 0
  IsAdded known after ys = (z : N) × In ys z × (after z ≡ true) × (known z ≡ false) × (E.awaits w z ≡ false)

  one_more : (known after : N → Bool) (y : N) (d a k j : Bool) → known y ≡ k → after y ≡ j → E.awaits w y ≡ a → (d || (not a && j)) ≡ true
      → ((d || (not a && k)) ≡ true) ⊎ ((after y ≡ true) × (known y ≡ false) × (E.awaits w y ≡ false))
  one_more known after y true a k j ek ej ea h = inl refl
  one_more known after y false true k j ek ej ea h = cc
  one_more known after y false false true j ek ej ea h = inl refl
  one_more known after y false false false true ek ej ea h = inr (ej, ek, ea)
  one_more known after y false false false false ek ej ea h = cc

  over_more : (known after : N → Bool) (ys : List N) → over E w after ys ≡ true → (over E w known ys ≡ true) ⊎ IsAdded known after ys
  over_more known after [] h = inl refl
  over_more known after (y ∷ ys) h =
      let b = both (one_over E w after y) (over E w after ys) h in
      by (one_more known after y (is_done E w y) (E.awaits w y) (known y) (after y) refl refl refl b.0) (over_more known after ys b.1)
    where
      by : (one_over E w known y ≡ true) ⊎ ((after y ≡ true) × (known y ≡ false) × (E.awaits w y ≡ false)) → (over E w known ys ≡ true) ⊎ IsAdded known after ys
          → (over E w known (y ∷ ys) ≡ true) ⊎ IsAdded known after (y ∷ ys)
      by (inr a) rest = inr (y, in_first E.same L.names.own L.names.equal y ys, a.0, a.1, a.2)
      by (inl o) (inl r) = inl (and_true (one_over E w known y) (over E w known ys) o r)
      by (inl o) (inr z) = inr (z.0, in_later E.same L.names.own L.names.equal y ys z.0 z.1, z.2, z.3, z.4)

  -- what is ready where more are known was ready before, or waits for one that was added
  ready_more : (known after : N → Bool) (x : N) → ready_by E w after x ≡ true → (ready_by E w known x ≡ true) ⊎ IsAdded known after (waits E w x)
  ready_more known after x h =
      let p = parts (is_stamped E w x) (is_async (phase E w x)) (not (E.begun w x)) (no_error (E.node w (root_of E w x)).error) (over E w after (waits E w x)) h in
      either (over_more known after (waits E w x) p.4)
      (λ o. inl (whole_of (is_stamped E w x) (is_async (phase E w x)) (not (E.begun w x)) (no_error (E.node w (root_of E w x)).error) (over E w known (waits E w x)) p.0 p.1 p.2 p.3 o)) inr

  shut_on : IsJoined E w → (y : N) (known after : N → Bool) → Shut E w y known → Grows known after → Closed E w known after → Shut E w y after
  shut_on joins y known after s g c x i h = either (ready_more known after x h)
      (λ r. g x (s x i r))
      (λ z. c z.0 z.2 z.3 z.4 x (joins.joined x z.0 z.1) h)

  closed_on : IsJoined E w → (known mid after : N → Bool) → Closed E w known mid → Grows mid after → Closed E w mid after → Closed E w known after
  closed_on joins known mid after c g d z i o a = by (cases (mid z))
    where
      by : (mid z ≡ true) ⊎ (mid z ≡ false) → Shut E w z after
      by (inl j) = shut_on joins z mid after (c z j o a) g d
      by (inr n) = d z i n a

  -- amid the waiters of y, up to place i
  pub record Gathering (y : N) (known : N → Bool) (i : ℕ) (now : N → Bool) : Type 0 where
    pub grows : Grows known now
    pub sound : AreReady E w now
    pub closed : Closed E w known now
    pub seen : (j : ℕ) (x : N) → j < i → slice_get (waiters E w y) j ≡ Some x → ready_by E w now x ≡ true → now x ≡ true

  pub gathering_first : (y : N) (known : N → Bool) → AreReady E w known → Gathering y known 0 known
  gathering_first y known r = record {
    grows = λ x i. i;
    sound = r;
    closed = λ z i o a. absurd (not_both (known z) i o);
    seen = λ j x lt. absurd (omega (arith, lt));
  }

  some_is : {x z : N} → Some x ≡ Some z → x ≡ z
  some_is e = cc

  gathering_on : IsJoined E w → (y : N) (known now after : N → Bool) (i : ℕ) (x : N) → Gathering y known i now → slice_get (waiters E w y) i ≡ Some x
      → Grows now after → AreReady E w after → Closed E w now after → (ready_by E w after x ≡ true → after x ≡ true) → Gathering y known (i + 1) after
  gathering_on joins y known now after i x g at grows sound closed own_x = record {
    grows = λ z h. grows z (g.grows z h);
    sound = sound;
    closed = closed_on joins known now after g.closed grows closed;
    seen = λ j z lt e h. by j z lt e h (less_or_is j i lt);
  }
    where
      by : (j : ℕ) (z : N) → j < i + 1 → slice_get (waiters E w y) j ≡ Some z → ready_by E w after z ≡ true → (j < i) ⊎ (j ≡ i) → after z ≡ true
      by j z lt e h (inl less) = either (ready_more now after z h) (λ r. grows z (g.seen j z less e r)) (λ u. closed u.0 u.2 u.3 u.4 z (joins.joined z u.0 u.1) h)
      by j z lt e h (inr same) =
          let same_z : x ≡ z = some_is (sym at ∙ ap (slice_get (waiters E w y)) (sym same) ∙ e) in
          subst (λ u. after u ≡ true) same_z (own_x (subst (λ u. ready_by E w after u ≡ true) (sym same_z) h))

  -- a waiter that isn't to join
  pub gathering_same : IsJoined E w → (y : N) (known now : N → Bool) (i : ℕ) (x : N) → Gathering y known i now → slice_get (waiters E w y) i ≡ Some x
      → (ready_by E w now x ≡ true → now x ≡ true) → Gathering y known (i + 1) now
  gathering_same joins y known now i x g at k =
      gathering_on joins y known now now i x g at (λ z h. h) g.sound (λ z j o a. absurd (not_both (now z) j o)) k

  -- a waiter that stands before it too, and was tried there
  pub gathering_again : (y : N) (known now : N → Bool) (i : ℕ) → Gathering y known i now → RepeatsAt (waiters E w y) i → Gathering y known (i + 1) now
  gathering_again y known now i g r = record {
    grows = g.grows;
    sound = g.sound;
    closed = g.closed;
    seen = λ j z lt e h. by j z lt e h (less_or_is j i lt);
  }
    where
      by : (j : ℕ) (z : N) → j < i + 1 → slice_get (waiters E w y) j ≡ Some z → ready_by E w now z ≡ true → (j < i) ⊎ (j ≡ i) → now z ≡ true
      by j z lt e h (inl less) = g.seen j z less e h
      by j z lt e h (inr same) = g.seen r.0 z r.1 (r.2 ∙ ap (slice_get (waiters E w y)) (sym same) ∙ e) h

  -- x was added
  abbrev pub IsWith : (N → Bool) → N → (N → Bool) → Type 0
  IsWith now x after = (y : N) → after y ≡ (E.same y x || now y)

  pub grows_with : (now : N → Bool) (x : N) (after : N → Bool) → IsWith now x after → Grows now after
  grows_with now x after p z h = p z ∙ or_true (E.same z x) (now z) h

  pub has_with : (now : N → Bool) (x : N) (after : N → Bool) → IsWith now x after → after x ≡ true
  has_with now x after p = p x ∙ or_left (E.same x x) (now x) (L.names.own x)

  split_with : (now : N → Bool) (x : N) (after : N → Bool) → IsWith now x after → (z : N) → after z ≡ true → (z ≡ x) ⊎ (now z ≡ true)
  split_with now x after p z h = either (or_either (E.same z x) (now z) (sym (p z) ∙ h)) (λ s. inl (L.names.equal z x s)) (λ n. inr n)

  is_new : (now : N → Bool) (x : N) (after : N → Bool) → IsWith now x after → (z : N) → after z ≡ true → now z ≡ false → z ≡ x
  is_new now x after p z h o = either (split_with now x after p z h) (λ e. e) (λ n. absurd (not_both (now z) n o))

  pub sound_with : (now : N → Bool) (x : N) (after : N → Bool) → IsWith now x after → AreReady E w now → ready_by E w now x ≡ true → AreReady E w after
  sound_with now x after p r h z i = either (split_with now x after p z i) (λ e. subst (λ u. IsReady E w u) (sym e) (is_ready E L w now r x h)) (r z)

  -- fewer are left where x was added
  pub fewer_missing : (xs : List N) (known now mid : N → Bool) (x : N) → Grows known now → IsWith now x mid → In xs x → now x ≡ false → missing mid xs < missing known xs
  fewer_missing xs known now mid x g p i o =
      let a = missing_gained E.same L.names.own L.names.equal now mid xs x (grows_with now x mid p) i o (has_with now x mid p) in
      let b = missing_grown known now xs g in omega (arith, a, b)

  -- a waiter that is ready, and awaits
  pub gathering_awaits : IsJoined E w → (y : N) (known now after : N → Bool) (i : ℕ) (x : N) → Gathering y known i now → slice_get (waiters E w y) i ≡ Some x
      → IsWith now x after → ready_by E w now x ≡ true → E.awaits w x ≡ true → Gathering y known (i + 1) after
  gathering_awaits joins y known now after i x g at p r a =
      gathering_on joins y known now after i x g at (grows_with now x after p) (sound_with now x after p g.sound r)
      (λ z j o b. absurd (not_both (E.awaits w x) a (subst (λ u. E.awaits w u ≡ false) (is_new now x after p z j o) b)))
      (λ h. has_with now x after p)

  -- a waiter that is ready and doesn't await, whose waiters are gathered
  pub gathering_joins : IsJoined E w → (y : N) (known now mid after : N → Bool) (i : ℕ) (x : N) → Gathering y known i now → slice_get (waiters E w y) i ≡ Some x
      → IsWith now x mid → ready_by E w now x ≡ true → Gathered E w x mid after → Gathering y known (i + 1) after
  gathering_joins joins y known now mid after i x g at p r d =
      gathering_on joins y known now after i x g at (λ z h. d.grows z (grows_with now x mid p z h)) d.sound closed (λ h. d.grows x (has_with now x mid p))
    where
      by : (z : N) → after z ≡ true → now z ≡ false → E.awaits w z ≡ false → (mid z ≡ true) ⊎ (mid z ≡ false) → Shut E w z after
      by z i o a (inl j) = subst (λ u. Shut E w u after) (sym (is_new now x mid p z j o)) d.shut
      by z i o a (inr n) = d.closed z i n a

      closed : Closed E w now after
      closed z i o a = by z i o a (cases (mid z))

  -- all waiters of y are seen
  pub gathered : (y : N) (known now : N → Bool) (i : ℕ) → Gathering y known i now → length (waiters E w y) ≤ i → Gathered E w y known now
  gathered y known now i g le = record {
    grows = g.grows;
    sound = g.sound;
    closed = g.closed;
    shut = λ x h r. let p = place (waiters E w y) x h in g.seen p.0 x (let lt = p.1.0 in omega (arith, lt, le)) p.1.1 r;
  }
    where
      place : (xs : List N) (x : N) → In xs x → (k : ℕ) × ((k < length xs) × (slice_get xs k ≡ Some x))
      place [] x h = cc
      place (z ∷ zs) x h = either (in_cons E.same L.names.own L.names.equal z zs x h)
          (λ e. (zero, (omega arith, ap Some (sym e))))
          (λ k. let p = place zs x k in (suc p.0, (let lt = p.1.0 in omega (arith, lt), p.1.1)))

-- ---- once m is done, those that are gathered from it are all that are ready

module _ {N V W : Type 0} (E : Evaluation N V W) (L : IsLawful E) where
  pub joined_after : (w : W) (m : N) → HaveBegunOnce E w → IsJoined E (finish E w m)
  joined_after w m b =
      let l = (finished E L w m).later in
      record {
        joined = λ x y h. subst (λ xs. is_in E.same xs x ≡ true) (sym (l.all_waiters y)) (b.between.joined x y (subst (λ xs. is_in E.same xs y ≡ true) (l.all_waits x) h));
        distinct = subst (λ xs. EachOnce E.same xs) (sym l.grown.stamps) b.distinct;
      }

  over_at : (v : W) (known : N → Bool) (ys : List N) (y : N) → over E v known ys ≡ true → is_in E.same ys y ≡ true → one_over E v known y ≡ true
  over_at v known [] y h i = cc
  over_at v known (z ∷ zs) y h i = let q = both (one_over E v known z) (over E v known zs) h in either (in_cons E.same L.names.own L.names.equal z zs y i) (λ e. subst (λ u. one_over E v known u ≡ true) (sym e) q.0) (λ k. over_at v known zs y q.1 k)

  pub all_gathered : (w : W) (m : N) (none known : N → Bool) → ((x : N) → none x ≡ false) → HaveBegunOnce E w → Gathered E (finish E w m) m none known → AreAllReady E (finish E w m) known
  all_gathered w m none known empty b g = record { sound = g.sound; whole = λ x r. ready_in E L v known whole r }
    where
      v : W
      v = finish E w m

      root_back : (x : N) → (E.node v (root_of E v x)).error ≡ None → (E.node w (root_of E w x)).error ≡ None
      root_back x e = let l = (finished E L w m).later in l.errors (root_of E w x) (sym (ap (λ r. (E.node v (unwrap_or r x)).error) (l.roots x)) ∙ e)

      by : (x y : N) → ready_by E v known x ≡ true → is_done E w y ≡ false → is_in E.same (waiters E v y) x ≡ true → one_over E v known y ≡ true → known x ≡ true
      by x y h n i o = either (or_either (is_done E v y) (not (E.awaits v y) && known y) o)
          (λ t. either ((finished E L w m).dones y t) (λ u. absurd (not_both (is_done E w y) u n)) (λ e. g.shut x (subst (λ u. is_in E.same (waiters E v u) x ≡ true) e i) h))
          (λ t. let q = both (not (E.awaits v y)) (known y) t in g.closed y q.1 (empty y) (not_is (E.awaits v y) q.0) x i h)

      whole : (x : N) → is_stamped E v x ≡ true → ready_by E v known x ≡ true → known x ≡ true
      whole x s h =
          let f = finished E L w m in
          let p = parts (is_stamped E v x) (is_async (phase E v x)) (not (E.begun v x)) (no_error (E.node v (root_of E v x)).error) (over E v known (waits E v x)) h in
          let now : phase E v x ≡ EvaluatingAsync = async_is (phase E v x) p.1 in
          let async : phase E w x ≡ EvaluatingAsync = either (f.later.phases x) (λ e. sym e ∙ now) (λ e. let q : Evaluated ≡ EvaluatingAsync = sym e ∙ now in cc) in
          let unbegun : E.begun w x ≡ false = not_true (E.begun w x) (λ t. not_both (E.begun v x) (f.later.grown.begun x t) (not_is (E.begun v x) p.2)) in
          let o = b.between.waiting x async unbegun (root_back x (error_is (E.node v (root_of E v x)).error p.3)) in
          let there : is_in E.same (waits E v x) o.0 ≡ true = subst (λ xs. is_in E.same xs o.0 ≡ true) (sym (f.later.all_waits x)) o.1 in
          by x o.0 h o.2 ((joined_after w m b).joined x o.0 there) (over_at v known (waits E v x) o.0 p.4 there)
