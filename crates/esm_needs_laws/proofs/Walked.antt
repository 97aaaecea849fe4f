-- A walk of evaluation over a world that meets the invariant: it is met behind it, and each call in it is of a module that is ready.
use Rattle.std.proofs.Common.{◌≡◌, ◌⊎◌, inl, inr, ℕ, zero, suc, ◌+◌, Bool, true, false, List, [], ◌∷◌, ◌++◌, Option, Some, None, refl, ap, subst, sym, ◌∙◌, append_assoc, arith}
use Rattle.std.specs.Prelude.{⊤, not, ◌||◌, slice_get}
use Rattle.std.specs.List.{list_any}
use Rattle.std.proofs.lemmas.List.{append-nil}
use Rattle.esm_base.specs.Lists.{is_in}
use Rattle.esm_realm.specs.Walk.{Mark, Visits, Passes, IsWalkOf}
use Rattle.esm_realm.specs.Walk.Mark.{Enter, Pass, Leave}
use Rattle.esm_realm.specs.Walk.Visits.{known, fresh}
use Rattle.esm_realm.specs.Walk.Passes.{all, next}
use Rattle.esm_realm.specs.Components.{closes, leads_into, opened_before, opened_from}
use Rattle.esm_realm.proofs.Urls.{not_true, not_both, cases}
use Rattle.esm_realm.proofs.Lists as lists
use Rattle.esm_realm.proofs.Lists.{either}
use Rattle.esm_eval.specs.Nodes.{NotEntered, Evaluating, BodyCalls, was_entered}
use Rattle.esm_eval.specs.Evaluation.{Evaluation, IsLawful, IsSteady, phase, waits, is_stamped, error_of, add_wait, wait_on}
use Rattle.esm_eval.specs.Evaluate.{WalkEnd, Ends, Throws, Stops, Leaves, Marks, enter, close, fail}
use Rattle.esm_eval.specs.Evaluate.Marks.{done, enters, passes, pass_throws, stays, component, leave_throws, leave_stops}
use Rattle.esm_eval.proofs.Amid.{not_entered}
use Rattle.esm_eval.proofs.Puts.{put_at, put_stamped}
use Rattle.esm_needs_laws.proofs.Shape.{Leads, leads_on, Joined, Joint, OpenMet, Left, Grows, Inv, grows_same, grows_on, joint_on, left_on, over_root_on, waits_for_on}
use Rattle.esm_needs_laws.proofs.Shape.Leads.{itself, step}
use Rattle.esm_needs_laws.proofs.Moves.{Tells}
use Rattle.esm_needs_laws.proofs.Steps.{Closing, enter_inv, enter_grows, close_inv, close_grows, close_known, close_stamps, close_begun, fail_inv, one_in, clash, first_in, left_in, right_in, split_in}
use Rattle.esm_needs_laws.proofs.Waits.{Idle, Passing, pass_inv}
use Rattle.esm_needs_laws.proofs.Bodies.{Fine, Leaving, leaves_fine}

module _ {N V W S : Type 0} (E : Evaluation N V W) (acts : BodyCalls N V W S) (L : IsLawful E) (steady : IsSteady E acts) (to : N → List N) (Ended : W → N → Type 0) (tells : Tells E acts Ended) where
  abbrev Has : List N → N → Type 0
  Has xs y = is_in E.same xs y ≡ true

  abbrev Out : List N → N → Type 0
  Out xs y = is_in E.same xs y ≡ false

  abbrev To : N → N → Type 0
  To x y = Leads E.same to x y

  abbrev G : W → W → Type 0
  G = Grows E to Ended

  abbrev I : W → List N → Type 0
  I = Inv E to Ended

  abbrev IsIdle : W → N → Type 0
  IsIdle = Idle E acts L steady to Ended tells

  abbrev Calls : BodyCalls N V W S
  Calls = Fine E acts L steady to Ended tells

  abbrev pub After : WalkEnd V S → W → Type 0
  After Ends v = I v []
  After (Throws u) v = I v []
  After (Stops why) v = ⊤

  -- what is shown of marks
  abbrev pub Walked : W → List N → List (Mark N) → WalkEnd V S → W → Type 0
  Walked w opened ms end after = Marks E Calls to w opened ms end after × After end after

  abbrev Leading : W → List N → List (Mark N) → WalkEnd V S → W → Type 0
  Leading w opened ms end after = Marks E acts to w opened ms end after

  -- ---- lists

  later_in : (x : N) (xs : List N) (y : N) → Has xs y → Has (x ∷ xs) y
  later_in x xs y h = lists.in_later E.same L.names.own L.names.equal x xs y h

  cons_in : (x : N) (xs : List N) (y : N) → Has (x ∷ xs) y → (y ≡ x) ⊎ Has xs y
  cons_in x xs y h = lists.in_cons E.same L.names.own L.names.equal x xs y h

  split_at : (a b : List N) (y : N) → Has (a ++ b) y → Has a y ⊎ Has b y
  split_at a b y h = split_in E acts L steady to Ended tells a b y h

  in_a : (a b : List N) (y : N) → Has a y → Has (a ++ b) y
  in_a a b y h = left_in E acts L steady to Ended tells a b y h

  in_b : (a b : List N) (y : N) → Has b y → Has (a ++ b) y
  in_b a b y h = right_in E acts L steady to Ended tells a b y h

  first : (x : N) (xs : List N) → Has (x ∷ xs) x
  first x xs = first_in E acts L steady to Ended tells x xs

  no_both : {C : Type 0} (xs : List N) (y : N) → Has xs y → Out xs y → C
  no_both xs y h o = clash E acts L steady to Ended tells xs y h o

  -- from its i-th request on x requests these
  abbrev From : N → ℕ → List N → Type 0
  From x i ts = (k : ℕ) → slice_get (to x) (i + k) ≡ slice_get ts k

  later_from : (x : N) (i : ℕ) (t : N) (ts : List N) → From x i (t ∷ ts) → From x (suc i) ts
  later_from x i t ts f k = let e : i + suc k ≡ suc i + k = omega arith in subst (λ n. slice_get (to x) n ≡ slice_get ts k) e (f (suc k))

  whole_from : (x : N) → From x 0 (to x)
  whole_from x k = let e : 0 + k ≡ k = omega arith in ap (λ n. slice_get (to x) n) e

  first_from : (x : N) (i : ℕ) (t : N) (ts : List N) → From x i (t ∷ ts) → slice_get (to x) i ≡ Some t
  first_from x i t ts f = let e : i + zero ≡ i = omega arith in subst (λ n. slice_get (to x) n ≡ Some t) e (f zero)

  joined_all : {w : W} {r t m : N} → Joined E to Ended w r t → Joined E to Ended w t m → Joined E to Ended w r m
  joined_all j Joined.first = j
  joined_all j (Joined.waited k h) = Joined.waited (joined_all j k) h

  -- where t waits for nothing
  joined_none : {w : W} {t m : N} → waits E w t ≡ [] → Joined E to Ended w t m → m ≡ t
  joined_none e Joined.first = refl
  joined_none {w} {t} e (Joined.waited {p = p} {m = m} j h) = let k = subst (λ z. Has (waits E w z) m) (joined_none e j) h in let n = subst (λ zs. Has zs m) e k in cc

  -- ---- places of a walk

  pub record Place (w : W) (opened seen : List N) : Type 0 where
    pub inv : I w opened
    pub known : (y : N) → is_in E.same seen y ≡ was_entered (phase E w y)

  open_seen : {w : W} {opened seen : List N} → Place w opened seen → (y : N) → Has opened y → Has seen y
  open_seen p y h = p.known y ∙ ap was_entered (p.inv.base.opens y h)

  entered_at : {w : W} {opened seen : List N} → Place w opened seen → (y : N) → Has seen y → phase E w y ≡ NotEntered → ⊥
  entered_at {w} p y h e = not_both (was_entered (phase E w y)) (sym (p.known y) ∙ h) (ap was_entered e)

  -- the visit of t has left these open, above the others
  pub record Visited (w : W) (seen opened : List N) (t : N) (v : W) (seen' added : List N) : Type 0 where
    pub place : Place v (opened ++ added) seen'
    pub grows : G w v
    pub more : (y : N) → Has seen y → Has seen' y
    pub found : Has seen' t
    pub idle : (y : N) → Has seen y → IsIdle w y → IsIdle v y
    pub new : (m : N) → Has added m → Out seen m
    pub left : (m : N) → Has added m → Left E to Ended v (opened ++ added) m
    pub leads : (m : N) → Has added m → To t m
    pub back : (m : N) → Has added m → (y : N) × Has opened y × To m y
    pub joint : (m : N) → Has added m → Joint E to Ended v t m
    pub is_open : (m : N) → Has added m → phase E v t ≡ Evaluating
    pub bare : (m : N) → Has added m → is_stamped E v t ≡ false → waits E v t ≡ []

  -- amid the passes of x, which was entered in w0 over seen0; its requests for ts are left
  pub record Within (w0 : W) (seen0 opened : List N) (x : N) (w : W) (seen members ts : List N) : Type 0 where
    pub place : Place w (opened ++ x ∷ members) seen
    pub grows : G w0 w
    pub more : (y : N) → Has (x ∷ seen0) y → Has seen y
    pub idle : (y : N) → Has seen0 y → IsIdle w0 y → IsIdle w y
    pub own_idle : IsIdle w x
    pub reach : (y : N) → Has (opened ++ x ∷ members) y → To y x
    pub new : (m : N) → Has members m → Out seen0 m
    pub left : (m : N) → Has members m → Left E to Ended w (opened ++ x ∷ members) m
    pub leads : (m : N) → Has members m → To x m
    pub joint : (m : N) → Has members m → Joint E to Ended w x m
    pub met : (t : N) → Has (to x) t → Has ts t ⊎ OpenMet E to Ended w (opened ++ x ∷ members) x t

  met_on : {w v : W} (opened more : List N) (m t : N) → G w v → ((y : N) → Has opened y → Has more y) → OpenMet E to Ended w opened m t → OpenMet E to Ended v more m t
  met_on opened more m t g f q = either q (λ k. inl (f _ k.0, k.1)) (λ k. inr (either k (λ o. inl (over_root_on E to Ended g o)) (λ k. inr (waits_for_on E to Ended g k))))

  unstamped_back : {w v : W} → G w v → (m : N) → is_stamped E v m ≡ false → is_stamped E w m ≡ false
  unstamped_back {w} {v} g m h = not_true (is_stamped E w m) (λ k. not_both (is_stamped E v m) (g.stamped m k) h)

  left_to : {w v : W} {opened more : List N} {m : N} → G w v → ((y : N) → Has opened y → Has more y) → Left E to Ended w opened m → Left E to Ended v more m
  left_to {m = m} g f l = left_on E to Ended g f (unstamped_back g m) l

  -- ---- a module is entered

  module _ {w : W} {opened seen : List N} (x : N) (p : Place w opened seen) (n : Out seen x) (reach : (y : N) → Has opened y → To y x) where
    new_phase : phase E w x ≡ NotEntered
    new_phase = not_entered (phase E w x) (sym (p.known x) ∙ n)

    enter_known : (y : N) → is_in E.same (x ∷ seen) y ≡ was_entered (phase E (enter E w x) y)
    enter_known y = by (cases (E.same y x)) (put_at E L w x (record (E.node w x) { phase = Evaluating }) y)
      where
        by : (E.same y x ≡ true) ⊎ (E.same y x ≡ false) → ((y ≡ x) × (E.node (enter E w x) y ≡ record (E.node w x) { phase = Evaluating })) ⊎ ((E.same y x ≡ false) × (E.node (enter E w x) y ≡ E.node w y)) → is_in E.same (x ∷ seen) y ≡ was_entered (phase E (enter E w x) y)
        by (inl h) (inl q) = subst (λ z. Has (x ∷ seen) z) (sym q.0) (first x seen) ∙ sym (ap (λ n. was_entered n.phase) q.1)
        by (inl h) (inr q) = absurd (not_both (E.same y x) h q.0)
        by (inr h) (inl q) = absurd (not_both (E.same y x) (subst (λ z. E.same z x ≡ true) (sym q.0) (L.names.own x)) h)
        by (inr h) (inr q) = subst (λ b. (b || is_in E.same seen y) ≡ is_in E.same seen y) (sym h) refl ∙ p.known y ∙ sym (ap (λ n. was_entered n.phase) q.1)

    put_begun : (y : N) → E.begun (enter E w x) y ≡ E.begun w y
    put_begun y = (L.put w x (record (E.node w x) { phase = Evaluating })).begun y

    same_stamped : (y : N) → is_stamped E (enter E w x) y ≡ is_stamped E w y
    same_stamped y = put_stamped E L w x (record (E.node w x) { phase = Evaluating }) y

    entered : Within w seen opened x (enter E w x) (x ∷ seen) [] (to x)
    entered = record {
      place = record { inv = enter_inv E acts L steady to Ended tells w opened x new_phase p.inv; known = enter_known };
      grows = enter_grows E acts L steady to Ended tells w opened x new_phase p.inv;
      more = λ y h. h;
      idle = λ y h i. record { unstamped = same_stamped y ∙ i.unstamped; unbegun = put_begun y ∙ i.unbegun };
      own_idle = record { unstamped = same_stamped x ∙ p.inv.base.unstamped x new_phase; unbegun = put_begun x ∙ p.inv.base.unbegun x new_phase };
      reach = λ y h. either (split_at opened (x ∷ []) y h) (reach y) (λ k. subst (λ z. To z x) (sym (one_in E acts L steady to Ended tells x y k)) itself);
      new = λ m h. cc;
      left = λ m h. cc;
      leads = λ m h. cc;
      joint = λ m h. cc;
      met = λ t h. inl h;
    }

  -- ---- a request was visited, and is passed

  module _ {w0 : W} {seen0 opened : List N} {x : N} {w v : W} {seen between members ts added : List N} (t : N) (asks : Has (to x) t) (i : Within w0 seen0 opened x w seen members (t ∷ ts)) (q : Visited w seen (opened ++ x ∷ members) t v between added) where
    abbrev below : List N
    below = opened ++ x ∷ members

    abbrev beyond : List N
    beyond = opened ++ x ∷ (members ++ added)

    beyond_is : below ++ added ≡ beyond
    beyond_is = append_assoc opened (x ∷ members) added

    up : (y : N) → Has below y → Has beyond y
    up y h = subst (λ zs. Has zs y) beyond_is (in_a below added y h)

    mid_place : Place v beyond between
    mid_place = subst (λ zs. Place v zs between) beyond_is q.place

    mid_idle : IsIdle v x
    mid_idle = q.idle x (i.more x (first x seen0)) i.own_idle

    mid_reach : (y : N) → Has beyond y → To y x
    mid_reach y h = either (split_at below added y (subst (λ zs. Has zs y) (sym beyond_is) h)) (i.reach y) (λ k. let b = q.back y k in leads_on b.2 (i.reach b.0 b.1))

    open_x : Has beyond x
    open_x = in_b opened (x ∷ (members ++ added)) x (first x (members ++ added))

    module _ (fine : error_of E v t ≡ None) where
      abbrev passed : W
      passed = add_wait E v x (wait_on E v t)

      passing : Passing E acts L steady to Ended tells v beyond x t passed
      passing = pass_inv E acts L steady to Ended tells v beyond x t (entered_at mid_place t q.found) asks open_x mid_idle (mid_reach t) fine mid_place.inv

      two : G w passed
      two = grows_on E to Ended q.grows passing.grows

      -- behind the pass x waits for t, or all that t waited for has ended
      joint_new : (m : N) → Has added m → Joint E to Ended passed x m
      joint_new m h = either (cases (is_stamped E v t))
          (λ s. either (joint_on E to Ended passing.grows (q.joint m h)) inl (λ j. inr (joined_all (Joined.waited Joined.first (passing.joins (q.is_open m h) s)) j)))
          (λ s. inl (passing.grows.ended m (either (q.joint m h) (λ e. e) (λ j.
          let e : m ≡ t = joined_none (q.bare m h s) j in
          (q.left m h).ran (subst (λ z. is_stamped E v z ≡ false) (sym e) s)))))

      further : Within w0 seen0 opened x passed between (members ++ added) ts
      further = record {
        place = record { inv = passing.inv; known = λ y. mid_place.known y ∙ sym (ap was_entered (passing.phases y)) };
        grows = grows_on E to Ended i.grows two;
        more = λ y h. q.more y (i.more y h);
        idle = λ y h k. passing.idle y (q.idle y (i.more y (later_in x seen0 y h)) (i.idle y h k));
        own_idle = passing.idle x mid_idle;
        reach = mid_reach;
        new = λ m h. either (split_at members added m h) (i.new m) (λ k. not_true (is_in E.same seen0 m) (λ z. no_both seen m (i.more m (later_in x seen0 m z)) (q.new m k)));
        left = λ m h. either (split_at members added m h) (λ k. left_to two up (i.left m k)) (λ k. left_to passing.grows (λ y z. subst (λ zs. Has zs y) beyond_is z) (q.left m k));
        leads = λ m h. either (split_at members added m h) (i.leads m) (λ k. step asks (q.leads m k));
        joint = λ m h. either (split_at members added m h) (λ k. joint_on E to Ended two (i.joint m k)) (joint_new m);
        met = λ u h. either (i.met u h) (λ k. either (cons_in t ts u k) (λ e. inr (subst (λ z. OpenMet E to Ended passed beyond x z) (sym e) passing.met)) inl) (λ k. inr (met_on below beyond x u two up k));
      }

  -- ---- x is left

  leave_marks : {w : W} {o : List N} {x : N} {ms : List (Mark N)} {end : WalkEnd V S} {after : W} → Leading w o (Leave x ∷ ms) end after
      → ((mid : W) → Leaves E acts w x Ends mid → closes E.same to o x ≡ false → Leading mid o ms end after → Leaves E Calls w x Ends mid × Walked mid o ms end after)
      → ((mid : W) → Leaves E acts w x Ends mid → closes E.same to o x ≡ true → Leading (close E mid x (opened_from E.same o x)) (opened_before E.same o x) ms end after
      → Leaves E Calls w x Ends mid × Walked (close E mid x (opened_from E.same o x)) (opened_before E.same o x) ms end after)
      → ((mid : W) (u : V) → Leaves E acts w x (Throws u) mid → Leaves E Calls w x (Throws u) mid × I (fail E mid u o) [])
      → ((mid : W) (why : S) → Leaves E acts w x (Stops why) mid → Leaves E Calls w x (Stops why) mid)
      → Walked w o (Leave x ∷ ms) end after
  leave_marks (stays {mid = mid} l c q) f g h k = let r = f mid l c q in (stays r.0 c r.1.0, r.1.1)
  leave_marks (component {mid = mid} l c q) f g h k = let r = g mid l c q in (component r.0 c r.1.0, r.1.1)
  leave_marks (leave_throws {mid = mid} u l) f g h k = let r = h mid u l in (leave_throws u r.0, r.1)
  leave_marks (leave_stops {mid = mid} why l) f g h k = (leave_stops why (k mid why l), tt)

  module _ {w0 : W} {seen0 opened : List N} {x : N} {w : W} {seen members : List N} (p : Place w0 opened seen0) (n : Out seen0 x) (i : Within w0 seen0 opened x w seen members []) where
    abbrev whole : List N
    whole = opened ++ x ∷ members

    abbrev mine : List N
    mine = x ∷ members

    x_open : Has whole x
    x_open = in_b opened mine x (first x members)

    x_phase : phase E w x ≡ Evaluating
    x_phase = i.place.inv.base.opens x x_open

    all_met : (t : N) → Has (to x) t → OpenMet E to Ended w whole x t
    all_met t h = either (i.met t h) (λ k. cc) (λ k. k)

    new_mine : (y : N) → Has mine y → Out seen0 y
    new_mine y h = either (cons_in x members y h) (λ e. subst (λ z. Out seen0 z) (sym e) n) (i.new y)

    out_mine : (y : N) → Has mine y → Out opened y
    out_mine y h = not_true (is_in E.same opened y) (λ k. no_both seen0 y (open_seen p y k) (new_mine y h))

    leaving : {end : WalkEnd V S} {mid : W} → Leaves E acts w x end mid → Leaving E acts L steady to Ended tells w whole x end mid
    leaving l = leaves_fine E acts L steady to Ended tells whole x x_phase all_met i.place.inv l

    module _ {mid : W} (l : Leaves E acts w x Ends mid) where
      abbrev left_x : Type 0
      left_x = Leaving E acts L steady to Ended tells w whole x Ends mid

      k : left_x
      k = leaving l

      mid_known : (y : N) → is_in E.same seen y ≡ was_entered (phase E mid y)
      mid_known y = i.place.known y ∙ sym (ap (λ m. was_entered m.phase) (k.nodes y))

      left_at : (m : N) → Has mine m → Left E to Ended mid whole m
      left_at m h = either (cons_in x members m h) (λ e. subst (λ z. Left E to Ended mid whole z) (sym e) (record { ran = k.ran refl; met = λ t q. met_on whole whole x t k.grows (λ y z. z) (all_met t q) }))
          (λ q. left_to k.grows (λ y z. z) (i.left m q))

      leads_at : (m : N) → Has mine m → To x m
      leads_at m h = either (cons_in x members m h) (λ e. subst (λ z. To x z) (sym e) itself) (i.leads m)

      joint_at : (m : N) → Has mine m → Joint E to Ended mid x m
      joint_at m h = either (cons_in x members m h) (λ e. inr (subst (λ z. Joined E to Ended mid x z) (sym e) Joined.first)) (λ q. joint_on E to Ended k.grows (i.joint m q))

      idle_at : (y : N) → Has seen0 y → IsIdle w0 y → IsIdle mid y
      idle_at y h z =
          let b = i.idle y h z in
          record {
            unstamped = not_true (is_stamped E mid y) (λ s. either (k.stamps y s) (λ q. not_both (is_stamped E w y) q b.unstamped) (λ e. no_both seen0 y h (subst (λ z. Out seen0 z) (sym e) n)));
            unbegun = not_true (E.begun mid y) (λ s. either (k.begins y s) (λ q. not_both (E.begun w y) q b.unbegun) (λ e. no_both seen0 y h (subst (λ z. Out seen0 z) (sym e) n)));
          }

      found_x : Has seen x
      found_x = i.more x (first x seen0)

      more_at : (y : N) → Has seen0 y → Has seen y
      more_at y h = i.more y (later_in x seen0 y h)

      -- a member has a request for what is open below
      module _ (y : N) (h : Has opened y) (m : N) (j : Has mine m) (r : Has (to m) y) where
        stayed : Visited w0 seen0 opened x mid seen mine
        stayed = record {
          place = record { inv = k.inv; known = mid_known };
          grows = grows_on E to Ended i.grows k.grows;
          more = more_at;
          found = found_x;
          idle = idle_at;
          new = new_mine;
          left = left_at;
          leads = leads_at;
          back = λ z q. (y, h, leads_on (i.reach z (in_b opened mine z q)) (leads_on (leads_at m j) (step r itself)));
          joint = joint_at;
          is_open = λ z q. ap (λ m. m.phase) (k.nodes x) ∙ x_phase;
          bare = λ z q s. k.bare s;
        }

      module _ (apart : leads_into E.same to mine opened ≡ false) where
        abbrev shut : W
        shut = close E mid x mine

        apart_at : (m t : N) → Has mine m → Has (to m) t → Out opened t
        apart_at m t h q = lists.none_found E.same L.names.own L.names.equal (λ t. is_in E.same opened t) (to m) (lists.none_found E.same L.names.own L.names.equal (λ x. list_any (λ t. is_in E.same opened t) (to x)) mine apart m h) t q

        closing : Closing E acts L steady to Ended tells mid opened members x
        closing = record {
          out = out_mine;
          apart = apart_at;
          there = λ m h. i.reach m (in_b opened mine m h);
          back = leads_at;
          left = left_at;
          joint = joint_at;
        }

        closed : Visited w0 seen0 opened x shut seen []
        closed = record {
          place = subst (λ zs. Place shut zs seen) (sym (append-nil opened)) (record { inv = close_inv E acts L steady to Ended tells mid opened members x closing k.inv; known = λ y. mid_known y ∙ sym (close_known E acts L steady to Ended tells mid opened members x closing k.inv y) });
          grows = grows_on E to Ended i.grows (grows_on E to Ended k.grows (close_grows E acts L steady to Ended tells mid opened members x closing k.inv));
          more = more_at;
          found = found_x;
          idle = λ y h z. let b = idle_at y h z in record { unstamped = ap (λ xs. is_in E.same xs y) (close_stamps E acts L steady to Ended tells mid opened members x closing k.inv) ∙ b.unstamped; unbegun = close_begun E acts L steady to Ended tells mid opened members x closing k.inv y ∙ b.unbegun };
          new = λ m h. cc;
          left = λ m h. cc;
          leads = λ m h. cc;
          back = λ m h. cc;
          joint = λ m h. cc;
          is_open = λ m h. cc;
          bare = λ m h. cc;
        }

    from_is : opened_from E.same whole x ≡ mine
    from_is = lists.from_is E.same L.names.own L.names.equal opened members x (out_mine x (first x members))

    below_is : opened_before E.same whole x ≡ opened
    below_is = lists.below_is E.same L.names.own L.names.equal opened members x (out_mine x (first x members))

    closes_is : closes E.same to whole x ≡ not (leads_into E.same to mine opened)
    closes_is = λ j. not (leads_into E.same to (from_is j) (below_is j))

    not_false : (b : Bool) → not b ≡ false → b ≡ true
    not_false true h = refl
    not_false false h = cc

    not_yes : (b : Bool) → not b ≡ true → b ≡ false
    not_yes true h = cc
    not_yes false h = refl

    abbrev Goes : List N → List (Mark N) → WalkEnd V S → W → Type 0
    Goes seen' ms end after = (v : W) (added : List N) → Visited w0 seen0 opened x v seen' added → Leading v (opened ++ added) ms end after → Walked v (opened ++ added) ms end after

    leave : {ms : List (Mark N)} {end : WalkEnd V S} {after : W} → Leading w whole (Leave x ∷ ms) end after → Goes seen ms end after → Walked w whole (Leave x ∷ ms) end after
    leave {ms} {end} {after} h go = leave_marks h
        (λ mid l c q.
        let m = lists.any_found E.same L.names.own L.names.equal (λ x. list_any (λ t. is_in E.same opened t) (to x)) mine (not_false (leads_into E.same to mine opened) (sym closes_is ∙ c)) in
        let t = lists.any_found E.same L.names.own L.names.equal (λ t. is_in E.same opened t) (to m.0) m.2 in
        ((leaving l).fine, go mid mine (stayed l t.0 t.2 m.0 m.1 t.1) q))
        (λ mid l c q.
        let none : opened ++ [] ≡ opened = append-nil opened in
        let v : W = close E mid x mine in
        let q1 : Leading v (opened_before E.same whole x) ms end after = subst (λ zs. Leading (close E mid x zs) (opened_before E.same whole x) ms end after) from_is q in
        let q2 : Leading v (opened ++ []) ms end after = subst (λ zs. Leading v zs ms end after) (below_is ∙ sym none) q1 in
        let r = go v [] (closed l (not_yes (leads_into E.same to mine opened) (sym closes_is ∙ c))) q2 in
        let r1 = subst (λ zs. Marks E Calls to v zs ms end after) (none ∙ sym below_is) r.0 in
        ((leaving l).fine, (subst (λ zs. Marks E Calls to (close E mid x zs) (opened_before E.same whole x) ms end after) (sym from_is) r1, r.1)))
        (λ mid u l. let k = leaving l in (k.fine, fail_inv E acts L steady to Ended tells mid u whole k.inv))
        (λ mid why l. (leaving l).fine)

  -- ---- the walk

  enter_marks : {w : W} {opened : List N} {x : N} {ms : List (Mark N)} {end : WalkEnd V S} {after : W} → Leading w opened (Enter x ∷ ms) end after → (Leading (enter E w x) (opened ++ x ∷ []) ms end after → Walked (enter E w x) (opened ++ x ∷ []) ms end after) → Walked w opened (Enter x ∷ ms) end after
  enter_marks (enters p) go = let r = go p in (enters r.0, r.1)

  pass_marks : {w : W} {opened : List N} {x : N} {i : ℕ} {ms : List (Mark N)} {end : WalkEnd V S} {after : W} → I w opened → Leading w opened (Pass x i ∷ ms) end after
      → ((t : N) → slice_get (to x) i ≡ Some t → error_of E w t ≡ None → Leading (add_wait E w x (wait_on E w t)) opened ms end after → Walked (add_wait E w x (wait_on E w t)) opened ms end after) → Walked w opened (Pass x i ∷ ms) end after
  pass_marks inv (passes {t = t} s n p) go = let r = go t s n p in (passes s n r.0, r.1)
  pass_marks {w} {opened} inv (pass_throws u s n) go = (pass_throws u s n, fail_inv E acts L steady to Ended tells w u opened inv)

  target_one : {A : Type 0} {o : Option A} {s t : A} → o ≡ Some s → o ≡ Some t → s ≡ t
  target_one p q = cc

  mutual
    visit : {seen seen' : List N} {t : N} {marks : List (Mark N)} → Visits E.same to seen t marks seen' → (w : W) (opened : List N) → Place w opened seen → (Out seen t → (y : N) → Has opened y → To y t)
        → {ms : List (Mark N)} {end : WalkEnd V S} {after : W} → Leading w opened (marks ++ ms) end after
        → ((v : W) (added : List N) → Visited w seen opened t v seen' added → Leading v (opened ++ added) ms end after → Walked v (opened ++ added) ms end after)
        → Walked w opened (marks ++ ms) end after
    visit (known {seen = seen} {x = t} h) w opened p reach {ms} {end} {after} q go =
        let none : opened ++ [] ≡ opened = append-nil opened in
        let r = go w [] (record {
          place = subst (λ zs. Place w zs seen) (sym none) p;
          grows = grows_same E to Ended w;
          more = λ y k. k;
          found = h;
          idle = λ y k i. i;
          new = λ m k. cc;
          left = λ m k. cc;
          leads = λ m k. cc;
          back = λ m k. cc;
          joint = λ m k. cc;
          is_open = λ m k. cc;
          bare = λ m k. cc;
        }) (subst (λ zs. Leading w zs ms end after) (sym none) q) in
        (subst (λ zs. Marks E Calls to w zs ms end after) none r.0, r.1)
    visit (fresh {seen = seen} {after = seen'} {x = x} {marks = marks} n d) w opened p reach {ms} {end} {after} q go =
        let one : (marks ++ Leave x ∷ []) ++ ms ≡ marks ++ (Leave x ∷ ms) = append_assoc marks (Leave x ∷ []) ms in
        let r = enter_marks (subst (λ ns. Leading w opened (Enter x ∷ ns) end after) one q) (λ q2.
        requests d (whole_from x) (λ u h. h) w seen opened [] (enter E w x) p n (entered x p n (reach n)) q2 (λ v members i q3. leave p n i q3 go)) in
        (subst (λ ns. Marks E Calls to w opened (Enter x ∷ ns) end after) (sym one) r.0, r.1)

    requests : {seen seen' : List N} {x : N} {i : ℕ} {ts : List N} {marks : List (Mark N)} → Passes E.same to seen x i ts marks seen' → From x i ts → ((u : N) → Has ts u → Has (to x) u)
        → (w0 : W) (seen0 opened members : List N) (w : W) → Place w0 opened seen0 → Out seen0 x → Within w0 seen0 opened x w seen members ts
        → {ms : List (Mark N)} {end : WalkEnd V S} {after : W} → Leading w (opened ++ x ∷ members) (marks ++ ms) end after
        → ((v : W) (members' : List N) → Within w0 seen0 opened x v seen' members' [] → Leading v (opened ++ x ∷ members') ms end after → Walked v (opened ++ x ∷ members') ms end after)
        → Walked w (opened ++ x ∷ members) (marks ++ ms) end after
    requests all f asks w0 seen0 opened members w p n i q go = go w members i q
    requests (next {seen = seen} {between = between} {x = x} {t = t} {i = j} {ts = ts} {first = firsts} {marks = marks} d ds) f asks w0 seen0 opened members w p n i {ms} {end} {after} q go =
        let here : Has (to x) t = asks t (first t ts) in
        let one : (firsts ++ Pass x j ∷ marks) ++ ms ≡ firsts ++ (Pass x j ∷ (marks ++ ms)) = append_assoc firsts (Pass x j ∷ marks) ms in
        let r = visit d w (opened ++ x ∷ members) i.place (λ o y h. leads_on (i.reach y h) (step here itself)) (subst (λ ns. Leading w (opened ++ x ∷ members) ns end after) one q)
        (λ v added k q2.
        let two : (opened ++ x ∷ members) ++ added ≡ opened ++ x ∷ (members ++ added) = append_assoc opened (x ∷ members) added in
        let r2 = pass_marks (subst (λ zs. I v zs) two k.place.inv) (subst (λ zs. Leading v zs (Pass x j ∷ (marks ++ ms)) end after) two q2)
        (λ u s fine q3.
        let same : u ≡ t = target_one s (first_from x j t ts f) in
        requests ds (later_from x j t ts f) (λ z h. asks z (later_in t ts z h)) w0 seen0 opened (members ++ added) (add_wait E v x (wait_on E v u)) p n
        (subst (λ z. Within w0 seen0 opened x (add_wait E v x (wait_on E v z)) between (members ++ added) ts) (sym same) (further t here i k (subst (λ z. error_of E v z ≡ None) same fine))) q3 go) in
        (subst (λ zs. Marks E Calls to v zs (Pass x j ∷ (marks ++ ms)) end after) (sym two) r2.0, r2.1)) in
        (subst (λ ns. Marks E Calls to w (opened ++ x ∷ members) ns end after) (sym one) r.0, r.1)

  no_members : (xs : List N) → ((m : N) → Has xs m → ⊥) → xs ≡ []
  no_members [] f = refl
  no_members (x ∷ xs) f = absurd (f x (first x xs))

  -- behind the walk nothing is open
  at_end : {v : W} {opened : List N} {end : WalkEnd V S} {after : W} → I v opened → opened ≡ [] → Leading v opened [] end after → Walked v opened [] end after
  at_end {v} i e done = (done, subst (λ zs. I v zs) e i)

  pub walked : {closed : List N} {m : N} {marks : List (Mark N)} {start after : W} {end : WalkEnd V S} → ((x : N) → is_in E.same closed x ≡ was_entered (phase E start x))
      → IsWalkOf E.same to closed m marks → I start [] → Leading start [] marks end after → Walked start [] marks end after
  walked {marks = marks} {start = start} {after = after} {end = end} is d i q =
      let none : marks ++ [] ≡ marks = append-nil marks in
      let r = visit d.1 start [] (record { inv = i; known = is }) (λ n y h. cc) (subst (λ ns. Leading start [] ns end after) (sym none) q)
      (λ v added k q2. at_end k.place.inv (no_members added (λ m h. let b = k.back m h in let z = b.1 in cc)) q2) in
      (subst (λ ns. Marks E Calls to start [] ns end after) none r.0, r.1)
