-- The calls for bodies that a walk makes: each is of a module whose needs have ended.
use Rattle.std.proofs.Common.{◌≡◌, ◌⊎◌, inl, inr, true, false, List, [], ap, subst, sym, ◌∙◌}
use Rattle.esm_base.specs.Lists.{is_in}
use Rattle.esm_realm.proofs.Urls.{not_both}
use Rattle.esm_realm.proofs.Lists.{either}
use Rattle.esm_eval.specs.Nodes.{NotEntered, Evaluating, BodyCalls, module_of}
use Rattle.esm_eval.specs.Evaluation.{Evaluation, IsLawful, IsSteady, IsAlike, phase, waits, is_stamped}
use Rattle.esm_eval.specs.Evaluate.{WalkEnd, Ends, ExecutesAsync, Executes, Leaves}
use Rattle.esm_eval.proofs.Amid.{like_nodes}
use Rattle.esm_needs_laws.proofs.Shape.{Leads, Over, OpenMet, Grows, Inv, grows_on, ready_open}
use Rattle.esm_needs_laws.proofs.Moves.{Tells, like_grows, alike_inv, call_inv, call_grows}
use Rattle.esm_needs_laws.proofs.Waits.{stamp_split, has_stamp, stamp_grows, stamp_inv}

module _ {N V W S : Type 0} (E : Evaluation N V W) (acts : BodyCalls N V W S) (L : IsLawful E) (steady : IsSteady E acts) (to : N → List N) (Ended : W → N → Type 0) (tells : Tells E acts Ended) where
  abbrev Has : List N → N → Type 0
  Has xs y = is_in E.same xs y ≡ true

  abbrev To : N → N → Type 0
  To x y = Leads E.same to x y

  abbrev G : W → W → Type 0
  G = Grows E to Ended

  abbrev I : W → List N → Type 0
  I = Inv E to Ended

  -- all that x needs has ended
  abbrev pub ReadyAt : W → N → Type 0
  ReadyAt w x = (t y : N) → Has (to x) t → (To t x → ⊥) → To t y → Ended w y

  -- a call for the body of a module that is ready
  abbrev pub Fine : BodyCalls N V W S
  Fine w c r v = ReadyAt w (module_of c) × acts w c r v

  -- what such calls leave
  pub record Called (w : W) (opened : List N) (m : N) (after : W) : Type 0 where
    pub inv : I after opened
    pub grows : G w after
    pub nodes : (y : N) → E.node after y ≡ E.node w y
    pub stamps : E.stamps after ≡ E.stamps w
    pub begins : (y : N) → E.begun after y ≡ true → (E.begun w y ≡ true) ⊎ (y ≡ m)

  pub record StartsFine (w : W) (opened : List N) (m : N) (end : WalkEnd V S) (after : W) : Type 0 where
    pub fine : ExecutesAsync E Fine w m end after
    pub called : Called w opened m after

  pub record RunsFine (w : W) (opened : List N) (m : N) (end : WalkEnd V S) (after : W) : Type 0 where
    pub fine : Executes E Fine w m end after
    pub called : Called w opened m after
    pub ended : end ≡ Ends → Ended after m

  module _ {w : W} {m : N} (opened : List N) (entered : phase E w m ≡ NotEntered → ⊥) (over : (y : N) → Has (waits E w m) y → Over E to Ended w y) (ready : ReadyAt w m) (i : I w opened) where
    abbrev made : W
    made = E.make_body_promise w m

    alike : IsAlike E w made
    alike = L.make_body_promise w m

    made_grows : G w made
    made_grows = like_grows E acts L steady to Ended tells w made (like_nodes E w made alike.far.nodes) alike.far.stamps (tells.make_body w m)

    made_inv : I made opened
    made_inv = alike_inv E acts L steady to Ended tells w made opened alike (tells.make_body w m) i

    made_ready : ReadyAt made m
    made_ready t y h k q = tells.make_body w m y (ready t y h k q)

    made_entered : phase E made m ≡ NotEntered → ⊥
    made_entered h = entered (sym (ap (λ n. n.phase) (alike.far.nodes m)) ∙ h)

    made_over : (y : N) → Has (waits E made m) y → Over E to Ended made y
    made_over y h = made_grows.over y (over y (subst (λ n. Has n.waits y) (alike.far.nodes m) h))

    pub starts_fine : {end : WalkEnd V S} {after : W} → ExecutesAsync E acts w m end after → StartsFine w opened m end after
    starts_fine {after = after} (ExecutesAsync.starts p) = record {
      fine = ExecutesAsync.starts (made_ready, p);
      called = let s = steady.call _ _ _ _ p in record {
        inv = call_inv E acts L steady to Ended tells p opened made_entered made_over made_inv;
        grows = grows_on E to Ended made_grows (call_grows E acts L steady to Ended tells p);
        nodes = λ y. s.nodes y ∙ alike.far.nodes y;
        stamps = s.stamps ∙ alike.far.stamps;
        begins = λ y h. either (tells.others p y h) (λ k. inl (sym (alike.far.begun y) ∙ k)) inr;
      };
    }
    starts_fine {after = after} (ExecutesAsync.stops why p) = record {
      fine = ExecutesAsync.stops why (made_ready, p);
      called = let s = steady.call _ _ _ _ p in record {
        inv = call_inv E acts L steady to Ended tells p opened made_entered made_over made_inv;
        grows = grows_on E to Ended made_grows (call_grows E acts L steady to Ended tells p);
        nodes = λ y. s.nodes y ∙ alike.far.nodes y;
        stamps = s.stamps ∙ alike.far.stamps;
        begins = λ y h. either (tells.others p y h) (λ k. inl (sym (alike.far.begun y) ∙ k)) inr;
      };
    }

    pub runs_fine : {end : WalkEnd V S} {after : W} → Executes E acts w m end after → RunsFine w opened m end after
    runs_fine (Executes.ends p) = record {
      fine = Executes.ends (ready, p);
      called = let s = steady.call _ _ _ _ p in record {
        inv = call_inv E acts L steady to Ended tells p opened entered over i;
        grows = call_grows E acts L steady to Ended tells p;
        nodes = s.nodes;
        stamps = s.stamps;
        begins = tells.others p;
      };
      ended = λ e. tells.runs p;
    }
    runs_fine (Executes.throws v p) = record {
      fine = Executes.throws v (ready, p);
      called = let s = steady.call _ _ _ _ p in record {
        inv = call_inv E acts L steady to Ended tells p opened entered over i;
        grows = call_grows E acts L steady to Ended tells p;
        nodes = s.nodes;
        stamps = s.stamps;
        begins = tells.others p;
      };
      ended = λ e. absurd cc;
    }
    runs_fine (Executes.stops why p) = record {
      fine = Executes.stops why (ready, p);
      called = let s = steady.call _ _ _ _ p in record {
        inv = call_inv E acts L steady to Ended tells p opened entered over i;
        grows = call_grows E acts L steady to Ended tells p;
        nodes = s.nodes;
        stamps = s.stamps;
        begins = tells.others p;
      };
      ended = λ e. absurd cc;
    }

  -- ---- where x is left

  pub record Leaving (w : W) (opened : List N) (x : N) (end : WalkEnd V S) (mid : W) : Type 0 where
    pub fine : Leaves E Fine w x end mid
    pub inv : I mid opened
    pub grows : G w mid
    pub nodes : (y : N) → E.node mid y ≡ E.node w y
    pub stamps : (y : N) → is_stamped E mid y ≡ true → (is_stamped E w y ≡ true) ⊎ (y ≡ x)
    pub begins : (y : N) → E.begun mid y ≡ true → (E.begun w y ≡ true) ⊎ (y ≡ x)
    pub ran : end ≡ Ends → is_stamped E mid x ≡ false → Ended mid x
    pub bare : is_stamped E mid x ≡ false → waits E mid x ≡ []

  module _ {w : W} (opened : List N) (x : N) (open_x : phase E w x ≡ Evaluating) (met : (t : N) → Has (to x) t → OpenMet E to Ended w opened x t) (i : I w opened) where
    not_new : phase E w x ≡ NotEntered → ⊥
    not_new h = let a = open_x in cc

    -- it waits for nothing
    module _ (none : waits E w x ≡ []) where
      nothing : (y : N) → Has (waits E w x) y → Over E to Ended w y
      nothing y h = let k = subst (λ zs. Has zs y) none h in cc

      ready : ReadyAt w x
      ready = ready_open E to Ended tells.begun i.base x none met

    pub leaves_fine : {end : WalkEnd V S} {mid : W} → Leaves E acts w x end mid → Leaving w opened x end mid
    leaves_fine (Leaves.runs n o p) =
        let r = runs_fine opened not_new (nothing n) (ready n) i p in
        record {
          fine = Leaves.runs n o r.fine;
          inv = r.called.inv;
          grows = r.called.grows;
          nodes = r.called.nodes;
          stamps = λ y h. inl (subst (λ zs. Has zs y) r.called.stamps h);
          begins = r.called.begins;
          ran = λ e h. r.ended e;
          bare = λ h. ap (λ n. n.waits) (r.called.nodes x) ∙ n;
        }
    leaves_fine {mid = mid} (Leaves.starts n o p) =
        let s = L.add_stamp w x in
        let u : W = E.add_stamp w x in
        let g : G w u = stamp_grows E acts L steady to Ended tells w x in
        let r = starts_fine opened (λ h. not_new (sym (ap (λ n. n.phase) (s.nodes x)) ∙ h))
        (λ y h. g.over y (nothing n y (subst (λ m. Has m.waits y) (s.nodes x) h))) (λ t y h k q. g.ended y (ready n t y h k q))
        (stamp_inv E acts L steady to Ended tells w x opened open_x i) p in
        let stamped : is_stamped E mid x ≡ true = subst (λ zs. Has zs x) (sym r.called.stamps) (has_stamp E acts L steady to Ended tells w x) in
        record {
          fine = Leaves.starts n o r.fine;
          inv = r.called.inv;
          grows = grows_on E to Ended g r.called.grows;
          nodes = λ y. r.called.nodes y ∙ s.nodes y;
          stamps = λ y h. stamp_split E acts L steady to Ended tells w x y (subst (λ zs. Has zs y) r.called.stamps h);
          begins = λ y h. either (r.called.begins y h) (λ k. inl (sym (s.begun y) ∙ k)) inr;
          ran = λ e h. absurd (not_both (is_stamped E mid x) stamped h);
          bare = λ h. absurd (not_both (is_stamped E mid x) stamped h);
        }
    leaves_fine (Leaves.waiting n) =
        let s = L.add_stamp w x in
        let stamped : is_stamped E (E.add_stamp w x) x ≡ true = has_stamp E acts L steady to Ended tells w x in
        record {
          fine = Leaves.waiting n;
          inv = stamp_inv E acts L steady to Ended tells w x opened open_x i;
          grows = stamp_grows E acts L steady to Ended tells w x;
          nodes = s.nodes;
          stamps = stamp_split E acts L steady to Ended tells w x;
          begins = λ y h. inl (sym (s.begun y) ∙ h);
          ran = λ e h. absurd (not_both (is_stamped E (E.add_stamp w x) x) stamped h);
          bare = λ h. absurd (not_both (is_stamped E (E.add_stamp w x) x) stamped h);
        }
