-- The steps of a visit amid a walk of evaluation.
use Rattle.std.proofs.Common.{◌≡◌, ℕ, suc, zero, ◌+◌, ◌<◌, ◌≤◌, Bool, true, false, cond, List, [], ◌∷◌, ◌++◌, length, drop, take, Some, None, Ok, Err, refl, ap, subst, sym, ◌∙◌, arith, nat_eq, append_assoc, nat_lt, ltb-true, ltb-false, add-one}
use Rattle.std.specs.Prelude.{◌||◌, slice_get}
use Rattle.std.proofs.lemmas.List.{append-nil}
use Rattle.std.proofs.Math.ListN.{drop_of_length-le}
use Rattle.esm_base.specs.Lists.{is_in}
use Rattle.esm_realm.specs.Walk.{Mark, Passes}
use Rattle.esm_realm.specs.Walk.Mark.{Enter, Pass, Leave}
use Rattle.esm_realm.specs.Components.{opened_before, opened_from, closes}
use Rattle.esm_realm.specs.Places.{Low, Lowest}
use Rattle.esm_realm.proofs.Urls.{not_true}
use Rattle.esm_realm.proofs.Lists.{either}
use Rattle.esm_realm.proofs.Numbers.{In, Out, own, in_left, in_right, in_split, in_first, in_later, in_cons, clash, below_is, from_is, has_at, drop_front, drop_none, take_front}
use Rattle.esm_realm.proofs.WalkParts.{New, Next, known_of, new_of, next_of, end_of}
use Rattle.esm_realm.proofs.Lowest as lowest
use Rattle.esm_values.specs.Code.{CodeValue, value_of}
use Rattle.esm_values.specs.declared.value.Value.{Value}
use Rattle.esm_eval.specs.Evaluation.{error_of, wait_on, add_wait}
use Rattle.esm_eval.specs.Evaluate.{WalkEnd, Marks, Leaves, enter, fail, close}
use Rattle.esm_eval.specs.Evaluate.WalkEnd.{Ends, Throws, Stops}
use Rattle.esm_eval.specs.declared.walk.Cut.{Cut}
use Rattle.esm_eval.specs.declared.walk.Cut.TheVariants as cuts
use Rattle.esm_eval.specs.Calls.{CodeEvaluation, CodeCalls, numbered}
use Rattle.esm_eval.specs.Inner.Visit.{IsPlace, Walking, Amid, Visiting, Passed, Passing}
use Rattle.esm_eval.specs.WalkSteps.{is_entered, AllEntered, IsSteadyStep, Keeps, Opens, Within, PassesBy, LeavesBy}

plain : (b : Bool) → (b || false) ≡ true → b ≡ true
plain true h = refl
plain false h = cc

pub drop_at : {A : Type 0} (ts : List A) (i : ℕ) (t : A) → slice_get ts i ≡ Some t → drop i ts ≡ t ∷ drop (i + 1) ts
drop_at [] i t e = cc
drop_at (u ∷ us) zero t e = let same : u ≡ t = cc in rw same
drop_at (u ∷ us) (suc i) t e = simp add-one (rw add-one at (drop_at us i t e))

module _ {W S : Type 0} (E : CodeEvaluation W) (linked : W → ℕ → Bool) (left : W → ℕ) (acts : CodeCalls W S) where
  amid_keeps : (to : ℕ → List ℕ) (modules : List ℕ) (seen opened : List ℕ) (w v : W) → Amid E linked left acts to modules seen opened w → Keeps E linked left w v → Amid E linked left acts to modules seen opened v
  amid_keeps to modules seen opened w v a k = record {
    short = λ y h. k.steady.grows y (a.short y h);
    whole = a.whole;
    graph = λ y h. k.steady.same y (a.short y h) ∙ a.graph y h;
    phases = λ y. a.phases y ∙ sym (k.phases y);
    entered = a.entered;
  }

  module _ (w : W) (opened : List ℕ) (x : ℕ) where
    pub known_visit : (low : ℕ) → is_entered E w x ≡ true → IsPlace opened x low → Visiting E linked left acts w opened x (Ok low) w opened
    known_visit low b p to modules seen a lt marks seen' v =
        let k = known_of to v (a.phases x ∙ b) in
        record {
          added = [];
          now_is = sym (append-nil opened);
          stands = λ e. refl;
          amid = subst (λ s. Amid E linked left acts to modules s opened w) (sym k.1) a;
          low_is = either p (λ q. lowest.low_open to opened x low q.0 q.1) (λ q. lowest.low_closed to opened x low q.0 q.1);
          leads = λ ms end after q. subst (λ m. Walking E linked left acts to w opened (m ++ ms) end after) (sym k.0) q;
        }

    pub no_memory : (v : W) (now : List ℕ) → Visiting E linked left acts w opened x (Err cuts.Memory) v now
    no_memory v now to modules seen a lt marks seen' q = tt

    module _ (unbegun : is_entered E w x ≡ false) where
      out : {to : ℕ → List ℕ} {modules : List ℕ} {seen : List ℕ} → Amid E linked left acts to modules seen opened w → Out seen x
      out a = a.phases x ∙ unbegun

      out_open : {to : ℕ → List ℕ} {modules : List ℕ} {seen : List ℕ} → Amid E linked left acts to modules seen opened w → Out opened x
      out_open {seen = seen} a = not_true (is_in nat_eq opened x) (λ h. clash seen x (a.entered x h) (out a))

      pub entered : (v : W) (low : ℕ) → v ≡ enter (numbered E) w x → Opens E linked left w x v → low ≡ length opened → Passing E linked left acts w opened x v (opened ++ x ∷ []) 0 low
      entered v low ve o is to modules seen a lt inner seen' p = record {
        members = [];
        seen_now = x ∷ seen;
        rest = inner;
        now_is = refl;
        amid = record {
          short = λ y h. o.steady.grows y (a.short y h);
          whole = a.whole;
          graph = λ y h. o.steady.same y (a.short y h) ∙ a.graph y h;
          phases = λ y. ap (λ b. nat_eq y x || b) (a.phases y) ∙ sym (o.phases y);
          entered = λ y h. either (in_split opened (x ∷ []) y h) (λ k. in_later x seen y (a.entered y k)) (λ k. either (in_cons x [] y k) (λ e. subst (λ z. In (x ∷ seen) z) (sym e) (in_first x seen)) (λ n. cc));
        };
        remains = subst (λ ts. Passes nat_eq to (x ∷ seen) x 0 ts inner seen') (sym (drop_none (to x))) p;
        lowest = lowest.at_first to opened x low is;
        leads = λ ms end after q. Marks.enters (subst (λ s. Walking E linked left acts to s (opened ++ x ∷ []) (inner ++ ms) end after) ve q);
      }

      module _ (now : W) (open_now : List ℕ) (i low : ℕ) (passing : Passing E linked left acts w opened x now open_now i low) where
        -- the rest of the visit of x
        to_end : {to : ℕ → List ℕ} {modules : List ℕ} {seen : List ℕ} {marks : List (Mark ℕ)} {seen' : List ℕ} (n : New to seen x marks seen') (p : Passed E linked left acts to modules w opened x n.inner seen' now open_now i low) (ms : List (Mark ℕ)) (end : WalkEnd CodeValue S) (after : W) → Walking E linked left acts to now open_now (p.rest ++ Leave x ∷ ms) end after → Walking E linked left acts to w opened (marks ++ ms) end after
        to_end {to} n p ms end after q = subst (λ m. Walking E linked left acts to w opened (m ++ ms) end after) (sym n.is) (subst (λ m. Walking E linked left acts to w opened (Enter x ∷ m) end after) (sym (append_assoc n.inner (Leave x ∷ []) ms)) (p.leads (Leave x ∷ ms) end after q))

        module _ (t : ℕ) (at : slice_get (E.targets w x) i ≡ Some t) where
          at_to : {to : ℕ → List ℕ} {modules : List ℕ} {seen : List ℕ} → Amid E linked left acts to modules seen opened w → In modules x → slice_get (to x) i ≡ Some t
          at_to a lt = subst (λ ts. slice_get ts i ≡ Some t) (a.graph x lt) at

          inside : {to : ℕ → List ℕ} {modules : List ℕ} {seen : List ℕ} → Amid E linked left acts to modules seen opened w → In modules x → In modules t
          inside {to} a lt = a.whole x t lt (has_at (to x) i t (at_to a lt))

          following : {to : ℕ → List ℕ} {modules : List ℕ} {inner : List (Mark ℕ)} {seen' : List ℕ} (p : Passed E linked left acts to modules w opened x inner seen' now open_now i low) → slice_get (to x) i ≡ Some t → Next to p.seen_now x i t (drop (i + 1) (to x)) p.rest seen'
          following {to} {seen' = seen'} p e = next_of to (subst (λ ts. Passes nat_eq to p.seen_now x i ts p.rest seen') (drop_at (to x) i t e) p.remains)

          -- a walk on from the visit of t
          from_visit : {to : ℕ → List ℕ} {modules : List ℕ} {inner : List (Mark ℕ)} {seen' : List ℕ} (p : Passed E linked left acts to modules w opened x inner seen' now open_now i low) (k : Next to p.seen_now x i t (drop (i + 1) (to x)) p.rest seen') (ms : List (Mark ℕ)) (end : WalkEnd CodeValue S) (after : W) → Walking E linked left acts to now open_now (k.first ++ Pass x i ∷ (k.later ++ ms)) end after → Walking E linked left acts to now open_now (p.rest ++ ms) end after
          from_visit {to} p k ms end after q = subst (λ m. Walking E linked left acts to now open_now m end after) (sym (append_assoc k.first (Pass x i ∷ k.later) ms) ∙ ap (λ m. m ++ ms) (sym k.is)) q

          pub cut : (c : Cut S) (now2 : W) (open2 : List ℕ) → Visiting E linked left acts now open_now t (Err c) now2 open2 → Visiting E linked left acts w opened x (Err c) now2 open2
          cut (cuts.Thrown e) now2 open2 v to modules seen a lt marks seen' q =
              let n = new_of to q (out a) in
              let p = passing to modules seen a lt n.inner seen' n.passes in
              let k = following p (at_to a lt) in
              let c = v to modules p.seen_now p.amid (inside a lt) k.first k.between k.visit in
              λ ms. to_end n p ms (Throws (value_of e)) now2 (from_visit p k (Leave x ∷ ms) (Throws (value_of e)) now2 (c (Pass x i ∷ (k.later ++ Leave x ∷ ms))))
          cut (cuts.Stopped why) now2 open2 v to modules seen a lt marks seen' q =
              let n = new_of to q (out a) in
              let p = passing to modules seen a lt n.inner seen' n.passes in
              let k = following p (at_to a lt) in
              let c = v to modules p.seen_now p.amid (inside a lt) k.first k.between k.visit in
              λ ms. to_end n p ms (Stops why) now2 (from_visit p k (Leave x ∷ ms) (Stops why) now2 (c (Pass x i ∷ (k.later ++ Leave x ∷ ms))))
          cut cuts.Memory now2 open2 v to modules seen a lt marks seen' q = tt

          module _ (l : ℕ) (now2 : W) (open2 : List ℕ) (v : Visiting E linked left acts now open_now t (Ok l) now2 open2) where
            -- the target has an error
            pub error_cut : (e : Value) (now3 : W) → error_of (numbered E) now2 t ≡ Some (value_of e) → now3 ≡ fail (numbered E) now2 (value_of e) open2 → Visiting E linked left acts w opened x (Err (cuts.Thrown e)) now3 open2
            error_cut e now3 error ve to modules seen a lt marks seen' q =
                let n = new_of to q (out a) in
                let p = passing to modules seen a lt n.inner seen' n.passes in
                let k = following p (at_to a lt) in
                let c = v to modules p.seen_now p.amid (inside a lt) k.first k.between k.visit in
                λ ms. to_end n p ms (Throws (value_of e)) now3 (from_visit p k (Leave x ∷ ms) (Throws (value_of e)) now3 (c.leads (Pass x i ∷ (k.later ++ Leave x ∷ ms)) (Throws (value_of e)) now3 (subst (λ s. Walking E linked left acts to now2 open2 (Pass x i ∷ (k.later ++ Leave x ∷ ms)) (Throws (value_of e)) s) (sym ve) (Marks.pass_throws (value_of e) (at_to a lt) error))))

            pub passed : (low2 : ℕ) (now3 : W) → low2 ≡ cond (nat_lt l low) l low → error_of (numbered E) now2 t ≡ None → now3 ≡ add_wait (numbered E) now2 x (wait_on (numbered E) now2 t) → Keeps E linked left now2 now3 → Passing E linked left acts w opened x now3 open2 (i + 1) low2
            passed low2 now3 is fine ve keeps to modules seen a lt inner seen' q =
                let p = passing to modules seen a lt inner seen' q in
                let k = following p (at_to a lt) in
                let c = v to modules p.seen_now p.amid (inside a lt) k.first k.between k.visit in
                record {
                  members = p.members ++ c.added;
                  seen_now = k.between;
                  rest = k.later;
                  now_is = c.now_is ∙ ap (λ o. o ++ c.added) p.now_is ∙ append_assoc opened (x ∷ p.members) c.added;
                  amid = amid_keeps to modules k.between open2 now2 now3 c.amid keeps;
                  remains = subst (λ j. Passes nat_eq to k.between x j (drop (i + 1) (to x)) k.later seen') (sym (plus_one i)) k.passes;
                  lowest = lesser to (at_to a lt) (nat_lt l low) refl p.members c.added p.lowest (subst (λ o. Low to o c.added t l) p.now_is c.low_is);
                  leads = λ ms end after r. p.leads ms end after (from_visit p k ms end after (c.leads (Pass x i ∷ (k.later ++ ms)) end after (Marks.passes (at_to a lt) fine (subst (λ s. Walking E linked left acts to s open2 (k.later ++ ms) end after) ve r))));
                }
              where
                plus_one : (i : ℕ) → i + 1 ≡ suc i
                plus_one i = omega arith

                lesser : (to : ℕ → List ℕ) → slice_get (to x) i ≡ Some t → (b : Bool) → nat_lt l low ≡ b → (members added : List ℕ) → Lowest to opened members x i low → Low to (opened ++ x ∷ members) added t l → Lowest to opened (members ++ added) x (i + 1) low2
                lesser to at true e members added s v = subst (λ n. Lowest to opened (members ++ added) x (i + 1) n) (sym (is ∙ ap (λ b. cond b l low) e)) (lowest.gets_low to opened members added x i t low l at s v (ltb-true l low e))
                lesser to at false e members added s v = subst (λ n. Lowest to opened (members ++ added) x (i + 1) n) (sym (is ∙ ap (λ b. cond b l low) e)) (lowest.keeps_low to opened members added x i t low l at s v (ltb-false l low e))

        module _ (over : length (E.targets w x) ≤ i) where
          over_to : {to : ℕ → List ℕ} {modules : List ℕ} {seen : List ℕ} → Amid E linked left acts to modules seen opened w → In modules x → length (to x) ≤ i
          over_to a lt = subst (λ ts. length ts ≤ i) (a.graph x lt) over

          at_end : {to : ℕ → List ℕ} {modules : List ℕ} {inner : List (Mark ℕ)} {seen' : List ℕ} (p : Passed E linked left acts to modules w opened x inner seen' now open_now i low) → length (to x) ≤ i → (p.rest ≡ []) × (seen' ≡ p.seen_now)
          at_end {to} {seen' = seen'} p o = end_of to (subst (λ ts. Passes nat_eq to p.seen_now x i ts p.rest seen') (drop_of_length-le (to x) o) p.remains)

          leaves : {to : ℕ → List ℕ} {modules : List ℕ} {seen : List ℕ} {marks : List (Mark ℕ)} {seen' : List ℕ} (n : New to seen x marks seen') (p : Passed E linked left acts to modules w opened x n.inner seen' now open_now i low) → length (to x) ≤ i → (ms : List (Mark ℕ)) (end : WalkEnd CodeValue S) (after : W) → Walking E linked left acts to now open_now (Leave x ∷ ms) end after → Walking E linked left acts to w opened (marks ++ ms) end after
          leaves {to} n p o ms end after q = to_end n p ms end after (subst (λ r. Walking E linked left acts to now open_now (r ++ Leave x ∷ ms) end after) (sym (at_end p o).0) q)

          -- the body of x throws, or is stopped
          pub leave_throws : (e : Value) (mid after : W) → Leaves (numbered E) acts now x (Throws (value_of e)) mid → after ≡ fail (numbered E) mid (value_of e) open_now → Visiting E linked left acts w opened x (Err (cuts.Thrown e)) after open_now
          leave_throws e mid after h ve to modules seen a lt marks seen' q =
              let n = new_of to q (out a) in
              let p = passing to modules seen a lt n.inner seen' n.passes in
              λ ms. leaves n p (over_to a lt) ms (Throws (value_of e)) after (subst (λ s. Walking E linked left acts to now open_now (Leave x ∷ ms) (Throws (value_of e)) s) (sym ve) (Marks.leave_throws (value_of e) h))

          pub leave_stops : (why : S) (mid : W) → Leaves (numbered E) acts now x (Stops why) mid → Visiting E linked left acts w opened x (Err (cuts.Stopped why)) mid open_now
          leave_stops why mid h to modules seen a lt marks seen' q =
              let n = new_of to q (out a) in
              let p = passing to modules seen a lt n.inner seen' n.passes in
              λ ms. leaves n p (over_to a lt) ms (Stops why) mid (Marks.leave_stops why h)

          module _ (mid : W) (gone : Leaves (numbered E) acts now x Ends mid) (keeps : Keeps E linked left now mid) where
            pub stays : low < length opened → Visiting E linked left acts w opened x (Ok low) mid open_now
            stays less to modules seen a lt marks seen' q =
                let n = new_of to q (out a) in
                let p = passing to modules seen a lt n.inner seen' n.passes in
                let o = over_to a lt in
                let c = lowest.stays to opened p.members x i low p.lowest (out_open a) less in
                record {
                  added = x ∷ p.members;
                  now_is = p.now_is;
                  stands = λ e. absurd (omega (arith, less, ap length e));
                  amid = subst (λ s. Amid E linked left acts to modules s open_now mid) (sym (at_end p o).1) (amid_keeps to modules p.seen_now open_now now mid p.amid keeps);
                  low_is = lowest.low_inner to opened p.members x i low p.lowest (out_open a) o;
                  leads = λ ms end after r. leaves n p o ms end after (Marks.stays gone (subst (λ o. closes nat_eq to o x ≡ false) (sym p.now_is) c) r);
                }

            module _ (last : W) (open3 : List ℕ) (place : ℕ) (placed : place ≡ length opened) (closed : last ≡ close (numbered E) mid x (drop place open_now)) (keeps2 : AllEntered E mid (drop place open_now) → Keeps E linked left mid last) (open_is : open3 ≡ take place open_now) where
              front : (members : List ℕ) → open_now ≡ opened ++ x ∷ members → open3 ≡ opened
              front members e = open_is ∙ ap (λ k. take k open_now) placed ∙ ap (λ o. take (length opened) o) e ∙ take_front opened (x ∷ members)

              back : (members : List ℕ) → open_now ≡ opened ++ x ∷ members → drop place open_now ≡ x ∷ members
              back members e = ap (λ k. drop k open_now) placed ∙ ap (λ o. drop (length opened) o) e ∙ drop_front opened (x ∷ members)

              shut : (to : ℕ → List ℕ) (modules : List ℕ) (seen members : List ℕ) → open_now ≡ opened ++ x ∷ members → Amid E linked left acts to modules seen open_now now → Amid E linked left acts to modules seen opened last
              shut to modules seen members e a =
                  let b = amid_keeps to modules seen open_now now mid a keeps in
                  let inside : (y : ℕ) → In (drop place open_now) y → In open_now y = λ y h. subst (λ o. In o y) (sym e) (in_right opened (x ∷ members) y (subst (λ o. In o y) (back members e) h)) in
                  let c = amid_keeps to modules seen open_now mid last b (keeps2 (λ y h. sym (b.phases y) ∙ b.entered y (inside y h))) in
                  record { short = c.short; whole = c.whole; graph = c.graph; phases = c.phases; entered = λ y h. c.entered y (subst (λ o. In o y) (sym e) (in_left opened (x ∷ members) y h)) }

              closing : (to : ℕ → List ℕ) (members : List ℕ) → open_now ≡ opened ++ x ∷ members → Out opened x → (ms : List (Mark ℕ)) (end : WalkEnd CodeValue S) (after : W) → Walking E linked left acts to last opened ms end after → Walking E linked left acts to (close (numbered E) mid x (opened_from nat_eq open_now x)) (opened_before nat_eq open_now x) ms end after
              closing to members e o ms end after q =
                  let b : opened_before nat_eq open_now x ≡ opened = ap (λ o. opened_before nat_eq o x) e ∙ below_is opened members x o in
                  let m : opened_from nat_eq open_now x ≡ drop place open_now = ap (λ o. opened_from nat_eq o x) e ∙ from_is opened members x o ∙ sym (back members e) in
                  subst (λ o. Walking E linked left acts to (close (numbered E) mid x (opened_from nat_eq open_now x)) o ms end after) (sym b) (subst (λ s. Walking E linked left acts to s opened ms end after) (closed ∙ ap (λ m. close (numbered E) mid x m) (sym m)) q)

              pub closes_all : length opened ≤ low → Visiting E linked left acts w opened x (Ok low) last open3
              closes_all le to modules seen a lt marks seen' q =
                  let n = new_of to q (out a) in
                  let p = passing to modules seen a lt n.inner seen' n.passes in
                  let o = over_to a lt in
                  let c = lowest.closed to opened p.members x i low p.lowest (out_open a) o le in
                  let e = front p.members p.now_is in
                  record {
                    added = [];
                    now_is = e ∙ sym (append-nil opened);
                    stands = λ e. refl;
                    amid = subst (λ s. Amid E linked left acts to modules s open3 last) (sym (at_end p o).1) (subst (λ o. Amid E linked left acts to modules p.seen_now o last) (sym e) (shut to modules p.seen_now p.members p.now_is p.amid));
                    low_is = lowest.low_root to opened p.members x i low p.lowest (out_open a) o le;
                    leads = λ ms end after r. leaves n p o ms end after (Marks.component gone (subst (λ o. closes nat_eq to o x ≡ true) (sym p.now_is) c) (closing to p.members p.now_is (out_open a) ms end after (subst (λ o. Walking E linked left acts to last o ms end after) e r)));
                  }

  -- the modules of a walk stay whole
  pub within_on : (w v : W) (modules : List ℕ) (x t : ℕ) → Within E linked left modules w x → IsSteadyStep E linked left w v → In (E.targets w x) t → Within E linked left modules v t
  within_on w v modules x t i s h = record {
    short = λ y k. s.grows y (i.short y k);
    whole = λ y u k m. i.whole y u k (subst (λ ts. In ts u) (s.same y (i.short y k)) m);
    inside = i.whole x t i.inside h;
  }

  pub standing : (w : W) (modules : List ℕ) (x : ℕ) → Within E linked left modules w x → linked w x ≡ true
  standing w modules x i = i.short x i.inside

  pub same_on : (u v w : W) → IsSteadyStep E linked left u v → IsSteadyStep E linked left v w → IsSteadyStep E linked left u w
  same_on u v w s t = record {
    same = λ y h. t.same y (s.grows y h) ∙ s.same y h;
    grows = λ y h. t.grows y (s.grows y h);
    stays = λ y h. t.stays y (s.stays y h);
    less = let a = s.less in let b = t.less in omega arith;
  }

  -- what is open stays entered
  pub entered_on : (w v : W) (opened : List ℕ) → AllEntered E w opened → Keeps E linked left w v → AllEntered E v opened
  entered_on w v opened a k y h = k.phases y ∙ a y h

  pub entered_more : (w : W) (x : ℕ) (v : W) (opened : List ℕ) → AllEntered E w opened → Opens E linked left w x v → AllEntered E v (opened ++ x ∷ [])
  entered_more w x v opened a o y h = o.phases y ∙ either (in_split opened (x ∷ []) y h) (λ k. later (nat_eq y x) (a y k)) (λ k. first (is_entered E w y) (in_one y k))
    where
      later : (b : Bool) {c : Bool} → c ≡ true → (b || c) ≡ true
      later true h = refl
      later false h = h

      first : (c : Bool) {b : Bool} → b ≡ true → (b || c) ≡ true
      first c h = ap (λ b. b || c) h

      in_one : (y : ℕ) → In (x ∷ []) y → nat_eq y x ≡ true
      in_one y k = plain (nat_eq y x) k

  pub entered_front : (w : W) (place : ℕ) (opened : List ℕ) → AllEntered E w opened → AllEntered E w (take place opened)
  entered_front w place opened a y h = a y (in_take place opened y h)
    where
      in_take : (n : ℕ) (xs : List ℕ) (y : ℕ) → In (take n xs) y → In xs y
      in_take zero xs y h = cc
      in_take (suc n) [] y h = cc
      in_take (suc n) (z ∷ xs) y h = either (in_cons z (take n xs) y h) (λ e. subst (λ u. In (z ∷ xs) u) (sym e) (in_first z xs)) (λ k. in_later z xs y (in_take n xs y k))

  pub entered_still : (w v : W) (opened : List ℕ) → AllEntered E w opened → IsSteadyStep E linked left w v → AllEntered E v opened
  entered_still w v opened a s y h = s.stays y (a y h)

  pub opened_now : (w : W) (x : ℕ) (v : W) → Opens E linked left w x v → is_entered E v x ≡ true
  opened_now w x v o = o.phases x ∙ ap (λ b. b || is_entered E w x) (own x)

  module _ (w : W) (opened : List ℕ) (x : ℕ) (unbegun : is_entered E w x ≡ false) (now : W) (open_now : List ℕ) (i low : ℕ) (passing : Passing E linked left acts w opened x now open_now i low) where
    pub pass_cut : (t : ℕ) → slice_get (E.targets w x) i ≡ Some t → (l : ℕ) (now2 : W) (open2 : List ℕ) → Visiting E linked left acts now open_now t (Ok l) now2 open2
        → (c : Cut S) (now3 : W) → PassesBy E linked left acts now2 open2 x t (Err c) now3 → Visiting E linked left acts w opened x (Err c) now3 open2
    pass_cut t at l now2 open2 v (cuts.Thrown e) now3 p = error_cut w opened x unbegun now open_now i low passing t at l now2 open2 v e now3 p.0 p.1
    pass_cut t at l now2 open2 v (cuts.Stopped why) now3 p = absurd p
    pass_cut t at l now2 open2 v cuts.Memory now3 p = no_memory w opened x now3 open2

    pub leave_cut : length (E.targets w x) ≤ i → (c : Cut S) (after : W) → LeavesBy E linked left acts now open_now x (Err c) after → Visiting E linked left acts w opened x (Err c) after open_now
    leave_cut over (cuts.Thrown e) after h = leave_throws w opened x unbegun now open_now i low passing over e h.0 after h.1 h.2
    leave_cut over (cuts.Stopped why) after h = leave_stops w opened x unbegun now open_now i low passing over why after h
    leave_cut over cuts.Memory after h = no_memory w opened x after open_now
