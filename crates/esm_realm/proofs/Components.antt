-- A component closes exactly where its root is left, and just its members are taken then.
use Rattle.std.proofs.Common.{◌≡◌, ℕ, Bool, true, false, List, [], ◌∷◌, ◌++◌, refl, ap, subst, sym, ◌∙◌, append_assoc}
use Rattle.std.specs.Prelude.{not}
use Rattle.std.specs.List.{list_any}
use Rattle.std.proofs.lemmas.List.{append-nil}
use Rattle.esm_realm.specs.Walk.{Mark, Visits, Passes, IsWalkOf}
use Rattle.esm_base.specs.Lists.{is_in}
use Rattle.esm_realm.specs.Walk.Mark.{Enter, Pass, Leave}
use Rattle.esm_realm.specs.Walk.Visits.{known, fresh}
use Rattle.esm_realm.specs.Walk.Passes.{all, next}
use Rattle.esm_realm.specs.Components.{opened_before, opened_from, leads_into, closes, open_behind, opened_after, ReachesOutside, InOneComponent, ClosesAt, ClosesAtRoot}
use Rattle.esm_realm.specs.Components.ReachesOutside.{itself, step}
use Rattle.esm_realm.proofs.Urls.{cases, not_true}
use Rattle.esm_realm.proofs.Lists as names
use Rattle.esm_realm.proofs.Lists.{either}

module _ {N : Type 0} (same : N → N → Bool) (own : (x : N) → same x x ≡ true) (equal : (x y : N) → same x y ≡ true → x ≡ y) where
  abbrev In : List N → N → Type 0
  In xs y = is_in same xs y ≡ true

  abbrev Out : List N → N → Type 0
  Out xs y = is_in same xs y ≡ false

  module _ (to : N → List N) (closed : List N) where
    abbrev To : N → N → Type 0
    To x y = ReachesOutside same to closed x y

    then_leads : {x y z : N} → To x y → To y z → To x z
    then_leads itself q = q
    then_leads (step h n p) q = step h n (then_leads p q)

    -- wherever these marks leave a module
    abbrev Holds : List N → List (Mark N) → Type 0
    Holds opened [] = Unit {0}
    Holds opened (Enter x ∷ ms) = Holds (opened ++ x ∷ []) ms
    Holds opened (Pass x i ∷ ms) = Holds opened ms
    Holds opened (Leave x ∷ ms) = ClosesAt same to closed opened x × Holds (open_behind same (closes same to opened x) opened x) ms

    holds_on : (opened : List N) (a b : List (Mark N)) → Holds opened a → Holds (opened_after same to opened a) b → Holds opened (a ++ b)
    holds_on opened [] b h k = k
    holds_on opened (Enter x ∷ a) b h k = holds_on (opened ++ x ∷ []) a b h k
    holds_on opened (Pass x i ∷ a) b h k = holds_on opened a b h k
    holds_on opened (Leave x ∷ a) b h k = (h.0, holds_on (open_behind same (closes same to opened x) opened x) a b h.1 k)

    opened_on : (opened : List N) (a b : List (Mark N)) → opened_after same to opened (a ++ b) ≡ opened_after same to (opened_after same to opened a) b
    opened_on opened [] b = refl
    opened_on opened (Enter x ∷ a) b = opened_on (opened ++ x ∷ []) a b
    opened_on opened (Pass x i ∷ a) b = opened_on opened a b
    opened_on opened (Leave x ∷ a) b = opened_on (open_behind same (closes same to opened x) opened x) a b

    holds_at : (opened : List N) (a b : List (Mark N)) (x : N) → Holds opened (a ++ Leave x ∷ b) → ClosesAt same to closed (opened_after same to opened a) x
    holds_at opened [] b x h = h.0
    holds_at opened (Enter y ∷ a) b x h = holds_at (opened ++ y ∷ []) a b x h
    holds_at opened (Pass y i ∷ a) b x h = holds_at opened a b x h
    holds_at opened (Leave y ∷ a) b x h = holds_at (open_behind same (closes same to opened y) opened y) a b x h.1

    -- a place amid a walk: what was entered or was closed before, and what of it is open
    record Amid (seen opened : List N) : Type 0 where
      entered : (y : N) → In opened y → In seen y
      new : (y : N) → In opened y → Out closed y
      old : (y : N) → In closed y → In seen y
      shut : (m t : N) → In seen m → Out closed m → Out opened m → In (to m) t → Out closed t → In seen t × Out opened t

    -- the visit of x has put these above the open ones
    record Visited (seen opened : List N) (x : N) (marks : List (Mark N)) (seen' : List N) : Type 0 where
      added : List N
      is : opened_after same to opened marks ≡ opened ++ added
      holds : Holds opened marks
      amid : Amid seen' (opened ++ added)
      grows : (y : N) → In seen y → In seen' y
      known : In seen' x
      leads : (m : N) → In added m → Out closed x × To x m
      back : (m : N) → In added m → (y : N) × In opened y × To m y
      done : (m t : N) → In added m → In (to m) t → In seen' t

    -- amid the passes of x: these of its component are open above it
    record Within (seen opened : List N) (x : N) (members : List N) : Type 0 where
      amid : Amid seen (opened ++ x ∷ members)
      reach : (y : N) → In (opened ++ x ∷ members) y → To y x
      leads : (m : N) → In members m → To x m
      done : (m t : N) → In members m → In (to m) t → In seen t

    record Passed (seen opened : List N) (x : N) (members ts : List N) (marks : List (Mark N)) (seen' : List N) : Type 0 where
      members' : List N
      is : opened_after same to (opened ++ x ∷ members) marks ≡ opened ++ x ∷ members'
      holds : Holds (opened ++ x ∷ members) marks
      within : Within seen' opened x members'
      grows : (y : N) → In seen y → In seen' y
      passed : (t : N) → In ts t → In seen' t

    one_is : (x y : N) → In (x ∷ []) y → y ≡ x
    one_is x y h = either (names.in_cons same own equal x [] y h) (λ e. e) (λ k. cc)

    not_one : (seen : List N) (x y : N) → Out seen x → In seen y → Out (x ∷ []) y
    not_one seen x y n h = not_true (is_in same (x ∷ []) y) (λ k. names.clash same own equal seen x (subst (λ z. In seen z) (one_is x y k) h) n)

    new_out : (seen opened : List N) (x : N) → Amid seen opened → Out seen x → Out closed x
    new_out seen opened x a n = not_true (is_in same closed x) (λ k. names.clash same own equal seen x (a.old x k) n)

    amid_enter : (seen opened : List N) (x : N) → Amid seen opened → Out seen x → Amid (x ∷ seen) (opened ++ x ∷ [])
    amid_enter seen opened x a n = record {
      entered = λ y h. either (names.in_split same own equal opened (x ∷ []) y h) (λ k. names.in_later same own equal x seen y (a.entered y k)) (λ k. subst (λ z. In (x ∷ seen) z) (sym (one_is x y k)) (names.in_first same own equal x seen));
      new = λ y h. either (names.in_split same own equal opened (x ∷ []) y h) (a.new y) (λ k. subst (λ z. Out closed z) (sym (one_is x y k)) (new_out seen opened x a n));
      old = λ y h. names.in_later same own equal x seen y (a.old y h);
      shut = λ m t h c o k u. shuts m t h c (names.out_parts same own equal opened (x ∷ []) m o) k u;
    }
      where
        shuts : (m t : N) → In (x ∷ seen) m → Out closed m → Out opened m × Out (x ∷ []) m → In (to m) t → Out closed t → In (x ∷ seen) t × Out (opened ++ x ∷ []) t
        shuts m t h c o k u = either (names.in_cons same own equal x seen m h)
            (λ e. names.clash same own equal (x ∷ []) m (subst (λ z. In (x ∷ []) z) (sym e) (names.in_first same own equal x [])) o.1)
            (λ q. let s = a.shut m t q c o.0 k u in (names.in_later same own equal x seen t s.0, names.out_both same own equal opened (x ∷ []) t s.1 (not_one seen x t n s.0)))

    -- at the leave of x
    module _ (seen opened : List N) (x : N) (members : List N) (w : Within seen opened x members) (out : Out opened x) (done : (t : N) → In (to x) t → In seen t) where
      abbrev whole : List N
      whole = opened ++ x ∷ members

      all_done : (m t : N) → In (x ∷ members) m → In (to m) t → In seen t
      all_done m t h k = either (names.in_cons same own equal x members m h) (λ e. done t (subst (λ z. In (to z) t) e k)) (λ q. w.done m t q k)

      all_lead : (m : N) → In (x ∷ members) m → To x m
      all_lead m h = either (names.in_cons same own equal x members m h) (λ e. subst (λ z. To x z) (sym e) itself) (w.leads m)

      together_with : (m t : N) → In (x ∷ members) m → In (to m) t → In opened t → InOneComponent same to closed x t
      together_with m t h k q = let i = names.in_left same own equal opened (x ∷ members) t q in (then_leads (all_lead m h) (step k (w.amid.new t i) itself), w.reach t i)

      -- what has left the open list leads to nothing that is open
      stays_left : {m y : N} → In seen m → Out closed m → Out whole m → To m y → Out whole y
      stays_left h c o itself = o
      stays_left {m} h c o (step {t = t} k u q) = let s = w.amid.shut m t h c o k u in stays_left s.0 u s.1 q

      module _ (apart : leads_into same to (x ∷ members) opened ≡ false) where
        target_apart : (m t : N) → In (x ∷ members) m → In (to m) t → Out opened t
        target_apart m t h k = names.none_found same own equal (λ t. is_in same opened t) (to m) (names.none_found same own equal (λ x. list_any (λ t. is_in same opened t) (to x)) (x ∷ members) apart m h) t k

        leads_on : (m t : N) → In seen m → Out closed m → Out opened m → In (to m) t → Out closed t → In seen t × Out opened t
        leads_on m t h c o k u = either (cases (is_in same (x ∷ members) m))
            (λ i. (all_done m t i k, target_apart m t i k))
            (λ n. let s = w.amid.shut m t h c (names.out_both same own equal opened (x ∷ members) m o n) k u in (s.0, (names.out_parts same own equal opened (x ∷ members) t s.1).0))

        stays_out : {m y : N} → In seen m → Out closed m → Out opened m → To m y → In seen y × Out closed y × Out opened y
        stays_out h c o itself = (h, c, o)
        stays_out {m} h c o (step {t = t} k u q) = let s = leads_on m t h c o k u in stays_out s.0 u s.1 q

        from_x : (y : N) → To x y → In seen y × Out closed y × Out opened y
        from_x y q = let i = names.in_right same own equal opened (x ∷ members) x (names.in_first same own equal x members) in stays_out (w.amid.entered x i) (w.amid.new x i) out q

        amid_close : Amid seen opened
        amid_close = record {
          entered = λ y h. w.amid.entered y (names.in_left same own equal opened (x ∷ members) y h);
          new = λ y h. w.amid.new y (names.in_left same own equal opened (x ∷ members) y h);
          old = w.amid.old;
          shut = leads_on;
        }

        is_member : (y : N) → InOneComponent same to closed x y → In (x ∷ members) y
        is_member y t = either (cases (is_in same (x ∷ members) y)) (λ i. i) (λ n.
            let s = from_x y t.0 in
            names.clash same own equal whole x (names.in_right same own equal opened (x ∷ members) x (names.in_first same own equal x members)) (stays_left s.0 s.1 (names.out_both same own equal opened (x ∷ members) y s.2 n) t.1))

      closes_is : closes same to whole x ≡ not (leads_into same to (x ∷ members) opened)
      closes_is = λ i. not (leads_into same to (names.from_is same own equal opened members x out i) (names.below_is same own equal opened members x out i))

      not_false : (b : Bool) → not b ≡ false → b ≡ true
      not_false true h = refl
      not_false false h = cc

      not_yes : (b : Bool) → not b ≡ true → b ≡ false
      not_yes true h = cc
      not_yes false h = refl

      meets : leads_into same to (x ∷ members) opened ≡ true → (y : N) × In opened y × InOneComponent same to closed x y
      meets h =
          let m = names.any_found same own equal (λ x. list_any (λ t. is_in same opened t) (to x)) (x ∷ members) h in
          let t = names.any_found same own equal (λ t. is_in same opened t) (to m.0) m.2 in
          (t.0, t.2, together_with m.0 t.0 m.1 t.1 t.2)

      closes_at : ClosesAt same to closed whole x
      closes_at = record {
        no_root = λ h. let r = meets (not_false (leads_into same to (x ∷ members) opened) (sym closes_is ∙ h)) in (r.0, subst (λ o. In o r.0) (sym below_is) r.1, r.2);
        root = λ h y k t. names.clash same own equal opened y (subst (λ o. In o y) below_is k) (from_x (not_yes (leads_into same to (x ∷ members) opened) (sym closes_is ∙ h)) y t.0).2;
        members = λ h y. (λ k. let i = subst (λ o. In o y) from_is k in (all_lead y i, w.reach y (names.in_right same own equal opened (x ∷ members) y i)), λ t. subst (λ o. In o y) (sym from_is) (is_member (not_yes (leads_into same to (x ∷ members) opened) (sym closes_is ∙ h)) y t));
      }
        where
          below_is : opened_before same whole x ≡ opened
          below_is = names.below_is same own equal opened members x out

          from_is : opened_from same whole x ≡ x ∷ members
          from_is = names.from_is same own equal opened members x out

    -- amid the passes, one target further
    further : (seen between opened : List N) (x t : N) (members : List N) (first : List (Mark N)) → Within seen opened x members → In (to x) t → (v : Visited seen (opened ++ x ∷ members) t first between) → Within between opened x (members ++ v.added)
    further seen between opened x t members first w k v = record {
      amid = subst (λ o. Amid between o) (append_assoc opened (x ∷ members) v.added) v.amid;
      reach = λ y h. either (names.in_split same own equal (opened ++ x ∷ members) v.added y (subst (λ o. In o y) (sym (append_assoc opened (x ∷ members) v.added)) h)) (w.reach y) (λ q. let b = v.back y q in then_leads b.2 (w.reach b.0 b.1));
      leads = λ m h. either (names.in_split same own equal members v.added m h) (w.leads m) (λ q. let b = v.leads m q in step k b.0 b.1);
      done = λ m u h q. either (names.in_split same own equal members v.added m h) (λ i. v.grows u (w.done m u i q)) (λ i. v.done m u i q);
    }

    begin : (seen opened : List N) (x : N) → Amid seen opened → Out seen x → ((y : N) → In opened y → Out closed x → To y x) → Within (x ∷ seen) opened x []
    begin seen opened x a n r = record {
      amid = amid_enter seen opened x a n;
      reach = λ y h. either (names.in_split same own equal opened (x ∷ []) y h) (λ k. r y k (new_out seen opened x a n)) (λ k. subst (λ z. To z x) (sym (one_is x y k)) itself);
      leads = λ m h. cc;
      done = λ m t h k. cc;
    }

    both : (seen between after opened : List N) (x t : N) (i : ℕ) (members ts : List N) (first marks : List (Mark N)) (v : Visited seen (opened ++ x ∷ members) t first between) → Passed between opened x (members ++ v.added) ts marks after → Passed seen opened x members (t ∷ ts) (first ++ Pass x i ∷ marks) after
    both seen between after opened x t i members ts first marks v p = record {
      members' = p.members';
      is = opened_on (opened ++ x ∷ members) first (Pass x i ∷ marks) ∙ ap (λ o. opened_after same to o marks) mid ∙ p.is;
      holds = holds_on (opened ++ x ∷ members) first (Pass x i ∷ marks) v.holds (subst (λ o. Holds o marks) (sym mid) p.holds);
      within = p.within;
      grows = λ y h. p.grows y (v.grows y h);
      passed = λ u h. either (names.in_cons same own equal t ts u h) (λ e. subst (λ z. In after z) (sym e) (p.grows t v.known)) (p.passed u);
    }
      where
        mid : opened_after same to (opened ++ x ∷ members) first ≡ opened ++ x ∷ (members ++ v.added)
        mid = v.is ∙ append_assoc opened (x ∷ members) v.added

    left : (seen after opened : List N) (x : N) (marks : List (Mark N)) → Amid seen opened → Out seen x → Passed (x ∷ seen) opened x [] (to x) marks after → Visited seen opened x (Enter x ∷ (marks ++ Leave x ∷ [])) after
    left seen after opened x marks a n p = by (leads_into same to (x ∷ p.members') opened) refl
      where
        out : Out opened x
        out = not_true (is_in same opened x) (λ k. names.clash same own equal seen x (a.entered x k) n)

        known : In after x
        known = p.grows x (names.in_first same own equal x seen)

        grows : (y : N) → In seen y → In after y
        grows y h = p.grows y (names.in_later same own equal x seen y h)

        opens : opened_after same to opened (Enter x ∷ (marks ++ Leave x ∷ [])) ≡ open_behind same (closes same to (opened ++ x ∷ p.members') x) (opened ++ x ∷ p.members') x
        opens = opened_on (opened ++ x ∷ []) marks (Leave x ∷ []) ∙ ap (λ o. open_behind same (closes same to o x) o x) p.is

        closing : closes same to (opened ++ x ∷ p.members') x ≡ not (leads_into same to (x ∷ p.members') opened)
        closing = closes_is after opened x p.members' p.within out p.passed

        holds : Holds opened (Enter x ∷ (marks ++ Leave x ∷ []))
        holds = holds_on (opened ++ x ∷ []) marks (Leave x ∷ []) p.holds (subst (λ o. Holds o (Leave x ∷ [])) (sym p.is) (closes_at after opened x p.members' p.within out p.passed, tt))

        by : (b : Bool) → leads_into same to (x ∷ p.members') opened ≡ b → Visited seen opened x (Enter x ∷ (marks ++ Leave x ∷ [])) after
        by true e =
            let m = meets after opened x p.members' p.within out p.passed e in
            record {
              added = x ∷ p.members';
              is = opens ∙ ap (λ b. open_behind same b (opened ++ x ∷ p.members') x) (closing ∙ ap not e);
              holds = holds;
              amid = p.within.amid;
              grows = grows;
              known = known;
              leads = λ y h. (new_out seen opened x a n, all_lead after opened x p.members' p.within out p.passed y h);
              back = λ y h. (m.0, m.1, then_leads (p.within.reach y (names.in_right same own equal opened (x ∷ p.members') y h)) m.2.0);
              done = all_done after opened x p.members' p.within out p.passed;
            }
        by false e = record {
          added = [];
          is = opens ∙ ap (λ b. open_behind same b (opened ++ x ∷ p.members') x) (closing ∙ ap not e) ∙ names.below_is same own equal opened p.members' x out ∙ sym (append-nil opened);
          holds = holds;
          amid = subst (λ o. Amid after o) (sym (append-nil opened)) (amid_close after opened x p.members' p.within out p.passed e);
          grows = grows;
          known = known;
          leads = λ y h. cc;
          back = λ y h. cc;
          done = λ y t h k. cc;
        }

    mutual
      visited : {seen seen' : List N} {x : N} {marks : List (Mark N)} (opened : List N) → Visits same to seen x marks seen' → Amid seen opened → ((y : N) → In opened y → Out closed x → To y x) → Visited seen opened x marks seen'
      visited {seen} opened (known h) a r = record {
        added = [];
        is = sym (append-nil opened);
        holds = tt;
        amid = subst (λ o. Amid seen o) (sym (append-nil opened)) a;
        grows = λ y k. k;
        known = h;
        leads = λ m k. cc;
        back = λ m k. cc;
        done = λ m t k q. cc;
      }
      visited opened (fresh {seen = seen} {after = after} {x = x} {marks = marks} n p) a r = left seen after opened x marks a n (passed opened [] p (begin seen opened x a n r) (λ t h. h))

      passed : {seen seen' : List N} {x : N} {i : ℕ} {ts : List N} {marks : List (Mark N)} (opened members : List N) → Passes same to seen x i ts marks seen' → Within seen opened x members → ((t : N) → In ts t → In (to x) t) → Passed seen opened x members ts marks seen'
      passed opened members all w inside = record { members' = members; is = refl; holds = tt; within = w; grows = λ y h. h; passed = λ t h. cc }
      passed opened members (next {seen = seen} {between = between} {after = after} {x = x} {t = t} {i = i} {ts = ts} {first = first} {marks = marks} v p) w inside =
          let k = inside t (names.in_first same own equal t ts) in
          let one = visited (opened ++ x ∷ members) v w.amid (λ y h c. then_leads (w.reach y h) (step k c itself)) in
          both seen between after opened x t i members ts first marks one (passed opened (members ++ one.added) p (further seen between opened x t members first w k one) (λ u h. inside u (names.in_later same own equal t ts u h)))

    nothing : Amid closed []
    nothing = record { entered = λ y h. cc; new = λ y h. cc; old = λ y h. h; shut = λ m t h c. names.clash same own equal closed m h c }

    pub closing : (root : N) → ClosesAtRoot same to closed root
    closing root marks behind x w = holds_at [] marks behind x (visited [] w.1 nothing (λ y h. cc)).holds

    no_members : (xs : List N) → ((m : N) → ¬ (In xs m)) → xs ≡ []
    no_members [] f = refl
    no_members (x ∷ xs) f = absurd (f x (names.in_first same own equal x xs))

    -- behind a walk no module is open
    pub none_open : (root : N) (marks : List (Mark N)) → IsWalkOf same to closed root marks → opened_after same to [] marks ≡ []
    none_open root marks w = v.is ∙ no_members v.added (λ m h. let b = v.back m h in cc)
      where
        v : Visited closed [] root marks w.0
        v = visited [] w.1 nothing (λ y h. cc)
