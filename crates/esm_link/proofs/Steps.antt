-- The steps of a visit amid a walk of linking.
use Rattle.std.proofs.Common.{◌≡◌, ℕ, suc, ◌+◌, ◌<◌, ◌≤◌, Bool, true, false, not, cond, List, [], ◌∷◌, ◌++◌, length, drop, take, Some, None, Ok, Err, refl, ap, subst, sym, ◌∙◌, arith, nat_eq, eqb-true, append_assoc, nat_lt, ltb-true, ltb-false}
use Rattle.std.specs.Prelude.{◌||◌, slice_get}
use Rattle.std.proofs.lemmas.List.{append-nil}
use Rattle.std.proofs.lemmas.Option.{slice_get_within}
use Rattle.std.proofs.Math.ListN.{drop_of_length-le}
use Rattle.esm_realm.specs.declared.record.ModuleStatus.{ModuleStatus}
use Rattle.esm_realm.specs.declared.record.ModuleStatus.TheVariants as statuses
use Rattle.esm_realm.specs.Sound.{RecordParts}
use Rattle.esm_realm.specs.Walk.{Mark, Passes}
use Rattle.esm_base.specs.Lists.{is_in}
use Rattle.esm_realm.specs.Walk.Mark.{Pass, Leave}
use Rattle.esm_realm.specs.Components.{opened_before, opened_from, closes}
use Rattle.esm_realm.specs.ById.{targets_at, is_unlinked, is_linking}
use Rattle.esm_realm.proofs.Urls.{not_true, or_false}
use Rattle.esm_realm.proofs.Lists.{either}
use Rattle.esm_realm.specs.Places.{Low, Lowest}
use Rattle.esm_link.specs.Faults.{FirstFault}
use Rattle.esm_link.specs.Realm.{modules_of, fault_of}
use Rattle.esm_link.specs.declared.LinkFault.{LinkFault}
use Rattle.esm_base.specs.declared.end.End.{End}
use Rattle.esm_base.specs.declared.end.End.TheVariants.{Fault, Memory}
use Rattle.esm_tree.specs.Syntax.{Parts}
use Rattle.esm_link.specs.Inner.Imports.{HasFault}
use Rattle.esm_link.specs.Inner.Visit.{status_amid, Amid, Outcome, Ends, IsCut, Links, Walking, Visiting, Passed, Passing, outcome_of}
use Rattle.esm_realm.proofs.Numbers.{In, Out, own, in_append, in_left, in_right, in_split, in_cons, out_both, clash, below_is, from_is, has_at, place_of, Place, get_left, behind, Behind, get_snoc, drop_front, drop_none, take_front}
use Rattle.esm_realm.proofs.WalkParts.{New, Next, known_of, new_of, next_of, end_of}
use Rattle.esm_realm.proofs.Lowest as lowest
use Rattle.esm_link.proofs.Marking.{drop_at}

-- ---- statuses

amid_unlinked : (o l : Bool) (b : ModuleStatus) → (is_unlinked b ≡ false → l ≡ true) → is_unlinked (status_amid o l b) ≡ not (o || l)
amid_unlinked true l b h = refl
amid_unlinked false true statuses.New h = refl
amid_unlinked false true statuses.Unlinked h = refl
amid_unlinked false true statuses.Linking h = refl
amid_unlinked false true statuses.Linked h = refl
amid_unlinked false false statuses.Unlinked h = refl
amid_unlinked false false statuses.New h = let e = h refl in cc
amid_unlinked false false statuses.Linking h = let e = h refl in cc
amid_unlinked false false statuses.Linked h = let e = h refl in cc

amid_linking : (o l : Bool) (b : ModuleStatus) → is_linking b ≡ false → is_linking (status_amid o l b) ≡ o
amid_linking true l b h = refl
amid_linking false true statuses.New h = refl
amid_linking false true statuses.Unlinked h = refl
amid_linking false true statuses.Linking h = h
amid_linking false true statuses.Linked h = refl
amid_linking false false b h = h

enter_stand : (e o l : Bool) (b : ModuleStatus) → cond e statuses.Linking (status_amid o l b) ≡ status_amid (o || (e || false)) l b
enter_stand true true l b = refl
enter_stand true false l b = refl
enter_stand false true l b = refl
enter_stand false false l b = refl

enter_known : (e o l : Bool) → (e || (o || l)) ≡ ((o || (e || false)) || l)
enter_known true true l = refl
enter_known true false l = refl
enter_known false true l = refl
enter_known false false l = refl

close_stand : (m o l : Bool) (b : ModuleStatus) → (m ≡ true → (o ≡ false) × (b ≡ statuses.Unlinked)) → cond m statuses.Linked (status_amid (o || m) l b) ≡ status_amid o (l || m) b
close_stand true true l b h = let e = (h refl).0 in cc
close_stand true false true b h = ap (λ b. status_amid false true b) (sym (h refl).1)
close_stand true false false b h = ap (λ b. status_amid false true b) (sym (h refl).1)
close_stand false true true b h = refl
close_stand false true false b h = refl
close_stand false false true b h = refl
close_stand false false false b h = refl

close_known : (m o l : Bool) → ((o || m) || l) ≡ (o || (l || m))
close_known true true l = refl
close_known true false true = refl
close_known true false false = refl
close_known false true l = refl
close_known false false true = refl
close_known false false false = refl

not_both : (b : Bool) → not b ≡ true → b ≡ false
not_both true h = cc
not_both false h = refl

not_neither : (b : Bool) → not b ≡ false → b ≡ true
not_neither true h = refl
not_neither false h = cc

module _ {size : ℕ} {base : ℕ → ModuleStatus} {seen opened linked : List ℕ} {status : ℕ → ModuleStatus} {index : ℕ → ℕ} (a : Amid size base seen opened linked status index) (x : ℕ) (lt : x < size) where
  unlinked_is : is_unlinked (status x) ≡ not (is_in nat_eq seen x)
  unlinked_is = ap is_unlinked (a.stand x lt) ∙ amid_unlinked (is_in nat_eq opened x) (is_in nat_eq linked x) (base x) (a.old x lt) ∙ sym (ap not (a.known x))

  linking_is : is_linking (status x) ≡ is_in nat_eq opened x
  linking_is = ap is_linking (a.stand x lt) ∙ amid_linking (is_in nat_eq opened x) (is_in nat_eq linked x) (base x) (a.idle x lt)

  is_new : is_unlinked (status x) ≡ true → Out seen x
  is_new h = not_both (is_in nat_eq seen x) (sym unlinked_is ∙ h)

  is_known : is_unlinked (status x) ≡ false → In seen x
  is_known h = not_neither (is_in nat_eq seen x) (sym unlinked_is ∙ h)

  neither : Out seen x → Out opened x × Out linked x
  neither n = or_false (is_in nat_eq opened x) (is_in nat_eq linked x) (sym (a.known x) ∙ n)

  base_is : Out seen x → base x ≡ status x
  base_is n = let p = neither n in sym (a.stand x lt ∙ (λ i. status_amid (p.0 i) (p.1 i) (base x)))

-- ---- the steps

module _ (trees : List Parts) (rs : List RecordParts) where
  abbrev T : ℕ → List ℕ
  T = targets_at rs

  module _ (status : ℕ → ModuleStatus) (index : ℕ → ℕ) (opened : List ℕ) (x : ℕ) (lt : x < length rs) where
    known_visit : (low : ℕ) → ((base : ℕ → ModuleStatus) (seen linked : List ℕ) → Amid (length rs) base seen opened linked status index → In seen x × Low T opened [] x low) → Visiting trees rs status index opened x (Ok low) status index opened
    known_visit low is base seen linked a marks seen' v =
        let i = is base seen linked a in
        let k = known_of T v i.0 in
        record {
          added = [];
          linked' = linked;
          now_is = sym (append-nil opened);
          amid = subst (λ s. Amid (length rs) base s opened linked status index) (sym k.1) a;
          low_is = i.1;
          stands = λ m h. cc;
          leads = λ ms f after q. subst (λ m. Walking trees rs opened linked (m ++ ms) f after) (sym k.0) q;
        }

    pub known_open : is_linking (status x) ≡ true → Visiting trees rs status index opened x (Ok (index x)) status index opened
    known_open h = known_visit (index x) (λ base seen linked a.
        let o = sym (linking_is a x lt) ∙ h in
        let p = place_of opened x o in
        let e = a.places p.place x p.is in
        (a.known x ∙ ap (λ b. b || is_in nat_eq linked x) o, lowest.low_open T opened x (index x) (subst (λ k. slice_get opened k ≡ Some x) (sym e) p.is) (λ j g. let q = a.places j x g in omega (arith, q))))

    pub known_closed : (low : ℕ) → is_linking (status x) ≡ false → is_unlinked (status x) ≡ false → low ≡ length opened → Visiting trees rs status index opened x (Ok low) status index opened
    known_closed low h u e = known_visit low (λ base seen linked a. (is_known a x lt u, lowest.low_closed T opened x low (omega (arith, e)) (sym (linking_is a x lt) ∙ h)))

    pub no_memory : Visiting trees rs status index opened x (Err Memory) status index opened
    no_memory base seen linked a marks seen' v = record { linked' = linked; cut = record { seen' = seen; amid = a }; leads = λ ms. Links.cut }

    module _ (unlinked : status x ≡ statuses.Unlinked) where
      out : {base : ℕ → ModuleStatus} {seen linked : List ℕ} → Amid (length rs) base seen opened linked status index → Out seen x
      out a = is_new a x lt (ap is_unlinked unlinked)

      out_open : {base : ℕ → ModuleStatus} {seen linked : List ℕ} → Amid (length rs) base seen opened linked status index → Out opened x
      out_open a = (neither a x lt (out a)).0

      module _ (status1 : ℕ → ModuleStatus) (index1 : ℕ → ℕ) (place : ℕ) (placed : place ≡ length opened) (statuses_are : (y : ℕ) → status1 y ≡ cond (nat_eq y x) statuses.Linking (status y)) (places_are : (y : ℕ) → index1 y ≡ cond (nat_eq y x) place (index y)) where
        amid_enter : {base : ℕ → ModuleStatus} {seen linked : List ℕ} → Amid (length rs) base seen opened linked status index → Amid (length rs) base (x ∷ seen) (opened ++ x ∷ []) linked status1 index1
        amid_enter {base} {seen} {linked} a = record {
          stand = λ y l. statuses_are y ∙ ap (λ s. cond (nat_eq y x) statuses.Linking s) (a.stand y l) ∙ enter_stand (nat_eq y x) (is_in nat_eq opened y) (is_in nat_eq linked y) (base y) ∙ ap (λ b. status_amid b (is_in nat_eq linked y) (base y)) (sym (in_append opened (x ∷ []) y));
          fresh = λ y h. either (in_split opened (x ∷ []) y h) (a.fresh y) (λ k. either (in_cons x [] y k) (λ e. subst (λ z. (z < length rs) × (base z ≡ statuses.Unlinked)) (sym e) (lt, base_is a x lt (out a) ∙ unlinked)) (λ n. cc));
          places = λ k y e. either (get_snoc opened x k y e) (λ h. places_are y ∙ ap (λ b. cond b place (index y)) (other y (has_at opened k y h)) ∙ a.places k y h) (λ h. places_are y ∙ ap (λ b. cond b place (index y)) (ap (λ z. nat_eq z x) h.1 ∙ own x) ∙ placed ∙ sym h.0);
          old = a.old;
          idle = a.idle;
          apart = λ y h. either (in_split opened (x ∷ []) y h) (a.apart y) (λ k. either (in_cons x [] y k) (λ e. subst (λ z. Out linked z) (sym e) (neither a x lt (out a)).1) (λ n. cc));
          known = λ y. ap (λ b. nat_eq y x || b) (a.known y) ∙ enter_known (nat_eq y x) (is_in nat_eq opened y) (is_in nat_eq linked y) ∙ ap (λ b. b || is_in nat_eq linked y) (sym (in_append opened (x ∷ []) y));
        }
          where
            other : (y : ℕ) → In opened y → nat_eq y x ≡ false
            other y h = not_true (nat_eq y x) (λ e. clash opened x (subst (λ z. In opened z) (eqb-true y x e) h) (out_open a))

        pub entered : (low : ℕ) → low ≡ length opened → Passing trees rs status index opened x status1 index1 (opened ++ x ∷ []) 0 low
        entered low is base seen linked a inner seen' p = record {
          members = [];
          linked_now = linked;
          seen_now = x ∷ seen;
          rest = inner;
          now_is = refl;
          amid = amid_enter a;
          left = subst (λ ts. Passes nat_eq T (x ∷ seen) x 0 ts inner seen') (sym (drop_none (T x))) p;
          lowest = lowest.at_first T opened x low is;
          leads = λ ms f after q. q;
        }

      module _ (now : ℕ → ModuleStatus) (places : ℕ → ℕ) (open_now : List ℕ) (i low : ℕ) (passing : Passing trees rs status index opened x now places open_now i low) where
        -- the rest of the visit of x
        to_end : {base : ℕ → ModuleStatus} {seen linked : List ℕ} {marks : List (Mark ℕ)} {seen' : List ℕ} (n : New T seen x marks seen') (p : Passed trees rs base opened linked x n.inner seen' now places open_now i low) (ms : List (Mark ℕ)) (f : Outcome) (after : List ℕ) → Walking trees rs open_now p.linked_now (p.rest ++ Leave x ∷ ms) f after → Walking trees rs opened linked (marks ++ ms) f after
        to_end {linked = linked} n p ms f after q = subst (λ m. Walking trees rs opened linked (m ++ ms) f after) (sym n.is) (Links.enters (subst (λ m. Walking trees rs (opened ++ x ∷ []) linked m f after) (sym (append_assoc n.inner (Leave x ∷ []) ms)) (p.leads (Leave x ∷ ms) f after q)))

        module _ (t : ℕ) (at : slice_get (T x) i ≡ Some t) where
          following : {base : ℕ → ModuleStatus} {linked : List ℕ} {inner : List (Mark ℕ)} {seen' : List ℕ} (p : Passed trees rs base opened linked x inner seen' now places open_now i low) → Next T p.seen_now x i t (drop (i + 1) (T x)) p.rest seen'
          following {seen' = seen'} p = next_of T (subst (λ ts. Passes nat_eq T p.seen_now x i ts p.rest seen') (drop_at (T x) i t at) p.left)

          pub cut : (end : End LinkFault) (now2 : ℕ → ModuleStatus) (places2 : ℕ → ℕ) (open2 : List ℕ) → Visiting trees rs now places open_now t (Err end) now2 places2 open2 → Visiting trees rs status index opened x (Err end) now2 places2 open2
          cut end now2 places2 open2 v base seen linked a marks seen' w =
              let n = new_of T w (out a) in
              let p = passing base seen linked a n.inner seen' n.passes in
              let k = following p in
              let c = v base p.seen_now p.linked_now p.amid k.first k.between k.visit in
              record {
                linked' = c.linked';
                cut = c.cut;
                leads = λ ms. to_end n p ms (outcome_of end) c.linked' (subst (λ m. Walking trees rs open_now p.linked_now m (outcome_of end) c.linked') (sym (append_assoc k.first (Pass x i ∷ k.later) (Leave x ∷ ms)) ∙ ap (λ m. m ++ Leave x ∷ ms) (sym k.is)) (c.leads (Pass x i ∷ (k.later ++ Leave x ∷ ms))));
              }

          pub passed : (l low2 : ℕ) (now2 : ℕ → ModuleStatus) (places2 : ℕ → ℕ) (open2 : List ℕ) → Visiting trees rs now places open_now t (Ok l) now2 places2 open2 → low2 ≡ cond (nat_lt l low) l low → Passing trees rs status index opened x now2 places2 open2 (i + 1) low2
          passed l low2 now2 places2 open2 v is base seen linked a inner seen' w =
              let p = passing base seen linked a inner seen' w in
              let k = following p in
              let c = v base p.seen_now p.linked_now p.amid k.first k.between k.visit in
              record {
                members = p.members ++ c.added;
                linked_now = c.linked';
                seen_now = k.between;
                rest = k.later;
                now_is = c.now_is ∙ ap (λ o. o ++ c.added) p.now_is ∙ append_assoc opened (x ∷ p.members) c.added;
                amid = c.amid;
                left = subst (λ j. Passes nat_eq T k.between x j (drop (i + 1) (T x)) k.later seen') (sym (plus_one i)) k.passes;
                lowest = lesser (nat_lt l low) refl p (subst (λ o. Low T o c.added t l) p.now_is c.low_is);
                leads = λ ms f after q. p.leads ms f after (subst (λ m. Walking trees rs open_now p.linked_now m f after) (sym (append_assoc k.first (Pass x i ∷ k.later) ms) ∙ ap (λ m. m ++ ms) (sym k.is)) (c.leads (Pass x i ∷ (k.later ++ ms)) f after (Links.passes q)));
              }
            where
              plus_one : (i : ℕ) → i + 1 ≡ suc i
              plus_one i = omega arith

              lesser : (b : Bool) → nat_lt l low ≡ b → (p : Passed trees rs base opened linked x inner seen' now places open_now i low) {added : List ℕ} → Low T (opened ++ x ∷ p.members) added t l → Lowest T opened (p.members ++ added) x (i + 1) low2
              lesser true e p {added} v = subst (λ n. Lowest T opened (p.members ++ added) x (i + 1) n) (sym (is ∙ ap (λ b. cond b l low) e)) (lowest.gets_low T opened p.members added x i t low l at p.lowest v (ltb-true l low e))
              lesser false e p {added} v = subst (λ n. Lowest T opened (p.members ++ added) x (i + 1) n) (sym (is ∙ ap (λ b. cond b l low) e)) (lowest.keeps_low T opened p.members added x i t low l at p.lowest v (ltb-false l low e))

        module _ (over : length (T x) ≤ i) where
          at_end : {base : ℕ → ModuleStatus} {linked : List ℕ} {inner : List (Mark ℕ)} {seen' : List ℕ} (p : Passed trees rs base opened linked x inner seen' now places open_now i low) → (p.rest ≡ []) × (seen' ≡ p.seen_now)
          at_end {seen' = seen'} p = end_of T (subst (λ ts. Passes nat_eq T p.seen_now x i ts p.rest seen') (drop_of_length-le (T x) over) p.left)

          leaves : {base : ℕ → ModuleStatus} {seen linked : List ℕ} {marks : List (Mark ℕ)} {seen' : List ℕ} (n : New T seen x marks seen') (p : Passed trees rs base opened linked x n.inner seen' now places open_now i low) (ms : List (Mark ℕ)) (f : Outcome) (after : List ℕ) → Walking trees rs open_now p.linked_now (Leave x ∷ ms) f after → Walking trees rs opened linked (marks ++ ms) f after
          leaves n p ms f after q = to_end n p ms f after (subst (λ r. Walking trees rs open_now p.linked_now (r ++ Leave x ∷ ms) f after) (sym (at_end p).0) q)

          pub leave_ends : (end : End LinkFault) → HasFault (modules_of trees rs) x end → Visiting trees rs status index opened x (Err end) now places open_now
          leave_ends (Fault g) h base seen linked a marks seen' w =
              let n = new_of T w (out a) in
              let p = passing base seen linked a n.inner seen' n.passes in
              record { linked' = p.linked_now; cut = record { seen' = p.seen_now; amid = p.amid }; leads = λ ms. leaves n p ms (Ends (Some (fault_of g))) p.linked_now (Links.fails h) }
          leave_ends Memory h base seen linked a marks seen' w =
              let n = new_of T w (out a) in
              let p = passing base seen linked a n.inner seen' n.passes in
              record { linked' = p.linked_now; cut = record { seen' = p.seen_now; amid = p.amid }; leads = λ ms. leaves n p ms IsCut p.linked_now Links.cut }

          pub stays : FirstFault (modules_of trees rs) x None → low < length opened → Visiting trees rs status index opened x (Ok low) now places open_now
          stays h less base seen linked a marks seen' w =
              let n = new_of T w (out a) in
              let p = passing base seen linked a n.inner seen' n.passes in
              let c = lowest.stays T opened p.members x i low p.lowest (out_open a) less in
              record {
                added = x ∷ p.members;
                linked' = p.linked_now;
                now_is = p.now_is;
                amid = subst (λ s. Amid (length rs) base s open_now p.linked_now now places) (sym (at_end p).1) p.amid;
                low_is = lowest.low_inner T opened p.members x i low p.lowest (out_open a) over;
                stands = λ m h. less;
                leads = λ ms f after q. leaves n p ms f after (Links.stays h (subst (λ o. closes nat_eq T o x ≡ false) (sym p.now_is) c) q);
              }

          module _ (now3 : ℕ → ModuleStatus) (places3 : ℕ → ℕ) (open3 : List ℕ) (place : ℕ) (placed : place ≡ length opened) (statuses_are : (y : ℕ) → now3 y ≡ cond (is_in nat_eq (drop place open_now) y) statuses.Linked (now y)) (places_are : (y : ℕ) → places3 y ≡ places y) (open_is : open3 ≡ take place open_now) where
            amid_close : {base : ℕ → ModuleStatus} {seen linked : List ℕ} (members : List ℕ) → open_now ≡ opened ++ x ∷ members → Amid (length rs) base seen open_now linked now places → Amid (length rs) base seen opened (linked ++ x ∷ members) now3 places3
            amid_close {base} {seen} {linked} members e a = record {
              stand = λ y l. statuses_are y ∙ (λ i. cond (is_in nat_eq (dropped i) y) statuses.Linked (a.stand y l i)) ∙ ap (λ b. cond (is_in nat_eq (x ∷ members) y) statuses.Linked (status_amid b (is_in nat_eq linked y) (base y))) (ap (λ o. is_in nat_eq o y) e ∙ in_append opened (x ∷ members) y) ∙ close_stand (is_in nat_eq (x ∷ members) y) (is_in nat_eq opened y) (is_in nat_eq linked y) (base y) (λ h. (apart y h, (a.fresh y (inside y h)).1)) ∙ ap (λ b. status_amid (is_in nat_eq opened y) b (base y)) (sym (in_append linked (x ∷ members) y));
              fresh = λ y h. a.fresh y (subst (λ o. In o y) (sym e) (in_left opened (x ∷ members) y h));
              places = λ k y g. places_are y ∙ a.places k y (subst (λ o. slice_get o k ≡ Some y) (sym e) (get_left opened (x ∷ members) k y g));
              old = λ y l h. in_left linked (x ∷ members) y (a.old y l h);
              idle = a.idle;
              apart = λ y h. out_both linked (x ∷ members) y (a.apart y (subst (λ o. In o y) (sym e) (in_left opened (x ∷ members) y h))) (not_true (is_in nat_eq (x ∷ members) y) (λ k. clash opened y h (apart y k)));
              known = λ y. a.known y ∙ ap (λ b. b || is_in nat_eq linked y) (ap (λ o. is_in nat_eq o y) e ∙ in_append opened (x ∷ members) y) ∙ close_known (is_in nat_eq (x ∷ members) y) (is_in nat_eq opened y) (is_in nat_eq linked y) ∙ ap (λ b. is_in nat_eq opened y || b) (sym (in_append linked (x ∷ members) y));
            }
              where
                dropped : drop place open_now ≡ x ∷ members
                dropped = ap (λ k. drop k open_now) placed ∙ ap (λ o. drop (length opened) o) e ∙ drop_front opened (x ∷ members)

                inside : (y : ℕ) → In (x ∷ members) y → In open_now y
                inside y h = subst (λ o. In o y) (sym e) (in_right opened (x ∷ members) y h)

                twice : (y : ℕ) → Place opened y → Behind opened (x ∷ members) y → ⊥
                twice y p b =
                    let i = a.places p.place y (subst (λ o. slice_get o p.place ≡ Some y) (sym e) (get_left opened (x ∷ members) p.place y p.is)) in
                    let j = a.places b.place y (subst (λ o. slice_get o b.place ≡ Some y) (sym e) b.is) in
                    let near = slice_get_within opened p.place y p.is in
                    let far = b.far in
                    omega (arith, i, j, near, far)

                apart : (y : ℕ) → In (x ∷ members) y → Out opened y
                apart y h = not_true (is_in nat_eq opened y) (λ k. twice y (place_of opened y k) (behind opened (x ∷ members) y h))

            front : (members : List ℕ) → open_now ≡ opened ++ x ∷ members → open3 ≡ opened
            front members e = open_is ∙ ap (λ k. take k open_now) placed ∙ ap (λ o. take (length opened) o) e ∙ take_front opened (x ∷ members)

            pub closes_all : FirstFault (modules_of trees rs) x None → length opened ≤ low → Visiting trees rs status index opened x (Ok low) now3 places3 open3
            closes_all h le base seen linked a marks seen' w =
                let n = new_of T w (out a) in
                let p = passing base seen linked a n.inner seen' n.passes in
                let c = lowest.closed T opened p.members x i low p.lowest (out_open a) over le in
                let e = front p.members p.now_is in
                record {
                  added = [];
                  linked' = p.linked_now ++ x ∷ p.members;
                  now_is = e ∙ sym (append-nil opened);
                  amid = subst (λ s. Amid (length rs) base s open3 (p.linked_now ++ x ∷ p.members) now3 places3) (sym (at_end p).1) (subst (λ o. Amid (length rs) base p.seen_now o (p.linked_now ++ x ∷ p.members) now3 places3) (sym e) (amid_close p.members p.now_is p.amid));
                  low_is = lowest.low_root T opened p.members x i low p.lowest (out_open a) over le;
                  stands = λ m h. cc;
                  leads = λ ms f after q. leaves n p ms f after (Links.component h (subst (λ o. closes nat_eq T o x ≡ true) (sym p.now_is) c)
                      (closing p.members p.now_is (out_open a) p.linked_now ms f after (subst (λ o. Walking trees rs o (p.linked_now ++ x ∷ p.members) ms f after) e q)));
                }
              where
                closing : (members : List ℕ) → open_now ≡ opened ++ x ∷ members → Out opened x → (linked : List ℕ) (ms : List (Mark ℕ)) (f : Outcome) (after : List ℕ) → Walking trees rs opened (linked ++ x ∷ members) ms f after → Walking trees rs (opened_before nat_eq open_now x) (linked ++ opened_from nat_eq open_now x) ms f after
                closing members e o linked ms f after q =
                    let b : opened_before nat_eq open_now x ≡ opened = ap (λ o. opened_before nat_eq o x) e ∙ below_is opened members x o in
                    let m : opened_from nat_eq open_now x ≡ x ∷ members = ap (λ o. opened_from nat_eq o x) e ∙ from_is opened members x o in
                    subst (λ o. Walking trees rs o (linked ++ opened_from nat_eq open_now x) ms f after) (sym b) (subst (λ m. Walking trees rs opened (linked ++ m) ms f after) (sym m) q)
