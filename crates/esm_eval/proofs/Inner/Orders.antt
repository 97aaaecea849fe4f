-- Modules by their orders of asynchronous evaluation.
use Rattle.std.proofs.Common.{◌≡◌, ℕ, suc, zero, ◌+◌, ◌<◌, ◌≤◌, Bool, true, false, List, [], ◌∷◌, ◌++◌, length, Option, Some, None, refl, ap, subst, sym, ◌∙◌, inl, inr, arith, slice_get, nat_eq, eqb-true, eq-eqb}
use Rattle.std.specs.Prelude.{◌⊎◌, ◌||◌, ◌↔◌, IsSome, nat_lt}
use Rattle.std.specs.List.{list_any, AllByRecursion}
use Rattle.std.specs.List.Sorted.{IsStrictlySortedBy}
use Rattle.std.specs.Option.{unwrap_or}
use Rattle.std.specs.Ordering.{nat_cmp, match_ordering}
use Rattle.std.specs.BTreeSet.{insert_key}
use Rattle.std.specs.BTreeMap.{is_at}
use Rattle.std.specs.declared.cmp.Ordering.{Ordering}
use Rattle.std.specs.declared.cmp.Ordering.TheVariants.{Less, Equal, Greater}
use Rattle.std.proofs.lemmas.Map.Keys.{sorted_head, sorted_tail}
use Rattle.std.proofs.lemmas.Bool.Decides.{nat_tests}
use Rattle.std.proofs.lemmas.Option.{slice_get_within}
use Rattle.esm_base.specs.Lists.{EachOnce, is_in}
use Rattle.esm_realm.proofs.Urls.{cases, not_true, not_both, or_left, or_true, or_cases}
use Rattle.esm_realm.proofs.Lists.{either}
use Rattle.esm_realm.proofs.Numbers.{In, has_at, in_first, in_later, in_cons}
use Rattle.esm_eval.specs.BodyEnd.{IsReady, ReadyAmong}
use Rattle.esm_eval.specs.Calls.{CodeEvaluation}
use Rattle.esm_eval.specs.Inner.Orders.{is_just, has_one_of, modules_at, AreOrders}
use Rattle.esm_eval.specs.Inner.Ready.{AreAllReady}

some_is : {x y : ℕ} → Some x ≡ Some y → x ≡ y
some_is e = cc

-- no module stands at two places
pub one_place : (stamps : List ℕ) (j k x : ℕ) → EachOnce nat_eq stamps → slice_get stamps j ≡ Some x → slice_get stamps k ≡ Some x → j ≡ k
one_place [] j k x d e f = cc
one_place (s ∷ ss) zero zero x d e f = refl
one_place (s ∷ ss) zero (suc k) x d e f = absurd (not_both (is_in nat_eq ss s) (subst (λ z. In ss z) (sym (some_is e)) (has_at ss k x f)) d.0)
one_place (s ∷ ss) (suc j) zero x d e f = absurd (not_both (is_in nat_eq ss s) (subst (λ z. In ss z) (sym (some_is f)) (has_at ss j x e)) d.0)
one_place (s ∷ ss) (suc j) (suc k) x d e f = ap suc (one_place ss j k x d.1 e f)

just_is : (o : Option ℕ) (x : ℕ) → is_just o x ≡ true → o ≡ Some x
just_is None x h = cc
just_is (Some y) x h = ap Some (sym (eqb-true x y h))

is_just_of : (o : Option ℕ) (x : ℕ) → o ≡ Some x → is_just o x ≡ true
is_just_of o x e = ap (λ q. is_just q x) e ∙ eq-eqb x x refl

module _ (stamps : List ℕ) where
  -- a module that has one of these orders stands at one of them
  pub order_of : (ks : List ℕ) (x : ℕ) → has_one_of stamps ks x ≡ true → (k : ℕ) × In ks k × (slice_get stamps k ≡ Some x)
  order_of [] x h = cc
  order_of (k ∷ ks) x h = by (or_cases (is_just (slice_get stamps k) x) (has_one_of stamps ks x) h) (order_of ks x)
    where
      by : (is_just (slice_get stamps k) x ≡ true) ⊎ (has_one_of stamps ks x ≡ true) → (has_one_of stamps ks x ≡ true → (j : ℕ) × In ks j × (slice_get stamps j ≡ Some x))
          → (j : ℕ) × In (k ∷ ks) j × (slice_get stamps j ≡ Some x)
      by (inl e) rest = (k, in_first k ks, just_is (slice_get stamps k) x e)
      by (inr i) rest = let p = rest i in (p.0, in_later k ks p.0 p.1, p.2)

  pub has_order : (ks : List ℕ) (k x : ℕ) → In ks k → slice_get stamps k ≡ Some x → has_one_of stamps ks x ≡ true
  has_order [] k x i e = cc
  has_order (j ∷ ks) k x i e = either (in_cons j ks k i)
      (λ s. or_left (is_just (slice_get stamps j) x) _ (is_just_of (slice_get stamps j) x (ap (slice_get stamps) (sym s) ∙ e)))
      (λ n. or_true (is_just (slice_get stamps j) x) _ (has_order ks k x n e))

  -- a module without an order has none of these
  pub has_none : (ks : List ℕ) (x : ℕ) → is_in nat_eq stamps x ≡ false → has_one_of stamps ks x ≡ false
  has_none ks x n = not_true (has_one_of stamps ks x) (λ h. let p = order_of ks x h in not_both (is_in nat_eq stamps x) (has_at stamps p.0 x p.2) n)

  -- ---- the orders are kept as a set

  at_key : (k j : ℕ) → is_at (nat_cmp k) j ≡ nat_eq k j
  at_key k j = by (nat_lt k j) refl (nat_eq k j) refl
    where
      by : (l : Bool) → nat_lt k j ≡ l → (e : Bool) → nat_eq k j ≡ e → is_at (nat_cmp k) j ≡ nat_eq k j
      by l h e g = grind (arith, nat_tests)

  in_keys : (ks : List ℕ) (k : ℕ) → list_any (is_at (nat_cmp k)) ks ≡ is_in nat_eq ks k
  in_keys [] k = refl
  in_keys (j ∷ ks) k = ap (λ b. b || list_any (is_at (nat_cmp k)) ks) (at_key k j) ∙ ap (λ b. nat_eq k j || b) (in_keys ks k)

  in_has : (ks : List ℕ) (k x : ℕ) → EachOnce nat_eq stamps → slice_get stamps k ≡ Some x → is_in nat_eq ks k ≡ has_one_of stamps ks x
  in_has ks k x d e = by (cases (is_in nat_eq ks k)) (cases (has_one_of stamps ks x))
    where
      by : (is_in nat_eq ks k ≡ true) ⊎ (is_in nat_eq ks k ≡ false) → (has_one_of stamps ks x ≡ true) ⊎ (has_one_of stamps ks x ≡ false) → is_in nat_eq ks k ≡ has_one_of stamps ks x
      by (inl i) h = i ∙ sym (has_order ks k x i e)
      by (inr o) (inr n) = o ∙ sym n
      by (inr o) (inl h) = let p = order_of ks x h in absurd (not_both (is_in nat_eq ks k) (subst (λ j. In ks j) (one_place stamps p.0 k x d p.2 e) p.1) o)

  -- whether the set has the order of a module tells whether the module has one of the orders
  pub contains_order : (ks : List ℕ) (k x : ℕ) → EachOnce nat_eq stamps → slice_get stamps k ≡ Some x → list_any (is_at (nat_cmp k)) ks ≡ has_one_of stamps ks x
  contains_order ks k x d e = in_keys ks k ∙ in_has ks k x d e

  -- one order more
  or_swap : (a b c : Bool) → (a || (b || c)) ≡ (b || (a || c))
  or_swap true true c = refl
  or_swap true false c = refl
  or_swap false b c = refl

  or_twice : (a b c : Bool) → a ≡ b → (a || c) ≡ (b || (a || c))
  or_twice true true c e = refl
  or_twice false false c e = refl
  or_twice true false c e = cc
  or_twice false true c e = cc

  insert_at : (k : ℕ) (ks : List ℕ) (y : ℕ) → has_one_of stamps (insert_key nat_cmp ks k) y ≡ (is_just (slice_get stamps k) y || has_one_of stamps ks y)
  insert_at k [] y = refl
  insert_at k (j ∷ ks) y = by (nat_cmp k j) refl (insert_at k ks y)
    where
      equal_at : nat_cmp k j ≡ Equal → k ≡ j
      equal_at e = eqb-true k j (sym (at_key k j) ∙ ap (λ o. Rattle.std.specs.Ordering.is_eq o) e)

      by : (o : Ordering) → nat_cmp k j ≡ o → has_one_of stamps (insert_key nat_cmp ks k) y ≡ (is_just (slice_get stamps k) y || has_one_of stamps ks y)
          → has_one_of stamps (match_ordering o (k ∷ j ∷ ks) (j ∷ ks) (j ∷ insert_key nat_cmp ks k)) y ≡ (is_just (slice_get stamps k) y || (is_just (slice_get stamps j) y || has_one_of stamps ks y))
      by Less e rest = refl
      by Equal e rest = or_twice (is_just (slice_get stamps j) y) (is_just (slice_get stamps k) y) (has_one_of stamps ks y) (ap (λ i. is_just (slice_get stamps i) y) (sym (equal_at e)))
      by Greater e rest = ap (λ b. is_just (slice_get stamps j) y || b) rest ∙ or_swap (is_just (slice_get stamps j) y) (is_just (slice_get stamps k) y) (has_one_of stamps ks y)

  -- the set has the order of x more
  pub with_order : (ks after : List ℕ) (k x : ℕ) → after ≡ insert_key nat_cmp ks k → slice_get stamps k ≡ Some x → (y : ℕ) → has_one_of stamps after y ≡ (nat_eq y x || has_one_of stamps ks y)
  with_order ks after k x e at y =
      ap (λ l. has_one_of stamps l y) e ∙ insert_at k ks y ∙ ap (λ o. is_just o y || has_one_of stamps ks y) at

  orders_insert : (k : ℕ) (ks : List ℕ) → k < length stamps → AreOrders stamps ks → AreOrders stamps (insert_key nat_cmp ks k)
  orders_insert k [] lt a = (lt, tt)
  orders_insert k (j ∷ ks) lt a = by (nat_cmp k j) (orders_insert k ks lt a.1)
    where
      by : (o : Ordering) → AreOrders stamps (insert_key nat_cmp ks k) → AreOrders stamps (match_ordering o (k ∷ j ∷ ks) (j ∷ ks) (j ∷ insert_key nat_cmp ks k))
      by Less rest = (lt, a)
      by Equal rest = a
      by Greater rest = (a.0, rest)

  pub orders_with : (ks after : List ℕ) (k x : ℕ) → after ≡ insert_key nat_cmp ks k → slice_get stamps k ≡ Some x → AreOrders stamps ks → AreOrders stamps after
  orders_with ks after k x e at a = subst (λ l. AreOrders stamps l) (sym e) (orders_insert k ks (slice_get_within stamps k x at) a)

  pub no_orders : (ks : List ℕ) → ks ≡ [] → AreOrders stamps ks
  no_orders ks e = subst (λ l. AreOrders stamps l) (sym e) tt

  pub has_no_orders : (ks : List ℕ) → ks ≡ [] → (x : ℕ) → has_one_of stamps ks x ≡ false
  has_no_orders ks e x = ap (λ l. has_one_of stamps l x) e

  -- ---- the modules that have these orders, first to last

  -- from i on, these rise, and are orders of modules
  abbrev Rise : ℕ → List ℕ → Type 0
  Rise i [] = Unit {0}
  Rise i (k ∷ ks) = (i ≤ k) × (k < length stamps) × Rise (k + 1) ks

  less_is : (a b : ℕ) → nat_cmp a b ≡ Less → a < b
  less_is a b h = by (nat_lt a b) refl
    where
      by : (l : Bool) → nat_lt a b ≡ l → a < b
      by true e = grind (arith, nat_tests)
      by false e = grind (arith, nat_tests)

  above : (k : ℕ) (ks : List ℕ) → AllByRecursion (λ y. nat_cmp k y ≡ Less) ks → AllByRecursion (λ y. k + 1 ≤ y) ks
  above k [] a = tt
  above k (j ∷ ks) a = (let lt = less_is k j a.0 in omega (arith, lt), above k ks a.1)

  rise_from : (i : ℕ) (ks : List ℕ) → AllByRecursion (λ y. i ≤ y) ks → AreOrders stamps ks → IsStrictlySortedBy nat_cmp ks → Rise i ks
  rise_from i [] a o s = tt
  rise_from i (k ∷ ks) a o s = (a.0, o.0, rise_from (k + 1) ks (above k ks (sorted_head nat_cmp k ks s)) o.1 (sorted_tail nat_cmp k ks s))

  from_none : (ks : List ℕ) → AllByRecursion (λ y. 0 ≤ y) ks
  from_none [] = tt
  from_none (k ∷ ks) = (omega arith, from_none ks)

  rise_more : (i j : ℕ) (ks : List ℕ) → j ≤ i → Rise i ks → Rise j ks
  rise_more i j [] le r = tt
  rise_more i j (k ∷ ks) le r = (let a = r.0 in omega (arith, a, le), r.1, r.2)

  low_in : (i : ℕ) (ks : List ℕ) (y : ℕ) → Rise i ks → In ks y → i ≤ y
  low_in i [] y r h = cc
  low_in i (k ∷ ks) y r h = either (in_cons k ks y h) (λ e. let a = r.0 in omega (arith, a, e)) (λ n. let b = low_in (k + 1) ks y r.2 n in let a = r.0 in omega (arith, a, b))

  module _ {W : Type 0} (E : CodeEvaluation W) (w : W) where
    -- from place i on, these are the orders of those that are ready
    record AreFrom (i : ℕ) (ks : List ℕ) : Type 0 where
      rise : Rise i ks
      sound : (k x : ℕ) → In ks k → slice_get stamps k ≡ Some x → IsReady E w x
      whole : (k x : ℕ) → i ≤ k → slice_get stamps k ≡ Some x → IsReady E w x → In ks k

    -- the module at place i isn't ready
    skips : (i : ℕ) (ks : List ℕ) → Rise (i + 1) ks → AreFrom i ks → AreFrom (i + 1) ks
    skips i ks r a = record { rise = r; sound = a.sound; whole = λ k x le. a.whole k x (omega (arith, le)) }

    takes : (i : ℕ) (ks : List ℕ) → AreFrom i (i ∷ ks) → AreFrom (i + 1) ks
    takes i ks a = record {
      rise = a.rise.2;
      sound = λ k x h. a.sound k x (in_later i ks k h);
      whole = λ k x le e r. either (in_cons i ks k (a.whole k x (omega (arith, le)) e r)) (λ s. absurd (omega (arith, le, s))) (λ n. n);
    }

    unready : (i x : ℕ) (ks : List ℕ) → AreFrom i ks → Rise (i + 1) ks → slice_get stamps i ≡ Some x → IsReady E w x → ⊥
    unready i x ks a r e h = let le = low_in (i + 1) ks i r (a.whole i x (omega arith) e h) in omega (arith, le)

    at_here : (x : ℕ) (rest : List ℕ) (i : ℕ) → ((j : ℕ) → slice_get (x ∷ rest) j ≡ slice_get stamps (i + j)) → slice_get stamps i ≡ Some x
    at_here x rest i at = let z : i ≡ i + 0 = omega arith in ap (slice_get stamps) z ∙ sym (at 0)

    at_next : (x : ℕ) (rest : List ℕ) (i : ℕ) → ((j : ℕ) → slice_get (x ∷ rest) j ≡ slice_get stamps (i + j)) → (j : ℕ) → slice_get rest j ≡ slice_get stamps ((i + 1) + j)
    at_next x rest i at j = let z : i + suc j ≡ (i + 1) + j = omega arith in at (suc j) ∙ ap (slice_get stamps) z

    one_from : (x : ℕ) (rest : List ℕ) (i : ℕ) (ks : List ℕ) → slice_get stamps i ≡ Some x → ((ls : List ℕ) → AreFrom (i + 1) ls → ReadyAmong E w rest (modules_at stamps ls)) → AreFrom i ks
        → ReadyAmong E w (x ∷ rest) (modules_at stamps ks)
    one_from x rest i [] e go a = ReadyAmong.dropped (unready i x [] a tt e) (go [] (skips i [] tt a))
    one_from x rest i (k ∷ ks) e go a = by (cases (nat_eq i k))
      where
        apart : nat_eq i k ≡ false → i ≡ k → ⊥
        apart n s = not_both (nat_eq i k) (eq-eqb i k s) n

        by : (nat_eq i k ≡ true) ⊎ (nat_eq i k ≡ false) → ReadyAmong E w (x ∷ rest) (modules_at stamps (k ∷ ks))
        by (inl s) =
            let same : i ≡ k = eqb-true i k s in
            let b : AreFrom i (i ∷ ks) = subst (λ z. AreFrom i (z ∷ ks)) (sym same) a in
            let head : unwrap_or (slice_get stamps k) 0 ≡ x = ap (λ z. unwrap_or (slice_get stamps z) 0) (sym same) ∙ ap (λ o. unwrap_or o 0) e in
            subst (λ y. ReadyAmong E w (x ∷ rest) (y ∷ modules_at stamps ks)) (sym head) (ReadyAmong.kept (b.sound i x (in_first i ks) e) (go ks (takes i ks b)))
        by (inr n) =
            let ne = apart n in
            let le = a.rise.0 in
            let lt : i + 1 ≤ k = omega (arith, le, ne) in
            let r : Rise (i + 1) (k ∷ ks) = (lt, a.rise.1, a.rise.2) in
            ReadyAmong.dropped (unready i x (k ∷ ks) a r e) (go (k ∷ ks) (skips i (k ∷ ks) r a))

    none_from : (i : ℕ) (ks : List ℕ) → length stamps ≡ i + 0 → AreFrom i ks → ReadyAmong E w [] (modules_at stamps ks)
    none_from i [] len a = ReadyAmong.none
    none_from i (k ∷ ks) len a = absurd (let p = a.rise.0 in let q = a.rise.1 in omega (arith, p, q, len))

    ready_from : (rest : List ℕ) (i : ℕ) (ks : List ℕ) → ((j : ℕ) → slice_get rest j ≡ slice_get stamps (i + j)) → length stamps ≡ i + length rest → AreFrom i ks
        → ReadyAmong E w rest (modules_at stamps ks)
    ready_from [] i ks at len a = none_from i ks len a
    ready_from (x ∷ rest) i ks at len a =
        one_from x rest i ks (at_here x rest i at) (λ ls b. ready_from rest (i + 1) ls (at_next x rest i at) (omega (arith, len)) b) a

    -- those that are ready, in the order of their stamps
    pub all_ready : (ks : List ℕ) → IsStrictlySortedBy nat_cmp ks → AreOrders stamps ks → EachOnce nat_eq stamps → AreAllReady E w (has_one_of stamps ks) → ReadyAmong E w stamps (modules_at stamps ks)
    all_ready ks s o d r = ready_from stamps 0 ks (λ j. let z : j ≡ 0 + j = omega arith in ap (slice_get stamps) z) (omega arith) (record {
      rise = rise_from 0 ks (from_none ks) o s;
      sound = λ k x i e. r.sound x (has_order ks k x i e);
      whole = λ k x le e h. let p = order_of ks x (r.whole x h) in subst (λ j. In ks j) (one_place stamps p.0 k x d p.2 e) p.1;
    })

    -- where one of these is taken off, and its module put behind those that were taken before
    pub modules_on : (done : List ℕ) (k : ℕ) (ks all : List ℕ) (x : ℕ) (whole : List ℕ) → all ≡ k ∷ ks → slice_get stamps k ≡ Some x → done ++ modules_at stamps all ≡ whole
        → (done ++ x ∷ []) ++ modules_at stamps ks ≡ whole
    modules_on done k ks all x whole e at h = behind done x (modules_at stamps ks) ∙ ap (λ y. done ++ y ∷ modules_at stamps ks) (ap (λ o. unwrap_or o 0) (sym at)) ∙ ap (λ l. done ++ modules_at stamps l) (sym e) ∙ h
      where
        behind : (a : List ℕ) (x : ℕ) (b : List ℕ) → (a ++ x ∷ []) ++ b ≡ a ++ x ∷ b
        behind [] x b = refl
        behind (y ∷ a) x b = ap (λ l. y ∷ l) (behind a x b)

    -- nothing is left where there is no first one
    pub none_left : (o : Option ℕ) (ks : List ℕ) → (IsSome o ↔ (0 < length ks)) → ((k : ℕ) → o ≡ Some k → ⊥) → ks ≡ []
    none_left o [] i never = refl
    none_left None (k ∷ ks) i never = absurd (let some : false ≡ true = i.1 (omega arith) in cc)
    none_left (Some j) (k ∷ ks) i never = absurd (never j refl)

    pub modules_done : (done ks whole : List ℕ) → ks ≡ [] → done ++ modules_at stamps ks ≡ whole → done ≡ whole
    modules_done done ks whole e h = sym (nothing done) ∙ ap (λ l. done ++ modules_at stamps l) (sym e) ∙ h
      where
        nothing : (a : List ℕ) → a ++ [] ≡ a
        nothing [] = refl
        nothing (y ∷ a) = ap (λ l. y ∷ l) (nothing a)
