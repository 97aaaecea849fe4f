-- The lowest place that a target of a component's members has among the open modules.
use Rattle.std.proofs.Common.{◌≡◌, ℕ, ◌+◌, ◌<◌, ◌≤◌, Bool, true, false, not, List, [], ◌∷◌, ◌++◌, length, Some, refl, ap, subst, sym, ◌∙◌, arith, inl, inr, nat_eq, eqb-true}
use Rattle.std.specs.Prelude.{◌⊎◌, slice_get}
use Rattle.std.specs.List.{list_any}
use Rattle.std.proofs.lemmas.Option.{slice_get_within}
use Rattle.esm_base.specs.Lists.{is_in}
use Rattle.esm_realm.specs.Components.{closes, leads_into}
use Rattle.esm_realm.proofs.Urls.{cases, not_true}
use Rattle.esm_realm.proofs.Lists as names
use Rattle.esm_realm.proofs.Lists.{either}
use Rattle.esm_realm.specs.Places.{LeadsToPlace, Low, Lowest}
use Rattle.esm_realm.proofs.Numbers.{In, Out, own, in_left, in_right, in_split, in_first, in_cons, clash, below_is, from_is, has_at, place_of, get_left, get_back, long_left, Place}

is_same : (j i : ℕ) → (j ≡ i) ⊎ (j ≡ i → ⊥)
is_same j i = by (cases (nat_eq j i))
  where
    by : (nat_eq j i ≡ true) ⊎ (nat_eq j i ≡ false) → (j ≡ i) ⊎ (j ≡ i → ⊥)
    by (inl e) = inl (eqb-true j i e)
    by (inr e) = inr (λ s. clash (i ∷ []) j (subst (λ z. In (z ∷ []) j) s (in_first j [])) (one e))
      where
        one : nat_eq j i ≡ false → Out (i ∷ []) j
        one e = rw e refl

module _ (T : ℕ → List ℕ) where
  none_leads : {C : Type 0} (old : List ℕ) (k : ℕ) → LeadsToPlace T [] old k → C
  none_leads old k h = absurd (none h.among)
    where
      none : is_in nat_eq [] h.member ≡ true → ⊥
      none e = cc

  -- with more modules
  more_leads : (some all old : List ℕ) (k : ℕ) → ((y : ℕ) → In some y → In all y) → LeadsToPlace T some old k → LeadsToPlace T all old k
  more_leads some all old k f h = record { member = h.member; target = h.target; among = f h.member h.among; leads = h.leads; at = h.at }

  pub at_first : (old : List ℕ) (x low : ℕ) → low ≡ length old → Lowest T old [] x 0 low
  at_first old x low is = record { hit = λ lt. absurd (omega (arith, is, lt)); passed = λ j t k lt a b. absurd (omega arith); least = λ k h. none_leads old k h }

  module _ (old members added : List ℕ) (x i t low l : ℕ) (at : slice_get (T x) i ≡ Some t) (so_far : Lowest T old members x i low) (v : Low T (old ++ x ∷ members) added t l) where
    passes : (n : ℕ) → n ≤ low → n ≤ l → (j u k : ℕ) → j < i + 1 → slice_get (T x) j ≡ Some u → slice_get old k ≡ Some u → n ≤ k
    passes n le le' j u k lt a b = by (is_same j i)
      where
        by : (j ≡ i) ⊎ (j ≡ i → ⊥) → n ≤ k
        by (inl e) =
            let same : Some u ≡ Some t = sym a ∙ ap (λ j. slice_get (T x) j) e ∙ at in
            let q = v.itself k (get_left old (x ∷ members) k t (b ∙ same)) in omega arith
        by (inr ne) = let q = so_far.passed j u k (omega (arith, ne)) a b in omega arith

    leasts : (n : ℕ) → n ≤ low → n ≤ l → (k : ℕ) → LeadsToPlace T (members ++ added) old k → n ≤ k
    leasts n le le' k h = either (in_split members added h.member h.among)
        (λ q. let r = so_far.least k (record { member = h.member; target = h.target; among = q; leads = h.leads; at = h.at }) in omega arith)
        (λ q. let r = v.least k (record { member = h.member; target = h.target; among = q; leads = h.leads; at = get_left old (x ∷ members) k h.target h.at }) in omega arith)

    -- the answer is no lower
    pub keeps_low : low ≤ l → Lowest T old (members ++ added) x (i + 1) low
    keeps_low le = record { hit = λ lt. more_leads (x ∷ members) (x ∷ (members ++ added)) old low (λ y h. in_left (x ∷ members) added y h) (so_far.hit lt); passed = passes low (omega arith) le; least = leasts low (omega arith) le }

    -- the answer is lower
    pub gets_low : l < low → Lowest T old (members ++ added) x (i + 1) l
    gets_low lt = record { hit = hits; passed = passes l (omega arith) (omega arith); least = leasts l (omega arith) (omega arith) }
      where
        hits : l < length old → LeadsToPlace T (x ∷ (members ++ added)) old l
        hits near =
            let le = long_left old (x ∷ members) in
            either (v.hit (omega arith))
            (λ e. record { member = x; target = t; among = in_first x (members ++ added); leads = has_at (T x) i t at; at = get_back old (x ∷ members) l t near e })
            (λ q. record { member = q.member; target = q.target; among = in_right (x ∷ members) added q.member q.among; leads = q.leads; at = get_back old (x ∷ members) l q.target near q.at })

  module _ (old members : List ℕ) (x i low : ℕ) (s : Lowest T old members x i low) (out : Out old x) where
    closes_is : closes nat_eq T (old ++ x ∷ members) x ≡ not (leads_into nat_eq T (x ∷ members) old)
    closes_is = λ i. not (leads_into nat_eq T (from_is old members x out i) (below_is old members x out i))

    pub stays : low < length old → closes nat_eq T (old ++ x ∷ members) x ≡ false
    stays lt =
        let h = s.hit lt in
        closes_is ∙ ap not (any_has (λ m. list_any (λ t. is_in nat_eq old t) (T m)) (x ∷ members) h.member h.among (any_has (λ t. is_in nat_eq old t) (T h.member) h.target h.leads (has_at old low h.target h.at)))
      where
        any_has : (p : ℕ → Bool) (xs : List ℕ) (y : ℕ) → In xs y → p y ≡ true → list_any p xs ≡ true
        any_has p xs y h e = either (cases (list_any p xs)) (λ a. a) (λ n. either (cases (p y)) (λ a. let f = names.none_found nat_eq own eqb-true p xs n y h in absurd cc) (λ a. absurd cc))

    module _ (over : length (T x) ≤ i) where
      none_lower : (k : ℕ) → LeadsToPlace T (x ∷ members) old k → low ≤ k
      none_lower k h = either (in_cons x members h.member h.among)
          (λ e. by (place_of (T x) h.target (subst (λ z. In (T z) h.target) e h.leads)))
          (λ q. s.least k (record { member = h.member; target = h.target; among = q; leads = h.leads; at = h.at }))
        where
          by : Place (T x) h.target → low ≤ k
          by p = let lt = slice_get_within (T x) p.place h.target p.is in s.passed p.place h.target k (omega arith) p.is h.at

      pub closed : length old ≤ low → closes nat_eq T (old ++ x ∷ members) x ≡ true
      closed le = closes_is ∙ ap not (not_true (leads_into nat_eq T (x ∷ members) old) (λ h. clashes h))
        where
          clashes : leads_into nat_eq T (x ∷ members) old ≡ true → ⊥
          clashes h =
              let m = names.any_found nat_eq own eqb-true (λ m. list_any (λ t. is_in nat_eq old t) (T m)) (x ∷ members) h in
              let t = names.any_found nat_eq own eqb-true (λ t. is_in nat_eq old t) (T m.0) m.2 in
              let p = place_of old t.0 t.2 in
              let lt = slice_get_within old p.place t.0 p.is in
              let q = none_lower p.place (record { member = m.0; target = t.0; among = m.1; leads = t.1; at = p.is }) in
              omega arith

      pub low_inner : Low T old (x ∷ members) x low
      low_inner = record {
        hit = λ lt. inr (s.hit lt);
        itself = λ k e. clash old x (has_at old k x e) out;
        least = none_lower;
      }

      pub low_root : length old ≤ low → Low T old [] x low
      low_root le = record {
        hit = λ lt. absurd (omega arith);
        itself = λ k e. clash old x (has_at old k x e) out;
        least = λ k h. none_leads old k h;
      }

  -- the visit of one that was entered: its place where it is open, else one past all
  pub low_open : (old : List ℕ) (x k : ℕ) → slice_get old k ≡ Some x → ((j : ℕ) → slice_get old j ≡ Some x → k ≤ j) → Low T old [] x k
  low_open old x k e first = record { hit = λ lt. inl e; itself = first; least = λ j h. none_leads old j h }

  pub low_closed : (old : List ℕ) (x low : ℕ) → length old ≤ low → Out old x → Low T old [] x low
  low_closed old x low le out = record { hit = λ lt. absurd (omega arith); itself = λ k e. clash old x (has_at old k x e) out; least = λ j h. none_leads old j h }
