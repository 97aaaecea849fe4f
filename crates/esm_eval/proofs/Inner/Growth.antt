-- Growing a table: nodes, modules, waits and stamps.
use Rattle.std.proofs.Common.{◌≡◌, ℕ, zero, suc, ◌+◌, ◌<◌, ◌≤◌, nat_eq, true, false, List, [], ◌∷◌, ◌++◌, length, map, length-set, length-append, refl, ap, sym, subst, ◌∙◌, Option, Some, None, slice_get, slice_set, arith, inl, inr, eqb-true}
use Rattle.std.specs.Prelude.{◌⊎◌, ◌||◌, Bool}
use Rattle.std.proofs.lemmas.List.{map-append}
use Rattle.std.proofs.lemmas.Option.{slice_get_within}
use Rattle.esm_base.specs.Lists.{is_in}
use Rattle.esm_realm.proofs.Numbers.{in_append, get_back, get_left, get_snoc}
use Rattle.esm_realm.proofs.Urls.{not_true}
use Rattle.esm_realm.proofs.Lists.{either}
use Rattle.esm_values.specs.Code.{CodeValue}
use Rattle.esm_eval.specs.Nodes as nodes
use Rattle.esm_eval.specs.declared.nodes.Node.{Node}
use Rattle.esm_eval.specs.Table.{AreKept, HasPassed, IsBounded, is_done_in, IsOrderOf, node_of, put_at, table_of, with_one, with_stamp}
use Rattle.esm_eval.proofs.Inner.Tables.{IsLater, later_passed, passed_on, put_there, unstamped_past}

last_or : (ns : List Node) (n : Node) (x : ℕ) (m : Node) → slice_get (ns ++ n ∷ []) x ≡ Some m → (slice_get ns x ≡ Some m) ⊎ ((x ≡ length ns) × (m ≡ n))
last_or [] n zero m e = inr (refl, cc)
last_or [] n (suc x) m e = cc
last_or (k ∷ ns) n zero m e = inl e
last_or (k ∷ ns) n (suc x) m e = either (last_or ns n x m e) (λ h. inl h) (λ h. inr (ap suc h.0, h.1))

wider : (a b : ℕ) (n : Node) → a ≤ b → IsBounded a n → IsBounded b n
wider a b n le h = record {
  root = λ r e. let lt = h.root r e in omega (arith, lt, le);
  waits = λ k y e. let lt = h.waits k y e in omega (arith, lt, le);
  waiters = λ k y e. let lt = h.waiters k y e in omega (arith, lt, le);
}

pub adds : (ns : List Node) (stamps : List ℕ) (n : Node) → node_of n ≡ nodes.untouched → table_of (ns ++ n ∷ []) stamps ≡ with_one (table_of ns stamps)
adds ns stamps n e = ap (λ l. record { nodes = l; stamps = stamps }) (map-append node_of ns (n ∷ []) ∙ ap (λ k. map node_of ns ++ k ∷ []) e)

done_more : (ns : List Node) (n : Node) (y : ℕ) → is_done_in ns y ≡ true → is_done_in (ns ++ n ∷ []) y ≡ true
done_more [] n y h = let e : false ≡ true = none y ∙ h in absurd cc
  where
    none : (y : ℕ) → false ≡ is_done_in [] y
    none zero = refl
    none (suc y) = refl
done_more (m ∷ ns) n zero h = h
done_more (m ∷ ns) n (suc y) h = done_more ns n y h

nothing_passed : (ns : List Node) (n : Node) → n.passed ≡ 0 → HasPassed ns n
nothing_passed ns n z = record { within = omega (arith, z); passed = λ k y lt at. absurd (omega (arith, lt, z)) }

pub keeps_add : (ns : List Node) (stamps : List ℕ) (n : Node) → AreKept ns stamps → IsBounded (length ns) n → n.order ≡ None
    → n.passed ≡ 0 → AreKept (ns ++ n ∷ []) stamps
keeps_add ns stamps n k b s z = record {
  bounded = λ x o e. wider (length ns) (length (ns ++ n ∷ [])) o longer (either (last_or ns n x o e) (λ h. k.bounded x o h) (λ h. subst (IsBounded (length ns)) (sym h.1) b));
  ordered = λ x o e. either (last_or ns n x o e) (λ h. k.ordered x o h)
      (λ h. subst (λ q. IsOrderOf stamps x q) (sym (ap (λ z. z.order) h.1 ∙ s)) (unstamped_past ns stamps x k (let p = h.0 in omega (arith, p))));
  below = λ i x e. let lt = k.below i x e in let le = longer in omega (arith, lt, le);
  gone = λ x o e. more o (either (last_or ns n x o e) (λ h. k.gone x o h) (λ h. subst (HasPassed ns) (sym h.1) (nothing_passed ns n z)));
}
  where
    longer : length ns ≤ length (ns ++ n ∷ [])
    longer = let c : length (ns ++ n ∷ []) ≡ length ns + 1 = length-append ns (n ∷ []) in omega (arith, c)

    more : (o : Node) → HasPassed ns o → HasPassed (ns ++ n ∷ []) o
    more o p = record { within = p.within; passed = λ i y lt at. done_more ns n y (p.passed i y lt at) }

put_same : (ns : List Node) (x : ℕ) (old : Node) → slice_get ns x ≡ Some old → put_at (map node_of ns) x (node_of old) ≡ map node_of ns
put_same [] x old e = cc
put_same (n ∷ ns) zero old e = let same : n ≡ old = cc in ap (λ k. node_of k ∷ map node_of ns) (sym same)
put_same (n ∷ ns) (suc x) old e = ap (λ ms. node_of n ∷ ms) (put_same ns x old e)

pub stamps_one : (ns : List Node) (stamps : List ℕ) (x : ℕ) (old new : Node) → slice_get ns x ≡ Some old → node_of new ≡ node_of old
    → table_of (slice_set ns x new) (stamps ++ x ∷ []) ≡ with_stamp (table_of ns stamps) x
stamps_one ns stamps x old new e h =
    ap (λ all. record { nodes = all; stamps = stamps ++ x ∷ [] }) (put_there ns x old new e ∙ ap (put_at (map node_of ns) x) h ∙ put_same ns x old e)

apart : (P : ℕ → Node → Type 0) (ns : List Node) (x : ℕ) (new : Node) (y : ℕ) (n : Node) → slice_get (slice_set ns x new) y ≡ Some n
    → P x new → ((z : ℕ) (m : Node) → (z ≡ x → ⊥) → slice_get ns z ≡ Some m → P z m) → P y n
apart P [] x new y n e here there = cc
apart P (m ∷ ns) zero new zero n e here there = let same : new ≡ n = cc in subst (λ k. P zero k) same here
apart P (m ∷ ns) zero new (suc y) n e here there = there (suc y) n (λ h. cc) e
apart P (m ∷ ns) (suc x) new zero n e here there = there zero n (λ h. cc) e
apart P (m ∷ ns) (suc x) new (suc y) n e here there = apart (λ z k. P (suc z) k) ns x new y n e here (λ z k ne h. there (suc z) k (λ q. let p : z ≡ x = cc in ne p) h)

last_at : (stamps : List ℕ) (x : ℕ) → slice_get (stamps ++ x ∷ []) (length stamps) ≡ Some x
last_at [] x = refl
last_at (y ∷ ys) x = last_at ys x

in_others : (stamps : List ℕ) (x y : ℕ) → (y ≡ x → ⊥) → is_in nat_eq (stamps ++ x ∷ []) y ≡ is_in nat_eq stamps y
in_others stamps x y ne = in_append stamps (x ∷ []) y ∙ by (is_in nat_eq stamps y)
  where
    no_more : nat_eq y x ≡ false
    no_more = not_true (nat_eq y x) (λ h. ne (eqb-true y x h))

    by : (b : Bool) → (b || is_in nat_eq (x ∷ []) y) ≡ b
    by true = refl
    by false = subst (λ b. (b || false) ≡ false) (sym no_more) refl

order_more : (stamps : List ℕ) (x z : ℕ) → (z ≡ x → ⊥) → (o : Option ℕ) → IsOrderOf stamps z o → IsOrderOf (stamps ++ x ∷ []) z o
order_more stamps x z ne None h = in_others stamps x z ne ∙ h
order_more stamps x z ne (Some k) h = get_left stamps (x ∷ []) k z h

pub keeps_stamp : (ns : List Node) (stamps : List ℕ) (x : ℕ) (old new : Node) → AreKept ns stamps → slice_get ns x ≡ Some old
    → IsBounded (length ns) new → new.order ≡ Some (length stamps) → IsLater old new → AreKept (slice_set ns x new) (stamps ++ x ∷ [])
keeps_stamp ns stamps x old new k e b s l = record {
  bounded = λ y n h. subst (λ len. IsBounded len n) (sym (length-set ns x new)) (apart (λ z m. IsBounded (length ns) m) ns x new y n h b (λ z m ne. k.bounded z m));
  ordered = λ y n h. apart (λ z m. IsOrderOf (stamps ++ x ∷ []) z m.order) ns x new y n h
      (subst (λ o. IsOrderOf (stamps ++ x ∷ []) x o) (sym s) (last_at stamps x))
      (λ z m ne at. order_more stamps x z ne m.order (k.ordered z m at));
  below = λ i y h. subst (λ len. y < len) (sym (length-set ns x new)) (either (get_snoc stamps x i y h) (λ at. k.below i y at) (λ at. subst (λ z. z < length ns) (sym at.1) (slice_get_within ns x old e)));
  gone = λ y n h. passed_on ns x old new e l.stays n (apart (λ z m. HasPassed ns m) ns x new y n h (later_passed ns old new l (k.gone x old e)) (λ z m ne. k.gone z m));
}

-- a wait more leaves what was passed
pub more_passed : (ns : List Node) (old new : Node) (y : ℕ) → new.passed ≡ old.passed → new.waits.items ≡ old.waits.items ++ y ∷ [] → HasPassed ns old → HasPassed ns new
more_passed ns old new y g w p =
    let c : length (old.waits.items ++ y ∷ []) ≡ length old.waits.items + 1 = length-append old.waits.items (y ∷ []) in
    record {
      within = let h = p.within in let l = ap length w in omega (arith, g, h, l, c);
      passed = λ k z lt at.
          let short : k < old.passed = omega (arith, lt, g) in
          p.passed k z short (get_back old.waits.items (y ∷ []) k z (let h = p.within in omega (arith, short, h)) (subst (λ ws. slice_get ws k ≡ Some z) w at));
    }

pub one_more : (len : ℕ) (xs : List ℕ) (y : ℕ) → ((k z : ℕ) → slice_get xs k ≡ Some z → z < len) → y < len → (ys : List ℕ) → ys ≡ xs ++ y ∷ []
    → (k z : ℕ) → slice_get ys k ≡ Some z → z < len
one_more len xs y old lt ys e k z h =
    either (get_snoc xs y k z (subst (λ l. slice_get l k ≡ Some z) e h)) (λ at. old k z at) (λ at. subst (λ w. w < len) (sym at.1) lt)

none_in : (xs : List ℕ) → xs ≡ [] → (k y : ℕ) → slice_get xs k ≡ Some y → ⊥
none_in [] e k y h = cc
none_in (x ∷ xs) e k y h = cc

pub fresh : (len : ℕ) (n : Node) → n.cycle_root ≡ None → n.waits.items ≡ [] → n.waiters.items ≡ [] → IsBounded len n
fresh len n r w v = record {
  root = λ k e. absurd (let none : None ≡ Some k = sym r ∙ e in cc);
  waits = λ k y e. absurd (none_in n.waits.items w k y e);
  waiters = λ k y e. absurd (none_in n.waiters.items v k y e);
}

abbrev pub with_lists : List ℕ → List ℕ → nodes.Node ℕ CodeValue
with_lists ws vs = record { phase = nodes.NotEntered; error = None; cycle_root = None; promise = None; done = false; waits = ws; waiters = vs }

pub untouched_by : (ws vs : List ℕ) → ws ≡ [] → vs ≡ [] → with_lists ws vs ≡ nodes.untouched
untouched_by ws vs e f = ap (λ l. with_lists l vs) e ∙ ap (λ l. with_lists [] l) f

pub same_lists : (len : ℕ) (xs ys : List ℕ) → ((k z : ℕ) → slice_get xs k ≡ Some z → z < len) → ys ≡ xs → (k z : ℕ) → slice_get ys k ≡ Some z → z < len
same_lists len xs ys old e k z h = old k z (subst (λ l. slice_get l k ≡ Some z) e h)
