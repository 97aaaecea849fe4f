-- Going past waits that are done.
use Rattle.std.proofs.Common.{◌≡◌, ℕ, zero, suc, ◌+◌, ◌≤◌, Bool, true, false, List, [], ◌∷◌, length, map, Some, refl, ap, subst, sym, ◌∙◌, slice_get, slice_set, arith}
use Rattle.std.specs.Prelude.{nat_lt}
use Rattle.std.proofs.lemmas.Bool.Decides.{nat_tests}
use Rattle.esm_eval.specs.declared.nodes.Node.{Node}
use Rattle.esm_eval.specs.Table.{AreKept, ArePassed, HasPassed, PassesTo, is_done_in, node_of}
use Rattle.esm_eval.proofs.Inner.Tables as tables

some_same : {A : Type 0} {x y : A} → Some x ≡ Some y → x ≡ y
some_same e = cc

-- one wait more is done
pub passed_next : (ns : List Node) (waits : List ℕ) (from place y : ℕ) (done : Bool) → slice_get waits place ≡ Some y → done ≡ is_done_in ns y → done ≡ true
    → (ArePassed ns waits from → ArePassed ns waits place) → ArePassed ns waits from → ArePassed ns waits (place + 1)
passed_next ns waits from place y done at d t i f k z lt here = by (nat_lt k place) refl
  where
    by : (b : Bool) → nat_lt k place ≡ b → is_done_in ns z ≡ true
    by true e = i f k z (grind (arith, nat_tests, e)) here
    by false e =
        let same : k ≡ place = grind (arith, nat_tests, e, lt) in
        let read : y ≡ z = some_same (sym at ∙ subst (λ n. slice_get waits n ≡ Some z) same here) in
        subst (λ m. is_done_in ns m ≡ true) read (sym d ∙ t)

-- all are
pub passed_all : (ns : List Node) (waits : List ℕ) (from place : ℕ) → length waits ≤ place → (ArePassed ns waits from → ArePassed ns waits place) → ArePassed ns waits from → ArePassed ns waits (length waits)
passed_all ns waits from place le i f k z lt here = i f k z (omega (arith, le, lt)) here

-- the node has passed more
pub passes : (ns : List Node) (y : ℕ) (n : Node) (place : ℕ) → slice_get ns y ≡ Some n → map node_of (slice_set ns y (record n { passed = place })) ≡ map node_of ns
passes [] y n place e = refl
passes (m ∷ ns) zero n place e = let same : n ≡ m = sym (some_same e) in ap (λ k. node_of k ∷ map node_of ns) same
passes (m ∷ ns) (suc y) n place e = ap (λ l. node_of m ∷ l) (passes ns y n place e)

pub passes_kept : (ns : List Node) (stamps : List ℕ) (y : ℕ) (n : Node) (place : ℕ) → slice_get ns y ≡ Some n → PassesTo ns y place
    → AreKept ns stamps → AreKept (slice_set ns y (record n { passed = place })) stamps
passes_kept ns stamps y n place e p k =
    let b = k.bounded y n e in
    let g = p n e (k.gone y n e) in
    tables.keeps_by ns stamps y n (record n { passed = place }) k e (record { root = b.root; waits = b.waits; waiters = b.waiters }) refl (λ h. h) (record { within = g.0; passed = g.1 })

-- a place to which these waits lead, which are those of y
pub passes_to : (ns : List Node) (y : ℕ) (n : Node) (ws : List ℕ) (place : ℕ) → slice_get ns y ≡ Some n → ws ≡ n.waits.items → (n.passed ≤ length ws → place ≤ length ws)
    → (ArePassed ns ws n.passed → ArePassed ns ws place) → PassesTo ns y place
passes_to ns y n ws place e is within passed m at h =
    let same : n ≡ m = some_same (sym e ∙ at) in
    let short : (u : Node) → n ≡ u → HasPassed ns u → (place ≤ length u.waits.items) × ArePassed ns u.waits.items place = λ u q g.
    subst (λ v. HasPassed ns v → (place ≤ length v.waits.items) × ArePassed ns v.waits.items place) q
    (λ k. (subst (λ l. place ≤ length l) is (within (subst (λ l. n.passed ≤ length l) (sym is) k.within)), subst (λ l. ArePassed ns l place) is (passed (subst (λ l. ArePassed ns l n.passed) (sym is) k.passed)))) g in
    short m same h
