-- Bodies at their awaits, and where each of them stands.
use Rattle.std.proofs.Common.{◌≡◌, ℕ, zero, suc, nat_eq, ◌+◌, ◌<◌, ◌≤◌, Bool, true, false, List, [], ◌∷◌, ◌++◌, length, map, get_or, Option, Some, None, refl, ap, subst, sym, ◌∙◌, arith}
use Rattle.std.proofs.lemmas.Bool.{eqb-true, eq-eqb}
use Rattle.std.proofs.lemmas.Bool.Decides.{nat_tests}
use Rattle.std.specs.Prelude.{Result, Ok, Err, OnOk}
use Rattle.std.specs.List.{remove}
use Rattle.esm_base.specs.declared.memory.Memory.{Memory}
use Rattle.esm_values.specs.Code.{CodeValue}
use Rattle.esm_promise.specs.Code.{Numbered}
use Rattle.esm_promise.specs.Promises.{register, make_fulfilled, next_promise}
use Rattle.esm_promise.specs.Reactions.{Await}
use Rattle.esm_rewriting.specs.Bodies.{Taken, await_on, behind, take_by, take_standing}
use Rattle.esm_body.specs.View.{standing_of}
use Rattle.esm_body.specs.Inner.Noting.{StandsNow, StandsAt}
use Rattle.esm_body.specs.declared.engine.Engine.{Engine}
use Rattle.esm_body.specs.declared.work.Standing.{Standing}

-- a promise is made for a value that is none
pub waits_made : (ps mid late : Numbered) (v : CodeValue) (p m : ℕ) (r : Result (Unit {0}) Memory) → await_on ps v m ≡ register (make_fulfilled ps v) (next_promise ps) (Await m) → p ≡ next_promise ps → mid ≡ make_fulfilled ps v
    → OnOk r (late ≡ register mid p (Await m)) → OnOk r (late ≡ await_on ps v m)
waits_made ps mid late v p m (Ok u) w n e h = h ∙ (λ j. register (e j) (n j) (Await m)) ∙ sym w
waits_made ps mid late v p m (Err end) w n e h = tt

pub stands_now : (old : Engine) (new : Engine) (ps late : Numbered) (s : Standing) (v : CodeValue) (m : ℕ) (r : Result (Unit {0}) Memory) → new ≡ record old { standing = new.standing } → new.standing.items ≡ old.standing.items ++ s ∷ []
    → OnOk r (late ≡ await_on ps v m) → OnOk r (StandsNow old ps s v m new late)
stands_now old new ps late s v m (Ok u) rest items h = record { rest = rest; items = items; waits = h }
stands_now old new ps late s v m (Err end) rest items h = tt

-- the bodies before this place aren't this module's
abbrev pub AreOthers : List Standing → ℕ → ℕ → Type 0
AreOthers ss m at = (k : ℕ) (d : Standing) → k < at → nat_eq (get_or ss k d).body.at.0 m ≡ false

pub none_yet : (ss : List Standing) (m : ℕ) → AreOthers ss m 0
none_yet ss m k d l = absurd (omega (arith, l))

same_get : (ss : List Standing) (at : ℕ) (c d : Standing) → at < length ss → get_or ss at c ≡ get_or ss at d
same_get [] at c d l = absurd (omega (arith, l))
same_get (s ∷ ss) zero c d l = refl
same_get (s ∷ ss) (suc at) c d l = same_get ss at c d (omega (arith, l))

abbrev home_of : Standing → ℕ
home_of s = s.body.at.0

is_not : (x y : ℕ) → (x ≡ y → ⊥) → nat_eq x y ≡ false
is_not x y n = grind arith

-- s stands at this place, and is another's
pub others_more : (ss : List Standing) (m at : ℕ) (s : Standing) → s ≡ get_or ss at s → at < length ss → (s.body.at.0 ≡ m → ⊥) → AreOthers ss m at → AreOthers ss m (at + 1)
others_more ss m at s is l n h k d q = by (nat_eq k at) refl
  where
    by : (b : Bool) → nat_eq k at ≡ b → nat_eq (get_or ss k d).body.at.0 m ≡ false
    by true e =
        let same : at ≡ k = sym (eqb-true k at e) in
        subst (λ j. nat_eq (get_or ss j d).body.at.0 m ≡ false) same
        (subst (λ (t : Standing). nat_eq t.body.at.0 m ≡ false) (is ∙ same_get ss at s d l) (is_not (home_of s) m n))
    by false e = h k d (let f = e in let before : k < at = grind (arith, nat_tests) in before)

abbrev pub The : List Standing → ℕ → Standing → Taken ℕ
The ss at d = record { standing = standing_of (get_or ss at d); others = map standing_of (remove ss at) }

abbrev by_first : Standing → List Standing → ℕ → Bool → Option (Taken ℕ)
by_first s ss m b = take_by nat_eq b (standing_of s) (map standing_of ss) (take_standing nat_eq (map standing_of ss) m)

found : (ss : List Standing) (m at : ℕ) (d : Standing) → at < length ss → AreOthers ss m at → nat_eq (get_or ss at d).body.at.0 m ≡ true → take_standing nat_eq (map standing_of ss) m ≡ Some (The ss at d)
found [] m at d l h e = absurd (omega (arith, l))
found (s ∷ ss) m zero d l h e = ap (by_first s ss m) e
found (s ∷ ss) m (suc at) d l h e =
    ap (by_first s ss m) (h 0 d (omega arith)) ∙ ap (behind nat_eq (standing_of s)) (found ss m at d (omega (arith, l)) (λ k c q. h (suc k) c (omega (arith, q))) e)

pub stands_here : (ss : List Standing) (m at : ℕ) (s : Standing) → s ≡ get_or ss at s → at < length ss → s.body.at.0 ≡ m → AreOthers ss m at → StandsAt ss m (Some at)
stands_here ss m at s is l e h =
    (l, (λ d. ap home_of (sym (is ∙ same_get ss at s d l)) ∙ e), λ d. found ss m at d l h (subst (λ (t : Standing). nat_eq t.body.at.0 m ≡ true) (is ∙ same_get ss at s d l) (eq-eqb (home_of s) m e)))

stands_not : (ss : List Standing) (m : ℕ) → AreOthers ss m (length ss) → take_standing nat_eq (map standing_of ss) m ≡ None
stands_not [] m h = refl
stands_not (s ∷ ss) m h = ap (by_first s ss m) (h 0 s (omega arith)) ∙ ap (behind nat_eq (standing_of s)) (stands_not ss m (λ k c q. h (suc k) c (omega (arith, q))))

pub stands_nowhere : (ss : List Standing) (m at : ℕ) → length ss ≤ at → AreOthers ss m at → StandsAt ss m None
stands_nowhere ss m at l h = stands_not ss m (λ k d q. h k d (omega (arith, l, q)))
