-- Where none of the first numbers is free, the least that is stands behind them.
use mathlib.Core.Bool.{true≢false}
use Rattle.std.proofs.Common.{◌≡◌, ◌∙◌, ◌<◌, ◌≤◌, ◌+◌, ◌-◌, ap, sym, subst, refl, ℕ, zero, suc, List, [], ◌∷◌, ◌++◌, length, arith, Bool, true, false, not, cond, drop, take, length-drop}
use Rattle.std.specs.Prelude.{Some, None, nat_lt, position, ◌||◌, ◌&&◌}
use Rattle.std.specs.List.{list_any, position_or_len}
use Rattle.std.proofs.lemmas.Grind.{common_steps}
use Rattle.std.proofs.lemmas.Bool.Decides.{nat_tests}
use Rattle.std.proofs.lemmas.List.{take-append-le, take_all}
use Rattle.esm_module_map.specs.declared.number.Number.{Number}
use Rattle.esm_module_map.specs.declared.event.Why.{Why}
use Rattle.esm_module_map.specs.declared.event.Why.TheVariants.{Wanted, Ahead}
use Rattle.esm_module_map.specs.Replay.{change_at, asked_again, taken_by, posted_at, is_free, is_wanted_and_free}
use Rattle.esm_module_map.specs.Inner.Firsts.{has_free}
use Rattle.esm_module_map.proofs.Replays.{lt_true}

both_false : (a b : Bool) → (a || b) ≡ false → (a ≡ false) × (b ≡ false)
both_false true b e = absurd (true≢false e)
both_false false b e = (refl, e)

either_false : (a b : Bool) → a ≡ false → b ≡ false → (a || b) ≡ false
either_false a b first second = ap (λ x. x || b) first ∙ second

lt_false : (a b : ℕ) → b ≤ a → nat_lt a b ≡ false
lt_false a b h = grind (arith, nat_tests)

-- ---- looking from a place on

-- the part from a place on, as a range that is open at its end gives it
pub rest_is : {X : Type 0} (n : ℕ) (xs : List X) → take (length xs - n) (drop n xs) ≡ drop n xs
rest_is n xs = let e = length-drop n xs in take_all (length xs - n) (drop n xs) (omega (arith, e))

module _ {X : Type 0} (p : X → Bool) where
  behind : (xs : List X) (n : ℕ) → list_any p (take n xs) ≡ false → n ≤ length xs → position_or_len p xs ≡ n + position_or_len p (drop n xs)
  behind xs zero none within = omega arith
  behind [] (suc n) none within = absurd (omega arith)
  behind (x ∷ xs) (suc n) none within =
      let parts = both_false (p x) (list_any p (take n xs)) none in
      let rest = behind xs n parts.1 (omega arith) in
      let first : cond (not (p x)) (1 + position_or_len p xs) 0 ≡ 1 + position_or_len p xs = ap (λ b. cond (not b) (1 + position_or_len p xs) 0) parts.0 in
      let last : 1 + position_or_len p xs ≡ suc n + position_or_len p (drop n xs) = omega (arith, rest) in
      first ∙ last

  at_place : (xs : List X) (k : ℕ) → position p xs ≡ Some k → (position_or_len p xs ≡ k) × (k < length xs)
  at_place xs k is =
      let at : position_or_len p xs ≡ k = grind (arith, common_steps) in
      let inside : k < length xs = grind (arith, common_steps) in
      (at, inside)

  at_none : (xs : List X) → position p xs ≡ None → length xs ≤ position_or_len p xs
  at_none xs is = grind (arith, common_steps)

  pub found : (xs : List X) (n k : ℕ) → list_any p (take n xs) ≡ false → n ≤ length xs → position p (drop n xs) ≡ Some k → Some (n + k) ≡ position p xs
  found xs n k none within is =
      let there = at_place (drop n xs) k is in
      let whole = behind xs n none within in
      let at = there.0 in let inside = there.1 in
      let len : length (drop n xs) + n ≡ length xs = omega (arith, length-drop n xs) in
      let e : position_or_len p xs ≡ n + k = omega (arith, whole, at) in
      let l : n + k < length xs = omega (arith, inside, len) in
      sym (subst (λ m. cond (nat_lt m (length xs)) (Some m) None ≡ Some (n + k)) (sym e) (ap (λ b. cond b (Some (n + k)) None) (lt_true (n + k) (length xs) l)))

  pub missing : (xs : List X) (n : ℕ) → list_any p (take n xs) ≡ false → n ≤ length xs → position p (drop n xs) ≡ None → None ≡ position p xs
  missing xs n none within is =
      let whole = behind xs n none within in
      let past = at_none (drop n xs) is in
      let len : length (drop n xs) + n ≡ length xs = omega (arith, length-drop n xs) in
      let l : length xs ≤ position_or_len p xs = omega (arith, whole, past, len) in
      sym (ap (λ b. cond b (Some (position_or_len p xs)) None) (lt_false (position_or_len p xs) (length xs) l))

-- what isn't free isn't wanted and free
unwanted : (a b : Bool) → b ≡ false → (a && b) ≡ false
unwanted true b e = e
unwanted false b e = refl

pub none_wanted : (xs : List Number) → list_any is_free xs ≡ false → list_any is_wanted_and_free xs ≡ false
none_wanted [] none = refl
none_wanted (x ∷ xs) none =
    let parts = both_false (is_free x) (list_any is_free xs) none in
    either_false (is_wanted_and_free x) (list_any is_wanted_and_free xs) (unwanted x.wanted (is_free x) parts.0) (none_wanted xs parts.1)

-- ---- what is taken stays so

kept : (f : Number → Number) → ((x : Number) → is_free x ≡ false → is_free (f x) ≡ false) → (xs : List Number) (k n : ℕ) → has_free k xs ≡ false → has_free k (change_at xs n f) ≡ false
kept f stays xs zero n none = refl
kept f stays [] (suc k) n none = refl
kept f stays (x ∷ xs) (suc k) zero none =
    let parts = both_false (is_free x) (has_free k xs) none in either_false (is_free (f x)) (has_free k xs) (stays x parts.0) parts.1
kept f stays (x ∷ xs) (suc k) (suc n) none =
    let parts = both_false (is_free x) (has_free k xs) none in either_false (is_free x) (has_free k (change_at xs n f)) parts.0 (kept f stays xs k n parts.1)

again_same : (why : Why) (x : Number) → is_free x ≡ false → is_free (asked_again why x) ≡ false
again_same Wanted x e = e
again_same (Ahead k) x e = e

pub asked_firsts : (why : Why) (xs : List Number) (k n : ℕ) → has_free k xs ≡ false → has_free k (change_at xs n (asked_again why)) ≡ false
asked_firsts why = kept (asked_again why) (again_same why)

pub taken_firsts : (c : ℕ) (xs : List Number) (k n : ℕ) → has_free k xs ≡ false → has_free k (change_at xs n (taken_by c)) ≡ false
taken_firsts c = kept (taken_by c) (λ x e. refl)

pub posted_firsts : (place : ℕ) (xs : List Number) (k n : ℕ) → has_free k xs ≡ false → has_free k (change_at xs n (posted_at place)) ≡ false
posted_firsts place = kept (posted_at place) (λ x e. e)

pub appended_firsts : (xs ys : List Number) (k : ℕ) → k ≤ length xs → has_free k xs ≡ false → has_free k (xs ++ ys) ≡ false
appended_firsts xs ys k within none = ap (list_any is_free) (take-append-le k xs ys within) ∙ none

-- with the next one taken
taken_next : (c : ℕ) (xs : List Number) (k : ℕ) → has_free k xs ≡ false → has_free (suc k) (change_at xs k (taken_by c)) ≡ false
taken_next c [] k none = refl
taken_next c (x ∷ xs) zero none = refl
taken_next c (x ∷ xs) (suc k) none =
    let parts = both_false (is_free x) (has_free k xs) none in either_false (is_free x) (has_free (suc k) (change_at xs k (taken_by c))) parts.0 (taken_next c xs k parts.1)

pub taken_past : (c : ℕ) (xs : List Number) (from place : ℕ) → place ≡ from → has_free from xs ≡ false → has_free (place + 1) (change_at xs place (taken_by c)) ≡ false
taken_past c xs from place same none =
    let one : suc place ≡ place + 1 = omega arith in
    subst (λ n. has_free n (change_at xs place (taken_by c)) ≡ false) one (taken_next c xs place (subst (λ n. has_free n xs ≡ false) (sym same) none))
