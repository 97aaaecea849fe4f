-- What is asked of a world has one outcome where each call has one.
use Rattle.std.proofs.Common.{◌≡◌, refl, ap, subst}
use Rattle.std.specs.Prelude.{Result}
use Rattle.esm_values.specs.Acts.{Act, AnswerTo}
use Rattle.esm_values.specs.Plans.{Acting, Rewritten, Plan, Follows}
use Rattle.esm_values.specs.Plans.Rewritten.{Stops}
use Rattle.esm_values.specs.Plans.Follows.{ends, asks, stops}

pub record ActsOne {W V S : Type 0} (acts : Acting W V S) : Type 0 where
  pub one : {w x y : W} {a : Act V} {r s : Result (AnswerTo a) S} → acts w a r x → acts w a s y → (s ≡ r) × (y ≡ x)

module _ {W V S A : Type 0} (acts : Acting W V S) (h : ActsOne acts) where
  pub follows_one : {w x y : W} {p : Plan V S A} {c d : Rewritten V S A} → Follows acts w p c x → Follows acts w p d y → (d ≡ c) × (y ≡ x)
  follows_one ends ends = (refl, refl)
  follows_one {y = y} {d = d} (asks {mid = mid} {next = next} r a f) (asks s b g) =
      let k = h.one a b in
      let same : s ≡ r = cc in
      let g' = subst (λ m. Follows acts m (next s) d y) k.1 g in
      follows_one f (subst (λ r. Follows acts mid (next r) d y) same g')
  follows_one (asks r a f) (stops b) = let k = h.one a b in absurd cc
  follows_one (stops a) (asks s b g) = let k = h.one a b in absurd cc
  follows_one (stops {why = why} a) (stops {why = why'} b) = let k = h.one a b in let same : why' ≡ why = cc in (ap Stops same, k.1)
