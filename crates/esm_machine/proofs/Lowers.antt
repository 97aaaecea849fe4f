-- Behind each job fewer steps may still be taken; or as many, and fewer reactions and bodies at an await are left.
use Rattle.std.proofs.Common.{◌≡◌, ℕ, suc, ◌<◌, ◌≤◌, Bool, true, false, [], nat_eq, eqb-true, eq-eqb, arith, refl, ap, subst, sym, ◌∙◌}
use Rattle.std.specs.Prelude.{Ok, cond, nat_lt}
use Rattle.std.proofs.lemmas.Bool.Decides.{nat_tests}
use Rattle.esm_base.specs.declared.limits.TheConstants.{MAX_STEPS}
use Rattle.esm_world.specs.Measure.{JobsLower, left}
use Rattle.esm_world.specs.World.{World}
use Rattle.esm_machine.specs.Held.{world_of}
use Rattle.esm_machine.specs.Inner.Leads.{LeadsByJob}
use Rattle.esm_machine.specs.Inner.Parts.{AreLive, AreSound}
use Rattle.esm_machine.specs.Machine.{held_of}
use Rattle.esm_machine.specs.declared.parts.Parts.{Parts}

abbrev pub steps_in : Parts → ℕ
steps_in p = (held_of p).engine.steps

-- the reactions that are still to run, and what remains of the bodies at an await
abbrev pub left_in : Parts → ℕ
left_in p = left (world_of (held_of p) [])

pub steps_are : (p : Parts) (w : World) → AreLive p w → w.engine.steps ≡ steps_in p
steps_are p w live = ap (λ (v : World). v.engine.steps) live.stands.world

left_is : (p : Parts) (w : World) → AreLive p w → left w ≡ left_in p
left_is p w live = ap (λ (v : World). left v) live.stands.world

-- no more steps were taken than may be
pub steps_few : (p : Parts) → AreSound p → steps_in p ≤ MAX_STEPS
steps_few p s = subst (λ n. n ≤ MAX_STEPS) (steps_are p s.world s.live) s.sound.ready.steps

pub record HasFallen (old new : Parts) : Type 0 where
  pub steps : steps_in old ≤ steps_in new
  pub fewer : steps_in new ≡ steps_in old → left_in new < left_in old

pub job_falls : JobsLower → (old new : Parts) (s : AreSound old) (answered : Bool) → answered ≡ true → LeadsByJob s.world (Ok answered) new
    → HasFallen old new
job_falls low old new s true e t =
    let a = steps_are old s.world s.live in
    let b = steps_are new t.0 t.2 in
    let c = left_is old s.world s.live in
    let d = left_is new t.0 t.2 in
    let more = low.steps s.world t.0 t.1.how t.1.taken t.2.live in
    record {
      steps = omega (arith, a, b, more);
      fewer = λ e. let less = low.less s.world t.0 t.1.how t.1.taken t.2.live (b ∙ e ∙ sym a) in omega (arith, c, d, less);
    }
job_falls low old new s false e t = absurd cc

-- ---- the measure of a loop that ends behind a step

-- of jobs before a step
abbrev pub left_before : ℕ → Parts → ℕ
left_before before p = cond (nat_eq (steps_in p) before) (suc (left_in p)) 0

pub falls_before : (before : ℕ) (old new : Parts) → HasFallen old new → steps_in old ≡ before → left_before before new < left_before before old
falls_before before old new f at = by (nat_eq (steps_in new) before) refl
  where
    whole : left_before before old ≡ suc (left_in old)
    whole = ap (λ b. cond b (suc (left_in old)) 0) (eq-eqb (steps_in old) before at)

    by : (b : Bool) → nat_eq (steps_in new) before ≡ b → cond b (suc (left_in new)) 0 < left_before before old
    by true g =
        let h = f.fewer (eqb-true (steps_in new) before g ∙ sym at) in
        omega (arith, h, whole)
    by false g = omega (arith, whole)

-- a step was taken
pub rises_behind : (n m : ℕ) → n ≤ m → (m ≡ n → ⊥) → n < m
rises_behind n m l other = by (nat_lt n m) refl
  where
    by : (b : Bool) → nat_lt n m ≡ b → n < m
    by true e = grind (arith, nat_tests, e)
    by false e = absurd (other (grind (arith, nat_tests, e, l)))
