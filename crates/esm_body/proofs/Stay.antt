-- Bodies at their awaits stay of their modules.
use Rattle.std.proofs.Common.{◌≡◌, ℕ, zero, suc, ◌<◌, Bool, true, List, [], ◌∷◌, ◌++◌, length, map, get_or, subst, sym, ◌∙◌, arith}
use Rattle.std.specs.List.{remove}
use Rattle.std.specs.Arc.{arc_value}
use Rattle.esm_values.specs.declared.value.PromiseId.{PromiseId}
use Rattle.esm_values.specs.Errors.{Errors}
use Rattle.esm_promise.specs.Code.{Numbered}
use Rattle.esm_promise.specs.Outer.{Outer}
use Rattle.esm_env.specs.Faithful.{AreScopesOf}
use Rattle.esm_env.specs.Modules.{Modules}
use Rattle.esm_env.specs.Scopes.{Scopes}
use Rattle.esm_body.specs.Engines.{TakesBodies, AreStanding, IsStanding, KeepTrees, StillTakesBodies}
use Rattle.esm_rewriting.specs.Fits.{FitStanding, FitsState}
use Rattle.esm_rewriting.specs.State.{Importing}
use Rattle.esm_body.specs.View.{standing_of, state_of}
use Rattle.esm_body.specs.Inner.Going.{StandsBehind}
use Rattle.esm_body.specs.Inner.Running.{EndBelongs, IsEnded}
use Rattle.esm_body.specs.Code.{IsCode}
use Rattle.esm_body.specs.declared.engine.Engine.{Engine}
use Rattle.esm_body.specs.declared.segment.Ended.{Ended}
use Rattle.esm_body.specs.declared.segment.Ended.TheVariants as e
use Rattle.esm_body.specs.declared.work.Activation.{Activation}
use Rattle.esm_body.specs.declared.work.Standing.{Standing}
use Rattle.esm_rewriting.proofs.SomeAct.{held_standing}

module _ {S : Type 0} (modules : S → Modules ℕ) (i : S) where
  pub stand_more : (ss : List Standing) (s : Standing) → AreStanding modules i ss → IsStanding modules i s → AreStanding modules i (ss ++ s ∷ [])
  stand_more [] s h g = (g, tt)
  stand_more (t ∷ ss) s h g = (h.0, stand_more ss s h.1 g)

  -- behind the end of a segment
  pub stand_behind : (ss new : List Standing) (done : PromiseId) (end : Ended) (body : Activation) → StandsBehind ss done end body new → IsCode body → IsEnded (length (arc_value body.tree).stmts) end → EndBelongs modules i end body
      → AreStanding modules i ss → AreStanding modules i new
  stand_behind ss new done e.Normal body h code ended belongs a = subst (AreStanding modules i) (sym h) a
  stand_behind ss new done (e.Thrown v) body h code ended belongs a = subst (AreStanding modules i) (sym h) a
  stand_behind ss new done (e.Awaits v purpose) body h code ended belongs a =
      subst (AreStanding modules i) (sym h) (stand_more ss (record { done = done; body = body; purpose = purpose }) a (record { code = code; purpose = ended; belongs = belongs }))

  pub stand_at : (ss : List Standing) (at : ℕ) (d : Standing) → at < length ss → AreStanding modules i ss → IsStanding modules i (get_or ss at d)
  stand_at [] at d l h = absurd (omega (arith, l))
  stand_at (s ∷ ss) zero d l h = h.0
  stand_at (s ∷ ss) (suc at) d l h = stand_at ss at d (omega (arith, l)) h.1

  pub stand_others : (ss : List Standing) (at : ℕ) → AreStanding modules i ss → AreStanding modules i (remove ss at)
  stand_others [] zero h = tt
  stand_others [] (suc at) h = tt
  stand_others (s ∷ ss) zero h = h.1
  stand_others (s ∷ ss) (suc at) h = (h.0, stand_others ss at h.1)

-- what was linked keeps its tree
pub stand_on : {S : Type 0} (modules : S → Modules ℕ) (linked : S → ℕ → Bool) (i j : S) → ((m : ℕ) → linked i m ≡ true → (modules j).tree m ≡ (modules i).tree m) → (ss : List Standing) → FitStanding modules linked i (map standing_of ss)
    → AreStanding modules i ss → AreStanding modules j ss
stand_on modules linked i j trees [] f h = tt
stand_on modules linked i j trees (s ∷ ss) f h =
    (record { code = h.0.code; purpose = h.0.purpose; belongs = record { tree = trees s.body.at.0 f.0 ∙ h.0.belongs.tree; sets = h.0.belongs.sets } }, stand_on modules linked i j trees ss f.2 h.1)

-- what was ready stays so
module _ {S : Type 0} (modules : S → Modules ℕ) (linked : S → ℕ → Bool) (fits : Outer ℕ S → Type 0) (begins : Importing ℕ S) where
  stays_fitting : (engine : Engine) (old new : Scopes) (ps qs : Numbered) (es fs : Errors) (i j : S) → TakesBodies modules linked fits begins engine old ps es i → KeepTrees modules linked fits begins i j → AreScopesOf (modules j) (linked j) new
      → FitsState modules linked fits (state_of engine new qs fs j) → TakesBodies modules linked fits begins engine new qs fs j
  stays_fitting engine old new ps qs es fs i j ready trees made state = record {
    state = state;
    made = made;
    standing = stand_on modules linked i j trees engine.standing.items ready.state.standing ready.standing;
  }

  pub still_takes_bodies : StillTakesBodies modules linked fits begins
  still_takes_bodies = record {
    fitting = stays_fitting;
    known = λ engine old new ps qs es fs i j ready trees made whole keeps cells.
        stays_fitting engine old new ps qs es fs i j ready trees made (record {
          whole = whole;
          cells = cells;
          standing = held_standing modules linked i j keeps (map standing_of engine.standing.items) ready.state.standing;
        });
  }
