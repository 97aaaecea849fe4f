-- How a state is put back.
use Rattle.std.specs.Prelude.{ℕ, List, ◌⊎◌, Option}
use Rattle.esm_hlock.specs.Makers.{IsStep, AreSteps}

-- at most one entry more, or more by a pass that has a number
abbrev pub MayGrow : {E : Type 0} → (E → Option ℕ) → Option ℕ → List E → List E → Type 0
MayGrow maker number before after = IsStep maker number before after ⊎ AreSteps maker number before after
