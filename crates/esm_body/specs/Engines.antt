-- What the engine's calls for bodies ask, and what they say.
use Rattle.std.specs.Prelude.{◌≡◌, ℕ, nat_eq, Bool, true, List, [], ◌∷◌, length, Result, Ok, Err, ⊤}
use Rattle.std.specs.Arc.{arc_value}
use Rattle.esm_values.specs.Value.{Value}
use Rattle.esm_values.specs.Code.{value_of, ran_of}
use Rattle.esm_values.specs.Errors.{Errors}
use Rattle.esm_values.specs.declared.value.Ran.{Ran as CodeRan}
use Rattle.esm_values.specs.declared.value.Ran.TheVariants as r
use Rattle.esm_promise.specs.Code.{Numbered}
use Rattle.esm_promise.specs.Promises.{Settled}
use Rattle.esm_promise.specs.Outer.{Outer}
use Rattle.esm_env.specs.Modules.{Modules}
use Rattle.esm_env.specs.Scopes.{Scopes, cells_of}
use Rattle.esm_rewriting.specs.State.{State, Importing}
use Rattle.esm_rewriting.specs.Bodies.{StartsBody, RunsBody, ResumesBody}
use Rattle.esm_rewriting.specs.Fits.{AreKnownCells, FitsState, Knows}
use Rattle.esm_env.specs.Faithful.{AreScopesOf}
use Rattle.esm_body.specs.Importers.{outer_with}
use Rattle.esm_body.specs.View.{state_of}
use Rattle.esm_body.specs.Code.{Belongs, standing_rest, IsUse, IsCode}
use Rattle.esm_body.specs.declared.engine.Engine.{Engine}
use Rattle.esm_rewriting.specs.declared.stop.Stop.{Stop}
use Rattle.esm_rewriting.specs.declared.stop.Stop.TheVariants as stops
use Rattle.esm_body.specs.declared.work.Standing.{Standing}

module _ {S : Type 0} (modules : S → Modules ℕ) where
  -- a body at its await: its numbers name parts of its tree, which is its module's
  pub record IsStanding (i : S) (s : Standing) : Type 0 where
    pub code : IsCode s.body
    pub purpose : IsUse (length (arc_value s.body.tree).stmts) s.purpose
    pub belongs : Belongs modules i s.body (standing_rest s.body s.purpose)

  abbrev pub AreStanding : S → List Standing → Type 0
  AreStanding i [] = ⊤
  AreStanding i (s ∷ ss) = IsStanding i s × AreStanding i ss

module _ {S : Type 0} (modules : S → Modules ℕ) (linked : S → ℕ → Bool) (fits : Outer ℕ S → Type 0) (begins : Importing ℕ S) where
  -- the state fits, the scopes are those of the modules, and the bodies at their awaits are of them
  pub record TakesBodies (engine : Engine) (scopes : Scopes) (promises : Numbered) (errors : Errors) (i : S) : Type 0 where
    pub state : FitsState modules linked fits (state_of engine scopes promises errors i)
    pub made : AreScopesOf (modules i) (linked i) scopes
    pub standing : AreStanding modules i engine.standing.items

  -- what was linked keeps its tree
  abbrev pub KeepTrees : S → S → Type 0
  KeepTrees i j = (m : ℕ) → linked i m ≡ true → (modules j).tree m ≡ (modules i).tree m

  -- between two calls for bodies promises, errors, scopes and modules may change. What takes bodies does so still, where linked modules
  -- keep their trees, the scopes are those of the modules, and the state fits
  pub record StillTakesBodies : Type 0 where
    pub fitting : (engine : Engine) (old new : Scopes) (ps qs : Numbered) (es fs : Errors) (i j : S)
        → TakesBodies engine old ps es i → KeepTrees i j → AreScopesOf (modules j) (linked j) new
        → FitsState modules linked fits (state_of engine new qs fs j) → TakesBodies engine new qs fs j
    -- which it does where promises, errors and modules fit, what was known is known still, and each cell has a known value
    pub known : (engine : Engine) (old new : Scopes) (ps qs : Numbered) (es fs : Errors) (i j : S)
        → TakesBodies engine old ps es i → KeepTrees i j → AreScopesOf (modules j) (linked j) new
        → fits (outer_with qs fs j) → ((v : Value ℕ) → Knows modules linked i v → Knows modules linked j v)
        → AreKnownCells (modules j) (linked j) (cells_of new) → TakesBodies engine new qs fs j

  -- the body starts, or a limit is passed, just as the definitions have it; where memory ran out, nothing is said
  abbrev pub Started : State ℕ S → ℕ → ℕ → Result (Unit {0}) Stop → State ℕ S → Type 0
  Started w m done (Ok u) after = StartsBody nat_eq modules begins w m done (Ok tt) after
  Started w m done (Err (stops.Limit limit)) after = StartsBody nat_eq modules begins w m done (Err limit) after
  Started w m done (Err stops.Memory) after = Unit {0}

  abbrev pub RanBody : State ℕ S → ℕ → Result CodeRan Stop → State ℕ S → Type 0
  RanBody w m (Ok how) after = RunsBody nat_eq modules begins w m (Ok (ran_of how)) after
  RanBody w m (Err (stops.Limit limit)) after = RunsBody nat_eq modules begins w m (Err limit) after
  RanBody w m (Err stops.Memory) after = Unit {0}

  abbrev pub Resumed : State ℕ S → ℕ → Settled (Value ℕ) → Result (Unit {0}) Stop → State ℕ S → Type 0
  Resumed w m how (Ok u) after = ResumesBody nat_eq modules begins w m how (Ok tt) after
  Resumed w m how (Err (stops.Limit limit)) after = ResumesBody nat_eq modules begins w m how (Err limit) after
  Resumed w m how (Err stops.Memory) after = Unit {0}

  -- what is thrown is known
  abbrev pub KnowsThrown : S → CodeRan → Type 0
  KnowsThrown i r.Normal = ⊤
  KnowsThrown i (r.Thrown v) = Knows modules linked i (value_of v)
