-- What sets a name outside of all blocks sets one that its module declares.
use Rattle.std.specs.Prelude.{◌≡◌, ℕ, List, [], ◌∷◌, Some, ⊤}
use Rattle.esm_tree.specs.Syntax.{Item}
use Rattle.esm_env.specs.Declarations.{Declaration, Initial, declares, initial}
use Rattle.esm_rewriting.specs.Rest.{Use, Part, Rest, end, more}
use Rattle.esm_rewriting.specs.Rest.Use.{Drops, Sets, Writes, Throws, Returns, Prints, Chooses, Awaits}
use Rattle.esm_rewriting.specs.Rest.Part.{Whole, Does, Stands, In, Tries}
use Rattle.esm_rewriting.specs.BodyRewriting.{RewrittenBody, On, Gives, Waits}
use Rattle.esm_values.specs.Plans.{Rewritten as comes}

-- a module with these items declares the name at its top level
abbrev pub IsNameOf : List Item → List ℕ → Type 0
IsNameOf items x = (i : Initial) × (initial items x ≡ Some i)

module _ (Has : List ℕ → Type 0) where
  abbrev pub DeclareOnly : List Declaration → Type 0
  DeclareOnly [] = ⊤
  DeclareOnly (d ∷ ds) = Has d.name × DeclareOnly ds

  abbrev pub SetsUse : Use → Type 0
  SetsUse Drops = ⊤
  SetsUse (Sets x) = Has x
  SetsUse (Writes x) = ⊤
  SetsUse Throws = ⊤
  SetsUse Returns = ⊤
  SetsUse Prints = ⊤
  SetsUse (Chooses ss others) = ⊤
  SetsUse (Awaits purpose) = SetsUse purpose

module _ {V : Type 0} (Has : List ℕ → Type 0) where
  -- blocks have names of their own
  abbrev pub SetsPart : Part V → Type 0
  SetsPart (Whole s) = DeclareOnly Has (declares s)
  SetsPart (Does purpose e) = SetsUse Has purpose
  SetsPart (Stands purpose) = SetsUse Has purpose
  SetsPart (In scope rest) = ⊤
  SetsPart (Tries rest caught handler) = ⊤

  abbrev pub SetsRest : Rest V → Type 0
  SetsRest end = ⊤
  SetsRest (more p rest) = SetsPart p × SetsRest rest

  -- what a rewriting comes to
  abbrev pub SetsMove : {S : Type 0} → RewrittenBody V S → Type 0
  SetsMove (On (comes.Goes s)) = SetsRest s
  SetsMove (On (comes.Leaves v)) = ⊤
  SetsMove (On (comes.Calls f vs s)) = SetsRest s
  SetsMove (On (comes.Stops why)) = ⊤
  SetsMove (Gives v) = ⊤
  SetsMove (Waits v s) = SetsRest s
