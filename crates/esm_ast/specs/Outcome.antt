-- What contracts see of an outcome, and which outcome a body has.
use Rattle.std.specs.Prelude.{◌≡◌, ℕ, List}
use Rattle.std.specs.Arc.{arc_value}
use Rattle.esm_grammar.specs.ModuleText.{Spells, FaultOf}
use Rattle.esm_ast.specs.declared.outcome.Outcome.{Outcome}
use Rattle.esm_ast.specs.declared.outcome.Outcome.TheVariants as outcome
use Rattle.esm_ast.specs.Script.{SpelledText, BrokenParts, spelled_text}

-- an outcome without where it lies in memory, and without how its tree is numbered
pub data OutcomeView : Type 0 where
  -- a body that is a module text
  Script : SpelledText → OutcomeView
  -- a body that is no module text
  Broken : BrokenParts → OutcomeView
  -- there is nothing under the URL
  Absent : OutcomeView
  -- the fetch failed
  Failed : OutcomeView

abbrev pub outcome_view : Outcome → OutcomeView
outcome_view (outcome.Script script) = Script (spelled_text (arc_value script))
outcome_view (outcome.Broken broken) = Broken broken
outcome_view outcome.Absent = Absent
outcome_view outcome.Failed = Failed

-- what a body with these bytes is read as: a script where they spell a tree, and else the fault that they have
abbrev pub OutcomeOf : List ℕ → OutcomeView → Type 0
OutcomeOf bytes (Script text) = (text.bytes ≡ bytes) × Spells bytes text.items
OutcomeOf bytes (Broken broken) = (broken.bytes ≡ bytes) × FaultOf bytes broken.fault
OutcomeOf bytes Absent = ⊥
OutcomeOf bytes Failed = ⊥
