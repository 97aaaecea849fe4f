-- Bytes are read as one outcome.
use Rattle.std.proofs.Common.{ℕ, List, ap, sym, ◌∙◌}
use Rattle.esm_base.specs.declared.fault.TextFault.{TextFault}
use Rattle.esm_tree.specs.Syntax.{Item}
use Rattle.esm_ast.specs.Outcome.{OutcomeView, Script, Broken, Absent, Failed}
use Rattle.esm_ast.specs.Laws.{SpellsOneTree, HasOneFault, HasNoTreeBesideAFault, HasOneOutcome}

module _ (one_tree : SpellsOneTree) (one_fault : HasOneFault) (no_tree : HasNoTreeBesideAFault) where
  abbrev text_with : List ℕ → List Item → OutcomeView
  text_with bytes items = Script (record { bytes = bytes; items = items })

  abbrev broken_with : List ℕ → TextFault → OutcomeView
  broken_with bytes fault = Broken (record { fault = fault; bytes = bytes })

  pub one_outcome : HasOneOutcome
  one_outcome bytes (Script one) (Script other) p q =
      ap (λ b. text_with b one.items) (p.0 ∙ sym q.0) ∙ ap (text_with other.bytes) (one_tree bytes one.items other.items p.1 q.1)
  one_outcome bytes (Script one) (Broken other) p q = absurd (no_tree bytes one.items other.fault p.1 q.1)
  one_outcome bytes (Script one) Absent p q = absurd q
  one_outcome bytes (Script one) Failed p q = absurd q
  one_outcome bytes (Broken one) (Script other) p q = absurd (no_tree bytes other.items one.fault q.1 p.1)
  one_outcome bytes (Broken one) (Broken other) p q =
      ap (λ b. broken_with b one.fault) (p.0 ∙ sym q.0) ∙ ap (broken_with other.bytes) (one_fault bytes one.fault other.fault p.1 q.1)
  one_outcome bytes (Broken one) Absent p q = absurd q
  one_outcome bytes (Broken one) Failed p q = absurd q
  one_outcome bytes Absent other p q = absurd p
  one_outcome bytes Failed other p q = absurd p
