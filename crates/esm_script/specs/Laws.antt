-- The laws of module texts.
use Rattle.std.specs.Prelude.{ℕ, List, ◌⊎◌}
use Rattle.esm_base.specs.declared.fault.TextFault.{TextFault}
use Rattle.esm_tree.specs.Syntax.{Item}
use Rattle.esm_grammar.specs.ModuleText.{Spells, FaultOf}

-- any bytes spell a tree or have a fault
abbrev pub TreeOrFault : Type 0
TreeOrFault = (bytes : List ℕ) → ((items : List Item) × Spells bytes items) ⊎ ((fault : TextFault) × FaultOf bytes fault)
