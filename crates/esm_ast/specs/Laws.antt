-- Laws of the definitions.
use Rattle.std.specs.Prelude.{◌≡◌, ◌≤◌, ℕ, List, length}
use Rattle.esm_base.specs.declared.fault.TextFault.{TextFault}
use Rattle.esm_tree.specs.Syntax.{Item}
use Rattle.esm_grammar.specs.ModuleText.{Spells, FaultOf}
use Rattle.esm_ast.specs.Entries.{NamesRequests, entries_of}
use Rattle.esm_ast.specs.ModuleTree.{IsModuleTree}
use Rattle.esm_ast.specs.Outcome.{OutcomeView, OutcomeOf}

-- a text spells at most one tree
abbrev pub SpellsOneTree : Type 0
SpellsOneTree = (bytes : List ℕ) (one other : List Item) → Spells bytes one → Spells bytes other → one ≡ other

-- a text has at most one fault
abbrev pub HasOneFault : Type 0
HasOneFault = (bytes : List ℕ) (one other : TextFault) → FaultOf bytes one → FaultOf bytes other → one ≡ other

-- a text that has a fault spells no tree
abbrev pub HasNoTreeBesideAFault : Type 0
HasNoTreeBesideAFault = (bytes : List ℕ) (items : List Item) (fault : TextFault) → Spells bytes items → FaultOf bytes fault → ⊥

-- bytes are read as one outcome: two that are both what they are read as don't differ
abbrev pub HasOneOutcome : Type 0
HasOneOutcome = (bytes : List ℕ) (one other : OutcomeView) → OutcomeOf bytes one → OutcomeOf bytes other → one ≡ other

-- what a text spells is a module's tree
abbrev pub SpellsModuleTrees : Type 0
SpellsModuleTrees = (bytes : List ℕ) (items : List Item) → Spells bytes items → IsModuleTree items

-- what a module imports and exports is of its own requests
abbrev pub EntriesNameRequests : Type 0
EntriesNameRequests = (items : List Item) → NamesRequests (entries_of items) (length (entries_of items).requests)

-- a module text has at most as many items as bytes, and requests at most as many modules
pub record IsSmall : Type 0 where
  pub items : (bytes : List ℕ) (items : List Item) → Spells bytes items → length items ≤ length bytes
  pub requests : (items : List Item) → length (entries_of items).requests ≤ length items
