-- The printed texts of the faults of module texts.
use Rattle.std.specs.Prelude.{ℕ, List, codes}
use Rattle.esm_base.specs.declared.fault.TextFault.{TextFault}
use Rattle.esm_base.specs.declared.fault.TextFault.TheVariants.{P1, P2, P3, P4, P6}

-- own: what the message of a SyntaxError says of a module text with this fault
abbrev pub fault_description : TextFault → List ℕ
fault_description P1 = codes "P1 not UTF-8"
fault_description P2 = codes "P2 no module text"
fault_description P3 = codes "P3 early error"
fault_description P4 = codes "P4 nested too deep"
fault_description P6 = codes "P6 too long"
