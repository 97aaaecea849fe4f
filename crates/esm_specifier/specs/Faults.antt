-- The printed texts of the faults of specifiers.
use Rattle.std.specs.Prelude.{ℕ, List, codes}
use Rattle.esm_specifier.specs.declared.fault.SpecFault.{SpecFault}
use Rattle.esm_specifier.specs.declared.fault.SpecFault.TheVariants.{S1, S2, S3, S4, S5}

-- own: what the message of a TypeError says of a specifier with this fault
abbrev pub specifier_fault_description : SpecFault → List ℕ
specifier_fault_description S1 = codes "S1 blocked by the import map"
specifier_fault_description S2 = codes "S2 no URL under its prefix"
specifier_fault_description S3 = codes "S3 leaves its prefix"
specifier_fault_description S4 = codes "S4 bare and not mapped"
specifier_fault_description S5 = codes "S5 no usable URL"
