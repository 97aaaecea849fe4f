-- Whether the body of each module awaits, noted beside the records in order of ids.
use Rattle.std.specs.Prelude.{◌≡◌, Bool, List, map}
use Rattle.esm_realm.specs.Sound.{RecordParts}
use Rattle.esm_machine.specs.Kept.{IsKept}
use Rattle.esm_machine.specs.ModuleStore.{Imported}
use Rattle.esm_machine.specs.declared.condition.Condition.{Condition}
use Rattle.esm_machine.specs.declared.condition.Condition.TheVariants as conditions

-- whether the body of a module awaits
abbrev pub awaits_of : RecordParts → Bool
awaits_of r = r.entries.awaits

-- as long as nothing is lost, each module has its flag
abbrev pub AreFlags : Condition → List RecordParts → List Bool → Type 0
AreFlags conditions.Whole records flags = flags ≡ map awaits_of records
AreFlags (conditions.Stopped limit) records flags = flags ≡ map awaits_of records
AreFlags conditions.Lost records flags = Unit {0}

-- what is known of the records and the loads, and the flags are those of the records
pub record IsKeptWith (i : Imported) (noted : List Bool) : Type 0 where
  pub kept : IsKept i
  pub flags : AreFlags i.condition i.records noted
