-- What a call that may run out of memory answers.
use Rattle.std.specs.Prelude.{◌≡◌, ⊤, Result, Ok, Err}
use Rattle.esm_base.specs.declared.end.End.{End}
use Rattle.esm_base.specs.declared.end.End.TheVariants.{Fault, Memory}

-- the result is the expected one, unless memory ran out
abbrev pub Gives : {T F : Type 0} → Result T (End F) → Result T F → Type 0
Gives (Ok value) expected = expected ≡ Ok value
Gives (Err (Fault fault)) expected = expected ≡ Err fault
Gives (Err Memory) expected = ⊤
