-- The values of the code, in which modules have numbers, as values of the language.
use Rattle.std.specs.Prelude.{ℕ, nat_eq, List, map, Result, Ok, Err}
use Rattle.esm_values.specs.Value as value
use Rattle.esm_values.specs.Operators.{Values, values}
use Rattle.esm_values.specs.Ran as ran
use Rattle.esm_values.specs.declared.value.FuncId.{FuncId}
use Rattle.esm_values.specs.declared.value.Value.{Value}
use Rattle.esm_values.specs.declared.value.Value.TheVariants as v
use Rattle.esm_values.specs.declared.value.Ran.{Ran}
use Rattle.esm_values.specs.declared.value.Ran.TheVariants as r

-- a value of the language whose modules have numbers
abbrev pub CodeValue : Type 0
CodeValue = value.Value ℕ

abbrev pub func_value : FuncId → CodeValue
func_value f = value.Func f.module.0 f.index

abbrev pub value_of : Value → CodeValue
value_of v.Undefined = value.Undefined
value_of (v.Bool b) = value.Truth b
value_of (v.Text t) = value.Text t
value_of (v.Func f) = func_value f
value_of (v.Error e) = value.Error e.0
value_of (v.Namespace m) = value.Namespace m.0
value_of (v.Promise p) = value.Promise p.0

abbrev pub values_of : List Value → List CodeValue
values_of vs = map value_of vs

abbrev pub ran_of : Ran → ran.Ran CodeValue
ran_of r.Normal = ran.Normal
ran_of (r.Thrown v) = ran.Thrown (value_of v)

-- the language over values with numbered modules
abbrev pub numbered : Values CodeValue
numbered = values nat_eq

abbrev pub valued : {S : Type 0} → Result Value S → Result CodeValue S
valued (Ok v) = Ok (value_of v)
valued (Err why) = Err why
