-- The answers of the code, as the language sees them.
use Rattle.std.specs.Prelude.{Result, Ok, Err}
use Rattle.esm_values.specs.Code.{CodeValue, value_of}
use Rattle.esm_values.specs.Completion.{Completion}
use Rattle.esm_values.specs.Completion.{Completion as completion}
use Rattle.esm_expr_eval.specs.declared.world.Out.{Out}
use Rattle.esm_expr_eval.specs.declared.world.Out.TheVariants as o

abbrev pub said : {S : Type 0} → Result Out S → Result (Completion CodeValue) S
said (Ok (o.Value v)) = Ok (completion.Normal (value_of v))
said (Ok (o.Thrown v)) = Ok (completion.Throw (value_of v))
said (Err s) = Err s
