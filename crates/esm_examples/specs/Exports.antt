-- Why a text, with the modules that its requests lead to, isn't held as a module.
use Rattle.std.specs.Prelude.{◌≢◌, ℕ, List, length, ⊤}
use Rattle.esm_base.specs.declared.end.End.{End}
use Rattle.esm_base.specs.declared.end.End.TheVariants.{Fault, Memory}
use Rattle.esm_grammar.specs.ModuleText.{FaultOf}
use Rattle.esm_ast.specs.Script.{ScriptParts, IsScriptOf}
use Rattle.esm_examples.specs.declared.exports.Unusable.{Unusable}
use Rattle.esm_examples.specs.declared.exports.Unusable.TheVariants.{Text, Targets}

-- the bytes have this fault; or they are a module text with more or fewer requests than there are targets
abbrev pub IsUnusable : List ℕ → List ℕ → End Unusable → Type 0
IsUnusable bytes targets (Fault (Text fault)) = FaultOf bytes fault
IsUnusable bytes targets (Fault Targets) =
    (script : ScriptParts) × IsScriptOf bytes script × (length script.entries.requests ≢ length targets)
IsUnusable bytes targets Memory = ⊤
