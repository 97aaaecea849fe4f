use Rattle.std.proofs.Common.{◌++◌, ap, append_assoc, sym}
use Rattle.std.specs.Prelude.{codes, decimal}
use Rattle.esm_gen.proofs.Named.{imports}
use Rattle.esm_gen.proofs.laws.imports_modules.Goals as goal

pub returns-clause-quoted : goal.returns-clause-quoted
returns-clause-quoted c = λ j. ap (λ text. codes "import \"./m" ++ text) (sym (append_assoc (decimal j) (codes ".js") (codes "\";\n")))

pub returns-clause-named : goal.returns-clause-named
returns-clause-named c = imports
