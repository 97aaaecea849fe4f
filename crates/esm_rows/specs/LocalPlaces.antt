-- The names of a block, as its index has them.
use Rattle.std.specs.Prelude.{ℕ, List, map}
use Rattle.esm_rows.specs.declared.names.Local.{Local}

abbrev pub texts_of : List Local → List (List ℕ)
texts_of locals = map (λ l. l.name) locals
