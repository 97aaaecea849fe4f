-- The name of what `export default` exports.
use Rattle.std.specs.Prelude.{Option, None, Some, codes}
use Rattle.esm_base.specs.Urls.{Text}

-- ECMA-262, BoundNames of an ExportDeclaration: the binding of `export default` where it has no name of its own
unfoldable pub star_default : Text
star_default = codes "*default*"

-- the name of a function that may have none
unfoldable pub or_star_default : Option Text → Text
or_star_default None = star_default
or_star_default (Some name) = name
