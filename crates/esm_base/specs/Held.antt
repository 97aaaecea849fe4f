-- The bytes of a text, however it is held.
use Rattle.std.specs.Prelude.{ℕ, List, string_bytes}
use Rattle.std.specs.Arc.{arc_value}
use Rattle.esm_base.specs.declared.held.Held.{Held}
use Rattle.esm_base.specs.declared.held.Held.TheVariants as helds

-- the bytes of its string, be it the text's own or shared
abbrev pub bytes_of : Held → List ℕ
bytes_of (helds.Own text) = string_bytes text
bytes_of (helds.Shared text) = string_bytes (arc_value text)
