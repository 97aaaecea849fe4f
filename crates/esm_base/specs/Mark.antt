-- Encoding, UTF-8 decode: a byte order mark in front of a text doesn't belong to it.
use Rattle.std.specs.Prelude.{ℕ, Bool, List, [], ◌∷◌, drop, nat_eq, if◌then◌else◌}
use Rattle.std.specs.List.{starts_with}

-- the bytes begin with U+FEFF in UTF-8
abbrev pub has_mark : List ℕ → Bool
has_mark bytes = starts_with nat_eq bytes (239 ∷ 187 ∷ 191 ∷ [])

-- the bytes without that mark; of two marks the second stays
unfoldable pub without_mark : List ℕ → List ℕ
without_mark bytes = if has_mark bytes then drop 3 bytes else bytes
