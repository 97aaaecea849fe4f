-- How many numbers are taken and not posted: for each of them the state keeps room for its post.
use Rattle.std.specs.Prelude.{ℕ, ◌+◌, ◌&&◌, Bool, not, cond, List, [], ◌∷◌, is_some}
use Rattle.esm_module_map.specs.declared.number.Number.{Number}

-- it is taken and not posted
abbrev pub is_out : Number → Bool
is_out x = is_some x.taker && not (is_some x.place)

-- how many are out
abbrev pub outs_of : List Number → ℕ
outs_of [] = 0
outs_of (x ∷ xs) = cond (is_out x) 1 0 + outs_of xs
