-- Which of the first numbers are free: none of those before the place from which the state looks for one.
use Rattle.std.specs.Prelude.{ℕ, Bool, List, take}
use Rattle.std.specs.List.{list_any}
use Rattle.esm_module_map.specs.declared.number.Number.{Number}
use Rattle.esm_module_map.specs.Replay.{is_free}

-- one of the first so many numbers is free
abbrev pub has_free : ℕ → List Number → Bool
has_free n numbers = list_any is_free (take n numbers)
