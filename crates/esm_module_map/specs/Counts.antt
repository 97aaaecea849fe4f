-- How often a URL stands in a list, and sums.
use Rattle.std.specs.Prelude.{ℕ, ◌+◌, ◌≤◌, cond, bytes_eq, List, [], ◌∷◌}
use Rattle.esm_base.specs.Urls.{Url}
use Rattle.esm_module_map.specs.declared.event.MapEvent.{MapEvent}
use Rattle.esm_module_map.specs.Histories.{takes_by}

-- how often the URL stands in the list
abbrev pub count : Url → List Url → ℕ
count u [] = 0
count u (v ∷ vs) = cond (bytes_eq u v) 1 0 + count u vs

-- the sum of f over the list
abbrev pub total : (ℕ → ℕ) → List ℕ → ℕ
total f [] = 0
total f (c ∷ cs) = f c + total f cs

-- these callers, all together, have taken each URL at most once
abbrev pub AreTakenOnce : {P G : Type 0} → (P → ℕ) → List (MapEvent P G) → List ℕ → Type 0
AreTakenOnce weight h cs = (u : Url) → total (λ c. count u (takes_by weight c h)) cs ≤ 1
