-- What the requests of a module resolve to.
use Rattle.std.specs.Prelude.{◌≡◌, ℕ, suc, ◌==◌, ◌&&◌, Bool, false, List, [], ◌∷◌, length, All, Result, Ok, Err}
use Rattle.std.specs.Cmp.Lexicographic.{pointwise}
use Rattle.esm_base.specs.Urls.{Text, Url, IsUsable, same_url}
use Rattle.esm_import_map.specs.ImportMap.{Maps}
use Rattle.esm_specifier.specs.Resolution.{resolution_of_specifier}
use Rattle.esm_specifier.specs.declared.fault.SpecFault.{SpecFault}
use Rattle.esm_specifier.specs.declared.fault.SpecFault.TheVariants.{S1, S2, S3, S4, S5}
use Rattle.esm_specifier.specs.declared.targets.Targets.{Targets}
use Rattle.esm_specifier.specs.declared.targets.Targets.TheVariants.{Found, Refused}

-- a request that names no URL: its place, and why
pub record Refusal : Type 0 where
  pub place : ℕ
  pub fault : SpecFault

-- the same one place later
abbrev pub later : Refusal → Refusal
later refusal = record refusal { place = suc refusal.place }

abbrev pub targets_by : Result Url SpecFault → Result (List Url) Refusal → Result (List Url) Refusal
targets_by (Ok url) (Ok urls) = Ok (url ∷ urls)
targets_by (Ok url) (Err refusal) = Err (later refusal)
targets_by (Err fault) others = Err (record { place = 0; fault = fault })

-- HTML, "create a JavaScript module script": each request is resolved by "resolve a module specifier", in order, to the
-- first that is refused
abbrev pub targets_of : Maps → Url → List Text → Result (List Url) Refusal
targets_of maps referrer [] = Ok []
targets_of maps referrer (specifier ∷ specifiers) =
    targets_by (resolution_of_specifier maps referrer specifier) (targets_of maps referrer specifiers)

-- what contracts see of targets
abbrev pub targets_view : Targets → Result (List Url) Refusal
targets_view (Found urls) = Ok urls.items
targets_view (Refused place fault) = Err (record { place = place; fault = fault })

-- this is what these requests of the module at this URL resolve to
abbrev pub AreTargets : Maps → Url → List Text → Targets → Type 0
AreTargets maps referrer requests targets = targets_view targets ≡ targets_of maps referrer requests

-- ---- as a test

abbrev pub number_of : SpecFault → ℕ
number_of S1 = 1
number_of S2 = 2
number_of S3 = 3
number_of S4 = 4
number_of S5 = 5

abbrev pub same_targets : Result (List Url) Refusal → Result (List Url) Refusal → Bool
same_targets (Ok urls) (Ok others) = pointwise same_url urls others
same_targets (Ok urls) (Err refusal) = false
same_targets (Err refusal) (Ok urls) = false
same_targets (Err refusal) (Err other) =
    (refusal.place == other.place) && (number_of refusal.fault == number_of other.fault)

-- whether this is what these requests of the module at this URL resolve to
abbrev pub are_targets : Maps → Url → List Text → Targets → Bool
are_targets maps referrer requests targets = same_targets (targets_view targets) (targets_of maps referrer requests)

-- ---- what is found

-- what the requests of a module resolve to may name modules, and is one URL for each
pub record AreUsable (requests : List Text) (urls : List Url) : Type 0 where
  pub each : All IsUsable urls
  pub as_many : length urls ≡ length requests
