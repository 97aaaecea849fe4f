-- The laws of resolving, and worked examples.
use Rattle.std.specs.Prelude.{◌≡◌, ◌<◌, ℕ, true, false, List, [], length, All, Contains, MatchOption, None, Some, Result, Ok, Err, codes}
use Rattle.std.specs.Bool.{Decides}
use Rattle.std.specs.Ordering.{is_lt}
use Rattle.url.specs.Parts.{Parts, serialize}
use Rattle.esm_base.specs.CodeUnits.{code_unit_order}
use Rattle.esm_base.specs.Urls.{Text, Url, url_of, is_usable, IsUsable}
use Rattle.esm_import_map.specs.ImportMap.{Maps, no_maps}
use Rattle.esm_import_map.specs.Specifier.{url_like}
use Rattle.esm_specifier.specs.Resolution.{greatest, resolution_of_specifier}
use Rattle.esm_specifier.specs.Targets.{Refusal, targets_of, are_targets, AreTargets, AreUsable}
use Rattle.esm_specifier.specs.declared.fault.SpecFault.{SpecFault}
use Rattle.esm_specifier.specs.declared.fault.SpecFault.TheVariants.{S4, S5}
use Rattle.esm_specifier.specs.declared.targets.Targets.{Targets}

-- a member of these texts than which none is greater in code unit order
pub record IsGreatest (texts : List (List ℕ)) (text : List ℕ) : Type 0 where
  pub member : Contains texts text
  pub none_greater : All (λ other. is_lt (code_unit_order text other) ≡ false) texts

-- the greatest of some texts is one of them than which none is greater; of no texts there is none
abbrev pub GreatestIs : Type 0
GreatestIs = (texts : List (List ℕ)) → MatchOption (greatest texts) (texts ≡ []) (IsGreatest texts)

-- whatever the import map, what a specifier resolves to may name a module
abbrev pub ResolvesToUsable : Type 0
ResolvesToUsable = (maps : Maps) (referrer : Url) (specifier : Text) (u : Url)
    → resolution_of_specifier maps referrer specifier ≡ Ok u → IsUsable u

-- whatever the import map, what the requests of a module resolve to may name modules, and is one URL for each
abbrev pub TargetsAreUsable : Type 0
TargetsAreUsable = (maps : Maps) (referrer : Url) (requests : List Text) (urls : List Url)
    → targets_of maps referrer requests ≡ Ok urls → AreUsable requests urls

-- whatever the import map, a refusal is that of a request
abbrev pub RefusalsAreRequests : Type 0
RefusalsAreRequests = (maps : Maps) (referrer : Url) (requests : List Text) (refusal : Refusal)
    → targets_of maps referrer requests ≡ Err refusal → refusal.place < length requests

-- the test of targets says what they are
abbrev pub TargetsAreTested : Type 0
TargetsAreTested = (maps : Maps) (referrer : Url) (requests : List Text) (targets : Targets)
    → Decides (are_targets maps referrer requests targets) (AreTargets maps referrer requests targets)

-- under the empty import map a specifier is its own URL, where that may name a module, and else nothing
pub record ResolvesByItself : Type 0 where
  pub is : (referrer : Url) (base url : Parts) (specifier : Text) → url_of None referrer ≡ Some base
      → url_like base specifier ≡ Some url → is_usable (serialize url) ≡ true
      → resolution_of_specifier no_maps referrer specifier ≡ Ok (serialize url)
  pub unusable : (referrer : Url) (base url : Parts) (specifier : Text) → url_of None referrer ≡ Some base
      → url_like base specifier ≡ Some url → is_usable (serialize url) ≡ false → resolution_of_specifier no_maps referrer specifier ≡ Err S5
  pub bare : (referrer : Url) (base : Parts) (specifier : Text) → url_of None referrer ≡ Some base → url_like base specifier ≡ None
      → resolution_of_specifier no_maps referrer specifier ≡ Err S4

-- ---- worked examples

abbrev pub main_url : Url
main_url = codes "https://a.test/main.js"

-- what a specifier names in the module at https://a.test/main.js under the empty import map
abbrev pub NamesInMain : Text → Result Url SpecFault → Type 0
NamesInMain specifier resolution = resolution_of_specifier no_maps main_url specifier ≡ resolution

pub record ResolvesAsTheStandard : Type 0 where
  pub dot : NamesInMain (codes "./a.js") (Ok (codes "https://a.test/a.js"))
  pub dots : NamesInMain (codes "././t.js") (Ok (codes "https://a.test/t.js"))
  pub up : NamesInMain (codes "../b.js") (Ok (codes "https://a.test/b.js"))
  pub rooted : NamesInMain (codes "/lib/c.js") (Ok (codes "https://a.test/lib/c.js"))
  pub absolute : NamesInMain (codes "HTTPS://b.test:443/d.js") (Ok (codes "https://b.test/d.js"))
  pub bare : NamesInMain (codes "react") (Err S4)
  pub no_slash : NamesInMain (codes "a.js") (Err S4)
