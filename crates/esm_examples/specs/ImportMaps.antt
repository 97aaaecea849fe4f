-- What a specifier names in a module of a page, under the page's import map.
use Rattle.std.specs.Prelude.{ℕ, List, Option, None, Some, Result, Ok, Err, if◌then◌else◌}
use Rattle.url.specs.Parts.{Parts}
use Rattle.esm_base.specs.Urls.{url_of, is_canonical}
use Rattle.esm_import_map.specs.ImportMap.{Maps}
use Rattle.esm_import_map.specs.Reading.{import_map_of}
use Rattle.esm_import_map.specs.declared.fault.MapFault.{MapFault}
use Rattle.esm_specifier.specs.Resolution.{resolution_of_specifier}
use Rattle.esm_specifier.specs.declared.fault.SpecFault.{SpecFault}
use Rattle.esm_examples.specs.declared.import_maps.Unresolved.{Unresolved}
use Rattle.esm_examples.specs.declared.import_maps.Unresolved.TheVariants as unresolved

-- the URL of a specifier, or the fault that it has
abbrev pub named_by : Result (List ℕ) SpecFault → Result (List ℕ) Unresolved
named_by (Ok url) = Ok url
named_by (Err fault) = Err (unresolved.Specifier fault)

-- under an import map that was read, unless that was refused
abbrev pub under_map : List ℕ → List ℕ → Result Maps MapFault → Result (List ℕ) Unresolved
under_map referrer specifier (Ok maps) =
    if is_canonical referrer then named_by (resolution_of_specifier maps referrer specifier) else Err unresolved.Address
under_map referrer specifier (Err fault) = Err (unresolved.Map fault)

-- by the URL of the page
abbrev pub on_page : List ℕ → List ℕ → List ℕ → Option Parts → Result (List ℕ) Unresolved
on_page map referrer specifier (Some base) = under_map referrer specifier (import_map_of map base)
on_page map referrer specifier None = Err unresolved.Address

-- HTML: the page's URL is parsed, then its import map against it, and then the specifier is resolved
abbrev pub named_under : List ℕ → List ℕ → List ℕ → List ℕ → Result (List ℕ) Unresolved
named_under page map referrer specifier = on_page map referrer specifier (url_of None page)
