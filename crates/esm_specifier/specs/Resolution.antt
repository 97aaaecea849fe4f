-- What a specifier resolves to: a URL, or a fault.
use Rattle.std.specs.Prelude.{ℕ, List, [], ◌∷◌, length, drop, filter, bytes_eq, Bool, true, ◌&&◌, ◌||◌, Option, None, Some, is_some, unwrap_or, option_map, Result, Ok, Err, if◌then◌else◌}
use Rattle.std.specs.Map.{keys_of}
use Rattle.std.specs.Option.{option_flatten}
use Rattle.std.specs.Ordering.{is_lt}
use Rattle.url.specs.Parts.{Parts, serialize, kind_of}
use Rattle.url.specs.Scheme.{is_special}
use Rattle.esm_base.specs.CodeUnits.{code_unit_order}
use Rattle.esm_base.specs.Urls.{url_of, is_usable}
use Rattle.esm_import_map.specs.ImportMap.{SpecifierMap, Maps}
use Rattle.esm_import_map.specs.Specifier.{url_like, begins_with, ends_in_slash}
use Rattle.esm_base.specs.TextMap.{TextMapView, at}
use Rattle.esm_specifier.specs.declared.fault.SpecFault.{SpecFault}
use Rattle.esm_specifier.specs.declared.fault.SpecFault.TheVariants.{S1, S2, S3, S4, S5}

-- ---- the greatest of a set of texts

-- the greater of two texts, by code units
abbrev pub greater : List ℕ → Option (List ℕ) → List ℕ
greater text None = text
greater text (Some other) = if is_lt (code_unit_order text other) then other else text

-- the text among these than which none is greater in code unit order
abbrev pub greatest : List (List ℕ) → Option (List ℕ)
greatest [] = None
greatest (text ∷ texts) = Some (greater text (greatest texts))

-- ---- which keys match

-- a text is reached by a key that equals it, and, where prefixes count, by one that ends in `/` and begins it
abbrev pub reaches : Bool → List ℕ → List ℕ → Bool
reaches prefixes text key = bytes_eq key text || (prefixes && ends_in_slash key && begins_with text key)

-- HTML, resolve an imports match: prefixes count where the specifier is no URL, or one that is special
abbrev pub takes_prefixes : Option Parts → Bool
takes_prefixes None = true
takes_prefixes (Some url) = is_special (kind_of url)

-- HTML, resolve an imports match: the key that decides in one map
abbrev pub deciding_key : Bool → List ℕ → SpecifierMap → Option (List ℕ)
deciding_key prefixes normal map = greatest (filter (reaches prefixes normal) (keys_of map))

-- ---- which map decides

-- the specifier map of a scope
abbrev pub scope_at : List ℕ → TextMapView SpecifierMap → SpecifierMap
scope_at prefix scopes = unwrap_or (at prefix scopes) []

-- a scope applies to the referrer, and a key of it matches
abbrev pub decides : List ℕ → Bool → List ℕ → TextMapView SpecifierMap → List ℕ → Bool
decides referrer prefixes normal scopes prefix =
    reaches true referrer prefix && is_some (deciding_key prefixes normal (scope_at prefix scopes))

-- HTML, resolve a module specifier: the scope that decides
abbrev pub deciding_scope : List ℕ → Bool → List ℕ → TextMapView SpecifierMap → Option (List ℕ)
deciding_scope referrer prefixes normal scopes =
    greatest (filter (decides referrer prefixes normal scopes) (keys_of scopes))

-- the specifier map that decides: that of the scope, else the imports
abbrev pub map_by : Maps → Option (List ℕ) → SpecifierMap
map_by maps None = maps.imports
map_by maps (Some prefix) = scope_at prefix maps.scopes

abbrev pub deciding_map : List ℕ → Bool → List ℕ → Maps → SpecifierMap
deciding_map referrer prefixes normal maps = map_by maps (deciding_scope referrer prefixes normal maps.scopes)

-- ---- what they say

-- the rest of the specifier against the address of its prefix must stay under it
abbrev pub under : List ℕ → Option Parts → Result (List ℕ) SpecFault
under address None = Err S2
under address (Some url) = if begins_with (serialize url) address then Ok (serialize url) else Err S3

-- HTML, resolve an imports match: by the address that a matching key leads to
abbrev pub by_address : List ℕ → List ℕ → Option Parts → Result (List ℕ) SpecFault
by_address normal key None = Err S1
by_address normal key (Some address) =
    if bytes_eq key normal then Ok (serialize address)
    else under (serialize address) (url_of (Some address) (drop (length key) normal))

-- HTML, resolve a module specifier: without a match the specifier is its own URL
abbrev pub by_itself : Option Parts → Result (List ℕ) SpecFault
by_itself None = Err S4
by_itself (Some url) = Ok (serialize url)

abbrev pub by_key : Option Parts → List ℕ → SpecifierMap → Option (List ℕ) → Result (List ℕ) SpecFault
by_key url normal map None = by_itself url
by_key url normal map (Some key) = by_address normal key (option_flatten (at key map))

-- ---- which answers are usable

-- own: an answer that can't name a module is S5
abbrev pub usable : Result (List ℕ) SpecFault → Result (List ℕ) SpecFault
usable (Ok text) = if is_usable text then Ok text else Err S5
usable (Err fault) = Err fault

-- ---- the whole

-- the specifier as the keys are compared with it
abbrev pub normal_text : Option Parts → List ℕ → List ℕ
normal_text url specifier = unwrap_or (option_map serialize url) specifier

abbrev pub resolved : Maps → List ℕ → Option Parts → List ℕ → Result (List ℕ) SpecFault
resolved maps referrer url normal =
    let map = deciding_map referrer (takes_prefixes url) normal maps in
    by_key url normal map (deciding_key (takes_prefixes url) normal map)

-- by the URL of the referrer
abbrev pub resolution_against : Maps → List ℕ → List ℕ → Option Parts → Result (List ℕ) SpecFault
resolution_against maps referrer specifier None = Err S5
resolution_against maps referrer specifier (Some base) =
    let url = url_like base specifier in usable (resolved maps referrer url (normal_text url specifier))

-- HTML, resolve a module specifier
abbrev pub resolution_of_specifier : Maps → List ℕ → List ℕ → Result (List ℕ) SpecFault
resolution_of_specifier maps referrer specifier =
    resolution_against maps referrer specifier (url_of None referrer)
