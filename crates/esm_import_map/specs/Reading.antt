-- What a text says as an import map: a fault, the first that applies, or its two finite maps.
use Rattle.std.specs.Prelude.{ℕ, List, [], codes, length, nat_le, Bool, true, not, ◌&&◌, ◌||◌, ◌==◌, Option, None, Some, is_some, unwrap_or, option_map, option_and_then, Result, Ok, Err, if◌then◌else◌}
use Rattle.std.specs.Str.{is_utf8}
use Rattle.serde_json.specs.Data.{Data, Members, no_members, member}
use Rattle.serde_json.specs.Find.{as_object, as_str, get_member}
use Rattle.serde_json.specs.Read.{read}
use Rattle.url.specs.Parts.{Parts, serialize}
use Rattle.esm_base.specs.declared.limits.TheConstants.{MAX_FILE_BYTES}
use Rattle.esm_base.specs.Mark.{without_mark}
use Rattle.esm_base.specs.Urls.{url_of}
use Rattle.esm_import_map.specs.ImportMap.{SpecifierMap, Maps}
use Rattle.esm_import_map.specs.Specifier.{url_like, ends_in_slash}
use Rattle.esm_base.specs.TextMap.{TextMapView, with_new}
use Rattle.esm_import_map.specs.declared.fault.MapFault.{MapFault}
use Rattle.esm_import_map.specs.declared.fault.MapFault.TheVariants.{M1, M2, M3, M4}

-- HTML, parse an import map string: the JSON value, if the bytes are a JSON text of at most MAX_FILE_BYTES
abbrev pub json_of : List ℕ → Option Data
json_of bytes =
    if nat_le (length bytes) MAX_FILE_BYTES && is_utf8 (without_mark bytes) then read (without_mark bytes) else None

-- HTML, normalize a specifier key: an empty key is dropped, a URL-like one becomes its URL's text
abbrev pub normalized_key : Parts → List ℕ → Option (List ℕ)
normalized_key base key =
    if length key == 0 then None else Some (unwrap_or (option_map serialize (url_like base key)) key)

-- an address must end in `/` where the key as written does
abbrev pub fits : List ℕ → Parts → Bool
fits key url = not (ends_in_slash key) || ends_in_slash (serialize url)

-- HTML, sort and normalize a module specifier map: the address that a value names, or none
abbrev pub address_of : Parts → List ℕ → Data → Option Parts
address_of base key value =
    option_and_then (λ url. if fits key url then Some url else None) (option_and_then (url_like base) (as_str value))

-- one entry more, at the key if it is kept
abbrev pub with_entry : Option (List ℕ) → Option Parts → SpecifierMap → Option SpecifierMap
with_entry None address map = Some map
with_entry (Some key) address map = with_new key address map

-- HTML, sort and normalize a module specifier map: each member of the object in turn, into the map so far;
-- nothing where two kept keys are one text
abbrev pub normalized : Parts → Members → SpecifierMap → Option SpecifierMap
normalized base no_members map = Some map
normalized base (member key value more) map =
    option_and_then (normalized base more) (with_entry (normalized_key base key) (address_of base key value) map)

-- the members of a value, where it is an object
abbrev pub members_in : Data → Members
members_in value = unwrap_or (as_object value) no_members

-- one scope more, at the prefix if that is a URL
abbrev pub with_scope : Option Parts → Option SpecifierMap → TextMapView SpecifierMap → Option (TextMapView SpecifierMap)
with_scope None map scopes = Some scopes
with_scope (Some url) map scopes = option_and_then (λ m. with_new (serialize url) m scopes) map

-- HTML, sort and normalize scopes: each member of the object in turn, into the scopes so far; nothing where two
-- kept prefixes, or two kept keys within a kept scope, are one text
abbrev pub normalized_scopes : Parts → Members → TextMapView SpecifierMap → Option (TextMapView SpecifierMap)
normalized_scopes base no_members scopes = Some scopes
normalized_scopes base (member prefix value more) scopes =
    option_and_then (normalized_scopes base more)
    (with_scope (url_of (Some base) prefix) (normalized base (members_in value) []) scopes)

-- each member is an object
abbrev pub are_objects : Members → Bool
are_objects no_members = true
are_objects (member key value more) = is_some (as_object value) && are_objects more

-- the object that stands under a name, the empty one where nothing does; nothing where another value does
abbrev pub part_of : Option Data → Option Members
part_of None = Some no_members
part_of (Some value) = as_object value

-- the two maps, or two texts were one
abbrev pub of_maps : Option SpecifierMap → Option (TextMapView SpecifierMap) → Result Maps MapFault
of_maps (Some imports) (Some scopes) = Ok (record { imports = imports; scopes = scopes })
of_maps (Some imports) None = Err M4
of_maps None scopes = Err M4

-- by the two parts of the object
abbrev pub of_parts : Parts → Option Members → Option Members → Result Maps MapFault
of_parts base (Some imports) (Some scopes) =
    if are_objects scopes then of_maps (normalized base imports []) (normalized_scopes base scopes []) else Err M3
of_parts base (Some imports) None = Err M3
of_parts base None scopes = Err M3

-- by the object that the value is
abbrev pub of_object : Parts → Option Members → Result Maps MapFault
of_object base None = Err M2
of_object base (Some members) =
    of_parts base (part_of (get_member (codes "imports") members)) (part_of (get_member (codes "scopes") members))

-- by the value that the text is
abbrev pub of_json : Parts → Option Data → Result Maps MapFault
of_json base None = Err M1
of_json base (Some value) = of_object base (as_object value)

-- HTML, parse an import map string
abbrev pub import_map_of : List ℕ → Parts → Result Maps MapFault
import_map_of bytes base = of_json base (json_of bytes)
