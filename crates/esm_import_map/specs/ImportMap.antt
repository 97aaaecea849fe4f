-- What an import map says, once it is read.
use Rattle.std.specs.Prelude.{[], Option, refl}
use Rattle.std.specs.Coded.{Coded, code_by, coded×, coded_ℕ, coded_list, coded_option}
use Rattle.url.specs.Parts.{Parts, parts_code}
use Rattle.esm_base.specs.TextMap.{TextMapView}

-- HTML, module specifier map: from each key to its address, or to none
abbrev pub SpecifierMap : Type 0
SpecifierMap = TextMapView (Option Parts)

-- HTML, import map: the specifiers mapped everywhere, and those mapped within a scope, by the scope's prefix
pub record Maps : Type 0 where
  pub imports : SpecifierMap
  pub scopes : TextMapView SpecifierMap

-- HTML, empty import map
abbrev pub no_maps : Maps
no_maps = record { imports = []; scopes = [] }

-- ---- how the logic stores the record: plumbing that no clause cites, which a reader can skip

abbrev specifiers_code : Coded SpecifierMap
specifiers_code = coded_list (coded× (coded_list coded_ℕ) (coded_option parts_code))

abbrev scopes_code : Coded (TextMapView SpecifierMap)
scopes_code = coded_list (coded× (coded_list coded_ℕ) specifiers_code)

abbrev pub maps_code : Coded Maps
maps_code =
    code_by (SpecifierMap × TextMapView SpecifierMap) (coded× specifiers_code scopes_code) (λ m. (m.imports, m.scopes))
    (λ p. record { imports = p.0; scopes = p.1 }) (λ _. refl)
