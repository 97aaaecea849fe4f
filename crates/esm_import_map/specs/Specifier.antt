-- The URL that a specifier is.
use Rattle.std.specs.Prelude.{ℕ, List, codes, Bool, ◌||◌, Option, Some, None, nat_eq, if◌then◌else◌}
use Rattle.std.specs.List.{starts_with, ends_with}
use Rattle.url.specs.Parts.{Parts}
use Rattle.esm_base.specs.Urls.{url_of}

-- the text begins with another
abbrev pub begins_with : List ℕ → List ℕ → Bool
begins_with text front = starts_with nat_eq text front

-- the text ends in `/`
abbrev pub ends_in_slash : List ℕ → Bool
ends_in_slash text = ends_with nat_eq text (codes "/")

-- the text begins with `/`, `./` or `../`
abbrev pub is_relative : List ℕ → Bool
is_relative text = begins_with text (codes "/") || begins_with text (codes "./") || begins_with text (codes "../")

-- HTML, resolve a URL-like module specifier
abbrev pub url_like : Parts → List ℕ → Option Parts
url_like base specifier = url_of (if is_relative specifier then Some base else None) specifier
