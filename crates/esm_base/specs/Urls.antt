-- URLs as texts. A module is named by its URL.
use Rattle.std.specs.Prelude.{◌≡◌, ℕ, Bool, true, false, ◌&&◌, List, length, nat_le, bytes_eq, Option, None, Some}
use Rattle.std.specs.Result.{result_ok}
use Rattle.url.specs.Parser.{parse_url}
use Rattle.url.specs.Parts.{Parts, serialize}
use Rattle.esm_base.specs.declared.limits.TheConstants.{MAX_URL_BYTES}
use Rattle.esm_base.specs.Lists.{is_in}

-- the bytes of a text
abbrev pub Text : Type 0
Text = List ℕ

-- the bytes of a URL's canonical text, its fragment included
abbrev pub Url : Type 0
Url = List ℕ

-- URLs are the same where their texts are
abbrev pub same_url : Url → Url → Bool
same_url = bytes_eq

-- the list has the URL
abbrev pub has : List Url → Url → Bool
has urls u = is_in bytes_eq urls u

-- URL Standard, URL parser: the URL that a text is, against a base where there is one
abbrev pub url_of : Option Parts → Text → Option Parts
url_of base text = result_ok (parse_url base text)

-- URL Standard, URL serializer: this URL serializes to the text
abbrev pub is_text_of : Text → Option Parts → Bool
is_text_of text None = false
is_text_of text (Some url) = bytes_eq (serialize url) text

-- the parser reads the text, and the URL that it is serializes to the same text
abbrev pub is_canonical : Text → Bool
is_canonical text = is_text_of text (url_of None text)

-- own: a URL that names a module is canonical and at most MAX_URL_BYTES long
abbrev pub is_usable : Text → Bool
is_usable text = nat_le (length text) MAX_URL_BYTES && is_canonical text

abbrev pub IsCanonical : Text → Type 0
IsCanonical text = is_canonical text ≡ true

abbrev pub IsUsable : Text → Type 0
IsUsable text = is_usable text ≡ true
