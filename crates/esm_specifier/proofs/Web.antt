-- The text of a web URL is canonical.
use Rattle.std.proofs.Common.{◌≡◌, ℕ, List, length, None, Bool, true, false, refl, sym, ap, ◌∙◌}
use Rattle.std.specs.Prelude.{nat_le, bytes_eq, codes, not, ◌&&◌}
use Rattle.std.specs.Result.{result_ok}
use Rattle.std.proofs.lemmas.Bool.{not-true}
use Rattle.std.proofs.lemmas.Slice.Eq.{bytes_eq-Decides}
use Rattle.url.specs.Parts.{Parts, serialize, kind_of, IsValid}
use Rattle.url.specs.Scheme.{scheme_type, is_special}
use Rattle.url.specs.declared.scheme.SchemeType.{SchemeType}
use Rattle.url.specs.declared.scheme.SchemeType.TheVariants.{File, SpecialNotFile, NotSpecial}
use Rattle.url.proofs.SchemeLemmas.{file_from_scheme_type}
use Rattle.url.proofs.Theorems.{parse_url-serialize_special}
use Rattle.esm_base.specs.declared.limits.TheConstants.{MAX_URL_BYTES}
use Rattle.esm_base.specs.Urls.{is_text_of, is_canonical, is_usable}

by_kind : (kind : SchemeType) (scheme : List ℕ) → scheme_type scheme ≡ kind → is_special kind ≡ true → bytes_eq scheme (codes "file") ≡ false → kind ≡ SpecialNotFile
by_kind File scheme is special other =
    let same : bytes_eq scheme (codes "file") ≡ true = (bytes_eq-Decides scheme (codes "file")).1 (file_from_scheme_type scheme is) in
    absurd (cc)
by_kind SpecialNotFile scheme is special other = refl
by_kind NotSpecial scheme is special other = absurd (cc)

-- a special scheme that isn't `file`
pub web_kind : (url : Parts) → is_special (kind_of url) ≡ true → (b : Bool) → b ≡ not (bytes_eq url.scheme (codes "file")) → b ≡ true → kind_of url ≡ SpecialNotFile
web_kind url special b is other = by_kind (kind_of url) url.scheme refl special (not-true _ (sym is ∙ other))

canonical : (url : Parts) → IsValid url → kind_of url ≡ SpecialNotFile → is_canonical (serialize url) ≡ true
canonical url valid kind =
    ap (λ read. is_text_of (serialize url) (result_ok read)) (parse_url-serialize_special url None valid kind)
    ∙ (bytes_eq-Decides (serialize url) (serialize url)).1 refl

and_true : (a b : Bool) → b ≡ true → (a && b) ≡ a
and_true true b is = is
and_true false b is = refl

-- it is usable where it is short
pub web_usable : (url : Parts) (b : Bool) → IsValid url → kind_of url ≡ SpecialNotFile → b ≡ nat_le (length (serialize url)) MAX_URL_BYTES → b ≡ is_usable (serialize url)
web_usable url b valid kind short =
    short ∙ sym (and_true (nat_le (length (serialize url)) MAX_URL_BYTES) (is_canonical (serialize url)) (canonical url valid kind))
