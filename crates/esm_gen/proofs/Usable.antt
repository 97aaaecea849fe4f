-- The URL of each module may name a module.
use Rattle.std.proofs.Common.{◌≡◌, ◌∙◌, ap, sym, refl, ℕ, ◌+◌, ◌<◌, ◌≤◌, ◌^◌, ◌&&◌, not, nat_le, List, [], ◌∷◌, ◌++◌, Bool, true, false, length, Some, None, Ok, All, arith, append-nil, length-append, inl, lit<}
use Rattle.std.specs.Prelude.{codes, decimal}
use Rattle.std.specs.Int.{IsInRange}
use Rattle.std.specs.List.{list_all}
use Rattle.std.specs.Result.{result_ok}
use Rattle.std.proofs.lemmas.Bool.{and_parts, and_from}
use Rattle.std.proofs.lemmas.Bool.Decides.{nat_tests}
use Rattle.std.proofs.lemmas.Fmt.{length-decimal-le}
use Rattle.std.proofs.lemmas.List.Elements.{All-nil, All-cons, All-append, All-weaker}
use Rattle.std.proofs.lemmas.Slice.Eq.{bytes_eq-Decides}
use Rattle.percent_encoding.specs.declared.ascii_set.AsciiSet.{AsciiSet}
use Rattle.percent_encoding.specs.AsciiSet.{contains}
use Rattle.percent_encoding.specs.Percent.{IsKept}
use Rattle.url.specs.declared.sets.TheConstants.{PATH, USERINFO, FORBIDDEN_DOMAIN}
use Rattle.url.specs.declared.host.Host.TheVariants.{Domain}
use Rattle.url.specs.declared.scheme.SchemeType.TheVariants.{SpecialNotFile}
use Rattle.url.specs.Scheme.{IsScheme, is_slash}
use Rattle.url.specs.Host.{IsDomain}
use Rattle.url.specs.Path.{IsSegment, IsSegmentList, dot_count}
use Rattle.url.specs.Parts.{Parts, kind_of, serialize, IsValid, IsValidHead}
use Rattle.url.specs.Parser.{parse_url}
use Rattle.percent_encoding.proofs.AsciiSetLemmas.{kept_from_outside}
use Rattle.url.proofs.HostRoundTrip.{All-decimal}
use Rattle.url.proofs.OnLiterals.{url_on_literals}
use Rattle.url.proofs.SetLemmas.{kept_from_passes}
use Rattle.url.proofs.Theorems.{parse_url-serialize_special}
use Rattle.esm_base.specs.declared.limits.TheConstants.{MAX_URL_BYTES}
use Rattle.esm_base.specs.Urls.{is_canonical, is_text_of, is_usable}
use Rattle.esm_gen.specs.Generated.{module_url}

-- ---- bytes of a path

abbrev is_digit : ℕ → Bool
is_digit b = nat_le 48 b && nat_le b 57

off : (b : Bool) → not b ≡ true → b ≡ false
off true h = absurd (cc (h))
off false h = refl

kept : (set : AsciiSet) (xs : List ℕ) → list_all (λ b. nat_le b 127 && not (contains set b)) xs ≡ true → All (IsKept set) xs
kept set [] all = All-nil (IsKept set)
kept set (b ∷ xs) all =
    let parts = and_parts (nat_le b 127 && not (contains set b)) (list_all (λ b. nat_le b 127 && not (contains set b)) xs) all in
    let own = and_parts (nat_le b 127) (not (contains set b)) parts.0 in
    All-cons (IsKept set) b xs (kept_from_outside set b (grind (arith, nat_tests, own.0)) (off (contains set b) own.1)) (kept set xs parts.1)

pub plain : (xs : List ℕ) → list_all (λ b. not (is_slash SpecialNotFile b)) xs ≡ true → All (λ b. is_slash SpecialNotFile b ≡ false) xs
plain [] all = All-nil (λ b. is_slash SpecialNotFile b ≡ false)
plain (b ∷ xs) all =
    let parts = and_parts (not (is_slash SpecialNotFile b)) (list_all (λ b. not (is_slash SpecialNotFile b)) xs) all in
    All-cons (λ b. is_slash SpecialNotFile b ≡ false) b xs (off (is_slash SpecialNotFile b) parts.0) (plain xs parts.1)

-- ---- the URL

abbrev pub segment : ℕ → List ℕ
segment i = codes "m" ++ decimal i ++ codes ".js"

abbrev pub the_url : ℕ → Parts
the_url i = record {
  scheme = codes "https";
  username = [];
  password = [];
  host = Some (Domain (codes "gen.test"));
  port = None;
  path = 47 ∷ segment i;
  query = None;
  fragment = None;
}

pub in_segment : (P : ℕ → Type 0) (i : ℕ) → i < 2 ^ 64 → All P (codes "m") → ((b : ℕ) → IsInRange 48 57 b → P b) → All P (codes ".js") → All P (segment i)
in_segment P i small front digits back =
    All-append P (codes "m" ++ decimal i) (codes ".js")
    (All-append P (codes "m") (decimal i) front (All-weaker (IsInRange 48 57) P digits (decimal i) (All-decimal i small))) back

pub is_segment : (i : ℕ) → i < 2 ^ 64 → IsSegment SpecialNotFile (segment i)
unfolding dot_count
is_segment i small = record {
  escaped = in_segment (IsKept PATH) i small (kept PATH (codes "m") refl) (λ b digit. kept_from_passes is_digit PATH refl b (omega (arith, digit)) (grind (arith, nat_tests, digit))) (kept PATH (codes ".js") refl);
  whole = in_segment (λ b. is_slash SpecialNotFile b ≡ false) i small (plain (codes "m") refl) (λ b digit. grind (arith, nat_tests, digit)) (plain (codes ".js") refl);
  resolved = refl;
}

has_segments : (i : ℕ) → i < 2 ^ 64 → IsSegmentList SpecialNotFile (47 ∷ segment i)
has_segments i small = record {
  segments = segment i ∷ [];
  joined = sym (append-nil (47 ∷ segment i));
  each = All-cons (IsSegment SpecialNotFile) (segment i) [] (is_segment i small) (All-nil (IsSegment SpecialNotFile));
}

is_scheme : IsScheme (codes "https")
unfolding url_on_literals
is_scheme = record { nonempty = lit< tt; whole = refl; lower = refl }

is_domain : IsDomain (codes "gen.test")
unfolding url_on_literals
is_domain = record { allowed = kept FORBIDDEN_DOMAIN (codes "gen.test") refl; lower = refl; named = refl }

special : (i : ℕ) → kind_of (the_url i) ≡ SpecialNotFile
unfolding url_on_literals
special i = refl

valid_head : (i : ℕ) → IsValidHead (the_url i)
unfolding url_on_literals
valid_head i = record {
  scheme = is_scheme;
  username = All-nil (IsKept USERINFO);
  password = All-nil (IsKept USERINFO);
  host = (is_domain, lit< tt);
  port = tt;
  bare = λ e. (refl, refl, refl);
}

valid : (i : ℕ) → i < 2 ^ 64 → IsValid (the_url i)
unfolding url_on_literals
valid i small = record { head = valid_head i; path = inl (has_segments i small, λ e. omega arith); query = tt; fragment = tt }

pub text_is : (i : ℕ) → serialize (the_url i) ≡ module_url i
text_is i = ap (λ rest. codes "https://gen.test/m" ++ rest) (append-nil (decimal i ++ codes ".js"))

-- the parser reads its text as this URL
pub reads : (i : ℕ) → i < 2 ^ 64 → parse_url None (module_url i) ≡ Ok (the_url i)
reads i small = ap (parse_url None) (sym (text_is i)) ∙ parse_url-serialize_special (the_url i) None (valid i small) (special i)

canonical : (i : ℕ) → i < 2 ^ 64 → is_canonical (module_url i) ≡ true
canonical i small =
    ap (λ r. is_text_of (module_url i) (result_ok r)) (reads i small) ∙ (bytes_eq-Decides (serialize (the_url i)) (module_url i)).1 (text_is i)

short : (i : ℕ) → i < 2 ^ 32 → nat_le (length (module_url i)) MAX_URL_BYTES ≡ true
short i small =
    let digits : length (decimal i) ≤ 10 = length-decimal-le 10 i (lit< tt) (omega arith) (omega arith) in
    let front : length (codes "https://gen.test/m" ++ decimal i) ≡ 18 + length (decimal i) = length-append (codes "https://gen.test/m") (decimal i) in
    let whole : length (module_url i) ≡ length (codes "https://gen.test/m" ++ decimal i) + 3 = length-append (codes "https://gen.test/m" ++ decimal i) (codes ".js") in
    let fits : length (module_url i) ≤ 8192 = omega (arith, digits, front, whole) in
    grind (arith, nat_tests, fits)

pub usable : (i : ℕ) → i < 2 ^ 32 → is_usable (module_url i) ≡ true
usable i small = and_from (nat_le (length (module_url i)) MAX_URL_BYTES) (is_canonical (module_url i)) (short i small) (canonical i (omega arith))
