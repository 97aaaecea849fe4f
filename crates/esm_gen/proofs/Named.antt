-- What an import names: its specifier, read against the URL of any module.
use Rattle.std.proofs.Common.{◌≡◌, ◌≢◌, ◌∙◌, ap, refl, ℕ, ◌-◌, ◌<◌, ◌≤◌, ◌^◌, not, List, [], ◌∷◌, length, get_or, true, false, Some, None, Ok, All, arith, lit≤, take_all}
use Rattle.std.specs.Prelude.{codes, Option, option_map, unwrap_or, reverse}
use Rattle.std.specs.List.{prefix_len}
use Rattle.std.specs.Result.{result_ok}
use Rattle.std.proofs.Math.Nat.{sub-zero}
use Rattle.std.proofs.lemmas.Bool.{cond-false, lt-leb}
use Rattle.std.proofs.lemmas.Bool.Decides.{nat_tests}
use Rattle.std.proofs.lemmas.List.{get_or-reverse, length-reverse}
use Rattle.std.proofs.lemmas.List.Elements.{All-nil, All-cons, All-weaker}
use Rattle.percent_encoding.proofs.PercentLemmas.{percent_encode_unchanged}
use Rattle.url.specs.declared.sets.TheConstants.{PATH}
use Rattle.url.specs.declared.scheme.SchemeType.TheVariants.{SpecialNotFile}
use Rattle.url.specs.Head.{head_only}
use Rattle.url.specs.Input.{is_c0_control_or_space, is_tab_or_new_line, trim_c0_control_and_space, strip_tabs_and_new_lines, split_once}
use Rattle.url.specs.Parser.{Parsed, and_then, before_tail, leading_slashes, parse_body, parse_by_scheme, parse_parts, parse_relative, parse_url, split_scheme, with_path, with_tail}
use Rattle.url.specs.Parts.{Parts, serialize}
use Rattle.url.specs.Path.{dot_count, parse_path, push_segment, shorten_path}
use Rattle.url.specs.Scheme.{default_port, scheme_len, scheme_type}
use Rattle.url.proofs.InputLemmas.{IsNot, Passes, filter_all, is_empty_nonempty, rsplit_once_at, split_once_none}
use Rattle.url.proofs.PathLemmas.{parse_path_last, parse_path_more}
use Rattle.esm_base.specs.Urls.{url_of}
use Rattle.esm_gen.specs.Generated.{module_url}
use Rattle.esm_gen.specs.Laws.{specifier_of}
use Rattle.esm_gen.proofs.Usable.{in_segment, is_segment, plain, reads, segment, text_is, the_url}

-- ---- the bytes of a specifier

abbrev IsNameByte : ℕ → Type 0
IsNameByte b = (46 ≤ b) × (b ≢ 63)

dot_byte : IsNameByte 46
dot_byte = (lit≤ tt, λ e. omega (arith, e))

slash_byte : IsNameByte 47
slash_byte = (lit≤ tt, λ e. omega (arith, e))

letter : (b : ℕ) → 64 ≤ b → IsNameByte b
letter b high = (omega (arith, high), λ e. omega (arith, e, high))

name_bytes : (j : ℕ) → j < 2 ^ 64 → All IsNameByte (specifier_of j)
name_bytes j small =
    let P = IsNameByte in
    let back = All-cons P 46 (106 ∷ 115 ∷ []) dot_byte (All-cons P 106 (115 ∷ []) (letter 106 (lit≤ tt)) (All-cons P 115 [] (letter 115 (lit≤ tt)) (All-nil P))) in
    let digits : (b : ℕ) → (48 ≤ b) × (b ≤ 57) → IsNameByte b = λ b digit. (omega (arith, digit.0), λ e. omega (arith, e, digit.1)) in
    All-cons P 46 (47 ∷ segment j) dot_byte (All-cons P 47 (segment j) slash_byte (in_segment P j small (All-cons P 109 [] (letter 109 (lit≤ tt)) (All-nil P)) digits back))

no_slash : (i : ℕ) → i < 2 ^ 64 → All (IsNot 47) (segment i)
no_slash i small =
    let P = IsNot 47 in
    let back = All-cons P 46 (106 ∷ 115 ∷ []) (λ e. omega (arith, e)) (All-cons P 106 (115 ∷ []) (λ e. omega (arith, e)) (All-cons P 115 [] (λ e. omega (arith, e)) (All-nil P))) in
    let digits : (b : ℕ) → (48 ≤ b) × (b ≤ 57) → b ≢ 47 = λ b digit e. omega (arith, e, digit.0) in
    in_segment P i small (All-cons P 109 [] (λ e. omega (arith, e)) (All-nil P)) digits back

-- ---- nothing is trimmed, stripped or cut off

none_at_front : (xs : List ℕ) → (0 < length xs → 32 < get_or xs 0 0) → prefix_len is_c0_control_or_space xs ≡ 0
none_at_front [] first = refl
none_at_front (x ∷ xs) first = cond-false _ _ _ (lt-leb x 32 (first (omega arith)))

untrimmed : (xs : List ℕ) → All IsNameByte xs → trim_c0_control_and_space xs ≡ xs
unfolding trim_c0_control_and_space
untrimmed xs names =
    let start = none_at_front xs (λ inside. omega (arith, (names 0 0 inside).0)) in
    let len = length-reverse xs in
    let end = none_at_front (reverse xs) (λ inside. rw (get_or-reverse xs 0 0 (omega arith), sub-zero) (omega (arith, (names (length xs - 1) 0 (omega arith)).0))) in
    rw (start, end) (take_all _ xs (omega arith))

unstripped : (xs : List ℕ) → All IsNameByte xs → strip_tabs_and_new_lines xs ≡ xs
unfolding strip_tabs_and_new_lines
unstripped xs names =
    filter_all _ xs (All-weaker IsNameByte (Passes (λ b. not (is_tab_or_new_line b))) (λ b name. let above : 46 ≤ b = name.0 in grind (arith, nat_tests)) xs names)

no_scheme : (j : ℕ) → split_scheme (specifier_of j) ≡ None
unfolding split_scheme scheme_len
no_scheme j = refl

-- ---- the path

shortened : (i : ℕ) → i < 2 ^ 64 → shorten_path SpecialNotFile (47 ∷ segment i) ≡ []
unfolding shorten_path
shortened i small = ap (λ (r : Option (List ℕ) × List ℕ). unwrap_or r.0 []) (rsplit_once_at 47 [] (segment i) (no_slash i small))

dotted : push_segment SpecialNotFile [] (46 ∷ []) false ≡ []
unfolding push_segment dot_count
dotted = refl

pushed : (j : ℕ) → j < 2 ^ 64 → push_segment SpecialNotFile [] (segment j) true ≡ 47 ∷ segment j
unfolding push_segment dot_count
pushed j small = ap (λ t. 47 ∷ t) (percent_encode_unchanged PATH (segment j) (is_segment j small).escaped)

path_read : (j : ℕ) → j < 2 ^ 64 → parse_path SpecialNotFile [] (specifier_of j) ≡ 47 ∷ segment j
path_read j small =
    parse_path_more SpecialNotFile [] (46 ∷ []) 47 (segment j) (plain (46 ∷ []) refl) refl
    ∙ (ap (λ path. parse_path SpecialNotFile path (segment j)) dotted
    ∙ (parse_path_last SpecialNotFile [] (segment j) (is_segment j small).whole
    ∙ pushed j small))

-- ---- the whole

relative : (i j : ℕ) → i < 2 ^ 64 → j < 2 ^ 64 → parse_relative (the_url i) (specifier_of j) ≡ Ok (the_url j)
unfolding parse_relative leading_slashes scheme_type default_port
relative i j low small =
    let at : List ℕ → List ℕ → Parsed Parts = λ front path. Ok (with_path (with_path (head_only (the_url i)) front) path) in
    ap (λ front. at front (parse_path SpecialNotFile front (specifier_of j))) (shortened i low)
    ∙ ap (λ path. at [] path) (path_read j small)

body_read : (i j : ℕ) → i < 2 ^ 64 → j < 2 ^ 64 → parse_parts (codes "https") (Some (the_url i)) (specifier_of j) None None ≡ Ok (the_url j)
unfolding parse_parts parse_body scheme_type default_port
body_read i j low small =
    cond-false _ _ _ (is_empty_nonempty (specifier_of j) (omega arith))
    ∙ ap (λ r. and_then r (λ u. Ok (with_tail (before_tail u None None) None None))) (relative i j low small)

parsed : (i j : ℕ) → i < 2 ^ 64 → j < 2 ^ 64 → parse_url (Some (the_url i)) (specifier_of j) ≡ Ok (the_url j)
unfolding parse_url
parsed i j low small =
    let s = specifier_of j in
    let names = name_bytes j small in
    let clean = ap strip_tabs_and_new_lines (untrimmed s names) ∙ unstripped s names in
    let hash = ap (split_once 35) clean ∙ split_once_none 35 s (All-weaker IsNameByte (IsNot 35) (λ b name e. omega (arith, e, name.0)) s names) in
    let question = ap (λ r. split_once 63 r.0) hash ∙ split_once_none 63 s (All-weaker IsNameByte (IsNot 63) (λ b name. name.1) s names) in
    let scheme = ap (λ r. split_scheme r.0) question ∙ no_scheme j in
    (λ k. parse_by_scheme (scheme k) (Some (the_url i)) (question k).0 (question k).1 (hash k).1) ∙ body_read i j low small

pub imports : (i j : ℕ) → i < 2 ^ 32 → j < 2 ^ 32 → option_map serialize (url_of (url_of None (module_url i)) (specifier_of j)) ≡ Some (module_url j)
imports i j low small =
    ap (λ (r : Parsed Parts). option_map serialize (url_of (result_ok r) (specifier_of j))) (reads i (omega arith))
    ∙ (ap (λ (r : Parsed Parts). option_map serialize (result_ok r)) (parsed i j (omega arith) (omega arith))
    ∙ ap (λ t. Some t) (text_is j))
