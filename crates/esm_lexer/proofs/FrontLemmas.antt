-- Parts of a text whose characters are at hand.
use Rattle.std.proofs.Common.{◌≡◌, ℕ, zero, suc, ◌+◌, ◌-◌, Bool, true, false, ◌&&◌, List, [], ◌∷◌, ◌++◌, length, take, drop, encode_utf8, encode_utf8_all, refl, sym, subst, ap, ◌∙◌, arith, length-append}
use Rattle.std.proofs.lemmas.List.{take-append-drop}
use Rattle.std.proofs.lemmas.List.Sums.{sum_by-append}
use Rattle.std.proofs.lemmas.Str.{encodes_same, IsCharBoundary-at_seam}
use Rattle.std.proofs.Math.Seq.{take-append_seam, drop-append_seam}
use Rattle.std.specs.Str.{IsUtf8, IsCharBoundary}
use Rattle.std.specs.List.{slice_range}
use lib.Utf8.{scalars}
use Rattle.esm_grammar.specs.Lexes.{widths}
use Rattle.esm_lexer.proofs.TokenLemmas.{encode_append}

second : (a b : Bool) → (a && b) ≡ true → b ≡ true
second true b p = p
second false b p = absurd (cc)

scalars_behind : (cs : List ℕ) (n : ℕ) → scalars cs ≡ true → scalars (drop n cs) ≡ true
scalars_behind [] zero h = h
scalars_behind [] (suc n) h = h
scalars_behind (c ∷ cs) zero h = h
scalars_behind (c ∷ cs) (suc n) h = scalars_behind cs n (second _ _ h)

-- what is behind some characters of a text is a text
pub utf8_behind : (source : List ℕ) (cs : List ℕ) (n : ℕ) → IsUtf8 source → source ≡ encode_utf8_all cs → IsUtf8 (encode_utf8_all (drop n cs))
utf8_behind source cs n u e =
    let same : u.0 ≡ cs = encodes_same u.0 cs (u.1.1 ∙ e) in
    (drop n cs, (scalars_behind cs n (subst (λ l. scalars l ≡ true) same u.1.0), refl))

pub widths_are : (cs : List ℕ) → length (encode_utf8_all cs) ≡ widths cs
widths_are [] = refl
widths_are (c ∷ cs) =
    let both : widths (c ∷ cs) ≡ widths (c ∷ []) + widths cs = sum_by-append (λ d. length (encode_utf8 d)) (c ∷ []) cs in
    omega (arith, length-append (encode_utf8 c) (encode_utf8_all cs), widths_are cs, both)

-- the seam between the first characters and those behind them
pub seam : (source : List ℕ) (cs : List ℕ) (n : ℕ) → source ≡ encode_utf8_all cs → source ≡ encode_utf8_all (take n cs) ++ encode_utf8_all (drop n cs)
seam source cs n e = e ∙ ap encode_utf8_all (sym (take-append-drop n cs)) ∙ encode_append (take n cs) (drop n cs)

pub front_len : (cs : List ℕ) (n : ℕ) → length (encode_utf8_all (take n cs)) ≡ widths (take n cs)
front_len cs n = widths_are (take n cs)

pub cut_at : (source cs : List ℕ) (n w : ℕ) → IsUtf8 source → source ≡ encode_utf8_all cs → w ≡ widths (take n cs) → IsCharBoundary source w
cut_at source cs n w u e is =
    let place : length (encode_utf8_all (take n cs)) ≡ w = front_len cs n ∙ sym is in
    subst (λ k. IsCharBoundary source k) place (IsCharBoundary-at_seam source (encode_utf8_all (take n cs)) (encode_utf8_all (drop n cs)) (seam source cs n e) (utf8_behind source cs n u e))

pub front_is : (source cs : List ℕ) (n w : ℕ) → source ≡ encode_utf8_all cs → w ≡ widths (take n cs) → take w source ≡ encode_utf8_all (take n cs)
front_is source cs n w e is = rw (is, ← front_len cs n, seam source cs n e) (take-append_seam (encode_utf8_all (take n cs)) (encode_utf8_all (drop n cs)))

pub behind_is : (source cs : List ℕ) (n w : ℕ) → source ≡ encode_utf8_all cs → w ≡ widths (take n cs) → drop w source ≡ encode_utf8_all (drop n cs)
behind_is source cs n w e is = rw (is, ← front_len cs n, seam source cs n e) (drop-append_seam (encode_utf8_all (take n cs)) (encode_utf8_all (drop n cs)))

pub from_start : (source : List ℕ) (w : ℕ) → slice_range source 0 w ≡ take w source
from_start source w = let same : w - 0 ≡ w = omega arith in ap (λ k. take k source) same
