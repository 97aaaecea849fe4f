-- The texts that are given have the first numbers.
use Rattle.std.proofs.Common.{◌≡◌, ℕ, zero, suc, ◌+◌, ◌<◌, Bool, true, false, List, [], ◌∷◌, Some, refl, ap, subst, sym, ◌∙◌, arith}
use Rattle.std.proofs.lemmas.Bool.Decides.{nat_tests}
use Rattle.std.proofs.lemmas.Slice.Eq.{bytes_eq-Decides}
use Rattle.std.specs.Prelude.{slice_get, ◌||◌}
use Rattle.esm_base.specs.Urls.{Text, same_url}
use Rattle.esm_base.specs.Lists.{is_in, EachOnce}
use Rattle.esm_values.specs.Numbering.{Numbers, all_texts, exchanged, exchange, placed, numbering, is_total, NumbersUrls}

first_false : (a b : Bool) → (a || b) ≡ false → a ≡ false
first_false true b h = h
first_false false b h = refl

rest_false : (a b : Bool) → (a || b) ≡ false → b ≡ false
rest_false true b h = cc
rest_false false b h = h

true_false : (b : Bool) → b ≡ true → b ≡ false → ⊥
true_false true h k = cc
true_false false h k = cc

same_true : (t u : Text) → t ≡ u → same_url t u ≡ true
same_true t u e = (bytes_eq-Decides t u).1 e

exchanged_first : (i j : ℕ) → exchanged i j i ≡ j
exchanged_first i j = grind (arith, nat_tests)

exchanged_other : (i j n : ℕ) → n < i → (n ≡ j → ⊥) → exchanged i j n ≡ n
exchanged_other i j n h k = grind (arith, nat_tests)

-- a lower number keeps its text, where that isn't placed
stays : (ts : List Text) (i : ℕ) (ns : Numbers) (n : ℕ) → n < i → is_in same_url ts (ns.text n) ≡ false → (placed i ts ns).text n ≡ ns.text n
stays [] i ns n h out = refl
stays (t ∷ ts) i ns n h out =
    let j : ℕ = ns.number t in
    let apart : n ≡ j → ⊥ = λ e. true_false (same_url (ns.text n) t) (same_true (ns.text n) t (ap ns.text e ∙ ns.only t)) (first_false (same_url (ns.text n) t) (is_in same_url ts (ns.text n)) out) in
    let one : ns.text (exchanged i j n) ≡ ns.text n = ap ns.text (exchanged_other i j n h apart) in
    stays ts (suc i) (exchange i j ns) n (omega (arith, h)) (subst (λ x. is_in same_url ts x ≡ false) (sym one) (rest_false (same_url (ns.text n) t) (is_in same_url ts (ns.text n)) out)) ∙ one

begins : (ts : List Text) (i : ℕ) (ns : Numbers) (k : ℕ) (t : Text) → EachOnce same_url ts → slice_get ts k ≡ Some t → (placed i ts ns).text (i + k) ≡ t
begins [] i ns k t d e = cc
begins (u ∷ us) i ns zero t d e =
    let j : ℕ = ns.number u in
    let one : ns.text (exchanged i j i) ≡ u = ap ns.text (exchanged_first i j) ∙ ns.only u in
    let at : i + 0 ≡ i = omega arith in
    let same : u ≡ t = cc in
    ap (λ n. (placed i (u ∷ us) ns).text n) at
    ∙ (stays us (suc i) (exchange i j ns) i (omega arith) (subst (λ x. is_in same_url us x ≡ false) (sym one) d.0) ∙ (one ∙ same))
begins (u ∷ us) i ns (suc k) t d e =
    let at : i + suc k ≡ suc i + k = omega arith in
    ap (λ n. (placed i (u ∷ us) ns).text n) at ∙ begins us (suc i) (exchange i (ns.number u) ns) k t d.1 e

pub numbers_urls : NumbersUrls
unfolding numbering
numbers_urls = record {
  begins = λ urls i u d e. let at : i ≡ 0 + i = omega arith in ap (λ n. (placed 0 urls all_texts).text n) at ∙ begins urls 0 all_texts i u d e;
  total = is_total;
}
