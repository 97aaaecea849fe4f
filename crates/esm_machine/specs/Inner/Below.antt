-- The number of a URL of a list is below its length, also where URLs come twice.
use Rattle.std.proofs.Common.{◌≡◌, ℕ, suc, ◌+◌, ◌<◌, Bool, true, false, List, [], ◌∷◌, refl, ap, subst, sym, ◌∙◌, arith, length}
use Rattle.std.proofs.lemmas.Bool.Decides.{nat_tests}
use Rattle.std.proofs.lemmas.Slice.Eq.{bytes_eq-Decides}
use Rattle.std.specs.Prelude.{◌||◌}
use Rattle.esm_base.specs.Urls.{Text, Url, has, same_url}
use Rattle.esm_base.specs.Lists.{is_in}
use Rattle.esm_values.specs.Numbering.{Numbers, all_texts, exchanged, exchange, placed, numbering}

first_false : (a b : Bool) → (a || b) ≡ false → a ≡ false
first_false true b h = h
first_false false b h = refl

rest_false : (a b : Bool) → (a || b) ≡ false → b ≡ false
rest_false true b h = cc
rest_false false b h = h

first_true : (a b : Bool) → (a || b) ≡ true → b ≡ false → a ≡ true
first_true true b h k = refl
first_true false b h k = cc

true_false : (b : Bool) → b ≡ true → b ≡ false → ⊥
true_false true h k = cc
true_false false h k = cc

same_true : (t u : Text) → t ≡ u → same_url t u ≡ true
same_true t u e = (bytes_eq-Decides t u).1 e

exchanged_first : (i j : ℕ) → exchanged i j i ≡ j
exchanged_first i j = grind (arith, nat_tests)

exchanged_other : (i j n : ℕ) → n < i → (n ≡ j → ⊥) → exchanged i j n ≡ n
exchanged_other i j n h k = grind (arith, nat_tests)

-- a lower number keeps its text, where that isn't placed
stays : (ts : List Text) (i : ℕ) (ns : Numbers) (n : ℕ) → n < i → is_in same_url ts (ns.text n) ≡ false →
    (placed i ts ns).text n ≡ ns.text n
stays [] i ns n h out = refl
stays (t ∷ ts) i ns n h out =
    let j : ℕ = ns.number t in
    let apart : n ≡ j → ⊥ = λ e. true_false (same_url (ns.text n) t) (same_true (ns.text n) t (ap ns.text e ∙ ns.only t))
    (first_false (same_url (ns.text n) t) (is_in same_url ts (ns.text n)) out) in
    let one : ns.text (exchanged i j n) ≡ ns.text n = ap ns.text (exchanged_other i j n h apart) in
    stays ts (suc i) (exchange i j ns) n (omega (arith, h))
    (subst (λ x. is_in same_url ts x ≡ false) (sym one) (rest_false (same_url (ns.text n) t) (is_in same_url ts (ns.text n)) out)) ∙ one

number_in : (ts : List Text) (i : ℕ) (ns : Numbers) (u : Text) → is_in same_url ts u ≡ true → (placed i ts ns).number u < i + length ts
number_in [] i ns u h = absurd (let e : false ≡ true = h in cc)
number_in (t ∷ ts) i ns u h = by (is_in same_url ts u) refl (number_in ts (suc i) (exchange i (ns.number t) ns) u)
  where
    by : (b : Bool) → is_in same_url ts u ≡ b
        → (is_in same_url ts u ≡ true → (placed (suc i) ts (exchange i (ns.number t) ns)).number u < suc i + length ts)
        → (placed i (t ∷ ts) ns).number u < i + length (t ∷ ts)
    by true e later = let l = later e in omega (arith, l)
    by false e later =
        let j : ℕ = ns.number t in
        let late : Numbers = exchange i j ns in
        let one : late.text i ≡ t = ap ns.text (exchanged_first i j) ∙ ns.only t in
        let own : u ≡ t = (bytes_eq-Decides u t).0 (first_true (same_url u t) (is_in same_url ts u) h e) in
        let at : (placed (suc i) ts late).text i ≡ late.text i = stays ts (suc i) late i (omega arith)
        (subst (λ x. is_in same_url ts x ≡ false) (own ∙ sym one) e) in
        let is : (placed (suc i) ts late).number u ≡ i = ap (λ x. (placed (suc i) ts late).number x) (own ∙ sym one ∙ sym at) ∙
        (placed (suc i) ts late).back i in
        omega (arith, is)

pub below : (urls : List Url) (m : ℕ) → has urls ((numbering urls).name m) ≡ true → m < length urls
unfolding numbering
below urls m h =
    let l : (placed 0 urls all_texts).number ((placed 0 urls all_texts).text m) < 0 + length urls = number_in urls 0 all_texts
    ((placed 0 urls all_texts).text m) h in
    let e : (placed 0 urls all_texts).number ((placed 0 urls all_texts).text m) ≡ m = (placed 0 urls all_texts).back m in
    omega (arith, l, e)
