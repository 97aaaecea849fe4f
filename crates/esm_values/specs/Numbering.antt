-- Numbers for texts, as for the URLs of modules: given texts have the first numbers, in order, and each other text has one too.
use Rattle.std.proofs.Common.{◌≡◌, ℕ, suc, List, [], ◌∷◌, Some, refl, ap, sym, ◌∙◌, arith}
use Rattle.std.proofs.lemmas.Bool.Decides.{nat_tests}
use Rattle.std.specs.Prelude.{if◌then◌else◌, nat_eq, slice_get}
use Rattle.esm_base.specs.Urls.{Text, Url, same_url}
use Rattle.esm_base.specs.Lists.{EachOnce}
use Rattle.esm_values.specs.Naming.{Naming, IsTotal}
use Rattle.esm_values.specs.Numerals.{text_at, numeral, number_is, text_is}

-- each number is of one text, and each text has one number
pub record Numbers : Type 0 where
  pub text : ℕ → Text
  pub number : Text → ℕ
  pub back : (i : ℕ) → number (text i) ≡ i
  pub only : (t : Text) → text (number t) ≡ t

abbrev pub all_texts : Numbers
all_texts = record { text = text_at; number = numeral; back = number_is; only = text_is }

-- i and j change places
abbrev pub exchanged : ℕ → ℕ → ℕ → ℕ
exchanged i j n = if nat_eq n i then j else if nat_eq n j then i else n

pub twice : (i j n : ℕ) → exchanged i j (exchanged i j n) ≡ n
twice i j n = grind (arith, nat_tests)

-- the texts of two numbers change places
abbrev pub exchange : ℕ → ℕ → Numbers → Numbers
exchange i j ns = record {
  text = λ n. ns.text (exchanged i j n);
  number = λ t. exchanged i j (ns.number t);
  back = λ n. ap (exchanged i j) (ns.back (exchanged i j n)) ∙ twice i j n;
  only = λ t. ap ns.text (twice i j (ns.number t)) ∙ ns.only t;
}

-- these texts have the numbers from i on, in order. What had such a number has that of the text in its place
abbrev pub placed : ℕ → List Text → Numbers → Numbers
placed i [] ns = ns
placed i (t ∷ ts) ns = placed (suc i) ts (exchange i (ns.number t) ns)

pub only_one : (ns : Numbers) (t : Text) (i : ℕ) → Some (ns.number t) ≡ Some i → ns.text i ≡ t
only_one ns t i e = let same : ns.number t ≡ i = cc in ap ns.text (sym same) ∙ ns.only t

abbrev pub naming_of : Numbers → Naming ℕ Text
naming_of ns = record { name = ns.text; of = λ t. Some (ns.number t); back = λ i. ap Some (ns.back i); only = only_one ns }

-- number i names the i-th of these URLs, and each URL has a number
unfoldable pub numbering : List Url → Naming ℕ Url
numbering urls = naming_of (placed 0 urls all_texts)

pub is_total : (urls : List Url) → IsTotal (numbering urls)
unfolding numbering
is_total urls u = ((placed 0 urls all_texts).number u, refl)

-- what is said of them
pub record NumbersUrls : Type 0 where
  pub begins : (urls : List Url) (i : ℕ) (u : Url) → EachOnce same_url urls → slice_get urls i ≡ Some u → (numbering urls).name i ≡ u
  pub total : (urls : List Url) → IsTotal (numbering urls)
