-- What `strip_prefix` and `strip_suffix` leave of a text, and the numbers of URLs.
use Rattle.std.proofs.Common.{◌≡◌, ◌∙◌, ap, sym, ℕ, ◌<◌, ◌≤◌, ◌^◌, List, ◌++◌, Some, None, arith}
use Rattle.std.specs.Prelude.{Option, Result, Ok, unwrap_or}
use Rattle.std.specs.Result.{result_unwrap_or}
use Rattle.std.specs.Option.{MatchOption, option_copied}
use Rattle.std.specs.Str.Pattern.{FindsTextPrefix, FindsTextSuffix, StripsPrefix, StripsSuffix}
use Rattle.std.proofs.lemmas.List.{append_cancel_left, append_cancel_right}
use denote.Ref.{Bor}
use Rattle.esm_base.specs.Urls.{Url}
use Rattle.esm_gen.specs.Generated.{generated_at, module_text}
use Rattle.esm_gen.specs.Held.{IsNumberOf}
use Rattle.esm_gen.proofs.FileLemmas.{found, not_found, one_number}

-- a text with this front leaves the rest
pub front_cut : (p s : List ℕ) (r : Option (Bor (List ℕ))) → MatchOption r (FindsTextPrefix p s None) (λ x. StripsPrefix (FindsTextPrefix p) s x.now) → (rest : List ℕ) → s ≡ p ++ rest
    → option_copied r ≡ Some rest
front_cut p s None h rest is = absurd (h rest is)
front_cut p s (Some x) (k, is_found, cut, len) rest is =
    ap Some (append_cancel_left p x.now rest (ap (λ l. p ++ l) cut ∙ (sym is_found.1 ∙ is)))

-- and one with this back leaves the front
pub back_cut : (p s : List ℕ) (r : Option (Bor (List ℕ))) → MatchOption r (FindsTextSuffix p s None) (λ x. StripsSuffix (FindsTextSuffix p) s x.now) → (front : List ℕ) → s ≡ front ++ p
    → option_copied r ≡ Some front
back_cut p s None h front is = absurd (h front is)
back_cut p s (Some x) (k, is_found, cut, len) front is =
    ap Some (append_cancel_right x.now front p (ap (λ l. l ++ p) cut ∙ (sym is_found.1 ∙ is)))

pub the_same : (a b : List ℕ) → Some a ≡ Some b → a ≡ b
the_same a b e = ap (λ o. unwrap_or o a) e

pub ok_same : {E : Type 0} (r : Result ℕ E) (a b : ℕ) → r ≡ Ok a → r ≡ Ok b → a ≡ b
ok_same r a b p q = ap (λ x. result_unwrap_or x a) (sym p ∙ q)

-- where no module has the URL, nothing stands there
pub nothing_at : (start count : ℕ) (url : Url) → count < 2 ^ 32 → IsNumberOf url None → None ≡ generated_at start count url
nothing_at start count url small none = sym (not_found start count 0 count url (λ i below. none i (omega (arith, below, small))))

-- nor where its number is none of those of the modules
pub nothing_above : (start count number : ℕ) (url : Url) → count ≤ number → IsNumberOf url (Some number) → None ≡ generated_at start count url
nothing_above start count number url high (small, is) =
    sym (not_found start count 0 count url (λ i below same.
    let e : number ≡ i = one_number number i (omega (arith, small)) (omega (arith, below, high, small)) (sym is ∙ same) in
    omega (arith, e, below, high)))

-- else its text does
pub text_of : (start count number : ℕ) (url : Url) → number < count → count < 2 ^ 32 → IsNumberOf url (Some number) → Some (module_text start count number) ≡ generated_at start count url
text_of start count number url low small (fits, is) =
    sym (ap (generated_at start count) is ∙ found start count 0 count number (omega arith) (omega (arith, low)) (omega (arith, small)))
