-- The numbers of URLs, and the URLs of numbers, where these URLs have the first ones.
use Rattle.std.proofs.Common.{◌≡◌, ℕ, List, Some, sym, ◌∙◌}
use Rattle.esm_base.specs.Urls.{Url}
use Rattle.esm_values.specs.Numbering.{numbering, is_total}

one_number : (m n : ℕ) → Some m ≡ Some n → m ≡ n
one_number m n e = cc

-- ---- numbers and URLs

module _ (urls : List Url) where
  abbrev pub url : ℕ → Url
  url m = (numbering urls).name m

  abbrev pub number : Url → ℕ
  number u = (is_total urls u).0

  pub url_number : (u : Url) → url (number u) ≡ u
  url_number u = (numbering urls).only u (number u) ((is_total urls u).1)

  pub number_url : (m : ℕ) → number (url m) ≡ m
  number_url m = one_number (number (url m)) m (sym ((is_total urls (url m)).1) ∙ (numbering urls).back m)
