use Rattle.std.proofs.Common.{◌≡◌, ◌∙◌, ap, sym, refl, ◌++◌, None, Some, option_map, lit<}
use Rattle.std.specs.Prelude.{codes}
use Rattle.std.proofs.lemmas.Fmt.{decimal_digit}
use Rattle.url.specs.Parts.{serialize}
use Rattle.url.proofs.OnLiterals.{url_on_literals}
use Rattle.esm_base.specs.Urls.{url_of}
use Rattle.esm_gen.specs.Generated.{module_url}
use Rattle.esm_gen.proofs.laws.names_entry.Goals as goal

zero_text : codes "https://gen.test/m0.js" ≡ module_url 0
zero_text = ap (λ digits. codes "https://gen.test/m" ++ digits ++ codes ".js") (sym (decimal_digit 0 (lit< tt)))

read : option_map serialize (url_of (url_of None (codes "https://gen.test/")) (codes "m0.js")) ≡ Some (codes "https://gen.test/m0.js")
unfolding url_on_literals
read = refl

pub returns : goal.returns
returns c = read ∙ ap (λ text. Some text) zero_text
