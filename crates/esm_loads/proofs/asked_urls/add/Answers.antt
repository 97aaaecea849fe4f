-- The key is the URL.
use Rattle.std.proofs.Common.{◌≡◌, ℕ, List, ◌++◌, ◌∷◌, [], ap, subst, ◌∙◌}
use Rattle.std.specs.Prelude.{OnOk, bytes_eq}
use Rattle.esm_base.specs.Lists.{is_in}
use Rattle.esm_loads.proofs.asked_urls.add.Goals as goal

pub insert_new-requires : goal.insert_new-requires
insert_new-requires c = ap (λ k. is_in bytes_eq c.args.urls.now k) c.in_ok-key.ensures ∙ c.requires

pub returns-clause-urls : goal.returns-clause-urls
returns-clause-urls c =
    subst (λ (k : List ℕ). OnOk c.insert_new.result (c.insert_new.new.self ≡ c.args.urls.now ++ k ∷ [])) c.in_ok-key.ensures c.insert_new.ensures.texts
