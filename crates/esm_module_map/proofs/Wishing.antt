-- URLs are copied one by one.
use Rattle.std.proofs.Common.{◌≡◌, ℕ, ◌+◌, ◌<◌, List, [], ◌∷◌, ◌++◌, length, map, drop, get_or, sym, ap, ◌∙◌, subst, append_assoc}
use Rattle.std.specs.Prelude.{All}
use Rattle.std.proofs.lemmas.List.{map-append, drop_more}
use Rattle.std.proofs.lemmas.List.Elements.{All-nil, All-cons, All-append, All-get_or}
use Rattle.esm_base.specs.Urls.{Url, IsUsable}
use Rattle.esm_module_map.specs.declared.state.Wish.{Wish}
use Rattle.esm_module_map.specs.Inner.Wishes.{wished, IsWish}

pub wished_more : (all : List Url) (made more : List Wish) (i : ℕ) (item : Url) (w : Wish) → map wished made ++ drop i all ≡ all → All IsWish made → All IsUsable all → i < length all → item ≡ get_or all i item
    → w.url ≡ item → w.key ≡ item → more ≡ made ++ w ∷ [] → (map wished more ++ drop (i + 1) all ≡ all) × All IsWish more
wished_more all made more i item w so each usable within is url key grew = (
  ap (λ l. map wished l ++ drop (i + 1) all) grew ∙ ap (λ l. l ++ drop (i + 1) all) (map-append wished made (w ∷ [])) ∙ append_assoc (map wished made) (w.url ∷ []) (drop (i + 1) all)
      ∙ ap (λ l. map wished made ++ l) (ap (λ u. u ∷ drop (i + 1) all) (url ∙ is) ∙ sym (drop_more all i item within)) ∙ so,
  subst (All IsWish) (sym grew) (All-append IsWish made (w ∷ []) each (All-cons IsWish w [] (key ∙ sym url, subst IsUsable (sym (url ∙ is)) (All-get_or IsUsable all i item within usable)) (All-nil IsWish))),
)
