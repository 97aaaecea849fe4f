-- What stays as a history grows.
use Rattle.std.proofs.Common.{◌≡◌, ℕ, List, [], ◌∷◌, ◌++◌, sym, refl, subst, append_assoc, append-nil, Some, slice_get}
use Rattle.esm_base.specs.Urls.{Url}
use Rattle.esm_module_map.specs.declared.event.MapEvent.{MapEvent}
use Rattle.esm_module_map.specs.Replay.{replay}
use Rattle.esm_module_map.specs.Histories.{IsPostIn}
use Rattle.esm_module_map.specs.Saying.{Begins}
use Rattle.esm_module_map.proofs.Calls.{get_append}
use Rattle.esm_module_map.proofs.Told.{url_more}

module _ {P G : Type 0} where
  pub post_stays : (n : ℕ) (p : P) (old new : List (MapEvent P G)) → Begins old new → IsPostIn old n p → IsPostIn new n p
  post_stays n p old new (rest, is) (k, e, at, posts) = subst (λ l. IsPostIn l n p) (sym is) (k, e, get_append old rest k e at, posts)

  module _ (weight : P → ℕ) where
    url_along : (n : ℕ) (u : Url) (old rest : List (MapEvent P G)) → slice_get (replay weight old).urls n ≡ Some u → slice_get (replay weight (old ++ rest)).urls n ≡ Some u
    url_along n u old [] h = subst (λ l. slice_get (replay weight l).urls n ≡ Some u) (sym (append-nil old)) h
    url_along n u old (e ∷ rest) h = subst (λ l. slice_get (replay weight l).urls n ≡ Some u) (append_assoc old (e ∷ []) rest) (url_along n u (old ++ e ∷ []) rest (url_more weight n u old (old ++ e ∷ []) e refl h))

    pub url_stays : (n : ℕ) (u : Url) (old new : List (MapEvent P G)) → Begins old new → slice_get (replay weight old).urls n ≡ Some u → slice_get (replay weight new).urls n ≡ Some u
    url_stays n u old new (rest, is) h = subst (λ l. slice_get (replay weight l).urls n ≡ Some u) (sym is) (url_along n u old rest h)
