-- What was taken in a turn may be posted in the next.
use Rattle.std.proofs.Common.{◌≡◌, ◌∙◌, ℕ, nat_eq, Bool, true, List, [], ◌∷◌, map, slice_get, sym, ap, subst, Some, Result, Ok, Err}
use Rattle.std.specs.Prelude.{All, IfOk}
use Rattle.std.specs.Arc.{arc_value}
use Rattle.std.proofs.lemmas.List.Elements.{All-nil, All-cons, All-head, All-tail}
use Rattle.esm_base.specs.Lists.{EachOnce}
use Rattle.esm_base.specs.Urls.{Url}
use Rattle.esm_module_map.specs.declared.event.MapEvent.{MapEvent}
use Rattle.esm_module_map.specs.declared.reply.Filled.{Filled}
use Rattle.esm_module_map.specs.declared.reply.Order.{Order}
use Rattle.esm_module_map.specs.Replay.{replay, is_order}
use Rattle.esm_module_map.specs.Fitting.{FitsIn}
use Rattle.esm_module_map.specs.Batches.{AreFilled, number_filled, number_ordered}
use Rattle.esm_module_map.specs.Saying.{IsOrderIn}

module _ {P G : Type 0} (weight : P → ℕ) (fits : G → P → Url → Bool) (h : List (MapEvent P G)) (c : ℕ) where
  abbrev Ordered : Filled P → Type 0
  Ordered f = is_order (replay weight h) c f.number ≡ true

  abbrev Fitting : Filled P → Type 0
  Fitting f = (url : Url) → slice_get (replay weight h).urls f.number ≡ Some url → FitsIn fits h (arc_value f.payload) url

  abbrev Own : Order → Type 0
  Own order = IsOrderIn weight h c order.number order.url

  pub none_filled : AreFilled weight fits h c []
  none_filled = record { once = tt; orders = All-nil Ordered; fit = All-nil Fitting }

  all_ordered : (filled : List (Filled P)) (orders : List Order) → map number_filled filled ≡ map number_ordered orders → All Own orders → All Ordered filled
  all_ordered [] orders same own = All-nil Ordered
  all_ordered (f ∷ fs) [] same own = cc
  all_ordered (f ∷ fs) (o ∷ os) same own =
      let one : f.number ≡ o.number = cc in let rest : map number_filled fs ≡ map number_ordered os = cc in
      All-cons Ordered f fs (subst (λ (k : ℕ). is_order (replay weight h) c k ≡ true) (sym one) (All-head Own o os own).order) (all_ordered fs os rest (All-tail Own o os own))

  all_fit : ((guide : G) (p : P) (url : Url) → fits guide p url ≡ true) → (filled : List (Filled P)) → All Fitting filled
  all_fit any [] = All-nil Fitting
  all_fit any (f ∷ fs) = All-cons Fitting f fs (λ url there guide begins. any guide (arc_value f.payload) url) (all_fit any fs)

  -- orders of the caller that were filled, each for itself
  all_filled : ((guide : G) (p : P) (url : Url) → fits guide p url ≡ true) → (d : ℕ) (filled : List (Filled P)) (orders : List Order) → d ≡ c → map number_filled filled ≡ map number_ordered orders → All Own orders
      → EachOnce nat_eq (map number_ordered orders) → AreFilled weight fits h d filled
  all_filled any d filled orders is same own once = subst (λ (k : ℕ). AreFilled weight fits h k filled) (sym is) (record {
    once = subst (EachOnce nat_eq) (sym same) once;
    orders = all_ordered filled orders same own;
    fit = all_fit any filled;
  })

  -- the same of what was filled, if it was
  pub filled_if : ((guide : G) (p : P) (url : Url) → fits guide p url ≡ true) → (d : ℕ) (orders taken : List Order) {V E : Type 0} (items : V → List (Filled P)) (r : Result V E) → d ≡ c → taken ≡ orders → All Own orders
      → EachOnce nat_eq (map number_ordered orders) → IfOk r (λ v. map number_filled (items v) ≡ map number_ordered taken) → IfOk r (λ v. AreFilled weight fits h d (items v))
  filled_if any d orders taken items (Ok v) is same own once filled = all_filled any d (items v) orders is (filled ∙ ap (map number_ordered) same) own once
  filled_if any d orders taken items (Err e) is same own once filled = tt
