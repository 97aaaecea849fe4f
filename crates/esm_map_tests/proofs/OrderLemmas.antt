-- An order that stays behind a call that adds no event.
use Rattle.std.proofs.Common.{◌≡◌, ℕ, List, sym, subst, Some, true}
use Rattle.esm_base.specs.Urls.{Url}
use Rattle.esm_module_map.specs.declared.event.MapEvent.{MapEvent}
use Rattle.esm_module_map.specs.Replay.{replay, is_order}
use Rattle.esm_module_map.specs.Replies.{Called}
use Rattle.esm_module_map.specs.Saying.{Begins, IsOrderIn}
use Rattle.esm_module_map.specs.Laws.{OrdersStay, UrlsStay}

module _ {P G : Type 0} (weight : P → ℕ) where
  pub still_order : OrdersStay P G weight → UrlsStay P G weight → (c d n : ℕ) (u : Url) (seen now : List (MapEvent P G)) → d ≡ c → Begins seen now
      → Called weight seen (Some c) (λ found. now ≡ found) → IsOrderIn weight seen c n u → IsOrderIn weight now d n u
  still_order orders urls c d n u seen now same begins (found, there, is) own = record {
    order = subst (λ k. is_order (replay weight now) k n ≡ true) (sym same) (subst (λ h. is_order (replay weight h) c n ≡ true) (sym is) (orders c n seen found there own.order));
    has_url = urls n u seen now begins own.has_url;
  }
