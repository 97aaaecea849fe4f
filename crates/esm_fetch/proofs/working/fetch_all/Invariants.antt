use Rattle.std.proofs.Common.{◌≡◌, ◌≤◌, ◌+◌, ℕ, List, [], Some, length, vec_len, string_bytes}
use Rattle.std.specs.Prelude.{All}
use Rattle.std.specs.Vec.{vec_capacity}
use Rattle.std.specs.Vec.Iter.{into_iter_items, into_iter_len}
use Rattle.esm_base.specs.Urls.{IsUsable}
use Rattle.esm_import_map.specs.ImportMap.{Maps}
use Rattle.esm_module_map.specs.declared.event.MapEvent.{MapEvent}
use Rattle.esm_module_map.specs.declared.reply.Order.{Order}
use Rattle.esm_module_map.specs.Leading.{guide_in}
use Rattle.esm_fetch.specs.declared.posted.Posted.{Posted}
use Rattle.esm_fetch.specs.Inner.Asking.{AreInHand}
use Rattle.esm_fetch.proofs.working.fetch_all.Given as goal

abbrev pub invariant-loop-order : goal.invariant-loop-order
invariant-loop-order g l = record {
  len : into_iter_len l.order-iterator ≡ length (into_iter_items l.order-iterator);
  usable : All (λ (o : Order). IsUsable o.url) (into_iter_items l.order-iterator);
  empty : All (λ r. string_bytes r ≡ []) l.rooms.items;
  holds : g.S.Source.holds l.source ≡ g.S.Source.holds l.initial.source;
  room : vec_len l.filled + length (into_iter_items l.order-iterator) ≤ vec_capacity l.filled;
  space : vec_len l.rooms + length (into_iter_items l.order-iterator) ≤ vec_capacity l.rooms;
  many : vec_len l.rooms + length (into_iter_items l.order-iterator) ≡ vec_len l.initial.rooms + vec_len l.fn.orders;
  hand : (c : ℕ) (h : List (MapEvent Posted Maps)) → guide_in h ≡ Some l.guide
      → AreInHand (g.S.Source.holds l.initial.source) (g.S.Source.asked l.initial.source) c h l.initial.filled.items l.fn.orders.items
      → AreInHand (g.S.Source.holds l.initial.source) (g.S.Source.asked l.source) c h l.filled.items (into_iter_items l.order-iterator);
}
