use Rattle.std.proofs.Common.{◌≡◌, ℕ, cond, nat_eq, map, drop}
use Rattle.esm_realm.specs.Sound.{records_of}
use Rattle.esm_base.specs.Lists.{is_in}
use Rattle.esm_realm.specs.ById.{status_of, without_status, index_of}
use Rattle.esm_link.proofs.statuses.mark_from.Given as goal

abbrev pub invariant-loop-k : goal.invariant-loop-k
invariant-loop-k l = record {
  rest : map without_status (records_of l.realm) ≡ map without_status (records_of l.fn.realm);
  statuses : (y : ℕ) → cond (is_in nat_eq (drop l.k l.opened) y) l.status (status_of (records_of l.realm) y) ≡ cond (is_in nat_eq (drop l.place l.opened) y) l.status (status_of (records_of l.fn.realm) y);
  places : (y : ℕ) → index_of l.realm y ≡ index_of l.fn.realm y;
}
