use Rattle.std.proofs.Common.{◌≡◌, ◌<◌, true, map, length}
use Rattle.std.specs.Arc.{arc_value}
use Rattle.esm_realm.specs.Sound.{records_of}
use Rattle.esm_realm.specs.ById.{status_of, targets_at, without_status, index_of}
use Rattle.esm_env.specs.Calls.{scopes_of}
use Rattle.esm_link.specs.Realm.{modules_of}
use Rattle.esm_link.specs.Inner.Graph.{AreIndexes}
use Rattle.esm_link.specs.Inner.Visit.{AreInside, GrownFrom, Passing, Scoped, unlinked, with_open}
use Rattle.esm_link.proofs.walk.+visit.Given as goal

abbrev pub decreases-visit : goal.decreases-visit
decreases-visit l = unlinked (records_of l.realm.now)

-- for every walk that the visit is amid: what is passed, and that what is left completes the visit
abbrev pub invariant-loop-i : goal.invariant-loop-i
invariant-loop-i l = record {
  rest : map without_status (records_of l.realm) ≡ map without_status (records_of l.fn.realm);
  fewer : unlinked (records_of l.realm) < unlinked (records_of l.fn.realm);
  count : l.count ≡ length (targets_at (map without_status (records_of l.fn.realm)) l.x);
  place : l.place ≡ length l.fn.opened.items;
  inside : AreInside (map without_status (records_of l.fn.realm)) l.opened.items;
  indexes : AreIndexes (modules_of (map arc_value l.trees) (map without_status (records_of l.fn.realm))) l.indexes;
  scopes : Scoped (map arc_value l.trees) (map without_status (records_of l.fn.realm)) true (with_open l.x (status_of (records_of l.fn.realm))) (scopes_of l.fn.envs) (status_of (records_of l.realm)) (scopes_of l.envs);
  grown : GrownFrom l.x (status_of (records_of l.fn.realm)) l.fn.opened.items (status_of (records_of l.realm)) l.opened.items;
  passing : Passing (map arc_value l.trees) (map without_status (records_of l.fn.realm)) (status_of (records_of l.fn.realm)) (index_of l.fn.realm) l.fn.opened.items l.x (status_of (records_of l.realm)) (index_of l.realm) l.opened.items l.i l.low;
}
