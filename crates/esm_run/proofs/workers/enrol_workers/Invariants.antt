use Rattle.std.proofs.Common.{◌≡◌, ◌≤◌, ◌+◌, ◌-◌, Some, length}
use Rattle.std.specs.Prelude.{All}
use Rattle.esm_import_map.specs.ImportMap.{Maps}
use Rattle.esm_module_map.specs.Leading.{guide_in}
use Rattle.esm_module_map.specs.Views.{view_in, table_of}
use Rattle.esm_run.specs.Inner.Leading.{IsNew}
use Rattle.esm_run.proofs.workers.enrol_workers.Given as goal

abbrev pub invariant-loop-caller : goal.invariant-loop-caller
invariant-loop-caller g l = record {
  own : table_of l.modules.lock.table.shared.table_id l.caller.pass ≡ l.modules.lock.table.shared.table_id;
  shares : (view_in l.caller.pass).shares + length l.workers.items ≡ (view_in l.initial.caller.pass).shares;
  new : IsNew l.caller.number (view_in l.caller.pass);
  seen : (view_in l.caller.pass).seen ≡ (view_in l.initial.caller.pass).seen;
  guides : (maps : Maps) → guide_in (view_in l.initial.caller.pass).seen ≡ Some maps → All (λ w. guide_in (view_in w.pass).seen ≡ Some maps) l.workers.items;
  workers : All (λ w. (table_of l.modules.lock.table.shared.table_id w.pass ≡ l.modules.lock.table.shared.table_id) × ((view_in w.pass).shares ≡ 1) × IsNew w.number (view_in w.pass)) l.workers.items;
  many : length l.workers.items ≤ l.count;
}

abbrev pub decreases-loop-caller : goal.decreases-loop-caller
decreases-loop-caller g l = l.count - length l.workers.items
