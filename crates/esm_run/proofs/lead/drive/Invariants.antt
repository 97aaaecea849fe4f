use Rattle.std.proofs.Common.{◌≡◌, ◌≤◌, Some, length}
use Rattle.std.specs.Prelude.{All}
use Rattle.std.specs.Arc.{arc_value}
use Rattle.esm_module_map.specs.Leading.{guide_in}
use Rattle.esm_module_map.specs.Views.{view_in, table_of, Same}
use Rattle.esm_fetch.specs.Serving.{Serves}
use Rattle.esm_record.specs.Delivered.{deliveries_of}
use Rattle.esm_run.specs.Inner.Leading.{HasTicket, IsHeard, IsLed}
use Rattle.esm_run.proofs.lead.drive.Given as goal

abbrev pub invariant-loop : goal.invariant-loop
invariant-loop g l = record {
  own : table_of l.settings.modules.now.lock.table.shared.table_id l.caller.pass ≡ l.settings.modules.now.lock.table.shared.table_id;
  same : Same (view_in l.initial.caller.pass) (view_in l.caller.pass);
  number : l.caller.number ≡ l.initial.caller.number;
  holds : g.S.Source.holds l.source ≡ g.S.Source.holds l.initial.source;
  served : Serves (g.S.Source.holds l.source) (g.S.Source.asked l.source) l.caller.number (view_in l.caller.pass).seen;
  guide : guide_in (view_in l.caller.pass).seen ≡ Some (arc_value l.settings.import_map.now);
  tickets : All (HasTicket (view_in l.caller.pass).seen) l.queue.tickets.items;
  posted : All (IsHeard (view_in l.caller.pass).seen) l.queue.posted.items;
  window : length l.queue.tickets.items ≤ 32;
  led : IsLed (arc_value l.settings.import_map.now) l.entry l.trace l.initial.caller.number (view_in l.caller.pass).seen l.machine (deliveries_of l.taken.items);
}
