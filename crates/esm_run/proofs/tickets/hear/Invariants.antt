use Rattle.std.proofs.Common.{◌≡◌}
use Rattle.esm_module_map.specs.Views.{view_in, table_of, Same}
use Rattle.esm_module_map.specs.Saying.{Stays}
use Rattle.esm_fetch.specs.Serving.{weight}
use Rattle.esm_run.specs.Inner.Leading.{HearsMore}
use Rattle.esm_run.proofs.tickets.hear.Given as goal

abbrev pub invariant-loop : goal.invariant-loop
invariant-loop g l = record {
  own : table_of l.settings.modules.now.lock.table.shared.table_id l.caller.pass ≡ l.settings.modules.now.lock.table.shared.table_id;
  same : Same (view_in l.initial.caller.pass) (view_in l.caller.pass);
  number : l.caller.number ≡ l.initial.caller.number;
  says : Stays weight l.initial.caller.number (view_in l.initial.caller.pass).seen (view_in l.caller.pass).seen;
  order : HearsMore (view_in l.caller.pass).seen l.initial.queue.known l.initial.queue.posted.items l.queue.known l.queue.posted.items;
  tickets : l.queue.tickets ≡ l.initial.queue.tickets;
}
