use Rattle.std.proofs.Common.{◌≡◌, ◌++◌, drop}
use Rattle.std.specs.List.{flat_map}
use Rattle.esm_record.specs.Delivered.{deliveries_of}
use Rattle.esm_record.specs.Record.{delivery_lines}
use Rattle.esm_record.proofs.record.add_deliveries.Given as goal

-- what is there, with the lines of those that are left behind it, is what comes of all
abbrev pub invariant-loop-delivery : goal.invariant-loop-delivery
invariant-loop-delivery l =
    l.text.items ++ flat_map delivery_lines (deliveries_of (drop l.delivery-index l.taken))
    ≡ l.initial.text.items ++ flat_map delivery_lines (deliveries_of l.taken)
