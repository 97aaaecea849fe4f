-- By what asking for the entry leaves.
use Rattle.std.specs.Arc.{arc_value}
use Rattle.esm_import_map.specs.ImportMap.{Maps}
use Rattle.esm_realm.specs.Sound.{records_of}
use Rattle.esm_machine.proofs.Awaiting.{flags_opened}
use Rattle.esm_machine.proofs.Opened.{nothing_fetched, opened_seen, opened_kept}
use Rattle.esm_machine.proofs.module_store.ModuleStore.opening.Goals as goal

pub ask_entry-requires-clause-fits : goal.ask_entry-requires-clause-fits
ask_entry-requires-clause-fits c = rw c.new-realm.ensures.records c.new-loads.ensures.fits

pub ask_entry-requires-clause-fetching : goal.ask_entry-requires-clause-fetching
ask_entry-requires-clause-fetching c =
    let maps : Maps = arc_value c.args.import_map in
    nothing_fetched c.new-loads.result maps c.args.entry.now (c.new-loads.ensures.nothing maps)

pub invariant_of-result : goal.invariant_of-result
invariant_of-result c =
    let maps : Maps = arc_value c.args.import_map in
    record {
      kept =
          opened_kept (records_of c.new-realm.result) c.new-loads.result c.ask_entry.new.self maps c.args.entry.now c.args.promise.0 c.new-realm.ensures.records (c.new-loads.ensures.nothing maps) (c.in-Ok.ensures.asks maps)
          c.requires.first c.opens_with_entry.ensures c.new-realm.ensures.sound c.in-Ok.ensures.fits c.stays_orderly.ensures c.stays_whole.ensures;
      flags = flags_opened (records_of c.new-realm.result) c.new-awaiting.result.items c.new-realm.ensures.records c.new-awaiting.ensures.items;
    }

pub returns-in-Ok-clause-opens : goal.returns-in-Ok-clause-opens
returns-in-Ok-clause-opens c =
    let maps : Maps = arc_value c.args.import_map in
    opened_seen (records_of c.new-realm.result) c.new-loads.result c.ask_entry.new.self maps c.args.entry.now c.args.promise.0 c.new-realm.ensures.records (c.new-loads.ensures.nothing maps) (c.in-Ok.ensures.asks maps)
    c.requires.first c.opens_with_entry.ensures
