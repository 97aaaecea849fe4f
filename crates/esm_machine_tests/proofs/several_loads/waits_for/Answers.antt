-- The entry is open where it was just asked for.
use Rattle.std.proofs.Common.{◌≡◌, Bool, false, ap, rules}
use Rattle.std.specs.Prelude.{Result, Ok}
use Rattle.esm_base.specs.declared.limits.Limit.{Limit}
use Rattle.esm_base.specs.declared.end.End.{End}
use Rattle.esm_realm.specs.Sound.{records_of}
use Rattle.esm_machine_tests.proofs.EntryAsked.{still_open}
use Rattle.esm_machine_tests.proofs.several_loads.waits_for.Goals as goal

abbrev answered : Bool → Result Bool (End Limit)
answered b = Ok b

pub is_missed_once-requires-clause-open : goal.is_missed_once-requires-clause-open
is_missed_once-requires-clause-open c =
    let off : c.in-Ok-false.field-0 ≡ false = search rules in
    let same = c.in-Ok-false.ensures.unchanged (ap answered off) in
    still_open c.args.map.now c.args.url.now c.in_ok-promise.promise.0 c.args.loads.now c.ask_entry.new.self c.step.new.self
    (records_of c.args.realm.now) (records_of c.step.new.realm)
    (c.requires.nothing c.args.map.now) (c.in_ok-ask_entry.ensures.asks c.args.map.now) same.0 same.3
