-- The record with this id.
use Rattle.std.proofs.Common.{◌≡◌, ◌<◌, ◌∙◌, true, false, ap, sym, arith, rules, subst}
use Rattle.esm_realm.specs.ById.{url_by}
use Rattle.esm_realm.specs.Sound.{parts_of, records_of}
use Rattle.esm_loads.proofs.Places.{index_get, map_long}
use Rattle.esm_loads.proofs.ImportFacts.{url_is}
use Rattle.esm_loads.proofs.ReadFacts.{past_end}
use Rattle.esm_machine.proofs.by_id.url_of.Goals as goal

pub index-requires : goal.index-requires
index-requires c =
    let on : c.has_module.result ≡ true = search rules in
    let h = map_long parts_of c.args.realm.now.records.items in
    let lt = c.has_module.ensures.yes on in
    omega (arith, lt, h)

pub returns-then-has_module : goal.returns-then-has_module
returns-then-has_module c =
    let on : c.has_module.result ≡ true = search rules in
    let xs = c.args.realm.now.records.items in
    let inside = subst (λ n. c.args.m.0 < n) (map_long parts_of xs) (c.has_module.ensures.yes on) in
    c.as_str.ensures.value ∙ sym (url_is xs c.args.m.0 c.index.result.now (index_get xs c.args.m.0 c.index.result.now inside c.index.ensures))

pub returns-else-has_module : goal.returns-else-has_module
returns-else-has_module c =
    let off : c.has_module.result ≡ false = search rules in
    sym (ap url_by (past_end (records_of c.args.realm.now) c.args.m.0 (c.has_module.ensures.no off)))
