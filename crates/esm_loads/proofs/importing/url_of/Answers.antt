-- The record with this id.
use Rattle.std.proofs.Common.{◌∙◌, sym, arith, subst}
use Rattle.std.specs.Prelude.{◌<◌}
use Rattle.esm_realm.specs.Sound.{parts_of}
use Rattle.esm_loads.proofs.Places.{index_get, map_long}
use Rattle.esm_loads.proofs.ImportFacts.{url_is}
use Rattle.esm_loads.proofs.importing.url_of.Goals as goal

pub index-requires : goal.index-requires
index-requires c = let h = map_long parts_of c.args.realm.now.records.items in omega (arith, c.requires, h)

pub returns : goal.returns
returns c =
    let xs = c.args.realm.now.records.items in
    let inside = subst (λ n. c.args.m.0 < n) (map_long parts_of xs) c.requires in
    c.as_str.ensures.value ∙ sym (url_is xs c.args.m.0 c.index.result.now (index_get xs c.args.m.0 c.index.result.now inside c.index.ensures))
