use Rattle.std.proofs.Common.{subst, refl, map, ◌<◌}
use Rattle.std.specs.Arc.{arc_value}
use Rattle.esm_realm.specs.Sound.{records_of}
use Rattle.esm_link.proofs.Marking as marking
use Rattle.esm_link_tests.proofs.Built.{built_status, plain_length}
use Rattle.esm_link_tests.proofs.building.be_unlinked.Goals as goal

pub returns-clause-built : goal.returns-clause-built
returns-clause-built c =
    let within = subst (λ n. c.args.m < n) (marking.length_parts c.args.site.now.realm.records.items) c.requires.within in
    built_status (map arc_value c.args.site.now.trees.items) (records_of c.args.site.now.realm) _ c.args.m c.requires.built
    (marking.set_plain c.args.site.now.realm.records.items c.args.m c.index_mut.result.now _ (marking.at_index c.args.site.now.realm.records.items c.args.m c.index_mut.result.now within c.index_mut.ensures.value) refl)
    (marking.set_statuses c.args.site.now.realm.records.items c.args.m _ within)

pub returns-clause-many : goal.returns-clause-many
returns-clause-many c =
    let within = subst (λ n. c.args.m < n) (marking.length_parts c.args.site.now.realm.records.items) c.requires.within in
    plain_length (records_of c.args.site.now.realm) _
    (marking.set_plain c.args.site.now.realm.records.items c.args.m c.index_mut.result.now _ (marking.at_index c.args.site.now.realm.records.items c.args.m c.index_mut.result.now within c.index_mut.ensures.value) refl)
