use Rattle.std.proofs.Common.{subst, refl, ◌<◌}
use Rattle.esm_link.proofs.Marking as marking
use Rattle.esm_link.proofs.statuses.enter.Goals as goal

pub returns-clause-rest : goal.returns-clause-rest
returns-clause-rest c = marking.set_plain c.args.realm.now.records.items c.args.x c.index_mut-record.result.now _ (marking.at_index c.args.realm.now.records.items c.args.x c.index_mut-record.result.now (subst (λ n. c.args.x < n) (marking.length_parts c.args.realm.now.records.items) c.requires) c.index_mut-record.ensures.value) refl

pub returns-clause-statuses : goal.returns-clause-statuses
returns-clause-statuses c = marking.set_statuses c.args.realm.now.records.items c.args.x _ (subst (λ n. c.args.x < n) (marking.length_parts c.args.realm.now.records.items) c.requires)

pub returns-clause-places : goal.returns-clause-places
returns-clause-places c = marking.set_places c.args.realm.now.records.items c.args.x _ (subst (λ n. c.args.x < n) (marking.length_parts c.args.realm.now.records.items) c.requires)
