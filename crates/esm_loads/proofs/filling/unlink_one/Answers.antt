-- By the status.
use Rattle.std.proofs.Common.{◌<◌, ◌∙◌, sym, subst, length, refl}
use Rattle.esm_realm.specs.Sound.{records_of}
use Rattle.esm_realm.specs.declared.record.ModuleStatus.TheVariants.{Unlinked, Linking, Linked}
use Rattle.esm_loads.proofs.Places.{get_within}
use Rattle.esm_loads.proofs.FillFacts as facts
use Rattle.esm_loads.proofs.filling.unlink_one.Goals as goal

pub set_unlinked-requires-clause-id : goal.set_unlinked-requires-clause-id
set_unlinked-requires-clause-id c =
    let R = records_of c.args.realm.now in
    let r = get_within R c.args.id.0 c.requires.id in
    subst (λ n. c.args.id.0 < n) (sym (facts.fills_long c.args.urls.now.slots (length r.0.targets) c.args.id.0 r.0 R (records_of c.fill_requests.new.realm) (c.fill_requests.ensures.fills r.0 r.1))) c.requires.id

pub returns-in-New-clause-unlinks : goal.returns-in-New-clause-unlinks
returns-in-New-clause-unlinks c r e =
    facts.unlinks_new c.args.urls.now.slots c.args.id.0 r (records_of c.args.realm.now) (records_of c.fill_requests.new.realm) (records_of c.set_unlinked.new.realm) e (sym (c.status_of.ensures r e) ∙ c.in-New.is) (c.fill_requests.ensures.fills r e) c.set_unlinked.ensures.unlinked

pub returns-in-Unlinked-clause-unlinks : goal.returns-in-Unlinked-clause-unlinks
returns-in-Unlinked-clause-unlinks c r e = facts.unlinks_other c.args.urls.now.slots c.args.id.0 r (records_of c.args.realm.now) Unlinked e (sym (c.status_of.ensures r e) ∙ c.in-Unlinked.is) refl

pub returns-in-Linking-clause-unlinks : goal.returns-in-Linking-clause-unlinks
returns-in-Linking-clause-unlinks c r e = facts.unlinks_other c.args.urls.now.slots c.args.id.0 r (records_of c.args.realm.now) Linking e (sym (c.status_of.ensures r e) ∙ c.in-Linking.is) refl

pub returns-in-Linked-clause-unlinks : goal.returns-in-Linked-clause-unlinks
returns-in-Linked-clause-unlinks c r e = facts.unlinks_other c.args.urls.now.slots c.args.id.0 r (records_of c.args.realm.now) Linked e (sym (c.status_of.ensures r e) ∙ c.in-Linked.is) refl
