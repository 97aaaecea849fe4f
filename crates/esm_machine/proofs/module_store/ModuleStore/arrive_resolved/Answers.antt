use Rattle.std.proofs.Common.{◌≡◌, [], map, true, ap, sym, subst, ◌∙◌}
use Rattle.std.specs.Arc.{arc_value}
use Rattle.esm_realm.specs.Sound.{records_of}
use Rattle.esm_machine.specs.ModuleStore.{Imported, is_whole, seen_of}
use Rattle.esm_base.specs.Urls.{has}
use Rattle.esm_ast.specs.Outcome.{outcome_view}
use Rattle.esm_realm.specs.Sound.{url_of}
use Rattle.esm_promise.specs.Promises.{no_promises}
use Rattle.esm_import_map.specs.ImportMap.{Maps}
use Rattle.esm_loads.specs.Arrival.{AreResolved, after_fetch, open_asks, next}
use Rattle.esm_loads.specs.Fits.{records_with}
use Rattle.esm_loads.specs.Hosted.{host_of, StopsAt}
use Rattle.esm_loads.specs.LoadsAsLoading.{loading_of}
use Rattle.esm_loads.specs.LoadsView.{every_form}
use Rattle.esm_loads.specs.UrlTable.{found}
use Rattle.esm_machine.proofs.Shows.{goes, loading_is}
use Rattle.esm_machine.proofs.Began.{kept_whole}
use Rattle.esm_machine.proofs.Answered.{whole_is}
use Rattle.esm_machine.proofs.Awaiting.{flags_arrived}
use Rattle.esm_machine.proofs.Fetched.{refused_fetch, fetch_keeps, fetches_ok, fetches_err, linked_still, urls_more}
use Rattle.esm_machine.proofs.module_store.ModuleStore.arrive_resolved.Goals as goal

pub arrive_resolved-requires-clause-fits : goal.arrive_resolved-requires-clause-fits
arrive_resolved-requires-clause-fits c = (goes c.self.inside.condition (records_of c.self.inside.realm) c.self.inside.loads (arc_value c.self.inside.import_map) (subst (λ (i : Imported). is_whole i.condition ≡ true) (sym c.self.view_is) c.requires.whole) c.self.invariant.kept).fits

pub arrive_resolved-requires-clause-sound : goal.arrive_resolved-requires-clause-sound
arrive_resolved-requires-clause-sound c = c.self.invariant.kept.sound

pub arrive_resolved-requires-clause-open : goal.arrive_resolved-requires-clause-open
arrive_resolved-requires-clause-open c =
    subst (λ l. has (open_asks l) c.args.url.now ≡ true) (loading_is c.self.inside.condition (records_of c.self.inside.realm) c.self.inside.loads (arc_value c.self.inside.import_map) (subst (λ (i : Imported). is_whole i.condition ≡ true) (sym c.self.view_is) c.requires.whole))
    (subst (λ (i : Imported). has (open_asks (seen_of i).loading) c.args.url.now ≡ true) (sym c.self.view_is) c.requires.«open»)

pub arrive_resolved-requires-clause-answered : goal.arrive_resolved-requires-clause-answered
arrive_resolved-requires-clause-answered c =
    sym (ap next (loading_is c.self.inside.condition (records_of c.self.inside.realm) c.self.inside.loads (arc_value c.self.inside.import_map) (subst (λ (i : Imported). is_whole i.condition ≡ true) (sym c.self.view_is) c.requires.whole)))
    ∙ (ap (λ (i : Imported). next (seen_of i).loading) c.self.view_is ∙ c.requires.answered)

pub arrive_resolved-requires-clause-targets : goal.arrive_resolved-requires-clause-targets
arrive_resolved-requires-clause-targets c =
    subst (λ m. AreResolved m c.args.url.now (outcome_view c.args.outcome.now) c.args.targets.now) (sym c.deref.ensures)
    (subst (λ (i : Imported). AreResolved i.maps c.args.url.now (outcome_view c.args.outcome.now) c.args.targets.now) (sym c.self.view_is) c.requires.targets)

pub invariant_of-self : goal.invariant_of-self
invariant_of-self c =
    record {
      kept =
          kept_whole (records_of c.self.inside.realm) (records_of c.arrive_resolved.new.realm) c.self.inside.loads c.arrive_resolved.new.self (arc_value c.self.inside.import_map) c.self.inside.condition (subst (λ (i : Imported). is_whole i.condition ≡ true) (sym c.self.view_is) c.requires.whole) c.self.invariant.kept c.arrive_resolved.ensures.sound
          (λ k. fetch_keeps (records_of c.self.inside.realm) (records_of c.arrive_resolved.new.realm) c.self.inside.loads c.arrive_resolved.new.self (arc_value c.self.inside.import_map) (λ n. []) no_promises c.args.errors.now c.arrive_resolved.new.errors c.args.url.now (outcome_view c.args.outcome.now) c.stays_orderly.ensures c.stays_whole.ensures k c.in-Ok.ensures.fits c.in-Ok.ensures.loaded
          (subst (λ (m : Maps). records_of c.arrive_resolved.new.realm ≡ records_with (records_of c.self.inside.realm) c.args.url.now (found m every_form c.args.url.now (outcome_view c.args.outcome.now))) c.deref.ensures c.in-Ok.ensures.records)
          (subst (λ (m : Maps). host_of (λ n. []) no_promises c.arrive_resolved.new.errors (loading_of m c.arrive_resolved.new.self (records_of c.arrive_resolved.new.realm)) ≡ after_fetch (host_of (λ n. []) no_promises c.args.errors.now (loading_of m c.self.inside.loads (records_of c.self.inside.realm))) c.args.url.now (outcome_view c.args.outcome.now)) c.deref.ensures (c.in-Ok.ensures.arrives (λ n. []) no_promises))
          (subst (λ l. has (open_asks l) c.args.url.now ≡ true) (loading_is c.self.inside.condition (records_of c.self.inside.realm) c.self.inside.loads (arc_value c.self.inside.import_map) (subst (λ (i : Imported). is_whole i.condition ≡ true) (sym c.self.view_is) c.requires.whole))
          (subst (λ (i : Imported). has (open_asks (seen_of i).loading) c.args.url.now ≡ true) (sym c.self.view_is) c.requires.«open»)));
      flags =
          flags_arrived c.self.inside.condition (records_of c.self.inside.realm) (records_of c.arrive_resolved.new.realm) c.self.inside.awaiting.items c.note_arrived.new.flags.items (subst (λ (i : Imported). is_whole i.condition ≡ true) (sym c.self.view_is) c.requires.whole) c.self.invariant.flags
          (c.in-Ok-note_arrived.ensures (records_of c.self.inside.realm) c.args.url.now (found (arc_value c.self.inside.import_map) every_form c.args.url.now (outcome_view c.args.outcome.now))
          (subst (λ (m : Maps). records_of c.arrive_resolved.new.realm ≡ records_with (records_of c.self.inside.realm) c.args.url.now (found m every_form c.args.url.now (outcome_view c.args.outcome.now))) c.deref.ensures c.in-Ok.ensures.records));
    }

pub invariant_of-self-in-Err : goal.invariant_of-self-in-Err
invariant_of-self-in-Err c = record { kept = record { sound = c.arrive_resolved.ensures.sound; known = tt }; flags = tt }

pub invariant_of-self-in-Err-note_arrived : goal.invariant_of-self-in-Err-note_arrived
invariant_of-self-in-Err-note_arrived c = record { kept = record { sound = c.arrive_resolved.ensures.sound; known = tt }; flags = tt }

pub returns-in-Ok-note_arrived-clause-fetches : goal.returns-in-Ok-note_arrived-clause-fetches
returns-in-Ok-note_arrived-clause-fetches c named promises =
    rw (← c.self.view_is)
    (fetches_ok (records_of c.self.inside.realm) (records_of c.arrive_resolved.new.realm) c.self.inside.loads c.arrive_resolved.new.self (arc_value c.self.inside.import_map) named promises c.args.errors.now c.arrive_resolved.new.errors c.args.url.now (outcome_view c.args.outcome.now) c.self.inside.condition (subst (λ (i : Imported). is_whole i.condition ≡ true) (sym c.self.view_is) c.requires.whole)
    (subst (λ (m : Maps). host_of named promises c.arrive_resolved.new.errors (loading_of m c.arrive_resolved.new.self (records_of c.arrive_resolved.new.realm)) ≡ after_fetch (host_of named promises c.args.errors.now (loading_of m c.self.inside.loads (records_of c.self.inside.realm))) c.args.url.now (outcome_view c.args.outcome.now)) c.deref.ensures (c.in-Ok.ensures.arrives named promises)))

pub returns-in-Ok-note_arrived-clause-urls : goal.returns-in-Ok-note_arrived-clause-urls
returns-in-Ok-note_arrived-clause-urls c =
    rw (← c.self.view_is) (ap (map url_of) (subst (λ (m : Maps). records_of c.arrive_resolved.new.realm ≡ records_with (records_of c.self.inside.realm) c.args.url.now (found m every_form c.args.url.now (outcome_view c.args.outcome.now))) c.deref.ensures c.in-Ok.ensures.records) ∙ urls_more (records_of c.self.inside.realm) c.args.url.now (found (arc_value c.self.inside.import_map) every_form c.args.url.now (outcome_view c.args.outcome.now)))

pub returns-in-Ok-note_arrived-clause-linked : goal.returns-in-Ok-note_arrived-clause-linked
returns-in-Ok-note_arrived-clause-linked c =
    rw (← c.self.view_is) (linked_still c.self.inside.condition (records_of c.self.inside.realm) (records_of c.arrive_resolved.new.realm) c.self.inside.loads c.arrive_resolved.new.self (arc_value c.self.inside.import_map) c.args.url.now (found (arc_value c.self.inside.import_map) every_form c.args.url.now (outcome_view c.args.outcome.now)) (subst (λ (i : Imported). is_whole i.condition ≡ true) (sym c.self.view_is) c.requires.whole)
    (subst (λ (m : Maps). records_of c.arrive_resolved.new.realm ≡ records_with (records_of c.self.inside.realm) c.args.url.now (found m every_form c.args.url.now (outcome_view c.args.outcome.now))) c.deref.ensures c.in-Ok.ensures.records))

pub returns-in-Ok-note_arrived-clause-condition : goal.returns-in-Ok-note_arrived-clause-condition
returns-in-Ok-note_arrived-clause-condition c = whole_is c.self.inside.condition (subst (λ (i : Imported). is_whole i.condition ≡ true) (sym c.self.view_is) c.requires.whole)

pub returns-in-Err-clause-fetches : goal.returns-in-Err-clause-fetches
returns-in-Err-clause-fetches c named promises =
    rw (← c.self.view_is)
    (fetches_err (records_of c.self.inside.realm) (records_of c.arrive_resolved.new.realm) c.self.inside.loads c.arrive_resolved.new.self (arc_value c.self.inside.import_map) named promises c.args.errors.now c.arrive_resolved.new.errors c.args.url.now (outcome_view c.args.outcome.now) c.self.inside.condition c.in-Err.end _ (subst (λ (i : Imported). is_whole i.condition ≡ true) (sym c.self.view_is) c.requires.whole)
    (subst (λ (m : Maps). StopsAt (refused_fetch c.in-Err.end) (after_fetch (host_of named promises c.args.errors.now (loading_of m c.self.inside.loads (records_of c.self.inside.realm))) c.args.url.now (outcome_view c.args.outcome.now))) c.deref.ensures (c.in-Err.ensures.limit named promises)))
