-- The steps of a visit: what it answers early, the loop over its targets, its leave and the closing of its component.
use Rattle.std.proofs.Common.{◌≡◌, ◌<◌, ◌≤◌, Some, Ok, Err, refl, true, false, cond, nat_eq, map, length, drop, slice_get, ap, sym, subst, ◌∙◌, rules, arith}
use Rattle.std.specs.Arc.{arc_value}
use Rattle.esm_base.specs.Lists.{is_in}
use Rattle.esm_base.specs.declared.end.End.TheVariants.{Memory}
use Rattle.esm_realm.specs.Sound.{records_of}
use Rattle.esm_realm.specs.ById.{status_of, targets_at, is_linking, is_unlinked, without_status, index_of}
use Rattle.esm_realm.specs.declared.record.ModuleStatus.TheVariants as statuses
use Rattle.esm_realm.proofs.Numbers.{has_at}
use Rattle.esm_env.specs.Calls.{scopes_of}
use Rattle.esm_link.specs.Realm.{modules_of}
use Rattle.esm_link.specs.Inner.Graph.{AreIndexes}
use Rattle.esm_link.specs.Inner.Visit.{AreInside, Passing, Scoped, Visiting, with_open}
use Rattle.esm_link.proofs.Marking as marking
use Rattle.esm_link.proofs.Scoping as scoping
use Rattle.esm_link.proofs.Steps as steps
use Rattle.esm_link.proofs.walk.+visit.Goals as goal

pub returns-in-Linking-clause-visits : goal.returns-in-Linking-clause-visits
returns-in-Linking-clause-visits t c = subst (λ k. Visiting (map arc_value c.args.trees.now) (map without_status (records_of c.args.realm.now)) (status_of (records_of c.args.realm.now)) (index_of c.args.realm.now) c.args.opened.now.items c.args.x (Ok k) (status_of (records_of c.args.realm.now)) (index_of c.args.realm.now) c.args.opened.now.items) (sym c.index.ensures) (steps.known_open (map arc_value c.args.trees.now) (map without_status (records_of c.args.realm.now)) (status_of (records_of c.args.realm.now)) (index_of c.args.realm.now) c.args.opened.now.items c.args.x c.requires.within (ap is_linking (sym c.status.ensures ∙ c.in-Linking.is)))

pub returns-in-New-clause-visits : goal.returns-in-New-clause-visits
returns-in-New-clause-visits t c = steps.known_closed (map arc_value c.args.trees.now) (map without_status (records_of c.args.realm.now)) (status_of (records_of c.args.realm.now)) (index_of c.args.realm.now) c.args.opened.now.items c.args.x c.requires.within _ (ap is_linking (sym c.status.ensures ∙ c.in-New.is)) (ap is_unlinked (sym c.status.ensures ∙ c.in-New.is)) (search rules)

pub returns-in-Linked-clause-visits : goal.returns-in-Linked-clause-visits
returns-in-Linked-clause-visits t c = steps.known_closed (map arc_value c.args.trees.now) (map without_status (records_of c.args.realm.now)) (status_of (records_of c.args.realm.now)) (index_of c.args.realm.now) c.args.opened.now.items c.args.x c.requires.within _ (ap is_linking (sym c.status.ensures ∙ c.in-Linked.is)) (ap is_unlinked (sym c.status.ensures ∙ c.in-Linked.is)) (search rules)

pub returns-in-Linking-clause-scopes : goal.returns-in-Linking-clause-scopes
returns-in-Linking-clause-scopes t c = scoping.scoped_eq (map arc_value c.args.trees.now) (map without_status (records_of c.args.realm.now)) true (status_of (records_of c.args.realm.now)) (status_of (records_of c.args.realm.now)) (scopes_of c.args.envs.now) (scopes_of c.args.envs.now) (λ y. refl) (λ n. refl)

pub returns-in-Linking-clause-grown : goal.returns-in-Linking-clause-grown
returns-in-Linking-clause-grown t c = scoping.grown_none (status_of (records_of c.args.realm.now)) c.args.opened.now.items c.args.opened.now.items refl

pub returns-in-New-clause-scopes : goal.returns-in-New-clause-scopes
returns-in-New-clause-scopes t c = scoping.scoped_eq (map arc_value c.args.trees.now) (map without_status (records_of c.args.realm.now)) true (status_of (records_of c.args.realm.now)) (status_of (records_of c.args.realm.now)) (scopes_of c.args.envs.now) (scopes_of c.args.envs.now) (λ y. refl) (λ n. refl)

pub returns-in-New-clause-grown : goal.returns-in-New-clause-grown
returns-in-New-clause-grown t c = scoping.grown_none (status_of (records_of c.args.realm.now)) c.args.opened.now.items c.args.opened.now.items refl

pub returns-in-Linked-clause-scopes : goal.returns-in-Linked-clause-scopes
returns-in-Linked-clause-scopes t c = scoping.scoped_eq (map arc_value c.args.trees.now) (map without_status (records_of c.args.realm.now)) true (status_of (records_of c.args.realm.now)) (status_of (records_of c.args.realm.now)) (scopes_of c.args.envs.now) (scopes_of c.args.envs.now) (λ y. refl) (λ n. refl)

pub returns-in-Linked-clause-grown : goal.returns-in-Linked-clause-grown
returns-in-Linked-clause-grown t c = scoping.grown_none (status_of (records_of c.args.realm.now)) c.args.opened.now.items c.args.opened.now.items refl

pub returns-in-Err-clause-visits : goal.returns-in-Err-clause-visits
returns-in-Err-clause-visits t c = subst (λ o. Visiting (map arc_value c.args.trees.now) (map without_status (records_of c.args.realm.now)) (status_of (records_of c.args.realm.now)) (index_of c.args.realm.now) c.args.opened.now.items c.args.x (Err Memory) (status_of (records_of c.args.realm.now)) (index_of c.args.realm.now) o) (sym (search rules)) (steps.no_memory (map arc_value c.args.trees.now) (map without_status (records_of c.args.realm.now)) (status_of (records_of c.args.realm.now)) (index_of c.args.realm.now) c.args.opened.now.items c.args.x c.requires.within)

pub returns-in-Err-clause-scopes : goal.returns-in-Err-clause-scopes
returns-in-Err-clause-scopes t c = scoping.scoped_eq (map arc_value c.args.trees.now) (map without_status (records_of c.args.realm.now)) false (status_of (records_of c.args.realm.now)) (status_of (records_of c.args.realm.now)) (scopes_of c.args.envs.now) (scopes_of c.args.envs.now) (λ y. refl) (λ n. refl)

pub returns-in-Err-clause-grown : goal.returns-in-Err-clause-grown
returns-in-Err-clause-grown t c = scoping.grown_none (status_of (records_of c.args.realm.now)) c.args.opened.now.items c.push.new.self.items (search rules)

pub loop-i-init : goal.loop-i-init
loop-i-init t c = record {
  rest = c.enter.ensures.rest;
  fewer = marking.less_enter (records_of c.enter.new.realm) (records_of c.args.realm.now) c.args.x c.enter.ensures.rest c.enter.ensures.statuses (marking.within_on (records_of c.args.realm.now) (records_of c.args.realm.now) refl c.args.x c.requires.within) (sym c.status.ensures ∙ c.in-Unlinked.is);
  count = c.count-count.ensures ∙ ap length (marking.targets_on (records_of c.enter.new.realm) (records_of c.args.realm.now) c.enter.ensures.rest c.args.x);
  place = c.len-place.ensures ∙ search rules;
  inside = marking.inside_push (map without_status (records_of c.args.realm.now)) c.args.opened.now.items c.push.new.self.items c.args.x c.requires.inside c.requires.within c.in-Ok.ensures.items;
  indexes = c.requires.indexes;
  scopes = scoping.scoped_eq (map arc_value c.args.trees.now) (map without_status (records_of c.args.realm.now)) true (with_open c.args.x (status_of (records_of c.args.realm.now))) (status_of (records_of c.enter.new.realm)) (scopes_of c.args.envs.now) (scopes_of c.args.envs.now) c.enter.ensures.statuses (λ n. refl);
  grown = scoping.grown_enter c.args.x (status_of (records_of c.args.realm.now)) (status_of (records_of c.enter.new.realm)) c.args.opened.now.items c.push.new.self.items (sym c.status.ensures ∙ c.in-Unlinked.is) c.enter.ensures.statuses c.in-Ok.ensures.items;
  passing = subst (λ o. Passing (map arc_value c.args.trees.now) (map without_status (records_of c.args.realm.now)) (status_of (records_of c.args.realm.now)) (index_of c.args.realm.now) c.args.opened.now.items c.args.x (status_of (records_of c.enter.new.realm)) (index_of c.enter.new.realm) o 0 c.len-place.result) (sym c.in-Ok.ensures.items) (steps.entered (map arc_value c.args.trees.now) (map without_status (records_of c.args.realm.now)) (status_of (records_of c.args.realm.now)) (index_of c.args.realm.now) c.args.opened.now.items c.args.x c.requires.within (sym c.status.ensures ∙ c.in-Unlinked.is) (status_of (records_of c.enter.new.realm)) (index_of c.enter.new.realm) c.len-place.result (c.len-place.ensures ∙ search rules) c.enter.ensures.statuses c.enter.ensures.places c.len-place.result (c.len-place.ensures ∙ search rules));
}

pub target-t-requires-clause-within : goal.target-t-requires-clause-within
target-t-requires-clause-within t c = marking.within_on (records_of c.loop-i.realm) (records_of c.args.realm.now) c.loop-i.invariant.rest c.args.x c.requires.within

pub target-t-requires-clause-request : goal.target-t-requires-clause-request
target-t-requires-clause-request t c = subst (λ n. c.loop-i.i < n) (c.loop-i.invariant.count ∙ ap length (sym (marking.targets_on (records_of c.loop-i.realm) (records_of c.args.realm.now) c.loop-i.invariant.rest c.args.x))) c.loop-i-test.true

pub visit-requires : goal.visit-requires
visit-requires t c =
    let rest = c.loop-i.invariant.rest in
    let inside = c.requires.whole.inside c.args.x c.target-t.result c.requires.within (has_at (targets_at (map without_status (records_of c.args.realm.now)) c.args.x) c.loop-i.i c.target-t.result (subst (λ ts. slice_get ts c.loop-i.i ≡ Some c.target-t.result) (marking.targets_on (records_of c.loop-i.realm) (records_of c.args.realm.now) c.loop-i.invariant.rest c.args.x) c.target-t.ensures)) in
    (omega (arith, c.decreases, c.loop-i.invariant.fewer), (marking.whole_on (records_of c.loop-i.realm) (records_of c.args.realm.now) rest (map arc_value c.args.trees.now) c.requires.whole, (subst (λ rs. c.target-t.result < length rs) (sym rest) inside, (marking.inside_on (records_of c.loop-i.realm) (records_of c.args.realm.now) rest c.loop-i.opened.items c.loop-i.invariant.inside, subst (λ rs. AreIndexes (modules_of (map arc_value c.args.trees.now) rs) c.loop-i.indexes) (sym rest) c.loop-i.invariant.indexes))))

pub returns-in-Err-visit-clause-rest : goal.returns-in-Err-visit-clause-rest
returns-in-Err-visit-clause-rest t c = c.in-Err-visit.ensures.rest ∙ c.loop-i.invariant.rest

pub returns-in-Err-visit-clause-inside : goal.returns-in-Err-visit-clause-inside
returns-in-Err-visit-clause-inside t c = marking.outside_on (records_of c.loop-i.realm) (records_of c.args.realm.now) c.loop-i.invariant.rest c.visit.new.opened.items c.in-Err-visit.ensures.inside

pub returns-in-Err-visit-clause-scopes : goal.returns-in-Err-visit-clause-scopes
returns-in-Err-visit-clause-scopes t c = scoping.unenter (map arc_value c.args.trees.now) (map without_status (records_of c.args.realm.now)) c.args.x (status_of (records_of c.args.realm.now)) (sym c.status.ensures ∙ c.in-Unlinked.is) (scoping.chain (map arc_value c.args.trees.now) (map without_status (records_of c.args.realm.now)) c.loop-i.invariant.scopes (subst (λ rs. Scoped (map arc_value c.args.trees.now) rs false (status_of (records_of c.loop-i.realm)) (scopes_of c.loop-i.envs) (status_of (records_of c.visit.new.realm)) (scopes_of c.visit.new.envs)) c.loop-i.invariant.rest c.in-Err-visit.ensures.scopes))

pub returns-in-Err-visit-clause-grown : goal.returns-in-Err-visit-clause-grown
returns-in-Err-visit-clause-grown t c = scoping.grown_of (map arc_value c.args.trees.now) (map without_status (records_of c.args.realm.now)) c.args.x (status_of (records_of c.args.realm.now)) (status_of (records_of c.visit.new.realm)) c.args.opened.now.items c.visit.new.opened.items (scoping.grown_more (map arc_value c.args.trees.now) (map without_status (records_of c.args.realm.now)) c.args.x (status_of (records_of c.args.realm.now)) (status_of (records_of c.loop-i.realm)) (status_of (records_of c.visit.new.realm)) c.args.opened.now.items c.loop-i.opened.items c.visit.new.opened.items (scopes_of c.loop-i.envs) (scopes_of c.visit.new.envs) (scopes_of c.args.envs.now) c.loop-i.invariant.grown c.in-Err-visit.ensures.grown c.loop-i.invariant.scopes (subst (λ rs. Scoped (map arc_value c.args.trees.now) rs false (status_of (records_of c.loop-i.realm)) (scopes_of c.loop-i.envs) (status_of (records_of c.visit.new.realm)) (scopes_of c.visit.new.envs)) c.loop-i.invariant.rest c.in-Err-visit.ensures.scopes))

pub returns-in-Err-visit-clause-visits : goal.returns-in-Err-visit-clause-visits
returns-in-Err-visit-clause-visits t c = steps.cut (map arc_value c.args.trees.now) (map without_status (records_of c.args.realm.now)) (status_of (records_of c.args.realm.now)) (index_of c.args.realm.now) c.args.opened.now.items c.args.x c.requires.within (sym c.status.ensures ∙ c.in-Unlinked.is) (status_of (records_of c.loop-i.realm)) (index_of c.loop-i.realm) c.loop-i.opened.items c.loop-i.i c.loop-i.low c.loop-i.invariant.passing c.target-t.result (subst (λ ts. slice_get ts c.loop-i.i ≡ Some c.target-t.result) (marking.targets_on (records_of c.loop-i.realm) (records_of c.args.realm.now) c.loop-i.invariant.rest c.args.x) c.target-t.ensures) c.in-Err-visit.end (status_of (records_of c.visit.new.realm)) (index_of c.visit.new.realm) c.visit.new.opened.items (subst (λ rs. Visiting (map arc_value c.args.trees.now) rs (status_of (records_of c.loop-i.realm)) (index_of c.loop-i.realm) c.loop-i.opened.items c.target-t.result (Err c.in-Err-visit.end) (status_of (records_of c.visit.new.realm)) (index_of c.visit.new.realm) c.visit.new.opened.items) c.loop-i.invariant.rest c.in-Err-visit.ensures.visits)

pub loop-i-preserved : goal.loop-i-preserved
loop-i-preserved t c = record {
  rest = c.in-Ok-visit.ensures.rest ∙ c.loop-i.invariant.rest;
  fewer = omega (arith, c.in-Ok-visit.ensures.fewer, c.loop-i.invariant.fewer);
  count = c.loop-i.invariant.count;
  place = c.loop-i.invariant.place;
  inside = marking.outside_on (records_of c.loop-i.realm) (records_of c.args.realm.now) c.loop-i.invariant.rest c.visit.new.opened.items c.in-Ok-visit.ensures.inside;
  indexes = subst (λ rs. AreIndexes (modules_of (map arc_value c.args.trees.now) rs) c.visit.new.indexes) c.loop-i.invariant.rest c.in-Ok-visit.ensures.indexes;
  scopes = scoping.chain (map arc_value c.args.trees.now) (map without_status (records_of c.args.realm.now)) c.loop-i.invariant.scopes (subst (λ rs. Scoped (map arc_value c.args.trees.now) rs true (status_of (records_of c.loop-i.realm)) (scopes_of c.loop-i.envs) (status_of (records_of c.visit.new.realm)) (scopes_of c.visit.new.envs)) c.loop-i.invariant.rest c.in-Ok-visit.ensures.scopes);
  grown = scoping.grown_more (map arc_value c.args.trees.now) (map without_status (records_of c.args.realm.now)) c.args.x (status_of (records_of c.args.realm.now)) (status_of (records_of c.loop-i.realm)) (status_of (records_of c.visit.new.realm)) c.args.opened.now.items c.loop-i.opened.items c.visit.new.opened.items (scopes_of c.loop-i.envs) (scopes_of c.visit.new.envs) (scopes_of c.args.envs.now) c.loop-i.invariant.grown c.in-Ok-visit.ensures.grown c.loop-i.invariant.scopes (subst (λ rs. Scoped (map arc_value c.args.trees.now) rs true (status_of (records_of c.loop-i.realm)) (scopes_of c.loop-i.envs) (status_of (records_of c.visit.new.realm)) (scopes_of c.visit.new.envs)) c.loop-i.invariant.rest c.in-Ok-visit.ensures.scopes);
  passing = steps.passed (map arc_value c.args.trees.now) (map without_status (records_of c.args.realm.now)) (status_of (records_of c.args.realm.now)) (index_of c.args.realm.now) c.args.opened.now.items c.args.x c.requires.within (sym c.status.ensures ∙ c.in-Unlinked.is) (status_of (records_of c.loop-i.realm)) (index_of c.loop-i.realm) c.loop-i.opened.items c.loop-i.i c.loop-i.low c.loop-i.invariant.passing c.target-t.result (subst (λ ts. slice_get ts c.loop-i.i ≡ Some c.target-t.result) (marking.targets_on (records_of c.loop-i.realm) (records_of c.args.realm.now) c.loop-i.invariant.rest c.args.x) c.target-t.ensures) c.in-Ok-visit.found c.lesser-low.result (status_of (records_of c.visit.new.realm)) (index_of c.visit.new.realm) c.visit.new.opened.items (subst (λ rs. Visiting (map arc_value c.args.trees.now) rs (status_of (records_of c.loop-i.realm)) (index_of c.loop-i.realm) c.loop-i.opened.items c.target-t.result (Ok c.in-Ok-visit.found) (status_of (records_of c.visit.new.realm)) (index_of c.visit.new.realm) c.visit.new.opened.items) c.loop-i.invariant.rest c.in-Ok-visit.ensures.visits) c.lesser-low.ensures;
}

pub leave-requires-clause-whole : goal.leave-requires-clause-whole
leave-requires-clause-whole t c = marking.plain_whole (map arc_value c.args.trees.now) (records_of c.loop-i.realm) (marking.whole_on (records_of c.loop-i.realm) (records_of c.args.realm.now) c.loop-i.invariant.rest (map arc_value c.args.trees.now) c.requires.whole)

pub leave-requires-clause-within : goal.leave-requires-clause-within
leave-requires-clause-within t c = marking.within_on (records_of c.loop-i.realm) (records_of c.args.realm.now) c.loop-i.invariant.rest c.args.x c.requires.within

pub leave-requires-clause-indexes : goal.leave-requires-clause-indexes
leave-requires-clause-indexes t c = subst (λ g. AreIndexes g c.loop-i.indexes) (sym (marking.modules_on (records_of c.loop-i.realm) (records_of c.args.realm.now) c.loop-i.invariant.rest (map arc_value c.args.trees.now))) c.loop-i.invariant.indexes

pub returns-in-Err-leave-clause-rest : goal.returns-in-Err-leave-clause-rest
returns-in-Err-leave-clause-rest t c = c.loop-i.invariant.rest

pub returns-in-Err-leave-clause-inside : goal.returns-in-Err-leave-clause-inside
returns-in-Err-leave-clause-inside t c = c.loop-i.invariant.inside

pub returns-in-Err-leave-clause-scopes : goal.returns-in-Err-leave-clause-scopes
returns-in-Err-leave-clause-scopes t c = scoping.unenter (map arc_value c.args.trees.now) (map without_status (records_of c.args.realm.now)) c.args.x (status_of (records_of c.args.realm.now)) (sym c.status.ensures ∙ c.in-Unlinked.is) (scoping.chain (map arc_value c.args.trees.now) (map without_status (records_of c.args.realm.now)) c.loop-i.invariant.scopes (scoping.scoped_eq (map arc_value c.args.trees.now) (map without_status (records_of c.args.realm.now)) false (status_of (records_of c.loop-i.realm)) (status_of (records_of c.loop-i.realm)) (scopes_of c.loop-i.envs) (scopes_of c.leave.new.envs) (λ y. refl) c.in-Err-leave.ensures.left.scopes_are))

pub returns-in-Err-leave-clause-grown : goal.returns-in-Err-leave-clause-grown
returns-in-Err-leave-clause-grown t c = scoping.grown_of (map arc_value c.args.trees.now) (map without_status (records_of c.args.realm.now)) c.args.x (status_of (records_of c.args.realm.now)) (status_of (records_of c.loop-i.realm)) c.args.opened.now.items c.loop-i.opened.items c.loop-i.invariant.grown

pub returns-in-Err-leave-clause-visits : goal.returns-in-Err-leave-clause-visits
returns-in-Err-leave-clause-visits t c = steps.leave_ends (map arc_value c.args.trees.now) (map without_status (records_of c.args.realm.now)) (status_of (records_of c.args.realm.now)) (index_of c.args.realm.now) c.args.opened.now.items c.args.x c.requires.within (sym c.status.ensures ∙ c.in-Unlinked.is) (status_of (records_of c.loop-i.realm)) (index_of c.loop-i.realm) c.loop-i.opened.items c.loop-i.i c.loop-i.low c.loop-i.invariant.passing (subst (λ n. n ≤ c.loop-i.i) c.loop-i.invariant.count c.loop-i-test.false) c.in-Err-leave.end (scoping.fault_on (map arc_value c.args.trees.now) (records_of c.loop-i.realm) (map without_status (records_of c.args.realm.now)) (marking.modules_on (records_of c.loop-i.realm) (records_of c.args.realm.now) c.loop-i.invariant.rest (map arc_value c.args.trees.now)) c.args.x c.in-Err-leave.end c.in-Err-leave.ensures.left.fault)

pub returns-then-low-place-clause-rest : goal.returns-then-low-place-clause-rest
returns-then-low-place-clause-rest t c = c.loop-i.invariant.rest

pub returns-then-low-place-clause-fewer : goal.returns-then-low-place-clause-fewer
returns-then-low-place-clause-fewer t c = omega (arith, c.loop-i.invariant.fewer)

pub returns-then-low-place-clause-inside : goal.returns-then-low-place-clause-inside
returns-then-low-place-clause-inside t c = c.loop-i.invariant.inside

pub returns-then-low-place-clause-indexes : goal.returns-then-low-place-clause-indexes
returns-then-low-place-clause-indexes t c = subst (λ g. AreIndexes g c.leave.new.indexes) (marking.modules_on (records_of c.loop-i.realm) (records_of c.args.realm.now) c.loop-i.invariant.rest (map arc_value c.args.trees.now)) c.in-Ok-leave.ensures.indexes

pub returns-then-low-place-clause-scopes : goal.returns-then-low-place-clause-scopes
returns-then-low-place-clause-scopes t c = scoping.leave_scoped (map arc_value c.args.trees.now) (map without_status (records_of c.args.realm.now)) c.args.x (status_of (records_of c.args.realm.now)) (sym c.status.ensures ∙ c.in-Unlinked.is) (λ y. false) c.loop-i.invariant.scopes (scoping.left_on (map arc_value c.args.trees.now) (records_of c.loop-i.realm) (map without_status (records_of c.args.realm.now)) (marking.modules_on (records_of c.loop-i.realm) (records_of c.args.realm.now) c.loop-i.invariant.rest (map arc_value c.args.trees.now)) c.in-Ok-leave.ensures.left) (λ y. refl) (λ y h. cc) (λ y h. cc)

pub returns-then-low-place-clause-grown : goal.returns-then-low-place-clause-grown
returns-then-low-place-clause-grown t c = scoping.grown_of (map arc_value c.args.trees.now) (map without_status (records_of c.args.realm.now)) c.args.x (status_of (records_of c.args.realm.now)) (status_of (records_of c.loop-i.realm)) c.args.opened.now.items c.loop-i.opened.items c.loop-i.invariant.grown

pub returns-then-low-place-clause-visits : goal.returns-then-low-place-clause-visits
returns-then-low-place-clause-visits t c = steps.stays (map arc_value c.args.trees.now) (map without_status (records_of c.args.realm.now)) (status_of (records_of c.args.realm.now)) (index_of c.args.realm.now) c.args.opened.now.items c.args.x c.requires.within (sym c.status.ensures ∙ c.in-Unlinked.is) (status_of (records_of c.loop-i.realm)) (index_of c.loop-i.realm) c.loop-i.opened.items c.loop-i.i c.loop-i.low c.loop-i.invariant.passing (subst (λ n. n ≤ c.loop-i.i) c.loop-i.invariant.count c.loop-i-test.false) (scoping.left_on (map arc_value c.args.trees.now) (records_of c.loop-i.realm) (map without_status (records_of c.args.realm.now)) (marking.modules_on (records_of c.loop-i.realm) (records_of c.args.realm.now) c.loop-i.invariant.rest (map arc_value c.args.trees.now)) c.in-Ok-leave.ensures.left).fault (subst (λ n. c.loop-i.low < n) c.loop-i.invariant.place c.if-low-place.true)

pub mark_from-requires : goal.mark_from-requires
mark_from-requires t c = marking.inside_on (records_of c.loop-i.realm) (records_of c.args.realm.now) c.loop-i.invariant.rest c.as_slice.result.now (subst (λ o. AreInside (map without_status (records_of c.args.realm.now)) o) (sym c.as_slice.ensures.value) c.loop-i.invariant.inside)

pub returns-clause-rest : goal.returns-clause-rest
returns-clause-rest t c = c.mark_from.ensures.rest ∙ c.loop-i.invariant.rest

pub returns-clause-fewer : goal.returns-clause-fewer
returns-clause-fewer t c = let n = marking.not_more (records_of c.mark_from.new.realm) (records_of c.loop-i.realm) c.mark_from.ensures.rest (λ y. is_in nat_eq (drop c.len-place.result c.as_slice.result.now) y) c.mark_from.ensures.statuses in omega (arith, n, c.loop-i.invariant.fewer)

pub returns-clause-inside : goal.returns-clause-inside
returns-clause-inside t c = marking.inside_take (map without_status (records_of c.args.realm.now)) c.loop-i.opened.items c.truncate.new.self.items c.len-place.result c.loop-i.invariant.inside c.truncate.ensures.items

pub returns-clause-indexes : goal.returns-clause-indexes
returns-clause-indexes t c = subst (λ g. AreIndexes g c.leave.new.indexes) (marking.modules_on (records_of c.loop-i.realm) (records_of c.args.realm.now) c.loop-i.invariant.rest (map arc_value c.args.trees.now)) c.in-Ok-leave.ensures.indexes

pub returns-clause-scopes : goal.returns-clause-scopes
returns-clause-scopes t c =
    let dropped = scoping.dropped c.args.x (status_of (records_of c.args.realm.now)) (status_of (records_of c.loop-i.realm)) c.args.opened.now.items c.loop-i.opened.items c.len-place.result c.loop-i.invariant.place c.loop-i.invariant.grown in
    scoping.leave_scoped (map arc_value c.args.trees.now) (map without_status (records_of c.args.realm.now)) c.args.x (status_of (records_of c.args.realm.now)) (sym c.status.ensures ∙ c.in-Unlinked.is) (λ y. is_in nat_eq (drop c.len-place.result c.loop-i.opened.items) y) c.loop-i.invariant.scopes (scoping.left_on (map arc_value c.args.trees.now) (records_of c.loop-i.realm) (map without_status (records_of c.args.realm.now)) (marking.modules_on (records_of c.loop-i.realm) (records_of c.args.realm.now) c.loop-i.invariant.rest (map arc_value c.args.trees.now)) c.in-Ok-leave.ensures.left) (λ y. c.mark_from.ensures.statuses y ∙ ap (λ o. cond (is_in nat_eq (drop c.len-place.result o) y) statuses.Linked ((status_of (records_of c.loop-i.realm)) y)) c.as_slice.ensures.value) dropped.0 dropped.1

pub returns-clause-grown : goal.returns-clause-grown
returns-clause-grown t c = scoping.grown_closed c.args.x (status_of (records_of c.args.realm.now)) (status_of (records_of c.loop-i.realm)) (status_of (records_of c.mark_from.new.realm)) c.args.opened.now.items c.loop-i.opened.items c.truncate.new.self.items c.len-place.result c.loop-i.invariant.place c.loop-i.invariant.grown c.truncate.ensures.items

pub returns-clause-visits : goal.returns-clause-visits
returns-clause-visits t c = steps.closes_all (map arc_value c.args.trees.now) (map without_status (records_of c.args.realm.now)) (status_of (records_of c.args.realm.now)) (index_of c.args.realm.now) c.args.opened.now.items c.args.x c.requires.within (sym c.status.ensures ∙ c.in-Unlinked.is) (status_of (records_of c.loop-i.realm)) (index_of c.loop-i.realm) c.loop-i.opened.items c.loop-i.i c.loop-i.low c.loop-i.invariant.passing (subst (λ n. n ≤ c.loop-i.i) c.loop-i.invariant.count c.loop-i-test.false) (status_of (records_of c.mark_from.new.realm)) (index_of c.mark_from.new.realm) c.truncate.new.self.items c.len-place.result c.loop-i.invariant.place (λ y. c.mark_from.ensures.statuses y ∙ ap (λ o. cond (is_in nat_eq (drop c.len-place.result o) y) statuses.Linked ((status_of (records_of c.loop-i.realm)) y)) c.as_slice.ensures.value) c.mark_from.ensures.places c.truncate.ensures.items (scoping.left_on (map arc_value c.args.trees.now) (records_of c.loop-i.realm) (map without_status (records_of c.args.realm.now)) (marking.modules_on (records_of c.loop-i.realm) (records_of c.args.realm.now) c.loop-i.invariant.rest (map arc_value c.args.trees.now)) c.in-Ok-leave.ensures.left).fault (subst (λ n. n ≤ c.loop-i.low) c.loop-i.invariant.place c.if-low-place.false)
