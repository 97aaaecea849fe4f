-- The whole walk, and what its end leaves.
use Rattle.std.proofs.Common.{◌<◌, Ok, Err, ap, sym, subst, ◌∙◌, map, cond, nat_eq}
use Rattle.std.specs.Arc.{arc_value}
use Rattle.esm_base.specs.Lists.{is_in}
use Rattle.esm_realm.specs.declared.record.ModuleStatus.TheVariants as statuses
use Rattle.esm_realm.specs.Sound.{records_of}
use Rattle.esm_realm.specs.ById.{without_status, status_of, index_of}
use Rattle.esm_realm.proofs.Numbers.{drop_none}
use Rattle.esm_env.specs.Calls.{scopes_of}
use Rattle.esm_link.specs.Realm.{modules_of}
use Rattle.esm_link.specs.Inner.Visit.{AreInside, Visiting}
use Rattle.esm_link.proofs.Linking as linking
use Rattle.esm_link.proofs.Marking as marking
use Rattle.esm_link.proofs.Scoping as scoping
use Rattle.esm_link.proofs.walk.link.Goals as goal

pub visit-requires-clause-whole : goal.visit-requires-clause-whole
visit-requires-clause-whole c = (linking.sound_whole (map arc_value c.args.trees.now) (records_of c.args.realm.now) c.requires.sound c.requires.trees)

pub visit-requires-clause-indexes : goal.visit-requires-clause-indexes
visit-requires-clause-indexes c = c.new-indexes.ensures (modules_of (map arc_value c.args.trees.now) (map without_status (records_of c.args.realm.now)))

pub returns-in-Ok-clause-links : goal.returns-in-Ok-clause-links
returns-in-Ok-clause-links c closed are = linking.linked_ok (map arc_value c.args.trees.now) (records_of c.args.realm.now) (index_of c.args.realm.now) c.args.root.0 (subst (λ n. c.args.root.0 < n) (sym (marking.length_plain (records_of c.args.realm.now))) c.requires.root) (linking.sound_whole (map arc_value c.args.trees.now) (records_of c.args.realm.now) c.requires.sound c.requires.trees) c.requires.idle closed are (records_of c.visit.new.realm) c.in-Ok.ensures.rest (index_of c.visit.new.realm) c.visit.new.opened.items c.in-Ok._low (subst (λ o. Visiting (map arc_value c.args.trees.now) (map without_status (records_of c.args.realm.now)) (status_of (records_of c.args.realm.now)) (index_of c.args.realm.now) o c.args.root.0 (Ok c.in-Ok._low) (status_of (records_of c.visit.new.realm)) (index_of c.visit.new.realm) c.visit.new.opened.items) c.new-opened.ensures.items c.in-Ok.ensures.visits)

pub returns-in-Ok-clause-scopes : goal.returns-in-Ok-clause-scopes
returns-in-Ok-clause-scopes c = scoping.makes_scopes (map arc_value c.args.trees.now) (map without_status (records_of c.args.realm.now)) (records_of c.args.realm.now) (marking.plain_modules (map arc_value c.args.trees.now) (records_of c.args.realm.now)) (records_of c.visit.new.realm) (scopes_of c.args.envs.now) (scopes_of c.visit.new.envs) c.in-Ok.ensures.scopes

pub returns-in-Ok-clause-sound : goal.returns-in-Ok-clause-sound
returns-in-Ok-clause-sound c = linking.sound_on (records_of c.visit.new.realm) (records_of c.args.realm.now) c.in-Ok.ensures.rest c.requires.sound

pub mark_from-requires : goal.mark_from-requires
mark_from-requires c = marking.inside_on (records_of c.visit.new.realm) (records_of c.args.realm.now) c.in-Err.ensures.rest c.as_slice.result.now (subst (λ o. AreInside (map without_status (records_of c.args.realm.now)) o) (sym c.as_slice.ensures.value) c.in-Err.ensures.inside)

pub returns-clause-links : goal.returns-clause-links
returns-clause-links c closed are = linking.linked_err (map arc_value c.args.trees.now) (records_of c.args.realm.now) (index_of c.args.realm.now) c.args.root.0 (subst (λ n. c.args.root.0 < n) (sym (marking.length_plain (records_of c.args.realm.now))) c.requires.root) (linking.sound_whole (map arc_value c.args.trees.now) (records_of c.args.realm.now) c.requires.sound c.requires.trees) c.requires.idle closed are (records_of c.visit.new.realm) c.in-Err.ensures.rest (index_of c.visit.new.realm) c.visit.new.opened.items (records_of c.mark_from.new.realm) c.mark_from.ensures.rest (λ y. c.mark_from.ensures.statuses y ∙ ap (λ o. cond (is_in nat_eq o y) statuses.Unlinked (status_of (records_of c.visit.new.realm) y)) (drop_none c.as_slice.result.now ∙ c.as_slice.ensures.value)) c.in-Err.end (subst (λ o. Visiting (map arc_value c.args.trees.now) (map without_status (records_of c.args.realm.now)) (status_of (records_of c.args.realm.now)) (index_of c.args.realm.now) o c.args.root.0 (Err c.in-Err.end) (status_of (records_of c.visit.new.realm)) (index_of c.visit.new.realm) c.visit.new.opened.items) c.new-opened.ensures.items c.in-Err.ensures.visits)

pub returns-clause-scopes : goal.returns-clause-scopes
returns-clause-scopes c = scoping.makes_cut_scopes (map arc_value c.args.trees.now) (map without_status (records_of c.args.realm.now)) (records_of c.args.realm.now) (marking.plain_modules (map arc_value c.args.trees.now) (records_of c.args.realm.now)) (records_of c.mark_from.new.realm) (scopes_of c.args.envs.now) (scopes_of c.visit.new.envs) (status_of (records_of c.visit.new.realm)) c.visit.new.opened.items c.in-Err.ensures.scopes (λ y. c.mark_from.ensures.statuses y ∙ ap (λ o. cond (is_in nat_eq o y) statuses.Unlinked (status_of (records_of c.visit.new.realm) y)) (drop_none c.as_slice.result.now ∙ c.as_slice.ensures.value))

pub returns-clause-sound : goal.returns-clause-sound
returns-clause-sound c = linking.sound_on (records_of c.mark_from.new.realm) (records_of c.args.realm.now) (c.mark_from.ensures.rest ∙ c.in-Err.ensures.rest) c.requires.sound
