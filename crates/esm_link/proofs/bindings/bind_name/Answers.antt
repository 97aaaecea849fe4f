-- The resolution of the name.
use Rattle.std.proofs.Common.{refl, ap, sym, ◌∙◌, map}
use Rattle.std.specs.Arc.{arc_value}
use Rattle.esm_realm.specs.Sound.{records_of}
use Rattle.esm_link.proofs.Resolved as resolved
use Rattle.esm_resolve.specs.Keys.{is_one}
use Rattle.esm_link.specs.Faults.{import_kind}
use Rattle.esm_link.proofs.bindings.bind_name.Goals.{in-Missing, in-Ambiguous}
use Rattle.esm_link.proofs.bindings.bind_name.Goals as goal

pub resolve_with-requires-clause-sound : goal.resolve_with-requires-clause-sound
resolve_with-requires-clause-sound c = resolved.sound_graph (map arc_value c.args.graph.now.trees.now) (records_of c.args.graph.now.realm.now) c.requires.inside c.args.target.0 c.requires.within

pub resolve_with-requires-clause-index : goal.resolve_with-requires-clause-index
resolve_with-requires-clause-index c = resolved.index_to (map arc_value c.args.graph.now.trees.now) (records_of c.args.graph.now.realm.now) c.requires.inside c.args.indexes.now.exports c.requires.indexes.exports

pub end_target-requires-clause-within : goal.end_target-requires-clause-within
end_target-requires-clause-within c = resolved.home_within (map arc_value c.args.graph.now.trees.now) (records_of c.args.graph.now.realm.now) c.requires.inside c.args.x.0 c.args.target.0 c.args.name.now c.as_str.result.now c.in_ok-home.field-0 c.requires.within c.in_ok-home.ensures.resolution c.as_str.ensures.value c.in-One.home c.in-One.binding c.in-One.is

pub end_target-requires-clause-indexes : goal.end_target-requires-clause-indexes
end_target-requires-clause-indexes c = record { exports = resolved.index_back (map arc_value c.args.graph.now.trees.now) (records_of c.args.graph.now.realm.now) c.requires.inside c.resolve_with.new.index c.in_ok-home.ensures.index; namespaces = c.requires.indexes.namespaces }

pub returns-in-One-clause-bound : goal.returns-in-One-clause-bound
returns-in-One-clause-bound c = resolved.bound_name (map arc_value c.args.graph.now.trees.now) (records_of c.args.graph.now.realm.now) c.requires.inside c.args.x.0 c.args.target.0 c.args.name.now c.as_str.result.now c.in_ok-home.field-0 c.requires.within c.in_ok-home.ensures.resolution c.as_str.ensures.value c.in-One.home c.in-One.binding c.in_ok-end_target-in-One.field-0 c.in-One.is c.in_ok-end_target-in-One.ensures.target

pub returns-clause-bound : goal.returns-clause-bound
returns-clause-bound c = resolved.unbound_name (map arc_value c.args.graph.now.trees.now) (records_of c.args.graph.now.realm.now) c.requires.inside c.args.x.0 c.args.target.0 c.args.name.now c.as_str.result.now c.in_ok-home.field-0 c.requires.within c.in_ok-home.ensures.resolution c.as_str.ensures.value _ (elim c.match-branch-2.branch [
  | in-Missing w ↦ (ap is_one w.in-Missing.is, w.kind-is ∙ ap import_kind (sym w.in-Missing.is))
  | in-Ambiguous w ↦ (ap is_one w.in-Ambiguous.is, w.kind-is ∙ ap import_kind (sym w.in-Ambiguous.is))
]) refl (c.in_ok-name.ensures ∙ c.as_str-2.ensures.value) refl
