-- One export after the other.
use Rattle.std.proofs.Common.{sym, subst, ◌∙◌, map}
use Rattle.std.specs.Arc.{arc_value}
use Rattle.esm_realm.specs.Sound.{records_of}
use Rattle.esm_realm.proofs.ByIds.{at_index}
use Rattle.esm_link.specs.Inner.Graph.{modules_in}
use Rattle.esm_link.proofs.Imports as imports
use Rattle.esm_link.proofs.Resolved as resolved
use Rattle.esm_resolve.specs.Resolution.{IsResolutionOf, pair_of}
use Rattle.esm_link.specs.Inner.Graph.{graph_of}
use Rattle.esm_link.proofs.fault.export_fault.Goals as goal

pub loop-i-init : goal.loop-i-init
loop-i-init c = record { fault = λ f h. h; indexes = c.requires.indexes }

pub resolve_with-requires-clause-sound : goal.resolve_with-requires-clause-sound
resolve_with-requires-clause-sound c = resolved.sound_graph (map arc_value c.args.graph.now.trees.now) (records_of c.args.graph.now.realm.now) c.requires.inside c.args.x.0 c.requires.within

pub resolve_with-requires-clause-index : goal.resolve_with-requires-clause-index
resolve_with-requires-clause-index c = resolved.index_to (map arc_value c.args.graph.now.trees.now) (records_of c.args.graph.now.realm.now) c.requires.inside c.loop-i.indexes.exports c.loop-i.invariant.indexes.exports

pub target-target-requires-clause-request : goal.target-target-requires-clause-request
target-target-requires-clause-request c = resolved.export_request (map arc_value c.args.graph.now.trees.now) (records_of c.args.graph.now.realm.now) c.requires.inside c.args.x.0 c.loop-i.i c.args.exports.now c.index-exports-i.result c.requires.own (at_index c.args.exports.now c.loop-i.i c.index-exports-i.result c.loop-i-test.true c.index-exports-i.is)

pub returns-then-not-is_one_binding-clause-fault : goal.returns-then-not-is_one_binding-clause-fault
returns-then-not-is_one_binding-clause-fault c = c.loop-i.invariant.fault _ (imports.export_found (modules_in c.args.graph.now) c.args.x.0 c.args.exports.now c.loop-i.i c.index-exports-i.result c.in_ok-resolution.resolution _ (at_index c.args.exports.now c.loop-i.i c.index-exports-i.result c.loop-i-test.true c.index-exports-i.is) (resolved.exports_back (map arc_value c.args.graph.now.trees.now) (records_of c.args.graph.now.realm.now) c.requires.inside c.args.x.0 c.index-exports-i.result.name c.in_ok-resolution.resolution (subst (λ n. IsResolutionOf (graph_of (records_of c.args.graph.now.realm.now)) (pair_of c.args.x.0 n) c.in_ok-resolution.resolution) c.as_str.ensures.value c.in_ok-resolution.ensures.resolution)) (sym c.if-not-is_one_binding.ensures) (λ i. record { kind = c.export_kind-kind.ensures i; module_is = c.args.x.0; name = (c.in_ok-name.ensures ∙ c.as_str-then-not-is_one_binding.ensures.value) i; target = c.target-target.ensures i }))

pub returns-then-not-is_one_binding-clause-indexes : goal.returns-then-not-is_one_binding-clause-indexes
returns-then-not-is_one_binding-clause-indexes c = record { exports = resolved.index_back (map arc_value c.args.graph.now.trees.now) (records_of c.args.graph.now.realm.now) c.requires.inside c.resolve_with.new.index c.in_ok-resolution.ensures.index; namespaces = c.loop-i.invariant.indexes.namespaces }

pub loop-i-preserved : goal.loop-i-preserved
loop-i-preserved c = record {
  fault = λ f h. c.loop-i.invariant.fault f (imports.export_fine (modules_in c.args.graph.now) c.args.x.0 c.args.exports.now c.loop-i.i c.index-exports-i.result c.in_ok-resolution.resolution f (at_index c.args.exports.now c.loop-i.i c.index-exports-i.result c.loop-i-test.true c.index-exports-i.is) (resolved.exports_back (map arc_value c.args.graph.now.trees.now) (records_of c.args.graph.now.realm.now) c.requires.inside c.args.x.0 c.index-exports-i.result.name c.in_ok-resolution.resolution (subst (λ n. IsResolutionOf (graph_of (records_of c.args.graph.now.realm.now)) (pair_of c.args.x.0 n) c.in_ok-resolution.resolution) c.as_str.ensures.value c.in_ok-resolution.ensures.resolution)) (sym c.if-not-is_one_binding.ensures) h);
  indexes = record { exports = resolved.index_back (map arc_value c.args.graph.now.trees.now) (records_of c.args.graph.now.realm.now) c.requires.inside c.resolve_with.new.index c.in_ok-resolution.ensures.index; namespaces = c.loop-i.invariant.indexes.namespaces };
}

pub returns-clause-fault : goal.returns-clause-fault
returns-clause-fault c = c.loop-i.invariant.fault _ (imports.export_none (modules_in c.args.graph.now) c.args.x.0 c.args.exports.now c.loop-i.i c.loop-i-test.false)

pub returns-clause-indexes : goal.returns-clause-indexes
returns-clause-indexes c = c.loop-i.invariant.indexes
