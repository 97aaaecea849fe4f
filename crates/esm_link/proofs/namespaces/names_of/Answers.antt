use Rattle.std.proofs.Common.{ap, sym, ◌∙◌, map}
use Rattle.std.specs.Arc.{arc_value}
use Rattle.esm_realm.specs.Sound.{records_of}
use Rattle.esm_realm.proofs.ByIds.{at_index}
use Rattle.std.specs.Option.{option_or}
use Rattle.esm_base.specs.TextMap.{at}
use Rattle.esm_link.specs.Inner.Graph.{modules_in, namespace_in}
use Rattle.esm_link.proofs.Naming as naming
use Rattle.esm_link.proofs.Resolved as resolved
use Rattle.esm_link.proofs.namespaces.names_of.Goals as goal
use Rattle.esm_link.proofs.namespaces.names_of.Goals.{in-Whole+in_ok-add_name-in-Whole, in-Named}
use Rattle.esm_resolve.specs.Resolution.{module_id}

pub loop-i-init : goal.loop-i-init
loop-i-init c = λ x. ap (λ es. option_or (at x es) (namespace_in ((modules_in c.args.graph.now).target c.args.m.0) c.imports-imports.result.now x)) c.empty-names.ensures

pub target-target-requires-clause-request : goal.target-target-requires-clause-request
target-target-requires-clause-request c = resolved.request_on (map arc_value c.args.graph.now.trees.now) (records_of c.args.graph.now.realm.now) c.requires.inside c.args.m.0 c.index-imports-i.result.request (resolved.import_request (map arc_value c.args.graph.now.trees.now) (records_of c.args.graph.now.realm.now) c.requires.inside c.args.m.0 c.loop-i.i c.imports-imports.result.now c.index-imports-i.result (c.imports-imports.ensures ∙ ap (λ e. e.imports) (c.entries.ensures ∙ sym (resolved.entries_same (map arc_value c.args.graph.now.trees.now) (records_of c.args.graph.now.realm.now) c.requires.inside c.args.m.0))) (at_index c.imports-imports.result.now c.loop-i.i c.index-imports-i.result c.loop-i-test.true c.index-imports-i.is))

pub loop-i-preserved : goal.loop-i-preserved
loop-i-preserved c = elim c.match-entry.branch [
  | in-Whole+in_ok-add_name-in-Whole w ↦ rw w.names-is (naming.names_whole ((modules_in c.args.graph.now).target c.args.m.0) c.imports-imports.result.now c.loop-i.names w.add_name.new.names c.loop-i.i c.index-imports-i.result w.as_str.result.now w.target-target.result (at_index c.imports-imports.result.now c.loop-i.i c.index-imports-i.result c.loop-i-test.true c.index-imports-i.is) w.in-Whole.is w.as_str.ensures.value (ap module_id w.target-target.ensures) w.in_ok-add_name-in-Whole.ensures c.loop-i.invariant)
  | in-Named w ↦ rw w.names-is (naming.names_other ((modules_in c.args.graph.now).target c.args.m.0) c.imports-imports.result.now c.loop-i.names c.loop-i.i c.index-imports-i.result _ (at_index c.imports-imports.result.now c.loop-i.i c.index-imports-i.result c.loop-i-test.true c.index-imports-i.is) w.in-Named.is c.loop-i.invariant)
]

pub returns : goal.returns
returns c = λ x. naming.names_end ((modules_in c.args.graph.now).target c.args.m.0) c.imports-imports.result.now c.loop-i.names c.loop-i.i c.loop-i-test.false c.loop-i.invariant x ∙ ap (λ es. namespace_in ((modules_in c.args.graph.now).target c.args.m.0) es x) (c.imports-imports.ensures ∙ ap (λ e. e.imports) (c.entries.ensures ∙ sym (resolved.entries_same (map arc_value c.args.graph.now.trees.now) (records_of c.args.graph.now.realm.now) c.requires.inside c.args.m.0)))
