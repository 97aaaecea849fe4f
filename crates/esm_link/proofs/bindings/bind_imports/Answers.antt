-- One import after the other.
use Rattle.std.proofs.Common.{None, sym, subst, map}
use Rattle.std.specs.Arc.{arc_value}
use Rattle.esm_realm.specs.Sound.{records_of}
use Rattle.esm_realm.proofs.ByIds.{at_index}
use Rattle.esm_link.specs.Inner.Graph.{modules_in}
use Rattle.esm_link.proofs.Imports as imports
use Rattle.esm_link.proofs.Resolved as resolved
use Rattle.esm_link.proofs.Imports.{BindsOn}
use Rattle.esm_link.proofs.bindings.bind_imports.Goals as goal

pub loop-i-init : goal.loop-i-init
loop-i-init c = record { fault = λ f h. h; each = subst (λ b. BindsOn (modules_in c.args.graph.now) c.args.x.0 c.args.imports.now b 0) (sym c.new-bound.ensures.items) (λ more q. q); indexes = c.requires.indexes }

pub bind_import-requires-clause-request : goal.bind_import-requires-clause-request
bind_import-requires-clause-request c = resolved.import_request (map arc_value c.args.graph.now.trees.now) (records_of c.args.graph.now.realm.now) c.requires.inside c.args.x.0 c.loop-i.i c.args.imports.now c.index-imports-i.result c.requires.own (at_index c.args.imports.now c.loop-i.i c.index-imports-i.result c.loop-i-test.true c.index-imports-i.is)

pub bind_import-requires-clause-indexes : goal.bind_import-requires-clause-indexes
bind_import-requires-clause-indexes c = c.loop-i.invariant.indexes

pub returns-in-Err-clause-bound : goal.returns-in-Err-clause-bound
returns-in-Err-clause-bound c = imports.entry_unbound (modules_in c.args.graph.now) c.args.x.0 c.args.imports.now c.loop-i.i c.index-imports-i.result c.in-Err.end (at_index c.args.imports.now c.loop-i.i c.index-imports-i.result c.loop-i-test.true c.index-imports-i.is) c.loop-i.invariant.fault c.in-Err.ensures.bound

pub loop-i-preserved : goal.loop-i-preserved
loop-i-preserved c = record {
  fault = λ f h. c.loop-i.invariant.fault f (imports.import_fine (modules_in c.args.graph.now) c.args.x.0 c.args.imports.now c.loop-i.i c.index-imports-i.result c.in-Ok.target f (at_index c.args.imports.now c.loop-i.i c.index-imports-i.result c.loop-i-test.true c.index-imports-i.is) c.in-Ok.ensures.bound h);
  each = imports.bind_next (modules_in c.args.graph.now) c.args.x.0 c.args.imports.now c.loop-i.bound.items c.push_bound.new.bound.items c.loop-i.i c.index-imports-i.result c.as_str.result.now c.in-Ok.target (at_index c.args.imports.now c.loop-i.i c.index-imports-i.result c.loop-i-test.true c.index-imports-i.is) c.in-Ok.ensures.bound c.as_str.ensures.value c.in_ok-push_bound.ensures c.loop-i.invariant.each;
  indexes = c.in-Ok.ensures.indexes;
}

pub returns-clause-bound : goal.returns-clause-bound
returns-clause-bound c = record { fault = c.loop-i.invariant.fault None (imports.import_none (modules_in c.args.graph.now) c.args.x.0 c.args.imports.now c.loop-i.i c.loop-i-test.false); each = imports.bind_end (modules_in c.args.graph.now) c.args.x.0 c.args.imports.now c.loop-i.bound.items c.loop-i.i c.loop-i-test.false c.loop-i.invariant.each }

pub returns-clause-indexes : goal.returns-clause-indexes
returns-clause-indexes c = c.loop-i.invariant.indexes
