-- The indirect exports, and then the imports.
use Rattle.std.proofs.Common.{Some, None, ap, sym, subst, ◌∙◌, map}
use Rattle.std.specs.Arc.{arc_value}
use Rattle.esm_realm.specs.Sound.{records_of}
use Rattle.esm_link.specs.Inner.Graph.{modules_in}
use Rattle.esm_link.proofs.Imports as imports
use Rattle.esm_link.proofs.Resolved as resolved
use Rattle.esm_link.specs.Faults.{ExportFault, FirstFault}
use Rattle.esm_link.specs.Realm.{fault_of}
use Rattle.esm_link.proofs.bindings.bind.Goals as goal

pub export_fault-requires-clause-own : goal.export_fault-requires-clause-own
export_fault-requires-clause-own c = (c.indirects.ensures ∙ ap (λ e. e.indirects) (c.entries-entries.ensures ∙ sym (resolved.entries_same (map arc_value c.args.graph.now.trees.now) (records_of c.args.graph.now.realm.now) c.requires.inside c.args.x.0)))

pub bind_imports-requires-clause-own : goal.bind_imports-requires-clause-own
bind_imports-requires-clause-own c = (c.imports.ensures ∙ ap (λ e. e.imports) (c.entries-entries.ensures ∙ sym (resolved.entries_same (map arc_value c.args.graph.now.trees.now) (records_of c.args.graph.now.realm.now) c.requires.inside c.args.x.0)))

pub returns-in-Ok-None-clause-bound : goal.returns-in-Ok-None-clause-bound
returns-in-Ok-None-clause-bound c = imports.all_bound (modules_in c.args.graph.now) c.args.x.0 (λ v. v.items) c.imports.result.now c.bind_imports.result (c.imports.ensures ∙ ap (λ e. e.imports) (c.entries-entries.ensures ∙ sym (resolved.entries_same (map arc_value c.args.graph.now.trees.now) (records_of c.args.graph.now.realm.now) c.requires.inside c.args.x.0))) (subst (λ es. ExportFault (modules_in c.args.graph.now) c.args.x.0 es None) (c.indirects.ensures ∙ ap (λ e. e.indirects) (c.entries-entries.ensures ∙ sym (resolved.entries_same (map arc_value c.args.graph.now.trees.now) (records_of c.args.graph.now.realm.now) c.requires.inside c.args.x.0))) (rw c.in-Ok-None.field-0-is at c.in-Ok-None.ensures.fault)) c.bind_imports.ensures.bound

pub returns-in-Ok-Some-clause-bound : goal.returns-in-Ok-Some-clause-bound
returns-in-Ok-Some-clause-bound c = FirstFault.of_exports (subst (λ es. ExportFault (modules_in c.args.graph.now) c.args.x.0 es (Some (fault_of c.in-Ok-Some.fault))) (c.indirects.ensures ∙ ap (λ e. e.indirects) (c.entries-entries.ensures ∙ sym (resolved.entries_same (map arc_value c.args.graph.now.trees.now) (records_of c.args.graph.now.realm.now) c.requires.inside c.args.x.0))) (rw c.in-Ok-Some.field-0-is at c.in-Ok-Some.ensures.fault))
