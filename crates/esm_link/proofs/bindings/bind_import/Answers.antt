-- A whole namespace, or a name.
use Rattle.std.proofs.Common.{◌<◌, Some, ap, sym, subst, map, length}
use Rattle.std.specs.Arc.{arc_value}
use Rattle.esm_realm.specs.Sound.{records_of}
use Rattle.esm_link.specs.Inner.Graph.{modules_in}
use Rattle.esm_link.proofs.Imports as imports
use Rattle.esm_link.proofs.Resolved as resolved
use Rattle.esm_env.specs.Bindings.{WholeOf}
use Rattle.esm_link.specs.Inner.Imports.{IsBoundEntry}
use Rattle.esm_link.proofs.bindings.bind_import.Goals as goal

pub target-target-requires-clause-request : goal.target-target-requires-clause-request
target-target-requires-clause-request c = resolved.request_on (map arc_value c.args.graph.now.trees.now) (records_of c.args.graph.now.realm.now) c.requires.inside c.args.x.0 c.args.entry.now.request c.requires.request

pub returns-in-Whole-clause-bound : goal.returns-in-Whole-clause-bound
returns-in-Whole-clause-bound c = IsBoundEntry.whole c.in-Whole.is (ap (λ n. Some (WholeOf n)) c.target-target.ensures)

pub bind_name-requires-clause-within : goal.bind_name-requires-clause-within
bind_name-requires-clause-within c = subst (λ n. n < length (records_of c.args.graph.now.realm.now)) (sym c.target-target.ensures) (c.requires.inside.target c.args.x.0 c.args.entry.now.request c.requires.within)

pub returns-in-Named-clause-bound : goal.returns-in-Named-clause-bound
returns-in-Named-clause-bound c = imports.entry_bound (modules_in c.args.graph.now) c.args.x.0 c.args.entry.now _ c.target-target.result.0 c.bind_name.result c.in-Named.is c.target-target.ensures c.bind_name.ensures.bound
