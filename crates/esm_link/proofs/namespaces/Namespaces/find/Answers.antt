-- What the module has, or what it has got.
use Rattle.std.proofs.Common.{◌∙◌, nat_eq, rules}
use Rattle.std.specs.HashMap as maps
use Rattle.esm_link.specs.Inner.Graph.{modules_in}
use Rattle.esm_link.proofs.Naming.{put_names}
use Rattle.esm_link.proofs.namespaces.Namespaces.find.Goals as goal

pub returns-in-Some-clause-found : goal.returns-in-Some-clause-found
returns-in-Some-clause-found c = c.find_name.ensures ∙ c.requires.right c.args.m.0 c.in-Some.names.now (search rules) c.args.name.now

pub returns-in_ok-insert-in-None-clause-right : goal.returns-in_ok-insert-in-None-clause-right
returns-in_ok-insert-in-None-clause-right c = put_names (modules_in c.args.graph.now) (maps.get nat_eq c.args.self.now.modules) (maps.get nat_eq c.insert.new.self) c.args.m.0 c.in_ok-names-in-None.names c.in_ok-insert-in-None.ensures.updates.0 c.in_ok-names-in-None.ensures c.requires.right

pub returns-in_ok-insert-in-None-clause-found : goal.returns-in_ok-insert-in-None-clause-found
returns-in_ok-insert-in-None-clause-found c = c.find_name-found.ensures ∙ c.in_ok-names-in-None.ensures c.args.name.now
