use Rattle.esm_env.specs.Modules.{graph}
use Rattle.esm_link.proofs.indexes.Indexes.new.Goals as goal

pub returns : goal.returns
returns c = λ g. record { exports = c.new.ensures (graph g); namespaces = c.new-2.ensures g }
