use Rattle.esm_machine_tests.proofs.FreshStores.{links_root}
use Rattle.esm_machine_tests.proofs.store.link_root.Goals as goal

pub returns : goal.returns
returns c = links_root c.linked_stays_linked.ensures c.args.store.now c.link.new.self c.args.root.0 c.link.result c.link.ensures.links c.link.ensures.urls
