use Rattle.esm_machine.proofs.LinkJobs.{linked_ready, links_root, names_still, refused_links, refused_ready, refused_some, refused_urls, root_is_linked}
use Rattle.esm_machine.proofs.ReadyHost.{all_linked}
use Rattle.esm_machine.proofs.linking.link_root.Goals as goal

pub link-requires-clause-whole : goal.link-requires-clause-whole
link-requires-clause-whole c = c.requires.ready.order.whole

pub link-requires-clause-linked : goal.link-requires-clause-linked
link-requires-clause-linked c = all_linked c.args.parts.now c.requires.ready

pub link-requires-clause-scopes : goal.link-requires-clause-scopes
link-requires-clause-scopes c = c.requires.ready.order.scopes

-- ---- no fault

pub returns-in-Ok-clause-links : goal.returns-in-Ok-clause-links
returns-in-Ok-clause-links c w live =
    links_root c.args.parts.now c.link.new.self c.link.new.envs c.link.ensures.loading c.link.ensures.urls c.link.ensures.cells c.args.root.0 c.in-Ok.ensures.links w live

pub returns-in-Ok-clause-linked : goal.returns-in-Ok-clause-linked
returns-in-Ok-clause-linked c e =
    let a = c.requires.ready in
    root_is_linked c.args.parts.now c.link.new.self c.link.new.envs c.link.ensures.loading c.link.ensures.urls c.link.ensures.cells c.args.root.0 c.in-Ok.ensures.links c.worlds_stay_sound.ensures.links a.world a.live

pub returns-in-Ok-clause-urls : goal.returns-in-Ok-clause-urls
returns-in-Ok-clause-urls c = c.link.ensures.urls

pub returns-in-Ok-clause-ready : goal.returns-in-Ok-clause-ready
returns-in-Ok-clause-ready c =
    linked_ready c.args.parts.now c.link.new.self c.link.new.envs c.link.ensures.loading c.link.ensures.urls c.link.ensures.cells c.args.root.0 c.in-Ok.ensures.links c.worlds_stay_sound.ensures.links c.requires.ready c.requires.loaded c.in-Ok.ensures.scopes

-- ---- a refusal

pub refusal-requires : goal.refusal-requires
refusal-requires c =
    names_still c.args.parts.now c.link.new.self c.link.new.envs c.link.ensures.loading c.link.ensures.urls c.link.ensures.cells c.in-Err.end c.in-Err.ensures.fault

pub returns-in-Err-clause-links : goal.returns-in-Err-clause-links
returns-in-Err-clause-links c w live =
    refused_links c.args.parts.now c.link.new.self c.link.new.envs c.link.ensures.loading c.link.ensures.urls c.link.ensures.cells c.args.root.0 c.in-Err.end c.refusal.new.parts c.in-Err.ensures.links c.refusal.result c.refusal.ensures w live

pub returns-in-Err-clause-linked : goal.returns-in-Err-clause-linked
returns-in-Err-clause-linked c e =
    absurd (refused_some c.args.parts.now c.link.new.self c.link.new.envs c.link.ensures.loading c.link.ensures.urls c.link.ensures.cells c.args.root.0 c.in-Err.end c.refusal.new.parts c.in-Err.ensures.links c.refusal.result c.refusal.ensures e)

pub returns-in-Err-clause-urls : goal.returns-in-Err-clause-urls
returns-in-Err-clause-urls c =
    refused_urls c.args.parts.now c.link.new.self c.link.new.envs c.link.ensures.loading c.link.ensures.urls c.link.ensures.cells c.args.root.0 c.in-Err.end c.refusal.new.parts c.in-Err.ensures.links c.refusal.result c.refusal.ensures

pub returns-in-Err-clause-ready : goal.returns-in-Err-clause-ready
returns-in-Err-clause-ready c =
    refused_ready c.args.parts.now c.link.new.self c.link.new.envs c.link.ensures.loading c.link.ensures.urls c.link.ensures.cells c.args.root.0 c.in-Err.end c.refusal.new.parts c.in-Err.ensures.links c.refusal.result c.in-Err.ensures.scopes c.refusal.ensures c.worlds_stay_sound.ensures.links c.requires.ready c.requires.loaded
