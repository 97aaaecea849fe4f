use Rattle.std.proofs.Common.{map}
use Rattle.std.specs.Arc.{arc_value}
use Rattle.esm_realm.specs.Sound.{records_of}
use Rattle.esm_link_tests.proofs.Built.{built_load, load_length}
use Rattle.esm_link_tests.proofs.building.load.Goals as goal

pub load_request-requires-clause-sound : goal.load_request-requires-clause-sound
load_request-requires-clause-sound c = c.requires.sound

pub returns-then-request-requests-clause-built : goal.returns-then-request-requests-clause-built
returns-then-request-requests-clause-built c =
    built_load (map arc_value c.args.site.now.trees.items) (records_of c.args.site.now.realm) _ c.args.m c.args.request _ c.requires c.load_request.ensures.loaded c.load_request.ensures.sound

pub returns-then-request-requests-clause-many : goal.returns-then-request-requests-clause-many
returns-then-request-requests-clause-many c = load_length (records_of c.args.site.now.realm) _ c.args.m c.args.request _ c.load_request.ensures.loaded
