use Rattle.std.proofs.Common.{subst, sym, map}
use Rattle.std.specs.Arc.{arc_value}
use Rattle.esm_realm.specs.Sound.{records_of}
use Rattle.esm_link.specs.Realm.{AreTrees, IsLinkedBy}
use Rattle.esm_link_tests.proofs.Built.{built_link, trees_built}
use Rattle.esm_link_tests.proofs.linking.linked.Goals as goal

pub link-end-requires-clause-trees : goal.link-end-requires-clause-trees
link-end-requires-clause-trees c =
    subst (λ ts. AreTrees (map arc_value ts) (records_of c.args.site.now.realm)) (sym c.as_slice.ensures.value)
    (trees_built (map arc_value c.args.site.now.trees.items) (records_of c.args.site.now.realm) c.spelled_is_bound.ensures c.requires.built)

pub link-end-requires-clause-idle : goal.link-end-requires-clause-idle
link-end-requires-clause-idle c x lt = c.requires.built.idle x

pub link-end-requires-clause-sound : goal.link-end-requires-clause-sound
link-end-requires-clause-sound c = c.requires.built.sound

pub returns : goal.returns
returns c =
    built_link (map arc_value c.args.site.now.trees.items) (records_of c.args.site.now.realm) (records_of c.link-end.new.realm) c.requires.built c.link-end.ensures.sound
    (c.link_leaves_records.ensures (map arc_value c.args.site.now.trees.items) (records_of c.args.site.now.realm) (records_of c.link-end.new.realm) c.args.root.0 c.link-end.result
    (subst (λ ts. IsLinkedBy (map arc_value ts) (records_of c.args.site.now.realm) c.args.root.0 c.link-end.result (records_of c.link-end.new.realm)) c.as_slice.ensures.value c.link-end.ensures.links))
