-- By what linking over the records answers.
use Rattle.std.proofs.Common.{◌≡◌, true, List, map, sym, subst}
use Rattle.std.specs.Prelude.{Ok, Err}
use Rattle.std.specs.Arc.{arc_value}
use Rattle.std.specs.declared.alloc.Global.{Global}
use Rattle.std.specs.declared.sync.Arc.{Arc}
use Rattle.esm_tree.specs.Syntax.{Parts}
use Rattle.esm_realm.specs.Sound.{records_of}
use Rattle.esm_env.specs.Calls.{scopes_of}
use Rattle.esm_link.specs.Realm.{AreTrees, IsLinkedBy, MakesScopes}
use Rattle.esm_rewriting.specs.Fits.{AreLinked}
use Rattle.esm_machine.specs.ModuleStore.{Imported, imported, is_whole, seen_of}
use Rattle.esm_machine.specs.Seen.{linked, modules, names}
use Rattle.esm_machine.specs.SeenScopes.{AreScopesIn}
use Rattle.esm_machine.specs.Linking.{LinksSeen, NamesRecords, SameMembers}
use Rattle.esm_machine.proofs.Answered.{whole_is}
use Rattle.esm_machine.proofs.Awaiting.{awaits_linked, flags_behind}
use Rattle.esm_machine.proofs.Shows.{goes}
use Rattle.esm_machine.proofs.LinkedScopes.{Laws, cells_seen, linked_kept, links_seen, loading_stays, names_seen, root_known, scopes_seen, trees_known, urls_stay}
use Rattle.esm_machine.proofs.module_store.ModuleStore.link.Goals as goal

pub link-requires-clause-sound : goal.link-requires-clause-sound
link-requires-clause-sound c =
    c.self.invariant.kept.sound

pub link-requires-clause-trees : goal.link-requires-clause-trees
link-requires-clause-trees c =
    let whole : is_whole c.self.inside.condition ≡ true = subst (λ (i : Imported). is_whole i.condition ≡ true) (sym c.self.view_is) c.requires.whole in
    subst (λ (ts : List (Arc Parts Global)). AreTrees (map arc_value ts) (records_of c.self.inside.realm)) (sym c.trees.ensures) (trees_known c.self.inside.condition (records_of c.self.inside.realm) c.self.inside.loads (arc_value c.self.inside.import_map) whole c.self.invariant.kept c.spelled_is_bound.ensures)

pub link-requires-clause-root : goal.link-requires-clause-root
link-requires-clause-root c =
    let whole : is_whole c.self.inside.condition ≡ true = subst (λ (i : Imported). is_whole i.condition ≡ true) (sym c.self.view_is) c.requires.whole in
    let loaded = subst (λ (i : Imported). (seen_of i).loading.unlinked ((names (seen_of i)).name c.args.root.0) ≡ true) (sym c.self.view_is) c.requires.loaded in
    root_known c.self.inside.condition (records_of c.self.inside.realm) c.self.inside.loads (arc_value c.self.inside.import_map) c.args.root.0 whole c.self.invariant.kept loaded

pub link-requires-clause-idle : goal.link-requires-clause-idle
link-requires-clause-idle c x lt =
    let whole : is_whole c.self.inside.condition ≡ true = subst (λ (i : Imported). is_whole i.condition ≡ true) (sym c.self.view_is) c.requires.whole in
    (goes c.self.inside.condition (records_of c.self.inside.realm) c.self.inside.loads (arc_value c.self.inside.import_map) whole c.self.invariant.kept).idle x

pub invariant_of-self : goal.invariant_of-self
invariant_of-self c =
    let whole : is_whole c.self.inside.condition ≡ true = subst (λ (i : Imported). is_whole i.condition ≡ true) (sym c.self.view_is) c.requires.whole in
    let laws : Laws = record {
      world = c.linking_is_of_the_world.ensures;
      from = c.links_from_linked.ensures;
      leaves = c.link_leaves_records.ensures;
      keeps = c.link_keeps_scopes.ensures;
      local = c.scopes_are_local.ensures;
      spelled = c.spelled_is_bound.ensures;
    } in
    let links = subst (λ (ts : List (Arc Parts Global)). IsLinkedBy (map arc_value ts) (records_of c.self.inside.realm) c.args.root.0 (Ok tt) (records_of c.link.new.realm)) c.trees.ensures c.in-Ok.ensures.links in
    record {
      kept = linked_kept laws (records_of c.self.inside.realm) (records_of c.link.new.realm) c.self.inside.loads (arc_value c.self.inside.import_map) c.args.root.0 (Ok tt) links c.self.inside.condition c.self.inside.condition whole (whole_is c.self.inside.condition whole) c.self.invariant.kept c.link.ensures.sound;
      flags =
          flags_behind c.self.inside.condition c.self.inside.condition (records_of c.self.inside.realm) (records_of c.link.new.realm) c.self.inside.awaiting.items whole
          (awaits_linked (map arc_value c.self.inside.loads.trees.items) (records_of c.self.inside.realm) (records_of c.link.new.realm)
          (c.link_leaves_records.ensures (map arc_value c.self.inside.loads.trees.items) (records_of c.self.inside.realm) (records_of c.link.new.realm) c.args.root.0 (Ok tt) links)) c.self.invariant.flags;
    }

pub returns-in-Ok-clause-links : goal.returns-in-Ok-clause-links
returns-in-Ok-clause-links c linked_are same =
    let whole : is_whole c.self.inside.condition ≡ true = subst (λ (i : Imported). is_whole i.condition ≡ true) (sym c.self.view_is) c.requires.whole in
    let loaded = subst (λ (i : Imported). (seen_of i).loading.unlinked ((names (seen_of i)).name c.args.root.0) ≡ true) (sym c.self.view_is) c.requires.loaded in
    let are = subst (λ (i : Imported). AreLinked (modules (seen_of i)) (linked (seen_of i))) (sym c.self.view_is) c.requires.linked in
    let laws : Laws = record {
      world = c.linking_is_of_the_world.ensures;
      from = c.links_from_linked.ensures;
      leaves = c.link_leaves_records.ensures;
      keeps = c.link_keeps_scopes.ensures;
      local = c.scopes_are_local.ensures;
      spelled = c.spelled_is_bound.ensures;
    } in
    let links = subst (λ (ts : List (Arc Parts Global)). IsLinkedBy (map arc_value ts) (records_of c.self.inside.realm) c.args.root.0 (Ok tt) (records_of c.link.new.realm)) c.trees.ensures c.in-Ok.ensures.links in
    rw (← c.self.view_is) (links_seen laws (records_of c.self.inside.realm) (records_of c.link.new.realm) c.self.inside.loads (arc_value c.self.inside.import_map) c.args.root.0 (Ok tt) links c.self.inside.condition c.self.inside.condition whole (whole_is c.self.inside.condition whole) c.self.invariant.kept c.link.ensures.sound loaded are linked_are (subst (λ (i : Imported). SameMembers linked_are (seen_of i).linked) (sym c.self.view_is) same))

pub returns-in-Ok-clause-loading : goal.returns-in-Ok-clause-loading
returns-in-Ok-clause-loading c =
    let whole : is_whole c.self.inside.condition ≡ true = subst (λ (i : Imported). is_whole i.condition ≡ true) (sym c.self.view_is) c.requires.whole in
    let laws : Laws = record {
      world = c.linking_is_of_the_world.ensures;
      from = c.links_from_linked.ensures;
      leaves = c.link_leaves_records.ensures;
      keeps = c.link_keeps_scopes.ensures;
      local = c.scopes_are_local.ensures;
      spelled = c.spelled_is_bound.ensures;
    } in
    let links = subst (λ (ts : List (Arc Parts Global)). IsLinkedBy (map arc_value ts) (records_of c.self.inside.realm) c.args.root.0 (Ok tt) (records_of c.link.new.realm)) c.trees.ensures c.in-Ok.ensures.links in
    rw (← c.self.view_is) (loading_stays laws (records_of c.self.inside.realm) (records_of c.link.new.realm) c.self.inside.loads (arc_value c.self.inside.import_map) c.args.root.0 (Ok tt) links c.self.inside.condition c.self.inside.condition whole (whole_is c.self.inside.condition whole))

pub returns-in-Ok-clause-urls : goal.returns-in-Ok-clause-urls
returns-in-Ok-clause-urls c =
    let laws : Laws = record {
      world = c.linking_is_of_the_world.ensures;
      from = c.links_from_linked.ensures;
      leaves = c.link_leaves_records.ensures;
      keeps = c.link_keeps_scopes.ensures;
      local = c.scopes_are_local.ensures;
      spelled = c.spelled_is_bound.ensures;
    } in
    let links = subst (λ (ts : List (Arc Parts Global)). IsLinkedBy (map arc_value ts) (records_of c.self.inside.realm) c.args.root.0 (Ok tt) (records_of c.link.new.realm)) c.trees.ensures c.in-Ok.ensures.links in
    rw (← c.self.view_is) (urls_stay laws (records_of c.self.inside.realm) (records_of c.link.new.realm) c.self.inside.loads (arc_value c.self.inside.import_map) c.args.root.0 (Ok tt) links)

pub returns-in-Ok-clause-condition : goal.returns-in-Ok-clause-condition
returns-in-Ok-clause-condition c =
    let whole : is_whole c.self.inside.condition ≡ true = subst (λ (i : Imported). is_whole i.condition ≡ true) (sym c.self.view_is) c.requires.whole in
    (whole_is c.self.inside.condition whole)

pub returns-in-Ok-clause-scopes : goal.returns-in-Ok-clause-scopes
returns-in-Ok-clause-scopes c =
    let whole : is_whole c.self.inside.condition ≡ true = subst (λ (i : Imported). is_whole i.condition ≡ true) (sym c.self.view_is) c.requires.whole in
    let loaded = subst (λ (i : Imported). (seen_of i).loading.unlinked ((names (seen_of i)).name c.args.root.0) ≡ true) (sym c.self.view_is) c.requires.loaded in
    let are = subst (λ (i : Imported). AreLinked (modules (seen_of i)) (linked (seen_of i))) (sym c.self.view_is) c.requires.linked in
    let scopes = subst (λ (i : Imported). AreScopesIn (seen_of i) (scopes_of c.args.envs.now)) (sym c.self.view_is) c.requires.scopes in
    let laws : Laws = record {
      world = c.linking_is_of_the_world.ensures;
      from = c.links_from_linked.ensures;
      leaves = c.link_leaves_records.ensures;
      keeps = c.link_keeps_scopes.ensures;
      local = c.scopes_are_local.ensures;
      spelled = c.spelled_is_bound.ensures;
    } in
    let links = subst (λ (ts : List (Arc Parts Global)). IsLinkedBy (map arc_value ts) (records_of c.self.inside.realm) c.args.root.0 (Ok tt) (records_of c.link.new.realm)) c.trees.ensures c.in-Ok.ensures.links in
    let makes = subst (λ (ts : List (Arc Parts Global)). MakesScopes (map arc_value ts) (records_of c.self.inside.realm) (scopes_of c.args.envs.now) (records_of c.link.new.realm) (scopes_of c.link.new.envs)) c.trees.ensures c.link.ensures.scopes in
    scopes_seen laws (records_of c.self.inside.realm) (records_of c.link.new.realm) c.self.inside.loads (arc_value c.self.inside.import_map) c.args.root.0 (Ok tt) links c.self.inside.condition c.self.inside.condition whole (whole_is c.self.inside.condition whole) c.self.invariant.kept c.link.ensures.sound loaded are (scopes_of c.args.envs.now) (scopes_of c.link.new.envs) makes scopes

pub returns-in-Ok-clause-cells : goal.returns-in-Ok-clause-cells
returns-in-Ok-clause-cells c =
    let whole : is_whole c.self.inside.condition ≡ true = subst (λ (i : Imported). is_whole i.condition ≡ true) (sym c.self.view_is) c.requires.whole in
    let loaded = subst (λ (i : Imported). (seen_of i).loading.unlinked ((names (seen_of i)).name c.args.root.0) ≡ true) (sym c.self.view_is) c.requires.loaded in
    let are = subst (λ (i : Imported). AreLinked (modules (seen_of i)) (linked (seen_of i))) (sym c.self.view_is) c.requires.linked in
    let scopes = subst (λ (i : Imported). AreScopesIn (seen_of i) (scopes_of c.args.envs.now)) (sym c.self.view_is) c.requires.scopes in
    let laws : Laws = record {
      world = c.linking_is_of_the_world.ensures;
      from = c.links_from_linked.ensures;
      leaves = c.link_leaves_records.ensures;
      keeps = c.link_keeps_scopes.ensures;
      local = c.scopes_are_local.ensures;
      spelled = c.spelled_is_bound.ensures;
    } in
    let links = subst (λ (ts : List (Arc Parts Global)). IsLinkedBy (map arc_value ts) (records_of c.self.inside.realm) c.args.root.0 (Ok tt) (records_of c.link.new.realm)) c.trees.ensures c.in-Ok.ensures.links in
    let makes = subst (λ (ts : List (Arc Parts Global)). MakesScopes (map arc_value ts) (records_of c.self.inside.realm) (scopes_of c.args.envs.now) (records_of c.link.new.realm) (scopes_of c.link.new.envs)) c.trees.ensures c.link.ensures.scopes in
    cells_seen laws (records_of c.self.inside.realm) (records_of c.link.new.realm) c.self.inside.loads (arc_value c.self.inside.import_map) c.args.root.0 (Ok tt) links c.self.inside.condition c.self.inside.condition whole (whole_is c.self.inside.condition whole) c.self.invariant.kept c.link.ensures.sound loaded are (scopes_of c.args.envs.now) (scopes_of c.link.new.envs) makes scopes

pub invariant_of-self-in-Err : goal.invariant_of-self-in-Err
invariant_of-self-in-Err c =
    let whole : is_whole c.self.inside.condition ≡ true = subst (λ (i : Imported). is_whole i.condition ≡ true) (sym c.self.view_is) c.requires.whole in
    let laws : Laws = record {
      world = c.linking_is_of_the_world.ensures;
      from = c.links_from_linked.ensures;
      leaves = c.link_leaves_records.ensures;
      keeps = c.link_keeps_scopes.ensures;
      local = c.scopes_are_local.ensures;
      spelled = c.spelled_is_bound.ensures;
    } in
    let links = subst (λ (ts : List (Arc Parts Global)). IsLinkedBy (map arc_value ts) (records_of c.self.inside.realm) c.args.root.0 (Err c.in-Err.end) (records_of c.link.new.realm)) c.trees.ensures c.in-Err.ensures.links in
    record {
      kept = linked_kept laws (records_of c.self.inside.realm) (records_of c.link.new.realm) c.self.inside.loads (arc_value c.self.inside.import_map) c.args.root.0 (Err c.in-Err.end) links c.self.inside.condition c.condition_unlinked-self-inside.result whole c.condition_unlinked-self-inside.ensures c.self.invariant.kept c.link.ensures.sound;
      flags =
          flags_behind c.self.inside.condition c.condition_unlinked-self-inside.result (records_of c.self.inside.realm) (records_of c.link.new.realm) c.self.inside.awaiting.items whole
          (awaits_linked (map arc_value c.self.inside.loads.trees.items) (records_of c.self.inside.realm) (records_of c.link.new.realm)
          (c.link_leaves_records.ensures (map arc_value c.self.inside.loads.trees.items) (records_of c.self.inside.realm) (records_of c.link.new.realm) c.args.root.0 (Err c.in-Err.end) links)) c.self.invariant.flags;
    }

pub returns-in-Err-clause-links : goal.returns-in-Err-clause-links
returns-in-Err-clause-links c linked_are same =
    let whole : is_whole c.self.inside.condition ≡ true = subst (λ (i : Imported). is_whole i.condition ≡ true) (sym c.self.view_is) c.requires.whole in
    let loaded = subst (λ (i : Imported). (seen_of i).loading.unlinked ((names (seen_of i)).name c.args.root.0) ≡ true) (sym c.self.view_is) c.requires.loaded in
    let are = subst (λ (i : Imported). AreLinked (modules (seen_of i)) (linked (seen_of i))) (sym c.self.view_is) c.requires.linked in
    let laws : Laws = record {
      world = c.linking_is_of_the_world.ensures;
      from = c.links_from_linked.ensures;
      leaves = c.link_leaves_records.ensures;
      keeps = c.link_keeps_scopes.ensures;
      local = c.scopes_are_local.ensures;
      spelled = c.spelled_is_bound.ensures;
    } in
    let links = subst (λ (ts : List (Arc Parts Global)). IsLinkedBy (map arc_value ts) (records_of c.self.inside.realm) c.args.root.0 (Err c.in-Err.end) (records_of c.link.new.realm)) c.trees.ensures c.in-Err.ensures.links in
    subst (λ (i : Imported). LinksSeen (seen_of i) linked_are c.args.root.0 (Err c.in-Err.end) (seen_of (imported (records_of c.link.new.realm) c.self.inside.loads (arc_value c.self.inside.import_map) c.condition_unlinked-self-inside.result))) c.self.view_is (links_seen laws (records_of c.self.inside.realm) (records_of c.link.new.realm) c.self.inside.loads (arc_value c.self.inside.import_map) c.args.root.0 (Err c.in-Err.end) links c.self.inside.condition c.condition_unlinked-self-inside.result whole c.condition_unlinked-self-inside.ensures c.self.invariant.kept c.link.ensures.sound loaded are linked_are (subst (λ (i : Imported). SameMembers linked_are (seen_of i).linked) (sym c.self.view_is) same))

pub returns-in-Err-clause-loading : goal.returns-in-Err-clause-loading
returns-in-Err-clause-loading c =
    let whole : is_whole c.self.inside.condition ≡ true = subst (λ (i : Imported). is_whole i.condition ≡ true) (sym c.self.view_is) c.requires.whole in
    let laws : Laws = record {
      world = c.linking_is_of_the_world.ensures;
      from = c.links_from_linked.ensures;
      leaves = c.link_leaves_records.ensures;
      keeps = c.link_keeps_scopes.ensures;
      local = c.scopes_are_local.ensures;
      spelled = c.spelled_is_bound.ensures;
    } in
    let links = subst (λ (ts : List (Arc Parts Global)). IsLinkedBy (map arc_value ts) (records_of c.self.inside.realm) c.args.root.0 (Err c.in-Err.end) (records_of c.link.new.realm)) c.trees.ensures c.in-Err.ensures.links in
    rw (← c.self.view_is) (loading_stays laws (records_of c.self.inside.realm) (records_of c.link.new.realm) c.self.inside.loads (arc_value c.self.inside.import_map) c.args.root.0 (Err c.in-Err.end) links c.self.inside.condition c.condition_unlinked-self-inside.result whole c.condition_unlinked-self-inside.ensures)

pub returns-in-Err-clause-urls : goal.returns-in-Err-clause-urls
returns-in-Err-clause-urls c =
    let laws : Laws = record {
      world = c.linking_is_of_the_world.ensures;
      from = c.links_from_linked.ensures;
      leaves = c.link_leaves_records.ensures;
      keeps = c.link_keeps_scopes.ensures;
      local = c.scopes_are_local.ensures;
      spelled = c.spelled_is_bound.ensures;
    } in
    let links = subst (λ (ts : List (Arc Parts Global)). IsLinkedBy (map arc_value ts) (records_of c.self.inside.realm) c.args.root.0 (Err c.in-Err.end) (records_of c.link.new.realm)) c.trees.ensures c.in-Err.ensures.links in
    rw (← c.self.view_is) (urls_stay laws (records_of c.self.inside.realm) (records_of c.link.new.realm) c.self.inside.loads (arc_value c.self.inside.import_map) c.args.root.0 (Err c.in-Err.end) links)

pub returns-in-Err-clause-fault : goal.returns-in-Err-clause-fault
returns-in-Err-clause-fault c =
    let whole : is_whole c.self.inside.condition ≡ true = subst (λ (i : Imported). is_whole i.condition ≡ true) (sym c.self.view_is) c.requires.whole in
    let loaded = subst (λ (i : Imported). (seen_of i).loading.unlinked ((names (seen_of i)).name c.args.root.0) ≡ true) (sym c.self.view_is) c.requires.loaded in
    let are = subst (λ (i : Imported). AreLinked (modules (seen_of i)) (linked (seen_of i))) (sym c.self.view_is) c.requires.linked in
    let laws : Laws = record {
      world = c.linking_is_of_the_world.ensures;
      from = c.links_from_linked.ensures;
      leaves = c.link_leaves_records.ensures;
      keeps = c.link_keeps_scopes.ensures;
      local = c.scopes_are_local.ensures;
      spelled = c.spelled_is_bound.ensures;
    } in
    let links = subst (λ (ts : List (Arc Parts Global)). IsLinkedBy (map arc_value ts) (records_of c.self.inside.realm) c.args.root.0 (Err c.in-Err.end) (records_of c.link.new.realm)) c.trees.ensures c.in-Err.ensures.links in
    subst (λ (i : Imported). NamesRecords (seen_of i) (Err c.in-Err.end)) c.self.view_is (names_seen laws (records_of c.self.inside.realm) (records_of c.link.new.realm) c.self.inside.loads (arc_value c.self.inside.import_map) c.args.root.0 (Err c.in-Err.end) links c.self.inside.condition c.condition_unlinked-self-inside.result whole c.condition_unlinked-self-inside.ensures c.self.invariant.kept c.link.ensures.sound loaded are)

pub returns-in-Err-clause-condition : goal.returns-in-Err-clause-condition
returns-in-Err-clause-condition c =
    c.condition_unlinked-self-inside.ensures

pub returns-in-Err-clause-scopes : goal.returns-in-Err-clause-scopes
returns-in-Err-clause-scopes c =
    let whole : is_whole c.self.inside.condition ≡ true = subst (λ (i : Imported). is_whole i.condition ≡ true) (sym c.self.view_is) c.requires.whole in
    let loaded = subst (λ (i : Imported). (seen_of i).loading.unlinked ((names (seen_of i)).name c.args.root.0) ≡ true) (sym c.self.view_is) c.requires.loaded in
    let are = subst (λ (i : Imported). AreLinked (modules (seen_of i)) (linked (seen_of i))) (sym c.self.view_is) c.requires.linked in
    let scopes = subst (λ (i : Imported). AreScopesIn (seen_of i) (scopes_of c.args.envs.now)) (sym c.self.view_is) c.requires.scopes in
    let laws : Laws = record {
      world = c.linking_is_of_the_world.ensures;
      from = c.links_from_linked.ensures;
      leaves = c.link_leaves_records.ensures;
      keeps = c.link_keeps_scopes.ensures;
      local = c.scopes_are_local.ensures;
      spelled = c.spelled_is_bound.ensures;
    } in
    let links = subst (λ (ts : List (Arc Parts Global)). IsLinkedBy (map arc_value ts) (records_of c.self.inside.realm) c.args.root.0 (Err c.in-Err.end) (records_of c.link.new.realm)) c.trees.ensures c.in-Err.ensures.links in
    let makes = subst (λ (ts : List (Arc Parts Global)). MakesScopes (map arc_value ts) (records_of c.self.inside.realm) (scopes_of c.args.envs.now) (records_of c.link.new.realm) (scopes_of c.link.new.envs)) c.trees.ensures c.link.ensures.scopes in
    scopes_seen laws (records_of c.self.inside.realm) (records_of c.link.new.realm) c.self.inside.loads (arc_value c.self.inside.import_map) c.args.root.0 (Err c.in-Err.end) links c.self.inside.condition c.condition_unlinked-self-inside.result whole c.condition_unlinked-self-inside.ensures c.self.invariant.kept c.link.ensures.sound loaded are (scopes_of c.args.envs.now) (scopes_of c.link.new.envs) makes scopes

pub returns-in-Err-clause-cells : goal.returns-in-Err-clause-cells
returns-in-Err-clause-cells c =
    let whole : is_whole c.self.inside.condition ≡ true = subst (λ (i : Imported). is_whole i.condition ≡ true) (sym c.self.view_is) c.requires.whole in
    let loaded = subst (λ (i : Imported). (seen_of i).loading.unlinked ((names (seen_of i)).name c.args.root.0) ≡ true) (sym c.self.view_is) c.requires.loaded in
    let are = subst (λ (i : Imported). AreLinked (modules (seen_of i)) (linked (seen_of i))) (sym c.self.view_is) c.requires.linked in
    let scopes = subst (λ (i : Imported). AreScopesIn (seen_of i) (scopes_of c.args.envs.now)) (sym c.self.view_is) c.requires.scopes in
    let laws : Laws = record {
      world = c.linking_is_of_the_world.ensures;
      from = c.links_from_linked.ensures;
      leaves = c.link_leaves_records.ensures;
      keeps = c.link_keeps_scopes.ensures;
      local = c.scopes_are_local.ensures;
      spelled = c.spelled_is_bound.ensures;
    } in
    let links = subst (λ (ts : List (Arc Parts Global)). IsLinkedBy (map arc_value ts) (records_of c.self.inside.realm) c.args.root.0 (Err c.in-Err.end) (records_of c.link.new.realm)) c.trees.ensures c.in-Err.ensures.links in
    let makes = subst (λ (ts : List (Arc Parts Global)). MakesScopes (map arc_value ts) (records_of c.self.inside.realm) (scopes_of c.args.envs.now) (records_of c.link.new.realm) (scopes_of c.link.new.envs)) c.trees.ensures c.link.ensures.scopes in
    cells_seen laws (records_of c.self.inside.realm) (records_of c.link.new.realm) c.self.inside.loads (arc_value c.self.inside.import_map) c.args.root.0 (Err c.in-Err.end) links c.self.inside.condition c.condition_unlinked-self-inside.result whole c.condition_unlinked-self-inside.ensures c.self.invariant.kept c.link.ensures.sound loaded are (scopes_of c.args.envs.now) (scopes_of c.link.new.envs) makes scopes
