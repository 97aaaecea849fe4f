-- The load ends where it goes on and has no pending request.
use Rattle.std.proofs.Common.{◌≡◌, ◌∙◌, ap, sym, subst, true, false, rules, [], length, refl, arith, ℕ}
use Rattle.std.specs.Prelude.{◌||◌}
use Rattle.std.proofs.lemmas.List.{length-set}
use Rattle.esm_realm.specs.Sound.{records_of}
use Rattle.esm_loads.specs.LoadsView.{LoadView, is_in, is_unlinked}
use Rattle.esm_loads.specs.LoadsAsLoading.{loading_of}
use Rattle.esm_loads.specs.Fits.{AreJoined, IsLoadWithin, AreBelow}
use Rattle.esm_loads.specs.Inner.Answering.{KeepsUrls}
use Rattle.esm_loads.specs.Inner.Filling.{FillsNew}
use Rattle.esm_loads.specs.Inner.Targets.{KnowTargets}
use Rattle.esm_loads.specs.declared.loads.Loads.{Loads}
use Rattle.esm_loads.specs.declared.data.Stage.TheVariants as stages
use Rattle.esm_loads.proofs.Places.{index_get, some_is, all_get, nothing}
use Rattle.esm_loads.proofs.FillFacts.{fills_same, ids_below}
use Rattle.esm_loads.proofs.Unlinks as facts
use Rattle.esm_loads.proofs.answering.finish.Goals as goal

same_urls : (l : Loads) → KeepsUrls l l
same_urls l = record { more = []; slots = sym (nothing l.urls.slots); fetching = λ k d m. absurd (omega arith); rest = refl; loads = refl }

pub returns-in-None-clause-finishes : goal.returns-in-None-clause-finishes
returns-in-None-clause-finishes c maps =
    let t = c.args.loads.now in
    let at = index_get t.loads.items c.args.load c.index.result.now c.requires.load c.index.ensures in
    facts.finish_over maps t (records_of c.args.realm.now) c.args.load c.index.result.now at (sym c.open_root.ensures ∙ c.in-None.is)

pub returns-in-None-clause-kept : goal.returns-in-None-clause-kept
returns-in-None-clause-kept c = same_urls c.args.loads.now

pub returns-then-waits-clause-finishes : goal.returns-then-waits-clause-finishes
returns-then-waits-clause-finishes c maps =
    let t = c.args.loads.now in
    let some : c.waits.result ≡ true = search rules in
    facts.finish_waits maps t (length (records_of c.args.realm.now)) (records_of c.args.realm.now) c.args.load c.requires.joined (sym c.waits.ensures ∙ some)

pub returns-then-waits-clause-kept : goal.returns-then-waits-clause-kept
returns-then-waits-clause-kept c = same_urls c.args.loads.now

pub waits-requires : goal.waits-requires
waits-requires c = omega (arith, c.requires.load, c.requires.joined.counts)

pub unlink-requires-clause-ids : goal.unlink-requires-clause-ids
unlink-requires-clause-ids c =
    let t = c.args.loads.now in
    let n = length (records_of c.args.realm.now) in
    let at = index_get t.loads.items c.args.load c.index-in-Some.result.now c.requires.load c.index-in-Some.ensures in
    subst (AreBelow n) (sym c.visited.ensures) (all_get (IsLoadWithin (length t.urls.slots) n) t.loads.items c.args.load c.index-in-Some.result.now c.requires.joined.loads at).1

pub unlink-requires-clause-below : goal.unlink-requires-clause-below
unlink-requires-clause-below c = ids_below c.args.loads.now.urls.slots (records_of c.args.realm.now) c.requires.records

pub returns-in-None-clause-fills : goal.returns-in-None-clause-fills
returns-in-None-clause-fills c = fills_same c.args.loads.now.urls.slots (records_of c.args.realm.now)

pub returns-then-waits-clause-fills : goal.returns-then-waits-clause-fills
returns-then-waits-clause-fills c = fills_same c.args.loads.now.urls.slots (records_of c.args.realm.now)

pub returns-else-waits-clause-fills : goal.returns-else-waits-clause-fills
returns-else-waits-clause-fills c =
    let t = c.args.loads.now in
    let l = c.index.result.now in
    let at = index_get t.loads.items c.args.load l c.requires.load c.index.ensures in
    subst (λ (t : Loads). FillsNew t.urls.slots (records_of c.args.realm.now) (records_of c.unlink.new.realm)) (sym (c.set_stage.ensures l at)) c.unlink.ensures.fills

pub returns-else-waits-clause-finishes : goal.returns-else-waits-clause-finishes
returns-else-waits-clause-finishes c maps =
    let t = c.args.loads.now in
    let R = records_of c.args.realm.now in
    let l = c.index.result.now in
    let at = index_get t.loads.items c.args.load l c.requires.load c.index.ensures in
    let off : c.waits.result ≡ false = search rules in
    let open_is = facts.root_open l.stage c.in-Some.root (sym c.open_root.ensures ∙ c.in-Some.is) in
    let seen = some_is (sym (index_get t.loads.items c.args.load c.index-in-Some.result.now c.requires.load c.index-in-Some.ensures) ∙ at) in
    let visited = c.visited.ensures ∙ ap (λ (l : LoadView). l.visited) seen in
    ap (λ t. loading_of maps t (records_of c.unlink.new.realm)) (c.set_stage.ensures l at)
    ∙ facts.finish_is maps t (length R) R (records_of c.unlink.new.realm) c.args.load l c.in-Some.root c.requires.joined at open_is (sym c.waits.ensures ∙ off) c.unlink.ensures.same
    (subst (λ ids. (id : ℕ) → is_unlinked (records_of c.unlink.new.realm) id ≡ (is_unlinked R id || is_in ids id)) visited c.unlink.ensures.unlinked)

pub returns-else-waits-clause-joined : goal.returns-else-waits-clause-joined
returns-else-waits-clause-joined c =
    let t = c.args.loads.now in
    let n = length (records_of c.args.realm.now) in
    let l = c.index.result.now in
    let at = index_get t.loads.items c.args.load l c.requires.load c.index.ensures in
    subst (λ t. AreJoined t n) (sym (c.set_stage.ensures l at)) (facts.finish_joined t n c.args.load l c.in-Some.root c.requires.joined at (facts.root_open l.stage c.in-Some.root (sym c.open_root.ensures ∙ c.in-Some.is)))

pub returns-else-waits-clause-known : goal.returns-else-waits-clause-known
returns-else-waits-clause-known c =
    let l = c.index.result.now in
    let at = index_get c.args.loads.now.loads.items c.args.load l c.requires.load c.index.ensures in
    subst (λ (t : Loads). KnowTargets t.urls (records_of c.args.realm.now)) (sym (c.set_stage.ensures l at)) c.requires.known

pub returns-else-waits-clause-kept : goal.returns-else-waits-clause-kept
returns-else-waits-clause-kept c =
    let t = c.args.loads.now in
    let l = c.index.result.now in
    let at = index_get t.loads.items c.args.load l c.requires.load c.index.ensures in
    subst (KeepsUrls t) (sym (c.set_stage.ensures l at)) (record { more = []; slots = sym (nothing t.urls.slots); fetching = λ k d m. absurd (omega arith); rest = refl; loads = length-set t.loads.items c.args.load (record l { stage = stages.Complete c.in-Some.root }) })
