use Rattle.std.proofs.Common.{◌≡◌, ℕ, suc, ◌+◌, ◌≤◌, ◌<◌, false, true, cond, not, Bool, refl, rules, [], ◌∷◌, ◌++◌, length, arith, ap, sym, subst, ◌∙◌, length-append, vec_len}
use Rattle.std.proofs.lemmas.List.Elements.{Contains-push}
use Rattle.std.specs.BTreeMap.{get, is_at}
use Rattle.std.specs.Bool.{OnFalse}
use Rattle.std.specs.BTreeSet.{contains}
use Rattle.std.specs.List.{list_any}
use Rattle.std.specs.Ordering.{is_eq}
use Rattle.esm_resolve.specs.declared.pair.Pair.{Pair}
use Rattle.esm_resolve.specs.declared.graph.Resolution.TheVariants.{Missing}
use Rattle.esm_resolve.specs.Pairs.{pair_eq, pair_cmp}
use Rattle.esm_resolve.specs.Inner.Search.{steps_of}
use Rattle.esm_resolve.proofs.Search.Candidates.{candidates, pair_eq_same, pair_eq_own, sees_as, reached_sound, reached_candidate}
use Rattle.esm_resolve.proofs.Members.{nil_from_length}
use Rattle.esm_resolve.proofs.Search.Remaining.{left, left-seen}
use Rattle.esm_resolve.proofs.Search.Searching.{IsUnderWay, opening, skips, visits, taken, closes, ambiguous}
use Rattle.esm_resolve.proofs.resolve.search.Goals as goal
use Rattle.esm_resolve.proofs.resolve.search.Goals.{In-Some, In_ok-found}

pub loop-pair-init : goal.loop-pair-init
loop-pair-init g c =
    let graph = g.G.ExportGraph.graph c.args.graph.now in
    let kept = get pair_cmp c.args.ends.now in
    let from = c.args.start.now in
    let seen = contains pair_cmp c.new-visited.result in
    let none : (p : Pair) → seen p ≡ false = λ p. ap (list_any (is_at (pair_cmp p))) c.new-visited.ensures.empty in
    let work : c.push.new.self.items ≡ from ∷ [] = search rules in
    record { table = c.requires.table; search = subst (λ l. IsUnderWay graph kept from seen l Missing) (sym work) (opening graph kept from seen none) }

-- the pair that was taken is the last of those that were in work
here : (g : _) (c : In-Some g) → IsUnderWay (g.G.ExportGraph.graph c.args.graph.now) (get pair_cmp c.args.ends.now) c.args.start.now (contains pair_cmp c.loop-pair.visited) (c.pop.new.self.items ++ c.in-Some.pair ∷ []) c.loop-pair.found
here g c = taken (g.G.ExportGraph.graph c.args.graph.now) (get pair_cmp c.args.ends.now) c.args.start.now (contains pair_cmp c.loop-pair.visited) c.loop-pair.work.items c.pop.new.self.items c.in-Some.pair c.loop-pair.found c.in-Some.ensures.items c.loop-pair.invariant.search

pub visit-requires-clause-sound : goal.visit-requires-clause-sound
visit-requires-clause-sound g c =
    let graph = g.G.ExportGraph.graph c.args.graph.now in
    let kept = get pair_cmp c.args.ends.now in
    reached_sound graph c.args.start.now.home.0 c.args.start.now.name c.requires.sound ((here g (goal.at.visit-requires-clause-sound g c).In-Some).in_work c.in-Some.pair (Contains-push c.pop.new.self.items c.in-Some.pair))

-- the pair is new to the set
fresh : (added had : Bool) → added ≡ not had → added ≡ true → had ≡ false
fresh true false is on = refl
fresh false had is on = absurd (cc)
fresh true true is on = absurd (cc)

-- once the pair was visited
visited : (g : _) (c : In_ok-found g) → IsUnderWay (g.G.ExportGraph.graph c.args.graph.now) (get pair_cmp c.args.ends.now) c.args.start.now (contains pair_cmp c.insert.new.self) c.visit.new.work.items c.in_ok-found.found
visited g c =
    let graph = g.G.ExportGraph.graph c.args.graph.now in
    let kept = get pair_cmp c.args.ends.now in
    let from = c.args.start.now in
    let seen = contains pair_cmp c.loop-pair.visited in
    let new = contains pair_cmp c.insert.new.self in
    let before : IsUnderWay graph kept from seen (c.pop.new.self.items ++ c.in-Some.pair ∷ []) c.loop-pair.found = taken graph kept from seen c.loop-pair.work.items c.pop.new.self.items c.in-Some.pair c.loop-pair.found c.in-Some.ensures.items c.loop-pair.invariant.search in
    let after = visits graph kept c.requires.ends from seen new c.in-Some.pair (sees_as c.in-Some.pair seen new (subst (λ p. (q : Pair) → new q ≡ cond (is_eq (pair_cmp p q)) true (seen q)) c.in_ok-seen.ensures c.in_ok-insert.ensures.updates.0)) c.pop.new.self.items c.loop-pair.found c.in_ok-found.found before c.in_ok-found.ensures.found in
    subst (λ l. IsUnderWay graph kept from new l c.in_ok-found.found) (sym c.in_ok-found.ensures.work) after

pub returns-in-Ambiguous-clause-resolution : goal.returns-in-Ambiguous-clause-resolution
returns-in-Ambiguous-clause-resolution g c =
    ambiguous (g.G.ExportGraph.graph c.args.graph.now) (get pair_cmp c.args.ends.now) c.args.start.now (contains pair_cmp c.insert.new.self) c.visit.new.work.items c.in_ok-found.found c.in-Ambiguous.is (visited g (goal.at.returns-in-Ambiguous-clause-resolution g c).In_ok-found)

pub loop-pair-preserved : goal.loop-pair-preserved
loop-pair-preserved g c = record { table = c.in_ok-found.ensures.table; search = visited g (goal.at.loop-pair-preserved g c).In_ok-found }

pub loop-pair-preserved-in_default-found : goal.loop-pair-preserved-in_default-found
loop-pair-preserved-in_default-found g c = record { table = c.in_ok-found.ensures.table; search = visited g (goal.at.loop-pair-preserved-in_default-found g c).In_ok-found }

smaller : (a b w v m k : ℕ) → suc (a + k) ≤ b → w ≡ m + 1 → v ≡ m + k → a + v < b + w
smaller a b w v m k less was now = omega arith

pub loop-pair-smaller : goal.loop-pair-smaller
loop-pair-smaller g c =
    let graph = g.G.ExportGraph.graph c.args.graph.now in
    let kept = get pair_cmp c.args.ends.now in
    let from = c.args.start.now in
    let seen = contains pair_cmp c.loop-pair.visited in
    let new = contains pair_cmp c.insert.new.self in
    let all = candidates graph c.args.start.now.name in
    let before : IsUnderWay graph kept from seen (c.pop.new.self.items ++ c.in-Some.pair ∷ []) c.loop-pair.found = taken graph kept from seen c.loop-pair.work.items c.pop.new.self.items c.in-Some.pair c.loop-pair.found c.in-Some.ensures.items c.loop-pair.invariant.search in
    let reached = before.in_work c.in-Some.pair (Contains-push c.pop.new.self.items c.in-Some.pair) in
    let member = reached_candidate graph c.args.start.now.home.0 c.args.start.now.name c.requires.sound reached in
    let unseen : seen c.in-Some.pair ≡ false = subst (λ p. seen p ≡ false) c.in_ok-seen.ensures (fresh c.in_ok-insert.field-0 (seen c.in_ok-seen.seen) c.in_ok-insert.ensures.added c.if-not-branch.false) in
    let less = left-seen pair_eq pair_eq_same pair_eq_own (steps_of graph kept) seen new c.in-Some.pair (sees_as c.in-Some.pair seen new (subst (λ p. (q : Pair) → new q ≡ cond (is_eq (pair_cmp p q)) true (seen q)) c.in_ok-seen.ensures c.in_ok-insert.ensures.updates.0)) all member unseen in
    let was : length c.loop-pair.work.items ≡ length c.pop.new.self.items + 1 = ap length c.in-Some.ensures.items ∙ length-append c.pop.new.self.items (c.in-Some.pair ∷ []) in
    let now : length c.visit.new.work.items ≡ length c.pop.new.self.items + length (steps_of graph kept c.in-Some.pair) = ap length c.in_ok-found.ensures.work ∙ length-append c.pop.new.self.items (steps_of graph kept c.in-Some.pair) in
    smaller (left (steps_of graph kept) new all) (left (steps_of graph kept) seen all) (vec_len c.loop-pair.work) (vec_len c.visit.new.work) (length c.pop.new.self.items) (length (steps_of graph kept c.in-Some.pair)) less (c.loop-pair.work.ok.0 ∙ was) (c.visit.new.work.ok.0 ∙ now)

pub loop-pair-smaller-in_default-found : goal.loop-pair-smaller-in_default-found
loop-pair-smaller-in_default-found g c =
    let graph = g.G.ExportGraph.graph c.args.graph.now in
    let kept = get pair_cmp c.args.ends.now in
    let from = c.args.start.now in
    let seen = contains pair_cmp c.loop-pair.visited in
    let new = contains pair_cmp c.insert.new.self in
    let all = candidates graph c.args.start.now.name in
    let before : IsUnderWay graph kept from seen (c.pop.new.self.items ++ c.in-Some.pair ∷ []) c.loop-pair.found = taken graph kept from seen c.loop-pair.work.items c.pop.new.self.items c.in-Some.pair c.loop-pair.found c.in-Some.ensures.items c.loop-pair.invariant.search in
    let reached = before.in_work c.in-Some.pair (Contains-push c.pop.new.self.items c.in-Some.pair) in
    let member = reached_candidate graph c.args.start.now.home.0 c.args.start.now.name c.requires.sound reached in
    let unseen : seen c.in-Some.pair ≡ false = subst (λ p. seen p ≡ false) c.in_ok-seen.ensures (fresh c.in_ok-insert.field-0 (seen c.in_ok-seen.seen) c.in_ok-insert.ensures.added c.if-not-branch.false) in
    let less = left-seen pair_eq pair_eq_same pair_eq_own (steps_of graph kept) seen new c.in-Some.pair (sees_as c.in-Some.pair seen new (subst (λ p. (q : Pair) → new q ≡ cond (is_eq (pair_cmp p q)) true (seen q)) c.in_ok-seen.ensures c.in_ok-insert.ensures.updates.0)) all member unseen in
    let was : length c.loop-pair.work.items ≡ length c.pop.new.self.items + 1 = ap length c.in-Some.ensures.items ∙ length-append c.pop.new.self.items (c.in-Some.pair ∷ []) in
    let now : length c.visit.new.work.items ≡ length c.pop.new.self.items + length (steps_of graph kept c.in-Some.pair) = ap length c.in_ok-found.ensures.work ∙ length-append c.pop.new.self.items (steps_of graph kept c.in-Some.pair) in
    smaller (left (steps_of graph kept) new all) (left (steps_of graph kept) seen all) (vec_len c.loop-pair.work) (vec_len c.visit.new.work) (length c.pop.new.self.items) (length (steps_of graph kept c.in-Some.pair)) less (c.loop-pair.work.ok.0 ∙ was) (c.visit.new.work.ok.0 ∙ now)

pub returns-clause-resolution : goal.returns-clause-resolution
returns-clause-resolution g c =
    let graph = g.G.ExportGraph.graph c.args.graph.now in
    let kept = get pair_cmp c.args.ends.now in
    let from = c.args.start.now in
    let seen = contains pair_cmp c.loop-pair.visited in
    let none : c.loop-pair.work.items ≡ [] = nil_from_length c.loop-pair.work.items (sym c.loop-pair.work.ok.0 ∙ c.in_default.ensures.cases.0) in
    closes graph kept c.requires.ends from seen c.loop-pair.work.items c.loop-pair.found none c.loop-pair.invariant.search

-- the pair was there
there : (added had : Bool) → added ≡ not had → added ≡ false → had ≡ true
there false true is off = refl
there true had is off = absurd (cc)
there false false is off = absurd (cc)

pub loop-pair-preserved-then-not-branch : goal.loop-pair-preserved-then-not-branch
loop-pair-preserved-then-not-branch g c =
    let graph = g.G.ExportGraph.graph c.args.graph.now in
    let kept = get pair_cmp c.args.ends.now in
    let from = c.args.start.now in
    let seen = contains pair_cmp c.loop-pair.visited in
    let before = here g (goal.at.loop-pair-preserved-then-not-branch g c).In-Some in
    let had : seen c.in-Some.pair ≡ true = subst (λ p. seen p ≡ true) c.in_ok-seen.ensures (there c.in_ok-insert.field-0 (seen c.in_ok-seen.seen) c.in_ok-insert.ensures.added c.if-not-branch.true) in
    let stays : c.insert.new.self.keys ≡ c.loop-pair.visited.keys = subst (λ b. OnFalse b (c.insert.new.self.keys ≡ c.loop-pair.visited.keys)) c.if-not-branch.true c.in_ok-insert.ensures.unchanged in
    record {
      table = c.loop-pair.invariant.table;
      search = subst (λ ks. IsUnderWay graph kept from (λ q. list_any (is_at (pair_cmp q)) ks) c.pop.new.self.items c.loop-pair.found) (sym stays) (skips graph kept from seen c.pop.new.self.items c.in-Some.pair c.loop-pair.found before had);
    }
