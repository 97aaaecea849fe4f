use Rattle.std.proofs.Common.{IfSome, ℕ, ◌+◌, ◌≤◌, ◌<◌, suc, [], subst, sym, arith}
use Rattle.esm_resolve.specs.declared.graph.Resolution.TheVariants.{One}
use Rattle.esm_resolve.specs.Inner.Index.{KeepsOn, has_end}
use Rattle.esm_resolve.specs.Pairs.{pair_eq}
use Rattle.esm_resolve.specs.Resolution.{IsResolutionOf, Reaches}
use Rattle.esm_resolve.proofs.Search.Candidates.{candidates, pair_eq_same, pair_eq_own, reached_candidate, reached_sound}
use Rattle.esm_resolve.proofs.Search.Kept.{named_next, named_denotes}
use Rattle.esm_resolve.proofs.Search.Remaining.{left, left-seen}
use Rattle.esm_resolve.proofs.index.ExportIndex.keep_along.Goals as goal

pub keeping-init : goal.keeping-init
keeping-init g c =
    let graph = g.G.ExportGraph.graph c.args.graph.now in
    record {
      index = c.requires.index;
      resolution = subst (λ p. IsResolutionOf graph p (One c.args.home c.args.binding.now)) (sym c.in_ok-here.ensures) c.requires.resolution;
      reached = subst (λ p. Reaches graph c.args.start.now p) (sym c.in_ok-here.ensures) Reaches.itself;
    }

pub keep_one-requires-clause-sound : goal.keep_one-requires-clause-sound
keep_one-requires-clause-sound g c = reached_sound (g.G.ExportGraph.graph c.args.graph.now) c.args.start.now.home.0 c.args.start.now.name c.requires.sound c.keeping.invariant.reached

pub keeping-preserved : goal.keeping-preserved
keeping-preserved g c =
    let graph = g.G.ExportGraph.graph c.args.graph.now in
    let on : KeepsOn graph c.keeping.here c.keeping.self c.keep_one.new.self c.in-Ok-Some.next = subst (λ q. IfSome q (KeepsOn graph c.keeping.here c.keeping.self c.keep_one.new.self)) c.in-Ok-Some.field-0-is c.in-Ok-Some.ensures.next in
    record {
      index = c.in-Ok-Some.ensures.index;
      resolution = named_denotes graph c.keeping.here c.in-Ok-Some.next on.named c.args.home c.args.binding.now c.keeping.invariant.resolution;
      reached = Reaches.onward c.keeping.invariant.reached (named_next graph c.keeping.here c.in-Ok-Some.next on.named);
    }

fewer : (a b n : ℕ) → suc (a + n) ≤ b → a < b
fewer a b n less = omega arith

pub keeping-smaller : goal.keeping-smaller
keeping-smaller g c =
    let graph = g.G.ExportGraph.graph c.args.graph.now in
    let on : KeepsOn graph c.keeping.here c.keeping.self c.keep_one.new.self c.in-Ok-Some.next = subst (λ q. IfSome q (KeepsOn graph c.keeping.here c.keeping.self c.keep_one.new.self)) c.in-Ok-Some.field-0-is c.in-Ok-Some.ensures.next in
    let all = candidates graph c.args.start.now.name in
    let member = reached_candidate graph c.args.start.now.home.0 c.args.start.now.name c.requires.sound c.keeping.invariant.reached in
    let less = left-seen pair_eq pair_eq_same pair_eq_own (λ _. []) (has_end c.keeping.self) (has_end c.keep_one.new.self) c.keeping.here on.kept all member on.fresh in
    fewer (left (λ _. []) (has_end c.keep_one.new.self) all) (left (λ _. []) (has_end c.keeping.self) all) 0 less
