-- Rewritings one after another: what they leave fits, and takes steps or makes smaller what remains.
use Rattle.std.proofs.Common.{◌≡◌, ℕ, suc, ◌+◌, Bool, true, [], refl, subst, arith}
use Rattle.esm_base.specs.declared.limits.Limit.{Limit}
use Rattle.esm_values.specs.Value.{Value}
use Rattle.esm_values.specs.Plans.{Rewritten as comes}
use Rattle.esm_promise.specs.Outer.{Outer}
use Rattle.esm_env.specs.Modules.{Modules}
use Rattle.esm_rewriting.specs.Rest.{Rest, end, more}
use Rattle.esm_rewriting.specs.State.{State, Importing}
use Rattle.esm_rewriting.specs.Acts.{Inner}
use Rattle.esm_rewriting.specs.BodyRewriting.{RewrittenBody, On, Gives, Waits}
use Rattle.esm_rewriting.specs.Segment.{RewritesOutermost}
use Rattle.esm_rewriting.specs.Fits.{Kind, HoldsRest, FitsState, Knows}
use Rattle.esm_rewriting.specs.Chains.{Comes, here, last, later, Turns, only, behind}
use Rattle.esm_rewriting.proofs.Grown.{size_rest}
use Rattle.esm_rewriting.proofs.OneAct.{BeginsOne}
use Rattle.esm_rewriting.proofs.SomeAct.{BeginsSome, took_both}
use Rattle.esm_rewriting.proofs.SomeMove.{Left, Fits', Halted, some_move}
use Rattle.esm_rewriting.proofs.Follows.{landed_by}

module _ {N I : Type 0} (same : N → N → Bool) (modules : I → Modules N) (begins : Importing N I) where
  pub then_turns : {m : N} {w mid late : State N I} {r s : Rest (Value N)} {move : RewrittenBody (Value N) Limit}
      → Comes same modules begins m w r (On (comes.Goes s)) mid → Turns same modules begins m mid s move late → Turns same modules begins m w r move late
  then_turns here t = t
  then_turns (last d) t = behind d t
  then_turns (later d c) t = behind d (then_turns c t)

  pub comes_of : {m : N} {w late : State N I} {r : Rest (Value N)} {move : RewrittenBody (Value N) Limit} → Turns same modules begins m w r move late → Comes same modules begins m w r move late
  comes_of (only d) = last d
  comes_of (behind d t) = later d (comes_of t)

module _ {N I : Type 0} (same : N → N → Bool) (modules : I → Modules N) (linked : I → N → Bool) (Whole : Outer N I → Type 0) (begins : Importing N I) (some : BeginsSome modules linked Whole begins) (one : BeginsOne begins) (m : N) (k : Kind) where
  abbrev W : Type 0
  W = State N I

  abbrev V : Type 0
  V = Value N

  abbrev K : W → V → Type 0
  K w v = Knows modules linked w.outer.imports v

  abbrev over : W → Inner N I
  over w = record { scopes = []; state = w }

  abbrev L : W → ℕ → W → Type 0
  L w n mid = Left same modules linked Whole begins some m (over w) n (over mid)

  abbrev pub Lands : W → Rest V → RewrittenBody V Limit → W → Type 0
  Lands w r move mid = Fits' same modules linked Whole begins some m k (over w) (size_rest r) move (over mid)

  one_lands : (w mid : W) (r : Rest V) (move : RewrittenBody V Limit) → FitsState modules linked Whole w → linked w.outer.imports m ≡ true → HoldsRest (K w) ⊥ k r → RewritesOutermost same modules begins m w r move mid → Lands w r move mid
  one_lands w mid end move f home h d = elim d [ ]
  one_lands w mid (more p r) move f home h d =
      landed_by same modules linked Whole begins some one true m k w mid (more p r) move d
      (some_move same modules linked Whole begins some m k (over w) p r (record { state = f; scopes = tt; home = home }) h.0 h.1)

  left_both : (w mid late : W) (n o : ℕ) → L w n mid → L mid o late → L w (n + o) late
  left_both w mid late n o a b = record {
    fits = b.fits;
    keeps = λ v q. b.keeps v (a.keeps v q);
    scopes = refl;
    took = took_both n o a.took b.took;
  }

  stops_both : (w mid late : W) (n : ℕ) → L w n mid → Halted same modules linked Whole begins some m (over mid) (over late) → Halted same modules linked Whole begins some m (over w) (over late)
  stops_both w mid late n a b = record { fits = b.fits; keeps = λ v q. b.keeps v (a.keeps v q); scopes = refl }

  both_land : (w mid late : W) (r s : Rest V) (move : RewrittenBody V Limit) → Lands w r (On (comes.Goes s)) mid → Lands mid s move late → Lands w r move late
  both_land w mid late r s (On (comes.Goes t)) (n, (l, (h, less))) (o, (l', (h', less'))) =
      (n + o, (left_both w mid late n o l l', (h', λ z. let a : n ≡ 0 = omega (arith, z) in let b : o ≡ 0 = omega (arith, z) in let x = less a in let y = less' b in omega (arith, x, y))))
  both_land w mid late r s (On (comes.Leaves v)) (n, (l, q)) (o, (l', h')) = (n + o, (left_both w mid late n o l l', h'))
  both_land w mid late r s (On (comes.Calls f vs t)) (n, (l, q)) (o, (l', h')) =
      (n + o, (subst (λ x. L w x late) (let e : n + suc o ≡ suc (n + o) = omega arith in e) (left_both w mid late n (suc o) l l'), h'))
  both_land w mid late r s (On (comes.Stops why)) (n, (l, q)) h = stops_both w mid late n l h
  both_land w mid late r s (Gives v) (n, (l, q)) (a, (o, (l', h'))) = (a, (n + o, (left_both w mid late n o l l', h')))
  both_land w mid late r s (Waits v t) (n, (l, q)) (a, (o, (l', h'))) = (a, (n + o, (left_both w mid late n o l l', h')))

  -- what they come to fits
  pub turns_land : {w late : W} {r : Rest V} {move : RewrittenBody V Limit} → Turns same modules begins m w r move late → FitsState modules linked Whole w → linked w.outer.imports m ≡ true → HoldsRest (K w) ⊥ k r → Lands w r move late
  turns_land (only {w = w} {mid = mid} {r = r} {move = move} d) f home h = one_lands w mid r move f home h d
  turns_land (behind {w = w} {mid = mid} {late = late} {r = r} {s = s} {move = move} d t) f home h =
      let a = one_lands w mid r (On (comes.Goes s)) f home h d in
      both_land w mid late r s move a (turns_land t a.1.0.fits.state a.1.0.fits.home a.1.1.0)

  -- where they go on, what remains may be rewritten
  pub record Onward (w : W) (s : Rest V) (late : W) : Type 0 where
    pub state : FitsState modules linked Whole late
    pub home : linked late.outer.imports m ≡ true
    pub holds : HoldsRest (K late) ⊥ k s
    pub keeps : (v : V) → K w v → K late v

  onward : (w late : W) (r s : Rest V) → Lands w r (On (comes.Goes s)) late → Onward w s late
  onward w late r s (n, (l, (h, less))) = record { state = l.fits.state; home = l.fits.home; holds = h; keeps = l.keeps }

  pub came_onward : {w late : W} {r s : Rest V} → Comes same modules begins m w r (On (comes.Goes s)) late → FitsState modules linked Whole w → linked w.outer.imports m ≡ true → HoldsRest (K w) ⊥ k r → Onward w s late
  came_onward here f home h = record { state = f; home = home; holds = h; keeps = λ v q. q }
  came_onward (last {w = w} {mid = mid} {r = r} d) f home h = onward w mid r _ (one_lands w mid r _ f home h d)
  came_onward (later {w = w} {mid = mid} {r = r} {s = s} d c) f home h =
      let a = one_lands w mid r (On (comes.Goes s)) f home h d in
      let o = came_onward c a.1.0.fits.state a.1.0.fits.home a.1.1.0 in
      record { state = o.state; home = o.home; holds = o.holds; keeps = λ v q. o.keeps v (a.1.0.keeps v q) }
