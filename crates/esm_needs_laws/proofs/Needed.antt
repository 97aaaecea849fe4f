-- The law: before the body of a module begins, the bodies of what it requests, and of what these reach, have ended normally.
use Rattle.std.proofs.Common.{ℕ, zero, suc, ◌<◌, List, [], ◌∷◌, length, refl, sym, arith}
use Rattle.std.specs.Prelude.{Contains, Result, Ok, Err}
use Rattle.esm_base.specs.Urls.{Url, same_url}
use Rattle.esm_base.specs.declared.limits.Limit.{Limit}
use Rattle.esm_realm.specs.Reach.{Reaches}
use Rattle.esm_realm.proofs.Lists.{either}
use Rattle.esm_rewriting.specs.State.{Ends}
use Rattle.esm_world.specs.World.{World, opening}
use Rattle.esm_world.specs.Layers.{CallsForBody, evaluation}
use Rattle.esm_world.specs.OnOrder.{NeedsFirst}
use Rattle.esm_world.specs.RunLaws.{RunsFit}
use Rattle.esm_world.proofs.StartsOnce.{lawful, steady}
use Rattle.esm_needs_laws.proofs.Apart.{opening_inv, far_inv}
use Rattle.esm_needs_laws.proofs.Calls.{tells}
use Rattle.esm_needs_laws.proofs.Evaluated.{Kept, evaluates_fine}
use Rattle.esm_needs_laws.proofs.Framed.{LeavesCalm, KeepsCalm, opening_framed, runs_framed}
use Rattle.esm_needs_laws.proofs.GoingOn.{fulfills_fine}
use Rattle.esm_needs_laws.proofs.Promised.{Among}
use Rattle.esm_needs_laws.proofs.Rejected.{rejects_inv}
use Rattle.esm_needs_laws.proofs.Shape.{Leads}
use Rattle.esm_needs_laws.proofs.Told.{Ended}

left : (to : Url → List Url) (a : Result ℕ Limit) (w : World) → Kept evaluation CallsForBody lawful steady Ended tells to a w → LeavesCalm to a w
left to (Ok p) w h = h
left to (Err why) w h = tt

keeps_calm : KeepsCalm
keeps_calm = record {
  evaluates = λ w after m a h p.
      let q = evaluates_fine evaluation CallsForBody lawful steady Ended tells w after m a h p in
      (q.0, left (evaluation.targets w) a after q.1);
  fulfills = λ to w after m a h e p. fulfills_fine evaluation CallsForBody lawful steady to Ended tells w after m a h (λ n. e) p;
  rejects = λ to w after m v h p. rejects_inv evaluation CallsForBody lawful steady to Ended tells w after m v h p;
  far = λ to more w v f e s h. far_inv evaluation CallsForBody lawful steady to Ended tells more w v f e s h;
}

leads_of : {to : Url → List Url} {x y : Url} → Reaches to x y → Leads same_url to x y
leads_of Reaches.itself = Leads.itself
leads_of (Reaches.step h p) = Leads.step h (leads_of p)

reaches_of : {to : Url → List Url} {x y : Url} → Leads same_url to x y → Reaches to x y
reaches_of Leads.itself = Reaches.itself
reaches_of (Leads.step h p) = Reaches.step h (reaches_of p)

contains_of : {A : Type 0} (x : A) (xs : List A) → Among x xs → Contains xs x
contains_of x [] h = absurd h
contains_of x (y ∷ ys) h = either h (λ e. (zero, omega arith, sym e)) (λ k. let r = contains_of x ys k in (suc r.0, later r.0 r.1, r.2))
  where
    later : (k : ℕ) → k < length ys → suc k < length (y ∷ ys)
    later k lt = omega (arith, lt)

pub needs_first : RunsFit → NeedsFirst
needs_first fits maps built entry trace ds w x t y before rest r e h apart p =
    let o = opening maps built entry trace in
    let first = opening_framed keeps_calm maps built entry trace (λ to. opening_inv evaluation to Ended o (λ z. refl) refl (λ z. refl)) in
    let f = runs_framed keeps_calm fits maps built entry trace ds [] o w refl first r in
    contains_of (Ends y) before (f.needs x before rest e t y h (λ l. apart (reaches_of l)) (leads_of p))
