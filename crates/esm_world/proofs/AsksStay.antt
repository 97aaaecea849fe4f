-- What was asked stays asked, whatever is delivered behind it.
use Rattle.std.proofs.Common.{◌≡◌, true, List, [], ◌∷◌, ◌++◌, refl, subst, sym, inr}
use Rattle.esm_base.specs.Urls.{has}
use Rattle.esm_ast.specs.Deliveries.{Delivery}
use Rattle.esm_world.specs.World.{World, opening}
use Rattle.esm_world.specs.Run.{Runs, Shown}
use Rattle.esm_world.specs.Laws.{AsksStay}
use Rattle.esm_world.proofs.OneRun.{runs_one}
use Rattle.esm_world.proofs.Deliveries.{runs_asked}

-- a run of both lists is one of the first, and then one of the second
runs_split : (ds more : List Delivery) (w after : World) → Runs w (ds ++ more) after → (mid : World) × Runs w ds mid × Runs mid more after
runs_split [] more w after r = (w, refl, r)
runs_split (d ∷ ds) more w after r = let s = runs_split ds more r.1 after r.3 in (s.0, (r.0, r.1, r.2, s.1), s.2)

pub asks_stay : AsksStay
asks_stay maps built entry trace ds more what after u p q h =
    let s = runs_split ds more (opening maps built entry trace) q.world q.runs in
    let same : s.0 ≡ p.world = runs_one ds (opening maps built entry trace) s.0 p.world s.1 p.runs in
    let asked : has s.0.loading.asked u ≡ true = subst (λ (x : World). has x.loading.asked u ≡ true) (sym same) (subst (λ (x : Shown). has x.asked u ≡ true) p.shows h) in
    subst (λ (x : Shown). has x.asked u ≡ true) (sym q.shows) (runs_asked more s.0 q.world u s.2 (inr asked))
