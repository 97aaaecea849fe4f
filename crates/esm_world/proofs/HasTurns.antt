-- Where steps have outcomes, each allowed delivery has a turn, since each job leaves less, and each world of a run fits.
use Rattle.std.proofs.Common.{◌≡◌, ◌≤◌, Bool, List, None, arith}
use Rattle.esm_tree.specs.Syntax.{Item}
use Rattle.esm_import_map.specs.ImportMap.{Maps}
use Rattle.esm_base.specs.declared.limits.TheConstants.{MAX_STEPS}
use Rattle.esm_base.specs.Urls.{Url}
use Rattle.esm_world.specs.World.{World, opening, stopped}
use Rattle.esm_world.specs.Run.{Runs}
use Rattle.esm_ast.specs.Deliveries.{Delivery}
use Rattle.esm_world.specs.Outcomes.{StepsHaveOutcomes, TurnsEnd}
use Rattle.esm_world.proofs.TurnsEnd.{CanTurn, has_turn, runs_fit}
use Rattle.esm_world.specs.Measure.{left}
use Rattle.esm_world.proofs.ReactsLower.{steps_left, job_lowers, job_within}

module _ (Fits : World → Type 0) (k : StepsHaveOutcomes Fits) where
  abbrev FitsWithin : World → Type 0
  FitsWithin w = Fits w × (w.engine.steps ≤ MAX_STEPS)

  can_turn : CanTurn FitsWithin steps_left left
  can_turn = record {
    opens = λ maps built entry trace. (k.opens maps built entry trace, omega arith);
    fetches = λ w d f a live. (k.fetches w d f.0 a live, f.1);
    answer = λ w n f live e. let t = k.answer w n f.0 live e in record { host = t.host; answers = t.answers; fits = λ l. (t.fits l, f.1) };
    job = λ w j rest f live e.
        let t = k.job w j rest f.0 live e in
        record {
          how = t.how;
          settled_so = t.settled_so;
          mid = t.after;
          reacts = t.reacts;
          fits = λ l. (t.fits l, job_within w t.after j.reaction rest t.how f.1 t.reacts l);
          lower = λ l. job_lowers w t.after j rest t.how f.1 e t.reacts l;
        };
  }

  -- each world of a run that no limit has stopped fits
  pub run_fits : (maps : Maps) (built : List Item → Bool) (entry : Url) (trace : Bool) (ds : List Delivery) (w : World) → Runs (opening maps built entry trace) ds w → stopped w ≡ None → Fits w
  run_fits maps built entry trace ds w r live =
      (runs_fit FitsWithin steps_left left can_turn ds (opening maps built entry trace) w (λ l. (k.opens maps built entry trace, omega arith)) r live).0

pub turns_end : (Fits : World → Type 0) → TurnsEnd Fits
turns_end Fits k = has_turn (FitsWithin Fits k) steps_left left (can_turn Fits k)
