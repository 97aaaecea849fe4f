-- Chains of jobs and of tasks: where what is left leads somewhere, the whole leads there.
use Rattle.std.proofs.Common.{◌≡◌, Bool, true, false}
use Rattle.std.specs.Prelude.{Ok, Err}
use Rattle.esm_base.specs.declared.end.End.TheVariants as ends
use Rattle.esm_world.specs.World.{World}
use Rattle.esm_world.specs.Jobs.{Jobs}
use Rattle.esm_world.specs.Turn.{Tasks}
use Rattle.esm_machine.specs.Represents.{TurnEnd}
use Rattle.esm_machine.specs.Inner.Parts.{AreLive}
use Rattle.esm_machine.specs.Inner.Leads.{LeadsByJob, LeadsByJobs, LeadsByTask, LeadsTo}
use Rattle.esm_machine.specs.declared.parts.Parts.{Parts}

-- ---- jobs

-- jobs have led from this world to one that the parts are in
pub record AreAmid (p : Parts) (w : World) : Type 0 where
  pub mid : World
  pub live : AreLive p mid
  pub leads : (after : World) → Jobs mid after → Jobs w after

pub jobs_begin : (p : Parts) (w : World) → AreLive p w → AreAmid p w
jobs_begin p w live = record { mid = w; live = live; leads = λ after r. r }

module _ (old new : Parts) (w : World) (m : AreAmid old w) where
  -- one job more
  pub job_goes_on : (answered : Bool) → answered ≡ true → LeadsByJob m.mid (Ok answered) new → AreAmid new w
  job_goes_on true e t =
      let k = t.1 in
      record { mid = t.0; live = t.2; leads = λ after r. m.leads after (Jobs.job k.taken.job k.taken.left k.how k.live k.taken.first k.settled_so k.taken.reacts r) }
  job_goes_on false e t = absurd cc

  pub job_ends : (answered : Bool) → answered ≡ false → LeadsByJob m.mid (Ok answered) new → LeadsByJobs w (Ok false) new
  job_ends false e t = (m.mid, m.leads m.mid (Jobs.none t.0), t.1)
  job_ends true e t = absurd cc

  pub job_stops : (end : TurnEnd) → LeadsByJob m.mid (Err end) new → LeadsByJobs w (Err end) new
  job_stops (ends.Fault limit) t =
      let k = t.1 in
      (t.0, m.leads t.0 (Jobs.job k.taken.job k.taken.left k.how k.live k.taken.first k.settled_so k.taken.reacts (Jobs.stops limit t.2.stopped)), t.2)
  job_stops ends.Memory t = tt

  -- jobs up to a step more
  pub jobs_go_on : (answered : Bool) → answered ≡ true → LeadsByJobs m.mid (Ok answered) new → AreAmid new w
  jobs_go_on true e t = record { mid = t.0; live = t.1; leads = λ after r. m.leads after (t.2 after r) }
  jobs_go_on false e t = absurd cc

  pub jobs_end : (answered : Bool) → answered ≡ false → LeadsByJobs m.mid (Ok answered) new → LeadsTo (Jobs w) (Ok tt) new
  jobs_end false e t = (t.0, m.leads t.0 t.1, t.2)
  jobs_end true e t = absurd cc

  pub jobs_stop : (end : TurnEnd) → LeadsByJobs m.mid (Err end) new → LeadsTo (Jobs w) (Err end) new
  jobs_stop (ends.Fault limit) t = (t.0, m.leads t.0 t.1, t.2)
  jobs_stop ends.Memory t = tt

-- a step was taken
pub jobs_step : (p : Parts) (w : World) → AreAmid p w → LeadsByJobs w (Ok true) p
jobs_step p w m = (m.mid, m.live, m.leads)

-- ---- tasks

-- tasks have led from this world to one that the parts are in
pub record AreMidway (p : Parts) (w : World) : Type 0 where
  pub mid : World
  pub live : AreLive p mid
  pub leads : (after : World) → Tasks mid after → Tasks w after

pub tasks_begin : (p : Parts) (w : World) → AreLive p w → AreMidway p w
tasks_begin p w live = record { mid = w; live = live; leads = λ after r. r }

module _ (old new : Parts) (w : World) (m : AreMidway old w) where
  pub tasks_go_on : (answered : Bool) → answered ≡ true → LeadsByTask m.mid (Ok answered) new → AreMidway new w
  tasks_go_on true e t =
      let k = t.1 in
      record { mid = t.0; live = t.2; leads = λ after r. m.leads after (Tasks.task k.live k.answers k.jobs r) }
  tasks_go_on false e t = absurd cc

  pub tasks_end : (answered : Bool) → answered ≡ false → LeadsByTask m.mid (Ok answered) new → LeadsTo (Tasks w) (Ok tt) new
  tasks_end false e t = (m.mid, m.leads m.mid (Tasks.none t.0), t.1)
  tasks_end true e t = absurd cc

  pub tasks_stop : (end : TurnEnd) → LeadsByTask m.mid (Err end) new → LeadsTo (Tasks w) (Err end) new
  tasks_stop (ends.Fault limit) t =
      let k = t.1 in
      (t.0, m.leads t.0 (Tasks.task k.live k.answers k.jobs (Tasks.stops limit t.2.stopped)), t.2)
  tasks_stop ends.Memory t = tt
