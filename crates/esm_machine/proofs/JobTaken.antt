-- The first job is taken and done.
use Rattle.std.proofs.Common.{◌≡◌, ℕ, true, false, Option, Some, None, ap, subst, sym, ◌∙◌}
use Rattle.std.specs.Prelude.{Ok, Err}
use Rattle.std.specs.Option.{option_map}
use Rattle.esm_base.specs.declared.end.End.TheVariants as ends
use Rattle.esm_base.specs.Urls.{Url}
use Rattle.esm_values.specs.Value.{Value}
use Rattle.esm_promise.specs.Code.{Numbered}
use Rattle.esm_promise.specs.Promises.{Job, Promises, Settled, next_job, settled}
use Rattle.esm_promise.specs.Reactions.{Reaction}
use Rattle.esm_promise.specs.Renaming.{renamed, renamed_job, renamed_settled}
use Rattle.esm_promise.proofs.Renamed.{follows_names}
use Rattle.esm_world.specs.World.{World}
use Rattle.esm_world.specs.Jobs.{IsJob}
use Rattle.esm_world.specs.Layers as layers
use Rattle.esm_world.specs.Sound.{WorldsStaySound}
use Rattle.esm_machine.specs.Represents.{TurnEnd}
use Rattle.esm_machine.specs.Seen.{names}
use Rattle.esm_machine.specs.Steps as steps
use Rattle.esm_machine.specs.Inner.Leads.{DoesJob, LeadsByJob}
use Rattle.esm_machine.specs.Inner.Parts.{AreInOrder, AreLive, AreSound, MayDo, seen_in, parts_with_promises}
use Rattle.esm_machine.specs.Machine.{held_of}
use Rattle.esm_machine.specs.declared.parts.Parts.{Parts}
use Rattle.esm_machine.proofs.InOrder.{with_promises_in_order}
use Rattle.esm_machine.proofs.Steps.{steps_are_of_the_world}

-- no job is left
pub no_job : (p new : Parts) (w : World) → AreLive p w → next_job p.host.promises ≡ None → new ≡ p → LeadsByJob w (Ok false) new
no_job p new w live e same = (steps_are_of_the_world.none (held_of p) w live e, subst (λ q. AreLive q w) (sym same) live)

module _ (p : Parts) (j : Job (Reaction ℕ)) (left : Numbered) (first : next_job p.host.promises ≡ Some (j, left)) where
  abbrev name : ℕ → Url
  name = (names (seen_in p)).name

  abbrev left_in : Promises (Reaction Url) (Value Url)
  left_in = renamed name left

  -- without it
  abbrev Left : World → World
  Left w = layers.with_promises w left_in

  first_in : (w : World) → AreLive p w → next_job w.promises ≡ Some (renamed_job name j, left_in)
  first_in w live = (steps_are_of_the_world.takes (held_of p) w j left live first).0

  live_left : (w : World) → AreLive p w → AreLive (parts_with_promises p left) (Left w)
  live_left w live = (steps_are_of_the_world.takes (held_of p) w j left live first).1

  -- its promise was settled
  not_settled : settled left j.promise ≡ None → (how : Settled (Value Url)) → settled left_in j.promise ≡ Some how → ⊥
  not_settled e how h =
      let none : settled left_in j.promise ≡ None = (follows_names name).is_settled left j.promise ∙ ap (λ o. option_map (renamed_settled name) o) e in
      let one : ◌≡◌ {A = Option (Settled (Value Url))} None (Some how) = sym none ∙ h in
      absurd cc

  pub is_settled : AreSound p → WorldsStaySound → settled left j.promise ≡ None → ⊥
  is_settled s stays e =
      let r = stays.result s.world (renamed_job name j) left_in s.sound (first_in s.world s.live) in
      not_settled e r.0 r.1

  module _ (how : Settled (Value ℕ)) (settled_so : settled left j.promise ≡ Some how) where
    settled_in_world : (w : World) → AreLive p w → settled left_in j.promise ≡ Some (renamed_settled name how)
    settled_in_world w live = steps_are_of_the_world.result (steps.with_promises (held_of p) left) (Left w) j.promise how (live_left w live) settled_so

    pub may_do : AreSound p → WorldsStaySound → MayDo (parts_with_promises p left) j.reaction how
    may_do s stays = record {
      world = Left s.world;
      live = live_left s.world s.live;
      may = stays.may s.world (renamed_job name j) left_in (renamed_settled name how) s.sound (first_in s.world s.live) (settled_in_world s.world s.live);
      order = with_promises_in_order p s.order left;
    }

    pub job_done : (new : Parts) → DoesJob (parts_with_promises p left) j.reaction how (Ok tt) new → (w : World) → AreLive p w → LeadsByJob w (Ok true) new
    job_done new does w live =
        let d = does (Left w) (live_left w live) in
        let k : IsJob w d.0 = record {
          live = live.live;
          how = renamed_settled name how;
          taken = record { job = renamed_job name j; left = left_in; first = first_in w live; reacts = d.1 };
          settled_so = settled_in_world w live;
        } in
        (d.0, k, d.2)

    pub job_stopped : (new : Parts) (end : TurnEnd) → DoesJob (parts_with_promises p left) j.reaction how (Err end) new → (w : World) → AreLive p w
        → LeadsByJob w (Err end) new
    job_stopped new (ends.Fault limit) does w live =
        let d = does (Left w) (live_left w live) in
        let k : IsJob w d.0 = record {
          live = live.live;
          how = renamed_settled name how;
          taken = record { job = renamed_job name j; left = left_in; first = first_in w live; reacts = d.1 };
          settled_so = settled_in_world w live;
        } in
        (d.0, k, d.2)
    job_stopped new ends.Memory does w live = tt

    pub sound_behind : (new : Parts) → AreSound p → WorldsStaySound → DoesJob (parts_with_promises p left) j.reaction how (Ok tt) new → AreInOrder new → AreSound new
    sound_behind new s stays does order =
        let d = does (Left s.world) (live_left s.world s.live) in
        record {
          world = d.0;
          live = d.2;
          sound = stays.reacts s.world d.0 (renamed_job name j) left_in (renamed_settled name how) s.sound (first_in s.world s.live) (settled_in_world s.world s.live) d.1 d.2.live;
          order = order;
        }
