-- A body goes on behind its await: it does so in the world, and the parts of the machine stay in order.
use Rattle.std.proofs.Common.{◌≡◌, ℕ, nat_eq, true, length, ap, subst, sym, ◌∙◌}
use Rattle.std.specs.Prelude.{Ok, Err}
use Rattle.std.specs.List.{list_any}
use Rattle.esm_base.specs.Lists.{EachOnce}
use Rattle.esm_base.specs.Urls.{same_url}
use Rattle.esm_values.specs.Value.{Value}
use Rattle.esm_promise.specs.Code.{Numbered}
use Rattle.esm_promise.specs.Promises.{Settled}
use Rattle.esm_promise.specs.Reactions.{Await}
use Rattle.esm_eval.specs.Begins.{HaveBegunOnce}
use Rattle.esm_eval.specs.Host.{outside}
use Rattle.esm_rewriting.specs.Bodies.{ResumesBody}
use Rattle.esm_rewriting.specs.State.{has_begun}
use Rattle.esm_rewriting.specs.declared.stop.Stop.{Stop}
use Rattle.esm_rewriting.specs.declared.stop.Stop.TheVariants as stops
use Rattle.esm_rewriting.proofs.BodyKeeps.{bodies_keep, resumes_body_keeps}
use Rattle.esm_world.proofs.BodyLives.{resumes_body_lives}
use Rattle.esm_body.specs.Engines.{Resumed}
use Rattle.esm_machine.specs.Seen.{BeginsById, Fits, linked, modules}
use Rattle.esm_body.specs.SameScopes.{HaveSameScopes}
use Rattle.esm_machine.specs.SeenScopes.{AreScopesIn, ScopesStay}
use Rattle.esm_machine.specs.Inner.Stops.{turn_end_of}
use Rattle.esm_machine.specs.Inner.HostLaws.{SameModules, begun_is, imports_leave}
use Rattle.esm_machine.specs.Inner.Leads.{DoesJob}
use Rattle.esm_machine.specs.Inner.Parts.{AreInOrder, TakeCalls, ByIds, FitsBodies, seen_in}
use Rattle.esm_machine.specs.Machine.{engine_by, held_of, scopes_by, seen_by}
use Rattle.esm_machine.specs.declared.host.BodyHost.{BodyHost}
use Rattle.esm_machine.specs.declared.parts.Parts.{Parts}
use Rattle.esm_machine.proofs.HostCalls.{IsReadyIn, St, StopOf, fits_behind, imports_live, is_live, scopes_behind}
use Rattle.esm_machine.proofs.ReadyHost.{host_fits}
use Rattle.esm_machine.proofs.Steps.{steps_are_of_the_world}
use Rattle.esm_machine.proofs.Whole.{linked_have_ids}

-- with other promises, and another host of bodies
abbrev pub with_bodies : Parts → Numbered → BodyHost → Parts
with_bodies p ps b = record p { host = record p.host { promises = ps; bodies = b } }

module _ (p : Parts) (ps : Numbered) (b : BodyHost) (m : ℕ) (how : Settled (Value ℕ)) where
  abbrev New : Parts
  New = with_bodies p ps b

  pub resumed_ok : ResumesBody nat_eq modules BeginsById (St (outside p.host)) m how (Ok tt) (St (outside New.host)) → DoesJob p (Await m) how (Ok tt) New
  resumed_ok r = λ w live. steps_are_of_the_world.resumes (held_of p) w m how (Ok tt) (St (outside New.host)) live r

  pub resumed_stops : (stop : Stop) → Resumed modules linked Fits BeginsById (St (outside p.host)) m how (Err stop) (St (outside New.host))
      → DoesJob p (Await m) how (Err (turn_end_of stop)) New
  resumed_stops (stops.Limit limit) r = λ w live. steps_are_of_the_world.resumes (held_of p) w m how (Err limit) (St (outside New.host)) live r
  resumed_stops stops.Memory r = λ w live. tt

  -- ---- what is in order still

  module _ (a : TakeCalls p) (l : linked (seen_in p) m ≡ true) (r : ResumesBody nat_eq modules BeginsById (St (outside p.host)) m how (Ok tt) (St (outside New.host)))
      (ready : IsReadyIn (outside New.host)) (stay : ScopesStay) (made : HaveSameScopes (scopes_by p.host.bodies) (scopes_by b)) where
    same : SameModules (seen_in p) (seen_by b)
    same = (resumes_body_keeps nat_eq modules BeginsById SameModules imports_leave r).imports

    scopes : AreScopesIn (seen_by b) (scopes_by b)
    scopes = scopes_behind stay (outside p.host) (outside New.host)
        ((bodies_keep nat_eq modules BeginsById).resume (St (outside p.host)) (St (outside New.host)) m how (Ok tt) r).imports made ready a.order.scopes

    fits : FitsBodies (outside New.host)
    fits = fits_behind (outside p.host) (outside New.host) m l same
        (resumes_body_lives StopOf BeginsById imports_live nat_eq modules r (is_live (outside p.host) (host_fits p a).outside_fits)) ready scopes

    -- no body has begun
    begun_still : (x : ℕ) → has_begun nat_eq (engine_by b) x ≡ has_begun nat_eq (engine_by p.host.bodies) x
    begun_still x = begun_is (engine_by b) x
        ∙ ap (λ xs. list_any (nat_eq x) xs) (resumes_body_keeps nat_eq modules BeginsById SameModules imports_leave r).starts
        ∙ sym (begun_is (engine_by p.host.bodies) x)

    between : HaveBegunOnce ByIds New.host
    between =
        let o = a.order.between in
        record {
          between = record {
            idle = o.between.idle;
            unstamped = o.between.unstamped;
            undone = o.between.undone;
            free = o.between.free;
            stamped = o.between.stamped;
            joined = o.between.joined;
            waiting = λ x at n e. o.between.waiting x at (sym (begun_still x) ∙ n) e;
          };
          unbegun = λ x n. begun_still x ∙ o.unbegun x n;
          distinct = o.distinct;
        }

    pub resumed_in_order : AreInOrder New
    resumed_in_order = record {
      whole = fits.whole;
      nodes = a.order.nodes ∙ ap length (sym same.urls);
      ids = record { apart = subst (λ us. EachOnce same_url us) (sym same.urls) a.order.ids.apart; have_ids = linked_have_ids b.imports };
      scopes = scopes;
      standing = ready.standing;
      between = between;
    }
