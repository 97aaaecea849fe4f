-- The parts of a machine that is ready, as bodies and evaluation ask for them.
use Rattle.std.proofs.Common.{◌≡◌, ◌<◌, ℕ, true, Option, Some, None, ap, subst, sym, ◌∙◌}
use Rattle.std.specs.Option.{option_or}
use Rattle.esm_base.specs.declared.limits.Limit.{Limit}
use Rattle.esm_values.specs.Value.{Value}
use Rattle.esm_promise.specs.Promises.{Settled}
use Rattle.esm_promise.specs.Reactions.{Await, BodyEnd}
use Rattle.esm_eval.specs.Host.{HostFits, outside}
use Rattle.esm_eval.specs.Table.{size}
use Rattle.esm_rewriting.specs.Fits.{AreLinked}
use Rattle.esm_world.specs.World.{World}
use Rattle.esm_body.specs.Engines.{TakesBodies}
use Rattle.esm_machine.specs.FitsById.{FitsById}
use Rattle.esm_machine.specs.Inner.Below.{below}
use Rattle.esm_machine.specs.Inner.HostLaws.{outer}
use Rattle.esm_machine.specs.Inner.Lawful.{imports_are_lawful}
use Rattle.esm_machine.specs.Inner.Parts.{TakeCalls, FitsBodies, KnowsBy, MayDo, linked_by, seen_in}
use Rattle.esm_machine.specs.Machine.{held_of, scopes_by}
use Rattle.esm_machine.specs.Seen.{BeginsById, Fits, linked, modules, names}
use Rattle.esm_machine.specs.declared.parts.Parts.{Parts}
use Rattle.esm_machine.proofs.FitsById.{worlds_fit_by_id}

second_none : (o e : Option Limit) → option_or o e ≡ None → e ≡ None
second_none None e h = h
second_none (Some other) e h = absurd cc

module _ (p : Parts) (r : TakeCalls p) where
  pub ready_fits : FitsById (held_of p)
  ready_fits = worlds_fit_by_id (held_of p) r.world r.live.stands r.ready.fit r.order.ids

  pub engine_ready : TakesBodies modules linked Fits BeginsById p.host.bodies.engine (scopes_by p.host.bodies) p.host.promises p.host.bodies.errors (seen_in p)
  engine_ready = record { state = ready_fits.state; made = r.order.scopes.right; standing = r.order.standing }

  -- what is linked is there, with all that it requests
  pub all_linked : AreLinked (modules (seen_in p)) (linked (seen_in p))
  all_linked = imports_are_lawful.links (outer (outside p.host)) engine_ready.state.whole

  -- no limit has stopped it
  engine_live : (held_of p).engine.stopped ≡ None
  engine_live = sym (ap (λ (w : World). w.engine.stopped) r.live.stands.world) ∙ second_none r.world.loading.stopped r.world.engine.stopped r.live.live

  -- each linked module has a node
  pub has_node : (m : ℕ) → linked (seen_in p) m ≡ true → m < size p.host.nodes
  has_node m l = subst (λ n. m < n) (sym r.order.nodes) (below (seen_in p).urls m (r.order.ids.have_ids ((names (seen_in p)).name m) l))

  pub host_fits : HostFits FitsBodies linked_by KnowsBy p.host
  host_fits = record {
    outside_fits = record { whole = r.order.whole; live = engine_live; ready = engine_ready; scopes = r.order.scopes };
    have = has_node;
    entered = ready_fits.entered;
    nodes_fit = ready_fits.nodes;
    stamps_fit = ready_fits.stamps;
  }

-- ---- the module of a job, and the value that it is given

module _ (p : Parts) (m : ℕ) (how : Settled (Value ℕ)) where
  pub ended_is_linked : MayDo p (BodyEnd m) how → linked (seen_in p) m ≡ true
  ended_is_linked d = sym (d.live.stands.linked _) ∙ d.may.reaction

  pub awaiting_is_linked : MayDo p (Await m) how → linked (seen_in p) m ≡ true
  awaiting_is_linked d = sym (d.live.stands.linked _) ∙ d.may.reaction
