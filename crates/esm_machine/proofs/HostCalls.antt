-- The calls for bodies, as evaluation makes them.
use Rattle.std.proofs.Common.{◌≡◌, ℕ, nat_eq, true, Option, Some, None, refl, ap, subst, sym, ◌∙◌}
use Rattle.std.specs.Prelude.{Ok, Err}
use Rattle.std.specs.Option.{option_or}
use Rattle.esm_base.specs.declared.limits.Limit.{Limit}
use Rattle.esm_loads.specs.ImportCall.{end_by as import_end}
use Rattle.esm_values.specs.Code.{ran_of}
use Rattle.esm_values.specs.declared.value.Ran.{Ran}
use Rattle.esm_values.specs.declared.value.Ran.TheVariants as rans
use Rattle.esm_eval.specs.Host.{Outside, RunsAs, StartsAs}
use Rattle.esm_eval.specs.EndSteps.{RanKnown}
use Rattle.esm_eval.specs.declared.walk.EvalEnd.{EvalEnd}
use Rattle.esm_rewriting.specs.State.{State}
use Rattle.esm_rewriting.specs.Bodies.{StartsBody}
use Rattle.esm_rewriting.specs.Keeps.{ChangedBy}
use Rattle.esm_rewriting.specs.declared.stop.Stop.{Stop}
use Rattle.esm_rewriting.specs.declared.stop.Stop.TheVariants as stops
use Rattle.esm_rewriting.proofs.BodyKeeps.{bodies_keep, runs_body_keeps, starts_body_keeps}
use Rattle.esm_world.proofs.BodyLives.{LivesOn, limit_at, limit_by, runs_body_lives, starts_body_lives}
use Rattle.esm_body.specs.Engines.{TakesBodies, KnowsThrown, RanBody, Started}
use Rattle.esm_machine.specs.Evaluating.{state_in}
use Rattle.esm_body.specs.SameScopes.{HaveSameScopes}
use Rattle.esm_machine.specs.SeenScopes.{AreScopesIn, ScopesStay}
use Rattle.esm_machine.specs.Seen.{BeginsById, Fits, Seen, linked, modules, names}
use Rattle.esm_machine.specs.Inner.Stops.{eval_end_of}
use Rattle.esm_machine.specs.Inner.HostLaws.{SameModules, imports_leave, linked_same}
use Rattle.esm_machine.specs.Inner.Parts.{CallsBodies, FitsBodies, KnowsBy, linked_by}
use Rattle.esm_machine.specs.Machine.{cells_by, engine_by, errors_by, scopes_by, seen_by}
use Rattle.esm_machine.specs.declared.host.BodyHost.{BodyHost}
use Rattle.esm_machine.proofs.Whole.{live_is, whole_is}

-- ---- a call that no limit stops leaves nothing refused

abbrev pub StopOf : Seen → Option Limit
StopOf s = s.loading.stopped

import_tells : (o : Option Limit) → o ≡ limit_by (import_end o)
import_tells None = refl
import_tells (Some limit) = refl

pub imports_live : LivesOn {N = ℕ} StopOf BeginsById
imports_live = record {
  begin = λ {o} {x} {m} {text} {p} {end} b. import_tells x.imports.loading.stopped ∙ sym (ap (λ e. limit_by e) b.begins.ends);
}

pub first_none : (o e : Option Limit) → option_or o e ≡ None → o ≡ None
first_none None e h = refl
first_none (Some other) e h = absurd cc

second_none : (o e : Option Limit) → option_or o e ≡ None → e ≡ None
second_none None e h = h
second_none (Some other) e h = absurd cc

both_none : (o e : Option Limit) → o ≡ None → e ≡ None → option_or o e ≡ None
both_none o e h k = ap (λ x. option_or x e) h ∙ k

-- what bodies read and write of it
abbrev pub St : Outside BodyHost → State ℕ Seen
St o = state_in seen_by errors_by cells_by engine_by o

abbrev pub IsReadyIn : Outside BodyHost → Type 0
IsReadyIn o = TakesBodies modules linked Fits BeginsById o.bodies.engine (scopes_by o.bodies) o.promises o.bodies.errors (seen_by o.bodies)

pub is_live : (o : Outside BodyHost) → FitsBodies o → limit_at StopOf (St o) ≡ None
is_live o f = both_none (seen_by o.bodies).loading.stopped (engine_by o.bodies).stopped (live_is o.bodies.imports f.whole) f.live

-- a body makes no scope, and leaves right those that are there
pub scopes_behind : ScopesStay → (o v : Outside BodyHost) → ChangedBy BeginsById (seen_by o.bodies) (seen_by v.bodies)
    → HaveSameScopes (scopes_by o.bodies) (scopes_by v.bodies) → IsReadyIn v → AreScopesIn (seen_by o.bodies) (scopes_by o.bodies)
    → AreScopesIn (seen_by v.bodies) (scopes_by v.bodies)
scopes_behind stay o v changed same ready scopes =
    stay.bodies (seen_by o.bodies) (seen_by v.bodies) (scopes_by o.bodies) (scopes_by v.bodies) changed same ready.made scopes

pub fits_behind : (o v : Outside BodyHost) (m : ℕ) → linked_by o.bodies m ≡ true → SameModules (seen_by o.bodies) (seen_by v.bodies)
    → limit_at StopOf (St v) ≡ None → IsReadyIn v → AreScopesIn (seen_by v.bodies) (scopes_by v.bodies) → FitsBodies v
fits_behind o v m l same none ready scopes = record {
  whole = whole_is v.bodies.imports ((names (seen_by v.bodies)).name m)
      (first_none (seen_by v.bodies).loading.stopped (engine_by v.bodies).stopped none)
      (linked_same (seen_by o.bodies) (seen_by v.bodies) same m ∙ l);
  live = second_none (seen_by v.bodies).loading.stopped (engine_by v.bodies).stopped none;
  ready = ready;
  scopes = scopes;
}

-- ---- a body that awaits

module _ (o v : Outside BodyHost) (m done : ℕ) where
  pub starts_ok : StartsBody nat_eq modules BeginsById (St o) m done (Ok tt) (St v) → StartsAs CallsBodies o m done (Ok tt) v
  starts_ok p = p

  pub starts_err : (stop : Stop) (end : EvalEnd Limit) → end ≡ eval_end_of stop → Started modules linked Fits BeginsById (St o) m done (Err stop) (St v)
      → StartsAs CallsBodies o m done (Err end) v
  starts_err (stops.Limit limit) end e p = subst (λ x. StartsAs CallsBodies o m done (Err x) v) (sym e) p
  starts_err stops.Memory end e p = subst (λ x. StartsAs CallsBodies o m done (Err x) v) (sym e) tt

  pub starts_fit : ScopesStay → FitsBodies o → linked_by o.bodies m ≡ true → StartsBody nat_eq modules BeginsById (St o) m done (Ok tt) (St v) → IsReadyIn v
      → HaveSameScopes (scopes_by o.bodies) (scopes_by v.bodies) → FitsBodies v
  starts_fit stay f l p ready same = fits_behind o v m l (starts_body_keeps nat_eq modules BeginsById SameModules imports_leave p).imports
      (starts_body_lives StopOf BeginsById imports_live nat_eq modules p (is_live o f)) ready
      (scopes_behind stay o v ((bodies_keep nat_eq modules BeginsById).start (St o) (St v) m done (Ok tt) p).imports same ready f.scopes)

-- ---- a body that doesn't await

module _ (o v : Outside BodyHost) (m : ℕ) where
  pub runs_ok : (ran : Ran) → RanBody modules linked Fits BeginsById (St o) m (Ok ran) (St v) → RunsAs CallsBodies o m (Ok ran) v
  runs_ok ran p = p

  pub runs_err : (stop : Stop) (end : EvalEnd Limit) → end ≡ eval_end_of stop → RanBody modules linked Fits BeginsById (St o) m (Err stop) (St v)
      → RunsAs CallsBodies o m (Err end) v
  runs_err (stops.Limit limit) end e p = subst (λ x. RunsAs CallsBodies o m (Err x) v) (sym e) p
  runs_err stops.Memory end e p = subst (λ x. RunsAs CallsBodies o m (Err x) v) (sym e) tt

  runs_fit : ScopesStay → (ran : Ran) → FitsBodies o → linked_by o.bodies m ≡ true → RanBody modules linked Fits BeginsById (St o) m (Ok ran) (St v) → IsReadyIn v
      → HaveSameScopes (scopes_by o.bodies) (scopes_by v.bodies) → FitsBodies v
  runs_fit stay ran f l p ready same = fits_behind o v m l (runs_body_keeps nat_eq modules BeginsById SameModules imports_leave p).imports
      (runs_body_lives StopOf BeginsById imports_live nat_eq modules p (is_live o f)) ready
      (scopes_behind stay o v ((bodies_keep nat_eq modules BeginsById).run (St o) (St v) m (Ok (ran_of ran)) p).imports same ready f.scopes)

  -- what it throws is known
  thrown_known : (ran : Ran) → KnowsThrown modules linked Fits BeginsById (seen_by v.bodies) ran → RanKnown (λ (w : Outside BodyHost). KnowsBy w.bodies) ran v
  thrown_known rans.Normal k = tt
  thrown_known (rans.Thrown value) k = k

  pub runs_leave : ScopesStay → (ran : Ran) → FitsBodies o → linked_by o.bodies m ≡ true → RanBody modules linked Fits BeginsById (St o) m (Ok ran) (St v)
      → IsReadyIn v → KnowsThrown modules linked Fits BeginsById (seen_by v.bodies) ran → HaveSameScopes (scopes_by o.bodies) (scopes_by v.bodies)
      → FitsBodies v × RanKnown (λ (w : Outside BodyHost). KnowsBy w.bodies) ran v
  runs_leave stay ran f l p ready known same = (runs_fit stay ran f l p ready same, thrown_known ran known)
