-- A turn: a fetch has ended, and all tasks have run behind it.
use Rattle.std.proofs.Common.{◌≡◌, Option, Some, None, refl, subst, sym, ◌∙◌}
use Rattle.std.specs.Prelude.{Result, Ok, Err}
use Rattle.std.specs.Option.{option_or}
use Rattle.esm_base.specs.declared.end.End.TheVariants as ends
use Rattle.esm_base.specs.declared.limits.Limit.{Limit}
use Rattle.esm_base.specs.Urls.{Url}
use Rattle.esm_ast.specs.Outcome.{OutcomeView}
use Rattle.esm_world.specs.Turn.{Tasks, Turn, fetched}
use Rattle.esm_world.specs.World.{World, stopped}
use Rattle.esm_machine.specs.Represents.{TurnEnd}
use Rattle.esm_machine.specs.Inner.Leads.{IsFetched, LeadsFrom}
use Rattle.esm_machine.specs.Inner.Parts.{AreLive}
use Rattle.esm_machine.specs.declared.parts.Parts.{Parts}

first_none : (o e : Option Limit) → option_or o e ≡ None → o ≡ None
first_none None e h = refl
first_none (Some other) e h = absurd cc

second_none : (o e : Option Limit) → option_or o e ≡ None → e ≡ None
second_none None e h = h
second_none (Some other) e h = absurd cc

-- what has stopped it is loading, where nothing has stopped the engine
first_some : (o e : Option Limit) (limit : Limit) → e ≡ None → option_or o e ≡ Some limit → o ≡ Some limit
first_some None e limit n h = let f : ◌≡◌ {A = Option Limit} None (Some limit) = sym n ∙ h in absurd cc
first_some (Some other) e limit n h = h

module _ (p mid new : Parts) (u : Url) (c : OutcomeView) where
  -- the bytes pass their limit
  pub turn_stops : (end : TurnEnd) → LeadsFrom p (IsFetched u c) (Err end) new → LeadsFrom p (λ w. Turn w u c) (Err end) new
  turn_stops (ends.Fault limit) f = λ w live.
      let t = f w live in
      let none : w.engine.stopped ≡ None = second_none w.loading.stopped w.engine.stopped live.live in
      let some : (fetched w u c).loading.stopped ≡ Some limit =
      first_some (fetched w u c).loading.stopped w.engine.stopped limit none (subst (λ x. stopped x ≡ Some limit) t.1 t.2.stopped) in
      (t.0, subst (λ x. Turn w u c x) (sym t.1) (Turn.limit limit some), t.2)
  turn_stops ends.Memory f = λ w live. tt

  fetched_live : (w after : World) → after ≡ fetched w u c → AreLive mid after → (fetched w u c).loading.stopped ≡ None
  fetched_live w after is live = first_none (fetched w u c).loading.stopped w.engine.stopped (subst (λ x. stopped x ≡ None) is live.live)

  pub turn_goes_on : (result : Result (Unit {0}) TurnEnd) → LeadsFrom p (IsFetched u c) (Ok tt) mid → LeadsFrom mid Tasks result new
      → LeadsFrom p (λ w. Turn w u c) result new
  turn_goes_on (Ok done) f tasks = λ w live.
      let t = f w live in
      let k = tasks t.0 t.2 in
      (k.0, Turn.turn (fetched_live w t.0 t.1 t.2) (subst (λ x. Tasks x k.0) t.1 k.1), k.2)
  turn_goes_on (Err (ends.Fault limit)) f tasks = λ w live.
      let t = f w live in
      let k = tasks t.0 t.2 in
      (k.0, Turn.turn (fetched_live w t.0 t.1 t.2) (subst (λ x. Tasks x k.0) t.1 k.1), k.2)
  turn_goes_on (Err ends.Memory) f tasks = λ w live. tt
