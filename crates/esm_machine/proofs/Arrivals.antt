-- What the end of a fetch, and the answer of a pending request, do by ids, they do in the world.
use Rattle.std.proofs.Common.{◌≡◌, ℕ, true, false, List, map, length, Option, Some, None, refl, ap, subst, sym, ◌∙◌}
use Rattle.std.specs.Prelude.{Result, Ok, Err}
use Rattle.std.specs.Option.{option_or}
use Rattle.esm_base.specs.declared.limits.Limit.{Limit}
use Rattle.esm_base.specs.Urls.{Url, has}
use Rattle.esm_ast.specs.Outcome.{OutcomeView}
use Rattle.esm_ast.specs.Deliveries.{completed}
use Rattle.esm_resolve.specs.SharedSet.{SharedSetAgrees, SharedSetEnds}
use Rattle.esm_values.specs.Errors.{Errors}
use Rattle.esm_values.specs.Naming.{renamed_value}
use Rattle.esm_values.specs.Numbering.{numbering}
use Rattle.esm_promise.specs.Code.{Numbered}
use Rattle.esm_eval.specs.Naming.{named_node}
use Rattle.esm_loads.specs.Arrival.{after_fetch, open_asks, AnswersNext}
use Rattle.esm_loads.specs.Host.{Host}
use Rattle.esm_loads.specs.Hosted.{host_of}
use Rattle.esm_loads.specs.Loading.{Loading}
use Rattle.esm_loads.specs.LoadsView.{every_form}
use Rattle.esm_loads.specs.UrlTable.{Found, Nothing, Faulty, Script, found}
use Rattle.esm_rewriting.specs.Keeps.{started}
use Rattle.esm_rewriting.specs.Naming.{renamed_engine}
use Rattle.esm_env.specs.Naming.{renamed_cells}
use Rattle.esm_world.specs.World as world
use Rattle.esm_world.specs.World.{World}
use Rattle.esm_world.specs.Layers as layers
use Rattle.esm_world.specs.Fits.{IsFit, FitsWorld}
use Rattle.esm_world.specs.Run.{HasModuleTree, IsAllowed}
use Rattle.esm_world.specs.Sound.{IsSound}
use Rattle.esm_world.specs.Turn.{fetched}
use Rattle.esm_world.proofs.HasTurnSteps.{worlds_stay_sound}
use Rattle.esm_world.proofs.ToldWorld.{stays_told, stays_complete}
use Rattle.esm_machine.specs.Seen.{names}
use Rattle.esm_machine.specs.Held.{Held, StandsFor, IsHeld, RecordsCover, renamed_entry, with_host, world_of}
use Rattle.esm_machine.specs.Represents.{IsLive}
use Rattle.esm_machine.specs.Arrivals.{urls_with, HasArrived, StopsAs, IsAnswered, ArrivalsAreOfTheWorld}
use Rattle.esm_machine.specs.Steps.{LeavesHeld}
use Rattle.esm_machine.proofs.Grown.{records_are_added}
use Rattle.esm_machine.specs.Inner.Numbers.{number}
use Rattle.esm_machine.proofs.Opens.{loading_is_of_the_world}
use Rattle.esm_machine.proofs.Starts.{starts_held}
use Rattle.esm_machine.proofs.Tells.{asks_shown}

-- ---- a pending request is answered

second_none : (o e : Option Limit) → option_or o e ≡ None → e ≡ None
second_none None e h = h
second_none (Some limit) e h = absurd cc

both_none : (o e : Option Limit) → o ≡ None → e ≡ None → option_or o e ≡ None
both_none o e h k = ap (λ a. option_or a e) h ∙ k

first_some : (o e : Option Limit) (limit : Limit) → o ≡ Some limit → option_or o e ≡ Some limit
first_some o e limit h = ap (λ a. option_or a e) h

module _ (h : Held) (w : World) (s : IsLive h w) where
  abbrev name : ℕ → Url
  name m = (names h.seen).name m

  host_is : world.host_of w ≡ host_of name h.promises h.errors h.seen.loading
  host_is = ap (λ v. world.host_of v) s.stands.world

  engine_live : w.engine.stopped ≡ None
  engine_live = second_none w.loading.stopped w.engine.stopped s.live

  log_is : w.engine.log ≡ h.engine.log
  log_is = ap (λ (v : World). v.engine.log) s.stands.world

  starts_are : length (started w.engine.events) ≡ length (started h.engine.events)
  starts_are = ap (λ (v : World). length (started v.engine.events)) s.stands.world ∙ starts_held h w.linked

  allowed : (u : Url) (c : OutcomeView) → has (open_asks h.seen.loading) u ≡ true → HasModuleTree c → IsAllowed w (completed u c)
  allowed u c asked tree = record { asked = ap (λ us. has us u) (asks_shown None h w s) ∙ asked; tree = tree }

  module _ (promises : Numbered) (errors : Errors) (l : Loading)
      (a : AnswersNext (host_of name h.promises h.errors h.seen.loading) (host_of name promises errors l)) where
    abbrev Behind : Host
    Behind = host_of name promises errors l

    in_world : AnswersNext (world.host_of w) Behind
    in_world = subst (λ o. AnswersNext o Behind) (sym host_is) a

    answers : (end : Result (Unit {0}) Limit) → StopsAs end l → LeavesHeld end (IsAnswered w Behind) (with_host h promises errors l)
    answers (Ok done) live = (
      world.with_host w Behind,
      (in_world, refl),
      record { live = both_none l.stopped w.engine.stopped live engine_live; stands = loading_is_of_the_world h w promises errors l s.stands },
    )
    answers (Err limit) halted = (
      world.with_host w Behind,
      (in_world, refl),
      record { stopped = first_some l.stopped w.engine.stopped limit halted; written = log_is; begun = starts_are },
    )

  fetch_stops : (u : Url) (c : OutcomeView) (limit : Limit)
      → (after_fetch (host_of name h.promises h.errors h.seen.loading) u c).imports.stopped ≡ Some limit
      → LeavesHeld (Err limit) (λ v. v ≡ fetched w u c) h
  fetch_stops u c limit halted = (
    fetched w u c,
    refl,
    record {
      stopped = first_some (fetched w u c).loading.stopped w.engine.stopped limit
          (ap (λ (o : Host). (after_fetch o u c).imports.stopped) host_is ∙ halted);
      written = log_is;
      begun = starts_are;
    },
  )

-- ---- worlds that differ in the order in which modules were linked

other_world : (h : Held) (v w : World) → IsLive h v → IsLive h w → w ≡ layers.with_linked v w.linked
other_world h v w a b = b.stands.world ∙ sym (ap (λ (x : World). layers.with_linked x w.linked) a.stands.world)

live_other : (h : Held) (v : World) (us : List Url) → IsLive h v → ((u : Url) → has us u ≡ has v.linked u) → IsLive h (layers.with_linked v us)
live_other h v us a same = record {
  live = a.live;
  stands = record { linked = λ u. same u ∙ a.stands.linked u; world = ap (λ (x : World). layers.with_linked x us) a.stands.world };
}

-- what stands for the world behind a fetch stands for each such world
fetched_other : (h after : Held) (v w : World) (u : Url) (c : OutcomeView) → IsLive h v → IsLive h w → IsLive after (fetched v u c) → IsLive after (fetched w u c)
fetched_other h after v w u c a b f =
    subst (λ (x : World). IsLive after (fetched x u c)) (sym (other_world h v w a b))
    (live_other after (fetched v u c) w.linked f (λ x. b.stands.linked x ∙ sym (a.stands.linked x)))

-- ---- a fetch ends

module _ (agrees : SharedSetAgrees) (ends : SharedSetEnds) (h after : Held) (w : World) (u : Url) (c : OutcomeView) (s : IsLive h w) (sound : IsSound w) (a : IsAllowed w (completed u c)) (k : RecordsCover h h.seen.linked)
    (new : has h.seen.urls u ≡ false) (r : HasArrived h u c after) where
  -- what is held, as if no record was added
  abbrev Early : Held
  Early = record h { seen = record h.seen { loading = after.seen.loading }; promises = after.promises; errors = after.errors }

  W : fetched w u c ≡ world.with_host w (host_of (name h w s) after.promises after.errors after.seen.loading)
  W = ap (λ o. world.with_host w (after_fetch o u c)) (host_is h w s) ∙ ap (λ o. world.with_host w o) (sym (r.host (name h w s)))

  early_stands : StandsFor Early (fetched w u c)
  early_stands = subst (λ v. StandsFor Early v) (sym W) (loading_is_of_the_world h w after.promises after.errors after.seen.loading s.stands)

  fit : IsFit (fetched w u c)
  fit = ((worlds_stay_sound agrees ends stays_told stays_complete).fetches w (completed u c) sound a).ready.fit

  early_fit : FitsWorld w.linked after.seen.loading.entries (world_of Early w.linked)
  early_fit = subst (λ (v : World). FitsWorld w.linked v.loading.entries v) early_stands.world fit

  early_held : IsHeld Early w.linked
  early_held = record {
    fits = early_fit;
    covered = record {
      ids = record { apart = k.ids.apart; have_ids = λ v e. k.ids.have_ids v (sym (s.stands.linked v) ∙ e) };
      nodes = k.nodes;
      cells = k.cells;
    };
  }

  -- with the records that are there then
  abbrev Late : List Url → Held
  Late us = record Early { seen = record Early.seen { urls = us } }

  by_found : (f : Found) → world_of Early w.linked ≡ world_of (Late (urls_with h.seen.urls u f)) w.linked
  by_found Nothing = refl
  by_found (Faulty f) = refl
  by_found (Script m) = sym (records_are_added Early w.linked u early_held new)

  late_is : world_of (Late after.seen.urls) w.linked ≡ world_of after w.linked
  late_is =
      let n = numbering after.seen.urls in
      λ i. record {
        loading = after.seen.loading;
        linked = w.linked;
        nodes = λ v. named_node n (renamed_value n.name) (sym (r.nodes.nodes (number after.seen.urls v)) i);
        stamps = map n.name (sym r.nodes.stamps i);
        promises = (world_of after w.linked).promises;
        errors = after.errors;
        cells = renamed_cells n (sym r.cells i);
        engine = renamed_engine n (sym r.engine i);
        entry = renamed_entry n.name (sym r.entry i);
      }

  arrives : after.seen.loading.stopped ≡ None → IsLive after (fetched w u c)
  arrives live = record {
    live = both_none (fetched w u c).loading.stopped w.engine.stopped (ap (λ (v : World). v.loading.stopped) W ∙ live) (engine_live h w s);
    stands = record {
      linked = λ v. s.stands.linked v ∙ sym (ap (λ us. has us v) r.linked);
      world =
          early_stands.world
          ∙ by_found (found h.seen.loading.maps every_form u c)
          ∙ ap (λ us. world_of (Late us) w.linked) (sym r.urls)
          ∙ late_is;
    };
  }

-- so it is in each world that is stood for, where one of them is sound
arrives_in : SharedSetAgrees → SharedSetEnds → (h after : Held) (v w : World) (u : Url) (c : OutcomeView) → IsLive h v → IsSound v → IsLive h w
    → IsAllowed w (completed u c) → RecordsCover h h.seen.linked → has h.seen.urls u ≡ false → HasArrived h u c after
    → after.seen.loading.stopped ≡ None → IsLive after (fetched w u c)
arrives_in agrees ends h after v w u c s sound t a k new r live =
    let there : IsAllowed v (completed u c) = record {
      asked = ap (λ us. has us u) (asks_shown None h v s ∙ sym (asks_shown None h w t)) ∙ a.asked;
      tree = a.tree;
    } in
    fetched_other h after v w u c s t (arrives agrees ends h after v u c s sound there k new r live)

pub arrivals_are_of_the_world : SharedSetAgrees → SharedSetEnds → ArrivalsAreOfTheWorld
arrivals_are_of_the_world agrees ends = record {
  allowed = λ h w u c s asked tree. allowed h w s u c asked tree;
  arrives = λ h after v w u c s sound t a k new r live. arrives_in agrees ends h after v w u c s sound t a k new r live;
  fetch_stops = λ h w u c limit s halted. fetch_stops h w s u c limit halted;
  answers = λ h w promises errors l end s a stops. answers h w s promises errors l a end stops;
}
