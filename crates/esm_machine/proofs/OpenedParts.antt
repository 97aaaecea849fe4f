-- The parts of a machine that has asked for its entry.
use Rattle.std.proofs.Common.{◌≡◌, ℕ, Bool, true, false, List, [], ◌∷◌, map, None, refl, ap, subst, sym, ◌∙◌, length, nat_eq}
use Rattle.esm_base.specs.Lists.{EachOnce, is_in}
use Rattle.esm_base.specs.Urls.{Url, has, same_url}
use Rattle.esm_import_map.specs.ImportMap.{Maps}
use Rattle.esm_values.specs.Code.{CodeValue}
use Rattle.esm_promise.specs.Promises.{make, no_promises}
use Rattle.esm_promise.specs.Reactions.{EntryLoaded}
use Rattle.esm_env.specs.Faithful.{AreScopesOf}
use Rattle.esm_env.specs.Modules.{Modules}
use Rattle.esm_env.specs.Calls.{scopes_of}
use Rattle.esm_env.specs.Scopes.{cells_of}
use Rattle.esm_eval.specs.Begins.{HaveBegunOnce}
use Rattle.esm_eval.specs.Nodes as phase
use Rattle.esm_eval.specs.Nodes.{Node, Phase, untouched}
use Rattle.esm_eval.specs.Table.{no_nodes, node_at, size}
use Rattle.esm_loads.specs.Arrival.{next}
use Rattle.esm_loads.specs.LoadsView.{every_form}
use Rattle.esm_rewriting.specs.State.{has_begun, opening_engine}
use Rattle.esm_body.specs.View.{engine_of, standing_of}
use Rattle.esm_body.specs.declared.work.Standing.{Standing}
use Rattle.esm_world.specs.Sound.{WorldsStaySound}
use Rattle.esm_world.specs.World.{opening}
use Rattle.esm_machine.specs.Calls.{opening_seen}
use Rattle.esm_body.specs.Engines.{AreStanding}
use Rattle.esm_machine.specs.Held.{Held, opening_held}
use Rattle.esm_machine.specs.ModuleStore.{is_whole}
use Rattle.esm_machine.specs.Represents.{IsLive, Represents}
use Rattle.esm_machine.specs.Seen.{linked, modules, names}
use Rattle.esm_machine.specs.SeenScopes.{AreScopesIn}
use Rattle.esm_machine.specs.Inner.Parts.{AreInOrder, AreSound, ByIds, seen_in}
use Rattle.esm_machine.specs.Machine.{entry_held, held_of}
use Rattle.esm_machine.specs.declared.parts.EntryState.TheVariants as states
use Rattle.esm_machine.specs.declared.parts.Parts.{Parts}
use Rattle.esm_machine.proofs.Opens.{opens_as_world}
use Rattle.esm_machine.proofs.Whole.{linked_have_ids}

-- ---- without scopes and without bodies

no_scopes : (g : Modules ℕ) (linked : ℕ → Bool) → ((m : ℕ) → linked m ≡ false) → AreScopesOf g linked []
no_scopes g linked none_is = record {
  faithful = λ m s is. absurd cc;
  trees = λ m s is. absurd cc;
  made = λ m l. absurd (let f : false ≡ true = sym (none_is m) ∙ l in cc);
  bound = λ m s l is x. absurd cc;
  imports = λ m s l is. absurd cc;
  inside = λ m s x i is im. absurd cc;
  unwritten = λ m x l. refl;
}

none_stand : (ss : List Standing) → map standing_of ss ≡ [] → ss ≡ []
none_stand [] e = refl
none_stand (s ∷ ss) e = absurd cc

-- ---- what is held

pub opens_held : (p : Parts) (maps : Maps) (entry : Url) (trace : Bool) → seen_in p ≡ opening_seen maps entry → p.host.nodes ≡ no_nodes
    → p.host.promises ≡ make no_promises (EntryLoaded ∷ []) → p.host.bodies.errors ≡ [] → scopes_of p.host.bodies.envs ≡ []
    → engine_of p.host.bodies.engine ≡ opening_engine trace → p.entry ≡ states.Underway → held_of p ≡ opening_held maps entry trace
opens_held p maps entry trace seen nodes promises errors envs engine state = λ i. record {
  seen = seen i;
  nodes = nodes i;
  promises = promises i;
  errors = errors i;
  cells = cells_of (envs i);
  engine = engine i;
  entry = entry_held (state i);
}

module _ (p : Parts) (maps : Maps) (entry : Url) (trace : Bool) (held : held_of p ≡ opening_held maps entry trace) where
  live_opening : IsLive (held_of p) (opening maps every_form entry trace)
  live_opening = subst (λ (h : Held). IsLive h (opening maps every_form entry trace)) (sym held)
      (record { live = refl; stands = opens_as_world maps entry trace })

  -- it represents no delivery, and no pending request of a fetched URL is left
  pub opens_run : Represents maps entry trace (record { held = held_of p; stopped = None }) []
  opens_run = (opening maps every_form entry trace, refl, live_opening)

  pub opens_answered : next (seen_in p).loading ≡ None
  opens_answered = ap (λ (h : Held). next h.seen.loading) held

  -- ---- nothing was evaluated

  node_is : (x : ℕ) → node_at p.host.nodes x ≡ untouched
  node_is x = ap (λ (h : Held). node_at h.nodes x) held

  phase_is : (x : ℕ) → (node_at p.host.nodes x).phase ≡ phase.NotEntered
  phase_is x = ap (λ (n : Node ℕ CodeValue). n.phase) (node_is x)

  waits_none : (x : ℕ) → (node_at p.host.nodes x).waits ≡ []
  waits_none x = ap (λ (n : Node ℕ CodeValue). n.waits) (node_is x)

  begun_none : HaveBegunOnce ByIds p.host
  begun_none = record {
    between = record {
      idle = λ x e. let f : ◌≡◌ {A = Phase} phase.NotEntered phase.Evaluating = sym (phase_is x) ∙ e in cc;
      unstamped = λ x e. ap (λ (h : Held). is_in nat_eq h.nodes.stamps x) held;
      undone = λ x e. ap (λ (n : Node ℕ CodeValue). n.done) (node_is x);
      free = λ x e. waits_none x;
      stamped = λ x e. absurd (let f : ◌≡◌ {A = Phase} phase.NotEntered phase.EvaluatingAsync = sym (phase_is x) ∙ e in cc);
      joined = λ x y i. absurd (let f : false ≡ true = sym (ap (λ ys. is_in nat_eq ys y) (waits_none x)) ∙ i in cc);
      waiting = λ x e n r. absurd (let f : ◌≡◌ {A = Phase} phase.NotEntered phase.EvaluatingAsync = sym (phase_is x) ∙ e in cc);
    };
    unbegun = λ x e. ap (λ (h : Held). has_begun nat_eq h.engine x) held;
    distinct = subst (λ (h : Held). EachOnce nat_eq h.nodes.stamps) (sym held) tt;
  }

  -- ---- it is in order

  module _ (whole : is_whole p.host.bodies.imports.condition ≡ true) (envs : scopes_of p.host.bodies.envs ≡ []) where
    none_linked : (m : ℕ) → linked (seen_in p) m ≡ false
    none_linked m = ap (λ (h : Held). has h.seen.linked ((names h.seen).name m)) held

    order_opening : AreInOrder p
    order_opening = record {
      whole = whole;
      nodes = ap (λ (h : Held). size h.nodes) held ∙ sym (ap (λ (h : Held). length h.seen.urls) held);
      ids = record {
        apart = subst (λ (h : Held). EachOnce same_url h.seen.urls) (sym held) tt;
        have_ids = λ u l. linked_have_ids p.host.bodies.imports u l;
      };
      scopes = subst (AreScopesIn (seen_in p)) (sym envs)
          (record { right = no_scopes (modules (seen_in p)) (linked (seen_in p)) none_linked; loaded = λ m s is. absurd cc });
      standing = subst (AreStanding modules (seen_in p))
          (sym (none_stand p.host.bodies.engine.standing.items (ap (λ (h : Held). h.engine.standing) held))) tt;
      between = begun_none;
    }

    pub opens_sound : WorldsStaySound → AreSound p
    opens_sound stay = record {
      world = opening maps every_form entry trace;
      live = live_opening;
      sound = stay.opens maps every_form entry trace;
      order = order_opening;
    }
