-- A fetch has ended: the parts of a machine are in the world that follows, and in order.
use Rattle.std.proofs.Common.{◌≡◌, ◌≤◌, ◌<◌, ℕ, zero, suc, Bool, true, false, List, [], ◌∷◌, ◌++◌, None, length, arith, refl, ap, subst, sym, ◌∙◌}
use Rattle.std.specs.Prelude.{Result, Ok, Err, nat_lt, slice_get}
use Rattle.std.proofs.lemmas.Bool.Decides.{nat_tests}
use Rattle.std.proofs.lemmas.List.{length_push}
use Rattle.esm_base.specs.declared.end.End.TheVariants as ends
use Rattle.esm_base.specs.Lists.{EachOnce}
use Rattle.esm_base.specs.Urls.{Url, has, same_url}
use Rattle.esm_realm.proofs.Urls.{not_true}
use Rattle.esm_ast.specs.Deliveries.{completed}
use Rattle.esm_ast.specs.Outcome.{OutcomeView}
use Rattle.esm_values.specs.Code.{CodeValue}
use Rattle.esm_values.specs.Errors.{Errors}
use Rattle.esm_promise.specs.Code.{Numbered}
use Rattle.esm_eval.specs.Nodes.{Node, untouched}
use Rattle.esm_eval.specs.Table.{Table, node_by, size}
use Rattle.esm_loads.specs.Arrival.{after_fetch, open_asks}
use Rattle.esm_loads.specs.Host.{Host}
use Rattle.esm_loads.specs.Hosted.{host_of}
use Rattle.esm_loads.specs.Loading.{Loading}
use Rattle.esm_loads.specs.LoadsAsLoading.{loading_of}
use Rattle.esm_loads.specs.LoadsView.{every_form}
use Rattle.esm_loads.specs.UrlTable.{Faulty, Found, Nothing, Script, found}
use Rattle.esm_world.specs.Run.{HasModuleTree}
use Rattle.esm_world.specs.Sound.{WorldsStaySound}
use Rattle.esm_world.specs.Turn.{fetched}
use Rattle.esm_world.specs.World.{World}
use Rattle.esm_machine.specs.Arrivals.{ArrivalsAreOfTheWorld, HasArrived, SameNodes, urls_with}
use Rattle.esm_machine.specs.Calls.{FetchesBy}
use Rattle.esm_machine.specs.Held.{RecordsCover}
use Rattle.esm_machine.specs.Kept.{IsKept, RecordsShow}
use Rattle.esm_machine.specs.ModuleStore.{Imported, is_whole, loading_by, seen_of}
use Rattle.esm_machine.specs.Represents.{TurnEnd}
use Rattle.esm_machine.specs.Seen.{linked, names}
use Rattle.esm_machine.specs.SeenScopes.{AreScopesIn, ScopesStay}
use Rattle.esm_machine.specs.Inner.Below.{below}
use Rattle.esm_machine.specs.Inner.Leads.{IsFetched, LeadsFrom, LeadsTo}
use Rattle.esm_machine.specs.Inner.Parts.{AreInOrder, AreLive, AreSound, ByIds, nodes_behind, seen_in, with_node_behind}
use Rattle.esm_machine.specs.Machine.{cells_by, held_of, scopes_by}
use Rattle.esm_machine.specs.declared.condition.Condition.{Condition}
use Rattle.esm_machine.specs.declared.condition.Condition.TheVariants as conditions
use Rattle.esm_machine.specs.declared.parts.Parts.{Parts}
use Rattle.esm_machine.proofs.Begun.{begun_alike}
use Rattle.esm_machine.proofs.Grown.{one_more}
use Rattle.esm_machine.proofs.Outside.{standing_on, with_outside}
use Rattle.esm_machine.proofs.Whole.{linked_have_ids, live_is}

-- ---- records

module _ (p : Parts) (s : AreSound p) where
  -- nothing was written in what has no record
  unwritten_past : (m : ℕ) (x : List ℕ) → length (seen_in p).urls ≤ m → cells_by p.host.bodies m x ≡ None
  unwritten_past m x far = s.order.scopes.right.unwritten m x (not_true (linked (seen_in p) m) (λ l.
      let lt : m < length (seen_in p).urls = below (seen_in p).urls m (s.order.ids.have_ids _ l) in
      absurd (omega (arith, lt, far))))

  pub have_records : RecordsCover (held_of p) (held_of p).seen.linked
  have_records = record {
    ids = s.order.ids;
    nodes = omega (arith, s.order.nodes);
    cells = unwritten_past;
  }

-- ---- a node for each record

node_more : (ns : List (Node ℕ CodeValue)) (m : ℕ) → node_by (slice_get (ns ++ untouched ∷ []) m) ≡ node_by (slice_get ns m)
node_more [] zero = refl
node_more [] (suc m) = refl
node_more (n ∷ ns) zero = refl
node_more (n ∷ ns) (suc m) = node_more ns m

nodes_same : (b : Bool) (t : Table) → SameNodes t (nodes_behind b t)
nodes_same true t = record { nodes = λ m. node_more t.nodes m; stamps = refl }
nodes_same false t = record { nodes = λ m. refl; stamps = refl }

size_same : (t : Table) (had n : ℕ) → size t ≡ had → n ≡ had → size (nodes_behind (nat_lt had n) t) ≡ n
size_same t had n e f = by (nat_lt had n) refl
  where
    by : (b : Bool) → nat_lt had n ≡ b → size (nodes_behind b t) ≡ n
    by true l = absurd (let lt : had < n = grind (arith, nat_tests) in omega (arith, lt, f))
    by false l = e ∙ sym f

size_more : (t : Table) (had n : ℕ) → size t ≡ had → n ≡ suc had → size (nodes_behind (nat_lt had n) t) ≡ n
size_more t had n e f = by (nat_lt had n) refl
  where
    by : (b : Bool) → nat_lt had n ≡ b → size (nodes_behind b t) ≡ n
    by true l = length_push t.nodes untouched ∙ omega (arith, e, f)
    by false l = absurd (let le : n ≤ had = grind (arith, nat_tests) in omega (arith, le, f))

size_behind : (t : Table) (had : ℕ) (urls : List Url) (u : Url) (f : Found) → had ≡ length urls → size t ≡ length urls
    → size (nodes_behind (nat_lt had (length (urls_with urls u f))) t) ≡ length (urls_with urls u f)
size_behind t had urls u Nothing h e = size_same t had (length urls) (e ∙ sym h) (sym h)
size_behind t had urls u (Faulty f) h e = size_same t had (length urls) (e ∙ sym h) (sym h)
size_behind t had urls u (Script m) h e =
    size_more t had (length (urls ++ u ∷ [])) (e ∙ sym h) (length_push urls u ∙ omega (arith, h))

apart_with : (urls : List Url) (u : Url) (f : Found) → EachOnce same_url urls → has urls u ≡ false → EachOnce same_url (urls_with urls u f)
apart_with urls u Nothing once new = once
apart_with urls u (Faulty f) once new = once
apart_with urls u (Script m) once new = one_more urls u once new

maps_by : (c : Condition) (l : Loading) → (loading_by c l).maps ≡ l.maps
maps_by conditions.Whole l = refl
maps_by (conditions.Stopped limit) l = refl
maps_by conditions.Lost l = refl

-- the import map is the one that is seen
pub maps_seen : (i : Imported) → (seen_of i).loading.maps ≡ i.maps
maps_seen i = maps_by i.condition (loading_of i.maps i.loads i.records)

-- ---- the fetch of an open ask that has no record

abbrev pub fetch_done : Result (Unit {0}) TurnEnd
fetch_done = Ok tt

abbrev pub fetch_refused : TurnEnd → Result (Unit {0}) TurnEnd
fetch_refused end = Err end

module _ (p : Parts) (u : Url) (c : OutcomeView) (es : Errors) (i : Imported) where
  -- the bytes were counted, the outcome stands in the table, and a module has its record
  abbrev pub Mid : Parts
  Mid = with_outside p p.host.promises es i

  abbrev Fetched : (ℕ → Url) → Numbered → Host
  Fetched named promises = after_fetch (host_of named promises p.host.bodies.errors (seen_in p).loading) u c

  abbrev name : ℕ → Url
  name m = (names (seen_in p)).name m

  module _ (s : AreSound p) (had : ℕ) (counted : had ≡ length (seen_in p).urls) (asked : has (open_asks (seen_in p).loading) u ≡ true)
      (tree : HasModuleTree c)
      (fetches : (named : ℕ → Url) (promises : Numbered) → host_of named promises es (seen_of i).loading ≡ Fetched named promises)
      (urls : (seen_of i).urls ≡ urls_with (seen_in p).urls u (found p.host.bodies.imports.maps every_form u c))
      (linked_same : (seen_of i).linked ≡ (seen_in p).linked) (condition : i.condition ≡ conditions.Whole)
      (kept : IsKept p.host.bodies.imports) (show : RecordsShow) (arrivals : ArrivalsAreOfTheWorld) where
    -- and a node
    abbrev Last : Parts
    Last = with_node_behind had Mid

    whole : is_whole i.condition ≡ true
    whole = ap is_whole condition

    arrived : HasArrived (held_of p) u c (held_of Last)
    arrived = record {
      host = λ named. fetches named p.host.promises;
      urls = urls ∙ ap (λ ms. urls_with (seen_in p).urls u (found ms every_form u c)) (sym (maps_seen p.host.bodies.imports));
      linked = linked_same;
      nodes = nodes_same (nat_lt had (length (seen_of i).urls)) p.host.nodes;
      cells = refl;
      engine = refl;
      entry = refl;
    }

    fresh : has (seen_in p).urls u ≡ false
    fresh = show.asks_are_new p.host.bodies.imports u kept s.order.whole asked

    live_at : (w : World) → AreLive p w → AreLive Last (fetched w u c)
    live_at w live =
        arrivals.arrives (held_of p) (held_of Last) s.world w u c s.live s.sound live (arrivals.allowed (held_of p) w u c live asked tree)
        (have_records p s) fresh arrived (live_is i whole)

    pub leads_fetched : (new : Parts) → new ≡ Last → LeadsFrom p (IsFetched u c) fetch_done new
    leads_fetched new e = λ w live. (fetched w u c, refl, subst (λ q. AreLive q (fetched w u c)) (sym e) (live_at w live))

    scopes_behind : ScopesStay → AreScopesIn (seen_of i) (scopes_by p.host.bodies)
    scopes_behind stay =
        stay.fetches p.host.bodies.imports i name p.host.promises p.host.bodies.errors es u c (scopes_by p.host.bodies) kept s.order.whole asked
        (fetches name p.host.promises) urls linked_same s.order.scopes

    order_behind : ScopesStay → AreInOrder Last
    order_behind stay = record {
      whole = whole;
      nodes = subst (λ us. size (nodes_behind (nat_lt had (length us)) p.host.nodes) ≡ length us) (sym urls)
          (size_behind p.host.nodes had (seen_in p).urls u (found p.host.bodies.imports.maps every_form u c) counted s.order.nodes);
      ids = record {
        apart = subst (EachOnce same_url) (sym urls)
            (apart_with (seen_in p).urls u (found p.host.bodies.imports.maps every_form u c) s.order.ids.apart fresh);
        have_ids = λ v l. linked_have_ids i v l;
      };
      scopes = scopes_behind stay;
      standing = standing_on p s.order s.world s.live s.sound.ready.fit p.host.promises es i (scopes_behind stay);
      between = begun_alike ByIds p.host Last.host (nodes_same (nat_lt had (length (seen_of i).urls)) p.host.nodes).nodes
          (nodes_same (nat_lt had (length (seen_of i).urls)) p.host.nodes).stamps (λ x. refl) s.order.between;
    }

    pub fetched_sound : WorldsStaySound → ScopesStay → (new : Parts) → new ≡ Last → AreSound new
    fetched_sound sound stay new e = subst AreSound (sym e) (record {
      world = fetched s.world u c;
      live = live_at s.world s.live;
      sound = sound.fetches s.world (completed u c) s.sound (arrivals.allowed (held_of p) s.world u c s.live asked tree);
      order = order_behind stay;
    })

  -- a limit stops it
  module _ (end : TurnEnd)
      (fetches : (named : ℕ → Url) (promises : Numbered) → FetchesBy (fetch_refused end) (Fetched named promises) (host_of named promises es (seen_of i).loading))
      (arrivals : ArrivalsAreOfTheWorld) where
    pub leads_stopped : LeadsFrom p (IsFetched u c) (fetch_refused end) Mid
    leads_stopped = λ w live. by end (fetches name p.host.promises) w live
      where
        by : (end : TurnEnd) → FetchesBy (fetch_refused end) (Fetched name p.host.promises) (host_of name p.host.promises es (seen_of i).loading)
            → (w : World) → AreLive p w → LeadsTo (IsFetched u c w) (fetch_refused end) Mid
        by (ends.Fault limit) f w live = arrivals.fetch_stops (held_of p) w u c limit live f
        by ends.Memory f w live = tt
