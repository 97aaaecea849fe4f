-- The example: what the entry requests, read off the run's two fetches.
use Rattle.std.proofs.Common.{◌≡◌, ◌⊎◌, inl, inr, ℕ, Bool, true, false, List, [], ◌∷◌, Option, Some, None, refl, ap, subst, sym, ◌∙◌}
use Rattle.std.specs.Prelude.{nat_lt, ◌+◌}
use Rattle.url.proofs.OnLiterals.{url_on_literals}
use Rattle.esm_base.specs.declared.limits.Limit.{Limit}
use Rattle.esm_base.specs.declared.limits.TheConstants.{MAX_DELIVERED_BYTES}
use Rattle.esm_base.specs.Urls.{Url, has, same_url}
use Rattle.esm_realm.specs.Reach.{Reaches}
use Rattle.esm_realm.proofs.Lists.{either}
use Rattle.esm_ast.specs.Entries.{request_of, with_text, add_request, requests_after}
use Rattle.esm_ast.specs.Outcome.{OutcomeView}
use Rattle.esm_import_map.specs.ImportMap.{no_maps}
use Rattle.esm_loads.specs.UrlTable.{targets_in, found}
use Rattle.esm_loads.specs.Loading.{Loading, targets}
use Rattle.esm_loads.specs.LoadsView.{every_form}
use Rattle.esm_loads.specs.Host.{Host, with_loading}
use Rattle.esm_loads.specs.Arrival.{after_fetch, store_by, put_found, count_by, bytes_of}
use Rattle.esm_world.specs.World.{World, opening, host_of}
use Rattle.esm_world.specs.Examples.{main_url, b_url, cycle_main, printing_b}
use Rattle.esm_world.specs.Run.{Shown}
use Rattle.esm_world.specs.Turn.{Turn, fetched}
use Rattle.esm_world.specs.TracedRun.{TraceLines}
use Rattle.esm_world.proofs.FitLoading.{fetched_entries}
use Rattle.esm_world.proofs.Grows.{fetch_stays}
use Rattle.esm_world.proofs.WorldGrows.{tasks_progress}
use Rattle.esm_needs_laws.specs.Examples.{NeedsOfRun}

-- ---- what a turn leaves of the table

turn_table : {v : World} {u : Url} {c : OutcomeView} {w : World} → Turn v u c w → w.loading.entries ≡ (fetched v u c).loading.entries
turn_table (Turn.limit l s) = refl
turn_table (Turn.turn s p) = (tasks_progress p).grows.entries

turn_maps : {v : World} {u : Url} {c : OutcomeView} {w : World} → Turn v u c w → w.loading.maps ≡ v.loading.maps
turn_maps {v} {u = u} {c = c} (Turn.limit l s) = (fetch_stays (host_of v) u c).maps
turn_maps {v} {u = u} {c = c} (Turn.turn s p) = (tasks_progress p).grows.maps ∙ (fetch_stays (host_of v) u c).maps

turn_built : {v : World} {u : Url} {c : OutcomeView} {w : World} → Turn v u c w → w.loading.built ≡ v.loading.built
turn_built {v} {u = u} {c = c} (Turn.limit l s) = (fetch_stays (host_of v) u c).built
turn_built {v} {u = u} {c = c} (Turn.turn s p) = (tasks_progress p).grows.built ∙ (fetch_stays (host_of v) u c).built

-- ---- the two fetches

abbrev first : World
first = opening no_maps every_form main_url true

main_targets : targets_in ((fetched first main_url cycle_main.outcome).loading.entries main_url) ≡ b_url ∷ []
unfolding url_on_literals requests_after add_request request_of with_text
main_targets = refl

b_found : (h : Host) → targets_in ((put_found h b_url (found no_maps every_form b_url printing_b.outcome)).imports.entries b_url) ≡ []
unfolding url_on_literals requests_after add_request request_of with_text
b_found h = refl

-- what is stored for the other module has no targets
record IsFresh (l : Loading) : Type 0 where
  none : l.entries b_url ≡ None
  maps : l.maps ≡ no_maps
  built : l.built ≡ every_form

stored : (s : Option Limit) (h : Host) (l : Loading) → IsFresh l → targets_in ((store_by s (with_loading h l) b_url printing_b.outcome).imports.entries b_url) ≡ []
stored None h l f =
    subst (λ m. targets_in ((put_found (with_loading h l) b_url (found m l.built b_url printing_b.outcome)).imports.entries b_url) ≡ []) (sym f.maps)
    (subst (λ t. targets_in ((put_found (with_loading h l) b_url (found no_maps t b_url printing_b.outcome)).imports.entries b_url) ≡ []) (sym f.built) (b_found (with_loading h l)))
stored (Some limit) h l f = ap targets_in f.none

counted : (x : Bool) (h : Host) (n : ℕ) → IsFresh h.imports → targets_in ((store_by (count_by x h.imports n).stopped (with_loading h (count_by x h.imports n)) b_url printing_b.outcome).imports.entries b_url) ≡ []
counted true h n f = stored (count_by true h.imports n).stopped h (count_by true h.imports n) (record { none = f.none; maps = f.maps; built = f.built })
counted false h n f = stored (count_by false h.imports n).stopped h (count_by false h.imports n) (record { none = f.none; maps = f.maps; built = f.built })

b_targets : (h : Host) → IsFresh h.imports → targets_in ((after_fetch h b_url printing_b.outcome).imports.entries b_url) ≡ []
b_targets h f = counted (nat_lt MAX_DELIVERED_BYTES (h.imports.bytes + bytes_of printing_b.outcome)) h (bytes_of printing_b.outcome) f

-- ---- the requests

first_step : {to : Url → List Url} {x y : Url} → Reaches to x y → (x ≡ y) ⊎ ((t : Url) × (has (to x) t ≡ true))
first_step Reaches.itself = inl refl
first_step (Reaches.step {t = t} h p) = inr (t, h)

other_module : b_url ≡ main_url → ⊥
other_module e = let k : same_url b_url b_url ≡ same_url b_url main_url = ap (λ u. same_url b_url u) e in let n : true ≡ false = k in cc

leads_nowhere : (to : Url → List Url) → to b_url ≡ [] → Reaches to b_url main_url → ⊥
leads_nowhere to none p = either (first_step p) other_module (λ d. let n : false ≡ true = subst (λ ts. has ts d.0 ≡ true) none d.1 in cc)

pub needs_of_run : TraceLines → NeedsOfRun
needs_of_run p =
    let r = p.runs in
    let mid = r.1 in
    let late = r.3 in
    let table1 = turn_table r.2 in
    let table2 : p.world.loading.entries ≡ (fetched mid b_url printing_b.outcome).loading.entries = ap (λ (w : World). w.loading.entries) late.3 ∙ turn_table late.2 in
    let fresh : IsFresh mid.loading = record {
      none = ap (λ es. es b_url) table1 ∙ fetched_entries (host_of first) main_url b_url cycle_main.outcome refl;
      maps = turn_maps r.2;
      built = turn_built r.2;
    } in
    let main_is : targets p.world.loading main_url ≡ b_url ∷ [] =
    ap (λ es. targets_in (es main_url)) table2
    ∙ ap targets_in (fetched_entries (host_of mid) b_url main_url printing_b.outcome refl)
    ∙ ap (λ es. targets_in (es main_url)) table1
    ∙ main_targets in
    record {
      world = p.world;
      runs = r;
      events = sym (ap (λ (s : Shown). s.events) p.shows);
      requests = subst (λ ts. has ts b_url ≡ true) (sym main_is) refl;
      apart = leads_nowhere (targets p.world.loading) (ap (λ es. targets_in (es b_url)) table2 ∙ b_targets (host_of mid) fresh);
    }
