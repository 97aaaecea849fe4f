-- The files of the example are clean, and so each run of them shows what one does, and the direct run too.
use Rattle.std.proofs.Common.{◌≡◌, ◌⊎◌, inl, inr, true, false, List, [], ◌∷◌, Option, Some, None, refl, ap, subst, sym, ◌∙◌, lit≤}
use Rattle.std.specs.Prelude.{Ok, option_map}
use Rattle.url.proofs.OnLiterals.{url_on_literals}
use Rattle.esm_base.specs.declared.limits.Limit.{Limit}
use Rattle.esm_base.specs.declared.status.Status.{Status}
use Rattle.esm_base.specs.declared.status.Status.TheVariants as statuses
use Rattle.esm_base.specs.Urls.{Url, has, same_url}
use Rattle.esm_import_map.specs.ImportMap.{no_maps}
use Rattle.esm_ast.specs.Entries.{requests_of, requests_after, add_request, request_of, with_text}
use Rattle.esm_realm.proofs.Urls.{same_text, or_true, or_cases, has_own}
use Rattle.esm_realm.specs.Laws.{AreDistinct}
use Rattle.esm_resolve.specs.SharedSet.{SharedSetAgrees, SharedSetEnds}
use Rattle.esm_loads.specs.UrlTable.{targets_of, targets_in}
use Rattle.esm_loads.specs.LoadsView.{every_form}
use Rattle.esm_world.specs.World.{World, EntryState, stopped}
use Rattle.esm_world.specs.LastLine.{Ending, ending_by, exit_status}
use Rattle.esm_world.specs.Direct.{Closure, itself, requested, IsCleanFile, IsClean, AreClosure, DirectRun, ShowsDirect, file_entries}
use Rattle.esm_world.specs.Examples.{main_url, b_url, printing_b}
use Rattle.esm_order_laws.proofs.OrderFreeAll.{order_free}
use Rattle.esm_direct_laws.specs.Examples.{c_url, asking_both, printing_c, both_files, both_shown, CleanRun, SecondFirst, CleanDirect}
use Rattle.esm_direct_laws.proofs.DirectRuns.{order_free_shown}
use Rattle.esm_direct_laws.proofs.BothRun.{main_items, b_items, c_items, main_tree, b_tree, c_tree, both_run}

abbrev urls : List Url
urls = main_url ∷ b_url ∷ c_url ∷ []

-- a property of the three URLs
each : (P : Url → Type 0) → P main_url → P b_url → P c_url → (u : Url) → has urls u ≡ true → P u
each P m b c u h = first (or_cases (same_url u main_url) (has (b_url ∷ c_url ∷ []) u) h)
  where
    at : (v : Url) → same_url u v ≡ true → P v → P u
    at v s p = subst P (sym (same_text u v s)) p

    third : (same_url u c_url ≡ true) ⊎ (has [] u ≡ true) → P u
    third (inl s) = at c_url s c
    third (inr k) = cc

    second : (same_url u b_url ≡ true) ⊎ (has (c_url ∷ []) u ≡ true) → P u
    second (inl s) = at b_url s b
    second (inr k) = third (or_cases (same_url u c_url) (has [] u) k)

    first : (same_url u main_url ≡ true) ⊎ (has (b_url ∷ c_url ∷ []) u ≡ true) → P u
    first (inl s) = at main_url s m
    first (inr k) = second (or_cases (same_url u b_url) (has (c_url ∷ []) u) k)

file_targets : Url → List Url
file_targets u = targets_in (file_entries no_maps every_form both_files u)

main_targets : file_targets main_url ≡ b_url ∷ c_url ∷ []
unfolding file_targets url_on_literals requests_after add_request request_of with_text
main_targets = refl

b_targets : file_targets b_url ≡ []
unfolding file_targets url_on_literals requests_after add_request request_of with_text
b_targets = refl

c_targets : file_targets c_url ≡ []
unfolding file_targets url_on_literals requests_after add_request request_of with_text
c_targets = refl

-- what the three request is among them
Stays : Url → Type 0
Stays u = (t : Url) → has (file_targets u) t ≡ true → has urls t ≡ true

stays : (u : Url) → has urls u ≡ true → Stays u
unfolding Stays
stays = each Stays
    (λ t h. or_true (same_url t main_url) _ (subst (λ ts. has ts t ≡ true) main_targets h))
    (λ t h. nothing t (subst (λ ts. has ts t ≡ true) b_targets h))
    (λ t h. nothing t (subst (λ ts. has ts t ≡ true) c_targets h))
  where
    nothing : (t : Url) → has [] t ≡ true → has urls t ≡ true
    nothing t k = cc

abbrev Reached : Url → Type 0
Reached u = Closure no_maps every_form both_files main_url u

reached : (u : Url) → Reached u → has urls u ≡ true
unfolding Stays file_targets
reached u itself = has_own main_url (b_url ∷ c_url ∷ [])
reached u (requested {u = v} c h) = stays v (reached v c) u h

reaches : (u : Url) → has urls u ≡ true → Reached u
unfolding file_targets
reaches = each Reached itself (requested itself (subst (λ ts. has ts b_url ≡ true) (sym main_targets) refl))
    (requested itself (subst (λ ts. has ts c_url ≡ true) (sym main_targets) refl))

main_resolves : targets_of no_maps main_url (requests_of main_items) ≡ Ok (b_url ∷ c_url ∷ [])
unfolding url_on_literals requests_after add_request request_of with_text
main_resolves = refl

b_resolves : targets_of no_maps b_url (requests_of b_items) ≡ Ok []
unfolding url_on_literals requests_after add_request request_of with_text
b_resolves = refl

c_resolves : targets_of no_maps c_url (requests_of c_items) ≡ Ok []
unfolding url_on_literals requests_after add_request request_of with_text
c_resolves = refl

abbrev IsCleanHere : Url → Type 0
IsCleanHere u = IsCleanFile no_maps every_form both_files u

clean : IsClean no_maps every_form both_files main_url
clean = record {
  files_are = λ u c. each IsCleanHere
      (record { text = _; urls = b_url ∷ c_url ∷ []; file = refl; tree = main_tree; can_run = refl; no_import = refl; resolves = main_resolves })
      (record { text = _; urls = []; file = refl; tree = b_tree; can_run = refl; no_import = refl; resolves = b_resolves })
      (record { text = _; urls = []; file = refl; tree = c_tree; can_run = refl; no_import = refl; resolves = c_resolves })
      u (reached u c);
}

closure : AreClosure no_maps every_form both_files main_url urls
closure = record { each = reached; only = reaches; once = distinct }
  where
    distinct : AreDistinct urls
    distinct = (refl, (refl, (refl, tt)))

not_limit : ◌≡◌ {A = Option Status} (Some statuses.Fulfilled) (Some statuses.Limit) → ⊥
not_limit e = cc

pub clean_run : CleanRun
clean_run = record {
  clean = clean;
  deliveries = asking_both ∷ printing_b ∷ printing_c ∷ [];
  of_files = (refl, (refl, (refl, tt)));
  run = both_run;
  ends = record { ended = refl; within = not_limit };
}

pub second_first : SecondFirst
second_first other run none = order_free no_maps every_form both_files main_url false both_shown other (asking_both ∷ printing_c ∷ printing_b ∷ [])
    clean_run (refl, (refl, (refl, tt))) run none

-- what ends well no limit has stopped
not_stopped : (o : Option Limit) (state : EntryState) (e : Ending) → ending_by o [] state ≡ Some e
    → ◌≡◌ {A = Option Status} (Some statuses.Fulfilled) (Some (exit_status e)) → o ≡ None
not_stopped None state e is s = refl
not_stopped (Some limit) state e is s = absurd (not_limit (s ∙ sym (ap (option_map exit_status) is)))

pub clean_direct : SharedSetAgrees → SharedSetEnds → CleanDirect
clean_direct agrees ends = by (order_free_shown agrees ends no_maps every_form both_files main_url false (asking_both ∷ printing_b ∷ printing_c ∷ []) urls both_shown
    clean closure (refl, (refl, (refl, tt))) both_run refl not_limit)
  where
    by : ((after : World) × DirectRun no_maps every_form both_files main_url false urls after × ShowsDirect after both_shown) → CleanDirect
    by t = record {
      after = t.0;
      direct = t.1;
      shows = t.2;
      no_limit = record { few = lit≤ tt; small = lit≤ tt; live = not_stopped (stopped t.0) t.0.entry t.2.ending t.2.ends t.2.status };
    }
