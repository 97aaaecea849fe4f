-- The worked examples of linking.
use Rattle.std.proofs.Common.{◌≡◌, ◌⊎◌, ℕ, zero, suc, true, List, [], ◌∷◌, Some, None, Contains, refl, sym, ap, subst, ◌∙◌, inl, inr, arith, nat_eq}
use Rattle.std.specs.Prelude.{codes}
use Rattle.esm_realm.specs.Walk.{Mark, Passes}
use Rattle.esm_realm.specs.Walk.Mark.{Enter, Pass, Leave}
use Rattle.esm_realm.specs.Walk.Visits.{known, fresh}
use Rattle.esm_realm.specs.Walk.Passes.{all, next}
use Rattle.esm_realm.specs.Components.{closes}
use Rattle.esm_tree.specs.declared.node.Wanted.TheVariants.{Named}
use Rattle.esm_ast.specs.Entries.{entries_of, entries_with, request_of, with_text, add_request, requests_after, imports_of, all_imports, exports_of, all_exports, locals_of, indirects_of, stars_of}
use Rattle.esm_ast.specs.declared.entries.ImportEntry.{ImportEntry}
use Rattle.esm_ast.specs.declared.entries.IndirectExport.{IndirectExport}
use Rattle.esm_resolve.specs.Resolution.{pair_of, end_of, next_of, Reaches}
use Rattle.esm_resolve.specs.declared.pair.Pair.{Pair}
use Rattle.esm_resolve.specs.declared.graph.Resolution.TheVariants.{Missing}
use Rattle.esm_env.specs.Modules.{entries, graph, Exports}
use Rattle.esm_link.specs.Faults.{ExportFault, ImportFault, FirstFault}
use Rattle.esm_link.specs.Link.{targets}
use Rattle.esm_link.specs.Link.LinksMarks.{enters, passes, fails, component}
use Rattle.esm_link.specs.Examples.{unbound, unbound_x, needy, needy_n, UnboundCycle, ClosedBeforeFault}

no_member : {A : Type 0} (x : A) → Contains [] x → ⊥
no_member x c = omega (arith, c.1)

one_member : {A : Type 0} (y x : A) → Contains (y ∷ []) x → y ≡ x
one_member y x (zero, below, is) = is
one_member y x (suc k, below, is) = absurd (omega (arith, below))

-- ---- an export that comes back to itself

abbrev at : ℕ → Pair
at m = pair_of m (codes "x")

abbrev from_a : IndirectExport
from_a = record { name = codes "x"; request = 0; wanted = Named (codes "x") }

u_targets_0 : targets unbound 0 ≡ 1 ∷ []
unfolding entries_of entries_with request_of with_text add_request requests_after imports_of all_imports exports_of all_exports locals_of indirects_of stars_of
u_targets_0 = refl

u_targets_1 : targets unbound 1 ≡ 2 ∷ []
unfolding entries_of entries_with request_of with_text add_request requests_after imports_of all_imports exports_of all_exports locals_of indirects_of stars_of
u_targets_1 = refl

u_targets_2 : targets unbound 2 ≡ 1 ∷ []
unfolding entries_of entries_with request_of with_text add_request requests_after imports_of all_imports exports_of all_exports locals_of indirects_of stars_of
u_targets_2 = refl

u_indirects : (entries unbound 2).indirects ≡ from_a ∷ []
unfolding entries_of entries_with request_of with_text add_request requests_after imports_of all_imports exports_of all_exports locals_of indirects_of stars_of
u_indirects = refl

u_next_1 : next_of (graph unbound) (at 1) ≡ at 2 ∷ []
unfolding entries_of entries_with request_of with_text add_request requests_after imports_of all_imports exports_of all_exports locals_of indirects_of stars_of
u_next_1 = refl

u_next_2 : next_of (graph unbound) (at 2) ≡ at 1 ∷ []
unfolding entries_of entries_with request_of with_text add_request requests_after imports_of all_imports exports_of all_exports locals_of indirects_of stars_of
u_next_2 = refl

u_end_1 : end_of (graph unbound) (at 1) ≡ None
unfolding entries_of entries_with request_of with_text add_request requests_after imports_of all_imports exports_of all_exports locals_of indirects_of stars_of
u_end_1 = refl

u_end_2 : end_of (graph unbound) (at 2) ≡ None
unfolding entries_of entries_with request_of with_text add_request requests_after imports_of all_imports exports_of all_exports locals_of indirects_of stars_of
u_end_2 = refl

-- only these two pairs are reached
u_reached : {p : Pair} → Reaches (graph unbound) (at 2) p → (p ≡ at 1) ⊎ (p ≡ at 2)
u_reached Reaches.itself = inr refl
u_reached (Reaches.onward {p = p} {q = q} r c) = by (u_reached r)
  where
    by : (p ≡ at 1) ⊎ (p ≡ at 2) → (q ≡ at 1) ⊎ (q ≡ at 2)
    by (inl e) = inr (sym (one_member (at 2) q (subst (λ ps. Contains ps q) (ap (next_of (graph unbound)) e ∙ u_next_1) c)))
    by (inr e) = inl (sym (one_member (at 1) q (subst (λ ps. Contains ps q) (ap (next_of (graph unbound)) e ∙ u_next_2) c)))

u_missing : Exports unbound 2 (codes "x") Missing
u_missing e (p, r, is) = by (u_reached r)
  where
    by : (p ≡ at 1) ⊎ (p ≡ at 2) → ⊥
    by (inl h) = let k = sym (ap (end_of (graph unbound)) h ∙ u_end_1) ∙ is in cc
    by (inr h) = let k = sym (ap (end_of (graph unbound)) h ∙ u_end_2) ∙ is in cc

u_fault : FirstFault unbound 2 (Some unbound_x)
u_fault = FirstFault.of_exports (subst (λ es. ExportFault unbound 2 es (Some unbound_x)) (sym u_indirects) (ExportFault.found {e = from_a} Missing u_missing refl))

u_passes : {seen after : List ℕ} {x : ℕ} {ts : List ℕ} {ms : List (Mark ℕ)} → targets unbound x ≡ ts → Passes nat_eq (targets unbound) seen x 0 ts ms after → Passes nat_eq (targets unbound) seen x 0 (targets unbound x) ms after
u_passes {seen} {after} {x} {ms = ms} e p = subst (λ ts. Passes nat_eq (targets unbound) seen x 0 ts ms after) (sym e) p

pub unbound_cycle : UnboundCycle
unbound_cycle = record {
  linking = record {
    marks = Enter 0 ∷ Enter 1 ∷ Enter 2 ∷ Pass 2 0 ∷ Leave 2 ∷ Pass 1 0 ∷ Leave 1 ∷ Pass 0 0 ∷ Leave 0 ∷ [];
    walk = (_, fresh refl (u_passes u_targets_0 (next (fresh refl (u_passes u_targets_1 (next (fresh refl (u_passes u_targets_2 (next (known refl) all))) all))) all)));
    links = enters (enters (enters (passes (fails u_fault))));
  };
  text = refl;
}

-- ---- an import of what isn't exported

abbrev import_n : ImportEntry
import_n = record { request = 0; wanted = Named (codes "n"); local = codes "l" }

n_targets_0 : targets needy 0 ≡ 1 ∷ []
unfolding entries_of entries_with request_of with_text add_request requests_after imports_of all_imports exports_of all_exports locals_of indirects_of stars_of
n_targets_0 = refl

n_targets_1 : targets needy 1 ≡ []
unfolding entries_of entries_with request_of with_text add_request requests_after imports_of all_imports exports_of all_exports locals_of indirects_of stars_of
n_targets_1 = refl

n_closes : closes nat_eq (targets needy) (0 ∷ 1 ∷ []) 1 ≡ true
unfolding entries_of entries_with request_of with_text add_request requests_after imports_of all_imports exports_of all_exports locals_of indirects_of stars_of
n_closes = refl

n_imports_0 : (entries needy 0).imports ≡ import_n ∷ []
unfolding entries_of entries_with request_of with_text add_request requests_after imports_of all_imports exports_of all_exports locals_of indirects_of stars_of
n_imports_0 = refl

n_indirects_0 : (entries needy 0).indirects ≡ []
unfolding entries_of entries_with request_of with_text add_request requests_after imports_of all_imports exports_of all_exports locals_of indirects_of stars_of
n_indirects_0 = refl

n_imports_1 : (entries needy 1).imports ≡ []
unfolding entries_of entries_with request_of with_text add_request requests_after imports_of all_imports exports_of all_exports locals_of indirects_of stars_of
n_imports_1 = refl

n_indirects_1 : (entries needy 1).indirects ≡ []
unfolding entries_of entries_with request_of with_text add_request requests_after imports_of all_imports exports_of all_exports locals_of indirects_of stars_of
n_indirects_1 = refl

n_next : next_of (graph needy) (pair_of 1 (codes "n")) ≡ []
unfolding entries_of entries_with request_of with_text add_request requests_after imports_of all_imports exports_of all_exports locals_of indirects_of stars_of
n_next = refl

n_end : end_of (graph needy) (pair_of 1 (codes "n")) ≡ None
unfolding entries_of entries_with request_of with_text add_request requests_after imports_of all_imports exports_of all_exports locals_of indirects_of stars_of
n_end = refl

n_reached : {p : Pair} → Reaches (graph needy) (pair_of 1 (codes "n")) p → p ≡ pair_of 1 (codes "n")
n_reached Reaches.itself = refl
n_reached (Reaches.onward {p = p} {q = q} r c) = absurd (no_member q (subst (λ ps. Contains ps q) (ap (next_of (graph needy)) (n_reached r) ∙ n_next) c))

n_missing : Exports needy 1 (codes "n") Missing
n_missing e (p, r, is) = let k = sym (ap (end_of (graph needy)) (n_reached r) ∙ n_end) ∙ is in cc

no_exports : (m : ℕ) → (entries needy m).indirects ≡ [] → ExportFault needy m (entries needy m).indirects None
no_exports m e = subst (λ es. ExportFault needy m es None) (sym e) ExportFault.none

n_fault : FirstFault needy 0 (Some needy_n)
n_fault = FirstFault.of_imports (no_exports 0 n_indirects_0) (subst (λ es. ImportFault needy 0 es (Some needy_n)) (sym n_imports_0) (ImportFault.found {e = import_n} (codes "n") Missing refl n_missing refl))

n_fine : FirstFault needy 1 None
n_fine = FirstFault.of_imports (no_exports 1 n_indirects_1) (subst (λ es. ImportFault needy 1 es None) (sym n_imports_1) ImportFault.none)

n_passes : {seen after : List ℕ} {x : ℕ} {ts : List ℕ} {ms : List (Mark ℕ)} → targets needy x ≡ ts → Passes nat_eq (targets needy) seen x 0 ts ms after → Passes nat_eq (targets needy) seen x 0 (targets needy x) ms after
n_passes {seen} {after} {x} {ms = ms} e p = subst (λ ts. Passes nat_eq (targets needy) seen x 0 ts ms after) (sym e) p

pub closed_before_fault : ClosedBeforeFault
closed_before_fault = record {
  linking = record {
    marks = Enter 0 ∷ Enter 1 ∷ Leave 1 ∷ Pass 0 0 ∷ Leave 0 ∷ [];
    walk = (_, fresh refl (n_passes n_targets_0 (next (fresh refl (n_passes n_targets_1 all)) all)));
    links = enters (enters (component n_fine n_closes (passes (fails n_fault))));
  };
  text = refl;
}
