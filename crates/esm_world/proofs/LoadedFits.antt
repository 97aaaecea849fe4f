-- What loading has brought are modules that can be linked and run.
use Rattle.std.proofs.Common.{◌≡◌, ◌⊎◌, inl, inr, ℕ, zero, suc, ◌+◌, ◌<◌, Bool, true, false, cond, List, [], ◌∷◌, length, Option, Some, None, Result, Ok, Err, refl, ap, subst, sym, ◌∙◌, arith}
use Rattle.std.specs.Prelude.{filter, slice_index_or, not, nat_lt, ◌||◌}
use Rattle.esm_tree.specs.Syntax.{Item}
use Rattle.esm_import_map.specs.ImportMap.{Maps}
use Rattle.esm_base.specs.declared.limits.Limit.{Limit}
use Rattle.esm_base.specs.Urls.{Text, Url, same_url, has}
use Rattle.esm_base.specs.Lists.{IsSameness}
use Rattle.esm_ast.specs.Entries.{requests_of, entries_of, entries_with, place_of}
use Rattle.esm_ast.specs.ModuleTree.{IsModuleTree}
use Rattle.esm_ast.specs.Outcome as outcomes
use Rattle.esm_ast.specs.Outcome.{OutcomeView}
use Rattle.esm_realm.specs.Records.{ModuleRecord}
use Rattle.esm_realm.proofs.Urls.{cases, same_text, own_text, or_cases, or_left, or_true}
use Rattle.esm_specifier.specs.Targets as requested
use Rattle.esm_specifier.specs.Targets.{Refusal}
use Rattle.esm_specifier.proofs.Requests.{targets_are_usable}
use Rattle.esm_values.specs.declared.errors.Fault.{Fault}
use Rattle.esm_resolve.specs.SharedSet.{SharedSetAgrees, SharedSetEnds}
use Rattle.esm_env.specs.Modules.{Modules, entries}
use Rattle.esm_loads.specs.UrlTable.{TableEntry, Failed, Broken, Module, Found, Nothing, Faulty, Script, found, built_by, script_by, targets_of, told_targets, targets_in, body_in, put_at}
use Rattle.esm_loads.specs.Loading.{Loading, is_fetching, targets}
use Rattle.esm_loads.specs.Host.{Host, with_loading}
use Rattle.esm_loads.specs.Arrival.{store_by, put_found, count_by, with_entry, bytes_of}
use Rattle.esm_loads.specs.Whole.{AreUnlinked, is_module, unlinked_modules}
use Rattle.esm_loads.proofs.Orderly.{stays_orderly, only_grows, put_other}
use Rattle.esm_loads.proofs.Whole.{stays_whole, unlinked_is_closed}
use Rattle.esm_link.specs.Link as link
use Rattle.esm_link.specs.Link.{IsLinking, targets_from}
use Rattle.esm_link.proofs.HasLinking.{has_linking}
use Rattle.esm_link.proofs.ClosedLinks.{closes_whole}
use Rattle.esm_rewriting.specs.Fits.{AreLinked}
use Rattle.esm_rewriting.proofs.Resolved.{good, resolved}
use Rattle.esm_world.specs.World.{modules_in}
use Rattle.esm_world.specs.Run.{HasModuleTree}
use Rattle.esm_world.specs.Loaded.{HasTree, FitsLoading, LoadingStaysFit, LoadedAreLinked, HasLink, LinkedStaysLinked}

-- ---- trees

abbrev HaveTrees : Loading → Type 0
HaveTrees l = (x : Url) (m : ModuleRecord) → l.entries x ≡ Some (Module m) → HasTree m

trees_on : (l m : Loading) → m.entries ≡ l.entries → HaveTrees l → HaveTrees m
trees_on l m e h x r k = h x r (sym (ap (λ (es : Url → Option TableEntry). es x) e) ∙ k)

-- each request has a target, where all resolve
LengthIs : ℕ → Result (List Url) Fault → Type 0
LengthIs n (Ok urls) = length urls ≡ n
LengthIs n (Err f) = Unit {0}

targets_length : (maps : Maps) (referrer : Url) (specifiers : List Text) → LengthIs (length specifiers) (targets_of maps referrer specifiers)
unfolding LengthIs
targets_length maps referrer specifiers = by (requested.targets_of maps referrer specifiers) refl
  where
    by : (r : Result (List Url) Refusal) → requested.targets_of maps referrer specifiers ≡ r → LengthIs (length specifiers) (told_targets referrer specifiers r)
    by (Ok urls) e = (targets_are_usable maps referrer specifiers urls e).as_many
    by (Err refusal) e = tt

-- a module that an outcome brings
Brings : Found → Type 0
Brings Nothing = Unit {0}
Brings (Faulty f) = Unit {0}
Brings (Script m) = HasTree m

script_brings : (items : List Item) (ts : Result (List Url) Fault) → IsModuleTree items → LengthIs (length (requests_of items)) ts → Brings (script_by items ts)
unfolding Brings LengthIs
script_brings items (Ok urls) t h = record { tree = t; targets = h }
script_brings items (Err f) t h = tt

built_brings : (b : Bool) (maps : Maps) (u : Url) (items : List Item) → IsModuleTree items → Brings (built_by b maps u items)
unfolding Brings
built_brings true maps u items t = script_brings items (targets_of maps u (requests_of items)) t (targets_length maps u (requests_of items))
built_brings false maps u items t = tt

found_brings : (maps : Maps) (built : List Item → Bool) (u : Url) (c : OutcomeView) → HasModuleTree c → Brings (found maps built u c)
unfolding Brings
found_brings maps built u (outcomes.Script text) t = built_brings (built text.items) maps u text.items t
found_brings maps built u (outcomes.Broken broken) t = tt
found_brings maps built u outcomes.Absent t = tt
found_brings maps built u outcomes.Failed t = tt

some_is : {A : Type 0} {x y : A} → Some x ≡ Some y → x ≡ y
some_is e = cc

entry_trees : (l : Loading) (u : Url) (e : TableEntry) → ((m : ModuleRecord) → e ≡ Module m → HasTree m) → HaveTrees l → HaveTrees (with_entry l u e)
entry_trees l u e new h x m k = by (cases (same_url u x)) k
  where
    by : (same_url u x ≡ true) ⊎ (same_url u x ≡ false) → put_at l.entries u (Some e) x ≡ Some (Module m) → HasTree m
    by (inl s) k = new m (some_is (sym (ap (λ b. cond b (Some e) (l.entries x)) s) ∙ k))
    by (inr s) k = h x m (sym (put_other l.entries u x (Some e) s) ∙ k)

put_trees : (h : Host) (u : Url) (f : Found) → Brings f → HaveTrees h.imports → HaveTrees (put_found h u f).imports
unfolding Brings
put_trees h u Nothing b t = entry_trees h.imports u Failed (λ m e. cc) t
put_trees h u (Faulty f) b t = entry_trees h.imports u _ (λ m e. cc) t
put_trees h u (Script r) b t = entry_trees h.imports u (Module r) (λ m e. let same : r ≡ m = cc in subst HasTree same b) t

store_trees : (s : Option Limit) (h : Host) (u : Url) (c : OutcomeView) → HasModuleTree c → HaveTrees h.imports → HaveTrees (store_by s h u c).imports
store_trees None h u c b t = put_trees h u (found h.imports.maps h.imports.built u c) (found_brings h.imports.maps h.imports.built u c b) t
store_trees (Some limit) h u c b t = t

fetch_trees : (b : Bool) (h : Host) (u : Url) (c : OutcomeView) → HasModuleTree c → HaveTrees h.imports → HaveTrees (store_by (count_by b h.imports (bytes_of c)).stopped (with_loading h (count_by b h.imports (bytes_of c))) u c).imports
fetch_trees true h u c t k = k
fetch_trees false h u c t k = store_trees h.imports.stopped (with_loading h (count_by false h.imports (bytes_of c))) u c t k

-- ---- an open ask

pub in_filter : (test : Url → Bool) (us : List Url) (x : Url) → has (filter test us) x ≡ true → (has us x ≡ true) × (test x ≡ true)
in_filter test [] x h = cc
in_filter test (u ∷ us) x h = by (test u) refl h (in_filter test us x)
  where
    own : test u ≡ true → (same_url x u ≡ true) ⊎ (has (filter test us) x ≡ true) → (has (filter test us) x ≡ true → (has us x ≡ true) × (test x ≡ true)) → (has (u ∷ us) x ≡ true) × (test x ≡ true)
    own e (inl s) rest = (or_left (same_url x u) (has us x) s, subst (λ v. test v ≡ true) (sym (same_text x u s)) e)
    own e (inr i) rest = let q = rest i in (or_true (same_url x u) (has us x) q.0, q.1)

    by : (b : Bool) → test u ≡ b → has (cond (test u) (u ∷ filter test us) (filter test us)) x ≡ true → (has (filter test us) x ≡ true → (has us x ≡ true) × (test x ≡ true)) → (has (u ∷ us) x ≡ true) × (test x ≡ true)
    by true e h rest = own e (or_cases (same_url x u) (has (filter test us) x) (rw e at h)) rest
    by false e h rest = let q = rest (rw e at h) in (or_true (same_url x u) (has us x) q.0, q.1)

fetching_none : (o : Option TableEntry) → is_fetching o ≡ true → o ≡ None
fetching_none None h = refl
fetching_none (Some e) h = cc

pub loading_stays_fit : LoadingStaysFit
loading_stays_fit = record {
  opening = λ maps built entry. record { orderly = stays_orderly.opening maps built entry; whole = stays_whole.opening maps built entry; trees = λ x m e. cc };
  next = λ before after f q. record {
    orderly = stays_orderly.next before after f.orderly q;
    whole = stays_whole.next before after f.whole q;
    trees = trees_on before.imports after.imports (only_grows.next before after q).entries f.trees;
  };
  begins = λ before after referrer specifier promise end f q. record {
    orderly = stays_orderly.imports before after referrer specifier promise f.orderly q.imports;
    whole = stays_whole.imports before after referrer specifier promise f.whole q.imports;
    trees = trees_on before.imports after.imports (only_grows.imports before after referrer specifier promise q.imports).entries f.trees;
  };
  fetched = λ before u c f k t. let a = in_filter (λ v. is_fetching (before.imports.entries v)) before.imports.asked u k in record {
    orderly = stays_orderly.fetched before u c f.orderly a.0;
    whole = stays_whole.fetched before u c f.whole (fetching_none (before.imports.entries u) a.1);
    trees = fetch_trees (nat_lt 16777216 (before.imports.bytes + bytes_of c)) before u c t f.trees;
  };
}

-- ---- modules that are there

module_at : (o : Option TableEntry) → is_module o ≡ true → (r : ModuleRecord) × (o ≡ Some (Module r))
module_at None h = cc
module_at (Some Failed) h = cc
module_at (Some (Broken error)) h = cc
module_at (Some (Module r)) h = (r, refl)

requests_is : (items : List Item) → (entries_of items).requests ≡ requests_of items
unfolding entries_of entries_with
requests_is items = refl

unlinked_at : (l : Loading) (ts : List Url) (k : ℕ) → AreUnlinked l ts → k < length ts → l.unlinked (slice_index_or ts k []) ≡ true
unlinked_at l [] k h lt = absurd (omega (arith, lt))
unlinked_at l (t ∷ ts) zero h lt = h.0
unlinked_at l (t ∷ ts) (suc k) h lt = unlinked_at l ts k h.1 (omega (arith, lt))

fetched_by : (o : Option TableEntry) → is_module o ≡ true → is_fetching o ≡ false
fetched_by None h = cc
fetched_by (Some e) h = refl

place_below : (us : List Url) (u : Url) → has us u ≡ true → place_of us u < length us
place_below [] u h = cc
place_below (v ∷ vs) u h = by (same_url u v) h (place_below vs u)
  where
    by : (b : Bool) → (b || has vs u) ≡ true → (has vs u ≡ true → place_of vs u < length vs) → cond (not b) (1 + place_of vs u) 0 < suc (length vs)
    by true h rest = omega arith
    by false h rest = let lt = rest h in omega (arith, lt)

place_is : (us : List Url) (u : Url) → has us u ≡ true → slice_index_or us (place_of us u) [] ≡ u
place_is [] u h = cc
place_is (v ∷ vs) u h = by (same_url u v) refl (or_cases (same_url u v) (has vs u) h) (place_is vs u)
  where
    later : slice_index_or vs (place_of vs u) [] ≡ u → slice_index_or (v ∷ vs) (1 + place_of vs u) [] ≡ u
    later e = let one : 1 + place_of vs u ≡ suc (place_of vs u) = omega arith in subst (λ k. slice_index_or (v ∷ vs) k [] ≡ u) (sym one) e

    by : (b : Bool) → same_url u v ≡ b → (same_url u v ≡ true) ⊎ (has vs u ≡ true) → (has vs u ≡ true → slice_index_or vs (place_of vs u) [] ≡ u) → slice_index_or (v ∷ vs) (cond (not (same_url u v)) (1 + place_of vs u) 0) [] ≡ u
    by true e k rest = rw e (sym (same_text u v e))
    by false e (inl s) rest = cc
    by false e (inr k) rest = rw e (later (rest k))

unlinked_asked : (l : Loading) → FitsLoading l → (m : Url) → l.unlinked m ≡ true → has l.asked m ≡ true
unlinked_asked l f m h = f.orderly.fetched m (fetched_by (l.entries m) (f.whole.loaded m h).stands)

pub loaded_are_linked : LoadedAreLinked
loaded_are_linked l f = record {
  trees = λ m h. let r = module_at (l.entries m) (f.whole.loaded m h).stands in subst (λ o. IsModuleTree (body_in o)) (sym r.1) (f.trees m r.0 r.1).tree;
  targets = λ m request h lt.
      let r = module_at (l.entries m) (f.whole.loaded m h).stands in
      let size : length (targets_in (l.entries m)) ≡ length (entries_of (body_in (l.entries m))).requests =
      subst (λ o. length (targets_in o) ≡ length (entries_of (body_in o)).requests) (sym r.1) ((f.trees m r.0 r.1).targets ∙ sym (ap (λ (rs : List Text). length rs) (requests_is r.0.body))) in
      unlinked_at l (targets l m) request (f.whole.loaded m h).targets_are (omega (arith, lt, size));
  below = λ m h. place_below l.asked m (unlinked_asked l f m h);
  named = λ m h. place_is l.asked m (unlinked_asked l f m h);
}

-- ---- linking

from_targets : (g : Modules Url) (x t : Url) (P : Url → Type 0) (i : ℕ) (rs : List Text) → ((k : ℕ) → k < length rs → P (g.target x (i + k))) → has (targets_from g x i rs) t ≡ true → P t
from_targets g x t P i [] h k = cc
from_targets g x t P i (r ∷ rs) h k = by (or_cases (same_url t (g.target x i)) (has (targets_from g x (suc i) rs) t) k) (from_targets g x t P (suc i) rs (λ j lt. later j (h (suc j) (omega (arith, lt)))))
  where
    later : (j : ℕ) → P (g.target x (i + suc j)) → P (g.target x (suc i + j))
    later j p = let e : i + suc j ≡ suc i + j = omega arith in subst (λ n. P (g.target x n)) e p

    first : P (g.target x i)
    first = let e : i + 0 ≡ i = omega arith in subst (λ n. P (g.target x n)) e (h 0 (omega arith))

    by : (same_url t (g.target x i) ≡ true) ⊎ (has (targets_from g x (suc i) rs) t ≡ true) → (has (targets_from g x (suc i) rs) t ≡ true → P t) → P t
    by (inl s) rest = subst P (sym (same_text t (g.target x i) s)) first
    by (inr j) rest = rest j

sameness : IsSameness same_url
sameness = record { own = own_text; equal = same_text }

pub has_link : SharedSetAgrees → SharedSetEnds → HasLink
has_link agrees ends = record {
  root = λ l s start f e. unlinked_is_closed.only l start (unlinked_is_closed.root l s start f.orderly f.whole e);
  links = λ l closed start f h.
      let g = modules_in l in
      let linked = loaded_are_linked l f in
      has_linking Url same_url g (unlinked_modules l) closed start sameness
      (λ x name inside. let r = resolved g l.unlinked linked agrees ends (g.number x) name (good g l.unlinked linked x (unlinked_is_closed.only l x inside)) in (r.0, r.1.0))
      (λ x t inside k. from_targets g x t (λ u. has (unlinked_modules l) u ≡ true) 0 (entries g x).requests
      (λ j lt. let e : 0 + j ≡ j = omega arith in subst (λ n. has (unlinked_modules l) (g.target x n) ≡ true) (sym e) (unlinked_is_closed.all l (g.target x j) f.orderly f.whole (linked.targets x j (unlinked_is_closed.only l x inside) lt))) k)
      (unlinked_is_closed.all l start f.orderly f.whole h);
}

-- ---- what is linked

target_among : (g : Modules Url) (x : Url) (i k : ℕ) (rs : List Text) → k < length rs → has (targets_from g x i rs) (g.target x (i + k)) ≡ true
target_among g x i k [] lt = absurd (omega (arith, lt))
target_among g x i zero (r ∷ rs) lt =
    let e : i + 0 ≡ i = omega arith in
    subst (λ n. has (targets_from g x i (r ∷ rs)) (g.target x n) ≡ true) (sym e) (or_left (same_url (g.target x i) (g.target x i)) (has (targets_from g x (suc i) rs) (g.target x i)) (own_text (g.target x i)))
target_among g x i (suc k) (r ∷ rs) lt =
    let e : suc i + k ≡ i + suc k = omega arith in
    let later = target_among g x (suc i) k rs (omega (arith, lt)) in
    subst (λ n. has (targets_from g x i (r ∷ rs)) (g.target x n) ≡ true) e (or_true (same_url (g.target x (suc i + k)) (g.target x i)) (has (targets_from g x (suc i) rs) (g.target x (suc i + k))) later)

-- what is closed under requests, of modules that are Unlinked, are modules in which bodies can run
closed_linked : (l : Loading) (us : List Url) → FitsLoading l → ((u : Url) → has us u ≡ true → l.unlinked u ≡ true) → ((x t : Url) → has us x ≡ true → has (link.targets (modules_in l) x) t ≡ true → has us t ≡ true) → AreLinked (modules_in l) (has us)
closed_linked l us f among whole =
    let linked = loaded_are_linked l f in
    record {
      trees = λ m h. linked.trees m (among m h);
      targets = λ m request h lt.
          let e : 0 + request ≡ request = omega arith in
          whole m ((modules_in l).target m request) h (subst (λ n. has (link.targets (modules_in l) m) ((modules_in l).target m n) ≡ true) e (target_among (modules_in l) m 0 request (entries (modules_in l) m).requests lt));
      below = λ m h. linked.below m (among m h);
      named = λ m h. linked.named m (among m h);
    }

-- and the other way round
linked_closed : (l : Loading) (us : List Url) → AreLinked (modules_in l) (has us) → (x t : Url) → has us x ≡ true → has (link.targets (modules_in l) x) t ≡ true → has us t ≡ true
linked_closed l us linked x t h k = from_targets (modules_in l) x t (λ u. has us u ≡ true) 0 (entries (modules_in l) x).requests
    (λ j lt. let e : 0 + j ≡ j = omega arith in subst (λ n. has us ((modules_in l).target x n) ≡ true) (sym e) (linked.targets x j h lt)) k

pub linked_stays_linked : LinkedStaysLinked
linked_stays_linked = record {
  links = λ l closed after start fault f h linked among p.
      let all = closed_linked_modules l f in
      let c = (closes_whole Url).closed same_url (modules_in l) (unlinked_modules l) closed after start fault sameness all
      (unlinked_is_closed.all l start f.orderly f.whole h) (linked_closed l closed linked)
      (λ u k. unlinked_is_closed.all l u f.orderly f.whole (among u k)) p in
      let fine : (u : Url) → has after u ≡ true → l.unlinked u ≡ true = (λ u k. unlinked_is_closed.only l u (c.2 u k)) in
      record { modules = closed_linked l after f fine (λ x t i k. c.0 x t i k); unlinked = fine; stays = c.1 };
  root = λ l closed after start p. (closes_whole Url).root same_url (modules_in l) closed after start sameness p;
}
  where
    closed_linked_modules : (l : Loading) → FitsLoading l → (x t : Url) → has (unlinked_modules l) x ≡ true → has (link.targets (modules_in l) x) t ≡ true → has (unlinked_modules l) t ≡ true
    closed_linked_modules l f x t inside k =
        let linked = loaded_are_linked l f in
        from_targets (modules_in l) x t (λ u. has (unlinked_modules l) u ≡ true) 0 (entries (modules_in l) x).requests
        (λ j lt. let e : 0 + j ≡ j = omega arith in subst (λ n. has (unlinked_modules l) ((modules_in l).target x n) ≡ true) (sym e) (unlinked_is_closed.all l ((modules_in l).target x j) f.orderly f.whole (linked.targets x j (unlinked_is_closed.only l x inside) lt))) k
