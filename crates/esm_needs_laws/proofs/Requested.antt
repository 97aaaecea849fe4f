-- The requests of modules as evaluation sees them are those of the URL table, and stay so where a fetch ends.
use Rattle.std.proofs.Common.{◌≡◌, ℕ, zero, suc, ◌+◌, ◌<◌, true, false, List, [], ◌∷◌, ◌++◌, length, Option, Some, None, refl, ap, subst, sym, ◌∙◌, arith}
use Rattle.std.specs.List.{AllByRecursion}
use Rattle.esm_tree.specs.Syntax.{Item}
use Rattle.esm_base.specs.Urls.{Text, Url, has, same_url}
use Rattle.esm_base.specs.Lists.{is_in}
use Rattle.esm_realm.specs.Records.{ModuleRecord}
use Rattle.esm_realm.proofs.Urls.{or_cases, same_text}
use Rattle.esm_realm.proofs.Lists.{either}
use Rattle.esm_ast.specs.Entries.{entries_of, entries_with, requests_of, requests_after}
use Rattle.esm_env.specs.Modules.{Modules, entries}
use Rattle.esm_link.specs.Link as link
use Rattle.esm_loads.specs.UrlTable.{TableEntry, Failed, Broken, Module, Entries, targets_in, body_in}
use Rattle.esm_loads.specs.LoadsView.{url_at}
use Rattle.esm_loads.specs.Loading.{Loading, targets, body}
use Rattle.esm_rewriting.specs.State.{Begins}
use Rattle.esm_world.specs.World.{modules_in}
use Rattle.esm_world.specs.Fits.{IsLinkedModule, AreModules, FitEvent}
use Rattle.esm_world.specs.Loaded.{HasTree}
use Rattle.esm_needs_laws.proofs.Begun.{NeedsOf, NeedsBefore}
use Rattle.esm_needs_laws.proofs.Shape.{Leads, itself, step}
use Rattle.esm_needs_laws.proofs.Told.{Events}

-- by a table
abbrev pub to_of : Entries → Url → List Url
to_of es x = targets_in (es x)

abbrev pub HaveTrees : Entries → Type 0
HaveTrees es = (x : Url) (m : ModuleRecord) → es x ≡ Some (Module m) → HasTree m

requests_is : (items : List Item) → (entries_of items).requests ≡ requests_of items
unfolding entries_of entries_with
requests_is items = refl

requests_none : ◌≡◌ {A = List Text} (requests_of []) []
unfolding requests_after
requests_none = refl

-- ---- what evaluation sees

targets_from_are : (g : Modules Url) (x : Url) (i : ℕ) (rs : List Text) (ts : List Url) → length rs ≡ length ts → ((j : ℕ) → g.target x (i + j) ≡ url_at ts j) → link.targets_from g x i rs ≡ ts
targets_from_are g x i [] [] e f = refl
targets_from_are g x i [] (t ∷ ts) e f = absurd (omega (arith, e))
targets_from_are g x i (r ∷ rs) [] e f = absurd (omega (arith, e))
targets_from_are g x i (r ∷ rs) (t ∷ ts) e f =
    let here : g.target x i ≡ t = subst (λ n. g.target x n ≡ t) (omega arith) (f 0) in
    let rest = targets_from_are g x (suc i) rs ts (omega (arith, e)) (λ j. subst (λ n. g.target x n ≡ url_at ts j) (omega arith) (f (suc j))) in
    λ n. here n ∷ rest n

as_many : (o : Option TableEntry) → ((m : ModuleRecord) → o ≡ Some (Module m) → HasTree m) → length (requests_of (body_in o)) ≡ length (targets_in o)
as_many None f = ap (λ (rs : List Text). length rs) requests_none
as_many (Some Failed) f = ap (λ (rs : List Text). length rs) requests_none
as_many (Some (Broken error)) f = ap (λ (rs : List Text). length rs) requests_none
as_many (Some (Module m)) f = sym (f m refl).targets

pub targets_are : (l : Loading) (es : Entries) → l.entries ≡ es → HaveTrees es → (x : Url) → link.targets (modules_in l) x ≡ to_of es x
targets_are l es e trees x =
    targets_from_are (modules_in l) x 0 (entries (modules_in l) x).requests (targets l x)
    (ap (λ (rs : List Text). length rs) (requests_is (body l x)) ∙ as_many (l.entries x) (λ m d. trees x m (ap (λ (f : Entries). f x) (sym e) ∙ d)))
    (λ j. ap (λ n. url_at (targets l x) n) (omega arith))
    ∙ ap (λ (f : Entries). targets_in (f x)) e

-- ---- modules that are linked

has_place : (ts : List Url) (t : Url) → has ts t ≡ true → (k : ℕ) × (k < length ts) × (url_at ts k ≡ t)
has_place [] t h = absurd (let n : false ≡ true = h in cc)
has_place (u ∷ us) t h = either (or_cases (same_url t u) (has us t) h) (λ k. (zero, omega arith, sym (same_text t u k)))
    (λ k. let r = has_place us t k in (suc r.0, next r.0 r.1, r.2))
  where
    next : (k : ℕ) → k < length us → suc k < length (u ∷ us)
    next k lt = omega (arith, lt)

-- what a linked module requests is linked
pub next_linked : (linked : List Url) (es : Entries) → AreModules linked es → HaveTrees es → (x t : Url) → IsLinkedModule linked es x → has (to_of es x) t ≡ true → IsLinkedModule linked es t
next_linked linked es m trees x t h k =
    let r = has_place (to_of es x) t k in
    let many = as_many (es x) (trees x) in
    subst (λ u. IsLinkedModule linked es u) r.2 (m.targets x r.0 h (subst (λ n. r.0 < n) (sym many) r.1))

-- ---- more entries, where those of linked modules are the same

module _ (linked : List Url) (es fs : Entries) (m : AreModules linked es) (trees : HaveTrees es) (agree : (x : Url) → IsLinkedModule linked es x → fs x ≡ es x) where
  pub same_targets : (x : Url) → IsLinkedModule linked es x → to_of fs x ≡ to_of es x
  same_targets x h = ap (λ o. targets_in o) (agree x h)

  leads_back : {t y : Url} → IsLinkedModule linked es t → Leads same_url (to_of fs) t y → Leads same_url (to_of es) t y
  leads_back h itself = itself
  leads_back {t} h (step {t = u} k p) =
      let old : is_in same_url (to_of es t) u ≡ true = subst (λ ts. is_in same_url ts u ≡ true) (same_targets t h) k in
      step old (leads_back (next_linked linked es m trees t u h old) p)

  leads_on : {t y : Url} → IsLinkedModule linked es t → Leads same_url (to_of es) t y → Leads same_url (to_of fs) t y
  leads_on h itself = itself
  leads_on {t} h (step {t = u} k p) = step (subst (λ ts. is_in same_url ts u ≡ true) (sym (same_targets t h)) k) (leads_on (next_linked linked es m trees t u h k) p)

  needs_on : (past : Events) (x : Url) → IsLinkedModule linked es x → NeedsOf (to_of es) past x → NeedsOf (to_of fs) past x
  needs_on past x h n t y k apart p =
      let old : is_in same_url (to_of es x) t ≡ true = subst (λ ts. is_in same_url ts t ≡ true) (same_targets x h) k in
      let there = next_linked linked es m trees x t h old in
      n t y old (λ q. apart (leads_on there q)) (leads_back there p)

  fit_start : (events before rest : Events) (x : Url) → AllByRecursion (FitEvent linked es) events → events ≡ before ++ Begins x ∷ rest → IsLinkedModule linked es x
  fit_start events before rest x h e = at before (subst (λ (xs : Events). AllByRecursion (FitEvent linked es) xs) e h)
    where
      at : (before : Events) → AllByRecursion (FitEvent linked es) (before ++ Begins x ∷ rest) → IsLinkedModule linked es x
      at [] h = h.0
      at (b ∷ bs) h = at bs h.1

  pub needs_grown : (events : Events) → AllByRecursion (FitEvent linked es) events → NeedsBefore (to_of es) events → NeedsBefore (to_of fs) events
  needs_grown events fit h x before rest e = needs_on before x (fit_start events before rest x fit e) (h x before rest e)
