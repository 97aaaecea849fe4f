-- The modules of a closure under names of their own: they are those of each loading that has these, in whatever order they were asked.
use Rattle.std.proofs.Common.{◌≡◌, ℕ, zero, suc, ◌<◌, Bool, true, false, List, [], ◌∷◌, length, Option, Some, Contains, refl, ap, subst, sym, ◌∙◌, arith}
use Rattle.std.specs.Prelude.{Result, Ok, Err}
use Rattle.std.specs.Option.{unwrap_or}
use Rattle.esm_base.specs.Urls.{Text, Url, has, same_url}
use Rattle.esm_tree.specs.Syntax.{Item}
use Rattle.esm_import_map.specs.ImportMap.{Maps}
use Rattle.esm_ast.specs.Deliveries.{Files}
use Rattle.esm_ast.specs.Entries.{place_of, entries_of, entries_with, requests_of}
use Rattle.esm_ast.specs.ModuleTree.{IsModuleTree}
use Rattle.esm_ast.specs.declared.entries.IndirectExport.{IndirectExport}
use Rattle.esm_ast.proofs.Requests.{names_requests}
use Rattle.std.proofs.lemmas.List.Elements.{All-contains}
use Rattle.esm_specifier.specs.Targets.{Refusal}
use Rattle.esm_specifier.specs.Targets as requested
use Rattle.esm_specifier.proofs.Requests.{targets_are_usable}
use Rattle.esm_resolve.specs.Graph.{IsReached}
use Rattle.esm_env.specs.Modules.{Modules, entries, graph}
use Rattle.esm_env.specs.Naming.{AreNamed}
use Rattle.esm_loads.specs.UrlTable.{TableEntry, targets_in, body_in, targets_of, told_targets}
use Rattle.esm_loads.specs.LoadsView.{url_at}
use Rattle.esm_loads.specs.Loading.{Loading}
use Rattle.esm_rewriting.specs.Fits.{AreLinked}
use Rattle.esm_realm.proofs.Urls.{own_text, or_left, or_true}
use Rattle.esm_world.specs.ImportCalls.{holds_import}
use Rattle.esm_world.specs.World.{modules_in}
use Rattle.esm_world.specs.Direct.{itself, requested as requests, IsClean, AreClosure}
use Rattle.esm_world.proofs.FitLists.{place_below, place_names}
use Rattle.esm_order_laws.proofs.Lists.{Alike, number, number_is, url_is, apart}
use Rattle.esm_realm.specs.Records.{ModuleRecord}
use Rattle.esm_loads.specs.UrlTable.{Module, found, built_by, script_by}
use Rattle.esm_loads.specs.UrlTable.{Found as founds}
use Rattle.esm_ast.specs.Outcome.{Script}
use Rattle.esm_world.specs.Direct.{Closure, entry_by, entry_found}
use Rattle.esm_order_laws.proofs.LoadPhase.{file}
use Rattle.esm_direct_laws.proofs.Members.{Member, member, member_or, member_at, names}

has_at : (ts : List Url) (i : ℕ) → i < length ts → has ts (url_at ts i) ≡ true
has_at [] i lt = absurd (omega (arith, lt))
has_at (t ∷ ts) zero lt = or_left (same_url t t) (has ts t) (own_text t)
has_at (t ∷ ts) (suc i) lt = or_true (same_url (url_at ts i) t) (has ts (url_at ts i)) (has_at ts i (omega (arith, lt)))

requests_is : (items : List Item) → (entries_of items).requests ≡ requests_of items
unfolding entries_of entries_with
requests_is items = refl

-- each request has a target, where all resolve
as_many : (maps : Maps) (referrer : Url) (specifiers : List Text) (urls : List Url) → targets_of maps referrer specifiers ≡ Ok urls → length urls ≡ length specifiers
as_many maps referrer specifiers urls e = by (requested.targets_of maps referrer specifiers) refl e
  where
    by : (r : Result (List Url) Refusal) → requested.targets_of maps referrer specifiers ≡ r → told_targets referrer specifiers r ≡ Ok urls → length urls ≡ length specifiers
    by (Ok us) k h = let same : us ≡ urls = cc in subst (λ vs. length vs ≡ length specifiers) same ((targets_are_usable maps referrer specifiers us k).as_many)
    by (Err refusal) k h = cc

module _ (maps : Maps) (built : List Item → Bool) (files : Files) (entry : Url) (clean : IsClean maps built files entry)
    (xs : List Url) (closure : AreClosure maps built files entry xs) where
  abbrev pub M : Type 0
  M = Member xs

  abbrev pub first : M
  first = member entry (closure.each entry itself)

  -- a file of the closure is a module without import() whose requests resolve
  record IsFile (u : Url) : Type 0 where
    pub module_is : ModuleRecord
    pub entry_is : file maps built files entry clean u ≡ Some (Module module_is)
    pub quiet : holds_import module_is.body ≡ false
    pub tree : IsModuleTree module_is.body
    pub resolves : targets_of maps u (requests_of module_is.body) ≡ Ok module_is.targets

  is_file : (u : Url) → Closure maps built files entry u → IsFile u
  is_file u h =
      let f = clean.files_are u h in
      let m : ModuleRecord = record { body = f.text.items; targets = f.urls } in
      let is : found maps built u (Script f.text) ≡ founds.Script m = ap (λ b. built_by b maps u f.text.items) f.can_run ∙ ap (script_by f.text.items) f.resolves in
      record {
        module_is = m;
        entry_is = ap (entry_by maps built files u) f.file ∙ ap (entry_found maps built files) is;
        quiet = f.no_import;
        tree = f.tree;
        resolves = f.resolves;
      }

  file_of : (m : M) → IsFile m.url
  file_of m = is_file m.url (closure.only m.url m.listed)

  -- what stands under a member
  abbrev pub entry_of : M → Option TableEntry
  entry_of m = file maps built files entry clean m.url

  -- the module of a request
  abbrev pub to : M → ℕ → M
  to m i = member_or xs first (url_at (targets_in (entry_of m)) i)

  abbrev pub member_modules : Modules M
  member_modules = record {
    url = λ m. m.url;
    tree = λ m. body_in (entry_of m);
    target = to;
    size = length xs;
    number = λ m. place_of xs m.url;
    named = λ n. member_or xs first (url_at xs n);
  }

  abbrev g : Modules M
  g = member_modules

  -- ---- targets

  long_targets : (m : M) → length (targets_in (entry_of m)) ≡ length (entries g m).requests
  long_targets m =
      let f = file_of m in
      let items = f.module_is.body in
      ap (λ o. length (targets_in o)) f.entry_is ∙ as_many maps m.url (requests_of items) f.module_is.targets f.resolves ∙ sym (ap (λ (rs : List Text). length rs) (requests_is items))
      ∙ sym (ap (λ o. length (entries_of (body_in o)).requests) f.entry_is)

  target_url : (m : M) (i : ℕ) → i < length (entries g m).requests → (to m i).url ≡ url_at (targets_in (entry_of m)) i
  target_url m i lt =
      let long = long_targets m in
      let t = url_at (targets_in (entry_of m)) i in
      member_at xs first t (closure.each t (requests (closure.only m.url m.listed) (has_at (targets_in (entry_of m)) i (omega (arith, lt, long)))))

  -- ---- numbers

  named_is : (m : M) → g.named (g.number m) ≡ m
  named_is m = ap (λ u. member_or xs first u) (place_names xs m.url m.listed) ∙ ap (λ o. unwrap_or o first) ((names xs).back m)

  tree_is : (m : M) → IsModuleTree (g.tree m)
  tree_is m = subst (λ o. IsModuleTree (body_in o)) (sym (file_of m).entry_is) (file_of m).tree

  -- bodies can run in them
  pub are_linked : AreLinked g (λ m. true)
  are_linked = record {
    trees = λ m k. tree_is m;
    targets = λ m request k lt. refl;
    below = λ m k. place_below xs m.url m.listed;
    named = λ m k. named_is m;
  }

  pub quiet_trees : (m : M) → holds_import (g.tree m) ≡ false
  quiet_trees m = subst (λ o. holds_import (body_in o) ≡ false) (sym (file_of m).entry_is) (file_of m).quiet

  -- ---- a loading that has these modules

  pub record HasModules (l : Loading) : Type 0 where
    pub entries_are : (u : Url) → has xs u ≡ true → l.entries u ≡ file maps built files entry clean u
    pub alike : Alike xs l.asked
    pub long : length l.asked ≡ length xs

  module _ (l : Loading) (h : HasModules l) where
    abbrev k : Modules Url
    k = modules_in l

    abbrev num : ℕ → ℕ
    num n = number xs l.asked h.alike h.long n

    -- what is reached is the place of a member
    reached : (m : M) {x : ℕ} → IsReached (graph g) (g.number m) x → (v : M) × (x ≡ place_of xs v.url)
    reached m IsReached.itself = (m, refl)
    reached m (IsReached.by_name {x = x} {e = e} r c) = (g.target (g.named x) e.request, refl)
    reached m (IsReached.by_star {x = x} {r = s} r c) = (g.target (g.named x) s, refl)

    -- the member at a place that is reached
    at_member : (m : M) {x : ℕ} → IsReached (graph g) (g.number m) x → url_at l.asked (num x) ≡ (g.named x).url
    at_member m r =
        let v = reached m r in
        ap (λ n. url_at l.asked (num n)) v.1 ∙ ap (url_at l.asked) (number_is xs l.asked h.alike h.long v.0.url) ∙ url_is xs l.asked h.alike h.long v.0.url
        ∙ place_names xs v.0.url v.0.listed ∙ ap (λ (x : M). x.url) (sym (ap g.named v.1 ∙ named_is v.0))

    entries_same : (m : M) → entries k m.url ≡ entries g m
    entries_same m = ap (λ o. entries_of (body_in o)) (h.entries_are m.url m.listed)

    target_same : (m : M) (i : ℕ) → i < length (entries g m).requests → k.target m.url i ≡ (g.target m i).url
    target_same m i lt = ap (λ o. url_at (targets_in o) i) (h.entries_are m.url m.listed) ∙ sym (target_url m i lt)

    number_target : (m : M) {x : ℕ} → IsReached (graph g) (g.number m) x → (i : ℕ) → i < length (entries g (g.named x)).requests → (graph k).target (num x) i ≡ num ((graph g).target x i)
    number_target m {x} r i lt =
        ap (λ u. k.number (k.target u i)) (at_member m r) ∙ ap k.number (target_same (g.named x) i lt)
        ∙ sym (number_is xs l.asked h.alike h.long (g.target (g.named x) i).url)

    below_name : (x : ℕ) (e : IndirectExport) → Contains ((graph g).entries x).indirects e → e.request < length (entries g (g.named x)).requests
    below_name x e c = All-contains (λ (i : IndirectExport). i.request < length (entries g (g.named x)).requests) (entries g (g.named x)).indirects e (names_requests (g.tree (g.named x))).exports.indirects c

    below_star : (x s : ℕ) → Contains ((graph g).entries x).stars s → s < length (entries g (g.named x)).requests
    below_star x s c = All-contains (λ (i : ℕ). i < length (entries g (g.named x)).requests) (entries g (g.named x)).stars s (names_requests (g.tree (g.named x))).exports.stars c

    apart_is : (m : M) {x y : ℕ} → IsReached (graph g) (g.number m) x → IsReached (graph g) (g.number m) y → num x ≡ num y → x ≡ y
    apart_is m r s e =
        let v = reached m r in
        let w = reached m s in
        let same = sym (ap num v.1 ∙ number_is xs l.asked h.alike h.long v.0.url) ∙ e ∙ ap num w.1 ∙ number_is xs l.asked h.alike h.long w.0.url in
        v.1 ∙ apart xs l.asked h.alike h.long v.0.url w.0.url same ∙ sym w.1

    -- they are its modules, by their URLs
    pub named_in : AreNamed (names xs) g k
    named_in = record {
      url = λ m. refl;
      tree = λ m. ap body_in (h.entries_are m.url m.listed);
      target = target_same;
      number = num;
      numbers = λ m. number_is xs l.asked h.alike h.long m.url;
      renumbers = λ m. record {
        entries = λ x r. ap (λ u. entries k u) (at_member m r) ∙ entries_same (g.named x);
        by_name = λ x e r c. number_target m r e.request (below_name x e c);
        by_star = λ x star r c. number_target m r star (below_star x star c);
        apart = λ x y r s e. apart_is m r s e;
      };
      named = λ m x r. at_member m r;
    }
