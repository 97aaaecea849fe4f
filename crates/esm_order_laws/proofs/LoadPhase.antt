-- Loading of clean files: the entry's load goes on over modules of the closure, and is complete where none of its requests is pending.
use Rattle.std.proofs.Common.{◌≡◌, ◌⊎◌, inl, inr, ℕ, ◌==◌, Bool, true, false, cond, List, [], ◌∷◌, ◌++◌, length, nat_lt, Option, Some, None, refl, ap, subst, sym, ◌∙◌}
use Rattle.std.specs.Prelude.{slice_get, slice_set, ⊤}
use Rattle.std.specs.List.{list_any}
use Rattle.esm_base.specs.declared.limits.Limit.{Limit}
use Rattle.esm_base.specs.declared.limits.TheConstants.{MAX_URLS}
use Rattle.esm_base.specs.Urls.{Url, has, same_url}
use Rattle.esm_tree.specs.Syntax.{Item}
use Rattle.esm_import_map.specs.ImportMap.{Maps}
use Rattle.esm_ast.specs.Deliveries.{Files}
use Rattle.esm_ast.specs.Outcome.{OutcomeView, Script}
use Rattle.esm_realm.specs.Records.{ModuleRecord}
use Rattle.esm_realm.proofs.Urls.{has_own, or_true, or_left, same_text, not_both, not_true}
use Rattle.esm_loads.specs.UrlTable.{TableEntry, Module, Throw, thrown_by, put_at, with_url, no_urls, targets_in, built_by, script_by, found}
use Rattle.esm_loads.specs.UrlTable.{Found as founds}
use Rattle.esm_loads.specs.Loading.{Loading, PendingRequest, Root, Request, OpenLoad, LoadState, Asked, Open, LoadComplete, ForEntry, open_load, open_load_in, begin, visit, finish, finish_by, has_pending, is_of, ask_by, load_of, targets}
use Rattle.esm_loads.specs.Load.{Enters, Asks, Answers}
use Rattle.esm_loads.specs.Load.Enters.{ended, known, enters}
use Rattle.esm_loads.specs.Load.Asks.{no_more, over, waits, throws, loads}
use Rattle.esm_loads.specs.Load.Answers.{no_root, no_module, root, request}
use Rattle.esm_world.specs.ImportCalls.{holds_import}
use Rattle.esm_world.specs.Direct.{Closure, itself, requested, IsClean, file_entries, entry_by, entry_found}
use Rattle.esm_order_laws.proofs.Calls.{in_last}
use Rattle.esm_order_laws.proofs.Lists.{any_in}

some_of : {A : Type 0} {a b : A} → ◌≡◌ {A = Option A} (Some a) (Some b) → a ≡ b
some_of e = cc

module _ (maps : Maps) (built : List Item → Bool) (files : Files) (entry : Url) (clean : IsClean maps built files entry) where
  abbrev pub In : Url → Type 0
  In u = Closure maps built files entry u

  abbrev pub file : Url → Option TableEntry
  file u = file_entries maps built files u

  -- ---- a file of the closure is a module without import()

  pub record IsFile (u : Url) : Type 0 where
    pub outcome : OutcomeView
    pub given : files u ≡ Some outcome
    pub module_is : ModuleRecord
    pub found_is : found maps built u outcome ≡ founds.Script module_is
    pub entry_is : file u ≡ Some (Module module_is)
    pub quiet : holds_import module_is.body ≡ false

  pub is_file : (u : Url) → In u → IsFile u
  is_file u h =
      let f = clean.files_are u h in
      let m : ModuleRecord = record { body = f.text.items; targets = f.urls } in
      let is : found maps built u (Script f.text) ≡ founds.Script m = ap (λ b. built_by b maps u f.text.items) f.can_run ∙ ap (script_by f.text.items) f.resolves in
      record {
        outcome = Script f.text;
        given = f.file;
        module_is = m;
        found_is = is;
        entry_is = ap (entry_by maps built files u) f.file ∙ ap (entry_found maps built files) is;
        quiet = f.no_import;
      }

  pub not_thrown : (u : Url) (e : TableEntry) (thrown : Throw) → In u → file u ≡ Some e → thrown_by u e ≡ Some thrown → ⊥
  not_thrown u e thrown h is t =
      let f = is_file u h in
      let same : e ≡ Module f.module_is = some_of (sym is ∙ f.entry_is) in
      let none : ◌≡◌ {A = Option Throw} None (Some thrown) = sym (ap (thrown_by u) same) ∙ t in
      cc

  -- ---- pending requests: of the entry's load alone, and a root's under the entry

  abbrev pub FineRequest : Url → PendingRequest → Type 0
  FineRequest u (Root s) = (s ≡ 0) × (u ≡ entry)
  FineRequest u (Request s x i) = s ≡ 0

  abbrev pub FineRequests : Url → List PendingRequest → Type 0
  FineRequests u [] = ⊤
  FineRequests u (a ∷ rest) = FineRequest u a × FineRequests u rest

  one_more : (u : Url) (rs : List PendingRequest) (a : PendingRequest) → FineRequests u rs → FineRequest u a → FineRequests u (rs ++ a ∷ [])
  one_more u [] a h k = (k, tt)
  one_more u (r ∷ rs) a h k = (h.0, one_more u rs a h.1 k)

  pub put_fine : (pending : Url → List PendingRequest) (t : Url) (rs : List PendingRequest) → ((u : Url) → FineRequests u (pending u)) → FineRequests t rs → (u : Url) → FineRequests u (put_at pending t rs u)
  put_fine pending t rs h k u = by (same_url t u) refl
    where
      by : (b : Bool) → same_url t u ≡ b → FineRequests u (cond b rs (pending u))
      by true e = subst (λ v. FineRequests v rs) (same_text t u e) k
      by false e = h u

  pub own_load : (u : Url) (a : PendingRequest) → FineRequest u a → load_of a ≡ 0
  own_load u (Root s) h = h.0
  own_load u (Request s x i) h = h

  -- no request is of the load: there is none
  none_left : (u : Url) (rs : List PendingRequest) → FineRequests u rs → list_any (is_of 0) rs ≡ false → rs ≡ []
  none_left u [] h e = refl
  none_left u (a ∷ rs) h e =
      let is : (load_of a == 0) ≡ true = ap (λ n. n == 0) (own_load u a h.0) in
      absurd (not_both (list_any (is_of 0) (a ∷ rs)) (or_left (is_of 0 a) (list_any (is_of 0) rs) is) e)

  -- ---- the state of loading

  pub record Base (l : Loading) : Type 0 where
    pub maps_are : l.maps ≡ maps
    pub built_are : l.built ≡ built
    pub within : (u : Url) → has l.asked u ≡ true → In u
    pub fetched : (u : Url) (e : TableEntry) → l.entries u ≡ Some e → file u ≡ Some e
    pub purposes : l.purposes ≡ ForEntry 0 ∷ []
    pub requests : (u : Url) → FineRequests u (l.pending u)

  -- the entry's load goes on
  pub record Going (l : Loading) : Type 0 where
    pub base : Base l
    pub visited : Url → Bool
    pub loads_are : l.loads ≡ Open entry visited ∷ []

  -- it is complete, and no request of an asked URL is pending
  pub record Complete (l : Loading) : Type 0 where
    pub base : Base l
    pub loads_are : l.loads ≡ LoadComplete entry ∷ []
    pub free : (u : Url) → has l.asked u ≡ true → l.pending u ≡ []

  with_loads : (l : Loading) (ls : List LoadState) → Base l → Base (record l { loads = ls })
  with_loads l ls b = record { maps_are = b.maps_are; built_are = b.built_are; within = b.within; fetched = b.fetched; purposes = b.purposes; requests = b.requests }

  opened : (st : Option Limit) (ls : List LoadState) (visited : Url → Bool) (o : OpenLoad) → ls ≡ Open entry visited ∷ [] → open_load_in st (slice_get ls 0) ≡ Some o → o.0 ≡ entry
  opened None ls visited o e h =
      let same : ◌≡◌ {A = Option OpenLoad} (Some (entry, visited)) (Some o) = sym (ap (λ ls. open_load_in None (slice_get ls 0)) e) ∙ h in
      sym (ap (λ (p : OpenLoad). p.0) (some_of same))
  opened (Some limit) ls visited o e h = cc

  pub opens : (l : Loading) (g : Going l) (o : OpenLoad) (x : Url) → open_load l 0 ≡ Some o → Going (visit l 0 o x)
  opens l g o x h =
      let start = opened l.stopped l.loads g.visited o g.loads_are h in
      record {
        base = with_loads l _ g.base;
        visited = with_url o.1 x;
        loads_are = ap (λ ls. slice_set ls 0 (Open o.0 (with_url o.1 x))) g.loads_are ∙ ap (λ (r : Url). Open r (with_url o.1 x) ∷ []) start;
      }

  -- ---- asking

  asked_more : (us : List Url) (t : Url) → In t → ((u : Url) → has us u ≡ true → In u) → (u : Url) → has (us ++ t ∷ []) u ≡ true → In u
  asked_more us t h k u e = by (in_last us t u e)
    where
      by : (has us u ≡ true) ⊎ (u ≡ t) → In u
      by (inl m) = k u m
      by (inr m) = subst In (sym m) h

  pub ask_goes : (b room : Bool) (l : Loading) (t x : Url) (i : ℕ) → In t → Going l → Going (ask_by b room l t (Request 0 x i))
  ask_goes true room l t x i h g = record {
    base = record {
      maps_are = g.base.maps_are;
      built_are = g.base.built_are;
      within = g.base.within;
      fetched = g.base.fetched;
      purposes = g.base.purposes;
      requests = put_fine l.pending t (l.pending t ++ Request 0 x i ∷ []) g.base.requests (one_more t (l.pending t) (Request 0 x i) (g.base.requests t) refl);
    };
    visited = g.visited;
    loads_are = g.loads_are;
  }
  ask_goes false true l t x i h g = record {
    base = record {
      maps_are = g.base.maps_are;
      built_are = g.base.built_are;
      within = asked_more l.asked t h g.base.within;
      fetched = g.base.fetched;
      purposes = g.base.purposes;
      requests = put_fine l.pending t (l.pending t ++ Request 0 x i ∷ []) g.base.requests (one_more t (l.pending t) (Request 0 x i) (g.base.requests t) refl);
    };
    visited = g.visited;
    loads_are = g.loads_are;
  }
  ask_goes false false l t x i h g = record {
    base = record { maps_are = g.base.maps_are; built_are = g.base.built_are; within = g.base.within; fetched = g.base.fetched; purposes = g.base.purposes; requests = g.base.requests };
    visited = g.visited;
    loads_are = g.loads_are;
  }

  -- the targets of a module of the closure are in it
  pub targets_in_closure : (l : Loading) (x : Url) → Base l → In x → (t : Url) → has (targets l x) t ≡ true → In t
  targets_in_closure l x b h t e = by (l.entries x) refl e
    where
      by : (o : Option TableEntry) → l.entries x ≡ o → has (targets_in o) t ≡ true → In t
      by None is k = let no : false ≡ true = k in absurd cc
      by (Some entry_is) is k = requested h (subst (λ (o : Option TableEntry). has (targets_in o) t ≡ true) (sym (b.fetched x entry_is is)) k)

  mutual
    pub enters_goes : {l m : Loading} {x : Url} → In x → Going l → Enters l 0 x m → Going m
    enters_goes h g (ended e) = g
    enters_goes h g (known o e f) = g
    enters_goes {l} {x = x} h g (enters o e f q) = asks_goes (targets_in_closure l x g.base h) (opens l g o x e) q

    pub asks_goes : {l m : Loading} {i : ℕ} {x : Url} {ts : List Url} → ((t : Url) → has ts t ≡ true → In t) → Going l → Asks l 0 x i ts m → Going m
    asks_goes h g no_more = g
    asks_goes h g (over e) = g
    asks_goes {l} h g (waits {i = i} {x = x} {t = t} {ts = ts} o e n q) =
        asks_goes (λ u k. h u (or_true (same_url u t) (has ts u) k)) (ask_goes (has l.asked t) (nat_lt (length l.asked) MAX_URLS) l t x i (h t (has_own t ts)) g) q
    asks_goes h g (throws {t = t} {ts = ts} o e thrown a b c) = absurd (not_thrown t e thrown (h t (has_own t ts)) (g.base.fetched t e b) c)
    asks_goes h g (loads {t = t} {ts = ts} o e a b c v q) = asks_goes (λ u k. h u (or_true (same_url u t) (has ts u) k)) (enters_goes (h t (has_own t ts)) g v) q

  -- ---- the end of the load

  abbrev pub Outcome : Loading → Type 0
  Outcome l = Going l ⊎ Complete l

  no_pending_left : (l : Loading) → Base l → has_pending l 0 ≡ false → (u : Url) → has l.asked u ≡ true → l.pending u ≡ []
  no_pending_left l b e u h =
      let test : Url → Bool = λ u. list_any (is_of 0) (l.pending u) in
      none_left u (l.pending u) (b.requests u) (not_true (list_any (is_of 0) (l.pending u)) (λ t. not_both (list_any test l.asked) (any_in test l.asked u h t) e))

  completes : (l : Loading) (g : Going l) (o : OpenLoad) (unlinked : Url → Bool) → has_pending l 0 ≡ false → open_load l 0 ≡ Some o
      → Complete (record l { loads = slice_set l.loads 0 (LoadComplete o.0); unlinked = unlinked })
  completes l g o unlinked e h = record {
    base = record {
      maps_are = g.base.maps_are;
      built_are = g.base.built_are;
      within = g.base.within;
      fetched = g.base.fetched;
      purposes = g.base.purposes;
      requests = g.base.requests;
    };
    loads_are = ap (λ ls. slice_set ls 0 (LoadComplete o.0)) g.loads_are ∙ ap (λ (r : Url). LoadComplete r ∷ []) (opened l.stopped l.loads g.visited o g.loads_are h);
    free = no_pending_left l g.base e;
  }

  finish_goes : (l : Loading) → Going l → Outcome (finish l 0)
  finish_goes l g = by (has_pending l 0) refl (open_load l 0) refl
    where
      by : (b : Bool) → has_pending l 0 ≡ b → (o : Option OpenLoad) → open_load l 0 ≡ o → Outcome (finish_by b o l 0)
      by b e None h = inl g
      by true e (Some o) h = inl g
      by false e (Some o) h = inr (completes l g o _ e h)

  -- ---- answers

  -- the entry was asked for, or its load goes on
  abbrev pub Early : Loading → Type 0
  Early l = Base l × ((l.loads ≡ Asked ∷ []) ⊎ ((visited : Url → Bool) × (l.loads ≡ Open entry visited ∷ [])))

  pub begin_goes : (l : Loading) → Early l → Going (begin l 0 entry)
  begin_goes l e = record { base = with_loads l _ e.0; visited = no_urls; loads_are = by e.1 }
    where
      by : (l.loads ≡ Asked ∷ []) ⊎ ((visited : Url → Bool) × (l.loads ≡ Open entry visited ∷ [])) → slice_set l.loads 0 (Open entry no_urls) ≡ Open entry no_urls ∷ []
      by (inl h) = ap (λ ls. slice_set ls 0 (Open entry no_urls)) h
      by (inr h) = ap (λ ls. slice_set ls 0 (Open entry no_urls)) h.1

  not_asked : (st : Option Limit) (ls : List LoadState) (o : OpenLoad) → ls ≡ Asked ∷ [] → open_load_in st (slice_get ls 0) ≡ Some o → ⊥
  not_asked None ls o e h = let none : ◌≡◌ {A = Option OpenLoad} None (Some o) = sym (ap (λ ls. open_load_in None (slice_get ls 0)) e) ∙ h in cc
  not_asked (Some limit) ls o e h = cc

  pub open_goes : (l : Loading) → Early l → (o : OpenLoad) → open_load l 0 ≡ Some o → Going l
  open_goes l e o h = by e.1
    where
      by : (l.loads ≡ Asked ∷ []) ⊎ ((visited : Url → Bool) × (l.loads ≡ Open entry visited ∷ [])) → Going l
      by (inl k) = absurd (not_asked l.stopped l.loads o k h)
      by (inr k) = record { base = e.0; visited = k.0; loads_are = k.1 }

  pub answers_goes : {l m : Loading} {a : PendingRequest} {t : Url} {e : TableEntry} → Early l → In t → file t ≡ Some e → FineRequest t a → Answers l a t e m → Outcome m
  answers_goes {t = t} {e = e} early h is fine (no_root thrown k) = absurd (not_thrown t e thrown h is k)
  answers_goes {t = t} {e = e} early h is fine (no_module o thrown k j) = absurd (not_thrown t e thrown h is j)
  answers_goes {l} early h is fine (root {mid = mid} {s = s} {t = t} k q) =
      let first : Enters (begin l s entry) s entry mid = subst (λ t. Enters (begin l s t) s t mid) fine.1 q in
      let own : Enters (begin l 0 entry) 0 entry mid = subst (λ s. Enters (begin l s entry) s entry mid) fine.0 first in
      subst (λ s. Outcome (finish mid s)) (sym fine.0) (finish_goes mid (enters_goes itself (begin_goes l early) own))
  answers_goes {l} early h is fine (request {mid = mid} {s = s} {t = t} o k j q) =
      let at : open_load l 0 ≡ Some o = subst (λ s. open_load l s ≡ Some o) fine k in
      let own : Enters l 0 t mid = subst (λ s. Enters l s t mid) fine q in
      subst (λ s. Outcome (finish mid s)) (sym fine) (finish_goes mid (enters_goes h (open_goes l early o at) own))
