-- What the modules of a realm export is resolved to a module of the realm, and a name of it is bound there.
use Rattle.std.proofs.Common.{◌≡◌, ℕ, ◌<◌, ◌≤◌, Bool, true, false, cond, List, [], ◌∷◌, map, Option, Some, None, All, ap, subst, sym, ◌∙◌, refl, arith, length}
use Rattle.std.specs.Prelude.{⊤, codes, Contains, slice_get}
use Rattle.std.specs.Option.{option_or}
use Rattle.std.specs.Str.{bytes_eq}
use Rattle.std.specs.List.{AllByRecursion}
use Rattle.std.proofs.lemmas.List.Elements.{All-contains, All-cons, All-nil, All-map, recursion_from_All}
use Rattle.esm_tree.specs.Syntax.{Parts}
use Rattle.esm_tree.specs.declared.node.Wanted.{Wanted}
use Rattle.esm_tree.specs.declared.node.Wanted.TheVariants as wanted
use Rattle.esm_ast.specs.declared.entries.ImportEntry.{ImportEntry}
use Rattle.esm_ast.specs.declared.entries.LocalExport.{LocalExport}
use Rattle.esm_ast.specs.declared.entries.IndirectExport.{IndirectExport}
use Rattle.esm_ast.specs.Entries.{NamesRequests, import_named}
use Rattle.esm_ast.proofs.Requests.{names_requests}
use Rattle.esm_base.specs.declared.module_id.ModuleId.{ModuleId}
use Rattle.esm_realm.specs.Sound.{RecordParts}
use Rattle.esm_resolve.specs.Graph.{IsReached, IsSound}
use Rattle.esm_resolve.specs.Graph.IsReached.{itself, by_name, by_star}
use Rattle.esm_resolve.specs.Resolution.{End, module_id, pair_of, local_export, wanted_of, indirect_export, export_of, end_by, star_pairs, next_by, Reaches, LeadsTo, IsResolutionOf}
use Rattle.esm_resolve.specs.Resolution.Reaches.{itself as reaches_itself, onward}
use Rattle.esm_resolve.specs.declared.graph.Binding.{Binding}
use Rattle.esm_resolve.specs.declared.graph.Binding.TheVariants as bindings
use Rattle.esm_resolve.specs.declared.graph.Resolution.TheVariants as resolutions
use Rattle.esm_resolve.specs.declared.pair.Export.{Export}
use Rattle.esm_resolve.specs.declared.pair.Export.TheVariants as exports
use Rattle.esm_resolve.specs.declared.pair.Pair.{Pair}
use Rattle.esm_env.specs.Modules.{Modules, graph, entries, Exports}
use Rattle.esm_resolve.specs.Index.{IsIndexOf}
use Rattle.esm_resolve.specs.declared.index.ExportIndex.{ExportIndex}
use Rattle.esm_resolve.specs.declared.graph.Resolution.{Resolution}
use Rattle.esm_env.specs.Bindings.{own_by, whole_by, whole_only, target_of}
use Rattle.esm_env.specs.Declarations.{initial}
use Rattle.esm_env.specs.Faithful.{target_in}
use Rattle.esm_link.specs.Realm.{modules_of, items_at, IsOwnBinding, BindsOwnExports}
use Rattle.esm_link.specs.Realm.IsOwnBinding.{declared, namespace}
use Rattle.std.proofs.Common.{nat_lt, ltb-true, ltb-false}
use Rattle.esm_ast.specs.Entries.{entries_of}
use Rattle.esm_realm.specs.ById.{entries_by, entries_at, target_at}
use Rattle.esm_realm.proofs.ByIds.{holds_at}
use Rattle.esm_realm.proofs.Lists.{either}
use Rattle.esm_realm.proofs.Urls.{cases}
use Rattle.esm_resolve.specs.Graph.{Graph}
use Rattle.esm_link.proofs.Trees.{past, no_items}
use Rattle.esm_link.specs.Realm.{items_by}
use Rattle.esm_link.specs.Inner.Graph.{graph_of, IsInside, namespace_by, namespace_in, namespace_of}
use Rattle.esm_resolve.specs.Keys.{is_one}
use Rattle.esm_env.specs.declared.scope.Target.{Target as CodeTarget}
use Rattle.esm_link.specs.Faults.{import_kind}
use Rattle.esm_link.specs.declared.LinkFault.{LinkFault}
use Rattle.esm_link.specs.Inner.Imports.{cell_or, end_target, IsBoundName, IsUnboundName}

-- ---- members of lists

not_in_nil : {A : Type 0} (x : A) → Contains [] x → ⊥
not_in_nil x c = absurd (omega (arith, c.1))

in_one : {A : Type 0} (P : A → Type 0) (y x : A) → P y → Contains (y ∷ []) x → P x
in_one P y x h c = All-contains P (y ∷ []) x (All-cons P y [] h (All-nil P)) c

in_map : {A B : Type 0} (P : B → Type 0) (f : A → B) (xs : List A) (z : B) → All (λ x. P (f x)) xs → Contains (map f xs) z → P z
in_map P f xs z h c = All-contains P (map f xs) z (All-map P f xs h) c

module _ (trees : List Parts) (rs : List RecordParts) (inside : IsInside trees rs) where
  abbrev g : Modules ℕ
  g = modules_of trees rs

  abbrev Good : ℕ → Type 0
  Good n = n < length rs

  requests_named : (n : ℕ) → NamesRequests ((graph g).entries n) (length ((graph g).entries n).requests)
  requests_named n = names_requests (items_at trees n)

  reached_good : (m x : ℕ) → Good m → IsReached (graph g) m x → Good x
  reached_good m x k itself = k
  reached_good m x k (by_name {x = y} {e = e} r c) = inside.target y e.request (reached_good m y k r)
  reached_good m x k (by_star {x = y} {r = s} r c) = inside.target y s (reached_good m y k r)

  pub sound : (m : ℕ) → Good m → IsSound (graph g) m
  sound m k x r = record { below = reached_good m x k r; exports = (requests_named x).exports }

  own_exports : (n : ℕ) → BindsOwnExports (items_at trees n)
  own_exports n = by (slice_get trees n) refl
    where
      by : (o : Option Parts) → slice_get trees n ≡ o → BindsOwnExports (items_by o)
      by None e = subst (λ es. All (λ (e : LocalExport). IsOwnBinding [] e.local) es.locals) (sym no_items) (λ i d lt. absurd (omega (arith, lt)))
      by (Some t) e = holds_at (λ (t : Parts). BindsOwnExports t.items) trees n t inside.trees_are.exports e

  -- the graph of the records is that of the modules
  pub graph_is : graph g ≡ graph_of rs
  graph_is = λ i. record { size = length rs; entries = λ n. entries_are n i; target = target_at rs }
    where
      entries_are : (n : ℕ) → entries_of (items_at trees n) ≡ entries_at rs n
      entries_are n = either (cases (nat_lt n (length rs))) (λ t. sym (inside.trees_are.entries n (ltb-true n (length rs) t))) (λ f. far (ltb-false n (length rs) f))
        where
          far : length rs ≤ n → entries_of (items_at trees n) ≡ entries_at rs n
          far le = ap (λ o. entries_of (items_by o)) (past trees n (subst (λ m. m ≤ n) (sym inside.trees_are.as_many) le)) ∙ no_items ∙ ap entries_by (sym (past rs n le))

  pub entries_same : (n : ℕ) → entries g n ≡ entries_at rs n
  entries_same n = ap (λ (k : Graph). k.entries n) graph_is

  pub sound_graph : (m : ℕ) → m < length rs → IsSound (graph_of rs) m
  sound_graph m lt = subst (λ k. IsSound k m) graph_is (sound m lt)

  -- the requests of entries are requests of the record
  pub export_request : (x i : ℕ) (es : List IndirectExport) (e : IndirectExport) → es ≡ (entries g x).indirects → slice_get es i ≡ Some e → e.request < length (entries_at rs x).requests
  export_request x i es e own at =
      subst (λ ls. e.request < length ls.requests) (entries_same x) (holds_at (λ (e : IndirectExport). e.request < length (entries g x).requests) (entries g x).indirects i e (requests_named x).exports.indirects (ap (λ es. slice_get es i) (sym own) ∙ at))

  pub import_request : (x i : ℕ) (es : List ImportEntry) (e : ImportEntry) → es ≡ (entries g x).imports → slice_get es i ≡ Some e → e.request < length (entries g x).requests
  import_request x i es e own at = holds_at (λ (e : ImportEntry). e.request < length (entries g x).requests) (entries g x).imports i e (requests_named x).imports (ap (λ es. slice_get es i) (sym own) ∙ at)

  pub request_on : (x request : ℕ) → request < length (entries g x).requests → request < length (entries_at rs x).requests
  request_on x request lt = subst (λ ls. request < length ls.requests) (entries_same x) lt

  -- the indexes over the graph of the records
  pub index_to : (k : ExportIndex) → IsIndexOf (graph g) k → IsIndexOf (graph_of rs) k
  index_to k h = subst (λ q. IsIndexOf q k) graph_is h

  pub index_back : (k : ExportIndex) → IsIndexOf (graph_of rs) k → IsIndexOf (graph g) k
  index_back k h = subst (λ q. IsIndexOf q k) (sym graph_is) h

  -- a resolution over it
  pub exports_back : (m : ℕ) (name : List ℕ) (r : Resolution) → IsResolutionOf (graph_of rs) (pair_of m name) r → Exports g m name r
  exports_back m name r h = subst (λ q. IsResolutionOf q (pair_of m name) r) (sym graph_is) h

  -- ---- what is exported

  OwnIfLocal : ℕ → Binding → Type 0
  OwnIfLocal n (bindings.Local x) = IsOwnBinding (items_at trees n) x
  OwnIfLocal n bindings.Whole = ⊤

  ExportGood : Option Export → Type 0
  ExportGood None = ⊤
  ExportGood (Some (exports.End x b)) = Good x.0 × OwnIfLocal x.0 b
  ExportGood (Some (exports.Other p)) = Good p.home.0

  picked : (b : Bool) (x y : Option Export) → ExportGood x → ExportGood y → ExportGood (cond b x y)
  picked true x y p q = p
  picked false x y p q = q

  local_good : (n : ℕ) (es : List LocalExport) (name : List ℕ) → Good n → AllByRecursion (λ (e : LocalExport). IsOwnBinding (items_at trees n) e.local) es → ExportGood (local_export n es name)
  unfolding ExportGood OwnIfLocal
  local_good n [] name k a = tt
  local_good n (e ∷ es) name k a = picked (bytes_eq e.name name) (Some (exports.End (module_id n) (bindings.Local e.local))) (local_export n es name) (k, a.0) (local_good n es name k a.1)

  wanted_good : (n : ℕ) (w : Wanted) → Good n → ExportGood (Some (wanted_of n w))
  unfolding ExportGood OwnIfLocal
  wanted_good n wanted.Whole k = (k, tt)
  wanted_good n (wanted.Named name) k = k

  indirect_good : (n : ℕ) (es : List IndirectExport) (name : List ℕ) → Good n → ExportGood (indirect_export ((graph g).target n) es name)
  unfolding ExportGood
  indirect_good n [] name k = tt
  indirect_good n (e ∷ es) name k =
      picked (bytes_eq e.name name) (Some (wanted_of ((graph g).target n e.request) e.wanted)) (indirect_export ((graph g).target n) es name) (wanted_good _ e.wanted (inside.target n e.request k)) (indirect_good n es name k)

  either_good : (x y : Option Export) → ExportGood x → ExportGood y → ExportGood (option_or x y)
  either_good None y p q = q
  either_good (Some e) y p q = p

  export_good : (p : Pair) → Good p.home.0 → ExportGood (export_of (graph g) p)
  export_good p k =
      either_good (local_export p.home.0 ((graph g).entries p.home.0).locals p.name) (indirect_export ((graph g).target p.home.0) ((graph g).entries p.home.0).indirects p.name)
      (local_good p.home.0 ((graph g).entries p.home.0).locals p.name k (recursion_from_All (λ (e : LocalExport). IsOwnBinding (items_at trees p.home.0) e.local) _ (own_exports p.home.0)))
      (indirect_good p.home.0 ((graph g).entries p.home.0).indirects p.name k)

  star_good : (p q : Pair) → Good p.home.0 → (b : Bool) → Contains (cond b [] (map (λ star. pair_of ((graph g).target p.home.0 star) p.name) ((graph g).entries p.home.0).stars)) q → Good q.home.0
  star_good p q k true c = absurd (not_in_nil q c)
  star_good p q k false c =
      in_map (λ (q : Pair). Good q.home.0) (λ star. pair_of ((graph g).target p.home.0 star) p.name) ((graph g).entries p.home.0).stars q
      (λ i d lt. inside.target p.home.0 _ k) c

  next_good : (p q : Pair) → Good p.home.0 → (o : Option Export) → ExportGood o → Contains (next_by o (star_pairs (graph g) p)) q → Good q.home.0
  unfolding ExportGood
  next_good p q k None e c = star_good p q k (bytes_eq p.name (codes "default")) c
  next_good p q k (Some (exports.End x b)) e c = absurd (not_in_nil q c)
  next_good p q k (Some (exports.Other s)) e c = in_one (λ (q : Pair). Good q.home.0) s q e c

  reaches_good : (from p : Pair) → Good from.home.0 → Reaches (graph g) from p → Good p.home.0
  reaches_good from p k reaches_itself = k
  reaches_good from p k (onward {p = q} r c) = let j = reaches_good from q k r in next_good q p j (export_of (graph g) q) (export_good q j) c

  end_good : (o : Option Export) → ExportGood o → (e : End) → end_by o ≡ Some e → Good e.0.0 × OwnIfLocal e.0.0 e.1
  unfolding ExportGood
  end_good None k e q = absurd cc
  end_good (Some (exports.End x b)) k e q = subst (λ (e : End). Good e.0.0 × OwnIfLocal e.0.0 e.1) (let s : (x, b) ≡ e = cc in s) k
  end_good (Some (exports.Other p)) k e q = absurd cc

  leads_good : (from : Pair) (e : End) → Good from.home.0 → LeadsTo (graph g) from e → Good e.0.0 × OwnIfLocal e.0.0 e.1
  leads_good from e k l = let j = reaches_good from l.0 k l.1 in end_good (export_of (graph g) l.0) (export_good l.0 j) e l.2

  -- the end of a resolution is a module of the realm
  pub home_good : (m : ℕ) (name : List ℕ) (x : ModuleId) (b : Binding) → Good m → IsResolutionOf (graph g) (pair_of m name) (resolutions.One x b) → Good x.0
  home_good m name x b k i = (leads_good (pair_of m name) (x, b) k i.0).0

  -- ---- where its end stands

  none_named : (to : ℕ → ℕ) (es : List ImportEntry) (x : List ℕ) → import_named es x ≡ None → namespace_in to es x ≡ None
  unfolding import_named
  none_named to [] x e = refl
  none_named to (d ∷ es) x e = by (bytes_eq d.local x) d.wanted e (none_named to es x)
    where
      by : (b : Bool) (w : Wanted) → cond b (Some d) (import_named es x) ≡ None → (import_named es x ≡ None → namespace_in to es x ≡ None)
          → namespace_by w b (module_id (to d.request)) (namespace_in to es x) ≡ None
      by true w e h = cc
      by false wanted.Whole e h = h e
      by false (wanted.Named n) e h = h e

  first_named : (to : ℕ → ℕ) (es : List ImportEntry) (x : List ℕ) (e : ImportEntry) → import_named es x ≡ Some e → e.wanted ≡ wanted.Whole → namespace_in to es x ≡ Some (module_id (to e.request))
  unfolding import_named
  first_named to [] x e h w = cc
  first_named to (d ∷ es) x e h w = by (bytes_eq d.local x) d.wanted refl h (first_named to es x e)
    where
      by : (b : Bool) (v : Wanted) → d.wanted ≡ v → cond b (Some d) (import_named es x) ≡ Some e → (import_named es x ≡ Some e → e.wanted ≡ wanted.Whole → namespace_in to es x ≡ Some (module_id (to e.request)))
          → namespace_by v b (module_id (to d.request)) (namespace_in to es x) ≡ Some (module_id (to e.request))
      by true wanted.Whole v h rest = let same : d ≡ e = cc in ap (λ (e : ImportEntry). Some (module_id (to e.request))) same
      by true (wanted.Named n) v h rest = let same : d ≡ e = cc in let is : wanted.Whole ≡ wanted.Named n = sym w ∙ ap (λ (e : ImportEntry). e.wanted) (sym same) ∙ v in cc
      by false wanted.Whole v h rest = rest h w
      by false (wanted.Named n) v h rest = rest h w

  own_target : (x : ModuleId) (l : List ℕ) → IsOwnBinding (items_at trees x.0) l → own_by g x.0 l (initial (items_at trees x.0) l) ≡ target_in (Some (cell_or x l (namespace_of g x.0 l)))
  own_target x l (declared i e n) = ap (own_by g x.0 l) e ∙ ap (λ o. target_in (Some (cell_or x l o))) (sym (none_named (g.target x.0) (entries g x.0).imports l n))
  own_target x l (namespace e none is w) =
      ap (own_by g x.0 l) none ∙ ap (whole_by g x.0) is ∙ ap (whole_only g x.0 e.request) w
      ∙ ap (λ o. target_in (Some (cell_or x l o))) (sym (first_named (g.target x.0) (entries g x.0).imports l e is w))

  end_there : (x : ModuleId) (b : Binding) → OwnIfLocal x.0 b → target_of g (resolutions.One x b) ≡ target_in (Some (end_target g x b))
  unfolding OwnIfLocal
  end_there x (bindings.Local l) h = own_target x l h
  end_there x bindings.Whole h = refl

  pub there : (m : ℕ) (name : List ℕ) (x : ModuleId) (b : Binding) → Good m → IsResolutionOf (graph g) (pair_of m name) (resolutions.One x b)
      → target_of g (resolutions.One x b) ≡ target_in (Some (end_target g x b))
  there m name x b k i = end_there x b (leads_good (pair_of m name) (x, b) k i.0).1

  -- ---- an import of a name

  module _ (x t : ℕ) (name text : List ℕ) (r : Resolution) (within : t < length rs) (is : IsResolutionOf (graph_of rs) (pair_of t text) r) (same : text ≡ name) where
    resolves : Exports g t name r
    resolves = exports_back t name r (subst (λ n. IsResolutionOf (graph_of rs) (pair_of t n) r) same is)

    pub home_within : (home : ModuleId) (b : Binding) → r ≡ resolutions.One home b → home.0 < length rs
    home_within home b e = home_good t name home b within (subst (Exports g t name) e resolves)

    pub bound_name : (home : ModuleId) (b : Binding) (to : CodeTarget) → r ≡ resolutions.One home b → to ≡ end_target g home b → IsBoundName g x t name to
    bound_name home b to e there_is = record {
      resolution = r;
      resolves = resolves;
      one = ap is_one e;
      there = ap (target_of g) e ∙ there t name home b within (subst (Exports g t name) e resolves) ∙ ap (λ k. target_in (Some k)) (sym there_is);
    }

    pub unbound_name : (f : LinkFault) → (is_one r ≡ false) × (f.kind ≡ import_kind r) → f.«module».0 ≡ x → f.name ≡ name → f.target.0 ≡ t → IsUnboundName g x t name f
    unbound_name f k m n a = record { resolution = r; resolves = resolves; none = k.0; fault = λ i. record { kind = k.1 i; module_is = m i; name = n i; target = a i } }
