-- A root is linked over the records: linking by ids, which is linking in the world, and what is seen then.
use Rattle.std.proofs.Common.{◌≡◌, ◌⊎◌, inl, inr, ℕ, suc, ◌+◌, ◌<◌, ◌≤◌, Bool, true, false, nat_eq, List, [], ◌∷◌, ◌++◌, map, length, All, Option, Some, None, refl, ap, subst, sym, ◌∙◌, arith, eqb-true}
use Rattle.std.specs.Prelude.{◌||◌, nat_lt, slice_get, Result, Ok, Err}
use Rattle.std.specs.Arc.{arc_value}
use Rattle.std.specs.List.{AllByRecursion}
use Rattle.std.specs.Option.{option_map}
use Rattle.std.specs.declared.alloc.Global.{Global}
use Rattle.std.specs.declared.sync.Arc.{Arc}
use Rattle.std.proofs.lemmas.Bool.Decides.{nat_tests}
use Rattle.std.proofs.lemmas.List.{length-map}
use Rattle.std.proofs.lemmas.List.Elements.{All-cons, All-head, All-nil, All-tail}
use Rattle.esm_base.specs.Lists.{is_in}
use Rattle.esm_base.specs.Urls.{Url, has, same_url}
use Rattle.esm_base.specs.declared.end.End.{End}
use Rattle.esm_base.specs.declared.end.End.TheVariants.{Fault, Memory}
use Rattle.esm_tree.specs.Syntax.{Parts}
use Rattle.esm_ast.specs.Entries.{entries_of}
use Rattle.esm_ast.specs.Spelled.{AreSpelled}
use Rattle.esm_ast.specs.declared.entries.ImportEntry.{ImportEntry}
use Rattle.esm_ast.specs.declared.entries.IndirectExport.{IndirectExport}
use Rattle.esm_ast.proofs.Requests.{names_requests}
use Rattle.esm_import_map.specs.ImportMap.{Maps}
use Rattle.esm_realm.specs.declared.record.ModuleStatus.{ModuleStatus}
use Rattle.esm_realm.specs.declared.record.ModuleStatus.TheVariants as statuses
use Rattle.esm_realm.specs.ById.{entries_by, status_by, status_of, is_linking, target_at}
use Rattle.esm_realm.specs.Sound.{RecordParts, IsSound, url_of}
use Rattle.esm_realm.specs.Walk.{Mark}
use Rattle.esm_realm.proofs.Urls.{has_append, not_true, or_cases}
use Rattle.esm_values.specs.Numbering.{numbering}
use Rattle.esm_env.specs.Modules.{Modules, entries}
use Rattle.esm_loads.specs.Loading.{Loading}
use Rattle.esm_loads.specs.LoadsAsLoading.{loading_of, trees_of}
use Rattle.esm_loads.specs.LoadsView.{is_past_new, is_unlinked, is_unlinked_by, tree_items}
use Rattle.esm_loads.specs.declared.loads.Loads.{Loads}
use Rattle.esm_loads.proofs.Places.{at_place, get_within, map_long}
use Rattle.esm_loads.proofs.ReadFacts.{past_end}
use Rattle.esm_link.specs.Faults.{FaultAt, FirstFault, ExportFault, ImportFault}
use Rattle.esm_link.specs.Link.{IsLinking, LinksMarks, targets, targets_from}
use Rattle.esm_link.specs.Local.{AreLinkable, AreWhole, LinksFromLinked}
use Rattle.esm_link.specs.Naming.{named_fault}
use Rattle.esm_link.specs.Parsed.{SpelledIsBound}
use Rattle.esm_link.specs.Realm.{AreTrees, IsLinkedBy, IsRelinked, LinkedAs, fault_of, is_linked, modules_of, relinked}
use Rattle.esm_link.specs.Scopes.{linked_in}
use Rattle.esm_link.specs.declared.LinkFault.{LinkFault}
use Rattle.esm_link.proofs.ClosedLinks as closed_links
use Rattle.esm_link.proofs.Local.{linking_is_local}
use Rattle.esm_link.proofs.LocalWalks as local
use Rattle.esm_link.proofs.Marking.{same_length}
use Rattle.esm_rewriting.specs.Fits.{AreLinked}
use Rattle.esm_world.specs.World.{modules_in}
use Rattle.esm_world.proofs.FitLists.{place_names}
use Rattle.esm_machine.specs.Following.{LinkingIsOfTheWorld}
use Rattle.esm_machine.specs.Kept.{GoesOn}
use Rattle.esm_machine.specs.Linking.{LinksSeen, NamesRecords, SameMembers}
use Rattle.esm_machine.specs.ModuleStore.{imported, linked_urls, seen_of}
use Rattle.esm_machine.specs.Seen.{Seen, linked, modules, names}
use Rattle.esm_machine.specs.declared.condition.Condition.TheVariants as conditions
use Rattle.esm_machine.specs.Inner.Importing.{Named}
use Rattle.esm_machine.specs.Inner.Numbers.{number, url_number}
use Rattle.esm_machine.proofs.Following.{numbers_tell_apart, same_names}
use Rattle.esm_machine.proofs.Records.{past_new}
use Rattle.esm_machine.proofs.SeenRecords.{agree_seen, fetched_module, items_same, linked_is, named_there, past_new_below, past_new_record, same_target, status_linked, target_url, unlinked_is, whole_records, within_seen}

-- ---- lists of ids and of URLs

numbered_in : (urls us : List Url) (x : ℕ) → is_in nat_eq (map (number urls) us) x ≡ has us ((numbering urls).name x)
numbered_in urls [] x = refl
numbered_in urls (v ∷ us) x =
    let here : nat_eq x (number urls v) ≡ same_url ((numbering urls).name x) v =
    sym (same_names urls x (number urls v)) ∙ ap (same_url ((numbering urls).name x)) (url_number urls v) in
    let rest = numbered_in urls us x in
    λ i. here i || rest i

named_in : (urls : List Url) (xs : List ℕ) (u : Url) → has (map (numbering urls).name xs) u ≡ is_in nat_eq xs (number urls u)
named_in urls [] u = refl
named_in urls (x ∷ xs) u =
    let here : same_url u ((numbering urls).name x) ≡ nat_eq (number urls u) x =
    ap (λ v. same_url v ((numbering urls).name x)) (sym (url_number urls u)) ∙ same_names urls (number urls u) x in
    let rest = named_in urls xs u in
    λ i. here i || rest i

named_back : (urls us : List Url) → map (numbering urls).name (map (number urls) us) ≡ us
named_back urls [] = refl
named_back urls (v ∷ us) = λ i. url_number urls v i ∷ named_back urls us i

first : (j : ℕ) → j ≡ 0 + j
first j = omega arith

-- what holds of the target of each request holds of each target
of_targets : (g : Modules ℕ) (Q : ℕ → Type 0) (x i : ℕ) (rs : List (List ℕ)) → ((j : ℕ) → j < length rs → Q (g.target x (i + j)))
    → (t : ℕ) → is_in nat_eq (targets_from g x i rs) t ≡ true → Q t
of_targets g Q x i [] h t e = cc
of_targets g Q x i (r ∷ rs) h t e = by (or_cases (nat_eq t (g.target x i)) (is_in nat_eq (targets_from g x (suc i) rs) t) e)
    (of_targets g Q x (suc i) rs (λ j lt. subst (λ n. Q (g.target x n)) (omega arith) (h (suc j) (omega (arith, lt)))) t)
  where
    by : (nat_eq t (g.target x i) ≡ true) ⊎ (is_in nat_eq (targets_from g x (suc i) rs) t ≡ true)
        → (is_in nat_eq (targets_from g x (suc i) rs) t ≡ true → Q t) → Q t
    by (inl same) rest =
        let here : Q (g.target x i) = subst (λ n. Q (g.target x n)) (omega arith) (h 0 (omega arith)) in
        subst Q (sym (eqb-true t (g.target x i) same)) here
    by (inr later) rest = rest later

-- ---- statuses

linkable_status : (status : ModuleStatus) → is_past_new status ≡ true → is_linking status ≡ false → (status ≡ statuses.Unlinked) ⊎ (status ≡ statuses.Linked)
linkable_status statuses.New p n = cc
linkable_status statuses.Unlinked p n = inl refl
linkable_status statuses.Linking p n = cc
linkable_status statuses.Linked p n = inr refl

relinked_is : (b : Bool) (status : ModuleStatus) → (b ≡ true → (status ≡ statuses.Unlinked) ⊎ (status ≡ statuses.Linked)) → (is_linked status ≡ true → b ≡ true)
    → is_linked (relinked b status) ≡ b
relinked_is true status f g = by (f refl)
  where
    by : (status ≡ statuses.Unlinked) ⊎ (status ≡ statuses.Linked) → is_linked (relinked true status) ≡ true
    by (inl e) = ap (λ (s : ModuleStatus). is_linked (relinked true s)) e
    by (inr e) = ap (λ (s : ModuleStatus). is_linked (relinked true s)) e
relinked_is false status f g = not_true (is_linked status) (λ e. let b : false ≡ true = g e in absurd cc)

lt_or : (m n : ℕ) → (m < n) ⊎ (n ≤ m)
lt_or m n = by (nat_lt m n) refl
  where
    by : (b : Bool) → nat_lt m n ≡ b → (m < n) ⊎ (n ≤ m)
    by true e = inl (grind (arith, nat_tests))
    by false e = inr (grind (arith, nat_tests))

-- ---- the modules of a fault

module _ (g : Modules ℕ) (there : ℕ → Bool) (w : AreWhole g there) where
  abbrev IsThere : FaultAt ℕ → Type 0
  IsThere f = (there f.module_is ≡ true) × (there f.target ≡ true)

  abbrev IsThereIf : Option (FaultAt ℕ) → Type 0
  IsThereIf None = Unit {0}
  IsThereIf (Some f) = IsThere f

  module _ (x : ℕ) (p : there x ≡ true) where
    abbrev Below : ℕ → Type 0
    Below i = i < length (entries g x).requests

    export_there : {es : List IndirectExport} {f : Option (FaultAt ℕ)} → ExportFault g x es f → All (λ (e : IndirectExport). Below e.request) es → IsThereIf f
    export_there ExportFault.none a = tt
    export_there (ExportFault.fine {e = e} {es = es} r q o rest) a = export_there rest (All-tail (λ (i : IndirectExport). Below i.request) e es a)
    export_there (ExportFault.found {e = e} {es = es} r q o) a = (p, w.targets x e.request p (All-head (λ (i : IndirectExport). Below i.request) e es a))

    import_there : {es : List ImportEntry} {f : Option (FaultAt ℕ)} → ImportFault g x es f → All (λ (e : ImportEntry). Below e.request) es → IsThereIf f
    import_there ImportFault.none a = tt
    import_there (ImportFault.whole {e = e} {es = es} v rest) a = import_there rest (All-tail (λ (i : ImportEntry). Below i.request) e es a)
    import_there (ImportFault.fine {e = e} {es = es} name r v q o rest) a = import_there rest (All-tail (λ (i : ImportEntry). Below i.request) e es a)
    import_there (ImportFault.found {e = e} {es = es} name r v q o) a = (p, w.targets x e.request p (All-head (λ (i : ImportEntry). Below i.request) e es a))

    first_there : {f : Option (FaultAt ℕ)} → FirstFault g x f → IsThereIf f
    first_there (FirstFault.of_exports q) = export_there q (names_requests (g.tree x)).exports.indirects
    first_there (FirstFault.of_imports q r) = import_there r (names_requests (g.tree x)).imports

  targets_inside : (x : ℕ) → there x ≡ true → AllByRecursion (λ y. there y ≡ true) (targets g x)
  targets_inside x p = all x 0 (entries g x).requests (λ j lt. subst (λ n. there (g.target x n) ≡ true) (first j) (w.targets x j p lt))
    where
      all : (x i : ℕ) (rs : List (List ℕ)) → ((j : ℕ) → j < length rs → there (g.target x (i + j)) ≡ true) → AllByRecursion (λ y. there y ≡ true) (targets_from g x i rs)
      all x i [] h = tt
      all x i (r ∷ rs) h = (
        subst (λ n. there (g.target x n) ≡ true) (omega arith) (h 0 (omega arith)),
        all x (suc i) rs (λ j lt. subst (λ n. there (g.target x n) ≡ true) (omega arith) (h (suc j) (omega (arith, lt)))),
      )

  abbrev MarksIn : List (Mark ℕ) → Type 0
  MarksIn ms = local.MarksThere nat_eq (targets g) (targets g) (λ y. there y ≡ true) (λ x p. refl) targets_inside ms

  marks_there : {opened closed : List ℕ} {ms : List (Mark ℕ)} {f : FaultAt ℕ} {o : Option (FaultAt ℕ)} {after : List ℕ}
      → LinksMarks nat_eq g opened closed ms o after → o ≡ Some f → MarksIn ms → IsThere f
  marks_there LinksMarks.done is m = absurd cc
  marks_there (LinksMarks.enters q) is m = marks_there q is m.1
  marks_there (LinksMarks.passes q) is m = marks_there q is m
  marks_there {f = f} (LinksMarks.fails {x = x} {f = d} e) is m = let same : d ≡ f = cc in subst IsThere same (first_there x m.0 e)
  marks_there (LinksMarks.stays e c q) is m = marks_there q is m.1
  marks_there (LinksMarks.component e c q) is m = marks_there q is m.1

  -- the modules that a fault names are there, where the root is
  pub fault_there : (closed : List ℕ) (root : ℕ) (f : FaultAt ℕ) (after : List ℕ) → there root ≡ true → IsLinking nat_eq g closed root (Some f) after → IsThere f
  fault_there closed root f after p l =
      marks_there l.links refl (local.marks_there nat_eq (targets g) (targets g) (λ y. there y ≡ true) (λ x q. refl) targets_inside closed root l.marks p l.walk)

-- ---- trees

spelled_each : (ts : List (Arc Parts Global)) → All AreSpelled (map tree_items ts) → All (λ (t : Parts). AreSpelled t.items) (map arc_value ts)
spelled_each [] a = All-nil (λ (t : Parts). AreSpelled t.items)
spelled_each (x ∷ ts) a =
    All-cons (λ (t : Parts). AreSpelled t.items) (arc_value x) (map arc_value ts) (All-head AreSpelled (tree_items x) (map tree_items ts) a)
    (spelled_each ts (All-tail AreSpelled (tree_items x) (map tree_items ts) a))

-- ---- linking

module _ (R : List RecordParts) (t : Loads) (maps : Maps) (s : IsSound R) (k : GoesOn (imported R t maps conditions.Whole)) where
  abbrev L : Loading
  L = loading_of maps t R

  abbrev S : Seen
  S = seen_of (imported R t maps conditions.Whole)

  abbrev T : List Parts
  T = map arc_value t.trees.items

  abbrev There : ℕ → Type 0
  There m = is_unlinked R m ≡ true

  -- the trees that were read are those of the records
  pub trees_are : SpelledIsBound → AreTrees T R
  trees_are spelled = spelled.trees T R
      (map_long arc_value t.trees.items ∙ sym (map_long tree_items t.trees.items) ∙ k.fits.matching.as_many)
      (λ x lt.
      let r = get_within R x lt in
      let tree = get_within (trees_of t) x (subst (λ n. x < n) (sym k.fits.matching.as_many) lt) in
      ap entries_by r.1 ∙ k.fits.matching.entries x r.0 tree.0 r.1 tree.1
      ∙ ap entries_of (sym (items_same t.trees.items x ∙ at_place (trees_of t) x tree.0 [] tree.1)))
      (spelled_each t.trees.items k.fits.matching.spelled)

  linked_there : (m : ℕ) → linked_in R m ≡ true → There m
  linked_there m l = let x = status_linked R m l in ap is_unlinked_by x.at ∙ past_new x.parts.status x.linked

  pub linkable : AreLinkable R (is_unlinked R)
  linkable x p =
      let r = past_new_record R x p in
      let status : status_of R x ≡ r.parts.status = ap status_by r.at in
      (past_new_below R x p, linkable_status (status_of R x) (ap is_past_new status ∙ r.past_new) (k.idle x))

  -- what a Linked module requests is Linked
  pub linked_whole : AreLinked (modules S) (linked S) → AreWhole (modules_of T R) (linked_in R)
  linked_whole a = record {
    targets = λ m i l lt.
        let p : There m = linked_there m l in
        let within = within_seen R t maps s k m i p lt in
        let next : linked S ((modules S).target m i) ≡ true = a.targets m i (linked_is R m s.differ ∙ l) within in
        sym (linked_is R (target_at R m i) s.differ) ∙ subst (λ n. linked S n ≡ true) (same_target R t maps s k m p i within) next;
    named = λ m l. refl;
  }

  -- ---- the ids of what is Linked

  abbrev Ids : List ℕ
  Ids = map (number (map url_of R)) (linked_urls R)

  ids_are : (x : ℕ) → is_in nat_eq Ids x ≡ linked_in R x
  ids_are x = numbered_in (map url_of R) (linked_urls R) x ∙ linked_is R x s.differ

  -- ---- the world

  whole_world : AreWhole (modules_in L) L.unlinked
  whole_world = record {
    targets = λ u i q lt.
        let m : ℕ = number (map url_of R) u in
        let own : Named R m ≡ u = url_number (map url_of R) u in
        subst (λ v. i < length (entries (modules_in L) v).requests → L.unlinked ((modules_in L).target v i) ≡ true) own
        (λ within. target_url R t maps s k m (named_there R t maps s k u q) i within) lt;
    named = λ u q. place_names L.asked u (k.orderly.fetched u (fetched_module (L.entries u) (k.whole.loaded u q).stands));
  }

  -- ---- from a root that isn't New

  module _ (root : ℕ) (p : There root) (a : AreLinked (modules S) (linked S)) (N : List RecordParts) where
    abbrev Over : Option (FaultAt ℕ) → List ℕ → Type 0
    Over f after = IsLinking nat_eq (modules_of T R) Ids root f after

    inside : (x y : ℕ) → There x → is_in nat_eq (targets (modules_of T R) x) y ≡ true → There y
    inside x y q = of_targets (modules_of T R) There x 0 (entries (modules_of T R) x).requests
        (λ j lt. subst (λ n. There (target_at R x n)) (first j) ((whole_records R t maps s k).targets x j q lt)) y

    good : (y : ℕ) → is_in nat_eq Ids y ≡ true → There y
    good y q = linked_there y (sym (ids_are y) ∙ q)

    shut : (x y : ℕ) → is_in nat_eq Ids x ≡ true → is_in nat_eq (targets (modules_of T R) x) y ≡ true → is_in nat_eq Ids y ≡ true
    shut x y q = of_targets (modules_of T R) (λ n. is_in nat_eq Ids n ≡ true) x 0 (entries (modules_of T R) x).requests
        (λ j lt. subst (λ n. is_in nat_eq Ids (target_at R x n) ≡ true) (first j) (ids_are (target_at R x j) ∙ (linked_whole a).targets x j (sym (ids_are x) ∙ q) lt)) y

    -- what is closed then isn't New
    closed_there : (f : Option (FaultAt ℕ)) (after : List ℕ) → Over f after → (y : ℕ) → is_in nat_eq after y ≡ true → There y
    closed_there f after l = (closed_links.linking_closed nat_eq numbers_tell_apart (modules_of T R) Ids There inside good shut root f after p l).good

    -- and has all that was Linked
    closed_before : (f : Option (FaultAt ℕ)) (after : List ℕ) → Over f after → (y : ℕ) → is_in nat_eq Ids y ≡ true → is_in nat_eq after y ≡ true
    closed_before f after l = (closed_links.linking_closed nat_eq numbers_tell_apart (modules_of T R) Ids There inside good shut root f after p l).old

    -- what is Linked then
    linked_after : (f : Option (FaultAt ℕ)) (after : List ℕ) → Over f after → IsRelinked R after N → (x : ℕ) → linked_in N x ≡ is_in nat_eq after x
    linked_after f after l r x = by (lt_or x (length R))
      where
        by : (x < length R) ⊎ (length R ≤ x) → linked_in N x ≡ is_in nat_eq after x
        by (inl lt) =
            ap is_linked (r.status x lt)
            ∙ relinked_is (is_in nat_eq after x) (status_of R x) (λ q. (linkable x (closed_there f after l x q)).1)
            (λ q. closed_before f after l x (ids_are x ∙ q))
        by (inr le) =
            let none : slice_get N x ≡ None = past_end N x (subst (λ n. n ≤ x) (sym (same_length N R r.rest)) le) in
            ap (λ o. is_linked (status_by o)) none
            ∙ sym (not_true (is_in nat_eq after x) (λ q. let lt = past_new_below R x (closed_there f after l x q) in absurd (omega (arith, lt, le))))

    module _ (world : LinkingIsOfTheWorld) (urls : map url_of N ≡ map url_of R) (sound : IsSound N) where
      -- linking by the URLs of the modules, where these are Linked
      abbrev InWorld : List Url → Option (FaultAt ℕ) → Type 0
      InWorld linked_are f = (more : List Url)
          × IsLinking same_url (modules_in L) linked_are (Named R root) (option_map (named_fault (names S)) f) more × SameMembers more (linked_urls N)

      has_after : (f : Option (FaultAt ℕ)) (after : List ℕ) → Over f after → IsRelinked R after N → (u : Url) → has (map (names S).name after) u ≡ has (linked_urls N) u
      has_after f after l r u =
          let x : ℕ = number (map url_of R) u in
          let own : Named N x ≡ u = ap (λ us. (numbering us).name x) urls ∙ url_number (map url_of R) u in
          named_in (map url_of R) after u ∙ sym (linked_after f after l r x) ∙ sym (linked_is N x sound.differ) ∙ ap (has (linked_urls N)) own

      in_world : (linked_are : List Url) → SameMembers linked_are (linked_urls R) → (f : Option (FaultAt ℕ)) (after : List ℕ) → Over f after
          → IsRelinked R after N → InWorld linked_are f
      in_world linked_are same f after l r =
          let over_seen : IsLinking nat_eq (modules S) Ids root f after =
          (linking_is_local ℕ nat_eq (modules_of T R) (modules S) (is_unlinked R) (agree_seen R t maps s k)).links Ids root f after p l in
          let members : (u : Url) → has linked_are u ≡ has (map (names S).name Ids) u =
          (λ u. same u ∙ ap (λ us. has us u) (sym (named_back (map url_of R) (linked_urls R)))) in
          let w = world S L.unlinked linked_are Ids after root f whole_world (unlinked_is R t maps s k root ∙ p) members over_seen in (
            linked_are ++ w.0,
            w.2,
            λ u.
                has_append linked_are w.0 u ∙ ap (λ b. b || has w.0 u) (members u) ∙ sym (has_append (map (names S).name Ids) w.0 u)
                ∙ ap (λ us. has us u) (sym w.1) ∙ has_after f after l r u,
          )

      -- what is seen then
      abbrev Behind : Seen
      Behind = seen_of (imported N t maps conditions.Whole)

      pub links_by : (linked_are : List Url) → SameMembers linked_are (linked_urls R) → (result : Result (Unit {0}) (End LinkFault)) → LinkedAs T R Ids root result N
          → LinksSeen S linked_are root result Behind
      links_by linked_are same (Ok done) l = in_world linked_are same None l.0 l.1 l.2
      links_by linked_are same (Err (Fault f)) l = in_world linked_are same (Some (fault_of f)) l.0 l.1 l.2
      links_by linked_are same (Err Memory) l = tt

      -- the modules of a fault have records
      pub names_by : (result : Result (Unit {0}) (End LinkFault)) → LinkedAs T R Ids root result N → NamesRecords S result
      names_by (Ok done) l = tt
      names_by (Err (Fault f)) l =
          let q = fault_there (modules_of T R) (is_unlinked R) (whole_records R t maps s k) Ids root (fault_of f) l.0 p l.1 in
          let many : length (map url_of R) ≡ length R = length-map R url_of in
          record {
            module_has = subst (λ n. (fault_of f).module_is < n) (sym many) (past_new_below R (fault_of f).module_is q.0);
            target_has = subst (λ n. (fault_of f).target < n) (sym many) (past_new_below R (fault_of f).target q.1);
          }
      names_by (Err Memory) l = tt

      -- what `link` answers, with the Linked modules closed
      pub linked_as : LinksFromLinked → (result : Result (Unit {0}) (End LinkFault)) → IsLinkedBy T R root result N → LinkedAs T R Ids root result N
      linked_as from result links = from T R N (is_unlinked R) Ids root result (whole_records R t maps s k) linkable p (λ x lt. ids_are x) links
