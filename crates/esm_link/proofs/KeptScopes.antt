-- Linking keeps scopes right, and so does what leaves the modules that have scopes as they are.
use Rattle.std.proofs.Common.{◌≡◌, ◌⊎◌, inl, inr, ℕ, zero, suc, ◌+◌, ◌<◌, Bool, true, false, nat_eq, List, [], ◌∷◌, length, Option, Some, None, refl, ap, subst, sym, ◌∙◌, arith, eqb-true}
use Rattle.std.specs.Prelude.{is_some, Result, Ok, Err}
use Rattle.std.proofs.lemmas.Option.{slice_get_within}
use Rattle.std.specs.Arc.{arc_value}
use mathlib.Core.Bool.{true≢false}
use Rattle.esm_base.specs.Lists.{is_in, IsSameness}
use Rattle.esm_base.specs.declared.end.End.{End}
use Rattle.esm_base.specs.declared.end.End.TheVariants.{Fault, Memory}
use Rattle.esm_tree.specs.Syntax.{Parts}
use Rattle.esm_tree.specs.declared.node.Wanted.{Wanted}
use Rattle.esm_tree.specs.declared.node.Wanted.TheVariants as wanted
use Rattle.esm_ast.specs.Entries.{entries_of}
use Rattle.esm_ast.specs.declared.entries.ImportEntry.{ImportEntry}
use Rattle.esm_ast.proofs.Requests.{names_requests}
use Rattle.esm_realm.specs.declared.record.ModuleStatus.{ModuleStatus}
use Rattle.esm_realm.specs.declared.record.ModuleStatus.TheVariants as statuses
use Rattle.esm_realm.specs.Sound.{RecordParts}
use Rattle.esm_realm.specs.ById.{status_of, is_unlinked}
use Rattle.esm_realm.proofs.Lists.{either}
use Rattle.esm_realm.proofs.Numbers.{own, in_first, in_later, in_cons}
use Rattle.esm_realm.proofs.Urls.{cases}
use Rattle.esm_resolve.specs.Graph.{IsSound as IsSoundFrom}
use Rattle.esm_resolve.specs.declared.graph.Binding.TheVariants as bindings
use Rattle.esm_resolve.specs.declared.graph.Resolution.{Resolution}
use Rattle.esm_resolve.specs.declared.graph.Resolution.TheVariants as resolutions
use Rattle.esm_env.specs.Declarations.{Initial, initial}
use Rattle.esm_env.specs.Modules.{Modules, entries, graph, Exports}
use Rattle.esm_env.specs.Bindings as names
use Rattle.esm_env.specs.Bindings.{CellOf, WholeOf, Binds, import_as, whole_only, whole_by, own_by, target_of}
use Rattle.esm_env.specs.Faithful.{SlotFits, target_in, HasScope, IsFaithful, IsFaithfulAt, HasImports, AreScopesOf}
use Rattle.esm_env.specs.Scopes.{Scopes, scope_in, import_in, written_by, cells_of}
use Rattle.esm_env.specs.Slots.{slot_in, written_in}
use Rattle.esm_env.specs.declared.scope.ModuleScope.{ModuleScope}
use Rattle.esm_env.specs.declared.scope.Target.{Target}
use Rattle.esm_env.specs.declared.scope.Target.TheVariants as targets
use Rattle.esm_env.proofs.MadeLemmas.{made_unwritten}
use Rattle.esm_resolve.specs.Resolution.{module_id}
use Rattle.esm_link.specs.Link as link
use Rattle.esm_link.specs.Realm.{modules_of, items_by, fault_of, is_linked, relinked, IsRelinked, IsLinkedBy, LinkedAs, IsLinkedScope, MakesScopes}
use Rattle.esm_link.specs.Local.{AreWhole, AgreeOn, AreTheLinked, AreLinkable}
use Rattle.esm_link.specs.Scopes.{linked_in, IsLinkedRealm, LinkKeepsScopes, ScopesAreLocal}
use Rattle.esm_link.specs.Inner.Graph.{IsInside}
use Rattle.esm_link.specs.declared.LinkFault.{LinkFault}
use Rattle.esm_link.proofs.Local.{agree_itself, imported_below, reached, home, binds_alike, import_alike}
use Rattle.esm_link.proofs.ClosedLinks.{AreClosed, linking_closed, cut_closed}
use Rattle.esm_link.proofs.FaithfulScopes.{linked_scopes_are_faithful}
use Rattle.esm_link.proofs.FromLinked.{chosen, chosen_are, chosen_only, links_from_linked}
use Rattle.esm_link.proofs.Linking.{sound_records, inside_of}
use Rattle.esm_link.proofs.Marking.{plain_modules, length_plain}
use Rattle.esm_link.proofs.Resolved.{sound}

-- ---- what an import is bound to is among the modules that are there

module _ (g : Modules ℕ) (there : ℕ → Bool) (w : AreWhole g there) where
  abbrev There : ℕ → Type 0
  There m = there m ≡ true

  abbrev TargetThere : Option (names.Target ℕ) → Type 0
  TargetThere None = Unit {0}
  TargetThere (Some (CellOf m x)) = There m
  TargetThere (Some (WholeOf m)) = There m

  whole_there : (m : ℕ) (x : List ℕ) → There m → (o : Option ImportEntry) → import_as g m x ≡ o → TargetThere (whole_by g m o)
  whole_there m x p None is = tt
  whole_there m x p (Some e) is = by e.wanted
    where
      by : (v : Wanted) → TargetThere (whole_only g m e.request v)
      by wanted.Whole = w.targets m e.request p (imported_below g there w m x e is)
      by (wanted.Named name) = tt

  own_there : (m : ℕ) (x : List ℕ) → There m → (i : Option Initial) → TargetThere (own_by g m x i)
  own_there m x p (Some i) = p
  own_there m x p None = whole_there m x p (import_as g m x) refl

  end_there : (m : ℕ) (name : List ℕ) (r : Resolution) → There m → Exports g m name r → TargetThere (target_of g r)
  end_there m name resolutions.Missing p q = tt
  end_there m name resolutions.Ambiguous p q = tt
  end_there m name (resolutions.One id bindings.Whole) p q = (home nat_eq g g there (agree_itself g there w) m name id.0 bindings.Whole p q).there_is
  end_there m name (resolutions.One id (bindings.Local y)) p q =
      let at = (home nat_eq g g there (agree_itself g there w) m name id.0 (bindings.Local y) p q).there_is in
      own_there (g.named id.0) y at (initial (g.tree (g.named id.0)) y)

  bound_there : (m : ℕ) (x : List ℕ) {t : Option (names.Target ℕ)} → There m → Binds g m x t → TargetThere t
  bound_there m x p (Binds.no_import is) = tt
  bound_there m x p (Binds.whole e is v) = w.targets m e.request p (imported_below g there w m x e is)
  bound_there m x p (Binds.named e name r is v q) = end_there (g.target m e.request) name r (w.targets m e.request p (imported_below g there w m x e is)) q

  module _ (e : Scopes) (made : (m : ℕ) → There m → (s : ModuleScope) × (scope_in e m ≡ Some s)) where
    has_scope : (t : Option Target) → TargetThere (target_in t) → HasScope e t
    has_scope None h = tt
    has_scope (Some (targets.Cell m x)) h = made m.0 h
    has_scope (Some (targets.Whole m)) h = made m.0 h

    pub imports_have : (m : ℕ) (s : ModuleScope) → There m → IsFaithfulAt g m s → (x : List ℕ) → HasScope e (import_in s.imports.items x)
    imports_have m s p f x = has_scope (import_in s.imports.items x) (bound_there m x p (f.bound x))

-- ---- the modules that are Linked behind linking

sameness : IsSameness nat_eq
sameness = record { own = own; equal = eqb-true }

module _ (g : Modules ℕ) where
  target_from : (x i k : ℕ) (rs : List (List ℕ)) → k < length rs → is_in nat_eq (link.targets_from g x i rs) (g.target x (i + k)) ≡ true
  target_from x i k [] lt = absurd (omega (arith, lt))
  target_from x i zero (r ∷ rs) lt =
      let e : i + 0 ≡ i = omega arith in
      subst (λ j. is_in nat_eq (link.targets_from g x i (r ∷ rs)) (g.target x j) ≡ true) (sym e) (in_first (g.target x i) (link.targets_from g x (suc i) rs))
  target_from x i (suc k) (r ∷ rs) lt =
      let e : suc i + k ≡ i + suc k = omega arith in
      let later = target_from x (suc i) k rs (omega (arith, lt)) in
      subst (λ j. is_in nat_eq (link.targets_from g x i (r ∷ rs)) (g.target x j) ≡ true) e (in_later (g.target x i) (link.targets_from g x (suc i) rs) (g.target x (suc i + k)) later)

  target_among : (x i : ℕ) → i < length (entries g x).requests → is_in nat_eq (link.targets g x) (g.target x i) ≡ true
  target_among x i lt =
      let e : 0 + i ≡ i = omega arith in
      subst (λ j. is_in nat_eq (link.targets g x) (g.target x j) ≡ true) e (target_from x 0 i (entries g x).requests lt)

  -- the other way round: what is among the targets is the target of a request
  record Requested (x i t : ℕ) (n : ℕ) : Type 0 where
    place : ℕ
    within : place < n
    is : g.target x (i + place) ≡ t

  requested : (x i t : ℕ) (rs : List (List ℕ)) → is_in nat_eq (link.targets_from g x i rs) t ≡ true → Requested x i t (length rs)
  requested x i t [] h = absurd (true≢false (sym h))
  requested x i t (r ∷ rs) h = either (in_cons (g.target x i) (link.targets_from g x (suc i) rs) t h)
      (λ e. record { place = 0; within = omega arith; is = subst (λ j. g.target x j ≡ t) (omega arith) (sym e) })
      (λ k. let q = requested x (suc i) t rs k in record { place = suc q.place; within = let lt = q.within in omega (arith, lt); is = subst (λ j. g.target x j ≡ t) (omega arith) q.is })

status_below : (rs : List RecordParts) (x : ℕ) → linked_in rs x ≡ true → x < length rs
status_below [] x h = absurd (true≢false (sym h))
status_below (r ∷ rs) zero h = omega arith
status_below (r ∷ rs) (suc x) h = let lt = status_below rs x h in omega (arith, lt)

not_linked : (s : ModuleStatus) → is_unlinked s ≡ true → is_linked s ≡ false
not_linked statuses.New u = absurd (true≢false (sym u))
not_linked statuses.Unlinked u = refl
not_linked statuses.Linking u = absurd (true≢false (sym u))
not_linked statuses.Linked u = absurd (true≢false (sym u))

linked_status : (s : ModuleStatus) → is_linked s ≡ true → s ≡ statuses.Linked
linked_status statuses.New h = absurd (true≢false (sym h))
linked_status statuses.Unlinked h = absurd (true≢false (sym h))
linked_status statuses.Linking h = absurd (true≢false (sym h))
linked_status statuses.Linked h = refl

-- ---- statuses behind linking

module _ (trees : List Parts) (rs new : List RecordParts) (there : ℕ → Bool) (root : ℕ) (result : Result (Unit {0}) (End LinkFault))
    (inside : IsInside trees rs) (whole : AreWhole (modules_of trees rs) there) (linkable : AreLinkable rs there) (p : there root ≡ true)
    (linked_whole : AreWhole (modules_of trees rs) (linked_in rs)) (l : IsLinkedBy trees rs root result new) where
  abbrev g : Modules ℕ
  g = modules_of trees rs

  abbrev linked : List ℕ
  linked = chosen (linked_in rs) (length rs)

  linked_are : AreTheLinked rs linked
  linked_are = chosen_are (linked_in rs) (length rs)

  -- what may be entered or closed
  abbrev Good : ℕ → Type 0
  Good x = (there x ≡ true) ⊎ (linked_in rs x ≡ true)

  good_inside : (x t : ℕ) → Good x → is_in nat_eq (link.targets g x) t ≡ true → Good t
  good_inside x t (inl k) h = let q = requested g x 0 t (entries g x).requests h in inl (subst (λ y. there y ≡ true) q.is (whole.targets x (0 + q.place) k (subst (λ n. n < length (entries g x).requests) (omega arith) q.within)))
  good_inside x t (inr k) h = let q = requested g x 0 t (entries g x).requests h in inr (subst (λ y. linked_in rs y ≡ true) q.is (linked_whole.targets x (0 + q.place) k (subst (λ n. n < length (entries g x).requests) (omega arith) q.within)))

  good_below : (x : ℕ) → Good x → x < length rs
  good_below x (inl k) = (linkable x k).0
  good_below x (inr k) = status_below rs x k

  linked_good : (x : ℕ) → is_in nat_eq linked x ≡ true → Good x
  linked_good x h = inr (chosen_only (linked_in rs) (length rs) x h)

  old_whole : (m t : ℕ) → is_in nat_eq linked m ≡ true → is_in nat_eq (link.targets g m) t ≡ true → is_in nat_eq linked t ≡ true
  old_whole m t h k =
      let q = requested g m 0 t (entries g m).requests k in
      let r = linked_whole.targets m (0 + q.place) (chosen_only (linked_in rs) (length rs) m h) (subst (λ n. n < length (entries g m).requests) (omega arith) q.within) in
      let s : linked_in rs t ≡ true = subst (λ y. linked_in rs y ≡ true) q.is r in
      linked_are t (status_below rs t s) ∙ s

  -- what is closed in the end
  record Behind : Type 0 where
    after : List ℕ
    relinked_is : IsRelinked rs after new
    closed : AreClosed nat_eq sameness g linked Good good_inside linked_good old_whole after

  behind : (r : Result (Unit {0}) (End LinkFault)) → LinkedAs trees rs linked root r new → Behind
  behind (Ok u) k = record { after = k.0; relinked_is = k.2; closed = linking_closed nat_eq sameness g linked Good good_inside linked_good old_whole root None k.0 (inl p) k.1 }
  behind (Err (Fault f)) k = record { after = k.0; relinked_is = k.2; closed = linking_closed nat_eq sameness g linked Good good_inside linked_good old_whole root (Some (fault_of f)) k.0 (inl p) k.1 }
  behind (Err Memory) k = record { after = k.0; relinked_is = k.2; closed = cut_closed nat_eq sameness g linked Good good_inside linked_good old_whole root k.0 (inl p) k.1 }

  the_end : Behind
  the_end = behind result (links_from_linked trees rs new there linked root result whole linkable p linked_are l)

  -- a status behind linking that is Linked
  was : (b : Bool) (s : ModuleStatus) → is_linked (relinked b s) ≡ true → (is_linked s ≡ true) ⊎ ((b ≡ true) × (s ≡ statuses.Unlinked))
  was true statuses.New h = absurd (true≢false (sym h))
  was false statuses.New h = absurd (true≢false (sym h))
  was true statuses.Unlinked h = inr (refl, refl)
  was false statuses.Unlinked h = absurd (true≢false (sym h))
  was true statuses.Linking h = absurd (true≢false (sym h))
  was false statuses.Linking h = absurd (true≢false (sym h))
  was true statuses.Linked h = inl refl
  was false statuses.Linked h = inl refl

  now_linked : (s : ModuleStatus) → (s ≡ statuses.Unlinked) ⊎ (s ≡ statuses.Linked) → is_linked (relinked true s) ≡ true
  now_linked s (inl e) = ap (λ s. is_linked (relinked true s)) e
  now_linked s (inr e) = ap (λ s. is_linked (relinked true s)) e

  same_length : length new ≡ length rs
  same_length = sym (length_plain new) ∙ ap length the_end.relinked_is.rest ∙ length_plain rs

  below_new : (x : ℕ) → linked_in new x ≡ true → x < length rs
  below_new x h = subst (λ n. x < n) same_length (status_below new x h)

  came : (x : ℕ) → linked_in new x ≡ true → (linked_in rs x ≡ true) ⊎ ((is_in nat_eq the_end.after x ≡ true) × (status_of rs x ≡ statuses.Unlinked))
  came x h = was (is_in nat_eq the_end.after x) (status_of rs x) (sym (ap is_linked (the_end.relinked_is.status x (below_new x h))) ∙ h)

  is_closed : (x : ℕ) → linked_in new x ≡ true → is_in nat_eq the_end.after x ≡ true
  is_closed x h = either (came x h) (λ k. the_end.closed.old x (linked_are x (below_new x h) ∙ k)) (λ k. k.0)

  status_good : (x : ℕ) → Good x → (status_of rs x ≡ statuses.Unlinked) ⊎ (status_of rs x ≡ statuses.Linked)
  status_good x (inl k) = (linkable x k).1
  status_good x (inr k) = inr (linked_status (status_of rs x) k)

  closed_is : (x : ℕ) → is_in nat_eq the_end.after x ≡ true → linked_in new x ≡ true
  closed_is x h =
      let k = the_end.closed.good x h in
      ap is_linked (the_end.relinked_is.status x (good_below x k) ∙ ap (λ b. relinked b (status_of rs x)) h) ∙ now_linked (status_of rs x) (status_good x k)

  -- what was Linked is Linked still
  stays : (x : ℕ) → linked_in rs x ≡ true → linked_in new x ≡ true
  stays x h = closed_is x (the_end.closed.old x (linked_are x (status_below rs x h) ∙ h))

  was_not : (x : ℕ) → linked_in new x ≡ false → linked_in rs x ≡ false
  was_not x h = either (cases (linked_in rs x)) (λ k. absurd (true≢false (sym (stays x k) ∙ h))) (λ k. k)

  modules_are : modules_of trees new ≡ g
  modules_are = sym (plain_modules trees new) ∙ ap (modules_of trees) the_end.relinked_is.rest ∙ plain_modules trees rs

  whole_new : AreWhole g (linked_in new)
  whole_new = record {
    targets = λ m i h lt. closed_is (g.target m i) (the_end.closed.whole m (g.target m i) (is_closed m h) (target_among g m i lt));
    named = λ m h. refl;
  }

  -- ---- scopes

  module _ (e after : Scopes) (makes : MakesScopes trees rs e new after) (old : AreScopesOf g (linked_in rs) e) where
    abbrev LinkedScope : ℕ → ModuleScope → Type 0
    LinkedScope m s = IsLinkedScope trees rs m (Some s)

    -- a scope was there, or linking has made it
    origin : (m : ℕ) (s : ModuleScope) → scope_in after m ≡ Some s → (scope_in e m ≡ Some s) ⊎ LinkedScope m s
    origin m s is = either (cases (is_unlinked (status_of rs m)))
        (λ u. either (makes.unlinked m u) (λ k. inl (sym k ∙ is)) (λ k. inr (subst (IsLinkedScope trees rs m) is k)))
        (λ u. inl (sym (makes.others m u) ∙ is))

    tree_of : (m : ℕ) (s : ModuleScope) → LinkedScope m s → (arc_value s.tree).items ≡ g.tree m
    tree_of m s k = ap (λ (t : Parts). t.items) k.made.2 ∙ sym (ap items_by k.tree_is)

    imports_of : (m : ℕ) (s : ModuleScope) → LinkedScope m s → HasImports g m s
    imports_of m s k = λ x. ap (λ is. is_some (import_in is x)) k.made.1 ∙ k.all x

    not_old : {C : Type 0} (s : ModuleStatus) → s ≡ statuses.Unlinked → is_linked s ≡ true → C
    not_old s u h = absurd (true≢false (sym h ∙ ap is_linked u))

    others_stay : (m : ℕ) → linked_in rs m ≡ true → scope_in after m ≡ scope_in e m
    others_stay m h = makes.others m (ap is_unlinked (linked_status (status_of rs m) h))

    new_scope : (m : ℕ) → linked_in new m ≡ true → status_of rs m ≡ statuses.Unlinked → IsLinkedScope trees rs m (scope_in after m)
    new_scope m h u = makes.linked m (ap is_unlinked u) (linked_status (status_of new m) h)

    some_scope : (m : ℕ) (o : Option ModuleScope) → IsLinkedScope trees rs m o → (s : ModuleScope) × (o ≡ Some s)
    some_scope m None k = absurd k.made
    some_scope m (Some s) k = (s, refl)

    faithful_new : IsFaithful g after
    faithful_new m s is = either (origin m s is) (old.faithful m s) (linked_scopes_are_faithful trees rs m s)

    made_new : (m : ℕ) → linked_in new m ≡ true → (s : ModuleScope) × (scope_in after m ≡ Some s)
    made_new m h = either (came m h)
        (λ k. let s = old.made m k in (s.0, others_stay m k ∙ s.1))
        (λ k. some_scope m (scope_in after m) (new_scope m h k.1))

    -- ---- what imports lead to

    leads_inside : (m : ℕ) (s : ModuleScope) (i : ImportEntry) → LinkedScope m s → IsSoundFrom (graph g) (g.target m i.request)
    leads_inside m s i k =
        let below : m < length rs = subst (λ n. m < n) inside.trees_are.as_many (slice_get_within trees m k.tree k.tree_is) in
        sound trees rs inside (g.target m i.request) (inside.target m i.request below)

    inside_new : (m : ℕ) (s : ModuleScope) (x : List ℕ) (i : ImportEntry) → scope_in after m ≡ Some s → import_as g m x ≡ Some i
        → IsSoundFrom (graph g) (g.target m i.request)
    inside_new m s x i is im = either (origin m s is) (λ k. old.inside m s x i k im) (leads_inside m s i)

    -- ---- what was written

    nothing : (m : ℕ) (x : List ℕ) (o : Option ModuleScope) → IsLinkedScope trees rs m o → written_by o x ≡ None
    nothing m x None k = refl
    nothing m x (Some s) k = ap (λ ss. written_in (slot_in ss x)) k.made.0 ∙ made_unwritten (module_id m) k.tree.items x

    pub cells_stay : (m : ℕ) (x : List ℕ) → cells_of after m x ≡ cells_of e m x
    cells_stay m x = either (cases (is_unlinked (status_of rs m)))
        (λ u. either (makes.unlinked m u)
        (λ k. ap (λ o. written_by o x) k)
        (λ k. nothing m x (scope_in after m) k ∙ sym (old.unwritten m x (not_linked (status_of rs m) u))))
        (λ u. ap (λ o. written_by o x) (makes.others m u))

    imports_new : (m : ℕ) (s : ModuleScope) → linked_in new m ≡ true → scope_in after m ≡ Some s → HasImports g m s
    imports_new m s h is = either (came m h)
        (λ k. old.imports m s k (sym (others_stay m k) ∙ is))
        (λ k. imports_of m s (subst (IsLinkedScope trees rs m) is (new_scope m h k.1)))

    scopes_new : AreScopesOf g (linked_in new) after
    scopes_new = record {
      faithful = faithful_new;
      trees = λ m s is. either (origin m s is) (old.trees m s) (tree_of m s);
      made = made_new;
      imports = imports_new;
      bound = λ m s h is. imports_have g (linked_in new) whole_new after made_new m s h (faithful_new m s is);
      inside = inside_new;
      unwritten = λ m x h. cells_stay m x ∙ old.unwritten m x (was_not m h);
    }

    realm_new : IsLinkedRealm trees new after
    realm_new = record {
      whole = subst (λ g. AreWhole g (linked_in new)) (sym modules_are) whole_new;
      scopes = subst (λ g. AreScopesOf g (linked_in new) after) (sym modules_are) scopes_new;
    }

pub link_keeps_scopes : LinkKeepsScopes
link_keeps_scopes trees rs new e after there root result sound_is trees_are whole linkable p l makes old =
    let inside = inside_of trees rs (sound_records trees rs sound_is trees_are) in
    record {
      realm = realm_new trees rs new there root result inside whole linkable p old.whole l e after makes old.scopes;
      cells = cells_stay trees rs new there root result inside whole linkable p old.whole l e after makes old.scopes;
    }

-- ---- other modules that agree on what has scopes

one_local : (g h : Modules ℕ) (there : ℕ → Bool) (m : ℕ) (s : ModuleScope) → AgreeOn g h there → there m ≡ true → IsFaithfulAt g m s → IsFaithfulAt h m s
one_local g h there m s k p f = record {
  slots = λ x. subst (λ items. SlotFits m (slot_in s.slots.items x) (initial items x)) (sym (k.tree m p)) (f.slots x);
  bound = λ x. binds_alike nat_eq g h there k m x p (f.bound x);
  namespace = f.namespace;
}

-- the other one is whole, too
whole_other : (g h : Modules ℕ) (there : ℕ → Bool) → AgreeOn g h there → AreWhole h there
whole_other g h there k = record {
  targets = λ m i p lt.
      let below : i < length (entries g m).requests = subst (λ items. i < length (entries_of items).requests) (k.tree m p) lt in
      subst (λ n. there n ≡ true) (sym (k.target m i p below)) (k.whole.targets m i p below);
  named = k.named;
}

-- exports can be resolved from what is there, where all of it has numbers
sound_there : (h : Modules ℕ) (there : ℕ → Bool) (w : AreWhole h there) → ((m : ℕ) → there m ≡ true → h.number m < h.size)
    → (t : ℕ) → there t ≡ true → IsSoundFrom (graph h) (h.number t)
sound_there h there w below t p n r =
    let s = reached h there w p r in
    record { below = subst (λ n. n < h.size) s.number_is (below (h.named n) s.there_is); exports = (names_requests (h.tree (h.named n))).exports }

leads_there : (g h : Modules ℕ) (there : ℕ → Bool) → AgreeOn g h there → ((m : ℕ) → there m ≡ true → h.number m < h.size)
    → (m : ℕ) (x : List ℕ) (i : ImportEntry) → there m ≡ true → import_as h m x ≡ Some i → IsSoundFrom (graph h) (h.number (h.target m i.request))
leads_there g h there k below m x i p im =
    let w = whole_other g h there k in
    sound_there h there w below (h.target m i.request) (w.targets m i.request p (imported_below h there w m x i im))

pub scopes_are_local : ScopesAreLocal
scopes_are_local = record {
  all = λ g h there linked e k below here old. record {
    faithful = λ m s is. one_local g h there m s k (here m s is) (old.faithful m s is);
    trees = λ m s is. old.trees m s is ∙ sym (k.tree m (here m s is));
    made = old.made;
    imports = λ m s l is x. old.imports m s l is x ∙ ap is_some (sym (import_alike nat_eq g h there k m x (here m s is)));
    bound = old.bound;
    inside = λ m s x i is im. leads_there g h there k below m x i (here m s is) im;
    unwritten = old.unwritten;
  };
  one = one_local;
  linked = λ trees others rs qs there m o k p same l. record {
    tree = l.tree;
    imports = l.imports;
    tree_is = same ∙ l.tree_is;
    made = l.made;
    bound = λ x. binds_alike nat_eq (modules_of trees rs) (modules_of others qs) there k m x p (l.bound x);
    all = λ x. l.all x ∙ ap is_some (sym (import_alike nat_eq (modules_of trees rs) (modules_of others qs) there k m x p));
  };
}
