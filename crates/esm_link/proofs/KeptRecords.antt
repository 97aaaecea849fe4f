-- What changes of the records: linking leaves all but statuses, and what keeps the records of what is there keeps scopes right.
use Rattle.std.proofs.Common.{◌≡◌, ◌⊎◌, inl, inr, ℕ, zero, suc, ◌<◌, ◌≤◌, Bool, true, false, nat_eq, nat_lt, ltb-true, ltb-false, List, [], ◌∷◌, length, map, Some, refl, ap, subst, sym, ◌∙◌}
use Rattle.std.specs.Prelude.{not, slice_get, Result, Ok, Err}
use Rattle.std.specs.Option.{option_map}
use Rattle.esm_base.specs.Lists.{is_in}
use Rattle.esm_base.specs.declared.end.End.{End}
use Rattle.esm_base.specs.declared.end.End.TheVariants.{Fault, Memory}
use Rattle.esm_tree.specs.Syntax.{Parts}
use Rattle.esm_ast.specs.Entries.{entries_of}
use Rattle.esm_realm.specs.declared.record.ModuleStatus.{ModuleStatus}
use Rattle.esm_realm.specs.declared.record.ModuleStatus.TheVariants as statuses
use Rattle.esm_realm.specs.Sound.{RecordParts}
use Rattle.esm_realm.specs.ById.{status_by, status_of, is_unlinked, without_status}
use Rattle.esm_realm.proofs.Lists.{either}
use Rattle.esm_realm.proofs.Urls.{cases}
use Rattle.esm_env.specs.Modules.{Modules, entries}
use Rattle.esm_env.specs.Faithful.{AreScopesOf}
use Rattle.esm_env.specs.Scopes.{Scopes, scope_in}
use Rattle.esm_env.specs.declared.scope.ModuleScope.{ModuleScope}
use Rattle.esm_link.specs.Realm.{modules_of, is_linked, relinked, AreClosed, IsRelinked, LinkedAs}
use Rattle.esm_link.specs.Local.{AreWhole, AgreeOn}
use Rattle.esm_link.specs.Scopes.{linked_in, IsLinkedRealm, LeavesRecords, LinkLeavesRecords, AreKept, RecordsKeepScopes}
use Rattle.esm_link.specs.declared.LinkFault.{LinkFault}
use Rattle.esm_link.proofs.FromLinked.{chosen, chosen_are}
use Rattle.esm_link.proofs.KeptScopes.{scopes_are_local}
use Rattle.esm_link.proofs.Marking.{plain_modules, length_plain}
use Rattle.esm_link.proofs.SameRecords.{records_agree}
use Rattle.esm_link.proofs.Trees.{past}

-- ---- behind linking

plain_at : (rs : List RecordParts) (x : ℕ) → slice_get (map without_status rs) x ≡ option_map without_status (slice_get rs x)
plain_at [] x = refl
plain_at (r ∷ rs) zero = refl
plain_at (r ∷ rs) (suc x) = plain_at rs x

abbrev Changed : ModuleStatus → ModuleStatus → Type 0
Changed old new = (new ≡ old) ⊎ ((old ≡ statuses.Unlinked) × (new ≡ statuses.Linked))

relinked_changed : (b : Bool) (s : ModuleStatus) → Changed s (relinked b s)
relinked_changed true statuses.New = inl refl
relinked_changed false statuses.New = inl refl
relinked_changed true statuses.Unlinked = inr (refl, refl)
relinked_changed false statuses.Unlinked = inl refl
relinked_changed true statuses.Linking = inl refl
relinked_changed false statuses.Linking = inl refl
relinked_changed true statuses.Linked = inl refl
relinked_changed false statuses.Linked = inl refl

-- which modules have become Linked
abbrev HasRelinked : List RecordParts → List RecordParts → Type 0
HasRelinked rs new = (after : List ℕ) × IsRelinked rs after new

relinked_by : (trees : List Parts) (rs new : List RecordParts) (closed : List ℕ) (root : ℕ) (result : Result (Unit {0}) (End LinkFault)) → LinkedAs trees rs closed root result new → HasRelinked rs new
relinked_by trees rs new closed root (Ok u) k = (k.0, k.2)
relinked_by trees rs new closed root (Err (Fault f)) k = (k.0, k.2)
relinked_by trees rs new closed root (Err Memory) k = (k.0, k.2)

-- all that isn't Unlinked
abbrev entered_never : List RecordParts → List ℕ
entered_never rs = chosen (λ x. not (is_unlinked (status_of rs x))) (length rs)

never_are : (rs : List RecordParts) → AreClosed rs (entered_never rs)
never_are rs = chosen_are (λ x. not (is_unlinked (status_of rs x))) (length rs)

left : (trees : List Parts) (rs new : List RecordParts) (after : List ℕ) → IsRelinked rs after new → LeavesRecords trees rs new
left trees rs new after r = record {
  records = λ x. sym (plain_at new x) ∙ ap (λ rs. slice_get rs x) r.rest ∙ plain_at rs x;
  modules = sym (plain_modules trees new) ∙ ap (modules_of trees) r.rest ∙ plain_modules trees rs;
  statuses_are = λ x. either (cases (nat_lt x (length rs)))
      (λ t. subst (Changed (status_of rs x)) (sym (r.status x (ltb-true x (length rs) t))) (relinked_changed (is_in nat_eq after x) (status_of rs x)))
      (λ f. inl (far x (ltb-false x (length rs) f)));
}
  where
    same_length : length new ≡ length rs
    same_length = sym (length_plain new) ∙ ap length r.rest ∙ length_plain rs

    far : (x : ℕ) → length rs ≤ x → status_of new x ≡ status_of rs x
    far x le = ap status_by (past new x (subst (λ n. n ≤ x) (sym same_length) le) ∙ sym (past rs x le))

pub link_leaves_records : LinkLeavesRecords
link_leaves_records trees rs new root result l =
    let k = relinked_by trees rs new (entered_never rs) root result (l (entered_never rs) (never_are rs)) in
    left trees rs new k.0 k.1

-- ---- where records are kept

module _ (trees others : List Parts) (rs qs : List RecordParts) (there : ℕ → Bool) (e : Scopes) (w : AreWhole (modules_of trees rs) there)
    (kept : AreKept trees others rs qs there) (scoped : (m : ℕ) (s : ModuleScope) → scope_in e m ≡ Some s → there m ≡ true) (old : IsLinkedRealm trees rs e) where
  abbrev g : Modules ℕ
  g = modules_of trees rs

  abbrev h : Modules ℕ
  h = modules_of others qs

  agree : AgreeOn g h there
  agree = records_agree trees others rs qs there w (λ x p. (kept.trees_are x p, ap (option_map without_status) (kept.records x p)))

  status_same : (x : ℕ) → there x ≡ true → linked_in qs x ≡ linked_in rs x
  status_same x p = ap (λ o. is_linked (status_by o)) (kept.records x p)

  -- the same modules are Linked
  linked_same : (x : ℕ) → linked_in qs x ≡ linked_in rs x
  linked_same x = either (cases (there x)) (status_same x) (λ f. away (linked_in qs x) refl (linked_in rs x) refl f)
    where
      away : (a : Bool) → linked_in qs x ≡ a → (b : Bool) → linked_in rs x ≡ b → there x ≡ false → a ≡ b
      away true p b q f = let both : true ≡ false = sym (kept.behind x p) ∙ f in cc
      away false p true q f = let both : true ≡ false = sym (kept.before x q) ∙ f in cc
      away false p false q f = refl

  whole_still : AreWhole h (linked_in qs)
  whole_still = record {
    targets = λ m i p lt.
        let was : linked_in rs m ≡ true = sym (linked_same m) ∙ p in
        let at : there m ≡ true = kept.behind m p in
        let below : i < length (entries g m).requests = subst (λ items. i < length (entries_of items).requests) (agree.tree m at) lt in
        ap (linked_in qs) (agree.target m i at below) ∙ linked_same (g.target m i) ∙ old.whole.targets m i was below;
    named = λ m p. refl;
  }

  still : IsLinkedRealm others qs e
  still = record {
    whole = whole_still;
    scopes = subst (λ (linked : ℕ → Bool). AreScopesOf h linked e) (λ i x. sym (linked_same x) i) (scopes_are_local.all g h there (linked_in rs) e agree kept.below scoped old.scopes);
  }

pub records_keep_scopes : RecordsKeepScopes
records_keep_scopes trees others rs qs there e w kept scoped old = still trees others rs qs there e w kept scoped old
