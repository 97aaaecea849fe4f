-- Linking from what is Linked, in place of all that isn't Unlinked.
use Rattle.std.proofs.Common.{◌≡◌, ◌⊎◌, inl, inr, ℕ, zero, suc, ◌<◌, ◌≤◌, Bool, true, false, nat_eq, List, [], ◌∷◌, ◌++◌, length, Some, None, refl, ap, subst, sym, ◌∙◌, arith, eqb-true}
use Rattle.std.specs.Prelude.{◌||◌, not, Result, Ok, Err}
use Rattle.std.proofs.lemmas.Bool.Decides.{nat_tests}
use Rattle.esm_base.specs.Lists.{is_in}
use Rattle.esm_base.specs.declared.end.End.{End}
use Rattle.esm_base.specs.declared.end.End.TheVariants.{Fault, Memory}
use Rattle.esm_tree.specs.Syntax.{Parts}
use Rattle.esm_realm.specs.declared.record.ModuleStatus.{ModuleStatus}
use Rattle.esm_realm.specs.declared.record.ModuleStatus.TheVariants as statuses
use Rattle.esm_realm.specs.Sound.{RecordParts}
use Rattle.esm_realm.specs.ById.{status_of, is_unlinked}
use Rattle.esm_realm.proofs.Lists.{either}
use Rattle.esm_realm.proofs.Numbers.{own, in_append, in_cons}
use Rattle.esm_link.specs.Realm.{modules_of, fault_of, AreClosed, is_linked, relinked, IsRelinked, LinkedAs}
use Rattle.esm_link.specs.Local.{AreWhole, AreTheLinked, AreLinkable, HaveSame, LinksFromLinked}
use Rattle.esm_link.specs.declared.LinkFault.{LinkFault}
use Rattle.esm_link.proofs.Local.{closing_is_local}

strict : (x n : ℕ) → x < suc n → nat_eq x n ≡ false → x < n
strict x n lt e = grind (arith, nat_tests)

-- ---- the numbers below n of which p holds

module _ (p : ℕ → Bool) where
  abbrev and_by : Bool → ℕ → List ℕ → List ℕ
  and_by true n ns = n ∷ ns
  and_by false n ns = ns

  abbrev pub chosen : ℕ → List ℕ
  chosen zero = []
  chosen (suc n) = and_by (p n) n (chosen n)

  other_by : (b : Bool) (n x : ℕ) (ns : List ℕ) → nat_eq x n ≡ false → is_in nat_eq (and_by b n ns) x ≡ is_in nat_eq ns x
  other_by true n x ns e = ap (λ b. b || is_in nat_eq ns x) e
  other_by false n x ns e = refl

  above : (n x : ℕ) → n ≤ x → is_in nat_eq (chosen n) x ≡ false
  above zero x le = refl
  above (suc n) x le = other_by (p n) n x (chosen n) (differ (nat_eq x n) refl) ∙ above n x (omega (arith, le))
    where
      differ : (b : Bool) → nat_eq x n ≡ b → nat_eq x n ≡ false
      differ false e = e
      differ true e = let same = eqb-true x n e in absurd (omega (arith, le, same))

  here_by : (b : Bool) (n : ℕ) (ns : List ℕ) → is_in nat_eq ns n ≡ false → is_in nat_eq (and_by b n ns) n ≡ b
  here_by true n ns e = ap (λ b. b || is_in nat_eq ns n) (own n)
  here_by false n ns e = e

  pub chosen_are : (n x : ℕ) → x < n → is_in nat_eq (chosen n) x ≡ p x
  chosen_are zero x lt = absurd (omega (arith, lt))
  chosen_are (suc n) x lt = by (nat_eq x n) refl (chosen_are n x)
    where
      by : (b : Bool) → nat_eq x n ≡ b → (x < n → is_in nat_eq (chosen n) x ≡ p x) → is_in nat_eq (and_by (p n) n (chosen n)) x ≡ p x
      by true e rest =
          let same : x ≡ n = eqb-true x n e in
          subst (λ y. is_in nat_eq (and_by (p n) n (chosen n)) y ≡ p y) (sym same) (here_by (p n) n (chosen n) (above n n (omega arith)))
      by false e rest = other_by (p n) n x (chosen n) e ∙ rest (strict x n lt e)

  only_by : (b : Bool) (n x : ℕ) (ns : List ℕ) → p n ≡ b → (is_in nat_eq ns x ≡ true → p x ≡ true) → is_in nat_eq (and_by b n ns) x ≡ true → p x ≡ true
  only_by true n x ns e rest h = either (in_cons n ns x h) (λ same. subst (λ y. p y ≡ true) (sym same) e) rest
  only_by false n x ns e rest h = rest h

  pub chosen_only : (n x : ℕ) → is_in nat_eq (chosen n) x ≡ true → p x ≡ true
  chosen_only zero x h = cc
  chosen_only (suc n) x h = only_by (p n) n x (chosen n) refl (chosen_only n x) h

-- ---- statuses

linked_is : (s : ModuleStatus) → (s ≡ statuses.Unlinked) ⊎ (s ≡ statuses.Linked) → not (is_unlinked s) ≡ is_linked s
linked_is s (inl e) = ap (λ s. not (is_unlinked s)) e ∙ sym (ap is_linked e)
linked_is s (inr e) = ap (λ s. not (is_unlinked s)) e ∙ sym (ap is_linked e)

relinked_so : (s : ModuleStatus) (more : Bool) → relinked (not (is_unlinked s) || more) s ≡ relinked (is_linked s || more) s
relinked_so statuses.New true = refl
relinked_so statuses.New false = refl
relinked_so statuses.Unlinked more = refl
relinked_so statuses.Linking true = refl
relinked_so statuses.Linking false = refl
relinked_so statuses.Linked more = refl

module _ (rs new : List RecordParts) (closed linked : List ℕ) (are : AreClosed rs closed) (ones : AreTheLinked rs linked) where
  relinked_as : (after more : List ℕ) → after ≡ closed ++ more → IsRelinked rs after new → IsRelinked rs (linked ++ more) new
  relinked_as after more e r = record {
    status = λ x lt.
        r.status x lt
        ∙ ap (λ l. relinked (is_in nat_eq l x) (status_of rs x)) e
        ∙ ap (λ b. relinked b (status_of rs x)) (in_append closed more x ∙ ap (λ b. b || is_in nat_eq more x) (are x lt))
        ∙ relinked_so (status_of rs x) (is_in nat_eq more x)
        ∙ ap (λ b. relinked b (status_of rs x)) (sym (in_append linked more x ∙ ap (λ b. b || is_in nat_eq more x) (ones x lt)));
    rest = r.rest;
  }

  same_there : (there : ℕ → Bool) → AreLinkable rs there → HaveSame nat_eq there closed linked
  same_there there loaded x p =
      let l = loaded x p in
      ones x l.0 ∙ sym (linked_is (status_of rs x) l.1) ∙ sym (are x l.0)

  module _ (trees : List Parts) (there : ℕ → Bool) (root : ℕ) (whole : AreWhole (modules_of trees rs) there) (loaded : AreLinkable rs there) (p : there root ≡ true) where
    as_linked : (result : Result (Unit {0}) (End LinkFault)) → LinkedAs trees rs closed root result new → LinkedAs trees rs linked root result new
    as_linked (Ok u) l =
        let r = (closing_is_local ℕ nat_eq).links (modules_of trees rs) there closed linked root None l.0 whole p (same_there there loaded) l.1 in
        (linked ++ r.0, r.2, relinked_as l.0 r.0 r.1 l.2)
    as_linked (Err (Fault f)) l =
        let r = (closing_is_local ℕ nat_eq).links (modules_of trees rs) there closed linked root (Some (fault_of f)) l.0 whole p (same_there there loaded) l.1 in
        (linked ++ r.0, r.2, relinked_as l.0 r.0 r.1 l.2)
    as_linked (Err Memory) l =
        let r = (closing_is_local ℕ nat_eq).cut (modules_of trees rs) there closed linked root l.0 whole p (same_there there loaded) l.1 in
        (linked ++ r.0, r.2, relinked_as l.0 r.0 r.1 l.2)

abbrev isnt_unlinked : List RecordParts → ℕ → Bool
isnt_unlinked rs x = not (is_unlinked (status_of rs x))

pub links_from_linked : LinksFromLinked
links_from_linked trees rs new there linked root result whole loaded p ones l =
    let closed = chosen (isnt_unlinked rs) (length rs) in
    let are : AreClosed rs closed = chosen_are (isnt_unlinked rs) (length rs) in
    as_linked rs new closed linked are ones trees there root whole loaded p result (l closed are)
