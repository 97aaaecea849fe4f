-- The namespaces of a module by local name.
use Rattle.std.proofs.Common.{◌≡◌, ℕ, ◌+◌, ◌≤◌, Bool, true, false, cond, List, length, drop, Option, Some, None, refl, ap, subst, sym, ◌∙◌}
use Rattle.std.specs.Prelude.{slice_get}
use Rattle.std.specs.Option.{option_or}
use Rattle.std.specs.Str.{bytes_eq}
use Rattle.std.proofs.Math.ListN.{drop_of_length-le}
use Rattle.std.specs.Prelude.{is_some}
use Rattle.std.proofs.lemmas.Slice.Eq.{bytes_eq-Decides}
use mathlib.Core.Bool.{true≢false}
use Rattle.esm_base.specs.TextMap.{TextMapView, at, with, with_new}
use Rattle.esm_base.proofs.TextMaps.{at-with_own, at-with_other, with_new-there, with_new-fresh}
use Rattle.esm_base.specs.declared.module_id.ModuleId.{ModuleId}
use Rattle.esm_tree.specs.declared.node.Wanted.TheVariants as wanted
use Rattle.esm_ast.specs.declared.entries.ImportEntry.{ImportEntry}
use Rattle.esm_resolve.specs.Resolution.{module_id}
use Rattle.std.proofs.Common.{nat_eq, eqb-true}
use Rattle.esm_env.specs.Modules.{Modules}
use Rattle.esm_link.specs.Inner.Graph.{only_if_named, namespace_by, namespace_in, AreNames}
use Rattle.esm_link.proofs.Marking.{drop_at}

or_nothing : (o : Option ModuleId) → o ≡ option_or o None
or_nothing None = refl
or_nothing (Some m) = refl

known_or : (o other : Option ModuleId) → is_some o ≡ true → o ≡ option_or o other
known_or None other e = cc
known_or (Some m) other e = refl

none_or : (o other : Option ModuleId) → is_some o ≡ false → other ≡ option_or o other
none_or None other e = refl
none_or (Some m) other e = cc

-- a map with a name that is put in unless it is there
module _ (old new : TextMapView ModuleId) (key : List ℕ) (m : ModuleId) (x : List ℕ) where
  there : is_some (at key old) ≡ true → (b : Bool) → bytes_eq key x ≡ b → at x old ≡ option_or (at x old) (cond b (Some m) None)
  there h false e = or_nothing (at x old)
  there h true e = known_or (at x old) (Some m) (subst (λ y. is_some (at y old) ≡ true) ((bytes_eq-Decides key x).0 e) h)

  added : is_some (at key old) ≡ false → with key m old ≡ new → (b : Bool) → bytes_eq key x ≡ b → at x new ≡ option_or (at x old) (cond b (Some m) None)
  added h is true e =
      let same : key ≡ x = (bytes_eq-Decides key x).0 e in
      ap (at x) (sym is) ∙ subst (λ y. at y (with key m old) ≡ Some m) same (at-with_own key m old) ∙ none_or (at x old) (Some m) (subst (λ y. is_some (at y old) ≡ false) same h)
  added h is false e = ap (at x) (sym is) ∙ at-with_other x key m old (apart (bytes_eq x key) refl) ∙ or_nothing (at x old)
    where
      apart : (b : Bool) → bytes_eq x key ≡ b → bytes_eq x key ≡ false
      apart false f = f
      apart true f = let same : x ≡ key = (bytes_eq-Decides x key).0 f in absurd (true≢false (sym ((bytes_eq-Decides key x).1 (sym same)) ∙ e))

  pub put_new : (fresh : Bool) → with_new key m old ≡ cond fresh (Some new) None → (fresh ≡ false → new ≡ old) → at x new ≡ option_or (at x old) (only_if_named key m x)
  put_new fresh h same = by (is_some (at key old)) refl fresh h same
    where
      by : (b : Bool) → is_some (at key old) ≡ b → (fresh : Bool) → with_new key m old ≡ cond fresh (Some new) None → (fresh ≡ false → new ≡ old) → at x new ≡ option_or (at x old) (only_if_named key m x)
      by true e false h same = ap (at x) (same refl) ∙ there e (bytes_eq key x) refl
      by true e true h same = let bad : None ≡ Some new = sym (with_new-there key m old e) ∙ h in cc
      by false e true h same = let is : Some (with key m old) ≡ Some new = sym (with_new-fresh key m old e) ∙ h in added e (some_same is) (bytes_eq key x) refl
        where
          some_same : {a b : TextMapView ModuleId} → Some a ≡ Some b → a ≡ b
          some_same e = cc
      by false e false h same = let bad : Some (with key m old) ≡ None = sym (with_new-fresh key m old e) ∙ h in cc

module _ (to : ℕ → ℕ) (es : List ImportEntry) where
  -- with the names so far, and what is left
  abbrev pub NamesOn : TextMapView ModuleId → ℕ → Type 0
  NamesOn names i = (x : List ℕ) → option_or (at x names) (namespace_in to (drop i es) x) ≡ namespace_in to es x

  or_some : (a : Option ModuleId) (b : Bool) (m : ModuleId) (later : Option ModuleId) → option_or (option_or a (cond b (Some m) None)) later ≡ option_or a (cond b (Some m) later)
  or_some None true m later = refl
  or_some None false m later = refl
  or_some (Some k) b m later = refl

  pub names_whole : (old new : TextMapView ModuleId) (i : ℕ) (e : ImportEntry) (local : List ℕ) (m : ModuleId) → slice_get es i ≡ Some e → e.wanted ≡ wanted.Whole → local ≡ e.local → m ≡ module_id (to e.request)
      → ((x : List ℕ) → at x new ≡ option_or (at x old) (only_if_named local m x)) → NamesOn old i → NamesOn new (i + 1)
  names_whole old new i e local m is w l n f on x =
      ap (λ o. option_or o (namespace_in to (drop (i + 1) es) x)) (f x)
      ∙ or_some (at x old) (bytes_eq local x) m (namespace_in to (drop (i + 1) es) x)
      ∙ (λ j. option_or (at x old) (cond (bytes_eq (l j) x) (Some (n j)) (namespace_in to (drop (i + 1) es) x)))
      ∙ ap (λ v. option_or (at x old) (namespace_by v (bytes_eq e.local x) (module_id (to e.request)) (namespace_in to (drop (i + 1) es) x))) (sym w)
      ∙ ap (λ ds. option_or (at x old) (namespace_in to ds x)) (sym (drop_at es i e is)) ∙ on x

  pub names_other : (names : TextMapView ModuleId) (i : ℕ) (e : ImportEntry) (name : List ℕ) → slice_get es i ≡ Some e → e.wanted ≡ wanted.Named name → NamesOn names i → NamesOn names (i + 1)
  names_other names i e name is w on x =
      ap (λ v. option_or (at x names) (namespace_by v (bytes_eq e.local x) (module_id (to e.request)) (namespace_in to (drop (i + 1) es) x))) (sym w)
      ∙ ap (λ ds. option_or (at x names) (namespace_in to ds x)) (sym (drop_at es i e is)) ∙ on x

  pub names_end : (names : TextMapView ModuleId) (i : ℕ) → length es ≤ i → NamesOn names i → (x : List ℕ) → at x names ≡ namespace_in to es x
  names_end names i le on x = or_none (at x names) ∙ ap (λ ds. option_or (at x names) (namespace_in to ds x)) (sym (drop_of_length-le es le)) ∙ on x
    where
      or_none : (o : Option ModuleId) → o ≡ option_or o None
      or_none None = refl
      or_none (Some m) = refl

-- one more module has its names
pub put_names : (g : Modules ℕ) (get get' : ℕ → Option (TextMapView ModuleId)) (k : ℕ) (ns : TextMapView ModuleId) → ((q : ℕ) → get' q ≡ cond (nat_eq k q) (Some ns) (get q)) → AreNames g k ns
    → ((m : ℕ) (names : TextMapView ModuleId) → get m ≡ Some names → AreNames g m names) → (m : ℕ) (names : TextMapView ModuleId) → get' m ≡ Some names → AreNames g m names
put_names g get get' k ns put are old m names e = by (nat_eq k m) refl
  where
    by : (b : Bool) → nat_eq k m ≡ b → AreNames g m names
    by true f =
        let same : Some ns ≡ Some names = sym (put m ∙ ap (λ b. cond b (Some ns) (get m)) f) ∙ e in
        let is : ns ≡ names = cc in
        subst (λ k. AreNames g k names) (eqb-true k m f) (subst (AreNames g k) is are)
    by false f = old m names (sym (put m ∙ ap (λ b. cond b (Some ns) (get m)) f) ∙ e)
