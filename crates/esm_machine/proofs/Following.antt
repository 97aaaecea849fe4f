-- What bodies do by ids, they do in the world: modules that are read by numbers are those by URLs, and so is each import().
use Rattle.std.proofs.Common.{◌≡◌, ℕ, Bool, true, false, List, map, Some, refl, ap, subst, sym, ◌∙◌, nat_eq}
use Rattle.std.specs.Option.{option_map}
use Rattle.std.proofs.lemmas.Bool.{eqb-true, eq-eqb}
use Rattle.std.proofs.lemmas.Slice.Eq.{bytes_eq-Decides}
use Rattle.esm_base.specs.Lists.{IsSameness}
use Rattle.esm_base.specs.Urls.{Url, same_url}
use Rattle.esm_values.specs.Numbering.{numbering, is_total}
use Rattle.esm_promise.specs.Outer.{Outer}
use Rattle.esm_env.specs.Naming.{AreNamed}
use Rattle.esm_env.proofs.Pulled.{pulled_are_named}
use Rattle.esm_loads.specs.Host.{Host}
use Rattle.esm_loads.specs.ImportCall.{BeginsImport}
use Rattle.esm_rewriting.specs.Naming.{renamed_outer, ImportsFollow}
use Rattle.esm_rewriting.proofs.NamedBodies.{follows_names}
use Rattle.esm_link.specs.Naming.{named_fault}
use Rattle.esm_link.proofs.Local.{closing_is_local}
use Rattle.esm_link.proofs.Named.{linking_follows_names}
use Rattle.esm_world.specs.World.{modules_in}
use Rattle.esm_machine.specs.Seen.{Seen, names, modules, BeginsById}
use Rattle.esm_machine.specs.Following.{seen_loading, BodiesAreOfTheWorld, LinkingIsOfTheWorld}

pub urls_tell_apart : IsSameness same_url
urls_tell_apart = record { own = λ u. (bytes_eq-Decides u u).1 refl; equal = λ u v e. (bytes_eq-Decides u v).0 e }

pub numbers_tell_apart : IsSameness nat_eq
numbers_tell_apart = record { own = λ n. eq-eqb n n refl; equal = λ m n e. eqb-true m n e }

module _ (urls : List Url) where
  abbrev Good : Seen → Type 0
  Good s = s.urls ≡ urls

  named : (s : Seen) → Good s → AreNamed (numbering urls) (modules s) (modules_in s.loading)
  named s e = subst (λ us. AreNamed (numbering us) (modules s) (modules_in s.loading)) e ((pulled_are_named (numbering s.urls)).named (is_total s.urls) (modules_in s.loading))

  -- what lies outside, by the names of these URLs
  abbrev outside : List Url → Outer ℕ Seen → Host
  outside us o = renamed_outer (numbering us) seen_loading o

  imports : ImportsFollow (numbering urls) seen_loading Good BeginsById BeginsImport
  imports o x m text p end e b =
      let there : BeginsImport (outside o.imports.urls o) ((numbering o.imports.urls).name m) text p end (outside o.imports.urls x) =
      subst (λ us. BeginsImport (outside o.imports.urls o) ((numbering o.imports.urls).name m) text p end (outside us x)) b.urls b.begins in
      (subst (λ us. BeginsImport (outside us o) ((numbering us).name m) text p end (outside us x)) e there, b.urls ∙ e)

pub bodies_are_of_the_world : BodiesAreOfTheWorld
bodies_are_of_the_world urls =
    follows_names (numbering urls) seen_loading (Good urls) nat_eq same_url modules modules_in BeginsById BeginsImport numbers_tell_apart urls_tell_apart (named urls) (imports urls)

-- ---- linking

true_false : (b : Bool) → b ≡ true → b ≡ false → ⊥
true_false true h k = cc
true_false false h k = cc

-- names are the same where numbers are
pub same_names : (urls : List Url) (m n : ℕ) → same_url ((numbering urls).name m) ((numbering urls).name n) ≡ nat_eq m n
same_names urls m n = by (nat_eq m n) refl (same_url ((numbering urls).name m) ((numbering urls).name n)) refl
  where
    by : (b : Bool) → nat_eq m n ≡ b → (c : Bool) → same_url ((numbering urls).name m) ((numbering urls).name n) ≡ c → c ≡ b
    by true e true f = refl
    by false e false f = refl
    by true e false f = absurd (true_false (same_url ((numbering urls).name m) ((numbering urls).name n)) (subst (λ k. same_url ((numbering urls).name m) ((numbering urls).name k) ≡ true) (eqb-true m n e) (urls_tell_apart.own ((numbering urls).name m))) f)
    by false e true f =
        let is : (numbering urls).name m ≡ (numbering urls).name n = urls_tell_apart.equal ((numbering urls).name m) ((numbering urls).name n) f in
        let one : Some m ≡ Some n = sym ((numbering urls).back m) ∙ ap (numbering urls).of is ∙ (numbering urls).back n in
        let eq : m ≡ n = cc in
        absurd (true_false (nat_eq m n) (eq-eqb m n eq) e)

pub linking_is_of_the_world : LinkingIsOfTheWorld
linking_is_of_the_world s there linked ids after root fault whole at same p =
    let follow = linking_follows_names (names s) nat_eq same_url (modules s) (modules_in s.loading) (same_names s.urls) ((pulled_are_named (names s)).named (is_total s.urls) (modules_in s.loading)) in
    (closing_is_local Url same_url).links (modules_in s.loading) there (map (names s).name ids) linked ((names s).name root) (option_map (named_fault (names s)) fault) (map (names s).name after)
    whole at (λ u t. same u) (follow.links ids root fault after p)
