-- What lies outside of bodies is lawful: it is what fits over URLs, read by numbers.
use Rattle.std.proofs.Common.{◌≡◌, ℕ, ◌≤◌, Bool, true, List, [], ◌++◌, refl, ap, subst, sym, ◌∙◌, arith, length}
use Rattle.std.specs.Prelude.{Result}
use Rattle.std.proofs.lemmas.List.{length-append}
use Rattle.esm_base.specs.declared.limits.Limit.{Limit}
use Rattle.esm_base.specs.Urls.{Url, has}
use Rattle.esm_ast.specs.Entries.{place_of}
use Rattle.esm_values.specs.Value.{Value, Undefined, Truth, Text, Func, Error, Namespace, Promise}
use Rattle.esm_values.specs.Errors.{Errors}
use Rattle.esm_values.specs.Naming.{renamed_value}
use Rattle.esm_expr_eval.specs.Ready.{Holds}
use Rattle.esm_promise.specs.Promises.{Promises, Settled, Fulfilled, Rejected, make, settle}
use Rattle.esm_promise.specs.Reactions.{Reaction}
use Rattle.esm_promise.specs.Renaming.{renamed, renamed_settled}
use Rattle.esm_promise.specs.Outer.{Outer}
use Rattle.esm_promise.proofs.Renamed.{follows_names}
use Rattle.esm_env.specs.Modules.{Modules}
use Rattle.esm_env.specs.Scopes.{Scopes}
use Rattle.esm_loads.specs.UrlTable.{Entries, targets_in, body_in}
use Rattle.esm_loads.specs.Loading.{Loading}
use Rattle.esm_loads.specs.Host.{Host}
use Rattle.esm_loads.specs.ImportCall.{BeginsImport}
use Rattle.esm_loads.specs.Laws.{Grows}
use Rattle.esm_loads.proofs.Orderly.{only_grows}
use Rattle.esm_loads.proofs.OneLoad.{one_load}
use Rattle.esm_rewriting.specs.Bodies.{await_on, given_by}
use Rattle.esm_rewriting.specs.Fits.{AreLinked, IsKnown}
use Rattle.esm_world.specs.World.{modules_in}
use Rattle.esm_loads.specs.LoadsView.{url_at}
use Rattle.esm_world.specs.Fits.{AreModules, FitPromises, FitsHost}
use Rattle.esm_world.proofs.FitBodies.{are_linked}
use Rattle.esm_env.specs.Naming.{pulled}
use Rattle.esm_values.specs.Numbering.{numbering, is_total}
use Rattle.esm_env.specs.Faithful.{AreScopesOf}
use Rattle.esm_body.specs.Importers.{ImportsAreLawful, KeepsModules}
use Rattle.esm_machine.specs.Seen.{Seen, names, modules, linked, host, Fits, BeginsById}
use Rattle.esm_machine.specs.Inner.HostFits.{host_makes, host_settles, host_awaits, host_begun}
use Rattle.esm_machine.specs.Inner.Extended.{scopes_stay}
use Rattle.esm_machine.specs.Inner.Numbers.{url, number, url_number, number_url}
use Rattle.esm_machine.specs.Inner.Renamed.{promises_back, renamed_apart, awaits}
use Rattle.esm_machine.specs.Inner.Places.{url_stays, place_stays}

-- ---- what is known

module _ (s : Seen) where
  abbrev L : Loading
  L = s.loading

  abbrev Knows : Value ℕ → Type 0
  Knows v = IsKnown (modules s) (linked s) v

  abbrev KnowsUrl : Value Url → Type 0
  KnowsUrl v = IsKnown (modules_in L) (has s.linked) v

  pub known_url : (v : Value ℕ) → Knows v → KnowsUrl (renamed_value (names s).name v)
  known_url Undefined k = tt
  known_url (Truth b) k = tt
  known_url (Text t) k = tt
  known_url (Func m i) k = k
  known_url (Error id) k = tt
  known_url (Namespace m) k = k
  known_url (Promise id) k = tt

  pub known_number : (v : Value ℕ) → KnowsUrl (renamed_value (names s).name v) → Knows v
  known_number Undefined k = tt
  known_number (Truth b) k = tt
  known_number (Text t) k = tt
  known_number (Func m i) k = k
  known_number (Error id) k = tt
  known_number (Namespace m) k = k
  known_number (Promise id) k = tt

  given_url : (how : Settled (Value ℕ)) → Holds Knows ⊥ (given_by how) → Holds KnowsUrl ⊥ (given_by (renamed_settled (names s).name how))
  given_url (Fulfilled v) k = known_url v k
  given_url (Rejected v) k = known_url v k

  abbrev target_url : ℕ → ℕ → Url
  target_url m i = (modules_in L).target ((names s).name m) i

  pub linked_number : AreLinked (modules_in L) (has s.linked) → AreLinked (modules s) (linked s)
  linked_number a = record {
    trees = λ m k. a.trees ((names s).name m) k;
    targets = λ m i k lt. subst (λ (u : Url). has s.linked u ≡ true) (sym (url_number s.urls (target_url m i)))
        (a.targets ((names s).name m) i k lt);
    below = λ m k. a.below ((names s).name m) k;
    named = λ m k. ap (number s.urls) (a.named ((names s).name m) k) ∙ number_url s.urls m;
  }

-- ---- scopes, where more URLs are asked for

-- the modules of this table, where these URLs were asked
abbrev pub by_url : Entries → List Url → Modules Url
by_url entries asked = record {
  url = λ u. u;
  tree = λ u. body_in (entries u);
  target = λ u i. url_at (targets_in (entries u)) i;
  size = length asked;
  number = place_of asked;
  named = url_at asked;
}

abbrev pub by_number : List Url → Entries → List Url → Modules ℕ
by_number urls entries asked = pulled (numbering urls) (is_total urls) (by_url entries asked)

longer : (asked more : List Url) → length asked ≤ length (asked ++ more)
longer asked more = omega (arith, length-append asked more)

pub scopes_grow : (urls : List Url) (entries : Entries) (asked more : List Url) (linked : ℕ → Bool) (e : Scopes)
    → AreScopesOf (by_number urls entries asked) linked e → AreScopesOf (by_number urls entries (asked ++ more)) linked e
scopes_grow urls entries asked more linked e a =
    scopes_stay (by_number urls entries asked) (length (asked ++ more)) (λ m. place_of (asked ++ more) (url urls m))
    (λ x. number urls (url_at (asked ++ more) x))
    (longer asked more) (λ m below. place_stays asked more (url urls m) below)
    (λ x below. ap (number urls) (url_stays asked more x below)) linked e a

-- ---- what bodies rely on

module _ (o : Outer ℕ Seen) (f : Fits o) where
  abbrev S : Seen
  S = o.imports

  fits_with : (h : Host) (ps : Promises (Reaction ℕ) (Value ℕ)) (es : Errors) → FitsHost S.linked S.loading.entries h
      → h ≡ host (record { promises = ps; errors = es; imports = S }) → Fits (record { promises = ps; errors = es; imports = S })
  fits_with h ps es k e = record {
    modules = f.modules;
    host = subst
        (FitsHost S.linked S.loading.entries) e k;
    ids = f.ids;
  }

  links : AreLinked (modules S) (linked S)
  links = linked_number S (are_linked S.linked S.loading.entries f.modules S.loading refl f.host.orderly)

  makes : Fits (record o { promises = make o.promises [] })
  makes = fits_with _ (make o.promises []) o.errors (host_makes S.linked S.loading.entries f.modules (host o) f.host)
      (λ i. record (host o) { promises = sym ((follows_names (names S).name).makes o.promises []) i })

  settles : (p : ℕ) (how : Settled (Value ℕ)) → Holds (IsKnown (modules S) (linked S)) ⊥ (given_by how) → Fits
      (record o { promises = settle o.promises p how })
  settles p how k = fits_with _ (settle o.promises p how) o.errors
      (host_settles S.linked S.loading.entries f.modules (host o) p (renamed_settled (names S).name how) (given_url S how k) f.host)
      (λ i. record (host o) { promises = sym ((follows_names (names S).name).settles o.promises p how) i })

  awaited : (v : Value ℕ) (m : ℕ) → IsKnown (modules S) (linked S) v → linked S m ≡ true → Fits
      (record o { promises = await_on o.promises v m })
  awaited v m k l = fits_with _ (await_on o.promises v m) o.errors
      (host_awaits S.linked S.loading.entries f.modules (host o) (renamed_value (names S).name v) ((names S).name m)
      (known_url S v k) l f.host)
      (λ i. record (host o) { promises = sym (awaits (names S).name o.promises v m) i })

  -- ---- import()

  -- this host, by numbers
  abbrev by_ids : Host → Outer ℕ Seen
  by_ids h = record { promises = renamed (number S.urls) h.promises; errors = h.errors; imports = record S { loading = h.imports } }

  same_host : (h : Host) → host (by_ids h) ≡ h
  same_host h = λ i. record h { promises = promises_back (number S.urls) (url S.urls) (url_number S.urls) h.promises i }

  module _ (h : Host) (k : FitsHost S.linked S.loading.entries h) (g : Grows S.loading h.imports)
      (knows : (v : Value Url) → IsKnown (modules_in S.loading) (has S.linked) v → IsKnown (modules_in h.imports) (has S.linked) v) where
    fits_after : Fits (by_ids h)
    fits_after = record {
      modules = subst (AreModules S.linked) (sym k.entries_are) f.modules;
      host = subst (FitsHost S.linked h.imports.entries) (sym (same_host h))
          (record {
            entries_are = refl;
            orderly = k.orderly;
            promises = subst (λ es. FitPromises S.linked es h.promises)
                (sym k.entries_are) k.promises;
          });
      ids = f.ids;
    }

    scopes : (e : Scopes) → AreScopesOf (modules S) (linked S) e → AreScopesOf (modules (record S { loading = h.imports })) (linked S) e
    scopes e a =
        subst (λ (es : Entries). AreScopesOf (by_number S.urls es h.imports.asked) (linked S) e) (sym k.entries_are)
        (subst (λ (us : List Url). AreScopesOf (by_number S.urls S.loading.entries us) (linked S) e) (sym g.asked)
        (scopes_grow S.urls S.loading.entries S.loading.asked g.more (linked S) e a))

    keeps : KeepsModules modules linked Fits BeginsById o (by_ids h)
    keeps = record {
      whole = fits_after;
      keeps = λ v q. known_number (record S { loading = h.imports }) v (knows (renamed_value (names S).name v) (known_url S v q));
      scopes = scopes;
      urls = λ m l. refl;
    }

  abbrev Begun : ℕ → List ℕ → ℕ → Type 0
  Begun m text p = (r : Result (Unit {0}) Limit) ×
      ((after : Outer ℕ Seen) × (BeginsById o m text p r after × KeepsModules modules linked Fits BeginsById o after))

  begun : (m : ℕ) (text : List ℕ) (p : ℕ) → Begun m text p
  begun m text p =
      let b = host_begun S.linked S.loading.entries f.modules (host o) ((names S).name m) text p f.host in
      let h : Host = b.1.0 in
      let g : Grows S.loading h.imports = only_grows.imports (host o) h ((names S).name m) text p b.1.1.0.imports in
      let begins : BeginsById o m text p b.0 (by_ids h) = record {
        urls = refl;
        linked = refl;
        begins = subst (λ (x : Host). BeginsImport (host o) ((names S).name m) text p b.0 x) (sym (same_host h)) b.1.1.0;
      } in
      (b.0, (by_ids h, (begins, keeps h b.1.1.1.0 g b.1.1.1.1)))

-- ---- one outcome

module _ (o : Outer ℕ Seen) where
  abbrev Same : Outer ℕ Seen → Type 0
  Same x = (x.imports.urls ≡ o.imports.urls) × (x.imports.linked ≡ o.imports.linked)

  -- the promises by this naming
  abbrev by_name : Outer ℕ Seen → Host
  by_name x = record { promises = renamed (url o.imports.urls) x.promises; errors = x.errors; imports = x.imports.loading }

  hosted : (x : Outer ℕ Seen) → Same x → host x ≡ by_name x
  hosted x e = λ i. record { promises = renamed (url (e.0 i)) x.promises; errors = x.errors; imports = x.imports.loading }

  one_host : (x y : Outer ℕ Seen) → Same x → Same y → host x ≡ host y → y ≡ x
  one_host x y e d q =
      let all : by_name x ≡ by_name y = sym (hosted x e) ∙ q ∙ hosted y d in
      let ps : x.promises ≡ y.promises = renamed_apart (url o.imports.urls) (number o.imports.urls)
      (number_url o.imports.urls) x.promises y.promises (ap (λ (h : Host). h.promises) all) in
      sym (λ i. record {
        promises = ps i;
        errors = (all i).errors;
        imports = record { loading = (all i).imports; urls = (e.0 ∙ sym d.0) i; linked = (e.1 ∙ sym d.1) i };
      })

  one : (x y : Outer ℕ Seen) (m : ℕ) (text : List ℕ) (p : ℕ) (r s : Result (Unit {0}) Limit) → BeginsById o m text p r x
      → BeginsById o m text p s y → (s ≡ r) × (y ≡ x)
  one x y m text p r s b c =
      let e = one_load.begins (host o) (host x) (host y) ((names o.imports).name m) text p r s b.begins c.begins in
      (sym e.0, one_host x y (b.urls, b.linked) (c.urls, c.linked) e.1)

pub imports_are_lawful : ImportsAreLawful modules linked Fits BeginsById
imports_are_lawful = record {
  links = λ o f. links o f;
  errors = λ o es f. record {
    modules = f.modules;
    host = record { entries_are = f.host.entries_are; orderly = f.host.orderly; promises = f.host.promises };
    ids = f.ids;
  };
  makes = λ o f. makes o f;
  settles = λ o p how k f. settles o f p how k;
  awaits = λ o v m k l f. awaited o f v m k l;
  some = λ o m text p f. begun o f m text p;
  one = λ o x y m text p r s b c. one o x y m text p r s b c;
}
