-- The records and the loads as an importer: what is linked is there, and exports can be resolved from each id.
use Rattle.std.proofs.Common.{◌≡◌, ◌⊎◌, inl, inr, ℕ, ◌<◌, ◌≤◌, Bool, true, false, cond, List, [], ◌∷◌, map, refl, ap, ◌∙◌, arith, length}
use Rattle.std.specs.Prelude.{◌||◌, nat_lt, if◌then◌else◌, filter, slice_get}
use Rattle.std.proofs.lemmas.Bool.Decides.{nat_tests}
use Rattle.std.proofs.lemmas.List.{length-map}
use Rattle.esm_base.specs.Urls.{Url, has, same_url}
use Rattle.esm_ast.proofs.Requests.{names_requests}
use Rattle.esm_realm.specs.ById.{loaded_at}
use Rattle.esm_realm.specs.Sound.{RecordParts, url_of}
use Rattle.esm_resolve.specs.Graph.{IsReached, AreAllSound}
use Rattle.esm_values.specs.Numbering.{numbering}
use Rattle.esm_link.specs.Realm.{is_linked}
use Rattle.esm_rewriting.specs.Fits.{AreLinked}
use Rattle.esm_body.specs.Importers.{HasLinked}
use Rattle.esm_machine.specs.Seen.{names, modules, linked}
use Rattle.esm_machine.specs.ModuleStore.{Imported, linked_urls, known_linked, seen_of, size_by, loaded_or, or_itself, target_of, graph_of, urls_by_id, ImportsAreThere}
use Rattle.esm_machine.specs.declared.condition.Condition.{Condition}
use Rattle.esm_machine.specs.declared.condition.Condition.TheVariants as conditions
use Rattle.esm_machine.specs.Inner.Below.{below}

pub or_true : (a b : Bool) → (a || b) ≡ true → (a ≡ true) ⊎ (b ≡ true)
or_true true b h = inl refl
or_true false b h = inr h

first_or : (a b : Bool) → a ≡ true → (a || b) ≡ true
first_or true b h = refl
first_or false b h = cc

rest_or : (a b : Bool) → b ≡ true → (a || b) ≡ true
rest_or true b h = refl
rest_or false b h = h

pub lt_true : (m n : ℕ) → m < n → nat_lt m n ≡ true
lt_true m n h = grind (arith, nat_tests)

-- ---- what is linked is there

abbrev pub Linked : List RecordParts → List RecordParts
Linked rs = filter (λ (r : RecordParts). is_linked r.status) rs

pub among : (rs : List RecordParts) (u : Url) → has (map url_of (Linked rs)) u ≡ true → has (map url_of rs) u ≡ true
among [] u h = h
among (r ∷ rs) u h = by (is_linked r.status) h (among rs u)
  where
    more : (same_url u r.url ≡ true) ⊎ (has (map url_of (Linked rs)) u ≡ true) →
        (has (map url_of (Linked rs)) u ≡ true → has (map url_of rs) u ≡ true) → has (map url_of (r ∷ rs)) u ≡ true
    more (inl s) rest = first_or (same_url u r.url) (has (map url_of rs) u) s
    more (inr j) rest = rest_or (same_url u r.url) (has (map url_of rs) u) (rest j)

    by : (b : Bool) → has (map url_of (cond b (r ∷ Linked rs) (Linked rs))) u ≡ true →
        (has (map url_of (Linked rs)) u ≡ true → has (map url_of rs) u ≡ true)
        → has (map url_of (r ∷ rs)) u ≡ true
    by true h rest = more (or_true (same_url u r.url) (has (map url_of (Linked rs)) u) h) rest
    by false h rest = rest_or (same_url u r.url) (has (map url_of rs) u) (rest h)

abbrev pub Named : List RecordParts → ℕ → Url
Named rs m = (numbering (map url_of rs)).name m

pub short : (rs : List RecordParts) (m : ℕ) → has (map url_of (Linked rs)) (Named rs m) ≡ true → m < length rs
short rs m h = let l = below (map url_of rs) m (among rs (Named rs m) h) in omega (arith, l, length-map rs url_of)

short_by : (c : Condition) (rs : List RecordParts) (m : ℕ) → has (known_linked c (linked_urls rs)) (Named rs m) ≡ true → m < size_by c
    (length rs)
short_by conditions.Whole rs m h = short rs m h
short_by (conditions.Stopped limit) rs m h = short rs m h
short_by conditions.Lost rs m h = absurd (let e : false ≡ true = h in cc)

pub size_below : (c : Condition) (n : ℕ) → size_by c n ≤ n
size_below conditions.Whole n = omega arith
size_below (conditions.Stopped limit) n = omega arith
size_below conditions.Lost n = omega arith

module _ (i : Imported) where
  abbrev Size : ℕ
  Size = size_by i.condition (length i.records)

  pub there : (m : ℕ) → linked (seen_of i) m ≡ true → m < Size
  there m h = short_by i.condition i.records m h

  pub there_too : (m : ℕ) → linked (seen_of i) m ≡ true → m < length i.records
  there_too m h = let l = there m h in let k = size_below i.condition (length i.records) in omega (arith, l, k)

  -- ---- laws of an importer

  pub has_linked : AreLinked (modules (seen_of i)) (linked (seen_of i)) → HasLinked (modules (seen_of i)) (linked (seen_of i)) (graph_of i)
      (urls_by_id i)
  has_linked a = record {
    below = there;
    target = λ m request k lt.
        let t : ℕ = (modules (seen_of i)).target m request in
        ap (λ b. or_itself Size m (if b then t else loaded_or m (slice_get (loaded_at i.records m) request))) k
        ∙ ap (λ b. if b then t else m) (lt_true t Size (there t (a.targets m request k lt)));
    same = λ m k. refl;
    url = λ m k. ap (λ b. if b then (names (seen_of i)).name m else []) (lt_true m (length i.records) (there_too m k));
  }

  clamped : (m t : ℕ) → m < Size → or_itself Size m t < Size
  clamped m t h = by (nat_lt t Size) refl
    where
      by : (b : Bool) → nat_lt t Size ≡ b → (if b then t else m) < Size
      by true e = grind (arith, nat_tests)
      by false e = h

  reached : (m x : ℕ) → m < Size → IsReached (graph_of i) m x → x < Size
  reached m _ h IsReached.itself = h
  reached m _ h (IsReached.by_name {x = y} {e = e} r c) = clamped y (target_of i y e.request) (reached m y h r)
  reached m _ h (IsReached.by_star {x = y} {r = k} r c) = clamped y (target_of i y k) (reached m y h r)

  pub all_sound : AreAllSound (graph_of i)
  all_sound m h x r = record { below = reached m x h r; exports = (names_requests ((modules (seen_of i)).tree x)).exports }

pub imports_are_there : ImportsAreThere
imports_are_there = record { linked = has_linked; sound = all_sound }
