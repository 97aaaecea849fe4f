-- The namespace of a linked module has its keys, which are UTF-8.
use Rattle.std.proofs.Common.{◌≡◌, ℕ, zero, suc, ◌+◌, ◌<◌, ◌≤◌, ◌⊎◌, inl, inr, Bool, true, false, not, ◌||◌, cond, List, [], ◌∷◌, ◌++◌, All, refl, ap, subst, sym, ◌∙◌, arith, length}
use Rattle.std.specs.Prelude.{filter, nat_eq}
use Rattle.std.specs.Str.{bytes_eq, IsUtf8}
use Rattle.std.specs.List.{list_any, AllByRecursion}
use Rattle.std.proofs.lemmas.Bool.{cases_order, eq-eqb}
use Rattle.std.proofs.lemmas.List.Elements.{All-weaker, All-map, recursion_from_All, All-from_recursion}
use Rattle.std.proofs.lemmas.List.Sorted.{All-permutation}
use Rattle.esm_ast.proofs.Requests.{names_requests}
use Rattle.esm_resolve.specs.declared.graph.Resolution.{Resolution}
use Rattle.esm_resolve.specs.Resolution.{pair_of, IsResolutionOf}
use Rattle.esm_base.specs.Lists.{is_in}
use Rattle.esm_resolve.specs.SharedSet.{SharedSetAgrees, SharedSetEnds}
use Rattle.esm_resolve.specs.Names.{star_targets, StarWalk, StarWalks, own_names, is_passed_on, names_along, first_of_each}
use Rattle.esm_resolve.specs.Names.StarWalk.{known, fresh}
use Rattle.esm_resolve.specs.Names.StarWalks.{all, next}
use Rattle.esm_resolve.specs.Keys.{is_one, KeepsResolved, AreNamespaceKeysOf}
use Rattle.esm_resolve.specs.Keys.KeepsResolved.{none, kept, dropped}
use Rattle.esm_env.specs.Modules.{Modules, graph}
use Rattle.esm_rewriting.specs.Fits.{AreLinked}
use Rattle.esm_rewriting.proofs.Ordered.{in_order}
use Rattle.esm_rewriting.proofs.NamesExported.{texts_both, names_exported}
use Rattle.esm_rewriting.proofs.Resolved.{Good, good, good_target, resolved}

-- ---- modules that were not reached yet

abbrev has : List ℕ → ℕ → Bool
has reached x = is_in nat_eq reached x

abbrev one_if : Bool → ℕ
one_if true = 0
one_if false = 1

-- how many of the first n were not reached
abbrev unseen : ℕ → List ℕ → ℕ
unseen zero reached = 0
unseen (suc n) reached = one_if (has reached n) + unseen n reached

any_pushed : (p : ℕ → Bool) (xs : List ℕ) (x : ℕ) → list_any p (xs ++ x ∷ []) ≡ (p x || list_any p xs)
any_pushed p [] x = refl
any_pushed p (y ∷ ys) x = ap (λ b. p y || b) (any_pushed p ys x) ∙ swap (p y) (p x) (list_any p ys)
  where
    swap : (a b c : Bool) → (a || (b || c)) ≡ (b || (a || c))
    swap true true c = refl
    swap true false c = refl
    swap false true c = refl
    swap false false c = refl

abbrev Grows : List ℕ → List ℕ → Type 0
Grows reached order = (q : ℕ) → has reached q ≡ true → has order q ≡ true

pushed_grows : (reached : List ℕ) (x : ℕ) → Grows reached (reached ++ x ∷ [])
pushed_grows reached x q h = any_pushed (nat_eq q) reached x ∙ by (nat_eq q x) (has reached q) h
  where
    by : (a b : Bool) → b ≡ true → (a || b) ≡ true
    by true b h = refl
    by false b h = h

has_pushed : (reached : List ℕ) (x : ℕ) → has (reached ++ x ∷ []) x ≡ true
has_pushed reached x = any_pushed (nat_eq x) reached x ∙ ap (λ b. b || has reached x) (eq-eqb x x refl)

fewer_one : (a b : Bool) → (a ≡ true → b ≡ true) → one_if b ≤ one_if a
fewer_one true true h = omega arith
fewer_one true false h = absurd (let e = h refl in cc)
fewer_one false true h = omega arith
fewer_one false false h = omega arith

fewer : (n : ℕ) (reached order : List ℕ) → Grows reached order → unseen n order ≤ unseen n reached
fewer zero reached order h = omega arith
fewer (suc n) reached order h = let a = fewer_one (has reached n) (has order n) (h n) in let b = fewer n reached order h in omega (arith, a, b)

less_at : (n x : ℕ) (reached : List ℕ) → has reached x ≡ false → x < suc n → ((x ≡ n) ⊎ ((x < n) ⊎ (n < x))) → (x < n → unseen n (reached ++ x ∷ []) < unseen n reached) → unseen (suc n) (reached ++ x ∷ []) < unseen (suc n) reached
less_at n x reached h lt (inl e) later =
    let a : one_if (has (reached ++ x ∷ []) n) ≡ 0 = ap one_if (ap (has (reached ++ x ∷ [])) (sym e) ∙ has_pushed reached x) in
    let b : one_if (has reached n) ≡ 1 = ap one_if (ap (has reached) (sym e) ∙ h) in
    let c = fewer n reached (reached ++ x ∷ []) (pushed_grows reached x) in
    omega (arith, a, b, c)
less_at n x reached h lt (inr (inl l)) later =
    let a = fewer_one (has reached n) (has (reached ++ x ∷ []) n) (pushed_grows reached x n) in
    let b = later l in
    omega (arith, a, b)
less_at n x reached h lt (inr (inr l)) later = absurd (omega (arith, lt, l))

less : (n x : ℕ) (reached : List ℕ) → has reached x ≡ false → x < n → unseen n (reached ++ x ∷ []) < unseen n reached
less zero x reached h lt = absurd (omega (arith, lt))
less (suc n) x reached h lt = less_at n x reached h lt (cases_order x n) (λ l. less n x reached h l)

module _ {N : Type 0} (g : Modules N) (linked : N → Bool) (l : AreLinked g linked) where
  abbrev Good' : ℕ → Type 0
  Good' n = Good g linked l n

  abbrev AllGood : List ℕ → Type 0
  AllGood xs = AllByRecursion Good' xs

  good_pushed : (xs : List ℕ) (x : ℕ) → AllGood xs → Good' x → AllGood (xs ++ x ∷ [])
  good_pushed [] x h k = (k, tt)
  good_pushed (y ∷ ys) x h k = (h.0, good_pushed ys x h.1 k)

  targets_good : (n : ℕ) → Good' n → AllGood (star_targets (graph g) n)
  targets_good n k =
      recursion_from_All Good' _ (All-map Good' ((graph g).target n) ((graph g).entries n).stars
      (All-weaker (λ s. s < length ((graph g).entries n).requests) (λ s. Good' ((graph g).target n s)) (λ s lt. good_target g linked l n s k lt) _ (names_requests (g.tree (g.named n))).exports.stars))

  below_size : (n : ℕ) → Good' n → n < g.size
  below_size n k = subst (λ n. n < g.size) k.number (l.below (g.named n) k.is_linked)

  -- ---- the walk

  abbrev Walked : List ℕ → ℕ → Type 0
  Walked reached x = (order : List ℕ) × (StarWalk (graph g) reached x order × (Grows reached order × AllGood order))

  abbrev Walks : List ℕ → List ℕ → Type 0
  Walks reached xs = (order : List ℕ) × (StarWalks (graph g) reached xs order × (Grows reached order × AllGood order))

  abbrev Walkable : ℕ → Type 0
  Walkable k = (reached : List ℕ) (x : ℕ) → AllGood reached → Good' x → unseen g.size reached < k → Walked reached x

  walks : (k : ℕ) → Walkable k → (xs reached : List ℕ) → AllGood reached → AllGood xs → unseen g.size reached < k → Walks reached xs
  walks k walk [] reached r h lt = (reached, (all, ((λ q e. e), r)))
  walks k walk (x ∷ xs) reached r h lt =
      let a = walk reached x r h.0 lt in
      let f = fewer g.size reached a.0 a.1.1.0 in
      let b = walks k walk xs a.0 a.1.1.1 h.1 (omega (arith, f, lt)) in
      (b.0, (next a.1.0 b.1.0, ((λ q e. b.1.1.0 q (a.1.1.0 q e)), b.1.1.1)))

  walk_by : (k : ℕ) → Walkable k → (reached : List ℕ) (x : ℕ) → AllGood reached → Good' x → unseen g.size reached < suc k → (b : Bool) → has reached x ≡ b → Walked reached x
  walk_by k walk reached x r h lt true e = (reached, (known e, ((λ q e. e), r)))
  walk_by k walk reached x r h lt false e =
      let s = less g.size x reached e (below_size x h) in
      let w = walks k walk (star_targets (graph g) x) (reached ++ x ∷ []) (good_pushed reached x r h) (targets_good x h) (omega (arith, s, lt)) in
      (w.0, (fresh e w.1.0, ((λ q d. w.1.1.0 q (pushed_grows reached x q d)), w.1.1.1)))

  walk : (k : ℕ) → Walkable k
  walk zero reached x r h lt = absurd (omega (arith, lt))
  walk (suc k) reached x r h lt = walk_by k (walk k) reached x r h lt (has reached x) refl

  -- ---- the names

  filtered : (p : List ℕ → Bool) (xs : List (List ℕ)) → AllByRecursion IsUtf8 xs → AllByRecursion IsUtf8 (filter p xs)
  filtered p [] h = tt
  filtered p (x ∷ xs) h = by (p x) (filtered p xs h.1)
    where
      by : (b : Bool) → AllByRecursion IsUtf8 (filter p xs) → AllByRecursion IsUtf8 (cond b (x ∷ filter p xs) (filter p xs))
      by true later = (h.0, later)
      by false later = later

  own_utf8 : (n : ℕ) → Good' n → AllByRecursion IsUtf8 (own_names ((graph g).entries n))
  own_utf8 n k =
      let p = names_exported IsUtf8 (g.tree (g.named n)) (recursion_from_All IsUtf8 _ (l.trees (g.named n) k.is_linked).exported) in
      texts_both IsUtf8 _ _ p.0 p.1

  along_utf8 : (m : ℕ) (order : List ℕ) → AllGood order → AllByRecursion IsUtf8 (names_along (graph g) m order)
  along_utf8 m [] h = tt
  along_utf8 m (x ∷ xs) h = texts_both IsUtf8 _ _ (filtered (is_passed_on (nat_eq x m)) _ (own_utf8 x h.0)) (along_utf8 m xs h.1)

  first_utf8 : (xs : List (List ℕ)) → AllByRecursion IsUtf8 xs → AllByRecursion IsUtf8 (first_of_each xs)
  first_utf8 [] h = tt
  first_utf8 (x ∷ xs) h = (h.0, filtered (λ other. not (bytes_eq x other)) _ (first_utf8 xs h.1))

  -- ---- given keys

  mutual
    walk_good : {reached order : List ℕ} {x : ℕ} → StarWalk (graph g) reached x order → AllGood reached → Good' x → AllGood order
    walk_good (known e) r k = r
    walk_good {reached = reached} {x = x} (fresh e ws) r k = walks_good ws (good_pushed reached x r k) (targets_good x k)

    walks_good : {reached order xs : List ℕ} → StarWalks (graph g) reached xs order → AllGood reached → AllGood xs → AllGood order
    walks_good all r h = r
    walks_good (next w ws) r h = walks_good ws (walk_good w r h.0) h.1

  kept_utf8 : (m : ℕ) {names keys : List (List ℕ)} → KeepsResolved (graph g) m names keys → AllByRecursion IsUtf8 names → AllByRecursion IsUtf8 keys
  kept_utf8 m none h = tt
  kept_utf8 m (kept r i e k) h = (h.0, kept_utf8 m k h.1)
  kept_utf8 m (dropped r i e k) h = kept_utf8 m k h.1

  -- the keys of a linked module's namespace are UTF-8
  pub keys_utf8 : (m : N) (keys : List (List ℕ)) → linked m ≡ true → AreNamespaceKeysOf (graph g) (g.number m) keys → All IsUtf8 keys
  keys_utf8 m keys h a =
      let order = walk_good a.exported.1 tt (good g linked l m h) in
      let names = subst (AllByRecursion IsUtf8) (sym a.exported.2) (first_utf8 _ (along_utf8 (g.number m) a.exported.0 order)) in
      All-permutation IsUtf8 a.resolved keys a.same (All-from_recursion IsUtf8 a.resolved (kept_utf8 (g.number m) a.kept names))

  -- ---- the keys

  module _ (agrees : SharedSetAgrees) (ends : SharedSetEnds) (m : ℕ) (k : Good' m) where
    abbrev Kept : List (List ℕ) → Type 0
    Kept names = (keys : List (List ℕ)) × (KeepsResolved (graph g) m names keys × AllByRecursion IsUtf8 keys)

    keeps_by : (name : List ℕ) (names : List (List ℕ)) → IsUtf8 name → (r : Resolution) → IsResolutionOf (graph g) (pair_of m name) r
        → (b : Bool) → is_one r ≡ b → Kept names → Kept (name ∷ names)
    keeps_by name names u r i true e (keys, (q, h)) = (name ∷ keys, (kept r i e q, (u, h)))
    keeps_by name names u r i false e (keys, (q, h)) = (keys, (dropped r i e q, h))

    keeps : (names : List (List ℕ)) → AllByRecursion IsUtf8 names → Kept names
    keeps [] h = ([], (none, tt))
    keeps (name ∷ names) h = let r = resolved g linked l agrees ends m name k in keeps_by name names h.0 r.0 r.1.0 (is_one r.0) refl (keeps names h.1)

    keys_of : (keys : List (List ℕ)) × AreNamespaceKeysOf (graph g) m keys × All IsUtf8 keys
    keys_of =
        let w = walk (suc (unseen g.size [])) [] m tt k (omega arith) in
        let names = first_of_each (names_along (graph g) m w.0) in
        let r = keeps names (first_utf8 _ (along_utf8 m w.0 w.1.1.1)) in
        let o = in_order r.0 in (
          o.0,
          record { names = names; resolved = r.0; exported = (w.0, w.1.0, refl); kept = r.1.0; same = o.1.0; in_order = o.1.1 },
          All-permutation IsUtf8 r.0 o.0 o.1.0 (All-from_recursion IsUtf8 r.0 r.1.1),
        )

  pub keys_there : SharedSetAgrees → SharedSetEnds → (m : N) → linked m ≡ true → (keys : List (List ℕ)) × AreNamespaceKeysOf (graph g) (g.number m) keys × All IsUtf8 keys
  keys_there agrees ends m h = keys_of agrees ends (g.number m) (good g linked l m h)
