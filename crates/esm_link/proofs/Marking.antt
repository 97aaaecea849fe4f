-- Writing statuses.
use Rattle.std.proofs.Common.{◌≡◌, ℕ, suc, zero, ◌+◌, ◌<◌, ◌≤◌, Bool, true, false, cond, List, [], ◌∷◌, ◌++◌, map, length, drop, take, get_or, Option, Some, refl, ap, subst, sym, ◌∙◌, arith, add-one, nat_eq, eq-eqb, eqb-true}
use Rattle.std.specs.Prelude.{◌||◌, slice_get, slice_set}
use Rattle.std.proofs.lemmas.Option.{slice_get-get_or}
use Rattle.std.proofs.Math.ListN.{drop_of_length-le}
use Rattle.esm_realm.specs.declared.record.ModuleStatus.{ModuleStatus}
use Rattle.esm_realm.specs.declared.record.ModuleStatus.TheVariants as statuses
use Rattle.esm_realm.specs.declared.record.Record.{Record}
use Rattle.esm_tree.specs.Syntax.{Parts}
use Rattle.esm_link.specs.Realm.{modules_of, items_at, AreTrees}
use Rattle.esm_base.specs.declared.limits.TheConstants.{MAX_URLS}
use Rattle.esm_link.specs.Inner.Visit.{IsWhole, AreInside, one_by, unlinked}
use Rattle.esm_realm.proofs.Lists.{either}
use Rattle.esm_realm.proofs.Numbers.{In, in_split, in_cons, in_first, in_later}
use Rattle.esm_realm.specs.Sound.{RecordParts, parts_of}
use Rattle.esm_base.specs.Lists.{is_in}
use mathlib.Core.Bool.{true≢false}
use Rattle.std.specs.Option.{option_map}
use Rattle.esm_realm.specs.ById.{status_by, status_of, without_status, index_by, url_by, entries_by, loaded_by, loaded_id, target_by, targets_at, is_unlinked}
use Rattle.esm_realm.proofs.Urls.{or_true}

pub at_index : {A : Type 0} (xs : List A) (i : ℕ) (x : A) → i < length xs → x ≡ get_or xs i x → slice_get xs i ≡ Some x
at_index xs i x lt is = slice_get-get_or xs i x lt ∙ ap Some (sym is)

pub drop_at : {A : Type 0} (ts : List A) (i : ℕ) (t : A) → slice_get ts i ≡ Some t → drop i ts ≡ t ∷ drop (i + 1) ts
drop_at [] i t e = cc
drop_at (u ∷ us) zero t e = let same : u ≡ t = cc in rw same
drop_at (u ∷ us) (suc i) t e = simp add-one (rw add-one at (drop_at us i t e))

pub length_parts : (rs : List Record) → length (map parts_of rs) ≡ length rs
length_parts [] = refl
length_parts (r ∷ rs) = ap suc (length_parts rs)

pub set_plain : (rs : List Record) (x : ℕ) (r q : Record) → slice_get rs x ≡ Some r → without_status (parts_of q) ≡ without_status (parts_of r) → map without_status (map parts_of (slice_set rs x q)) ≡ map without_status (map parts_of rs)
set_plain [] x r q e same = cc
set_plain (s ∷ rs) zero r q e same = let is : s ≡ r = cc in ap (λ p. p ∷ map without_status (map parts_of rs)) (same ∙ ap (λ r. without_status (parts_of r)) (sym is))
set_plain (s ∷ rs) (suc x) r q e same = ap (λ ps. without_status (parts_of s) ∷ ps) (set_plain rs x r q e same)

-- what a list of records says of the place that is set, and of others
module _ {V : Type 0} (f : Option Record → V) where
  set_here : (rs : List Record) (x : ℕ) (q : Record) → x < length rs → f (slice_get (slice_set rs x q) x) ≡ f (Some q)
  set_here [] x q lt = absurd (omega arith)
  set_here (r ∷ rs) zero q lt = refl
  set_here (r ∷ rs) (suc x) q lt = set_here rs x q (omega arith)

  set_other : (rs : List Record) (x y : ℕ) (q : Record) → (y ≡ x → ⊥) → f (slice_get (slice_set rs x q) y) ≡ f (slice_get rs y)
  set_other [] x y q n = refl
  set_other (r ∷ rs) zero zero q n = absurd (n refl)
  set_other (r ∷ rs) zero (suc y) q n = refl
  set_other (r ∷ rs) (suc x) zero q n = refl
  set_other (r ∷ rs) (suc x) (suc y) q n = set_other rs x y q (λ e. n (ap suc e))

  pub set_at : (rs : List Record) (x : ℕ) (q : Record) → x < length rs → (y : ℕ) → f (slice_get (slice_set rs x q) y) ≡ cond (nat_eq y x) (f (Some q)) (f (slice_get rs y))
  set_at rs x q lt y = by (nat_eq y x) refl
    where
      by : (b : Bool) → nat_eq y x ≡ b → f (slice_get (slice_set rs x q) y) ≡ cond b (f (Some q)) (f (slice_get rs y))
      by true e = ap (λ y. f (slice_get (slice_set rs x q) y)) (eqb-true y x e) ∙ set_here rs x q lt
      by false e = set_other rs x y q (λ same. true≢false (sym (eq-eqb y x same) ∙ e))

abbrev pub status_in : Option Record → ModuleStatus
status_in o = status_by (option_map parts_of o)

pub get_parts : (rs : List Record) (y : ℕ) → slice_get (map parts_of rs) y ≡ option_map parts_of (slice_get rs y)
get_parts [] y = refl
get_parts (r ∷ rs) zero = refl
get_parts (r ∷ rs) (suc y) = get_parts rs y

pub set_statuses : (rs : List Record) (x : ℕ) (q : Record) → x < length rs → (y : ℕ) → status_of (map parts_of (slice_set rs x q)) y ≡ cond (nat_eq y x) q.status (status_of (map parts_of rs) y)
set_statuses rs x q lt y = ap status_by (get_parts (slice_set rs x q) y) ∙ set_at status_in rs x q lt y ∙ ap (λ o. cond (nat_eq y x) q.status (status_by o)) (sym (get_parts rs y))

pub set_places : (rs : List Record) (x : ℕ) (q : Record) → x < length rs → (y : ℕ) → index_by (slice_get (slice_set rs x q) y) ≡ cond (nat_eq y x) q.index (index_by (slice_get rs y))
set_places rs x q lt y = set_at index_by rs x q lt y

pub keep_places : (rs : List Record) (x : ℕ) (r q : Record) → slice_get rs x ≡ Some r → q.index ≡ r.index → (y : ℕ) → index_by (slice_get (slice_set rs x q) y) ≡ index_by (slice_get rs y)
keep_places [] x r q e same y = cc
keep_places (s ∷ rs) zero r q e same zero = let is : s ≡ r = cc in same ∙ ap (λ r. r.index) (sym is)
keep_places (s ∷ rs) zero r q e same (suc y) = refl
keep_places (s ∷ rs) (suc x) r q e same zero = refl
keep_places (s ∷ rs) (suc x) r q e same (suc y) = keep_places rs x r q e same y

pub one_more : (os : List ℕ) (k o : ℕ) (s now now' : ModuleStatus) (y : ℕ) → slice_get os k ≡ Some o → now' ≡ cond (nat_eq y o) s now → cond (is_in nat_eq (drop (k + 1) os) y) s now' ≡ cond (is_in nat_eq (drop k os) y) s now
one_more os k o s now now' y e h = ap (λ n. cond (is_in nat_eq (drop (k + 1) os) y) s n) h ∙ by (nat_eq y o) (is_in nat_eq (drop (k + 1) os) y) ∙ sym (ap (λ l. cond (is_in nat_eq l y) s now) (drop_at os k o e))
  where
    by : (a b : Bool) → cond b s (cond a s now) ≡ cond (a || b) s now
    by true true = refl
    by true false = refl
    by false true = refl
    by false false = refl

pub in_at : (os : List ℕ) (k o : ℕ) → slice_get os k ≡ Some o → is_in nat_eq os o ≡ true
in_at [] k o e = cc
in_at (u ∷ os) zero o e = let is : u ≡ o = cc in subst (λ u. is_in nat_eq (u ∷ os) o ≡ true) (sym is) (ap (λ b. b || is_in nat_eq os o) (eq-eqb o o refl))
in_at (u ∷ os) (suc k) o e = or_true (nat_eq o u) _ (in_at os k o e)

pub length_plain : (rs : List RecordParts) → length (map without_status rs) ≡ length rs
length_plain [] = refl
length_plain (r ∷ rs) = ap suc (length_plain rs)

pub same_length : (xs ys : List RecordParts) → map without_status xs ≡ map without_status ys → length xs ≡ length ys
same_length xs ys e = sym (length_plain xs) ∙ ap length e ∙ length_plain ys

pub at_index_default : {A : Type 0} (xs : List A) (i : ℕ) (d : A) → i < length xs → slice_get xs i ≡ Some (get_or xs i d)
at_index_default xs i d lt = slice_get-get_or xs i d lt

pub none_left : (os : List ℕ) (k y : ℕ) (s now : ModuleStatus) → length os ≤ k → now ≡ cond (is_in nat_eq (drop k os) y) s now
none_left os k y s now le = ap (λ l. cond (is_in nat_eq l y) s now) (sym (drop_of_length-le os le))

-- ---- what doesn't see the status

module _ {V : Type 0} (f : Option RecordParts → V) (same : (r : RecordParts) → f (Some (without_status r)) ≡ f (Some r)) where
  pub plain_at : (rs : List RecordParts) (x : ℕ) → f (slice_get (map without_status rs) x) ≡ f (slice_get rs x)
  plain_at [] x = refl
  plain_at (r ∷ rs) zero = same r
  plain_at (r ∷ rs) (suc x) = plain_at rs x

pub plain_targets : (rs : List RecordParts) (x : ℕ) → targets_at (map without_status rs) x ≡ targets_at rs x
plain_targets rs x = plain_at (λ o. map loaded_id (loaded_by o)) (λ r. refl) rs x

pub plain_modules : (trees : List Parts) (rs : List RecordParts) → modules_of trees (map without_status rs) ≡ modules_of trees rs
plain_modules trees rs = λ i. record {
  url = λ x. plain_at url_by (λ r. refl) rs x i;
  tree = items_at trees;
  target = λ x k. plain_at (λ o. target_by (slice_get (loaded_by o) k)) (λ r. refl) rs x i;
  size = length_plain rs i;
  number = λ x. x;
  named = λ x. x;
}

pub plain_trees : (trees : List Parts) (rs : List RecordParts) → AreTrees trees (map without_status rs) → AreTrees trees rs
plain_trees trees rs w = record {
  as_many = w.as_many ∙ length_plain rs;
  entries = λ x lt. sym (plain_at entries_by (λ r. refl) rs x) ∙ w.entries x (subst (λ n. x < n) (sym (length_plain rs)) lt);
  exports = w.exports;
  few_items = w.few_items;
}

pub trees_plain : (trees : List Parts) (rs : List RecordParts) → AreTrees trees rs → AreTrees trees (map without_status rs)
trees_plain trees rs w = record {
  as_many = w.as_many ∙ sym (length_plain rs);
  entries = λ x lt. plain_at entries_by (λ r. refl) rs x ∙ w.entries x (subst (λ n. x < n) (length_plain rs) lt);
  exports = w.exports;
  few_items = w.few_items;
}

pub plain_whole : (trees : List Parts) (rs : List RecordParts) → IsWhole trees (map without_status rs) → IsWhole trees rs
plain_whole trees rs w = record {
  few = subst (λ n. n ≤ MAX_URLS) (length_plain rs) w.few;
  inside = λ x t lt h. subst (λ n. t < n) (length_plain rs) (w.inside x t (subst (λ n. x < n) (sym (length_plain rs)) lt) (subst (λ ts. is_in nat_eq ts t ≡ true) (sym (plain_targets rs x)) h));
  as_many = λ x lt. ap length (sym (plain_at loaded_by (λ r. refl) rs x)) ∙ w.as_many x (subst (λ n. x < n) (sym (length_plain rs)) lt) ∙ ap (λ e. length e.requests) (plain_at entries_by (λ r. refl) rs x);
  trees_are = plain_trees trees rs w.trees_are;
}

-- ---- how many are unlinked

other : (b : ModuleStatus) (m n : ℕ) → m ≤ n → m ≤ one_by b n
other statuses.New m n le = le
other statuses.Unlinked m n le = omega (arith, le)
other statuses.Linking m n le = le
other statuses.Linked m n le = le

one_suc : (a : ModuleStatus) (m : ℕ) → one_by a (suc m) ≡ suc (one_by a m)
one_suc statuses.New m = refl
one_suc statuses.Unlinked m = refl
one_suc statuses.Linking m = refl
one_suc statuses.Linked m = refl

fewer_one : (a b : ModuleStatus) (m n : ℕ) → (is_unlinked a ≡ true → is_unlinked b ≡ true) → m ≤ n → one_by a m ≤ one_by b n
fewer_one statuses.Unlinked statuses.Unlinked m n h le = omega arith
fewer_one statuses.Unlinked statuses.New m n h le = let e = h refl in cc
fewer_one statuses.Unlinked statuses.Linking m n h le = let e = h refl in cc
fewer_one statuses.Unlinked statuses.Linked m n h le = let e = h refl in cc
fewer_one statuses.New b m n h le = other b m n le
fewer_one statuses.Linking b m n h le = other b m n le
fewer_one statuses.Linked b m n h le = other b m n le

pub fewer : (xs ys : List RecordParts) → length xs ≡ length ys → ((y : ℕ) → is_unlinked (status_of xs y) ≡ true → is_unlinked (status_of ys y) ≡ true) → unlinked xs ≤ unlinked ys
fewer [] ys e h = omega arith
fewer (x ∷ xs) [] e h = absurd (omega (arith, e))
fewer (x ∷ xs) (y ∷ ys) e h = fewer_one x.status y.status (unlinked xs) (unlinked ys) (h zero) (fewer xs ys (omega (arith, e)) (λ k. h (suc k)))

fewer_less : (a b : ModuleStatus) (m n : ℕ) → is_unlinked a ≡ false → b ≡ statuses.Unlinked → m ≤ n → one_by a m < one_by b n
fewer_less a b m n h e le = rw e (by a h)
  where
    by : (a : ModuleStatus) → is_unlinked a ≡ false → one_by a m < suc n
    by statuses.Unlinked h = cc
    by statuses.New h = omega (arith, le)
    by statuses.Linking h = omega (arith, le)
    by statuses.Linked h = omega (arith, le)

strictly : (a b : ModuleStatus) (m n : ℕ) → (is_unlinked a ≡ true → is_unlinked b ≡ true) → m < n → one_by a m < one_by b n
strictly a b m n h lt = let le = fewer_one a b (suc m) n h lt in let s = one_suc a m in omega (arith, le, s)

pub one_fewer : (xs ys : List RecordParts) → length xs ≡ length ys → ((y : ℕ) → is_unlinked (status_of xs y) ≡ true → is_unlinked (status_of ys y) ≡ true) → (x : ℕ) → x < length ys → is_unlinked (status_of xs x) ≡ false → status_of ys x ≡ statuses.Unlinked → unlinked xs < unlinked ys
one_fewer [] ys e h x lt a b = absurd (omega (arith, e))
one_fewer (x ∷ xs) [] e h k lt a b = absurd (omega arith)
one_fewer (x ∷ xs) (y ∷ ys) e h zero lt a b = fewer_less x.status y.status (unlinked xs) (unlinked ys) a b (fewer xs ys (omega (arith, e)) (λ k. h (suc k)))
one_fewer (x ∷ xs) (y ∷ ys) e h (suc k) lt a b = strictly x.status y.status (unlinked xs) (unlinked ys) (h zero) (one_fewer xs ys (omega (arith, e)) (λ k. h (suc k)) k (omega arith) a b)

pub not_more : (xs ys : List RecordParts) → map without_status xs ≡ map without_status ys → (b : ℕ → Bool) → ((y : ℕ) → status_of xs y ≡ cond (b y) statuses.Linked (status_of ys y)) → unlinked xs ≤ unlinked ys
not_more xs ys e b h = fewer xs ys (same_length xs ys e) (λ y k. by (status_of ys y) (b y) (ap is_unlinked (sym (h y)) ∙ k))
  where
    by : (s : ModuleStatus) (b : Bool) → is_unlinked (cond b statuses.Linked s) ≡ true → is_unlinked s ≡ true
    by s true k = cc
    by s false k = k

pub less_enter : (xs ys : List RecordParts) (x : ℕ) → map without_status xs ≡ map without_status ys → ((y : ℕ) → status_of xs y ≡ cond (nat_eq y x) statuses.Linking (status_of ys y)) → x < length ys → status_of ys x ≡ statuses.Unlinked → unlinked xs < unlinked ys
less_enter xs ys x e h lt u = one_fewer xs ys (same_length xs ys e) (λ y k. by (status_of ys y) (nat_eq y x) (ap is_unlinked (sym (h y)) ∙ k)) x lt (ap is_unlinked (h x ∙ ap (λ b. cond b statuses.Linking (status_of ys x)) (eq-eqb x x refl))) u
  where
    by : (s : ModuleStatus) (b : Bool) → is_unlinked (cond b statuses.Linking s) ≡ true → is_unlinked s ≡ true
    by s true k = cc
    by s false k = k

-- ---- open modules are among the records

pub inside_push : (rs : List RecordParts) (os now : List ℕ) (x : ℕ) → AreInside rs os → x < length rs → now ≡ os ++ x ∷ [] → AreInside rs now
inside_push rs os now x a lt e y h = either (in_split os (x ∷ []) y (subst (λ o. In o y) e h)) (a y) (λ k. either (in_cons x [] y k) (λ s. subst (λ z. z < length rs) (sym s) lt) (λ n. cc))

in_take : (k : ℕ) (os : List ℕ) (y : ℕ) → In (take k os) y → In os y
in_take zero [] y h = h
in_take zero (o ∷ os) y h = cc
in_take (suc k) [] y h = h
in_take (suc k) (o ∷ os) y h = either (in_cons o (take k os) y h) (λ e. subst (λ z. In (o ∷ os) z) (sym e) (in_first o os)) (λ q. in_later o os y (in_take k os y q))

pub inside_take : (rs : List RecordParts) (os now : List ℕ) (k : ℕ) → AreInside rs os → now ≡ take k os → AreInside rs now
inside_take rs os now k a e y h = a y (in_take k os y (subst (λ o. In o y) e h))

-- ---- what linking needs of a realm whose statuses change

module _ (xs ys : List RecordParts) (e : map without_status xs ≡ map without_status ys) where
  pub targets_on : (x : ℕ) → targets_at xs x ≡ targets_at (map without_status ys) x
  targets_on x = sym (plain_targets xs x) ∙ ap (λ rs. targets_at rs x) e

  pub modules_on : (trees : List Parts) → modules_of trees xs ≡ modules_of trees (map without_status ys)
  modules_on trees = sym (plain_modules trees xs) ∙ ap (modules_of trees) e

  pub within_on : (x : ℕ) → x < length (map without_status ys) → x < length xs
  within_on x lt = subst (λ n. x < n) (ap length (sym e) ∙ length_plain xs) lt

  pub whole_on : (trees : List Parts) → IsWhole trees (map without_status ys) → IsWhole trees (map without_status xs)
  whole_on trees w = subst (IsWhole trees) (sym e) w

  pub inside_on : (os : List ℕ) → AreInside (map without_status ys) os → AreInside (map without_status xs) os
  inside_on os a = subst (λ rs. AreInside rs os) (sym e) a

  pub outside_on : (os : List ℕ) → AreInside (map without_status xs) os → AreInside (map without_status ys) os
  outside_on os a = subst (λ rs. AreInside rs os) e a
