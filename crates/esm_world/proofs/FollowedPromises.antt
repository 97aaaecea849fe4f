-- Reactions that wait and promises that are settled, as promises are made, settled and reacted to.
use Rattle.std.proofs.Common.{◌≡◌, ◌⊎◌, inl, inr, ℕ, zero, suc, ◌<◌, true, false, List, [], ◌∷◌, ◌++◌, map, length, Option, Some, None, Contains, refl, ap, subst, sym, ◌∙◌, arith}
use Rattle.std.specs.Prelude.{slice_get, slice_set, is_some}
use Rattle.esm_base.specs.Urls.{Url}
use Rattle.esm_values.specs.Value.{Value, Undefined, Truth, Text, Func, Error, Namespace}
use Rattle.esm_values.specs.Value as value
use Rattle.esm_promise.specs.Promises.{Promise, Settled, Fulfilled, Pending, Done, Job, job, make_fulfilled, settle, settled_by, triggered, register, register_by, next_promise, next_job, first_job}
use Rattle.esm_promise.specs.Reactions.{Reaction, Await}
use Rattle.esm_loads.proofs.Requests.{contains_here, contains_there, contains_cases, contains_more, contains_last, contains_none, set_other, equal_cases}
use Rattle.esm_loads.proofs.Limits.{get_set}
use Rattle.esm_rewriting.specs.Bodies.{await_on}
use Rattle.esm_world.specs.Followed.{IsSettled}
use Rattle.esm_world.proofs.ToldPromises.{Ps}

abbrev Row : Type 0
Row = Promise (Reaction Url) (Value Url)

-- the reaction stands on a pending promise, or is in a job
pub data IsWaiting (ps : Ps) (r : Reaction Url) : Type 0 where
  stands : (p : ℕ) (rs : List (Reaction Url)) → slice_get ps.all p ≡ Some (Pending rs) → Contains rs r → IsWaiting ps r
  in_job : (j : Job (Reaction Url)) → Contains ps.jobs j → j.reaction ≡ r → IsWaiting ps r

-- what waits goes on waiting, and what is settled is
pub record Goes (ps qs : Ps) : Type 0 where
  pub waits : (r : Reaction Url) → IsWaiting ps r → IsWaiting qs r
  pub settled : (p : ℕ) → IsSettled ps p → IsSettled qs p

pub goes_same : (ps : Ps) → Goes ps ps
goes_same ps = record { waits = λ r h. h; settled = λ p h. h }

pub goes_on : {ps qs rs : Ps} → Goes ps qs → Goes qs rs → Goes ps rs
goes_on a b = record { waits = λ r h. b.waits r (a.waits r h); settled = λ p h. b.settled p (a.settled p h) }

-- ---- lists

get_more : (xs ys : List Row) (p : ℕ) (x : Row) → slice_get xs p ≡ Some x → slice_get (xs ++ ys) p ≡ Some x
get_more [] ys p x e = cc
get_more (z ∷ zs) ys zero x e = e
get_more (z ∷ zs) ys (suc p) x e = get_more zs ys p x e

contains_left : {A : Type 0} (xs ys : List A) (x : A) → Contains ys x → Contains (xs ++ ys) x
contains_left [] ys x c = c
contains_left (z ∷ zs) ys x c = contains_there z (zs ++ ys) x (contains_left zs ys x c)

contains_job : (p : ℕ) (rs : List (Reaction Url)) (r : Reaction Url) → Contains rs r → Contains (map (job p) rs) (job p r)
contains_job p [] r c = absurd (contains_none r c)
contains_job p (x ∷ xs) r c = by (contains_cases x xs r c) (contains_job p xs r)
  where
    by : (x ≡ r) ⊎ Contains xs r → (Contains xs r → Contains (map (job p) xs) (job p r)) → Contains (job p x ∷ map (job p) xs) (job p r)
    by (inl e) rest = subst (λ y. Contains (job p x ∷ map (job p) xs) (job p y)) e (contains_here (job p x) (map (job p) xs))
    by (inr k) rest = contains_there (job p x) (map (job p) xs) (job p r) (rest k)

settled_more : (xs ys : List Row) (p : ℕ) → is_some (settled_by (slice_get xs p)) ≡ true → is_some (settled_by (slice_get (xs ++ ys) p)) ≡ true
settled_more [] ys p h = cc
settled_more (x ∷ xs) ys zero h = h
settled_more (x ∷ xs) ys (suc p) h = settled_more xs ys p h

settled_set : (xs : List Row) (q p : ℕ) (how : Settled (Value Url)) → is_some (settled_by (slice_get xs p)) ≡ true → is_some (settled_by (slice_get (slice_set xs q (Done how)) p)) ≡ true
settled_set [] q p how h = h
settled_set (x ∷ xs) zero zero how h = refl
settled_set (x ∷ xs) zero (suc p) how h = h
settled_set (x ∷ xs) (suc q) zero how h = h
settled_set (x ∷ xs) (suc q) (suc p) how h = settled_set xs q p how h

-- a promise that was made is settled then
pub settled_own : (xs : List Row) (q : ℕ) (how : Settled (Value Url)) → q < length xs → is_some (settled_by (slice_get (slice_set xs q (Done how)) q)) ≡ true
settled_own [] q how lt = absurd (omega (arith, lt))
settled_own (x ∷ xs) zero how lt = refl
settled_own (x ∷ xs) (suc q) how lt = settled_own xs q how (omega (arith, lt))

pub get_some : (xs : List Row) (p : ℕ) → p < length xs → (x : Row) × (slice_get xs p ≡ Some x)
get_some [] p lt = absurd (omega (arith, lt))
get_some (x ∷ xs) zero lt = (x, refl)
get_some (x ∷ xs) (suc p) lt = get_some xs p (omega (arith, lt))

-- a pending promise gets a reaction
settled_pending : (xs : List Row) (q p : ℕ) (rs ss : List (Reaction Url)) → slice_get xs q ≡ Some (Pending rs) → is_some (settled_by (slice_get xs p)) ≡ true → is_some (settled_by (slice_get (slice_set xs q (Pending ss)) p)) ≡ true
settled_pending [] q p rs ss e h = h
settled_pending (x ∷ xs) zero zero rs ss e h = let k : x ≡ Pending rs = cc in let none : is_some (settled_by (Some x)) ≡ false = ap (λ y. is_some (settled_by (Some y))) k in cc
settled_pending (x ∷ xs) zero (suc p) rs ss e h = h
settled_pending (x ∷ xs) (suc q) zero rs ss e h = h
settled_pending (x ∷ xs) (suc q) (suc p) rs ss e h = settled_pending xs q p rs ss e h

-- ---- what goes on

pub push_goes : (ps : Ps) (x : Row) → Goes ps (record ps { all = ps.all ++ x ∷ [] })
push_goes ps x = record { waits = λ r h. by h; settled = λ p h. settled_more ps.all (x ∷ []) p h }
  where
    by : {r : Reaction Url} → IsWaiting ps r → IsWaiting (record ps { all = ps.all ++ x ∷ [] }) r
    by (IsWaiting.stands p rs e c) = IsWaiting.stands p rs (get_more ps.all (x ∷ []) p (Pending rs) e) c
    by (IsWaiting.in_job j c e) = IsWaiting.in_job j c e

pub settle_goes : (ps : Ps) (q : ℕ) (how : Settled (Value Url)) → Goes ps (settle ps q how)
settle_goes ps q how = record { waits = λ r h. by h; settled = λ p h. settled_set ps.all q p how h }
  where
    own : (r : Reaction Url) (rs : List (Reaction Url)) → slice_get ps.all q ≡ Some (Pending rs) → Contains rs r → IsWaiting (settle ps q how) r
    own r rs e c = IsWaiting.in_job (job q r) (contains_left ps.jobs (triggered q (slice_get ps.all q)) (job q r) (subst (λ o. Contains (triggered q o) (job q r)) (sym e) (contains_job q rs r c))) refl

    at : (r : Reaction Url) (p : ℕ) (rs : List (Reaction Url)) → slice_get ps.all p ≡ Some (Pending rs) → Contains rs r → (p ≡ q) ⊎ (p ≡ q → ⊥) → IsWaiting (settle ps q how) r
    at r p rs e c (inl d) = own r rs (subst (λ k. slice_get ps.all k ≡ Some (Pending rs)) d e) c
    at r p rs e c (inr n) = IsWaiting.stands p rs (set_other ps.all q p (Done how) n ∙ e) c

    by : {r : Reaction Url} → IsWaiting ps r → IsWaiting (settle ps q how) r
    by {r} (IsWaiting.stands p rs e c) = at r p rs e c (equal_cases p q)
    by (IsWaiting.in_job j c e) = IsWaiting.in_job j (contains_more ps.jobs (triggered q (slice_get ps.all q)) j c) e

register_goes_by : (ps : Ps) (q : ℕ) (s : Reaction Url) (o : Option Row) → slice_get ps.all q ≡ o → Goes ps (register_by o ps q s)
register_goes_by ps q s None d = goes_same ps
register_goes_by ps q s (Some (Pending ss)) d = record { waits = λ r h. by h; settled = λ p h. settled_pending ps.all q p ss (ss ++ s ∷ []) d h }
  where
    at : (r : Reaction Url) (p : ℕ) (rs : List (Reaction Url)) → slice_get ps.all p ≡ Some (Pending rs) → Contains rs r → (p ≡ q) ⊎ (p ≡ q → ⊥) → IsWaiting (register_by (Some (Pending ss)) ps q s) r
    at r p rs e c (inl k) =
        let one : Some (Pending rs) ≡ Some (Pending ss) = sym e ∙ ap (slice_get ps.all) k ∙ d in
        let same : rs ≡ ss = cc in
        IsWaiting.stands q (ss ++ s ∷ []) (get_set ps.all q (Pending ss) (Pending (ss ++ s ∷ [])) d) (contains_more ss (s ∷ []) r (subst (λ xs. Contains xs r) same c))
    at r p rs e c (inr n) = IsWaiting.stands p rs (set_other ps.all q p (Pending (ss ++ s ∷ [])) n ∙ e) c

    by : {r : Reaction Url} → IsWaiting ps r → IsWaiting (register_by (Some (Pending ss)) ps q s) r
    by {r} (IsWaiting.stands p rs e c) = at r p rs e c (equal_cases p q)
    by (IsWaiting.in_job j c e) = IsWaiting.in_job j c e
register_goes_by ps q s (Some (Done how)) d = record { waits = λ r h. by h; settled = λ p h. h }
  where
    by : {r : Reaction Url} → IsWaiting ps r → IsWaiting (register_by (Some (Done how)) ps q s) r
    by (IsWaiting.stands p rs e c) = IsWaiting.stands p rs e c
    by (IsWaiting.in_job j c e) = IsWaiting.in_job j (contains_more ps.jobs (job q s ∷ []) j c) e

pub register_goes : (ps : Ps) (q : ℕ) (s : Reaction Url) → Goes ps (register ps q s)
register_goes ps q s = register_goes_by ps q s (slice_get ps.all q) refl

-- the reaction that is registered on a promise that was made waits
registered_by : (ps : Ps) (q : ℕ) (s : Reaction Url) (x : Row) → slice_get ps.all q ≡ Some x → IsWaiting (register_by (Some x) ps q s) s
registered_by ps q s (Pending ss) d = IsWaiting.stands q (ss ++ s ∷ []) (get_set ps.all q (Pending ss) (Pending (ss ++ s ∷ [])) d) (contains_last ss s)
registered_by ps q s (Done how) d = IsWaiting.in_job (job q s) (contains_last ps.jobs (job q s)) refl

pub registered_waits : (ps : Ps) (q : ℕ) (s : Reaction Url) → q < length ps.all → IsWaiting (register ps q s) s
registered_waits ps q s lt = let x = get_some ps.all q lt in subst (λ o. IsWaiting (register_by o ps q s) s) (sym x.1) (registered_by ps q s x.0 x.1)

new_goes : (ps : Ps) (v : Value Url) (m : Url) → Goes ps (register (make_fulfilled ps v) (next_promise ps) (Await m))
new_goes ps v m = goes_on (push_goes ps (Done (Fulfilled v))) (register_goes (make_fulfilled ps v) (next_promise ps) (Await m))

pub await_goes : (ps : Ps) (v : Value Url) (m : Url) → Goes ps (await_on ps v m)
await_goes ps Undefined m = new_goes ps Undefined m
await_goes ps (Truth b) m = new_goes ps (Truth b) m
await_goes ps (Text text) m = new_goes ps (Text text) m
await_goes ps (Func g i) m = new_goes ps (Func g i) m
await_goes ps (Error id) m = new_goes ps (Error id) m
await_goes ps (Namespace g) m = new_goes ps (Namespace g) m
await_goes ps (value.Promise id) m = register_goes ps id (Await m)

-- a job is taken: what waited is its reaction, or waits still
taken_by : (ps left : Ps) (j : Job (Reaction Url)) (js : List (Job (Reaction Url))) → first_job js ps ≡ Some (j, left) → (left.all ≡ ps.all) × (js ≡ j ∷ left.jobs)
taken_by ps left j [] e = cc
taken_by ps left j (next ∷ js) e =
    let now : Ps = record ps { jobs = js } in
    let one : (next, now) ≡ (j, left) = cc in
    subst (λ (x : Job (Reaction Url) × Ps). (x.1.all ≡ ps.all) × ((next ∷ js) ≡ (x.0 ∷ x.1.jobs))) one (refl, refl)

pub taken_waits : (ps left : Ps) (j : Job (Reaction Url)) (r : Reaction Url) → next_job ps ≡ Some (j, left) → IsWaiting ps r → (j.reaction ≡ r) ⊎ IsWaiting left r
taken_waits ps left j r e h = by h
  where
    k : (left.all ≡ ps.all) × (ps.jobs ≡ j ∷ left.jobs)
    k = taken_by ps left j ps.jobs e

    at : (i : Job (Reaction Url)) → i.reaction ≡ r → (j ≡ i) ⊎ Contains left.jobs i → (j.reaction ≡ r) ⊎ IsWaiting left r
    at i d (inl same) = inl (ap (λ (x : Job (Reaction Url)). x.reaction) same ∙ d)
    at i d (inr c) = inr (IsWaiting.in_job i c d)

    by : IsWaiting ps r → (j.reaction ≡ r) ⊎ IsWaiting left r
    by (IsWaiting.stands p rs d c) = inr (IsWaiting.stands p rs (ap (λ (xs : List Row). slice_get xs p) k.0 ∙ d) c)
    by (IsWaiting.in_job i c d) = at i d (contains_cases j left.jobs i (subst (λ (js : List (Job (Reaction Url))). Contains js i) k.1 c))

pub taken_settled : (ps left : Ps) (j : Job (Reaction Url)) (p : ℕ) → next_job ps ≡ Some (j, left) → IsSettled ps p → IsSettled left p
taken_settled ps left j p e h = subst (λ (xs : List Row). is_some (settled_by (slice_get xs p)) ≡ true) (sym (taken_by ps left j ps.jobs e).0) h
