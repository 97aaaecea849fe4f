-- Which promises have reactions to the end of a body, and what else is done to promises.
use Rattle.std.proofs.Common.{◌≡◌, ◌⊎◌, inl, inr, ℕ, zero, suc, ◌<◌, List, [], ◌∷◌, ◌++◌, map, length, Option, Some, None, refl, ap, subst, sym, ◌∙◌}
use Rattle.std.specs.Prelude.{slice_get, slice_set}
use Rattle.esm_base.specs.Urls.{Url}
use Rattle.esm_realm.proofs.Lists.{either}
use Rattle.esm_values.specs.Value.{Value, Undefined, Truth, Text, Func, Error, Namespace}
use Rattle.esm_values.specs.Value as value
use Rattle.esm_promise.specs.Promises.{Promise, Settled, Fulfilled, Rejected, Pending, Done, Job, job, make, make_fulfilled, settle, settled, settled_by, triggered, register, register_by, next_promise, next_job, first_job}
use Rattle.esm_promise.specs.Reactions.{Reaction, Await, BodyEnd}
use Rattle.esm_loads.proofs.Requests.{set_own, set_other, equal_cases, push_cases}
use Rattle.esm_rewriting.specs.Bodies.{await_on}
use Rattle.esm_world.proofs.ToldPromises.{Ps, below_not}

abbrev Row : Type 0
Row = Promise (Reaction Url) (Value Url)

-- ---- elements of lists

abbrev pub Among : {A : Type 0} → A → List A → Type 0
Among x [] = ⊥
Among x (y ∷ ys) = (x ≡ y) ⊎ Among x ys

pub among_left : {A : Type 0} (x : A) (xs ys : List A) → Among x xs → Among x (xs ++ ys)
among_left x [] ys h = absurd h
among_left x (y ∷ xs) ys h = either h (λ e. inl e) (λ k. inr (among_left x xs ys k))

pub among_right : {A : Type 0} (x : A) (xs ys : List A) → Among x ys → Among x (xs ++ ys)
among_right x [] ys h = h
among_right x (y ∷ xs) ys h = inr (among_right x xs ys h)

pub among_split : {A : Type 0} (x : A) (xs ys : List A) → Among x (xs ++ ys) → Among x xs ⊎ Among x ys
among_split x [] ys h = inr h
among_split x (y ∷ xs) ys h = either h (λ e. inl (inl e)) (λ k. either (among_split x xs ys k) (λ a. inl (inr a)) (λ b. inr b))

pub among_last : {A : Type 0} (x : A) (xs : List A) → Among x (xs ++ x ∷ [])
among_last x xs = among_right x xs (x ∷ []) (inl refl)

-- ---- reactions to the end of a body

-- a reaction to the end of the body of m stands on the promise, or did, and waits for its turn
pub data BodyAt (ps : Ps) (p : ℕ) (m : Url) : Type 0 where
  stands : (rs : List (Reaction Url)) → slice_get ps.all p ≡ Some (Pending rs) → Among (BodyEnd m) rs → BodyAt ps p m
  waits : Among (job p (BodyEnd m)) ps.jobs → BodyAt ps p m

-- it waits for its turn, and the promise is fulfilled
pub record FulfilledJob (ps : Ps) (p : ℕ) (m : Url) : Type 0 where
  pub v : Value Url
  pub waits : Among (job p (BodyEnd m)) ps.jobs
  pub is : settled ps p ≡ Some (Fulfilled v)

-- each of them stands on a promise that was made
abbrev pub AreMade : Ps → Type 0
AreMade ps = (p : ℕ) (m : Url) → BodyAt ps p m → p < next_promise ps

-- there are no more of them
pub record Quiet (ps qs : Ps) : Type 0 where
  pub bodies : (p : ℕ) (m : Url) → BodyAt qs p m → BodyAt ps p m
  pub jobs : (p : ℕ) (m : Url) → FulfilledJob qs p m → FulfilledJob ps p m

pub quiet_same : (ps : Ps) → Quiet ps ps
quiet_same ps = record { bodies = λ p m h. h; jobs = λ p m h. h }

pub quiet_on : {ps qs rs : Ps} → Quiet ps qs → Quiet qs rs → Quiet ps rs
quiet_on a b = record { bodies = λ p m h. a.bodies p m (b.bodies p m h); jobs = λ p m h. a.jobs p m (b.jobs p m h) }

-- the reaction is another one
abbrev pub IsOther : Reaction Url → Type 0
IsOther r = (m : Url) → BodyEnd m ≡ r → ⊥

-- ---- a promise is made

pub make_bodies : (ps : Ps) (rs : List (Reaction Url)) (p : ℕ) (m : Url) → BodyAt (make ps rs) p m → ((p ≡ next_promise ps) × Among (BodyEnd m) rs) ⊎ BodyAt ps p m
make_bodies ps rs p m (waits a) = inr (waits a)
make_bodies ps rs p m (stands xs e a) = either (push_cases ps.all (Pending rs) p (Pending xs) e) (λ d. inl (d.0, own d.1)) (λ f. inr (stands xs f a))
  where
    own : ◌≡◌ {A = Row} (Pending xs) (Pending rs) → Among (BodyEnd m) rs
    own d = let same : xs ≡ rs = cc in subst (λ zs. Among (BodyEnd m) zs) same a

pub make_jobs : (ps : Ps) (rs : List (Reaction Url)) (p : ℕ) (m : Url) → FulfilledJob (make ps rs) p m → FulfilledJob ps p m
make_jobs ps rs p m f = record { v = f.v; waits = f.waits; is = by (slice_get (ps.all ++ Pending rs ∷ []) p) refl f.is }
  where
    old : (y : Row) → settled_by (Some y) ≡ Some (Fulfilled f.v) → ((p ≡ length ps.all) × (y ≡ Pending rs)) ⊎ (slice_get ps.all p ≡ Some y) → settled ps p ≡ Some (Fulfilled f.v)
    old y e (inl d) = absurd (let k : settled_by (Some (Pending rs)) ≡ Some (Fulfilled f.v) = ap (λ z. settled_by (Some z)) (sym d.1) ∙ e in cc)
    old y e (inr k) = ap settled_by k ∙ e

    by : (o : Option Row) → slice_get (ps.all ++ Pending rs ∷ []) p ≡ o → settled_by o ≡ Some (Fulfilled f.v) → settled ps p ≡ Some (Fulfilled f.v)
    by None k e = absurd (let n : None ≡ Some (Fulfilled f.v) = e in cc)
    by (Some y) k e = old y e (push_cases ps.all (Pending rs) p y k)

pub make_quiet : (ps : Ps) (rs : List (Reaction Url)) → ((m : Url) → Among (BodyEnd m) rs → ⊥) → Quiet ps (make ps rs)
make_quiet ps rs none = record { bodies = λ p m h. either (make_bodies ps rs p m h) (λ d. absurd (none m d.1)) (λ b. b); jobs = make_jobs ps rs }

-- one that is fulfilled
done_quiet : (ps : Ps) (v : Value Url) → AreMade ps → Quiet ps (make_fulfilled ps v)
done_quiet ps v made = record { bodies = bodies; jobs = jobs }
  where
    bodies : (p : ℕ) (m : Url) → BodyAt (make_fulfilled ps v) p m → BodyAt ps p m
    bodies p m (waits a) = waits a
    bodies p m (stands xs e a) = either (push_cases ps.all (Done (Fulfilled v)) p (Pending xs) e) (λ d. absurd (let k : Pending xs ≡ Done (Fulfilled v) = d.1 in cc)) (λ f. stands xs f a)

    jobs : (p : ℕ) (m : Url) → FulfilledJob (make_fulfilled ps v) p m → FulfilledJob ps p m
    jobs p m f = record { v = f.v; waits = f.waits; is = by (slice_get (ps.all ++ Done (Fulfilled v) ∷ []) p) refl f.is }
      where
        old : (y : Row) → settled_by (Some y) ≡ Some (Fulfilled f.v) → ((p ≡ length ps.all) × (y ≡ Done (Fulfilled v))) ⊎ (slice_get ps.all p ≡ Some y) → settled ps p ≡ Some (Fulfilled f.v)
        old y e (inl d) = absurd (below_not p (length ps.all) (made p m (waits f.waits)) d.0)
        old y e (inr k) = ap settled_by k ∙ e

        by : (o : Option Row) → slice_get (ps.all ++ Done (Fulfilled v) ∷ []) p ≡ o → settled_by o ≡ Some (Fulfilled f.v) → settled ps p ≡ Some (Fulfilled f.v)
        by None k e = absurd (let n : None ≡ Some (Fulfilled f.v) = e in cc)
        by (Some y) k e = old y e (push_cases ps.all (Done (Fulfilled v)) p y k)

-- ---- a promise is settled

map_among : (q p : ℕ) (m : Url) (rs : List (Reaction Url)) → Among (job p (BodyEnd m)) (map (job q) rs) → (p ≡ q) × Among (BodyEnd m) rs
map_among q p m [] h = absurd h
map_among q p m (r ∷ rs) h = either h (λ e. (ap (λ (j : Job (Reaction Url)). j.promise) e, inl (ap (λ (j : Job (Reaction Url)). j.reaction) e)))
    (λ k. let r = map_among q p m rs k in (r.0, inr r.1))

triggered_among : (ps : Ps) (q p : ℕ) (m : Url) (o : Option Row) → slice_get ps.all q ≡ o → Among (job p (BodyEnd m)) (triggered q o) → (p ≡ q) × BodyAt ps q m
triggered_among ps q p m None e h = absurd h
triggered_among ps q p m (Some (Pending rs)) e h = let r = map_among q p m rs h in (r.0, stands rs e r.1)
triggered_among ps q p m (Some (Done how)) e h = absurd h

pub settle_bodies : (ps : Ps) (q : ℕ) (how : Settled (Value Url)) (p : ℕ) (m : Url) → BodyAt (settle ps q how) p m → BodyAt ps p m
settle_bodies ps q how p m (waits a) = either (among_split (job p (BodyEnd m)) ps.jobs (triggered q (slice_get ps.all q)) a) (λ h. waits h)
    (λ t. let r = triggered_among ps q p m (slice_get ps.all q) refl t in subst (λ x. BodyAt ps x m) (sym r.0) r.1)
settle_bodies ps q how p m (stands rs e a) = by (equal_cases p q)
  where
    by : (p ≡ q) ⊎ (p ≡ q → ⊥) → BodyAt ps p m
    by (inl d) = absurd (let k : Pending rs ≡ Done how = set_own ps.all q (Done how) (Pending rs) (subst (λ x. slice_get (slice_set ps.all q (Done how)) x ≡ Some (Pending rs)) d e) in cc)
    by (inr n) = stands rs (sym (set_other ps.all q p (Done how) n) ∙ e) a

set_row : (xs : List Row) (q : ℕ) (x : Row) (how : Settled (Value Url)) → settled_by (slice_get (slice_set xs q x) q) ≡ Some how → settled_by (Some x) ≡ Some how
set_row [] q x how e = absurd (let n : None ≡ Some how = e in cc)
set_row (y ∷ ys) zero x how e = e
set_row (y ∷ ys) (suc q) x how e = set_row ys q x how e

-- it was such a job before, or this promise was fulfilled
pub settle_ends : (ps : Ps) (q : ℕ) (how : Settled (Value Url)) (p : ℕ) (m : Url) → FulfilledJob (settle ps q how) p m → FulfilledJob ps p m ⊎ (BodyAt ps q m × (v : Value Url) × (how ≡ Fulfilled v))
settle_ends ps q how p m f = by (equal_cases p q)
  where
    by : (p ≡ q) ⊎ (p ≡ q → ⊥) → FulfilledJob ps p m ⊎ (BodyAt ps q m × (v : Value Url) × (how ≡ Fulfilled v))
    by (inl d) =
        let k : Some how ≡ Some (Fulfilled f.v) = set_row ps.all q (Done how) (Fulfilled f.v) (subst (λ x. settled_by (slice_get (slice_set ps.all q (Done how)) x) ≡ Some (Fulfilled f.v)) d f.is) in
        let same : how ≡ Fulfilled f.v = cc in
        inr (subst (λ x. BodyAt ps x m) d (settle_bodies ps q how p m (waits f.waits)), f.v, same)
    by (inr n) = inl (record {
      v = f.v;
      waits = either (among_split (job p (BodyEnd m)) ps.jobs (triggered q (slice_get ps.all q)) f.waits) (λ h. h) (λ t. absurd (n (triggered_among ps q p m (slice_get ps.all q) refl t).0));
      is = sym (ap settled_by (set_other ps.all q p (Done how) n)) ∙ f.is;
    })

-- on which no such reaction stands
pub settle_quiet : (ps : Ps) (q : ℕ) (how : Settled (Value Url)) → ((m : Url) → BodyAt ps q m → ⊥) → Quiet ps (settle ps q how)
settle_quiet ps q how none = record { bodies = settle_bodies ps q how; jobs = λ p m f. either (settle_ends ps q how p m f) (λ h. h) (λ d. absurd (none m d.0)) }

pub reject_quiet : (ps : Ps) (q : ℕ) (v : Value Url) → Quiet ps (settle ps q (Rejected v))
reject_quiet ps q v = record {
  bodies = settle_bodies ps q (Rejected v);
  jobs = λ p m f. either (settle_ends ps q (Rejected v) p m f) (λ h. h) (λ d. absurd (let k : Rejected v ≡ Fulfilled d.1 = d.2 in cc));
}

-- ---- a promise gets another reaction

registered_by : (ps : Ps) (q : ℕ) (r : Reaction Url) (o : Option Row) → slice_get ps.all q ≡ o → IsOther r → Quiet ps (register_by o ps q r)
registered_by ps q r None g n = quiet_same ps
registered_by ps q r (Some (Pending rs)) g n = record { bodies = bodies; jobs = jobs }
  where
    now : Ps
    now = register_by (Some (Pending rs)) ps q r

    bodies : (p : ℕ) (m : Url) → BodyAt now p m → BodyAt ps p m
    bodies p m (waits a) = waits a
    bodies p m (stands xs e a) = by (equal_cases p q)
      where
        old : Among (BodyEnd m) (rs ++ r ∷ []) → Among (BodyEnd m) rs
        old k = either (among_split (BodyEnd m) rs (r ∷ []) k) (λ h. h) (λ l. either l (λ d. absurd (n m d)) (λ z. absurd z))

        by : (p ≡ q) ⊎ (p ≡ q → ⊥) → BodyAt ps p m
        by (inl d) =
            let k : Pending xs ≡ Pending (rs ++ r ∷ []) = set_own ps.all q (Pending (rs ++ r ∷ [])) (Pending xs) (subst (λ x. slice_get (slice_set ps.all q (Pending (rs ++ r ∷ []))) x ≡ Some (Pending xs)) d e) in
            let same : xs ≡ (rs ++ r ∷ []) = cc in
            stands rs (ap (λ x. slice_get ps.all x) d ∙ g) (old (subst (λ zs. Among (BodyEnd m) zs) same a))
        by (inr k) = stands xs (sym (set_other ps.all q p (Pending (rs ++ r ∷ [])) k) ∙ e) a

    jobs : (p : ℕ) (m : Url) → FulfilledJob now p m → FulfilledJob ps p m
    jobs p m f = record { v = f.v; waits = f.waits; is = by (equal_cases p q) }
      where
        by : (p ≡ q) ⊎ (p ≡ q → ⊥) → settled ps p ≡ Some (Fulfilled f.v)
        by (inl d) = absurd (let k : None ≡ Some (Fulfilled f.v) = set_row ps.all q (Pending (rs ++ r ∷ [])) (Fulfilled f.v) (subst (λ x. settled_by (slice_get (slice_set ps.all q (Pending (rs ++ r ∷ []))) x) ≡ Some (Fulfilled f.v)) d f.is) in cc)
        by (inr k) = sym (ap settled_by (set_other ps.all q p (Pending (rs ++ r ∷ [])) k)) ∙ f.is
registered_by ps q r (Some (Done how)) g n = record { bodies = bodies; jobs = λ p m f. record { v = f.v; waits = old p m f.waits; is = f.is } }
  where
    old : (p : ℕ) (m : Url) → Among (job p (BodyEnd m)) (ps.jobs ++ job q r ∷ []) → Among (job p (BodyEnd m)) ps.jobs
    old p m k = either (among_split (job p (BodyEnd m)) ps.jobs (job q r ∷ []) k) (λ h. h)
        (λ l. either l (λ d. absurd (n m (ap (λ (j : Job (Reaction Url)). j.reaction) d))) (λ z. absurd z))

    bodies : (p : ℕ) (m : Url) → BodyAt (register_by (Some (Done how)) ps q r) p m → BodyAt ps p m
    bodies p m (waits a) = waits (old p m a)
    bodies p m (stands xs e a) = stands xs e a

pub register_quiet : (ps : Ps) (q : ℕ) (r : Reaction Url) → IsOther r → Quiet ps (register ps q r)
register_quiet ps q r n = registered_by ps q r (slice_get ps.all q) refl n

await_other : (m : Url) → IsOther (Await m)
await_other m x e = cc

new_quiet : (ps : Ps) (v : Value Url) (m : Url) → AreMade ps → Quiet ps (register (make_fulfilled ps v) (next_promise ps) (Await m))
new_quiet ps v m made = quiet_on (done_quiet ps v made) (register_quiet (make_fulfilled ps v) (next_promise ps) (Await m) (await_other m))

-- a body stands at an await
pub await_quiet : (ps : Ps) (v : Value Url) (m : Url) → AreMade ps → Quiet ps (await_on ps v m)
await_quiet ps Undefined m made = new_quiet ps Undefined m made
await_quiet ps (Truth b) m made = new_quiet ps (Truth b) m made
await_quiet ps (Text text) m made = new_quiet ps (Text text) m made
await_quiet ps (Func g i) m made = new_quiet ps (Func g i) m made
await_quiet ps (Error id) m made = new_quiet ps (Error id) m made
await_quiet ps (Namespace g) m made = new_quiet ps (Namespace g) m made
await_quiet ps (value.Promise id) m made = register_quiet ps id (Await m) (await_other m)

-- ---- a job is taken

-- it was the first, and the others are left
pub record Takes (ps left : Ps) (j : Job (Reaction Url)) : Type 0 where
  pub rest : List (Job (Reaction Url))
  pub jobs_are : ps.jobs ≡ j ∷ rest
  pub left_is : left ≡ record ps { jobs = rest }

takes_by : (ps left : Ps) (j : Job (Reaction Url)) (js : List (Job (Reaction Url))) → ps.jobs ≡ js → first_job js ps ≡ Some (j, left) → Takes ps left j
takes_by ps left j [] d e = absurd (let n : None ≡ Some (j, left) = e in cc)
takes_by ps left j (next ∷ js) d e =
    let now : Ps = record ps { jobs = js } in
    let one : (next, now) ≡ (j, left) = cc in
    record { rest = js; jobs_are = d ∙ ap (λ (x : Job (Reaction Url) × Ps). x.0 ∷ js) one; left_is = sym (ap (λ (x : Job (Reaction Url) × Ps). x.1) one) }

pub takes : (ps left : Ps) (j : Job (Reaction Url)) → next_job ps ≡ Some (j, left) → Takes ps left j
takes ps left j e = takes_by ps left j ps.jobs refl e

pub taken_quiet : (ps left : Ps) (j : Job (Reaction Url)) → Takes ps left j → Quiet ps left
taken_quiet ps left j t = subst (λ x. Quiet ps x) (sym t.left_is) (record { bodies = bodies; jobs = λ p m f. record { v = f.v; waits = later p m f.waits; is = f.is } })
  where
    later : (p : ℕ) (m : Url) → Among (job p (BodyEnd m)) t.rest → Among (job p (BodyEnd m)) ps.jobs
    later p m a = subst (λ js. Among (job p (BodyEnd m)) js) (sym t.jobs_are) (inr a)

    bodies : (p : ℕ) (m : Url) → BodyAt (record ps { jobs = t.rest }) p m → BodyAt ps p m
    bodies p m (waits a) = waits (later p m a)
    bodies p m (stands rs e a) = stands rs e a

-- and where it is one of a body, whose promise is fulfilled
pub taken_fulfilled : (ps left : Ps) (j : Job (Reaction Url)) (m : Url) (v : Value Url) → Takes ps left j → j.reaction ≡ BodyEnd m → settled left j.promise ≡ Some (Fulfilled v) → FulfilledJob ps j.promise m
taken_fulfilled ps left j m v t r e = record {
  v = v;
  waits = subst (λ js. Among (job j.promise (BodyEnd m)) js) (sym t.jobs_are) (inl (ap (λ x. job j.promise x) (sym r)));
  is = ap (λ (x : Ps). settled x j.promise) (sym t.left_is) ∙ e;
}
