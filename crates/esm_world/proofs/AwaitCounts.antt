-- How many reactions to an await there are, as promises are made, settled and reacted to, and how many bodies stand at one.
use Rattle.std.proofs.Common.{◌≡◌, ℕ, zero, suc, ◌+◌, ◌≤◌, Bool, true, false, cond, List, [], ◌∷◌, ◌++◌, Option, Some, None, refl, ap, subst, sym, ◌∙◌, arith}
use Rattle.std.specs.Prelude.{map, slice_get, slice_set, is_some}
use Rattle.esm_base.specs.Urls.{Url, same_url}
use Rattle.esm_realm.proofs.Urls.{same_text}
use Rattle.esm_values.specs.Value.{Value}
use Rattle.esm_promise.specs.Promises.{Promise, Pending, Done, Promises, Settled, Fulfilled, Job, job, settle, settled, settled_by, triggered, register, register_by, make, make_fulfilled, next_job, first_job}
use Rattle.esm_promise.specs.Reactions.{Reaction}
use Rattle.esm_rewriting.specs.State.{Standing}
use Rattle.esm_rewriting.specs.Bodies.{Taken, take_by, take_standing}
use Rattle.esm_world.specs.Awaits.{is_await, awaits_among, awaits_on, awaits_pending, awaits_in_jobs, awaits_of, standing_count, AreSettled}
use Rattle.esm_world.proofs.Each.{joined}

abbrev pub Queue : Type 0
Queue = Promises (Reaction Url) (Value Url)

abbrev Row : Type 0
Row = Promise (Reaction Url) (Value Url)

-- ---- reactions to an await

module _ (m : Url) where
  abbrev pub one : Reaction Url → ℕ
  one r = cond (is_await m r) 1 0

  among_more : (rs ss : List (Reaction Url)) → awaits_among m (rs ++ ss) ≡ awaits_among m rs + awaits_among m ss
  among_more [] ss = omega arith
  among_more (r ∷ rs) ss = let e = among_more rs ss in omega (arith, e)

  pending_more : (xs ys : List Row) → awaits_pending m (xs ++ ys) ≡ awaits_pending m xs + awaits_pending m ys
  pending_more [] ys = omega arith
  pending_more (x ∷ xs) ys = let e = pending_more xs ys in omega (arith, e)

  jobs_more : (xs ys : List (Job (Reaction Url))) → awaits_in_jobs m (xs ++ ys) ≡ awaits_in_jobs m xs + awaits_in_jobs m ys
  jobs_more [] ys = omega arith
  jobs_more (x ∷ xs) ys = let e = jobs_more xs ys in omega (arith, e)

  jobs_of : (p : ℕ) (rs : List (Reaction Url)) → awaits_in_jobs m (map (job p) rs) ≡ awaits_among m rs
  jobs_of p [] = refl
  jobs_of p (r ∷ rs) = let e = jobs_of p rs in omega (arith, e)

  abbrev on_by : Option Row → ℕ
  on_by None = 0
  on_by (Some x) = awaits_on m x

  -- a promise in the place of another
  set_row : (xs : List Row) (p : ℕ) (x y : Row) → slice_get xs p ≡ Some x → awaits_pending m (slice_set xs p y) + awaits_on m x ≡ awaits_pending m xs + awaits_on m y
  set_row [] p x y e = cc
  set_row (z ∷ xs) zero x y e = let s : awaits_on m z ≡ awaits_on m x = ap on_by e in omega (arith, s)
  set_row (z ∷ xs) (suc p) x y e = let h = set_row xs p x y e in omega (arith, h)

  set_none : (xs : List Row) (p : ℕ) (y : Row) → slice_get xs p ≡ None → awaits_pending m (slice_set xs p y) ≡ awaits_pending m xs
  set_none [] p y e = refl
  set_none (z ∷ xs) zero y e = cc
  set_none (z ∷ xs) (suc p) y e = let h = set_none xs p y e in omega (arith, h)

  pub settle_count : (ps : Queue) (p : ℕ) (how : Settled (Value Url)) → awaits_of m (settle ps p how) ≡ awaits_of m ps
  settle_count ps p how = by (slice_get ps.all p) refl
    where
      by : (o : Option Row) → slice_get ps.all p ≡ o → awaits_in_jobs m (ps.jobs ++ triggered p (slice_get ps.all p)) + awaits_pending m (slice_set ps.all p (Done how)) ≡ awaits_of m ps
      by None e =
          let h = set_none ps.all p (Done how) e in
          let t : awaits_in_jobs m (triggered p (slice_get ps.all p)) ≡ 0 = ap (λ o. awaits_in_jobs m (triggered p o)) e in
          let j = jobs_more ps.jobs (triggered p (slice_get ps.all p)) in
          omega (arith, h, t, j)
      by (Some (Pending rs)) e =
          let h = set_row ps.all p (Pending rs) (Done how) e in
          let t : awaits_in_jobs m (triggered p (slice_get ps.all p)) ≡ awaits_among m rs = ap (λ o. awaits_in_jobs m (triggered p o)) e ∙ jobs_of p rs in
          let j = jobs_more ps.jobs (triggered p (slice_get ps.all p)) in
          omega (arith, h, t, j)
      by (Some (Done old)) e =
          let h = set_row ps.all p (Done old) (Done how) e in
          let t : awaits_in_jobs m (triggered p (slice_get ps.all p)) ≡ 0 = ap (λ o. awaits_in_jobs m (triggered p o)) e in
          let j = jobs_more ps.jobs (triggered p (slice_get ps.all p)) in
          omega (arith, h, t, j)

  pub register_count : (ps : Queue) (p : ℕ) (r : Reaction Url) → awaits_of m (register ps p r) ≤ awaits_of m ps + one r
  register_count ps p r = by (slice_get ps.all p) refl
    where
      by : (o : Option Row) → slice_get ps.all p ≡ o → awaits_of m (register_by o ps p r) ≤ awaits_of m ps + one r
      by None e = omega arith
      by (Some (Pending rs)) e = let h = set_row ps.all p (Pending rs) (Pending (rs ++ r ∷ [])) e in let t = among_more rs (r ∷ []) in omega (arith, h, t)
      by (Some (Done how)) e = let j = jobs_more ps.jobs (job p r ∷ []) in omega (arith, j)

  pub make_count : (ps : Queue) (rs : List (Reaction Url)) → awaits_of m (make ps rs) ≡ awaits_of m ps + awaits_among m rs
  make_count ps rs = let e = pending_more ps.all (Pending rs ∷ []) in omega (arith, e)

  pub fulfilled_count : (ps : Queue) (v : Value Url) → awaits_of m (make_fulfilled ps v) ≡ awaits_of m ps
  fulfilled_count ps v = let e = pending_more ps.all (Done (Fulfilled v) ∷ []) in omega (arith, e)

  abbrev counted : Option (Job (Reaction Url) × Queue) → ℕ
  counted None = 0
  counted (Some (k, rest)) = one k.reaction + awaits_of m rest

  pub next_count : (ps left : Queue) (j : Job (Reaction Url)) → next_job ps ≡ Some (j, left) → awaits_of m ps ≡ one j.reaction + awaits_of m left
  next_count ps left j e = by ps.jobs refl e
    where
      by : (js : List (Job (Reaction Url))) → ps.jobs ≡ js → first_job js ps ≡ Some (j, left) → awaits_of m ps ≡ one j.reaction + awaits_of m left
      by [] d f = cc
      by (k ∷ ks) d f = let h : one k.reaction + (awaits_in_jobs m ks + awaits_pending m ps.all) ≡ one j.reaction + awaits_of m left = ap counted f in let g = ap (awaits_in_jobs m) d in omega (arith, h, g)

  -- ---- bodies that stand at one

  pub standing_more : (ss ts : List (Standing Url)) → standing_count m (ss ++ ts) ≡ standing_count m ss + standing_count m ts
  standing_more [] ts = omega arith
  standing_more (s ∷ ss) ts = let e = standing_more ss ts in omega (arith, e)

  abbrev taken_count : Option (Taken Url) → ℕ
  taken_count None = 0
  taken_count (Some t) = cond (same_url t.standing.at m) 1 0 + standing_count m t.others

  pub take_count : (ss : List (Standing Url)) (x : Url) (t : Taken Url) → take_standing same_url ss x ≡ Some t → standing_count m ss ≡ cond (same_url t.standing.at m) 1 0 + standing_count m t.others
  take_count [] x t e = cc
  take_count (s ∷ ss) x t e = by (same_url s.at x) (take_standing same_url ss x) (λ u. take_count ss x u) e
    where
      by : (b : Bool) (o : Option (Taken Url)) → ((u : Taken Url) → o ≡ Some u → standing_count m ss ≡ cond (same_url u.standing.at m) 1 0 + standing_count m u.others) → take_by same_url b s ss o ≡ Some t
          → cond (same_url s.at m) 1 0 + standing_count m ss ≡ cond (same_url t.standing.at m) 1 0 + standing_count m t.others
      by true o later e = ap taken_count e
      by false None later e = cc
      by false (Some u) later e =
          let h : cond (same_url u.standing.at m) 1 0 + (cond (same_url s.at m) 1 0 + standing_count m u.others) ≡ cond (same_url t.standing.at m) 1 0 + standing_count m t.others = ap taken_count e in
          let k = later u refl in omega (arith, h, k)

-- the body that is taken is that of the module
abbrev taken_at : Url → Option (Taken Url) → Type 0
taken_at x None = Unit {0}
taken_at x (Some t) = same_url t.standing.at x ≡ true

takes_own : (ss : List (Standing Url)) (x : Url) → taken_at x (take_standing same_url ss x)
takes_own [] x = tt
takes_own (s ∷ ss) x = by (same_url s.at x) refl (take_standing same_url ss x) (takes_own ss x)
  where
    by : (b : Bool) → same_url s.at x ≡ b → (o : Option (Taken Url)) → taken_at x o → taken_at x (take_by same_url b s ss o)
    by true e o h = e
    by false e None h = tt
    by false e (Some t) h = h

pub taken_is : (ss : List (Standing Url)) (x : Url) (t : Taken Url) → take_standing same_url ss x ≡ Some t → t.standing.at ≡ x
taken_is ss x t e = same_text t.standing.at x (subst (λ o. taken_at x o) e (takes_own ss x))

-- where a body of the module stands, one is taken
pub takes_one : (ss : List (Standing Url)) (x : Url) → 1 ≤ standing_count x ss → (t : Taken Url) × (take_standing same_url ss x ≡ Some t)
takes_one [] x h = absurd (omega (arith, h))
takes_one (s ∷ ss) x h = by (same_url s.at x) h (takes_one ss x)
  where
    by : (b : Bool) → 1 ≤ cond b 1 0 + standing_count x ss → (1 ≤ standing_count x ss → (t : Taken Url) × (take_standing same_url ss x ≡ Some t)) → (t : Taken Url) × (take_by same_url b s ss (take_standing same_url ss x) ≡ Some t)
    by true h later = (record { standing = s; others = ss }, refl)
    by false h later = let l = later (omega (arith, h)) in (record { standing = l.0.standing; others = s ∷ l.0.others }, ap (take_by same_url false s ss) l.1)

-- ---- each job's promise is settled

-- what is settled is settled still
abbrev StaySettled : Queue → Queue → Type 0
StaySettled ps qs = (p : ℕ) → is_some (settled ps p) ≡ true → is_some (settled qs p) ≡ true

longer : (xs ys : List Row) (p : ℕ) → is_some (settled_by (slice_get xs p)) ≡ true → is_some (settled_by (slice_get (xs ++ ys) p)) ≡ true
longer [] ys p h = absurd (let e : false ≡ true = h in cc)
longer (x ∷ xs) ys zero h = h
longer (x ∷ xs) ys (suc p) h = longer xs ys p h

-- where one is settled, of whatever kind it was, or is pending still
changed : (xs : List Row) (q : ℕ) (how : Settled (Value Url)) (p : ℕ) → is_some (settled_by (slice_get xs p)) ≡ true → is_some (settled_by (slice_get (slice_set xs q (Done how)) p)) ≡ true
changed [] q how p h = h
changed (y ∷ ys) zero how zero h = refl
changed (y ∷ ys) zero how (suc p) h = h
changed (y ∷ ys) (suc q) how zero h = h
changed (y ∷ ys) (suc q) how (suc p) h = changed ys q how p h

pending_still : (xs : List Row) (q : ℕ) (rs ss : List (Reaction Url)) → slice_get xs q ≡ Some (Pending rs) → (p : ℕ) → is_some (settled_by (slice_get xs p)) ≡ true → is_some (settled_by (slice_get (slice_set xs q (Pending ss)) p)) ≡ true
pending_still [] q rs ss e p h = cc
pending_still (y ∷ ys) zero rs ss e zero h = absurd (let k : false ≡ true = sym (ap (λ o. is_some (settled_by o)) e) ∙ h in cc)
pending_still (y ∷ ys) zero rs ss e (suc p) h = h
pending_still (y ∷ ys) (suc q) rs ss e zero h = h
pending_still (y ∷ ys) (suc q) rs ss e (suc p) h = pending_still ys q rs ss e p h

now_settled : (xs : List Row) (q : ℕ) (how : Settled (Value Url)) (x : Row) → slice_get xs q ≡ Some x → is_some (settled_by (slice_get (slice_set xs q (Done how)) q)) ≡ true
now_settled [] q how x e = cc
now_settled (y ∷ ys) zero how x e = refl
now_settled (y ∷ ys) (suc q) how x e = now_settled ys q how x e

abbrev HasResult : Queue → Job (Reaction Url) → Type 0
HasResult ps j = is_some (settled ps j.promise) ≡ true

stay : (ps qs : Queue) → StaySettled ps qs → (js : List (Job (Reaction Url))) → AreSettled ps js → AreSettled qs js
stay ps qs f [] h = tt
stay ps qs f (j ∷ js) h = (f j.promise h.0, stay ps qs f js h.1)

all_of : (ps : Queue) (p : ℕ) → is_some (settled ps p) ≡ true → (rs : List (Reaction Url)) → AreSettled ps (map (job p) rs)
all_of ps p h [] = tt
all_of ps p h (r ∷ rs) = (h, all_of ps p h rs)

pub settle_jobs : (ps : Queue) (p : ℕ) (how : Settled (Value Url)) → AreSettled ps ps.jobs → AreSettled (settle ps p how) (settle ps p how).jobs
settle_jobs ps p how h =
    joined (HasResult now) ps.jobs (triggered p (slice_get ps.all p)) (stay ps now (changed ps.all p how) ps.jobs h) (by (slice_get ps.all p) refl)
  where
    now : Queue
    now = settle ps p how

    by : (o : Option Row) → slice_get ps.all p ≡ o → AreSettled now (triggered p o)
    by None e = tt
    by (Some (Pending rs)) e = all_of now p (now_settled ps.all p how (Pending rs) e) rs
    by (Some (Done old)) e = tt

pub register_jobs : (ps : Queue) (p : ℕ) (r : Reaction Url) → AreSettled ps ps.jobs → AreSettled (register ps p r) (register ps p r).jobs
register_jobs ps p r h = by (slice_get ps.all p) refl
  where
    by : (o : Option Row) → slice_get ps.all p ≡ o → AreSettled (register_by o ps p r) (register_by o ps p r).jobs
    by None e = h
    by (Some (Pending rs)) e = stay ps (register_by (Some (Pending rs)) ps p r) (pending_still ps.all p rs (rs ++ r ∷ []) e) ps.jobs h
    by (Some (Done how)) e =
        let now = register_by (Some (Done how)) ps p r in
        joined (HasResult now) ps.jobs (job p r ∷ []) (stay ps now (λ q k. k) ps.jobs h) (ap (λ o. is_some (settled_by o)) e, tt)

pub make_jobs : (ps : Queue) (rs : List (Reaction Url)) → AreSettled ps ps.jobs → AreSettled (make ps rs) (make ps rs).jobs
make_jobs ps rs h = stay ps (make ps rs) (longer ps.all (Pending rs ∷ [])) ps.jobs h

pub fulfilled_jobs : (ps : Queue) (v : Value Url) → AreSettled ps ps.jobs → AreSettled (make_fulfilled ps v) (make_fulfilled ps v).jobs
fulfilled_jobs ps v h = stay ps (make_fulfilled ps v) (longer ps.all (Done (Fulfilled v) ∷ [])) ps.jobs h

-- the job that is taken has a result, and those that are left have
pub next_jobs : (ps left : Queue) (j : Job (Reaction Url)) → next_job ps ≡ Some (j, left) → AreSettled ps ps.jobs → (is_some (settled left j.promise) ≡ true) × AreSettled left left.jobs
next_jobs ps left j e h = by ps.jobs e h
  where
    by : (js : List (Job (Reaction Url))) → first_job js ps ≡ Some (j, left) → AreSettled ps js → (is_some (settled left j.promise) ≡ true) × AreSettled left left.jobs
    by [] e h = cc
    by (k ∷ ks) e h =
        let now : Queue = record ps { jobs = ks } in
        let same : (k, now) ≡ (j, left) = cc in
        let fine : (is_some (settled now k.promise) ≡ true) × AreSettled now ks = (h.0, stay ps now (λ p q. q) ks h.1) in
        subst (λ (t : Job (Reaction Url) × Queue). (is_some (settled t.1 t.0.promise) ≡ true) × AreSettled t.1 t.1.jobs) same fine
