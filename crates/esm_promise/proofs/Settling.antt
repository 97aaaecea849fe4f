-- What is settled stays settled as it is, and each job is that of a settled promise.
use Rattle.std.proofs.Common.{◌≡◌, ℕ, zero, suc, true, List, [], ◌∷◌, ◌++◌, map, refl, ap, subst, Option, Some, None, slice_get, slice_set}
use Rattle.std.specs.Prelude.{is_some}
use Rattle.esm_values.specs.Value.{Value}
use Rattle.esm_promise.specs.Reactions.{Reaction}
use Rattle.esm_promise.specs.Promises.{Promise, Pending, Done, Job, job, Settled, Fulfilled, make, make_fulfilled, first_job, register, register_by, settle, settled, settled_by, triggered, is_pending, is_pending_by}
use Rattle.esm_promise.specs.Code.{Numbered}
use Rattle.esm_promise.specs.Laws.{AreSettled, StaysSettled, SettlesOnce, JobsAreOfSettled}

abbrev Row : Type 0
Row = Promise (Reaction ℕ) (Value ℕ)

abbrev How : Type 0
How = Settled (Value ℕ)

-- what is settled of a list stays so in a longer one
longer : (xs ys : List Row) (p : ℕ) (how : How) → settled_by (slice_get xs p) ≡ Some how → settled_by (slice_get (xs ++ ys) p) ≡ Some how
longer [] ys p how h = cc
longer (x ∷ xs) ys zero how h = h
longer (x ∷ xs) ys (suc p) how h = longer xs ys p how h

-- and where one that is pending changes
changed : (xs : List Row) (q : ℕ) (x : Row) (p : ℕ) (how : How) → is_pending_by (slice_get xs q) ≡ true → settled_by (slice_get xs p) ≡ Some how → settled_by (slice_get (slice_set xs q x) p) ≡ Some how
changed [] q x p how k h = cc
changed (Pending rs ∷ ys) zero x zero how k h = cc
changed (Done by ∷ ys) zero x zero how k h = cc
changed (y ∷ ys) zero x (suc p) how k h = h
changed (y ∷ ys) (suc q) x zero how k h = h
changed (y ∷ ys) (suc q) x (suc p) how k h = changed ys q x p how k h

-- the one that changes is as it was set
set_there : (xs : List Row) (q : ℕ) (how : How) → is_pending_by (slice_get xs q) ≡ true → settled_by (slice_get (slice_set xs q (Done how)) q) ≡ Some how
set_there [] q how k = cc
set_there (y ∷ ys) zero how k = refl
set_there (y ∷ ys) (suc q) how k = set_there ys q how k

registered_by : (ps : Numbered) (p : ℕ) (r : Reaction ℕ) (o : Option Row) → slice_get ps.all p ≡ o → StaysSettled ps (register_by o ps p r)
registered_by ps p r None e = λ q how h. h
registered_by ps p r (Some (Pending rs)) e = λ q how h. changed ps.all p _ q how (ap is_pending_by e) h
registered_by ps p r (Some (Done by)) e = λ q how h. h

pub registered : (ps : Numbered) (p : ℕ) (r : Reaction ℕ) → StaysSettled ps (register ps p r)
registered ps p r = registered_by ps p r (slice_get ps.all p) refl

pub settles : (ps : Numbered) (p : ℕ) (how : How) → is_pending ps p ≡ true → StaysSettled ps (settle ps p how)
settles ps p by k = λ q how h. changed ps.all p (Done by) q how k h

pub settles_once : SettlesOnce
settles_once = record {
  made = λ ps rs p how h. longer ps.all (Pending rs ∷ []) p how h;
  made_fulfilled = λ ps v p how h. longer ps.all (Done (Fulfilled v) ∷ []) p how h;
  registered = registered;
  settles = settles;
  new = λ ps p how k. set_there ps.all p how k;
}

-- ---- jobs

some_stays : (o n : Option How) → ((how : How) → o ≡ Some how → n ≡ Some how) → is_some o ≡ true → is_some n ≡ true
some_stays None n f h = cc
some_stays (Some how) n f h = ap is_some (f how refl)

stay : (old new : Numbered) → StaysSettled old new → (jobs : List (Job (Reaction ℕ))) → AreSettled old jobs → AreSettled new jobs
stay old new f [] h = tt
stay old new f (j ∷ js) h = (some_stays (settled old j.promise) (settled new j.promise) (f j.promise) h.0, stay old new f js h.1)

more : (ps : Numbered) (xs ys : List (Job (Reaction ℕ))) → AreSettled ps xs → AreSettled ps ys → AreSettled ps (xs ++ ys)
more ps [] ys h k = k
more ps (x ∷ xs) ys h k = (h.0, more ps xs ys h.1 k)

all_of : (ps : Numbered) (p : ℕ) → is_some (settled ps p) ≡ true → (rs : List (Reaction ℕ)) → AreSettled ps (map (job p) rs)
all_of ps p h [] = tt
all_of ps p h (r ∷ rs) = (h, all_of ps p h rs)

jobs_registered : (ps : Numbered) (p : ℕ) (r : Reaction ℕ) (o : Option Row) → slice_get ps.all p ≡ o → StaysSettled ps (register_by o ps p r) → AreSettled ps ps.jobs → AreSettled (register_by o ps p r) (register_by o ps p r).jobs
jobs_registered ps p r None e f h = h
jobs_registered ps p r (Some (Pending rs)) e f h = stay ps (register_by (Some (Pending rs)) ps p r) f ps.jobs h
jobs_registered ps p r (Some (Done by)) e f h =
    let now = register_by (Some (Done by)) ps p r in
    more now ps.jobs (job p r ∷ []) (stay ps now f ps.jobs h) (ap (λ o. is_some (settled_by o)) e, tt)

triggers : (ps : Numbered) (p : ℕ) → is_some (settled ps p) ≡ true → (o : Option Row) → AreSettled ps (triggered p o)
triggers ps p h None = tt
triggers ps p h (Some (Pending rs)) = all_of ps p h rs
triggers ps p h (Some (Done how)) = tt

-- the job that is taken, and those that are left
taken_by : (ps left : Numbered) (j : Job (Reaction ℕ)) (jobs : List (Job (Reaction ℕ))) → first_job jobs ps ≡ Some (j, left) → AreSettled ps jobs → (is_some (settled left j.promise) ≡ true) × AreSettled left left.jobs
taken_by ps left j [] e h = cc
taken_by ps left j (next ∷ jobs) e h =
    let now : Numbered = record ps { jobs = jobs } in
    let one : (next, now) ≡ (j, left) = cc in
    let both : (is_some (settled now next.promise) ≡ true) × AreSettled now jobs = (h.0, stay ps now (λ p how k. k) jobs h.1) in
    subst (λ (t : Job (Reaction ℕ) × Numbered). (is_some (settled t.1 t.0.promise) ≡ true) × AreSettled t.1 t.1.jobs) one both

pub jobs_are_of_settled : JobsAreOfSettled
jobs_are_of_settled = record {
  none = tt;
  made = λ ps rs h. stay ps (make ps rs) (settles_once.made ps rs) ps.jobs h;
  registered = λ ps p r h. jobs_registered ps p r (slice_get ps.all p) refl (registered ps p r) h;
  settles = λ ps p how k h.
      let now = settle ps p how in
      more now ps.jobs (triggered p (slice_get ps.all p)) (stay ps now (settles ps p how k) ps.jobs h)
      (triggers now p (ap is_some (set_there ps.all p how k)) (slice_get ps.all p));
  made_fulfilled = λ ps v h. stay ps (make_fulfilled ps v) (settles_once.made_fulfilled ps v) ps.jobs h;
  taken = λ ps left j e h. taken_by ps left j ps.jobs e h;
}
