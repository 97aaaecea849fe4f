-- How many reactions are still to run: those of the jobs, and those of pending promises.
use Rattle.std.proofs.Common.{◌≡◌, ℕ, zero, suc, ◌+◌, ◌≤◌, Bool, true, false, List, [], ◌∷◌, ◌++◌, Option, Some, None, refl, ap, ◌∙◌, arith}
use Rattle.std.specs.Prelude.{map, slice_get, slice_set}
use Rattle.esm_base.specs.Urls.{Url, same_url}
use Rattle.esm_values.specs.Value.{Value}
use Rattle.esm_promise.specs.Promises.{Promise, Pending, Done, Settled, Job, job, settle, triggered, register, register_by, make, make_fulfilled, next_job, first_job}
use Rattle.esm_promise.specs.Reactions.{Reaction}
use Rattle.esm_rewriting.specs.State.{Standing}
use Rattle.esm_rewriting.specs.Bodies.{Taken, take_by, take_standing}
use Rattle.esm_world.specs.Measure.{Queue, of_all, of_jobs, of_promise, queue, reactions, standing_weight, weight_of, weight_rest}

reactions_on : (rs ss : List (Reaction Url)) → reactions (rs ++ ss) ≡ reactions rs + reactions ss
reactions_on [] ss = omega arith
reactions_on (r ∷ rs) ss = let e = reactions_on rs ss in omega (arith, e)

all_on : (xs ys : List (Promise (Reaction Url) (Value Url))) → of_all (xs ++ ys) ≡ of_all xs + of_all ys
all_on [] ys = omega arith
all_on (x ∷ xs) ys = let e = all_on xs ys in omega (arith, e)

jobs_on : (xs ys : List (Job (Reaction Url))) → of_jobs (xs ++ ys) ≡ of_jobs xs + of_jobs ys
jobs_on [] ys = omega arith
jobs_on (x ∷ xs) ys = let e = jobs_on xs ys in omega (arith, e)

jobs_of : (p : ℕ) (rs : List (Reaction Url)) → of_jobs (map (job p) rs) ≡ reactions rs
jobs_of p [] = refl
jobs_of p (r ∷ rs) = let e = jobs_of p rs in omega (arith, e)

-- a promise in the place of another
set_all : (xs : List (Promise (Reaction Url) (Value Url))) (p : ℕ) (x y : Promise (Reaction Url) (Value Url)) → slice_get xs p ≡ Some x → of_all (slice_set xs p y) + of_promise x ≡ of_all xs + of_promise y
set_all [] p x y e = cc
set_all (z ∷ xs) zero x y e = let s : of_promise z ≡ of_promise x = ap (λ o. by o) e in omega (arith, s)
  where
    by : Option (Promise (Reaction Url) (Value Url)) → ℕ
    by None = 0
    by (Some q) = of_promise q
set_all (z ∷ xs) (suc p) x y e = let h = set_all xs p x y e in omega (arith, h)

set_none : (xs : List (Promise (Reaction Url) (Value Url))) (p : ℕ) (y : Promise (Reaction Url) (Value Url)) → slice_get xs p ≡ None → of_all (slice_set xs p y) ≡ of_all xs
set_none [] p y e = refl
set_none (z ∷ xs) zero y e = cc
set_none (z ∷ xs) (suc p) y e = let h = set_none xs p y e in omega (arith, h)

pub settle_queue : (ps : Queue) (p : ℕ) (how : Settled (Value Url)) → queue (settle ps p how) ≤ queue ps
settle_queue ps p how = by (slice_get ps.all p) refl
  where
    by : (o : Option (Promise (Reaction Url) (Value Url))) → slice_get ps.all p ≡ o → of_jobs (ps.jobs ++ triggered p (slice_get ps.all p)) + of_all (slice_set ps.all p (Done how)) ≤ queue ps
    by None e =
        let h = set_none ps.all p (Done how) e in
        let t : of_jobs (triggered p (slice_get ps.all p)) ≡ 0 = ap (λ o. of_jobs (triggered p o)) e in
        let j = jobs_on ps.jobs (triggered p (slice_get ps.all p)) in
        omega (arith, h, t, j)
    by (Some (Pending rs)) e =
        let h = set_all ps.all p (Pending rs) (Done how) e in
        let t : of_jobs (triggered p (slice_get ps.all p)) ≡ reactions rs = ap (λ o. of_jobs (triggered p o)) e ∙ jobs_of p rs in
        let j = jobs_on ps.jobs (triggered p (slice_get ps.all p)) in
        omega (arith, h, t, j)
    by (Some (Done old)) e =
        let h = set_all ps.all p (Done old) (Done how) e in
        let t : of_jobs (triggered p (slice_get ps.all p)) ≡ 0 = ap (λ o. of_jobs (triggered p o)) e in
        let j = jobs_on ps.jobs (triggered p (slice_get ps.all p)) in
        omega (arith, h, t, j)

pub register_queue : (ps : Queue) (p : ℕ) (r : Reaction Url) → queue (register ps p r) ≤ queue ps + weight_of r
register_queue ps p r = by (slice_get ps.all p) refl
  where
    by : (o : Option (Promise (Reaction Url) (Value Url))) → slice_get ps.all p ≡ o → queue (register_by o ps p r) ≤ queue ps + weight_of r
    by None e = omega arith
    by (Some (Pending rs)) e = let h = set_all ps.all p (Pending rs) (Pending (rs ++ r ∷ [])) e in let t = reactions_on rs (r ∷ []) in omega (arith, h, t)
    by (Some (Done how)) e = let j = jobs_on ps.jobs (job p r ∷ []) in omega (arith, j)

pub make_queue : (ps : Queue) (rs : List (Reaction Url)) → queue (make ps rs) ≡ queue ps + reactions rs
make_queue ps rs = let e = all_on ps.all (Pending rs ∷ []) in omega (arith, e)

pub fulfilled_queue : (ps : Queue) (v : Value Url) → queue (make_fulfilled ps v) ≡ queue ps
fulfilled_queue ps v = let e = all_on ps.all (Done (Settled.Fulfilled v) ∷ []) in omega (arith, e)

pub next_queue : (ps left : Queue) (j : Job (Reaction Url)) → next_job ps ≡ Some (j, left) → queue ps ≡ weight_of j.reaction + queue left
next_queue ps left j e = by ps.jobs refl e
  where
    count : Option (Job (Reaction Url) × Queue) → ℕ
    count None = 0
    count (Some (k, rest)) = weight_of k.reaction + queue rest

    by : (js : List (Job (Reaction Url))) → ps.jobs ≡ js → first_job js ps ≡ Some (j, left) → queue ps ≡ weight_of j.reaction + queue left
    by [] d f = cc
    by (k ∷ ks) d f = let h : weight_of k.reaction + (of_jobs ks + of_all ps.all) ≡ weight_of j.reaction + queue left = ap count f in let g = ap of_jobs d in omega (arith, h, g)

-- ---- bodies that stand at an await

pub standing_on : (ss ts : List (Standing Url)) → standing_weight (ss ++ ts) ≡ standing_weight ss + standing_weight ts
standing_on [] ts = omega arith
standing_on (s ∷ ss) ts = let e = standing_on ss ts in omega (arith, e)

abbrev taken_weight : Option (Taken Url) → ℕ
taken_weight None = 0
taken_weight (Some t) = weight_rest t.standing.rest + standing_weight t.others

pub taken_is : (ss : List (Standing Url)) (m : Url) (t : Taken Url) → take_standing same_url ss m ≡ Some t → standing_weight ss ≡ weight_rest t.standing.rest + standing_weight t.others
taken_is [] m t e = cc
taken_is (s ∷ ss) m t e = by (same_url s.at m) (take_standing same_url ss m) (λ u. taken_is ss m u) e
  where
    by : (b : Bool) (o : Option (Taken Url)) → ((u : Taken Url) → o ≡ Some u → standing_weight ss ≡ weight_rest u.standing.rest + standing_weight u.others) → take_by same_url b s ss o ≡ Some t
        → weight_rest s.rest + standing_weight ss ≡ weight_rest t.standing.rest + standing_weight t.others
    by true o later e = ap taken_weight e
    by false None later e = cc
    by false (Some u) later e = let h : weight_rest u.standing.rest + (weight_rest s.rest + standing_weight u.others) ≡ weight_rest t.standing.rest + standing_weight t.others = ap taken_weight e in let k = later u refl in omega (arith, h, k)
