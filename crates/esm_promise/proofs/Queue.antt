-- Promises as they are kept: registering and settling.
use Rattle.std.proofs.Common.{◌≡◌, ℕ, zero, suc, ◌+◌, ◌<◌, List, [], ◌∷◌, ◌++◌, map, length, refl, ap, sym, ◌∙◌, Some, None, slice_get, slice_set, arith, sum_by, length-append, get_or, ◌≤◌}
use Rattle.std.specs.Option.{option_map}
use Rattle.std.proofs.lemmas.List.{map-append, append-nil}
use Rattle.std.proofs.lemmas.List.Sums.{sum_by-set}
use Rattle.std.proofs.lemmas.Option.{slice_get-map, slice_get_within, get_or_from_slice_get, slice_get_past, slice_get_read}
use Rattle.esm_values.specs.declared.value.PromiseId.{PromiseId}
use Rattle.esm_promise.specs.Promises as spec
use Rattle.esm_promise.specs.Code.{reaction_of, settled_of}
use Rattle.esm_promise.specs.Inner.Queue.{promise_of, job_of, promises_of, waiting, jobs_for, HasAdded, IsDone}
use Rattle.esm_promise.specs.declared.reaction.Reaction.{Reaction}
use Rattle.esm_promise.specs.declared.reaction.Settled.{Settled}
use Rattle.esm_promise.specs.declared.promises.Promise.{Promise}
use Rattle.esm_promise.specs.declared.promises.Promise.TheVariants as kept
use Rattle.esm_promise.specs.declared.promises.Job.{Job}

put_there : (xs : List Promise) (i : ℕ) (x : Promise) → map promise_of (slice_set xs i x) ≡ slice_set (map promise_of xs) i (promise_of x)
put_there [] i x = refl
put_there (y ∷ ys) zero x = refl
put_there (y ∷ ys) (suc i) x = ap (λ zs. promise_of y ∷ zs) (put_there ys i x)

put_same : (xs : List Promise) (i : ℕ) (old new : Promise) → slice_get xs i ≡ Some old → promise_of new ≡ promise_of old → map promise_of (slice_set xs i new) ≡ map promise_of xs
put_same [] i old new e h = refl
put_same (y ∷ ys) zero old new e h = let k : y ≡ old = cc in ap (λ z. z ∷ map promise_of ys) (h ∙ ap promise_of (sym k))
put_same (y ∷ ys) (suc i) old new e h = ap (λ zs. promise_of y ∷ zs) (put_same ys i old new e h)

pub sum_there : (xs : List Promise) (i : ℕ) (old new : Promise) → slice_get xs i ≡ Some old → sum_by waiting (slice_set xs i new) + waiting old ≡ sum_by waiting xs + waiting new
sum_there xs i old new e =
    let there : get_or xs i old ≡ old = get_or_from_slice_get xs i old old e in
    rw there at (sum_by-set waiting xs i new old (slice_get_within xs i old e))

pub registers : (all : List Promise) (jobs : List Job) (i : ℕ) (r : Reaction) (old new : Promise) → slice_get all i ≡ Some old → HasAdded old r new
    → promises_of (slice_set all i new) jobs ≡ spec.register (promises_of all jobs) i (reaction_of r)
registers all jobs i r (kept.Pending rs) (kept.Pending ss) e h =
    let there : slice_get (map promise_of all) i ≡ Some (spec.Pending (map reaction_of rs.items)) = slice_get-map promise_of all i ∙ ap (option_map promise_of) e in
    let items : map reaction_of ss.items ≡ map reaction_of rs.items ++ reaction_of r ∷ [] = ap (map reaction_of) h ∙ map-append reaction_of rs.items (r ∷ []) in
    ap (λ ps. record { all = ps; jobs = map job_of jobs }) (put_there all i (kept.Pending ss) ∙ ap (λ xs. slice_set (map promise_of all) i (spec.Pending xs)) items)
    ∙ ap (λ o. spec.register_by o (promises_of all jobs) i (reaction_of r)) (sym there)
registers all jobs i r (kept.Pending rs) (kept.Done how) e h = absurd h
registers all jobs i r (kept.Done how) new e h = absurd h

pub waits_more : (old new : Promise) (r : Reaction) → HasAdded old r new → waiting new ≡ waiting old + 1
waits_more (kept.Pending rs) (kept.Pending ss) r h = ap length h ∙ simp length-append refl
waits_more (kept.Pending rs) (kept.Done how) r h = absurd h
waits_more (kept.Done how) new r h = absurd h

pub at_once : (all : List Promise) (jobs : List Job) (p : PromiseId) (r : Reaction) (old new : Promise) → slice_get all p.0 ≡ Some old → IsDone old → promise_of new ≡ promise_of old
    → promises_of (slice_set all p.0 new) (jobs ++ record { reaction = r; promise = p } ∷ []) ≡ spec.register (promises_of all jobs) p.0 (reaction_of r)
at_once all jobs p r (kept.Pending rs) new e d h = absurd d
at_once all jobs p r (kept.Done how) new e d h =
    let there : slice_get (map promise_of all) p.0 ≡ Some (spec.Done (settled_of how)) = slice_get-map promise_of all p.0 ∙ ap (option_map promise_of) e in
    ap (λ ps. record { all = ps; jobs = map job_of (jobs ++ record { reaction = r; promise = p } ∷ []) }) (put_same all p.0 (kept.Done how) new e h)
    ∙ ap (λ js. record { all = map promise_of all; jobs = js }) (map-append job_of jobs (record { reaction = r; promise = p } ∷ []))
    ∙ ap (λ o. spec.register_by o (promises_of all jobs) p.0 (reaction_of r)) (sym there)

pub stays : (all : List Promise) (jobs : List Job) (i : ℕ) (old new : Promise) → slice_get all i ≡ Some old → promise_of new ≡ promise_of old → promises_of (slice_set all i new) jobs ≡ promises_of all jobs
stays all jobs i old new e h = ap (λ ps. record { all = ps; jobs = map job_of jobs }) (put_same all i old new e h)

jobs_are : (p : PromiseId) (rs : List Reaction) → map job_of (jobs_for p rs) ≡ map (spec.job p.0) (map reaction_of rs)
jobs_are p [] = refl
jobs_are p (r ∷ rs) = ap (λ js. spec.job p.0 (reaction_of r) ∷ js) (jobs_are p rs)

abbrev pub triggers : Promise → PromiseId → List Job
triggers (kept.Pending rs) p = jobs_for p rs.items
triggers (kept.Done how) p = []

triggers_are : (p : PromiseId) (old : Promise) → map job_of (triggers old p) ≡ spec.triggered p.0 (Some (promise_of old))
triggers_are p (kept.Pending rs) = jobs_are p rs.items
triggers_are p (kept.Done how) = refl

pub settles : (all : List Promise) (jobs : List Job) (p : PromiseId) (old : Promise) (how : Settled) → slice_get all p.0 ≡ Some old
    → promises_of (slice_set all p.0 (kept.Done how)) (jobs ++ triggers old p) ≡ spec.settle (promises_of all jobs) p.0 (settled_of how)
settles all jobs p old how e =
    let there : slice_get (map promise_of all) p.0 ≡ Some (promise_of old) = slice_get-map promise_of all p.0 ∙ ap (option_map promise_of) e in
    let js : map job_of (jobs ++ triggers old p) ≡ map job_of jobs ++ spec.triggered p.0 (slice_get (map promise_of all) p.0) =
    map-append job_of jobs (triggers old p) ∙ ap (λ xs. map job_of jobs ++ xs) (triggers_are p old ∙ ap (spec.triggered p.0) (sym there)) in
    ap (λ ps. record { all = ps; jobs = map job_of (jobs ++ triggers old p) }) (put_there all p.0 (kept.Done how))
    ∙ ap (λ xs. record { all = slice_set (map promise_of all) p.0 (spec.Done (settled_of how)); jobs = xs }) js

past : (xs : List Promise) (i : ℕ) (x : Promise) → length xs ≤ i → slice_set xs i x ≡ xs
past [] i x h = refl
past (y ∷ ys) zero x h = absurd (omega arith)
past (y ∷ ys) (suc i) x h = ap (λ zs. y ∷ zs) (past ys i x (omega arith))

none_past : (xs : List Promise) (i : ℕ) → length xs ≤ i → slice_get (map promise_of xs) i ≡ None
none_past xs i h = let e : slice_get xs i ≡ None = slice_get_past xs i h in slice_get-map promise_of xs i ∙ ap (option_map promise_of) e

pub settles_none : (all : List Promise) (jobs : List Job) (p : PromiseId) (how : Settled) → length all ≤ p.0
    → promises_of all jobs ≡ spec.settle (promises_of all jobs) p.0 (settled_of how)
settles_none all jobs p how h =
    let same : map promise_of all ≡ slice_set (map promise_of all) p.0 (promise_of (kept.Done how)) =
    ap (map promise_of) (sym (past all p.0 (kept.Done how) h)) ∙ put_there all p.0 (kept.Done how) in
    ap (λ ps. record { all = ps; jobs = map job_of jobs }) same
    ∙ ap (λ js. record { all = slice_set (map promise_of all) p.0 (spec.Done (settled_of how)); jobs = js })
    (sym (append-nil (map job_of jobs)) ∙ ap (λ o. map job_of jobs ++ spec.triggered p.0 o) (sym (none_past all p.0 h)))

pub reads : (all : List Promise) (len i : ℕ) (x : Promise) → len ≡ length all → i < len → x ≡ get_or all i x → slice_get all i ≡ Some x
reads all len i x e h r = slice_get_read all len i x e h r

pub settles_again : (all : List Promise) (jobs : List Job) (p : PromiseId) (old : Promise) (how : Settled) → slice_get all p.0 ≡ Some old → IsDone old
    → promises_of (slice_set all p.0 (kept.Done how)) jobs ≡ spec.settle (promises_of all jobs) p.0 (settled_of how)
settles_again all jobs p (kept.Pending rs) how e d = absurd d
settles_again all jobs p (kept.Done by) how e d = ap (λ js. promises_of (slice_set all p.0 (kept.Done how)) js) (sym (append-nil jobs)) ∙ settles all jobs p (kept.Done by) how e

pub waits_as : (old new : Promise) (r : Reaction) → IsDone old × (new ≡ old) → waiting new ≡ waiting old
waits_as old new r h = ap waiting h.1
