-- What is told of loads stays so where promises are made, settled, or get reactions, and where loading goes on.
use Rattle.std.proofs.Common.{◌≡◌, ◌⊎◌, inl, inr, ℕ, zero, suc, ◌<◌, List, [], ◌∷◌, ◌++◌, map, length, Option, Some, None, refl, ap, subst, sym, ◌∙◌, arith}
use Rattle.std.specs.Prelude.{slice_get, slice_set}
use Rattle.std.specs.List.{AllByRecursion}
use Rattle.esm_base.specs.Urls.{Url}
use Rattle.esm_values.specs.Value.{Value, Undefined, Truth, Text, Func, Error, Namespace}
use Rattle.esm_values.specs.Value as value
use Rattle.esm_promise.specs.Promises.{Promise, Settled, Fulfilled, Rejected, Pending, Done, Promises, Job, job, make, make_fulfilled, settle, settled, settled_by, triggered, register, register_by, next_promise, next_job, first_job}
use Rattle.esm_promise.specs.Reactions.{Reaction, Await, BodyEnd, Loaded, Evaluated, EntryLoaded, EntryDone}
use Rattle.esm_loads.specs.Loading.{Loading, LoadState, Asked, Open, LoadComplete, Thrown, Purpose, ForEntry, ForImport, root_in, import_promise_in}
use Rattle.esm_loads.proofs.Requests.{set_own, set_other, length_set, equal_cases, push_cases}
use Rattle.esm_rewriting.specs.Bodies.{await_on}
use Rattle.esm_world.specs.Told.{Own, own_promise_in, load_promise, HasSettled, HasLoaded, MayStandOn, AreToldOf, IsTold}
use Rattle.esm_world.proofs.Each.{pushed, joined}

abbrev pub Ps : Type 0
Ps = Promises (Reaction Url) (Value Url)

abbrev Row : Type 0
Row = Promise (Reaction Url) (Value Url)

pub some_is : {A : Type 0} {x y : A} → Some x ≡ Some y → x ≡ y
some_is e = cc

pub below_not : (p n : ℕ) → p < n → p ≡ n → ⊥
below_not p n h e = omega (arith, h, e)

-- ---- lists

pub length_push : {A : Type 0} (xs : List A) (y : A) → length (xs ++ y ∷ []) ≡ suc (length xs)
length_push [] y = refl
length_push (x ∷ xs) y = ap suc (length_push xs y)

pub get_end : {A : Type 0} (xs : List A) → slice_get xs (length xs) ≡ None
get_end [] = refl
get_end (x ∷ xs) = get_end xs

-- what is there lies within
pub get_below : {A : Type 0} (xs : List A) (k : ℕ) (x : A) → slice_get xs k ≡ Some x → k < length xs
get_below [] k x e = cc
get_below (y ∷ ys) zero x e = omega arith
get_below (y ∷ ys) (suc k) x e = let r = get_below ys k x e in omega (arith, r)

-- the last one is set
pub set_end : {A : Type 0} (xs : List A) (x y : A) → slice_set (xs ++ x ∷ []) (length xs) y ≡ xs ++ y ∷ []
set_end [] x y = refl
set_end (z ∷ zs) x y = ap (λ ys. z ∷ ys) (set_end zs x y)

-- ---- loading goes on: what has ended stays, and so do the promises of loads

pub record Continues (l m : Loading) : Type 0 where
  pub loads : (s : ℕ) (how : Settled (Value Url)) → HasSettled (slice_get l.loads s) how → slice_get m.loads s ≡ slice_get l.loads s
  pub purposes : (s p : ℕ) (purpose : Purpose) → slice_get l.purposes s ≡ Some purpose → own_promise_in (Some purpose) ≡ Some p
      → slice_get m.purposes s ≡ Some purpose

pub continues_same : (l : Loading) → Continues l l
continues_same l = record { loads = λ s how h. refl; purposes = λ s p purpose e o. e }

pub continues_on : {l m n : Loading} → Continues l m → Continues m n → Continues l n
continues_on {l} {m} {n} a b = record {
  loads = λ s how h. b.loads s how (subst (λ o. HasSettled o how) (sym (a.loads s how h)) h) ∙ a.loads s how h;
  purposes = λ s p purpose e o. b.purposes s p purpose (a.purposes s p purpose e o) o;
}

complete : (o : Option LoadState) (root : Url) (v : Value Url) → root_in o ≡ Some root → HasSettled o (Fulfilled v)
complete None root v e = cc
complete (Some Asked) root v e = cc
complete (Some (Open r visited)) root v e = cc
complete (Some (LoadComplete r)) root v e = tt
complete (Some (Thrown thrown)) root v e = cc

has_root : (o : Option LoadState) (v : Value Url) → HasSettled o (Fulfilled v) → (root : Url) × (root_in o ≡ Some root)
has_root None v h = absurd h
has_root (Some Asked) v h = absurd h
has_root (Some (Open r visited)) v h = absurd h
has_root (Some (LoadComplete r)) v h = (r, refl)
has_root (Some (Thrown thrown)) v h = absurd h

-- a load that is complete stays complete
pub root_on : {l m : Loading} → Continues l m → (s : ℕ) (root : Url) → root_in (slice_get l.loads s) ≡ Some root → root_in (slice_get m.loads s) ≡ Some root
root_on {l} c s root e = ap root_in (c.loads s (Fulfilled Undefined) (complete (slice_get l.loads s) root Undefined e)) ∙ e

pub loaded_on : {l m : Loading} {s : ℕ} → Continues l m → HasLoaded l s → HasLoaded m s
loaded_on {l} {m} {s} c h = record {
  promise = h.promise;
  load = h.load;
  root = h.root;
  purpose = c.purposes s h.load (ForImport h.promise (Some h.load)) h.purpose refl;
  is_root = root_on c s h.root h.is_root;
}

pub stands_on : {l m : Loading} → Continues l m → (p : ℕ) (r : Reaction Url) → MayStandOn l p r → MayStandOn m p r
stands_on c p (Await x) h = tt
stands_on c p (BodyEnd x) h = tt
stands_on c p (Loaded s) h = (h.0, c.purposes s p (ForImport h.0 (Some p)) h.1 refl)
stands_on c p (Evaluated s) h = loaded_on c h
stands_on c p EntryLoaded h = c.purposes 0 p (ForEntry p) h refl
stands_on c p EntryDone h = tt

-- ---- rows

-- the promise may be so, under this id
abbrev FitsRow : Loading → ℕ → Row → Type 0
FitsRow l q (Pending rs) = AllByRecursion (MayStandOn l q) rs
FitsRow l q (Done how) = (s : ℕ) → load_promise l s Own ≡ Some q → HasSettled (slice_get l.loads s) how

abbrev FitsJobs : Loading → List (Job (Reaction Url)) → Type 0
FitsJobs l js = AllByRecursion (λ (j : Job (Reaction Url)). MayStandOn l j.promise j.reaction) js

row_reactions : (l : Loading) (q : ℕ) (x : Row) (rs : List (Reaction Url)) → FitsRow l q x → Pending rs ≡ x → AllByRecursion (MayStandOn l q) rs
row_reactions l q x rs f e = subst (λ y. FitsRow l q y) (sym e) f

row_settled : (l : Loading) (q : ℕ) (x : Row) (how : Settled (Value Url)) (s : ℕ) → FitsRow l q x → settled_by (Some x) ≡ Some how → load_promise l s Own ≡ Some q → HasSettled (slice_get l.loads s) how
row_settled l q (Pending rs) how s f e o = cc
row_settled l q (Done by) how s f e o = subst (λ h. HasSettled (slice_get l.loads s) h) (some_is e) (f s o)

-- a promise is as it was set, where it is there
set_row : (xs : List Row) (q : ℕ) (x : Row) (how : Settled (Value Url)) → settled_by (slice_get (slice_set xs q x) q) ≡ Some how → settled_by (Some x) ≡ Some how
set_row [] q x how e = cc
set_row (y ∷ ys) zero x how e = e
set_row (y ∷ ys) (suc q) x how e = set_row ys q x how e

-- one promise changes, and these are the jobs then
pub set_told : (l : Loading) (ps : Ps) (q : ℕ) (x : Row) (js : List (Job (Reaction Url))) → AreToldOf l ps → FitsRow l q x → FitsJobs l js → AreToldOf l (record { all = slice_set ps.all q x; jobs = js })
set_told l ps q x js t f j = record {
  made = λ s p whose e. subst (λ n. p < n) (sym (length_set ps.all q x)) (t.made s p whose e);
  once = t.once;
  reactions = λ p rs e. by_reactions p rs e (equal_cases p q);
  jobs = j;
  ended = λ s p how o e. by_ended s p how o e (equal_cases p q);
}
  where
    by_reactions : (p : ℕ) (rs : List (Reaction Url)) → slice_get (slice_set ps.all q x) p ≡ Some (Pending rs) → (p ≡ q) ⊎ (p ≡ q → ⊥) → AllByRecursion (MayStandOn l p) rs
    by_reactions p rs e (inl d) =
        let own : AllByRecursion (MayStandOn l q) rs = row_reactions l q x rs f (set_own ps.all q x (Pending rs) (subst (λ k. slice_get (slice_set ps.all q x) k ≡ Some (Pending rs)) d e)) in
        subst (λ k. AllByRecursion (MayStandOn l k) rs) (sym d) own
    by_reactions p rs e (inr n) = t.reactions p rs (sym (set_other ps.all q p x n) ∙ e)

    by_ended : (s p : ℕ) (how : Settled (Value Url)) → load_promise l s Own ≡ Some p → settled_by (slice_get (slice_set ps.all q x) p) ≡ Some how → (p ≡ q) ⊎ (p ≡ q → ⊥) → HasSettled (slice_get l.loads s) how
    by_ended s p how o e (inl d) =
        row_settled l q x how s f (set_row ps.all q x how (subst (λ k. settled_by (slice_get (slice_set ps.all q x) k) ≡ Some how) d e)) (subst (λ k. load_promise l s Own ≡ Some k) d o)
    by_ended s p how o e (inr n) = t.ended s p how o (sym (ap settled_by (set_other ps.all q p x n)) ∙ e)

-- a promise is added
pub push_told : (l : Loading) (ps : Ps) (x : Row) → AreToldOf l ps → ((rs : List (Reaction Url)) → x ≡ Pending rs → AllByRecursion (MayStandOn l (next_promise ps)) rs) → AreToldOf l (record ps { all = ps.all ++ x ∷ [] })
push_told l ps x t f = record {
  made = λ s p whose e. let below = t.made s p whose e in subst (λ n. p < n) (sym (length_push ps.all x)) (omega (arith, below));
  once = t.once;
  reactions = λ p rs e. by_reactions p rs (push_cases ps.all x p (Pending rs) e);
  jobs = t.jobs;
  ended = λ s p how o e. by_ended s p how o (slice_get (ps.all ++ x ∷ []) p) refl e;
}
  where
    by_reactions : (p : ℕ) (rs : List (Reaction Url)) → ((p ≡ length ps.all) × (Pending rs ≡ x)) ⊎ (slice_get ps.all p ≡ Some (Pending rs)) → AllByRecursion (MayStandOn l p) rs
    by_reactions p rs (inl d) = subst (λ k. AllByRecursion (MayStandOn l k) rs) (sym d.0) (f rs (sym d.1))
    by_reactions p rs (inr e) = t.reactions p rs e

    by_old : (s p : ℕ) (how : Settled (Value Url)) (y : Row) → load_promise l s Own ≡ Some p → settled_by (Some y) ≡ Some how → ((p ≡ length ps.all) × (y ≡ x)) ⊎ (slice_get ps.all p ≡ Some y) → HasSettled (slice_get l.loads s) how
    by_old s p how y o e (inl d) = absurd (below_not p (length ps.all) (t.made s p Own o) d.0)
    by_old s p how y o e (inr k) = t.ended s p how o (ap settled_by k ∙ e)

    by_ended : (s p : ℕ) (how : Settled (Value Url)) → load_promise l s Own ≡ Some p → (o : Option Row) → slice_get (ps.all ++ x ∷ []) p ≡ o → settled_by o ≡ Some how → HasSettled (slice_get l.loads s) how
    by_ended s p how o None k e = cc
    by_ended s p how o (Some y) k e = by_old s p how y o e (push_cases ps.all x p y k)

-- ---- what is made, settled and registered

pub make_told : (l : Loading) (ps : Ps) (rs : List (Reaction Url)) → AreToldOf l ps → AllByRecursion (MayStandOn l (next_promise ps)) rs → AreToldOf l (make ps rs)
make_told l ps rs t f = push_told l ps (Pending rs) t (λ others e. let same : rs ≡ others = cc in subst (λ xs. AllByRecursion (MayStandOn l (next_promise ps)) xs) same f)

pub made_done : (l : Loading) (ps : Ps) (v : Value Url) → AreToldOf l ps → AreToldOf l (make_fulfilled ps v)
made_done l ps v t = push_told l ps (Done (Fulfilled v)) t (λ rs e. cc)

jobs_of : (l : Loading) (q : ℕ) (rs : List (Reaction Url)) → AllByRecursion (MayStandOn l q) rs → FitsJobs l (map (job q) rs)
jobs_of l q [] h = tt
jobs_of l q (r ∷ rs) h = (h.0, jobs_of l q rs h.1)

trigger : (l : Loading) (ps : Ps) (q : ℕ) (o : Option Row) → slice_get ps.all q ≡ o → AreToldOf l ps → FitsJobs l (triggered q o)
trigger l ps q None e t = tt
trigger l ps q (Some (Pending rs)) e t = jobs_of l q rs (t.reactions q rs e)
trigger l ps q (Some (Done how)) e t = tt

pub settle_told : (l : Loading) (ps : Ps) (q : ℕ) (how : Settled (Value Url)) → AreToldOf l ps → ((s : ℕ) → load_promise l s Own ≡ Some q → HasSettled (slice_get l.loads s) how) → AreToldOf l (settle ps q how)
settle_told l ps q how t f =
    set_told l ps q (Done how) (ps.jobs ++ triggered q (slice_get ps.all q)) t f
    (joined (λ (j : Job (Reaction Url)). MayStandOn l j.promise j.reaction) ps.jobs (triggered q (slice_get ps.all q)) t.jobs (trigger l ps q (slice_get ps.all q) refl t))

registered_by : (l : Loading) (ps : Ps) (q : ℕ) (r : Reaction Url) (o : Option Row) → slice_get ps.all q ≡ o → AreToldOf l ps → MayStandOn l q r → AreToldOf l (register_by o ps q r)
registered_by l ps q r None e t m = t
registered_by l ps q r (Some (Pending rs)) e t m = set_told l ps q (Pending (rs ++ r ∷ [])) ps.jobs t (pushed (MayStandOn l q) rs r (t.reactions q rs e) m) t.jobs
registered_by l ps q r (Some (Done how)) e t m = record { made = t.made; once = t.once; reactions = t.reactions; jobs = pushed (λ (j : Job (Reaction Url)). MayStandOn l j.promise j.reaction) ps.jobs (job q r) t.jobs m; ended = t.ended }

pub register_told : (l : Loading) (ps : Ps) (q : ℕ) (r : Reaction Url) → AreToldOf l ps → MayStandOn l q r → AreToldOf l (register ps q r)
register_told l ps q r t m = registered_by l ps q r (slice_get ps.all q) refl t m

register_new : (l : Loading) (ps : Ps) (v : Value Url) (m : Url) → AreToldOf l ps → AreToldOf l (register (make_fulfilled ps v) (next_promise ps) (Await m))
register_new l ps v m t = register_told l (make_fulfilled ps v) (next_promise ps) (Await m) (made_done l ps v t) tt

pub await_told : (l : Loading) (ps : Ps) (v : Value Url) (m : Url) → AreToldOf l ps → AreToldOf l (await_on ps v m)
await_told l ps Undefined m t = register_new l ps Undefined m t
await_told l ps (Truth b) m t = register_new l ps (Truth b) m t
await_told l ps (Text text) m t = register_new l ps (Text text) m t
await_told l ps (Func g i) m t = register_new l ps (Func g i) m t
await_told l ps (Error id) m t = register_new l ps (Error id) m t
await_told l ps (Namespace g) m t = register_new l ps (Namespace g) m t
await_told l ps (value.Promise id) m t = register_told l ps id (Await m) t tt

-- a job is taken
taken_by : (l : Loading) (ps left : Ps) (j : Job (Reaction Url)) (js : List (Job (Reaction Url))) → first_job js ps ≡ Some (j, left) → AreToldOf l ps → FitsJobs l js → AreToldOf l left × MayStandOn l j.promise j.reaction
taken_by l ps left j [] e t f = cc
taken_by l ps left j (next ∷ js) e t f =
    let now : Ps = record ps { jobs = js } in
    let one : (next, now) ≡ (j, left) = cc in
    let both : AreToldOf l now × MayStandOn l next.promise next.reaction = (record { made = t.made; once = t.once; reactions = t.reactions; jobs = f.1; ended = t.ended }, f.0) in
    subst (λ (x : Job (Reaction Url) × Ps). AreToldOf l x.1 × MayStandOn l x.0.promise x.0.reaction) one both

pub take_told : (l : Loading) (ps left : Ps) (j : Job (Reaction Url)) → next_job ps ≡ Some (j, left) → AreToldOf l ps → AreToldOf l left × MayStandOn l j.promise j.reaction
take_told l ps left j e t = taken_by l ps left j ps.jobs e t t.jobs

-- what its promise tells
imports_loaded : (l : Loading) (s : ℕ) → HasLoaded l s → (promise : ℕ) × (root : Url) × (import_promise_in (slice_get l.purposes s) ≡ Some promise) × (root_in (slice_get l.loads s) ≡ Some root)
imports_loaded l s h = (h.promise, h.root, ap import_promise_in h.purpose, h.is_root)

pub is_told : (l : Loading) (ps : Ps) (p : ℕ) (r : Reaction Url) (how : Settled (Value Url)) → AreToldOf l ps → MayStandOn l p r → settled ps p ≡ Some how → IsTold l r how
is_told l ps p (Await m) how t h e = tt
is_told l ps p (BodyEnd m) how t h e = tt
is_told l ps p (Loaded s) (Fulfilled v) t h e =
    let root = has_root (slice_get l.loads s) v (t.ended s p (Fulfilled v) (ap own_promise_in h.1) e) in
    (h.0, root.0, ap import_promise_in h.1, root.1)
is_told l ps p (Loaded s) (Rejected v) t h e = (h.0, ap import_promise_in h.1)
is_told l ps p (Evaluated s) how t h e = imports_loaded l s h
is_told l ps p EntryLoaded (Fulfilled v) t h e = has_root (slice_get l.loads 0) v (t.ended 0 p (Fulfilled v) (ap own_promise_in h) e)
is_told l ps p EntryLoaded (Rejected v) t h e = tt
is_told l ps p EntryDone how t h e = tt
