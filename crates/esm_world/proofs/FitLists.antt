-- Places in lists of URLs, and promises that fit.
use Rattle.std.proofs.Common.{◌≡◌, ℕ, zero, suc, ◌+◌, ◌<◌, Bool, true, false, ◌||◌, cond, List, [], ◌∷◌, ◌++◌, map, Option, Some, None, refl, subst, sym, arith, length}
use Rattle.std.specs.Prelude.{not, slice_get, bytes_eq, ⊤}
use Rattle.std.specs.List.{AllByRecursion}
use Rattle.std.proofs.lemmas.Slice.Eq.{bytes_eq-Decides}
use Rattle.esm_base.specs.Urls.{Url, has}
use Rattle.esm_ast.specs.Entries.{place_of}
use Rattle.esm_values.specs.Value.{Value, Undefined, Truth, Text, Func, Error, Namespace, Promise}
use Rattle.esm_promise.specs.Promises as p
use Rattle.esm_promise.specs.Promises.{Settled, Fulfilled, Rejected, Pending, Done, Promises, Job, job, make, make_fulfilled, settle, triggered, register, register_by, next_promise}
use Rattle.esm_promise.specs.Reactions.{Reaction, Await}
use Rattle.esm_loads.specs.UrlTable.{Entries}
use Rattle.esm_rewriting.specs.Bodies.{await_on}
use Rattle.esm_loads.specs.LoadsView.{url_at}
use Rattle.esm_world.specs.Fits.{IsLinkedModule, IsKnownValue, FitReaction, FitSettled, FitPromise, FitPromises}
use Rattle.esm_world.proofs.Each.{pushed, joined, put}

-- ---- places

same_is : (u v : Url) → bytes_eq u v ≡ true → u ≡ v
same_is u v h = (bytes_eq-Decides u v).0 h

pub own_url : (u : Url) → bytes_eq u u ≡ true
own_url u = (bytes_eq-Decides u u).1 refl

pub place_below : (us : List Url) (u : Url) → has us u ≡ true → place_of us u < length us
place_below [] u h = absurd (let e : false ≡ true = h in cc)
place_below (v ∷ us) u h = by (bytes_eq u v) h (place_below us u)
  where
    by : (b : Bool) → (b || has us u) ≡ true → (has us u ≡ true → place_of us u < length us) → cond (not b) (1 + place_of us u) 0 < suc (length us)
    by true h later = omega arith
    by false h later = let l = later h in omega (arith, l)

pub place_names : (us : List Url) (u : Url) → has us u ≡ true → url_at us (place_of us u) ≡ u
place_names [] u h = absurd (let e : false ≡ true = h in cc)
place_names (v ∷ us) u h = by (bytes_eq u v) refl h (place_names us u)
  where
    behind : url_at us (place_of us u) ≡ u → url_at (v ∷ us) (1 + place_of us u) ≡ u
    behind e = let one : 1 + place_of us u ≡ suc (place_of us u) = omega arith in subst (λ k. url_at (v ∷ us) k ≡ u) (sym one) e

    by : (b : Bool) → bytes_eq u v ≡ b → (b || has us u) ≡ true → (has us u ≡ true → url_at us (place_of us u) ≡ u) → url_at (v ∷ us) (cond (not b) (1 + place_of us u) 0) ≡ u
    by true e h later = sym (same_is u v e)
    by false e h later = behind (later h)

-- ---- promises

module _ (linked : List Url) (entries : Entries) where
  abbrev Fit : Promises (Reaction Url) (Value Url) → Type 0
  Fit ps = FitPromises linked entries ps

  abbrev AllFit : List (p.Promise (Reaction Url) (Value Url)) → Type 0
  AllFit xs = AllByRecursion (FitPromise linked entries) xs

  abbrev JobsFit : List (Job (Reaction Url)) → Type 0
  JobsFit js = AllByRecursion (λ (j : Job (Reaction Url)). FitReaction linked entries j.reaction) js

  abbrev Reactions : List (Reaction Url) → Type 0
  Reactions rs = AllByRecursion (FitReaction linked entries) rs

  abbrev At : Option (p.Promise (Reaction Url) (Value Url)) → Type 0
  At None = ⊤
  At (Some x) = FitPromise linked entries x

  got : (xs : List (p.Promise (Reaction Url) (Value Url))) (i : ℕ) → AllFit xs → At (slice_get xs i)
  got [] i h = tt
  got (x ∷ xs) zero h = h.0
  got (x ∷ xs) (suc i) h = got xs i h.1

  jobs_of : (q : ℕ) (rs : List (Reaction Url)) → Reactions rs → JobsFit (map (job q) rs)
  jobs_of q [] h = tt
  jobs_of q (r ∷ rs) h = (h.0, jobs_of q rs h.1)

  trigger : (q : ℕ) (o : Option (p.Promise (Reaction Url) (Value Url))) → At o → JobsFit (triggered q o)
  trigger q None h = tt
  trigger q (Some (Pending rs)) h = jobs_of q rs h
  trigger q (Some (Done how)) h = tt

  pub made : (ps : Promises (Reaction Url) (Value Url)) (rs : List (Reaction Url)) → Reactions rs → Fit ps → Fit (make ps rs)
  made ps rs r h = record { all = pushed (FitPromise linked entries) ps.all (Pending rs) h.all r; jobs = h.jobs }

  made_done : (ps : Promises (Reaction Url) (Value Url)) (v : Value Url) → IsKnownValue linked entries v → Fit ps → Fit (make_fulfilled ps v)
  made_done ps v k h = record { all = pushed (FitPromise linked entries) ps.all (Done (Fulfilled v)) h.all k; jobs = h.jobs }

  pub settled : (ps : Promises (Reaction Url) (Value Url)) (q : ℕ) (how : Settled (Value Url)) → FitSettled linked entries how → Fit ps → Fit (settle ps q how)
  settled ps q how k h = record {
    all = put (FitPromise linked entries) ps.all q (Done how) h.all k;
    jobs = joined (λ (j : Job (Reaction Url)). FitReaction linked entries j.reaction) ps.jobs (triggered q (slice_get ps.all q)) h.jobs (trigger q (slice_get ps.all q) (got ps.all q h.all));
  }

  registered_by : (o : Option (p.Promise (Reaction Url) (Value Url))) (ps : Promises (Reaction Url) (Value Url)) (q : ℕ) (r : Reaction Url) → At o → FitReaction linked entries r → Fit ps → Fit (register_by o ps q r)
  registered_by None ps q r a k h = h
  registered_by (Some (Pending rs)) ps q r a k h = record { all = put (FitPromise linked entries) ps.all q (Pending (rs ++ r ∷ [])) h.all (pushed (FitReaction linked entries) rs r a k); jobs = h.jobs }
  registered_by (Some (Done how)) ps q r a k h = record { all = h.all; jobs = pushed (λ (j : Job (Reaction Url)). FitReaction linked entries j.reaction) ps.jobs (job q r) h.jobs k }

  pub registered : (ps : Promises (Reaction Url) (Value Url)) (q : ℕ) (r : Reaction Url) → FitReaction linked entries r → Fit ps → Fit (register ps q r)
  registered ps q r k h = registered_by (slice_get ps.all q) ps q r (got ps.all q h.all) k h

  register_new : (ps : Promises (Reaction Url) (Value Url)) (v : Value Url) (m : Url) → IsKnownValue linked entries v → IsLinkedModule linked entries m → Fit ps → Fit (register (make_fulfilled ps v) (next_promise ps) (Await m))
  register_new ps v m k l h = registered (make_fulfilled ps v) (next_promise ps) (Await m) l (made_done ps v k h)

  pub awaited : (ps : Promises (Reaction Url) (Value Url)) (v : Value Url) (m : Url) → IsKnownValue linked entries v → IsLinkedModule linked entries m → Fit ps → Fit (await_on ps v m)
  awaited ps Undefined m k l h = register_new ps Undefined m k l h
  awaited ps (Truth b) m k l h = register_new ps (Truth b) m k l h
  awaited ps (Text t) m k l h = register_new ps (Text t) m k l h
  awaited ps (Func g i) m k l h = register_new ps (Func g i) m k l h
  awaited ps (Error id) m k l h = register_new ps (Error id) m k l h
  awaited ps (Namespace g) m k l h = register_new ps (Namespace g) m k l h
  awaited ps (Promise id) m k l h = registered ps id (Await m) l h
