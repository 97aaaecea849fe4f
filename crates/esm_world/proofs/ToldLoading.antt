-- What is told of loads stays so where loading goes on.
use Rattle.std.proofs.Common.{◌≡◌, ◌⊎◌, inl, inr, ℕ, ◌<◌, Bool, true, false, List, [], ◌∷◌, ◌++◌, length, Option, Some, None, refl, ap, subst, sym, ◌∙◌, arith}
use Rattle.std.specs.Prelude.{slice_get, slice_set}
use Rattle.esm_base.specs.Urls.{Text, Url, has}
use Rattle.esm_values.specs.Value.{Value, Undefined, Error}
use Rattle.esm_values.specs.Errors.{next_error}
use Rattle.esm_promise.specs.Promises.{Settled, Fulfilled, Rejected, Pending, Job, make, settle, settled, settled_by, next_promise}
use Rattle.esm_promise.specs.Reactions.{Reaction, Loaded}
use Rattle.esm_loads.specs.UrlTable.{TableEntry, Throw, New, Kept, thrown_by}
use Rattle.esm_loads.specs.Loading.{Loading, LoadState, Asked, Open, LoadComplete, Thrown, PendingRequest, Root, Request, Purpose, ForEntry, ForImport, OpenLoad, open_load, import_promise_in, ask_by}
use Rattle.esm_loads.specs.Load.{Answers}
use Rattle.esm_loads.specs.Load.Answers.{no_module, request}
use Rattle.esm_loads.specs.Host.{Host, Answered, begin_load, begin_by, own_load, settle_load, settle_by, with_loading, promise_of}
use Rattle.esm_loads.specs.Host.Answered.{answered, late}
use Rattle.esm_loads.specs.Arrival.{AnswersNext, without_next}
use Rattle.esm_loads.specs.ImportCall.{Imports, add_load, counted, next_load}
use Rattle.esm_loads.specs.Owed.{owes, OwesPromises}
use Rattle.esm_loads.specs.Laws.{IsOrderly}
use Rattle.esm_loads.proofs.Limits.{live, get_set}
use Rattle.esm_loads.proofs.Orderly.{without_orderly}
use Rattle.esm_loads.proofs.Requests.{set_other, length_set, equal_cases}
use Rattle.esm_loads.proofs.Owed.{Ends, answers_ends, root_stage, begun_same, push_own, push_other}
use Rattle.esm_world.specs.Told.{Whose, OfImport, Own, own_promise_in, load_promise, IsFree, HasSettled, MayStandOn, AreToldOf}
use Rattle.esm_world.proofs.Each.{all_on}
use Rattle.esm_world.proofs.ToldPromises.{Ps, Continues, continues_same, continues_on, stands_on, some_is, below_not, get_end, length_push, set_end, set_told, make_told, settle_told}

-- what is told is told still, what was free is free, and what has ended has ended so
pub record KeptOf (l : Loading) (ps : Ps) (m : Loading) (qs : Ps) : Type 0 where
  pub told : AreToldOf m qs
  pub free : (p : ℕ) → IsFree l ps p → IsFree m qs p
  pub continues : Continues l m

pub kept_on : {l m n : Loading} {ps qs rs : Ps} → KeptOf l ps m qs → KeptOf m qs n rs → KeptOf l ps n rs
kept_on a b = record { told = b.told; free = λ p f. b.free p (a.free p f); continues = continues_on a.continues b.continues }

pub kept_same : (l : Loading) (ps : Ps) → AreToldOf l ps → KeptOf l ps l ps
kept_same l ps t = record { told = t; free = λ p f. f; continues = continues_same l }

abbrev pub KeptIn : Host → Host → Type 0
KeptIn h k = KeptOf h.imports h.promises k.imports k.promises

-- ---- loads change, and whose promise is which doesn't

abbrev HaveSamePromises : Loading → Loading → Type 0
HaveSamePromises l m = (s : ℕ) (whose : Whose) → load_promise m s whose ≡ load_promise l s whose

promises_same : (l m : Loading) → m.purposes ≡ l.purposes → HaveSamePromises l m
promises_same l m e s OfImport = ap (λ (ps : List Purpose). import_promise_in (slice_get ps s)) e
promises_same l m e s Own = ap (λ (ps : List Purpose). own_promise_in (slice_get ps s)) e

jobs_on : (l m : Loading) → Continues l m → (j : Job (Reaction Url)) → MayStandOn l j.promise j.reaction → MayStandOn m j.promise j.reaction
jobs_on l m c j h = stands_on c j.promise j.reaction h

loads_told : (l m : Loading) (ps : Ps) → HaveSamePromises l m → Continues l m → AreToldOf l ps → KeptOf l ps m ps
loads_told l m ps e c t = record {
  told = record {
    made = λ s p whose k. t.made s p whose (sym (e s whose) ∙ k);
    once = λ s k p whose other a b. t.once s k p whose other (sym (e s whose) ∙ a) (sym (e k other) ∙ b);
    reactions = λ p rs k. all_on (MayStandOn l p) (MayStandOn m p) rs (stands_on c p) (t.reactions p rs k);
    jobs = all_on (λ (j : Job (Reaction Url)). MayStandOn l j.promise j.reaction) (λ (j : Job (Reaction Url)). MayStandOn m j.promise j.reaction) ps.jobs (jobs_on l m c) t.jobs;
    ended = λ s p how o k. let h = t.ended s p how (sym (e s Own) ∙ o) k in subst (λ x. HasSettled x how) (sym (c.loads s how h)) h;
  };
  free = λ p f. record { made = f.made; apart = λ s whose k. f.apart s whose (sym (e s whose) ∙ k) };
  continues = c;
}

pub unchanged : (l m : Loading) (ps : Ps) → m.purposes ≡ l.purposes → m.loads ≡ l.loads → AreToldOf l ps → KeptOf l ps m ps
unchanged l m ps e d t = loads_told l m ps (promises_same l m e) c t
  where
    c : Continues l m
    c = record {
      loads = λ s how h. ap (λ (xs : List LoadState). slice_get xs s) d;
      purposes = λ s p purpose k o. ap (λ (xs : List Purpose). slice_get xs s) e ∙ k;
    }

-- ---- a load gets a promise

-- it was that load's before, or is this new one
abbrev IsOldOrNew : Loading → ℕ → Whose → ℕ → ℕ → Whose → ℕ → Type 0
IsOldOrNew l s mine q k whose p = (load_promise l k whose ≡ Some p) ⊎ ((k ≡ s) × (whose ≡ mine) × (p ≡ q))

abbrev HasNew : Loading → Loading → ℕ → Whose → ℕ → Type 0
HasNew l m s mine q = (k : ℕ) (whose : Whose) (p : ℕ) → load_promise m k whose ≡ Some p → IsOldOrNew l s mine q k whose p

new_told : (l m : Loading) (ps : Ps) (s : ℕ) (mine : Whose) (q : ℕ) → AreToldOf l ps → Continues l m → HasNew l m s mine q → IsFree l ps q → (mine ≡ Own → settled ps q ≡ None) → AreToldOf m ps
new_told l m ps s mine q t c new f n = record {
  made = λ k p whose e. by_made k p whose (new k whose p e);
  once = λ k j p whose other a b. by_once k j p whose other (new k whose p a) (new j other p b);
  reactions = λ p rs e. all_on (MayStandOn l p) (MayStandOn m p) rs (stands_on c p) (t.reactions p rs e);
  jobs = all_on (λ (j : Job (Reaction Url)). MayStandOn l j.promise j.reaction) (λ (j : Job (Reaction Url)). MayStandOn m j.promise j.reaction) ps.jobs (jobs_on l m c) t.jobs;
  ended = λ k p how o e. by_ended k p how (new k Own p o) e;
}
  where
    by_made : (k p : ℕ) (whose : Whose) → IsOldOrNew l s mine q k whose p → p < next_promise ps
    by_made k p whose (inl e) = t.made k p whose e
    by_made k p whose (inr d) = subst (λ x. x < next_promise ps) (sym d.2) f.made

    apart : (k p : ℕ) (whose : Whose) → load_promise l k whose ≡ Some p → p ≡ q → ⊥
    apart k p whose e d = f.apart k whose (subst (λ x. load_promise l k whose ≡ Some x) d e)

    by_once : (k j p : ℕ) (whose other : Whose) → IsOldOrNew l s mine q k whose p → IsOldOrNew l s mine q j other p → (k ≡ j) × (whose ≡ other)
    by_once k j p whose other (inl a) (inl b) = t.once k j p whose other a b
    by_once k j p whose other (inl a) (inr d) = absurd (apart k p whose a d.2)
    by_once k j p whose other (inr d) (inl b) = absurd (apart j p other b d.2)
    by_once k j p whose other (inr d) (inr g) = (d.0 ∙ sym g.0, d.1 ∙ sym g.1)

    unsettled : (how : Settled (Value Url)) → settled ps q ≡ Some how → settled ps q ≡ None → ⊥
    unsettled how a b = let e : Some how ≡ None = sym a ∙ b in cc

    by_ended : (k p : ℕ) (how : Settled (Value Url)) → IsOldOrNew l s mine q k Own p → settled ps p ≡ Some how → HasSettled (slice_get m.loads k) how
    by_ended k p how (inl o) e = let h = t.ended k p how o e in subst (λ x. HasSettled x how) (sym (c.loads k how h)) h
    by_ended k p how (inr d) e = absurd (unsettled how (subst (λ x. settled ps x ≡ Some how) d.2 e) (n (sym d.1)))

new_free : (l m : Loading) (ps : Ps) (s : ℕ) (mine : Whose) (q p : ℕ) → HasNew l m s mine q → IsFree l ps p → (p ≡ q → ⊥) → IsFree m ps p
new_free l m ps s mine q p new f n = record { made = f.made; apart = λ k whose e. by k whose (new k whose p e) }
  where
    by : (k : ℕ) (whose : Whose) → IsOldOrNew l s mine q k whose p → ⊥
    by k whose (inl e) = f.apart k whose e
    by k whose (inr d) = n d.2

pub made_free : (l : Loading) (ps : Ps) (rs : List (Reaction Url)) (p : ℕ) → IsFree l ps p → IsFree l (make ps rs) p
made_free l ps rs p f = let below = f.made in record { made = subst (λ n. p < n) (sym (length_push ps.all (Pending rs))) (omega (arith, below)); apart = f.apart }

-- what is made next is free
pub next_free : (l : Loading) (ps : Ps) (rs : List (Reaction Url)) → AreToldOf l ps → IsFree l (make ps rs) (next_promise ps)
next_free l ps rs t = record {
  made = subst (λ n. next_promise ps < n) (sym (length_push ps.all (Pending rs))) (omega arith);
  apart = λ s whose e. below_not (next_promise ps) (next_promise ps) (t.made s (next_promise ps) whose e) refl;
}

pub make_kept : (l : Loading) (ps : Ps) → AreToldOf l ps → KeptOf l ps l (make ps [])
make_kept l ps t = record { told = make_told l ps [] t tt; free = made_free l ps []; continues = continues_same l }

module _ (h : Host) (s q : ℕ) (is : slice_get h.imports.purposes s ≡ Some (ForImport q None)) where
  abbrev ps : Ps
  ps = h.promises

  abbrev mine : Purpose
  mine = ForImport q (Some (next_promise h.promises))

  abbrev m : Loading
  m = record h.imports { purposes = slice_set h.imports.purposes s mine }

  mine_is : slice_get m.purposes s ≡ Some mine
  mine_is = get_set h.imports.purposes s (ForImport q None) mine is

  own_continues : Continues h.imports m
  own_continues = record { loads = λ k how t. refl; purposes = λ k p purpose e o. by k p purpose e o (equal_cases k s) }
    where
      none : (purpose : Purpose) (p : ℕ) → Some purpose ≡ Some (ForImport q None) → own_promise_in (Some purpose) ≡ Some p → ⊥
      none purpose p e o = let f : None ≡ Some p = sym (ap own_promise_in e) ∙ o in cc

      by : (k p : ℕ) (purpose : Purpose) → slice_get h.imports.purposes k ≡ Some purpose → own_promise_in (Some purpose) ≡ Some p → (k ≡ s) ⊎ (k ≡ s → ⊥) → slice_get m.purposes k ≡ Some purpose
      by k p purpose e o (inl d) = absurd (none purpose p (sym (subst (λ x. slice_get h.imports.purposes x ≡ Some purpose) d e) ∙ is) o)
      by k p purpose e o (inr n) = set_other h.imports.purposes s k mine n ∙ e

  own_new : HasNew h.imports m s Own (next_promise h.promises)
  own_new k whose p e = by whose e (equal_cases k s)
    where
      at : (whose : Whose) → load_promise m s whose ≡ Some p → IsOldOrNew h.imports s Own (next_promise h.promises) s whose p
      at OfImport e = inl (ap import_promise_in is ∙ sym (ap import_promise_in mine_is) ∙ e)
      at Own e = inr (refl, refl, some_is (sym e ∙ ap own_promise_in mine_is))

      elsewhere : (whose : Whose) → (k ≡ s → ⊥) → load_promise m k whose ≡ load_promise h.imports k whose
      elsewhere OfImport n = ap import_promise_in (set_other h.imports.purposes s k mine n)
      elsewhere Own n = ap own_promise_in (set_other h.imports.purposes s k mine n)

      by : (whose : Whose) → load_promise m k whose ≡ Some p → (k ≡ s) ⊎ (k ≡ s → ⊥) → IsOldOrNew h.imports s Own (next_promise h.promises) k whose p
      by whose e (inl d) = subst (λ x. IsOldOrNew h.imports s Own (next_promise h.promises) x whose p) (sym d) (at whose (subst (λ x. load_promise m x whose ≡ Some p) d e))
      by whose e (inr n) = inl (sym (elsewhere whose n) ∙ e)

  own_kept : AreToldOf h.imports h.promises → KeptIn h (own_load h s q)
  own_kept t = record { told = told; free = free; continues = own_continues }
    where
      first : AreToldOf h.imports (make ps [])
      first = make_told h.imports ps [] t tt

      second : AreToldOf m (make ps [])
      second = new_told h.imports m (make ps []) s Own (next_promise ps) first own_continues own_new (next_free h.imports ps [] t) (λ e. ap settled_by (push_own ps.all (Pending [])))

      third : AreToldOf m (record { all = slice_set (ps.all ++ Pending [] ∷ []) (next_promise ps) (Pending (Loaded s ∷ [])); jobs = ps.jobs })
      third = set_told m (make ps []) (next_promise ps) (Pending (Loaded s ∷ [])) ps.jobs second ((q, mine_is), tt) second.jobs

      told : AreToldOf m (make ps (Loaded s ∷ []))
      told = subst (λ xs. AreToldOf m (record { all = xs; jobs = ps.jobs })) (set_end ps.all (Pending []) (Pending (Loaded s ∷ []))) third

      free : (p : ℕ) → IsFree h.imports ps p → IsFree m (make ps (Loaded s ∷ [])) p
      free p f = new_free h.imports m (make ps (Loaded s ∷ [])) s Own (next_promise ps) p own_new (made_free h.imports ps (Loaded s ∷ []) p f) (below_not p (next_promise ps) f.made)

pub begin_kept : (h : Host) (s : ℕ) (t : Option Throw) (p : Option Purpose) → slice_get h.imports.purposes s ≡ p → AreToldOf h.imports h.promises → KeptIn h (begin_by h s t p)
begin_kept h s (Some t) p e k = kept_same h.imports h.promises k
begin_kept h s None None e k = kept_same h.imports h.promises k
begin_kept h s None (Some (ForEntry q)) e k = kept_same h.imports h.promises k
begin_kept h s None (Some (ForImport q None)) e k = own_kept h s q e k
begin_kept h s None (Some (ForImport q (Some r))) e k = kept_same h.imports h.promises k

begin_loads : (h : Host) (s : ℕ) (t : Option Throw) (p : Option Purpose) → (begin_by h s t p).imports.loads ≡ h.imports.loads
begin_loads h s (Some t) p = refl
begin_loads h s None None = refl
begin_loads h s None (Some (ForEntry q)) = refl
begin_loads h s None (Some (ForImport q None)) = refl
begin_loads h s None (Some (ForImport q (Some r))) = refl

-- ---- a load ends

pub settle_kept : (l : Loading) (ps : Ps) (q : ℕ) (how : Settled (Value Url)) → AreToldOf l ps → ((s : ℕ) → load_promise l s Own ≡ Some q → HasSettled (slice_get l.loads s) how) → KeptOf l ps l (settle ps q how)
settle_kept l ps q how t f = record {
  told = settle_told l ps q how t f;
  free = λ p g. record { made = subst (λ n. p < n) (sym (length_set ps.all q _)) g.made; apart = g.apart };
  continues = continues_same l;
}

-- of whom the promise is that the end of the load settles
load_ended : (l : Loading) (ps : Ps) (s : ℕ) (purpose : Purpose) (how : Settled (Value Url)) → slice_get l.purposes s ≡ Some purpose → HasSettled (slice_get l.loads s) how → AreToldOf l ps → (k : ℕ) → load_promise l k Own ≡ Some (promise_of purpose) → HasSettled (slice_get l.loads k) how
load_ended l ps s (ForEntry q) how e h t k o = let same = t.once s k q Own Own (ap own_promise_in e) o in subst (λ x. HasSettled (slice_get l.loads x) how) same.0 h
load_ended l ps s (ForImport q None) how e h t k o = absurd (let same : OfImport ≡ Own = (t.once s k q OfImport Own (ap import_promise_in e) o).1 in cc)
load_ended l ps s (ForImport q (Some r)) how e h t k o = let same = t.once s k r Own Own (ap own_promise_in e) o in subst (λ x. HasSettled (slice_get l.loads x) how) same.0 h

-- a load that has ended settles its promise
settles_kept : (h : Host) (s : ℕ) (p : Purpose) (state : LoadState) (how : Settled (Value Url)) → slice_get h.imports.purposes s ≡ Some p → slice_get h.imports.loads s ≡ Some state → AreToldOf h.imports h.promises → HasSettled (Some state) how → KeptOf h.imports h.promises h.imports (settle h.promises (promise_of p) how)
settles_kept h s p state how e g t x = settle_kept h.imports h.promises (promise_of p) how t (load_ended h.imports h.promises s p how e (subst (λ o. HasSettled o how) (sym g) x) t)

settled_kept : (h : Host) (s : ℕ) (o : Option Purpose) (d : Option LoadState) → slice_get h.imports.purposes s ≡ o → slice_get h.imports.loads s ≡ d → AreToldOf h.imports h.promises → KeptIn h (settle_by h o d)
settled_kept h s None d e g t = kept_same h.imports h.promises t
settled_kept h s (Some p) None e g t = kept_same h.imports h.promises t
settled_kept h s (Some p) (Some Asked) e g t = kept_same h.imports h.promises t
settled_kept h s (Some p) (Some (Open r v)) e g t = kept_same h.imports h.promises t
settled_kept h s (Some p) (Some (LoadComplete r)) e g t = settles_kept h s p (LoadComplete r) (Fulfilled Undefined) e g t tt
settled_kept h s (Some p) (Some (Thrown (New f))) e g t = settles_kept h s p (Thrown (New f)) (Rejected (Error (next_error h.errors))) e g t tt
settled_kept h s (Some p) (Some (Thrown (Kept error))) e g t = settles_kept h s p (Thrown (Kept error)) (Rejected (Error error)) e g t tt

not_ended : (o : Option LoadState) (how : Settled (Value Url)) → owes o ≡ true → HasSettled o how → ⊥
not_ended None how e h = h
not_ended (Some Asked) how e h = h
not_ended (Some (Open r v)) how e h = h
not_ended (Some (LoadComplete r)) how e h = cc
not_ended (Some (Thrown t)) how e h = cc

-- of loads only that one changes, which hasn't ended
pub ends_kept : (l m : Loading) (ps : Ps) (s : ℕ) → owes (slice_get l.loads s) ≡ true → Ends s l m → AreToldOf l ps → KeptOf l ps m ps
ends_kept l m ps s g e t = loads_told l m ps (promises_same l m e.purposes) c t
  where
    by : (k : ℕ) (how : Settled (Value Url)) → HasSettled (slice_get l.loads k) how → (k ≡ s) ⊎ (k ≡ s → ⊥) → slice_get m.loads k ≡ slice_get l.loads k
    by k how h (inl d) = absurd (not_ended (slice_get l.loads s) how g (subst (λ x. HasSettled (slice_get l.loads x) how) d h))
    by k how h (inr n) = e.others k n

    c : Continues l m
    c = record { loads = λ k how h. by k how h (equal_cases k s); purposes = λ k p purpose d o. ap (λ (xs : List Purpose). slice_get xs k) e.purposes ∙ d }

answer_ends : (b : Host) (l : Loading) (s : ℕ) → owes (slice_get b.imports.loads s) ≡ true → Ends s b.imports l → AreToldOf b.imports b.promises → KeptIn b (settle_load (with_loading b l) s)
answer_ends b l s g e t = let k = ends_kept b.imports l b.promises s g e t in kept_on k (settled_kept (with_loading b l) s (slice_get l.purposes s) (slice_get l.loads s) refl refl k.told)

pub root_kept : {h k : Host} {s : ℕ} {u : Url} {e : TableEntry} → IsOrderly h.imports → owes (slice_get h.imports.loads s) ≡ true → AreToldOf h.imports h.promises → Answered h (Root s) u e k → KeptIn h k
root_kept {h} {s = s} {u = u} {e = e} o g t (answered {l = l} q) =
    let purpose = slice_get h.imports.purposes s in
    let b = begin_kept h s (thrown_by u e) purpose refl t in
    let going = ap (λ (xs : List LoadState). owes (slice_get xs s)) (begin_loads h s (thrown_by u e) purpose) ∙ g in
    kept_on b (answer_ends (begin_load h (Root s) u e) l s going (answers_ends q (begun_same h s (thrown_by u e) purpose o)) b.told)

request_kept : {h k : Host} {s i : ℕ} {x u : Url} {e : TableEntry} → IsOrderly h.imports → AreToldOf h.imports h.promises → Answered h (Request s x i) u e k → KeptIn h k
request_kept {h} o t (late n) = kept_same h.imports h.promises t
request_kept {h} {s = s} o t (answered {l = l} q) = answer_ends h l s (by q) (answers_ends q o) t
  where
    open_owes : (p : OpenLoad) → open_load h.imports s ≡ Some p → owes (slice_get h.imports.loads s) ≡ true
    open_owes p e = ap owes (live h.imports.stopped (slice_get h.imports.loads s) e).1

    by : {i : ℕ} {x u : Url} {e : TableEntry} {m : Loading} → Answers h.imports (Request s x i) u e m → owes (slice_get h.imports.loads s) ≡ true
    by (no_module p thrown n f) = open_owes p n
    by (request p n f q) = open_owes p n

-- ---- the next answer

pub next_kept : (before after : Host) → IsOrderly before.imports → before.imports.stopped ≡ None → OwesPromises before → AreToldOf before.imports before.promises → AnswersNext before after → KeptIn before after
next_kept before after o stop w t q = kept_on k (by q.who.pending_request refl)
  where
    without : Host
    without = without_next before q.who

    k : KeptIn before without
    k = unchanged before.imports without.imports before.promises refl refl t

    orderly : IsOrderly without.imports
    orderly = without_orderly before q.who q.is_next o

    same : (r : PendingRequest) → q.who.pending_request ≡ r → Answered without r q.who.url q.who.entry after
    same r e = subst (λ r. Answered without r q.who.url q.who.entry after) e q.answered

    by : (r : PendingRequest) → q.who.pending_request ≡ r → KeptIn without after
    by (Root s) e = root_kept {h = without} orderly (root_stage before q.who s stop o e q.is_next w).going k.told (same (Root s) e)
    by (Request s x i) e = request_kept {h = without} orderly k.told (same (Request s x i) e)

-- ---- an import()

-- a load is added, which has this promise
module _ (h : Host) (promise : ℕ) (sizes : length h.imports.purposes ≡ length h.imports.loads) where
  abbrev added : Loading
  added = (add_load (counted h) promise).imports

  none_some : {A : Type 0} (x : A) (o : Option A) → o ≡ None → o ≡ Some x → ⊥
  none_some x o e f = let g : None ≡ Some x = sym e ∙ f in cc

  added_continues : Continues h.imports added
  added_continues = record { loads = λ s how e. by_loads s how e (equal_cases s (next_load h)); purposes = λ s p purpose e o. by_purposes s purpose e (equal_cases s (length h.imports.purposes)) }
    where
      by_loads : (s : ℕ) (how : Settled (Value Url)) → HasSettled (slice_get h.imports.loads s) how → (s ≡ next_load h) ⊎ (s ≡ next_load h → ⊥) → slice_get added.loads s ≡ slice_get h.imports.loads s
      by_loads s how e (inl d) = absurd (subst (λ o. HasSettled o how) (ap (slice_get h.imports.loads) d ∙ get_end h.imports.loads) e)
      by_loads s how e (inr n) = push_other h.imports.loads Asked s n

      by_purposes : (s : ℕ) (purpose : Purpose) → slice_get h.imports.purposes s ≡ Some purpose → (s ≡ length h.imports.purposes) ⊎ (s ≡ length h.imports.purposes → ⊥) → slice_get added.purposes s ≡ Some purpose
      by_purposes s purpose e (inl d) = absurd (none_some purpose (slice_get h.imports.purposes s) (ap (slice_get h.imports.purposes) d ∙ get_end h.imports.purposes) e)
      by_purposes s purpose e (inr n) = push_other h.imports.purposes (ForImport promise None) s n ∙ e

  added_new : HasNew h.imports added (length h.imports.purposes) OfImport promise
  added_new k whose p e = by whose e (equal_cases k (length h.imports.purposes))
    where
      end : ℕ
      end = length h.imports.purposes

      there : slice_get added.purposes end ≡ Some (ForImport promise None)
      there = push_own h.imports.purposes (ForImport promise None)

      at : (whose : Whose) → load_promise added end whose ≡ Some p → IsOldOrNew h.imports end OfImport promise end whose p
      at OfImport e = inr (refl, refl, some_is (sym e ∙ ap import_promise_in there))
      at Own e = absurd (none_some p (own_promise_in (slice_get added.purposes end)) (ap own_promise_in there) e)

      elsewhere : (whose : Whose) → (k ≡ end → ⊥) → load_promise added k whose ≡ load_promise h.imports k whose
      elsewhere OfImport n = ap import_promise_in (push_other h.imports.purposes (ForImport promise None) k n)
      elsewhere Own n = ap own_promise_in (push_other h.imports.purposes (ForImport promise None) k n)

      by : (whose : Whose) → load_promise added k whose ≡ Some p → (k ≡ end) ⊎ (k ≡ end → ⊥) → IsOldOrNew h.imports end OfImport promise k whose p
      by whose e (inl d) = subst (λ x. IsOldOrNew h.imports end OfImport promise x whose p) (sym d) (at whose (subst (λ x. load_promise added x whose ≡ Some p) d e))
      by whose e (inr n) = inl (sym (elsewhere whose n) ∙ e)

-- as `KeptOf`, where this promise isn't free any more
pub record KeptBut (q : ℕ) (l : Loading) (ps : Ps) (m : Loading) (qs : Ps) : Type 0 where
  pub told : AreToldOf m qs
  pub free : (p : ℕ) → IsFree l ps p → (p ≡ q → ⊥) → IsFree m qs p
  pub continues : Continues l m

but_on : {q : ℕ} {l m n : Loading} {ps qs rs : Ps} → KeptBut q l ps m qs → KeptOf m qs n rs → KeptBut q l ps n rs
but_on a b = record { told = b.told; free = λ p f n. b.free p (a.free p f n); continues = continues_on a.continues b.continues }

but : {q : ℕ} {l m : Loading} {ps qs : Ps} → KeptOf l ps m qs → KeptBut q l ps m qs
but a = record { told = a.told; free = λ p f n. a.free p f; continues = a.continues }

pub added_kept : (h : Host) (promise : ℕ) → length h.imports.purposes ≡ length h.imports.loads → AreToldOf h.imports h.promises → IsFree h.imports h.promises promise → KeptBut promise h.imports h.promises (add_load (counted h) promise).imports h.promises
added_kept h promise sizes t f = record {
  told = new_told h.imports (added h promise sizes) h.promises (length h.imports.purposes) OfImport promise t (added_continues h promise sizes) (added_new h promise sizes) f (λ e. cc);
  free = λ p g n. new_free h.imports (added h promise sizes) h.promises (length h.imports.purposes) OfImport promise p (added_new h promise sizes) g n;
  continues = added_continues h promise sizes;
}

pub ask_purposes : (b c : Bool) (l : Loading) (u : Url) (a : PendingRequest) → ((ask_by b c l u a).purposes ≡ l.purposes) × ((ask_by b c l u a).loads ≡ l.loads)
ask_purposes true c l u a = (refl, refl)
ask_purposes false true l u a = (refl, refl)
ask_purposes false false l u a = (refl, refl)

-- a call of import() whose promise is free
pub imports_kept : {h k : Host} {referrer : Url} {specifier : Text} {promise : ℕ} → IsOrderly h.imports → length h.imports.purposes ≡ length h.imports.loads → AreToldOf h.imports h.promises → IsFree h.imports h.promises promise → Imports h referrer specifier promise k → KeptBut promise h.imports h.promises k.imports k.promises
imports_kept {h} {k} o sizes t f (Imports.limit full) = but (unchanged h.imports k.imports h.promises refl refl t)
imports_kept {h} {k} {promise = promise} o sizes t f (Imports.unresolved fault room r) =
    let same = unchanged h.imports k.imports h.promises refl refl t in
    but (kept_on same (settle_kept k.imports h.promises promise _ same.told (λ s e. absurd ((same.free promise f).apart s Own e))))
imports_kept {h} {k} {promise = promise} o sizes t f (Imports.asks u room r n) =
    let a = added_kept h promise sizes t f in
    let l = (add_load (counted h) promise).imports in
    let same = ask_purposes (has l.asked u) _ l u (Root (next_load h)) in
    but_on a (unchanged l k.imports h.promises same.0 same.1 a.told)
imports_kept {h} {k} {promise = promise} o sizes t f (Imports.answers u e room r g q) =
    let a = added_kept h promise sizes t f in
    but_on a (root_kept {h = add_load (counted h) promise} (record { once = o.once; few = o.few; fetched = o.fetched; waits = o.waits }) (ap owes (push_own h.imports.loads Asked)) a.told q)
