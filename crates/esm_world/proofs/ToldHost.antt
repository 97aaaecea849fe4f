-- What is told of loads stays so in all that bodies do to promises, errors and imports.
use Rattle.std.proofs.Common.{◌≡◌, ◌⊎◌, inl, inr, ℕ, zero, suc, ◌<◌, Bool, true, false, List, [], ◌∷◌, ◌++◌, length, Option, Some, None, refl, ap, subst, sym, ◌∙◌, arith}
use Rattle.std.specs.Prelude.{slice_get, slice_set, Result}
use Rattle.esm_base.specs.declared.limits.Limit.{Limit}
use Rattle.esm_base.specs.Urls as urls
use Rattle.esm_base.specs.Urls.{Url}
use Rattle.esm_values.specs.Value.{Value, Undefined, Truth, Text, Func, Error, Namespace}
use Rattle.esm_values.specs.Value as value
use Rattle.esm_values.specs.Errors.{Errors}
use Rattle.esm_promise.specs.Promises.{Promise, Settled, Fulfilled, Rejected, Pending, Done, Job, first_job, next_job, make, make_fulfilled, settle, register, register_by, next_promise, is_pending, is_pending_by}
use Rattle.esm_promise.specs.Reactions.{Reaction, Await}
use Rattle.esm_loads.specs.Loading.{Loading, Purpose, ForEntry, ForImport, import_promise_in}
use Rattle.esm_loads.specs.Host.{Host}
use Rattle.esm_loads.specs.Arrival.{AnswersNext}
use Rattle.esm_loads.specs.ImportCall.{BeginsImport}
use Rattle.esm_loads.specs.Owed.{owes, owed, owed_by, OwesPromises}
use Rattle.esm_loads.proofs.Orderly.{stays_orderly}
use Rattle.esm_loads.proofs.Owed.{keeps_promises, push_own}
use Rattle.esm_loads.proofs.Requests.{set_other, equal_cases, length_set}
use Rattle.esm_rewriting.specs.Bodies.{await_on}
use Rattle.esm_world.specs.Told.{Whose, OfImport, Own, own_promise_in, load_promise, IsFree, HasSettled, MayStandOn, AreToldOf, IsHostTold}
use Rattle.esm_world.proofs.OuterKeeps.{LastsOuter, with_errors, makes, settles}
use Rattle.esm_world.proofs.ToldPromises.{Ps, Continues, continues_same, continues_on, below_not, length_push, register_told, await_told}
use Rattle.esm_world.proofs.ToldLoading.{KeptOf, KeptBut, next_free, make_kept, settle_kept, next_kept, imports_kept}

abbrev pub Row : Type 0
Row = Promise (Reaction Url) (Value Url)

pub record KeptHost (h k : Host) : Type 0 where
  pub told : IsHostTold k
  pub free : (p : ℕ) → IsFree h.imports h.promises p → IsFree k.imports k.promises p
  pub continues : Continues h.imports k.imports

pub host_same : (h : Host) → IsHostTold h → KeptHost h h
host_same h t = record { told = t; free = λ p f. f; continues = continues_same h.imports }

pub host_on : {h k j : Host} → KeptHost h k → KeptHost k j → KeptHost h j
host_on a b = record { told = b.told; free = λ p f. b.free p (a.free p f); continues = continues_on a.continues b.continues }

-- ---- what loads owe

owed_of : (l : Loading) (s p : ℕ) → owed l s ≡ Some p → (whose : Whose) × (load_promise l s whose ≡ Some p)
owed_of l s p e = by (owes (slice_get l.loads s)) (slice_get l.purposes s) refl e
  where
    by : (b : Bool) (o : Option Purpose) → slice_get l.purposes s ≡ o → owed_by b o ≡ Some p → (whose : Whose) × (load_promise l s whose ≡ Some p)
    by false None d e = cc
    by false (Some q) d e = cc
    by true None d e = cc
    by true (Some (ForEntry q)) d e = (Own, ap own_promise_in d ∙ e)
    by true (Some (ForImport q None)) d e = (OfImport, ap import_promise_in d ∙ e)
    by true (Some (ForImport q (Some r))) d e = (Own, ap own_promise_in d ∙ e)

pub not_owed : (l : Loading) (ps : Ps) (p : ℕ) → IsFree l ps p → (s : ℕ) → owed l s ≡ Some p → ⊥
not_owed l ps p f s e = let o = owed_of l s p e in f.apart s o.0 o.1

-- an import() whose load has a promise of its own is owed by no load
pub import_not_owed : (l : Loading) (ps : Ps) (s q r : ℕ) → AreToldOf l ps → slice_get l.purposes s ≡ Some (ForImport q (Some r)) → (k : ℕ) → owed l k ≡ Some q → ⊥
import_not_owed l ps s q r t is k e =
    let o = owed_of l k q e in
    let mine : load_promise l s OfImport ≡ Some q = ap import_promise_in is in
    let same = t.once s k q OfImport o.0 mine o.1 in
    by (owes (slice_get l.loads s)) (subst (λ j. owed l j ≡ Some q) (sym same.0) e)
  where
    apart : r ≡ q → ⊥
    apart d =
        let mine : load_promise l s OfImport ≡ Some q = ap import_promise_in is in
        let own : load_promise l s Own ≡ Some q = ap own_promise_in is ∙ ap (λ x. Some x) d in
        let same : OfImport ≡ Own = (t.once s s q OfImport Own mine own).1 in
        cc

    by : (b : Bool) → owed_by b (slice_get l.purposes s) ≡ Some q → ⊥
    by true e = apart (let d : Some r ≡ Some q = sym (ap (owed_by true) is) ∙ e in cc)
    by false e = let d : None ≡ Some q = sym (ap (owed_by false) is) ∙ e in cc

owes_with : (h : Host) (es : Errors) (ps : Ps) → ((p : ℕ) → ((s : ℕ) → owed h.imports s ≡ Some p → is_pending h.promises p ≡ true → is_pending ps p ≡ true)) → OwesPromises h → OwesPromises (record h { promises = ps; errors = es })
owes_with h es ps f w = record { sizes = w.sizes; roots = w.roots; pending = λ s p o. f p s o (w.pending s p o); once = w.once }

pending_push : (xs ys : List Row) (q : ℕ) → is_pending_by (slice_get xs q) ≡ true → is_pending_by (slice_get (xs ++ ys) q) ≡ true
pending_push [] ys q h = cc
pending_push (x ∷ xs) ys zero h = h
pending_push (x ∷ xs) ys (suc q) h = pending_push xs ys q h

pending_below : (xs : List Row) (q : ℕ) → is_pending_by (slice_get xs q) ≡ true → q < length xs
pending_below [] q h = cc
pending_below (x ∷ xs) zero h = omega arith
pending_below (x ∷ xs) (suc q) h = let r = pending_below xs q h in omega (arith, r)

-- where a pending promise gets a reaction, each pending one is pending
pending_set : (xs : List Row) (q p : ℕ) (rs : List (Reaction Url)) → is_pending_by (slice_get xs p) ≡ true → is_pending_by (slice_get (slice_set xs q (Pending rs)) p) ≡ true
pending_set [] q p rs h = h
pending_set (x ∷ xs) zero zero rs h = refl
pending_set (x ∷ xs) zero (suc p) rs h = h
pending_set (x ∷ xs) (suc q) zero rs h = h
pending_set (x ∷ xs) (suc q) (suc p) rs h = pending_set xs q p rs h

pending_registered : (o : Option Row) (ps : Ps) (q p : ℕ) (r : Reaction Url) → is_pending ps p ≡ true → is_pending (register_by o ps q r) p ≡ true
pending_registered None ps q p r h = h
pending_registered (Some (Pending rs)) ps q p r h = pending_set ps.all q p (rs ++ r ∷ []) h
pending_registered (Some (Done how)) ps q p r h = h

-- ---- the steps

-- promises and errors change, and what loads owe is pending still
changed : (h : Host) (es : Errors) (ps : Ps) → IsHostTold h → ((p : ℕ) → ((s : ℕ) → owed h.imports s ≡ Some p → is_pending h.promises p ≡ true → is_pending ps p ≡ true)) → KeptOf h.imports h.promises h.imports ps → KeptHost h (record h { promises = ps; errors = es })
changed h es ps t f k = record { told = record { orderly = t.orderly; owes = owes_with h es ps f t.owes; told = k.told }; free = k.free; continues = k.continues }

pub host_errors : (h : Host) (es : Errors) → IsHostTold h → KeptHost h (with_errors h es)
host_errors h es t = changed h es h.promises t (λ p s o e. e) (record { told = t.told; free = λ p f. f; continues = continues_same h.imports })

pub host_make : (h : Host) (rs : List (Reaction Url)) → KeptOf h.imports h.promises h.imports (make h.promises rs) → IsHostTold h → KeptHost h (record h { promises = make h.promises rs })
host_make h rs k t = changed h h.errors (make h.promises rs) t (λ p s o e. pending_push h.promises.all (Pending rs ∷ []) p e) k

pub host_makes : (h : Host) → IsHostTold h → KeptHost h (makes h)
host_makes h t = host_make h [] (make_kept h.imports h.promises t.told) t

-- a promise is settled that no load owes, and that is no load's own but one that has ended so
pub host_settle : (h : Host) (q : ℕ) (how : Settled (Value Url)) → IsHostTold h → ((s : ℕ) → owed h.imports s ≡ Some q → ⊥) → ((s : ℕ) → load_promise h.imports s Own ≡ Some q → HasSettled (slice_get h.imports.loads s) how) → KeptHost h (settles h q how)
host_settle h q how t n f = changed h h.errors (settle h.promises q how) t (λ p s o e. by p s o e (equal_cases p q)) (settle_kept h.imports h.promises q how t.told f)
  where
    by : (p s : ℕ) → owed h.imports s ≡ Some p → is_pending h.promises p ≡ true → (p ≡ q) ⊎ (p ≡ q → ⊥) → is_pending (settle h.promises q how) p ≡ true
    by p s o e (inl d) = absurd (n s (subst (λ x. owed h.imports s ≡ Some x) d o))
    by p s o e (inr d) = ap is_pending_by (set_other h.promises.all q p (Done how) d) ∙ e

pub host_settle_free : (h : Host) (q : ℕ) (how : Settled (Value Url)) → IsHostTold h → IsFree h.imports h.promises q → KeptHost h (settles h q how)
host_settle_free h q how t f = host_settle h q how t (not_owed h.imports h.promises q f) (λ s e. absurd (f.apart s Own e))

register_length : (o : Option Row) (ps : Ps) (q : ℕ) (r : Reaction Url) → length (register_by o ps q r).all ≡ length ps.all
register_length None ps q r = refl
register_length (Some (Pending rs)) ps q r = length_set ps.all q (Pending (rs ++ r ∷ []))
register_length (Some (Done how)) ps q r = refl

pub host_register : (h : Host) (q : ℕ) (r : Reaction Url) → IsHostTold h → MayStandOn h.imports q r → KeptHost h (record h { promises = register h.promises q r })
host_register h q r t m = changed h h.errors (register h.promises q r) t (λ p s o e. pending_registered (slice_get h.promises.all q) h.promises q p r e) (record {
  told = register_told h.imports h.promises q r t.told m;
  free = λ p f. record { made = subst (λ n. p < n) (sym (register_length (slice_get h.promises.all q) h.promises q r)) f.made; apart = f.apart };
  continues = continues_same h.imports;
})

await_length : (ps : Ps) (v : Value Url) (m : Url) (p : ℕ) → p < length ps.all → p < length (await_on ps v m).all
await_length ps v m p h = by v
  where
    new : (v : Value Url) → p < length (register (make_fulfilled ps v) (next_promise ps) (Await m)).all
    new v =
        let more : length (ps.all ++ Done (Fulfilled v) ∷ []) ≡ suc (length ps.all) = length_push ps.all (Done (Fulfilled v)) in
        let same = register_length (slice_get (make_fulfilled ps v).all (next_promise ps)) (make_fulfilled ps v) (next_promise ps) (Await m) in
        subst (λ n. p < n) (sym (same ∙ more)) (omega (arith, h))

    by : (v : Value Url) → p < length (await_on ps v m).all
    by Undefined = new Undefined
    by (Truth b) = new (Truth b)
    by (Text text) = new (Text text)
    by (Func g i) = new (Func g i)
    by (Error id) = new (Error id)
    by (Namespace g) = new (Namespace g)
    by (value.Promise id) = subst (λ n. p < n) (sym (register_length (slice_get ps.all id) ps id (Await m))) h

await_pending : (ps : Ps) (v : Value Url) (m : Url) (p : ℕ) → is_pending ps p ≡ true → is_pending (await_on ps v m) p ≡ true
await_pending ps v m p h = by v
  where
    new : (v : Value Url) → is_pending (register (make_fulfilled ps v) (next_promise ps) (Await m)) p ≡ true
    new v = pending_registered (slice_get (make_fulfilled ps v).all (next_promise ps)) (make_fulfilled ps v) (next_promise ps) p (Await m) (pending_push ps.all (Done (Fulfilled v) ∷ []) p h)

    by : (v : Value Url) → is_pending (await_on ps v m) p ≡ true
    by Undefined = new Undefined
    by (Truth b) = new (Truth b)
    by (Text text) = new (Text text)
    by (Func g i) = new (Func g i)
    by (Error id) = new (Error id)
    by (Namespace g) = new (Namespace g)
    by (value.Promise id) = pending_registered (slice_get ps.all id) ps id p (Await m) h

-- a body stands at an await
pub host_await : (h : Host) (v : Value Url) (m : Url) → IsHostTold h → KeptHost h (record h { promises = await_on h.promises v m })
host_await h v m t = changed h h.errors (await_on h.promises v m) t (λ p s o e. await_pending h.promises v m p e) (record {
  told = await_told h.imports h.promises v m t.told;
  free = λ p f. record { made = await_length h.promises v m p f.made; apart = f.apart };
  continues = continues_same h.imports;
})

-- a job is taken
rows_by : (ps left : Ps) (j : Job (Reaction Url)) (js : List (Job (Reaction Url))) → first_job js ps ≡ Some (j, left) → left.all ≡ ps.all
rows_by ps left j [] e = cc
rows_by ps left j (next ∷ js) e =
    let now : Ps = record ps { jobs = js } in
    let one : (next, now) ≡ (j, left) = cc in
    subst (λ (x : Job (Reaction Url) × Ps). x.1.all ≡ ps.all) one refl

pub same_rows : (ps left : Ps) (j : Job (Reaction Url)) → next_job ps ≡ Some (j, left) → left.all ≡ ps.all
same_rows ps left j e = rows_by ps left j ps.jobs e

-- ---- what bodies do

refuses : (h : Host) (es : Errors) (v : Value Url) → IsHostTold h → KeptHost h (settles (with_errors (makes h) es) (next_promise h.promises) (Rejected v))
refuses h es v t =
    let a = host_makes h t in
    let b = host_on a (host_errors (makes h) es a.told) in
    host_on b (host_settle_free (with_errors (makes h) es) (next_promise h.promises) (Rejected v) b.told (next_free h.imports h.promises [] t.told))

begins : (h k : Host) (m : Url) (text : urls.Text) (r : Result (Unit {0}) Limit) → BeginsImport (makes h) m text (next_promise h.promises) r k → IsHostTold h → KeptHost h k
begins h k m text r q t = record {
  told = record {
    orderly = stays_orderly.imports (makes h) k m text (next_promise h.promises) a.told.orderly q.imports;
    owes = keeps_promises.imports (makes h) k m text (next_promise h.promises) a.told.orderly pending (not_owed h.imports (makes h).promises (next_promise h.promises) free) a.told.owes q.imports;
    told = b.told;
  };
  free = λ p f. b.free p (a.free p f) (below_not p (next_promise h.promises) f.made);
  continues = continues_on a.continues b.continues;
}
  where
    a : KeptHost h (makes h)
    a = host_makes h t

    free : IsFree h.imports (makes h).promises (next_promise h.promises)
    free = next_free h.imports h.promises [] t.told

    pending : is_pending (makes h).promises (next_promise h.promises) ≡ true
    pending = ap is_pending_by (push_own h.promises.all (Pending []))

    b : KeptBut (next_promise h.promises) h.imports (makes h).promises k.imports k.promises
    b = imports_kept a.told.orderly a.told.owes.sizes a.told.told free q.imports

-- what is told stays told, whatever a body does before its end
abbrev pub KeepsTold : Host → Host → Type 0
KeepsTold h k = IsHostTold h → KeptHost h k

pub lasts_told : LastsOuter BeginsImport KeepsTold
lasts_told = record {
  same = host_same;
  on = λ a b t. let k = a t in host_on k (b k.told);
  errors = host_errors;
  refuses = refuses;
  imports = begins;
}

-- ---- the next answer

pub host_next : (h k : Host) → IsHostTold h → h.imports.stopped ≡ None → AnswersNext h k → KeptHost h k
host_next h k t stop q =
    let a = next_kept h k t.orderly stop t.owes t.told q in
    record {
      told = record { orderly = stays_orderly.next h k t.orderly q; owes = keeps_promises.next h k t.orderly stop t.owes q; told = a.told };
      free = a.free;
      continues = a.continues;
    }
