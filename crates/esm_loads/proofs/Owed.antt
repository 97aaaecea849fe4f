-- Each load that hasn't ended has a pending promise of its own.
use Rattle.std.proofs.Common.{◌≡◌, ℕ, zero, suc, ◌+◌, Bool, true, false, cond, List, [], ◌∷◌, ◌++◌, length, Option, Some, None, refl, ap, subst, sym, ◌∙◌, arith, inl, inr}
use Rattle.std.specs.Prelude.{◌⊎◌, ◌==◌, nat_lt, slice_get, slice_set}
use Rattle.esm_base.specs.declared.limits.Limit.{Limit}
use Rattle.esm_base.specs.Urls.{Text, Url, has, same_url}
use Rattle.esm_tree.specs.Syntax.{Item}
use Rattle.esm_ast.specs.Outcome.{OutcomeView}
use Rattle.esm_import_map.specs.ImportMap.{Maps}
use Rattle.esm_realm.specs.Laws.{AreDistinct}
use Rattle.esm_realm.proofs.Urls.{cases, same_text, or_cases, or_false}
use Rattle.esm_values.specs.Value.{Value}
use Rattle.esm_promise.specs.Promises.{Promises, Promise, Pending, make, next_promise, is_pending, is_pending_by}
use Rattle.esm_promise.specs.Reactions.{Reaction, Loaded}
use Rattle.esm_loads.specs.UrlTable.{TableEntry, Throw, New, Kept, Found, Nothing, Faulty, Script, found, thrown_by, put_at, no_urls}
use Rattle.esm_loads.specs.Loading.{Loading, LoadState, Asked, Open, LoadComplete, Thrown, PendingRequest, Root, Request, Purpose, ForEntry, ForImport, OpenLoad, load_of, open_load, ask, ask_by, throw, finish, finish_by, has_pending}
use Rattle.esm_loads.specs.Load.{Enters, Asks, Answers}
use Rattle.esm_loads.specs.Load.Enters.{ended, known, enters}
use Rattle.esm_loads.specs.Load.Asks.{no_more, over, waits, throws, loads}
use Rattle.esm_loads.specs.Load.Answers.{no_root, no_module, root, request}
use Rattle.esm_loads.specs.Host.{Host, Answered, opening_host, begin_load, begin_by, own_load, settle_load, settle_by, with_loading, promise_of}
use Rattle.esm_loads.specs.Host.Answered.{answered, late}
use Rattle.esm_loads.specs.Arrival.{bytes_of, count_by, store_by, put_found, Next, next, AnswersNext, without_next}
use Rattle.esm_loads.specs.ImportCall.{Imports, add_load, counted, next_load}
use Rattle.esm_loads.specs.Owed.{is_asked, is_root_of, roots_in, roots_among, roots_of, owes, owed_by, owed, OwesPromises}
use Rattle.esm_loads.specs.Laws.{IsOrderly, KeepsPromises}
use Rattle.esm_loads.proofs.Limits.{live, get_set}
use Rattle.esm_loads.proofs.Orderly.{put_own, put_other, next_asked, OrderlyTable, on_ask, without_orderly}
use Rattle.esm_loads.proofs.Pending.{first_pending}
use Rattle.esm_loads.proofs.Tables.{enters_keeps, begin_keeps, settled_imports}
use Rattle.esm_loads.proofs.Requests.{set_own, set_other, length_set, equal_cases, same_number}
use Rattle.esm_loads.proofs.Framed.{HasBegun, Framed, framed_open, framed_throw, begun_open, begun_throw, enters_framed, asks_framed, framed_on}

-- ---- promises

abbrev Row : Type 0
Row = Promise (Reaction Url) (Value Url)

push_pending : (xs ys : List Row) (q : ℕ) → is_pending_by (slice_get xs q) ≡ true → is_pending_by (slice_get (xs ++ ys) q) ≡ true
push_pending [] ys q h = cc
push_pending (x ∷ xs) ys zero h = h
push_pending (x ∷ xs) ys (suc q) h = push_pending xs ys q h

push_new : (xs : List Row) (rs : List (Reaction Url)) → is_pending_by (slice_get (xs ++ Pending rs ∷ []) (length xs)) ≡ true
push_new [] rs = refl
push_new (x ∷ xs) rs = push_new xs rs

-- a pending promise was made
made_before : (xs : List Row) → is_pending_by (slice_get xs (length xs)) ≡ true → ⊥
made_before [] h = cc
made_before (x ∷ xs) h = made_before xs h

-- the settling of another promise leaves a promise pending
settle_other : (xs : List Row) (p q : ℕ) (x : Row) → (q ≡ p → ⊥) → is_pending_by (slice_get xs q) ≡ true → is_pending_by (slice_get (slice_set xs p x) q) ≡ true
settle_other xs p q x n h = ap is_pending_by (set_other xs p q x n) ∙ h

-- ---- roots

abbrev one_if : Bool → ℕ
one_if b = cond b 1 0

abbrev one_root : ℕ → PendingRequest → ℕ
one_root s a = cond (is_root_of s a) 1 0

roots_push : (s : ℕ) (rs : List PendingRequest) (a : PendingRequest) → roots_in s (rs ++ a ∷ []) ≡ roots_in s rs + cond (is_root_of s a) 1 0
roots_push s [] a = omega arith
roots_push s (r ∷ rs) a = let rest = roots_push s rs a in omega (arith, rest)

-- a URL that isn't among these changes nothing
roots_away : (P : Url → List PendingRequest) (us : List Url) (t : Url) (rs : List PendingRequest) (s : ℕ) → has us t ≡ false → roots_among (put_at P t rs) us s ≡ roots_among P us s
roots_away P [] t rs s n = refl
roots_away P (u ∷ us) t rs s n =
    let d = or_false (same_url t u) (has us t) n in
    let one : roots_in s (put_at P t rs u) ≡ roots_in s (P u) = ap (roots_in s) (put_other P t u rs d.0) in
    let rest = roots_away P us t rs s d.1 in
    omega (arith, one, rest)

-- what changes at one URL
roots_at : (P : Url → List PendingRequest) (us : List Url) (t : Url) (rs : List PendingRequest) (s : ℕ) → AreDistinct us → has us t ≡ true → roots_among (put_at P t rs) us s + roots_in s (P t) ≡ roots_among P us s + roots_in s rs
roots_at P [] t rs s d h = cc
roots_at P (u ∷ us) t rs s d h = by (cases (same_url t u)) (roots_at P us t rs s d.1)
  where
    head : t ≡ u → roots_among (put_at P t rs) (u ∷ us) s + roots_in s (P t) ≡ roots_among P (u ∷ us) s + roots_in s rs
    head e =
        let away : has us t ≡ false = subst (λ v. has us v ≡ false) (sym e) d.0 in
        let rest = roots_away P us t rs s away in
        let one : roots_in s (put_at P t rs u) ≡ roots_in s rs = ap (roots_in s) (subst (λ v. put_at P t rs v ≡ rs) e (put_own P t rs)) in
        let was : roots_in s (P t) ≡ roots_in s (P u) = ap (λ v. roots_in s (P v)) e in
        omega (arith, rest, one, was)

    tail : same_url t u ≡ false → (has us t ≡ true) → (has us t ≡ true → roots_among (put_at P t rs) us s + roots_in s (P t) ≡ roots_among P us s + roots_in s rs) → roots_among (put_at P t rs) (u ∷ us) s + roots_in s (P t) ≡ roots_among P (u ∷ us) s + roots_in s rs
    tail n k rest =
        let one : roots_in s (put_at P t rs u) ≡ roots_in s (P u) = ap (roots_in s) (put_other P t u rs n) in
        let others = rest k in
        omega (arith, one, others)

    later : same_url t u ≡ false → (same_url t u ≡ true) ⊎ (has us t ≡ true) → has us t ≡ true
    later n (inl e) = cc
    later n (inr k) = k

    by : (same_url t u ≡ true) ⊎ (same_url t u ≡ false) → (has us t ≡ true → roots_among (put_at P t rs) us s + roots_in s (P t) ≡ roots_among P us s + roots_in s rs) → roots_among (put_at P t rs) (u ∷ us) s + roots_in s (P t) ≡ roots_among P (u ∷ us) s + roots_in s rs
    by (inl e) rest = head (same_text t u e)
    by (inr n) rest = tail n (later n (or_cases (same_url t u) (has us t) h)) rest

roots_last : (P : Url → List PendingRequest) (us : List Url) (t : Url) (s : ℕ) → roots_among P (us ++ t ∷ []) s ≡ roots_among P us s + roots_in s (P t)
roots_last P [] t s = omega arith
roots_last P (u ∷ us) t s = let rest = roots_last P us t s in omega (arith, rest)

-- a request that is added counts once, unless a limit stops it
ask_roots : (b c : Bool) (l : Loading) (t : Url) (a : PendingRequest) (s : ℕ) → has l.asked t ≡ b → IsOrderly l → (ask_by b c l t a).stopped ≡ None → roots_of (ask_by b c l t a) s ≡ roots_of l s + cond (is_root_of s a) 1 0
ask_roots true c l t a s h o n =
    let at = roots_at l.pending l.asked t (l.pending t ++ a ∷ []) s o.once h in
    let pushed = roots_push s (l.pending t) a in
    omega (arith, at, pushed)
ask_roots false true l t a s h o n =
    let end = roots_last (put_at l.pending t (l.pending t ++ a ∷ [])) l.asked t s in
    let away = roots_away l.pending l.asked t (l.pending t ++ a ∷ []) s h in
    let own : roots_in s (put_at l.pending t (l.pending t ++ a ∷ []) t) ≡ roots_in s (l.pending t ++ a ∷ []) = ap (roots_in s) (put_own l.pending t (l.pending t ++ a ∷ [])) in
    let pushed = roots_push s (l.pending t) a in
    let none : roots_in s (l.pending t) ≡ 0 = ap (roots_in s) (o.waits t h) in
    omega (arith, end, away, own, pushed, none)
ask_roots false false l t a s h o n = cc

abbrev SameRoots : Loading → Loading → Type 0
SameRoots l m = m.stopped ≡ None → (s : ℕ) → roots_of m s ≡ roots_of l s

stop_on : (b c : Bool) (l : Loading) (t : Url) (a : PendingRequest) → (ask_by b c l t a).stopped ≡ None → l.stopped ≡ None
stop_on true c l t a n = n
stop_on false true l t a n = n
stop_on false false l t a n = cc

mutual
  enters_roots : {l m : Loading} {s : ℕ} {x : Url} → Enters l s x m → IsOrderly l → SameRoots l m
  enters_roots (ended n) o = λ stop k. refl
  enters_roots (known p e f) o = λ stop k. refl
  enters_roots (enters p e f q) o = asks_roots q o

  asks_roots : {l m : Loading} {s i : ℕ} {x : Url} {ts : List Url} → Asks l s x i ts m → IsOrderly l → SameRoots l m
  asks_roots no_more o = λ stop k. refl
  asks_roots (over n) o = λ stop k. refl
  asks_roots {l} {m} {s = s} (waits {i = i} {x = x} {t = t} p e g q) o = λ stop k.
      let one = ask_roots (has l.asked t) (nat_lt (length l.asked) 4096) l t (Request s x i) k refl o ((asks_framed q).stopped stop) in
      let same : roots_of (ask l t (Request s x i)) k ≡ roots_of l k = omega (arith, one) in
      asks_roots q (on_ask l t (Request s x i) g o) stop k ∙ same
  asks_roots (throws p e thrown h g k) o = λ stop k. refl
  asks_roots (loads p e h g k v q) o = λ stop j. asks_roots q (enters_keeps OrderlyTable on_ask v o) stop j ∙ enters_roots v o ((asks_framed q).stopped stop) j

-- ---- what an answer changes of loads

pub record Ends (s : ℕ) (l m : Loading) : Type 0 where
  pub purposes : m.purposes ≡ l.purposes
  pub size : length m.loads ≡ length l.loads
  pub others : (k : ℕ) → (k ≡ s → ⊥) → slice_get m.loads k ≡ slice_get l.loads k
  pub stopped : m.stopped ≡ None → l.stopped ≡ None
  pub roots : SameRoots l m
  pub begun : slice_get m.loads s ≡ Some Asked → ⊥

ends_finish : (l mid : Loading) (s : ℕ) → Framed s l mid → SameRoots l mid → HasBegun mid s → Ends s l (finish mid s)
ends_finish l mid s f r b = by (open_load mid s) (has_pending mid s)
  where
    by : (o : Option OpenLoad) (w : Bool) → Ends s l (finish_by w o mid s)
    by None w = record { purposes = f.purposes; size = f.size; others = f.others; stopped = f.stopped; roots = r; begun = b.0 }
    by (Some p) true = record { purposes = f.purposes; size = f.size; others = f.others; stopped = f.stopped; roots = r; begun = b.0 }
    by (Some p) false = record {
      purposes = f.purposes;
      size = length_set mid.loads s (LoadComplete p.0) ∙ f.size;
      others = λ k n. set_other mid.loads s k (LoadComplete p.0) n ∙ f.others k n;
      stopped = f.stopped;
      roots = r;
      begun = λ e. let is = set_own mid.loads s (LoadComplete p.0) Asked e in cc;
    }

ends_throw : (l : Loading) (s : ℕ) (thrown : Throw) → Ends s l (throw l s thrown)
ends_throw l s thrown = let f = framed_throw l s thrown in record { purposes = refl; size = f.size; others = f.others; stopped = λ h. h; roots = λ stop k. refl; begun = (begun_throw l s thrown).0 }

begun_if_open : (l : Loading) (s : ℕ) (o : OpenLoad) → open_load l s ≡ Some o → HasBegun l s
begun_if_open l s o e = let h = live l.stopped (slice_get l.loads s) e in (λ d. let k = h.1 in cc, λ r d. let k = h.1 in cc)

pub answers_ends : {l m : Loading} {a : PendingRequest} {u : Url} {e : TableEntry} → Answers l a u e m → IsOrderly l → Ends (load_of a) l m
answers_ends {l} (no_root {s = s} thrown t) o = ends_throw l s thrown
answers_ends {l} (no_module {s = s} p thrown h t) o = ends_throw l s thrown
answers_ends {l} {u = u} (root {mid = mid} {s = s} t q) o =
    let f = framed_open l s u no_urls in
    let e = enters_framed q in
    ends_finish l mid s (framed_on f e) (enters_roots q o) (e.begun (begun_open l s u no_urls))
answers_ends {l} (request {mid = mid} {s = s} p h t q) o = let e = enters_framed q in ends_finish l mid s e (enters_roots q o) (e.begun (begun_if_open l s p h))

-- ---- where a request of the load s is no more pending

abbrev asked_once : Loading → ℕ → ℕ
asked_once l k = cond (is_asked (slice_get l.loads k)) 1 0

pub record Stage (s : ℕ) (h : Host) : Type 0 where
  pub sizes : length h.imports.purposes ≡ length h.imports.loads
  pub roots : h.imports.stopped ≡ None → (k : ℕ) → (k ≡ s → ⊥) → roots_of h.imports k ≡ asked_once h.imports k
  pub rootless : h.imports.stopped ≡ None → roots_of h.imports s ≡ 0
  pub pending : (k p : ℕ) → owed h.imports k ≡ Some p → is_pending h.promises p ≡ true
  pub once : (k j p : ℕ) → owed h.imports k ≡ Some p → owed h.imports j ≡ Some p → k ≡ j
  pub going : owes (slice_get h.imports.loads s) ≡ true

owed_going : (l : Loading) (s : ℕ) (p : Purpose) → owes (slice_get l.loads s) ≡ true → slice_get l.purposes s ≡ Some p → owed l s ≡ Some (promise_of p)
owed_going l s p g e = rw (g, e) refl

some_is : {A : Type 0} {x y : A} → Some x ≡ Some y → x ≡ y
some_is e = cc

-- the load of an import() gets its promise
own_stage : (h : Host) (s q : ℕ) → slice_get h.imports.purposes s ≡ Some (ForImport q None) → Stage s h → Stage s (own_load h s q)
own_stage h s q e t = record {
  sizes = length_set h.imports.purposes s mine ∙ t.sizes;
  roots = t.roots;
  rootless = t.rootless;
  pending = λ k p o. by_pending k p o (equal_cases k s);
  once = λ k j p o r. by_once k j p o r (equal_cases k s) (equal_cases j s);
  going = t.going;
}
  where
    mine : Purpose
    mine = ForImport q (Some (next_promise h.promises))

    l : Loading
    l = (own_load h s q).imports

    own : owed l s ≡ Some (next_promise h.promises)
    own = owed_going l s mine t.going (get_set h.imports.purposes s (ForImport q None) mine e)

    other : (k : ℕ) → (k ≡ s → ⊥) → owed l k ≡ owed h.imports k
    other k n = ap (owed_by (owes (slice_get h.imports.loads k))) (set_other h.imports.purposes s k mine n)

    by_pending : (k p : ℕ) → owed l k ≡ Some p → (k ≡ s) ⊎ (k ≡ s → ⊥) → is_pending (make h.promises (Loaded s ∷ [])) p ≡ true
    by_pending k p o (inl d) =
        let is : next_promise h.promises ≡ p = some_is (sym own ∙ subst (λ j. owed l j ≡ Some p) d o) in
        subst (λ p. is_pending (make h.promises (Loaded s ∷ [])) p ≡ true) is (push_new h.promises.all (Loaded s ∷ []))
    by_pending k p o (inr n) = push_pending h.promises.all (Pending (Loaded s ∷ []) ∷ []) p (t.pending k p (sym (other k n) ∙ o))

    -- the new promise is no other load's
    new_is : (j p : ℕ) → owed l s ≡ Some p → owed h.imports j ≡ Some p → ⊥
    new_is j p o r =
        let is : next_promise h.promises ≡ p = some_is (sym own ∙ o) in
        made_before h.promises.all (subst (λ p. is_pending h.promises p ≡ true) (sym is) (t.pending j p r))

    by_once : (k j p : ℕ) → owed l k ≡ Some p → owed l j ≡ Some p → (k ≡ s) ⊎ (k ≡ s → ⊥) → (j ≡ s) ⊎ (j ≡ s → ⊥) → k ≡ j
    by_once k j p o r (inl d) (inl c) = d ∙ sym c
    by_once k j p o r (inl d) (inr n) = absurd (new_is j p (subst (λ i. owed l i ≡ Some p) d o) (sym (other j n) ∙ r))
    by_once k j p o r (inr n) (inl c) = absurd (new_is k p (subst (λ i. owed l i ≡ Some p) c r) (sym (other k n) ∙ o))
    by_once k j p o r (inr n) (inr m) = t.once k j p (sym (other k n) ∙ o) (sym (other j m) ∙ r)

pub begin_stage : (h : Host) (s : ℕ) (t : Option Throw) (p : Option Purpose) → slice_get h.imports.purposes s ≡ p → Stage s h → Stage s (begin_by h s t p)
begin_stage h s (Some t) p e g = g
begin_stage h s None None e g = g
begin_stage h s None (Some (ForEntry q)) e g = g
begin_stage h s None (Some (ForImport q None)) e g = own_stage h s q e g
begin_stage h s None (Some (ForImport q (Some r))) e g = g

-- ---- the end of an answer

-- as `OwesPromises`, of a loading and promises
record Owing (l : Loading) (ps : Promises (Reaction Url) (Value Url)) : Type 0 where
  sizes : length l.purposes ≡ length l.loads
  roots : l.stopped ≡ None → (s : ℕ) → roots_of l s ≡ asked_once l s
  pending : (s p : ℕ) → owed l s ≡ Some p → is_pending ps p ≡ true
  once : (s k p : ℕ) → owed l s ≡ Some p → owed l k ≡ Some p → s ≡ k

owes_of : (h : Host) → Owing h.imports h.promises → OwesPromises h
owes_of h o = record { sizes = o.sizes; roots = o.roots; pending = o.pending; once = o.once }

-- the settling of a load's promise leaves the others pending
settle_keeps : (h : Host) (o : Option Purpose) (st : Option LoadState) (q : ℕ) → (owes st ≡ false → (p : Purpose) → o ≡ Some p → q ≡ promise_of p → ⊥) → is_pending h.promises q ≡ true → is_pending (settle_by h o st).promises q ≡ true
settle_keeps h None st q n k = k
settle_keeps h (Some p) None q n k = k
settle_keeps h (Some p) (Some Asked) q n k = k
settle_keeps h (Some p) (Some (Open r v)) q n k = k
settle_keeps h (Some p) (Some (LoadComplete r)) q n k = settle_other h.promises.all (promise_of p) q _ (n refl p refl) k
settle_keeps h (Some p) (Some (Thrown (New f))) q n k = settle_other h.promises.all (promise_of p) q _ (n refl p refl) k
settle_keeps h (Some p) (Some (Thrown (Kept error))) q n k = settle_other h.promises.all (promise_of p) q _ (n refl p refl) k

owed_some : (b : Bool) (o : Option Purpose) (p : ℕ) → owed_by b o ≡ Some p → owed_by true o ≡ Some p
owed_some true o p e = e
owed_some false None p e = cc
owed_some false (Some q) p e = cc

abbrev count_asked : Option LoadState → ℕ
count_asked o = cond (is_asked o) 1 0

not_asked : (o : Option LoadState) → (o ≡ Some Asked → ⊥) → count_asked o ≡ 0
not_asked None n = refl
not_asked (Some Asked) n = absurd (n refl)
not_asked (Some (Open r v)) n = refl
not_asked (Some (LoadComplete r)) n = refl
not_asked (Some (Thrown t)) n = refl

none_owed : (b : Bool) (o : Option Purpose) (p : ℕ) → b ≡ false → owed_by b o ≡ Some p → ⊥
none_owed true o p e h = cc
none_owed false None p e h = cc
none_owed false (Some q) p e h = cc

ends_owing : (b : Host) (m : Loading) (s : ℕ) → Stage s b → Ends s b.imports m → OwesPromises (settle_load (with_loading b m) s)
ends_owing b m s t e = owes_of after (subst (λ l. Owing l after.promises) (sym (settled_imports (with_loading b m) s)) owing)
  where
    after : Host
    after = settle_load (with_loading b m) s

    other : (k : ℕ) → (k ≡ s → ⊥) → owed m k ≡ owed b.imports k
    other k n = λ i. owed_by (owes (e.others k n i)) (slice_get (e.purposes i) k)

    less : (k p : ℕ) → owed m k ≡ Some p → owed b.imports k ≡ Some p
    less k p o = by (equal_cases k s)
      where
        own : owed m s ≡ Some p → owed b.imports s ≡ Some p
        own o =
            let going : owed_by true (slice_get m.purposes s) ≡ Some p = owed_some (owes (slice_get m.loads s)) (slice_get m.purposes s) p o in
            let back = sym e.purposes in
            (λ i. owed_by (t.going i) (slice_get (back i) s)) ∙ going

        by : (k ≡ s) ⊎ (k ≡ s → ⊥) → owed b.imports k ≡ Some p
        by (inl d) = subst (λ j. owed m j ≡ Some p → owed b.imports j ≡ Some p) (sym d) own o
        by (inr n) = sym (other k n) ∙ o

    -- the promise that is settled is no load's that goes on
    apart : (k q : ℕ) → owed m k ≡ Some q → owes (slice_get m.loads s) ≡ false → (p : Purpose) → slice_get m.purposes s ≡ Some p → q ≡ promise_of p → ⊥
    apart k q o gone p mine same =
        let own : owed b.imports s ≡ Some (promise_of p) = owed_going b.imports s p t.going (ap (λ ps. slice_get ps s) (sym e.purposes) ∙ mine) in
        let is : k ≡ s = t.once k s q (less k q o) (own ∙ ap (λ r. Some r) (sym same)) in
        none_owed (owes (slice_get m.loads s)) (slice_get m.purposes s) q gone (subst (λ j. owed m j ≡ Some q) is o)

    owing : Owing m after.promises
    owing = record {
      sizes = ap (λ (ps : List Purpose). length ps) e.purposes ∙ t.sizes ∙ sym e.size;
      roots = λ stop k. by_roots stop k (equal_cases k s);
      pending = λ k p o. settle_keeps (with_loading b m) (slice_get m.purposes s) (slice_get m.loads s) p (apart k p o) (t.pending k p (less k p o));
      once = λ k j p o r. t.once k j p (less k p o) (less j p r);
    }
      where
        by_roots : m.stopped ≡ None → (k : ℕ) → (k ≡ s) ⊎ (k ≡ s → ⊥) → roots_of m k ≡ asked_once m k
        by_roots stop k (inl d) = subst (λ j. roots_of m j ≡ asked_once m j) (sym d) (e.roots stop s ∙ t.rootless (e.stopped stop) ∙ sym (not_asked (slice_get m.loads s) e.begun))
        by_roots stop k (inr n) = e.roots stop k ∙ t.roots (e.stopped stop) k n ∙ ap count_asked (sym (e.others k n))

-- ---- an answer of a host

pub begun_same : (h : Host) (s : ℕ) (t : Option Throw) (p : Option Purpose) → IsOrderly h.imports → IsOrderly (begin_by h s t p).imports
begun_same h s t p o = begin_keeps OrderlyTable h s t p o

root_owes : {h k : Host} {s : ℕ} {u : Url} {e : TableEntry} → IsOrderly h.imports → Stage s h → Answered h (Root s) u e k → OwesPromises k
root_owes {h} {s = s} {u = u} {e = e} o t (answered {l = l} q) =
    let p = slice_get h.imports.purposes s in
    ends_owing (begin_load h (Root s) u e) l s (begin_stage h s (thrown_by u e) p refl t) (answers_ends q (begun_same h s (thrown_by u e) p o))

request_owes : {h k : Host} {s i : ℕ} {x u : Url} {e : TableEntry} → IsOrderly h.imports → OwesPromises h → ((o : OpenLoad) → open_load h.imports s ≡ Some o → Stage s h) → Answered h (Request s x i) u e k → OwesPromises k
request_owes o w t (late n) = w
request_owes {h} {s = s} o w t (answered {l = l} q) = ends_owing h l s (by q) (answers_ends q o)
  where
    by : {i : ℕ} {x u : Url} {e : TableEntry} {m : Loading} → Answers h.imports (Request s x i) u e m → Stage s h
    by (no_module p thrown n f) = t p n
    by (request p n f q) = t p n

-- ---- the next answer

-- one request less
without_roots : (h : Host) (n : Next) (k : ℕ) → IsOrderly h.imports → next h.imports ≡ Some n → roots_of (without_next h n).imports k + cond (is_root_of k n.pending_request) 1 0 ≡ roots_of h.imports k
without_roots h n k o e =
    let f = first_pending.is h.imports n e in
    let at = roots_at h.imports.pending h.imports.asked n.url n.others k o.once (next_asked h.imports n e) in
    let was : roots_in k (h.imports.pending n.url) ≡ cond (is_root_of k n.pending_request) 1 0 + roots_in k n.others = ap (roots_in k) f.first in
    omega (arith, at, was)

number_apart : (s k : ℕ) → (k ≡ s → ⊥) → (s == k) ≡ false
number_apart s k n = by (cases (s == k))
  where
    by : ((s == k) ≡ true) ⊎ ((s == k) ≡ false) → (s == k) ≡ false
    by (inl e) = absurd (n (sym (same_number s k e)))
    by (inr e) = e

number_own : (s : ℕ) → (s == s) ≡ true
number_own s = grind arith

-- a load whose root is awaited was asked for
asked_state : (o : Option LoadState) (r : ℕ) → r + 1 ≡ count_asked o → (owes o ≡ true) × (r ≡ 0)
asked_state None r e = absurd (omega (arith, e))
asked_state (Some Asked) r e = (refl, omega (arith, e))
asked_state (Some (Open x v)) r e = absurd (omega (arith, e))
asked_state (Some (LoadComplete x)) r e = absurd (omega (arith, e))
asked_state (Some (Thrown t)) r e = absurd (omega (arith, e))

pub root_stage : (h : Host) (n : Next) (s : ℕ) → h.imports.stopped ≡ None → IsOrderly h.imports → n.pending_request ≡ Root s → next h.imports ≡ Some n → OwesPromises h → Stage s (without_next h n)
root_stage h n s stop o is e w = record {
  sizes = w.sizes;
  roots = λ stop k d.
      let one = without_roots h n k o e in
      let none : cond (is_root_of k n.pending_request) 1 0 ≡ 0 = ap (one_root k) is ∙ ap one_if (number_apart s k d) in
      let was = w.roots stop k in
      omega (arith, one, none, was);
  rootless = λ stop. state.1;
  pending = w.pending;
  once = w.once;
  going = state.0;
}
  where
    state : (owes (slice_get h.imports.loads s) ≡ true) × (roots_of (without_next h n).imports s ≡ 0)
    state =
        let one = without_roots h n s o e in
        let own : cond (is_root_of s n.pending_request) 1 0 ≡ 1 = ap (one_root s) is ∙ ap one_if (number_own s) in
        let was : roots_of h.imports s ≡ count_asked (slice_get h.imports.loads s) = w.roots stop s in
        asked_state (slice_get h.imports.loads s) (roots_of (without_next h n).imports s) (omega (arith, one, own, was))

-- a request of a module isn't one for a root
pub without_owes : (h : Host) (n : Next) (s i : ℕ) (x : Url) → IsOrderly h.imports → n.pending_request ≡ Request s x i → next h.imports ≡ Some n → OwesPromises h → OwesPromises (without_next h n)
without_owes h n s i x o is e w = record {
  sizes = w.sizes;
  roots = λ stop k.
      let one = without_roots h n k o e in
      let none : cond (is_root_of k n.pending_request) 1 0 ≡ 0 = ap (one_root k) is in
      let was = w.roots stop k in
      omega (arith, one, none, was);
  pending = w.pending;
  once = w.once;
}

pub open_stage : (h : Host) (s : ℕ) (p : OpenLoad) → open_load h.imports s ≡ Some p → OwesPromises h → Stage s h
open_stage h s p e w =
    let k = live h.imports.stopped (slice_get h.imports.loads s) e in
    record {
      sizes = w.sizes;
      roots = λ stop j d. w.roots stop j;
      rootless = λ stop. w.roots stop s ∙ ap count_asked k.1;
      pending = w.pending;
      once = w.once;
      going = ap owes k.1;
    }

next_owes : (before after : Host) → IsOrderly before.imports → before.imports.stopped ≡ None → OwesPromises before → AnswersNext before after → OwesPromises after
next_owes before after o stop w q = by q.who.pending_request refl
  where
    k : Host
    k = without_next before q.who

    orderly : IsOrderly k.imports
    orderly = without_orderly before q.who q.is_next o

    same : (r : PendingRequest) → q.who.pending_request ≡ r → Answered k r q.who.url q.who.entry after
    same r e = subst (λ r. Answered k r q.who.url q.who.entry after) e q.answered

    by : (r : PendingRequest) → q.who.pending_request ≡ r → OwesPromises after
    by (Root s) e = root_owes {h = k} orderly (root_stage before q.who s stop o e q.is_next w) (same (Root s) e)
    by (Request s x i) e =
        let w' = without_owes before q.who s i x o e q.is_next w in
        request_owes {h = k} orderly w' (λ p g. open_stage k s p g w') (same (Request s x i) e)

-- ---- an import()

get_end : {A : Type 0} (xs : List A) → slice_get xs (length xs) ≡ None
get_end [] = refl
get_end (x ∷ xs) = get_end xs

pub push_other : {A : Type 0} (xs : List A) (y : A) (k : ℕ) → (k ≡ length xs → ⊥) → slice_get (xs ++ y ∷ []) k ≡ slice_get xs k
push_other [] y zero n = absurd (n refl)
push_other [] y (suc k) n = refl
push_other (x ∷ xs) y zero n = refl
push_other (x ∷ xs) y (suc k) n = push_other xs y k (λ e. n (ap suc e))

pub push_own : {A : Type 0} (xs : List A) (y : A) → slice_get (xs ++ y ∷ []) (length xs) ≡ Some y
push_own [] y = refl
push_own (x ∷ xs) y = push_own xs y

length_push : {A : Type 0} (xs : List A) (y : A) → length (xs ++ y ∷ []) ≡ suc (length xs)
length_push [] y = refl
length_push (x ∷ xs) y = ap suc (length_push xs y)

-- the new load is the one that has the promise
pub added_stage : (h : Host) (promise : ℕ) → is_pending h.promises promise ≡ true → ((s : ℕ) → owed h.imports s ≡ Some promise → ⊥) → OwesPromises h → Stage (next_load h) (add_load (counted h) promise)
added_stage h promise pends free w = record {
  sizes = sizes;
  roots = λ stop k n. w.roots stop k ∙ ap count_asked (sym (push_other h.imports.loads Asked k n));
  rootless = λ stop. w.roots stop (next_load h) ∙ ap count_asked (get_end h.imports.loads);
  pending = λ k p o. by_pending k p o (equal_cases k (next_load h));
  once = λ k j p o r. by_once k j p o r (equal_cases k (next_load h)) (equal_cases j (next_load h));
  going = ap owes (push_own h.imports.loads Asked);
}
  where
    l : Loading
    l = (add_load (counted h) promise).imports

    sizes : length (h.imports.purposes ++ ForImport promise None ∷ []) ≡ length (h.imports.loads ++ Asked ∷ [])
    sizes = length_push h.imports.purposes (ForImport promise None) ∙ ap suc w.sizes ∙ sym (length_push h.imports.loads Asked)

    mine : slice_get l.purposes (next_load h) ≡ Some (ForImport promise None)
    mine = ap (λ k. slice_get (h.imports.purposes ++ ForImport promise None ∷ []) k) (sym w.sizes) ∙ push_own h.imports.purposes (ForImport promise None)

    own : owed l (next_load h) ≡ Some promise
    own = owed_going l (next_load h) (ForImport promise None) (ap owes (push_own h.imports.loads Asked)) mine

    other : (k : ℕ) → (k ≡ next_load h → ⊥) → owed l k ≡ owed h.imports k
    other k n =
        let a = push_other h.imports.loads Asked k n in
        let b = push_other h.imports.purposes (ForImport promise None) k (λ e. n (e ∙ w.sizes)) in
        λ i. owed_by (owes (a i)) (b i)

    by_pending : (k p : ℕ) → owed l k ≡ Some p → (k ≡ next_load h) ⊎ (k ≡ next_load h → ⊥) → is_pending h.promises p ≡ true
    by_pending k p o (inl d) =
        let is : promise ≡ p = some_is (sym own ∙ subst (λ j. owed l j ≡ Some p) d o) in
        subst (λ p. is_pending h.promises p ≡ true) is pends
    by_pending k p o (inr n) = w.pending k p (sym (other k n) ∙ o)

    held : (j p : ℕ) → owed l (next_load h) ≡ Some p → owed h.imports j ≡ Some p → ⊥
    held j p o r = let is : p ≡ promise = some_is (sym o ∙ own) in free j (subst (λ p. owed h.imports j ≡ Some p) is r)

    by_once : (k j p : ℕ) → owed l k ≡ Some p → owed l j ≡ Some p → (k ≡ next_load h) ⊎ (k ≡ next_load h → ⊥) → (j ≡ next_load h) ⊎ (j ≡ next_load h → ⊥) → k ≡ j
    by_once k j p o r (inl d) (inl c) = d ∙ sym c
    by_once k j p o r (inl d) (inr n) = absurd (held j p (subst (λ i. owed l i ≡ Some p) d o) (sym (other j n) ∙ r))
    by_once k j p o r (inr n) (inl c) = absurd (held k p (subst (λ i. owed l i ≡ Some p) c r) (sym (other k n) ∙ o))
    by_once k j p o r (inr n) (inr m) = w.once k j p (sym (other k n) ∙ o) (sym (other j m) ∙ r)

-- the new load's root is asked for
asked_owes : (h : Host) (s : ℕ) (u : Url) → IsOrderly h.imports → slice_get h.imports.loads s ≡ Some Asked → Stage s h → OwesPromises (with_loading h (ask h.imports u (Root s)))
asked_owes h s u o is t = by (has h.imports.asked u) (nat_lt (length h.imports.asked) 4096) refl
  where
    l : Loading
    l = h.imports

    roots : (b c : Bool) → has l.asked u ≡ b → (ask_by b c l u (Root s)).stopped ≡ None → (k : ℕ) → (k ≡ s) ⊎ (k ≡ s → ⊥) → roots_of (ask_by b c l u (Root s)) k ≡ count_asked (slice_get l.loads k)
    roots b c d stop k (inl e) =
        let one = ask_roots b c l u (Root s) k d o stop in
        let none : roots_of l k ≡ 0 = ap (roots_of l) e ∙ t.rootless (stop_on b c l u (Root s) stop) in
        let root_is : cond (is_root_of k (Root s)) 1 0 ≡ 1 = ap (λ j. one_if (s == j)) e ∙ ap one_if (number_own s) in
        let asked : count_asked (slice_get l.loads k) ≡ 1 = ap (λ j. count_asked (slice_get l.loads j)) e ∙ ap count_asked is in
        omega (arith, one, none, root_is, asked)
    roots b c d stop k (inr n) =
        let one = ask_roots b c l u (Root s) k d o stop in
        let was : roots_of l k ≡ count_asked (slice_get l.loads k) = t.roots (stop_on b c l u (Root s) stop) k n in
        let none : cond (is_root_of k (Root s)) 1 0 ≡ 0 = ap one_if (number_apart s k n) in
        omega (arith, one, was, none)

    by : (b c : Bool) → has l.asked u ≡ b → OwesPromises (with_loading h (ask_by b c l u (Root s)))
    by true c d = record { sizes = t.sizes; roots = λ stop k. roots true c d stop k (equal_cases k s); pending = t.pending; once = t.once }
    by false true d = record { sizes = t.sizes; roots = λ stop k. roots false true d stop k (equal_cases k s); pending = t.pending; once = t.once }
    by false false d = record { sizes = t.sizes; roots = λ stop k. cc; pending = t.pending; once = t.once }

import_owes : {h k : Host} {referrer : Url} {specifier : Text} {promise : ℕ} → IsOrderly h.imports → is_pending h.promises promise ≡ true → ((s : ℕ) → owed h.imports s ≡ Some promise → ⊥) → OwesPromises h → Imports h referrer specifier promise k → OwesPromises k
import_owes o pends free w (Imports.limit full) = record { sizes = w.sizes; roots = λ stop k. cc; pending = w.pending; once = w.once }
import_owes {h} {promise = promise} o pends free w (Imports.unresolved f room r) = record {
  sizes = w.sizes;
  roots = w.roots;
  pending = λ s p d. settle_other h.promises.all promise p _ (λ e. free s (subst (λ q. owed h.imports s ≡ Some q) e d)) (w.pending s p d);
  once = w.once;
}
import_owes {h} {promise = promise} o pends free w (Imports.asks u room r n) = asked_owes (add_load (counted h) promise) (next_load h) u (record { once = o.once; few = o.few; fetched = o.fetched; waits = o.waits }) (push_own h.imports.loads Asked) (added_stage h promise pends free w)
import_owes {h} {promise = promise} o pends free w (Imports.answers u e room r g q) = root_owes {h = add_load (counted h) promise} (record { once = o.once; few = o.few; fetched = o.fetched; waits = o.waits }) (added_stage h promise pends free w) q

-- ---- the end of a fetch, and the opening

found_owes : (h : Host) (u : Url) (f : Found) → OwesPromises h → OwesPromises (put_found h u f)
found_owes h u Nothing w = record { sizes = w.sizes; roots = w.roots; pending = w.pending; once = w.once }
found_owes h u (Script m) w = record { sizes = w.sizes; roots = w.roots; pending = w.pending; once = w.once }
found_owes h u (Faulty f) w = record { sizes = w.sizes; roots = w.roots; pending = w.pending; once = w.once }

store_owes : (s : Option Limit) (h : Host) (u : Url) (c : OutcomeView) → OwesPromises h → OwesPromises (store_by s h u c)
store_owes None h u c w = found_owes h u (found h.imports.maps h.imports.built u c) w
store_owes (Some limit) h u c w = w

fetched_owes : (b : Bool) (h : Host) (u : Url) (c : OutcomeView) → OwesPromises h → OwesPromises (store_by (count_by b h.imports (bytes_of c)).stopped (with_loading h (count_by b h.imports (bytes_of c))) u c)
fetched_owes true h u c w = record { sizes = w.sizes; roots = λ stop s. cc; pending = w.pending; once = w.once }
fetched_owes false h u c w = store_owes h.imports.stopped (with_loading h (count_by false h.imports (bytes_of c))) u c (record { sizes = w.sizes; roots = w.roots; pending = w.pending; once = w.once })

opening_owes : (maps : Maps) (built : List Item → Bool) (entry : Url) → OwesPromises (opening_host maps built entry)
opening_owes maps built entry = record { sizes = refl; roots = λ stop s. roots s; pending = pending; once = once }
  where
    l : Loading
    l = (opening_host maps built entry).imports

    own : put_at (λ u. []) entry (Root 0 ∷ []) entry ≡ Root 0 ∷ []
    own = put_own (λ u. []) entry (Root 0 ∷ [])

    roots : (s : ℕ) → roots_of l s ≡ asked_once l s
    roots zero = let is : roots_in 0 (put_at (λ u. []) entry (Root 0 ∷ []) entry) ≡ 1 = ap (roots_in 0) own in omega (arith, is)
    roots (suc s) = let is : roots_in (suc s) (put_at (λ u. []) entry (Root 0 ∷ []) entry) ≡ one_if (0 == suc s) + 0 = ap (roots_in (suc s)) own in let none : one_if (0 == suc s) ≡ 0 = ap one_if (number_apart 0 (suc s) (λ e. omega (arith, e))) in omega (arith, is, none)

    pending : (s p : ℕ) → owed l s ≡ Some p → is_pending (opening_host maps built entry).promises p ≡ true
    pending zero p e = let is : 0 ≡ p = some_is e in subst (λ p. is_pending (opening_host maps built entry).promises p ≡ true) is refl
    pending (suc s) p e = cc

    once : (s k p : ℕ) → owed l s ≡ Some p → owed l k ≡ Some p → s ≡ k
    once zero zero p e f = refl
    once zero (suc k) p e f = cc
    once (suc s) k p e f = cc

pub keeps_promises : KeepsPromises
keeps_promises = record {
  opening = opening_owes;
  next = λ before after o stop w q. next_owes before after o stop w q;
  imports = λ before after referrer specifier promise o pends free w q. import_owes o pends free w q;
  fetched = λ before u c w. fetched_owes (nat_lt 16777216 (before.imports.bytes + bytes_of c)) before u c w;
}
