-- A load that has ended or that a limit has stopped does nothing more.
use Rattle.std.proofs.Common.{◌≡◌, ℕ, zero, suc, ◌+◌, ◌≤◌, ◌<◌, Bool, true, false, List, [], ◌∷◌, Option, Some, None, refl, ap, subst, sym, ◌∙◌, arith}
use Rattle.std.specs.Prelude.{not, ◌||◌, nat_lt, slice_get, slice_set, length}
use Rattle.esm_base.specs.declared.limits.Limit.{Limit}
use Rattle.esm_base.specs.Urls.{Text, Url, has}
use Rattle.esm_loads.specs.UrlTable.{TableEntry, Throw, thrown_by}
use Rattle.esm_loads.specs.Loading.{Loading, PendingRequest, Root, Request, OpenLoad, LoadState, Asked, Open, LoadComplete, Thrown, Purpose, ForEntry, ForImport, open_load, open_load_in, is_fresh, finish, finish_by, has_pending, ask_by, begin, throw, visit, load_of}
use Rattle.esm_loads.specs.Load.{Enters, Asks, Answers}
use Rattle.esm_loads.specs.Load.Enters.{ended, known, enters}
use Rattle.esm_loads.specs.Load.Asks.{no_more, over, waits, throws, loads}
use Rattle.esm_loads.specs.Load.Answers.{no_root, no_module, root, request}
use Rattle.esm_loads.specs.Host.{Host, Answered, begin_load, begin_by, settle_load, settle_by, with_loading}
use Rattle.esm_loads.specs.Host.Answered.{answered, late}
use Rattle.esm_loads.specs.Arrival.{bytes_of, store, store_by, count_by}
use Rattle.esm_loads.specs.ImportCall.{Imports, IsFull, HasRoom, stop_imports, add_load, counted, next_load}
use Rattle.esm_loads.specs.Laws.{EndedLoadStays, VisitsOnce, LimitStops, BytesFirst, StoresOutcome}
use Rattle.esm_loads.proofs.OneLoad.{enters_late, asks_late}
use Rattle.esm_loads.proofs.Tables.{Table, table_of, OnAsk, answered_keeps, settled_imports}

finish_late : (b : Bool) (l : Loading) (s : ℕ) (o : Option OpenLoad) → o ≡ None → finish_by b o l s ≡ l
finish_late b l s None e = refl
finish_late b l s (Some o) e = cc

pub finished_late : (l : Loading) (s : ℕ) → open_load l s ≡ None → finish l s ≡ l
finished_late l s e = finish_late (has_pending l s) l s (open_load l s) e

answered_late : {h after : Host} {s i : ℕ} {x u : Url} {e : TableEntry} → open_load h.imports s ≡ None → Answered h (Request s x i) u e after → after ≡ h
answered_late n (late m) = refl
answered_late n (answered (no_module o t f g)) = cc
answered_late n (answered (request o f g q)) = cc

pub ended_load_stays : EndedLoadStays
ended_load_stays = record {
  enters = λ l after s x n q. enters_late n q;
  asks = λ l after s i x ts n q. asks_late n q;
  finishes = finished_late;
  answered = λ h after s i x u e n q. answered_late n q;
}

-- ---- a load enters no module twice

no_visit : (l m : Loading) (s : ℕ) (x : Url) (o p : OpenLoad) → open_load l s ≡ Some o → open_load l s ≡ Some p
    → is_fresh l o.1 x ≡ false → is_fresh l p.1 x ≡ true → m ≡ l
no_visit l m s x o p e d f t =
    let same : o ≡ p = cc in let stale : is_fresh l p.1 x ≡ false = subst (λ q. is_fresh l q.1 x ≡ false) same f in cc

visited_stays : {l after : Loading} {s : ℕ} {x : Url} {o : OpenLoad}
    → open_load l s ≡ Some o → is_fresh l o.1 x ≡ false → Enters l s x after → after ≡ l
visited_stays e f (ended n) = refl
visited_stays e f (known p d g) = refl
visited_stays e f (enters p d t q) = no_visit _ _ _ _ _ p e d f t

unlinked_stale : (b c : Bool) → c ≡ true → not (b || c) ≡ false
unlinked_stale true c e = refl
unlinked_stale false c e = ap not e

unlinked_stays : {l after : Loading} {s : ℕ} {x : Url} → l.unlinked x ≡ true → Enters l s x after → after ≡ l
unlinked_stays e (ended n) = refl
unlinked_stays e (known p d g) = refl
unlinked_stays e (enters {l = l} {x = x} p d t q) = no_visit _ _ _ _ p p d d (unlinked_stale (p.1 x) (l.unlinked x) e) t

pub visits_once : VisitsOnce
visits_once = record {
  visited = λ l after s x o e v q. visited_stays e (ap (λ b. not (b || l.unlinked x)) v) q;
  unlinked = λ l after s x u q. unlinked_stays u q;
}

-- ---- a load that a limit stops hasn't ended

pub live : {o : OpenLoad} (stop : Option Limit) (load : Option LoadState) → open_load_in stop load ≡ Some o → (stop ≡ None) × (load ≡ Some (Open o.0 o.1))
live None (Some (Open r v)) e = (refl, cc)
live None (Some Asked) e = cc
live None (Some (LoadComplete r)) e = cc
live None (Some (Thrown t)) e = cc
live None None e = cc
live (Some l) state e = cc

pub get_set : {A : Type 0} (xs : List A) (s : ℕ) (x y : A) → slice_get xs s ≡ Some x → slice_get (slice_set xs s y) s ≡ Some y
get_set [] s x y e = cc
get_set (z ∷ zs) zero x y e = refl
get_set (z ∷ zs) (suc s) x y e = get_set zs s x y e

-- the load has begun and hasn't ended
data GoesOn (l : Loading) (s : ℕ) : Type 0 where
  goes : (root : Url) (visited : Url → Bool) → slice_get l.loads s ≡ Some (Open root visited) → GoesOn l s

IfStopped : Loading → ℕ → Type 0
IfStopped l s = (limit : Limit) → l.stopped ≡ Some limit → GoesOn l s

not_stopped : (l m : Loading) (s : ℕ) → l.stopped ≡ None → m.stopped ≡ l.stopped → IfStopped m s
unfolding IfStopped
not_stopped l m s n e = λ limit k. cc

open_stays : (l : Loading) (s : ℕ) (o : OpenLoad) → open_load l s ≡ Some o → IfStopped l s
unfolding IfStopped
open_stays l s o e = let h = live l.stopped (slice_get l.loads s) e in λ limit k. goes o.0 o.1 h.1

ask_stays : (b c : Bool) (l : Loading) (s : ℕ) (t : Url) (a : PendingRequest) (o : OpenLoad) → open_load l s ≡ Some o → IfStopped (ask_by b c l t a) s
unfolding IfStopped
ask_stays true c l s t a o e = let h = live l.stopped (slice_get l.loads s) e in λ limit k. goes o.0 o.1 h.1
ask_stays false true l s t a o e = let h = live l.stopped (slice_get l.loads s) e in λ limit k. goes o.0 o.1 h.1
ask_stays false false l s t a o e = let h = live l.stopped (slice_get l.loads s) e in λ limit k. goes o.0 o.1 h.1

visited : (l : Loading) (s : ℕ) (x : Url) (o : OpenLoad) → open_load l s ≡ Some o → IfStopped (visit l s o x) s
visited l s x o e = not_stopped l (visit l s o x) s (live l.stopped (slice_get l.loads s) e).0 refl

mutual
  enters_stopped : {l m : Loading} {s : ℕ} {x : Url} → Enters l s x m → IfStopped l s → IfStopped m s
  enters_stopped (ended n) p = p
  enters_stopped (known o e f) p = p
  enters_stopped {l} {s = s} {x = x} (enters o e f q) p = asks_stopped q (visited l s x o e)

  asks_stopped : {l m : Loading} {s i : ℕ} {x : Url} {ts : List Url} → Asks l s x i ts m → IfStopped l s → IfStopped m s
  asks_stopped no_more p = p
  asks_stopped (over n) p = p
  asks_stopped {l} {s = s} (waits {i = i} {x = x} {t = t} o e g q) p = asks_stopped q (ask_stays (has l.asked t) (nat_lt (length l.asked) 4096) l s t (Request s x i) o e)
  asks_stopped {l} {s = s} (throws o e thrown h g k) p = not_stopped l (throw l s thrown) s (live l.stopped (slice_get l.loads s) h).0 refl
  asks_stopped (loads o e h g k v q) p = asks_stopped q (enters_stopped v p)

-- ---- an answer

finish_stopped : (b : Bool) (o : Option OpenLoad) (l : Loading) (s : ℕ) → (finish_by b o l s).stopped ≡ l.stopped
finish_stopped b None l s = refl
finish_stopped true (Some o) l s = refl
finish_stopped false (Some o) l s = refl

-- where a limit has stopped within the answer, the end of the load changes nothing
entered_stopped : (mid : Loading) (s : ℕ) (limit : Limit) → IfStopped mid s → (finish mid s).stopped ≡ Some limit → GoesOn (finish mid s) s
unfolding IfStopped
entered_stopped mid s limit p k =
    let was : mid.stopped ≡ Some limit = sym (finish_stopped (has_pending mid s) (open_load mid s) mid s) ∙ k in
    let over : open_load mid s ≡ None = ap (λ o. open_load_in o (slice_get mid.loads s)) was in
    subst (λ m. GoesOn m s) (sym (finished_late mid s over)) (p limit was)

answers_stopped : {l m : Loading} {a : PendingRequest} {t : Url} {e : TableEntry} (limit : Limit) → l.stopped ≡ None → Answers l a t e m → m.stopped ≡ Some limit → GoesOn m (load_of a)
answers_stopped limit n (no_root thrown h) k = cc
answers_stopped limit n (no_module o thrown h g) k = cc
answers_stopped {l} {t = t} limit n (root {mid = mid} {s = s} h q) k = entered_stopped mid s limit (enters_stopped q (not_stopped l (begin l s t) s n refl)) k
answers_stopped {l} limit n (request {mid = mid} {s = s} o h g q) k = entered_stopped mid s limit (enters_stopped q (open_stays l s o h)) k

record BeginsOnly (h k : Host) : Type 0 where
  stopped : k.imports.stopped ≡ h.imports.stopped
  errors : k.errors ≡ h.errors

begin_only : (h : Host) (s : ℕ) (t : Option Throw) (p : Option Purpose) → BeginsOnly h (begin_by h s t p)
begin_only h s (Some t) p = record { stopped = refl; errors = refl }
begin_only h s None None = record { stopped = refl; errors = refl }
begin_only h s None (Some (ForEntry q)) = record { stopped = refl; errors = refl }
begin_only h s None (Some (ForImport q None)) = record { stopped = refl; errors = refl }
begin_only h s None (Some (ForImport q (Some r))) = record { stopped = refl; errors = refl }

begins_only : (h : Host) (a : PendingRequest) (u : Url) (e : TableEntry) → BeginsOnly h (begin_load h a u e)
begins_only h (Root s) u e = begin_only h s (thrown_by u e) (slice_get h.imports.purposes s)
begins_only h (Request s x i) u e = record { stopped = refl; errors = refl }

settle_open : (h : Host) (p : Option Purpose) (l : Option LoadState) (r : Url) (v : Url → Bool) → l ≡ Some (Open r v) → settle_by h p l ≡ h
settle_open h None l r v e = refl
settle_open h (Some p) l r v e = ap (settle_by h (Some p)) e

settle_going : (k : Host) (s : ℕ) → GoesOn k.imports s → settle_load k s ≡ k
settle_going k s (goes r v e) = settle_open k (slice_get k.imports.purposes s) (slice_get k.imports.loads s) r v e

answered_stops : {h after : Host} {a : PendingRequest} {u : Url} {e : TableEntry} (limit : Limit) → h.imports.stopped ≡ None → Answered h a u e after → after.imports.stopped ≡ Some limit
    → (after.promises ≡ (begin_load h a u e).promises) × (after.errors ≡ h.errors)
answered_stops limit n (late m) k = cc
answered_stops {h} {a = a} {u = u} {e = e} limit n (answered {l = l} q) k =
    let b = begins_only h a u e in
    let was : l.stopped ≡ Some limit = ap (λ (m : Loading). m.stopped) (sym (settled_imports (with_loading (begin_load h a u e) l) (load_of a))) ∙ k in
    let g = answers_stopped limit (b.stopped ∙ n) q was in
    let same = settle_going (with_loading (begin_load h a u e) l) (load_of a) g in
    (ap (λ (k : Host). k.promises) same, ap (λ (k : Host). k.errors) same ∙ b.errors)

import_stops : (h after : Host) (referrer : Url) (specifier : Text) (promise : ℕ) → IsFull h.imports → Imports h referrer specifier promise after → after ≡ stop_imports h
import_stops h after referrer specifier promise full (Imports.limit f) = refl
import_stops h after referrer specifier promise full (Imports.unresolved f room r) = cc
import_stops h after referrer specifier promise full (Imports.asks u room r n) = cc
import_stops h after referrer specifier promise full (Imports.answers u e room r g q) = cc

record CallsAre (n : ℕ) (t : Table) : Type 0 where
  are : t.calls ≡ n

ask_calls : (n : ℕ) (b c : Bool) (l : Loading) (t : Url) (a : PendingRequest) → CallsAre n (table_of l) → CallsAre n (table_of (ask_by b c l t a))
ask_calls n true c l t a h = record { are = h.are }
ask_calls n false true l t a h = record { are = h.are }
ask_calls n false false l t a h = record { are = h.are }

on_ask : (n : ℕ) → OnAsk (CallsAre n)
on_ask n l t a g h = ask_calls n (has l.asked t) (nat_lt (length l.asked) 4096) l t a h

import_counts : (h after : Host) (referrer : Url) (specifier : Text) (promise : ℕ) → HasRoom h.imports → Imports h referrer specifier promise after → after.imports.import_calls ≡ h.imports.import_calls + 1
import_counts h after referrer specifier promise room (Imports.limit full) = cc
import_counts h after referrer specifier promise room (Imports.unresolved f r e) = refl
import_counts h after referrer specifier promise room (Imports.asks u r e n) = (on_ask (h.imports.import_calls + 1) (add_load (counted h) promise).imports u (Root (next_load h)) n (record { are = refl })).are
import_counts h after referrer specifier promise room (Imports.answers u e r s g q) = (answered_keeps (CallsAre (h.imports.import_calls + 1)) (on_ask (h.imports.import_calls + 1)) q (record { are = refl })).are

pub limit_stops : LimitStops
limit_stops = record { answered = λ h after a u e limit n q k. answered_stops limit n q k; imports = import_stops; counts = import_counts }

-- ---- the bytes

lt_true : (a b : ℕ) → a < b → nat_lt a b ≡ true
lt_true a b h = grind arith

lt_false : (a b : ℕ) → b ≤ a → nat_lt a b ≡ false
lt_false a b h = grind arith

pub bytes_first : BytesFirst
bytes_first h u c k = ap (λ b. store (with_loading h (count_by b h.imports (bytes_of c))) u c) (lt_true _ _ k)

pub stores_outcome : StoresOutcome
stores_outcome h u c n k =
    ap (λ b. store (with_loading h (count_by b h.imports (bytes_of c))) u c) (lt_false _ _ k)
    ∙ ap (λ s. store_by s (with_loading h (count_by false h.imports (bytes_of c))) u c) n
