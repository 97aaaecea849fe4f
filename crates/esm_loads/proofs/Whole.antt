-- What is Unlinked is loaded with all that it reaches, and each load has ended or waits.
use Rattle.std.proofs.Common.{◌≡◌, ℕ, zero, suc, ◌+◌, Bool, true, false, List, [], ◌∷◌, ◌++◌, length, Option, Some, None, Contains, refl, ap, subst, sym, ◌∙◌, inl, inr}
use Rattle.std.specs.Prelude.{filter, cond, ◌⊎◌, ◌||◌, not, nat_lt, slice_get, slice_set}
use Rattle.esm_base.specs.declared.limits.Limit.{Limit}
use Rattle.esm_base.specs.Urls.{Text, Url, has, same_url}
use Rattle.esm_tree.specs.Syntax.{Item}
use Rattle.esm_ast.specs.Outcome.{OutcomeView}
use Rattle.esm_import_map.specs.ImportMap.{Maps}
use Rattle.esm_realm.proofs.Urls.{cases, same_text, own_text, or_left, or_cases, or_true}
use Rattle.esm_loads.specs.UrlTable.{Entries, TableEntry, Failed, Module, Throw, Found, Nothing, Faulty, Script, found, thrown_by, targets_in, put_at, no_urls}
use Rattle.esm_loads.specs.Loading.{Loading, LoadState, Asked, Open, LoadComplete, Thrown, PendingRequest, Root, Request, Purpose, ForEntry, ForImport, OpenLoad, load_of, open_load, ask, ask_by, begin, throw, finish, finish_by, has_pending, targets, is_fetching, root_in}
use Rattle.esm_loads.specs.Load.{Enters, Answers}
use Rattle.esm_loads.specs.Load.Answers.{no_root, no_module, root, request}
use Rattle.esm_loads.specs.Host.{Host, Answered, opening_host, begin_load, begin_by, settle_load, with_loading}
use Rattle.esm_loads.specs.Host.Answered.{answered, late}
use Rattle.esm_loads.specs.Arrival.{bytes_of, count_by, store_by, put_found, with_entry, Next, next, AnswersNext, without_next, open_asks}
use Rattle.esm_loads.specs.ImportCall.{Imports, add_load, counted, next_load}
use Rattle.esm_loads.specs.Whole.{unlinked_modules, is_module, IsPending, AreUnlinked, IsLoaded, IsKnown, AreFollowed, IsVisited, GoesOn, IsLoadWhole, IsWhole, HasEnded}
use Rattle.esm_loads.specs.Laws.{IsOrderly, IsFirst, HasNothing, StaysWhole, LoadsEnd, UnlinkedIsClosed}
use Rattle.esm_loads.proofs.Limits.{live}
use Rattle.esm_loads.proofs.Orderly.{put_own, put_other}
use Rattle.esm_loads.proofs.Pending.{first_pending, nothing_in}
use Rattle.esm_loads.proofs.Tables.{settled_imports}
use Rattle.esm_loads.proofs.Requests.{contains_here, contains_none, contains_cases, awaits_some, awaits_none, equal_cases, set_own, set_other}
use Rattle.esm_loads.proofs.Framed.{HasBegun, Framed, framed_on, framed_open, begun_open, framed_throw, framed_ask, asked_for, enters_framed, known_on, Grown, enters_grow, stands_by}

-- ---- what keeps a load whole

-- the requests of the load k stay pending, and nothing of it changes
record Carries (k : ℕ) (l m : Loading) : Type 0 where
  entries : m.entries ≡ l.entries
  unlinked : (x : Url) → l.unlinked x ≡ true → m.unlinked x ≡ true
  pending : (u : Url) (a : PendingRequest) → load_of a ≡ k → IsPending l u a → IsPending m u a
  stopped : m.stopped ≡ None → l.stopped ≡ None
  load : slice_get m.loads k ≡ slice_get l.loads k

not_or_right : (a b b' : Bool) → (b ≡ true → b' ≡ true) → not (a || b) ≡ false → not (a || b') ≡ false
not_or_right true b b' h n = refl
not_or_right false true b' h n = let e = h refl in cc
not_or_right false false b' h n = cc

known_carried : (k : ℕ) (l m : Loading) (v : Url → Bool) (x : Url) → Carries k l m → IsKnown l v x → IsKnown m v x
known_carried k l m v x a h = not_or_right (v x) (l.unlinked x) (m.unlinked x) (a.unlinked x) h

followed_carried : (k : ℕ) (l m : Loading) (v : Url → Bool) (x : Url) (i : ℕ) (ts : List Url) → Carries k l m → AreFollowed l k v x i ts → AreFollowed m k v x i ts
followed_carried k l m v x i [] a h = tt
followed_carried k l m v x i (t ∷ ts) a h = (one h.0, followed_carried k l m v x (suc i) ts a h.1)
  where
    one : IsKnown l v t ⊎ IsPending l t (Request k x i) → IsKnown m v t ⊎ IsPending m t (Request k x i)
    one (inl h) = inl (known_carried k l m v t a h)
    one (inr p) = inr (a.pending t (Request k x i) refl p)

goes_carried : (k : ℕ) (l m : Loading) (start : Url) (v : Url → Bool) → Carries k l m → GoesOn l k start v → GoesOn m k start v
goes_carried k l m start v a h = record {
  known = known_carried k l m v start a h.known;
  visits = λ x i. let is = h.visits x i in record {
    stands = subst (λ (es : Entries). is_module (es x) ≡ true) (sym a.entries) is.stands;
    targets_are = subst (λ (es : Entries). AreFollowed m k v x 0 (targets_in (es x))) (sym a.entries) (followed_carried k l m v x 0 (targets l x) a is.targets_are);
  };
  awaits = let w = h.awaits in record { url = w.url; pending_request = w.pending_request; of_load = w.of_load; is = a.pending w.url w.pending_request w.of_load w.is };
}

carried : (k : ℕ) (l m : Loading) → Carries k l m → IsLoadWhole l k → IsLoadWhole m k
carried k l m a h = record {
  complete = λ start e. a.unlinked start (h.complete start (sym a.load ∙ e));
  goes_on = λ n start v e. goes_carried k l m start v a (h.goes_on (a.stopped n) start v (sym a.load ∙ e));
  asked = λ n e. let q = h.asked (a.stopped n) (sym a.load ∙ e) in (q.0, a.pending q.0 (Root k) refl q.1);
}

framed_carries : (s k : ℕ) (l m : Loading) → (k ≡ s → ⊥) → Framed s l m → Carries k l m
framed_carries s k l m n f = record {
  entries = f.entries;
  unlinked = λ x h. ap (λ (g : Url → Bool). g x) f.unlinked ∙ h;
  pending = λ u a e h. f.pending u a h;
  stopped = f.stopped;
  load = f.others k n;
}

carries_on : (k : ℕ) (l m n : Loading) → Carries k l m → Carries k m n → Carries k l n
carries_on k l m n a b = record {
  entries = b.entries ∙ a.entries;
  unlinked = λ x h. b.unlinked x (a.unlinked x h);
  pending = λ u r e h. b.pending u r e (a.pending u r e h);
  stopped = λ h. a.stopped (b.stopped h);
  load = b.load ∙ a.load;
}

-- ---- what is Unlinked

Loaded : Loading → Type 0
Loaded l = (x : Url) → l.unlinked x ≡ true → IsLoaded l x

unlinked_on : (l m : Loading) (ts : List Url) → ((x : Url) → l.unlinked x ≡ true → m.unlinked x ≡ true) → AreUnlinked l ts → AreUnlinked m ts
unlinked_on l m [] f h = tt
unlinked_on l m (t ∷ ts) f h = (f t h.0, unlinked_on l m ts f h.1)

is_loaded_on : (l m : Loading) (x : Url) → m.entries ≡ l.entries → ((x : Url) → l.unlinked x ≡ true → m.unlinked x ≡ true) → IsLoaded l x → IsLoaded m x
is_loaded_on l m x e f h = record {
  stands = subst (λ (es : Entries). is_module (es x) ≡ true) (sym e) h.stands;
  targets_are = subst (λ (es : Entries). AreUnlinked m (targets_in (es x))) (sym e) (unlinked_on l m (targets l x) f h.targets_are);
}

loaded_on : (l m : Loading) → m.entries ≡ l.entries → m.unlinked ≡ l.unlinked → Loaded l → Loaded m
unfolding Loaded
loaded_on l m e u h = λ x k. is_loaded_on l m x e (λ y j. ap (λ (g : Url → Bool). g y) u ∙ j) (h x (ap (λ (g : Url → Bool). g x) (sym u) ∙ k))

-- all but the load s is whole
record Others (s : ℕ) (l : Loading) : Type 0 where
  loaded : Loaded l
  each : (k : ℕ) → (k ≡ s → ⊥) → IsLoadWhole l k

whole_of : (s : ℕ) (l : Loading) → Others s l → IsLoadWhole l s → IsWhole l
unfolding Loaded
whole_of s l o w = record { loaded = o.loaded; each = λ k. by k (equal_cases k s) }
  where
    by : (k : ℕ) → (k ≡ s) ⊎ (k ≡ s → ⊥) → IsLoadWhole l k
    by k (inl e) = subst (λ j. IsLoadWhole l j) (sym e) w
    by k (inr n) = o.each k n

others_on : (s : ℕ) (l m : Loading) → Framed s l m → Others s l → Others s m
others_on s l m f o = record {
  loaded = loaded_on l m f.entries f.unlinked o.loaded;
  each = λ k n. carried k l m (framed_carries s k l m n f) (o.each k n);
}

-- a load that has begun, and doesn't go on: it was thrown, or a limit has stopped
over_whole : (l : Loading) (s : ℕ) → HasBegun l s → open_load l s ≡ None → IsLoadWhole l s
over_whole l s b n = record {
  complete = λ start e. absurd (b.1 start e);
  goes_on = λ h start v e. let is : open_load l s ≡ Some (start, v) = rw (h, e) refl in cc;
  asked = λ h e. absurd (b.0 e);
}

-- ---- the end of a load

-- what the load has visited, with the URL t known
record Visits (l : Loading) (s : ℕ) (p : OpenLoad) : Type 0 where
  known : IsKnown l p.1 p.0
  visits : (x : Url) → p.1 x ≡ true → IsVisited l s p.1 x

known_cases : (a b : Bool) → not (a || b) ≡ false → (b || a) ≡ true
known_cases true true h = refl
known_cases true false h = refl
known_cases false true h = refl
known_cases false false h = cc

-- where a load ends: its visited modules are Unlinked
module _ (l : Loading) (s : ℕ) (p : OpenLoad) where
  abbrev ended_is : Loading
  ended_is = finish_by false (Some p) l s

  more_unlinked : (x : Url) → l.unlinked x ≡ true → ended_is.unlinked x ≡ true
  more_unlinked x h = or_left (l.unlinked x) (p.1 x) h

  followed_unlinked : (x : Url) (i : ℕ) (ts : List Url) → has_pending l s ≡ false → AreFollowed l s p.1 x i ts → AreUnlinked ended_is ts
  followed_unlinked x i [] n h = tt
  followed_unlinked x i (t ∷ ts) n h = (one h.0, followed_unlinked x (suc i) ts n h.1)
    where
      one : IsKnown l p.1 t ⊎ IsPending l t (Request s x i) → (l.unlinked t || p.1 t) ≡ true
      one (inl k) = known_cases (p.1 t) (l.unlinked t) k
      one (inr q) = absurd (awaits_none l s t (Request s x i) n refl q)

  ended_loaded : has_pending l s ≡ false → Visits l s p → Loaded l → Loaded ended_is
  unfolding Loaded
  ended_loaded n v h = λ x k. by x (or_cases (l.unlinked x) (p.1 x) k)
    where
      by : (x : Url) → (l.unlinked x ≡ true) ⊎ (p.1 x ≡ true) → IsLoaded ended_is x
      by x (inl k) = is_loaded_on l ended_is x refl more_unlinked (h x k)
      by x (inr k) = let is = v.visits x k in record { stands = is.stands; targets_are = followed_unlinked x 0 (targets l x) n is.targets_are }

  ended_carries : (k : ℕ) → (k ≡ s → ⊥) → Carries k l ended_is
  ended_carries k n = record { entries = refl; unlinked = more_unlinked; pending = λ u a e h. h; stopped = λ h. h; load = (framed_throw_load k n) }
    where
      framed_throw_load : (k : ℕ) → (k ≡ s → ⊥) → slice_get (slice_set l.loads s (LoadComplete p.0)) k ≡ slice_get l.loads k
      framed_throw_load k n = set_other l.loads s k (LoadComplete p.0) n

  ended_own : Visits l s p → IsLoadWhole ended_is s
  ended_own v = record {
    complete = λ start e. let is = set_own l.loads s (LoadComplete p.0) (LoadComplete start) e in
        let same : p.0 ≡ start = cc in
        subst (λ u. (l.unlinked u || p.1 u) ≡ true) same (known_cases (p.1 p.0) (l.unlinked p.0) v.known);
    goes_on = λ n start w e. let is = set_own l.loads s (LoadComplete p.0) (Open start w) e in cc;
    asked = λ n e. let is = set_own l.loads s (LoadComplete p.0) Asked e in cc;
  }

-- ---- an answer: behind entering, the load ends or goes on

going_whole : (l : Loading) (s : ℕ) (p : OpenLoad) → HasBegun l s → open_load l s ≡ Some p → has_pending l s ≡ true → Visits l s p → IsLoadWhole l s
going_whole l s p b n w v =
    let h = live l.stopped (slice_get l.loads s) n in
    record {
      complete = λ start e. absurd (b.1 start e);
      goes_on = λ k start u e. by start u (opened start u e h.1);
      asked = λ k e. absurd (b.0 e);
    }
  where
    opened : (start : Url) (u : Url → Bool) → slice_get l.loads s ≡ Some (Open start u) → slice_get l.loads s ≡ Some (Open p.0 p.1) → p ≡ (start, u)
    opened start u e f = let a : p.0 ≡ start = cc in let b : p.1 ≡ u = cc in λ i. (a i, b i)

    by : (start : Url) (u : Url → Bool) → p ≡ (start, u) → GoesOn l s start u
    by start u e = subst (λ (o : OpenLoad). GoesOn l s o.0 o.1) e (record { known = v.known; visits = v.visits; awaits = awaits_some l s w })

finish_whole : (l : Loading) (s : ℕ) → HasBegun l s → Others s l → ((p : OpenLoad) → open_load l s ≡ Some p → Visits l s p) → IsWhole (finish l s)
finish_whole l s b o v = by (open_load l s) refl (has_pending l s) refl
  where
    by : (p : Option OpenLoad) → open_load l s ≡ p → (w : Bool) → has_pending l s ≡ w → IsWhole (finish_by w p l s)
    by None n w h = whole_of s l o (over_whole l s b n)
    by (Some p) n true h = whole_of s l o (going_whole l s p b n h (v p n))
    by (Some p) n false h = whole_of s (ended_is l s p)
        (record { loaded = ended_loaded l s p h (v p n) o.loaded; each = λ k d. carried k l (ended_is l s p) (ended_carries l s p k d) (o.each k d) })
        (ended_own l s p (v p n))

-- the root is answered with a module
root_whole : (l : Loading) (s : ℕ) (t : Url) (mid : Loading) → is_module (l.entries t) ≡ true → Others s l → Enters (begin l s t) s t mid → IsWhole (finish mid s)
root_whole l s t mid st o q =
    let f = framed_open l s t no_urls in
    let e = enters_framed q in
    finish_whole mid s (e.begun (begun_open l s t no_urls)) (others_on s l mid (framed_on f e) o) visits
  where
    opened : (p : OpenLoad) → open_load (begin l s t) s ≡ Some p → p ≡ (t, no_urls)
    opened p h = let g = live l.stopped (slice_get (slice_set l.loads s (Open t no_urls)) s) h in let is = set_own l.loads s (Open t no_urls) (Open p.0 p.1) g.1 in let a : p.0 ≡ t = cc in let b : p.1 ≡ no_urls = cc in λ i. (a i, b i)

    visits : (p : OpenLoad) → open_load mid s ≡ Some p → Visits mid s p
    visits p h =
        let w = enters_grow q p st h in
        let is : w.from ≡ (t, no_urls) = opened w.from w.is in
        let start : p.0 ≡ t = w.grown.start ∙ ap (λ (o : OpenLoad). o.0) is in
        record {
          known = subst (λ u. IsKnown mid p.1 u) (sym start) w.known;
          visits = λ x k. w.grown.new x k (ap (λ (o : OpenLoad). o.1 x) is);
        }

-- what the load has visited, where what it waits for under t is left out
record VisitsBut (l : Loading) (s : ℕ) (o : OpenLoad) (t : Url) : Type 0 where
  known : IsKnown l o.1 o.0
  visits : (x : Url) → o.1 x ≡ true → (is_module (l.entries x) ≡ true) × ((m : Loading) (v : Url → Bool) → Framed s l m → ((y : Url) → o.1 y ≡ true → v y ≡ true) → IsKnown m v t → IsVisited m s v x)

-- a request of a module is answered with a module
request_whole : (l : Loading) (s : ℕ) (o : OpenLoad) (t : Url) (mid : Loading) → is_module (l.entries t) ≡ true → HasBegun l s → open_load l s ≡ Some o → VisitsBut l s o t → Others s l → Enters l s t mid → IsWhole (finish mid s)
request_whole l s o t mid st b h v others q =
    let e = enters_framed q in
    finish_whole mid s (e.begun b) (others_on s l mid e others) visits
  where
    visits : (p : OpenLoad) → open_load mid s ≡ Some p → Visits mid s p
    visits p k =
        let w = enters_grow q p st k in
        let is : w.from ≡ o = cc (w.is, h) in
        let g : Grown s l o mid p = subst (λ o. Grown s l o mid p) is w.grown in
        record {
          known = known_on l mid o.1 p.1 p.0 g.framed.unlinked (g.more p.0) (subst (λ u. IsKnown l o.1 u) (sym g.start) v.known);
          visits = λ x j. by g w.known x j (cases (o.1 x));
        }
      where
        by : Grown s l o mid p → IsKnown mid p.1 t → (x : Url) → p.1 x ≡ true → (o.1 x ≡ true) ⊎ (o.1 x ≡ false) → IsVisited mid s p.1 x
        by g k x j (inl i) = (v.visits x i).1 mid p.1 g.framed g.more k
        by g k x j (inr n) = g.new x j n

throw_whole : (l : Loading) (s : ℕ) (thrown : Throw) → Others s l → IsWhole (throw l s thrown)
throw_whole l s thrown o = whole_of s (throw l s thrown) (others_on s l (throw l s thrown) (framed_throw l s thrown) o) (record {
  complete = λ start e. let is = set_own l.loads s (Thrown thrown) (LoadComplete start) e in cc;
  goes_on = λ n start v e. let is = set_own l.loads s (Thrown thrown) (Open start v) e in cc;
  asked = λ n e. let is = set_own l.loads s (Thrown thrown) Asked e in cc;
})

-- ---- an answer of a host

-- where the load of an import() begins, its purpose alone changes
record BeginsAlike (l m : Loading) : Type 0 where
  entries : m.entries ≡ l.entries
  unlinked : m.unlinked ≡ l.unlinked
  asked : m.asked ≡ l.asked
  pending : m.pending ≡ l.pending
  loads : m.loads ≡ l.loads
  stopped : m.stopped ≡ l.stopped

begins_alike : (h : Host) (s : ℕ) (t : Option Throw) (p : Option Purpose) → BeginsAlike h.imports (begin_by h s t p).imports
begins_alike h s (Some t) p = record { entries = refl; unlinked = refl; asked = refl; pending = refl; loads = refl; stopped = refl }
begins_alike h s None None = record { entries = refl; unlinked = refl; asked = refl; pending = refl; loads = refl; stopped = refl }
begins_alike h s None (Some (ForEntry q)) = record { entries = refl; unlinked = refl; asked = refl; pending = refl; loads = refl; stopped = refl }
begins_alike h s None (Some (ForImport q None)) = record { entries = refl; unlinked = refl; asked = refl; pending = refl; loads = refl; stopped = refl }
begins_alike h s None (Some (ForImport q (Some r))) = record { entries = refl; unlinked = refl; asked = refl; pending = refl; loads = refl; stopped = refl }

alike_carries : (k : ℕ) (l m : Loading) → BeginsAlike l m → Carries k l m
alike_carries k l m b = record {
  entries = b.entries;
  unlinked = λ x h. ap (λ (g : Url → Bool). g x) b.unlinked ∙ h;
  pending = λ u a e h. (ap (λ us. has us u) b.asked ∙ h.0, subst (λ (P : Url → List PendingRequest). Contains (P u) a) (sym b.pending) h.1);
  stopped = λ h. sym b.stopped ∙ h;
  load = ap (λ ls. slice_get ls k) b.loads;
}

alike_others : (s : ℕ) (l m : Loading) → BeginsAlike l m → Others s l → Others s m
alike_others s l m b o = record { loaded = loaded_on l m b.entries b.unlinked o.loaded; each = λ k n. carried k l m (alike_carries k l m b) (o.each k n) }

whole_is : (l m : Loading) → m ≡ l → IsWhole l → IsWhole m
whole_is l m e w = subst IsWhole (sym e) w

settled_whole : (h : Host) (s : ℕ) → IsWhole h.imports → IsWhole (settle_load h s).imports
settled_whole h s w = whole_is h.imports (settle_load h s).imports (settled_imports h s) w

-- the answer of a root: all but its load is whole before
root_answered : {h k : Host} {s : ℕ} {u : Url} {e : TableEntry} → h.imports.entries u ≡ Some e → Others s h.imports → Answered h (Root s) u e k → IsWhole k.imports
root_answered {h} {s = s} {u = u} {e = e} g o (answered {l = l} q) = settled_whole (with_loading b l) s (by q)
  where
    b : Host
    b = begin_load h (Root s) u e

    alike : BeginsAlike h.imports b.imports
    alike = begins_alike h s (thrown_by u e) (slice_get h.imports.purposes s)

    by : {m : Loading} → Answers b.imports (Root s) u e m → IsWhole m
    by (no_root thrown t) = throw_whole b.imports s thrown (alike_others s h.imports b.imports alike o)
    by (root {mid = mid} t q) = root_whole b.imports s u mid (stands_by b.imports u e (ap (λ (es : Entries). es u) alike.entries ∙ g) t) (alike_others s h.imports b.imports alike o) q

-- what holds where a request of a module is no more pending
record OwnBut (l : Loading) (s : ℕ) (t : Url) : Type 0 where
  begun : (o : OpenLoad) → open_load l s ≡ Some o → HasBegun l s
  visits : (o : OpenLoad) → open_load l s ≡ Some o → VisitsBut l s o t
  late_is : open_load l s ≡ None → IsLoadWhole l s

request_answered : {h k : Host} {s i : ℕ} {x u : Url} {e : TableEntry} → h.imports.entries u ≡ Some e → Others s h.imports → OwnBut h.imports s u → Answered h (Request s x i) u e k → IsWhole k.imports
request_answered {h} {s = s} g o w (late n) = whole_of s h.imports o (w.late_is n)
request_answered {h} {s = s} {u = u} {e = e} g o w (answered {l = l} q) = settled_whole (with_loading h l) s (by q)
  where
    by : {i : ℕ} {x : Url} {m : Loading} → Answers h.imports (Request s x i) u e m → IsWhole m
    by (no_module p thrown n t) = throw_whole h.imports s thrown o
    by (request {mid = mid} p n t q) = request_whole h.imports s p u mid (stands_by h.imports u e g t) (w.begun p n) n (w.visits p n) o q

-- ---- the next answer

-- a request that is no more pending is of its load alone
without_carries : (h : Host) (n : Next) (k : ℕ) → next h.imports ≡ Some n → (k ≡ load_of n.pending_request → ⊥) → Carries k h.imports (without_next h n).imports
without_carries h n k e d = record { entries = refl; unlinked = λ x h. h; pending = λ u a of p. (p.0, by u a of p.1 (cases (same_url n.url u))); stopped = λ h. h; load = refl }
  where
    f : IsFirst h.imports n
    f = first_pending.is h.imports n e

    left : (a : PendingRequest) → load_of a ≡ k → (n.pending_request ≡ a) ⊎ Contains n.others a → Contains n.others a
    left a of (inl same) = absurd (d (sym of ∙ ap load_of (sym same)))
    left a of (inr c) = c

    own : (a : PendingRequest) → load_of a ≡ k → Contains (h.imports.pending n.url) a → Contains (put_at h.imports.pending n.url n.others n.url) a
    own a of c = subst (λ rs. Contains rs a) (sym (put_own h.imports.pending n.url n.others)) (left a of (contains_cases n.pending_request n.others a (subst (λ rs. Contains rs a) f.first c)))

    by : (u : Url) (a : PendingRequest) → load_of a ≡ k → Contains (h.imports.pending u) a → (same_url n.url u ≡ true) ⊎ (same_url n.url u ≡ false) → Contains (put_at h.imports.pending n.url n.others u) a
    by u a of c (inl s) = subst (λ v. Contains (h.imports.pending v) a → Contains (put_at h.imports.pending n.url n.others v) a) (same_text n.url u s) (own a of) c
    by u a of c (inr s) = subst (λ rs. Contains rs a) (sym (put_other h.imports.pending n.url u n.others s)) c

without_others : (h : Host) (n : Next) → next h.imports ≡ Some n → IsWhole h.imports → Others (load_of n.pending_request) (without_next h n).imports
unfolding Loaded
without_others h n e w = record {
  loaded = λ x k. is_loaded_on h.imports (without_next h n).imports x refl (λ y j. j) (w.loaded x k);
  each = λ k d. carried k h.imports (without_next h n).imports (without_carries h n k e d) (w.each k);
}

-- the targets of what the load has visited, where what waits for t is known by now
followed_but : (h : Host) (n : Next) (s : ℕ) (v w : Url → Bool) (x : Url) (i : ℕ) (ts : List Url) (m : Loading) → Framed s (without_next h n).imports m → ((y : Url) → v y ≡ true → w y ≡ true) → IsKnown m w n.url → AreFollowed h.imports s v x i ts → AreFollowed m s w x i ts
followed_but h n s v w x i [] m f more k a = tt
followed_but h n s v w x i (t ∷ ts) m f more k a = (one a.0, followed_but h n s v w x (suc i) ts m f more k a.1)
  where
    there : IsPending h.imports t (Request s x i) → (same_url n.url t ≡ true) ⊎ (same_url n.url t ≡ false) → IsKnown m w t ⊎ IsPending m t (Request s x i)
    there p (inl same) = inl (subst (λ u. IsKnown m w u) (same_text n.url t same) k)
    there p (inr d) = inr (f.pending t (Request s x i) (p.0, subst (λ rs. Contains rs (Request s x i)) (sym (put_other h.imports.pending n.url t n.others d)) p.1))

    one : IsKnown h.imports v t ⊎ IsPending h.imports t (Request s x i) → IsKnown m w t ⊎ IsPending m t (Request s x i)
    one (inl known) = inl (known_on h.imports m v w t f.unlinked (more t) known)
    one (inr p) = there p (cases (same_url n.url t))

open_load_is : (l : Loading) (s : ℕ) (start : Url) (v : Url → Bool) → l.stopped ≡ None → slice_get l.loads s ≡ Some (Open start v) → open_load l s ≡ Some (start, v)
open_load_is l s start v h e = rw (h, e) refl

own_but : (h : Host) (n : Next) (s i : ℕ) (x : Url) → n.pending_request ≡ Request s x i → next h.imports ≡ Some n → IsWhole h.imports → OwnBut (without_next h n).imports s n.url
own_but h n s i x is e w = record {
  begun = λ o g. let k = live h.imports.stopped (slice_get h.imports.loads s) g in (λ d. cc, λ start d. cc);
  visits = visits;
  late_is = λ none. record {
    complete = (w.each s).complete;
    goes_on = λ stop start v d. let there = open_load_is h.imports s start v stop d in cc;
    asked = λ stop d. let q = (w.each s).asked stop d in (q.0, (q.1.0, left q.0 q.1.1 (cases (same_url n.url q.0))));
  };
}
  where
    f : IsFirst h.imports n
    f = first_pending.is h.imports n e

    visits : (o : OpenLoad) → open_load h.imports s ≡ Some o → VisitsBut (without_next h n).imports s o n.url
    visits o g =
        let k = live h.imports.stopped (slice_get h.imports.loads s) g in
        let goes = (w.each s).goes_on k.0 o.0 o.1 k.1 in
        record {
          known = goes.known;
          visits = λ y j. let v = goes.visits y j in (
            v.stands,
            λ m u a more t. record {
              stands = subst (λ (es : Entries). is_module (es y) ≡ true) (sym a.entries) v.stands;
              targets_are = subst (λ (es : Entries). AreFollowed m s u y 0 (targets_in (es y))) (sym a.entries) (followed_but h n s o.1 u y 0 (targets h.imports y) m a more t v.targets_are);
            },
          );
        }

    rest : (n.pending_request ≡ Root s) ⊎ Contains n.others (Root s) → Contains n.others (Root s)
    rest (inl d) = cc
    rest (inr c) = c

    own : Contains (h.imports.pending n.url) (Root s) → Contains (put_at h.imports.pending n.url n.others n.url) (Root s)
    own c = subst (λ rs. Contains rs (Root s)) (sym (put_own h.imports.pending n.url n.others)) (rest (contains_cases n.pending_request n.others (Root s) (subst (λ rs. Contains rs (Root s)) f.first c)))

    left : (u : Url) → Contains (h.imports.pending u) (Root s) → (same_url n.url u ≡ true) ⊎ (same_url n.url u ≡ false) → Contains (put_at h.imports.pending n.url n.others u) (Root s)
    left u c (inl same) = subst (λ v. Contains (h.imports.pending v) (Root s) → Contains (put_at h.imports.pending n.url n.others v) (Root s)) (same_text n.url u same) own c
    left u c (inr d) = subst (λ rs. Contains rs (Root s)) (sym (put_other h.imports.pending n.url u n.others d)) c

next_whole : (before after : Host) → IsWhole before.imports → AnswersNext before after → IsWhole after.imports
next_whole before after w q = by q.who.pending_request refl
  where
    f : IsFirst before.imports q.who
    f = first_pending.is before.imports q.who q.is_next

    k : Host
    k = without_next before q.who

    others : (r : PendingRequest) → q.who.pending_request ≡ r → Others (load_of r) k.imports
    others r e = subst (λ r. Others (load_of r) k.imports) e (without_others before q.who q.is_next w)

    same : (r : PendingRequest) → q.who.pending_request ≡ r → Answered k r q.who.url q.who.entry after
    same r e = subst (λ r. Answered k r q.who.url q.who.entry after) e q.answered

    by : (r : PendingRequest) → q.who.pending_request ≡ r → IsWhole after.imports
    by (Root s) e = root_answered {h = k} f.fetched (others (Root s) e) (same (Root s) e)
    by (Request s x i) e = request_answered {h = k} f.fetched (others (Request s x i) e) (own_but before q.who s i x e q.is_next w) (same (Request s x i) e)

-- ---- an import()

whole_on : (l m : Loading) → m.unlinked ≡ l.unlinked → m.entries ≡ l.entries → ((k : ℕ) → Carries k l m) → IsWhole l → IsWhole m
unfolding Loaded
whole_on l m u e c w = record { loaded = loaded_on l m e u w.loaded; each = λ k. carried k l m (c k) (w.each k) }

push_other : {A : Type 0} (xs : List A) (y : A) (k : ℕ) → (k ≡ length xs → ⊥) → slice_get (xs ++ y ∷ []) k ≡ slice_get xs k
push_other [] y zero n = absurd (n refl)
push_other [] y (suc k) n = refl
push_other (x ∷ xs) y zero n = refl
push_other (x ∷ xs) y (suc k) n = push_other xs y k (λ e. n (ap suc e))

push_own : {A : Type 0} (xs : List A) (y : A) → slice_get (xs ++ y ∷ []) (length xs) ≡ Some y
push_own [] y = refl
push_own (x ∷ xs) y = push_own xs y

added_others : (h : Host) (promise : ℕ) → IsWhole h.imports → Others (next_load h) (add_load (counted h) promise).imports
unfolding Loaded
added_others h promise w = record {
  loaded = λ x k. is_loaded_on h.imports (add_load (counted h) promise).imports x refl (λ y j. j) (w.loaded x k);
  each = λ k n. carried k h.imports (add_load (counted h) promise).imports (record { entries = refl; unlinked = λ x h. h; pending = λ u a of p. p; stopped = λ h. h; load = push_other h.imports.loads Asked k n }) (w.each k);
}

asked_whole : (l : Loading) (s : ℕ) (u : Url) → slice_get l.loads s ≡ Some Asked → Others s l → IsWhole (ask l u (Root s))
asked_whole l s u e o = by (has l.asked u) (nat_lt (length l.asked) 4096) refl
  where
    same : (b c : Bool) → slice_get (ask_by b c l u (Root s)).loads s ≡ slice_get l.loads s
    same true c = refl
    same false true = refl
    same false false = refl

    by : (b c : Bool) → has l.asked u ≡ b → IsWhole (ask_by b c l u (Root s))
    by b c d = whole_of s (ask_by b c l u (Root s)) (others_on s l (ask_by b c l u (Root s)) (framed_ask b c l s u (Root s)) o) (record {
      complete = λ start k. let is = same b c in cc;
      goes_on = λ stop start v k. let is = same b c in cc;
      asked = λ stop k. (u, asked_for b c l u (Root s) d stop);
    })

import_whole : {h k : Host} {referrer : Url} {specifier : Text} {promise : ℕ} → IsWhole h.imports → Imports h referrer specifier promise k → IsWhole k.imports
import_whole {h} w (Imports.limit full) = whole_on h.imports _ refl refl (λ k. record { entries = refl; unlinked = λ x h. h; pending = λ u a of p. p; stopped = λ h. cc; load = refl }) w
import_whole {h} w (Imports.unresolved f room r) = whole_on h.imports _ refl refl (λ k. record { entries = refl; unlinked = λ x h. h; pending = λ u a of p. p; stopped = λ h. h; load = refl }) w
import_whole {h} {promise = promise} w (Imports.asks u room r n) = asked_whole (add_load (counted h) promise).imports (next_load h) u (push_own h.imports.loads Asked) (added_others h promise w)
import_whole {h} {promise = promise} w (Imports.answers u e room r g q) = root_answered {h = add_load (counted h) promise} g (added_others h promise w) q

-- ---- the end of a fetch

module _ (l : Loading) (u : Url) (e : TableEntry) (none : l.entries u ≡ None) where
  abbrev stored_is : Loading
  stored_is = with_entry l u e

  -- a module's entry stays
  stays : (x : Url) → is_module (l.entries x) ≡ true → stored_is.entries x ≡ l.entries x
  stays x h = by (cases (same_url u x))
    where
      by : (same_url u x ≡ true) ⊎ (same_url u x ≡ false) → put_at l.entries u (Some e) x ≡ l.entries x
      by (inl s) = let is : l.entries x ≡ None = subst (λ v. l.entries v ≡ None) (same_text u x s) none in let no : is_module (l.entries x) ≡ false = ap is_module is in cc
      by (inr s) = put_other l.entries u x (Some e) s

  stored_followed : (s : ℕ) (v : Url → Bool) (x : Url) (i : ℕ) (ts : List Url) → AreFollowed l s v x i ts → AreFollowed stored_is s v x i ts
  stored_followed s v x i [] h = tt
  stored_followed s v x i (t ∷ ts) h = (h.0, stored_followed s v x (suc i) ts h.1)

  stored_visited : (s : ℕ) (v : Url → Bool) (x : Url) → IsVisited l s v x → IsVisited stored_is s v x
  stored_visited s v x h = let same = stays x h.stands in record {
    stands = ap is_module same ∙ h.stands;
    targets_are = subst (λ o. AreFollowed stored_is s v x 0 (targets_in o)) (sym same) (stored_followed s v x 0 (targets l x) h.targets_are);
  }

  stored_loaded : (x : Url) → IsLoaded l x → IsLoaded stored_is x
  stored_loaded x h = let same = stays x h.stands in record {
    stands = ap is_module same ∙ h.stands;
    targets_are = subst (λ o. AreUnlinked stored_is (targets_in o)) (sym same) (unlinked_on l stored_is (targets l x) (λ y k. k) h.targets_are);
  }

  stored_goes : (s : ℕ) (start : Url) (v : Url → Bool) → GoesOn l s start v → GoesOn stored_is s start v
  stored_goes s start v h = record {
    known = h.known;
    visits = λ x k. stored_visited s v x (h.visits x k);
    awaits = let a = h.awaits in record { url = a.url; pending_request = a.pending_request; of_load = a.of_load; is = a.is };
  }

  stored_whole : IsWhole l → IsWhole stored_is
  stored_whole w = record {
    loaded = λ x k. stored_loaded x (w.loaded x k);
    each = λ s. let h = w.each s in record { complete = h.complete; goes_on = λ stop start v k. stored_goes s start v (h.goes_on stop start v k); asked = h.asked };
  }

found_whole : (h : Host) (u : Url) (f : Found) → h.imports.entries u ≡ None → IsWhole h.imports → IsWhole (put_found h u f).imports
found_whole h u Nothing n w = stored_whole h.imports u Failed n w
found_whole h u (Script m) n w = stored_whole h.imports u (Module m) n w
found_whole h u (Faulty f) n w = stored_whole h.imports u _ n w

store_whole : (s : Option Limit) (h : Host) (u : Url) (c : OutcomeView) → h.imports.entries u ≡ None → IsWhole h.imports → IsWhole (store_by s h u c).imports
store_whole None h u c n w = found_whole h u (found h.imports.maps h.imports.built u c) n w
store_whole (Some limit) h u c n w = w

counted_whole : (b : Bool) (l : Loading) (bytes : ℕ) → IsWhole l → IsWhole (count_by b l bytes)
counted_whole true l bytes w = whole_on l _ refl refl (λ k. record { entries = refl; unlinked = λ x h. h; pending = λ u a of p. p; stopped = λ h. cc; load = refl }) w
counted_whole false l bytes w = whole_on l _ refl refl (λ k. record { entries = refl; unlinked = λ x h. h; pending = λ u a of p. p; stopped = λ h. h; load = refl }) w

fetched_whole : (b : Bool) (h : Host) (u : Url) (c : OutcomeView) → h.imports.entries u ≡ None → IsWhole h.imports → IsWhole (store_by (count_by b h.imports (bytes_of c)).stopped (with_loading h (count_by b h.imports (bytes_of c))) u c).imports
fetched_whole true h u c n w = counted_whole true h.imports (bytes_of c) w
fetched_whole false h u c n w = store_whole h.imports.stopped (with_loading h (count_by false h.imports (bytes_of c))) u c n (counted_whole false h.imports (bytes_of c) w)

-- ---- the opening

opening_whole : (maps : Maps) (built : List Item → Bool) (entry : Url) → IsWhole (opening_host maps built entry).imports
opening_whole maps built entry = record { loaded = λ x h. cc; each = each }
  where
    each : (s : ℕ) → IsLoadWhole (opening_host maps built entry).imports s
    each zero = record {
      complete = λ start e. cc;
      goes_on = λ stop start v e. cc;
      asked = λ stop e. (entry, (or_left (same_url entry entry) false (own_text entry), subst (λ rs. Contains rs (Root 0)) (sym (put_own (λ u. []) entry (Root 0 ∷ []))) (contains_here (Root 0) [])));
    }
    each (suc s) = record { complete = λ start e. cc; goes_on = λ stop start v e. cc; asked = λ stop e. cc }

pub stays_whole : StaysWhole
stays_whole = record {
  opening = opening_whole;
  next = λ before after w q. next_whole before after w q;
  imports = λ before after referrer specifier promise w q. import_whole w q;
  fetched = λ before u c w n. fetched_whole (nat_lt 16777216 (before.imports.bytes + bytes_of c)) before u c n w;
}

-- ---- where nothing is left

none_open : (l : Loading) (us : List Url) (u : Url) → filter (λ v. is_fetching (l.entries v)) us ≡ [] → has us u ≡ true → l.entries u ≡ None → ⊥
none_open l [] u e h n = cc
none_open l (v ∷ vs) u e h n = by (is_fetching (l.entries v)) refl e (or_cases (same_url u v) (has vs u) h) (λ e k. none_open l vs u e k n)
  where
    by : (b : Bool) → is_fetching (l.entries v) ≡ b → filter (λ w. is_fetching (l.entries w)) (v ∷ vs) ≡ [] → (same_url u v ≡ true) ⊎ (has vs u ≡ true) → (filter (λ w. is_fetching (l.entries w)) vs ≡ [] → has vs u ≡ true → ⊥) → ⊥
    by true g e h rest = cc (rw g at e)
    by false g e (inl s) rest = let is : is_fetching (l.entries v) ≡ true = ap is_fetching (subst (λ w. l.entries w ≡ None) (same_text u v s) n) in cc
    by false g e (inr k) rest = rest (rw g at e) k

nothing_pending : (l : Loading) (u : Url) (a : PendingRequest) → next l ≡ None → open_asks l ≡ [] → IsPending l u a → ⊥
nothing_pending l u a n e p = by (nothing_in l l.asked u (first_pending.none l n) p.0)
  where
    by : HasNothing l u → ⊥
    by (inl none) = none_open l l.asked u e p.0 none
    by (inr empty) = contains_none a (subst (λ rs. Contains rs a) empty p.1)

pub loads_end : LoadsEnd
loads_end l s state w stop n e k = by state k
  where
    by : (state : LoadState) → slice_get l.loads s ≡ Some state → HasEnded state
    by Asked k = let q = (w.each s).asked stop k in nothing_pending l q.0 (Root s) n e q.1
    by (Open start v) k = let a = ((w.each s).goes_on stop start v k).awaits in nothing_pending l a.url a.pending_request n e a.is
    by (LoadComplete start) k = tt
    by (Thrown thrown) k = tt

-- ---- the Unlinked modules are a closed graph

in_filter : (test : Url → Bool) (us : List Url) (x : Url) → has us x ≡ true → test x ≡ true → has (filter test us) x ≡ true
in_filter test [] x h k = cc
in_filter test (u ∷ us) x h k = by (test u) refl (or_cases (same_url x u) (has us x) h) (λ i. in_filter test us x i k)
  where
    by : (b : Bool) → test u ≡ b → (same_url x u ≡ true) ⊎ (has us x ≡ true) → (has us x ≡ true → has (filter test us) x ≡ true) → has (cond (test u) (u ∷ filter test us) (filter test us)) x ≡ true
    by true e (inl s) rest = rw e (or_left (same_url x u) (has (filter test us) x) s)
    by true e (inr i) rest = rw e (or_true (same_url x u) (has (filter test us) x) (rest i))
    by false e (inl s) rest = let is : test u ≡ true = subst (λ v. test v ≡ true) (same_text x u s) k in cc
    by false e (inr i) rest = rw e (rest i)

filter_only : (test : Url → Bool) (us : List Url) (x : Url) → has (filter test us) x ≡ true → test x ≡ true
filter_only test [] x h = cc
filter_only test (u ∷ us) x h = by (test u) refl h (filter_only test us x)
  where
    own : test u ≡ true → (same_url x u ≡ true) ⊎ (has (filter test us) x ≡ true) → (has (filter test us) x ≡ true → test x ≡ true) → test x ≡ true
    own e (inl s) rest = subst (λ v. test v ≡ true) (sym (same_text x u s)) e
    own e (inr i) rest = rest i

    by : (b : Bool) → test u ≡ b → has (cond (test u) (u ∷ filter test us) (filter test us)) x ≡ true → (has (filter test us) x ≡ true → test x ≡ true) → test x ≡ true
    by true e h rest = own e (or_cases (same_url x u) (has (filter test us) x) (rw e at h)) rest
    by false e h rest = rest (rw e at h)

module_fetched : (o : Option TableEntry) → is_module o ≡ true → is_fetching o ≡ false
module_fetched None h = cc
module_fetched (Some e) h = refl

unlinked_there : (l : Loading) (x : Url) → IsOrderly l → IsWhole l → l.unlinked x ≡ true → has (unlinked_modules l) x ≡ true
unlinked_there l x o w h = in_filter l.unlinked l.asked x (o.fetched x (module_fetched (l.entries x) (w.loaded x h).stands)) h

among_unlinked : (l : Loading) (ts : List Url) (t : Url) → AreUnlinked l ts → has ts t ≡ true → l.unlinked t ≡ true
among_unlinked l [] t h k = cc
among_unlinked l (u ∷ us) t h k = by (or_cases (same_url t u) (has us t) k) (among_unlinked l us t h.1)
  where
    by : (same_url t u ≡ true) ⊎ (has us t ≡ true) → (has us t ≡ true → l.unlinked t ≡ true) → l.unlinked t ≡ true
    by (inl s) rest = subst (λ v. l.unlinked v ≡ true) (sym (same_text t u s)) h.0
    by (inr i) rest = rest i

complete_state : (o : Option LoadState) (start : Url) → root_in o ≡ Some start → o ≡ Some (LoadComplete start)
complete_state None start e = cc
complete_state (Some Asked) start e = cc
complete_state (Some (Open r v)) start e = cc
complete_state (Some (LoadComplete r)) start e = let same : r ≡ start = cc in ap (λ u. Some (LoadComplete u)) same
complete_state (Some (Thrown t)) start e = cc

pub unlinked_is_closed : UnlinkedIsClosed
unlinked_is_closed = record {
  all = unlinked_there;
  only = λ l x h. filter_only l.unlinked l.asked x h;
  closed = λ l o w x h t k. unlinked_there l t o w (among_unlinked l (targets l x) t (w.loaded x (filter_only l.unlinked l.asked x h)).targets_are k);
  root = λ l s start o w e. unlinked_there l start o w ((w.each s).complete start (complete_state (slice_get l.loads s) start e));
}
