-- What entering a module leaves of the other loads, and what it adds to its own.
use Rattle.std.proofs.Common.{◌≡◌, ℕ, suc, Bool, true, false, List, [], ◌∷◌, ◌++◌, length, Some, None, Contains, refl, ap, subst, sym, ◌∙◌, inl, inr}
use Rattle.std.specs.Prelude.{◌⊎◌, ◌||◌, not, nat_lt, slice_get, slice_set}
use Rattle.esm_base.specs.Urls.{Url, has, same_url}
use Rattle.esm_realm.proofs.Urls.{cases, same_text, own_text, or_left, or_true, has_append}
use Rattle.esm_loads.specs.UrlTable.{Entries, TableEntry, Failed, Broken, Module, Throw, thrown_by, targets_in, put_at, with_url}
use Rattle.esm_loads.specs.Loading.{Loading, Asked, Open, LoadComplete, Thrown, PendingRequest, Request, OpenLoad, open_load, ask_by, throw, visit, targets}
use Rattle.esm_loads.specs.Load.{Enters, Asks}
use Rattle.esm_loads.specs.Load.Enters.{ended, known, enters}
use Rattle.esm_loads.specs.Load.Asks.{no_more, over, waits, throws, loads}
use Rattle.esm_loads.specs.Whole.{is_module, IsPending, IsKnown, AreFollowed, IsVisited}
use Rattle.esm_loads.proofs.Limits.{live}
use Rattle.esm_loads.proofs.HasLoad.{opened_visit, opened_throw}
use Rattle.esm_loads.proofs.Orderly.{put_own, put_other}
use Rattle.esm_loads.proofs.Requests.{contains_more, contains_last, set_other, set_own, length_set}

-- ---- the other loads, and the table

-- the load has begun, and hasn't ended with all modules loaded
abbrev pub HasBegun : Loading → ℕ → Type 0
HasBegun l s = ((slice_get l.loads s ≡ Some Asked) → ⊥) × ((start : Url) → slice_get l.loads s ≡ Some (LoadComplete start) → ⊥)

pub record Framed (s : ℕ) (l m : Loading) : Type 0 where
  pub entries : m.entries ≡ l.entries
  pub unlinked : m.unlinked ≡ l.unlinked
  pub purposes : m.purposes ≡ l.purposes
  pub size : length m.loads ≡ length l.loads
  pub pending : (u : Url) (a : PendingRequest) → IsPending l u a → IsPending m u a
  pub others : (k : ℕ) → (k ≡ s → ⊥) → slice_get m.loads k ≡ slice_get l.loads k
  pub stopped : m.stopped ≡ None → l.stopped ≡ None
  pub begun : HasBegun l s → HasBegun m s

pub framed_same : (s : ℕ) (l : Loading) → Framed s l l
framed_same s l = record { entries = refl; unlinked = refl; purposes = refl; size = refl; pending = λ u a h. h; others = λ k n. refl; stopped = λ h. h; begun = λ h. h }

pub framed_on : {s : ℕ} {l m n : Loading} → Framed s l m → Framed s m n → Framed s l n
framed_on a b = record {
  entries = b.entries ∙ a.entries;
  unlinked = b.unlinked ∙ a.unlinked;
  purposes = b.purposes ∙ a.purposes;
  size = b.size ∙ a.size;
  pending = λ u r h. b.pending u r (a.pending u r h);
  others = λ k n. b.others k n ∙ a.others k n;
  stopped = λ h. a.stopped (b.stopped h);
  begun = λ h. b.begun (a.begun h);
}

-- a load that begins, visits or throws
pub framed_open : (l : Loading) (s : ℕ) (start : Url) (visited : Url → Bool) → Framed s l (record l { loads = slice_set l.loads s (Open start visited) })
framed_open l s start visited = record {
  entries = refl;
  unlinked = refl;
  purposes = refl;
  size = length_set l.loads s _;
  pending = λ u a h. h;
  others = λ k n. set_other l.loads s k _ n;
  stopped = λ h. h;
  begun = λ h. (λ e. let is = set_own l.loads s (Open start visited) Asked e in cc, λ r e. let is = set_own l.loads s (Open start visited) (LoadComplete r) e in cc);
}

pub begun_open : (l : Loading) (s : ℕ) (start : Url) (visited : Url → Bool) → HasBegun (record l { loads = slice_set l.loads s (Open start visited) }) s
begun_open l s start visited = (λ e. let is = set_own l.loads s (Open start visited) Asked e in cc, λ r e. let is = set_own l.loads s (Open start visited) (LoadComplete r) e in cc)

pub framed_throw : (l : Loading) (s : ℕ) (thrown : Throw) → Framed s l (throw l s thrown)
framed_throw l s thrown = record {
  entries = refl;
  unlinked = refl;
  purposes = refl;
  size = length_set l.loads s _;
  pending = λ u a h. h;
  others = λ k n. set_other l.loads s k _ n;
  stopped = λ h. h;
  begun = λ h. (λ e. let is = set_own l.loads s (Thrown thrown) Asked e in cc, λ r e. let is = set_own l.loads s (Thrown thrown) (LoadComplete r) e in cc);
}

pub begun_throw : (l : Loading) (s : ℕ) (thrown : Throw) → HasBegun (throw l s thrown) s
begun_throw l s thrown = (λ e. let is = set_own l.loads s (Thrown thrown) Asked e in cc, λ r e. let is = set_own l.loads s (Thrown thrown) (LoadComplete r) e in cc)

-- one request more leaves the others pending
still_there : (P : Url → List PendingRequest) (t u : Url) (a b : PendingRequest) → Contains (P u) b → Contains (put_at P t (P t ++ a ∷ []) u) b
still_there P t u a b c = by (cases (same_url t u))
  where
    by : (same_url t u ≡ true) ⊎ (same_url t u ≡ false) → Contains (put_at P t (P t ++ a ∷ []) u) b
    by (inl s) = subst (λ v. Contains (P v) b → Contains (put_at P t (P t ++ a ∷ []) v) b) (same_text t u s) (λ c. subst (λ rs. Contains rs b) (sym (put_own P t (P t ++ a ∷ []))) (contains_more (P t) (a ∷ []) b c)) c
    by (inr s) = subst (λ rs. Contains rs b) (sym (put_other P t u (P t ++ a ∷ []) s)) c

now_there : (P : Url → List PendingRequest) (t : Url) (a : PendingRequest) → Contains (put_at P t (P t ++ a ∷ []) t) a
now_there P t a = subst (λ rs. Contains rs a) (sym (put_own P t (P t ++ a ∷ []))) (contains_last (P t) a)

pub framed_ask : (b c : Bool) (l : Loading) (s : ℕ) (t : Url) (a : PendingRequest) → Framed s l (ask_by b c l t a)
framed_ask true c l s t a = record { entries = refl; unlinked = refl; purposes = refl; size = refl; pending = λ u r h. (h.0, still_there l.pending t u a r h.1); others = λ k n. refl; stopped = λ h. h; begun = λ h. h }
framed_ask false true l s t a = record { entries = refl; unlinked = refl; purposes = refl; size = refl; pending = λ u r h. (has_append l.asked (t ∷ []) u ∙ or_left (has l.asked u) _ h.0, still_there l.pending t u a r h.1); others = λ k n. refl; stopped = λ h. h; begun = λ h. h }
framed_ask false false l s t a = record { entries = refl; unlinked = refl; purposes = refl; size = refl; pending = λ u r h. h; others = λ k n. refl; stopped = λ h. cc; begun = λ h. h }

-- what is asked for is pending, unless a limit stops it
pub asked_for : (b c : Bool) (l : Loading) (t : Url) (a : PendingRequest) → has l.asked t ≡ b → (ask_by b c l t a).stopped ≡ None → IsPending (ask_by b c l t a) t a
asked_for true c l t a e h = (e, now_there l.pending t a)
asked_for false true l t a e h = (has_append l.asked (t ∷ []) t ∙ or_true (has l.asked t) _ (or_left (same_url t t) false (own_text t)), now_there l.pending t a)
asked_for false false l t a e h = cc

mutual
  pub enters_framed : {l m : Loading} {s : ℕ} {x : Url} → Enters l s x m → Framed s l m
  enters_framed {l} {s = s} (ended n) = framed_same s l
  enters_framed {l} {s = s} (known o e f) = framed_same s l
  enters_framed {l} {s = s} {x = x} (enters o e f q) = framed_on (framed_open l s o.0 (with_url o.1 x)) (asks_framed q)

  pub asks_framed : {l m : Loading} {s i : ℕ} {x : Url} {ts : List Url} → Asks l s x i ts m → Framed s l m
  asks_framed {l} {s = s} no_more = framed_same s l
  asks_framed {l} {s = s} (over n) = framed_same s l
  asks_framed {l} {s = s} (waits {i = i} {x = x} {t = t} o e g q) = framed_on (framed_ask (has l.asked t) (nat_lt (length l.asked) 4096) l s t (Request s x i)) (asks_framed q)
  asks_framed {l} {s = s} (throws o e thrown h g k) = framed_throw l s thrown
  asks_framed (loads o e h g k v q) = framed_on (enters_framed v) (asks_framed q)

-- ---- what the load itself has visited

-- what is visited stays so, and each module that is visited newly has its targets known or waited for
pub record Grown (s : ℕ) (l : Loading) (o : OpenLoad) (m : Loading) (p : OpenLoad) : Type 0 where
  pub framed : Framed s l m
  pub start : p.0 ≡ o.0
  pub more : (x : Url) → o.1 x ≡ true → p.1 x ≡ true
  pub new : (x : Url) → p.1 x ≡ true → o.1 x ≡ false → IsVisited m s p.1 x

not_or : (a a' b : Bool) → (a ≡ true → a' ≡ true) → not (a || b) ≡ false → not (a' || b) ≡ false
not_or true true b h n = refl
not_or true false b h n = let e = h refl in cc
not_or false true b h n = refl
not_or false false b h n = n

pub known_on : (l m : Loading) (v w : Url → Bool) (x : Url) → m.unlinked ≡ l.unlinked → (v x ≡ true → w x ≡ true) → IsKnown l v x → IsKnown m w x
known_on l m v w x e f h = not_or (v x) (w x) _ f (subst (λ k. not (v x || k x) ≡ false) (sym e) h)

pub followed_on : (s : ℕ) (l m : Loading) (v w : Url → Bool) (x : Url) (i : ℕ) (ts : List Url) → Framed s l m → ((y : Url) → v y ≡ true → w y ≡ true) → AreFollowed l s v x i ts → AreFollowed m s w x i ts
followed_on s l m v w x i [] a f h = tt
followed_on s l m v w x i (t ∷ ts) a f h = (one h.0, followed_on s l m v w x (suc i) ts a f h.1)
  where
    one : IsKnown l v t ⊎ IsPending l t (Request s x i) → IsKnown m w t ⊎ IsPending m t (Request s x i)
    one (inl k) = inl (known_on l m v w t a.unlinked (f t) k)
    one (inr p) = inr (a.pending t _ p)

pub visited_on : (s : ℕ) (l m : Loading) (v w : Url → Bool) (x : Url) → Framed s l m → ((y : Url) → v y ≡ true → w y ≡ true) → IsVisited l s v x → IsVisited m s w x
visited_on s l m v w x a f h = record {
  stands = subst (λ (es : Entries). is_module (es x) ≡ true) (sym a.entries) h.stands;
  targets_are = subst (λ (es : Entries). AreFollowed m s w x 0 (targets_in (es x))) (sym a.entries) (followed_on s l m v w x 0 (targets l x) a f h.targets_are);
}

pub grown_same : (s : ℕ) (l : Loading) (o : OpenLoad) → Grown s l o l o
grown_same s l o = record { framed = framed_same s l; start = refl; more = λ x h. h; new = λ x h n. cc }

pub grown_on : {s : ℕ} {l m n : Loading} {o p q : OpenLoad} → Grown s l o m p → Grown s m p n q → Grown s l o n q
grown_on {s} {l} {m} {n} {o} {p} {q} a b = record { framed = framed_on a.framed b.framed; start = b.start ∙ a.start; more = λ x h. b.more x (a.more x h); new = λ x h k. by x h k (cases (p.1 x)) }
  where
    by : (x : Url) → q.1 x ≡ true → o.1 x ≡ false → (p.1 x ≡ true) ⊎ (p.1 x ≡ false) → IsVisited n s q.1 x
    by x h k (inl t) = visited_on s m n p.1 q.1 x b.framed b.more (a.new x t k)
    by x h k (inr f) = b.new x h f

grown_from : {s : ℕ} {l m : Loading} {o p q : OpenLoad} → p ≡ o → Grown s l p m q → Grown s l o m q
grown_from {s} {l} {m} {o} {p} {q} e g = subst (λ o. Grown s l o m q) e g

pub record Entered (l : Loading) (s : ℕ) (x : Url) (m : Loading) (p : OpenLoad) : Type 0 where
  pub from : OpenLoad
  pub is : open_load l s ≡ Some from
  pub grown : Grown s l from m p
  pub known : IsKnown m p.1 x

pub record AskedAll (l : Loading) (s : ℕ) (x : Url) (i : ℕ) (ts : List Url) (m : Loading) (p : OpenLoad) : Type 0 where
  pub from : OpenLoad
  pub is : open_load l s ≡ Some from
  pub grown : Grown s l from m p
  pub followed : AreFollowed m s p.1 x i ts

with_own : (v : Url → Bool) (x : Url) → with_url v x x ≡ true
with_own v x = put_own v x true

with_more : (v : Url → Bool) (x y : Url) → v y ≡ true → with_url v x y ≡ true
with_more v x y h = by (cases (same_url x y))
  where
    by : (same_url x y ≡ true) ⊎ (same_url x y ≡ false) → with_url v x y ≡ true
    by (inl s) = subst (λ z. with_url v x z ≡ true) (same_text x y s) (with_own v x)
    by (inr s) = put_other v x y true s ∙ h

-- a URL that was added is the one that was added
with_new : (v : Url → Bool) (x y : Url) → with_url v x y ≡ true → v y ≡ false → x ≡ y
with_new v x y h n = by (cases (same_url x y))
  where
    by : (same_url x y ≡ true) ⊎ (same_url x y ≡ false) → x ≡ y
    by (inl s) = same_text x y s
    by (inr s) = let e = put_other v x y true s in cc

-- x itself is new where the load enters it
entered : (l m : Loading) (s : ℕ) (x : Url) (o p : OpenLoad) → is_module (l.entries x) ≡ true → open_load l s ≡ Some o → AskedAll (visit l s o x) s x 0 (targets l x) m p → Entered l s x m p
entered l m s x o p stands e r =
    let h = opened_visit l s o x e in
    let same : r.from ≡ (o.0, with_url o.1 x) = cc (r.is, h) in
    let g : Grown s (visit l s o x) (o.0, with_url o.1 x) m p = grown_from same r.grown in
    record {
      from = o;
      is = e;
      grown = record {
        framed = framed_on (framed_open l s o.0 (with_url o.1 x)) g.framed;
        start = g.start;
        more = λ y k. g.more y (with_more o.1 x y k);
        new = λ y k n. by g y k n (cases (with_url o.1 x y));
      };
      known = ap (λ b. not (b || m.unlinked x)) (g.more x (with_own o.1 x));
    }
  where
    own : Grown s (visit l s o x) (o.0, with_url o.1 x) m p → IsVisited m s p.1 x
    own g = record {
      stands = subst (λ (es : Entries). is_module (es x) ≡ true) (sym g.framed.entries) stands;
      targets_are = subst (λ (es : Entries). AreFollowed m s p.1 x 0 (targets_in (es x))) (sym g.framed.entries) r.followed;
    }

    by : Grown s (visit l s o x) (o.0, with_url o.1 x) m p → (y : Url) → p.1 y ≡ true → o.1 y ≡ false → (with_url o.1 x y ≡ true) ⊎ (with_url o.1 x y ≡ false) → IsVisited m s p.1 y
    by g y k n (inr f) = g.new y k f
    by g y k n (inl t) = subst (λ z. IsVisited m s p.1 z) (with_new o.1 x y t n) (own g)

-- an ask that isn't stopped leaves the load as it was
ask_open : (b c : Bool) (l : Loading) (s : ℕ) (t : Url) (a : PendingRequest) (o p : OpenLoad) → open_load l s ≡ Some o → open_load (ask_by b c l t a) s ≡ Some p → p ≡ o
ask_open true c l s t a o p e f = cc
ask_open false true l s t a o p e f = cc
ask_open false false l s t a o p e f = cc

waited : (l m : Loading) (s i : ℕ) (x t : Url) (ts : List Url) (o p : OpenLoad) (b c : Bool) → has l.asked t ≡ b → open_load l s ≡ Some o → AskedAll (ask_by b c l t (Request s x i)) s x (suc i) ts m p → AskedAll l s x i (t ∷ ts) m p
waited l m s i x t ts o p b c d e r =
    let a = ask_by b c l t (Request s x i) in
    let same : r.from ≡ o = ask_open b c l s t (Request s x i) o r.from e r.is in
    let g : Grown s a o m p = grown_from same r.grown in
    let f = framed_ask b c l s t (Request s x i) in
    let going : a.stopped ≡ None = (live a.stopped (slice_get a.loads s) r.is).0 in
    let there : IsPending a t (Request s x i) = asked_for b c l t (Request s x i) d going in
    record {
      from = o;
      is = e;
      grown = record { framed = framed_on f g.framed; start = g.start; more = g.more; new = g.new };
      followed = (inr (g.framed.pending t _ there), r.followed);
    }

module_by : (t : Url) (e : TableEntry) → thrown_by t e ≡ None → is_module (Some e) ≡ true
module_by t Failed h = cc
module_by t (Broken error) h = cc
module_by t (Module m) h = refl

pub stands_by : (l : Loading) (t : Url) (e : TableEntry) → l.entries t ≡ Some e → thrown_by t e ≡ None → is_module (l.entries t) ≡ true
stands_by l t e g k = ap is_module g ∙ module_by t e k

mutual
  pub enters_grow : {l m : Loading} {s : ℕ} {x : Url} → Enters l s x m → (p : OpenLoad) → is_module (l.entries x) ≡ true → open_load m s ≡ Some p → Entered l s x m p
  enters_grow (ended n) p st f = cc
  enters_grow {l} {s = s} {x = x} (known o e n) p st f =
      let same : o ≡ p = cc in
      record { from = o; is = e; grown = subst (λ q. Grown s l o l q) same (grown_same s l o); known = subst (λ (q : OpenLoad). IsKnown l q.1 x) same n }
  enters_grow {l} {m} {s = s} {x = x} (enters o e n q) p st f = entered l m s x o p st e (asks_grow q p f)

  pub asks_grow : {l m : Loading} {s i : ℕ} {x : Url} {ts : List Url} → Asks l s x i ts m → (p : OpenLoad) → open_load m s ≡ Some p → AskedAll l s x i ts m p
  asks_grow {l} {s = s} no_more p f = record { from = p; is = f; grown = grown_same s l p; followed = tt }
  asks_grow (over n) p f = cc
  asks_grow {l} {m} {s = s} (waits {i = i} {x = x} {t = t} {ts = ts} o e n q) p f = waited l m s i x t ts o p (has l.asked t) (nat_lt (length l.asked) 4096) refl e (asks_grow q p f)
  asks_grow {l} {s = s} (throws o e thrown h g k) p f = let n = opened_throw l s thrown o h in cc
  asks_grow {l} {m} (loads {mid = mid} {t = t} o e h g k v q) p f =
      let r = asks_grow q p f in
      let w = enters_grow v r.from (stands_by l t e g k) r.is in
      record { from = w.from; is = w.is; grown = grown_on w.grown r.grown; followed = (inl (known_on mid m r.from.1 p.1 t r.grown.framed.unlinked (r.grown.more t) w.known), r.followed) }
