-- The steps of entering a module, over plain values.
use Rattle.std.proofs.Common.{◌≡◌, ℕ, suc, zero, ◌+◌, ◌≤◌, true, List, [], ◌∷◌, Some, None, length, drop, refl, ap, subst, sym, ◌∙◌, add-one}
use Rattle.std.specs.Prelude.{slice_get}
use Rattle.std.proofs.lemmas.List.{drop_all}
use Rattle.esm_base.specs.declared.limits.Limit.{Limit}
use Rattle.esm_base.specs.Urls.{Url}
use Rattle.esm_loads.specs.UrlTable.{TableEntry, Throw, thrown_by}
use Rattle.esm_loads.specs.Loading.{Loading, Request, OpenLoad, open_load, open_load_in, visit, ask, throw, targets, is_fresh}
use Rattle.esm_loads.specs.Load.{Enters, Asks}
use Rattle.esm_loads.specs.Load.Enters.{enters}
use Rattle.esm_loads.specs.Load.Asks.{no_more, over, waits, throws, loads}

drop_at : (ts : List Url) (i : ℕ) (t : Url) → slice_get ts i ≡ Some t → drop i ts ≡ t ∷ drop (suc i) ts
drop_at [] i t e = cc
drop_at (u ∷ us) zero t e = let same : u ≡ t = cc in ap (λ u. u ∷ us) same
drop_at (u ∷ us) (suc i) t e = drop_at us i t e

asks_over : {l : Loading} {s i : ℕ} {x : Url} (ts : List Url) → open_load l s ≡ None → Asks l s x i ts l
asks_over [] h = no_more
asks_over (t ∷ ts) h = over h

asks_ended : {l m : Loading} {s i : ℕ} {x : Url} {ts : List Url} → open_load l s ≡ None → Asks l s x i ts m → m ≡ l
asks_ended h no_more = refl
asks_ended h (over n) = refl
asks_ended h (waits o n g q) = cc
asks_ended h (throws o e text n g k) = cc
asks_ended h (loads o e n g k v q) = cc

pub stopped_ended : (l : Loading) (s : ℕ) (k : Limit) → l.stopped ≡ Some k → open_load l s ≡ None
stopped_ended l s k e = ap (λ o. open_load_in o (slice_get l.loads s)) e

pub begun : (l v : Loading) (s : ℕ) (x : Url) (o : OpenLoad) → open_load l s ≡ Some o → is_fresh l o.1 x ≡ true → v ≡ visit l s o x → (m : Loading) → Asks v s x 0 (targets l x) m → Enters l s x m
begun l v s x o h f e m q = enters o h f (subst (λ v. Asks v s x 0 (targets l x) m) e q)

module _ (l : Loading) (s : ℕ) (x : Url) (ts : List Url) (i : ℕ) where
  pub stood_over : open_load l s ≡ None → Asks l s x i (drop i ts) l
  stood_over h = asks_over (drop i ts) h

  pub asks_done : length ts ≤ i → Asks l s x i (drop i ts) l
  asks_done le = rw drop_all no_more

module _ (l : Loading) (s : ℕ) (x : Url) (ts : List Url) (i : ℕ) (t : Url) (at : slice_get ts i ≡ Some t) (o : OpenLoad) (open_is : open_load l s ≡ Some o) where
  from_cons : (m : Loading) → Asks l s x i (t ∷ drop (suc i) ts) m → Asks l s x i (drop i ts) m
  from_cons m q = rw (drop_at ts i t at) q

  pub asked_next : (v m : Loading) → l.entries t ≡ None → v ≡ ask l t (Request s x i) → Asks v s x (i + 1) (drop (i + 1) ts) m → Asks l s x i (drop i ts) m
  asked_next v m h e q = from_cons m (waits o open_is h (subst (λ v. Asks v s x (suc i) (drop (suc i) ts) m) e (rw add-one at q)))

  pub asked_stops : (limit : Limit) → l.entries t ≡ None → (ask l t (Request s x i)).stopped ≡ Some limit → Asks l s x i (drop i ts) (ask l t (Request s x i))
  asked_stops limit h e = from_cons _ (waits o open_is h (asks_over (drop (suc i) ts) (stopped_ended (ask l t (Request s x i)) s limit e)))

  pub threw_next : (v m : Loading) (e : TableEntry) (text : Throw) → l.entries t ≡ Some e → thrown_by t e ≡ Some text → v ≡ throw l s text → open_load v s ≡ None → Asks v s x (i + 1) (drop (i + 1) ts) m → Asks l s x i (drop i ts) m
  threw_next v m e text h g f k q =
      let same : m ≡ throw l s text = asks_ended k q ∙ f in
      from_cons m (subst (λ m. Asks l s x i (t ∷ drop (suc i) ts) m) (sym same) (throws o e text open_is h g))

  pub loaded_next : (v m : Loading) (e : TableEntry) → l.entries t ≡ Some e → thrown_by t e ≡ None → Enters l s t v → Asks v s x (i + 1) (drop (i + 1) ts) m → Asks l s x i (drop i ts) m
  loaded_next v m e h g f q = from_cons m (loads o e open_is h g f (rw add-one at q))

  pub loaded_stops : (m : Loading) (limit : Limit) (e : TableEntry) → l.entries t ≡ Some e → thrown_by t e ≡ None → Enters l s t m → m.stopped ≡ Some limit → Asks l s x i (drop i ts) m
  loaded_stops m limit e h g f k = from_cons m (loads o e open_is h g f (asks_over (drop (suc i) ts) (stopped_ended m s limit k)))
