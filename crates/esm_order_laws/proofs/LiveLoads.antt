-- Where the closure has no more URLs than may be asked for, loading of clean files meets no limit.
use Rattle.std.proofs.Common.{◌≡◌, ℕ, ◌≤◌, Bool, true, false, List, ◌∷◌, length, nat_lt, Option, Some, None, refl, subst, sym, arith}
use Rattle.std.specs.Prelude.{◌||◌}
use Rattle.std.proofs.lemmas.Bool.{lt-ltb}
use Rattle.esm_base.specs.declared.limits.TheConstants.{MAX_URLS}
use Rattle.esm_base.specs.Urls.{Url, has, same_url}
use Rattle.esm_tree.specs.Syntax.{Item}
use Rattle.esm_import_map.specs.ImportMap.{Maps}
use Rattle.esm_ast.specs.Deliveries.{Files}
use Rattle.esm_realm.proofs.Urls.{has_own, or_true, same_text}
use Rattle.esm_realm.proofs.Weigh.{length_within}
use Rattle.esm_loads.specs.UrlTable.{TableEntry, Throw}
use Rattle.esm_loads.specs.Loading.{Loading, PendingRequest, Request, OpenLoad, Purpose, ForEntry, ForImport, open_load, begin, finish, finish_by, has_pending, ask, ask_by, load_of}
use Rattle.esm_loads.specs.Load.{Enters, Asks, Answers}
use Rattle.esm_loads.specs.Load.Enters.{ended, known, enters}
use Rattle.esm_loads.specs.Load.Asks.{no_more, over, waits, throws, loads}
use Rattle.esm_loads.specs.Load.Answers.{no_root, no_module, root, request}
use Rattle.esm_loads.specs.Host.{Host, Answered, begin_load, begin_by, with_loading}
use Rattle.esm_loads.specs.Host.Answered.{answered, late}
use Rattle.esm_loads.specs.Laws.{IsOrderly}
use Rattle.esm_loads.proofs.Orderly.{OrderlyTable, on_ask}
use Rattle.esm_loads.proofs.Tables.{enters_keeps, settled_imports}
use Rattle.esm_world.specs.Direct.{IsClean, AreClosure, itself}
use Rattle.esm_order_laws.proofs.LoadPhase.{In, FineRequest, Going, Early, enters_goes, ask_goes, opens, targets_in_closure, begin_goes, open_goes}

module _ (maps : Maps) (built : List Item → Bool) (files : Files) (entry : Url) (clean : IsClean maps built files entry)
    (ms : List Url) (closure : AreClosure maps built files entry ms) (few : length ms ≤ MAX_URLS) where
  abbrev InC : Url → Type 0
  InC u = In maps built files entry clean u

  abbrev GoingC : Loading → Type 0
  GoingC l = Going maps built files entry clean l

  abbrev EarlyC : Loading → Type 0
  EarlyC l = Early maps built files entry clean l

  abbrev Live : Loading → Type 0
  Live l = l.stopped ≡ None

  -- there is room for a URL of the closure that wasn't asked for
  room : (l : Loading) (t : Url) → InC t → ((u : Url) → has l.asked u ≡ true → InC u) → IsOrderly l → has l.asked t ≡ false → nat_lt (length l.asked) MAX_URLS ≡ true
  room l t inside within orderly new =
      let le = length_within (t ∷ l.asked) ms (new, orderly.once) (λ u h. closure.each u (among u h)) in
      lt-ltb (length l.asked) MAX_URLS (omega (arith, le, few))
    where
      among : (u : Url) → has (t ∷ l.asked) u ≡ true → InC u
      among u h = by (same_url u t) refl h
        where
          by : (b : Bool) → same_url u t ≡ b → (b || has l.asked u) ≡ true → InC u
          by true e k = subst InC (sym (same_text u t e)) inside
          by false e k = within u k

  ask_live : (l : Loading) (t : Url) (a : PendingRequest) → InC t → ((u : Url) → has l.asked u ≡ true → InC u) → IsOrderly l → Live l → Live (ask l t a)
  ask_live l t a inside within orderly live = by (has l.asked t) refl (nat_lt (length l.asked) MAX_URLS) refl
    where
      by : (b : Bool) → has l.asked t ≡ b → (c : Bool) → nat_lt (length l.asked) MAX_URLS ≡ c → Live (ask_by b c l t a)
      by true e c f = live
      by false e true f = live
      by false e false f = let yes = room l t inside within orderly e in cc

  mutual
    enters_live : {l m : Loading} {x : Url} → InC x → GoingC l → IsOrderly l → Live l → Enters l 0 x m → Live m
    enters_live h g o live (ended e) = live
    enters_live h g o live (known a e f) = live
    enters_live {l} {x = x} h g o live (enters a e f q) = asks_live (targets_in_closure maps built files entry clean l x g.base h) (opens maps built files entry clean l g a x e) o live q

    asks_live : {l m : Loading} {i : ℕ} {x : Url} {ts : List Url} → ((t : Url) → has ts t ≡ true → InC t) → GoingC l → IsOrderly l → Live l → Asks l 0 x i ts m → Live m
    asks_live h g o live no_more = live
    asks_live h g o live (over e) = live
    asks_live {l} h g o live (waits {i = i} {x = x} {t = t} {ts = ts} a e n q) =
        let inside = h t (has_own t ts) in
        asks_live (λ u k. h u (or_true (same_url u t) (has ts u) k)) (ask_goes maps built files entry clean (has l.asked t) (nat_lt (length l.asked) MAX_URLS) l t x i inside g)
        (on_ask l t (Request 0 x i) n o) (ask_live l t (Request 0 x i) inside g.base.within o live) q
    asks_live h g o live (throws a e thrown b c d) = live
    asks_live h g o live (loads {t = t} {ts = ts} a e b c d v q) =
        let inside = h t (has_own t ts) in
        asks_live (λ u k. h u (or_true (same_url u t) (has ts u) k)) (enters_goes maps built files entry clean inside g v)
        (enters_keeps OrderlyTable on_ask v o) (enters_live inside g o live v) q

  finish_live : (b : Bool) (o : Option OpenLoad) (l : Loading) (s : ℕ) → Live l → Live (finish_by b o l s)
  finish_live b None l s h = h
  finish_live true (Some o) l s h = h
  finish_live false (Some o) l s h = h

  finished : (l : Loading) (s : ℕ) → Live l → Live (finish l s)
  finished l s h = finish_live (has_pending l s) (open_load l s) l s h

  answers_live : {l m : Loading} {a : PendingRequest} {t : Url} {e : TableEntry} → EarlyC l → IsOrderly l → Live l → InC t → FineRequest maps built files entry clean t a → Answers l a t e m → Live m
  answers_live early o live h fine (no_root thrown k) = live
  answers_live early o live h fine (no_module a thrown k j) = live
  answers_live {l} early o live h fine (root {mid = mid} {s = s} {t = t} k q) =
      let first : Enters (begin l s entry) s entry mid = subst (λ t. Enters (begin l s t) s t mid) fine.1 q in
      let own : Enters (begin l 0 entry) 0 entry mid = subst (λ s. Enters (begin l s entry) s entry mid) fine.0 first in
      finished mid s (enters_live itself (begin_goes maps built files entry clean l early) o live own)
  answers_live {l} early o live h fine (request {mid = mid} {s = s} {t = t} a k j q) =
      let at : open_load l 0 ≡ Some a = subst (λ s. open_load l s ≡ Some a) fine k in
      let own : Enters l 0 t mid = subst (λ s. Enters l s t mid) fine q in
      finished mid s (enters_live h (open_goes maps built files entry clean l early a at) o live own)

  begin_by_live : (h : Host) (s : ℕ) (t : Option Throw) (p : Option Purpose) → Live h.imports → Live (begin_by h s t p).imports
  begin_by_live h s (Some t) p k = k
  begin_by_live h s None None k = k
  begin_by_live h s None (Some (ForEntry q)) k = k
  begin_by_live h s None (Some (ForImport q None)) k = k
  begin_by_live h s None (Some (ForImport q (Some r))) k = k

  -- an answer meets no limit
  pub answered_live : {h k : Host} {a : PendingRequest} {u : Url} {e : TableEntry} → EarlyC h.imports → IsOrderly h.imports → Live h.imports → InC u → FineRequest maps built files entry clean u a
      → begin_load h a u e ≡ h → Answered h a u e k → Live k.imports
  answered_live early o live inside fine begun (late n) = live
  answered_live {h} {a = a} {u = u} {e = e} early o live inside fine begun (answered {l = l} q) =
      let after = answers_live early o live inside fine (subst (λ (k : Host). Answers k.imports a u e l) begun q) in
      subst Live (sym (settled_imports (with_loading (begin_load h a u e) l) (load_of a))) after
