-- Answers to requests meet the limit of URLs alone, and the end of a fetch that of delivered bytes.
use Rattle.std.proofs.Common.{◌≡◌, ◌⊎◌, inr, ℕ, Bool, true, false, List, length, nat_lt, Option, Some, None, refl, subst, sym, ◌∙◌}
use Rattle.std.specs.Prelude.{◌+◌, slice_get}
use Rattle.esm_base.specs.declared.limits.Limit.{Limit}
use Rattle.esm_base.specs.declared.limits.Limit.TheVariants.{L1, L2}
use Rattle.esm_base.specs.declared.limits.TheConstants.{MAX_URLS, MAX_DELIVERED_BYTES}
use Rattle.esm_base.specs.Urls.{Url, has}
use Rattle.esm_ast.specs.Outcome.{OutcomeView}
use Rattle.esm_loads.specs.UrlTable.{TableEntry, Throw, Found, Nothing, Faulty, Script, thrown_by, found}
use Rattle.esm_loads.specs.Loading.{Loading, PendingRequest, Root, Request, OpenLoad, Purpose, ForEntry, ForImport, open_load, finish, finish_by, has_pending, ask_by, load_of}
use Rattle.esm_loads.specs.Load.{Enters, Asks, Answers}
use Rattle.esm_loads.specs.Load.Enters.{ended, known, enters}
use Rattle.esm_loads.specs.Load.Asks.{no_more, over, waits, throws, loads}
use Rattle.esm_loads.specs.Load.Answers.{no_root, no_module, root, request}
use Rattle.esm_loads.specs.Host.{Host, Answered, begin_load, begin_by, with_loading}
use Rattle.esm_loads.specs.Host.Answered.{answered, late}
use Rattle.esm_loads.specs.Arrival.{AnswersNext, after_fetch, store_by, count_by, put_found, bytes_of}
use Rattle.esm_loads.proofs.Tables.{settled_imports}

-- no limit has stopped loading but that of URLs
abbrev pub FewStops : Loading → Type 0
FewStops l = (l.stopped ≡ None) ⊎ (l.stopped ≡ Some L1)

-- ---- an answer

asked_few : (b room : Bool) (l : Loading) (t : Url) (a : PendingRequest) → FewStops l → FewStops (ask_by b room l t a)
asked_few true room l t a f = f
asked_few false true l t a f = f
asked_few false false l t a f = inr refl

mutual
  enters_few : {l m : Loading} {s : ℕ} {x : Url} → FewStops l → Enters l s x m → FewStops m
  enters_few f (ended e) = f
  enters_few f (known o e g) = f
  enters_few f (enters o e g q) = asks_few f q

  asks_few : {l m : Loading} {s i : ℕ} {x : Url} {ts : List Url} → FewStops l → Asks l s x i ts m → FewStops m
  asks_few f no_more = f
  asks_few f (over e) = f
  asks_few {l} {s = s} f (waits {i = i} {x = x} {t = t} o e n q) = asks_few (asked_few (has l.asked t) (nat_lt (length l.asked) MAX_URLS) l t (Request s x i) f) q
  asks_few f (throws o e thrown a b c) = f
  asks_few f (loads o e a b c v q) = asks_few (enters_few f v) q

finish_few : (b : Bool) (o : Option OpenLoad) (l : Loading) (s : ℕ) → FewStops l → FewStops (finish_by b o l s)
finish_few b None l s f = f
finish_few true (Some o) l s f = f
finish_few false (Some o) l s f = f

finished : (l : Loading) (s : ℕ) → FewStops l → FewStops (finish l s)
finished l s f = finish_few (has_pending l s) (open_load l s) l s f

answers_few : {l m : Loading} {a : PendingRequest} {t : Url} {e : TableEntry} → FewStops l → Answers l a t e m → FewStops m
answers_few f (no_root thrown k) = f
answers_few f (no_module o thrown k j) = f
answers_few f (root {mid = mid} {s = s} k q) = finished mid s (enters_few f q)
answers_few f (request {mid = mid} {s = s} o k j q) = finished mid s (enters_few f q)

begin_few : (h : Host) (s : ℕ) (t : Option Throw) (p : Option Purpose) → FewStops h.imports → FewStops (begin_by h s t p).imports
begin_few h s (Some t) p f = f
begin_few h s None None f = f
begin_few h s None (Some (ForEntry q)) f = f
begin_few h s None (Some (ForImport q None)) f = f
begin_few h s None (Some (ForImport q (Some r))) f = f

begun_few : (h : Host) (a : PendingRequest) (u : Url) (e : TableEntry) → FewStops h.imports → FewStops (begin_load h a u e).imports
begun_few h (Root s) u e f = begin_few h s (thrown_by u e) (slice_get h.imports.purposes s) f
begun_few h (Request s x i) u e f = f

answered_few : {h k : Host} {a : PendingRequest} {u : Url} {e : TableEntry} → FewStops h.imports → Answered h a u e k → FewStops k.imports
answered_few f (late n) = f
answered_few {h} {a = a} {u = u} {e = e} f (answered {l = l} q) =
    subst FewStops (sym (settled_imports (with_loading (begin_load h a u e) l) (load_of a))) (answers_few (begun_few h a u e f) q)

pub next_few : (h k : Host) → FewStops h.imports → AnswersNext h k → FewStops k.imports
next_few h k f a = answered_few f a.answered

-- ---- the end of a fetch

put_live : (h : Host) (u : Url) (what : Found) → h.imports.stopped ≡ None → (put_found h u what).imports.stopped ≡ None
put_live h u Nothing live = live
put_live h u (Script m) live = live
put_live h u (Faulty f) live = live

abbrev counted_host : Host → OutcomeView → Host
counted_host h c = with_loading h (record h.imports { bytes = h.imports.bytes + bytes_of c })

abbrev AfterBy : Bool → Host → Url → OutcomeView → Host
AfterBy t h u c = store_by (count_by t h.imports (bytes_of c)).stopped (with_loading h (count_by t h.imports (bytes_of c))) u c

-- where it is stopped, the limit is that of bytes
pub fetch_limit : (h : Host) (u : Url) (c : OutcomeView) (limit : Limit) → h.imports.stopped ≡ None → (after_fetch h u c).imports.stopped ≡ Some limit → (after_fetch h u c).imports.stopped ≡ Some L2
fetch_limit h u c limit live is = by (nat_lt MAX_DELIVERED_BYTES (h.imports.bytes + bytes_of c)) is
  where
    stored : (st : Option Limit) → h.imports.stopped ≡ st → st ≡ None → (store_by st (counted_host h c) u c).imports.stopped ≡ None
    stored None e n = put_live (counted_host h c) u (found h.imports.maps h.imports.built u c) e
    stored (Some l) e n = cc

    by : (t : Bool) → (AfterBy t h u c).imports.stopped ≡ Some limit → (AfterBy t h u c).imports.stopped ≡ Some L2
    by true k = refl
    by false k =
        let none = stored h.imports.stopped refl live in
        let no : ◌≡◌ {A = Option Limit} None (Some limit) = sym none ∙ k in absurd cc
