-- What is Unlinked stays so.
use Rattle.std.proofs.Common.{◌≡◌, ℕ, ◌+◌, Bool, true, false, Option, Some, None, refl, ap, ◌∙◌}
use Rattle.std.specs.Prelude.{nat_lt, List, slice_get}
use Rattle.esm_base.specs.declared.limits.Limit.{Limit}
use Rattle.esm_base.specs.declared.limits.TheConstants.{MAX_DELIVERED_BYTES}
use Rattle.esm_base.specs.Urls.{Url}
use Rattle.esm_ast.specs.Outcome.{OutcomeView}
use Rattle.esm_realm.proofs.Urls.{or_left}
use Rattle.esm_loads.specs.UrlTable.{TableEntry, Throw, thrown_by, Found, Nothing, Faulty, Script, found}
use Rattle.esm_loads.specs.Loading.{Loading, PendingRequest, Root, Request, Purpose, ForEntry, ForImport, OpenLoad, open_load, has_pending, begin, finish_by, load_of}
use Rattle.esm_loads.specs.Load.{Answers}
use Rattle.esm_loads.specs.Load.Answers.{no_root, no_module, root, request}
use Rattle.esm_loads.specs.Host.{Host, with_loading, begin_by, begin_load, Answered}
use Rattle.esm_loads.specs.Host.Answered.{late, answered}
use Rattle.esm_loads.specs.Arrival.{after_fetch, store_by, put_found, count, count_by, bytes_of, AnswersNext}
use Rattle.esm_loads.specs.ImportCall.{Imports}
use Rattle.esm_loads.specs.ImportCall.Imports.{limit, unresolved, asks, answers}
use Rattle.esm_loads.specs.Loading as loading
use Rattle.esm_loads.proofs.Tables.{settled_imports}
use Rattle.esm_loads.proofs.Framed.{enters_framed}
use Rattle.esm_world.specs.Loaded.{UnlinkedStays}

abbrev pub StaysUnlinked : Loading → Loading → Type 0
StaysUnlinked l m = (u : Url) → l.unlinked u ≡ true → m.unlinked u ≡ true

alike : (l m : Loading) → m.unlinked ≡ l.unlinked → StaysUnlinked l m
alike l m e u h = ap (λ (set : Url → Bool). set u) e ∙ h

-- ---- answers

finished : (b : Bool) (o : Option OpenLoad) (l : Loading) (s : ℕ) → StaysUnlinked l (finish_by b o l s)
finished b None l s u h = h
finished true (Some o) l s u h = h
finished false (Some o) l s u h = or_left (l.unlinked u) (o.1 u) h

answers_stay : {l m : Loading} {a : PendingRequest} {t : Url} {e : TableEntry} → Answers l a t e m → StaysUnlinked l m
answers_stay (no_root thrown f) = λ u h. h
answers_stay (no_module o thrown e f) = λ u h. h
answers_stay {l} (root {mid = mid} {s = s} {t = t} f p) = λ u h. finished (has_pending mid s) (open_load mid s) mid s u (alike (begin l s t) mid (enters_framed p).unlinked u h)
answers_stay {l} (request {mid = mid} {s = s} o e f p) = λ u h. finished (has_pending mid s) (open_load mid s) mid s u (alike l mid (enters_framed p).unlinked u h)

begun_by : (h : Host) (s : ℕ) (t : Option Throw) (p : Option Purpose) → (begin_by h s t p).imports.unlinked ≡ h.imports.unlinked
begun_by h s (Some t) p = refl
begun_by h s None None = refl
begun_by h s None (Some (ForEntry q)) = refl
begun_by h s None (Some (ForImport q None)) = refl
begun_by h s None (Some (ForImport q (Some r))) = refl

begun : (h : Host) (a : PendingRequest) (u : Url) (e : TableEntry) → (begin_load h a u e).imports.unlinked ≡ h.imports.unlinked
begun h (Root s) u e = begun_by h s (thrown_by u e) (slice_get h.imports.purposes s)
begun h (Request s x i) u e = refl

pub answered_stays : {h k : Host} {a : PendingRequest} {u : Url} {e : TableEntry} → Answered h a u e k → StaysUnlinked h.imports k.imports
answered_stays (late n) = λ u h. h
answered_stays {h} (answered {a = a} {u = u} {e = e} {l = l} p) = λ v q.
    ap (λ (m : Loading). m.unlinked v) (settled_imports (with_loading (begin_load h a u e) l) (load_of a))
    ∙ answers_stay p v (alike h.imports (begin_load h a u e).imports (begun h a u e) v q)

pub next_stays : {h k : Host} → AnswersNext h k → StaysUnlinked h.imports k.imports
next_stays p = answered_stays p.answered

-- ---- import()

asked : (b c : Bool) (l : Loading) (u : Url) (a : PendingRequest) → (loading.ask_by b c l u a).unlinked ≡ l.unlinked
asked true c l u a = refl
asked false true l u a = refl
asked false false l u a = refl

pub imports_stay : {h k : Host} {referrer : Url} {specifier : List ℕ} {promise : ℕ} → Imports h referrer specifier promise k → StaysUnlinked h.imports k.imports
imports_stay (limit f) = λ u h. h
imports_stay (unresolved f r q) = λ u h. h
imports_stay {h} {k} (asks u r q n) = alike h.imports k.imports (asked _ _ _ _ _)
imports_stay (answers u e r q n a) = answered_stays a

-- ---- the end of a fetch

put_stays : (h : Host) (u : Url) (f : Found) → (put_found h u f).imports.unlinked ≡ h.imports.unlinked
put_stays h u Nothing = refl
put_stays h u (Script m) = refl
put_stays h u (Faulty f) = refl

stored : (s : Option Limit) (h : Host) (u : Url) (c : OutcomeView) → (store_by s h u c).imports.unlinked ≡ h.imports.unlinked
stored None h u c = put_stays h u (found h.imports.maps h.imports.built u c)
stored (Some why) h u c = refl

counted : (b : Bool) (l : Loading) (n : ℕ) → (count_by b l n).unlinked ≡ l.unlinked
counted true l n = refl
counted false l n = refl

pub fetched_stays : (h : Host) (u : Url) (c : OutcomeView) → StaysUnlinked h.imports (after_fetch h u c).imports
fetched_stays h u c = alike h.imports (after_fetch h u c).imports
    (stored _ (with_loading h (count h.imports (bytes_of c))) u c ∙ counted (nat_lt MAX_DELIVERED_BYTES (h.imports.bytes + bytes_of c)) h.imports (bytes_of c))

pub unlinked_stays : UnlinkedStays
unlinked_stays = record {
  next = λ before after u p h. next_stays p u h;
  begins = λ before after referrer specifier promise end u p h. imports_stay p.imports u h;
  fetched = λ before url c u h. fetched_stays before url c u h;
}
