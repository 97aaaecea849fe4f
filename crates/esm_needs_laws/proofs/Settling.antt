-- Loading, import() and bodies leave no more reactions to the end of a body: what they fulfill are promises of loads.
use Rattle.std.proofs.Common.{◌≡◌, ℕ, Option, Some, None, List, [], ◌∷◌, refl, ap, subst, sym}
use Rattle.std.specs.Prelude.{slice_get}
use Rattle.esm_base.specs.Urls.{Url}
use Rattle.esm_realm.proofs.Lists.{either}
use Rattle.esm_values.specs.Value.{Undefined}
use Rattle.esm_promise.specs.Promises.{Fulfilled, make, next_promise}
use Rattle.esm_promise.specs.Reactions.{Loaded}
use Rattle.esm_loads.specs.UrlTable.{TableEntry, Throw, New, Kept, thrown_by}
use Rattle.esm_loads.specs.Loading.{Loading, LoadState, Asked, Open, LoadComplete, Thrown, PendingRequest, Root, Request, Purpose, ForEntry, ForImport, import_promise_in, load_of}
use Rattle.esm_loads.specs.Host.{Host, settle_by, begin_by, begin_load, with_loading, reject, promise_of, Answered}
use Rattle.esm_loads.specs.Host.Answered.{late, answered}
use Rattle.esm_loads.specs.Arrival.{AnswersNext}
use Rattle.esm_loads.specs.ImportCall.{Imports, BeginsImport}
use Rattle.esm_loads.specs.ImportCall.Imports.{limit, unresolved, asks, answers}
use Rattle.esm_loads.proofs.Tables.{settled_imports}
use Rattle.esm_world.specs.Told.{Whose, OfImport, Own, own_promise_in, load_promise, IsFree, IsHostTold}
use Rattle.esm_world.proofs.OuterKeeps.{LastsOuter}
use Rattle.esm_world.proofs.ToldHost.{KeptHost, host_same, host_on, lasts_told}
use Rattle.esm_needs_laws.proofs.Promised.{BodyAt, AreMade, Quiet, IsOther, quiet_same, quiet_on, make_quiet, settle_quiet, reject_quiet}

-- the promises on which reactions to the end of a body stand belong to no load
abbrev pub AreFreeBodies : Host → Type 0
AreFreeBodies h = (p : ℕ) (m : Url) → BodyAt h.promises p m → IsFree h.imports h.promises p

pub free_on : {h k : Host} → KeptHost h k → Quiet h.promises k.promises → AreFreeBodies h → AreFreeBodies k
free_on a q f p m b = a.free p (f p m (q.bodies p m b))

pub made_of : (h : Host) → AreFreeBodies h → AreMade h.promises
made_of h f p m b = (f p m b).made

-- ---- loading

rejects : (o : Host) (q : ℕ) (t : Throw) → Quiet o.promises (reject o q t).promises
rejects o q (New f) = reject_quiet o.promises q _
rejects o q (Kept error) = reject_quiet o.promises q _

-- whose promise the end of the load settles
whose_of : (l : Loading) (s : ℕ) (purpose : Purpose) → slice_get l.purposes s ≡ Some purpose → (whose : Whose) × (load_promise l s whose ≡ Some (promise_of purpose))
whose_of l s (ForEntry q) e = (Own, ap own_promise_in e)
whose_of l s (ForImport q None) e = (OfImport, ap import_promise_in e)
whose_of l s (ForImport q (Some r)) e = (Own, ap own_promise_in e)

-- no reaction to the end of a body stands on a promise of a load
abbrev AreApart : Host → Loading → Type 0
AreApart o l = (p : ℕ) (m : Url) → BodyAt o.promises p m → (s : ℕ) (whose : Whose) → load_promise l s whose ≡ Some p → ⊥

settles : (o : Host) (s : ℕ) (p : Option Purpose) (state : Option LoadState) → slice_get o.imports.purposes s ≡ p → AreApart o o.imports → Quiet o.promises (settle_by o p state).promises
settles o s None state e f = quiet_same o.promises
settles o s (Some p) None e f = quiet_same o.promises
settles o s (Some p) (Some Asked) e f = quiet_same o.promises
settles o s (Some p) (Some (Open root visited)) e f = quiet_same o.promises
settles o s (Some p) (Some (LoadComplete root)) e f =
    let whose = whose_of o.imports s p e in
    settle_quiet o.promises (promise_of p) (Fulfilled Undefined) (λ m b. f (promise_of p) m b s whose.0 whose.1)
settles o s (Some p) (Some (Thrown t)) e f = rejects o (promise_of p) t

loaded_other : (s : ℕ) → IsOther (Loaded s)
loaded_other s m e = cc

begun_by : (o : Host) (s : ℕ) (t : Option Throw) (p : Option Purpose) → Quiet o.promises (begin_by o s t p).promises
begun_by o s None None = quiet_same o.promises
begun_by o s None (Some (ForEntry q)) = quiet_same o.promises
begun_by o s None (Some (ForImport q None)) = make_quiet o.promises (Loaded s ∷ []) (λ m h. either h (λ e. loaded_other s m e) (λ z. z))
begun_by o s None (Some (ForImport q (Some load))) = quiet_same o.promises
begun_by o s (Some t) p = quiet_same o.promises

begun : (o : Host) (a : PendingRequest) (u : Url) (e : TableEntry) → Quiet o.promises (begin_load o a u e).promises
begun o (Root s) u e = begun_by o s (thrown_by u e) (slice_get o.imports.purposes s)
begun o (Request s x i) u e = quiet_same o.promises

-- they belong to no load behind the answer
abbrev AreFreeBehind : Host → Host → Type 0
AreFreeBehind o after = (p : ℕ) (m : Url) → BodyAt o.promises p m → IsFree after.imports after.promises p

answered_quiet : {o after : Host} {a : PendingRequest} {u : Url} {e : TableEntry} → Answered o a u e after → AreFreeBehind o after → Quiet o.promises after.promises
answered_quiet {o} (late q) f = quiet_same o.promises
answered_quiet {o} (answered {a = a} {u = u} {e = e} {l = l} q) f =
    let h : Host = with_loading (begin_load o a u e) l in
    let b = begun o a u e in
    let s = load_of a in
    quiet_on b (settles h s (slice_get h.imports.purposes s) (slice_get h.imports.loads s) refl
    (λ p m at k whose d. (f p m (b.bodies p m at)).apart k whose (subst (λ x. load_promise x k whose ≡ Some p) (sym (settled_imports h s)) d)))

pub next_quiet : {o after : Host} → AnswersNext o after → KeptHost o after → AreFreeBodies o → Quiet o.promises after.promises
next_quiet p k f = answered_quiet p.answered (λ q m b. k.free q (f q m b))

imports_quiet : {o after : Host} {referrer : Url} {specifier : List ℕ} {promise : ℕ} → Imports o referrer specifier promise after → AreFreeBehind o after → Quiet o.promises after.promises
imports_quiet {o} (limit full) f = quiet_same o.promises
imports_quiet {o} (unresolved fault r q) f = reject_quiet o.promises _ _
imports_quiet {o} (asks u r q n) f = quiet_same o.promises
imports_quiet (answers u e r q n a) f = answered_quiet a f

-- ---- bodies

-- what is told stays told, and there are no more reactions to the end of a body
abbrev pub KeepsQuiet : Host → Host → Type 0
KeepsQuiet h k = IsHostTold h → AreFreeBodies h → KeptHost h k × Quiet h.promises k.promises

new_quiet : (h : Host) → Quiet h.promises (make h.promises [])
new_quiet h = make_quiet h.promises [] (λ m z. z)

pub lasts_quiet : LastsOuter BeginsImport KeepsQuiet
lasts_quiet = record {
  same = λ h t f. (host_same h t, quiet_same h.promises);
  on = λ a b t f. let x = a t f in let y = b x.0.told (free_on x.0 x.1 f) in (host_on x.0 y.0, quiet_on x.1 y.1);
  errors = λ h es t f. (lasts_told.errors h es t, quiet_same h.promises);
  refuses = λ h es v t f. (lasts_told.refuses h es v t, quiet_on (new_quiet h) (reject_quiet (make h.promises []) (next_promise h.promises) v));
  imports = λ h k m text r q t f.
      let x = lasts_told.imports h k m text r q t in
      (x, quiet_on (new_quiet h) (imports_quiet q.imports (λ p n b. x.free p (f p n ((new_quiet h).bodies p n b)))));
}
