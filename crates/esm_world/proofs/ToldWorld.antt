-- What is told of loads stays so in each step of a world.
use Rattle.std.proofs.Common.{◌≡◌, ℕ, zero, suc, ◌+◌, ◌<◌, Bool, true, false, cond, List, [], ◌∷◌, ◌++◌, length, Option, Some, None, refl, ap, subst, sym, ◌∙◌, arith}
use Rattle.std.specs.Prelude.{slice_get, Result, Ok, Err, nat_lt}
use Rattle.std.specs.List.{AllByRecursion}
use Rattle.std.specs.Option.{option_or}
use Rattle.esm_tree.specs.Syntax.{Item}
use Rattle.esm_base.specs.declared.limits.Limit.{Limit}
use Rattle.esm_base.specs.declared.limits.TheConstants.{MAX_DELIVERED_BYTES}
use Rattle.esm_base.specs.Urls.{Url, has, same_url}
use Rattle.esm_ast.specs.Outcome.{OutcomeView}
use Rattle.esm_import_map.specs.ImportMap.{Maps}
use Rattle.esm_values.specs.Value.{Value, Undefined, Namespace}
use Rattle.esm_values.specs.Errors.{Errors}
use Rattle.esm_promise.specs.Promises.{Settled, Fulfilled, Rejected, Pending, Job, is_pending_by, make, settle, settled, register, next_promise, next_job}
use Rattle.esm_promise.specs.Reactions.{Reaction, BodyEnd, Loaded, Evaluated, EntryLoaded, EntryDone}
use Rattle.esm_loads.specs.UrlTable.{Found, Nothing, Faulty, Script, found}
use Rattle.esm_loads.specs.Loading.{Loading, LoadState, ForImport, root_in, import_promise, import_promise_in, is_fetching}
use Rattle.esm_loads.specs.Host.{Host, opening_host, with_loading}
use Rattle.esm_loads.specs.Arrival.{after_fetch, AnswersNext, bytes_of, count_by, store_by, put_found, open_asks}
use Rattle.esm_loads.specs.ImportCall.{BeginsImport}
use Rattle.esm_loads.proofs.Orderly.{stays_orderly}
use Rattle.esm_loads.proofs.Owed.{keeps_promises}
use Rattle.esm_eval.specs.Nodes.{Node, Call, CallAnswer}
use Rattle.esm_rewriting.specs.State.{State, Standing}
use Rattle.esm_rewriting.specs.Bodies.{Taken, take_standing, take_by, await_on}
use Rattle.esm_world.specs.World.{World, EntryState, opening, stopped, host_of, with_host, with_state, modules_in}
use Rattle.esm_world.specs.Layers.{CallsForBody, evaluation, with_linked, with_promises}
use Rattle.esm_world.specs.Jobs.{EvaluatesLoad, Reacts, Jobs, when_evaluated, with_entry_state}
use Rattle.esm_world.specs.Jobs.Reacts.{entry_linked, entry_fault, entry_refused, entry_ended, entry_threw, linked, fault, refused, evaluated, threw, body_ended, body_threw, resumes}
use Rattle.esm_world.specs.Turn.{Tasks, Turn, fetched}
use Rattle.esm_world.specs.Run.{IsAllowed, Runs}
use Rattle.esm_ast.specs.Deliveries.{Delivery, asks_by}
use Rattle.esm_world.specs.Told.{Whose, OfImport, Own, load_promise, IsFree, HasSettled, HasLoaded, MayStandOn, AreToldOf, IsHostTold, AreTold, IsTold, StaysTold, StaysComplete}
use Rattle.esm_world.proofs.OuterKeeps.{Around, around, EndsSo, KeepsAround, CallEnds, settles, starts_around, runs_around, resumes_around}
use Rattle.esm_world.proofs.LoadedFits.{in_filter}
use Rattle.esm_world.proofs.EvalHolds.{FreeCall, Holding, evaluates_holds, fulfills_holds, rejects_holds}
use Rattle.esm_world.proofs.Each.{pushed, all_on}
use Rattle.esm_world.proofs.ToldPromises.{Ps, Continues, continues_same, continues_on, loaded_on, root_on, make_told, take_told, is_told}
use Rattle.esm_world.proofs.ToldLoading.{KeptOf, made_free, next_free, make_kept, unchanged}
use Rattle.esm_world.proofs.ToldHost.{Row, KeptHost, host_on, host_await, same_rows, host_errors, host_make, host_settle, host_settle_free, host_register, import_not_owed, host_next, KeepsTold, lasts_told}

abbrev pub FreeIn : World → ℕ → Type 0
FreeIn w p = IsFree w.loading w.promises p

abbrev pub AreFree : Host → List (Standing Url) → Type 0
AreFree h ss = AllByRecursion (λ (s : Standing Url). IsFree h.imports h.promises s.done) ss

free_on : (h k : Host) (ss : List (Standing Url)) → ((p : ℕ) → IsFree h.imports h.promises p → IsFree k.imports k.promises p) → AreFree h ss → AreFree k ss
free_on h k ss f a = all_on (λ (s : Standing Url). IsFree h.imports h.promises s.done) (λ (s : Standing Url). IsFree k.imports k.promises s.done) ss (λ s. f s.done) a

-- ---- a world goes on

pub record KeptWorld (v w : World) : Type 0 where
  pub told : AreTold w
  pub free : (p : ℕ) → FreeIn v p → FreeIn w p
  pub continues : Continues v.loading w.loading

same : (w : World) → AreTold w → KeptWorld w w
same w t = record { told = t; free = λ p f. f; continues = continues_same w.loading }

on : {u v w : World} → KeptWorld u v → KeptWorld v w → KeptWorld u w
on a b = record { told = b.told; free = λ p f. b.free p (a.free p f); continues = continues_on a.continues b.continues }

-- promises, errors and loading change
host_world : (w : World) (h : Host) → AreTold w → KeptHost (host_of w) h → KeptWorld w (with_host w h)
host_world w h t k = record {
  told = record {
    host = k.told;
    nodes = λ u p e. k.free p (t.nodes u p e);
    standing = free_on (host_of w) h w.engine.standing k.free t.standing;
  };
  free = k.free;
  continues = k.continues;
}

-- and cells, the log and the bodies that stand at an await
state_world : (w : World) (s : State Url Loading) → AreTold w → KeptHost (host_of w) s.outer → AreFree s.outer s.engine.standing → KeptWorld w (with_state w s)
state_world w s t k a = record {
  told = record { host = k.told; nodes = λ u p e. k.free p (t.nodes u p e); standing = a };
  free = k.free;
  continues = k.continues;
}

promises_world : (w : World) (ps : Ps) → AreTold w → KeptHost (host_of w) (record (host_of w) { promises = ps }) → KeptWorld w (with_promises w ps)
promises_world w ps t k = record {
  told = record {
    host = k.told;
    nodes = λ u p e. k.free p (t.nodes u p e);
    standing = free_on (host_of w) (record (host_of w) { promises = ps }) w.engine.standing k.free t.standing;
  };
  free = k.free;
  continues = k.continues;
}

-- ---- calls for bodies

pushed_free : (h : Host) (ss : List (Standing Url)) (s : Standing Url) → AreFree h ss → IsFree h.imports h.promises s.done → AreFree h (ss ++ s ∷ [])
pushed_free h ss s a f = pushed (λ (x : Standing Url). IsFree h.imports h.promises x.done) ss s a f

-- what is told where a body has run up to here, with these bodies at an await
pub record AroundTold (h : Host) (a : Around Url Loading) : Type 0 where
  pub kept : KeptHost h a.0
  pub standing : AreFree a.0 a.1

ends_told : (h : Host) (m : Url) (done : ℕ) (late w : Around Url Loading) → AroundTold h late → IsFree h.imports h.promises done → EndsSo m done late w → AroundTold h w
ends_told h m done late w a f EndsSo.stays = a
ends_told h m done late w a f (EndsSo.settled how) =
    let k = host_settle_free late.0 done how a.kept.told (a.kept.free done f) in
    record { kept = host_on a.kept k; standing = free_on late.0 (settles late.0 done how) late.1 k.free a.standing }
ends_told h m done late w a f (EndsSo.stands v rest) =
    let k = host_await late.0 v m a.kept.told in
    let now : Host = record late.0 { promises = await_on late.0.promises v m } in
    record {
      kept = host_on a.kept k;
      standing = pushed_free now late.1 (record { at = m; done = done; rest = rest }) (free_on late.0 now late.1 k.free a.standing) (k.free done (a.kept.free done f));
    }

pub segment_told : (h : Host) (ss : List (Standing Url)) (late : Around Url Loading) → IsHostTold h → AreFree h ss → KeepsAround KeepsTold (h, ss) late → AroundTold h late
segment_told h ss late t a k =
    let r = k.outer t in
    record { kept = r; standing = subst (λ xs. AreFree late.0 xs) (sym k.standing) (free_on h late.0 ss r.free a) }

pub call_told : (h : Host) (ss : List (Standing Url)) (m : Url) (done : ℕ) (w : Around Url Loading) → IsHostTold h → AreFree h ss → IsFree h.imports h.promises done → CallEnds KeepsTold m done (h, ss) w → AroundTold h w
call_told h ss m done w t a f c = ends_told h m done c.late w (segment_told h ss c.late t a c.keeps) f c.ends

calls : {v w : World} {c : Call Url} {r : Result (CallAnswer (Value Url) c) Limit} → AreTold v → FreeCall FreeIn v c → CallsForBody v c r w → KeptWorld v w
calls {v} t f (CallsForBody.start {m = m} {done = done} {s = s} p) =
    let a = call_told (host_of v) v.engine.standing m done (around s) t.host t.standing f (starts_around same_url modules_in BeginsImport KeepsTold lasts_told p) in
    state_world v s t a.kept a.standing
calls {v} t f (CallsForBody.run {m = m} {s = s} p) =
    let a = segment_told (host_of v) v.engine.standing (around s) t.host t.standing (runs_around same_url modules_in BeginsImport KeepsTold lasts_told p) in
    state_world v s t a.kept a.standing

-- ---- what evaluation writes

puts : (w : World) (x : Url) (n : Node Url (Value Url)) → AreTold w → ((p : ℕ) → n.promise ≡ Some p → FreeIn w p) → KeptWorld w (evaluation.put w x n)
puts w x n t f = record { told = record { host = t.host; nodes = λ u p e. by u p (same_url x u) e; standing = t.standing }; free = λ p g. g; continues = continues_same w.loading }
  where
    by : (u : Url) (p : ℕ) (b : Bool) → (cond b n (w.nodes u)).promise ≡ Some p → FreeIn w p
    by u p true e = f p e
    by u p false e = t.nodes u p e

stamps : (w : World) (x : Url) → AreTold w → KeptWorld w (evaluation.add_stamp w x)
stamps w x t = record { told = record { host = t.host; nodes = t.nodes; standing = t.standing }; free = λ p g. g; continues = continues_same w.loading }

body_kept : (w : World) (x : Url) → AreTold w → KeptOf w.loading w.promises w.loading (make w.promises (BodyEnd x ∷ []))
body_kept w x t = record { told = make_told w.loading w.promises (BodyEnd x ∷ []) t.host.told (tt, tt); free = made_free w.loading w.promises (BodyEnd x ∷ []); continues = continues_same w.loading }

pub holding : Holding evaluation CallsForBody AreTold FreeIn KeptWorld
holding = record {
  same = same;
  on = λ a b. on a b;
  holds = λ a. a.told;
  free = λ a. a.free;
  node = λ w x p t e. t.nodes x p e;
  put = puts;
  stamp = stamps;
  make = λ w t. promises_world w (make w.promises []) t (host_make (host_of w) [] (make_kept w.loading w.promises t.host.told) t.host);
  made = λ w t. next_free w.loading w.promises [] t.host.told;
  make_body = λ w x t. promises_world w (make w.promises (BodyEnd x ∷ [])) t (host_make (host_of w) (BodyEnd x ∷ []) (body_kept w x t) t.host);
  made_body = λ w x t. next_free w.loading w.promises (BodyEnd x ∷ []) t.host.told;
  fulfill = λ w p t f. promises_world w (settle w.promises p (Fulfilled Undefined)) t (host_settle_free (host_of w) p (Fulfilled Undefined) t.host f);
  reject = λ w p v t f. promises_world w (settle w.promises p (Rejected v)) t (host_settle_free (host_of w) p (Rejected v) t.host f);
  call = λ t f p. calls t f p;
}

-- ---- jobs

-- a job is taken
pub taken_told : (w : World) (j : Job (Reaction Url)) (left : Ps) → AreTold w → next_job w.promises ≡ Some (j, left) → AreTold (with_promises w left) × MayStandOn w.loading j.promise j.reaction
taken_told w j left t e =
    let k = take_told w.loading w.promises left j e t.host.told in
    let same = same_rows w.promises left j e in (
      record {
        host = record {
          orderly = t.host.orderly;
          owes = record { sizes = t.host.owes.sizes; roots = t.host.owes.roots; pending = λ s p o. subst (λ xs. is_pending_by (slice_get xs p) ≡ true) (sym same) (t.host.owes.pending s p o); once = t.host.owes.once };
          told = k.0;
        };
        nodes = λ u p f. free (t.nodes u p f);
        standing = all_on (λ (s : Standing Url). FreeIn w s.done) (λ (s : Standing Url). IsFree w.loading left s.done) w.engine.standing (λ s f. free f) t.standing;
      },
      k.1,
    )
  where
    free : {p : ℕ} → FreeIn w p → IsFree w.loading left p
    free {p} f = record { made = subst (λ (xs : List Row). p < length xs) (sym (same_rows w.promises left j e)) f.made; apart = f.apart }

pub linked_told : (w : World) (ls : List Url) → AreTold w → AreTold (with_linked w ls)
linked_told w ls t = record { host = t.host; nodes = t.nodes; standing = t.standing }

pub entry_told : (w : World) (e : EntryState) → AreTold w → AreTold (with_entry_state w e)
entry_told w e t = record { host = t.host; nodes = t.nodes; standing = t.standing }

pub errors_told : (w : World) (es : Errors) → AreTold w → AreTold (record w { errors = es })
errors_told w es t = record { host = (host_errors (host_of w) es t.host).told; nodes = t.nodes; standing = t.standing }

registered : (w : World) (r : Reaction Url) (a : Result ℕ Limit) → ((p : ℕ) → MayStandOn w.loading p r) → AreTold w → AreTold (when_evaluated w r a)
registered w r (Ok p) f t = (promises_world w (register w.promises p r) t (host_register (host_of w) p r t.host (f p))).told
registered w r (Err limit) f t = t

-- the promise of an import() is settled, of which the load has a promise of its own
import_settled : (w : World) (q s r : ℕ) (how : Settled (Value Url)) → AreTold w → slice_get w.loading.purposes s ≡ Some (ForImport q (Some r)) → AreTold (with_promises w (settle w.promises q how))
import_settled w q s r how t is = (promises_world w (settle w.promises q how) t (host_settle (host_of w) q how t.host (import_not_owed w.loading w.promises s q r t.host.told is) apart)).told
  where
    apart : (k : ℕ) → load_promise w.loading k Own ≡ Some q → HasSettled (slice_get w.loading.loads k) how
    apart k e = absurd (let same : OfImport ≡ Own = (t.host.told.once s k q OfImport Own (ap import_promise_in is) e).1 in cc)

pub evaluates_told : (w : World) (s : ℕ) (a : Result ℕ Limit) (after : World) → AreTold w → EvaluatesLoad w s a after → KeptWorld w after
evaluates_told w s a after t p =
    let k = evaluates_holds evaluation CallsForBody AreTold FreeIn KeptWorld holding (with_linked w p.linked) p.root (linked_told w p.linked t) p.evaluates in
    record { told = k.told; free = λ q f. k.free q (record { made = f.made; apart = f.apart }); continues = k.continues }

some_is : {A : Type 0} {x y : A} → Some x ≡ Some y → x ≡ y
some_is e = cc

-- the promise of the import() is that of its load
purpose_of : (l : Loading) (s q p : ℕ) → import_promise l s ≡ Some q → MayStandOn l p (Loaded s) → slice_get l.purposes s ≡ Some (ForImport q (Some p))
purpose_of l s q p e h = let same : h.0 ≡ q = some_is (sym (ap import_promise_in h.1) ∙ e) in subst (λ x. slice_get l.purposes s ≡ Some (ForImport x (Some p))) same h.1

loaded_of : (l : Loading) (s q : ℕ) → import_promise l s ≡ Some q → (h : HasLoaded l s) → slice_get l.purposes s ≡ Some (ForImport q (Some h.load))
loaded_of l s q e h = let same : h.promise ≡ q = some_is (sym (ap import_promise_in h.purpose) ∙ e) in subst (λ x. slice_get l.purposes s ≡ Some (ForImport x (Some h.load))) same h.purpose

pub taken_free : (ss : List (Standing Url)) (m : Url) (h : Host) (t : Taken Url) → take_standing same_url ss m ≡ Some t → AreFree h ss → IsFree h.imports h.promises t.standing.done × AreFree h t.others
taken_free [] m h t e a = cc
taken_free (s ∷ ss) m h t e a = by (same_url s.at m) (take_standing same_url ss m) e (λ u f. taken_free ss m h u f a.1)
  where
    by : (b : Bool) (later : Option (Taken Url)) → take_by same_url b s ss later ≡ Some t → ((u : Taken Url) → later ≡ Some u → IsFree h.imports h.promises u.standing.done × AreFree h u.others) → IsFree h.imports h.promises t.standing.done × AreFree h t.others
    by true later e f =
        let is : ◌≡◌ {A = Taken Url} (record { standing = s; others = ss }) t = some_is e in
        subst (λ (u : Taken Url). IsFree h.imports h.promises u.standing.done × AreFree h u.others) is a
    by false None e f = cc
    by false (Some u) e f =
        let is : ◌≡◌ {A = Taken Url} (record u { others = s ∷ u.others }) t = some_is e in
        let r = f u refl in
        subst (λ (u : Taken Url). IsFree h.imports h.promises u.standing.done × AreFree h u.others) is (r.0, (a.0, r.1))

-- what a job keeps: what is told, and what has ended
pub record KeptJob (v w : World) : Type 0 where
  pub told : AreTold w
  pub continues : Continues v.loading w.loading

-- no load changes
job_of : {v w : World} → w.loading ≡ v.loading → AreTold w → KeptJob v w
job_of {v} e t = record { told = t; continues = subst (λ l. Continues v.loading l) (sym e) (continues_same v.loading) }

of_world : {v w : World} → KeptWorld v w → KeptJob v w
of_world k = record { told = k.told; continues = k.continues }

evaluated_job : (v after : World) (s : ℕ) (r : Reaction Url) (a : Result ℕ Limit) → AreTold v → EvaluatesLoad v s a after → ((p : ℕ) → Continues v.loading after.loading → MayStandOn after.loading p r) → KeptJob v (when_evaluated after r a)
evaluated_job v after s r a t e f = let k = evaluates_told v s a after t e in record { told = registered after r a (λ q. f q k.continues) k.told; continues = by a k.continues }
  where
    by : (a : Result ℕ Limit) → Continues v.loading after.loading → Continues v.loading (when_evaluated after r a).loading
    by (Ok p) c = c
    by (Err limit) c = c

reacts_told : {v w : World} {r : Reaction Url} {how : Settled (Value Url)} (p : ℕ) → AreTold v → MayStandOn v.loading p r → IsTold v.loading r how → Reacts v r how w → KeptJob v w
reacts_told {v} p t m i (entry_linked {after = after} {answer = a} e) = evaluated_job v after 0 EntryDone a t e (λ q c. tt)
reacts_told {v} p t m i (entry_fault root f ls l) = job_of refl (entry_told _ _ (errors_told (with_linked v ls) _ (linked_told v ls t)))
reacts_told {v} p t m i (entry_refused {v = u}) = job_of refl (entry_told v _ t)
reacts_told {v} p t m i entry_ended = job_of refl (entry_told v _ t)
reacts_told {v} p t m i entry_threw = job_of refl (entry_told v _ t)
reacts_told {v} p t m i (linked {after = after} {s = s} {answer = a} e) =
    let loaded : HasLoaded v.loading s = record { promise = m.0; load = p; root = i.1; purpose = m.1; is_root = i.3 } in
    evaluated_job v after s (Evaluated s) a t e (λ q c. loaded_on c loaded)
reacts_told {v} p t m i (fault {s = s} q root f ls n l) = job_of refl (import_settled _ q s p _ (errors_told (with_linked v ls) _ (linked_told v ls t)) (purpose_of v.loading s q p n m))
reacts_told {v} p t m i (refused {s = s} {v = u} q n) = job_of refl (import_settled v q s p (Rejected u) t (purpose_of v.loading s q p n m))
reacts_told {v} p t m i (evaluated {s = s} q root n o) = job_of refl (import_settled v q s m.load (Fulfilled (Namespace root)) t (loaded_of v.loading s q n m))
reacts_told {v} p t m i (threw {s = s} {v = u} q n) = job_of refl (import_settled v q s m.load (Rejected u) t (loaded_of v.loading s q n m))
reacts_told p t m i (body_ended e) = of_world (fulfills_holds evaluation CallsForBody AreTold FreeIn KeptWorld holding t e)
reacts_told p t m i (body_threw e) = of_world (rejects_holds evaluation CallsForBody AreTold FreeIn KeptWorld holding t e)
reacts_told {v} p t m i (resumes {m = x} {s = s} e) =
    let a = taken_free v.engine.standing x (host_of v) e.taken e.stands t.standing in
    let k = call_told (host_of v) e.taken.others x e.taken.standing.done (around s) t.host a.1 a.0 (resumes_around same_url modules_in BeginsImport KeepsTold lasts_told e) in
    of_world (state_world v s t k.kept k.standing)

tells : (w : World) (j : Job (Reaction Url)) (left : Ps) (how : Settled (Value Url)) → AreTold w → next_job w.promises ≡ Some (j, left) → settled left j.promise ≡ Some how → IsTold w.loading j.reaction how
tells w j left how t e s = let k = taken_told w j left t e in is_told w.loading left j.promise j.reaction how k.0.host.told k.1 s

pub job_kept : (w after : World) (j : Job (Reaction Url)) (left : Ps) (how : Settled (Value Url)) → AreTold w → next_job w.promises ≡ Some (j, left) → settled left j.promise ≡ Some how → Reacts (with_promises w left) j.reaction how after → KeptJob w after
job_kept w after j left how t e s p =
    let k = taken_told w j left t e in
    let r = reacts_told j.promise k.0 k.1 (tells w j left how t e s) p in
    record { told = r.told; continues = r.continues }

-- ---- answers and the end of a fetch

-- what stops loading stops the world
loading_live : (o e : Option Limit) → option_or o e ≡ None → o ≡ None
loading_live None e h = refl
loading_live (Some limit) e h = cc

pub answer_kept : (w : World) (h : Host) → AreTold w → stopped w ≡ None → AnswersNext (host_of w) h → KeptHost (host_of w) h
answer_kept w h t live q = host_next (host_of w) h t.host (loading_live w.loading.stopped w.engine.stopped live) q

pub answers : (w : World) (h : Host) → AreTold w → stopped w ≡ None → AnswersNext (host_of w) h → AreTold (with_host w h)
answers w h t live q = (host_world w h t (answer_kept w h t live q)).told

-- the end of a fetch changes no load and no promise
pub record IsSameLoads (h k : Host) : Type 0 where
  pub purposes : k.imports.purposes ≡ h.imports.purposes
  pub loads : k.imports.loads ≡ h.imports.loads
  pub promises : k.promises ≡ h.promises

found_same : (h : Host) (u : Url) (f : Found) → IsSameLoads h (put_found h u f)
found_same h u Nothing = record { purposes = refl; loads = refl; promises = refl }
found_same h u (Script m) = record { purposes = refl; loads = refl; promises = refl }
found_same h u (Faulty f) = record { purposes = refl; loads = refl; promises = refl }

store_same : (s : Option Limit) (h : Host) (u : Url) (c : OutcomeView) → IsSameLoads h (store_by s h u c)
store_same None h u c = found_same h u (found h.imports.maps h.imports.built u c)
store_same (Some limit) h u c = record { purposes = refl; loads = refl; promises = refl }

pub fetched_same : (b : Bool) (h : Host) (u : Url) (c : OutcomeView) → IsSameLoads h (store_by (count_by b h.imports (bytes_of c)).stopped (with_loading h (count_by b h.imports (bytes_of c))) u c)
fetched_same true h u c = record { purposes = refl; loads = refl; promises = refl }
fetched_same false h u c = let k = store_same h.imports.stopped (with_loading h (count_by false h.imports (bytes_of c))) u c in record { purposes = k.purposes; loads = k.loads; promises = k.promises }

pub fetch_told : (h : Host) (u : Url) (c : OutcomeView) → IsHostTold h → has h.imports.asked u ≡ true → KeptHost h (after_fetch h u c)
fetch_told h u c t a = record {
  told = record {
    orderly = stays_orderly.fetched h u c t.orderly a;
    owes = keeps_promises.fetched h u c t.owes;
    told = subst (λ ps. AreToldOf k.imports ps) (sym s.promises) same.told;
  };
  free = λ p f. subst (λ ps. IsFree k.imports ps p) (sym s.promises) (same.free p f);
  continues = same.continues;
}
  where
    k : Host
    k = after_fetch h u c

    s : IsSameLoads h k
    s = fetched_same _ h u c

    same : KeptOf h.imports h.promises k.imports h.promises
    same = unchanged h.imports k.imports h.promises s.purposes s.loads t.told

pub open_asked : (o : Option Limit) (l : Loading) (u : Url) → has (asks_by o (open_asks l)) u ≡ true → has l.asked u ≡ true
open_asked None l u h = (in_filter (λ x. is_fetching (l.entries x)) l.asked u h).0
open_asked (Some limit) l u h = cc

pub fetches : (w : World) (d : Delivery) → AreTold w → IsAllowed w d → AreTold (fetched w d.url d.outcome)
fetches w d t a = (host_world w (after_fetch (host_of w) d.url d.outcome) t (fetch_told (host_of w) d.url d.outcome t.host (open_asked (stopped w) w.loading d.url a.asked))).told

-- ---- the opening

opening_told : (maps : Maps) (built : List Item → Bool) (entry : Url) → AreToldOf (opening_host maps built entry).imports (opening_host maps built entry).promises
opening_told maps built entry = record { made = made; once = once; reactions = reactions; jobs = tt; ended = ended }
  where
    is : (s p : ℕ) (whose : Whose) → load_promise (opening_host maps built entry).imports s whose ≡ Some p → (s ≡ 0) × (whose ≡ Own) × (p ≡ 0)
    is zero p OfImport e = cc
    is zero p Own e = (refl, refl, sym (some_is e))
    is (suc s) p OfImport e = cc
    is (suc s) p Own e = cc

    made : (s p : ℕ) (whose : Whose) → load_promise (opening_host maps built entry).imports s whose ≡ Some p → p < next_promise (opening_host maps built entry).promises
    made s p whose e = let k = is s p whose e in let z = k.2 in omega (arith, z)

    once : (s k p : ℕ) (whose other : Whose) → load_promise (opening_host maps built entry).imports s whose ≡ Some p → load_promise (opening_host maps built entry).imports k other ≡ Some p → (s ≡ k) × (whose ≡ other)
    once s k p whose other a b = let x = is s p whose a in let y = is k p other b in (x.0 ∙ sym y.0, x.1 ∙ sym y.1)

    reactions : (p : ℕ) (rs : List (Reaction Url)) → slice_get (opening_host maps built entry).promises.all p ≡ Some (Pending rs) → AllByRecursion (MayStandOn (opening_host maps built entry).imports p) rs
    reactions zero rs e = let same : (EntryLoaded ∷ []) ≡ rs = cc in subst (λ xs. AllByRecursion (MayStandOn (opening_host maps built entry).imports 0) xs) same (refl, tt)
    reactions (suc p) rs e = cc

    ended : (s p : ℕ) (how : Settled (Value Url)) → load_promise (opening_host maps built entry).imports s Own ≡ Some p → settled (opening_host maps built entry).promises p ≡ Some how → HasSettled (slice_get (opening_host maps built entry).imports.loads s) how
    ended s zero how o e = cc
    ended s (suc p) how o e = cc

pub opens : (maps : Maps) (built : List Item → Bool) (entry : Url) (trace : Bool) → AreTold (opening maps built entry trace)
opens maps built entry trace = record {
  host = record { orderly = stays_orderly.opening maps built entry; owes = keeps_promises.opening maps built entry; told = opening_told maps built entry };
  nodes = λ u p e. cc;
  standing = tt;
}

pub stays_told : StaysTold
stays_told = record {
  opens = opens;
  fetches = fetches;
  answers = answers;
  told = tells;
  reacts = λ w after j left how t e s p. (job_kept w after j left how t e s p).told;
}

pub stays_complete : StaysComplete
stays_complete = record {
  fetches = λ w u c s root e. ap (λ (ls : List LoadState). root_in (slice_get ls s)) (fetched_same (nat_lt MAX_DELIVERED_BYTES (w.loading.bytes + bytes_of c)) (host_of w) u c).loads ∙ e;
  answers = λ w h s root t live q e. root_on (answer_kept w h t live q).continues s root e;
  reacts = λ w after j left how s root t e d p o. root_on (job_kept w after j left how t e d p).continues s root o;
}

-- ---- runs

jobs_told : {v w : World} → AreTold v → Jobs v w → AreTold w
jobs_told t (Jobs.none n) = t
jobs_told t (Jobs.stops l s) = t
jobs_told {v} t (Jobs.job {mid = mid} j left how live e s r p) = jobs_told (job_kept v mid j left how t e s r).told p

tasks_told : {v w : World} → AreTold v → Tasks v w → AreTold w
tasks_told t (Tasks.none n) = t
tasks_told t (Tasks.stops l s) = t
tasks_told {v} t (Tasks.task {h = h} live a j p) = tasks_told (jobs_told (answers v h t live a) j) p

turn_told : {v : World} {u : Url} {c : OutcomeView} {w : World} → AreTold (fetched v u c) → Turn v u c w → AreTold w
turn_told t (Turn.limit l s) = t
turn_told t (Turn.turn l p) = tasks_told t p

pub runs_told : (ds : List Delivery) (v w : World) → AreTold v → Runs v ds w → AreTold w
runs_told [] v w t p = subst (λ x. AreTold x) (sym p) t
runs_told (d ∷ ds) v w t p = runs_told ds p.1 w (turn_told (fetches v d t p.0) p.2) p.3
