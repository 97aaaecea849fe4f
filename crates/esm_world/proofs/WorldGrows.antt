-- What jobs and tasks keep of loading.
use Rattle.std.proofs.Common.{◌≡◌, ℕ, refl, subst, sym}
use Rattle.std.specs.Prelude.{Result, Ok, Err}
use Rattle.esm_base.specs.declared.limits.Limit.{Limit}
use Rattle.esm_base.specs.Urls.{Url, same_url}
use Rattle.esm_values.specs.Value.{Value}
use Rattle.esm_promise.specs.Promises.{Settled}
use Rattle.esm_promise.specs.Reactions.{Reaction}
use Rattle.esm_loads.specs.ImportCall.{BeginsImport}
use Rattle.esm_eval.specs.Nodes.{Call, CallAnswer}
use Rattle.esm_world.specs.World.{World, modules_in}
use Rattle.esm_world.specs.Layers.{CallsForBody, evaluation, with_linked}
use Rattle.esm_world.specs.Jobs.{EvaluatesLoad, Reacts, Jobs, when_evaluated}
use Rattle.esm_world.specs.Jobs.Reacts.{entry_linked, entry_fault, entry_refused, entry_ended, entry_threw, linked, fault, refused, evaluated, threw, body_ended, body_threw, resumes}
use Rattle.esm_world.specs.Turn.{Tasks}
use Rattle.esm_world.proofs.Grows.{Progress, GrowsOn, same_progress, progress_on, begins_progress, on_same, on_both, next_grows, progress_grows}
use Rattle.esm_world.proofs.EvalKeeps.{Lasts, evaluates_keeps, fulfills_keeps, rejects_keeps}
use Rattle.esm_rewriting.proofs.BodyKeeps.{Imported, starts_body_keeps, runs_body_keeps, resumes_body_keeps}

pub imported : Imported BeginsImport Progress
imported = record { same = same_progress; on = λ p q. progress_on p q; call = λ p. begins_progress p }

pub executes_progress : {v w : World} {c : Call Url} {r : Result (CallAnswer (Value Url) c) Limit} → CallsForBody v c r w → Progress v.loading w.loading
executes_progress (CallsForBody.start p) = (starts_body_keeps same_url modules_in BeginsImport Progress imported p).imports
executes_progress (CallsForBody.run p) = (runs_body_keeps same_url modules_in BeginsImport Progress imported p).imports

abbrev WorldProgress : World → World → Type 0
WorldProgress v w = Progress v.loading w.loading

lasts : Lasts evaluation CallsForBody WorldProgress
lasts = record {
  same = λ w. same_progress w.loading;
  on = λ p q. progress_on p q;
  put = λ w x n. same_progress w.loading;
  stamp = λ w x. same_progress w.loading;
  make = λ w. same_progress w.loading;
  make_body = λ w x. same_progress w.loading;
  fulfill = λ w p. same_progress w.loading;
  reject = λ w p v. same_progress w.loading;
  call = λ p. executes_progress p;
}

by_answer : (w : World) (r : Reaction Url) (a : Result ℕ Limit) → (when_evaluated w r a).loading ≡ w.loading
by_answer w r (Ok p) = refl
by_answer w r (Err limit) = refl

load_progress : {v w : World} {s : ℕ} {a : Result ℕ Limit} → EvaluatesLoad v s a w → (r : Reaction Url) → WorldProgress v (when_evaluated w r a)
load_progress {v} {w} {a = a} p r = subst (λ l. Progress v.loading l) (sym (by_answer w r a)) (evaluates_keeps evaluation CallsForBody WorldProgress lasts (with_linked v p.linked) p.root p.evaluates)

reacts_progress : {v : World} {r : Reaction Url} {how : Settled (Value Url)} {w : World} → Reacts v r how w → WorldProgress v w
reacts_progress (entry_linked p) = load_progress p _
reacts_progress {v} (entry_fault root f ls l) = same_progress v.loading
reacts_progress {v} entry_refused = same_progress v.loading
reacts_progress {v} entry_ended = same_progress v.loading
reacts_progress {v} entry_threw = same_progress v.loading
reacts_progress (linked p) = load_progress p _
reacts_progress {v} (fault p root f ls n l) = same_progress v.loading
reacts_progress {v} (refused p n) = same_progress v.loading
reacts_progress {v} (evaluated p root n o) = same_progress v.loading
reacts_progress {v} (threw p n) = same_progress v.loading
reacts_progress (body_ended p) = fulfills_keeps evaluation CallsForBody WorldProgress lasts p
reacts_progress (body_threw p) = rejects_keeps evaluation CallsForBody WorldProgress lasts p
reacts_progress (resumes p) = (resumes_body_keeps same_url modules_in BeginsImport Progress imported p).imports

pub jobs_progress : {v w : World} → Jobs v w → WorldProgress v w
jobs_progress {v} (Jobs.none n) = same_progress v.loading
jobs_progress {v} (Jobs.stops l s) = same_progress v.loading
jobs_progress (Jobs.job j left how live i h f p) = progress_on (reacts_progress f) (jobs_progress p)

pub tasks_progress : {v w : World} → Tasks v w → GrowsOn v.loading w.loading
tasks_progress {v} (Tasks.none n) = on_same v.loading
tasks_progress {v} (Tasks.stops l s) = on_same v.loading
tasks_progress (Tasks.task live a j p) = on_both (next_grows a) (on_both (progress_grows (jobs_progress j)) (tasks_progress p))
