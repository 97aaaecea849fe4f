-- Bodies, evaluation and jobs keep that loading is orderly and whole, and that what is Unlinked stays so.
use Rattle.std.proofs.Common.{◌≡◌, ℕ, refl, subst, sym}
use Rattle.std.specs.Prelude.{Result, Ok, Err}
use Rattle.esm_base.specs.declared.limits.Limit.{Limit}
use Rattle.esm_base.specs.Urls.{Url, same_url}
use Rattle.esm_values.specs.Value.{Value}
use Rattle.esm_promise.specs.Promises.{Settled}
use Rattle.esm_promise.specs.Reactions.{Reaction}
use Rattle.esm_loads.specs.Loading.{Loading}
use Rattle.esm_loads.specs.ImportCall.{BeginsImport}
use Rattle.esm_eval.specs.Nodes.{Call, CallAnswer}
use Rattle.esm_world.specs.World.{World, modules_in}
use Rattle.esm_world.specs.Layers.{CallsForBody, evaluation, with_linked}
use Rattle.esm_world.specs.Jobs.{EvaluatesLoad, Reacts, when_evaluated}
use Rattle.esm_world.specs.Jobs.Reacts.{entry_linked, entry_fault, entry_refused, entry_ended, entry_threw, linked, fault, refused, evaluated, threw, body_ended, body_threw, resumes}
use Rattle.esm_world.specs.Loaded.{FitsLoading}
use Rattle.esm_world.proofs.EvalKeeps.{Lasts, evaluates_keeps, fulfills_keeps, rejects_keeps}
use Rattle.esm_rewriting.proofs.BodyKeeps.{Imported, starts_body_keeps, runs_body_keeps, resumes_body_keeps}
use Rattle.esm_world.proofs.LoadedFits.{loading_stays_fit}
use Rattle.esm_world.proofs.UnlinkedGrows.{StaysUnlinked, imports_stay}

pub record KeepsLoading (l m : Loading) : Type 0 where
  pub fits : FitsLoading l → FitsLoading m
  pub unlinked : StaysUnlinked l m

same : (l : Loading) → KeepsLoading l l
same l = record { fits = λ f. f; unlinked = λ u h. h }

on : {k l m : Loading} → KeepsLoading k l → KeepsLoading l m → KeepsLoading k m
on p q = record { fits = λ f. q.fits (p.fits f); unlinked = λ u h. q.unlinked u (p.unlinked u h) }

imported : Imported BeginsImport KeepsLoading
imported = record {
  same = same;
  on = λ p q. on p q;
  call = λ {o} {x} {m} {text} {p} {r} b. record { fits = λ f. loading_stays_fit.begins o x m text p r f b; unlinked = imports_stay b.imports };
}

executes_keeps : {v w : World} {c : Call Url} {r : Result (CallAnswer (Value Url) c) Limit} → CallsForBody v c r w → KeepsLoading v.loading w.loading
executes_keeps (CallsForBody.start p) = (starts_body_keeps same_url modules_in BeginsImport KeepsLoading imported p).imports
executes_keeps (CallsForBody.run p) = (runs_body_keeps same_url modules_in BeginsImport KeepsLoading imported p).imports

abbrev KeepsWorld : World → World → Type 0
KeepsWorld v w = KeepsLoading v.loading w.loading

lasts : Lasts evaluation CallsForBody KeepsWorld
lasts = record {
  same = λ w. same w.loading;
  on = λ p q. on p q;
  put = λ w x n. same w.loading;
  stamp = λ w x. same w.loading;
  make = λ w. same w.loading;
  make_body = λ w x. same w.loading;
  fulfill = λ w p. same w.loading;
  reject = λ w p v. same w.loading;
  call = λ p. executes_keeps p;
}

by_answer : (w : World) (r : Reaction Url) (a : Result ℕ Limit) → (when_evaluated w r a).loading ≡ w.loading
by_answer w r (Ok p) = refl
by_answer w r (Err why) = refl

load_keeps : {v w : World} {s : ℕ} {a : Result ℕ Limit} → EvaluatesLoad v s a w → (r : Reaction Url) → KeepsWorld v (when_evaluated w r a)
load_keeps {v} {w} {a = a} p r = subst (λ l. KeepsLoading v.loading l) (sym (by_answer w r a)) (evaluates_keeps evaluation CallsForBody KeepsWorld lasts (with_linked v p.linked) p.root p.evaluates)

pub reacts_keep_loading : {v : World} {r : Reaction Url} {how : Settled (Value Url)} {w : World} → Reacts v r how w → KeepsLoading v.loading w.loading
reacts_keep_loading (entry_linked p) = load_keeps p _
reacts_keep_loading {v} (entry_fault root f ls l) = same v.loading
reacts_keep_loading {v} entry_refused = same v.loading
reacts_keep_loading {v} entry_ended = same v.loading
reacts_keep_loading {v} entry_threw = same v.loading
reacts_keep_loading (linked p) = load_keeps p _
reacts_keep_loading {v} (fault p root f ls n l) = same v.loading
reacts_keep_loading {v} (refused p n) = same v.loading
reacts_keep_loading {v} (evaluated p root n o) = same v.loading
reacts_keep_loading {v} (threw p n) = same v.loading
reacts_keep_loading (body_ended p) = fulfills_keeps evaluation CallsForBody KeepsWorld lasts p
reacts_keep_loading (body_threw p) = rejects_keeps evaluation CallsForBody KeepsWorld lasts p
reacts_keep_loading (resumes p) = (resumes_body_keeps same_url modules_in BeginsImport KeepsLoading imported p).imports
