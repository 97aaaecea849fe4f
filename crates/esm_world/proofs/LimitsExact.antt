-- In a world that no limit has stopped a step tells the limit that stops it, or none where none does.
use Rattle.std.proofs.Common.{◌≡◌, Option, Some, None, refl, ap, sym, ◌∙◌}
use Rattle.std.specs.Prelude.{Result, Ok, Err}
use Rattle.esm_base.specs.declared.limits.Limit.{Limit}
use Rattle.esm_base.specs.Urls.{Url, same_url}
use Rattle.esm_values.specs.Value.{Value}
use Rattle.esm_loads.specs.Loading.{Loading}
use Rattle.esm_loads.specs.ImportCall.{BeginsImport, end_by}
use Rattle.esm_eval.specs.Nodes.{Call, CallAnswer}
use Rattle.esm_world.specs.World.{World, modules_in, stopped}
use Rattle.esm_world.specs.Layers.{CallsForBody, evaluation}
use Rattle.esm_world.specs.Limits.{told_limit, LimitsAreExact}
use Rattle.esm_world.proofs.BodyLives.{limit_by, LivesOn, starts_body_lives, runs_body_lives, resumes_body_lives}
use Rattle.esm_world.proofs.EvalLives.{why_by, evaluates_live, fulfills_live, rejects_live}
use Rattle.esm_world.proofs.EvalLives.{LivesOn as CallsLiveOn}

abbrev StopOf : Loading → Option Limit
StopOf l = l.stopped

import_tells : (o : Option Limit) → o ≡ limit_by (end_by o)
import_tells None = refl
import_tells (Some limit) = refl

imports_live : LivesOn {N = Url} StopOf BeginsImport
imports_live = record {
  begin = λ {o} {x} {m} {text} {p} {end} b. import_tells x.imports.stopped ∙ sym (ap (λ e. limit_by e) b.ends);
}

same_told : {A : Type 0} (r : Result A Limit) → limit_by r ≡ told_limit r
same_told (Ok a) = refl
same_told (Err limit) = refl

why_told : {A : Type 0} (r : Result A Limit) → why_by r ≡ told_limit r
why_told (Ok a) = refl
why_told (Err limit) = refl

told_why : {A : Type 0} (r : Result A Limit) → told_limit r ≡ why_by r
told_why (Ok a) = refl
told_why (Err limit) = refl

executed : {v w : World} {c : Call Url} {r : Result (CallAnswer (Value Url) c) Limit} → CallsForBody v c r w → stopped v ≡ None → stopped w ≡ told_limit r
executed (CallsForBody.start {end = end} p) l = starts_body_lives StopOf BeginsImport imports_live same_url modules_in p l ∙ same_told end
executed (CallsForBody.run {end = end} p) l = runs_body_lives StopOf BeginsImport imports_live same_url modules_in p l ∙ same_told end

calls_live : CallsLiveOn evaluation CallsForBody stopped
calls_live = record {
  writes = record {
    same = λ w. refl;
    on = λ p q. q ∙ p;
    put = λ w x n. refl;
    stamp = λ w x. refl;
    make = λ w. refl;
    make_body = λ w x. refl;
    fulfill = λ w p. refl;
    reject = λ w p v. refl;
    call = λ p. absurd p;
  };
  call = λ {v} {w} {c} {r} p l. executed p l ∙ told_why r;
}

pub limits_are_exact : LimitsAreExact
limits_are_exact = record {
  executes = λ w after c r l p. executed p l;
  evaluates = λ w after m r l p. evaluates_live evaluation CallsForBody stopped calls_live w m p l ∙ why_told r;
  fulfills = λ w after m r l p. fulfills_live evaluation CallsForBody stopped calls_live p l ∙ why_told r;
  rejects = λ w after m v l p. rejects_live evaluation CallsForBody stopped calls_live p ∙ l;
  resumes = λ w m how r s l p. resumes_body_lives StopOf BeginsImport imports_live same_url modules_in p l ∙ same_told r;
}
