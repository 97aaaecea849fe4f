use Rattle.std.proofs.Common.{◌≡◌, ℕ, Option, Some, None, Ok, Err, sym, ap, ◌∙◌, subst}
use Rattle.std.specs.Option.{option_map}
use Rattle.esm_values.specs.Code.{CodeValue, value_of}
use Rattle.esm_values.specs.declared.value.PromiseId.{PromiseId}
use Rattle.esm_values.specs.declared.value.Value.{Value}
use Rattle.esm_eval.specs.Calls.{numbered}
use Rattle.esm_eval.specs.Evaluate.{EvaluatesRoot}
use Rattle.esm_eval.specs.declared.walk.Cut.TheVariants as cuts
use Rattle.esm_eval.specs.Inner.Visit.{Visiting}
use Rattle.esm_eval.specs.WalkSteps.{AllEntered, KnowsError, Within}
use Rattle.esm_eval.proofs.Inner.Root as root
use Rattle.esm_eval.proofs.Inner.Begun as begun
use Rattle.esm_eval.proofs.walk.evaluate_by.Goals as goal

promise_none : {kept : Option ℕ} (o : Option PromiseId) → option_map (λ p. p.0) o ≡ kept → o ≡ None → kept ≡ None
promise_none o e h = sym e ∙ ap (option_map (λ p. p.0)) h

promise_some : {kept : Option ℕ} (o : Option PromiseId) (p : PromiseId) → option_map (λ p. p.0) o ≡ kept → o ≡ Some p → kept ≡ Some p.0
promise_some o p e h = sym e ∙ ap (option_map (λ p. p.0)) h

error_none : {kept : Option CodeValue} (o : Option Value) → option_map value_of o ≡ kept → o ≡ None → kept ≡ None
error_none o e h = sym e ∙ ap (option_map value_of) h

error_some : {kept : Option CodeValue} (o : Option Value) (v : Value) → option_map value_of o ≡ kept → o ≡ Some v → kept ≡ Some (value_of v)
error_some o v e h = sym e ∙ ap (option_map value_of) h

pub returns-in-Some-clause-evaluates : goal.returns-in-Some-clause-evaluates
returns-in-Some-clause-evaluates g c = subst (λ r. EvaluatesRoot (numbered g.D.Desk.lens) g.D.Desk.acts c.args.desk.now r (Ok c.in-Some.p.0) c.args.desk.now) c.root_of-root.ensures (EvaluatesRoot.kept c.in-Some.p.0 (promise_some c.promise.result c.in-Some.p c.promise.ensures c.in-Some.is))

pub keep-requires-clause-linked : goal.keep-requires-clause-linked
keep-requires-clause-linked g c = let i = (subst (λ r. Within g.D.Desk.lens g.D.Desk.linked g.D.Desk.left c.requires.whole.0 c.args.desk.now r) (sym c.root_of-root.ensures) c.requires.whole.1.within) in i.short c.root_of-root.result i.inside

pub visit-requires : goal.visit-requires
visit-requires g c = record {
  within = (c.requires.whole.0, root.within_keep g.D.Desk.lens g.D.Desk.linked g.D.Desk.left g.D.Desk.acts c.args.desk.now c.root_of-root.result c.in-Ok-keep.p.0 c.in-Ok-keep.ensures.number (promise_none c.promise.result (c.promise.ensures) c.in-None.is) c.keep.new.self c.in-Ok-keep.ensures.world c.requires.whole.0 (subst (λ r. Within g.D.Desk.lens g.D.Desk.linked g.D.Desk.left c.requires.whole.0 c.args.desk.now r) (sym c.root_of-root.ensures) c.requires.whole.1.within) c.in-Ok-keep.ensures.keeps);
  stack = subst (λ xs. AllEntered g.D.Desk.lens c.keep.new.self xs) (sym c.new-opened.ensures) (λ y h. cc);
  unbegun = begun.unbegun_keep g.D.Desk.lens g.D.Desk.lawful g.D.Desk.linked g.D.Desk.left c.args.desk.now c.keep.new.self c.root_of-root.result c.requires.unbegun c.in-Ok-keep.ensures.world c.in-Ok-keep.ensures.keeps;
  fits = c.in-Ok-keep.ensures.fits;
}

pub returns-in-Some-error-clause-evaluates : goal.returns-in-Some-error-clause-evaluates
returns-in-Some-error-clause-evaluates g c = subst (λ r. EvaluatesRoot (numbered g.D.Desk.lens) g.D.Desk.acts c.args.desk.now r (Ok c.in-Ok-keep.p.0) c.reject.new.self) c.root_of-root.ensures (root.had_error g.D.Desk.lens g.D.Desk.linked g.D.Desk.left g.D.Desk.acts c.args.desk.now c.root_of-root.result c.in-Ok-keep.p.0 c.in-Ok-keep.ensures.number (promise_none c.promise.result (c.promise.ensures) c.in-None.is) c.keep.new.self c.in-Ok-keep.ensures.world (value_of c.in-Some-error.v) c.reject.new.self (error_some c.in-Ok.error c.in-Some-error.v c.in-Ok.ensures.error c.in-Some-error.is) c.reject.ensures.world)

pub returns-in-Ok-visit-clause-evaluates : goal.returns-in-Ok-visit-clause-evaluates
returns-in-Ok-visit-clause-evaluates g c = subst (λ r. EvaluatesRoot (numbered g.D.Desk.lens) g.D.Desk.acts c.args.desk.now r (Ok c.in-Ok-keep.p.0) c.fulfill_by.new.self) c.root_of-root.ensures (root.walked g.D.Desk.lens g.D.Desk.linked g.D.Desk.left g.D.Desk.acts c.args.desk.now c.root_of-root.result c.in-Ok-keep.p.0 c.in-Ok-keep.ensures.number (promise_none c.promise.result (c.promise.ensures) c.in-None.is) c.keep.new.self c.in-Ok-keep.ensures.world (error_none c.in-Ok.error c.in-Ok.ensures.error c.in-None-error.is) c.requires.whole.0 (subst (λ r. Within g.D.Desk.lens g.D.Desk.linked g.D.Desk.left c.requires.whole.0 c.args.desk.now r) (sym c.root_of-root.ensures) c.requires.whole.1.within) c.requires.whole.1.closed c.requires.whole.1.closed_is c.in-Ok-keep.ensures.keeps c.in-Ok-visit._low c.visit.new.desk c.fulfill_by.new.self c.visit.new.opened (subst (λ o. Visiting g.D.Desk.lens g.D.Desk.linked g.D.Desk.left g.D.Desk.acts c.keep.new.self o c.root_of-root.result (Ok c.in-Ok-visit._low) c.visit.new.desk c.visit.new.opened) c.new-opened.ensures c.in-Ok-visit.ensures.visits) c.fulfill_by.ensures.world)

pub returns-in-Err-Thrown-clause-evaluates : goal.returns-in-Err-Thrown-clause-evaluates
returns-in-Err-Thrown-clause-evaluates g c =
    let met = rw c.in-Err-Thrown.field-0-is at c.in-Err-Thrown.ensures in
    subst (λ r. EvaluatesRoot (numbered g.D.Desk.lens) g.D.Desk.acts c.args.desk.now r (Ok c.in-Ok-keep.p.0) c.reject-in-Err-Thrown.new.self) c.root_of-root.ensures (root.was_cut g.D.Desk.lens g.D.Desk.linked g.D.Desk.left g.D.Desk.acts c.args.desk.now c.root_of-root.result c.in-Ok-keep.p.0 c.in-Ok-keep.ensures.number (promise_none c.promise.result (c.promise.ensures) c.in-None.is) c.keep.new.self c.in-Ok-keep.ensures.world (error_none c.in-Ok.error c.in-Ok.ensures.error c.in-None-error.is) c.requires.whole.0 (subst (λ r. Within g.D.Desk.lens g.D.Desk.linked g.D.Desk.left c.requires.whole.0 c.args.desk.now r) (sym c.root_of-root.ensures) c.requires.whole.1.within) c.requires.whole.1.closed c.requires.whole.1.closed_is c.in-Ok-keep.ensures.keeps c.in-Err-Thrown.v c.visit.new.desk c.reject-in-Err-Thrown.new.self c.visit.new.opened (subst (λ o. Visiting g.D.Desk.lens g.D.Desk.linked g.D.Desk.left g.D.Desk.acts c.keep.new.self o c.root_of-root.result (Err (cuts.Thrown c.in-Err-Thrown.v)) c.visit.new.desk c.visit.new.opened) c.new-opened.ensures met.visits) c.reject-in-Err-Thrown.ensures.world)

pub returns-in-Err-Stopped-clause-evaluates : goal.returns-in-Err-Stopped-clause-evaluates
returns-in-Err-Stopped-clause-evaluates g c =
    let met = rw c.in-Err-Stopped.field-0-is at c.in-Err-Stopped.ensures in
    subst (λ r. EvaluatesRoot (numbered g.D.Desk.lens) g.D.Desk.acts c.args.desk.now r (Err c.in-Err-Stopped.why) c.visit.new.desk) c.root_of-root.ensures (root.was_stopped g.D.Desk.lens g.D.Desk.linked g.D.Desk.left g.D.Desk.acts c.args.desk.now c.root_of-root.result c.in-Ok-keep.p.0 c.in-Ok-keep.ensures.number (promise_none c.promise.result (c.promise.ensures) c.in-None.is) c.keep.new.self c.in-Ok-keep.ensures.world (error_none c.in-Ok.error c.in-Ok.ensures.error c.in-None-error.is) c.requires.whole.0 (subst (λ r. Within g.D.Desk.lens g.D.Desk.linked g.D.Desk.left c.requires.whole.0 c.args.desk.now r) (sym c.root_of-root.ensures) c.requires.whole.1.within) c.requires.whole.1.closed c.requires.whole.1.closed_is c.in-Ok-keep.ensures.keeps c.in-Err-Stopped.why c.visit.new.desk c.visit.new.opened (subst (λ o. Visiting g.D.Desk.lens g.D.Desk.linked g.D.Desk.left g.D.Desk.acts c.keep.new.self o c.root_of-root.result (Err (cuts.Stopped c.in-Err-Stopped.why)) c.visit.new.desk c.visit.new.opened) c.new-opened.ensures met.visits))

pub reject-requires-clause-known : goal.reject-requires-clause-known
reject-requires-clause-known g c = c.in-Ok-keep.ensures.knows (value_of c.in-Some-error.v) (subst (λ o. KnowsError g.D.Desk.knows c.args.desk.now o) c.in-Some-error.is c.in-Ok.ensures.known)

pub reject-requires-in-Err-Thrown : goal.reject-requires-in-Err-Thrown
reject-requires-in-Err-Thrown g c =
    let met = rw c.in-Err-Thrown.field-0-is at c.in-Err-Thrown.ensures in
    record { known = met.fits.1; fits = met.fits.0 }

pub returns-in-Some-error-clause-size : goal.returns-in-Some-error-clause-size
returns-in-Some-error-clause-size g c = c.reject.ensures.size ∙ c.in-Ok-keep.ensures.size

pub returns-in-Ok-visit-clause-size : goal.returns-in-Ok-visit-clause-size
returns-in-Ok-visit-clause-size g c = c.fulfill_by.ensures.size ∙ (c.in-Ok-visit.ensures.size ∙ c.in-Ok-keep.ensures.size)

pub returns-in-Err-Thrown-clause-size : goal.returns-in-Err-Thrown-clause-size
returns-in-Err-Thrown-clause-size g c = c.reject-in-Err-Thrown.ensures.size ∙ (c.in-Err-Thrown.ensures.size ∙ c.in-Ok-keep.ensures.size)

pub returns-in-Err-Stopped-clause-size : goal.returns-in-Err-Stopped-clause-size
returns-in-Err-Stopped-clause-size g c = c.in-Err-Stopped.ensures.size ∙ c.in-Ok-keep.ensures.size
