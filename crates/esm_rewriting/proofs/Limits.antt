-- Steps are taken, and a limit is no throw.
use Rattle.std.proofs.Common.{◌≡◌, ℕ, ◌+◌, Bool, true, false, refl, ap}
use Rattle.std.specs.Prelude.{Result, Ok, Err, nat_eq, nat_lt}
use Rattle.esm_base.specs.declared.limits.Limit.{Limit}
use Rattle.esm_base.specs.declared.limits.TheConstants.{MAX_STEPS}
use Rattle.esm_tree.specs.Syntax.{Stmt as Statement}
use Rattle.esm_values.specs.Value.{Value}
use Rattle.esm_values.specs.Plans.Rewritten.{Goes}
use Rattle.esm_values.specs.Plans.Follows.{ends, asks}
use Rattle.esm_env.specs.Modules.{Modules}
use Rattle.esm_rewriting.specs.Rest.{Rest, more}
use Rattle.esm_rewriting.specs.Rest.Part.{Whole}
use Rattle.esm_rewriting.specs.State.{steps_by}
use Rattle.esm_rewriting.specs.Acts.{Inner, over_scopes}
use Rattle.esm_rewriting.specs.BodyRewriting.{On, RewritesBody}
use Rattle.esm_rewriting.specs.BodyRewriting.RewritesBody.{begins_at, tries}
use Rattle.esm_rewriting.specs.Laws.{Importer, imports_by, itself, StatementsTakeSteps, StopsAreNotCaught, UnsetThrows}

apart : {limit : Limit} → ◌≡◌ {A = Result (Unit {0}) Limit} (Ok tt) (Err limit) → ⊥
apart e = cc

abbrev There : Type 0
There = Inner ℕ (Modules ℕ)

took : (b : Bool) (w after : There) → ◌≡◌ {A = Result (Unit {0}) Limit × There} (Ok tt, after) (over_scopes w (steps_by b w.state 1)) → after.state.engine.steps ≡ w.state.engine.steps + 1
took true w after e = absurd (apart (ap (λ t. t.0) e))
took false w after e = ap (λ t. t.1.state.engine.steps) e

takes : (f : Importer) (m : ℕ) {w after : There} {s : Statement} {rest r : Rest (Value ℕ)} → RewritesBody nat_eq itself (imports_by f) m w (more (Whole s) rest) (On (Goes r)) after → after.state.engine.steps ≡ w.state.engine.steps + 1
takes f m {w} {after} (begins_at (asks tt a ends)) = took (nat_lt MAX_STEPS (w.state.engine.steps + 1)) w after a

pub statements_take_steps : StatementsTakeSteps
statements_take_steps f m w after s rest r h = takes f m h

pub stops_are_not_caught : StopsAreNotCaught
stops_are_not_caught f m w after r rest x handler why h = tries h

pub unset_throws : UnsetThrows
unset_throws w x = refl
