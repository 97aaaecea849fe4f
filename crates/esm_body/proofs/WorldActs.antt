-- Each call of expressions on code under way is an act of the definitions.
use Rattle.std.proofs.Common.{◌≡◌, ℕ, nat_eq, Bool, List, refl, subst, sym}
use Rattle.std.specs.Prelude.{Result, Ok, Err}
use Rattle.esm_base.specs.declared.limits.Limit.{Limit}
use Rattle.esm_base.specs.declared.limits.Limit.TheVariants.{L1, L2, L3, L4, L5}
use Rattle.esm_values.specs.Value.{Error}
use Rattle.esm_values.specs.Code.{CodeValue, value_of, valued}
use Rattle.esm_values.specs.Errors.{Errors, fault, make_error, next_error}
use Rattle.esm_values.specs.Display.{printed_line}
use Rattle.esm_values.specs.Acts.{Act as act}
use Rattle.esm_values.specs.declared.errors.FaultKind.{FaultKind}
use Rattle.esm_values.specs.declared.value.Value.{Value}
use Rattle.esm_expr_eval.specs.Instance.{said}
use Rattle.esm_expr_eval.specs.declared.world.Out.{Out}
use Rattle.esm_promise.specs.Code.{Numbered}
use Rattle.esm_promise.specs.Outer.{Outer}
use Rattle.esm_env.specs.Modules.{Modules}
use Rattle.esm_env.specs.Calls.{scopes_of}
use Rattle.esm_env.specs.Laws.{ReadsRight}
use Rattle.esm_rewriting.specs.State.{Importing}
use Rattle.esm_body.specs.Importers.{ImportsAreLawful}
use Rattle.esm_rewriting.specs.Fits.{AreLinked}
use Rattle.esm_body.specs.Inner.Stack.{scopes_round}
use Rattle.esm_body.specs.Inner.Functions.{ImportsIn, ImportsFrom}
use Rattle.esm_body.specs.Inner.Log.{TookSteps, AddedLine}
use Rattle.esm_body.specs.Inner.Names.{reading_in, Tells}
use Rattle.esm_body.specs.Inner.Displayed.{IsShown, AreShown, MemberTold}
use Rattle.esm_rewriting.specs.Acts.{Inner, Performs}
use Rattle.esm_body.specs.Inner.World.{state_in, inner_of, IsSame, CodeIsWhole, Answers, ActsInside}
use Rattle.esm_body.specs.declared.log.Log.{Log}
use Rattle.esm_rewriting.specs.declared.stop.Stop.{Stop}
use Rattle.esm_rewriting.specs.declared.stop.Stop.TheVariants as stops
use Rattle.esm_body.specs.declared.inside.Inside.{Inside}
use Rattle.esm_body.specs.declared.work.Activation.{Activation}
use Rattle.esm_body.proofs.Asked.{shows_there, show_all_there, read_performs, member_performs, line_ok, line_stops, step_ok, step_stops, read_acts, member_acts}

-- with other errors
abbrev pub Errs : {I : Type 0} → Inside I → Errors → Inside I
Errs w es = record w { errors = record w.errors { now = es } }

-- with another log
abbrev pub Logs : {I : Type 0} → Inside I → Log → Inside I
Logs w log = record w { engine = record w.engine { now = record w.engine.now { log = log } } }

-- with other promises, errors and modules
abbrev pub Outs : {I : Type 0} → Inside I → Numbered → Errors → I → Inside I
Outs w ps es i = record w { promises = record w.promises { now = ps }; errors = record w.errors { now = es }; imports = record w.imports { now = i } }

errs_same : {I : Type 0} (w : Inside I) (es : Errors) → IsSame w (Errs w es)
errs_same w es = record { now = refl; code = refl; alloc = refl; engine = refl; standing = refl; errors = refl; envs = refl; promises = refl; imports = refl }

logs_same : {I : Type 0} (w : Inside I) (log : Log) → IsSame w (Logs w log)
logs_same w log = record { now = refl; code = refl; alloc = refl; engine = refl; standing = refl; errors = refl; envs = refl; promises = refl; imports = refl }

all_same : {I : Type 0} (w : Inside I) → IsSame w w
all_same w = record { now = refl; code = refl; alloc = refl; engine = refl; standing = refl; errors = refl; envs = refl; promises = refl; imports = refl }

module _ {I S : Type 0} (seen : I → S) (modules : S → Modules ℕ) (linked : S → ℕ → Bool) (fits : Outer ℕ S → Type 0) (begins : Importing ℕ S) (w : Inside I) where
  links : ImportsAreLawful modules linked fits begins → CodeIsWhole seen modules linked fits begins w → AreLinked (modules (seen w.imports.now)) (linked (seen w.imports.now))
  links lawful ready = lawful.links (state_in seen w).outer ready.state.whole

  pub reads : (x : List ℕ) (out : Out) (new : Errors) → ReadsRight
      → Tells x (reading_in (scopes_round w.code.now.levels.items) (scopes_of w.envs.now) w.code.now.at.0 x) w.errors.now (Ok out) new
      → ActsInside seen modules linked fits begins w (act.Read x) (said (Ok out)) (Errs w new)
  reads x out new right h = read_acts seen modules linked fits begins w (Errs w new) x out (
    errs_same w new,
    λ ready known. (
      read_performs modules linked fits begins (scopes_round w.code.now.levels.items) (scopes_of w.envs.now) w.engine.now w.promises.now (seen w.imports.now)
          w.errors.now new w.code.now.at.0 x out right ready.made ready.home h,
      ready.made,
    ),
  )

  pub members : (v : CodeValue) (x : List ℕ) (out : Out) (new : Errors) → ImportsAreLawful modules linked fits begins
      → MemberTold (modules (seen w.imports.now)) (linked (seen w.imports.now)) (scopes_of w.envs.now) w.errors.now v x (Ok out) new
      → ActsInside seen modules linked fits begins w (act.Member v x) (said (Ok out)) (Errs w new)
  members v x out new lawful h = member_acts seen modules linked fits begins w (Errs w new) v x out (
    errs_same w new,
    λ ready known. (
      member_performs modules linked fits begins (scopes_round w.code.now.levels.items) (scopes_of w.envs.now) w.engine.now w.promises.now (seen w.imports.now)
          w.errors.now new w.code.now.at.0 v x out ready.made (links lawful ready) known h,
      ready.made,
    ),
  )

  pub displays : (v : CodeValue) (text : List ℕ) → ImportsAreLawful modules linked fits begins
      → IsShown (modules (seen w.imports.now)) (linked (seen w.imports.now)) (scopes_of w.envs.now) w.errors.now v text
      → ActsInside seen modules linked fits begins w (act.Display v) (Ok text) w
  displays v text lawful h = (
    all_same w,
    λ ready known.
        ((text, shows_there modules (state_in seen w) v text (h ready.made (links lawful ready) known), refl), ready.made),
  )

  pub prints : (vs : List CodeValue) (texts : List (List ℕ)) (r : Result (Unit {0}) Stop) (new : Log) → ImportsAreLawful modules linked fits begins
      → AreShown (modules (seen w.imports.now)) (linked (seen w.imports.now)) (scopes_of w.envs.now) w.errors.now vs texts
      → AddedLine w.engine.now.log (printed_line texts) r new → ActsInside seen modules linked fits begins w (act.Print vs) r (Logs w new)
  prints vs texts (Ok u) new lawful shown h = (
    logs_same w new,
    λ ready known. (
      (
        texts,
        show_all_there modules (state_in seen w) vs texts (shown ready.made (links lawful ready) known),
        line_ok modules linked fits begins (scopes_round w.code.now.levels.items) (scopes_of w.envs.now) w.engine.now w.promises.now w.errors.now (seen w.imports.now) (printed_line texts) new h,
      ),
      ready.made,
    ),
  )
  prints vs texts (Err (stops.Limit L1)) new lawful shown h = absurd h
  prints vs texts (Err (stops.Limit L2)) new lawful shown h = absurd h
  prints vs texts (Err (stops.Limit L3)) new lawful shown h = absurd h
  prints vs texts (Err (stops.Limit L4)) new lawful shown h = absurd h
  prints vs texts (Err (stops.Limit L5)) new lawful shown h = (
    logs_same w new,
    λ ready known. (
      (
        texts,
        show_all_there modules (state_in seen w) vs texts (shown ready.made (links lawful ready) known),
        line_stops modules linked fits begins (scopes_round w.code.now.levels.items) (scopes_of w.envs.now) w.engine.now w.promises.now w.errors.now (seen w.imports.now) (printed_line texts) new h,
      ),
      ready.made,
    ),
  )
  prints vs texts (Err stops.Memory) new lawful shown h = tt

  pub makes_fault : (kind : FaultKind) (message : List ℕ) (v : Value) (new : Errors) → value_of v ≡ Error (next_error w.errors.now) → new ≡ make_error w.errors.now (fault kind message)
      → ActsInside seen modules linked fits begins w (act.Fault kind message) (Ok (value_of v)) (Errs w new)
  makes_fault kind message v new p q = (errs_same w new, λ ready known. ((λ j. (Ok (p j), with_errors (q j))), ready.made))
    where
      with_errors : Errors → Inner ℕ S
      with_errors es = inner_of seen (Errs w es)

  pub takes_steps : (n : ℕ) (r : Result (Unit {0}) Stop) (new : Log) → TookSteps w.engine.now.log n r new → ActsInside seen modules linked fits begins w (act.Step n) r (Logs w new)
  takes_steps n (Ok u) new h = (
    logs_same w new,
    λ ready known.
        (step_ok modules linked fits begins (scopes_round w.code.now.levels.items) (scopes_of w.envs.now) w.engine.now w.promises.now w.errors.now (seen w.imports.now) n new h, ready.made),
  )
  takes_steps n (Err (stops.Limit L1)) new h = absurd h
  takes_steps n (Err (stops.Limit L2)) new h = absurd h
  takes_steps n (Err (stops.Limit L3)) new h = (
    logs_same w new,
    λ ready known.
        (step_stops modules linked fits begins (scopes_round w.code.now.levels.items) (scopes_of w.envs.now) w.engine.now w.promises.now w.errors.now (seen w.imports.now) n new h, ready.made),
  )
  takes_steps n (Err (stops.Limit L4)) new h = absurd h
  takes_steps n (Err (stops.Limit L5)) new h = absurd h
  takes_steps n (Err stops.Memory) new h = absurd h

  -- what begins in a module, in any scopes, begins in code that stands there
  begins_here : (after : Inside I) (v : CodeValue) (told : Result CodeValue Limit) → ImportsIn seen modules linked fits begins w.code.now.at.0 w v told after → Answers seen modules linked fits begins w (act.Import v) told after
  begins_here after v told h = (
    h.0,
    λ ready known.
        let i = h.1 ready ready.home in (
          subst (λ (code : Activation). Performs nat_eq modules begins w.code.now.at.0 (inner_of seen w) (act.Import v) told (record { scopes = scopes_round code.levels.items; state = state_in seen after }))
              (sym h.0.now) (i.0 (scopes_round w.code.now.levels.items)),
          i.1,
        ),
  )

  pub imports : (after : Inside I) (v : CodeValue) (r : Result Value Stop) → ImportsFrom seen modules linked fits begins w.code.now.at.0 w v r after → ActsInside seen modules linked fits begins w (act.Import v) (valued r) after
  imports after v (Ok p) h = begins_here after v (Ok (value_of p)) h
  imports after v (Err (stops.Limit limit)) h = begins_here after v (Err limit) h
  imports after v (Err stops.Memory) h = tt
