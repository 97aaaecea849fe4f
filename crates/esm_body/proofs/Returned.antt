-- What was lent to code under way is there again behind it: the state of who lent it is the state of the code.
use Rattle.std.proofs.Common.{◌≡◌, ℕ, Bool, ap, subst, sym, ◌∙◌}
use Rattle.std.specs.Prelude.{Result, Ok, Err, OnOk, is_some}
use Rattle.esm_resolve.specs.SharedSet.{SharedSetAgrees, SharedSetEnds}
use Rattle.esm_values.specs.Code.{CodeValue}
use Rattle.esm_values.specs.Errors.{Errors}
use Rattle.esm_promise.specs.Code.{Numbered}
use Rattle.esm_promise.specs.Outer.{Outer}
use Rattle.esm_env.specs.Modules.{Modules}
use Rattle.esm_env.specs.Calls.{scopes_of}
use Rattle.esm_env.specs.Scopes.{scope_in}
use Rattle.esm_env.specs.declared.envs.Envs.{Envs}
use Rattle.esm_body.specs.SameScopes.{HaveSameScopes}
use Rattle.esm_rewriting.specs.Rest.{Rest}
use Rattle.esm_rewriting.specs.State.{State, Importing}
use Rattle.esm_body.specs.Importers.{ImportsAreLawful}
use Rattle.esm_body.specs.View.{state_of}
use Rattle.esm_body.specs.Inner.Going.{MayGoOn, Halts, WentOn, CameTo}
use Rattle.esm_body.specs.Inner.Running.{RanBehind}
use Rattle.esm_body.specs.Inner.Turn.{SameLoans, code_rest}
use Rattle.esm_body.specs.Inner.World.{state_in, with_code}
use Rattle.esm_body.specs.declared.ends.Halt.{Halt}
use Rattle.esm_body.specs.declared.engine.Engine.{Engine}
use Rattle.esm_body.specs.declared.inside.Inside.{Inside}
use Rattle.esm_rewriting.specs.declared.stop.Stop.{Stop}
use Rattle.esm_rewriting.specs.declared.stop.Stop.TheVariants as stops
use Rattle.esm_body.specs.declared.segment.Ended.{Ended}
use Rattle.esm_body.specs.declared.turn.Outcome.{Outcome}
use Rattle.esm_body.specs.declared.turn.Outcome.TheVariants as o
use Rattle.esm_body.specs.declared.work.Activation.{Activation}
use Rattle.esm_body.proofs.EndLemmas.{halt}
use Rattle.esm_body.proofs.GoesOn.{halts_behind, halts_on, scopes_behind, scopes_on, stands_behind, stands_on, stops_behind, stops_on}

-- behind the code, what was lent is what the code left, where it used these very loans
pub record IsBack {I : Type 0} (w y : Inside I) (engine : Engine) (errors : Errors) (envs : Envs) (promises : Numbered) (imports : I) : Type 0 where
  pub engine_is : SameLoans w y → engine ≡ y.engine.now
  pub errors_are : SameLoans w y → errors ≡ y.errors.now
  pub envs_are : SameLoans w y → envs ≡ y.envs.now
  pub promises_are : SameLoans w y → promises ≡ y.promises.now
  pub imports_are : SameLoans w y → imports ≡ y.imports.now

-- what holds whatever is answered holds behind Ok
pub on_ok : {T E P : Type 0} (r : Result T E) → P → OnOk r P
on_ok (Ok x) p = p
on_ok (Err e) p = tt

loans_of : {I : Type 0} (w x y : Inside I) → x ≡ with_code w x.code.now → SameLoans x y → SameLoans w y
loans_of w x y e l =
    let l' : SameLoans (with_code w x.code.now) y = subst (λ z. SameLoans z y) e l in
    record { alloc = l'.alloc; code = l'.code; engine = l'.engine; standing = l'.standing; errors = l'.errors; envs = l'.envs; promises = l'.promises; imports = l'.imports }

module _ {I S : Type 0} (seen : I → S) (modules : S → Modules ℕ) (linked : S → ℕ → Bool) (fits : Outer ℕ S → Type 0) (begins : Importing ℕ S)
    (w : Inside I) (rest : Rest CodeValue) (may : MayGoOn modules linked fits (state_in seen w) (scopes_of w.envs.now) w.code.now rest)
    (y : Inside I) (engine : Engine) (errors : Errors) (envs : Envs) (promises : Numbered) (imports : I) (back : IsBack w y engine errors envs promises imports) where
  abbrev Ran : Inside I → Outcome → Result Ended Stop → Type 0
  Ran x out r = RanBehind seen modules linked fits begins x out r y

  abbrev Then : State ℕ S
  Then = state_of engine (scopes_of envs) promises errors (seen imports)

  then_is : SameLoans w y → Then ≡ state_in seen y
  then_is l = λ j. state_of (back.engine_is l j) (scopes_of (back.envs_are l j)) (back.promises_are l j) (back.errors_are l j) (seen (back.imports_are l j))

  abbrev HaltsAt : Halt → State ℕ S → Envs → Type 0
  HaltsAt hlt after e = Halts modules linked begins (state_in seen w) w.code.now rest hlt after (scopes_of e)

  halts_then : (end : Ended) (body : Activation) → SameLoans w y → body ≡ y.code.now → HaltsAt (halt end y.code.now) (state_in seen y) y.envs.now → HaltsAt (halt end body) Then envs
  halts_then end body l e h =
      subst (λ (b : Activation). HaltsAt (halt end b) Then envs) (sym e)
      (subst (λ (after : State ℕ S). HaltsAt (halt end y.code.now) after envs) (sym (then_is l)) (subst (λ (v : Envs). HaltsAt (halt end y.code.now) (state_in seen y) v) (sym (back.envs_are l)) h))

  stands_then : SameLoans w y → y.engine.now.standing ≡ w.engine.now.standing → engine.standing ≡ w.engine.now.standing
  stands_then l s = ap (λ (e : Engine). e.standing) (back.engine_is l) ∙ s

  scopes_then : SameLoans w y → HaveSameScopes (scopes_of w.envs.now) (scopes_of y.envs.now) → HaveSameScopes (scopes_of w.envs.now) (scopes_of envs)
  scopes_then l s m = ap (λ (e : Envs). is_some (scope_in (scopes_of e) m)) (back.envs_are l) ∙ s m

  abbrev Went : Stop → State ℕ S → Envs → Type 0
  Went stop after e = WentOn modules linked begins (state_in seen w) w.code.now rest (Err stop) after (scopes_of e)

  -- ---- from its start

  module _ (whole : rest ≡ code_rest w.code.now) where
    pub halts_on_back : (end : Ended) (body : Activation) (r : Result Ended Stop) → Ran w o.On r → r ≡ Ok end → (SameLoans w y → body ≡ y.code.now) → HaltsAt (halt end body) Then envs
    halts_on_back end body r h is e =
        let h' : Ran w o.On (Ok end) = subst (Ran w o.On) is h in
        let there : HaltsAt (halt end y.code.now) (state_in seen y) y.envs.now =
        subst (λ (s : Rest CodeValue). Halts modules linked begins (state_in seen w) w.code.now s (halt end y.code.now) (state_in seen y) (scopes_of y.envs.now)) (sym whole) (halts_on seen modules linked fits begins w y end h') in
        halts_then end body h'.1.keeps.loans (e h'.1.keeps.loans) there

    pub stands_on_back : (end : Ended) (r : Result Ended Stop) → Ran w o.On r → r ≡ Ok end → engine.standing ≡ w.engine.now.standing
    stands_on_back end r h is =
        let h' : Ran w o.On (Ok end) = subst (Ran w o.On) is h in
        stands_then h'.1.keeps.loans (stands_on seen modules linked fits begins w y end h')

    pub scopes_on_back : (end : Ended) (r : Result Ended Stop) → Ran w o.On r → r ≡ Ok end → HaveSameScopes (scopes_of w.envs.now) (scopes_of envs)
    scopes_on_back end r h is =
        let h' : Ran w o.On (Ok end) = subst (Ran w o.On) is h in
        scopes_then h'.1.keeps.loans (scopes_on seen modules linked fits begins w y end h')

    stops_on_then : (stop : Stop) → Ran w o.On (Err stop) → Went stop Then envs
    stops_on_then (stops.Limit limit) h =
        let there : Went (stops.Limit limit) (state_in seen y) envs =
        subst (λ (s : Rest CodeValue). WentOn modules linked begins (state_in seen w) w.code.now s (Err (stops.Limit limit)) (state_in seen y) (scopes_of envs)) (sym whole) (stops_on seen modules linked fits begins w y (stops.Limit limit) h) in
        subst (λ (after : State ℕ S). Went (stops.Limit limit) after envs) (sym (then_is h.1.loans)) there
    stops_on_then stops.Memory h = tt

    pub stops_on_back : (stop : Stop) (r : Result Ended Stop) → Ran w o.On r → r ≡ Err stop → Went stop Then envs
    stops_on_back stop r h is = stops_on_then stop (subst (Ran w o.On) is h)

  -- ---- behind an await

  module _ (agrees : SharedSetAgrees) (ended : SharedSetEnds) (lawful : ImportsAreLawful modules linked fits begins)
      (x : Inside I) (out : Outcome) (came : CameTo seen modules begins w rest out x) where
    pub halts_behind_back : (end : Ended) (body : Activation) (r : Result Ended Stop) → Ran x out r → r ≡ Ok end → (SameLoans w y → body ≡ y.code.now) → HaltsAt (halt end body) Then envs
    halts_behind_back end body r h is e =
        let h' : Ran x out (Ok end) = subst (Ran x out) is h in
        let l : SameLoans w y = loans_of w x y came.others h'.1.keeps.loans in
        halts_then end body l (e l) (halts_behind seen modules linked fits begins agrees ended lawful w x y rest out end may came h')

    pub stands_behind_back : (end : Ended) (r : Result Ended Stop) → Ran x out r → r ≡ Ok end → engine.standing ≡ w.engine.now.standing
    stands_behind_back end r h is =
        let h' : Ran x out (Ok end) = subst (Ran x out) is h in
        stands_then (loans_of w x y came.others h'.1.keeps.loans) (stands_behind seen modules linked fits begins agrees ended lawful w x y rest out end came h')

    pub scopes_behind_back : (end : Ended) (r : Result Ended Stop) → Ran x out r → r ≡ Ok end → HaveSameScopes (scopes_of w.envs.now) (scopes_of envs)
    scopes_behind_back end r h is =
        let h' : Ran x out (Ok end) = subst (Ran x out) is h in
        scopes_then (loans_of w x y came.others h'.1.keeps.loans) (scopes_behind seen modules linked fits begins agrees ended lawful w x y rest out end came h')

    stops_behind_then : (stop : Stop) → Ran x out (Err stop) → Went stop Then envs
    stops_behind_then (stops.Limit limit) h =
        subst (λ (after : State ℕ S). Went (stops.Limit limit) after envs) (sym (then_is (loans_of w x y came.others h.1.loans)))
        (stops_behind seen modules linked fits begins agrees ended lawful w x y rest out (stops.Limit limit) may came h)
    stops_behind_then stops.Memory h = tt

    pub stops_behind_back : (stop : Stop) (r : Result Ended Stop) → Ran x out r → r ≡ Err stop → Went stop Then envs
    stops_behind_back stop r h is = stops_behind_then stop (subst (Ran x out) is h)
