-- A body that goes on behind its await, in the code, is one of the definitions.
use Rattle.std.proofs.Common.{Vec, Global, ◌≡◌, ℕ, nat_eq, Bool, true, List, [], map, get_or, Some, refl, ap, subst, sym, ◌∙◌}
use Rattle.std.specs.Prelude.{Result, Ok, Err, OnOk}
use Rattle.std.specs.Arc.{arc_value}
use Rattle.std.specs.List.{remove}
use Rattle.esm_base.specs.declared.limits.Limit.{Limit}
use Rattle.esm_base.specs.declared.module_id.ModuleId.{ModuleId}
use Rattle.esm_resolve.specs.Graph.{Graph}
use Rattle.esm_resolve.specs.SharedSet.{SharedSetAgrees, SharedSetEnds}
use Rattle.esm_values.specs.Errors.{Errors}
use Rattle.esm_values.specs.Value.{Value}
use Rattle.esm_values.specs.Code.{CodeValue}
use Rattle.esm_expr_eval.specs.Ready.{Holds}
use Rattle.esm_promise.specs.Code.{Numbered}
use Rattle.esm_promise.specs.Promises.{Settled}
use Rattle.esm_promise.specs.Outer.{Outer}
use Rattle.esm_env.specs.Modules.{Modules}
use Rattle.esm_env.specs.Scopes.{Scopes}
use Rattle.esm_rewriting.specs.Rest.{Rest}
use Rattle.esm_rewriting.specs.State.{State, Importing}
use Rattle.esm_rewriting.specs.Bodies.{ResumesBody, Taken, take_standing, given_by, segment_end, url_in, without_standing}
use Rattle.esm_rewriting.specs.Segment.{Ended, Segment}
use Rattle.esm_rewriting.specs.Segment.{Ended as over}
use Rattle.esm_body.specs.Engines.{TakesBodies, AreStanding, IsStanding, Resumed}
use Rattle.esm_rewriting.specs.Fits.{AreLinked, FitsRun, FitStanding, IsKnown, Knows, of_body}
use Rattle.esm_body.specs.Importers.{HasLinked, ImportsAreLawful}
use Rattle.esm_body.specs.View.{state_of, standing_of}
use Rattle.esm_rewriting.specs.Sets.{IsNameOf}
use Rattle.esm_body.specs.Inner.Going.{FitsBody, Halts, WentOn, EndsSegment, StandsBehind, behind_rest}
use Rattle.esm_body.specs.Inner.Noting.{StandsAt}
use Rattle.esm_body.specs.Inner.Running.{ended_of}
use Rattle.esm_body.specs.Code.{standing_rest}
use Rattle.esm_body.specs.declared.ends.Halt.{Halt}
use Rattle.esm_body.specs.declared.engine.Engine.{Engine}
use Rattle.esm_rewriting.specs.declared.stop.Stop.{Stop}
use Rattle.esm_rewriting.specs.declared.stop.Stop.TheVariants as stops
use Rattle.esm_body.specs.declared.work.Standing.{Standing}
use Rattle.esm_rewriting.proofs.DeclaredLemmas.{filled_sets}
use Rattle.esm_body.proofs.EndLemmas.{end_told}
use Rattle.esm_rewriting.proofs.Grown.{filled_rest}
use Rattle.esm_body.proofs.LawfulFits.{lawful_some, lawful_resume}
use Rattle.esm_rewriting.proofs.SomeAct.{BeginsSome}
use Rattle.esm_rewriting.proofs.SomeBody.{TakenFits, taken}
use Rattle.esm_body.proofs.StartedLemmas.{url_behind}
use Rattle.esm_body.proofs.Stay.{stand_at, stand_behind, stand_on, stand_others}
use Rattle.esm_body.proofs.WaitLemmas.{The}

module _ {C S : Type 0} (seen : C → S) (graphs : C → Graph) (urls : C → ℕ → List ℕ) (modules : S → Modules ℕ) (linked : S → ℕ → Bool) (fits : Outer ℕ S → Type 0) (begins : Importing ℕ S)
    (has : (c : C) → AreLinked (modules (seen c)) (linked (seen c)) → HasLinked (modules (seen c)) (linked (seen c)) (graphs c) (urls c)) (agrees : SharedSetAgrees) (ends : SharedSetEnds) (lawful : ImportsAreLawful modules linked fits begins)
    (old mid : Engine) (sc : Scopes) (ps : Numbered) (es : Errors) (c : C) (id : ModuleId) (at : ℕ) (s : Standing) (how : Settled (Value ℕ)) (ready : TakesBodies modules linked fits begins old sc ps es (seen c)) (home : linked (seen c) id.0 ≡ true)
    (stands : StandsAt old.standing.items id.0 (Some at)) (knows : Holds (IsKnown (modules (seen c)) (linked (seen c))) ⊥ (given_by how)) (is : s ≡ get_or old.standing.items at s)
    (rest : mid ≡ record old { standing = mid.standing }) (items : mid.standing.items ≡ remove old.standing.items at) where
  some : BeginsSome modules linked fits begins
  some = lawful_some modules linked fits begins agrees ends lawful

  abbrev W : Type 0
  W = State ℕ S

  abbrev Old : W
  Old = state_of old sc ps es (seen c)

  abbrev Mid : W
  Mid = state_of mid sc ps es (seen c)

  abbrev Url : ℕ → List ℕ
  Url = url_in nat_eq modules begins Old

  abbrev others : List Standing
  others = remove old.standing.items at

  abbrev This : Taken ℕ
  This = record { standing = standing_of s; others = map standing_of others }

  this_is : The old.standing.items at s ≡ This
  this_is = ap (λ (t : Standing). record { standing = standing_of t; others = map standing_of others }) (sym is)

  pub taken_is : take_standing nat_eq (map standing_of old.standing.items) id.0 ≡ Some This
  taken_is = stands.2 s ∙ ap (λ (t : Taken ℕ). Some t) this_is

  pub at_home : s.body.at.0 ≡ id.0
  at_home = ap (λ (t : Standing). t.body.at.0) is ∙ stands.1 s

  without : Mid ≡ without_standing nat_eq modules begins Old This.others
  without = ap (λ (n : Engine). state_of n sc ps es (seen c)) rest ∙ ap (λ xs. without_standing nat_eq modules begins Old (map standing_of xs)) items

  held : TakenFits nat_eq modules linked fits begins some (seen c) This
  held = taken nat_eq modules linked fits begins some (seen c) (map standing_of old.standing.items) id.0 This ready.state.standing taken_is

  pub stood : IsStanding modules (seen c) s
  stood = subst (IsStanding modules (seen c)) (sym is) (stand_at modules (seen c) old.standing.items at s stands.0 ready.standing)

  abbrev Body : Rest CodeValue
  Body = behind_rest s.body s.purpose how

  run_body : FitsRun modules linked fits Mid id.0 true Body []
  run_body = subst (λ w. FitsRun modules linked fits w id.0 true Body []) (sym without) (record {
    state = record { whole = ready.state.whole; cells = ready.state.cells; standing = held.1 };
    home = home;
    holds = filled_rest (Knows modules linked (seen c)) (given_by how) knows (of_body true) (standing_rest s.body s.purpose) held.0;
    before = tt;
  })

  pub goes_fit : FitsBody modules linked fits Mid sc s.body Body true
  goes_fit = record {
    run = subst (λ n. FitsRun modules linked fits Mid n true Body []) (sym at_home) run_body;
    made = ready.made;
    belongs = record { tree = stood.belongs.tree; sets = filled_sets (IsNameOf (arc_value s.body.tree).items) (given_by how) (standing_rest s.body s.purpose) stood.belongs.sets };
  }

  segment_of : (end : Ended ℕ) (after : W) → Segment nat_eq modules begins Mid s.body.at.0 Body [] end after → Segment nat_eq modules begins Mid id.0 Body [] end after
  segment_of end after p = subst (λ n. Segment nat_eq modules begins Mid n Body [] end after) at_home p

  resumed : (end : Result (Unit {0}) Limit) (ended : Ended ℕ) (late after : W) → Segment nat_eq modules begins Mid id.0 Body [] ended late → segment_end Url id.0 s.done.0 ended late ≡ (end, after)
      → ResumesBody nat_eq modules begins Old id.0 how end after
  resumed end ended late after p e = record {
    taken = This;
    ended = ended;
    late = late;
    stands = taken_is;
    runs = subst (λ w. Segment nat_eq modules begins w id.0 Body [] ended late) without p;
    ends = e;
  }

  -- a limit was passed in the segment, or memory ran out
  pub resume_stopped : (late : W) (sc' : Scopes) (stop : Stop) → WentOn modules linked begins Mid s.body Body (Err stop) late sc' → Resumed modules linked fits begins Old id.0 how (Err stop) late
  resume_stopped late sc' (stops.Limit limit) p = resumed (Err limit) (over.Stopped limit) late late (segment_of (over.Stopped limit) late p) refl
  resume_stopped late sc' stops.Memory p = tt

  module _ (late : Engine) (sc' : Scopes) (ps' : Numbered) (es' : Errors) (c' : C) (hlt : Halt) (halts : Halts modules linked begins Mid s.body Body hlt (state_of late sc' ps' es' (seen c')) sc') where
    abbrev Late : W
    Late = state_of late sc' ps' es' (seen c')

    abbrev How : Ended ℕ
    How = ended_of hlt.ended hlt.body

    ran : Segment nat_eq modules begins Mid id.0 Body [] How Late
    ran = segment_of How Late halts.runs

    url_late : Url id.0 ≡ urls c' id.0
    url_late = url_behind seen graphs urls modules linked fits begins has agrees ends lawful true Mid Late c' id.0 Body How run_body ran refl

    abbrev New : Engine → Numbered → W
    New new ps'' = state_of new sc' ps'' es' (seen c')

    pub resumes_end : (new : Engine) (ps'' : Numbered) (result : Result (Unit {0}) Stop) → EndsSegment (urls c') id.0 s.done.0 hlt Late result (New new ps'') → Resumed modules linked fits begins Old id.0 how result (New new ps'')
    resumes_end new ps'' (Ok u) h = resumed (Ok tt) How Late (New new ps'') ran (end_told (urls c') Url id.0 url_late s.done.0 How Late ∙ h)
    resumes_end new ps'' (Err (stops.Limit limit)) h = resumed (Err limit) How Late (New new ps'') ran (end_told (urls c') Url id.0 url_late s.done.0 How Late ∙ h)
    resumes_end new ps'' (Err stops.Memory) h = tt

    still : late.standing ≡ mid.standing → AreStanding modules (seen c') late.standing.items
    still e =
        let same : late.standing.items ≡ others = ap (λ (v : Vec Standing Global). v.items) e ∙ items in
        stand_on modules linked (seen c) (seen c') halts.trees late.standing.items (subst (λ xs. FitStanding modules linked (seen c) (map standing_of xs)) (sym same) held.1)
        (subst (AreStanding modules (seen c)) (sym same) (stand_others modules (seen c) old.standing.items at ready.standing))

    pub resumes_ready : (new : Engine) (ps'' : Numbered) (result : Result (Unit {0}) Stop) → late.standing ≡ mid.standing → Resumed modules linked fits begins Old id.0 how result (New new ps'')
        → OnOk result (StandsBehind late.standing.items s.done hlt.ended hlt.body new.standing.items) → OnOk result (TakesBodies modules linked fits begins new sc' ps'' es' (seen c'))
    resumes_ready new ps'' (Ok u) e h b = record {
      state = (lawful_resume modules linked fits begins agrees ends lawful Old id.0 how (Ok tt) (New new ps'') ready.state home knows h).fits;
      made = halts.made;
      standing = stand_behind modules (seen c') late.standing.items new.standing.items s.done hlt.ended hlt.body b halts.code halts.ended halts.belongs (still e);
    }
    resumes_ready new ps'' (Err stop) e h b = tt
