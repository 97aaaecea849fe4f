-- What the code's calls for bodies do is what the definitions' do.
use Rattle.std.proofs.Common.{Vec, Global, ◌≡◌, ℕ, nat_eq, Bool, true, false, List, [], map, length, refl, ap, subst, sym, ◌∙◌}
use Rattle.std.specs.Prelude.{Result, Ok, Err, OnOk, IfOk}
use Rattle.std.specs.Arc.{arc_value}
use Rattle.esm_base.specs.declared.limits.Limit.{Limit}
use Rattle.esm_base.specs.declared.module_id.ModuleId.{ModuleId}
use Rattle.esm_resolve.specs.Graph.{Graph}
use Rattle.esm_resolve.specs.SharedSet.{SharedSetAgrees, SharedSetEnds}
use Rattle.esm_tree.specs.Syntax.{Parts}
use Rattle.esm_values.specs.Errors.{Errors}
use Rattle.esm_values.specs.Value.{Namespace}
use Rattle.esm_values.specs.Code.{CodeValue, ran_of}
use Rattle.esm_values.specs.declared.value.PromiseId.{PromiseId}
use Rattle.esm_values.specs.declared.value.Ran.{Ran}
use Rattle.esm_values.specs.declared.value.Ran.TheVariants as r
use Rattle.esm_promise.specs.Code.{Numbered}
use Rattle.esm_promise.specs.Outer.{Outer}
use Rattle.esm_env.specs.Declarations.{body_of}
use Rattle.esm_env.specs.Modules.{Modules, entries}
use Rattle.esm_env.specs.Scopes.{Scopes}
use Rattle.esm_rewriting.specs.Rest.{Rest, whole}
use Rattle.esm_rewriting.specs.State.{Begins, State, Importing, AnswerWith, note}
use Rattle.esm_rewriting.specs.Bodies.{StartsBody, RunsBody, url_in, whole_body}
use Rattle.esm_rewriting.specs.Segment.{Ended, Normal, Thrown, Awaiting, Stopped, Segment}
use Rattle.esm_body.specs.Engines.{TakesBodies, AreStanding, Started, RanBody, KnowsThrown}
use Rattle.esm_rewriting.specs.Fits.{AreLinked, FitsState, FitsRun, FitsEnd, FitStanding, FitsAfter}
use Rattle.esm_body.specs.Importers.{HasLinked, ImportsAreLawful}
use Rattle.esm_body.specs.View.{state_of, standing_of}
use Rattle.esm_rewriting.specs.Sets.{IsNameOf, SetsRest}
use Rattle.esm_body.specs.Inner.Going.{IsBegun, FitsBody, Halts, WentOn, EndsSegment, EndsBody, IsFinal, StandsBehind}
use Rattle.esm_body.specs.Inner.Noting.{NotesTo, TracesTo, Notes}
use Rattle.esm_body.specs.Inner.Running.{ended_of}
use Rattle.esm_body.specs.Inner.Stack.{levels_rest}
use Rattle.esm_body.specs.Code.{AreLevels, IsCode}
use Rattle.esm_body.specs.Inner.Turn.{code_rest}
use Rattle.esm_body.specs.declared.ends.Halt.{Halt}
use Rattle.esm_body.specs.declared.engine.Engine.{Engine}
use Rattle.esm_body.specs.declared.engine.Event.TheVariants as events
use Rattle.esm_rewriting.specs.declared.stop.Stop.{Stop}
use Rattle.esm_rewriting.specs.declared.stop.Stop.TheVariants as stops
use Rattle.esm_body.specs.declared.segment.Ended as code
use Rattle.esm_body.specs.declared.segment.Ended.TheVariants as e
use Rattle.esm_body.specs.declared.work.Activation.{Activation}
use Rattle.esm_body.specs.declared.work.Standing.{Standing}
use Rattle.esm_rewriting.proofs.DeclaredLemmas.{body_sets}
use Rattle.esm_body.proofs.EndLemmas.{end_told, body_told, stays_noted}
use Rattle.esm_rewriting.proofs.FitOutcomes.{segment_fits}
use Rattle.esm_body.proofs.Lawful.{shows_urls}
use Rattle.esm_body.proofs.LawfulFits.{lawful_some, lawful_one, lawful_start, lawful_run}
use Rattle.esm_body.proofs.NotedLines.{notes_ok, notes_stop}
use Rattle.esm_rewriting.proofs.OneAct.{BeginsOne}
use Rattle.esm_rewriting.proofs.SomeAct.{BeginsSome}
use Rattle.esm_rewriting.proofs.SomeBody.{no_await, noted_fits}
use Rattle.esm_body.proofs.Stay.{stand_behind, stand_on}
use Rattle.esm_body.proofs.UrlStays.{url_stays}

module _ {C S : Type 0} (seen : C → S) (graphs : C → Graph) (urls : C → ℕ → List ℕ) (modules : S → Modules ℕ) (linked : S → ℕ → Bool) (fits : Outer ℕ S → Type 0) (begins : Importing ℕ S)
    (has : (c : C) → AreLinked (modules (seen c)) (linked (seen c)) → HasLinked (modules (seen c)) (linked (seen c)) (graphs c) (urls c)) (agrees : SharedSetAgrees) (ends : SharedSetEnds) (lawful : ImportsAreLawful modules linked fits begins) where
  some : BeginsSome modules linked fits begins
  some = lawful_some modules linked fits begins agrees ends lawful

  one : BeginsOne begins
  one = lawful_one modules linked fits begins agrees ends lawful

  abbrev W : Type 0
  W = State ℕ S

  -- the URL that the code gives of a linked module
  shows : (w : W) (c : C) (m : ℕ) → w.outer.imports ≡ seen c → FitsState modules linked fits w → linked (seen c) m ≡ true → urls c m ≡ (modules (seen c)).url m
  shows w c m same f k = shows_urls modules linked fits begins lawful seen graphs urls has w.outer c m (subst (λ (i : S). fits (record w.outer { imports = i })) same f.whole) k

  stays_end : (awaits : Bool) (w : W) (how : Ended ℕ) (after : W) → FitsEnd modules linked fits w awaits how after → FitsAfter modules linked fits w after
  stays_end awaits w Normal after h = h
  stays_end awaits w (Thrown v) after h = h.0
  stays_end awaits w (Awaiting v rest) after h = h.0
  stays_end awaits w (Stopped why) after h = h

  -- what the code gives behind a segment is the URL of before
  pub url_behind : (awaits : Bool) (w after : W) (c : C) (m : ℕ) (rest : Rest CodeValue) (how : Ended ℕ) → FitsRun modules linked fits w m awaits rest [] → Segment nat_eq modules begins w m rest [] how after → after.outer.imports ≡ seen c
      → (modules w.outer.imports).url m ≡ urls c m
  url_behind awaits w after c m rest how f p same =
      let stays = stays_end awaits w how after (segment_fits nat_eq modules linked fits begins some one awaits w m rest [] how after f p) in
      let home : linked (seen c) m ≡ true = subst (λ (i : S). linked i m ≡ true) same (stays.keeps (Namespace m) f.home) in
      sym (shows after c m same stays.fits home ∙ ap (λ (i : S). (modules i).url m) (sym same) ∙ url_stays modules linked fits begins agrees ends lawful m ((modules w.outer.imports).url m) awaits w after rest how f refl p)

  -- ---- the start of a body

  module _ (old : Engine) (sc : Scopes) (ps : Numbered) (es : Errors) (c : C) (id : ModuleId) (ready : TakesBodies modules linked fits begins old sc ps es (seen c)) (home : linked (seen c) id.0 ≡ true) where
    abbrev Old : W
    Old = state_of old sc ps es (seen c)

    abbrev Mid : Engine → W
    Mid mid = state_of mid sc ps es (seen c)

    abbrev Url : ℕ → List ℕ
    Url = url_in nat_eq modules begins Old

    abbrev Body : Rest CodeValue
    Body = whole_body nat_eq modules begins Old id.0

    told : Url id.0 ≡ urls c id.0
    told = sym (shows Old c id.0 refl ready.state home)

    pub notes_begin : (mid : Engine) → NotesTo old (events.Begins id) (urls c id.0) mid → note Url Old (Begins id.0) ≡ (Ok tt, Mid mid)
    notes_begin mid h = notes_ok old sc ps es (seen c) Url (events.Begins id) (urls c id.0) told mid h

    pub stops_begin : (mid : Engine) (limit : Limit) → TracesTo old (events.Begins id) (urls c id.0) (Err (stops.Limit limit)) mid → note Url Old (Begins id.0) ≡ (Err limit, Mid mid)
    stops_begin mid limit h = notes_stop old sc ps es (seen c) Url (events.Begins id) (urls c id.0) told mid limit h

    pub begin_stopped : (mid : Engine) (done : ℕ) (stop : Stop) → Notes old (events.Begins id) (urls c id.0) (Err stop) mid → Started modules linked fits begins Old id.0 done (Err stop) (Mid mid)
    begin_stopped mid done (stops.Limit limit) h = StartsBody.stopped (stops_begin mid limit h)
    begin_stopped mid done stops.Memory h = tt

    pub run_stopped : (mid : Engine) (stop : Stop) → Notes old (events.Begins id) (urls c id.0) (Err stop) mid → RanBody modules linked fits begins Old id.0 (Err stop) (Mid mid)
    run_stopped mid (stops.Limit limit) h = RunsBody.stopped (stops_begin mid limit h)
    run_stopped mid stops.Memory h = tt

    module _ (a : Activation) (begun : IsBegun sc id.0 a) where
      same_tree : (arc_value begun.0.tree).items ≡ (modules (seen c)).tree id.0
      same_tree = ready.made.trees id.0 begun.0 begun.1

      pub begun_at : a.at.0 ≡ id.0
      begun_at = begun.2.at

      left : code_rest a ≡ whole (body_of (arc_value begun.0.tree).items)
      left = ap (λ (p : Parts). levels_rest p.stmts a.levels.items) begun.2.tree ∙ begun.2.rest

      begun_rest : code_rest a ≡ Body
      begun_rest = left ∙ ap (λ is. whole (body_of is)) same_tree

      pub begun_code : IsCode a
      begun_code = record { levels = subst (λ (p : Parts). AreLevels (length p.stmts) a.levels.items) (sym begun.2.tree) begun.2.levels; some = begun.2.some }

      module _ (mid : Engine) (noted : NotesTo old (events.Begins id) (urls c id.0) mid) (awaits : Bool) (still : awaits ≡ false → (entries (modules (seen c)) id.0).awaits ≡ false) where
        run_body : FitsRun modules linked fits (Mid mid) id.0 awaits Body []
        run_body =
            subst (λ (t : AnswerWith (Unit {0}) W). FitsRun modules linked fits t.1 id.0 awaits Body []) (notes_begin mid noted)
            (noted_fits nat_eq modules linked fits begins some Old id.0 awaits ready.state home (λ q. no_await ((modules (seen c)).tree id.0) (still q)))

        pub begun_fits : FitsBody modules linked fits (Mid mid) sc a (code_rest a) awaits
        begun_fits = record {
          run = subst (λ n. FitsRun modules linked fits (Mid mid) n awaits (code_rest a) []) (sym begun_at) (subst (λ rest. FitsRun modules linked fits (Mid mid) id.0 awaits rest []) (sym begun_rest) run_body);
          made = ready.made;
          belongs = record {
            tree = ap (λ n. (modules (seen c)).tree n) begun_at ∙ sym same_tree ∙ ap (λ (p : Parts). p.items) (sym begun.2.tree);
            sets = subst (SetsRest (IsNameOf (arc_value a.tree).items)) (sym (left ∙ ap (λ (p : Parts). whole (body_of p.items)) (sym begun.2.tree))) (body_sets CodeValue (arc_value a.tree).items);
          };
        }

        segment_of : (how : Ended ℕ) (after : W) → Segment nat_eq modules begins (Mid mid) a.at.0 (code_rest a) [] how after → Segment nat_eq modules begins (Mid mid) id.0 Body [] how after
        segment_of how after p =
            subst (λ n. Segment nat_eq modules begins (Mid mid) n Body [] how after) begun_at (subst (λ rest. Segment nat_eq modules begins (Mid mid) a.at.0 rest [] how after) begun_rest p)

        -- a limit was passed in the segment, or memory ran out
        pub went_stopped : (late : W) (sc' : Scopes) (done : ℕ) (stop : Stop) → WentOn modules linked begins (Mid mid) a (code_rest a) (Err stop) late sc' → Started modules linked fits begins Old id.0 done (Err stop) late
        went_stopped late sc' done (stops.Limit limit) p = StartsBody.segment (notes_begin mid noted) (segment_of (Stopped limit) late p) refl
        went_stopped late sc' done stops.Memory p = tt

        pub ran_stopped : (late : W) (sc' : Scopes) (stop : Stop) → WentOn modules linked begins (Mid mid) a (code_rest a) (Err stop) late sc' → RanBody modules linked fits begins Old id.0 (Err stop) late
        ran_stopped late sc' (stops.Limit limit) p = RunsBody.segment (notes_begin mid noted) (segment_of (Stopped limit) late p) refl
        ran_stopped late sc' stops.Memory p = tt

        -- ---- the end of its segment

        module _ (late : Engine) (sc' : Scopes) (ps' : Numbered) (es' : Errors) (c' : C) (hlt : Halt) (halts : Halts modules linked begins (Mid mid) a (code_rest a) hlt (state_of late sc' ps' es' (seen c')) sc') where
          abbrev Late : W
          Late = state_of late sc' ps' es' (seen c')

          abbrev How : Ended ℕ
          How = ended_of hlt.ended hlt.body

          ran : Segment nat_eq modules begins (Mid mid) id.0 Body [] How Late
          ran = segment_of How Late halts.runs

          url_late : Url id.0 ≡ urls c' id.0
          url_late = url_behind awaits (Mid mid) Late c' id.0 Body How run_body ran refl

          abbrev New : Engine → Numbered → W
          New new ps'' = state_of new sc' ps'' es' (seen c')

          pub starts_end : (new : Engine) (ps'' : Numbered) (done : ℕ) (result : Result (Unit {0}) Stop) → EndsSegment (urls c') id.0 done hlt Late result (New new ps'') → Started modules linked fits begins Old id.0 done result (New new ps'')
          starts_end new ps'' done (Ok u) h = StartsBody.segment (notes_begin mid noted) ran (end_told (urls c') Url id.0 url_late done How Late ∙ h)
          starts_end new ps'' done (Err (stops.Limit limit)) h = StartsBody.segment (notes_begin mid noted) ran (end_told (urls c') Url id.0 url_late done How Late ∙ h)
          starts_end new ps'' done (Err stops.Memory) h = tt

          pub runs_end : (new : Engine) (result : Result Ran Stop) → EndsBody (urls c') id.0 hlt.ended hlt.body Late result (New new ps') → RanBody modules linked fits begins Old id.0 result (New new ps')
          runs_end new (Ok how) h = RunsBody.segment (notes_begin mid noted) ran (body_told (urls c') Url id.0 url_late How Late ∙ h)
          runs_end new (Err (stops.Limit limit)) h = RunsBody.segment (notes_begin mid noted) ran (body_told (urls c') Url id.0 url_late How Late ∙ h)
          runs_end new (Err stops.Memory) h = tt

          -- the bodies that stood at their awaits
          stood : late.standing ≡ mid.standing → AreStanding modules (seen c') late.standing.items
          stood e =
              let here : AreStanding modules (seen c) late.standing.items = subst (λ (v : Vec Standing Global). AreStanding modules (seen c) v.items) (sym (e ∙ stays_noted old mid (events.Begins id) (urls c id.0) noted)) ready.standing in
              let fit = subst (λ (v : Vec Standing Global). FitStanding modules linked (seen c) (map standing_of v.items)) (sym (e ∙ stays_noted old mid (events.Begins id) (urls c id.0) noted)) ready.state.standing in
              stand_on modules linked (seen c) (seen c') halts.trees late.standing.items fit here

          pub starts_ready : (new : Engine) (ps'' : Numbered) (done : PromiseId) (result : Result (Unit {0}) Stop) → late.standing ≡ mid.standing → Started modules linked fits begins Old id.0 done.0 result (New new ps'')
              → OnOk result (StandsBehind late.standing.items done hlt.ended hlt.body new.standing.items) → OnOk result (TakesBodies modules linked fits begins new sc' ps'' es' (seen c'))
          starts_ready new ps'' done (Ok u) e h b = record {
            state = (lawful_start modules linked fits begins agrees ends lawful Old id.0 done.0 (Ok tt) (New new ps'') ready.state home h).fits;
            made = halts.made;
            standing = stand_behind modules (seen c') late.standing.items new.standing.items done hlt.ended hlt.body b halts.code halts.ended halts.belongs (stood e);
          }
          starts_ready new ps'' done (Err stop) e h b = tt

          pub runs_ready : (new : Engine) (result : Result Ran Stop) → late.standing ≡ mid.standing → (entries (modules (seen c)) id.0).awaits ≡ false → RanBody modules linked fits begins Old id.0 result (New new ps')
              → OnOk result (new.standing ≡ late.standing) → OnOk result (TakesBodies modules linked fits begins new sc' ps' es' (seen c'))
          runs_ready new (Ok how) e q h b = record {
            state = (lawful_run modules linked fits begins agrees ends lawful Old id.0 (Ok (ran_of how)) (New new ps') ready.state home q h).0.fits;
            made = halts.made;
            standing = subst (λ (v : Vec Standing Global). AreStanding modules (seen c') v.items) (sym b) (stood e);
          }
          runs_ready new (Err stop) e q h b = tt

          pub runs_known : (new : Engine) (result : Result Ran Stop) → (entries (modules (seen c)) id.0).awaits ≡ false → RanBody modules linked fits begins Old id.0 result (New new ps')
              → IfOk result (KnowsThrown modules linked fits begins (seen c'))
          runs_known new (Ok r.Normal) q h = tt
          runs_known new (Ok (r.Thrown v)) q h = (lawful_run modules linked fits begins agrees ends lawful Old id.0 (Ok (ran_of (r.Thrown v))) (New new ps') ready.state home q h).1
          runs_known new (Err stop) q h = tt

          -- a body that doesn't await stands at no await
          pub final_by : (end : code.Ended) → awaits ≡ false → FitsEnd modules linked fits (Mid mid) awaits (ended_of end hlt.body) Late → IsFinal end
          final_by e.Normal q h = tt
          final_by (e.Thrown v) q h = tt
          final_by (e.Awaits v purpose) q h = let d : true ≡ false = sym h.1 ∙ q in cc

          pub runs_final : awaits ≡ false → IsFinal hlt.ended
          runs_final q = final_by hlt.ended q (segment_fits nat_eq modules linked fits begins some one awaits (Mid mid) id.0 Body [] How Late run_body ran)
