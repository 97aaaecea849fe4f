-- Calls for bodies follow the names of modules.
use Rattle.std.proofs.Common.{◌≡◌, ℕ, Bool, true, false, List, [], ◌∷◌, ◌++◌, map, Option, Some, None, refl, ap, subst, sym, ◌∙◌}
use Rattle.std.specs.Prelude.{Result, Ok, Err, codes, ◌+◌, length, nat_lt}
use Rattle.std.specs.Option.{option_map}
use Rattle.std.proofs.lemmas.List.{map-append}
use Rattle.esm_base.specs.declared.limits.Limit.{Limit}
use Rattle.esm_base.specs.declared.limits.TheConstants.{MAX_LOG_BYTES}
use Rattle.esm_base.specs.Lists.{IsSameness}
use Rattle.esm_tree.specs.Syntax.{Item}
use Rattle.esm_values.specs.Value.{Value, Undefined, Truth, Text, Func, Error, Namespace, Promise}
use Rattle.esm_values.specs.Ran.{Ran}
use Rattle.esm_values.specs.Ran.{Ran as ran}
use Rattle.esm_values.specs.Naming.{Naming}
use Rattle.esm_promise.specs.Promises.{Promises, Settled, Fulfilled, Rejected, register, make_fulfilled, next_promise}
use Rattle.esm_promise.specs.Reactions.{Reaction, Await}
use Rattle.esm_promise.specs.Renaming.{renamed, renamed_settled}
use Rattle.esm_promise.proofs.Renamed as promises
use Rattle.esm_expr_eval.specs.Naming.{mapped_term}
use Rattle.esm_env.specs.Declarations.{body_of}
use Rattle.esm_env.specs.Modules.{Modules}
use Rattle.esm_env.specs.Naming.{AreNamed}
use Rattle.esm_env.proofs.Named as env
use Rattle.esm_rewriting.specs.Rest.{Rest, whole, fill_rest}
use Rattle.esm_rewriting.specs.State.{Event, Begins, Ends, Throws, Standing, State, Importing, AnswerWith, event_line, line_by, add_line, event_behind, note_by, note}
use Rattle.esm_rewriting.specs.Acts.{modules_of}
use Rattle.esm_rewriting.specs.Segment.{Ended, Normal, Thrown, Awaiting, Stopped, Segment}
use Rattle.esm_rewriting.specs.Bodies.{Taken, behind, take_by, take_standing, await_on, stand, settle_done, segment_end, ran_by, body_end, given_by, url_in, whole_body, StartsBody, RunsBody, ResumesBody}
use Rattle.esm_rewriting.specs.Naming.{mapped_end, renamed_event, renamed_standing, renamed_ended, ImportsFollow, FollowsNames}
use Rattle.esm_rewriting.proofs.NamedRests.{fill_follows, whole_follows}
use Rattle.esm_rewriting.proofs.NamedActs.{line_follows}
use Rattle.esm_rewriting.proofs.NamedMoves.{F, R, Rr, IsGood, segments_follow}

module _ {M N I J : Type 0} (names : Naming M N) (image : I → J) (same : M → M → Bool) (other : N → N → Bool) (modules : I → Modules M) (images : J → Modules N)
    (begins : Importing M I) (others : Importing N J) (s : IsSameness same) (t : IsSameness other) (Good : I → Type 0) (k : (i : I) → Good i → AreNamed names (modules i) (images (image i))) (imports : ImportsFollow names image Good begins others) where
  abbrev V : Value M → Value N
  V v = F names image same other modules images begins others s t Good k imports v

  abbrev W : State M I → State N J
  W w = R names image same other modules images begins others s t Good k imports w

  abbrev Rests : Rest (Value M) → Rest (Value N)
  Rests r = Rr names image same other modules images begins others s t Good k imports r

  abbrev Good_in : State M I → Type 0
  Good_in w = IsGood names image same other modules images begins others s t Good k imports w

  abbrev Ev : Event M → Event N
  Ev e = renamed_event names e

  abbrev St : Standing M → Standing N
  St x = renamed_standing names x

  abbrev told : AnswerWith (Unit {0}) (State M I) → AnswerWith (Unit {0}) (State N J)
  told a = (a.0, W a.1)

  abbrev Ps : Type 0
  Ps = Promises (Reaction M) (Value M)

  -- ---- events

  module _ (url : M → List ℕ) (other_url : N → List ℕ) (urls : (m : M) → other_url (names.name m) ≡ url m) where
    lines : (e : Event M) → event_line url e ≡ event_line other_url (Ev e)
    lines (Begins m) = ap (λ u. codes "# start " ++ u) (sym (urls m))
    lines (Ends m) = ap (λ u. codes "# end " ++ u) (sym (urls m))
    lines (Throws m) = ap (λ u. codes "# throw " ++ u) (sym (urls m))

    behind_follows : (e : Event M) (r : Result (Unit {0}) Limit) (w : State M I) → told (event_behind e (r, w)) ≡ event_behind (Ev e) (r, W w)
    behind_follows e (Ok done) w = λ i. (Ok tt, record (W w) { engine = record (W w).engine { events = map-append Ev w.engine.events (e ∷ []) i } })
    behind_follows e (Err why) w = refl

    note_by_follows : (b : Bool) (w : State M I) (e : Event M) → told (note_by b url w e) ≡ note_by b other_url (W w) (Ev e)
    note_by_follows true w e =
        let a = add_line w (event_line url e) in
        behind_follows e a.0 a.1
        ∙ ap (event_behind (Ev e)) (line_follows names image same other modules images begins others s t Good k imports w (event_line url e) ∙ ap (add_line (W w)) (lines e))
    note_by_follows false w e = behind_follows e (Ok tt) w

    note_follows : (w : State M I) (e : Event M) → told (note url w e) ≡ note other_url (W w) (Ev e)
    note_follows w e = note_by_follows w.engine.trace w e

    -- ---- ends

    done_follows : (p : ℕ) (how : Settled (Value M)) (r : Result (Unit {0}) Limit) (w : State M I) → told (settle_done p how (r, w)) ≡ settle_done p (renamed_settled names.name how) (r, W w)
    done_follows p how (Ok noted) w = λ i. (Ok tt, record (W w) { outer = record (W w).outer { promises = (promises.follows_names names.name).settles w.outer.promises p how i } })
    done_follows p how (Err why) w = refl

    awaits_new : (ps : Ps) (v : Value M) (m : M) → renamed names.name (register (make_fulfilled ps v) (next_promise ps) (Await m)) ≡ register (make_fulfilled (renamed names.name ps) (V v)) (next_promise (renamed names.name ps)) (Await (names.name m))
    awaits_new ps v m =
        (promises.follows_names names.name).registers (make_fulfilled ps v) (next_promise ps) (Await m)
        ∙ (λ i. register ((promises.follows_names names.name).makes_fulfilled ps v i) (sym ((promises.follows_names names.name).next ps) i) (Await (names.name m)))

    awaits_follow : (ps : Ps) (v : Value M) (m : M) → renamed names.name (await_on ps v m) ≡ await_on (renamed names.name ps) (V v) (names.name m)
    awaits_follow ps Undefined m = awaits_new ps Undefined m
    awaits_follow ps (Truth b) m = awaits_new ps (Truth b) m
    awaits_follow ps (Text u) m = awaits_new ps (Text u) m
    awaits_follow ps (Func n i) m = awaits_new ps (Func n i) m
    awaits_follow ps (Error e) m = awaits_new ps (Error e) m
    awaits_follow ps (Namespace n) m = awaits_new ps (Namespace n) m
    awaits_follow ps (Promise p) m = (promises.follows_names names.name).registers ps p (Await m)

    stand_follows : (w : State M I) (m : M) (done : ℕ) (v : Value M) (rest : Rest (Value M)) → W (stand w m done v rest) ≡ stand (W w) (names.name m) done (V v) (Rests rest)
    stand_follows w m done v rest = λ i. record {
      engine = record (W w).engine { standing = map-append St w.engine.standing (record { at = m; done = done; rest = rest } ∷ []) i };
      cells = (W w).cells;
      outer = record (W w).outer { promises = awaits_follow w.outer.promises v m i };
    }

    end_follows : (m : M) (done : ℕ) (how : Ended M) (w : State M I) → told (segment_end url m done how w) ≡ segment_end other_url (names.name m) done (renamed_ended names how) (W w)
    end_follows m done Normal w = let a = note url w (Ends m) in done_follows done (Fulfilled Undefined) a.0 a.1 ∙ ap (settle_done done (Fulfilled Undefined)) (note_follows w (Ends m))
    end_follows m done (Thrown v) w = let a = note url w (Throws m) in done_follows done (Rejected v) a.0 a.1 ∙ ap (settle_done done (Rejected (V v))) (note_follows w (Throws m))
    end_follows m done (Awaiting v rest) w = ap (λ u. (Ok tt, u)) (stand_follows w m done v rest)
    end_follows m done (Stopped why) w = refl

    abbrev told_ran : AnswerWith (Ran (Value M)) (State M I) → AnswerWith (Ran (Value N)) (State N J)
    told_ran a = (mapped_end V a.0, W a.1)

    abbrev ran_of : Ran (Value M) → Ran (Value N)
    ran_of ran.Normal = ran.Normal
    ran_of (ran.Thrown v) = ran.Thrown (V v)

    ran_follows : (how : Ran (Value M)) (r : Result (Unit {0}) Limit) (w : State M I) → option_map told_ran (ran_by how (r, w)) ≡ ran_by (ran_of how) (r, W w)
    ran_follows ran.Normal (Ok noted) w = refl
    ran_follows (ran.Thrown v) (Ok noted) w = refl
    ran_follows how (Err why) w = refl

    body_follows : (m : M) (how : Ended M) (w : State M I) → option_map told_ran (body_end url m how w) ≡ body_end other_url (names.name m) (renamed_ended names how) (W w)
    body_follows m Normal w = let a = note url w (Ends m) in ran_follows ran.Normal a.0 a.1 ∙ ap (ran_by ran.Normal) (note_follows w (Ends m))
    body_follows m (Thrown v) w = let a = note url w (Throws m) in ran_follows (ran.Thrown v) a.0 a.1 ∙ ap (ran_by (ran.Thrown (V v))) (note_follows w (Throws m))
    body_follows m (Awaiting v rest) w = refl
    body_follows m (Stopped why) w = refl

  -- ---- what is good stays so

  abbrev Stays : (A : Type 0) → AnswerWith A (State M I) → Type 0
  Stays A a = Good_in a.1

  line_stays : (w : State M I) → Good_in w → (e : Event M) (text : List ℕ) (b : Bool) → Stays (Unit {0}) (event_behind e (line_by b w text))
  line_stays w g e text true = g
  line_stays w g e text false = g

  note_stays : (url : M → List ℕ) (w : State M I) → Good_in w → (e : Event M) (b : Bool) → Stays (Unit {0}) (note_by b url w e)
  note_stays url w g e true = line_stays w g e (event_line url e) (nat_lt MAX_LOG_BYTES (length w.engine.log + length (event_line url e) + 1))
  note_stays url w g e false = g

  noted : (url : M → List ℕ) (w : State M I) → Good_in w → (e : Event M) → Stays (Unit {0}) (note url w e)
  noted url w g e = note_stays url w g e w.engine.trace

  done_stays : (p : ℕ) (how : Settled (Value M)) (a : AnswerWith (Unit {0}) (State M I)) → Stays (Unit {0}) a → Stays (Unit {0}) (settle_done p how a)
  done_stays p how (Ok done, w) g = g
  done_stays p how (Err why, w) g = g

  end_stays : (url : M → List ℕ) (m : M) (done : ℕ) (how : Ended M) (w : State M I) → Good_in w → Stays (Unit {0}) (segment_end url m done how w)
  end_stays url m done Normal w g = done_stays done (Fulfilled Undefined) (note url w (Ends m)) (noted url w g (Ends m))
  end_stays url m done (Thrown v) w g = done_stays done (Rejected v) (note url w (Throws m)) (noted url w g (Throws m))
  end_stays url m done (Awaiting v rest) w g = g
  end_stays url m done (Stopped why) w g = g

  abbrev EndStays : Option (AnswerWith (Ran (Value M)) (State M I)) → Type 0
  EndStays None = Unit {0}
  EndStays (Some a) = Stays (Ran (Value M)) a

  ran_stays : (how : Ran (Value M)) (a : AnswerWith (Unit {0}) (State M I)) → Stays (Unit {0}) a → EndStays (ran_by how a)
  ran_stays how (Ok done, w) g = g
  ran_stays how (Err why, w) g = g

  body_stays : (url : M → List ℕ) (m : M) (how : Ended M) (w : State M I) → Good_in w → EndStays (body_end url m how w)
  body_stays url m Normal w g = ran_stays ran.Normal (note url w (Ends m)) (noted url w g (Ends m))
  body_stays url m (Thrown v) w g = ran_stays (ran.Thrown v) (note url w (Throws m)) (noted url w g (Throws m))
  body_stays url m (Awaiting v rest) w g = tt
  body_stays url m (Stopped why) w g = g

  -- ---- bodies that stand

  abbrev taken_of : Taken M → Taken N
  taken_of x = record { standing = St x.standing; others = map St x.others }

  behind_one : (x : Standing M) (o : Option (Taken M)) → behind other (St x) (option_map taken_of o) ≡ option_map taken_of (behind same x o)
  behind_one x None = refl
  behind_one x (Some y) = refl

  take_by_follows : (b : Bool) (x : Standing M) (xs : List (Standing M)) (o : Option (Taken M)) → take_by other b (St x) (map St xs) (option_map taken_of o) ≡ option_map taken_of (take_by same b x xs o)
  take_by_follows true x xs o = refl
  take_by_follows false x xs o = behind_one x o

  takes_follow : (i : I) → Good i → (xs : List (Standing M)) (m : M) → take_standing other (map St xs) (names.name m) ≡ option_map taken_of (take_standing same xs m)
  takes_follow i g [] m = refl
  takes_follow i g (x ∷ xs) m =
      (λ j. take_by other (env.same_follows names (modules i) (images (image i)) (k i g) same other s t x.at m j) (St x) (map St xs) (takes_follow i g xs m j))
      ∙ take_by_follows (same x.at m) x xs (take_standing same xs m)

  given_follows : (how : Settled (Value M)) → mapped_term V (given_by how) ≡ given_by (renamed_settled names.name how)
  given_follows (Fulfilled v) = refl
  given_follows (Rejected v) = refl

  -- ---- calls

  urls_of : (w : State M I) → Good_in w → (m : M) → url_in other images others (W w) (names.name m) ≡ url_in same modules begins w m
  urls_of w g m = (k w.outer.imports g).url m

  begun : (w : State M I) → Good_in w → (m : M) → told (note (url_in same modules begins w) w (Begins m)) ≡ note (url_in other images others (W w)) (W w) (Begins (names.name m))
  begun w g m = note_follows (url_in same modules begins w) (url_in other images others (W w)) (urls_of w g) w (Begins m)

  whole_is : (w : State M I) → Good_in w → (m : M) → Rests (whole_body same modules begins w m) ≡ whole_body other images others (W w) (names.name m)
  whole_is w g m = whole_follows V (body_of ((modules_of modules w).tree m)) ∙ ap (λ (items : List Item). whole (body_of items)) (sym ((k w.outer.imports g).tree m))

  runs : {mid late : State M I} {m : M} {r : Rest (Value M)} {how : Ended M} (r' : Rest (Value N)) → Rests r ≡ r' → Good_in mid → Segment same modules begins mid m r [] how late
      → Segment other images others (W mid) (names.name m) r' [] (renamed_ended names how) (W late) × Good_in late
  runs {mid} {late} {m} {how = how} r' e g p =
      let rest = segments_follow names image same other modules images begins others s t Good k imports g p in
      (subst (λ r. Segment other images others (W mid) (names.name m) r [] (renamed_ended names how) (W late)) e rest.0, rest.1)

  starts : (w after : State M I) (m : M) (done : ℕ) (end : Result (Unit {0}) Limit) → Good_in w → StartsBody same modules begins w m done end after → StartsBody other images others (W w) (names.name m) done end (W after) × Good_in after
  starts w after m done end g (StartsBody.stopped h) = (StartsBody.stopped (sym (begun w g m) ∙ ap told h), subst (Stays (Unit {0})) h (noted (url_in same modules begins w) w g (Begins m)))
  starts w after m done end g (StartsBody.segment {late = late} {how = how} h p e) =
      let body = runs (whole_body other images others (W w) (names.name m)) (whole_is w g m) (subst (Stays (Unit {0})) h (noted (url_in same modules begins w) w g (Begins m))) p in (
        StartsBody.segment (sym (begun w g m) ∙ ap told h) body.0
            (sym (end_follows (url_in same modules begins w) (url_in other images others (W w)) (urls_of w g) m done how late) ∙ ap told e),
        subst (Stays (Unit {0})) e (end_stays (url_in same modules begins w) m done how late body.1),
      )

  runs_body : (w after : State M I) (m : M) (end : Result (Ran (Value M)) Limit) → Good_in w → RunsBody same modules begins w m end after → RunsBody other images others (W w) (names.name m) (mapped_end V end) (W after) × Good_in after
  runs_body w after m end g (RunsBody.stopped h) = (RunsBody.stopped (sym (begun w g m) ∙ ap told h), subst (Stays (Unit {0})) h (noted (url_in same modules begins w) w g (Begins m)))
  runs_body w after m end g (RunsBody.segment {late = late} {how = how} h p e) =
      let body = runs (whole_body other images others (W w) (names.name m)) (whole_is w g m) (subst (Stays (Unit {0})) h (noted (url_in same modules begins w) w g (Begins m))) p in (
        RunsBody.segment (sym (begun w g m) ∙ ap told h) body.0
            (sym (body_follows (url_in same modules begins w) (url_in other images others (W w)) (urls_of w g) m how late)
            ∙ ap (option_map (told_ran (url_in same modules begins w) (url_in other images others (W w)) (urls_of w g))) e),
        subst EndStays e (body_stays (url_in same modules begins w) m how late body.1),
      )

  resumes : (w after : State M I) (m : M) (how : Settled (Value M)) (end : Result (Unit {0}) Limit) → Good_in w → ResumesBody same modules begins w m how end after
      → ResumesBody other images others (W w) (names.name m) (renamed_settled names.name how) end (W after) × Good_in after
  resumes w after m how end g p =
      let body = runs (fill_rest (given_by (renamed_settled names.name how)) (Rests p.taken.standing.rest))
      (fill_follows V (given_by how) p.taken.standing.rest ∙ ap (λ g. fill_rest g (Rests p.taken.standing.rest)) (given_follows how)) g p.runs in (
        record {
          taken = taken_of p.taken;
          ended = renamed_ended names p.ended;
          late = W p.late;
          stands = takes_follow w.outer.imports g w.engine.standing m ∙ ap (option_map taken_of) p.stands;
          runs = body.0;
          ends = sym (end_follows (url_in same modules begins w) (url_in other images others (W w)) (urls_of w g) m p.taken.standing.done p.ended p.late) ∙ ap told p.ends;
        },
        subst (Stays (Unit {0})) p.ends (end_stays (url_in same modules begins w) m p.taken.standing.done p.ended p.late body.1),
      )

pub follows_names : {M N I J : Type 0} (names : Naming M N) (image : I → J) (Good : I → Type 0) (same : M → M → Bool) (other : N → N → Bool) (modules : I → Modules M) (images : J → Modules N)
    (begins : Importing M I) (others : Importing N J) → FollowsNames names image Good same other modules images begins others
follows_names names image Good same other modules images begins others s t k imports = record {
  segment = λ w after m rest callers how g p. segments_follow names image same other modules images begins others s t Good k imports g p;
  start = starts names image same other modules images begins others s t Good k imports;
  run = runs_body names image same other modules images begins others s t Good k imports;
  resume = resumes names image same other modules images begins others s t Good k imports;
}
