-- Each call for a body has an outcome, in a state that fits.
use Rattle.std.proofs.Common.{◌++◌, ◌≡◌, ℕ, Bool, true, false, ◌||◌, List, [], ◌∷◌, Option, Some, None, refl, ap, subst, sym, ◌∙◌}
use Rattle.std.specs.Prelude.{⊤, Result, Ok, Err}
use Rattle.std.specs.List.{list_any}
use Rattle.esm_base.specs.declared.limits.Limit.{Limit}
use Rattle.esm_tree.specs.Syntax.{Item, ImportEffect, ImportFrom, ExportAll, ExportAllAs, ExportFrom, ExportList, ExportStatement, ExportFunction, ExportDefaultFunction, Function, Statement}
use Rattle.esm_ast.specs.Entries.{item_awaits, stmts_await, entries_of, entries_with}
use Rattle.esm_values.specs.Value.{Value, Undefined, Namespace}
use Rattle.esm_values.specs.Ran.{Ran}
use Rattle.esm_values.specs.Ran.{Ran as ran}
use Rattle.esm_promise.specs.Promises.{Settled}
use Rattle.esm_values.specs.Operators.{values}
use Rattle.esm_promise.specs.Promises.Settled.{Fulfilled, Rejected}
use Rattle.esm_env.specs.Declarations.{body_of}
use Rattle.esm_promise.specs.Outer.{Outer}
use Rattle.esm_env.specs.Modules.{Modules, entries}
use Rattle.esm_expr_eval.specs.Ready.{Holds}
use Rattle.esm_rewriting.specs.Rest.{Rest, fill_rest}
use Rattle.esm_rewriting.specs.State.{State, Standing, Importing, AnswerWith, Event, Begins, Ends, Throws, note, note_by, event_behind, event_line, line_by}
use Rattle.esm_rewriting.specs.Segment.{Ended, Normal, Thrown, Awaiting, Stopped}
use Rattle.esm_rewriting.specs.Bodies.{StartsBody, RunsBody, ResumesBody, Taken, take_by, take_standing, given_by, url_in, whole_body, settle_done, segment_end, body_end, ran_by, without_standing}
use Rattle.esm_rewriting.specs.Fits.{of_body, FitsState, FitsRun, FitsEnd, FitStanding, FitsAfter, HoldsRest, Knows}
use Rattle.esm_rewriting.proofs.Grown.{new_whole, filled_rest, held_rest}
use Rattle.esm_rewriting.proofs.SomeAct.{BeginsSome}
use Rattle.esm_rewriting.proofs.SomeSegment.{some_segment}

-- a body awaits where its module does
pub awaits_are : (items : List Item) → list_any item_awaits items ≡ stmts_await (body_of items)
unfolding item_awaits stmts_await
awaits_are [] = refl
awaits_are (ImportEffect s ∷ items) = awaits_are items
awaits_are (ImportFrom s bs ∷ items) = awaits_are items
awaits_are (ExportAll s ∷ items) = awaits_are items
awaits_are (ExportAllAs n s ∷ items) = awaits_are items
awaits_are (ExportFrom es s ∷ items) = awaits_are items
awaits_are (ExportList es ∷ items) = awaits_are items
awaits_are (ExportStatement s ∷ items) = ap (λ b. Rattle.esm_ast.specs.Entries.stmt_awaits s || b) (awaits_are items)
awaits_are (ExportFunction n ps ss ∷ items) = awaits_are items
awaits_are (ExportDefaultFunction n ps ss ∷ items) = awaits_are items
awaits_are (Function n ps ss ∷ items) = awaits_are items
awaits_are (Statement s ∷ items) = ap (λ b. Rattle.esm_ast.specs.Entries.stmt_awaits s || b) (awaits_are items)

pub no_await : (items : List Item) → (entries_of items).awaits ≡ false → stmts_await (body_of items) ≡ false
unfolding entries_of entries_with
no_await items e = sym (awaits_are items) ∙ e

module _ {N I : Type 0} (same : N → N → Bool) (modules : I → Modules N) (linked : I → N → Bool) (Whole : Outer N I → Type 0) (begins : Importing N I) (some : BeginsSome modules linked Whole begins) where
  abbrev W : Type 0
  W = State N I

  abbrev Run : W → N → Bool → Rest (Value N) → Type 0
  Run w m awaits r = FitsRun modules linked Whole w m awaits r []

  abbrev Stays : W → W → Type 0
  Stays w after = FitsAfter modules linked Whole w after

  -- ---- what a body notes and settles

  line_stays : (w : W) (event : Event N) (text : List ℕ) (b : Bool) → FitsState modules linked Whole w → Stays w (event_behind event (line_by b w text)).1
  line_stays w event text true f = record { fits = record { whole = f.whole; cells = f.cells; standing = f.standing }; keeps = λ v k. k }
  line_stays w event text false f = record { fits = record { whole = f.whole; cells = f.cells; standing = f.standing }; keeps = λ v k. k }

  note_stays_by : (url : N → List ℕ) (w : W) (event : Event N) (b : Bool) → FitsState modules linked Whole w → Stays w (note_by b url w event).1
  note_stays_by url w event true f = line_stays w event (event_line url event) _ f
  note_stays_by url w event false f = record { fits = record { whole = f.whole; cells = f.cells; standing = f.standing }; keeps = λ v k. k }

  note_stays : (url : N → List ℕ) (w : W) (event : Event N) → FitsState modules linked Whole w → Stays w (note url w event).1
  note_stays url w event f = note_stays_by url w event w.engine.trace f

  both : {w mid after : W} → Stays w mid → Stays mid after → Stays w after
  both a b = record { fits = b.fits; keeps = λ v k. b.keeps v (a.keeps v k) }

  settles : (done : ℕ) (how : Settled (Value N)) (w : W) (told : AnswerWith (Unit {0}) W) → Stays w told.1 → Holds (Knows modules linked told.1.outer.imports) ⊥ (given_by how) → Stays w (settle_done done how told).1
  settles done how w (Ok noted, mid) s h = record { fits = record { whole = some.settles mid.outer done how h s.fits.whole; cells = s.fits.cells; standing = s.fits.standing }; keeps = s.keeps }
  settles done how w (Err why, mid) s h = s

  stand_more : (i : I) (ss : List (Standing N)) (s : Standing N) → FitStanding modules linked i ss → linked i s.at ≡ true → HoldsRest (Knows modules linked i) ⊤ (of_body true) s.rest → FitStanding modules linked i (ss ++ s ∷ [])
  stand_more i [] s h l r = (l, r, tt)
  stand_more i (t ∷ ss) s h l r = (h.0, h.1, stand_more i ss s h.2 l r)

  -- where a segment of a body that awaits has ended
  end_stays : (url : N → List ℕ) (m : N) (done : ℕ) (w late : W) (how : Ended N) → linked w.outer.imports m ≡ true → FitsEnd modules linked Whole w true how late → Stays w (segment_end url m done how late).1
  end_stays url m done w late Normal home h = settles done (Fulfilled Undefined) w (note url late (Ends m)) (both h (note_stays url late (Ends m) h.fits)) tt
  end_stays url m done w late (Thrown v) home h =
      let n = note_stays url late (Throws m) h.0.fits in
      settles done (Rejected v) w (note url late (Throws m)) (both h.0 n) (n.keeps v h.1)
  end_stays url m done w late (Awaiting v rest) home h = record {
    fits = record {
      whole = some.awaits late.outer v m h.2 (h.0.keeps (Namespace m) home) h.0.fits.whole;
      cells = h.0.fits.cells;
      standing = stand_more late.outer.imports late.engine.standing (record { at = m; done = done; rest = rest }) h.0.fits.standing (h.0.keeps (Namespace m) home) h.3;
    };
    keeps = h.0.keeps;
  }
  end_stays url m done w late (Stopped why) home h = h

  -- ---- a body begins

  begins_fit : (w mid : W) (m : N) (awaits : Bool) → Stays w mid → linked w.outer.imports m ≡ true → HoldsRest (Knows modules linked mid.outer.imports) ⊥ (of_body awaits) (whole_body same modules begins w m) → Run mid m awaits (whole_body same modules begins w m)
  begins_fit w mid m awaits s home h = record { state = s.fits; home = s.keeps (Namespace m) home; holds = h; before = tt }

  whole_fits : (w : W) (m : N) (awaits : Bool) → FitsState modules linked Whole w → linked w.outer.imports m ≡ true → (awaits ≡ false → stmts_await (body_of ((modules w.outer.imports).tree m)) ≡ false)
      → HoldsRest (Knows modules linked w.outer.imports) ⊥ (of_body awaits) (whole_body same modules begins w m)
  whole_fits w m awaits f home a = new_whole (Knows modules linked w.outer.imports) (values same) tt (λ b. tt) (λ t. tt) (of_body awaits) _ (record { returns = λ e. (some.readable w.outer f.whole).bodies m home; awaits = a })

  pub noted_fits : (w : W) (m : N) (awaits : Bool) → FitsState modules linked Whole w → linked w.outer.imports m ≡ true → (awaits ≡ false → stmts_await (body_of ((modules w.outer.imports).tree m)) ≡ false)
      → Run (note (url_in same modules begins w) w (Begins m)).1 m awaits (whole_body same modules begins w m)
  noted_fits w m awaits f home a =
      let s = note_stays (url_in same modules begins w) w (Begins m) f in
      begins_fit w (note (url_in same modules begins w) w (Begins m)).1 m awaits s home (held_rest (Knows modules linked w.outer.imports) (Knows modules linked (note (url_in same modules begins w) w (Begins m)).1.outer.imports) s.keeps ⊥ (of_body awaits) _ (whole_fits w m awaits f home a))

  -- ---- start

  abbrev pub Starts : W → N → ℕ → Type 0
  Starts w m done = (end : Result (Unit {0}) Limit) × ((after : W) × (StartsBody same modules begins w m done end after × Stays w after))

  start_by : (w : W) (m : N) (done : ℕ) (r : Result (Unit {0}) Limit) (mid : W) → note (url_in same modules begins w) w (Begins m) ≡ (r, mid) → Stays w mid → Run mid m true (whole_body same modules begins w m) → Starts w m done
  start_by w m done (Err why) mid e n f = (Err why, (mid, (StartsBody.stopped e, n)))
  start_by w m done (Ok tt) mid e n f =
      let s = some_segment same modules linked Whole begins some true mid m (whole_body same modules begins w m) [] f in
      let told = segment_end (url_in same modules begins w) m done s.0 s.1.0 in
      (told.0, (told.1, (StartsBody.segment e s.1.1.0 refl, both n (end_stays (url_in same modules begins w) m done mid s.1.0 s.0 f.home s.1.1.1))))

  pub some_start : (w : W) (m : N) (done : ℕ) → FitsState modules linked Whole w → linked w.outer.imports m ≡ true → Starts w m done
  some_start w m done f home =
      let told = note (url_in same modules begins w) w (Begins m) in
      start_by w m done told.0 told.1 refl (note_stays (url_in same modules begins w) w (Begins m) f) (noted_fits w m true f home (λ e. absurd cc))

  -- ---- run

  abbrev pub RanKnown : I → Result (Ran (Value N)) Limit → Type 0
  RanKnown i (Ok (ran.Thrown v)) = Knows modules linked i v
  RanKnown i (Ok ran.Normal) = ⊤
  RanKnown i (Err why) = ⊤

  abbrev pub Runs : W → N → Type 0
  Runs w m = (end : Result (Ran (Value N)) Limit) × ((after : W) × (RunsBody same modules begins w m end after × (Stays w after × RanKnown after.outer.imports end)))

  abbrev Ran' : W → (Option (AnswerWith (Ran (Value N)) W)) → Type 0
  Ran' w o = (x : AnswerWith (Ran (Value N)) W) × ((o ≡ Some x) × (Stays w x.1 × RanKnown x.1.outer.imports x.0))

  ran_normal : (w : W) (t : AnswerWith (Unit {0}) W) → Stays w t.1 → Ran' w (ran_by ran.Normal t)
  ran_normal w (Ok done, mid) s = ((Ok ran.Normal, mid), (refl, (s, tt)))
  ran_normal w (Err why, mid) s = ((Err why, mid), (refl, (s, tt)))

  ran_thrown : (w : W) (v : Value N) (t : AnswerWith (Unit {0}) W) → Stays w t.1 → Knows modules linked t.1.outer.imports v → Ran' w (ran_by (ran.Thrown v) t)
  ran_thrown w v (Ok done, mid) s k = ((Ok (ran.Thrown v), mid), (refl, (s, k)))
  ran_thrown w v (Err why, mid) s k = ((Err why, mid), (refl, (s, tt)))

  body_some : (url : N → List ℕ) (m : N) (w late : W) (how : Ended N) → FitsEnd modules linked Whole w false how late → Ran' w (body_end url m how late)
  body_some url m w late Normal h = ran_normal w (note url late (Ends m)) (both h (note_stays url late (Ends m) h.fits))
  body_some url m w late (Thrown v) h = let n = note_stays url late (Throws m) h.0.fits in ran_thrown w v (note url late (Throws m)) (both h.0 n) (n.keeps v h.1)
  body_some url m w late (Awaiting v rest) h = absurd (let e = h.1 in cc)
  body_some url m w late (Stopped why) h = ((Err why, late), (refl, (h, tt)))

  run_by : (w : W) (m : N) (r : Result (Unit {0}) Limit) (mid : W) → note (url_in same modules begins w) w (Begins m) ≡ (r, mid) → Stays w mid → Run mid m false (whole_body same modules begins w m) → Runs w m
  run_by w m (Err why) mid e n f = (Err why, (mid, (RunsBody.stopped e, (n, tt))))
  run_by w m (Ok tt) mid e n f =
      let s = some_segment same modules linked Whole begins some false mid m (whole_body same modules begins w m) [] f in
      let x = body_some (url_in same modules begins w) m mid s.1.0 s.0 s.1.1.1 in
      (x.0.0, (x.0.1, (RunsBody.segment e s.1.1.0 x.1.0, (both n x.1.1.0, x.1.1.1))))

  pub some_run : (w : W) (m : N) → FitsState modules linked Whole w → linked w.outer.imports m ≡ true → (entries (modules w.outer.imports) m).awaits ≡ false → Runs w m
  some_run w m f home a =
      let told = note (url_in same modules begins w) w (Begins m) in
      run_by w m told.0 told.1 refl (note_stays (url_in same modules begins w) w (Begins m) f) (noted_fits w m false f home (λ e. no_await _ a))

  -- ---- resume

  abbrev pub TakenFits : I → Taken N → Type 0
  TakenFits i t = HoldsRest (Knows modules linked i) ⊤ (of_body true) t.standing.rest × FitStanding modules linked i t.others

  taken_by : (i : I) (s : Standing N) (ss : List (Standing N)) (t : Taken N) (b : Bool) (later : Option (Taken N)) → FitStanding modules linked i (s ∷ ss) → ((t : Taken N) → later ≡ Some t → TakenFits i t) → take_by same b s ss later ≡ Some t → TakenFits i t
  taken_by i s ss t true later h k e = subst (TakenFits i) (let q : record { standing = s; others = ss } ≡ t = cc in q) (h.1, h.2)
  taken_by i s ss t false None h k e = absurd cc
  taken_by i s ss t false (Some u) h k e = let r = k u refl in subst (TakenFits i) (let q : record u { others = s ∷ u.others } ≡ t = cc in q) (r.0, (h.0, h.1, r.1))

  pub taken : (i : I) (ss : List (Standing N)) (m : N) (t : Taken N) → FitStanding modules linked i ss → take_standing same ss m ≡ Some t → TakenFits i t
  taken i [] m t h e = absurd cc
  taken i (s ∷ ss) m t h e = taken_by i s ss t (same s.at m) (take_standing same ss m) h (λ u q. taken i ss m u h.2 q) e

  abbrev pub Resumes : W → N → Settled (Value N) → Type 0
  Resumes w m how = (end : Result (Unit {0}) Limit) × ((after : W) × (ResumesBody same modules begins w m how end after × Stays w after))

  pub some_resume : (w : W) (m : N) (t : Taken N) (how : Settled (Value N)) → FitsState modules linked Whole w → linked w.outer.imports m ≡ true → take_standing same w.engine.standing m ≡ Some t
      → Holds (Knows modules linked w.outer.imports) ⊥ (given_by how) → Resumes w m how
  some_resume w m t how f home e g =
      let h = taken w.outer.imports w.engine.standing m t f.standing e in
      let mid = without_standing same modules begins w t.others in
      let first : Stays w mid = record { fits = record { whole = f.whole; cells = f.cells; standing = h.1 }; keeps = λ v k. k } in
      let s = some_segment same modules linked Whole begins some true mid m (fill_rest (given_by how) t.standing.rest) [] (record {
        state = first.fits;
        home = home;
        holds = filled_rest (Knows modules linked w.outer.imports) (given_by how) g (of_body true) t.standing.rest h.0;
        before = tt;
      }) in
      let told = segment_end (url_in same modules begins w) m t.standing.done s.0 s.1.0 in
      (told.0, (told.1, (record { taken = t; ended = s.0; late = s.1.0; stands = e; runs = s.1.1.0; ends = refl }, both first (end_stays (url_in same modules begins w) m t.standing.done mid s.1.0 s.0 home s.1.1.1))))
