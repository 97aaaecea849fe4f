-- Each call of rows on the code under way, as the definitions have it.
use Rattle.std.proofs.Common.{◌≡◌, ℕ, nat_eq, Bool, true, false, cond, ◌&&◌, List, [], ◌∷◌, Option, Some, None, refl, ap, subst, sym, ◌∙◌}
use Rattle.std.specs.Prelude.{Result, Ok, Err, IfOk}
use Rattle.std.specs.Str.{bytes_eq}
use Rattle.std.specs.Arc.{arc_value}
use Rattle.esm_base.specs.declared.memory.Memory.{Memory}
use Rattle.esm_resolve.specs.SharedSet.{SharedSetAgrees, SharedSetEnds}
use Rattle.esm_resolve.specs.Graph.{Graph}
use Rattle.esm_values.specs.Value.{Text}
use Rattle.esm_values.specs.Acts.{Act as act}
use Rattle.esm_values.specs.Code.{CodeValue, value_of}
use Rattle.esm_values.specs.Completion.{Completion, Normal, Throw}
use Rattle.esm_values.specs.Errors.{Errors}
use Rattle.esm_values.specs.Plans.{Follows as follows}
use Rattle.esm_values.specs.declared.errors.FaultKind.{FaultKind}
use Rattle.esm_values.specs.declared.value.Value.{Value}
use Rattle.esm_values.specs.declared.value.Value.TheVariants as values
use Rattle.esm_expr_eval.specs.Instance.{said as told_of}
use Rattle.esm_expr_eval.specs.declared.world.Out.{Out}
use Rattle.esm_expr_eval.specs.declared.world.Out.TheVariants as out
use Rattle.esm_expr_eval.proofs.Lands.{KnowsCompletion}
use Rattle.esm_expr_eval.proofs.Lands.{AllKnown as AllLanded}
use Rattle.esm_promise.specs.Code.{Numbered}
use Rattle.esm_promise.specs.Laws.{MadePending}
use Rattle.esm_promise.specs.Outer.{Outer}
use Rattle.esm_env.specs.Calls.{scopes_of, IsWrittenIn, told_write}
use Rattle.esm_env.specs.Cells.{Cell, Cells, Reading, write_cell}
use Rattle.esm_env.specs.Cells.{Reading as reading}
use Rattle.esm_env.specs.Declarations.{function_at}
use Rattle.esm_env.specs.Faithful.{HasImports}
use Rattle.esm_env.specs.Laws.{ReadsRight, WritesRight}
use Rattle.esm_env.specs.Modules.{Modules}
use Rattle.esm_env.specs.NamePlaces.{first_place}
use Rattle.esm_env.specs.OwnNames.{own_names}
use Rattle.esm_env.specs.Placed.{place_by, place_of}
use Rattle.esm_env.specs.Scopes.{Scopes, scope_in, read_in, cells_of}
use Rattle.esm_env.specs.Writing.{write_at, write_by, writing_of}
use Rattle.esm_env.specs.Writing.{Writing as writing}
use Rattle.esm_env.specs.declared.envs.Envs.{Envs}
use Rattle.esm_env.specs.declared.scope.ModuleScope.{ModuleScope}
use Rattle.esm_env.specs.declared.scope.Wrote.{Wrote}
use Rattle.esm_env.specs.declared.scope.Wrote.TheVariants as wrote
use Rattle.esm_rewriting.specs.Scopes.{Scope}
use Rattle.esm_rewriting.specs.State.{State, Importing}
use Rattle.esm_rewriting.specs.Acts.{Inner}
use Rattle.esm_rewriting.specs.Fits.{AreKnownCells, AreLinked, Knows}
use Rattle.esm_rewriting.specs.declared.stop.Stop.{Stop}
use Rattle.esm_rewriting.specs.declared.stop.Stop.TheVariants as stops
use Rattle.esm_rewriting.proofs.OneAct.{BeginsOne}
use Rattle.esm_rewriting.proofs.SomeAct.{BeginsSome}
use Rattle.esm_rows.specs.Functions.{IsRow, IsRowOf}
use Rattle.esm_rows.specs.declared.row.Row.{Row}
use Rattle.esm_row_machine.specs.Outside as said
use Rattle.esm_row_machine.specs.Outside.{AllKnown}
use Rattle.esm_body.specs.Importers.{HasLinked, ImportsAreLawful, outer_with}
use Rattle.esm_body.specs.Inner.Functions.{KeepsBody, ImportsFrom, keeps_both, owned_by, steps_of}
use Rattle.esm_body.specs.Inner.Displayed.{IsSpecifier, RefusesTold, BeginsTold}
use Rattle.esm_body.specs.Inner.Names.{IsThrown, Tells, said_out}
use Rattle.esm_body.specs.Inner.World.{state_in, IsSame, CodeIsWhole, ActsInside}
use Rattle.esm_body.specs.Inner.World.{AllKnown as AllInside}
use Rattle.esm_body.specs.Inner.Written.{Throws, ThrowsWrote, thrown}
use Rattle.esm_body.specs.declared.inside.Inside.{Inside}
use Rattle.esm_body.proofs.Asked.{read_performs, refuse_performs, begin_performs, begin_stops as begin_stops_there}
use Rattle.esm_body.proofs.Followed.{known_still}
use Rattle.esm_body.proofs.Lawful.{begins_some, begins_one}
use Rattle.esm_body.proofs.NamesWritten.{writes_is, writes_same, same_cells}
use Rattle.esm_body.proofs.RowActs.{over, no_less, behind_ok, behind_halt, well_behind, kept_behind, fit_at, Acted, acted, acted_well, acted_halts, step_first, step_stops, print_stops, begin_stops}
use Rattle.esm_body.proofs.WorldActs.{Errs, Outs}

all_inside : (K : CodeValue → Type 0) (vs : List CodeValue) → AllKnown K vs → AllInside K vs
all_inside K [] h = tt
all_inside K (v ∷ vs) h = (h.0, all_inside K vs h.1)

all_landed : (K : CodeValue → Type 0) (vs : List CodeValue) → AllKnown K vs → AllLanded K vs
all_landed K [] h = tt
all_landed K (v ∷ vs) h = (h.0, all_landed K vs h.1)

completed_as : (told : Out) → said_out told ≡ said.completed told
completed_as (out.Value v) = refl
completed_as (out.Thrown v) = refl

module _ {I S : Type 0} (seen : I → S) (modules : S → Modules ℕ) (linked : S → ℕ → Bool) (fits : Outer ℕ S → Type 0) (begins : Importing ℕ S) (lawful : ImportsAreLawful modules linked fits begins) where
  abbrev At : Inside I → State ℕ S
  At w = state_in seen w

  abbrev K : Inside I → CodeValue → Type 0
  K w v = Knows modules linked (seen w.imports.now) v

  abbrev Ready : Inside I → Type 0
  Ready w = CodeIsWhole seen modules linked fits begins w

  abbrev Well : Inside I → Inside I → Type 0
  Well w after = said.Well (state_in seen) modules linked begins (CodeIsWhole seen modules linked fits begins) (KeepsBody seen modules linked fits begins) w after

  -- ---- new errors

  errs_well : (w : Inside I) (es : Errors) → Ready w → Well w (Errs w es)
  errs_well w es ready = record {
    is_ready = record {
      state = record { whole = lawful.errors (At w).outer es ready.state.whole; cells = ready.state.cells; standing = ready.state.standing };
      scopes = ready.scopes;
      home = ready.home;
      made = ready.made;
    };
    keeps = record {
      now = refl;
      code = refl;
      alloc = refl;
      engine = refl;
      standing = refl;
      errors = refl;
      envs = refl;
      promises = refl;
      imports = refl;
      made = λ h. h;
      links = λ m h. h;
      trees = λ m h. refl;
      scopes = λ m. refl;
      more = no_less (steps_of w);
      bound = λ h. h;
    };
  }

  pub faults : (w : Inside I) (kind : FaultKind) (message : List ℕ) (v : Value) (new : Errors) → IsThrown w.errors.now kind message (Ok v) new
      → said.Faults (state_in seen) modules linked begins (CodeIsWhole seen modules linked fits begins) (KeepsBody seen modules linked fits begins) w kind message (Ok v) (Errs w new)
  faults w kind message v new h = λ ready. (h.0, ap (λ (es : Errors). state_in seen (Errs w es)) h.1, errs_well w new ready)

  -- ---- names

  module _ (agrees : SharedSetAgrees) (ends : SharedSetEnds) where
    some : BeginsSome modules linked fits begins
    some = begins_some modules linked fits begins lawful agrees ends

    one : BeginsOne begins
    one = begins_one modules linked fits begins lawful

    known_out : (P : CodeValue → Type 0) (told : Out) → KnowsCompletion P (said.completed told) → P (said.out_value told)
    known_out P (out.Value v) h = h
    known_out P (out.Thrown v) h = h

    pub reads : (w : Inside I) (m : ℕ) (x : List ℕ) (told : Out) (new : Errors) → ReadsRight → Tells x (read_in (scopes_of w.envs.now) m x) w.errors.now (Ok told) new
        → said.Reads (state_in seen) modules linked begins (CodeIsWhole seen modules linked fits begins) (KeepsBody seen modules linked fits begins) w m x (Ok told) (Errs w new)
    reads w m x told new right h = λ ready home.
        let p = subst (λ (c : Completion CodeValue). Rattle.esm_rewriting.specs.Acts.Performs nat_eq modules begins m (over [] (At w)) (act.Read x) (Ok c) (over [] (At (Errs w new)))) (completed_as told)
        (read_performs modules linked fits begins [] (scopes_of w.envs.now) w.engine.now w.promises.now (seen w.imports.now) w.errors.now new m x told right ready.made home h) in
        let b = behind_ok seen modules linked fits begins some one m (over [] (At w)) (over [] (At (Errs w new))) (act.Read x) (said.completed told) (fit_at seen modules linked fits begins some one m w ready home) tt p in
        (p, known_out (K (Errs w new)) told b.1, errs_well w new ready)

    -- the place of a name in its module's scope is that among the names that its tree declares
    placed : (w : Inside I) (m : ℕ) (x : List ℕ) (s : ModuleScope) → Ready w → scope_in (scopes_of w.envs.now) m ≡ Some s → place_of (scopes_of w.envs.now) m x ≡ first_place (own_names ((modules (seen w.imports.now)).tree m)) x
    placed w m x s ready own = ap (λ o. place_by o x) own ∙ ap (λ names. first_place names x) (s.named ∙ ap own_names (ready.made.trees m s own))

    pub reads_own : (w : Inside I) (m k : ℕ) (name : List ℕ) (read : Reading CodeValue) (told : Out) (new : Errors) → ReadsRight
        → ((x : List ℕ) → place_of (scopes_of w.envs.now) m x ≡ Some k → name ≡ x) → ((x : List ℕ) → place_of (scopes_of w.envs.now) m x ≡ Some k → read ≡ read_in (scopes_of w.envs.now) m x)
        → Tells name read w.errors.now (Ok told) new
        → said.ReadsPlace (state_in seen) modules linked begins (CodeIsWhole seen modules linked fits begins) (KeepsBody seen modules linked fits begins) (owned_by modules) w m k (Ok told) (Errs w new)
    reads_own w m k name read told new right names values h x there ready home =
        let s = ready.made.made m home in
        let place = placed w m x s.0 ready s.1 ∙ there in
        reads w m x told new right (subst (λ y. Tells y (read_in (scopes_of w.envs.now) m x) w.errors.now (Ok told) new) (names x place) (subst (λ r. Tells name r w.errors.now (Ok told) new) (values x place) h)) ready home

    -- where the name at the place has this value
    pub reads_value : (w : Inside I) (m k : ℕ) (v : Value) → ReadsRight → ((x : List ℕ) → place_of (scopes_of w.envs.now) m x ≡ Some k → reading.Value (value_of v) ≡ read_in (scopes_of w.envs.now) m x)
        → said.ReadsPlace (state_in seen) modules linked begins (CodeIsWhole seen modules linked fits begins) (KeepsBody seen modules linked fits begins) (owned_by modules) w m k (Ok (out.Value v)) w
    reads_value w m k v right values x there ready home =
        let s = ready.made.made m home in
        let place = placed w m x s.0 ready s.1 ∙ there in
        reads w m x (out.Value v) w.errors.now right (subst (λ r. Tells x r w.errors.now (Ok (out.Value v)) w.errors.now) (values x place) (refl, refl)) ready home

    -- ---- members

    member_follows : (w after : Inside I) (of : CodeValue) (x : List ℕ) (told : Out) (m : ℕ) → Acted seen modules linked fits begins some one w (act.Member of x) (Ok (said.completed told)) after
        → said.Follow (state_in seen) modules linked begins (CodeIsWhole seen modules linked fits begins) (KeepsBody seen modules linked fits begins) m w (said.member_plan of x) (said.ends_as told) after
    member_follows w after of x (out.Value v) m a = λ ss rest. follows.asks (Normal (value_of v)) (a.does m ss) follows.ends
    member_follows w after of x (out.Thrown v) m a = λ ss rest. follows.asks (Throw (value_of v)) (a.does m ss) follows.ends

    pub members : (w after : Inside I) (of : CodeValue) (x : List ℕ) (told : Out) → ActsInside seen modules linked fits begins w (act.Member of x) (told_of (Ok told)) after
        → said.Asked (state_in seen) modules linked begins (CodeIsWhole seen modules linked fits begins) (KeepsBody seen modules linked fits begins) w (of ∷ []) (said.member_plan of x) (Ok told) after
    members w after of x told h m ready home known =
        let a = acted seen modules linked fits begins some one w after (act.Member of x) tt (Ok (said.completed told)) ready known.0 (answers_as told h) in
        let b = acted_well seen modules linked fits begins some one w after (act.Member of x) (said.completed told) ready known.0 a in
        (member_follows w after of x told m a, known_out (K after) told b.1, b.0)
      where
        answers_as : (told : Out) → ActsInside seen modules linked fits begins w (act.Member of x) (told_of (Ok told)) after
            → Rattle.esm_body.specs.Inner.World.Answers seen modules linked fits begins w (act.Member of x) (Ok (said.completed told)) after
        answers_as (out.Value v) h = h
        answers_as (out.Thrown v) h = h

    -- ---- lines

    abbrev AsksFirst : Inside I → List CodeValue → said.Planning → Result Out Stop → Inside I → Type 0
    AsksFirst w vs plan r after = said.Asked (state_in seen) modules linked begins (CodeIsWhole seen modules linked fits begins) (KeepsBody seen modules linked fits begins) w vs plan r after

    map_known : (P Q : CodeValue → Type 0) → ((v : CodeValue) → P v → Q v) → (vs : List CodeValue) → AllKnown P vs → AllKnown Q vs
    map_known P Q k [] h = tt
    map_known P Q k (v ∷ vs) h = (k v h.0, map_known P Q k vs h.1)

    pub prints : (w mid after : Inside I) (vs : List CodeValue) → ActsInside seen modules linked fits begins w (act.Step 1) (Ok tt) mid → ActsInside seen modules linked fits begins mid (act.Print vs) (Ok tt) after
        → AsksFirst w vs (said.print_plan vs) (Ok (out.Value values.Undefined)) after
    prints w mid after vs h k m ready home known =
        let s = step_first seen modules linked fits begins some one w mid ready h in
        let there = map_known (K w) (K mid) (known_still seen modules linked fits begins w mid s.1.keeps) vs known in
        let a = acted seen modules linked fits begins some one mid after (act.Print vs) tt (Ok tt) s.1.is_ready (all_inside (K mid) vs there) k in
        let b = (acted_well seen modules linked fits begins some one mid after (act.Print vs) tt s.1.is_ready (all_landed (K mid) vs there) a).0 in
        (λ ss rest. follows.asks tt (s.0.does m ss) (follows.asks tt (a.does m ss) follows.ends), tt, record { is_ready = b.is_ready; keeps = keeps_both seen modules linked fits begins w mid after s.1.keeps b.keeps })

    pub print_stopped : (w mid after : Inside I) (vs : List CodeValue) (stop : Stop) → ActsInside seen modules linked fits begins w (act.Step 1) (Ok tt) mid → ActsInside seen modules linked fits begins mid (act.Print vs) (Err stop) after
        → AsksFirst w vs (said.print_plan vs) (Err stop) after
    print_stopped w mid after vs (stops.Limit why) h k m ready home known =
        let s = step_first seen modules linked fits begins some one w mid ready h in
        let there = map_known (K w) (K mid) (known_still seen modules linked fits begins w mid s.1.keeps) vs known in
        let a = acted seen modules linked fits begins some one mid after (act.Print vs) tt (Err why) s.1.is_ready (all_inside (K mid) vs there) k in
        let b = acted_halts seen modules linked fits begins some one mid after (act.Print vs) why s.1.is_ready (all_landed (K mid) vs there) a (print_stops seen modules linked fits begins some one mid after vs why a) in
        (λ ss rest. follows.asks tt (s.0.does m ss) (follows.stops (a.does m ss)), keeps_both seen modules linked fits begins w mid after s.1.keeps b)
    print_stopped w mid after vs stops.Memory h k m ready home known = tt

    pub print_unstepped : (w after : Inside I) (vs : List CodeValue) (stop : Stop) → ActsInside seen modules linked fits begins w (act.Step 1) (Err stop) after → AsksFirst w vs (said.print_plan vs) (Err stop) after
    print_unstepped w after vs (stops.Limit why) h m ready home known =
        let s = step_stops seen modules linked fits begins some one w after why ready h in
        (λ ss rest. follows.stops (s.0.does m ss), s.1)
    print_unstepped w after vs stops.Memory h m ready home known = tt

    -- ---- import()

    abbrev Begins : ℕ → Inside I → CodeValue → Result Out Stop → Inside I → Type 0
    Begins m w of r after = said.AskedIn (state_in seen) modules linked begins (CodeIsWhole seen modules linked fits begins) (KeepsBody seen modules linked fits begins) m w (of ∷ []) (said.import_plan of) r after

    pub imports : (m : ℕ) (w mid after : Inside I) (of : CodeValue) (p : Value) → ActsInside seen modules linked fits begins w (act.Step 1) (Ok tt) mid → ImportsFrom seen modules linked fits begins m mid of (Ok p) after → Begins m w of (Ok (out.Value p)) after
    imports m w mid after of p h k ready home known =
        let s = step_first seen modules linked fits begins some one w mid ready h in
        let home' = s.1.keeps.links m home in
        let there = known_still seen modules linked fits begins w mid s.1.keeps of known.0 in
        let i = k.1 s.1.is_ready home' in
        let l = behind_ok seen modules linked fits begins some one m (over [] (At mid)) (over [] (At after)) (act.Import of) (value_of p) (fit_at seen modules linked fits begins some one m mid s.1.is_ready home') there (i.0 []) in
        let b = well_behind seen modules linked fits begins some one m 0 mid after s.1.is_ready k.0 i.1 l.0 in
        (λ ss rest. follows.asks tt (s.0.does m ss) (follows.asks (value_of p) (i.0 ss) follows.ends), l.1, record { is_ready = b.is_ready; keeps = keeps_both seen modules linked fits begins w mid after s.1.keeps b.keeps })

    pub import_stopped : (m : ℕ) (w mid after : Inside I) (of : CodeValue) (stop : Stop) → ActsInside seen modules linked fits begins w (act.Step 1) (Ok tt) mid → ImportsFrom seen modules linked fits begins m mid of (Err stop) after → Begins m w of (Err stop) after
    import_stopped m w mid after of (stops.Limit why) h k ready home known =
        let s = step_first seen modules linked fits begins some one w mid ready h in
        let home' = s.1.keeps.links m home in
        let there = known_still seen modules linked fits begins w mid s.1.keeps of known.0 in
        let i = k.1 s.1.is_ready home' in
        let q = behind_halt seen modules linked fits begins some one m (over [] (At mid)) (over [] (At after)) (act.Import of) why (fit_at seen modules linked fits begins some one m mid s.1.is_ready home') there (i.0 []) in
        let b = kept_behind seen modules linked fits begins some one m mid after s.1.is_ready k.0 i.1 q (begin_stops seen modules linked fits begins some one m mid after of why (i.0 [])) in
        (λ ss rest. follows.asks tt (s.0.does m ss) (follows.stops (i.0 ss)), keeps_both seen modules linked fits begins w mid after s.1.keeps b)
    import_stopped m w mid after of stops.Memory h k ready home known = tt

    pub import_unstepped : (m : ℕ) (w after : Inside I) (of : CodeValue) (stop : Stop) → ActsInside seen modules linked fits begins w (act.Step 1) (Err stop) after → Begins m w of (Err stop) after
    import_unstepped m w after of (stops.Limit why) h ready home known =
        let s = step_stops seen modules linked fits begins some one w after why ready h in
        (λ ss rest. follows.stops (s.0.does m ss), s.1)
    import_unstepped m w after of stops.Memory h ready home known = tt

  -- ---- what import() does, in code of a module

  outs_same : (w : Inside I) (ps : Numbered) (es : Errors) (i : I) → IsSame w (Outs w ps es i)
  outs_same w ps es i = record { now = refl; code = refl; alloc = refl; engine = refl; standing = refl; errors = refl; envs = refl; promises = refl; imports = refl }

  pub begins_from : (m : ℕ) (w : Inside I) (v : CodeValue) (text : List ℕ) (r : Result Value Stop) (late : Numbered) (new : Errors) (k : I) → MadePending → IsSpecifier w.errors.now v (Some text)
      → BeginsTold modules linked fits begins (outer_with w.promises.now w.errors.now (seen w.imports.now)) m text r (outer_with late new (seen k)) → ImportsFrom seen modules linked fits begins m w v r (Outs w late new k)
  begins_from m w v text (Ok p) late new k pending is h = (
    outs_same w late new k,
    λ ready home.
        let b = λ (ss : List (Scope CodeValue)). begin_performs modules linked fits begins ss (scopes_of w.envs.now) w.engine.now w.promises.now w.errors.now (seen w.imports.now) lawful pending ready.state.whole late new (seen k) m v text p (sym is) home ready.made h in
        (λ ss. (b ss).0, (b []).1),
  )
  begins_from m w v text (Err (stops.Limit limit)) late new k pending is h = (
    outs_same w late new k,
    λ ready home.
        let b = λ (ss : List (Scope CodeValue)). begin_stops_there modules linked fits begins ss (scopes_of w.envs.now) w.engine.now w.promises.now w.errors.now (seen w.imports.now) lawful pending ready.state.whole late new (seen k) m v text limit (sym is) home ready.made h in
        (λ ss. (b ss).0, (b []).1),
  )
  begins_from m w v text (Err stops.Memory) late new k pending is h = tt

  pub refuses_from : (m : ℕ) (w : Inside I) (v : CodeValue) (p : Value) (late : Numbered) (new : Errors) → IsSpecifier w.errors.now v None → RefusesTold w.promises.now w.errors.now (Ok p) late new
      → ImportsFrom seen modules linked fits begins m w v (Ok p) (Outs w late new w.imports.now)
  refuses_from m w v p late new none h = (
    outs_same w late new w.imports.now,
    λ ready home. (
      λ ss. refuse_performs modules linked fits begins ss (scopes_of w.envs.now) w.engine.now w.promises.now (seen w.imports.now) w.errors.now new late m v p (sym none) h,
      ready.made,
    ),
  )

  -- ---- names that are written

  thrown_as : (told : Option Value) → thrown told ≡ said.thrown_value told
  thrown_as None = refl
  thrown_as (Some v) = refl

  abbrev Wrote' : Inside I → Envs → Errors → Inside I
  Wrote' w envs es = record w { envs = record w.envs { now = envs }; errors = record w.errors { now = es } }

  -- what is thrown is an error
  thrown_known : (w : Inside I) (x : List ℕ) (result : Wrote) (old : Errors) (told : Option Value) (new : Errors) → ThrowsWrote x result old told new → said.KnownIfSome (K w) (thrown told)
  thrown_known w x wrote.Done old told new h = subst (said.KnownIfSome (K w)) (sym h.0) tt
  thrown_known w x wrote.Unset old told new h = subst (said.KnownIfSome (K w)) (sym h.0) tt
  thrown_known w x wrote.Constant old told new h = subst (said.KnownIfSome (K w)) (sym h.0) tt
  thrown_known w x wrote.Undeclared old told new h = subst (said.KnownIfSome (K w)) (sym h.0) tt

  abbrev Cells' : S → Cells ℕ → Type 0
  Cells' i cells = AreKnownCells (modules i) (linked i) cells

  set_cells : (i : S) (cells : Cells ℕ) (n : ℕ) (x : List ℕ) (v : CodeValue) → Knows modules linked i v → Cells' i cells → Cells' i (write_cell nat_eq cells n x v)
  set_cells i cells n x v k h p y u e = by (nat_eq n p && bytes_eq x y) e
    where
      by : (b : Bool) → cond b (Some v) (cells p y) ≡ Some u → Knows modules linked i u
      by true e = subst (Knows modules linked i) (let q : v ≡ u = cc in q) k
      by false e = h p y u e

  done_by : (constant : Bool) (o : Option CodeValue) (written cells : Cells ℕ) → write_by written constant o ≡ writing.Done cells → cells ≡ written
  done_by constant None written cells e = absurd cc
  done_by true (Some v) written cells e = absurd cc
  done_by false (Some v) written cells e = cc

  done_at : (c : Option (Cell CodeValue)) (b : Bool) (written cells : Cells ℕ) → write_at written c b ≡ writing.Done cells → cells ≡ written
  done_at (Some c) b written cells e = done_by c.constant c.value written cells e
  done_at None true written cells e = absurd cc
  done_at None false written cells e = absurd cc

  cells_known : (w : Inside I) (m : ℕ) (x : List ℕ) (v : Value) (result : Wrote) (late : Scopes) → K w (value_of v) → Cells' (seen w.imports.now) (cells_of (scopes_of w.envs.now)) → IsWrittenIn (scopes_of w.envs.now) m x v result late
      → told_write result late ≡ writing_of nat_eq (modules (seen w.imports.now)) (cells_of (scopes_of w.envs.now)) m x (value_of v) → Cells' (seen w.imports.now) (cells_of late)
  cells_known w m x v wrote.Done late k h is e =
      subst (Cells' (seen w.imports.now)) (sym (done_at _ _ _ (cells_of late) (sym e))) (set_cells (seen w.imports.now) (cells_of (scopes_of w.envs.now)) m x (value_of v) k h)
  cells_known w m x v wrote.Unset late k h is e = subst (Cells' (seen w.imports.now)) (sym (same_cells (scopes_of w.envs.now) late m x v wrote.Unset tt is)) h
  cells_known w m x v wrote.Constant late k h is e = subst (Cells' (seen w.imports.now)) (sym (same_cells (scopes_of w.envs.now) late m x v wrote.Constant tt is)) h
  cells_known w m x v wrote.Undeclared late k h is e = subst (Cells' (seen w.imports.now)) (sym (same_cells (scopes_of w.envs.now) late m x v wrote.Undeclared tt is)) h

  pub writes : (w : Inside I) (m : ℕ) (x : List ℕ) (v : Value) (result : Wrote) (envs : Envs) (es : Errors) (told : Option Value) → WritesRight → IsWrittenIn (scopes_of w.envs.now) m x v result (scopes_of envs)
      → Throws x result w.errors.now (Ok told) es
      → said.Writes (state_in seen) modules linked begins (CodeIsWhole seen modules linked fits begins) (KeepsBody seen modules linked fits begins) w m x (value_of v) (Ok told) (Wrote' w envs es)
  writes w m x v result envs es told right h t = λ ready home known.
      let i = seen w.imports.now in
      let s = ready.made.made m home in
      let imported : HasImports (modules i) m s.0 = ready.made.imports m s.0 home s.1 in
      let r = writes_is modules linked begins w.engine.now w.promises.now i [] [] (scopes_of w.envs.now) (scopes_of envs) m x v result w.errors.now es told right ready.made home (s.0, s.1, imported) None (h, refl) t in
      let cells = cells_known w m x v result (scopes_of envs) known ready.state.cells h (right.writes (modules i) (scopes_of w.envs.now) (scopes_of envs) m s.0 x v result ready.made.faithful s.1 imported h) in (
        sym r.0 ∙ (λ j. (thrown_as told j, over [] (At (Wrote' w envs es)))),
        subst (said.KnownIfSome (K w)) (thrown_as told) (thrown_known w x result w.errors.now told es t),
        record {
          is_ready = record {
            state = record { whole = lawful.errors (At w).outer es ready.state.whole; cells = cells; standing = ready.state.standing };
            scopes = ready.scopes;
            home = ready.home;
            made = r.1;
          };
          keeps = record {
            now = refl;
            code = refl;
            alloc = refl;
            engine = refl;
            standing = refl;
            errors = refl;
            envs = refl;
            promises = refl;
            imports = refl;
            made = λ _. r.1;
            links = λ n l. l;
            trees = λ n l. refl;
            scopes = writes_same None [] [] (scopes_of w.envs.now) (scopes_of envs) m x v result right (h, refl);
            more = no_less (steps_of w);
            bound = λ l. l;
          };
        },
      )

  -- ---- URLs and rows

  pub urls_said : (w : Inside I) (m : ℕ) (graphs : I → Graph) (urls : I → ℕ → List ℕ) → ((i : I) → AreLinked (modules (seen i)) (linked (seen i)) → HasLinked (modules (seen i)) (linked (seen i)) (graphs i) (urls i))
      → (text : List ℕ) → text ≡ urls w.imports.now m
      → said.IsUrl (state_in seen) modules linked begins (CodeIsWhole seen modules linked fits begins) (KeepsBody seen modules linked fits begins) w m (Ok (values.Text text))
  urls_said w m graphs urls has text is = λ ready home. ap Text (is ∙ (has w.imports.now (lawful.links (At w).outer ready.state.whole)).url m home)

  module _ (w : Inside I) (m k : ℕ) where
    abbrev RowSaid : Result (Option Row) Memory → Type 0
    RowSaid r = said.IsRowIn (state_in seen) modules linked begins (CodeIsWhole seen modules linked fits begins) (KeepsBody seen modules linked fits begins) (owned_by modules) w m k r

    pub row_said : (s : ModuleScope) (r : Result (Option Row) Memory) → scope_in (scopes_of w.envs.now) m ≡ Some s → IfOk r (IsRowOf (own_names (arc_value s.tree).items) (arc_value s.tree) k) → RowSaid r
    row_said s (Ok None) own h = λ ready home. ap (λ items. function_at items k) (sym (ready.made.trees m s own)) ∙ h
    row_said s (Ok (Some row)) own h = λ ready home. (h.0, ap (λ items. function_at items k) (sym (ready.made.trees m s own)) ∙ h.1, subst (λ items. IsRow (own_names items) h.0 row) (ready.made.trees m s own) h.2)
    row_said s (Err e) own h = tt

    pub no_scope : scope_in (scopes_of w.envs.now) m ≡ None → RowSaid (Ok None)
    no_scope none = λ ready home. absurd (let s = ready.made.made m home in not_there none s.1)
      where
        not_there : {s : ModuleScope} → scope_in (scopes_of w.envs.now) m ≡ None → scope_in (scopes_of w.envs.now) m ≡ Some s → ⊥
        not_there a b = cc
