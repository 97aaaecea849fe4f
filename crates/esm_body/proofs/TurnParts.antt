-- Parts of the proof of a turn: what code under way keeps, and rewritings of its innermost block.
use Rattle.std.proofs.Common.{◌≡◌, ℕ, nat_eq, Bool, true, false, List, [], ◌∷◌, length, Option, Some, None, refl, ap, subst, sym, ◌∙◌, arith, MutBor}
use Rattle.std.specs.Prelude.{Result, Ok, Err, is_some}
use Rattle.std.specs.Arc.{arc_value}
use Rattle.esm_base.specs.declared.limits.Limit.{Limit}
use Rattle.esm_base.specs.declared.module_id.ModuleId.{ModuleId}
use Rattle.esm_tree.specs.Syntax.{Item}
use Rattle.esm_values.specs.Value.{Value as Language}
use Rattle.esm_values.specs.Code.{CodeValue, value_of}
use Rattle.esm_values.specs.declared.value.Value.{Value}
use Rattle.esm_values.specs.Acts.{Act as act}
use Rattle.esm_values.specs.Plans.{Rewritten as comes}
use Rattle.esm_promise.specs.Code.{Numbered}
use Rattle.esm_promise.specs.Outer.{Outer}
use Rattle.esm_env.specs.Modules.{Modules}
use Rattle.esm_env.specs.Cells.{Cell}
use Rattle.esm_env.specs.Declarations.{initial}
use Rattle.esm_env.specs.Faithful.{SlotFits}
use Rattle.esm_env.specs.Slots.{slot_in, cell_in, slot_cell}
use Rattle.esm_env.specs.Calls.{scopes_of}
use Rattle.esm_env.specs.Scopes.{scope_in, own_cell, cell_by}
use Rattle.esm_env.specs.declared.envs.Envs.{Envs}
use Rattle.esm_env.specs.declared.slots.Slot.{Slot}
use Rattle.esm_body.specs.SameScopes.{HaveSameScopes}
use Rattle.esm_rewriting.specs.Scopes.{Scope}
use Rattle.esm_rewriting.specs.Rest.{Part, Rest, more}
use Rattle.esm_rewriting.specs.State.{State, Importing, steps_by}
use Rattle.esm_rewriting.specs.Acts.{Inner, over_scopes, Performs}
use Rattle.esm_rewriting.specs.BodyRewriting.{RewrittenBody, On, Gives, Waits, RewritesBody}
use Rattle.esm_rewriting.specs.Segment.{RewritesOutermost}
use Rattle.esm_rewriting.specs.Fits.{Kind, HoldsPart, HoldsRest, HoldScopes, FitsState, Knows}
use Rattle.esm_rewriting.specs.Chains.{Turns}
use Rattle.esm_rewriting.specs.Contexts.{Context, Block, Trying, scopes_in, surrounded, retaken, caught_in}
use Rattle.esm_rewriting.specs.Sets.{IsNameOf, SetsRest}
use Rattle.esm_body.specs.Inner.Stack.{scopes_round}
use Rattle.esm_body.specs.Code.{innermost, in_front_of}
use Rattle.esm_body.specs.Inner.World.{state_in, inner_of, HasScopes, IsSame, CodeIsWhole, with_code}
use Rattle.esm_body.specs.Inner.Written.{IsLike}
use Rattle.esm_body.specs.Inner.Turn.{code_rest, code_contexts, SameLoans, TreesStay, IsReadyFor, TurnsTo, Moved, move_of, Keeps, Came, Turned, Threw, ThrewTo}
use Rattle.esm_body.specs.declared.engine.Engine.{Engine}
use Rattle.esm_rewriting.specs.declared.stop.Stop.{Stop}
use Rattle.esm_rewriting.specs.declared.stop.Stop.TheVariants as stops
use Rattle.esm_body.specs.declared.inside.Inside.{Inside}
use Rattle.esm_body.specs.declared.turn.Outcome.{Outcome}
use Rattle.esm_body.specs.declared.turn.Outcome.TheVariants as o
use Rattle.esm_body.specs.declared.work.Activation.{Activation}
use Rattle.esm_body.proofs.CaughtLemmas.{thrown_is}
use Rattle.esm_body.proofs.Levels.{levels_surround}
use Rattle.esm_rewriting.proofs.Moved as moved
use Rattle.esm_body.proofs.Paths.{scopes_are}
use Rattle.esm_rewriting.proofs.Paths.{held_inside, outer_goes, outer_stops, outer_waits, outer_gives, outer_throws}

apart : {limit : Limit} → ◌≡◌ {A = Result (Unit {0}) Limit} (Ok tt) (Err limit) → ⊥
apart e = cc

-- ---- loans

module _ {I : Type 0} where
  pub loans_itself : (w : Inside I) → SameLoans w w
  loans_itself w = record { alloc = refl; code = refl; engine = refl; standing = refl; errors = refl; envs = refl; promises = refl; imports = refl }

  pub loans_both : {w x y : Inside I} → SameLoans w x → SameLoans x y → SameLoans w y
  loans_both a b = record {
    alloc = b.alloc ∙ a.alloc;
    code = b.code ∙ a.code;
    engine = b.engine ∙ a.engine;
    standing = b.standing ∙ a.standing;
    errors = b.errors ∙ a.errors;
    envs = b.envs ∙ a.envs;
    promises = b.promises ∙ a.promises;
    imports = b.imports ∙ a.imports;
  }

  pub loans_same : (w after : Inside I) → IsSame w after → SameLoans w after
  loans_same w after s = record { alloc = s.alloc; code = s.code; engine = s.engine; standing = s.standing; errors = s.errors; envs = ap (λ (e : MutBor Envs). e.ghost_name) s.envs; promises = s.promises; imports = s.imports }

  pub loans_like : (w after : Inside I) → IsLike w after → SameLoans w after
  loans_like w after s = record {
    alloc = s.alloc;
    code = s.code;
    engine = ap (λ (e : MutBor Engine). e.ghost_name) s.engine;
    standing = ap (λ (e : MutBor Engine). e.now.standing) s.engine;
    errors = s.errors;
    envs = s.envs;
    promises = ap (λ (e : MutBor Numbered). e.ghost_name) s.promises;
    imports = ap (λ (e : MutBor I). e.ghost_name) s.imports;
  }

-- ---- throws

module _ {N J : Type 0} (same : N → N → Bool) (modules : J → Modules N) (begins : Importing N J) (m : N) where
  -- a throw behind which the scopes are these
  pub thrown_retaken : (cs : List (Context (Language N))) (ss : List (Scope (Language N))) (v : Language N) → length ss ≡ length cs → moved.thrown same modules begins m cs ss v ≡ caught_in (retaken cs ss) v
  thrown_retaken [] [] v h = refl
  thrown_retaken [] (t ∷ ts) v h = absurd (omega (arith, h))
  thrown_retaken (c ∷ cs) [] v h = absurd (omega (arith, h))
  thrown_retaken (Block scope rest ∷ cs) (t ∷ ts) v h = thrown_retaken cs ts v (omega (arith, h))
  thrown_retaken (Trying scope x handler rest ∷ cs) (t ∷ ts) v h = refl

-- ---- code under way

module _ {I S : Type 0} (seen : I → S) (modules : S → Modules ℕ) (linked : S → ℕ → Bool) (fits : Outer ℕ S → Type 0) (begins : Importing ℕ S) where
  abbrev Scoped : Inside I → Type 0
  Scoped w = HasScopes seen modules linked fits begins w

  abbrev Trees : Inside I → Inside I → Type 0
  Trees w after = TreesStay seen modules linked fits begins w after

  abbrev Ready : Inside I → Kind → Rest CodeValue → Type 0
  Ready w k r = IsReadyFor seen modules linked fits begins w k r

  abbrev Kept : Inside I → Inside I → Type 0
  Kept w after = Keeps seen modules linked fits begins w after

  abbrev At : Inside I → State ℕ S
  At w = state_in seen w

  abbrev To : Inside I → Rest CodeValue → RewrittenBody CodeValue Limit → Inside I → Type 0
  To w r move after = TurnsTo seen modules linked fits begins w r move after

  abbrev K : Inside I → CodeValue → Type 0
  K w v = Knows modules linked (seen w.imports.now) v

  pub keeps_itself : (w : Inside I) → Scoped w → Kept w w
  keeps_itself w s = record { made = s; trees = λ m l. refl; scopes = λ m. refl; loans = loans_itself w }

  pub keeps_now : (w y : Inside I) (n : Activation) → Kept w y → Kept w (with_code y n)
  keeps_now w y n k = record {
    made = k.made;
    trees = k.trees;
    scopes = k.scopes;
    loans = record { alloc = k.loans.alloc; code = k.loans.code; engine = k.loans.engine; standing = k.loans.standing; errors = k.loans.errors; envs = k.loans.envs; promises = k.loans.promises; imports = k.loans.imports };
  }

  pub keeps_from : (w y : Inside I) (n : Activation) → Kept (with_code w n) y → Kept w y
  keeps_from w y n k = record {
    made = k.made;
    trees = k.trees;
    scopes = k.scopes;
    loans = record { alloc = k.loans.alloc; code = k.loans.code; engine = k.loans.engine; standing = k.loans.standing; errors = k.loans.errors; envs = k.loans.envs; promises = k.loans.promises; imports = k.loans.imports };
  }

  pub trees_same : (w after : Inside I) → Scoped w → Scoped after → after.envs ≡ w.envs → Trees w after
  trees_same w after a b e m l =
      let s = a.made m l in
      let there : scope_in (scopes_of after.envs.now) m ≡ Some s.0 = ap (λ (v : MutBor Envs). scope_in (scopes_of v.now) m) e ∙ s.1 in
      sym (b.trees m s.0 there) ∙ a.trees m s.0 s.1

  pub scopes_same : (w after : Inside I) → after.envs ≡ w.envs → HaveSameScopes (scopes_of w.envs.now) (scopes_of after.envs.now)
  scopes_same w after e m = ap (λ (v : MutBor Envs). is_some (scope_in (scopes_of v.now) m)) e

  pub trees_like : (w after : Inside I) → IsLike w after → Trees w after
  trees_like w after like m l = ap (λ (i : MutBor I). (modules (seen i.now)).tree m) like.imports

  abbrev Linked : Inside I → Inside I → Type 0
  Linked w x = (m : ℕ) → linked (seen w.imports.now) m ≡ true → linked (seen x.imports.now) m ≡ true

  pub keeps_both : {w x y : Inside I} → Kept w x → Kept x y → Linked w x → Kept w y
  keeps_both a b k = record { made = b.made; trees = λ m l. b.trees m (k m l) ∙ a.trees m l; scopes = λ m. b.scopes m ∙ a.scopes m; loans = loans_both a.loans b.loans }

  pub keeps_same : (w after : Inside I) → Scoped w → IsSame w after → Scoped after → Kept w after
  keeps_same w after a s b = record { made = b; trees = trees_same w after a b s.envs; scopes = scopes_same w after s.envs; loans = loans_same w after s }

  pub keeps_like : (w after : Inside I) → IsLike w after → Scoped after → Kept w after
  keeps_like w after s b = record { made = b; trees = trees_like w after s; scopes = s.scopes; loans = loans_like w after s }

  -- ---- what is ready

  abbrev inner_rest : Inside I → Rest CodeValue
  inner_rest w = innermost (arc_value w.code.now.tree).stmts w.code.now.levels.items

  pub part_held : (w : Inside I) (k : Kind) (p : Part CodeValue) → Ready w k (in_front_of w.code.now p) → HoldsPart (K w) ⊥ k p
  part_held w k p r = (held_inside (K w) ⊥ k (code_contexts w.code.now) (more p (inner_rest w)) r.holds).0.0

  pub scopes_held : (w : Inside I) (k : Kind) (p : Part CodeValue) → Ready w k (in_front_of w.code.now p) → HoldScopes (K w) (scopes_round w.code.now.levels.items)
  scopes_held w k p r =
      subst (HoldScopes (K w)) (scopes_are (arc_value w.code.now.tree).stmts w.code.now.levels.items) (held_inside (K w) ⊥ k (code_contexts w.code.now) (more p (inner_rest w)) r.holds).1

  pub is_ready : (w : Inside I) (k : Kind) (p : Part CodeValue) → Ready w k (in_front_of w.code.now p) → CodeIsWhole seen modules linked fits begins w
  is_ready w k p r = record { state = r.state; scopes = scopes_held w k p r; home = r.home; made = r.made }

  has_cell : (m : ℕ) (items : List Item) (o : Option Slot) (x : List ℕ) → IsNameOf items x → SlotFits m o (initial items x) → (c : Cell CodeValue) × (cell_in o ≡ Some c)
  has_cell m items None x n h = absurd (subst (λ i. SlotFits m None i) n.1 h)
  has_cell m items (Some s) x n h = (slot_cell s, refl)

  -- a name of its module has a cell
  pub declared_cell : (w : Inside I) (k : Kind) (r : Rest CodeValue) → Ready w k r → (x : List ℕ) → IsNameOf (arc_value w.code.now.tree).items x → (c : Cell CodeValue) × (own_cell (scopes_of w.envs.now) w.code.now.at.0 x ≡ Some c)
  declared_cell w k r h x n =
      let s = h.made.made w.code.now.at.0 h.home in
      let f = h.made.faithful w.code.now.at.0 s.0 s.1 in
      let c = has_cell w.code.now.at.0 (arc_value w.code.now.tree).items (slot_in s.0.slots.items x) x n (subst (λ items. SlotFits w.code.now.at.0 (slot_in s.0.slots.items x) (initial items x)) h.tree (f.slots x)) in
      (c.0, ap (λ o. cell_by o x) s.1 ∙ c.1)

  -- ---- rewritings of the innermost block

  abbrev pub Front : Inside I → Rest CodeValue → RewrittenBody CodeValue Limit → Inner ℕ S → Type 0
  Front w r move after = RewritesBody nat_eq modules begins w.code.now.at.0 (inner_of seen w) r move after

  abbrev Outermost : Inside I → Rest CodeValue → RewrittenBody CodeValue Limit → State ℕ S → Type 0
  Outermost w r move late = RewritesOutermost nat_eq modules begins w.code.now.at.0 (At w) r move late

  -- over the scopes of what is round
  over_contexts : (w : Inside I) (r : Rest CodeValue) (move : RewrittenBody CodeValue Limit) (after : Inner ℕ S) → Front w r move after
      → RewritesBody nat_eq modules begins w.code.now.at.0 (record { scopes = scopes_in (code_contexts w.code.now); state = At w }) r move after
  over_contexts w r move after d =
      subst (λ ss. RewritesBody nat_eq modules begins w.code.now.at.0 (record { scopes = ss; state = At w }) r move after) (sym (scopes_are (arc_value w.code.now.tree).stmts w.code.now.levels.items)) d

  kept_scopes : (w : Inside I) (after : Inner ℕ S) → after.scopes ≡ scopes_round w.code.now.levels.items → after.scopes ≡ scopes_in (code_contexts w.code.now)
  kept_scopes w after e = e ∙ sym (scopes_are (arc_value w.code.now.tree).stmts w.code.now.levels.items)

  pub front_goes : (w : Inside I) (r s : Rest CodeValue) (after : Inner ℕ S) → after.scopes ≡ scopes_round w.code.now.levels.items → Front w r (On (comes.Goes s)) after
      → Outermost w (surrounded (code_contexts w.code.now) r) (On (comes.Goes (surrounded (code_contexts w.code.now) s))) after.state
  front_goes w r s after e d = outer_goes nat_eq modules begins w.code.now.at.0 (code_contexts w.code.now) (At w) r s after (kept_scopes w after e) (over_contexts w r _ after d)

  pub front_stops : (w : Inside I) (r : Rest CodeValue) (why : Limit) (after : Inner ℕ S) → after.scopes ≡ scopes_round w.code.now.levels.items → Front w r (On (comes.Stops why)) after
      → Outermost w (surrounded (code_contexts w.code.now) r) (On (comes.Stops why)) after.state
  front_stops w r why after e d = outer_stops nat_eq modules begins w.code.now.at.0 (code_contexts w.code.now) (At w) r why after (kept_scopes w after e) (over_contexts w r _ after d)

  pub front_gives : (w : Inside I) (r : Rest CodeValue) (v : CodeValue) (after : Inner ℕ S) → after.scopes ≡ scopes_round w.code.now.levels.items → Front w r (Gives v) after
      → Outermost w (surrounded (code_contexts w.code.now) r) (Gives v) after.state
  front_gives w r v after e d = outer_gives nat_eq modules begins w.code.now.at.0 (code_contexts w.code.now) (At w) r v after (kept_scopes w after e) (over_contexts w r _ after d)

  pub front_waits : (w : Inside I) (r s : Rest CodeValue) (v : CodeValue) (after : Inner ℕ S) → after.scopes ≡ scopes_round w.code.now.levels.items → Front w r (Waits v s) after
      → Outermost w (surrounded (code_contexts w.code.now) r) (Waits v (surrounded (code_contexts w.code.now) s)) after.state
  front_waits w r s v after e d = outer_waits nat_eq modules begins w.code.now.at.0 (code_contexts w.code.now) (At w) r s v after (kept_scopes w after e) (over_contexts w r _ after d)

  pub front_throws : (w : Inside I) (r : Rest CodeValue) (v : CodeValue) (after : Inner ℕ S) → after.scopes ≡ scopes_round w.code.now.levels.items → Front w r (On (comes.Leaves v)) after
      → Outermost w (surrounded (code_contexts w.code.now) r) (caught_in (code_contexts w.code.now) v) after.state
  front_throws w r v after e d =
      subst (λ move. Outermost w (surrounded (code_contexts w.code.now) r) move after.state) (thrown_is nat_eq modules begins w.code.now.at.0 (code_contexts w.code.now) v)
      (outer_throws nat_eq modules begins w.code.now.at.0 (code_contexts w.code.now) (At w) r v after (kept_scopes w after e) (over_contexts w r _ after d))

  pub rest_is : (w : Inside I) → surrounded (code_contexts w.code.now) (inner_rest w) ≡ code_rest w.code.now
  rest_is w = levels_surround (arc_value w.code.now.tree).stmts w.code.now.levels.items

  -- ---- outcomes

  -- a throw of what y has come to leads to the handler, or out
  pub threw_moved : (w y after : Inside I) (r : Rest CodeValue) (v : Value) (out : Outcome) → ThrewTo y v out after → Turns nat_eq modules begins w.code.now.at.0 (At w) r (caught_in (code_contexts y.code.now) (value_of v)) (At y)
      → Moved seen modules linked fits begins w r out after
  threw_moved w y after r v o.On t d =
      subst (λ z. Turns nat_eq modules begins w.code.now.at.0 (At w) r (On (comes.Goes (code_rest after.code.now))) z) (sym (ap (λ (z : Inside I). state_in seen z) t.rest))
      (subst (λ move. Turns nat_eq modules begins w.code.now.at.0 (At w) r move (At y)) t.leads d)
  threw_moved w y after r v o.Done t d = absurd t.leads
  threw_moved w y after r v (o.Returns u) t d = absurd t.leads
  threw_moved w y after r v (o.Thrown u) t d =
      subst (λ z. Turns nat_eq modules begins w.code.now.at.0 (At w) r (On (comes.Leaves (value_of u))) z) (sym (ap (λ (z : Inside I). state_in seen z) t.rest))
      (subst (λ move. Turns nat_eq modules begins w.code.now.at.0 (At w) r move (At y)) (t.leads.0 ∙ ap (λ (u : Value). On (comes.Leaves (value_of u))) (sym t.leads.1)) d)
  threw_moved w y after r v (o.Calls f vs d') t d = absurd t.leads
  threw_moved w y after r v (o.Waits u purpose) t d = absurd t.leads

  pub threw_came : (w y after : Inside I) (r : Rest CodeValue) (v : Value) (out : Outcome) → y.code.now.at ≡ w.code.now.at → y.code.now.tree ≡ w.code.now.tree → Kept w y → ThrewTo y v out after
      → Turns nat_eq modules begins w.code.now.at.0 (At w) r (caught_in (code_contexts y.code.now) (value_of v)) (At y) → Came seen modules linked fits begins w r out after
  threw_came w y after r v out at tree k t d = record {
    moved = threw_moved w y after r v out t d;
    same = record { at = t.same.at ∙ at; tree = t.same.tree ∙ tree; code = t.same.code; outcome = t.same.outcome };
    keeps = subst (λ z. Kept w z) (sym t.rest) (keeps_now w y after.code.now k);
  }

  pub threw_turned : (w y after : Inside I) (r : Rest CodeValue) (v : Value) (result : Result Outcome Stop) → y.code.now.at ≡ w.code.now.at → y.code.now.tree ≡ w.code.now.tree → Kept w y → Threw y v result after
      → Turns nat_eq modules begins w.code.now.at.0 (At w) r (caught_in (code_contexts y.code.now) (value_of v)) (At y) → Turned seen modules linked fits begins w r result after
  threw_turned w y after r v (Ok out) at tree k t d = threw_came w y after r v out at tree k t d
  threw_turned w y after r v (Err (stops.Limit limit)) at tree k t d = absurd t
  threw_turned w y after r v (Err stops.Memory) at tree k t d = tt

  -- other levels of the same code, of which the same remains
  moved_from : (w after : Inside I) (n : Activation) (r : Rest CodeValue) (out : Outcome) → n.at ≡ w.code.now.at → Moved seen modules linked fits begins (with_code w n) r out after → Moved seen modules linked fits begins w r out after
  moved_from w after n r o.On e h = subst (λ (a : ModuleId). Turns nat_eq modules begins a.0 (At w) r (move_of o.On after.code.now) (At after)) e h
  moved_from w after n r o.Done e h = h
  moved_from w after n r (o.Returns v) e h = subst (λ (a : ModuleId). Turns nat_eq modules begins a.0 (At w) r (move_of (o.Returns v) after.code.now) (At after)) e h
  moved_from w after n r (o.Thrown v) e h = subst (λ (a : ModuleId). Turns nat_eq modules begins a.0 (At w) r (move_of (o.Thrown v) after.code.now) (At after)) e h
  moved_from w after n r (o.Calls f vs d) e h = subst (λ (a : ModuleId). Turns nat_eq modules begins a.0 (At w) r (move_of (o.Calls f vs d) after.code.now) (At after)) e h
  moved_from w after n r (o.Waits v p) e h = subst (λ (a : ModuleId). Turns nat_eq modules begins a.0 (At w) r (move_of (o.Waits v p) after.code.now) (At after)) e h

  pub turned_from : (w after : Inside I) (n : Activation) (r s : Rest CodeValue) (result : Result Outcome Stop) → n.at ≡ w.code.now.at → n.tree ≡ w.code.now.tree → s ≡ r → Turned seen modules linked fits begins (with_code w n) s result after → Turned seen modules linked fits begins w r result after
  turned_from w after n r s (Ok out) at tree e h = record {
    moved = subst (λ z. Moved seen modules linked fits begins w z out after) e (moved_from w after n s out at h.moved);
    same = record { at = h.same.at ∙ at; tree = h.same.tree ∙ tree; code = h.same.code; outcome = h.same.outcome };
    keeps = keeps_from w after n h.keeps;
  }
  turned_from w after n r s (Err (stops.Limit limit)) at tree e h = record {
    turns = subst (λ z. Turns nat_eq modules begins w.code.now.at.0 (At w) z (On (comes.Stops limit)) (At after)) e (subst (λ (a : ModuleId). Turns nat_eq modules begins a.0 (At w) s (On (comes.Stops limit)) (At after)) at h.turns);
    keeps = keeps_from w after n h.keeps;
  }
  turned_from w after n r s (Err stops.Memory) at tree e h = tt

  pub ready_from : (w : Inside I) (n : Activation) (k : Kind) (r s : Rest CodeValue) → n.at ≡ w.code.now.at → n.tree ≡ w.code.now.tree → r ≡ s → Ready w k r → Ready (with_code w n) k s
  ready_from w n k r s at tree e h = record {
    state = h.state;
    home = ap (λ (a : ModuleId). linked (seen w.imports.now) a.0) at ∙ h.home;
    holds = subst (HoldsRest (K w) ⊥ k) e h.holds;
    made = h.made;
    tree = rw (at, tree) h.tree;
    sets = rw tree (subst (SetsRest (IsNameOf (arc_value w.code.now.tree).items)) e h.sets);
  }

  -- ---- steps

  abbrev Fine : Kind → ℕ → CodeValue → Inner ℕ S → Type 0
  Fine k m v u = FitsState modules linked fits u.state × HoldScopes (Knows modules linked u.state.outer.imports) u.scopes × (linked u.state.outer.imports m ≡ true)
      × Knows modules linked u.state.outer.imports v

  stepped_by : (b : Bool) (k : Kind) (m : ℕ) (v : CodeValue) (u late : Inner ℕ S) → ◌≡◌ {A = Result (Unit {0}) Limit × Inner ℕ S} (Ok tt, late) (over_scopes u (steps_by b u.state 1)) → Fine k m v u → Fine k m v late × (late.scopes ≡ u.scopes)
  stepped_by true k m v u late e f = absurd (apart (ap (λ t. t.0) e))
  stepped_by false k m v u late e f =
      let x = ap (λ (t : Result (Unit {0}) Limit × Inner ℕ S). t.1) e in
      (subst (Fine k m v) (sym x) (record { whole = f.0.whole; cells = f.0.cells; standing = f.0.standing }, f.1, f.2, f.3), ap (λ (i : Inner ℕ S). i.scopes) x)

  -- behind a step the code is ready still
  pub ready_stepped : (w y : Inside I) (k : Kind) (v : CodeValue) → IsSame w y → CodeIsWhole seen modules linked fits begins w → K w v → Performs nat_eq modules begins w.code.now.at.0 (inner_of seen w) (act.Step 1) (Ok tt) (inner_of seen y) → Scoped y
      → CodeIsWhole seen modules linked fits begins y × K y v
  ready_stepped w y k v s r h p made =
      let f = (stepped_by _ k w.code.now.at.0 v (inner_of seen w) (inner_of seen y) p (r.state, r.scopes, r.home, h)).0 in
      (record { state = f.0; scopes = f.1; home = subst (λ (n : Activation). linked (seen y.imports.now) n.at.0 ≡ true) (sym s.now) f.2; made = made }, f.3)
