-- The body of a module that awaits takes a step where it begins.
use Rattle.std.proofs.Common.{◌≡◌, ℕ, ◌<◌, Bool, true, List, [], ◌∷◌, Option, Some, None, subst, arith}
use Rattle.std.specs.List.{list_any}
use Rattle.esm_base.specs.declared.limits.Limit.{Limit}
use Rattle.esm_tree.specs.Syntax.{Stmt, Stmts, nothing, first, Item}
use Rattle.esm_tree.specs.Syntax.{Item as item}
use Rattle.esm_ast.specs.Entries.{item_awaits, entries_of, entries_with}
use Rattle.esm_values.specs.Value.{Value}
use Rattle.esm_values.specs.Plans.{Rewritten as comes}
use Rattle.esm_values.specs.Plans.{Follows as follow}
use Rattle.esm_env.specs.Modules.{Modules}
use Rattle.esm_env.specs.Declarations.{body_of, onto}
use Rattle.esm_rewriting.specs.Rest.{Rest, more, whole}
use Rattle.esm_rewriting.specs.Rest.{Part as part}
use Rattle.esm_rewriting.specs.State.{State, Importing}
use Rattle.esm_rewriting.specs.Acts.{Inner}
use Rattle.esm_rewriting.specs.BodyRewriting.{RewrittenBody, On, Gives, Waits, RewritesBody}
use Rattle.esm_rewriting.specs.BodyRewriting.RewritesBody.{begins_at}
use Rattle.esm_rewriting.specs.Segment.{Ended, Normal, Thrown, Awaiting, Stopped, Next, Goes, Over, Segment, next_by}
use Rattle.esm_rewriting.specs.Segment.{Segment as segment}
use Rattle.esm_world.proofs.BodyFalls.{FallsEnd, segment_falls, counts, steps_of}

-- ---- what awaits has a statement

abbrev pub HasFirst : Stmts → Type 0
HasFirst nothing = ⊥
HasFirst (first s ss) = Unit {0}

onto_first : (o : Option Stmt) (ss : Stmts) → HasFirst ss → HasFirst (onto o ss)
onto_first None ss h = h
onto_first (Some s) ss h = tt

body_first : (items : List Item) → list_any item_awaits items ≡ true → HasFirst (body_of items)
unfolding item_awaits
body_first [] e = cc
body_first (item.ImportEffect s ∷ items) e = body_first items e
body_first (item.ImportFrom s bs ∷ items) e = body_first items e
body_first (item.ExportAll s ∷ items) e = body_first items e
body_first (item.ExportAllAs n s ∷ items) e = body_first items e
body_first (item.ExportFrom es s ∷ items) e = body_first items e
body_first (item.ExportList es ∷ items) e = body_first items e
body_first (item.ExportStatement s ∷ items) e = tt
body_first (item.ExportFunction n ps ss ∷ items) e = body_first items e
body_first (item.ExportDefaultFunction n ps ss ∷ items) e = body_first items e
body_first (item.Function n ps ss ∷ items) e = body_first items e
body_first (item.Statement s ∷ items) e = tt

pub entries_first : (items : List Item) → (entries_of items).awaits ≡ true → HasFirst (body_of items)
unfolding entries_of entries_with
entries_first items e = body_first items e

-- ---- a statement takes a step

module _ {N I : Type 0} (same : N → N → Bool) (modules : I → Modules N) (begins : Importing N I) where
  abbrev Rises : Inner N I → RewrittenBody (Value N) Limit → Inner N I → Type 0
  Rises v (On (comes.Goes r)) w = steps_of v < steps_of w
  Rises v (On (comes.Leaves u)) w = ⊥
  Rises v (On (comes.Calls f vs r)) w = ⊥
  Rises v (On (comes.Stops why)) w = Unit {0}
  Rises v (Gives u) w = ⊥
  Rises v (Waits u r) w = ⊥

  begin_rises : (m : N) {v : Inner N I} {s : Stmt} {rest : Rest (Value N)} {move : RewrittenBody (Value N) Limit} {w : Inner N I} → RewritesBody same modules begins m v (more (part.Whole s) rest) move w → Rises v move w
  begin_rises m (begins_at (follow.asks r a follow.ends)) = let h = (counts same modules begins m).step a in let e = h.0 in omega (arith, e)
  begin_rises m (begins_at (follow.stops a)) = tt

  abbrev pub Risen : ℕ → Ended N → State N I → Type 0
  Risen n Normal w = n < w.engine.steps
  Risen n (Thrown u) w = n < w.engine.steps
  Risen n (Awaiting u rest) w = n < w.engine.steps
  Risen n (Stopped why) w = Unit {0}

  abbrev RisenNext : ℕ → Option (Next N I) → Type 0
  RisenNext n None = Unit {0}
  RisenNext n (Some (Goes m r cs w)) = n < w.engine.steps
  RisenNext n (Some (Over how w)) = Risen n how w

  next_rises : (m : N) (v w : Inner N I) (move : RewrittenBody (Value N) Limit) → Rises v move w → RisenNext (steps_of v) (next_by same modules begins m [] move w.state)
  next_rises m v w (On (comes.Goes r)) h = h
  next_rises m v w (On (comes.Leaves u)) h = absurd h
  next_rises m v w (On (comes.Calls f vs r)) h = absurd h
  next_rises m v w (On (comes.Stops why)) h = tt
  next_rises m v w (Gives u) h = absurd h
  next_rises m v w (Waits u r) h = absurd h

  next_is : (n : ℕ) {o : Option (Next N I)} {x : Next N I} → o ≡ Some x → RisenNext n o → RisenNext n (Some x)
  next_is n e h = subst (λ o. RisenNext n o) e h

  end_rises : (n s : ℕ) (v w : State N I) (how : Ended N) → n < v.engine.steps → FallsEnd same modules begins s v how w → Risen n how w
  end_rises n s v w Normal lt c = let g = c.grows in omega (arith, lt, g)
  end_rises n s v w (Thrown u) lt c = let g = c.grows in omega (arith, lt, g)
  end_rises n s v w (Awaiting u rest) lt c = let g = c.0.grows in omega (arith, lt, g)
  end_rises n s v w (Stopped why) lt c = tt

  segment_rises : {v : State N I} {m : N} {s : Stmt} {rest : Rest (Value N)} {how : Ended N} {w : State N I} → Segment same modules begins v m (more (part.Whole s) rest) [] how w → Risen v.engine.steps how w
  segment_rises {v} {m = m} {how = how} {w = w} (segment.goes {mid = mid} {late = late} move d e q) =
      end_rises v.engine.steps _ late w how (next_is v.engine.steps e (next_rises m (record { scopes = []; state = v }) (record { scopes = []; state = mid }) move (begin_rises m d))) (segment_falls same modules begins q)
  segment_rises {v} {m = m} (segment.over {mid = mid} move d e) = next_is v.engine.steps e (next_rises m (record { scopes = []; state = v }) (record { scopes = []; state = mid }) move (begin_rises m d))

  pub whole_rises : {v : State N I} {m : N} (ss : Stmts) {how : Ended N} {w : State N I} → HasFirst ss → Segment same modules begins v m (whole ss) [] how w → Risen v.engine.steps how w
  whole_rises nothing h p = absurd h
  whole_rises (first s ss) h p = segment_rises p
