-- Names of the module, and its URL.
use Rattle.std.proofs.Common.{◌≡◌, ℕ, ◌+◌, nat_eq, Bool, List, [], Option, Some, None, refl, ap, sym, subst, ◌∙◌}
use Rattle.std.specs.Prelude.{Result, Ok, Err}
use Rattle.std.specs.Borrow.{Bor}
use Rattle.esm_base.specs.declared.memory.Memory.{Memory}
use Rattle.esm_tree.specs.Syntax as x
use Rattle.esm_tree.specs.Syntax.{Expr, Item}
use Rattle.esm_env.specs.Cells.{Reading}
use Rattle.esm_env.specs.Cells.{Reading as reading}
use Rattle.esm_env.specs.Modules.{Modules}
use Rattle.esm_env.specs.NamePlaces.{first_place}
use Rattle.esm_values.specs.Value as value
use Rattle.esm_values.specs.Acts.{Act as act}
use Rattle.esm_values.specs.Completion.{Completion}
use Rattle.esm_values.specs.Operators.{complete}
use Rattle.esm_values.specs.Plans.{Follows}
use Rattle.esm_values.specs.Plans.{Follows as follows}
use Rattle.esm_values.specs.Plans.Rewritten.{Goes}
use Rattle.esm_values.specs.Code.{CodeValue, value_of, numbered}
use Rattle.esm_values.specs.declared.value.Value.{Value}
use Rattle.esm_expr_eval.specs.Terms.{Term, term}
use Rattle.esm_expr_eval.specs.Terms.Term.{Val, OwnUrl}
use Rattle.esm_expr_eval.specs.Rewriting.{Rewrites as rules}
use Rattle.esm_expr_eval.specs.declared.world.Out.{Out}
use Rattle.esm_expr_eval.specs.declared.world.Out.TheVariants as out
use Rattle.esm_rewriting.specs.Scopes.{Scope}
use Rattle.esm_rewriting.specs.State.{State, Importing, AnswerWith}
use Rattle.esm_rewriting.specs.Acts.{Inner, Performs, ReadsBy, read_answer}
use Rattle.esm_rewriting.specs.Contexts.{scopes_in}
use Rattle.esm_rewriting.specs.declared.stop.Stop.{Stop}
use Rattle.esm_rewriting.specs.declared.stop.Stop.TheVariants as stops
use Rattle.esm_rows.specs.Rows.{found_in}
use Rattle.esm_rows.specs.Rows.{Operation as o}
use Rattle.esm_rows.specs.declared.op.Op.{Op}
use Rattle.esm_rows.specs.declared.op.Op.TheVariants as op
use Rattle.esm_row_laws.specs.Spots.{Kont, rounds_of, kont_names, Begins, Has, kont_row}
use Rattle.esm_row_laws.specs.Remaining.{contexts}
use Rattle.esm_row_laws.specs.Operations.{Values}
use Rattle.esm_row_laws.specs.Places.{FitNames}
use Rattle.esm_row_laws.specs.Moving.{Part}
use Rattle.esm_row_laws.specs.Told.{Told}
use Rattle.esm_row_laws.proofs.Placing as placing
use Rattle.esm_row_machine.specs.Functions.{Here, Waiter}
use Rattle.esm_row_machine.specs.Stacks.{IsLeft}
use Rattle.esm_row_machine.specs.Outside.{IsUrl, Reads, ReadsPlace, completed, ends_as, modules_in, owns_in}
use Rattle.esm_row_machine.specs.Changes.{IsTextAt}
use Rattle.esm_row_machine.specs.Asking.{WithName, Heard, HeardValue, PutIfOk}
use Rattle.esm_row_machine.specs.Turns.{Turned}
use Rattle.esm_row_machine.specs.declared.machine.Frame.{Frame}
use Rattle.esm_row_machine.specs.declared.machine.Machine.{Machine}
use Rattle.esm_row_machine.specs.declared.turn.Turn.{Turn}
use Rattle.esm_row_machine.proofs.Going as going
use Rattle.esm_row_machine.proofs.Going.{IsLawful}
use Rattle.esm_row_machine.proofs.Coming.{Comes, At, same_left}
use Rattle.esm_row_machine.proofs.Literals.{with_operands}
use Rattle.esm_row_machine.proofs.Asked as asked
use Rattle.esm_row_machine.proofs.Worldly as worldly

-- ---- a read over no scopes, where none declares the name

module _ {S : Type 0} (modules : S → Modules ℕ) (begins : Importing ℕ S) (m : ℕ) (x : List ℕ) (w after : State ℕ S) where
  abbrev over : List (Scope CodeValue) → State ℕ S → Inner ℕ S
  over ss s = record { scopes = ss; state = s }

  abbrev Answer : Type 0
  Answer = AnswerWith (Completion CodeValue) (Inner ℕ S)

  abbrev again : List (Scope CodeValue) → Answer → Answer
  again ss told = (told.0, over ss told.1.state)

  same_answer : (ss : List (Scope CodeValue)) (read : Reading CodeValue) → again ss (read_answer (over [] w) x read) ≡ read_answer (over ss w) x read
  same_answer ss (reading.Value v) = refl
  same_answer ss reading.Unset = refl
  same_answer ss reading.Undeclared = refl

  read_over : (k : Kont) (vss : Values) (told : Completion CodeValue) → FitNames (kont_names k) vss → found_in (kont_names k) x ≡ None
      → Performs nat_eq modules begins m (over [] w) (act.Read x) (Ok told) (over [] after)
      → Performs nat_eq modules begins m (over (scopes_in (contexts numbered (rounds_of k) vss)) w) (act.Read x) (Ok told) (over (scopes_in (contexts numbered (rounds_of k) vss)) after)
  read_over k vss told fit e p = (
    p.0,
    subst (λ cell. ReadsBy nat_eq modules begins m w x cell p.0) (sym (placing.none numbered x (rounds_of k) vss fit e)) p.1,
    ap (again (scopes_in (contexts numbered (rounds_of k) vss))) p.2 ∙ same_answer (scopes_in (contexts numbered (rounds_of k) vss)) p.0,
  )

module _ {W S : Type 0} (state : W → State ℕ S) (modules : S → Modules ℕ) (linked : S → ℕ → Bool) (begins : Importing ℕ S)
    (Ready : W → Type 0) (Keeps : W → W → Type 0) (owns : S → ℕ → List (List ℕ)) (lawful : IsLawful state modules linked begins Ready Keeps owns)
    (w : W) (s : Machine) (f : Frame) (left : ℕ) (h : Here) (ws : List Waiter) (texts : List (List ℕ)) where
  abbrev Next : Op → Type 0
  Next q = Comes state modules linked begins Ready Keeps owns w s f left h ws texts q

  abbrev Does : Result Turn Stop → W → Machine → Type 0
  Does result after late = Turned state modules linked begins Ready Keeps owns w f h ws result after late

  abbrev Tree : ℕ → List Item
  Tree = (modules_in state modules linked begins Ready Keeps w).tree

  abbrev Asks : Type 0
  Asks = worldly.Asks state modules linked begins Ready Keeps owns lawful w s f left h ws

  abbrev Tells : Asks → Result Out Stop → W → Type 0
  Tells a told after = worldly.Tells state modules linked begins Ready Keeps owns lawful w s f left h ws a told after

  -- a part that is a leaf: its value is put on top of the operands that there are
  leaf : (e : Expr) (k : Kont) (vs : List CodeValue) → At state modules linked begins Ready Keeps owns w s f (left + 1) h ws (Begins e k) vs → IsLeft Tree h.at h.function (kont_row k) left → Asks
  leaf e k vs a there = record {
    place = Begins e k;
    before = vs;
    next = Has k;
    at = a;
    kont = k;
    below = vs;
    part = term numbered e;
    behind = λ q. Val q;
    is = refl;
    leads_to = λ q. refl;
    same_rounds = refl;
    next_rounds = refl;
    room = a.stand.stands.room;
    next_room = λ q. a.stand.stands.room;
    items = s.operands.items;
    stacked = a.stand.stands.operands;
    known = a.stand.fits.operands;
    left_there = there;
    left_round = asked.round_left state modules linked begins Ready Keeps owns lawful w s f left h ws texts k left there;
  }

  -- ---- names

  completes : (told : Out) (rest : CodeValue → Term CodeValue) (v : Inner ℕ S) → Follows (Performs nat_eq modules begins h.at) v (complete numbered rest (completed told)) (ends_as told rest) v
  completes (out.Value u) rest v = follows.ends
  completes (out.Thrown u) rest v = follows.ends

  abbrev SaysRead : W → ℕ → List ℕ → Result Out Stop → Type 0
  SaysRead after m name told = Reads state modules linked begins Ready Keeps w m name told after

  module _ (name : List ℕ) (k : Kont) (vs : List CodeValue) (a : At state modules linked begins Ready Keeps owns w s f (left + 1) h ws (Begins (x.Name name) k) vs) (there : IsLeft Tree h.at h.function (kont_row k) left)
      (none : found_in (kont_names k) name ≡ None) (after : W) where
    tells : (told : Result Out Stop) → SaysRead after h.at name told → Tells (leaf (x.Name name) k vs a there) told after
    unfolding leaf
    tells (Ok told) r =
        let p = r a.stand.fits.is_ready a.stand.fits.home in
        (rules.name (follows.asks (completed told) (read_over modules begins h.at name (state w) (state after) k h.names (completed told) a.stand.stands.below.fit none p.0) (completes told (λ q. Val q) _)), p.1, p.2)
    tells (Err (stops.Limit why)) r = absurd r
    tells (Err stops.Memory) r = tt

    named : (late : Machine) → with_operands s late → (result : Result Turn Stop) → Heard s.operands.items (λ told. SaysRead after h.at name told) left result late.operands.items → Does result after late
    unfolding leaf
    named late same result q =
        worldly.told_turns state modules linked begins Ready Keeps owns lawful w s f left h ws (leaf (x.Name name) k vs a there) q.told after late same (tells q.told q.says) result q.took

  named_at : {q : Op} (c : Next q) (t : List ℕ) → Told (o.Name t) c.rest c.spot → (after : W) (late : Machine) → with_operands s late → (result : Result Turn Stop)
      → Heard s.operands.items (λ told. SaysRead after h.at t told) left result late.operands.items → Does result after late
  named_at c t told after late same result q =
      named t told.0 c.operands (asked.at_spot state modules linked begins Ready Keeps owns lawful w s f left h ws texts c (Begins (x.Name t) told.0) told.1)
      (same_left c.rest (kont_row told.0) (sym told.3) (asked.rest_left state modules linked begins Ready Keeps owns lawful w s f left h ws texts c)) told.2 after late same result q

  pub read_name : (k : ℕ) (c : Next (op.Name k)) (name : Option (Bor (List ℕ))) → IsTextAt texts k name → (after : W) (late : Machine) → with_operands s late → (result : Result Turn Stop)
      → WithName name (λ t. Heard s.operands.items (λ told. SaysRead after f.at.0 t told) left result late.operands.items) result → Does result after late
  read_name k c None at after late same result p = subst (λ (r : Result Turn Stop). Does r after late) (sym p) tt
  read_name k c (Some name) at after late same result p =
      named_at c name.now (asked.named state modules linked begins Ready Keeps owns lawful w s f left h ws texts c (λ t. o.Name t) k c.told name.now at) after late same result
      (subst (λ (m : ℕ). Heard s.operands.items (λ told. SaysRead after m name.now told) left result late.operands.items) c.at.stand.stands.below.frame.home p)

  abbrev SaysPlace : W → ℕ → ℕ → Result Out Stop → Type 0
  SaysPlace after m place told = ReadsPlace state modules linked begins Ready Keeps owns w m place told after

  pub read_own : (k : ℕ) (c : Next (op.Own k)) (after : W) (late : Machine) → with_operands s late → (result : Result Turn Stop)
      → Heard s.operands.items (λ told. SaysPlace after f.at.0 k told) left result late.operands.items → Does result after late
  read_own k c after late same result p =
      by c.told.0 c.told.1 (subst (λ q. Told q c.rest c.spot) c.told.2 c.tells) (subst (λ (m : ℕ). Heard s.operands.items (λ told. SaysPlace after m k told) left result late.operands.items) c.at.stand.stands.below.frame.home p)
    where
      by : (t : List ℕ) → first_place (owns_in state modules linked begins Ready Keeps owns w h.at) t ≡ Some k → Told (o.Name t) c.rest c.spot → Heard s.operands.items (λ told. SaysPlace after h.at k told) left result late.operands.items → Does result after late
      by t is told q = named_at c t told after late same result (record { told = q.told; says = q.says t is; took = q.took })

  -- ---- the URL

  url_rewrites : (k : Kont) (vs : List CodeValue) (a : At state modules linked begins Ready Keeps owns w s f (left + 1) h ws (Begins x.Url k) vs) (there : IsLeft Tree h.at h.function (kont_row k) left) (u : Value)
      → IsUrl state modules linked begins Ready Keeps w h.at (Ok u) → Tells (leaf x.Url k vs a there) (Ok (out.Value u)) w
  unfolding leaf
  url_rewrites k vs a there u is =
      let e : value_of u ≡ value.Text ((modules_in state modules linked begins Ready Keeps w).url h.at) = is a.stand.fits.is_ready a.stand.fits.home in (
        subst (λ (v : CodeValue). Part modules begins h.at k h.names (state w) OwnUrl (Goes (Val v)) (state w)) (sym e) rules.own_url,
        subst (λ (v : CodeValue). going.Known state modules linked begins Ready Keeps owns w v) (sym e) tt,
        record { is_ready = a.stand.fits.is_ready; keeps = lawful.itself w },
      )

  pub put_url : (c : Next op.Url) (late : Machine) → with_operands s late → (result : Result Turn Stop)
      → HeardValue s.operands.items (λ told. IsUrl state modules linked begins Ready Keeps w f.at.0 told) left result late.operands.items → Does result w late
  unfolding leaf
  put_url c late same result p =
      let t = subst (λ q. Told q c.rest c.spot) c.told c.tells in
      by t.0 (asked.at_spot state modules linked begins Ready Keeps owns lawful w s f left h ws texts c (Begins x.Url t.0) t.1)
      (same_left c.rest (kont_row t.0) (sym t.2) (asked.rest_left state modules linked begins Ready Keeps owns lawful w s f left h ws texts c)) p.told
      (subst (λ (m : ℕ). IsUrl state modules linked begins Ready Keeps w m p.told) c.at.stand.stands.below.frame.home p.says) p.put
    where
      by : (k : Kont) → At state modules linked begins Ready Keeps owns w s f (left + 1) h ws (Begins x.Url k) c.operands → IsLeft Tree h.at h.function (kont_row k) left
          → (told : Result Value Memory) → IsUrl state modules linked begins Ready Keeps w h.at told → PutIfOk s.operands.items told left result late.operands.items → Does result w late
      by k a there (Ok u) is put =
          worldly.told_turns state modules linked begins Ready Keeps owns lawful w s f left h ws (leaf x.Url k c.operands a there) (Ok (out.Value u)) w late same (url_rewrites k c.operands a there u is) result put
      by k a there (Err e) is put = subst (λ (r : Result Turn Stop). Does r w late) (sym put) tt
