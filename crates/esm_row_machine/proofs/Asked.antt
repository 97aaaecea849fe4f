-- Operators that ask the world.
use Rattle.std.proofs.Common.{◌≡◌, ℕ, suc, ◌+◌, nat_eq, Bool, List, [], ◌∷◌, ◌++◌, length, Option, Some, None, refl, ap, sym, subst, ◌∙◌}
use Rattle.std.specs.Prelude.{slice_get, Result, Ok, Err}
use Rattle.std.specs.Borrow.{Bor}
use Rattle.esm_base.specs.declared.limits.Limit.{Limit}
use Rattle.esm_tree.specs.Syntax.{Exprs, none, Links, member as linked_member, Item}
use Rattle.esm_env.specs.Modules.{Modules}
use Rattle.esm_values.specs.Plans.{Rewritten, Follows}
use Rattle.esm_values.specs.Code.{CodeValue, value_of, values_of, numbered}
use Rattle.esm_values.specs.declared.value.Value.{Value}
use Rattle.esm_expr_eval.specs.Terms.{Term, terms, links}
use Rattle.esm_expr_eval.specs.Terms.Term.{Val, Sum, Post, Print, NewError, Import}
use Rattle.esm_expr_eval.specs.Terms.Terms.{none as no_more_terms, more as further}
use Rattle.esm_expr_eval.specs.Terms.LinkTerms.{member as member_term}
use Rattle.esm_expr_eval.specs.Rewriting.{AreValues, nil, cons}
use Rattle.esm_expr_eval.specs.Rewriting.{Rewrites as rules}
use Rattle.esm_rewriting.specs.State.{State, Importing}
use Rattle.esm_rewriting.specs.Acts.{Performs}
use Rattle.esm_rewriting.specs.Contexts.{surrounded}
use Rattle.esm_rewriting.specs.declared.stop.Stop.{Stop}
use Rattle.esm_rewriting.specs.declared.stop.Stop.TheVariants as stops
use Rattle.esm_rows.specs.Rows.{Operation}
use Rattle.esm_rows.specs.Rows.{Operation as o}
use Rattle.esm_rows.specs.Making.{TextAt}
use Rattle.esm_rows.specs.declared.op.Op.{Op}
use Rattle.esm_rows.specs.declared.op.Op.TheVariants as op
use Rattle.esm_row_laws.specs.Spots.{Kont, Sums, Adds, Posts, Prints, Makes, Imports, rounds_of, Spot, Has, rounds_row, kont_row}
use Rattle.esm_row_laws.specs.Rooms.{HasRoom}
use Rattle.esm_row_laws.specs.Remaining.{contexts, plug, print_under, rest_of, rest_at}
use Rattle.esm_row_laws.specs.Callings.{above}
use Rattle.esm_row_laws.specs.Landings.{over_names}
use Rattle.esm_row_laws.specs.Told.{Told, PrintsAt, without, at_last_one}
use Rattle.esm_row_laws.proofs.Calling.{in_front, all_under}
use Rattle.esm_row_machine.specs.Functions.{Here, Waiter, rounds_at}
use Rattle.esm_row_machine.specs.Stacks.{IsLeft}
use Rattle.esm_row_machine.specs.Outside.{AllKnown, AskedIn, Asked, Planning, member_plan, sum_plan, print_plan, error_plan, import_plan, modules_in}
use Rattle.esm_row_machine.specs.Changes.{Popped, PoppedTwo, IsTextAt}
use Rattle.esm_row_machine.specs.Asking.{WithName, Heard, PoppedMany}
use Rattle.esm_row_machine.specs.Turns.{Turned}
use Rattle.esm_row_machine.specs.declared.machine.Frame.{Frame}
use Rattle.esm_row_machine.specs.declared.machine.Machine.{Machine}
use Rattle.esm_row_machine.specs.declared.turn.Turn.{Turn}
use Rattle.esm_row_machine.proofs.Told.{some_same, longer}
use Rattle.esm_row_machine.proofs.Going as going
use Rattle.esm_row_machine.proofs.Going.{IsLawful}
use Rattle.esm_row_machine.proofs.Coming as coming
use Rattle.esm_row_machine.proofs.Coming.{Comes, At, left_part, same_left}
use Rattle.esm_row_machine.proofs.Literals as literals
use Rattle.esm_row_machine.proofs.Literals.{with_operands}
use Rattle.esm_row_machine.proofs.Deciding as deciding
use Rattle.esm_row_machine.proofs.RoundRows.{kont_ends}
use Rattle.esm_row_machine.proofs.Tops as top_values
use Rattle.esm_row_machine.proofs.Tops.{Many, many_of, above_last}
use Rattle.esm_row_machine.proofs.Worldly as worldly

pub front_values : (us : List CodeValue) → AreValues (in_front us no_more_terms) us
front_values [] = nil
front_values (u ∷ us) = cons (front_values us)

in_front_last : (us : List CodeValue) (u : CodeValue) → in_front us (further (Val u) no_more_terms) ≡ in_front (us ++ u ∷ []) no_more_terms
in_front_last [] u = refl
in_front_last (v ∷ us) u = ap (λ es. further (Val v) es) (in_front_last us u)

module _ {W S : Type 0} (state : W → State ℕ S) (modules : S → Modules ℕ) (linked : S → ℕ → Bool) (begins : Importing ℕ S)
    (Ready : W → Type 0) (Keeps : W → W → Type 0) (owns : S → ℕ → List (List ℕ)) (lawful : IsLawful state modules linked begins Ready Keeps owns)
    (w : W) (s : Machine) (f : Frame) (left : ℕ) (h : Here) (ws : List Waiter) (texts : List (List ℕ)) where
  abbrev Next : Op → Type 0
  Next q = Comes state modules linked begins Ready Keeps owns w s f left h ws texts q

  abbrev Does : Result Turn Stop → W → Machine → Type 0
  Does result after late = Turned state modules linked begins Ready Keeps owns w f h ws result after late

  abbrev Known : CodeValue → Type 0
  Known u = going.Known state modules linked begins Ready Keeps owns w u

  abbrev Tree : ℕ → List Item
  Tree = (modules_in state modules linked begins Ready Keeps w).tree

  abbrev Stands : Spot → List CodeValue → Type 0
  Stands t vs = At state modules linked begins Ready Keeps owns w s f (left + 1) h ws t vs

  abbrev Asks : Type 0
  Asks = worldly.Asks state modules linked begins Ready Keeps owns lawful w s f left h ws

  abbrev TookOne : Kont → List Value → Value → Type 0
  TookOne k items u = deciding.Took state modules linked begins Ready Keeps owns lawful w s f left h ws texts k items u

  abbrev TookTwo : Kont → List Value → Value → Value → Type 0
  TookTwo k items u v = top_values.TookTwo state modules linked begins Ready Keeps owns w s f (left + 1) h ws k items u v

  pub rest_left : {q : Op} (c : Next q) → IsLeft Tree h.at h.function c.rest left
  rest_left c = literals.rest_left state modules linked begins Ready Keeps owns lawful w s f left h ws texts c

  pub at_spot : {q : Op} (c : Next q) (t : Spot) → c.spot ≡ t → Stands t c.operands
  at_spot c t e = coming.at_spot state modules linked begins Ready Keeps owns w s f (left + 1) h ws c.spot t c.operands e c.at

  -- what is left behind all that is round the part
  pub round_left : (k : Kont) (n : ℕ) → IsLeft Tree h.at h.function (kont_row k) n → IsLeft Tree h.at h.function (rounds_row (rounds_of k)) (length (rounds_row (rounds_of k)))
  round_left k n l = left_part (kont_ends k) l (length (rounds_row (rounds_of k))) refl

  -- an operation that names a text of the row
  pub named : {q : Op} (c : Next q) (make : List ℕ → Operation) (k : ℕ) → TextAt texts k make c.operation → (t : List ℕ) → slice_get texts k ≡ Some t → Told (make t) c.rest c.spot
  named c make k told t e =
      let is = some_same told.0 t (sym told.1 ∙ e) in
      subst (λ (u : List ℕ). Told (make u) c.rest c.spot) is (subst (λ p. Told p c.rest c.spot) told.2 c.tells)

  -- one value was taken first, two, or so many
  pub from_one : (k : Kont) (vs : List CodeValue) → Stands (Has k) vs → (after : W) (late : Machine) (P : List Value → Value → Result Turn Stop → Type 0)
      → ((items : List Value) (u : Value) → TookOne k items u → (result : Result Turn Stop) → P items u result → Does result after late) → (result : Result Turn Stop) → Popped s.operands.items P result → Does result after late
  from_one k vs a after late P on (Ok t) p = on p.0 p.1 (deciding.took state modules linked begins Ready Keeps owns lawful w s f left h ws texts k vs a p.0 p.1 p.2) (Ok t) p.3
  from_one k vs a after late P on (Err (stops.Limit why)) p = on p.0 p.1 (deciding.took state modules linked begins Ready Keeps owns lawful w s f left h ws texts k vs a p.0 p.1 p.2) (Err (stops.Limit why)) p.3
  from_one k vs a after late P on (Err stops.Memory) p = tt

  from_two : (after : W) (late : Machine) (P : List Value → Value → Value → Result Turn Stop → Type 0)
      → ((items : List Value) (u v : Value) → s.operands.items ≡ items ++ u ∷ v ∷ [] → (result : Result Turn Stop) → P items u v result → Does result after late) → (result : Result Turn Stop) → PoppedTwo s.operands.items P result → Does result after late
  from_two after late P on (Ok t) p = on p.0 p.1 p.2 p.3 (Ok t) p.4
  from_two after late P on (Err (stops.Limit why)) p = on p.0 p.1 p.2 p.3 (Err (stops.Limit why)) p.4
  from_two after late P on (Err stops.Memory) p = tt

  from_many : (n : ℕ) (after : W) (late : Machine) (P : List Value → List Value → Result Turn Stop → Type 0)
      → ((items us : List Value) → s.operands.items ≡ items ++ us → length us ≡ n → (result : Result Turn Stop) → P items us result → Does result after late) → (result : Result Turn Stop) → PoppedMany s.operands.items n P result → Does result after late
  from_many n after late P on (Ok t) p = on p.0 p.1 p.2 p.3 (Ok t) p.4
  from_many n after late P on (Err (stops.Limit why)) p = on p.0 p.1 p.2 p.3 (Err (stops.Limit why)) p.4
  from_many n after late P on (Err stops.Memory) p = tt

  -- a plan for the part is followed in the module of the function
  abbrev Rule : Asks → Planning → Type 0
  Rule a plan = (c : Rewritten CodeValue Limit (Term CodeValue)) (late : State ℕ S)
      → Follows (Performs nat_eq modules begins h.at) (over_names modules begins (rounds_of a.kont) h.names (state w)) (plan a.behind) c (over_names modules begins (rounds_of a.kont) h.names late)
      → worldly.Parts state modules linked begins Ready Keeps owns lawful w s f left h ws a c late

  heard : (a : Asks) (plan : Planning) → Rule a plan → (vs : List CodeValue) → AllKnown Known vs → (after : W) (late : Machine) → with_operands s late → (result : Result Turn Stop)
      → Heard a.items (λ told. AskedIn state modules linked begins Ready Keeps h.at w vs plan told after) left result late.operands.items → Does result after late
  heard a plan rule vs known after late same result q =
      worldly.plan_turns state modules linked begins Ready Keeps owns lawful w s f left h ws a plan rule q.told after late same (q.says a.at.stand.fits.is_ready a.at.stand.fits.home known) result q.took

  -- ---- `+`

  adds : (es : Exprs) (k : Kont) → IsLeft Tree h.at h.function (kont_row (Sums es k)) left → (items : List Value) (u v : Value) → TookTwo (Adds es k) items u v → Asks
  adds es k there items u v t = record {
    place = Has (Adds es k);
    before = value_of v ∷ value_of u ∷ t.below;
    next = Has (Sums es k);
    at = t.at;
    kont = k;
    below = t.below;
    part = Sum (Val (value_of u)) (further (Val (value_of v)) (terms numbered es));
    behind = λ q. Sum (Val q) (terms numbered es);
    is = refl;
    leads_to = λ q. refl;
    same_rounds = refl;
    next_rounds = refl;
    room = t.at.stand.stands.room;
    next_room = λ q. t.at.stand.stands.room;
    items = items;
    stacked = t.stacked;
    known = t.known;
    left_there = there;
    left_round = round_left (Adds es k) (left + 1) t.at.stand.stands.place;
  }

  abbrev SaysAdd : W → Machine → List Value → Value → Value → Result Turn Stop → Type 0
  SaysAdd after late items u v r =
      Heard items (λ told. Asked state modules linked begins Ready Keeps w (value_of u ∷ value_of v ∷ []) (sum_plan (value_of u) (value_of v)) told after) left r late.operands.items

  in_module : (vs : List CodeValue) (plan : Planning) (items : List Value) (after : W) (result : Result Turn Stop) (us : List Value)
      → Heard items (λ told. Asked state modules linked begins Ready Keeps w vs plan told after) left result us
      → Heard items (λ told. AskedIn state modules linked begins Ready Keeps h.at w vs plan told after) left result us
  in_module vs plan items after result us q = record { told = q.told; says = q.says h.at; took = q.took }

  pub add : (c : Next op.Add) (after : W) (late : Machine) → with_operands s late → (result : Result Turn Stop) → PoppedTwo s.operands.items (SaysAdd after late) result → Does result after late
  unfolding adds
  add c after late same result p =
      let t = subst (λ q. Told q c.rest c.spot) c.told c.tells in
      from_two after late (SaysAdd after late) (λ items u v e r q. by t.0 t.1 t.2 t.3 items u v e r q) result p
    where
      by : (es : Exprs) (k : Kont) → c.spot ≡ Has (Adds es k) → kont_row (Sums es k) ≡ c.rest → (items : List Value) (u v : Value) → s.operands.items ≡ items ++ u ∷ v ∷ [] → (r : Result Turn Stop) → SaysAdd after late items u v r → Does r after late
      by es k is row items u v e r q =
          let t = top_values.took_two state modules linked begins Ready Keeps owns w s f (left + 1) h ws (Adds es k) (HasRoom k) (λ us room. room) c.operands (at_spot c (Has (Adds es k)) is) items u v e in
          heard (adds es k (same_left c.rest (kont_row (Sums es k)) (sym row) (rest_left c)) items u v t) (sum_plan (value_of u) (value_of v)) (λ d late' fol. rules.joins fol)
          (value_of u ∷ value_of v ∷ []) (t.known_first, (t.known_last, tt)) after late same r (in_module (value_of u ∷ value_of v ∷ []) (sum_plan (value_of u) (value_of v)) items after r late.operands.items q)

  -- ---- members

  takes_member : (name : List ℕ) (ls : Links) (k : Kont) → IsLeft Tree h.at h.function (kont_row (Posts ls k)) left → (items : List Value) (u : Value) → TookOne (Posts (linked_member name ls) k) items u → Asks
  takes_member name ls k there items u t = record {
    place = Has (Posts (linked_member name ls) k);
    before = value_of u ∷ t.below;
    next = Has (Posts ls k);
    at = t.at;
    kont = k;
    below = t.below;
    part = Post (Val (value_of u)) (member_term name (links numbered ls));
    behind = λ q. Post (Val q) (links numbered ls);
    is = refl;
    leads_to = λ q. refl;
    same_rounds = refl;
    next_rounds = refl;
    room = t.at.stand.stands.room;
    next_room = λ q. t.at.stand.stands.room;
    items = items;
    stacked = t.values;
    known = t.known;
    left_there = there;
    left_round = round_left (Posts (linked_member name ls) k) (left + 1) t.at.stand.stands.place;
  }

  abbrev SaysMember : W → Machine → List ℕ → List Value → Value → Result Turn Stop → Type 0
  SaysMember after late name items u r = Heard items (λ told. Asked state modules linked begins Ready Keeps w (value_of u ∷ []) (member_plan (value_of u) name) told after) left r late.operands.items

  member_at : {q : Op} (c : Next q) (name : List ℕ) → Told (o.Member name) c.rest c.spot → (after : W) (late : Machine) → with_operands s late → (result : Result Turn Stop) → Popped s.operands.items (SaysMember after late name) result → Does result after late
  unfolding takes_member
  member_at c name t after late same result p =
      from_one (Posts (linked_member name t.0) t.1) c.operands (at_spot c (Has (Posts (linked_member name t.0) t.1)) t.2) after late (SaysMember after late name)
      (λ items u k r q. heard (takes_member name t.0 t.1 (same_left c.rest (kont_row (Posts t.0 t.1)) (sym t.3) (rest_left c)) items u k) (member_plan (value_of u) name) (λ d late' fol. rules.member_of fol)
      (value_of u ∷ []) (k.known_top, tt) after late same r (in_module (value_of u ∷ []) (member_plan (value_of u) name) items after r late.operands.items q)) result p

  pub member : (k : ℕ) (c : Next (op.Member k)) (name : Option (Bor (List ℕ))) → IsTextAt texts k name → (after : W) (late : Machine) → with_operands s late → (result : Result Turn Stop)
      → WithName name (λ t. Popped s.operands.items (SaysMember after late t) result) result → Does result after late
  member k c None at after late same result p = subst (λ (r : Result Turn Stop). Does r after late) (sym p) tt
  member k c (Some name) at after late same result p = member_at c name.now (named c (λ t. o.Member t) k c.told name.now at) after late same result p

  -- ---- `new Error`

  makes : (k : Kont) → IsLeft Tree h.at h.function (kont_row k) left → (items : List Value) (u : Value) → TookOne (Makes k) items u → Asks
  makes k there items u t = record {
    place = Has (Makes k);
    before = value_of u ∷ t.below;
    next = Has k;
    at = t.at;
    kont = k;
    below = t.below;
    part = NewError (Val (value_of u));
    behind = λ q. Val q;
    is = refl;
    leads_to = λ q. refl;
    same_rounds = refl;
    next_rounds = refl;
    room = t.at.stand.stands.room;
    next_room = λ q. t.at.stand.stands.room;
    items = items;
    stacked = t.values;
    known = t.known;
    left_there = there;
    left_round = round_left (Makes k) (left + 1) t.at.stand.stands.place;
  }

  abbrev SaysError : W → Machine → List Value → Value → Result Turn Stop → Type 0
  SaysError after late items u r = Heard items (λ told. Asked state modules linked begins Ready Keeps w (value_of u ∷ []) (error_plan (value_of u)) told after) left r late.operands.items

  pub new_error : (c : Next op.NewError) (after : W) (late : Machine) → with_operands s late → (result : Result Turn Stop) → Popped s.operands.items (SaysError after late) result → Does result after late
  unfolding makes
  new_error c after late same result p =
      let t = subst (λ q. Told q c.rest c.spot) c.told c.tells in
      from_one (Makes t.0) c.operands (at_spot c (Has (Makes t.0)) t.1) after late (SaysError after late)
      (λ items u k r q. heard (makes t.0 (same_left c.rest (kont_row t.0) (sym t.2) (rest_left c)) items u k) (error_plan (value_of u)) (λ d late' fol. rules.error fol)
      (value_of u ∷ []) (k.known_top, tt) after late same r (in_module (value_of u ∷ []) (error_plan (value_of u)) items after r late.operands.items q)) result p

  -- ---- `import()`

  begins_import : (k : Kont) → IsLeft Tree h.at h.function (kont_row k) left → (items : List Value) (u : Value) → TookOne (Imports k) items u → Asks
  begins_import k there items u t = record {
    place = Has (Imports k);
    before = value_of u ∷ t.below;
    next = Has k;
    at = t.at;
    kont = k;
    below = t.below;
    part = Import (Val (value_of u));
    behind = λ q. Val q;
    is = refl;
    leads_to = λ q. refl;
    same_rounds = refl;
    next_rounds = refl;
    room = t.at.stand.stands.room;
    next_room = λ q. t.at.stand.stands.room;
    items = items;
    stacked = t.values;
    known = t.known;
    left_there = there;
    left_round = round_left (Imports k) (left + 1) t.at.stand.stands.place;
  }

  abbrev SaysImport : W → Machine → ℕ → List Value → Value → Result Turn Stop → Type 0
  SaysImport after late m items u r = Heard items (λ told. AskedIn state modules linked begins Ready Keeps m w (value_of u ∷ []) (import_plan (value_of u)) told after) left r late.operands.items

  pub import : (c : Next op.Import) (after : W) (late : Machine) → with_operands s late → (result : Result Turn Stop) → Popped s.operands.items (SaysImport after late f.at.0) result → Does result after late
  unfolding begins_import
  import c after late same result p =
      let t = subst (λ q. Told q c.rest c.spot) c.told c.tells in
      from_one (Imports t.0) c.operands (at_spot c (Has (Imports t.0)) t.1) after late (SaysImport after late f.at.0)
      (λ items u k r q. heard (begins_import t.0 (same_left c.rest (kont_row t.0) (sym t.2) (rest_left c)) items u k) (import_plan (value_of u)) (λ d late' fol. rules.begins fol)
      (value_of u ∷ []) (k.known_top, tt) after late same r (subst (λ m. SaysImport after late m items u r) c.at.stand.stands.below.frame.home q)) result p

  -- ---- `print`

  -- the part under way at this place prints these values
  pub record Printing (k : Kont) (n : ℕ) (t : Spot) : Type 0 where
    pub tops : List CodeValue
    pub below : List CodeValue
    pub at : Stands t (above tops below)
    pub long : length tops ≡ n
    pub room : HasRoom k below
    pub is : rest_at numbered t h.names (above tops below) ≡ rest_of numbered k h.names below (Print (in_front tops no_more_terms))
    pub rounds : rounds_of k ≡ rounds_at t
    pub round : IsLeft Tree h.at h.function (rounds_row (rounds_of k)) (length (rounds_row (rounds_of k)))

  printing_last : (k : Kont) (n : ℕ) (v : CodeValue) (vs : List CodeValue) → Stands (Has (Prints n none k)) (v ∷ vs) → Many (HasRoom k) n vs → Printing k (suc n) (Has (Prints n none k))
  printing_last k n v vs a m =
      let e : v ∷ vs ≡ above (m.tops ++ v ∷ []) m.below = ap (λ us. v ∷ us) m.is ∙ sym (above_last m.tops v m.below) in
      record {
        tops = m.tops ++ v ∷ [];
        below = m.below;
        at = subst (λ (us : List CodeValue). Stands (Has (Prints n none k)) us) e a;
        long = longer m.tops v ∙ ap suc m.long;
        room = m.room;
        is = ap (λ us. rest_at numbered (Has (Prints n none k)) h.names us) (above_last m.tops v m.below)
            ∙ ap (λ j. rest_at numbered (Has (Prints j none k)) h.names (v ∷ above m.tops m.below)) (sym m.long)
            ∙ ap (λ q. surrounded (contexts numbered (rounds_of k) h.names) (print_under numbered (plug numbered k) q)) (all_under m.tops m.below (further (Val v) no_more_terms))
            ∙ ap (λ es. rest_of numbered k h.names m.below (Print es)) (in_front_last m.tops v);
        rounds = refl;
        round = round_left (Prints n none k) (left + 1) a.stand.stands.place;
      }

  printing : (k : Kont) (n : ℕ) (t : Spot) (vs : List CodeValue) → PrintsAt k n t → Stands t vs → IsLeft Tree h.at h.function (kont_row k) left → Printing k n t
  printing k _ _ vs without a there = record {
    tops = [];
    below = vs;
    at = a;
    long = refl;
    room = a.stand.stands.room;
    is = refl;
    rounds = refl;
    round = round_left k left there;
  }
  printing k _ _ vs (at_last_one n) a there =
      let t = coming.top state modules linked begins Ready Keeps owns w s f (left + 1) h ws (Prints n none k) vs a in
      printing_last k n t.value t.below t.at (many_of {Room = HasRoom k} n t.below t.at.stand.stands.room)

  prints : (k : Kont) (n : ℕ) (t : Spot) (g : Printing k n t) → IsLeft Tree h.at h.function (kont_row k) left → (items us : List Value) → top_values.TookMany state modules linked begins Ready Keeps owns w s f (left + 1) h ws g.tops g.below items us → Asks
  prints k n t g there items us m = record {
    place = t;
    before = above g.tops g.below;
    next = Has k;
    at = g.at;
    kont = k;
    below = g.below;
    part = Print (in_front g.tops no_more_terms);
    behind = λ q. Val q;
    is = g.is;
    leads_to = λ q. refl;
    same_rounds = g.rounds;
    next_rounds = g.rounds;
    room = g.room;
    next_room = λ q. g.room;
    items = items;
    stacked = m.stacked;
    known = m.known;
    left_there = there;
    left_round = g.round;
  }

  abbrev SaysPrint : W → Machine → List CodeValue → List Value → Result Turn Stop → Type 0
  SaysPrint after late vs items r = Heard items (λ told. Asked state modules linked begins Ready Keeps w vs (print_plan vs) told after) left r late.operands.items

  pub print : (n : ℕ) (c : Next (op.Print n)) (after : W) (late : Machine) → with_operands s late → (result : Result Turn Stop)
      → PoppedMany s.operands.items n (λ items us r. SaysPrint after late (values_of us) items r) result → Does result after late
  unfolding prints
  print n c after late same result p =
      let t = subst (λ q. Told q c.rest c.spot) c.told c.tells in
      let there = same_left c.rest (kont_row t.0) (sym t.2) (rest_left c) in
      let g = printing t.0 n c.spot c.operands t.1 c.at there in
      from_many n after late (λ items us r. SaysPrint after late (values_of us) items r)
      (λ items us e long r q. by t.0 there g items us (top_values.took_many state modules linked begins Ready Keeps owns w s f (left + 1) h ws c.spot g.tops g.below g.at items us e (long ∙ sym g.long)) r q) result p
    where
      by : (k : Kont) → IsLeft Tree h.at h.function (kont_row k) left → (g : Printing k n c.spot) (items us : List Value) → top_values.TookMany state modules linked begins Ready Keeps owns w s f (left + 1) h ws g.tops g.below items us
          → (r : Result Turn Stop) → SaysPrint after late (values_of us) items r → Does r after late
      by k there g items us m r q =
          heard (prints k n c.spot g there items us m) (print_plan g.tops) (λ d late' fol. rules.print (front_values g.tops) fol) g.tops (subst (λ (vs : List CodeValue). AllKnown Known vs) m.values m.known_tops) after late same r
          (in_module g.tops (print_plan g.tops) items after r late.operands.items (subst (λ (vs : List CodeValue). SaysPrint after late vs items r) m.values q))
