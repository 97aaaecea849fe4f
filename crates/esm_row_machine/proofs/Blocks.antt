-- Blocks begin and end.
use Rattle.std.proofs.Common.{◌≡◌, ℕ, ◌+◌, ◌-◌, Bool, List, [], ◌∷◌, ◌++◌, length, take, Option, None, refl, ap, sym, subst, ◌∙◌, arith}
use Rattle.std.specs.Prelude.{replicate, Result}
use Rattle.std.proofs.lemmas.List.{append_assoc, append-nil, length-map}
use Rattle.esm_tree.specs.Syntax.{Item, Stmts, no_more, nothing}
use Rattle.esm_env.specs.Declarations.{Declaration, declared_in}
use Rattle.esm_env.specs.Modules.{Modules}
use Rattle.esm_values.specs.Code.{CodeValue, values_of}
use Rattle.esm_values.specs.declared.value.Value.{Value}
use Rattle.esm_rewriting.specs.State.{State, Importing}
use Rattle.esm_rewriting.specs.declared.stop.Stop.{Stop}
use Rattle.esm_rows.specs.Rows.{Row}
use Rattle.esm_rows.specs.declared.op.Op.{Op}
use Rattle.esm_rows.specs.declared.op.Op.TheVariants as op
use Rattle.esm_row_laws.specs.Spots.{Left, left, Round, Inner, First, Tried, round_names, names_of, Opening, Plainly, Firstly, Trying, opened, Spot, Between, Opens, left_row, handled_row}
use Rattle.esm_row_laws.specs.Places.{flat, FitNames}
use Rattle.esm_row_laws.specs.Operations.{Values, unset_of}
use Rattle.esm_row_laws.specs.Told.{Told, EntersAt, plainly, firstly, LeavesAt, of_block, of_first}
use Rattle.esm_row_laws.proofs.Operating as operating
use Rattle.esm_row_laws.proofs.Ending as ending
use Rattle.esm_row_machine.specs.Functions.{Here, Waiter, moved}
use Rattle.esm_row_machine.specs.Stacks.{AreOfFunction, IsLeft, name_value, names_on, names_under, handlers_under, handler_by, handlers_of}
use Rattle.esm_row_machine.specs.Outside.{AllKnown, modules_in}
use Rattle.esm_row_machine.specs.Naming.{GoesTo, WithoutLast, handler_with}
use Rattle.esm_row_machine.specs.Turns.{AreNamesKnown, LeadsTo, GoesOn, Turned}
use Rattle.esm_row_machine.specs.declared.machine.Frame.{Frame}
use Rattle.esm_row_machine.specs.declared.machine.Handler.{Handler}
use Rattle.esm_row_machine.specs.declared.machine.Machine.{Machine}
use Rattle.esm_row_machine.specs.declared.turn.Turn.{Turn}
use Rattle.esm_row_machine.proofs.Told.{joined}
use Rattle.esm_row_machine.proofs.Going as going
use Rattle.esm_row_machine.proofs.Going.{IsLawful}
use Rattle.esm_row_machine.proofs.Coming as coming
use Rattle.esm_row_machine.proofs.Coming.{Comes, At, left_part, same_left, snoc_same}
use Rattle.esm_row_machine.proofs.Returned.{front_names, names_taken}
use Rattle.esm_row_machine.proofs.Literals as literals
use Rattle.esm_row_machine.proofs.Changing as changing
use Rattle.esm_row_machine.proofs.NamesOn.{names_more, unset_names, unset_many, names_known_more, unset_known}

-- ---- what a block adds

opened_names : (opening : Opening) (ds : List Declaration) (l : Left) → round_names (opened opening ds l) ≡ ds
opened_names Plainly ds l = refl
opened_names (Firstly others) ds l = refl
opened_names (Trying caught handler) ds l = refl

opened_of : (opening : Opening) (ds : List Declaration) (l : Left) (rs : List Round) → AreOfFunction rs → AreOfFunction (opened opening ds l ∷ rs)
opened_of Plainly ds l rs of = of
opened_of (Firstly others) ds l rs of = of
opened_of (Trying caught handler) ds l rs of = of

no_handler : (ss : Stmts) (l : Left) (rs : List Round) (opening : Opening) (behind : Row) → EntersAt ss l rs opening behind → (base : ℕ) (ds : List Declaration) (vss : Values) → handler_by base (opened opening ds l) rs vss ≡ []
no_handler ss l rs _ _ plainly base ds vss = refl
no_handler ss l rs _ _ (firstly others) base ds vss = refl

-- what is there but for these is the front
front_many : (a b c n : ℕ) → c ≡ a + b → n ≡ b → c - n ≡ a
front_many a b c n e g = omega (arith, e, g)

-- the values of names but for the innermost block's
abbrev pub Split : Values → Type 0
Split vss = (vs : List (Option CodeValue)) × (others : Values) × (vss ≡ vs ∷ others)

split : (r : Round) (rs : List Round) (vss : Values) → FitNames (names_of (r ∷ rs)) vss → Split vss
split r rs [] fit = absurd fit
split r rs (vs ∷ vss) fit = (vs, vss, refl)

module _ {W S : Type 0} (state : W → State ℕ S) (modules : S → Modules ℕ) (linked : S → ℕ → Bool) (begins : Importing ℕ S)
    (Ready : W → Type 0) (Keeps : W → W → Type 0) (owns : S → ℕ → List (List ℕ)) (lawful : IsLawful state modules linked begins Ready Keeps owns)
    (w : W) (s : Machine) (f : Frame) (n : ℕ) (h : Here) (ws : List Waiter) (texts : List (List ℕ)) where
  abbrev Next : Op → Type 0
  Next q = Comes state modules linked begins Ready Keeps owns w s f n h ws texts q

  abbrev Lead : Here → Here → Type 0
  Lead a b = LeadsTo state modules linked begins Ready Keeps owns w a w b

  abbrev Does : Result Turn Stop → Machine → Type 0
  Does result late = Turned state modules linked begins Ready Keeps owns w f h ws result w late

  abbrev Goes : ℕ → Machine → Type 0
  Goes left late = GoesOn state modules linked begins Ready Keeps owns w f h ws left w late

  abbrev Known : CodeValue → Type 0
  Known u = going.Known state modules linked begins Ready Keeps owns w u

  abbrev Tree : ℕ → List Item
  Tree = (modules_in state modules linked begins Ready Keeps w).tree

  abbrev Stands : Spot → List CodeValue → Type 0
  Stands t vs = At state modules linked begins Ready Keeps owns w s f (n + 1) h ws t vs

  abbrev Base : ℕ
  Base = length (names_under ws)

  rest_left : {q : Op} (c : Next q) → IsLeft Tree h.at h.function c.rest n
  rest_left c = literals.rest_left state modules linked begins Ready Keeps owns lawful w s f n h ws texts c

  -- it is at this place, where no operand is
  at_bare : {q : Op} (c : Next q) (t : Spot) → c.spot ≡ t → c.operands ≡ [] → Stands t []
  at_bare c t e none = changing.bare state modules linked begins Ready Keeps owns lawful w s f (n + 1) h ws t c.operands none (coming.at_spot state modules linked begins Ready Keeps owns w s f (n + 1) h ws c.spot t c.operands e c.at)

  -- ---- a block begins

  begins_block : (opening : Opening) (ss : Stmts) (l : Left) (rs : List Round) → Stands (Opens opening ss l rs) [] → (late : Machine) → late.operands.items ≡ s.operands.items → late.frames.items ≡ s.frames.items
      → late.names.items ≡ s.names.items ++ replicate (length (declared_in ss)) None → late.handlers.items ≡ s.handlers.items ++ handler_by Base (opened opening (declared_in ss) l) rs h.names
      → IsLeft Tree h.at h.function (left_row (left no_more ss) (opened opening (declared_in ss) l ∷ rs)) n → Goes n late
  begins_block opening ss l rs a late operands frames names handlers place =
      let ds = declared_in ss in
      let r = opened opening ds l in
      changing.goes_to state modules linked begins Ready Keeps owns lawful w s f (n + 1) h ws (Opens opening ss l rs) [] a n (Between (left no_more ss) (r ∷ rs)) (unset_of ds ∷ h.names) [] late
      (ap (λ (xs : List (Option Value)). names_on xs) names ∙ names_more s.names.items (replicate (length ds) None) ∙ ap (λ (xs : List (Option CodeValue)). xs ++ names_on (replicate (length ds) None)) a.stand.stands.below.names
      ∙ ap (λ (ys : List (Option CodeValue)). (names_under ws ++ flat h.names) ++ ys) (unset_names ds) ∙ append_assoc (names_under ws) (flat h.names) (unset_of ds))
      (handlers ∙ ap (λ (hs : List Handler). hs ++ handler_by Base r rs h.names) a.stand.stands.below.handlers ∙ append_assoc (handlers_under ws) (handlers_of Base rs h.names) (handler_by Base r rs h.names))
      frames (unset_many ds ∙ sym (ap (λ (d : List Declaration). length d) (opened_names opening ds l)), a.stand.stands.below.fit) (opened_of opening ds l rs a.stand.stands.below.rounds)
      (ap values_of operands ∙ a.stand.stands.operands) refl place
      (subst (λ (us : List Value). AllKnown Known (values_of us)) (sym operands) a.stand.fits.operands)
      (subst (λ (xs : List (Option Value)). AreNamesKnown Known xs) (sym names) (names_known_more Known s.names.items (replicate (length ds) None) a.stand.fits.names (unset_known Known (length ds))))
      (operating.opens modules begins h.at (state w) opening ss l rs h.names)

  pub enter : (count : ℕ) (c : Next (op.Enter count)) (late : Machine) → (late.operands.items ≡ s.operands.items) × (late.handlers.items ≡ s.handlers.items) × (late.frames.items ≡ s.frames.items) → (result : Result Turn Stop)
      → GoesTo n (late.names.items ≡ s.names.items ++ replicate count None) result → Does result late
  enter count c late same result p =
      let t = subst (λ o. Told o c.rest c.spot) c.told c.tells in
      let at = coming.at_spot state modules linked begins Ready Keeps owns w s f (n + 1) h ws c.spot (Opens t.0 t.1 t.2 t.3) c.operands t.6 c.at in
      changing.to_turns state modules linked begins Ready Keeps owns lawful w s f (n + 1) h ws n (late.names.items ≡ s.names.items ++ replicate count None) late
      (λ names. begins_block t.0 t.1 t.2 t.3 (at_bare c (Opens t.0 t.1 t.2 t.3) t.6 at.stand.stands.room) late same.0 same.2
      (names ∙ ap (λ (m : ℕ). s.names.items ++ replicate m None) (sym t.7))
      (same.1 ∙ sym (append-nil s.handlers.items) ∙ ap (λ (hs : List Handler). s.handlers.items ++ hs) (sym (no_handler t.1 t.2 t.3 t.0 t.4 t.5 Base (declared_in t.1) h.names)))
      (same_left c.rest (left_row (left no_more t.1) (opened t.0 (declared_in t.1) t.2 ∷ t.3)) (sym t.8) (rest_left c)))
      result p

  -- the block of a `try` begins, whose handler is this one
  handler_is : (caught : Option (List ℕ)) (handler : Stmts) (ss : Stmts) (l : Left) (rs : List Round) → Stands (Opens (Trying caught handler) ss l rs) [] → (target : ℕ) → length (handled_row caught handler (names_of rs) (left_row l rs)) ≡ target
      → handler_with target (length s.names.items) ∷ [] ≡ handler_by Base (Tried (declared_in ss) caught handler l) rs h.names
  handler_is caught handler ss l rs a target len =
      let many : length s.names.items ≡ Base + length (flat h.names) = sym (length-map s.names.items name_value) ∙ ap (λ (xs : List (Option CodeValue)). length xs) a.stand.stands.below.names ∙ joined (names_under ws) (flat h.names) in
      λ i. handler_with (sym len i) (many i) ∷ []

  pub enter_try : (count target : ℕ) (c : Next (op.Try count target)) (late : Machine) → (late.operands.items ≡ s.operands.items) × (late.frames.items ≡ s.frames.items) → (result : Result Turn Stop)
      → GoesTo n ((late.names.items ≡ s.names.items ++ replicate count None) × (late.handlers.items ≡ s.handlers.items ++ handler_with target (length s.names.items) ∷ [])) result → Does result late
  enter_try count target c late same result p =
      let t = subst (λ o. Told o c.rest c.spot) c.told c.tells in
      let at = coming.at_spot state modules linked begins Ready Keeps owns w s f (n + 1) h ws c.spot (Opens (Trying t.0 t.1) t.2 t.3 t.4) c.operands t.5 c.at in
      let a = at_bare c (Opens (Trying t.0 t.1) t.2 t.3 t.4) t.5 at.stand.stands.room in
      changing.to_turns state modules linked begins Ready Keeps owns lawful w s f (n + 1) h ws n ((late.names.items ≡ s.names.items ++ replicate count None) × (late.handlers.items ≡ s.handlers.items ++ handler_with target (length s.names.items) ∷ [])) late
      (λ both. begins_block (Trying t.0 t.1) t.2 t.3 t.4 a late same.0 same.1
      (both.0 ∙ ap (λ (m : ℕ). s.names.items ++ replicate m None) (sym t.6))
      (both.1 ∙ ap (λ (hs : List Handler). s.handlers.items ++ hs) (handler_is t.0 t.1 t.2 t.3 t.4 a target t.7))
      (same_left c.rest (left_row (left no_more t.2) (Tried (declared_in t.2) t.0 t.1 t.3 ∷ t.4)) (sym t.8) (rest_left c)))
      result p

  -- ---- a block ends

  abbrev AtEnd : Round → List Round → Spot
  AtEnd r rs = Between (left no_more nothing) (r ∷ rs)

  -- what is left of the handlers, and where what remains leads
  abbrev HandlersLeft : Round → List Round → Machine → Type 0
  HandlersLeft r rs late = (others : Values) → s.handlers.items ≡ handlers_under ws ++ (handlers_of Base rs others ++ handler_by Base r rs others) → late.handlers.items ≡ handlers_under ws ++ handlers_of Base rs others

  abbrev LeadsOut : Round → List Round → Left → Type 0
  LeadsOut r rs l = (vs : List (Option CodeValue)) (others : Values) → Lead (moved h (AtEnd r rs) (vs ∷ others) []) (moved h (Between l rs) others [])

  ends_by : (r : Round) (rs : List Round) (l : Left) → Stands (AtEnd r rs) [] → (vs : List (Option CodeValue)) (others : Values) → h.names ≡ vs ∷ others → (late : Machine) → late.operands.items ≡ s.operands.items → late.frames.items ≡ s.frames.items
      → late.names.items ≡ take (length s.names.items - length (round_names r)) s.names.items → HandlersLeft r rs late → AreOfFunction rs → (target : ℕ) → IsLeft Tree h.at h.function (left_row l rs) target → LeadsOut r rs l → Goes target late
  ends_by r rs l a vs others e late operands frames names handlers of target place leads =
      let fit : (length vs ≡ length (round_names r)) × FitNames (names_of rs) others = subst (λ (vss : Values). FitNames (names_of (r ∷ rs)) vss) e a.stand.stands.below.fit in
      let all : names_on s.names.items ≡ (names_under ws ++ flat others) ++ vs = a.stand.stands.below.names ∙ ap (λ (vss : Values). names_under ws ++ flat vss) e ∙ sym (append_assoc (names_under ws) (flat others) vs) in
      let many : length s.names.items ≡ length (names_under ws ++ flat others) + length vs = sym (length-map s.names.items name_value) ∙ ap (λ (xs : List (Option CodeValue)). length xs) all ∙ joined (names_under ws ++ flat others) vs in
      let kept : length s.names.items - length (round_names r) ≡ length (names_under ws ++ flat others) = front_many (length (names_under ws ++ flat others)) (length vs) (length s.names.items) (length (round_names r)) many (sym fit.0) in
      changing.goes_to state modules linked begins Ready Keeps owns lawful w s f (n + 1) h ws (AtEnd r rs) [] a target (Between l rs) others [] late
      (ap (λ (xs : List (Option Value)). names_on xs) names ∙ ap (λ (m : ℕ). names_on (take m s.names.items)) kept ∙ front_names s.names.items (names_under ws ++ flat others) vs all)
      (handlers others (a.stand.stands.below.handlers ∙ ap (λ (vss : Values). handlers_under ws ++ handlers_of Base (r ∷ rs) vss) e))
      frames fit.1 of (ap values_of operands ∙ a.stand.stands.operands) refl place
      (subst (λ (us : List Value). AllKnown Known (values_of us)) (sym operands) a.stand.fits.operands)
      (subst (λ (xs : List (Option Value)). AreNamesKnown Known xs) (sym names) (names_taken Known (length s.names.items - length (round_names r)) s.names.items a.stand.fits.names))
      (subst (λ (vss : Values). Lead (moved h (AtEnd r rs) vss []) (moved h (Between l rs) others [])) (sym e) (leads vs others))

  ends_block : (r : Round) (rs : List Round) (l : Left) → Stands (AtEnd r rs) [] → (late : Machine) → late.operands.items ≡ s.operands.items → late.frames.items ≡ s.frames.items
      → late.names.items ≡ take (length s.names.items - length (round_names r)) s.names.items → HandlersLeft r rs late → AreOfFunction rs → (target : ℕ) → IsLeft Tree h.at h.function (left_row l rs) target → LeadsOut r rs l → Goes target late
  ends_block r rs l a late operands frames names handlers of target place leads =
      let parts = split r rs h.names a.stand.stands.below.fit in
      ends_by r rs l a parts.0 parts.1 parts.2 late operands frames names handlers of target place leads

  -- its names were so many
  so_many : (count many : ℕ) (late : Machine) → many ≡ count → late.names.items ≡ take (length s.names.items - count) s.names.items → late.names.items ≡ take (length s.names.items - many) s.names.items
  so_many count many late e names = names ∙ ap (λ (m : ℕ). take (length s.names.items - m) s.names.items) (sym e)

  -- no handler was its own
  none_own : (rs : List Round) (late : Machine) → late.handlers.items ≡ s.handlers.items → (others : Values) → s.handlers.items ≡ handlers_under ws ++ (handlers_of Base rs others ++ []) → late.handlers.items ≡ handlers_under ws ++ handlers_of Base rs others
  none_own rs late same others e = same ∙ e ∙ ap (λ (hs : List Handler). handlers_under ws ++ hs) (append-nil (handlers_of Base rs others))

  leaves : (count target : ℕ) (late : Machine) → (late.operands.items ≡ s.operands.items) × (late.handlers.items ≡ s.handlers.items) × (late.frames.items ≡ s.frames.items) → (ds : List Declaration) (l : Left) (rs : List Round) (t : Spot) (c : Row)
      → LeavesAt ds l rs t c → Stands t [] → IsLeft Tree h.at h.function (left_row l rs) target → length ds ≡ count → late.names.items ≡ take (length s.names.items - count) s.names.items → Goes target late
  leaves count target late same ds l rs _ _ of_block a place many names =
      ends_block (Inner ds l) rs l a late same.0 same.2 (so_many count (length ds) late many names) (none_own rs late same.1) a.stand.stands.below.rounds target place
      (λ vs others. operating.leaves modules begins h.at (state w) ds l rs vs others)
  leaves count target late same ds l rs _ _ (of_first others) a place many names =
      ends_block (First ds others l) rs l a late same.0 same.2 (so_many count (length ds) late many names) (none_own rs late same.1) a.stand.stands.below.rounds target place
      (λ vs vss. operating.leaves_first modules begins h.at (state w) ds others l rs vs vss)

  -- at the end of a block there is no operand
  none_at_end : (ds : List Declaration) (l : Left) (rs : List Round) (t : Spot) (c : Row) → LeavesAt ds l rs t c → (vs : List CodeValue) → Stands t vs → vs ≡ []
  none_at_end ds l rs _ _ of_block vs a = a.stand.stands.room
  none_at_end ds l rs _ _ (of_first others) vs a = a.stand.stands.room

  pub leave : (count target : ℕ) (c : Next (op.Leave count target)) (late : Machine) → (late.operands.items ≡ s.operands.items) × (late.handlers.items ≡ s.handlers.items) × (late.frames.items ≡ s.frames.items) → (result : Result Turn Stop)
      → GoesTo target (late.names.items ≡ take (length s.names.items - count) s.names.items) result → Does result late
  leave count target c late same result p =
      let t = subst (λ o. Told o c.rest c.spot) c.told c.tells in
      changing.to_turns state modules linked begins Ready Keeps owns lawful w s f (n + 1) h ws target (late.names.items ≡ take (length s.names.items - count) s.names.items) late
      (λ names. leaves count target late same t.0 t.1 t.2 c.spot c.rest t.3 (at_bare c c.spot refl (none_at_end t.0 t.1 t.2 c.spot c.rest t.3 c.operands c.at))
      (left_part (ending.leave t.0 t.1 t.2 c.spot c.rest t.3) (rest_left c) target (sym t.5)) t.4 names)
      result p

  -- its handler was on top
  last_own : (ds : List Declaration) (caught : Option (List ℕ)) (handler : Stmts) (l : Left) (rs : List Round) (late : Machine) → WithoutLast s.handlers.items late.handlers.items → HandlersLeft (Tried ds caught handler l) rs late
  last_own ds caught handler l rs late last others e =
      (snoc_same late.handlers.items (handlers_under ws ++ handlers_of Base rs others) last.0 (handler_with (length (handled_row caught handler (names_of rs) (left_row l rs))) (Base + length (flat others)))
      (sym last.1 ∙ e ∙ sym (append_assoc (handlers_under ws) (handlers_of Base rs others) (handler_with (length (handled_row caught handler (names_of rs) (left_row l rs))) (Base + length (flat others)) ∷ [])))).0

  pub leave_try : (count target : ℕ) (c : Next (op.EndTry count target)) (late : Machine) → (late.operands.items ≡ s.operands.items) × (late.frames.items ≡ s.frames.items) → (result : Result Turn Stop)
      → GoesTo target ((late.names.items ≡ take (length s.names.items - count) s.names.items) × WithoutLast s.handlers.items late.handlers.items) result → Does result late
  leave_try count target c late same result p =
      let t = subst (λ o. Told o c.rest c.spot) c.told c.tells in
      let at = coming.at_spot state modules linked begins Ready Keeps owns w s f (n + 1) h ws c.spot (AtEnd (Tried t.0 t.1 t.2 t.3) t.4) c.operands t.5 c.at in
      let a = at_bare c (AtEnd (Tried t.0 t.1 t.2 t.3) t.4) t.5 at.stand.stands.room in
      changing.to_turns state modules linked begins Ready Keeps owns lawful w s f (n + 1) h ws target ((late.names.items ≡ take (length s.names.items - count) s.names.items) × WithoutLast s.handlers.items late.handlers.items) late
      (λ both. ends_block (Tried t.0 t.1 t.2 t.3) t.4 t.3 a late same.0 same.1 (so_many count (length t.0) late t.6 both.0) (last_own t.0 t.1 t.2 t.3 t.4 late both.1) a.stand.stands.below.rounds target
      (left_part (ending.handled_ends t.1 t.2 (names_of t.4) (left_row t.3 t.4)) (same_left c.rest (handled_row t.1 t.2 (names_of t.4) (left_row t.3 t.4)) (sym t.8) (rest_left c)) target (sym t.7))
      (λ vs others. operating.leaves_tried modules begins h.at (state w) t.0 t.1 t.2 t.3 t.4 vs others))
      result p
