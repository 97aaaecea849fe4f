-- What declarations and assignments do with the names of a function.
use Rattle.std.proofs.Common.{◌≡◌, ℕ, zero, suc, nat_eq, Bool, true, false, List, [], ◌∷◌, ◌++◌, length, Option, Some, None, refl, ap, subst, sym, ◌∙◌, arith}
use Rattle.std.specs.Prelude.{slice_get, slice_set, if◌then◌else◌}
use Rattle.std.specs.Option.{option_or}
use Rattle.std.specs.Str.{bytes_eq}
use Rattle.esm_env.specs.Cells.{Cell}
use Rattle.esm_env.specs.Declarations.{Declaration}
use Rattle.esm_env.specs.Modules.{Modules}
use Rattle.esm_values.specs.Value.{Value}
use Rattle.esm_values.specs.Operators.{values}
use Rattle.esm_values.specs.declared.errors.FaultKind.TheVariants as kinds
use Rattle.esm_values.specs.Plans.Rewritten.{Goes}
use Rattle.esm_expr_eval.specs.Terms.Term.{Val}
use Rattle.esm_rewriting.specs.Scopes.{Scope, named_cell, in_scope, set_in, set_where, set_in_scopes}
use Rattle.esm_rewriting.specs.Scopes.{set_by as scope_set_by}
use Rattle.esm_rewriting.specs.Rest.{Use as purposes}
use Rattle.esm_rewriting.specs.Rest.{Rest, more}
use Rattle.esm_rewriting.specs.Rest.Part.{Does}
use Rattle.esm_rewriting.specs.State.{State, Importing}
use Rattle.esm_rewriting.specs.Acts.{Inner as OverScopes, write_in, not_initialized, is_constant}
use Rattle.esm_rewriting.specs.BodyRewriting.{On, RewritesBody, wrote}
use Rattle.esm_rewriting.specs.BodyRewriting.{RewritesBody as rule}
use Rattle.esm_rewriting.specs.Segment.{Segment}
use Rattle.esm_rewriting.specs.Contexts.{scope_in, scopes_in, surrounded, rescoped, retaken}
use Rattle.esm_rewriting.proofs.Moved as moved
use Rattle.esm_rows.specs.Rows.{many_names, Found, found_at, found_among, found_in, found_here}
use Rattle.esm_row_laws.specs.Spots.{Left, Round, Own, Inner, First, Tried, round_names, names_of}
use Rattle.esm_row_laws.specs.Remaining.{left_rest, scope_by, context, contexts}
use Rattle.esm_row_laws.specs.Leading.{Leads}
use Rattle.esm_row_laws.specs.Places.{flat, FitNames, cell_with}
use Rattle.esm_row_laws.specs.Operations.{Values}
use Rattle.esm_row_laws.specs.Landings.{over_names, remains}
use Rattle.esm_row_laws.specs.Setting.{set_first, set_by, set_found, set_here, WriteThrows}
use Rattle.esm_row_laws.proofs.Placing as placing

-- ---- scopes that changed

module _ (r : Round) where
  taken_again : (s t : Scope (Value ℕ)) → rescoped (context (values nat_eq) r s) (scope_in (context (values nat_eq) r t)) ≡ context (values nat_eq) r t
  taken_again s t = by r where
    by : (r : Round) → rescoped (context (values nat_eq) r s) (scope_in (context (values nat_eq) r t)) ≡ context (values nat_eq) r t
    by (Own ds) = refl
    by (Inner ds l) = refl
    by (First ds others l) = refl
    by (Tried ds caught handler l) = refl

all_again : (rs : List Round) (vss wss : Values) → retaken (contexts (values nat_eq) rs vss) (scopes_in (contexts (values nat_eq) rs wss)) ≡ contexts (values nat_eq) rs wss
all_again [] vss wss = refl
all_again (r ∷ rs) [] [] = λ i. taken_again r (scope_by (values nat_eq) (round_names r) []) (scope_by (values nat_eq) (round_names r) []) i ∷ all_again rs [] [] i
all_again (r ∷ rs) [] (ws ∷ wss) = λ i. taken_again r (scope_by (values nat_eq) (round_names r) []) (scope_by (values nat_eq) (round_names r) ws) i ∷ all_again rs [] wss i
all_again (r ∷ rs) (vs ∷ vss) [] = λ i. taken_again r (scope_by (values nat_eq) (round_names r) vs) (scope_by (values nat_eq) (round_names r) []) i ∷ all_again rs vss [] i
all_again (r ∷ rs) (vs ∷ vss) (ws ∷ wss) = λ i. taken_again r (scope_by (values nat_eq) (round_names r) vs) (scope_by (values nat_eq) (round_names r) ws) i ∷ all_again rs vss wss i

as_many : (rs : List Round) (vss wss : Values) → length (scopes_in (contexts (values nat_eq) rs wss)) ≡ length (contexts (values nat_eq) rs vss)
as_many [] vss wss = refl
as_many (r ∷ rs) [] [] = ap suc (as_many rs [] [])
as_many (r ∷ rs) [] (ws ∷ wss) = ap suc (as_many rs [] wss)
as_many (r ∷ rs) (vs ∷ vss) [] = ap suc (as_many rs vss [])
as_many (r ∷ rs) (vs ∷ vss) (ws ∷ wss) = ap suc (as_many rs vss wss)

module _ {S : Type 0} (modules : S → Modules ℕ) (begins : Importing ℕ S) (m : ℕ) where
  -- a rewriting of the innermost block that changes the values of names
  pub renamed : (rs : List Round) (vss wss : Values) (w late : State ℕ S) (r s : Rest (Value ℕ)) → RewritesBody nat_eq modules begins m (over_names modules begins rs vss w) r (On (Goes s)) (over_names modules begins rs wss late) → Leads nat_eq modules begins m w (remains modules begins rs vss r) late (remains modules begins rs wss s)
  renamed rs vss wss w late r s h callers how after seg =
      Segment.goes (On (Goes (surrounded (retaken (contexts (values nat_eq) rs vss) (scopes_in (contexts (values nat_eq) rs wss))) s)))
      (moved.goes nat_eq modules begins m (contexts (values nat_eq) rs vss) (scopes_in (contexts (values nat_eq) rs wss)) w late r s (as_many rs vss wss) h) refl
      (subst (λ cs. Segment nat_eq modules begins late m (surrounded cs s) callers how after) (sym (all_again rs vss wss)) seg)

-- ---- in one block

module _ (x : List ℕ) (v : Value ℕ) where
  set_cell : (b : Bool) (d : Declaration) (u : Option (Value ℕ)) (rest rest' : List (Option (Value ℕ))) (ds : List Declaration) (later : Scope (Value ℕ)) → scope_by (values nat_eq) ds rest' ≡ later → scope_by (values nat_eq) (d ∷ ds) (if b then Some v ∷ rest else u ∷ rest') ≡ scope_set_by b (named_cell d.name d.constant u) v (scope_by (values nat_eq) ds rest) later
  set_cell true d u rest rest' ds later e = refl
  set_cell false d u rest rest' ds later e = ap (λ s. named_cell d.name d.constant u ∷ s) e

  scope_set : (ds : List Declaration) (vs : List (Option (Value ℕ))) → length vs ≡ length ds → scope_by (values nat_eq) ds (set_first ds x v vs) ≡ set_in (scope_by (values nat_eq) ds vs) x v
  scope_set [] vs h = refl
  scope_set (d ∷ ds) [] h = absurd (omega (arith, h))
  scope_set (d ∷ ds) (u ∷ vs) h = set_cell (bytes_eq d.name x) d u vs (set_first ds x v vs) ds _ (scope_set ds vs (omega (arith, h)))

  -- ---- one after another

  set_behind : {A : Type 0} (before : List A) (u a : A) (vs : List A) → slice_set (before ++ u ∷ vs) (length before) a ≡ before ++ a ∷ vs
  set_behind [] u a vs = refl
  set_behind (b ∷ before) u a vs = ap (λ q. b ∷ q) (set_behind before u a vs)

  set_at_first : (b : Bool) (before : List (Option (Value ℕ))) (d : Declaration) (u : Option (Value ℕ)) (vs vs' : List (Option (Value ℕ))) (later : Option Found) (f : Found) → (if b then Some (found_at (length before) d.constant) else later) ≡ Some f → (later ≡ Some f → before ++ u ∷ vs' ≡ slice_set (before ++ u ∷ vs) f.place (Some v)) → before ++ (if b then Some v ∷ vs else u ∷ vs') ≡ slice_set (before ++ u ∷ vs) f.place (Some v)
  set_at_first true before d u vs vs' later f e others =
      subst (λ g. before ++ Some v ∷ vs ≡ slice_set (before ++ u ∷ vs) g.place (Some v)) (placing.some_same (found_at (length before) d.constant) f e) (sym (set_behind before u (Some v) vs))
  set_at_first false before d u vs vs' later f e others = others e

  set_place : (before : List (Option (Value ℕ))) (ds : List Declaration) (vs : List (Option (Value ℕ))) (f : Found) → length vs ≡ length ds → found_among (length before) ds x ≡ Some f → before ++ set_first ds x v vs ≡ slice_set (before ++ vs) f.place (Some v)
  set_place before [] vs f h e = absurd (placing.apart f e)
  set_place before (d ∷ ds) [] f h e = absurd (omega (arith, h))
  set_place before (d ∷ ds) (u ∷ vs) f h e =
      set_at_first (bytes_eq d.name x) before d u vs (set_first ds x v vs) (found_among (suc (length before)) ds x) f e
      (λ l. let it = set_place (before ++ u ∷ []) ds vs f (omega (arith, h)) (subst (λ n. found_among n ds x ≡ Some f) (sym (placing.longer before u)) l) in sym (placing.shifted before (set_first ds x v vs) u) ∙ it ∙ ap (λ q. slice_set q f.place (Some v)) (placing.shifted before vs u))

  -- before others
  kept_set : {A : Type 0} (xs ys : List A) (n : ℕ) (y a : A) → slice_get xs n ≡ Some y → slice_set xs n a ++ ys ≡ slice_set (xs ++ ys) n a
  kept_set {A = A} [] ys n y a e = absurd (apart e) where
    apart : ◌≡◌ {A = Option A} None (Some y) → ⊥
    apart e = cc
  kept_set (b ∷ xs) ys zero y a e = refl
  kept_set (b ∷ xs) ys (suc n) y a e = ap (λ q. b ∷ q) (kept_set xs ys n y a e)

  -- ---- in all of them

  pub here_place : (rs : List Round) (vss : Values) (f : Found) → FitNames (names_of rs) vss → found_here (names_of rs) x ≡ Some f → flat (set_here (names_of rs) x v vss) ≡ slice_set (flat vss) f.place (Some v)
  here_place [] vss f h e = absurd (placing.apart f e)
  here_place (r ∷ rs) [] f h e = absurd h
  here_place (r ∷ rs) (vs ∷ vss) f h e = set_place (flat vss) (round_names r) vs f h.0 (subst (λ n. found_among n (round_names r) x ≡ Some f) (sym (placing.many (values nat_eq) x (names_of rs) vss h.1)) e)

  place_by : (here : Option Found) (r : Round) (rs : List Round) (vs : List (Option (Value ℕ))) (vss : Values) (f : Found) → FitNames (names_of (r ∷ rs)) (vs ∷ vss) → found_among (many_names (names_of rs)) (round_names r) x ≡ here → option_or here (found_in (names_of rs) x) ≡ Some f → (found_in (names_of rs) x ≡ Some f → flat (set_found (names_of rs) x v vss) ≡ slice_set (flat vss) f.place (Some v)) → flat (set_by here (set_first (round_names r) x v vs) vs vss (set_found (names_of rs) x v vss)) ≡ slice_set (flat (vs ∷ vss)) f.place (Some v)
  place_by (Some g) r rs vs vss f h e o outside =
      let same = placing.some_same g f o in
      subst (λ q. flat vss ++ set_first (round_names r) x v vs ≡ slice_set (flat vss ++ vs) q.place (Some v)) same (set_place (flat vss) (round_names r) vs g h.0 (subst (λ n. found_among n (round_names r) x ≡ Some g) (sym (placing.many (values nat_eq) x (names_of rs) vss h.1)) e))
  place_by None r rs vs vss f h e o outside =
      let it = placing.found (values nat_eq) x rs vss f h.1 o in
      ap (λ q. q ++ vs) (outside o) ∙ kept_set (flat vss) vs f.place it.0 (Some v) it.1

  pub found_place : (rs : List Round) (vss : Values) (f : Found) → FitNames (names_of rs) vss → found_in (names_of rs) x ≡ Some f → flat (set_found (names_of rs) x v vss) ≡ slice_set (flat vss) f.place (Some v)
  found_place [] vss f h e = absurd (placing.apart f e)
  found_place (r ∷ rs) [] f h e = absurd h
  found_place (r ∷ rs) (vs ∷ vss) f h e = place_by (found_among (many_names (names_of rs)) (round_names r) x) r rs vs vss f h refl e (λ o. found_place rs vss f h.1 o)

  -- ---- the scopes

  abbrev scopes_of : List Round → Values → List (Scope (Value ℕ))
  scopes_of rs vss = scopes_in (contexts (values nat_eq) rs vss)

  innermost_set : (r : Round) (rs : List Round) (vs : List (Option (Value ℕ))) (vss : Values) → length vs ≡ length (round_names r) → set_in (scope_in (context (values nat_eq) r (scope_by (values nat_eq) (round_names r) vs))) x v ∷ scopes_of rs vss ≡ scopes_of (r ∷ rs) (set_first (round_names r) x v vs ∷ vss)
  innermost_set r rs vs vss h =
      ap (λ s. set_in s x v ∷ scopes_of rs vss) (placing.scope_of_round (values nat_eq) x r (scope_by (values nat_eq) (round_names r) vs)) ∙ ap (λ s. s ∷ scopes_of rs vss) (sym (scope_set (round_names r) vs h) ∙ sym (placing.scope_of_round (values nat_eq) x r (scope_by (values nat_eq) (round_names r) (set_first (round_names r) x v vs))))

  abbrev cell_here : Round → List (Option (Value ℕ)) → Option (Cell (Value ℕ))
  cell_here r vs = in_scope (scope_in (context (values nat_eq) r (scope_by (values nat_eq) (round_names r) vs))) x

  -- what in_scope finds, the place tells
  cell_some : (r : Round) (rs : List Round) (vs : List (Option (Value ℕ))) (vss : Values) (g : Found) → FitNames (names_of (r ∷ rs)) (vs ∷ vss) → found_among (many_names (names_of rs)) (round_names r) x ≡ Some g → (c : Cell (Value ℕ)) × (cell_here r vs ≡ Some c)
  cell_some r rs vs vss g h e =
      let it = placing.among (values nat_eq) x (flat vss) (round_names r) vs g h.0 (subst (λ n. found_among n (round_names r) x ≡ Some g) (sym (placing.many (values nat_eq) x (names_of rs) vss h.1)) e) in
      (cell_with g.constant it.0, ap (λ s. in_scope s x) (placing.scope_of_round (values nat_eq) x r (scope_by (values nat_eq) (round_names r) vs)) ∙ it.2)

  cell_none : (r : Round) (rs : List Round) (vs : List (Option (Value ℕ))) → length vs ≡ length (round_names r) → found_among (many_names (names_of rs)) (round_names r) x ≡ None → cell_here r vs ≡ None
  cell_none r rs vs h e = ap (λ s. in_scope s x) (placing.scope_of_round (values nat_eq) x r (scope_by (values nat_eq) (round_names r) vs)) ∙ placing.not_among (values nat_eq) x (many_names (names_of rs)) (round_names r) vs h e

  set_all_by : (here : Option Found) (r : Round) (rs : List Round) (vs : List (Option (Value ℕ))) (vss : Values) → FitNames (names_of (r ∷ rs)) (vs ∷ vss) → found_among (many_names (names_of rs)) (round_names r) x ≡ here → set_in_scopes (scopes_of rs vss) x v ≡ scopes_of rs (set_found (names_of rs) x v vss) → set_in_scopes (scopes_of (r ∷ rs) (vs ∷ vss)) x v ≡ scopes_of (r ∷ rs) (set_by here (set_first (round_names r) x v vs) vs vss (set_found (names_of rs) x v vss))
  set_all_by (Some g) r rs vs vss h e later =
      let it = cell_some r rs vs vss g h e in
      ap (λ c. set_where c (scope_in (context (values nat_eq) r (scope_by (values nat_eq) (round_names r) vs))) (scopes_of rs vss) x v (set_in_scopes (scopes_of rs vss) x v)) it.1 ∙ innermost_set r rs vs vss h.0
  set_all_by None r rs vs vss h e later =
      ap (λ c. set_where c (scope_in (context (values nat_eq) r (scope_by (values nat_eq) (round_names r) vs))) (scopes_of rs vss) x v (set_in_scopes (scopes_of rs vss) x v)) (cell_none r rs vs h.0 e) ∙ ap (λ q. scope_in (context (values nat_eq) r (scope_by (values nat_eq) (round_names r) vs)) ∷ q) later

  set_all : (rs : List Round) (vss : Values) → FitNames (names_of rs) vss → set_in_scopes (scopes_of rs vss) x v ≡ scopes_of rs (set_found (names_of rs) x v vss)
  set_all [] [] h = refl
  set_all [] (vs ∷ vss) h = absurd h
  set_all (r ∷ rs) [] h = absurd h
  set_all (r ∷ rs) (vs ∷ vss) h = set_all_by (found_among (many_names (names_of rs)) (round_names r) x) r rs vs vss h refl (set_all rs vss h.1)

-- ---- declarations and assignments

module _ {S : Type 0} (modules : S → Modules ℕ) (begins : Importing ℕ S) (m : ℕ) (l : Left) (w : State ℕ S) (name : List ℕ) (v : Value ℕ) where
  abbrev over : List Round → Values → OverScopes ℕ S
  over rs vss = over_names modules begins rs vss w

  abbrev behind : Rest (Value ℕ)
  behind = left_rest (values nat_eq) l

  pub sets : (rs : List Round) (vss : Values) (f : Found) → FitNames (names_of rs) vss → found_here (names_of rs) name ≡ Some f → Leads nat_eq modules begins m w (remains modules begins rs vss (more (Does (purposes.Sets name) (Val v)) behind)) w (remains modules begins rs (set_here (names_of rs) name v vss) behind)
  sets [] vss f h e = absurd (placing.apart f e)
  sets (r ∷ rs) [] f h e = absurd h
  sets (r ∷ rs) (vs ∷ vss) f h e =
      renamed modules begins m (r ∷ rs) (vs ∷ vss) (set_first (round_names r) name v vs ∷ vss) w w (more (Does (purposes.Sets name) (Val v)) behind) behind
      (subst (λ ss. RewritesBody nat_eq modules begins m (over (r ∷ rs) (vs ∷ vss)) (more (Does (purposes.Sets name) (Val v)) behind) (On (Goes behind)) (record { scopes = ss; state = w })) (innermost_set name v r rs vs vss h.0) rule.sets)

  -- what a write comes to, where this is the cell
  abbrev Written : List Round → Values → Option (Value ℕ) × OverScopes ℕ S → Type 0
  Written rs vss told = RewritesBody nat_eq modules begins m (over rs vss) (more (Does (purposes.Writes name) (Val v)) behind) (wrote behind told.0) told.1

  written : (rs : List Round) (vss : Values) (place : ℕ) (constant : Bool) (u : Option (Value ℕ)) → FitNames (names_of rs) vss → found_in (names_of rs) name ≡ Some (found_at place constant) → slice_get (flat vss) place ≡ Some u → Written rs vss (write_in nat_eq modules begins m (over rs vss) name v (Some (cell_with constant u)))
  written rs vss place constant u h e at =
      let it = placing.found (values nat_eq) name rs vss (found_at place constant) h e in
      let same = placing.some_same it.0 u (sym it.1 ∙ at) in
      subst (λ c. Written rs vss (write_in nat_eq modules begins m (over rs vss) name v c)) (it.2 ∙ ap (λ q. Some (cell_with constant q)) same) rule.writes

  pub writes : (rs : List Round) (vss : Values) (old : Value ℕ) (place : ℕ) → FitNames (names_of rs) vss → found_in (names_of rs) name ≡ Some (found_at place false) → slice_get (flat vss) place ≡ Some (Some old) → Leads nat_eq modules begins m w (remains modules begins rs vss (more (Does (purposes.Writes name) (Val v)) behind)) w (remains modules begins rs (set_found (names_of rs) name v vss) behind)
  writes rs vss old place h e at =
      renamed modules begins m rs vss (set_found (names_of rs) name v vss) w w (more (Does (purposes.Writes name) (Val v)) behind) behind
      (subst (λ ss. RewritesBody nat_eq modules begins m (over rs vss) (more (Does (purposes.Writes name) (Val v)) behind) (On (Goes behind)) (record { scopes = ss; state = w })) (set_all name v rs vss h) (written rs vss place false (Some old) h e at))

  pub unset : (rs : List Round) (vss : Values) (place : ℕ) (constant : Bool) → FitNames (names_of rs) vss → found_in (names_of rs) name ≡ Some (found_at place constant) → slice_get (flat vss) place ≡ Some None → WriteThrows modules begins m l rs vss w name v kinds.ReferenceError (not_initialized name)
  unset rs vss place constant h e at = written rs vss place constant None h e at

  pub constant : (rs : List Round) (vss : Values) (old : Value ℕ) (place : ℕ) → FitNames (names_of rs) vss → found_in (names_of rs) name ≡ Some (found_at place true) → slice_get (flat vss) place ≡ Some (Some old) → WriteThrows modules begins m l rs vss w name v kinds.TypeError (is_constant name)
  constant rs vss old place h e at = written rs vss place true (Some old) h e at
