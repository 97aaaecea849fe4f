-- A function that has begun: what its stacks stand for, and what remains of it.
use Rattle.std.proofs.Common.{◌≡◌, ℕ, zero, suc, ◌+◌, Bool, false, List, [], ◌∷◌, ◌++◌, length, map, Option, Some, None, refl, ap, sym, subst, ◌∙◌, arith}
use Rattle.std.proofs.lemmas.List.{append-nil, length-map, length-replicate}
use Rattle.std.specs.Prelude.{replicate}
use Rattle.esm_tree.specs.Syntax.{Item}
use Rattle.esm_env.specs.Declarations.{Declaration, FunctionCode, declared_in}
use Rattle.esm_env.specs.Modules.{Modules, function_of}
use Rattle.esm_values.specs.Value.{Undefined}
use Rattle.esm_values.specs.Code.{CodeValue, value_of, values_of, numbered}
use Rattle.esm_values.specs.declared.value.FuncId.{FuncId}
use Rattle.esm_values.specs.declared.value.Value.{Value}
use Rattle.esm_rewriting.specs.Scopes.{Scope, named_cell, unset, parameters, call_scope}
use Rattle.esm_rewriting.specs.Rest.{end, more, whole}
use Rattle.esm_rewriting.specs.Rest.Part.{In}
use Rattle.esm_rewriting.specs.State.{State, Importing}
use Rattle.esm_rows.specs.Rows.{parameter, call_names, function_row}
use Rattle.esm_rows.specs.Functions.{IsRow}
use Rattle.esm_rows.specs.declared.row.Row.{Row}
use Rattle.esm_row_laws.specs.Spots.{start}
use Rattle.esm_row_laws.specs.Remaining.{scope_by}
use Rattle.esm_row_laws.proofs.Ending.{itself}
use Rattle.esm_row_machine.specs.Functions.{Here, Waiter, what_remains}
use Rattle.esm_row_machine.specs.Stacks.{AreFrames, StandsFor, names_on, name_value, names_under, operands_under, handlers_under}
use Rattle.esm_row_machine.specs.Outside.{AllKnown, KnownIfSome, modules_in, owns_in}
use Rattle.esm_row_machine.specs.Entering.{passed, EntersAs}
use Rattle.esm_row_machine.specs.Turns.{AreNamesKnown, AreLinkedAll, Linked, Known, Fits, Stands}
use Rattle.esm_row_machine.specs.declared.machine.Frame.{Frame}
use Rattle.esm_row_machine.specs.declared.machine.Machine.{Machine}
use Rattle.esm_row_machine.proofs.Told.{joined, same_length}

-- ---- the scope of a call

unset_scope : (ds : List Declaration) → scope_by numbered ds (replicate (length ds) None) ≡ map unset ds
unset_scope [] = refl
unset_scope (d ∷ ds) = ap (λ (sc : Scope CodeValue). unset d ∷ sc) (unset_scope ds)

scope_called : (xs : List (List ℕ)) (ds : List Declaration) (vs : List CodeValue) → scope_by numbered (map parameter xs ++ ds) (passed (length xs) vs ++ replicate (length ds) None) ≡ parameters Undefined xs vs ++ map unset ds
scope_called [] ds vs = unset_scope ds
scope_called (x ∷ xs) ds [] = ap (λ (sc : Scope CodeValue). named_cell x false (Some Undefined) ∷ sc) (scope_called xs ds [])
scope_called (x ∷ xs) ds (v ∷ vs) = ap (λ (sc : Scope CodeValue). named_cell x false (Some v) ∷ sc) (scope_called xs ds vs)

passed_long : (n : ℕ) (vs : List CodeValue) → length (passed n vs) ≡ n
passed_long zero vs = refl
passed_long (suc n) [] = ap suc (passed_long n [])
passed_long (suc n) (v ∷ vs) = ap suc (passed_long n vs)

-- no value
abbrev no_value : Option CodeValue
no_value = None

-- ---- known values of names

abbrev AllNames : (CodeValue → Type 0) → List (Option CodeValue) → Type 0
AllNames K [] = Unit {0}
AllNames K (v ∷ vs) = KnownIfSome K v × AllNames K vs

to_names : (K : CodeValue → Type 0) (ns : List (Option Value)) → AreNamesKnown K ns → AllNames K (names_on ns)
to_names K [] h = tt
to_names K (n ∷ ns) h = (h.0, to_names K ns h.1)

from_names : (K : CodeValue → Type 0) (ns : List (Option Value)) → AllNames K (names_on ns) → AreNamesKnown K ns
from_names K [] h = tt
from_names K (n ∷ ns) h = (h.0, from_names K ns h.1)

names_more : (K : CodeValue → Type 0) (us vs : List (Option CodeValue)) → AllNames K us → AllNames K vs → AllNames K (us ++ vs)
names_more K [] vs h k = k
names_more K (u ∷ us) vs h k = (h.0, names_more K us vs h.1 k)

names_unset : (K : CodeValue → Type 0) (n : ℕ) → AllNames K (replicate n None)
names_unset K zero = tt
names_unset K (suc n) = (tt, names_unset K n)

names_passed : (K : CodeValue → Type 0) → K Undefined → (n : ℕ) (vs : List CodeValue) → AllKnown K vs → AllNames K (passed n vs)
names_passed K u zero vs h = tt
names_passed K u (suc n) [] h = (u, names_passed K u n [] tt)
names_passed K u (suc n) (v ∷ vs) h = (h.0, names_passed K u n vs h.1)

pub known_split : (K : CodeValue → Type 0) (xs us : List Value) (v : Value) (vs : List Value) → xs ≡ us ++ v ∷ vs → AllKnown K (values_of xs) → AllKnown K (values_of us) × AllKnown K (values_of (v ∷ vs))
known_split K xs us v vs e h = by us (subst (λ (ys : List Value). AllKnown K (values_of ys)) e h) where
  by : (ys : List Value) → AllKnown K (values_of (ys ++ v ∷ vs)) → AllKnown K (values_of ys) × AllKnown K (values_of (v ∷ vs))
  by [] k = (tt, k)
  by (y ∷ ys) k = let r = by ys k.1 in ((k.0, r.0), r.1)

-- ---- a function that has begun above these that wait

module _ {W S : Type 0} (state : W → State ℕ S) (modules : S → Modules ℕ) (linked : S → ℕ → Bool) (begins : Importing ℕ S)
    (Ready : W → Type 0) (Keeps : W → W → Type 0) (owns : S → ℕ → List (List ℕ)) (w : W)
    (s : Machine) (function : FuncId) (row : Row) (count : ℕ) (g : Frame) (mid : Machine) (e : EntersAs s function row count g mid)
    (code : FunctionCode) (is : IsRow (owns_in state modules linked begins Ready Keeps owns w function.module.0) code row) where
  abbrev Tree : ℕ → List Item
  Tree = (modules_in state modules linked begins Ready Keeps w).tree

  abbrev K : CodeValue → Type 0
  K v = Known state modules linked begins Ready Keeps owns w v

  -- the values of its names
  abbrev values_begun : List (Option CodeValue)
  values_begun = passed row.parameters (values_of e.arguments) ++ replicate row.names None

  abbrev pub begun : Here
  begun = record { at = function.module.0; function = function.index; spot = start code; names = values_begun ∷ []; operands = [] }

  values_long : length values_begun ≡ length (call_names code)
  values_long =
      let a : length values_begun ≡ length (passed row.parameters (values_of e.arguments)) + length (replicate row.names no_value) = joined (passed row.parameters (values_of e.arguments)) (replicate row.names no_value) in
      let b : length (passed row.parameters (values_of e.arguments)) ≡ row.parameters = passed_long row.parameters (values_of e.arguments) in
      let c : length (replicate row.names no_value) ≡ row.names = length-replicate row.names no_value in
      let d : length (call_names code) ≡ length (map parameter code.parameters) + length (declared_in code.body) = joined (map parameter code.parameters) (declared_in code.body) in
      let f : length (map parameter code.parameters) ≡ length code.parameters = length-map code.parameters parameter in
      omega (arith, a, b, c, d, f, is.given, is.declares)

  scope_is : scope_by numbered (call_names code) values_begun ≡ call_scope Undefined code (values_of e.arguments)
  scope_is =
      ap (λ n. scope_by numbered (call_names code) (passed n (values_of e.arguments) ++ replicate row.names None)) is.given
      ∙ ap (λ n. scope_by numbered (call_names code) (passed (length code.parameters) (values_of e.arguments) ++ replicate n None)) is.declares
      ∙ scope_called code.parameters (declared_in code.body) (values_of e.arguments)

  -- what remains of it is its body in the scope of its call
  pub begun_remains : what_remains begun ≡ more (In (call_scope Undefined code (values_of e.arguments)) (whole code.body)) end
  begun_remains = ap (λ (sc : Scope CodeValue). more (In sc (whole code.body)) end) scope_is

  module _ (ws : List Waiter) (late : Machine) (operands : late.operands.items ≡ mid.operands.items) (names : late.names.items ≡ mid.names.items) (handlers : late.handlers.items ≡ mid.handlers.items)
      (frames : AreFrames Tree late.frames.items ws) (names_below : names_on s.names.items ≡ names_under ws) (handlers_below : s.handlers.items ≡ handlers_under ws) (operands_below : values_of e.under ≡ operands_under ws)
      (there : function_of (modules_in state modules linked begins Ready Keeps w) function.module.0 function.index ≡ Some code) where
    begun_stands : StandsFor Tree late g g.left begun ws
    begun_stands = record {
      below = record {
        names = ap names_on names ∙ e.names ∙ ap (λ ns. ns ++ values_begun) names_below;
        handlers = handlers ∙ e.handlers ∙ handlers_below ∙ sym (append-nil (handlers_under ws));
        frames = frames;
        frame = record {
          home = λ i. (e.home i).0;
          number = e.number;
          names_below = e.names_below ∙ sym (length-map s.names.items name_value) ∙ ap length names_below;
          operands_below = e.operands_below ∙ sym (length-map e.under value_of) ∙ ap length operands_below;
          handlers_below = e.handlers_below ∙ ap length handlers_below;
        };
        fit = (values_long, tt);
        rounds = tt;
      };
      operands = ap values_of operands ∙ ap values_of e.operands ∙ operands_below ∙ sym (append-nil (operands_under ws));
      room = refl;
      place = record {
        code = code;
        there = there;
        ends = itself (function_row code);
        many = e.left ∙ same_length (owns_in state modules linked begins Ready Keeps owns w function.module.0) row.texts.items row.ops.items (function_row code) is.told;
      };
    }

    begun_fits : Ready w → Linked state modules linked begins Ready Keeps owns w function.module.0 → AreLinkedAll state modules linked begins Ready Keeps owns w ws
        → AllKnown K (values_of s.operands.items) → AreNamesKnown K s.names.items → Fits state modules linked begins Ready Keeps owns w late function.module.0 ws
    begun_fits ready home homes on_operands on_names =
        let known = known_split K s.operands.items e.under e.callee e.arguments e.stacked on_operands in
        let all : AllNames K (names_on mid.names.items) =
        subst (λ (ns : List (Option CodeValue)). AllNames K ns) (sym e.names)
        (names_more K (names_on s.names.items) values_begun (to_names K s.names.items on_names)
        (names_more K (passed row.parameters (values_of e.arguments)) (replicate row.names None) (names_passed K tt row.parameters (values_of e.arguments) known.1.1) (names_unset K row.names))) in
        record {
          is_ready = ready;
          home = home;
          homes = homes;
          operands = subst (λ (vs : List Value). AllKnown K (values_of vs)) (sym (operands ∙ e.operands)) known.0;
          names = subst (λ (ns : List (Option Value)). AreNamesKnown K ns) (sym names) (from_names K mid.names.items all);
        }

    pub begun_can_go : Ready w → Linked state modules linked begins Ready Keeps owns w function.module.0 → AreLinkedAll state modules linked begins Ready Keeps owns w ws
        → AllKnown K (values_of s.operands.items) → AreNamesKnown K s.names.items → Stands state modules linked begins Ready Keeps owns w late g g.left begun ws
    begun_can_go ready home homes on_operands on_names = record { stands = begun_stands; fits = begun_fits ready home homes on_operands on_names }
