-- What is there and what is left are the whole.
use Rattle.std.proofs.Common.{◌≡◌, ℕ, zero, suc, ◌+◌, ◌<◌, ◌≤◌, Bool, List, [], ◌∷◌, ◌++◌, length, drop, refl, ap, subst, sym, ◌∙◌, get_or, arith}
use Rattle.std.proofs.lemmas.List.{drop_more, append-nil, append_assoc}
use Rattle.std.proofs.Math.ListN.{drop_of_length-le}
use Rattle.std.specs.Prelude.{Option, Some, None}
use Rattle.esm_tree.specs.Syntax.{Expr, Stmt, Stmts, nothing}
use Rattle.esm_tree.specs.Flat.{bindings_of, item_of, items_of, item_need, items_need, AllAtMost}
use Rattle.esm_env.specs.Declarations.{Declaration, declared_by, declares, declared_in, body_of, onto, does}
use Rattle.esm_tree.specs.declared.node.LexicalBinding.{LexicalBinding}
use Rattle.esm_tree.specs.declared.node.ItemNode.{ItemNode}
use Rattle.esm_base.specs.declared.module_id.ModuleId.{ModuleId}
use Rattle.esm_env.specs.Makes.{unset_slot, unset_slots, function_slot, function_slots, names_by, function_names}
use Rattle.esm_env.specs.declared.slots.Slot.{Slot}

unset_append : (ds es : List Declaration) → unset_slots (ds ++ es) ≡ unset_slots ds ++ unset_slots es
unset_append [] es = refl
unset_append (d ∷ ds) es = ap (λ ss. unset_slot d ∷ ss) (unset_append ds es)

module _ (exprs : List Expr) (constant : Bool) (bs : List LexicalBinding) where
  abbrev Left : ℕ → List Slot → List Slot → Type 0
  Left i slots all = slots ++ unset_slots (declared_by constant (bindings_of exprs (drop i bs))) ≡ all

  pub binding_goes : (i : ℕ) (d : LexicalBinding) (slots all : List Slot) → i < length bs → Left i slots all → Left (i + 1) (slots ++ record { name = (get_or bs i d).name; constant = constant; function = None; written = None } ∷ []) all
  binding_goes i d slots all h e =
      append_assoc slots _ _ ∙ subst (λ r. slots ++ unset_slots (declared_by constant (bindings_of exprs r)) ≡ all) (drop_more bs i d h) e

  pub bindings_end : (i : ℕ) (slots all : List Slot) → length bs ≤ i → Left i slots all → slots ≡ all
  bindings_end i slots all h e = sym (append-nil slots) ∙ subst (λ r. slots ++ unset_slots (declared_by constant (bindings_of exprs r)) ≡ all) (drop_of_length-le bs h) e

-- an item by itself
abbrev pub item_declared : List Stmt → ItemNode → List Declaration
item_declared stmts item = declared_in (onto (does (item_of stmts item)) nothing)

item_first : (s : Option Stmt) (ss : Stmts) → unset_slots (declared_in (onto s ss)) ≡ unset_slots (declared_in (onto s nothing)) ++ unset_slots (declared_in ss)
item_first None ss = refl
item_first (Some s) ss = unset_append (declares s) (declared_in ss) ∙ ap (λ r. r ++ unset_slots (declared_in ss)) (ap unset_slots (sym (append-nil (declares s))))

module _ (stmts : List Stmt) (items : List ItemNode) where
  abbrev ItemsLeft : ℕ → List Slot → List Slot → Type 0
  ItemsLeft i slots all = slots ++ unset_slots (declared_in (body_of (items_of stmts (drop i items)))) ≡ all

  pub item_goes : (i : ℕ) (d : ItemNode) (slots all : List Slot) → i < length items → ItemsLeft i slots all → ItemsLeft (i + 1) (slots ++ unset_slots (item_declared stmts (get_or items i d))) all
  item_goes i d slots all h e =
      append_assoc slots _ _ ∙ ap (λ r. slots ++ r) (sym (item_first (does (item_of stmts (get_or items i d))) (body_of (items_of stmts (drop (i + 1) items))))) ∙ subst (λ r. slots ++ unset_slots (declared_in (body_of (items_of stmts r))) ≡ all) (drop_more items i d h) e

  pub items_end : (i : ℕ) (slots all : List Slot) → length items ≤ i → ItemsLeft i slots all → slots ≡ all
  items_end i slots all h e = sym (append-nil slots) ∙ subst (λ r. slots ++ unset_slots (declared_in (body_of (items_of stmts r))) ≡ all) (drop_of_length-le items h) e

pub need_at : (n : ℕ) (items : List ItemNode) (i : ℕ) (d : ItemNode) → AllAtMost n (items_need items) → i < length items → item_need (get_or items i d) ≤ n
need_at n [] i d a h = absurd (omega (arith, h))
need_at n (item ∷ items) zero d a h = a.0
need_at n (item ∷ items) (suc i) d a h = need_at n items i d a.1 (omega (arith, h))

functions_append : (m : ModuleId) (i : ℕ) (ns ms : List (List ℕ)) → function_slots m i (ns ++ ms) ≡ function_slots m i ns ++ function_slots m (i + length ns) ms
functions_append m i [] ms = let e : i + 0 ≡ i = omega arith in rw e refl
functions_append m i (n ∷ ns) ms =
    let e : i + length (n ∷ ns) ≡ i + 1 + length ns = omega arith in
    rw e (ap (λ r. function_slot m i n ∷ r) (functions_append m (i + 1) ns ms))

module _ (m : ModuleId) (stmts : List Stmt) (items : List ItemNode) where
  abbrev FunctionsLeft : ℕ → ℕ → List Slot → List Slot → Type 0
  FunctionsLeft i index slots all = slots ++ function_slots m index (function_names (items_of stmts (drop i items))) ≡ all

  pub function_goes : (i index later : ℕ) (d : ItemNode) (slots all : List Slot) → i < length items → later ≡ index + length (names_by (item_of stmts (get_or items i d))) → FunctionsLeft i index slots all → FunctionsLeft (i + 1) later (slots ++ function_slots m index (names_by (item_of stmts (get_or items i d)))) all
  function_goes i index later d slots all h k e =
      let rest = function_names (items_of stmts (drop (i + 1) items)) in
      rw k (append_assoc slots _ _ ∙ ap (λ r. slots ++ r) (sym (functions_append m index (names_by (item_of stmts (get_or items i d))) rest)) ∙ subst (λ r. slots ++ function_slots m index (function_names (items_of stmts r)) ≡ all) (drop_more items i d h) e)

  pub functions_end : (i index : ℕ) (slots all : List Slot) → length items ≤ i → FunctionsLeft i index slots all → slots ≡ all
  functions_end i index slots all h e = sym (append-nil slots) ∙ subst (λ r. slots ++ function_slots m index (function_names (items_of stmts r)) ≡ all) (drop_of_length-le items h) e
