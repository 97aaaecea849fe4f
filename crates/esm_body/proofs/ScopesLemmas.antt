-- The names of blocks, one after another: what is there and what is left are the whole.
use Rattle.std.proofs.Common.{◌≡◌, ℕ, zero, suc, ◌+◌, ◌<◌, ◌≤◌, Bool, List, [], ◌∷◌, ◌++◌, length, drop, refl, ap, sym, ◌∙◌, get_or, append_assoc, arith}
use Rattle.std.proofs.lemmas.List.{drop_more}
use Rattle.std.proofs.Math.ListN.{drop_of_length-le}
use Rattle.std.specs.Prelude.{None}
use Rattle.esm_tree.specs.Syntax.{Expr, Stmt}
use Rattle.esm_tree.specs.Flat.{bindings_of, stmt_part, stmt_parts, AllStmtsBelow}
use Rattle.esm_tree.specs.declared.node.LexicalBinding.{LexicalBinding}
use Rattle.esm_tree.specs.declared.node.StmtId.{StmtId}
use Rattle.esm_env.specs.Declarations.{Declaration, declared_by, declares, declared_in}
use Rattle.esm_body.specs.Slots.{slot_with, unset_slots}
use Rattle.esm_body.specs.declared.work.Slot.{Slot}

nothing_behind : (slots : List Slot) → slots ++ [] ≡ slots
nothing_behind [] = refl
nothing_behind (s ∷ ss) = ap (λ ss. s ∷ ss) (nothing_behind ss)

module _ (exprs : List Expr) (constant : Bool) (bs : List LexicalBinding) where
  abbrev Left : ℕ → List Slot → List Slot → Type 0
  Left i slots all = slots ++ unset_slots (declared_by constant (bindings_of exprs (drop i bs))) ≡ all

  pub binding_goes : (i : ℕ) (d : LexicalBinding) (slots all : List Slot) → i < length bs → Left i slots all → Left (i + 1) (slots ++ slot_with (get_or bs i d).name constant None ∷ []) all
  binding_goes i d slots all h left =
      append_assoc slots (slot_with (get_or bs i d).name constant None ∷ []) _ ∙ ap (λ rest. slots ++ unset_slots (declared_by constant (bindings_of exprs rest))) (sym (drop_more bs i d h)) ∙ left

  pub bindings_end : (i : ℕ) (slots all : List Slot) → length bs ≤ i → Left i slots all → slots ≡ all
  bindings_end i slots all h left = sym (nothing_behind slots) ∙ ap (λ rest. slots ++ unset_slots (declared_by constant (bindings_of exprs rest))) (sym (drop_of_length-le bs h)) ∙ left

map_append : (ds es : List Declaration) → unset_slots (ds ++ es) ≡ unset_slots ds ++ unset_slots es
map_append [] es = refl
map_append (d ∷ ds) es = ap (λ ss. slot_with d.name d.constant None ∷ ss) (map_append ds es)

module _ (stmts : List Stmt) (ids : List StmtId) where
  abbrev StmtsLeft : ℕ → List Slot → List Slot → Type 0
  StmtsLeft i slots all = slots ++ unset_slots (declared_in (stmt_parts stmts (drop i ids))) ≡ all

  pub stmt_goes : (i : ℕ) (d : StmtId) (slots all : List Slot) → i < length ids → StmtsLeft i slots all → StmtsLeft (i + 1) (slots ++ unset_slots (declares (stmt_part stmts (get_or ids i d)))) all
  stmt_goes i d slots all h left =
      append_assoc slots (unset_slots (declares (stmt_part stmts (get_or ids i d)))) _
      ∙ ap (λ ss. slots ++ ss) (sym (map_append (declares (stmt_part stmts (get_or ids i d))) (declared_in (stmt_parts stmts (drop (i + 1) ids)))))
      ∙ ap (λ rest. slots ++ unset_slots (declared_in (stmt_parts stmts rest))) (sym (drop_more ids i d h)) ∙ left

  pub stmts_end : (i : ℕ) (slots all : List Slot) → length ids ≤ i → StmtsLeft i slots all → slots ≡ all
  stmts_end i slots all h left = sym (nothing_behind slots) ∙ ap (λ rest. slots ++ unset_slots (declared_in (stmt_parts stmts rest))) (sym (drop_of_length-le ids h)) ∙ left

pub below_at : (n : ℕ) (ids : List StmtId) (i : ℕ) (d : StmtId) → AllStmtsBelow n ids → i < length ids → (get_or ids i d).0 < n
below_at n [] i d h lt = absurd (omega (arith, lt))
below_at n (id ∷ ids) zero d h lt = h.0
below_at n (id ∷ ids) (suc i) d h lt = below_at n ids i d h.1 (omega (arith, lt))
