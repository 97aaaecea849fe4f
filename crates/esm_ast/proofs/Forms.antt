-- The tree that a text spells has no `return` outside functions and no `await` inside one.
use Rattle.std.proofs.Common.{◌≡◌, ℕ, Bool, true, false, List, refl}
use Rattle.std.proofs.lemmas.Bool.{or_from, both_ways}
use Rattle.std.specs.List.{list_any}
use Rattle.esm_tree.specs.Syntax.{Init, Bindings, Stmt, Stmts, Item}
use Rattle.esm_tree.specs.Lexeme.{Lexeme}
use Rattle.esm_grammar.specs.Statements.{InitAt, an_await, a_value, BindingAt, with_value, without, MoreBindings, no_binding, a_binding, BindingsAt, some_bindings, StmtAt, a_block, an_empty, a_const, a_let, an_if, an_if_else, a_try, a_catch, a_throw, a_return, a_return_value, an_await_statement, an_assign, a_print_await, an_expression, BlockAt, in_braces, StmtsAt, no_stmt, a_stmt}
use Rattle.esm_grammar.specs.Items.{RestAt, a_rest, ExportAt, export_all, export_all_as, export_from, export_list, export_declaration, export_function, export_default_named, export_default_unnamed, export_default_value, ItemAt, import_effect, import_from, an_export, a_function, a_statement, ItemsAt, no_item, an_item}
use Rattle.esm_ast.specs.Entries.{init_awaits, bindings_await, stmt_awaits, stmts_await}
use Rattle.esm_ast.specs.ModuleTree.{stmt_returns, stmts_return, returns_outside, awaits_inside}

module _ (ts : List Lexeme) where
  -- ---- outside functions

  mutual
    unfolding stmt_returns stmts_return

    stmt_plain : {i j : ℕ} {s : Stmt} → StmtAt ts false i s j → stmt_returns s ≡ false
    stmt_plain (a_block b) = block_plain b
    stmt_plain (an_empty h) = refl
    stmt_plain (a_const h b e) = refl
    stmt_plain (a_let h b e) = refl
    stmt_plain (an_if h o d c b l) = block_plain b
    stmt_plain (an_if_else h o d c b l f) = or_from _ _ (block_plain b) (block_plain f)
    stmt_plain (a_try h b c o f) = or_from _ _ (block_plain b) (block_plain f)
    stmt_plain (a_catch h b c o x l f) = or_from _ _ (block_plain b) (block_plain f)
    stmt_plain (a_throw h l d e) = refl
    stmt_plain (a_return h s v e) = absurd (both_ways false refl s)
    stmt_plain (a_return_value h s v d e) = absurd (both_ways false refl s)
    stmt_plain (an_await_statement h b d e) = refl
    stmt_plain (an_assign h d e) = refl
    stmt_plain (a_print_await h b d c e) = refl
    stmt_plain (an_expression o a b d e) = refl

    block_plain : {i j : ℕ} {ss : Stmts} → BlockAt ts false i ss j → stmts_return ss ≡ false
    block_plain (in_braces h f) = stmts_plain f

    stmts_plain : {i j : ℕ} {ss : Stmts} → StmtsAt ts false i ss j → stmts_return ss ≡ false
    stmts_plain (no_stmt h) = refl
    stmts_plain (a_stmt h d f) = or_from _ _ (stmt_plain d) (stmts_plain f)

  -- ---- inside one

  init_still : {i j : ℕ} {v : Init} → InitAt ts true i v j → init_awaits v ≡ false
  unfolding init_awaits
  init_still (an_await h b d) = absurd (both_ways true b refl)
  init_still (a_value h d) = refl

  binding_still : {constant : Bool} {i j : ℕ} {n : List ℕ} {v : Init} → BindingAt ts true constant i n v j → init_awaits v ≡ false
  unfolding init_awaits
  binding_still (with_value h e d) = init_still d
  binding_still (without h e c) = refl

  more_still : {constant : Bool} {i j : ℕ} {bs : Bindings} → MoreBindings ts true constant i bs j → bindings_await bs ≡ false
  unfolding bindings_await
  more_still (no_binding h) = refl
  more_still (a_binding h b d) = or_from _ _ (binding_still b) (more_still d)

  bindings_still : {constant : Bool} {i j : ℕ} {bs : Bindings} → BindingsAt ts true constant i bs j → bindings_await bs ≡ false
  unfolding bindings_await
  bindings_still (some_bindings b d) = or_from _ _ (binding_still b) (more_still d)

  mutual
    unfolding stmt_awaits stmts_await

    stmt_still : {i j : ℕ} {s : Stmt} → StmtAt ts true i s j → stmt_awaits s ≡ false
    stmt_still (a_block b) = block_still b
    stmt_still (an_empty h) = refl
    stmt_still (a_const h b e) = bindings_still b
    stmt_still (a_let h b e) = bindings_still b
    stmt_still (an_if h o d c b l) = block_still b
    stmt_still (an_if_else h o d c b l f) = or_from _ _ (block_still b) (block_still f)
    stmt_still (a_try h b c o f) = or_from _ _ (block_still b) (block_still f)
    stmt_still (a_catch h b c o x l f) = or_from _ _ (block_still b) (block_still f)
    stmt_still (a_throw h l d e) = refl
    stmt_still (a_return h s v e) = refl
    stmt_still (a_return_value h s v d e) = refl
    stmt_still (an_await_statement h b d e) = absurd (both_ways true b refl)
    stmt_still (an_assign h d e) = init_still d
    stmt_still (a_print_await h b d c e) = absurd (both_ways true b refl)
    stmt_still (an_expression o a b d e) = refl

    block_still : {i j : ℕ} {ss : Stmts} → BlockAt ts true i ss j → stmts_await ss ≡ false
    block_still (in_braces h f) = stmts_still f

    stmts_still : {i j : ℕ} {ss : Stmts} → StmtsAt ts true i ss j → stmts_await ss ≡ false
    stmts_still (no_stmt h) = refl
    stmts_still (a_stmt h d f) = or_from _ _ (stmt_still d) (stmts_still f)

  rest_still : {i j : ℕ} {ps : List (List ℕ)} {ss : Stmts} → RestAt ts i ps ss j → stmts_await ss ≡ false
  rest_still (a_rest h l b) = block_still b

  -- ---- items

  export_plain : {i j : ℕ} {x : Item} → ExportAt ts i x j → returns_outside x ≡ false
  unfolding returns_outside stmt_returns
  export_plain (export_all h a f) = refl
  export_plain (export_all_as h a n f) = refl
  export_plain (export_from h l f g) = refl
  export_plain (export_list h l f e) = refl
  export_plain (export_declaration h d) = stmt_plain d
  export_plain (export_function h n r) = refl
  export_plain (export_default_named h f n r) = refl
  export_plain (export_default_unnamed h f n r) = refl
  export_plain (export_default_value h f v e) = refl

  item_plain : {i j : ℕ} {x : Item} → ItemAt ts i x j → returns_outside x ≡ false
  unfolding returns_outside
  item_plain (import_effect h l e) = refl
  item_plain (import_from h l c f) = refl
  item_plain (an_export h d) = export_plain d
  item_plain (a_function h n r) = refl
  item_plain (a_statement h d) = stmt_plain d

  export_still : {i j : ℕ} {x : Item} → ExportAt ts i x j → awaits_inside x ≡ false
  unfolding awaits_inside
  export_still (export_all h a f) = refl
  export_still (export_all_as h a n f) = refl
  export_still (export_from h l f g) = refl
  export_still (export_list h l f e) = refl
  export_still (export_declaration h d) = refl
  export_still (export_function h n r) = rest_still r
  export_still (export_default_named h f n r) = rest_still r
  export_still (export_default_unnamed h f n r) = rest_still r
  export_still (export_default_value h f v e) = refl

  item_still : {i j : ℕ} {x : Item} → ItemAt ts i x j → awaits_inside x ≡ false
  unfolding awaits_inside
  item_still (import_effect h l e) = refl
  item_still (import_from h l c f) = refl
  item_still (an_export h d) = export_still d
  item_still (a_function h n r) = rest_still r
  item_still (a_statement h d) = refl

  pub items_plain : {i : ℕ} {xs : List Item} → ItemsAt ts i xs → list_any returns_outside xs ≡ false
  items_plain (no_item h) = refl
  items_plain (an_item d ds) = or_from _ _ (item_plain d) (items_plain ds)

  pub items_still : {i : ℕ} {xs : List Item} → ItemsAt ts i xs → list_any awaits_inside xs ≡ false
  items_still (no_item h) = refl
  items_still (an_item d ds) = or_from _ _ (item_still d) (items_still ds)
