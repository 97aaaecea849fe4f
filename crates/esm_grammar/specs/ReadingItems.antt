-- Reading the items of a module forward, as a function of the place. The numbers bound the turns and the depth.
use Rattle.std.specs.Prelude.{ℕ, ◌+◌, true, false, List, [], ◌∷◌, length, nat_le, Option, Some, None}
use Rattle.esm_tree.specs.declared.node.ImportBinding.{ImportBinding}
use Rattle.esm_tree.specs.declared.node.ExportSpecifier.{ExportSpecifier}
use Rattle.esm_tree.specs.Syntax.{Default, Stmts, Item, ImportEffect, ImportFrom, ExportAll, ExportAllAs, ExportFrom, ExportList, ExportStatement, ExportFunction, ExportDefaultFunction, Function, Statement}
use Rattle.esm_tree.specs.declared.lexeme.Terminal.{Terminal}
use Rattle.esm_tree.specs.declared.lexeme.Terminal.TheVariants as t
use Rattle.esm_tree.specs.Lexeme.{Lexeme}
use Rattle.esm_grammar.specs.Lexeme.{terminal_at, text_at, is_name}
use Rattle.esm_grammar.specs.Reading.{Read, ◌>>=◌, pick, sees}
use Rattle.esm_grammar.specs.ReadingLists.{many}
use Rattle.esm_grammar.specs.ReadingStatements.{end_of, init, stmt, block}
use Rattle.esm_grammar.specs.Items.{is_export_name, import_binding, default_binding, space_binding, export_specifier, is_import_form}

abbrev pub cons : {A : Type 0} → A → List A → List A
cons a as' = a ∷ as'

module _ (ts : List Lexeme) where
  unfoldable pub listed_step : {A : Type 0} → (ℕ → Read A) → Terminal → ℕ → Read (Option A)
  listed_step element close i =
      pick (sees ts i close)
      (Some (None, i + 1))
      (do
        a ← element i
        pick (sees ts (a.1) close)
            (Some (Some a.0, a.1))
            (pick (sees ts (a.1) t.Comma) (Some (Some a.0, a.1 + 1)) None))

  unfoldable pub listed : {A : Type 0} → (ℕ → Read A) → Terminal → ℕ → ℕ → Read (List A)
  listed element close n i = many [] cons (listed_step element close) n i

  unfoldable pub parameter : ℕ → Read (List ℕ)
  parameter i = pick (is_name (terminal_at ts i)) (Some (text_at ts i, i + 1)) None

  unfoldable pub imported_name : ℕ → Read ImportBinding
  imported_name i =
      pick (sees ts (i + 1) t.As)
      (pick (is_export_name (terminal_at ts i))
      (pick (is_name (terminal_at ts (i + 2))) (Some (import_binding (text_at ts i) (text_at ts (i + 2)), i + 3)) None)
      None)
      (pick (is_name (terminal_at ts i)) (Some (import_binding (text_at ts i) (text_at ts i), i + 1)) None)

  unfoldable pub exported_name : ℕ → Read ExportSpecifier
  exported_name i =
      pick (is_export_name (terminal_at ts i))
      (pick (sees ts (i + 1) t.As)
      (pick (is_export_name (terminal_at ts (i + 2)))
      (Some (export_specifier (text_at ts i) (is_name (terminal_at ts i)) (text_at ts (i + 2)), i + 3))
      None)
      (Some (export_specifier (text_at ts i) (is_name (terminal_at ts i)) (text_at ts i), i + 1)))
      None

  unfoldable pub space : ℕ → Read ImportBinding
  space i =
      pick (sees ts (i + 1) t.As) (pick (is_name (terminal_at ts (i + 2))) (Some (space_binding (text_at ts (i + 2)), i + 3)) None) None

  unfoldable pub from : ℕ → Read (List ℕ)
  from i = pick (sees ts i t.From) (pick (sees ts (i + 1) t.Literal) (end_of ts false (text_at ts (i + 1)) (i + 2)) None) None

  module _ (n : ℕ) where
    unfoldable pub names : ℕ → Read (List ImportBinding)
    names i =
        pick (sees ts i t.Star)
        (do
          b ← space i
          Some (b.0 ∷ [], b.1))
        (pick (sees ts i t.BraceOpen) (listed imported_name t.BraceClose n (i + 1)) None)

    unfoldable pub clause : ℕ → Read (List ImportBinding)
    clause i =
        pick (is_name (terminal_at ts i))
        (pick (sees ts (i + 1) t.Comma)
        (do
          bs ← names (i + 2)
          Some (default_binding (text_at ts i) ∷ bs.0, bs.1))
        (Some (default_binding (text_at ts i) ∷ [], i + 1)))
        (names i)

    unfoldable pub import_form : ℕ → Read Item
    import_form i =
        pick (sees ts (i + 1) t.Literal)
        (end_of ts false (ImportEffect (text_at ts (i + 1))) (i + 2))
        (do
          bs ← clause (i + 1)
          s ← from bs.1
          Some (ImportFrom s.0 bs.0, s.1))

    -- parameters and body
    unfoldable pub rest : (List (List ℕ) → Stmts → Item) → ℕ → Read Item
    rest make i =
        pick (sees ts i t.Open)
        (do
          ps ← listed parameter t.Close n (i + 1)
          ss ← block ts n true n ps.1
          Some (make ps.0 ss.0, ss.1))
        None

    unfoldable pub function_form : (List ℕ → List (List ℕ) → Stmts → Item) → ℕ → Read Item
    function_form make i = pick (is_name (terminal_at ts (i + 1))) (rest (make (text_at ts (i + 1))) (i + 2)) None

    unfoldable pub export_all_form : ℕ → Read Item
    export_all_form i =
        pick (sees ts (i + 1) t.As)
        (pick (is_export_name (terminal_at ts (i + 2)))
        (do
          s ← from (i + 3)
          Some (ExportAllAs (text_at ts (i + 2)) s.0, s.1))
        None)
        (do
          s ← from (i + 1)
          Some (ExportAll s.0, s.1))

    unfoldable pub export_list_form : ℕ → Read Item
    export_list_form i = do
      es ← listed exported_name t.BraceClose n (i + 1)
      pick (sees ts (es.1) t.From)
          (do
            s ← from es.1
            Some (ExportFrom es.0 s.0, s.1))
          (end_of ts false (ExportList es.0) es.1)

    unfoldable pub export_default_form : ℕ → Read Item
    export_default_form i =
        pick (sees ts (i + 1) t.Function)
        (pick (is_name (terminal_at ts (i + 2)))
        (rest (ExportDefaultFunction (Some (text_at ts (i + 2)))) (i + 3))
        (rest (ExportDefaultFunction None) (i + 2)))
        (do
          v ← init ts n false (i + 1)
          end_of ts false (ExportStatement (Default v.0)) v.1)

    unfoldable pub export_statement : ℕ → Read Item
    export_statement i = do
      s ← stmt ts n false n i
      Some (ExportStatement s.0, s.1)

    abbrev pub export_by : Terminal → ℕ → Read Item
    export_by t.Star i = export_all_form i
    export_by t.BraceOpen i = export_list_form i
    export_by t.Const i = export_statement i
    export_by t.Let i = export_statement i
    export_by t.Function i = function_form ExportFunction i
    export_by t.Default i = export_default_form i
    export_by _ i = None

    unfoldable pub export_form : ℕ → Read Item
    export_form i = export_by (terminal_at ts i) i

    unfoldable pub item : ℕ → Read Item
    item i =
        pick (is_import_form ts i)
        (import_form i)
        (pick (sees ts i t.Export)
        (export_form (i + 1))
        (pick (sees ts i t.Function)
        (function_form Function i)
        (do
          s ← stmt ts n false n i
          Some (Statement s.0, s.1))))

    unfoldable pub item_step : ℕ → Read (Option Item)
    item_step i =
        pick (nat_le (length ts) i)
        (Some (None, i))
        (do
          x ← item i
          Some (Some x.0, x.1))

    unfoldable pub items : ℕ → Read (List Item)
    items i = many [] cons item_step n i

  -- the number is enough for every text of these tokens
  unfoldable pub module_items : Read (List Item)
  module_items = items (length ts + 2) 0
