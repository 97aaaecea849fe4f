-- The grammar of module items: imports, exports, functions, statements. One clause for each production.
use Rattle.std.specs.Prelude.{◌≡◌, ◌≢◌, ℕ, ◌+◌, ◌≤◌, Bool, true, false, not, ◌||◌, ◌&&◌, List, [], ◌∷◌, length, codes, Some, None}
use Rattle.esm_tree.specs.declared.node.Wanted.TheVariants.{Named, Whole}
use Rattle.esm_tree.specs.declared.node.ImportBinding.{ImportBinding}
use Rattle.esm_tree.specs.declared.node.ExportSpecifier.{ExportSpecifier}
use Rattle.esm_tree.specs.Syntax.{Init, Stmt, Default, Stmts, Item, ImportEffect, ImportFrom, ExportAll, ExportAllAs, ExportFrom, ExportList, ExportStatement, ExportFunction, ExportDefaultFunction, Function, Statement}
use Rattle.esm_tree.specs.declared.lexeme.Terminal.{Terminal}
use Rattle.esm_tree.specs.declared.lexeme.Terminal.TheVariants as t
use Rattle.esm_tree.specs.Lexeme.{Lexeme}
use Rattle.esm_grammar.specs.Lexeme.{terminal_at, text_at, is_word, is_name}
use Rattle.esm_grammar.specs.Reading.{sees}
use Rattle.esm_grammar.specs.Statements.{Ends, InitAt, StmtAt, BlockAt}

-- ECMA-262, ModuleExportName: a word or a string
unfoldable pub is_export_name : Terminal → Bool
is_export_name t.Literal = true
is_export_name s = is_word s

abbrev pub import_binding : List ℕ → List ℕ → ImportBinding
import_binding wanted local = record { wanted = Named wanted; local = local }

abbrev pub default_binding : List ℕ → ImportBinding
default_binding local = import_binding (codes "default") local

abbrev pub space_binding : List ℕ → ImportBinding
space_binding local = record { wanted = Whole; local = local }

abbrev pub export_specifier : List ℕ → Bool → List ℕ → ExportSpecifier
export_specifier first is_name exported = record { first = first; is_name = is_name; exported = exported }

module _ (ts : List Lexeme) where
  -- Elements with a comma between them and perhaps behind the last, up to the closing sign, and it.
  module _ {A : Type 0} (Element : ℕ → A → ℕ → Type 0) (close : Terminal) where
    mutual
      pub data Listed : ℕ → List A → ℕ → Type 0 where
        closed : {i : ℕ} → terminal_at ts i ≡ close → Listed i [] (i + 1)
        element : {i j k : ℕ} {a : A} {as' : List A} → terminal_at ts i ≢ close → Element i a k → AfterElement k as' j
            → Listed i (a ∷ as') j

      pub data AfterElement : ℕ → List A → ℕ → Type 0 where
        closes : {i : ℕ} → terminal_at ts i ≡ close → AfterElement i [] (i + 1)
        comma : {i j : ℕ} {as' : List A} → terminal_at ts i ≢ close → terminal_at ts i ≡ t.Comma → Listed (i + 1) as' j
            → AfterElement i as' j

  -- Name
  pub data ParameterAt : ℕ → List ℕ → ℕ → Type 0 where
    a_parameter : {i : ℕ} → is_name (terminal_at ts i) ≡ true → ParameterAt i (text_at ts i) (i + 1)

  -- ISpec = Name | Ext "as" Name
  pub data ImportSpecifierAt : ℕ → ImportBinding → ℕ → Type 0 where
    imported_as : {i : ℕ} → terminal_at ts (i + 1) ≡ t.As → is_export_name (terminal_at ts i) ≡ true
        → is_name (terminal_at ts (i + 2)) ≡ true → ImportSpecifierAt i (import_binding (text_at ts i) (text_at ts (i + 2))) (i + 3)
    imported : {i : ℕ} → terminal_at ts (i + 1) ≢ t.As → is_name (terminal_at ts i) ≡ true
        → ImportSpecifierAt i (import_binding (text_at ts i) (text_at ts i)) (i + 1)

  -- ESpec = Ext [ "as" Ext ]
  pub data ExportSpecifierAt : ℕ → ExportSpecifier → ℕ → Type 0 where
    exported_as : {i : ℕ} → terminal_at ts (i + 1) ≡ t.As → is_export_name (terminal_at ts i) ≡ true
        → is_export_name (terminal_at ts (i + 2)) ≡ true
        → ExportSpecifierAt i (export_specifier (text_at ts i) (is_name (terminal_at ts i)) (text_at ts (i + 2))) (i + 3)
    exported : {i : ℕ} → terminal_at ts (i + 1) ≢ t.As → is_export_name (terminal_at ts i) ≡ true
        → ExportSpecifierAt i (export_specifier (text_at ts i) (is_name (terminal_at ts i)) (text_at ts i)) (i + 1)

  -- "*" "as" Name
  pub data SpaceAt : ℕ → ImportBinding → ℕ → Type 0 where
    a_space : {i : ℕ} → terminal_at ts i ≡ t.Star → terminal_at ts (i + 1) ≡ t.As → is_name (terminal_at ts (i + 2)) ≡ true
        → SpaceAt i (space_binding (text_at ts (i + 2))) (i + 3)

  -- Space | Named
  pub data NamesAt : ℕ → List ImportBinding → ℕ → Type 0 where
    whole_space : {i j : ℕ} {b : ImportBinding} → SpaceAt i b j → NamesAt i (b ∷ []) j
    named : {i j : ℕ} {bs : List ImportBinding} → terminal_at ts i ≡ t.BraceOpen → Listed ImportSpecifierAt t.BraceClose (i + 1) bs j
        → NamesAt i bs j

  -- Clause = Name | Space | Named | Name "," Space | Name "," Named
  pub data ClauseAt : ℕ → List ImportBinding → ℕ → Type 0 where
    names : {i j : ℕ} {bs : List ImportBinding} → is_name (terminal_at ts i) ≡ false → NamesAt i bs j → ClauseAt i bs j
    default_alone : {i : ℕ} → is_name (terminal_at ts i) ≡ true → terminal_at ts (i + 1) ≢ t.Comma
        → ClauseAt i (default_binding (text_at ts i) ∷ []) (i + 1)
    default_and : {i j : ℕ} {bs : List ImportBinding} → is_name (terminal_at ts i) ≡ true → terminal_at ts (i + 1) ≡ t.Comma
        → NamesAt (i + 2) bs j → ClauseAt i (default_binding (text_at ts i) ∷ bs) j

  -- "from" String ";"
  pub data FromAt : ℕ → List ℕ → ℕ → Type 0 where
    a_from : {i j : ℕ} → terminal_at ts i ≡ t.From → terminal_at ts (i + 1) ≡ t.Literal → Ends ts false (i + 2) j
        → FromAt i (text_at ts (i + 1)) j

  -- Rest = "(" [ Name { "," Name } [ "," ] ] ")" Block
  pub data RestAt : ℕ → List (List ℕ) → Stmts → ℕ → Type 0 where
    a_rest : {i j k : ℕ} {ps : List (List ℕ)} {ss : Stmts} → terminal_at ts i ≡ t.Open → Listed ParameterAt t.Close (i + 1) ps k
        → BlockAt ts true k ss j → RestAt i ps ss j

  -- a word that begins a form of its own: `import`, unless `(` or `.` stands behind it, `export`, `function`
  unfoldable pub is_import_form : ℕ → Bool
  is_import_form i = sees ts i t.Import && not (sees ts (i + 1) t.Open || sees ts (i + 1) t.Dot)

  unfoldable pub is_form : ℕ → Bool
  is_form i = is_import_form i || (sees ts i t.Export || sees ts i t.Function)

  unfoldable pub is_declaration : ℕ → Bool
  is_declaration i = sees ts i t.Const || sees ts i t.Let

  -- behind `export`
  pub data ExportAt : ℕ → Item → ℕ → Type 0 where
    export_all : {i j : ℕ} {s : List ℕ} → terminal_at ts i ≡ t.Star → terminal_at ts (i + 1) ≢ t.As → FromAt (i + 1) s j
        → ExportAt i (ExportAll s) j
    export_all_as : {i j : ℕ} {s : List ℕ} → terminal_at ts i ≡ t.Star → terminal_at ts (i + 1) ≡ t.As
        → is_export_name (terminal_at ts (i + 2)) ≡ true → FromAt (i + 3) s j → ExportAt i (ExportAllAs (text_at ts (i + 2)) s) j
    export_from : {i j k : ℕ} {es : List ExportSpecifier} {s : List ℕ} → terminal_at ts i ≡ t.BraceOpen
        → Listed ExportSpecifierAt t.BraceClose (i + 1) es k → terminal_at ts k ≡ t.From → FromAt k s j → ExportAt i (ExportFrom es s) j
    export_list : {i j k : ℕ} {es : List ExportSpecifier} → terminal_at ts i ≡ t.BraceOpen
        → Listed ExportSpecifierAt t.BraceClose (i + 1) es k → terminal_at ts k ≢ t.From → Ends ts false k j → ExportAt i (ExportList es) j
    export_declaration : {i j : ℕ} {s : Stmt} → is_declaration i ≡ true → StmtAt ts false i s j → ExportAt i (ExportStatement s) j
    export_function : {i j : ℕ} {ps : List (List ℕ)} {ss : Stmts} → terminal_at ts i ≡ t.Function
        → is_name (terminal_at ts (i + 1)) ≡ true → RestAt (i + 2) ps ss j → ExportAt i (ExportFunction (text_at ts (i + 1)) ps ss) j
    export_default_named : {i j : ℕ} {ps : List (List ℕ)} {ss : Stmts} → terminal_at ts i ≡ t.Default
        → terminal_at ts (i + 1) ≡ t.Function → is_name (terminal_at ts (i + 2)) ≡ true → RestAt (i + 3) ps ss j
        → ExportAt i (ExportDefaultFunction (Some (text_at ts (i + 2))) ps ss) j
    export_default_unnamed : {i j : ℕ} {ps : List (List ℕ)} {ss : Stmts} → terminal_at ts i ≡ t.Default
        → terminal_at ts (i + 1) ≡ t.Function → is_name (terminal_at ts (i + 2)) ≡ false → RestAt (i + 2) ps ss j
        → ExportAt i (ExportDefaultFunction None ps ss) j
    export_default_value : {i j k : ℕ} {v : Init} → terminal_at ts i ≡ t.Default → terminal_at ts (i + 1) ≢ t.Function
        → InitAt ts false (i + 1) v k → Ends ts false k j → ExportAt i (ExportStatement (Default v)) j

  -- Item = Import | Export | Function | Statement
  pub data ItemAt : ℕ → Item → ℕ → Type 0 where
    import_effect : {i j : ℕ} → is_import_form i ≡ true → terminal_at ts (i + 1) ≡ t.Literal → Ends ts false (i + 2) j
        → ItemAt i (ImportEffect (text_at ts (i + 1))) j
    import_from : {i j k : ℕ} {bs : List ImportBinding} {s : List ℕ} → is_import_form i ≡ true → terminal_at ts (i + 1) ≢ t.Literal
        → ClauseAt (i + 1) bs k → FromAt k s j → ItemAt i (ImportFrom s bs) j
    an_export : {i j : ℕ} {x : Item} → terminal_at ts i ≡ t.Export → ExportAt (i + 1) x j → ItemAt i x j
    a_function : {i j : ℕ} {ps : List (List ℕ)} {ss : Stmts} → terminal_at ts i ≡ t.Function → is_name (terminal_at ts (i + 1)) ≡ true
        → RestAt (i + 2) ps ss j → ItemAt i (Function (text_at ts (i + 1)) ps ss) j
    a_statement : {i j : ℕ} {s : Stmt} → is_form i ≡ false → StmtAt ts false i s j → ItemAt i (Statement s) j

  -- Module = { Item }
  pub data ItemsAt : ℕ → List Item → Type 0 where
    no_item : {i : ℕ} → length ts ≤ i → ItemsAt i []
    an_item : {i k : ℕ} {x : Item} {xs : List Item} → ItemAt i x k → ItemsAt k xs → ItemsAt i (x ∷ xs)
