-- The names that a text spells are UTF-8.
use Rattle.std.proofs.Common.{ℕ, zero, suc, ◌<◌, arith, Bool, List, [], ◌∷◌, ◌++◌, drop, map, refl, subst}
use Rattle.std.proofs.lemmas.List.Elements.{All-from_recursion}
use Rattle.std.proofs.lemmas.Str.{IsUtf8-from_ascii, IsUtf8-nil, scalars-chars}
use Rattle.std.proofs.lemmas.Str.Ascii.{IsAscii-from_all}
use Rattle.esm_base.specs.Mark.{without_mark}
use Rattle.std.specs.Prelude.{codes, IsUtf8, chars, slice_index_or, All}
use Rattle.std.specs.List.{AllByRecursion}
use Rattle.esm_tree.specs.declared.lexeme.Terminal.{Terminal}
use Rattle.esm_tree.specs.declared.token.TokenKind.{TokenKind}
use Rattle.esm_tree.specs.declared.node.ImportBinding.{ImportBinding}
use Rattle.esm_tree.specs.declared.node.ExportSpecifier.{ExportSpecifier}
use Rattle.esm_tree.specs.Syntax.{Init, Bindings, Stmt, Item}
use Rattle.esm_tree.specs.Lexeme.{Lexeme}
use Rattle.esm_grammar.specs.Lexeme.{text_at, no_lexeme}
use Rattle.esm_grammar.specs.Lexes.{IsToken, a_word, a_literal, a_sign, Lexes, all_read, stuck, blank, token, hashbang_len}
use Rattle.esm_grammar.specs.Names.{names_of, declared_names}
use Rattle.esm_base.specs.Urls.{Text}
use Rattle.esm_grammar.specs.EarlyErrors.{statement_exported, exported_of, exported_names, name_list, declared_of, module_names}
use Rattle.esm_grammar.specs.ModuleText.{Spells}
use Rattle.esm_grammar.specs.Statements.{BindingAt, with_value, without, MoreBindings, no_binding, a_binding, BindingsAt, some_bindings, StmtAt, a_block, an_empty, a_const, a_let, an_if, an_if_else, a_try, a_catch, a_throw, a_return, a_return_value, an_await_statement, an_assign, a_print_await, an_expression}
use Rattle.esm_grammar.specs.Items.{Listed, closed, element, AfterElement, closes, comma, ImportSpecifierAt, imported_as, imported, ExportSpecifierAt, exported_as, exported, a_space, NamesAt, whole_space, named, ClauseAt, names, default_alone, default_and, ExportAt, export_all, export_all_as, export_from, export_list, export_declaration, export_function, export_default_named, export_default_unnamed, export_default_value, ItemAt, import_effect, import_from, an_export, a_function, a_statement, ItemsAt, no_item, an_item}
use Rattle.esm_ast.proofs.Scalars.{AreScalars, scalars_tail, scalars_before, scalars_behind, body_scalars}

-- ---- the texts of tokens

abbrev AreTexts : List Lexeme → Type 0
AreTexts ts = AllByRecursion (λ (l : Lexeme). IsUtf8 l.text) ts

token_text : {kind : TokenKind} {cs text after : List ℕ} {terminal : Terminal} → IsToken kind cs terminal text after → AreScalars cs → IsUtf8 text × AreScalars after
token_text (a_word {text} {after} s e w) h =
    let k : AreScalars (s ++ after) = subst AreScalars e h in
    ((s, (scalars_before s after k, refl)), scalars_behind s after k)
token_text (a_literal {q} {cs} {v} {after} h d) s = let b = body_scalars d (scalars_tail q cs s) in ((v, (b.0, refl)), b.1)
token_text (a_sign {text} {after} s e p) h = (IsUtf8-nil, scalars_behind s after (subst AreScalars e h))

dropped : (n : ℕ) (cs : List ℕ) → AreScalars cs → AreScalars (drop n cs)
dropped zero cs h = h
dropped (suc n) [] h = refl
dropped (suc n) (c ∷ cs) h = dropped n cs (scalars_tail c cs h)

texts_of : {total : ℕ} {line whole : Bool} {cs : List ℕ} {ts : List Lexeme} → Lexes total line cs ts whole → AreScalars cs → AreTexts ts
texts_of all_read s = tt
texts_of (stuck g n) s = tt
texts_of (blank {n} {cs = cs} g d) s = texts_of d (dropped n cs s)
texts_of (token g l d) s = let t = token_text l.token s in (t.0, texts_of d t.1)

pub spelled_texts : (bytes : List ℕ) (items : List Item) (s : Spells bytes items) → AreTexts s.ts
spelled_texts bytes items s = texts_of s.tokens.tokens.lexes (dropped (hashbang_len (chars (without_mark bytes))) (chars (without_mark bytes)) (scalars-chars (without_mark bytes) s.tokens.tokens.utf8))

nth_text : (ts : List Lexeme) (i : ℕ) → AreTexts ts → IsUtf8 (slice_index_or ts i no_lexeme).text
nth_text [] i h = IsUtf8-nil
nth_text (l ∷ ls) zero h = h.0
nth_text (l ∷ ls) (suc i) h = nth_text ls i h.1

default_text : IsUtf8 (codes "default")
default_text =
    IsUtf8-from_ascii (codes "default") (IsAscii-from_all (codes "default") (All-from_recursion (λ b. b < 128) (codes "default")
    (omega arith, (omega arith, (omega arith, (omega arith, (omega arith, (omega arith, (omega arith, tt)))))))))

-- ---- names

abbrev Named : List Text → Type 0
Named xs = AllByRecursion IsUtf8 xs

both : (xs ys : List Text) → Named xs → Named ys → Named (xs ++ ys)
both [] ys h k = k
both (x ∷ xs) ys h k = (h.0, both xs ys h.1 k)

module _ (ts : List Lexeme) (t : AreTexts ts) where
  text_is : (i : ℕ) → IsUtf8 (text_at ts i)
  unfolding text_at
  text_is i = nth_text ts i t

  binding_name : {inside constant : Bool} {i j : ℕ} {n : List ℕ} {v : Init} → BindingAt ts inside constant i n v j → IsUtf8 n
  binding_name (with_value h e d) = text_is _
  binding_name (without h e c) = text_is _

  more_names : {inside constant : Bool} {i j : ℕ} {bs : Bindings} → MoreBindings ts inside constant i bs j → Named (names_of bs)
  unfolding names_of
  more_names (no_binding h) = tt
  more_names (a_binding h b d) = (binding_name b, more_names d)

  bindings_names : {inside constant : Bool} {i j : ℕ} {bs : Bindings} → BindingsAt ts inside constant i bs j → Named (names_of bs)
  unfolding names_of
  bindings_names (some_bindings b d) = (binding_name b, more_names d)

  stmt_names : {inside : Bool} {i j : ℕ} {s : Stmt} → StmtAt ts inside i s j → Named (declared_names s)
  unfolding declared_names
  stmt_names (a_block b) = tt
  stmt_names (an_empty h) = tt
  stmt_names (a_const h b e) = bindings_names b
  stmt_names (a_let h b e) = bindings_names b
  stmt_names (an_if h o d c b l) = tt
  stmt_names (an_if_else h o d c b l f) = tt
  stmt_names (a_try h b c o f) = tt
  stmt_names (a_catch h b c o x l f) = tt
  stmt_names (a_throw h l d e) = tt
  stmt_names (a_return h s v e) = tt
  stmt_names (a_return_value h s v d e) = tt
  stmt_names (an_await_statement h b d e) = tt
  stmt_names (an_assign h d e) = tt
  stmt_names (a_print_await h b d c e) = tt
  stmt_names (an_expression o a b d e) = tt

  exported_statement : {inside : Bool} {i j : ℕ} {s : Stmt} → StmtAt ts inside i s j → Named (statement_exported s)
  unfolding statement_exported declared_names
  exported_statement (a_block b) = tt
  exported_statement (an_empty h) = tt
  exported_statement (a_const h b e) = bindings_names b
  exported_statement (a_let h b e) = bindings_names b
  exported_statement (an_if h o d c b l) = tt
  exported_statement (an_if_else h o d c b l f) = tt
  exported_statement (a_try h b c o f) = tt
  exported_statement (a_catch h b c o x l f) = tt
  exported_statement (a_throw h l d e) = tt
  exported_statement (a_return h s v e) = tt
  exported_statement (a_return_value h s v d e) = tt
  exported_statement (an_await_statement h b d e) = tt
  exported_statement (an_assign h d e) = tt
  exported_statement (a_print_await h b d c e) = tt
  exported_statement (an_expression o a b d e) = tt

  -- ---- lists of names

  mutual
    export_names : {i j : ℕ} {es : List ExportSpecifier} {close : Terminal} → Listed ts (ExportSpecifierAt ts) close i es j → Named (map (λ e. e.exported) es)
    export_names (closed h) = tt
    export_names (element h (exported_as a e g) d) = (text_is _, after_export d)
    export_names (element h (exported a e) d) = (text_is _, after_export d)

    after_export : {i j : ℕ} {es : List ExportSpecifier} {close : Terminal} → AfterElement ts (ExportSpecifierAt ts) close i es j → Named (map (λ e. e.exported) es)
    after_export (closes h) = tt
    after_export (comma h c d) = export_names d

  mutual
    import_names : {i j : ℕ} {bs : List ImportBinding} {close : Terminal} → Listed ts (ImportSpecifierAt ts) close i bs j → Named (map (λ b. b.local) bs)
    import_names (closed h) = tt
    import_names (element h (imported_as a e g) d) = (text_is _, after_import d)
    import_names (element h (imported a e) d) = (text_is _, after_import d)

    after_import : {i j : ℕ} {bs : List ImportBinding} {close : Terminal} → AfterElement ts (ImportSpecifierAt ts) close i bs j → Named (map (λ b. b.local) bs)
    after_import (closes h) = tt
    after_import (comma h c d) = import_names d

  names_are : {i j : ℕ} {bs : List ImportBinding} → NamesAt ts i bs j → Named (map (λ b. b.local) bs)
  names_are (whole_space (a_space s a n)) = (text_is _, tt)
  names_are (named h l) = import_names l

  clause_names : {i j : ℕ} {bs : List ImportBinding} → ClauseAt ts i bs j → Named (map (λ b. b.local) bs)
  clause_names (names n d) = names_are d
  clause_names (default_alone n c) = (text_is _, tt)
  clause_names (default_and n c d) = (text_is _, names_are d)

  -- ---- items

  exports_of_export : {i j : ℕ} {x : Item} → ExportAt ts i x j → Named (exported_of x)
  unfolding exported_of statement_exported
  exports_of_export (export_all h a f) = tt
  exports_of_export (export_all_as h a n f) = (text_is _, tt)
  exports_of_export (export_from h l f g) = export_names l
  exports_of_export (export_list h l f e) = export_names l
  exports_of_export (export_declaration h d) = exported_statement d
  exports_of_export (export_function h n r) = (text_is _, tt)
  exports_of_export (export_default_named h f n r) = (default_text, tt)
  exports_of_export (export_default_unnamed h f n r) = (default_text, tt)
  exports_of_export (export_default_value h f v e) = (default_text, tt)

  exports_of_item : {i j : ℕ} {x : Item} → ItemAt ts i x j → Named (exported_of x)
  unfolding exported_of
  exports_of_item (import_effect h l e) = tt
  exports_of_item (import_from h l c f) = tt
  exports_of_item (an_export h d) = exports_of_export d
  exports_of_item (a_function h n r) = tt
  exports_of_item (a_statement h d) = tt

  declared_by_export : {i j : ℕ} {x : Item} → ExportAt ts i x j → Named (declared_of x)
  unfolding declared_of declared_names name_list
  declared_by_export (export_all h a f) = tt
  declared_by_export (export_all_as h a n f) = tt
  declared_by_export (export_from h l f g) = tt
  declared_by_export (export_list h l f e) = tt
  declared_by_export (export_declaration h d) = stmt_names d
  declared_by_export (export_function h n r) = (text_is _, tt)
  declared_by_export (export_default_named h f n r) = (text_is _, tt)
  declared_by_export (export_default_unnamed h f n r) = tt
  declared_by_export (export_default_value h f v e) = tt

  declared_by_item : {i j : ℕ} {x : Item} → ItemAt ts i x j → Named (declared_of x)
  unfolding declared_of
  declared_by_item (import_effect h l e) = tt
  declared_by_item (import_from h l c f) = clause_names c
  declared_by_item (an_export h d) = declared_by_export d
  declared_by_item (a_function h n r) = (text_is _, tt)
  declared_by_item (a_statement h d) = stmt_names d

  exports_named : {i : ℕ} {xs : List Item} → ItemsAt ts i xs → Named (exported_names xs)
  unfolding exported_names
  exports_named (no_item h) = tt
  exports_named (an_item d ds) = both _ _ (exports_of_item d) (exports_named ds)

  declared_named : {i : ℕ} {xs : List Item} → ItemsAt ts i xs → Named (module_names xs)
  unfolding module_names
  declared_named (no_item h) = tt
  declared_named (an_item d ds) = both _ _ (declared_by_item d) (declared_named ds)

pub exports_utf8 : (bytes : List ℕ) (items : List Item) → Spells bytes items → All IsUtf8 (exported_names items)
exports_utf8 bytes items s = All-from_recursion IsUtf8 _ (exports_named s.ts (spelled_texts bytes items s) s.derived)

pub declared_utf8 : (bytes : List ℕ) (items : List Item) → Spells bytes items → All IsUtf8 (module_names items)
declared_utf8 bytes items s = All-from_recursion IsUtf8 _ (declared_named s.ts (spelled_texts bytes items s) s.derived)
