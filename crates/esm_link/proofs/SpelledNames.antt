-- No name that a text declares is `*default*`.
use Rattle.std.proofs.Common.{◌≡◌, ℕ, zero, suc, Bool, true, List, [], ◌∷◌, ◌++◌, map, refl, ap, subst, sym, ◌∙◌, arith}
use Rattle.std.specs.Prelude.{codes, slice_index_or, encode_utf8, encode_utf8_all}
use Rattle.std.specs.List.{AllByRecursion, list_all}
use Rattle.std.proofs.lemmas.Str.{encode_ascii, encode_same}
use Rattle.std.proofs.lemmas.Bool.{and_parts}
use mathlib.Core.Bool.{true≢false}
use Rattle.esm_base.specs.DefaultExport.{star_default}
use Rattle.esm_base.specs.Urls.{Text}
use Rattle.esm_tree.specs.declared.lexeme.Terminal.{Terminal}
use Rattle.esm_tree.specs.declared.token.TokenKind.{TokenKind}
use Rattle.esm_tree.specs.declared.node.ImportBinding.{ImportBinding}
use Rattle.esm_tree.specs.Syntax.{Init, Bindings, Stmt, Item}
use Rattle.esm_tree.specs.Lexeme.{Lexeme}
use Rattle.esm_grammar.specs.Characters.{starts, continues}
use Rattle.esm_grammar.specs.Lexeme.{terminal_at, text_at, no_lexeme, is_name}
use Rattle.esm_grammar.specs.Lexes.{IsToken, a_word, a_literal, a_sign, Lexes, all_read, stuck, blank, token, is_word_text}
use Rattle.esm_grammar.specs.Names.{names_of, declared_names}
use Rattle.esm_grammar.specs.EarlyErrors.{name_list, declared_of, module_names}
use Rattle.esm_grammar.specs.ModuleText.{Spells}
use Rattle.esm_grammar.specs.Statements.{BindingAt, with_value, without, MoreBindings, no_binding, a_binding, BindingsAt, some_bindings, StmtAt, a_block, an_empty, a_const, a_let, an_if, an_if_else, a_try, a_catch, a_throw, a_return, a_return_value, an_await_statement, an_assign, a_print_await, an_expression}
use Rattle.esm_grammar.specs.Items.{Listed, closed, element, AfterElement, closes, comma, ImportSpecifierAt, imported_as, imported, a_space, NamesAt, whole_space, named, ClauseAt, names, default_alone, default_and, ExportAt, export_all, export_all_as, export_from, export_list, export_declaration, export_function, export_default_named, export_default_unnamed, export_default_value, ItemAt, import_effect, import_from, an_export, a_function, a_statement, ItemsAt, no_item, an_item}
use Rattle.esm_grammar.proofs.Tokens.{sign_char, start_no_sign}

-- another name than `*default*`
abbrev pub IsPlain : Text → Type 0
IsPlain text = text ≡ star_default → ⊥

-- ---- words

star_is : star_default ≡ encode_utf8 42 ++ codes "default*"
unfolding star_default
star_is = ap (λ b. b ++ codes "default*") (sym (encode_ascii 42 (omega arith)))

starred : sign_char 42 ≡ true
unfolding sign_char
starred = refl

word_plain : (s : List ℕ) → is_word_text s ≡ true → IsPlain (encode_utf8_all s)
word_plain [] w e = absurd (true≢false (sym w))
word_plain (c ∷ cs) w e =
    let same : c ≡ 42 = (encode_same c 42 (encode_utf8_all cs) (codes "default*") (e ∙ star_is)).0 in
    let begins : starts 42 ≡ true = subst (λ c. starts c ≡ true) same (and_parts (starts c) (list_all continues cs) w).0 in
    true≢false (sym starred ∙ start_no_sign 42 begins)

nothing_plain : IsPlain []
unfolding star_default
nothing_plain e = cc

-- ---- the texts of tokens

abbrev IsPlainWord : Lexeme → Type 0
IsPlainWord l = is_name l.terminal ≡ true → IsPlain l.text

token_plain : {kind : TokenKind} {cs text after : List ℕ} {terminal : Terminal} → IsToken kind cs terminal text after → is_name terminal ≡ true → IsPlain text
token_plain (a_word s e w) n = word_plain s w
token_plain (a_literal h d) n = absurd (true≢false (sym n))
token_plain (a_sign s e p) n = nothing_plain

abbrev ArePlain : List Lexeme → Type 0
ArePlain ts = AllByRecursion IsPlainWord ts

plain_of : {total : ℕ} {line whole : Bool} {cs : List ℕ} {ts : List Lexeme} → Lexes total line cs ts whole → ArePlain ts
plain_of all_read = tt
plain_of (stuck g n) = tt
plain_of (blank g d) = plain_of d
plain_of (token g l d) = (token_plain l.token, plain_of d)

nth_plain : (ts : List Lexeme) (i : ℕ) → ArePlain ts → IsPlainWord (slice_index_or ts i no_lexeme)
nth_plain [] i h = λ n. absurd (true≢false (sym n))
nth_plain (l ∷ ls) zero h = h.0
nth_plain (l ∷ ls) (suc i) h = nth_plain ls i h.1

-- ---- names

abbrev Named : List Text → Type 0
Named xs = AllByRecursion IsPlain xs

both : (xs ys : List Text) → Named xs → Named ys → Named (xs ++ ys)
both [] ys h k = k
both (x ∷ xs) ys h k = (h.0, both xs ys h.1 k)

module _ (ts : List Lexeme) (t : ArePlain ts) where
  text_is : (i : ℕ) → is_name (terminal_at ts i) ≡ true → IsPlain (text_at ts i)
  unfolding text_at terminal_at
  text_is i n = nth_plain ts i t n

  binding_name : {inside constant : Bool} {i j : ℕ} {n : List ℕ} {v : Init} → BindingAt ts inside constant i n v j → IsPlain n
  binding_name (with_value h e d) = text_is _ h
  binding_name (without h e c) = text_is _ h

  more_names : {inside constant : Bool} {i j : ℕ} {bs : Bindings} → MoreBindings ts inside constant i bs j → Named (names_of bs)
  unfolding names_of
  more_names (no_binding h) = tt
  more_names (a_binding h b d) = (binding_name b, more_names d)

  bindings_names : {inside constant : Bool} {i j : ℕ} {bs : Bindings} → BindingsAt ts inside constant i bs j → Named (names_of bs)
  unfolding names_of
  bindings_names (some_bindings b d) = (binding_name b, more_names d)

  stmt_names : {inside : Bool} {i j : ℕ} {s : Stmt} → StmtAt ts inside i s j → Named (declared_names s)
  unfolding declared_names
  stmt_names (a_block b) = tt
  stmt_names (an_empty h) = tt
  stmt_names (a_const h b e) = bindings_names b
  stmt_names (a_let h b e) = bindings_names b
  stmt_names (an_if h o d c b l) = tt
  stmt_names (an_if_else h o d c b l f) = tt
  stmt_names (a_try h b c o f) = tt
  stmt_names (a_catch h b c o x l f) = tt
  stmt_names (a_throw h l d e) = tt
  stmt_names (a_return h s v e) = tt
  stmt_names (a_return_value h s v d e) = tt
  stmt_names (an_await_statement h b d e) = tt
  stmt_names (an_assign h d e) = tt
  stmt_names (a_print_await h b d c e) = tt
  stmt_names (an_expression o a b d e) = tt

  mutual
    import_names : {i j : ℕ} {bs : List ImportBinding} {close : Terminal} → Listed ts (ImportSpecifierAt ts) close i bs j → Named (map (λ b. b.local) bs)
    import_names (closed h) = tt
    import_names (element h (imported_as a e g) d) = (text_is _ g, after_import d)
    import_names (element h (imported a e) d) = (text_is _ e, after_import d)

    after_import : {i j : ℕ} {bs : List ImportBinding} {close : Terminal} → AfterElement ts (ImportSpecifierAt ts) close i bs j → Named (map (λ b. b.local) bs)
    after_import (closes h) = tt
    after_import (comma h c d) = import_names d

  names_are : {i j : ℕ} {bs : List ImportBinding} → NamesAt ts i bs j → Named (map (λ b. b.local) bs)
  names_are (whole_space (a_space s a n)) = (text_is _ n, tt)
  names_are (named h l) = import_names l

  clause_names : {i j : ℕ} {bs : List ImportBinding} → ClauseAt ts i bs j → Named (map (λ b. b.local) bs)
  clause_names (names n d) = names_are d
  clause_names (default_alone n c) = (text_is _ n, tt)
  clause_names (default_and n c d) = (text_is _ n, names_are d)

  declared_by_export : {i j : ℕ} {x : Item} → ExportAt ts i x j → Named (declared_of x)
  unfolding declared_of declared_names name_list
  declared_by_export (export_all h a f) = tt
  declared_by_export (export_all_as h a n f) = tt
  declared_by_export (export_from h l f g) = tt
  declared_by_export (export_list h l f e) = tt
  declared_by_export (export_declaration h d) = stmt_names d
  declared_by_export (export_function h n r) = (text_is _ n, tt)
  declared_by_export (export_default_named h f n r) = (text_is _ n, tt)
  declared_by_export (export_default_unnamed h f n r) = tt
  declared_by_export (export_default_value h f v e) = tt

  declared_by_item : {i j : ℕ} {x : Item} → ItemAt ts i x j → Named (declared_of x)
  unfolding declared_of
  declared_by_item (import_effect h l e) = tt
  declared_by_item (import_from h l c f) = clause_names c
  declared_by_item (an_export h d) = declared_by_export d
  declared_by_item (a_function h n r) = (text_is _ n, tt)
  declared_by_item (a_statement h d) = stmt_names d

  declared_named : {i : ℕ} {xs : List Item} → ItemsAt ts i xs → Named (module_names xs)
  unfolding module_names
  declared_named (no_item h) = tt
  declared_named (an_item d ds) = both _ _ (declared_by_item d) (declared_named ds)

pub names_plain : (bytes : List ℕ) (items : List Item) → Spells bytes items → AllByRecursion IsPlain (module_names items)
names_plain bytes items s = declared_named s.ts (plain_of s.tokens.tokens.lexes) s.derived
