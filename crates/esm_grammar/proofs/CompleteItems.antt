-- What is in the grammar of items is read, where the numbers are large enough; so the tokens spell at most one module.
use Rattle.std.proofs.Common.{◌≡◌, ◌≢◌, ℕ, zero, suc, ◌+◌, ◌<◌, ◌≤◌, Bool, true, false, ◌||◌, List, [], ◌∷◌, length, Some, None, refl, sym, ◌∙◌, arith}
use Rattle.std.specs.Prelude.{nat_le}
use Rattle.std.proofs.lemmas.Bool.Decides.{nat_tests}
use Rattle.esm_tree.specs.declared.node.ImportBinding.{ImportBinding}
use Rattle.esm_tree.specs.declared.node.ExportSpecifier.{ExportSpecifier}
use Rattle.esm_tree.specs.Syntax.{Stmts, Item}
use Rattle.esm_tree.specs.declared.lexeme.Terminal.{Terminal}
use Rattle.esm_tree.specs.declared.lexeme.Terminal.TheVariants as t
use Rattle.esm_tree.specs.Lexeme.{Lexeme}
use Rattle.esm_grammar.specs.Lexeme.{terminal_at}
use Rattle.esm_grammar.specs.Reading.{Read, ◌>>=◌, pick, same}
use Rattle.esm_grammar.specs.ReadingLists.{many}
use Rattle.esm_grammar.specs.Items.{is_export_name, Listed, closed, element, AfterElement, closes, comma, ParameterAt, a_parameter, ImportSpecifierAt, imported_as, imported, ExportSpecifierAt, exported_as, exported, SpaceAt, a_space, NamesAt, whole_space, named, ClauseAt, names, default_alone, default_and, FromAt, a_from, RestAt, a_rest, is_import_form, is_form, is_declaration, ExportAt, export_all, export_all_as, export_from, export_list, export_declaration, export_function, export_default_named, export_default_unnamed, export_default_value, ItemAt, import_effect, import_from, an_export, a_function, a_statement, ItemsAt, no_item, an_item}
use Rattle.esm_grammar.specs.ReadingItems as r
use Rattle.esm_grammar.proofs.Basics.{from_some, is_same, not_same, there}
use Rattle.esm_grammar.proofs.Many.{many_ends, many_goes_on}
use Rattle.esm_grammar.proofs.Within.{there_at, name_at}
use Rattle.esm_grammar.proofs.WithinStatements.{ends_within, init_within, stmt_within, block_within}
use Rattle.esm_grammar.proofs.CompleteStatements.{end_complete, init_complete, complete_stmt, block_complete}

module _ (ts : List Lexeme) where
  abbrev Within : {A : Type 0} → (ℕ → A → ℕ → Type 0) → Type 0
  Within {A} P = (i j : ℕ) (a : A) → P i a j → (i < j) × (j ≤ length ts)

  module _ {A : Type 0} (Element : ℕ → A → ℕ → Type 0) (one : ℕ → Read A) (all : (i : ℕ) (a : A) (j : ℕ) → Element i a j → one i ≡ Some (a, j)) (inner : Within Element) (close : Terminal) (no_end : close ≢ t.End) where
    mutual
      pub listed_within : {i j : ℕ} {as' : List A} → Listed ts Element close i as' j → (i < j) × (j ≤ length ts)
      listed_within (closed {i} h) = let p = there_at ts i close h no_end in (omega arith, omega arith)
      listed_within (element {i} {j} {k} {a} h d f) = let p = inner i k a d in let q = after_within f in (omega (arith, p.0, q.0), q.1)

      after_within : {i j : ℕ} {as' : List A} → AfterElement ts Element close i as' j → (i < j) × (j ≤ length ts)
      after_within (closes {i} h) = let p = there_at ts i close h no_end in (omega arith, omega arith)
      after_within (comma h c f) = let q = listed_within f in (omega (arith, q.0), q.1)

    step_ends : (i : ℕ) → terminal_at ts i ≡ close → r.listed_step ts one close i ≡ Some (None, i + 1)
    unfolding r.listed_step pick
    step_ends i h = rw (is_same _ _ h) refl

    step_last : (i k : ℕ) (a : A) → terminal_at ts i ≢ close → Element i a k → terminal_at ts k ≡ close → r.listed_step ts one close i ≡ Some (Some a, k)
    unfolding r.listed_step pick ◌>>=◌
    step_last i k a h d c = rw (not_same _ _ h, all i a k d, is_same _ _ c) refl

    step_comma : (i k : ℕ) (a : A) → terminal_at ts i ≢ close → Element i a k → terminal_at ts k ≢ close → terminal_at ts k ≡ t.Comma → r.listed_step ts one close i ≡ Some (Some a, k + 1)
    unfolding r.listed_step pick ◌>>=◌
    step_comma i k a h d x c = rw (not_same _ _ h, all i a k d, not_same _ _ x, is_same _ _ c) refl

    at_once : (k : ℕ) → terminal_at ts k ≡ close → (n : ℕ) → length ts < k + n → r.listed ts one close n k ≡ Some ([], k + 1)
    unfolding r.listed
    at_once k c zero lt = let p = there_at ts k close c no_end in absurd (omega arith)
    at_once k c (suc n) lt = many_ends [] r.cons (r.listed_step ts one close) n k (k + 1) (step_ends k c)

    mutual
      unfolding r.listed

      pub listed_complete : {i j : ℕ} {as' : List A} → Listed ts Element close i as' j → (n : ℕ) → length ts < i + n → r.listed ts one close n i ≡ Some (as', j)
      listed_complete (closed {i} h) zero lt = let p = there_at ts i close h no_end in absurd (omega arith)
      listed_complete (closed {i} h) (suc n) lt = many_ends [] r.cons (r.listed_step ts one close) n i (i + 1) (step_ends i h)
      listed_complete (element {i} {j} {k} {a} h d f) zero lt = let p = inner i k a d in absurd (omega (arith, p.0, p.1))
      listed_complete (element {i} {j} {k} {a} h d f) (suc n) lt = let p = inner i k a d in after_complete i a h d f n (omega (arith, p.0))

      after_complete : (i : ℕ) (a : A) {k j : ℕ} {as' : List A} → terminal_at ts i ≢ close → Element i a k → AfterElement ts Element close k as' j → (n : ℕ) → length ts < k + n → r.listed ts one close (suc n) i ≡ Some (a ∷ as', j)
      after_complete i a h d (closes {i = k} c) n lt = many_goes_on [] r.cons (r.listed_step ts one close) n i k a [] (k + 1) (step_last i k a h d c) (at_once k c n lt)
      after_complete i a h d (comma {i = k} {j = j} {as' = others} x c f) n lt = many_goes_on [] r.cons (r.listed_step ts one close) n i (k + 1) a others j (step_comma i k a h d x c) (listed_complete f n (omega arith))

  export_name_at : (i : ℕ) → is_export_name (terminal_at ts i) ≡ true → i < length ts
  unfolding is_export_name
  export_name_at i h = there ts i (λ e. absurd (let k : is_export_name t.End ≡ true = rw e at h in cc))

  parameter_all : (i : ℕ) (a : List ℕ) (j : ℕ) → ParameterAt ts i a j → r.parameter ts i ≡ Some (a, j)
  unfolding r.parameter pick
  parameter_all i _ _ (a_parameter h) = rw h refl

  parameter_inner : Within (ParameterAt ts)
  parameter_inner i _ _ (a_parameter h) = let p = name_at ts i h in (omega arith, omega arith)

  imported_all : (i : ℕ) (a : ImportBinding) (j : ℕ) → ImportSpecifierAt ts i a j → r.imported_name ts i ≡ Some (a, j)
  unfolding r.imported_name pick
  imported_all i _ _ (imported_as h e n) = rw (is_same _ _ h, e, n) refl
  imported_all i _ _ (imported h n) = rw (not_same _ _ h, n) refl

  imported_inner : Within (ImportSpecifierAt ts)
  imported_inner i _ _ (imported_as h e n) = let p = name_at ts (i + 2) n in (omega arith, omega arith)
  imported_inner i _ _ (imported h n) = let p = name_at ts i n in (omega arith, omega arith)

  exported_all : (i : ℕ) (a : ExportSpecifier) (j : ℕ) → ExportSpecifierAt ts i a j → r.exported_name ts i ≡ Some (a, j)
  unfolding r.exported_name pick
  exported_all i _ _ (exported_as h e n) = rw (e, is_same _ _ h, n) refl
  exported_all i _ _ (exported h e) = rw (e, not_same _ _ h) refl

  exported_inner : Within (ExportSpecifierAt ts)
  exported_inner i _ _ (exported_as h e n) = let p = export_name_at (i + 2) n in (omega arith, omega arith)
  exported_inner i _ _ (exported h e) = let p = export_name_at i e in (omega arith, omega arith)

  from_complete : {i j : ℕ} {s : List ℕ} → FromAt ts i s j → r.from ts i ≡ Some (s, j)
  unfolding r.from pick
  from_complete (a_from h l e) = rw (is_same _ _ h, is_same _ _ l) (end_complete ts _ e)

  from_within : {i j : ℕ} {s : List ℕ} → FromAt ts i s j → (i < j) × (j ≤ length ts)
  from_within (a_from {i} h l e) = let p = there_at ts (i + 1) t.Literal l (λ e. cc) in let q = ends_within ts e (omega arith) in (omega (arith, q.0), q.1)

  space_within : {i j : ℕ} {b : ImportBinding} → SpaceAt ts i b j → (i < j) × (j ≤ length ts)
  space_within (a_space {i} h a n) = let p = name_at ts (i + 2) n in (omega arith, omega arith)

  names_within : {i j : ℕ} {bs : List ImportBinding} → NamesAt ts i bs j → (i < j) × (j ≤ length ts)
  names_within (whole_space s) = space_within s
  names_within (named {i} h d) = let q = listed_within (ImportSpecifierAt ts) (r.imported_name ts) imported_all imported_inner t.BraceClose (λ e. cc) d in (omega (arith, q.0), q.1)

  clause_within : {i j : ℕ} {bs : List ImportBinding} → ClauseAt ts i bs j → (i < j) × (j ≤ length ts)
  clause_within (names h d) = names_within d
  clause_within (default_alone {i} h c) = let p = name_at ts i h in (omega arith, omega arith)
  clause_within (default_and h c d) = let p = names_within d in (omega (arith, p.0), p.1)

  rest_within : {i j : ℕ} {ps : List (List ℕ)} {ss : Stmts} → RestAt ts i ps ss j → (i < j) × (j ≤ length ts)
  rest_within (a_rest h d b) =
      let p = listed_within (ParameterAt ts) (r.parameter ts) parameter_all parameter_inner t.Close (λ e. cc) d in
      let q = block_within ts true b in
      (omega (arith, p.0, q.0), q.1)

  export_within : {i j : ℕ} {x : Item} → ExportAt ts i x j → (i < j) × (j ≤ length ts)
  export_within (export_all h a f) = let p = from_within f in (omega (arith, p.0), p.1)
  export_within (export_all_as h a n f) = let p = from_within f in (omega (arith, p.0), p.1)
  export_within (export_from h d f g) =
      let p = listed_within (ExportSpecifierAt ts) (r.exported_name ts) exported_all exported_inner t.BraceClose (λ e. cc) d in
      let q = from_within g in
      (omega (arith, p.0, q.0), q.1)
  export_within (export_list h d f e) =
      let p = listed_within (ExportSpecifierAt ts) (r.exported_name ts) exported_all exported_inner t.BraceClose (λ e. cc) d in
      let q = ends_within ts e p.1 in
      (omega (arith, p.0, q.0), q.1)
  export_within (export_declaration h d) = stmt_within ts false d
  export_within (export_function h n d) = let p = rest_within d in (omega (arith, p.0), p.1)
  export_within (export_default_named h f n d) = let p = rest_within d in (omega (arith, p.0), p.1)
  export_within (export_default_unnamed h f n d) = let p = rest_within d in (omega (arith, p.0), p.1)
  export_within (export_default_value h f d e) = let p = init_within ts false d in let q = ends_within ts e p.1 in (omega (arith, p.0, q.0), q.1)

  pub item_within : {i j : ℕ} {x : Item} → ItemAt ts i x j → (i < j) × (j ≤ length ts)
  item_within (import_effect {i} h l e) = let p = there_at ts (i + 1) t.Literal l (λ e. cc) in let q = ends_within ts e (omega arith) in (omega (arith, q.0), q.1)
  item_within (import_from h l c f) = let p = clause_within c in let q = from_within f in (omega (arith, p.0, q.0), q.1)
  item_within (an_export h d) = let p = export_within d in (omega (arith, p.0), p.1)
  item_within (a_function h n d) = let p = rest_within d in (omega (arith, p.0), p.1)
  item_within (a_statement h d) = stmt_within ts false d

  module _ (n : ℕ) (enough : length ts + 2 ≤ n) where
    names_complete : {i j : ℕ} {bs : List ImportBinding} → NamesAt ts i bs j → r.names ts n i ≡ Some (bs, j)
    unfolding r.names r.space pick ◌>>=◌
    names_complete (whole_space (a_space h a s)) = rw (is_same _ _ h, is_same _ _ a, s) refl
    names_complete (named {i} h d) =
        let other : terminal_at ts i ≢ t.Star = λ e. cc in
        rw (not_same _ _ other, is_same _ _ h) (listed_complete (ImportSpecifierAt ts) (r.imported_name ts) imported_all imported_inner t.BraceClose (λ e. cc) d n (omega arith))

    clause_complete : {i j : ℕ} {bs : List ImportBinding} → ClauseAt ts i bs j → r.clause ts n i ≡ Some (bs, j)
    unfolding r.clause pick ◌>>=◌
    clause_complete (names h d) = rw h (names_complete d)
    clause_complete (default_alone h c) = rw (h, not_same _ _ c) refl
    clause_complete (default_and h c d) = rw (h, is_same _ _ c, names_complete d) refl

    rest_complete : (make : List (List ℕ) → Stmts → Item) {i j : ℕ} {ps : List (List ℕ)} {ss : Stmts} → RestAt ts i ps ss j → r.rest ts n make i ≡ Some (make ps ss, j)
    unfolding r.rest pick ◌>>=◌
    rest_complete make (a_rest {i} {j} {k} {ps} {ss} h d b) =
        let params : r.listed ts (r.parameter ts) t.Close n (i + 1) ≡ Some (ps, k) = listed_complete (ParameterAt ts) (r.parameter ts) parameter_all parameter_inner t.Close (λ e. cc) d n (omega arith) in
        rw (is_same _ _ h, params, block_complete ts n enough true b n (omega arith)) refl

    declares : (s : Terminal) (i : ℕ) → (same s t.Const || same s t.Let) ≡ true → r.export_by ts n s i ≡ r.export_statement ts n i
    unfolding same
    declares t.Const i h = refl
    declares t.Let i h = refl
    declares _ i h = absurd (cc)

    declared : (i : ℕ) → is_declaration ts i ≡ true → r.export_by ts n (terminal_at ts i) i ≡ r.export_statement ts n i
    unfolding is_declaration
    declared i h = declares (terminal_at ts i) i h

    export_complete : {i j : ℕ} {x : Item} → ExportAt ts i x j → r.export_by ts n (terminal_at ts i) i ≡ Some (x, j)
    unfolding r.export_all_form r.export_list_form r.export_default_form r.export_statement r.function_form pick ◌>>=◌
    export_complete (export_all h a f) = rw (h, not_same _ _ a, from_complete f) refl
    export_complete (export_all_as h a x f) = rw (h, is_same _ _ a, x, from_complete f) refl
    export_complete (export_from {i} {j} {k} {es} h d f g) =
        let list : r.listed ts (r.exported_name ts) t.BraceClose n (i + 1) ≡ Some (es, k) = listed_complete (ExportSpecifierAt ts) (r.exported_name ts) exported_all exported_inner t.BraceClose (λ e. cc) d n (omega arith) in
        rw (h, list, is_same _ _ f, from_complete g) refl
    export_complete (export_list {i} {j} {k} {es} h d f e) =
        let list : r.listed ts (r.exported_name ts) t.BraceClose n (i + 1) ≡ Some (es, k) = listed_complete (ExportSpecifierAt ts) (r.exported_name ts) exported_all exported_inner t.BraceClose (λ e. cc) d n (omega arith) in
        rw (h, list, not_same _ _ f) (end_complete ts _ e)
    export_complete (export_declaration {i} h d) = declared i h ∙ rw (complete_stmt ts n enough false d n (omega arith)) refl
    export_complete (export_function h x d) = rw (h, x) (rest_complete _ d)
    export_complete (export_default_named h f x d) = rw (h, is_same _ _ f, x) (rest_complete _ d)
    export_complete (export_default_unnamed h f x d) = rw (h, is_same _ _ f, x) (rest_complete _ d)
    export_complete (export_default_value h f d e) = rw (h, not_same _ _ f, init_complete ts n enough false d) (end_complete ts _ e)

    parts_false : (a b c : Bool) → (a || (b || c)) ≡ false → (a ≡ false) × (b ≡ false) × (c ≡ false)
    parts_false false false false h = (refl, refl, refl)
    parts_false true b c h = absurd (cc)
    parts_false false true c h = absurd (cc)
    parts_false false false true h = absurd (cc)

    no_form : (i : ℕ) → is_form ts i ≡ false → (is_import_form ts i ≡ false) × (same (terminal_at ts i) t.Export ≡ false) × (same (terminal_at ts i) t.Function ≡ false)
    unfolding is_form
    no_form i h = parts_false _ _ _ h

    no_import : (i : ℕ) → same (terminal_at ts i) t.Import ≡ false → is_import_form ts i ≡ false
    unfolding is_import_form
    no_import i h = rw h refl

    pub item_complete : {i j : ℕ} {x : Item} → ItemAt ts i x j → r.item ts n i ≡ Some (x, j)
    unfolding r.item r.import_form r.export_form r.function_form pick ◌>>=◌
    item_complete (import_effect h l e) = rw (h, is_same _ _ l) (end_complete ts _ e)
    item_complete (import_from h l c f) = rw (h, not_same _ _ l, clause_complete c, from_complete f) refl
    item_complete (an_export {i} h d) =
        let other : terminal_at ts i ≢ t.Import = λ e. cc in
        rw (no_import i (not_same _ _ other), is_same _ _ h) (export_complete d)
    item_complete (a_function {i} h x d) =
        let other : terminal_at ts i ≢ t.Import = λ e. cc in
        let another : terminal_at ts i ≢ t.Export = λ e. cc in
        rw (no_import i (not_same _ _ other), not_same _ _ another, is_same _ _ h, x) (rest_complete _ d)
    item_complete (a_statement {i} h d) =
        let p = no_form i h in
        rw (p.0, p.1, p.2, complete_stmt ts n enough false d n (omega arith)) refl

    at_end : (m k : ℕ) → m ≤ k → nat_le m k ≡ true
    at_end m k h = grind (arith, nat_tests)

    before_end : (m k : ℕ) → k < m → nat_le m k ≡ false
    before_end m k h = grind (arith, nat_tests)

    step_ends_items : (i : ℕ) → length ts ≤ i → r.item_step ts n i ≡ Some (None, i)
    unfolding r.item_step pick
    step_ends_items i le = rw (at_end (length ts) i le) refl

    step_item : {i j : ℕ} {x : Item} → i < length ts → ItemAt ts i x j → r.item_step ts n i ≡ Some (Some x, j)
    unfolding r.item_step pick ◌>>=◌
    step_item {i} lt d = rw (before_end (length ts) i lt, item_complete d) refl

    -- where the items end
    pub items_complete : {i : ℕ} {xs : List Item} → ItemsAt ts i xs → (m : ℕ) → length ts < i + m → i ≤ length ts → (j : ℕ) × (many [] r.cons (r.item_step ts n) m i ≡ Some (xs, j))
    items_complete (no_item le) zero lt in_range = absurd (omega arith)
    items_complete (no_item {i} le) (suc m) lt in_range = (i, many_ends [] r.cons (r.item_step ts n) m i i (step_ends_items i le))
    items_complete (an_item d f) zero lt in_range = let w = item_within d in absurd (omega (arith, w.0, w.1))
    items_complete (an_item {i} {k} {x} {xs} d f) (suc m) lt in_range =
        let w = item_within d in
        let r' = items_complete f m (omega (arith, w.0)) w.1 in
        (r'.0, many_goes_on [] r.cons (r.item_step ts n) m i k x xs r'.0 (step_item (omega (arith, w.0, w.1)) d) r'.1)

  pub module_complete : {xs : List Item} → ItemsAt ts 0 xs → (j : ℕ) × (r.module_items ts ≡ Some (xs, j))
  unfolding r.module_items r.items
  module_complete d = items_complete (length ts + 2) (omega arith) d (length ts + 2) (omega arith) (omega arith)

  -- the tokens are at most one list of items
  pub one_module : (xs ys : List Item) → ItemsAt ts 0 xs → ItemsAt ts 0 ys → xs ≡ ys
  one_module xs ys d e =
      let a = module_complete d in
      let b = module_complete e in
      from_some (λ (y : List Item × ℕ). xs ≡ y.0) (sym a.1 ∙ b.1) refl
