-- What is read of items is in the grammar.
use Rattle.std.proofs.Common.{◌≡◌, ◌≢◌, ℕ, zero, suc, ◌+◌, ◌≤◌, inl, inr, true, false, List, [], length, Option, Some, None, refl, subst, arith}
use Rattle.std.specs.Prelude.{nat_le}
use Rattle.std.proofs.lemmas.Bool.Decides.{nat_tests}
use Rattle.esm_tree.specs.declared.node.ImportBinding.{ImportBinding}
use Rattle.esm_tree.specs.declared.node.ExportSpecifier.{ExportSpecifier}
use Rattle.esm_tree.specs.Syntax.{Stmts, Item, ExportFunction, Function}
use Rattle.esm_tree.specs.declared.lexeme.Terminal.{Terminal}
use Rattle.esm_tree.specs.declared.lexeme.Terminal.TheVariants as t
use Rattle.esm_tree.specs.Lexeme.{Lexeme}
use Rattle.esm_grammar.specs.Lexeme.{terminal_at, text_at, is_name}
use Rattle.esm_grammar.specs.Reading.{Read, same}
use Rattle.esm_grammar.specs.ReadingLists.{many}
use Rattle.esm_grammar.specs.Items.{Listed, closed, element, AfterElement, closes, comma, ParameterAt, a_parameter, ImportSpecifierAt, imported_as, imported, ExportSpecifierAt, exported_as, exported, SpaceAt, a_space, NamesAt, whole_space, named, ClauseAt, names, default_alone, default_and, FromAt, a_from, RestAt, a_rest, is_import_form, is_form, is_declaration, ExportAt, export_all, export_all_as, export_from, export_list, export_declaration, export_function, export_default_named, export_default_unnamed, export_default_value, ItemAt, import_effect, import_from, an_export, a_function, a_statement, ItemsAt, no_item, an_item}
use Rattle.esm_grammar.specs.ReadingItems as r
use Rattle.esm_grammar.proofs.Basics.{bind_ok, chosen, guard_ok, from_some, same_is, same_not}
use Rattle.esm_grammar.proofs.Many.{many_ok, many_never}
use Rattle.esm_grammar.proofs.SoundStatements as sound
use Rattle.esm_grammar.proofs.SoundStatements.{ended}

module _ (ts : List Lexeme) where
  module _ {A : Type 0} (Element : ℕ → A → ℕ → Type 0) (one : ℕ → Read A) (ok : (i : ℕ) (x : A × ℕ) → one i ≡ Some x → Element i x.0 x.1) (close : Terminal) (other : close ≢ t.Comma) where
    abbrev StepIs : ℕ → Option A × ℕ → Type 0
    StepIs i (None, j) = (terminal_at ts i ≡ close) × (i + 1 ≡ j)
    StepIs i (Some a, j) = (terminal_at ts i ≢ close) × ((k : ℕ) × (Element i a k × ((as' : List A) (m : ℕ) → Listed ts Element close j as' m → AfterElement ts Element close k as' m)))

    -- behind an element where the list closes, nothing but the close is left
    at_close : {k m : ℕ} {as' : List A} → terminal_at ts k ≡ close → Listed ts Element close k as' m → AfterElement ts Element close k as' m
    at_close e (closed h) = closes h
    at_close e (element h d f) = absurd (h e)

    listed_step : (i : ℕ) (x : Option A × ℕ) → r.listed_step ts one close i ≡ Some x → StepIs i x
    unfolding r.listed_step
    listed_step i x h = elim (chosen _ _ _ _ h) [
      | inl p ↦ from_some (StepIs i) p.1 (same_is _ _ p.0, refl)
      | inr p ↦
          let a = bind_ok _ _ _ p.1 in
          let read = ok i a.0 a.1 in
          elim (chosen _ _ _ _ a.2) [
            | inl q ↦ from_some (StepIs i) q.1 (same_not _ _ p.0, (a.0.1, (read, λ as' m d. at_close (same_is _ _ q.0) d)))
            | inr q ↦
                let c = guard_ok _ _ _ q.1 in
                from_some (StepIs i) c.1 (same_not _ _ p.0, (a.0.1, (read, λ as' m d. comma (same_not _ _ q.0) (same_is _ _ c.0) d)))
          ]
    ]

    pub listed : (n i : ℕ) (x : List A × ℕ) → r.listed ts one close n i ≡ Some x → Listed ts Element close i x.0 x.1
    unfolding r.listed
    listed zero i x h = absurd (many_never _ _ _ _ _ h)
    listed (suc n) i x h = elim (many_ok _ _ _ _ _ _ h) [
      | inl (j, (s, e)) ↦
          let k = listed_step i (None, j) s in
          subst (λ y. Listed ts Element close i y.0 y.1) e (subst (λ q. Listed ts Element close i [] q) k.1 (closed k.0))
      | inr (a, (j, (l, (s, (f, e))))) ↦
          let k = listed_step i (Some a, j) s in
          subst (λ y. Listed ts Element close i y.0 y.1) e (element k.0 k.1.1.0 (k.1.1.1 l.0 l.1 (listed n j l f)))
    ]

  parameter : (i : ℕ) (x : List ℕ × ℕ) → r.parameter ts i ≡ Some x → ParameterAt ts i x.0 x.1
  unfolding r.parameter
  parameter i x h = let c = guard_ok _ _ _ h in from_some (λ y. ParameterAt ts i y.0 y.1) c.1 (a_parameter c.0)

  imported_name : (i : ℕ) (x : ImportBinding × ℕ) → r.imported_name ts i ≡ Some x → ImportSpecifierAt ts i x.0 x.1
  unfolding r.imported_name
  imported_name i x h = elim (chosen _ _ _ _ h) [
    | inl p ↦ let c = guard_ok _ _ _ p.1 in let d = guard_ok _ _ _ c.1 in from_some (λ y. ImportSpecifierAt ts i y.0 y.1) d.1 (imported_as (same_is _ _ p.0) c.0 d.0)
    | inr p ↦ let c = guard_ok _ _ _ p.1 in from_some (λ y. ImportSpecifierAt ts i y.0 y.1) c.1 (imported (same_not _ _ p.0) c.0)
  ]

  exported_name : (i : ℕ) (x : ExportSpecifier × ℕ) → r.exported_name ts i ≡ Some x → ExportSpecifierAt ts i x.0 x.1
  unfolding r.exported_name
  exported_name i x h =
      let c = guard_ok _ _ _ h in
      elim (chosen _ _ _ _ c.1) [
        | inl p ↦ let d = guard_ok _ _ _ p.1 in from_some (λ y. ExportSpecifierAt ts i y.0 y.1) d.1 (exported_as (same_is _ _ p.0) c.0 d.0)
        | inr p ↦ from_some (λ y. ExportSpecifierAt ts i y.0 y.1) p.1 (exported (same_not _ _ p.0) c.0)
      ]

  space : (i : ℕ) (x : ImportBinding × ℕ) → terminal_at ts i ≡ t.Star → r.space ts i ≡ Some x → SpaceAt ts i x.0 x.1
  unfolding r.space
  space i x e h = let c = guard_ok _ _ _ h in let d = guard_ok _ _ _ c.1 in from_some (λ y. SpaceAt ts i y.0 y.1) d.1 (a_space e (same_is _ _ c.0) d.0)

  from : (i : ℕ) (x : List ℕ × ℕ) → r.from ts i ≡ Some x → FromAt ts i x.0 x.1
  unfolding r.from
  from i x h =
      let c = guard_ok _ _ _ h in
      let d = guard_ok _ _ _ c.1 in
      ended ts false (FromAt ts i) _ _ x d.1 (λ j e. a_from (same_is _ _ c.0) (same_is _ _ d.0) e)

  module _ (n : ℕ) where
    names_at : (i : ℕ) (x : List ImportBinding × ℕ) → r.names ts n i ≡ Some x → NamesAt ts i x.0 x.1
    unfolding r.names
    names_at i x h = elim (chosen _ _ _ _ h) [
      | inl p ↦ let a = bind_ok _ _ _ p.1 in from_some (λ y. NamesAt ts i y.0 y.1) a.2 (whole_space (space i a.0 (same_is _ _ p.0) a.1))
      | inr p ↦ let c = guard_ok _ _ _ p.1 in named (same_is _ _ c.0) (listed (ImportSpecifierAt ts) (r.imported_name ts) imported_name t.BraceClose (λ e. cc) n (i + 1) x c.1)
    ]

    clause : (i : ℕ) (x : List ImportBinding × ℕ) → r.clause ts n i ≡ Some x → ClauseAt ts i x.0 x.1
    unfolding r.clause
    clause i x h = elim (chosen _ _ _ _ h) [
      | inl p ↦ elim (chosen _ _ _ _ p.1) [
        | inl q ↦ let a = bind_ok _ _ _ q.1 in from_some (λ y. ClauseAt ts i y.0 y.1) a.2 (default_and p.0 (same_is _ _ q.0) (names_at (i + 2) a.0 a.1))
        | inr q ↦ from_some (λ y. ClauseAt ts i y.0 y.1) q.1 (default_alone p.0 (same_not _ _ q.0))
      ]
      | inr p ↦ names p.0 (names_at i x p.1)
    ]

    abbrev At : ℕ → Item × ℕ → Type 0
    At i x = ItemAt ts i x.0 x.1

    abbrev Behind : ℕ → Item × ℕ → Type 0
    Behind i x = ExportAt ts i x.0 x.1

    import_form : (i : ℕ) (x : Item × ℕ) → is_import_form ts i ≡ true → r.import_form ts n i ≡ Some x → At i x
    unfolding r.import_form
    import_form i x c h = elim (chosen _ _ _ _ h) [
      | inl p ↦ ended ts false (ItemAt ts i) _ _ x p.1 (λ j e. import_effect c (same_is _ _ p.0) e)
      | inr p ↦
          let a = bind_ok _ _ _ p.1 in
          let b = bind_ok _ _ _ a.2 in
          from_some (At i) b.2 (import_from c (same_not _ _ p.0) (clause (i + 1) a.0 a.1) (from a.0.1 b.0 b.1))
    ]

    rest : (P : Item → ℕ → Type 0) (make : List (List ℕ) → Stmts → Item) (i : ℕ) (x : Item × ℕ) → r.rest ts n make i ≡ Some x → ((ps : List (List ℕ)) (ss : Stmts) (j : ℕ) → RestAt ts i ps ss j → P (make ps ss) j) → P x.0 x.1
    unfolding r.rest
    rest P make i x h f =
        let c = guard_ok _ _ _ h in
        let a = bind_ok _ _ _ c.1 in
        let b = bind_ok _ _ _ a.2 in
        from_some (λ y. P y.0 y.1) b.2 (f a.0.0 b.0.0 b.0.1 (a_rest (same_is _ _ c.0) (listed (ParameterAt ts) (r.parameter ts) parameter t.Close (λ e. cc) n (i + 1) a.0 a.1) (sound.block ts n true n a.0.1 b.0 b.1)))

    function_form : (P : Item → ℕ → Type 0) (make : List ℕ → List (List ℕ) → Stmts → Item) (i : ℕ) (x : Item × ℕ) → r.function_form ts n make i ≡ Some x
        → ((ps : List (List ℕ)) (ss : Stmts) (j : ℕ) → is_name (terminal_at ts (i + 1)) ≡ true → RestAt ts (i + 2) ps ss j → P (make (text_at ts (i + 1)) ps ss) j) → P x.0 x.1
    unfolding r.function_form
    function_form P make i x h f = let c = guard_ok _ _ _ h in rest P _ _ x c.1 (λ ps ss j d. f ps ss j c.0 d)

    export_all_form : (i : ℕ) (x : Item × ℕ) → terminal_at ts i ≡ t.Star → r.export_all_form ts n i ≡ Some x → Behind i x
    unfolding r.export_all_form
    export_all_form i x e h = elim (chosen _ _ _ _ h) [
      | inl p ↦
          let c = guard_ok _ _ _ p.1 in
          let a = bind_ok _ _ _ c.1 in
          from_some (Behind i) a.2 (export_all_as e (same_is _ _ p.0) c.0 (from (i + 3) a.0 a.1))
      | inr p ↦
          let a = bind_ok _ _ _ p.1 in
          from_some (Behind i) a.2 (export_all e (same_not _ _ p.0) (from (i + 1) a.0 a.1))
    ]

    export_list_form : (i : ℕ) (x : Item × ℕ) → terminal_at ts i ≡ t.BraceOpen → r.export_list_form ts n i ≡ Some x → Behind i x
    unfolding r.export_list_form
    export_list_form i x e h =
        let a = bind_ok _ _ _ h in
        let es = listed (ExportSpecifierAt ts) (r.exported_name ts) exported_name t.BraceClose (λ e. cc) n (i + 1) a.0 a.1 in
        elim (chosen _ _ _ _ a.2) [
          | inl p ↦ let b = bind_ok _ _ _ p.1 in from_some (Behind i) b.2 (export_from e es (same_is _ _ p.0) (from a.0.1 b.0 b.1))
          | inr p ↦ ended ts false (ExportAt ts i) _ _ x p.1 (λ j f. export_list e es (same_not _ _ p.0) f)
        ]

    export_default_form : (i : ℕ) (x : Item × ℕ) → terminal_at ts i ≡ t.Default → r.export_default_form ts n i ≡ Some x → Behind i x
    unfolding r.export_default_form
    export_default_form i x e h = elim (chosen _ _ _ _ h) [
      | inl p ↦ elim (chosen _ _ _ _ p.1) [
        | inl q ↦ rest (ExportAt ts i) _ _ x q.1 (λ ps ss j d. export_default_named e (same_is _ _ p.0) q.0 d)
        | inr q ↦ rest (ExportAt ts i) _ _ x q.1 (λ ps ss j d. export_default_unnamed e (same_is _ _ p.0) q.0 d)
      ]
      | inr p ↦
          let a = bind_ok _ _ _ p.1 in
          ended ts false (ExportAt ts i) _ _ x a.2 (λ j f. export_default_value e (same_not _ _ p.0) (sound.init ts n false (i + 1) a.0 a.1) f)
    ]

    export_statement : (i : ℕ) (x : Item × ℕ) → is_declaration ts i ≡ true → r.export_statement ts n i ≡ Some x → Behind i x
    unfolding r.export_statement
    export_statement i x e h = let a = bind_ok _ _ _ h in from_some (Behind i) a.2 (export_declaration e (sound.stmt ts n false n i a.0 a.1))

    const_declares : (i : ℕ) → terminal_at ts i ≡ t.Const → is_declaration ts i ≡ true
    unfolding is_declaration same
    const_declares i e = rw e refl

    let_declares : (i : ℕ) → terminal_at ts i ≡ t.Let → is_declaration ts i ≡ true
    unfolding is_declaration same
    let_declares i e = rw e refl

    export_by : (s : Terminal) (i : ℕ) (x : Item × ℕ) → terminal_at ts i ≡ s → r.export_by ts n s i ≡ Some x → Behind i x
    export_by t.Star i x e h = export_all_form i x e h
    export_by t.BraceOpen i x e h = export_list_form i x e h
    export_by t.Const i x e h = export_statement i x (const_declares i e) h
    export_by t.Let i x e h = export_statement i x (let_declares i e) h
    export_by t.Function i x e h = function_form (ExportAt ts i) ExportFunction i x h (λ ps ss j c d. export_function e c d)
    export_by t.Default i x e h = export_default_form i x e h
    export_by _ i x e h = absurd (cc)

    export_form : (i : ℕ) (x : Item × ℕ) → r.export_form ts n i ≡ Some x → Behind i x
    unfolding r.export_form
    export_form i x h = export_by (terminal_at ts i) i x refl h

    no_form : (i : ℕ) → is_import_form ts i ≡ false → same (terminal_at ts i) t.Export ≡ false → same (terminal_at ts i) t.Function ≡ false → is_form ts i ≡ false
    unfolding is_form
    no_form i a b c = rw (a, b, c) refl

    item : (i : ℕ) (x : Item × ℕ) → r.item ts n i ≡ Some x → At i x
    unfolding r.item
    item i x h = elim (chosen _ _ _ _ h) [
      | inl p ↦ import_form i x p.0 p.1
      | inr p ↦ elim (chosen _ _ _ _ p.1) [
        | inl q ↦ an_export (same_is _ _ q.0) (export_form (i + 1) x q.1)
        | inr q ↦ elim (chosen _ _ _ _ q.1) [
          | inl f ↦ function_form (ItemAt ts i) Function i x f.1 (λ ps ss j c d. a_function (same_is _ _ f.0) c d)
          | inr f ↦
              let a = bind_ok _ _ _ f.1 in
              from_some (At i) a.2 (a_statement (no_form i p.0 q.0 f.0) (sound.stmt ts n false n i a.0 a.1))
        ]
      ]
    ]

    abbrev ItemStepIs : ℕ → Option Item × ℕ → Type 0
    ItemStepIs i (None, j) = (length ts ≤ i) × (i ≡ j)
    ItemStepIs i (Some a, j) = ItemAt ts i a j

    at_least : (m k : ℕ) → nat_le m k ≡ true → m ≤ k
    at_least m k h = grind (arith, nat_tests)

    item_step : (i : ℕ) (x : Option Item × ℕ) → r.item_step ts n i ≡ Some x → ItemStepIs i x
    unfolding r.item_step
    item_step i x h = elim (chosen _ _ _ _ h) [
      | inl p ↦ from_some (ItemStepIs i) p.1 (at_least (length ts) i p.0, refl)
      | inr p ↦ let a = bind_ok _ _ _ p.1 in from_some (ItemStepIs i) a.2 (item i a.0 a.1)
    ]

    pub items : (m i : ℕ) (x : List Item × ℕ) → many [] r.cons (r.item_step ts n) m i ≡ Some x → ItemsAt ts i x.0
    items zero i x h = absurd (many_never _ _ _ _ _ h)
    items (suc m) i x h = elim (many_ok _ _ _ _ _ _ h) [
      | inl (j, (s, e)) ↦
          let k = item_step i (None, j) s in
          subst (λ y. ItemsAt ts i y.0) e (no_item k.0)
      | inr (a, (j, (l, (s, (f, e))))) ↦
          let k = item_step i (Some a, j) s in
          subst (λ y. ItemsAt ts i y.0) e (an_item k (items m j l f))
    ]

  pub module_items : (x : List Item × ℕ) → r.module_items ts ≡ Some x → ItemsAt ts 0 x.0
  unfolding r.module_items r.items
  module_items x h = items (length ts + 2) (length ts + 2) 0 x h
