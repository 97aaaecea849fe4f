-- A local export is of a name that the module declares, or imports as a whole; so what the code reads there is the member.
use Rattle.std.proofs.Common.{◌≡◌, ℕ, suc, Bool, true, false, List, [], ◌∷◌, ◌++◌, map, refl, ap, subst, sym, ◌∙◌}
use Rattle.std.specs.Prelude.{Option, Some, None, is_some, ⊤, Contains, codes}
use Rattle.std.specs.Str.{bytes_eq}
use Rattle.std.specs.List.{AllByRecursion}
use Rattle.std.proofs.lemmas.Slice.Eq.{bytes_eq-Decides}
use Rattle.std.proofs.lemmas.List.Elements.{All-contains, All-from_recursion}
use Rattle.esm_base.specs.DefaultExport.{star_default, or_star_default}
use Rattle.esm_tree.specs.declared.node.Wanted.{Wanted}
use Rattle.esm_tree.specs.declared.node.Wanted.TheVariants as wanted
use Rattle.esm_tree.specs.declared.node.ExportSpecifier.{ExportSpecifier}
use Rattle.esm_tree.specs.Syntax.{Bindings, no_more, binding, Stmt, Empty, Expression, Assign, Block, If, IfElse, Try, TryCatch, Throw, Return, ReturnValue, Await, PrintAwait, Const, Let, Default, Item, ImportEffect, ImportFrom, ExportAll, ExportAllAs, ExportFrom, ExportList, ExportStatement, ExportFunction, ExportDefaultFunction, Function, Statement}
use Rattle.esm_grammar.specs.Names.{names_of, declared_names}
use Rattle.esm_ast.specs.declared.entries.ImportEntry.{ImportEntry}
use Rattle.esm_ast.specs.declared.entries.LocalExport.{LocalExport}
use Rattle.esm_ast.specs.Entries.{Export, Local, Indirect, listed_by, listed_by_wanted, listed, passed_on, own_export, import_named, statement_exports, exports_of, all_exports, locals_of, entries_with, entries_of}
use Rattle.esm_values.specs.Value.{Namespace, Undefined}
use Rattle.esm_values.specs.Code.{CodeValue}
use Rattle.esm_env.specs.Declarations.{FunctionCode, Initial, Declaration, declared_by, declares, declared_in, functions_by, functions_of, onto, does, body_of, initial_by, function_named, declared_named, initial}
use Rattle.esm_env.specs.Modules.{Modules}
use Rattle.esm_env.specs.Bindings.{Target as Bound, WholeOf, Binds, import_as, whole_by, own_by}
use Rattle.esm_env.specs.Bindings.Binds.{no_import, whole, named}
use Rattle.esm_env.specs.Cells.{Cell, Reading, read_cell, cell_by}
use Rattle.esm_env.specs.Cells.{Reading as reading}
use Rattle.esm_env.specs.Reading.{read_member}
use Rattle.esm_env.specs.Scopes.{Scopes, scope_in, own_cell, import_in, import_of, read_whole, read_or, defined, cells_of}
use Rattle.esm_env.specs.Faithful.{target_in, HasScope, IsFaithful}
use Rattle.esm_env.specs.Laws.{EndsRight}
use Rattle.esm_env.specs.declared.scope.Target.{Target}
use Rattle.esm_env.specs.declared.scope.Target.TheVariants as targets
use Rattle.esm_env.specs.declared.scope.ModuleScope.{ModuleScope}
use Rattle.esm_env.proofs.FaithfulLemmas.{own_right}

-- ---- a name is declared

abbrev Declared : List Item → List ℕ → Type 0
Declared items x = is_some (initial items x) ≡ true

-- where a later part is some, the whole is
some_later : (b : Bool) (i : Initial) (o : Option Initial) → is_some o ≡ true → is_some (initial_by b i o) ≡ true
some_later true i o h = refl
some_later false i o h = h

declared_later : (ds : List Declaration) (x : List ℕ) (o : Option Initial) → is_some o ≡ true → is_some (declared_named ds x o) ≡ true
declared_later [] x o h = h
declared_later (d ∷ ds) x o h = some_later (bytes_eq d.name x) _ _ (declared_later ds x o h)

-- more names, or more behind them
grows_by : (b : Bool) (i : Initial) (o p : Option Initial) → (is_some o ≡ true → is_some p ≡ true) → is_some (initial_by b i o) ≡ true → is_some (initial_by b i p) ≡ true
grows_by true i o p k h = refl
grows_by false i o p k h = k h

declared_grows : (ds : List Declaration) (x : List ℕ) (o p : Option Initial) → (is_some o ≡ true → is_some p ≡ true) → is_some (declared_named ds x o) ≡ true → is_some (declared_named ds x p) ≡ true
declared_grows [] x o p k h = k h
declared_grows (d ∷ ds) x o p k h = grows_by (bytes_eq d.name x) _ _ _ (declared_grows ds x o p k) h

declared_more : (ds es : List Declaration) (x : List ℕ) (o : Option Initial) → is_some (declared_named es x o) ≡ true → is_some (declared_named (ds ++ es) x o) ≡ true
declared_more [] es x o h = h
declared_more (d ∷ ds) es x o h = some_later (bytes_eq d.name x) _ _ (declared_more ds es x o h)

declared_first : (ds es : List Declaration) (x : List ℕ) (o : Option Initial) → is_some (declared_named ds x None) ≡ true → is_some (declared_named (ds ++ es) x o) ≡ true
declared_first [] es x o h = let k : false ≡ true = h in absurd cc
declared_first (d ∷ ds) es x o h = grows_by (bytes_eq d.name x) _ _ _ (declared_first ds es x o) h

shift_by : (i j : ℕ) (fs : List FunctionCode) (x : List ℕ) (b : Bool) → (is_some (function_named (suc i) fs x) ≡ true → is_some (function_named (suc j) fs x) ≡ true)
    → is_some (initial_by b (Initial.FunctionAt i) (function_named (suc i) fs x)) ≡ true → is_some (initial_by b (Initial.FunctionAt j) (function_named (suc j) fs x)) ≡ true
shift_by i j fs x true again h = refl
shift_by i j fs x false again h = again h

function_shift : (fs : List FunctionCode) (i j : ℕ) (x : List ℕ) → is_some (function_named i fs x) ≡ true → is_some (function_named j fs x) ≡ true
function_shift [] i j x h = h
function_shift (f ∷ fs) i j x h = shift_by i j fs x (bytes_eq f.name x) (function_shift fs (suc i) (suc j) x) h

function_more : (fs es : List FunctionCode) (i : ℕ) (x : List ℕ) → is_some (function_named i es x) ≡ true → is_some (function_named i (fs ++ es) x) ≡ true
function_more [] es i x h = h
function_more (f ∷ fs) es i x h = some_later (bytes_eq f.name x) _ _ (function_more fs es (suc i) x (function_shift es i (suc i) x h))

-- what is declared by a statement of the body, or by a function, is declared
by_statement : (s : Stmt) (xs : List Item) (x : List ℕ) (o : Option Initial) → is_some (declared_named (declares s) x None) ≡ true → is_some (declared_named (declared_in (onto (Some s) (body_of xs))) x o) ≡ true
by_statement s xs x o h = declared_first (declares s) (declared_in (body_of xs)) x o h

body_later : (d : Option Stmt) (xs : List Item) (x : List ℕ) (o : Option Initial) → is_some (declared_named (declared_in (body_of xs)) x o) ≡ true → is_some (declared_named (declared_in (onto d (body_of xs))) x o) ≡ true
body_later None xs x o h = h
body_later (Some s) xs x o h = declared_more (declares s) (declared_in (body_of xs)) x o h

item_later : (i : Item) (xs : List Item) (x : List ℕ) → Declared xs x → Declared (i ∷ xs) x
item_later i xs x h =
    body_later (does i) xs x (function_named 0 (functions_by i ++ functions_of xs) x)
    (declared_grows (declared_in (body_of xs)) x (function_named 0 (functions_of xs) x) (function_named 0 (functions_by i ++ functions_of xs) x) (function_more (functions_by i) (functions_of xs) 0 x) h)

own_name : (x : List ℕ) → bytes_eq x x ≡ true
own_name x = (bytes_eq-Decides x x).1 refl

function_here : (i : Item) (f : FunctionCode) (xs : List Item) → functions_by i ≡ f ∷ [] → Declared (i ∷ xs) f.name
function_here i f xs e =
    declared_later (declared_in (onto (does i) (body_of xs))) f.name _
    (rw e (ap (λ b. is_some (initial_by b (Initial.FunctionAt 0) (function_named 1 (functions_of xs) f.name))) (own_name f.name)))

-- ---- exports are so

module _ (items : List Item) (imports : List ImportEntry) where
  -- a local export is of a declared name, or one that isn't imported by name
  abbrev pub IsOwn : LocalExport → Type 0
  IsOwn l = initial items l.local ≡ None → (e : ImportEntry) → import_named imports l.local ≡ Some e → e.wanted ≡ wanted.Whole

  abbrev Own : Export → Type 0
  Own (Local l) = IsOwn l
  Own (Indirect i) = ⊤

  abbrev Owns : List Export → Type 0
  Owns es = AllByRecursion Own es

  both : (xs ys : List Export) → Owns xs → Owns ys → Owns (xs ++ ys)
  both [] ys h k = k
  both (x ∷ xs) ys h k = (h.0, both xs ys h.1 k)

  is_declared : (name x : List ℕ) → Declared items x → IsOwn (record { name = name; local = x })
  is_declared name x h = λ none e q. let k : false ≡ true = sym (ap is_some none) ∙ h in absurd cc

  passes : (request : ℕ) (es : List ExportSpecifier) → Owns (map (passed_on request) es)
  passes request [] = tt
  passes request (e ∷ es) = (tt, passes request es)

  by_wanted : (name x : List ℕ) (i : ImportEntry) → import_named imports x ≡ Some i → (w : Wanted) → i.wanted ≡ w → Own (listed_by_wanted name x i.request w)
  unfolding listed_by_wanted
  by_wanted name x i q (wanted.Named n) s = tt
  by_wanted name x i q wanted.Whole s = λ none e k. let t : i ≡ e = cc in subst (λ (e : ImportEntry). e.wanted ≡ wanted.Whole) t s

  by_import : (name x : List ℕ) (o : Option ImportEntry) → import_named imports x ≡ o → Own (listed_by name x o)
  unfolding listed_by
  by_import name x None q = λ none e k. absurd cc
  by_import name x (Some i) q = by_wanted name x i q i.wanted refl

  lists : (es : List ExportSpecifier) → Owns (map (listed imports) es)
  unfolding listed
  lists [] = tt
  lists (e ∷ es) = (by_import e.exported e.first (import_named imports e.first) refl, lists es)

  -- what is declared among these items is declared in the whole
  abbrev Covers : List Item → Type 0
  Covers xs = (x : List ℕ) → Declared xs x → Declared items x

  bindings : (constant : Bool) (bs : Bindings) → ((x : List ℕ) → is_some (declared_named (declared_by constant bs) x None) ≡ true → Declared items x) → Owns (map own_export (names_of bs))
  unfolding names_of
  bindings constant no_more k = tt
  bindings constant (binding name v bs) k = (
    is_declared name name (k name (ap (λ b. is_some (initial_by b (Initial.Unset constant) (declared_named (declared_by constant bs) name None))) (own_name name))),
    bindings constant bs (λ x h. k x (some_later (bytes_eq name x) _ _ h)),
  )

  statement : (s : Stmt) → ((x : List ℕ) → is_some (declared_named (declares s) x None) ≡ true → Declared items x) → Owns (statement_exports s)
  unfolding statement_exports declared_names
  statement (Const bs) k = bindings true bs k
  statement (Let bs) k = bindings false bs k
  statement (Default v) k = (is_declared (codes "default") star_default (k star_default (ap (λ b. is_some (initial_by b (Initial.Unset true) None)) (own_name star_default))), tt)
  statement Empty k = tt
  statement (Expression e) k = tt
  statement (Assign x v) k = tt
  statement (Block ss) k = tt
  statement (If e ss) k = tt
  statement (IfElse e ss rs) k = tt
  statement (Try ss rs) k = tt
  statement (TryCatch ss x rs) k = tt
  statement (Throw e) k = tt
  statement Return k = tt
  statement (ReturnValue e) k = tt
  statement (Await e) k = tt
  statement (PrintAwait e) k = tt

  item : (requests : List (List ℕ)) (i : Item) (xs : List Item) → Covers (i ∷ xs) → Owns (exports_of requests imports i)
  unfolding exports_of
  item requests (ImportEffect s) xs k = tt
  item requests (ImportFrom s bs) xs k = tt
  item requests (ExportAll s) xs k = tt
  item requests (ExportAllAs n s) xs k = (tt, tt)
  item requests (ExportFrom es s) xs k = passes _ es
  item requests (ExportList es) xs k = lists es
  item requests (ExportStatement s) xs k = statement s (λ x h. k x (by_statement s xs x _ h))
  item requests (ExportFunction n ps ss) xs k = (is_declared n n (k n (function_here (ExportFunction n ps ss) _ xs refl)), tt)
  item requests (ExportDefaultFunction n ps ss) xs k = (is_declared (codes "default") (or_star_default n) (k (or_star_default n) (function_here (ExportDefaultFunction n ps ss) _ xs refl)), tt)
  item requests (Function n ps ss) xs k = tt
  item requests (Statement s) xs k = tt

  exports : (requests : List (List ℕ)) (xs : List Item) → Covers xs → Owns (all_exports requests imports xs)
  unfolding all_exports
  exports requests [] k = tt
  exports requests (i ∷ xs) k = both _ _ (item requests i xs k) (exports requests xs (λ x h. k x (item_later i xs x h)))

  locals : (es : List Export) → Owns es → AllByRecursion IsOwn (locals_of es)
  unfolding locals_of
  locals [] h = tt
  locals (Local l ∷ es) h = (h.0, locals es h.1)
  locals (Indirect i ∷ es) h = locals es h.1

entry_locals : (items : List Item) → AllByRecursion (IsOwn items (entries_of items).imports) (entries_of items).locals
unfolding entries_of entries_with
entry_locals items = locals items _ _ (exports items _ _ items (λ x h. h))

pub locals_own : (items : List Item) (l : LocalExport) → Contains (entries_of items).locals l → IsOwn items (entries_of items).imports l
locals_own items l c = All-contains (IsOwn items (entries_of items).imports) _ l (All-from_recursion (IsOwn items (entries_of items).imports) _ (entry_locals items)) c

-- ---- what is read at an end

module _ (g : Modules ℕ) (e : Scopes) (f : IsFaithful g e) (m : ℕ) (s : ModuleScope) (x : List ℕ) (made : scope_in e m ≡ Some s) where
  -- a declared name
  own_end : (i : Initial) (c : Option (Cell CodeValue)) → c ≡ cell_by (Some i) (cells_of e m x) m → (later : Reading CodeValue) → defined (read_or c later) ≡ read_cell (cell_by (Some i) (cells_of e m x) m)
  own_end (Initial.Unset constant) c q later = by (cells_of e m x) q
    where
      by : (o : Option CodeValue) → c ≡ cell_by (Some (Initial.Unset constant)) o m → defined (read_or c later) ≡ read_cell (cell_by (Some (Initial.Unset constant)) o m)
      by None q = rw q refl
      by (Some v) q = rw q refl
  own_end (Initial.FunctionAt index) c q later = by (cells_of e m x) q
    where
      by : (o : Option CodeValue) → c ≡ cell_by (Some (Initial.FunctionAt index)) o m → defined (read_or c later) ≡ read_cell (cell_by (Some (Initial.FunctionAt index)) o m)
      by None q = rw q refl
      by (Some v) q = rw q refl

  -- a namespace that is imported as a whole, where it has a scope
  whole_end : (t : Option Target) (r : Option (Bound ℕ)) → HasScope e t → target_in t ≡ r → (o : ℕ) → r ≡ Some (WholeOf o) → defined (read_whole e t) ≡ reading.Value (Namespace o)
  whole_end None r h q o k = absurd cc
  whole_end (Some (targets.Cell n y)) r h q o k = absurd cc
  whole_end (Some (targets.Whole n)) r h q o k =
      let same : n.0 ≡ o = cc in
      rw h.1 (ap (λ v. reading.Value v) ((f n.0 h.0 h.1).namespace ∙ ap (λ n. Namespace n) same))

  none_end : (t : Option Target) → target_in t ≡ None → defined (read_whole e t) ≡ reading.Value Undefined
  none_end None q = refl
  none_end (Some (targets.Cell n y)) q = absurd cc
  none_end (Some (targets.Whole n)) q = absurd cc

  -- a name that isn't declared, by what its import is bound to
  bound_end : (t : Option Target) → HasScope e t → (r : Option (Bound ℕ)) → target_in t ≡ r → Binds g m x r
      → ((i : _) → import_as g m x ≡ Some i → i.wanted ≡ wanted.Whole) → defined (read_whole e t) ≡ read_member g (cells_of e) (whole_by g m (import_as g m x))
  bound_end t h r q (no_import k) own = rw k (none_end t q)
  bound_end t h r q (whole i k w) own = rw (k, w) (whole_end t _ h q _ refl)
  bound_end t h r q (named i name res k w z) own = let u : i.wanted ≡ wanted.Whole = own i k in absurd cc

  ends_by : (i : Option Initial) → initial (g.tree m) x ≡ i → (initial (g.tree m) x ≡ None → (i : _) → import_as g m x ≡ Some i → i.wanted ≡ wanted.Whole)
      → HasScope e (import_in s.imports.items x) → defined (read_or (own_cell e m x) (read_whole e (import_in s.imports.items x))) ≡ read_member g (cells_of e) (own_by g m x i)
  ends_by (Some i) q own h =
      let c = own_right g e f m s x made ∙ ap (λ i. cell_by i (cells_of e m x) m) q in
      own_end i (own_cell e m x) c _ ∙ ap (λ i. read_cell (cell_by i (cells_of e m x) m)) (sym q)
  ends_by None q own h =
      let c = own_right g e f m s x made ∙ ap (λ i. cell_by i (cells_of e m x) m) q in
      rw c (bound_end (import_in s.imports.items x) h _ refl ((f m s made).bound x) (own q))

pub ends_right : EndsRight
ends_right g e m s l f made h c =
    let own = locals_own (g.tree m) l c in
    let P : Option ModuleScope → Type 0 = λ o. defined (read_or (own_cell e m l.local) (read_whole e (import_of o l.local))) ≡ read_member g (cells_of e) (own_by g m l.local (initial (g.tree m) l.local)) in
    subst P (sym made) (ends_by g e f m s l.local made (initial (g.tree m) l.local) refl own (subst (λ o. HasScope e (import_of o l.local)) made h))
