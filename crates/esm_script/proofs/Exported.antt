-- Exports that are gathered, and the index of imported names.
use Rattle.std.proofs.Common.{◌≡◌, ◌≢◌, ℕ, zero, suc, ◌+◌, ◌-◌, ◌<◌, ◌≤◌, Bool, true, false, cond, List, [], ◌∷◌, ◌++◌, length, map, drop, get_or, Option, Some, None, Vec, Box, refl, sym, ap, subst, ◌∙◌, arith, append_assoc, append-nil}
use Rattle.std.specs.Prelude.{option_map, bytes_eq}
use Rattle.std.specs.Borrow.{Bor}
use Rattle.std.specs.Map.{update}
use Rattle.std.specs.declared.alloc.Global.{Global}
use Rattle.esm_tree.specs.declared.node.LexicalBinding.{LexicalBinding}
use Rattle.esm_tree.specs.declared.node.ExportSpecifier.{ExportSpecifier}
use Rattle.esm_tree.specs.declared.node.Initializer.{Initializer}
use Rattle.esm_tree.specs.declared.node.NamespaceExport.{NamespaceExport}
use Rattle.esm_tree.specs.declared.node.PassedExports.{PassedExports}
use Rattle.esm_tree.specs.declared.node.FunctionNode.{FunctionNode}
use Rattle.esm_tree.specs.declared.node.DefaultFunction.{DefaultFunction}
use Rattle.esm_tree.specs.declared.node.StmtId.{StmtId}
use Rattle.esm_tree.specs.declared.node.StmtNode.{StmtNode}
use Rattle.esm_tree.specs.declared.node.StmtNode.TheVariants as n
use Rattle.esm_tree.specs.declared.node.ItemNode.{ItemNode}
use Rattle.esm_tree.specs.declared.node.ItemNode.TheVariants as i
use Rattle.esm_tree.specs.Syntax.{Expr, Stmt}
use Rattle.esm_tree.specs.Flat.{bindings_of, stmt_of, item_of, items_of, item_need, AllAtMost}
use Rattle.esm_grammar.specs.Names.{names_of, declared_names}
use Rattle.esm_base.specs.Urls.{Text}
use Rattle.esm_ast.specs.declared.entries.ImportEntry.{ImportEntry}
use Rattle.esm_ast.specs.declared.entries.LocalExport.{LocalExport}
use Rattle.esm_ast.specs.declared.entries.IndirectExport.{IndirectExport}
use Rattle.esm_ast.specs.Entries.{Export, Local, Indirect, own_export, statement_exports, exports_of, all_exports, locals_of, indirects_of, import_named}
use Rattle.esm_script.specs.declared.listing.Exports.{Exports}
use Rattle.esm_script.specs.Inner.{Adds}
use Rattle.esm_script.proofs.Items.{at_is, past}

-- ---- the index

-- an update seen behind the references
pub updates : (local : Text) (e : Bor ImportEntry) (f : Text → Option (Bor ImportEntry)) (name : Text) → option_map (λ x. x.now) (update bytes_eq f local (Some e) name) ≡ update bytes_eq (λ m. option_map (λ x. x.now) (f m)) local (Some e.now) name
updates local e f name = by (bytes_eq local name)
  where
    by : (b : Bool) → option_map (λ x. x.now) (cond b (Some e) (f name)) ≡ cond b (Some e.now) (option_map (λ x. x.now) (f name))
    by true = refl
    by false = refl

pub named_before : (imports : List ImportEntry) (k : ℕ) (e : ImportEntry) (name : Text) → 0 < k → k ≤ length imports → e ≡ get_or imports (k - 1) e → cond (bytes_eq e.local name) (Some e) (import_named (drop k imports) name) ≡ import_named (drop (k - 1) imports) name
unfolding import_named
named_before imports k e name some le is =
    let next : k - 1 + 1 ≡ k = omega arith in
    let here = at_is imports (k - 1) e (omega arith) is in
    ap (λ j. cond (bytes_eq e.local name) (Some e) (import_named (drop j imports) name)) (sym next) ∙ ap (λ es. import_named es name) (sym here)

pub named_none : (imports : List ImportEntry) (k : ℕ) (name : Text) → length imports ≤ k → None ≡ import_named (drop k imports) name
unfolding import_named
named_none imports k name le = ap (λ es. import_named es name) (sym (past imports k le))

pub named_all : (imports : List ImportEntry) (k : ℕ) (name : Text) → k ≤ 0 → import_named (drop k imports) name ≡ import_named imports name
named_all imports k name le = let none : k ≡ 0 = omega arith in ap (λ j. import_named (drop j imports) name) none

-- ---- adding

locals_append : (es fs : List Export) → locals_of (es ++ fs) ≡ locals_of es ++ locals_of fs
unfolding locals_of
locals_append [] fs = refl
locals_append (Local e ∷ es) fs = ap (λ ys. e ∷ ys) (locals_append es fs)
locals_append (Indirect e ∷ es) fs = locals_append es fs

indirects_append : (es fs : List Export) → indirects_of (es ++ fs) ≡ indirects_of es ++ indirects_of fs
unfolding indirects_of
indirects_append [] fs = refl
indirects_append (Local e ∷ es) fs = indirects_append es fs
indirects_append (Indirect e ∷ es) fs = ap (λ ys. e ∷ ys) (indirects_append es fs)

pub adds_none : (a : Exports) (es : List Export) → es ≡ [] → Adds a a es
unfolding locals_of indirects_of
adds_none a es none = record {
  locals = sym (append-nil a.locals.items) ∙ ap (λ fs. a.locals.items ++ locals_of fs) (sym none);
  indirects = sym (append-nil a.indirects.items) ∙ ap (λ fs. a.indirects.items ++ indirects_of fs) (sym none);
}

pub adds_local : (a b : Exports) (e : LocalExport) → b.locals.items ≡ a.locals.items ++ e ∷ [] → b.indirects.items ≡ a.indirects.items → Adds a b (Local e ∷ [])
unfolding locals_of indirects_of
adds_local a b e h g = record { locals = h; indirects = g ∙ sym (append-nil a.indirects.items) }

pub adds_indirect : (a b : Exports) (e : IndirectExport) → b.locals.items ≡ a.locals.items → b.indirects.items ≡ a.indirects.items ++ e ∷ [] → Adds a b (Indirect e ∷ [])
unfolding locals_of indirects_of
adds_indirect a b e g h = record { locals = g ∙ sym (append-nil a.locals.items); indirects = h }

pub adds_then : (a b c : Exports) (es fs : List Export) → Adds a b es → Adds b c fs → Adds a c (es ++ fs)
adds_then a b c es fs h g = record {
  locals = g.locals ∙ ap (λ xs. xs ++ locals_of fs) h.locals ∙ append_assoc a.locals.items (locals_of es) (locals_of fs) ∙ ap (λ xs. a.locals.items ++ xs) (sym (locals_append es fs));
  indirects = g.indirects ∙ ap (λ xs. xs ++ indirects_of fs) h.indirects ∙ append_assoc a.indirects.items (indirects_of es) (indirects_of fs) ∙ ap (λ xs. a.indirects.items ++ xs) (sym (indirects_append es fs));
}

-- what is left to add completes the whole
abbrev pub Leads : Exports → Exports → List Export → List Export → Type 0
Leads start now left whole = (end : Exports) → Adds now end left → Adds start end whole

pub leads_next : (start now new : Exports) (one left rest whole : List Export) → left ≡ one ++ rest → Adds now new one → Leads start now left whole → Leads start new rest whole
leads_next start now new one left rest whole is added leads = λ end h. leads end (subst (Adds now end) (sym is) (adds_then now new end one rest added h))

pub leads_end : (start now : Exports) (left whole : List Export) → left ≡ [] → Leads start now left whole → Adds start now whole
leads_end start now left whole none leads = leads now (adds_none now left none)

-- ---- what is left of lists

pub mapped_left : {A : Type 0} (f : A → Export) (xs : List A) (k : ℕ) (x : A) → k < length xs → x ≡ get_or xs k x → map f (drop k xs) ≡ (f x ∷ []) ++ map f (drop (k + 1) xs)
mapped_left f xs k x lt e = ap (map f) (at_is xs k x lt e)

pub mapped_none : {A : Type 0} (f : A → Export) (xs : List A) (k : ℕ) → length xs ≤ k → map f (drop k xs) ≡ []
mapped_none f xs k le = ap (map f) (past xs k le)

pub bindings_left : (exprs : List Expr) (bs : List LexicalBinding) (k : ℕ) (b : LexicalBinding) → k < length bs → b ≡ get_or bs k b
    → map own_export (names_of (bindings_of exprs (drop k bs))) ≡ (own_export b.name ∷ []) ++ map own_export (names_of (bindings_of exprs (drop (k + 1) bs)))
unfolding names_of
bindings_left exprs bs k b lt e = ap (λ xs. map own_export (names_of (bindings_of exprs xs))) (at_is bs k b lt e)

pub bindings_none : (exprs : List Expr) (bs : List LexicalBinding) (k : ℕ) → length bs ≤ k → map own_export (names_of (bindings_of exprs (drop k bs))) ≡ []
unfolding names_of
bindings_none exprs bs k le = ap (λ xs. map own_export (names_of (bindings_of exprs xs))) (past bs k le)

module _ (requests : List Text) (imports : List ImportEntry) (stmts : List Stmt) (nodes : List ItemNode) (k : ℕ) where
  pub items_left : (x : ItemNode) → k < length nodes → x ≡ get_or nodes k x
      → all_exports requests imports (items_of stmts (drop k nodes)) ≡ exports_of requests imports (item_of stmts x) ++ all_exports requests imports (items_of stmts (drop (k + 1) nodes))
  unfolding all_exports
  items_left x lt e = ap (λ xs. all_exports requests imports (items_of stmts xs)) (at_is nodes k x lt e)

  pub items_none : length nodes ≤ k → all_exports requests imports (items_of stmts (drop k nodes)) ≡ []
  unfolding all_exports
  items_none le = ap (λ xs. all_exports requests imports (items_of stmts xs)) (past nodes k le)

pub need_at : (m : ℕ) (nodes : List ItemNode) (k : ℕ) (x : ItemNode) → AllAtMost m (map item_need nodes) → k < length nodes → x ≡ get_or nodes k x → item_need x ≤ m
need_at m [] k x h lt e = absurd (omega arith)
need_at m (y ∷ nodes) zero x h lt e = subst (λ z. item_need z ≤ m) (sym e) h.0
need_at m (y ∷ nodes) (suc k) x h lt e = need_at m nodes k x h.1 (omega arith) e

-- ---- the other forms

pub other_statement : (exprs : List Expr) (stmts : List Stmt) (node : StmtNode) → ((v : Initializer) → node ≢ n.Default v) → ((bs : Vec LexicalBinding Global) → node ≢ n.Const bs) → ((bs : Vec LexicalBinding Global) → node ≢ n.Let bs) → statement_exports (stmt_of exprs stmts node) ≡ []
unfolding statement_exports declared_names
other_statement exprs stmts (n.Default v) a b c = absurd (a v refl)
other_statement exprs stmts (n.Const bs) a b c = absurd (b bs refl)
other_statement exprs stmts (n.Let bs) a b c = absurd (c bs refl)
other_statement exprs stmts _ a b c = refl

pub other_exports : (requests : List Text) (imports : List ImportEntry) (stmts : List Stmt) (node : ItemNode) → ((p : Box NamespaceExport Global) → node ≢ i.ExportAllAs p) → ((p : Box PassedExports Global) → node ≢ i.ExportFrom p)
    → ((es : Box (Vec ExportSpecifier Global) Global) → node ≢ i.ExportList es) → ((id : StmtId) → node ≢ i.ExportStatement id)
    → ((f : Box FunctionNode Global) → node ≢ i.ExportFunction f)
    → ((f : Box DefaultFunction Global) → node ≢ i.ExportDefaultFunction f) → exports_of requests imports (item_of stmts node) ≡ []
unfolding exports_of
other_exports requests imports stmts (i.ExportAllAs p) a b c d e f = absurd (a p refl)
other_exports requests imports stmts (i.ExportFrom p) a b c d e f = absurd (b p refl)
other_exports requests imports stmts (i.ExportList es) a b c d e f = absurd (c es refl)
other_exports requests imports stmts (i.ExportStatement id) a b c d e f = absurd (d id refl)
other_exports requests imports stmts (i.ExportFunction p) a b c d e f = absurd (e p refl)
other_exports requests imports stmts (i.ExportDefaultFunction p) a b c d e f = absurd (f p refl)
other_exports requests imports stmts _ a b c d e f = refl
