-- Which statements await, one by one.
use Rattle.std.proofs.Common.{◌≡◌, ◌≢◌, ℕ, zero, suc, ◌+◌, ◌<◌, ◌≤◌, Bool, true, false, List, [], ◌∷◌, length, drop, get_or, Vec, Box, refl, ap, ◌∙◌, arith}
use Rattle.std.specs.Prelude.{◌||◌}
use Rattle.std.specs.List.{list_any}
use Rattle.std.specs.declared.alloc.Global.{Global}
use Rattle.esm_tree.specs.declared.node.ExprId.{ExprId}
use Rattle.esm_tree.specs.declared.node.StmtId.{StmtId}
use Rattle.esm_tree.specs.declared.node.Initializer.{Initializer}
use Rattle.esm_tree.specs.declared.node.LexicalBinding.{LexicalBinding}
use Rattle.esm_tree.specs.declared.node.Assignment.{Assignment}
use Rattle.esm_tree.specs.declared.node.Branches.{Branches}
use Rattle.esm_tree.specs.declared.node.Attempt.{Attempt}
use Rattle.esm_tree.specs.declared.node.NamedAttempt.{NamedAttempt}
use Rattle.esm_tree.specs.declared.node.StmtNode.{StmtNode}
use Rattle.esm_tree.specs.declared.node.StmtNode.TheVariants as n
use Rattle.esm_tree.specs.declared.node.ItemNode.{ItemNode}
use Rattle.esm_tree.specs.declared.node.ItemNode.TheVariants as i
use Rattle.esm_tree.specs.Syntax.{Expr, Stmt}
use Rattle.esm_tree.specs.Flat.{init_of, bindings_of, stmt_of, stmt_part, stmt_parts, AllStmtsBelow, item_of, items_of}
use Rattle.esm_ast.specs.Entries.{init_awaits, bindings_await, stmt_awaits, stmts_await, item_awaits}
use Rattle.esm_script.proofs.Items.{at_is, past}

-- the answer is that of the first that awaits
pub found : (one rest all : Bool) → (one || rest) ≡ all → true ≡ one → true ≡ all
found one rest all h is = ap (λ b. b || rest) is ∙ h

pub passed : (one rest all : Bool) → (one || rest) ≡ all → false ≡ one → rest ≡ all
passed one rest all h is = ap (λ b. b || rest) is ∙ h

pub bindings_left : (exprs : List Expr) (bs : List LexicalBinding) (k : ℕ) (b : LexicalBinding) → k < length bs → b ≡ get_or bs k b
    → bindings_await (bindings_of exprs (drop k bs)) ≡ (init_awaits (init_of exprs b.value) || bindings_await (bindings_of exprs (drop (k + 1) bs)))
unfolding bindings_await
bindings_left exprs bs k b lt e = ap (λ xs. bindings_await (bindings_of exprs xs)) (at_is bs k b lt e)

pub bindings_none : (exprs : List Expr) (bs : List LexicalBinding) (k : ℕ) → length bs ≤ k → bindings_await (bindings_of exprs (drop k bs)) ≡ false
unfolding bindings_await
bindings_none exprs bs k le = ap (λ xs. bindings_await (bindings_of exprs xs)) (past bs k le)

pub stmts_left : (stmts : List Stmt) (ids : List StmtId) (k : ℕ) (id : StmtId) → k < length ids → id ≡ get_or ids k id
    → stmts_await (stmt_parts stmts (drop k ids)) ≡ (stmt_awaits (stmt_part stmts id) || stmts_await (stmt_parts stmts (drop (k + 1) ids)))
unfolding stmts_await
stmts_left stmts ids k id lt e = ap (λ xs. stmts_await (stmt_parts stmts xs)) (at_is ids k id lt e)

pub stmts_none : (stmts : List Stmt) (ids : List StmtId) (k : ℕ) → length ids ≤ k → stmts_await (stmt_parts stmts (drop k ids)) ≡ false
unfolding stmts_await
stmts_none stmts ids k le = ap (λ xs. stmts_await (stmt_parts stmts xs)) (past ids k le)

pub items_left : (stmts : List Stmt) (nodes : List ItemNode) (k : ℕ) (x : ItemNode) → k < length nodes → x ≡ get_or nodes k x
    → list_any item_awaits (items_of stmts (drop k nodes)) ≡ (item_awaits (item_of stmts x) || list_any item_awaits (items_of stmts (drop (k + 1) nodes)))
items_left stmts nodes k x lt e = ap (λ xs. list_any item_awaits (items_of stmts xs)) (at_is nodes k x lt e)

pub items_none : (stmts : List Stmt) (nodes : List ItemNode) (k : ℕ) → length nodes ≤ k → list_any item_awaits (items_of stmts (drop k nodes)) ≡ false
items_none stmts nodes k le = ap (λ xs. list_any item_awaits (items_of stmts xs)) (past nodes k le)

pub below_at : (m : ℕ) (ids : List StmtId) (k : ℕ) (id : StmtId) → AllStmtsBelow m ids → k < length ids → id ≡ get_or ids k id → id.0 < m
below_at m [] k id h lt e = absurd (omega arith)
below_at m (x ∷ ids) zero id h lt e = let s = ap (λ (y : StmtId). y.0) e in let z = h.0 in omega (arith, s, z)
below_at m (x ∷ ids) (suc k) id h lt e = below_at m ids k id h.1 (omega arith) e

pub get_or_any : {A : Type 0} (xs : List A) (k : ℕ) (d e : A) → k < length xs → get_or xs k d ≡ get_or xs k e
get_or_any [] k d e h = absurd (omega arith)
get_or_any (y ∷ ys) zero d e h = refl
get_or_any (y ∷ ys) (suc k) d e h = get_or_any ys k d e (omega arith)

pub other_statement : (exprs : List Expr) (stmts : List Stmt) (node : StmtNode)
    → ((p : Box Assignment Global) → node ≢ n.Assign p)
    → ((a : Vec StmtId Global) → node ≢ n.Block a) → ((e : ExprId) (a : Vec StmtId Global) → node ≢ n.If e a)
    → ((e : ExprId) (p : Box Branches Global) → node ≢ n.IfElse e p) → ((p : Box Attempt Global) → node ≢ n.Try p)
    → ((p : Box NamedAttempt Global) → node ≢ n.TryCatch p)
    → ((e : ExprId) → node ≢ n.Await e) → ((e : ExprId) → node ≢ n.PrintAwait e)
    → ((bs : Vec LexicalBinding Global) → node ≢ n.Const bs) → ((bs : Vec LexicalBinding Global) → node ≢ n.Let bs)
    → ((v : Initializer) → node ≢ n.Default v) → stmt_awaits (stmt_of exprs stmts node) ≡ false
unfolding stmt_awaits
other_statement exprs stmts (n.Assign p) z a b c d e f g h l m = absurd (z p refl)
other_statement exprs stmts (n.Block x) z a b c d e f g h l m = absurd (a x refl)
other_statement exprs stmts (n.If y x) z a b c d e f g h l m = absurd (b y x refl)
other_statement exprs stmts (n.IfElse y p) z a b c d e f g h l m = absurd (c y p refl)
other_statement exprs stmts (n.Try p) z a b c d e f g h l m = absurd (d p refl)
other_statement exprs stmts (n.TryCatch p) z a b c d e f g h l m = absurd (e p refl)
other_statement exprs stmts (n.Await y) z a b c d e f g h l m = absurd (f y refl)
other_statement exprs stmts (n.PrintAwait y) z a b c d e f g h l m = absurd (g y refl)
other_statement exprs stmts (n.Const bs) z a b c d e f g h l m = absurd (h bs refl)
other_statement exprs stmts (n.Let bs) z a b c d e f g h l m = absurd (l bs refl)
other_statement exprs stmts (n.Default v) z a b c d e f g h l m = absurd (m v refl)
other_statement exprs stmts _ z a b c d e f g h l m = refl

pub other_item : (stmts : List Stmt) (node : ItemNode) → ((id : StmtId) → node ≢ i.Statement id) → ((id : StmtId) → node ≢ i.ExportStatement id) → item_awaits (item_of stmts node) ≡ false
unfolding item_awaits
other_item stmts (i.Statement id) a b = absurd (a id refl)
other_item stmts (i.ExportStatement id) a b = absurd (b id refl)
other_item stmts _ a b = refl
