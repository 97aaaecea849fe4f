-- What a module's tree says of its functions and of its body.
use Rattle.std.proofs.Common.{◌≡◌, ℕ, zero, suc, ◌+◌, Bool, true, false, List, [], ◌∷◌, Option, Some, refl, subst, arith}
use Rattle.std.proofs.lemmas.Bool.{or_parts, or_from}
use Rattle.std.specs.Prelude.{slice_get}
use Rattle.std.specs.List.{list_any, AllByRecursion}
use Rattle.std.specs.Str.{bytes_eq}
use Rattle.esm_tree.specs.Syntax.{Item, ImportEffect, ImportFrom, ExportAll, ExportAllAs, ExportFrom, ExportList, ExportStatement, ExportFunction, ExportDefaultFunction, Function, Statement}
use Rattle.esm_ast.specs.Entries.{stmts_await}
use Rattle.esm_ast.specs.ModuleTree.{stmt_returns, stmts_return, returns_outside, awaits_inside}
use Rattle.esm_env.specs.Declarations.{FunctionCode, Declaration, Initial, Unset, FunctionAt, body_of, declared_in, functions_of, function_at, function_named, declared_named, initial, initial_by}

-- ---- functions

abbrev Still : List FunctionCode → Type 0
Still fs = AllByRecursion (λ (f : FunctionCode). stmts_await f.body ≡ false) fs

still_functions : (items : List Item) → list_any awaits_inside items ≡ false → Still (functions_of items)
unfolding awaits_inside
still_functions [] h = tt
still_functions (ImportEffect s ∷ items) h = still_functions items h
still_functions (ImportFrom s bs ∷ items) h = still_functions items h
still_functions (ExportAll s ∷ items) h = still_functions items h
still_functions (ExportAllAs n s ∷ items) h = still_functions items h
still_functions (ExportFrom es s ∷ items) h = still_functions items h
still_functions (ExportList es ∷ items) h = still_functions items h
still_functions (ExportStatement s ∷ items) h = still_functions items h
still_functions (ExportFunction n ps ss ∷ items) h = let p = or_parts (stmts_await ss) _ h in (p.0, still_functions items p.1)
still_functions (ExportDefaultFunction n ps ss ∷ items) h = let p = or_parts (stmts_await ss) _ h in (p.0, still_functions items p.1)
still_functions (Function n ps ss ∷ items) h = let p = or_parts (stmts_await ss) _ h in (p.0, still_functions items p.1)
still_functions (Statement s ∷ items) h = still_functions items h

still_at : (fs : List FunctionCode) (i : ℕ) (f : FunctionCode) → Still fs → slice_get fs i ≡ Some f → stmts_await f.body ≡ false
still_at [] i f h e = absurd cc
still_at (x ∷ fs) zero f h e = subst (λ (f : FunctionCode). stmts_await f.body ≡ false) (let s : x ≡ f = cc in s) h.0
still_at (x ∷ fs) (suc i) f h e = still_at fs i f h.1 e

pub functions_still : (items : List Item) (index : ℕ) (f : FunctionCode) → list_any awaits_inside items ≡ false → function_at items index ≡ Some f → stmts_await f.body ≡ false
functions_still items index f h e = still_at (functions_of items) index f (still_functions items h) e

-- ---- the body

pub body_plain : (items : List Item) → list_any returns_outside items ≡ false → stmts_return (body_of items) ≡ false
unfolding returns_outside stmts_return
body_plain [] h = refl
body_plain (ImportEffect s ∷ items) h = body_plain items h
body_plain (ImportFrom s bs ∷ items) h = body_plain items h
body_plain (ExportAll s ∷ items) h = body_plain items h
body_plain (ExportAllAs n s ∷ items) h = body_plain items h
body_plain (ExportFrom es s ∷ items) h = body_plain items h
body_plain (ExportList es ∷ items) h = body_plain items h
body_plain (ExportStatement s ∷ items) h = let p = or_parts (stmt_returns s) _ h in or_from _ _ p.0 (body_plain items p.1)
body_plain (ExportFunction n ps ss ∷ items) h = body_plain items h
body_plain (ExportDefaultFunction n ps ss ∷ items) h = body_plain items h
body_plain (Function n ps ss ∷ items) h = body_plain items h
body_plain (Statement s ∷ items) h = let p = or_parts (stmt_returns s) _ h in or_from _ _ p.0 (body_plain items p.1)

-- ---- a name that begins as a function is one

abbrev At : ℕ → List FunctionCode → ℕ → Type 0
At i fs index = (n : ℕ) × ((f : FunctionCode) × ((index ≡ i + n) × (slice_get fs n ≡ Some f)))

next_at : (i : ℕ) (f : FunctionCode) (fs : List FunctionCode) (index : ℕ) → At (suc i) fs index → At i (f ∷ fs) index
next_at i f fs index (n, (g, (e, s))) = (suc n, (g, (omega (arith, e), s)))

named_at : (i : ℕ) (fs : List FunctionCode) (name : List ℕ) (index : ℕ) → function_named i fs name ≡ Some (FunctionAt index) → At i fs index
named_at i [] name index e = absurd cc
named_at i (f ∷ fs) name index e = by (bytes_eq f.name name) (named_at (suc i) fs name index) e
  where
    by : (b : Bool) → (function_named (suc i) fs name ≡ Some (FunctionAt index) → At (suc i) fs index) → initial_by b (FunctionAt i) (function_named (suc i) fs name) ≡ Some (FunctionAt index) → At i (f ∷ fs) index
    by true later e = (0, (f, (let s : index ≡ i = cc in omega (arith, s), refl)))
    by false later e = next_at i f fs index (later e)

past_declared : (ds : List Declaration) (name : List ℕ) (later : Option Initial) (index : ℕ) → declared_named ds name later ≡ Some (FunctionAt index) → later ≡ Some (FunctionAt index)
past_declared [] name later index e = e
past_declared (d ∷ ds) name later index e = by (bytes_eq d.name name) (past_declared ds name later index) e
  where
    by : (b : Bool) → (declared_named ds name later ≡ Some (FunctionAt index) → later ≡ Some (FunctionAt index)) → initial_by b (Unset d.constant) (declared_named ds name later) ≡ Some (FunctionAt index) → later ≡ Some (FunctionAt index)
    by true rest e = absurd cc
    by false rest e = rest e

pub function_there : (items : List Item) (name : List ℕ) (index : ℕ) → initial items name ≡ Some (FunctionAt index) → (f : FunctionCode) × (function_at items index ≡ Some f)
function_there items name index e =
    let a = named_at 0 (functions_of items) name index (past_declared (declared_in (body_of items)) name _ index e) in
    (a.1.0, subst (λ n. slice_get (functions_of items) n ≡ Some a.1.0) (let s = a.1.1.0 in omega (arith, s)) a.1.1.1)
