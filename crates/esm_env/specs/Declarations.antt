-- What a module declares, and what its body does. ECMA-262, LexicallyScopedDeclarations and VarScopedDeclarations of a
-- module.
use Rattle.std.specs.Prelude.{ℕ, suc, Bool, true, false, List, [], ◌∷◌, ◌++◌, slice_get, Option, Some, None}
use Rattle.std.specs.List.{flat_map}
use Rattle.std.specs.Str.{bytes_eq}
use Rattle.esm_tree.specs.Syntax as x
use Rattle.esm_base.specs.DefaultExport.{star_default, or_star_default}
use Rattle.esm_tree.specs.Syntax.{Bindings, no_more, binding, Stmt, Stmts, nothing, first, Item}

-- ECMA-262, FunctionDeclaration. A function without a name, which `export default` may have, is named `*default*`
pub record FunctionCode : Type 0 where
  pub name : List ℕ
  pub parameters : List (List ℕ)
  pub body : Stmts

-- how a declared name begins: unset, or as the function with this number among those of its module
pub data Initial : Type 0 where
  Unset : (constant : Bool) → Initial
  FunctionAt : (index : ℕ) → Initial

-- a name that is declared, and whether it is a constant
pub record Declaration : Type 0 where
  pub name : List ℕ
  pub constant : Bool

abbrev pub declared_by : Bool → Bindings → List Declaration
declared_by constant no_more = []
declared_by constant (binding name value bs) = record { name = name; constant = constant } ∷ declared_by constant bs

abbrev pub declares : Stmt → List Declaration
declares (x.Const bs) = declared_by true bs
declares (x.Let bs) = declared_by false bs
declares (x.Default value) = record { name = star_default; constant = true } ∷ []
declares _ = []

-- the names that a list of statements declares by itself
abbrev pub declared_in : Stmts → List Declaration
declared_in nothing = []
declared_in (first s ss) = declares s ++ declared_in ss

abbrev pub function_code : List ℕ → List (List ℕ) → Stmts → FunctionCode
function_code name parameters body = record { name = name; parameters = parameters; body = body }

abbrev pub functions_by : Item → List FunctionCode
functions_by (x.ExportFunction name ps ss) = function_code name ps ss ∷ []
functions_by (x.ExportDefaultFunction name ps ss) = function_code (or_star_default name) ps ss ∷ []
functions_by (x.Function name ps ss) = function_code name ps ss ∷ []
functions_by _ = []

-- the functions of a module, in order
abbrev pub functions_of : List Item → List FunctionCode
functions_of items = flat_map functions_by items

abbrev pub onto : Option Stmt → Stmts → Stmts
onto None ss = ss
onto (Some s) ss = first s ss

-- what an item does where it stands
abbrev pub does : Item → Option Stmt
does (x.ExportStatement s) = Some s
does (x.Statement s) = Some s
does _ = None

-- the statements of a module's body
abbrev pub body_of : List Item → Stmts
body_of [] = nothing
body_of (item ∷ items) = onto (does item) (body_of items)

abbrev pub initial_by : Bool → Initial → Option Initial → Option Initial
initial_by true i later = Some i
initial_by false i later = later

abbrev pub function_named : ℕ → List FunctionCode → List ℕ → Option Initial
function_named i [] name = None
function_named i (f ∷ fs) name = initial_by (bytes_eq f.name name) (FunctionAt i) (function_named (suc i) fs name)

abbrev pub declared_named : List Declaration → List ℕ → Option Initial → Option Initial
declared_named [] name later = later
declared_named (d ∷ ds) name later = initial_by (bytes_eq d.name name) (Unset d.constant) (declared_named ds name later)

-- how the name begins that a module declares at its top level
abbrev pub initial : List Item → List ℕ → Option Initial
initial items name = declared_named (declared_in (body_of items)) name (function_named 0 (functions_of items) name)

abbrev pub function_at : List Item → ℕ → Option FunctionCode
function_at items index = slice_get (functions_of items) index
