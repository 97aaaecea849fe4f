-- What remains of a function at a place, with the values of its names and its operands.
use Rattle.std.specs.Prelude.{ℕ, zero, suc, List, [], ◌∷◌, Option, Some, None}
use Rattle.esm_tree.specs.Syntax.{Links, Stmts}
use Rattle.esm_values.specs.Operators.{Values}
use Rattle.esm_env.specs.Declarations.{Declaration}
use Rattle.esm_expr_eval.specs.Terms.{Term, Terms, term, terms, compared_terms, links}
use Rattle.esm_expr_eval.specs.Terms.{Term as t}
use Rattle.esm_expr_eval.specs.Terms.Terms.{more as further}
use Rattle.esm_expr_eval.specs.Terms.Compared.{compared}
use Rattle.esm_expr_eval.specs.Terms.LinkTerms.{call}
use Rattle.esm_rewriting.specs.Scopes.{Scope, named_cell, unset, handler_scope}
use Rattle.esm_rewriting.specs.Rest.{Rest, end, more, whole, block, does_bindings}
use Rattle.esm_rewriting.specs.Rest.Part.{Does, In, Tries}
use Rattle.esm_rewriting.specs.Contexts.{Context, Block, surrounded}
use Rattle.esm_rewriting.specs.Contexts.{Context as contexts_by}
use Rattle.esm_row_laws.specs.Spots.{Left, Round, Own, Inner, First, Tried, round_names, Kont, Uses, Ors, Ands, Equals, Compares, Sums, Adds, Turns, Posts, Passes, Prints, Makes, Imports, rounds_of, Opening, Plainly, Firstly, Trying, Spot, Begins, Has, Between, Opens, Handles}

-- a callee, or none, its arguments, and the operands below
pub record Passed (V : Type 0) : Type 0 where
  pub args : Terms V
  pub operands : List V

abbrev pub passed : {V : Type 0} → Terms V → List V → Passed V
passed es vs = record { args = es; operands = vs }

module _ {V : Type 0} (values : Values V) where
  abbrev pub left_rest : Left → Rest V
  left_rest l = does_bindings values l.bindings (whole l.stmts)

  -- the names of a block with their values; what has none is unset
  abbrev pub scope_by : List Declaration → List (Option V) → Scope V
  scope_by [] vs = []
  scope_by (d ∷ ds) [] = unset d ∷ scope_by ds []
  scope_by (d ∷ ds) (v ∷ vs) = named_cell d.name d.constant v ∷ scope_by ds vs

  abbrev pub context : Round → Scope V → Context V
  context (Own ds) scope = Block scope end
  context (Inner ds behind) scope = Block scope (left_rest behind)
  context (First ds others behind) scope = Block scope (left_rest behind)
  context (Tried ds caught handler behind) scope = contexts_by.Trying scope caught handler (left_rest behind)

  -- the values of each block's names, those of the innermost block first
  abbrev pub contexts : List Round → List (List (Option V)) → List (Context V)
  contexts [] vss = []
  contexts (r ∷ rs) [] = context r (scope_by (round_names r) []) ∷ contexts rs []
  contexts (r ∷ rs) (vs ∷ vss) = context r (scope_by (round_names r) vs) ∷ contexts rs vss

  -- so many operands, the last of which is on top, stand before these
  abbrev pub under : ℕ → List V → Terms V → Option (Passed V)
  under zero vs es = Some (passed es vs)
  under (suc n) [] es = None
  under (suc n) (v ∷ vs) es = under n vs (further (t.Val v) es)

  abbrev pub call_under : (List V → Term V → Rest V) → Links → Option (Passed V) → Rest V
  call_under plug ls None = end
  call_under plug ls (Some p) = called plug ls p.args p.operands where
    called : (List V → Term V → Rest V) → Links → Terms V → List V → Rest V
    called plug ls es [] = end
    called plug ls es (f ∷ vs) = plug vs (t.Post (t.Val f) (call es (links values ls)))

  abbrev pub print_under : (List V → Term V → Rest V) → Option (Passed V) → Rest V
  print_under plug None = end
  print_under plug (Some p) = plug p.operands (t.Print p.args)

  -- a part in its place, in front of what is behind it in its block. The operand on top comes first
  abbrev pub plug : Kont → List V → Term V → Rest V
  plug (Uses purpose behind rs) vs e = more (Does purpose e) (left_rest behind)
  plug (Ors es k) vs e = plug k vs (t.Or e (terms values es))
  plug (Ands es k) vs e = plug k vs (t.And e (terms values es))
  plug (Equals cs k) vs e = plug k vs (t.Equal e (compared_terms values cs))
  plug (Compares alike cs k) [] e = end
  plug (Compares alike cs k) (v ∷ vs) e = plug k vs (t.Equal (t.Val v) (compared alike e (compared_terms values cs)))
  plug (Sums es k) vs e = plug k vs (t.Sum e (terms values es))
  plug (Adds es k) [] e = end
  plug (Adds es k) (v ∷ vs) e = plug k vs (t.Sum (t.Val v) (further e (terms values es)))
  plug (Turns k) vs e = plug k vs (t.Not e)
  plug (Posts ls k) vs e = plug k vs (t.Post e (links values ls))
  plug (Passes n es ls k) vs e = call_under (plug k) ls (under n vs (further e (terms values es)))
  plug (Prints n es k) vs e = print_under (plug k) (under n vs (further e (terms values es)))
  plug (Makes k) vs e = plug k vs (t.NewError e)
  plug (Imports k) vs e = plug k vs (t.Import e)

  abbrev pub opened_rest : Opening → Stmts → Rest V → Rest V
  opened_rest Plainly ss rest = more (block values ss) rest
  opened_rest (Firstly others) ss rest = more (block values ss) rest
  opened_rest (Trying caught handler) ss rest = more (Tries (more (block values ss) end) caught handler) rest

  abbrev pub rest_of : Kont → List (List (Option V)) → List V → Term V → Rest V
  rest_of k vss operands e = surrounded (contexts (rounds_of k) vss) (plug k operands e)

  abbrev pub rest_at : Spot → List (List (Option V)) → List V → Rest V
  rest_at (Begins e k) vss operands = rest_of k vss operands (term values e)
  rest_at (Has k) vss [] = end
  rest_at (Has k) vss (v ∷ operands) = rest_of k vss operands (t.Val v)
  rest_at (Between behind rs) vss operands = surrounded (contexts rs vss) (left_rest behind)
  rest_at (Opens opening ss behind rs) vss operands = surrounded (contexts rs vss) (opened_rest opening ss (left_rest behind))
  rest_at (Handles caught handler behind rs) vss [] = end
  rest_at (Handles caught handler behind rs) vss (v ∷ operands) =
      surrounded (contexts rs vss) (more (In (handler_scope caught v handler) (whole handler)) (left_rest behind))
