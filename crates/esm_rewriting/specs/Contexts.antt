-- What is round the innermost block of a rest: blocks and `try`s under way, the innermost first.
use Rattle.std.specs.Prelude.{ℕ, List, [], ◌∷◌, map, Option}
use Rattle.esm_tree.specs.Syntax.{Stmts}
use Rattle.esm_values.specs.Plans.Rewritten.{Goes, Leaves}
use Rattle.esm_rewriting.specs.Scopes.{Scope, handler_scope}
use Rattle.esm_rewriting.specs.Rest.{Rest, end, more, whole}
use Rattle.esm_rewriting.specs.Rest.Part.{In, Tries}
use Rattle.esm_rewriting.specs.BodyRewriting.{RewrittenBody, On}

pub data Context (V : Type 0) : Type 0 where
  -- a block, and what is behind it
  Block : (scope : Scope V) (rest : Rest V) → Context V
  -- a block of a `try`, its handler, and what is behind it
  Trying : (scope : Scope V) (caught : Option (List ℕ)) (handler : Stmts) (rest : Rest V) → Context V

module _ {V : Type 0} where
  abbrev pub scope_in : Context V → Scope V
  scope_in (Block scope rest) = scope
  scope_in (Trying scope x handler rest) = scope

  abbrev pub scopes_in : List (Context V) → List (Scope V)
  scopes_in cs = map scope_in cs

  abbrev pub placed : Context V → Rest V → Rest V
  placed (Block scope rest) r = more (In scope r) rest
  placed (Trying scope x handler rest) r = more (Tries (more (In scope r) end) x handler) rest

  abbrev pub surrounded : List (Context V) → Rest V → Rest V
  surrounded [] r = r
  surrounded (c ∷ cs) r = surrounded cs (placed c r)

  abbrev pub rescoped : Context V → Scope V → Context V
  rescoped (Block scope rest) s = Block s rest
  rescoped (Trying scope x handler rest) s = Trying s x handler rest

  -- the same with these scopes, as many as there are
  abbrev pub retaken : List (Context V) → List (Scope V) → List (Context V)
  retaken [] ss = []
  retaken (c ∷ cs) [] = c ∷ cs
  retaken (c ∷ cs) (s ∷ ss) = rescoped c s ∷ retaken cs ss

  -- where a throw leads: to the handler of the innermost `try`, or out. ECMA-262, TryStatement
  abbrev pub caught_in : {S : Type 0} → List (Context V) → V → RewrittenBody V S
  caught_in [] v = On (Leaves v)
  caught_in (Block scope rest ∷ cs) v = caught_in cs v
  caught_in (Trying scope x handler rest ∷ cs) v = On (Goes (surrounded cs (more (In (handler_scope x v handler) (whole handler)) rest)))
