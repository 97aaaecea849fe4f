-- How large what remains of an expression is. own: a measure, of which all that matters is that each rewriting leaves less
use Rattle.std.specs.Prelude.{ℕ, suc, ◌+◌}
use Rattle.esm_expr_eval.specs.Terms.{Term, Terms, Compared, LinkTerms}
use Rattle.esm_expr_eval.specs.Terms.Term.{Val, Waits, Fails, Name, Or, And, Equal, Sum, Not, Post, Print, NewError, Import, OwnUrl}
use Rattle.esm_expr_eval.specs.Terms.Terms.{none, more}
use Rattle.esm_expr_eval.specs.Terms.Compared.{last, compared}
use Rattle.esm_expr_eval.specs.Terms.LinkTerms.{ends, member, call}

abbrev mutual
  pub size : {V : Type 0} → Term V → ℕ
  size (Val v) = 1
  size Waits = 1
  size (Fails v) = 1
  size (Name x) = 2
  size (Or e es) = suc (size e + size_all es)
  size (And e es) = suc (size e + size_all es)
  size (Equal e cs) = suc (size e + size_compared cs)
  size (Sum e es) = suc (size e + size_all es)
  size (Not e) = suc (size e)
  size (Post e ls) = suc (size e + size_links ls)
  size (Print es) = suc (suc (size_all es))
  size (NewError e) = suc (size e)
  size (Import e) = suc (size e)
  size OwnUrl = 2

  pub size_all : {V : Type 0} → Terms V → ℕ
  size_all none = 0
  size_all (more e es) = suc (size e + size_all es)

  pub size_compared : {V : Type 0} → Compared V → ℕ
  size_compared last = 0
  size_compared (compared b e cs) = suc (size e + size_compared cs)

  pub size_links : {V : Type 0} → LinkTerms V → ℕ
  size_links ends = 0
  size_links (member x ls) = suc (size_links ls)
  size_links (call es ls) = suc (size_all es + size_links ls)
