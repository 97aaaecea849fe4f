-- Which values stand in what remains of an expression, and whether a call is under way in it.
use Rattle.std.specs.Prelude.{⊤}
use Rattle.esm_expr_eval.specs.Terms.{Term, Terms, Compared, LinkTerms}
use Rattle.esm_expr_eval.specs.Terms.Term.{Val, Waits, Fails, Name, Or, And, Equal, Sum, Not, Post, Print, NewError, Import, OwnUrl}
use Rattle.esm_expr_eval.specs.Terms.Terms.{none, more}
use Rattle.esm_expr_eval.specs.Terms.Compared.{last, compared}
use Rattle.esm_expr_eval.specs.Terms.LinkTerms.{ends, member, call}

-- each value in it is known; waits says whether a call may be under way
module _ {V : Type 0} (Knows : V → Type 0) (waits : Type 0) where
  abbrev mutual
    pub Holds : Term V → Type 0
    Holds (Val v) = Knows v
    Holds Waits = waits
    Holds (Fails v) = Knows v
    Holds (Name x) = ⊤
    Holds (Or e es) = Holds e × HoldAll es
    Holds (And e es) = Holds e × HoldAll es
    Holds (Equal e cs) = Holds e × HoldCompared cs
    Holds (Sum e es) = Holds e × HoldAll es
    Holds (Not e) = Holds e
    Holds (Post e ls) = Holds e × HoldLinks ls
    Holds (Print es) = HoldAll es
    Holds (NewError e) = Holds e
    Holds (Import e) = Holds e
    Holds OwnUrl = ⊤

    pub HoldAll : Terms V → Type 0
    HoldAll none = ⊤
    HoldAll (more e es) = Holds e × HoldAll es

    pub HoldCompared : Compared V → Type 0
    HoldCompared last = ⊤
    HoldCompared (compared alike e cs) = Holds e × HoldCompared cs

    pub HoldLinks : LinkTerms V → Type 0
    HoldLinks ends = ⊤
    HoldLinks (member x ls) = HoldLinks ls
    HoldLinks (call es ls) = HoldAll es × HoldLinks ls

-- no call is under way in it
abbrev pub IsAtWork : {V : Type 0} → Term V → Type 0
IsAtWork t = Holds (λ v. ⊤) ⊥ t
