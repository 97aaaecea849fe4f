-- What holds of what is mapped, holds of it before.
use Rattle.std.proofs.Common.{[], ◌∷◌, Option, Some, None}
use Rattle.std.specs.Option.{option_map}
use Rattle.esm_expr_eval.specs.Terms.{Term, Terms, Compared, LinkTerms}
use Rattle.esm_expr_eval.specs.Terms.Term.{Val, Waits, Fails, Name, Or, And, Equal, Sum, Not, Post, Print, NewError, Import, OwnUrl}
use Rattle.esm_expr_eval.specs.Terms.{Terms as terms}
use Rattle.esm_expr_eval.specs.Terms.Compared.{last, compared}
use Rattle.esm_expr_eval.specs.Terms.LinkTerms.{ends, member, call}
use Rattle.esm_expr_eval.specs.Naming.{mapped_term, mapped_terms, mapped_compared, mapped_links}
use Rattle.esm_expr_eval.specs.Ready.{Holds, HoldAll, HoldCompared, HoldLinks}
use Rattle.esm_rewriting.specs.Scopes.{Scope}
use Rattle.esm_rewriting.specs.Rest.{Part, Rest, end, more}
use Rattle.esm_rewriting.specs.Rest.Part.{Whole, Does, Stands, In, Tries}
use Rattle.esm_rewriting.specs.Fits.{Kind, HoldsValue, HoldsScope, HoldsPart, HoldsRest}
use Rattle.esm_rewriting.specs.Naming.{mapped_scope, mapped_part, mapped_rest}

module _ {V U : Type 0} (f : V → U) (P : U → Type 0) (Q : V → Type 0) (back : (v : V) → P (f v) → Q v) (waits : Type 0) where
  mutual
    pub term_back : (e : Term V) → Holds P waits (mapped_term f e) → Holds Q waits e
    term_back (Val v) h = back v h
    term_back Waits h = h
    term_back (Fails v) h = back v h
    term_back (Name x) h = tt
    term_back (Or e es) h = (term_back e h.0, terms_back es h.1)
    term_back (And e es) h = (term_back e h.0, terms_back es h.1)
    term_back (Equal e cs) h = (term_back e h.0, compared_back cs h.1)
    term_back (Sum e es) h = (term_back e h.0, terms_back es h.1)
    term_back (Not e) h = term_back e h
    term_back (Post e ls) h = (term_back e h.0, links_back ls h.1)
    term_back (Print es) h = terms_back es h
    term_back (NewError e) h = term_back e h
    term_back (Import e) h = term_back e h
    term_back OwnUrl h = tt

    terms_back : (es : Terms V) → HoldAll P waits (mapped_terms f es) → HoldAll Q waits es
    terms_back terms.none h = tt
    terms_back (terms.more e es) h = (term_back e h.0, terms_back es h.1)

    compared_back : (cs : Compared V) → HoldCompared P waits (mapped_compared f cs) → HoldCompared Q waits cs
    compared_back last h = tt
    compared_back (compared alike e cs) h = (term_back e h.0, compared_back cs h.1)

    links_back : (ls : LinkTerms V) → HoldLinks P waits (mapped_links f ls) → HoldLinks Q waits ls
    links_back ends h = tt
    links_back (member x ls) h = links_back ls h
    links_back (call es ls) h = (terms_back es h.0, links_back ls h.1)

  option_back : (o : Option V) → HoldsValue P (option_map f o) → HoldsValue Q o
  option_back None h = tt
  option_back (Some v) h = back v h

  scope_back : (s : Scope V) → HoldsScope P (mapped_scope f s) → HoldsScope Q s
  scope_back [] h = tt
  scope_back (c ∷ cs) h = (option_back c.cell.value h.0, scope_back cs h.1)

  module _ (k : Kind) where
    mutual
      part_back : (p : Part V) → HoldsPart P waits k (mapped_part f p) → HoldsPart Q waits k p
      part_back (Whole s) h = h
      part_back (Does purpose e) h = (h.0, term_back e h.1)
      part_back (Stands purpose) h = h
      part_back (In scope rest) h = (scope_back scope h.0, rest_back rest h.1)
      part_back (Tries rest caught handler) h = (rest_back rest h.0, h.1)

      pub rest_back : (r : Rest V) → HoldsRest P waits k (mapped_rest f r) → HoldsRest Q waits k r
      rest_back end h = tt
      rest_back (more p rest) h = (part_back p h.0, rest_back rest h.1)
