-- Two ways to rename that agree on what is known: what holds known values alone is renamed alike.
use Rattle.std.proofs.Common.{◌≡◌, [], ◌∷◌, Option, Some, None, refl, ap}
use Rattle.std.specs.Option.{option_map}
use Rattle.esm_expr_eval.specs.Terms.{Term, Terms, Compared, LinkTerms}
use Rattle.esm_expr_eval.specs.Terms.Term.{Val, Waits, Fails, Name, Or, And, Equal, Sum, Not, Post, Print, NewError, Import, OwnUrl}
use Rattle.esm_expr_eval.specs.Terms.{Terms as terms}
use Rattle.esm_expr_eval.specs.Terms.Compared.{last, compared}
use Rattle.esm_expr_eval.specs.Terms.LinkTerms.{ends, member, call}
use Rattle.esm_expr_eval.specs.Naming.{mapped_term, mapped_terms, mapped_compared, mapped_links}
use Rattle.esm_expr_eval.specs.Ready.{Holds, HoldAll, HoldCompared, HoldLinks}
use Rattle.esm_rewriting.specs.Scopes.{Scope, named_cell}
use Rattle.esm_rewriting.specs.Rest.{Part, Rest, end, more}
use Rattle.esm_rewriting.specs.Rest.Part.{Whole, Does, Stands, In, Tries}
use Rattle.esm_rewriting.specs.Fits.{Kind, HoldsValue, HoldsScope, HoldsPart, HoldsRest}
use Rattle.esm_rewriting.specs.Naming.{mapped_scope, mapped_part, mapped_rest}

module _ {V U : Type 0} (f g : V → U) (Knows : U → Type 0) (waits : Type 0) (same : (v : V) → Knows (f v) → f v ≡ g v) where
  mutual
    pub term_alike : (e : Term V) → Holds Knows waits (mapped_term f e) → mapped_term f e ≡ mapped_term g e
    term_alike (Val v) h = ap (λ u. Val u) (same v h)
    term_alike Waits h = refl
    term_alike (Fails v) h = ap (λ u. Fails u) (same v h)
    term_alike (Name x) h = refl
    term_alike (Or e es) h = λ i. Or (term_alike e h.0 i) (terms_alike es h.1 i)
    term_alike (And e es) h = λ i. And (term_alike e h.0 i) (terms_alike es h.1 i)
    term_alike (Equal e cs) h = λ i. Equal (term_alike e h.0 i) (compared_alike cs h.1 i)
    term_alike (Sum e es) h = λ i. Sum (term_alike e h.0 i) (terms_alike es h.1 i)
    term_alike (Not e) h = ap (λ t. Not t) (term_alike e h)
    term_alike (Post e ls) h = λ i. Post (term_alike e h.0 i) (links_alike ls h.1 i)
    term_alike (Print es) h = ap (λ ts. Print ts) (terms_alike es h)
    term_alike (NewError e) h = ap (λ t. NewError t) (term_alike e h)
    term_alike (Import e) h = ap (λ t. Import t) (term_alike e h)
    term_alike OwnUrl h = refl

    terms_alike : (es : Terms V) → HoldAll Knows waits (mapped_terms f es) → mapped_terms f es ≡ mapped_terms g es
    terms_alike terms.none h = refl
    terms_alike (terms.more e es) h = λ i. terms.more (term_alike e h.0 i) (terms_alike es h.1 i)

    compared_alike : (cs : Compared V) → HoldCompared Knows waits (mapped_compared f cs) → mapped_compared f cs ≡ mapped_compared g cs
    compared_alike last h = refl
    compared_alike (compared alike e cs) h = λ i. compared alike (term_alike e h.0 i) (compared_alike cs h.1 i)

    links_alike : (ls : LinkTerms V) → HoldLinks Knows waits (mapped_links f ls) → mapped_links f ls ≡ mapped_links g ls
    links_alike ends h = refl
    links_alike (member x ls) h = ap (λ ks. member x ks) (links_alike ls h)
    links_alike (call es ls) h = λ i. call (terms_alike es h.0 i) (links_alike ls h.1 i)

  option_alike : (o : Option V) → HoldsValue Knows (option_map f o) → option_map f o ≡ option_map g o
  option_alike None h = refl
  option_alike (Some v) h = ap (λ u. Some u) (same v h)

  scope_alike : (s : Scope V) → HoldsScope Knows (mapped_scope f s) → mapped_scope f s ≡ mapped_scope g s
  scope_alike [] h = refl
  scope_alike (c ∷ cs) h = λ i. named_cell c.name c.cell.constant (option_alike c.cell.value h.0 i) ∷ scope_alike cs h.1 i

  module _ (k : Kind) where
    mutual
      part_alike : (p : Part V) → HoldsPart Knows waits k (mapped_part f p) → mapped_part f p ≡ mapped_part g p
      part_alike (Whole s) h = refl
      part_alike (Does purpose e) h = ap (λ t. Does purpose t) (term_alike e h.1)
      part_alike (Stands purpose) h = refl
      part_alike (In scope rest) h = λ i. In (scope_alike scope h.0 i) (rest_alike rest h.1 i)
      part_alike (Tries rest caught handler) h = ap (λ r. Tries r caught handler) (rest_alike rest h.0)

      pub rest_alike : (r : Rest V) → HoldsRest Knows waits k (mapped_rest f r) → mapped_rest f r ≡ mapped_rest g r
      rest_alike end h = refl
      rest_alike (more p rest) h = λ i. more (part_alike p h.0 i) (rest_alike rest h.1 i)
