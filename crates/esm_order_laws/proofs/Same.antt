-- To rename each module as it is named changes nothing.
use Rattle.std.proofs.Common.{◌≡◌, List, [], ◌∷◌, map, Option, Some, None, refl, ap}
use Rattle.std.specs.Option.{option_map}
use Rattle.esm_base.specs.Urls.{Url}
use Rattle.esm_values.specs.Value.{Value, Undefined, Truth, Text, Func, Error, Namespace, Promise}
use Rattle.esm_values.specs.Naming.{renamed_value}
use Rattle.esm_promise.specs.Promises as ps
use Rattle.esm_promise.specs.Promises.{Promises, Settled, Fulfilled, Rejected, Pending, Done, Job, job}
use Rattle.esm_promise.specs.Reactions.{Reaction, Await, BodyEnd, Loaded, Evaluated, EntryLoaded, EntryDone}
use Rattle.esm_promise.specs.Renaming.{renamed, renamed_reaction, renamed_settled, renamed_promise, renamed_job}
use Rattle.esm_promise.specs.Outer.{Outer}
use Rattle.esm_expr_eval.specs.Terms.{Term, Terms, Compared, LinkTerms}
use Rattle.esm_expr_eval.specs.Terms.{Term as term}
use Rattle.esm_expr_eval.specs.Terms.{Terms as terms}
use Rattle.esm_expr_eval.specs.Terms.{Compared as compared}
use Rattle.esm_expr_eval.specs.Terms.{LinkTerms as links}
use Rattle.esm_expr_eval.specs.Naming.{mapped_term, mapped_terms, mapped_compared, mapped_links}
use Rattle.esm_env.specs.Cells.{Cells}
use Rattle.esm_env.specs.Naming.{renamed_cells}
use Rattle.esm_rewriting.specs.Scopes.{NamedCell, named_cell}
use Rattle.esm_rewriting.specs.Rest.{Part, Rest, end, more}
use Rattle.esm_rewriting.specs.Rest.Part.{Whole, Does, Stands, In, Tries}
use Rattle.esm_rewriting.specs.State.{Event, Begins, Ends, Throws, Standing, Engine, State}
use Rattle.esm_rewriting.specs.Naming.{mapped_named, mapped_part, mapped_rest, renamed_event, renamed_standing, renamed_engine, renamed_outer, renamed_state}
use Rattle.esm_order_laws.proofs.Itself.{itself}

pub mapped_same : {A : Type 0} (f : A → A) → ((x : A) → f x ≡ x) → (xs : List A) → map f xs ≡ xs
mapped_same f same [] = refl
mapped_same f same (x ∷ xs) = λ i. same x i ∷ mapped_same f same xs i

pub option_same : {A : Type 0} (f : A → A) → ((x : A) → f x ≡ x) → (o : Option A) → option_map f o ≡ o
option_same f same None = refl
option_same f same (Some x) = ap Some (same x)

-- ---- values

abbrev V : Type 0
V = Value Url

abbrev pub re : V → V
re v = renamed_value (λ (u : Url). u) v

pub value_same : (v : V) → re v ≡ v
value_same Undefined = refl
value_same (Truth b) = refl
value_same (Text t) = refl
value_same (Func m i) = refl
value_same (Error e) = refl
value_same (Namespace m) = refl
value_same (Promise p) = refl

-- ---- expressions

mutual
  term_same : (t : Term V) → mapped_term re t ≡ t
  term_same (term.Val v) = ap term.Val (value_same v)
  term_same term.Waits = refl
  term_same (term.Fails v) = ap term.Fails (value_same v)
  term_same (term.Name x) = refl
  term_same (term.Or e es) = λ i. term.Or (term_same e i) (terms_same es i)
  term_same (term.And e es) = λ i. term.And (term_same e i) (terms_same es i)
  term_same (term.Equal e cs) = λ i. term.Equal (term_same e i) (compared_same cs i)
  term_same (term.Sum e es) = λ i. term.Sum (term_same e i) (terms_same es i)
  term_same (term.Not e) = ap term.Not (term_same e)
  term_same (term.Post e ls) = λ i. term.Post (term_same e i) (links_same ls i)
  term_same (term.Print es) = ap term.Print (terms_same es)
  term_same (term.NewError e) = ap term.NewError (term_same e)
  term_same (term.Import e) = ap term.Import (term_same e)
  term_same term.OwnUrl = refl

  terms_same : (es : Terms V) → mapped_terms re es ≡ es
  terms_same terms.none = refl
  terms_same (terms.more e es) = λ i. terms.more (term_same e i) (terms_same es i)

  compared_same : (cs : Compared V) → mapped_compared re cs ≡ cs
  compared_same compared.last = refl
  compared_same (compared.compared alike e cs) = λ i. compared.compared alike (term_same e i) (compared_same cs i)

  links_same : (ls : LinkTerms V) → mapped_links re ls ≡ ls
  links_same links.ends = refl
  links_same (links.member x ls) = ap (links.member x) (links_same ls)
  links_same (links.call es ls) = λ i. links.call (terms_same es i) (links_same ls i)

-- ---- what remains

cell_same : (c : NamedCell V) → mapped_named re c ≡ c
cell_same c = λ i. named_cell c.name c.cell.constant (option_same re value_same c.cell.value i)

mutual
  part_same : (p : Part V) → mapped_part re p ≡ p
  part_same (Whole s) = refl
  part_same (Does purpose e) = ap (Does purpose) (term_same e)
  part_same (Stands purpose) = refl
  part_same (In scope rest) = λ i. In (mapped_same (mapped_named re) cell_same scope i) (rest_same rest i)
  part_same (Tries rest caught handler) = ap (λ r. Tries r caught handler) (rest_same rest)

  rest_same : (r : Rest V) → mapped_rest re r ≡ r
  rest_same end = refl
  rest_same (more p rest) = λ i. more (part_same p i) (rest_same rest i)

-- ---- the engine and the cells

event_same : (e : Event Url) → renamed_event itself e ≡ e
event_same (Begins m) = refl
event_same (Ends m) = refl
event_same (Throws m) = refl

standing_same : (s : Standing Url) → renamed_standing itself s ≡ s
standing_same s = λ i. record s { rest = rest_same s.rest i }

engine_same : (e : Engine Url) → renamed_engine itself e ≡ e
engine_same e = λ i. record e {
  events = mapped_same (renamed_event itself) event_same e.events i;
  standing = mapped_same (renamed_standing itself) standing_same e.standing i;
}

cells_same : (cells : Cells Url) → renamed_cells itself cells ≡ cells
cells_same cells = λ i u x. option_same re value_same (cells u x) i

-- ---- promises

abbrev R : Type 0
R = Reaction Url

reaction_same : (r : R) → renamed_reaction (λ (u : Url). u) r ≡ r
reaction_same (Await m) = refl
reaction_same (BodyEnd m) = refl
reaction_same (Loaded load) = refl
reaction_same (Evaluated load) = refl
reaction_same EntryLoaded = refl
reaction_same EntryDone = refl

pub settled_same : (how : Settled V) → renamed_settled (λ (u : Url). u) how ≡ how
settled_same (Fulfilled v) = ap Fulfilled (value_same v)
settled_same (Rejected v) = ap Rejected (value_same v)

promise_same : (p : ps.Promise R V) → renamed_promise (λ (u : Url). u) p ≡ p
promise_same (Pending rs) = ap Pending (mapped_same (renamed_reaction (λ (u : Url). u)) reaction_same rs)
promise_same (Done how) = ap Done (settled_same how)

job_same : (j : Job R) → renamed_job (λ (u : Url). u) j ≡ j
job_same j = ap (job j.promise) (reaction_same j.reaction)

promises_same : (p : Promises R V) → renamed (λ (u : Url). u) p ≡ p
promises_same p = λ i. record {
  all = mapped_same (renamed_promise (λ (u : Url). u)) promise_same p.all i;
  jobs = mapped_same (renamed_job (λ (u : Url). u)) job_same p.jobs i;
}

-- ---- states: what import() reads is seen otherwise, and nothing else changes

module _ {I : Type 0} (image : I → I) where
  pub outer_same : (o : Outer Url I) → renamed_outer itself image o ≡ record o { imports = image o.imports }
  outer_same o = λ i. record { promises = promises_same o.promises i; errors = o.errors; imports = image o.imports }

  pub state_same : (w : State Url I) → renamed_state itself image w ≡ record w { outer = record w.outer { imports = image w.outer.imports } }
  state_same w = λ i. record { engine = engine_same w.engine i; cells = cells_same w.cells i; outer = outer_same w.outer i }
