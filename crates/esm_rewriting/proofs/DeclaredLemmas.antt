-- Outside of all blocks, what remains of a body sets only names that its module declares.
use Rattle.std.proofs.Common.{◌≡◌, ℕ, Bool, true, false, List, [], ◌∷◌, ◌++◌, Option, Some, None, refl, subst}
use Rattle.std.proofs.lemmas.List.{append_assoc}
use Rattle.std.proofs.lemmas.Slice.Eq.{bytes_eq-Decides}
use Rattle.std.specs.Str.{bytes_eq}
use Rattle.esm_base.specs.declared.limits.Limit.{Limit}
use Rattle.esm_tree.specs.Syntax as x
use Rattle.esm_tree.specs.Syntax.{Init, absent, plain, awaited, Bindings, no_more, binding, Item, Stmts, nothing, first}
use Rattle.esm_tree.specs.Syntax.{Stmt as Statement}
use Rattle.esm_values.specs.Value.{Value}
use Rattle.esm_values.specs.Plans.{Rewritten as comes}
use Rattle.esm_values.specs.Plans.{Acting, Rewritten, Plan, Follows, inside}
use Rattle.esm_values.specs.Plans.{Follows as follows}
use Rattle.esm_values.specs.Plans.Plan.{Ends, Asks}
use Rattle.esm_values.specs.Acts.{AnswerTo}
use Rattle.esm_values.specs.Operators.{Values, values}
use Rattle.esm_expr_eval.specs.Terms.{Term}
use Rattle.esm_env.specs.Declarations.{Declaration, Initial, declared_by, declares, declared_in, declared_named, initial_by, body_of, functions_of, function_named}
use Rattle.esm_env.specs.Modules.{Modules}
use Rattle.esm_rewriting.specs.Rest.{Use, Rest, end, more, whole, begin, does_init, does_bindings, fill_rest, branch}
use Rattle.esm_rewriting.specs.Rest.Part.{Whole, Does, Stands, In, Tries}
use Rattle.esm_rewriting.specs.Rest.{Use as uses}
use Rattle.esm_rewriting.specs.State.{State, Importing}
use Rattle.esm_rewriting.specs.Acts.{Inner, write_name}
use Rattle.esm_rewriting.specs.BodyRewriting.{RewrittenBody, On, Gives, Waits, RewritesBody, within, caught, wrote}
use Rattle.esm_rewriting.specs.BodyRewriting.RewritesBody.{begins_at, does, drops, sets, writes, throws, returns, prints, chooses, awaits, inner, inner_end, tries, tries_end}
use Rattle.esm_rewriting.specs.Chains.{Comes, here, last, later, Turns, only, behind}
use Rattle.esm_rewriting.specs.Sets.{IsNameOf, DeclareOnly, SetsUse, SetsPart, SetsRest, SetsMove}

-- ---- rewritings

module _ {V : Type 0} (vals : Values V) (Has : List ℕ → Type 0) where
  init_sets : (u : Use) (value : Init) → SetsUse Has u → SetsPart Has (does_init vals u value)
  init_sets u absent h = h
  init_sets u (plain e) h = h
  init_sets u (awaited e) h = h

  bindings_set : (b : Bool) (bs : Bindings) (rest : Rest V) → DeclareOnly Has (declared_by b bs) → SetsRest Has rest → SetsRest Has (does_bindings vals bs rest)
  bindings_set b no_more rest h g = g
  bindings_set b (binding name value bs) rest h g = (init_sets (uses.Sets name) value h.0, bindings_set b bs rest h.1 g)

  begin_sets : (s : Statement) (rest : Rest V) → DeclareOnly Has (declares s) → SetsRest Has rest → SetsRest Has (begin vals s rest)
  begin_sets x.Empty rest h g = g
  begin_sets (x.Expression e) rest h g = (tt, g)
  begin_sets (x.Assign y e) rest h g = (init_sets (uses.Writes y) e tt, g)
  begin_sets (x.Block ss) rest h g = (tt, g)
  begin_sets (x.If e ss) rest h g = (tt, g)
  begin_sets (x.IfElse e ss ts) rest h g = (tt, g)
  begin_sets (x.Try ss ts) rest h g = (tt, g)
  begin_sets (x.TryCatch ss y ts) rest h g = (tt, g)
  begin_sets (x.Throw e) rest h g = (tt, g)
  begin_sets x.Return rest h g = (tt, g)
  begin_sets (x.ReturnValue e) rest h g = (tt, g)
  begin_sets (x.Await e) rest h g = (tt, g)
  begin_sets (x.PrintAwait e) rest h g = (tt, g)
  begin_sets (x.Const bs) rest h g = bindings_set true bs rest h g
  begin_sets (x.Let bs) rest h g = bindings_set false bs rest h g
  begin_sets (x.Default e) rest h g = (init_sets _ e h.0, g)

  branch_sets : (b : Bool) (ss others : Stmts) → SetsPart Has (branch vals b ss others)
  branch_sets true ss others = tt
  branch_sets false ss others = tt

module _ {V S : Type 0} (Has : List ℕ → Type 0) where
  within_sets : (f : Rest V → Rest V) (move : RewrittenBody V S) → ((s : Rest V) → SetsRest Has (f s)) → SetsMove Has (within f move)
  within_sets f (On (comes.Goes s)) h = h s
  within_sets f (On (comes.Leaves v)) h = tt
  within_sets f (On (comes.Calls g vs s)) h = h s
  within_sets f (On (comes.Stops why)) h = tt
  within_sets f (Gives v) h = tt
  within_sets f (Waits v s) h = h s

  caught_sets : (y : Option (List ℕ)) (handler : Stmts) (rest : Rest V) (move : RewrittenBody V S) → SetsRest Has rest → SetsMove Has (caught y handler rest move)
  caught_sets y handler rest (On (comes.Goes s)) h = (tt, h)
  caught_sets y handler rest (On (comes.Leaves v)) h = (tt, h)
  caught_sets y handler rest (On (comes.Calls g vs s)) h = (tt, h)
  caught_sets y handler rest (On (comes.Stops why)) h = tt
  caught_sets y handler rest (Gives v) h = tt
  caught_sets y handler rest (Waits v s) h = (tt, h)

  goes_sets : (u : Use) (rest : Rest V) (c : Rewritten V S (Term V)) → SetsUse Has u → SetsRest Has rest → SetsMove Has (On (inside (λ e. more (Does u e) rest) c))
  goes_sets u rest (comes.Goes e) h g = (h, g)
  goes_sets u rest (comes.Leaves v) h g = tt
  goes_sets u rest (comes.Calls f vs e) h g = (h, g)
  goes_sets u rest (comes.Stops why) h g = tt

  abbrev PlanSets : Plan V S (Rest V) → Type 0
  PlanSets (Ends c) = SetsMove Has (On c)
  PlanSets (Asks a next) = (r : AnswerTo a) → PlanSets (next r)

  plan_sets : {W : Type 0} {acts : Acting W V S} {w after : W} {p : Plan V S (Rest V)} {c : Rewritten V S (Rest V)} → Follows acts w p c after → PlanSets p → SetsMove Has (On c)
  plan_sets follows.ends h = h
  plan_sets (follows.asks r a f) h = plan_sets f (h r)
  plan_sets (follows.stops a) h = tt

module _ {N I : Type 0} (same : N → N → Bool) (modules : I → Modules N) (begins : Importing N I) (m : N) (Has : List ℕ → Type 0) where
  abbrev Sets : Rest (Value N) → Type 0
  Sets r = SetsRest Has r

  abbrev SetsTo : RewrittenBody (Value N) Limit → Type 0
  SetsTo move = SetsMove Has move

  wrote_sets : (rest : Rest (Value N)) (o : Option (Value N)) → Sets rest → SetsTo (wrote rest o)
  wrote_sets rest None h = h
  wrote_sets rest (Some v) h = tt

  moves_set : {w after : Inner N I} {r : Rest (Value N)} {move : RewrittenBody (Value N) Limit} → RewritesBody same modules begins m w r move after → Sets r → SetsTo move
  moves_set (begins_at {s = s} {rest = rest} f) h = plan_sets Has f (λ answer. begin_sets (values same) Has s rest h.0 h.1)
  moves_set (does {purpose = u} {rest = rest} {c = c} s) h = goes_sets Has u rest c h.0 h.1
  moves_set drops h = h.1
  moves_set sets h = h.1
  moves_set {w = w} (writes {x = y} {v = v} {rest = rest}) h = wrote_sets rest (write_name same modules begins m w y v).0 h.1
  moves_set throws h = tt
  moves_set returns h = tt
  moves_set (prints f) h = plan_sets Has f (λ one two. h.1)
  moves_set (chooses {ss = ss} {others = others}) h = (branch_sets (values same) Has _ ss others, h.1)
  moves_set awaits h = (h.0, h.1)
  moves_set (inner {scope' = t} {rest = rest} {move = move} s) h = within_sets Has (λ r. more (In t r) rest) move (λ r. (tt, h.1))
  moves_set inner_end h = h.1
  moves_set (tries {rest = rest} {x = y} {handler = handler} {move = move} s) h = caught_sets Has y handler rest move h.1
  moves_set tries_end h = h.1

  pub turns_set : {w late : State N I} {r : Rest (Value N)} {move : RewrittenBody (Value N) Limit} → Turns same modules begins m w r move late → Sets r → SetsTo move
  turns_set (only d) h = moves_set d h
  turns_set (behind d t) h = turns_set t (moves_set d h)

  pub comes_set : {w late : State N I} {r : Rest (Value N)} {move : RewrittenBody (Value N) Limit} → Comes same modules begins m w r move late → Sets r → SetsTo move
  comes_set here h = h
  comes_set (last d) h = moves_set d h
  comes_set (later d c) h = comes_set c (moves_set d h)

-- ---- what stands for a call or an await

module _ {V : Type 0} (Has : List ℕ → Type 0) (given : Term V) where
  pub filled_sets : (r : Rest V) → SetsRest Has r → SetsRest Has (fill_rest given r)
  filled_sets end h = tt
  filled_sets (more (Whole s) rest) h = (h.0, filled_sets rest h.1)
  filled_sets (more (Does u e) rest) h = (h.0, filled_sets rest h.1)
  filled_sets (more (Stands u) rest) h = (h.0, filled_sets rest h.1)
  filled_sets (more (In scope r) rest) h = (tt, filled_sets rest h.1)
  filled_sets (more (Tries r y handler) rest) h = (tt, filled_sets rest h.1)

-- ---- a body from its start

abbrev Found : List Declaration → List ℕ → Option Initial → Type 0
Found ds y others = (i : Initial) × (declared_named ds y others ≡ Some i)

found_first : (b : Bool) (i : Initial) (others : Option Initial) → b ≡ true → (j : Initial) × (initial_by b i others ≡ Some j)
found_first true i others e = (i, refl)
found_first false i others e = absurd cc

found_later : (b : Bool) (i : Initial) (others : Option Initial) → (j : Initial) × (others ≡ Some j) → (j : Initial) × (initial_by b i others ≡ Some j)
found_later true i others h = (i, refl)
found_later false i others h = h

-- where it is found among the later ones, it is among all
found_more : (ds es : List Declaration) (y : List ℕ) (others : Option Initial) → Found es y others → Found (ds ++ es) y others
found_more [] es y others h = h
found_more (d ∷ ds) es y others h = found_later (bytes_eq d.name y) _ _ (found_more ds es y others h)

found_here : (d : Declaration) (ds : List Declaration) (others : Option Initial) → Found (d ∷ ds) d.name others
found_here d ds others = found_first (bytes_eq d.name d.name) _ _ (((bytes_eq-Decides d.name d.name).1 refl))

-- ds stand behind cs and before es
declared_found : (cs ds es : List Declaration) (others : List ℕ → Option Initial) → DeclareOnly (λ y. Found (cs ++ (ds ++ es)) y (others y)) ds
declared_found cs [] es others = tt
declared_found cs (d ∷ ds) es others = (
  found_more cs (d ∷ (ds ++ es)) d.name (others d.name) (found_here d (ds ++ es) (others d.name)),
  subst (λ all. DeclareOnly (λ y. Found all y (others y)) ds) (append_assoc cs (d ∷ []) (ds ++ es)) (declared_found (cs ++ d ∷ []) ds es others),
)

stmts_found : (V : Type 0) (cs : List Declaration) (ss : Stmts) (others : List ℕ → Option Initial) → SetsRest {V = V} (λ y. Found (cs ++ declared_in ss) y (others y)) (whole ss)
stmts_found V cs nothing others = tt
stmts_found V cs (first s ss) others = (
  declared_found cs (declares s) (declared_in ss) others,
  subst (λ all. SetsRest {V = V} (λ y. Found all y (others y)) (whole ss)) (append_assoc cs (declares s) (declared_in ss)) (stmts_found V (cs ++ declares s) ss others),
)

pub body_sets : (V : Type 0) (items : List Item) → SetsRest {V = V} (IsNameOf items) (whole (body_of items))
body_sets V items = stmts_found V [] (body_of items) (function_named 0 (functions_of items))
