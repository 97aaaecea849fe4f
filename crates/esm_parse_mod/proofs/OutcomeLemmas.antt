-- One step after another, in a tree that grows.
use Rattle.std.proofs.Common.{◌≡◌, ℕ, ◌<◌, ◌≤◌, List, [], ◌∷◌, ◌++◌, length, None, Result, Err, sym, subst, ap, ◌∙◌, arith, append-nil, append_assoc, length-append}
use Rattle.esm_tree.specs.Syntax.{Item, Parts}
use Rattle.esm_tree.specs.Flat.{part, init_of, init_need, stmt_part, stmt_parts, AllStmtsBelow, bindings_of, bindings_need}
use Rattle.esm_tree.specs.declared.node.ExprId.{ExprId}
use Rattle.esm_tree.specs.declared.node.StmtId.{StmtId}
use Rattle.esm_tree.specs.declared.node.Initializer.{Initializer}
use Rattle.esm_tree.specs.declared.node.LexicalBinding.{LexicalBinding}
use Rattle.esm_tree.proofs.FlatLemmas.{part_stays, init_stays, bindings_stay, stmt_part_stays, stmt_parts_stay}
use Rattle.esm_grammar.specs.Reading.{Read}
use Rattle.esm_parse_expr.specs.declared.reader.Stop.{Stop}
use Rattle.esm_parse_expr.specs.declared.reader.Stop.TheVariants as end
use Rattle.esm_parse_expr.specs.Outcome.{Refuses, Grows}
use Rattle.esm_parse_mod.specs.Inner.Outcome.{Grew, Gives, Reads, ReadsModule}

pub grew_none : (t : Parts) → Grew t t
grew_none t = record {
  exprs = [];
  stmts = [];
  needs = [];
  is = λ i. record t { exprs = sym (append-nil t.exprs) i; stmts = sym (append-nil t.stmts) i; needs = sym (append-nil t.needs) i };
}

-- where expressions alone were added
pub grew_exprs : (a b : Parts) → Grows a b → Grew a b
grew_exprs a b p = record {
  exprs = p.added;
  stmts = [];
  needs = [];
  is = p.is ∙ (λ i. record a { exprs = a.exprs ++ p.added; stmts = sym (append-nil a.stmts) i; needs = sym (append-nil a.needs) i });
}

pub grew_then : (a b c : Parts) → Grew a b → Grew b c → Grew a c
grew_then a b c p q = record {
  exprs = p.exprs ++ q.exprs;
  stmts = p.stmts ++ q.stmts;
  needs = p.needs ++ q.needs;
  is = q.is
      ∙ (λ i. let t = p.is i in let r : Parts = record t { exprs = t.exprs ++ q.exprs; stmts = t.stmts ++ q.stmts; needs = t.needs ++ q.needs } in r)
      ∙ (λ i. record a { exprs = append_assoc a.exprs p.exprs q.exprs i; stmts = append_assoc a.stmts p.stmts q.stmts i; needs = append_assoc a.needs p.needs q.needs i });
}

pub more_exprs : (a b : Parts) → Grew a b → length a.exprs ≤ length b.exprs
more_exprs a b p = let e = ap (λ (t : Parts). length t.exprs) p.is in omega (arith, e, length-append a.exprs p.exprs)

pub more_stmts : (a b : Parts) → Grew a b → length a.stmts ≤ length b.stmts
more_stmts a b p = let e = ap (λ (t : Parts). length t.stmts) p.is in omega (arith, e, length-append a.stmts p.stmts)

-- what was named stays
pub part_later : (a b : Parts) (id : ExprId) → Grew a b → id.0 < length a.exprs → part b.exprs id ≡ part a.exprs id
part_later a b id p lt = ap (λ (t : Parts). part t.exprs id) p.is ∙ part_stays a.exprs p.exprs id lt

pub init_later : (a b : Parts) (v : Initializer) → Grew a b → init_need v ≤ length a.exprs → init_of b.exprs v ≡ init_of a.exprs v
init_later a b v p le = ap (λ (t : Parts). init_of t.exprs v) p.is ∙ init_stays a.exprs p.exprs v le

pub bindings_later : (a b : Parts) (bs : List LexicalBinding) → Grew a b → bindings_need bs ≤ length a.exprs → bindings_of b.exprs bs ≡ bindings_of a.exprs bs
bindings_later a b bs p le = ap (λ (t : Parts). bindings_of t.exprs bs) p.is ∙ bindings_stay a.exprs p.exprs bs le

pub stmt_later : (a b : Parts) (id : StmtId) → Grew a b → id.0 < length a.stmts → stmt_part b.stmts id ≡ stmt_part a.stmts id
stmt_later a b id p lt = ap (λ (t : Parts). stmt_part t.stmts id) p.is ∙ stmt_part_stays a.stmts p.stmts id lt

pub stmts_later : (a b : Parts) (ids : List StmtId) → Grew a b → AllStmtsBelow (length a.stmts) ids → stmt_parts b.stmts ids ≡ stmt_parts a.stmts ids
stmts_later a b ids p h = ap (λ (t : Parts). stmt_parts t.stmts ids) p.is ∙ stmt_parts_stay a.stmts p.stmts ids h

pub stmts_below : (m n : ℕ) (ids : List StmtId) → m ≤ n → AllStmtsBelow m ids → AllStmtsBelow n ids
stmts_below m n [] le h = tt
stmts_below m n (x ∷ ids) le h = (omega (arith, h.0), stmts_below m n ids le h.1)

pub stmts_below_later : (a b : Parts) (ids : List StmtId) → Grew a b → AllStmtsBelow (length a.stmts) ids → AllStmtsBelow (length b.stmts) ids
stmts_below_later a b ids p h = stmts_below (length a.stmts) (length b.stmts) ids (more_stmts a b p) h

refuses : {A B : Type 0} (e : Stop) (read : Read A) (other : Read B) → (read ≡ None → other ≡ None) → Refuses e read → Refuses e other
refuses end.Fault read other f h = f h
refuses end.Memory read other f h = tt

-- a refusal, and so of what it is a part of
pub refused_by : {A B Y : Type 0} {fits' : Parts → Y → Type 0} {view' : Parts → Y → B} (a b : Parts) (e : Stop) (r : Result (Y × ℕ) Stop) (read : Read A) (other : Read B)
    → Grew a b → Refuses e read → ((y : Stop) × (r ≡ Err y) × (y ≡ e)) → (read ≡ None → other ≡ None) → Reads fits' view' a b r other
refused_by {fits' = fits'} {view' = view'} a b e r read other p h s f =
    let is : Err e ≡ r = sym (s.1 ∙ ap Err s.2) in
    let P : Result _ Stop → Type 0 = λ x. Reads fits' view' a b x other in
    subst P is (record { grows = p; gives = refuses e read other f h })

-- memory ran out
pub no_memory : {Y B : Type 0} {fits' : Parts → Y → Type 0} {view' : Parts → Y → B} (a b : Parts) (r : Result (Y × ℕ) Stop) (other : Read B)
    → Grew a b → ((y : Stop) × (r ≡ Err y) × (y ≡ end.Memory)) → Reads fits' view' a b r other
no_memory {fits' = fits'} {view' = view'} a b r other p s =
    let is : Err end.Memory ≡ r = sym (s.1 ∙ ap Err s.2) in
    let P : Result _ Stop → Type 0 = λ x. Reads fits' view' a b x other in
    subst P is (record { grows = p; gives = tt })

-- the last step says what the whole gives
pub continued : {X A : Type 0} {fits : Parts → X → Type 0} {view : Parts → X → A} (a b c : Parts) (r : Result (X × ℕ) Stop) (read other : Read A)
    → Grew a b → Reads fits view b c r read → other ≡ read → Reads fits view a c r other
continued {fits = fits} {view = view} a b c r read other p h e = record {
  grows = grew_then a b c p h.grows;
  gives = let P : Read _ → Type 0 = λ x. Gives fits view c r x in subst P (sym e) h.gives;
}

-- nothing more was added, and nothing is read
pub nothing : {X A : Type 0} {fits : Parts → X → Type 0} {view : Parts → X → A} (a b : Parts) (other : Read A) → Grew a b → other ≡ None → Reads fits view a b (Err end.Fault) other
nothing a b other p e = record { grows = p; gives = e }

pub items_stay : (a b : Parts) → Grew a b → b.items ≡ a.items
items_stay a b p = ap (λ (t : Parts). t.items) p.is

pub module_refused : {A : Type 0} (e : Stop) (r : Result Parts Stop) (read : Read A) (other : Read (List Item)) → Refuses e read → ((y : Stop) × (r ≡ Err y) × (y ≡ e)) → (read ≡ None → other ≡ None) → ReadsModule r other
module_refused e r read other h s f =
    let is : Err e ≡ r = sym (s.1 ∙ ap Err s.2) in
    let P : Result _ Stop → Type 0 = λ x. ReadsModule x other in
    subst P is (refuses e read other f h)
