-- The first operation of a place tells which it is.
use Rattle.std.proofs.Common.{◌≡◌, ℕ, zero, suc, List, [], ◌∷◌, Option, Some, None, refl, subst, ap, sym, ◌∙◌}
use Rattle.esm_tree.specs.Syntax as x
use Rattle.esm_tree.specs.Syntax.{Expr, none, more, ends, member, call, Bindings, no_more, binding, Stmts, nothing, first}
use Rattle.esm_rewriting.specs.Rest.{Use as Purpose}
use Rattle.esm_rewriting.specs.Rest.{Use as purposes}
use Rattle.esm_rows.specs.Rows.{Row, Found, found_in, found_here, read_by, write_by, set_by}
use Rattle.esm_rows.specs.Rows.{Operation as o}
use Rattle.esm_row_laws.specs.Spots.{Left, left, Round, Own, Inner, First, Tried, names_of, Kont, Uses, Ors, Ands, Equals, Compares, Sums, Adds, Turns, Posts, Passes, Prints, Makes, Imports, kont_names, Opening, Plainly, Firstly, Trying, Spot, Begins, Has, Between, Opens, Handles, left_row, kont_row, spot_row}
use Rattle.esm_row_laws.specs.Told.{IsOwn, at_head, at_last, without, at_last_one, of_block, of_first, of_body, of_function, plainly, firstly, Told}

abbrev pub HasOwn : Spot → Type 0
HasOwn s = (op : o) × (c : Row) × (spot_row s ≡ op ∷ c) × Told op c s

module _ (k : Kont) (name : List ℕ) where
  named : (f : Option Found) → found_in (kont_names k) name ≡ f → HasOwn (Begins (x.Name name) k)
  named None e = (o.Name name, kont_row k, ap (λ f. read_by name f ∷ kont_row k) e, (k, refl, e, refl))
  named (Some f) e = (o.Local f.place name, kont_row k, ap (λ f. read_by name f ∷ kont_row k) e, (k, f, refl, e, refl, refl))

module _ (name : List ℕ) (l : Left) (rs : List Round) where
  sets : (f : Option Found) → found_here (names_of rs) name ≡ f → HasOwn (Has (Uses (purposes.Sets name) l rs))
  sets None e = (o.SetName name, left_row l rs, ap (λ f. set_by name f ∷ left_row l rs) e, (l, rs, refl, e, refl))
  sets (Some f) e = (o.SetLocal f.place, left_row l rs, ap (λ f. set_by name f ∷ left_row l rs) e, (name, l, rs, f, refl, e, refl, refl))

  writes : (f : Option Found) → found_in (names_of rs) name ≡ f → HasOwn (Has (Uses (purposes.Writes name) l rs))
  writes None e = (o.WriteName name, left_row l rs, ap (λ f. write_by name f ∷ left_row l rs) e, (l, rs, refl, e, refl))
  writes (Some f) e = (o.WriteLocal f.place name f.constant, left_row l rs, ap (λ f. write_by name f ∷ left_row l rs) e, (l, rs, f, refl, e, refl, refl, refl))

uses : (purpose : Purpose) (l : Left) (rs : List Round) → HasOwn (Has (Uses purpose l rs))
uses purposes.Drops l rs = (o.Drop, _, refl, (l, rs, refl, refl))
uses (purposes.Sets name) l rs = sets name l rs (found_here (names_of rs) name) refl
uses (purposes.Writes name) l rs = writes name l rs (found_in (names_of rs) name) refl
uses purposes.Throws l rs = (o.Throw, _, refl, (l, rs, refl, refl))
uses purposes.Returns l rs = (o.Return, _, refl, (l, rs, refl, refl))
uses purposes.Prints l rs = (o.PrintAwaited, _, refl, (l, rs, refl, refl))
uses (purposes.Chooses ss others) l rs = (o.Choose _, _, refl, (ss, others, l, rs, refl, refl, refl))
uses (purposes.Awaits purpose) l rs = (o.Await, _, refl, (purpose, l, rs, refl, refl))

leaf : (e : Expr) (k : Kont) → IsOwn (Begins e k) → HasOwn (Begins e k)
leaf (x.Text s) k h = (o.Text s, _, refl, (k, refl, refl))
leaf (x.Truth b) k h = (o.Truth b, _, refl, (k, refl, refl))
leaf x.Undefined k h = (o.Undefined, _, refl, (k, refl, refl))
leaf (x.Name name) k h = named k name (found_in (kont_names k) name) refl
leaf (x.Group e) k h = absurd h
leaf (x.Or e es) k h = absurd h
leaf (x.And e es) k h = absurd h
leaf (x.Equal e cs) k h = absurd h
leaf (x.Sum e es) k h = absurd h
leaf (x.Not e) k h = absurd h
leaf (x.Post e ls) k h = absurd h
leaf (x.Print none) k h = (o.Print zero, _, refl, (k, without, refl))
leaf (x.Print (more e es)) k h = absurd h
leaf x.EmptyError k h = absurd h
leaf (x.NewError e) k h = absurd h
leaf (x.Import e) k h = absurd h
leaf x.Url k h = (o.Url, _, refl, (k, refl, refl))

takes : (k : Kont) → IsOwn (Has k) → HasOwn (Has k)
takes (Uses purpose l rs) h = uses purpose l rs
takes (Ors none k) h = absurd h
takes (Ors (more e es) k) h = (o.OrElse _, _, refl, (e, es, k, refl, refl, refl))
takes (Ands none k) h = absurd h
takes (Ands (more e es) k) h = (o.AndAlso _, _, refl, (e, es, k, refl, refl, refl))
takes (Equals cs k) h = absurd h
takes (Compares alike cs k) h = (o.Compare alike, _, refl, (cs, k, refl, refl))
takes (Sums es k) h = absurd h
takes (Adds es k) h = (o.Add, _, refl, (es, k, refl, refl))
takes (Turns k) h = (o.Not, _, refl, (k, refl, refl))
takes (Posts ends k) h = absurd h
takes (Posts (member name ls) k) h = (o.Member name, _, refl, (ls, k, refl, refl))
takes (Posts (call none ls) k) h = (o.Call zero, _, refl, (ls, k, at_head, refl))
takes (Posts (call (more e es) ls) k) h = absurd h
takes (Passes n none ls k) h = (o.Call (suc n), _, refl, (ls, k, at_last n, refl))
takes (Passes n (more e es) ls k) h = absurd h
takes (Prints n none k) h = (o.Print (suc n), _, refl, (k, at_last_one n, refl))
takes (Prints n (more e es) k) h = absurd h
takes (Makes k) h = (o.NewError, _, refl, (k, refl, refl))
takes (Imports k) h = (o.Import, _, refl, (k, refl, refl))

ends_block : (rs : List Round) → HasOwn (Between (left no_more nothing) rs)
ends_block [] = (o.End, _, refl, of_body)
ends_block (Own ds ∷ rs) = (o.End, _, refl, of_function ds rs)
ends_block (Inner ds l ∷ rs) = (o.Leave _ _, _, refl, (ds, l, rs, of_block, refl, refl))
ends_block (First ds others l ∷ rs) = (o.Leave _ _, _, refl, (ds, l, rs, of_first others, refl, refl))
ends_block (Tried ds caught handler l ∷ rs) = (o.EndTry _ _, _, refl, (ds, caught, handler, l, rs, refl, refl, refl, refl))

between : (bs : Bindings) (ss : Stmts) (rs : List Round) → IsOwn (Between (left bs ss) rs) → HasOwn (Between (left bs ss) rs)
between no_more nothing rs h = ends_block rs
between no_more (first st ss) rs h = (o.Step, _, refl, (st, ss, rs, refl, refl))
between (binding name value bs) ss rs h = absurd h

opens : (opening : Opening) (ss : Stmts) (l : Left) (rs : List Round) → HasOwn (Opens opening ss l rs)
opens Plainly ss l rs = (o.Enter _, _, refl, (Plainly, ss, l, rs, _, plainly, refl, refl, refl))
opens (Firstly others) ss l rs = (o.Enter _, _, refl, (Firstly others, ss, l, rs, _, firstly others, refl, refl, refl))
opens (Trying caught handler) ss l rs = (o.Try _ _, _, refl, (caught, handler, ss, l, rs, refl, refl, refl, refl))

pub own : (s : Spot) → IsOwn s → HasOwn s
own (Begins e k) h = leaf e k h
own (Has k) h = takes k h
own (Between behind rs) h = between behind.bindings behind.stmts rs h
own (Opens opening ss l rs) h = opens opening ss l rs
own (Handles caught handler l rs) h = (o.Caught _ _, _, refl, (caught, handler, l, rs, refl, refl))

-- ---- where the first operation is known

head_of : Row → o → o
head_of [] d = d
head_of (op ∷ c) d = op

tail_of : Row → Row
tail_of [] = []
tail_of (op ∷ c) = c

same_head : (op oq : o) (c d : Row) → op ∷ c ≡ oq ∷ d → op ≡ oq
unfolding head_of
same_head op oq c d e = ap (λ r. head_of r op) e

same_tail : (op oq : o) (c d : Row) → op ∷ c ≡ oq ∷ d → c ≡ d
unfolding tail_of
same_tail op oq c d e = ap tail_of e

pub told : (s : Spot) (op : o) (c : Row) → IsOwn s → spot_row s ≡ op ∷ c → Told op c s
told s op c h e =
    let it = own s h in
    let same = sym it.2 ∙ e in
    let first_is = same_head it.0 op it.1 c same in
    let rest_is = same_tail it.0 op it.1 c same in
    subst (λ p. Told p c s) first_is (subst (λ d. Told it.0 d s) rest_is it.3)
