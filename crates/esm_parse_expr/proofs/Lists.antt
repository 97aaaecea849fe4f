-- Lists of parts that a loop gathers.
use Rattle.std.proofs.Common.{◌≡◌, ◌≢◌, ℕ, zero, suc, ◌+◌, ◌-◌, ◌<◌, ◌≤◌, true, false, List, [], ◌∷◌, ◌++◌, length, Some, None, refl, sym, ap, ◌∙◌, arith}
use Rattle.esm_grammar.specs.Grammar.{linked, joined}
use Rattle.esm_tree.specs.Syntax.{Expr, Post, Exprs, none, more, Links, ends, member, call, Parts}
use Rattle.esm_tree.specs.Flat.{part, parts, links, AllBelow, AllLinksBelow}
use Rattle.esm_tree.specs.declared.node.ExprId.{ExprId}
use Rattle.esm_tree.specs.ExprIds.{ExprIds}
use Rattle.esm_tree.specs.declared.node.Link.{Link}
use Rattle.esm_tree.specs.declared.node.Link.TheVariants as l
use Rattle.esm_tree.proofs.FlatLemmas.{parts_stay, links_stay}
use Rattle.esm_tree.specs.declared.lexeme.Terminal.{Terminal}
use Rattle.esm_tree.specs.declared.lexeme.Terminal.TheVariants as t
use Rattle.esm_tree.specs.Lexeme.{Lexeme}
use Rattle.esm_grammar.specs.Lexeme.{terminal_at, text_at, is_word}
use Rattle.esm_grammar.specs.Reading.{Read, ◌>>=◌, pick, same, arguments, after_argument}
use Rattle.esm_grammar.specs.Reading as read
use Rattle.esm_parse_expr.specs.Outcome.{Grows}
use Rattle.esm_parse_expr.specs.Inner.Operators.{joined_with}
use Rattle.esm_parse_expr.proofs.OutcomeLemmas.{longer}

pub turn_more : {X : Type 0} {x : X} (f : ℕ → X) (n at : ℕ) → at < n → x ≡ f (n - at) → x ≡ f (suc (n - (at + 1)))
turn_more f n at below e = let turn : n - at ≡ suc (n - (at + 1)) = omega arith in e ∙ ap f turn

pub turn_none : {X : Type 0} {x : X} (f : ℕ → X) (n at : ℕ) → n ≤ at → x ≡ f (n - at) → x ≡ f 0
turn_none f n at done e = let none : n - at ≡ 0 = omega arith in e ∙ ap f none

abbrev pub append : Exprs → Exprs → Exprs
append none fs = fs
append (more e es) fs = more e (append es fs)

append-none : (es : Exprs) → append es none ≡ es
append-none none = refl
append-none (more e es) = ap (more e) (append-none es)

append-assoc : (d es fs : Exprs) → append (append d es) fs ≡ append d (append es fs)
append-assoc none es fs = refl
append-assoc (more e d) es fs = ap (more e) (append-assoc d es fs)

pub below_push : (n : ℕ) (ids : List ExprId) (id : ExprId) → AllBelow n ids → id.0 < n → AllBelow n (ids ++ id ∷ [])
below_push n [] id h lt = (lt, tt)
below_push n (x ∷ ids) id h lt = (h.0, below_push n ids id h.1 lt)

pub below_more : (m n : ℕ) (ids : List ExprId) → m ≤ n → AllBelow m ids → AllBelow n ids
below_more m n [] le h = tt
below_more m n (x ∷ ids) le h = (omega (arith, h.0), below_more m n ids le h.1)

pub parts_push : (es : List Expr) (ids : List ExprId) (id : ExprId) → parts es (ids ++ id ∷ []) ≡ append (parts es ids) (more (part es id) none)
parts_push es [] id = refl
parts_push es (x ∷ ids) id = ap (more (part es x)) (parts_push es ids id)

pub parts_later : (a b : Parts) (ids : List ExprId) → Grows a b → AllBelow (length a.exprs) ids → parts b.exprs ids ≡ parts a.exprs ids
parts_later a b ids p h = ap (λ (t : Parts). parts t.exprs ids) p.is ∙ parts_stay a.exprs p.added ids h

-- one more, which was added meanwhile
pub pushed_below : (a b : Parts) (ids : List ExprId) (id : ExprId) → Grows a b → AllBelow (length a.exprs) ids → id.0 < length b.exprs → AllBelow (length b.exprs) (ids ++ id ∷ [])
pushed_below a b ids id p h lt = below_push (length b.exprs) ids id (below_more (length a.exprs) (length b.exprs) ids (longer a b p) h) lt

pub pushed_parts : (a b : Parts) (ids : List ExprId) (id : ExprId) → Grows a b → AllBelow (length a.exprs) ids → parts b.exprs (ids ++ id ∷ []) ≡ append (parts a.exprs ids) (more (part b.exprs id) none)
pushed_parts a b ids id p h = parts_push b.exprs ids id ∙ ap (λ d. append d (more (part b.exprs id) none)) (parts_later a b ids p h)

-- ---- arguments

unfoldable pub fronted : Exprs → Read Exprs → Read Exprs
fronted d rest = rest >>= λ es. Some (append d es.0, es.1)

pub fronted_none : (rest : Read Exprs) → rest ≡ fronted none rest
unfolding fronted ◌>>=◌
fronted_none None = refl
fronted_none (Some r) = refl

fronted_more : (d : Exprs) (e : Expr) (rest : Read Exprs) → fronted d (rest >>= λ es. Some (more e es.0, es.1)) ≡ fronted (append d (more e none)) rest
unfolding fronted ◌>>=◌
fronted_more d e None = refl
fronted_more d e (Some r) = ap (λ x. Some (x, r.1)) (sym (append-assoc d (more e none) r.0))

module _ (ts : List Lexeme) (whole : ℕ → Read Expr) (d : Exprs) (n i : ℕ) where
  pub arguments_over : fronted d (arguments ts whole zero i) ≡ None
  unfolding fronted arguments ◌>>=◌
  arguments_over = refl

  pub arguments_closed : true ≡ same (terminal_at ts i) t.Close → fronted d (arguments ts whole (suc n) i) ≡ Some (d, i + 1)
  unfolding fronted arguments pick ◌>>=◌
  arguments_closed h = rw (← h) (ap (λ x. Some (x, i + 1)) (append-none d))

  module _ (open_yet : false ≡ same (terminal_at ts i) t.Close) where
    pub arguments_refused : whole i ≡ None → fronted d (arguments ts whole (suc n) i) ≡ None
    unfolding fronted arguments pick ◌>>=◌
    arguments_refused h = rw (← open_yet, h) refl

    module _ (e : Expr) (k : ℕ) (one : whole i ≡ Some (e, k)) where
      pub arguments_last : true ≡ same (terminal_at ts k) t.Close → fronted d (arguments ts whole (suc n) i) ≡ Some (append d (more e none), k + 1)
      unfolding fronted arguments after_argument pick ◌>>=◌
      arguments_last h = rw (← open_yet, one, ← h) refl

      pub arguments_stuck : false ≡ same (terminal_at ts k) t.Close → false ≡ same (terminal_at ts k) t.Comma → fronted d (arguments ts whole (suc n) i) ≡ None
      unfolding fronted arguments after_argument pick ◌>>=◌
      arguments_stuck h c = rw (← open_yet, one, ← h, ← c) refl

      pub arguments_more : false ≡ same (terminal_at ts k) t.Close → true ≡ same (terminal_at ts k) t.Comma → fronted d (arguments ts whole (suc n) i) ≡ fronted (append d (more e none)) (arguments ts whole n (k + 1))
      unfolding arguments after_argument pick ◌>>=◌
      arguments_more h c = rw (← open_yet, one, ← h, ← c) (fronted_more d e (arguments ts whole n (k + 1)))

-- ---- no other token begins an operand
pub prim_none : (ts : List Lexeme) (whole : ℕ → Read Expr) (n : ℕ) (s : Terminal) (i : ℕ) → (s ≢ t.Literal) → (s ≢ t.True) → (s ≢ t.False) → (s ≢ t.Undefined) → (s ≢ t.Name) → (s ≢ t.As) → (s ≢ t.From) → (s ≢ t.Meta) → (s ≢ t.Url) → (s ≢ t.Open) → (s ≢ t.Print) → (s ≢ t.New) → (s ≢ t.Import) → read.prim_by ts whole n s i ≡ None
prim_none ts whole n t.Literal i h _ _ _ _ _ _ _ _ _ _ _ _ = absurd (h refl)
prim_none ts whole n t.True i _ h _ _ _ _ _ _ _ _ _ _ _ = absurd (h refl)
prim_none ts whole n t.False i _ _ h _ _ _ _ _ _ _ _ _ _ = absurd (h refl)
prim_none ts whole n t.Undefined i _ _ _ h _ _ _ _ _ _ _ _ _ = absurd (h refl)
prim_none ts whole n t.Name i _ _ _ _ h _ _ _ _ _ _ _ _ = absurd (h refl)
prim_none ts whole n t.As i _ _ _ _ _ h _ _ _ _ _ _ _ = absurd (h refl)
prim_none ts whole n t.From i _ _ _ _ _ _ h _ _ _ _ _ _ = absurd (h refl)
prim_none ts whole n t.Meta i _ _ _ _ _ _ _ h _ _ _ _ _ = absurd (h refl)
prim_none ts whole n t.Url i _ _ _ _ _ _ _ _ h _ _ _ _ = absurd (h refl)
prim_none ts whole n t.Open i _ _ _ _ _ _ _ _ _ h _ _ _ = absurd (h refl)
prim_none ts whole n t.Print i _ _ _ _ _ _ _ _ _ _ h _ _ = absurd (h refl)
prim_none ts whole n t.New i _ _ _ _ _ _ _ _ _ _ _ h _ = absurd (h refl)
prim_none ts whole n t.Import i _ _ _ _ _ _ _ _ _ _ _ _ h = absurd (h refl)
prim_none ts whole n _ i _ _ _ _ _ _ _ _ _ _ _ _ _ = refl

-- ---- links
abbrev pub append_links : Links → Links → Links
append_links ends fs = fs
append_links (member s ls) fs = member s (append_links ls fs)
append_links (call es ls) fs = call es (append_links ls fs)

append_links-ends : (ls : Links) → append_links ls ends ≡ ls
append_links-ends ends = refl
append_links-ends (member s ls) = ap (member s) (append_links-ends ls)
append_links-ends (call es ls) = ap (call es) (append_links-ends ls)

append_links-assoc : (d es fs : Links) → append_links (append_links d es) fs ≡ append_links d (append_links es fs)
append_links-assoc ends es fs = refl
append_links-assoc (member s d) es fs = ap (member s) (append_links-assoc d es fs)
append_links-assoc (call x d) es fs = ap (call x) (append_links-assoc d es fs)

pub links_below_more : (m n : ℕ) (ls : List Link) → m ≤ n → AllLinksBelow m ls → AllLinksBelow n ls
links_below_more m n [] le h = tt
links_below_more m n (l.Member s ∷ ls) le h = links_below_more m n ls le h
links_below_more m n (l.Call ids ∷ ls) le h = (below_more m n ids.items le h.0, links_below_more m n ls le h.1)

pub member_below : (n : ℕ) (ls : List Link) (s : List ℕ) → AllLinksBelow n ls → AllLinksBelow n (ls ++ l.Member s ∷ [])
member_below n [] s h = tt
member_below n (l.Member x ∷ ls) s h = member_below n ls s h
member_below n (l.Call ids ∷ ls) s h = (h.0, member_below n ls s h.1)

pub call_below : (n : ℕ) (ls : List Link) (ids : ExprIds) → AllLinksBelow n ls → AllBelow n ids.items → AllLinksBelow n (ls ++ l.Call ids ∷ [])
call_below n [] ids h b = (b, tt)
call_below n (l.Member x ∷ ls) ids h b = call_below n ls ids h b
call_below n (l.Call xs ∷ ls) ids h b = (h.0, call_below n ls ids h.1 b)

pub links_member : (es : List Expr) (ls : List Link) (s : List ℕ) → links es (ls ++ l.Member s ∷ []) ≡ append_links (links es ls) (member s ends)
links_member es [] s = refl
links_member es (l.Member x ∷ ls) s = ap (member x) (links_member es ls s)
links_member es (l.Call ids ∷ ls) s = ap (call (parts es ids.items)) (links_member es ls s)

pub links_call : (es : List Expr) (ls : List Link) (ids : ExprIds) (list : List ExprId) → ids.items ≡ list → links es (ls ++ l.Call ids ∷ []) ≡ append_links (links es ls) (call (parts es list) ends)
links_call es [] ids list same = ap (λ given. call (parts es given) ends) same
links_call es (l.Member x ∷ ls) ids list same = ap (member x) (links_call es ls ids list same)
links_call es (l.Call xs ∷ ls) ids list same = ap (call (parts es xs.items)) (links_call es ls ids list same)

pub links_later : (a b : Parts) (ls : List Link) → Grows a b → AllLinksBelow (length a.exprs) ls → links b.exprs ls ≡ links a.exprs ls
links_later a b ls p h = ap (λ (t : Parts). links t.exprs ls) p.is ∙ links_stay a.exprs p.added ls h

unfoldable pub linked_on : Links → Read Links → Read Links
linked_on d rest = rest >>= λ ls. Some (append_links d ls.0, ls.1)

pub linked_on_ends : (rest : Read Links) → rest ≡ linked_on ends rest
unfolding linked_on ◌>>=◌
linked_on_ends None = refl
linked_on_ends (Some r) = refl

linked_on_member : (d : Links) (s : List ℕ) (rest : Read Links) → linked_on d (rest >>= λ ls. Some (member s ls.0, ls.1)) ≡ linked_on (append_links d (member s ends)) rest
unfolding linked_on ◌>>=◌
linked_on_member d s None = refl
linked_on_member d s (Some r) = ap (λ x. Some (x, r.1)) (sym (append_links-assoc d (member s ends) r.0))

linked_on_call : (d : Links) (es : Exprs) (rest : Read Links) → linked_on d (rest >>= λ ls. Some (call es ls.0, ls.1)) ≡ linked_on (append_links d (call es ends)) rest
unfolding linked_on ◌>>=◌
linked_on_call d es None = refl
linked_on_call d es (Some r) = ap (λ x. Some (x, r.1)) (sym (append_links-assoc d (call es ends) r.0))

module _ (ts : List Lexeme) (whole : ℕ → Read Expr) (d : Links) (m n i : ℕ) where
  pub links_over : linked_on d (read.links ts whole m zero i) ≡ None
  unfolding linked_on read.links ◌>>=◌
  links_over = refl

  module _ (dot : true ≡ same (terminal_at ts i) t.Dot) where
    pub links_no_word : false ≡ is_word (terminal_at ts (i + 1)) → linked_on d (read.links ts whole m (suc n) i) ≡ None
    unfolding linked_on read.links pick ◌>>=◌
    links_no_word h = rw (← dot, ← h) refl

    pub links_more_member : true ≡ is_word (terminal_at ts (i + 1)) → linked_on d (read.links ts whole m (suc n) i) ≡ linked_on (append_links d (member (text_at ts (i + 1)) ends)) (read.links ts whole m n (i + 2))
    unfolding read.links pick
    links_more_member h = rw (← dot, ← h) (linked_on_member d (text_at ts (i + 1)) (read.links ts whole m n (i + 2)))

  module _ (no_dot : false ≡ same (terminal_at ts i) t.Dot) where
    pub links_done : false ≡ same (terminal_at ts i) t.Open → linked_on d (read.links ts whole m (suc n) i) ≡ Some (d, i)
    unfolding linked_on read.links pick ◌>>=◌
    links_done h = rw (← no_dot, ← h) (ap (λ x. Some (x, i)) (append_links-ends d))

    pub links_refused : true ≡ same (terminal_at ts i) t.Open → arguments ts whole m (i + 1) ≡ None → linked_on d (read.links ts whole m (suc n) i) ≡ None
    unfolding linked_on read.links pick ◌>>=◌
    links_refused h e = rw (← no_dot, ← h, e) refl

    pub links_more_call : (es : Exprs) (k : ℕ) → true ≡ same (terminal_at ts i) t.Open → arguments ts whole m (i + 1) ≡ Some (es, k) → linked_on d (read.links ts whole m (suc n) i) ≡ linked_on (append_links d (call es ends)) (read.links ts whole m n k)
    unfolding read.links pick ◌>>=◌
    links_more_call es k h one = rw (← no_dot, ← h, one) (linked_on_call d es (read.links ts whole m n k))

-- ---- one or several
pub no_links : (es : List Expr) (e : Expr) (ls : List Link) → length ls ≡ 0 → linked e (links es ls) ≡ e
no_links es e [] h = refl
no_links es e (x ∷ ls) h = absurd (omega arith)

pub some_links : (es : List Expr) (e : Expr) (ls : List Link) → (length ls ≡ 0 → ⊥) → linked e (links es ls) ≡ Post e (links es ls)
some_links es e [] h = absurd (h refl)
some_links es e (l.Member s ∷ ls) h = refl
some_links es e (l.Call ids ∷ ls) h = refl

pub none_joined : (make : Expr → Exprs → Expr) (es : List Expr) (e : Expr) (ids : List ExprId) → length ids ≡ 0 → joined make e (parts es ids) ≡ e
none_joined make es e [] h = refl
none_joined make es e (x ∷ ids) h = absurd (omega arith)

pub some_joined : (make : Expr → Exprs → Expr) (es : List Expr) (e : Expr) (ids : List ExprId) → (length ids ≡ 0 → ⊥) → joined make e (parts es ids) ≡ make e (parts es ids)
some_joined make es e [] h = absurd (h refl)
some_joined make es e (x ∷ ids) h = refl

-- ---- operands
unfoldable pub gathered : (Expr → Exprs → Expr) → Expr → Exprs → Read Exprs → Read Expr
gathered make e d rest = rest >>= λ es. Some (joined make e (append d es.0), es.1)

pub from_first : (make : Expr → Exprs → Expr) (e : Expr) (rest : Read Exprs) → joined_with make e rest ≡ gathered make e none rest
unfolding joined_with gathered
from_first make e rest = refl

module _ (ts : List Lexeme) (s : Terminal) (make : Expr → Exprs → Expr) (operand : ℕ → Read Expr) where
  further_more : (e : Expr) (d : Exprs) (f : Expr) (rest : Read Exprs) → gathered make e d (rest >>= λ es. Some (more f es.0, es.1)) ≡ gathered make e (append d (more f none)) rest
  unfolding gathered ◌>>=◌
  further_more e d f None = refl
  further_more e d f (Some r) = ap (λ x. Some (joined make e x, r.1)) (sym (append-assoc d (more f none) r.0))

  module _ (e : Expr) (d : Exprs) (n k : ℕ) where
    pub further_over : gathered make e d (read.further ts s operand zero k) ≡ None
    unfolding gathered read.further ◌>>=◌
    further_over = refl

    pub further_done : false ≡ same (terminal_at ts k) s → gathered make e d (read.further ts s operand (suc n) k) ≡ Some (joined make e d, k)
    unfolding gathered read.further pick ◌>>=◌
    further_done h = rw (← h) (ap (λ x. Some (joined make e x, k)) (append-none d))

    pub further_refused : true ≡ same (terminal_at ts k) s → operand (k + 1) ≡ None → gathered make e d (read.further ts s operand (suc n) k) ≡ None
    unfolding gathered read.further pick ◌>>=◌
    further_refused h gone = rw (← h, gone) refl

    pub further_one : (f : Expr) (j : ℕ) → true ≡ same (terminal_at ts k) s → operand (k + 1) ≡ Some (f, j) → gathered make e d (read.further ts s operand (suc n) k) ≡ gathered make e (append d (more f none)) (read.further ts s operand n j)
    unfolding read.further pick ◌>>=◌
    further_one f j h one = rw (← h, one) (further_more e d f (read.further ts s operand n j))
