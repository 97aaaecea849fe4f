-- What a stack of frames stands for: the syntax around the part under way.
use Rattle.std.specs.Prelude.{◌≡◌, Bool, false, ℕ, ◌+◌, ◌<◌, ◌^◌, length, List, [], ◌∷◌, ◌++◌, Option, Some, None, Result, Ok, Err}
use Rattle.esm_tree.specs.Syntax as ast
use Rattle.esm_tree.specs.Flat.{part}
use Rattle.esm_tree.specs.declared.node.ExprId.{ExprId}
use Rattle.esm_values.specs.Plans.{Acting, Rewritten, Plan, Follows}
use Rattle.esm_values.specs.Plans.Rewritten.{Goes, Leaves, Calls, Stops}
use Rattle.esm_values.specs.Operators.{Look, look_of, is_func, is_text, shown, operand}
use Rattle.esm_values.specs.declared.value.FuncId.{FuncId}
use Rattle.esm_values.specs.Code.{CodeValue, value_of, values_of, func_value, numbered}
use Rattle.esm_expr_eval.specs.Terms.{Term, Terms, Compared, LinkTerms, term, terms, compared_terms, links}
use Rattle.esm_expr_eval.specs.Terms.Term.{Val, Waits, Or, And, Equal, Sum, Not, Post, Print, NewError, Import}
use Rattle.esm_expr_eval.specs.Terms.Terms.{more}
use Rattle.esm_expr_eval.specs.Terms.Compared.{compared}
use Rattle.esm_expr_eval.specs.Terms.LinkTerms.{call}
use Rattle.esm_expr_eval.specs.Parts.{operands, from, compared_of, compared_from, links_of, links_from, arguments}
use Rattle.esm_expr_eval.specs.Rewriting.{called}
use Rattle.esm_expr_eval.specs.Ends.{Leads, TermEnd}
use Rattle.esm_expr_eval.specs.declared.sums.Shown.{Shown}
use Rattle.esm_expr_eval.specs.declared.world.Out.{Out}
use Rattle.esm_expr_eval.specs.declared.world.Out.TheVariants as o
use Rattle.esm_expr_eval.specs.declared.frame.Frame.{Frame}
use Rattle.esm_expr_eval.specs.declared.frame.Frame.TheVariants as f
use Rattle.esm_expr_eval.specs.declared.frame.Focus.{Focus}
use Rattle.esm_expr_eval.specs.declared.frame.Focus.TheVariants as focus
use Rattle.esm_expr_eval.specs.declared.frame.Next.{Next}
use Rattle.esm_expr_eval.specs.declared.frame.Next.TheVariants as next
use Rattle.esm_expr_eval.specs.declared.world.ExprEnd.{ExprEnd}
use Rattle.esm_expr_eval.specs.declared.world.ExprEnd.TheVariants as ends

-- these values as arguments, then these arguments
abbrev pub behind : List CodeValue → Terms CodeValue → Terms CodeValue
behind [] es = es
behind (v ∷ vs) es = more (Val v) (behind vs es)

abbrev pub operands_of : List ast.Expr → ExprId → ast.Exprs
operands_of exprs at = operands (part exprs at)

abbrev pub rest_operands : List ast.Expr → ExprId → ℕ → Terms CodeValue
rest_operands exprs at n = terms numbered (from n (operands_of exprs at))

abbrev pub comparisons_of : List ast.Expr → ExprId → ast.Compared
comparisons_of exprs at = compared_of (part exprs at)

abbrev pub rest_compared : List ast.Expr → ExprId → ℕ → Compared CodeValue
rest_compared exprs at n = compared_terms numbered (compared_from n (comparisons_of exprs at))

abbrev pub rest_links : List ast.Expr → ExprId → ℕ → LinkTerms CodeValue
rest_links exprs at n = links numbered (links_from n (links_of (part exprs at)))

abbrev pub arguments_of : List ast.Expr → ExprId → ℕ → ast.Exprs
arguments_of exprs at link = arguments (links_from link (links_of (part exprs at)))

-- the part in its place
abbrev pub plug : List ast.Expr → Frame → Term CodeValue → Term CodeValue
plug exprs (f.Or at n) t = Or t (rest_operands exprs at n)
plug exprs (f.And at n) t = And t (rest_operands exprs at n)
plug exprs (f.Equal at n) t = Equal t (rest_compared exprs at n)
plug exprs (f.Compared at n alike v) t = Equal (Val (value_of v)) (compared alike t (rest_compared exprs at n))
plug exprs (f.Sum at n) t = Sum t (rest_operands exprs at n)
plug exprs (f.Added at n v) t = Sum (Val (value_of v)) (more t (rest_operands exprs at n))
plug exprs f.Not t = Not t
plug exprs (f.Post at n) t = Post t (rest_links exprs at n)
plug exprs (f.Arguments at link n callee vs) t =
    Post (Val (value_of callee)) (call (behind (values_of vs.items) (more t (terms numbered (from n (arguments_of exprs at link)))))
    (rest_links exprs at (link + 1)))
plug exprs (f.Print at n vs) t = Print (behind (values_of vs.items) (more t (rest_operands exprs at n)))
plug exprs f.NewError t = NewError t
plug exprs f.Import t = Import t

-- in all frames, the outermost first
unfoldable pub around : List ast.Expr → List Frame → Term CodeValue → Term CodeValue
around exprs [] t = t
around exprs (frame ∷ frames) t = plug exprs frame (around exprs frames t)

abbrev pub at_focus : List ast.Expr → Focus → Term CodeValue
at_focus exprs (focus.Begin id) = term numbered (part exprs id)
at_focus exprs (focus.Value v) = Val (value_of v)

-- the numbers name parts of the tree
abbrev pub IsFrame : ℕ → Frame → Type 0
IsFrame n (f.Or at k) = at.0 < n
IsFrame n (f.And at k) = at.0 < n
IsFrame n (f.Equal at k) = at.0 < n
IsFrame n (f.Compared at k alike v) = at.0 < n
IsFrame n (f.Sum at k) = at.0 < n
IsFrame n (f.Added at k v) = at.0 < n
IsFrame n f.Not = Unit {0}
IsFrame n (f.Post at k) = at.0 < n
IsFrame n (f.Arguments at link k callee vs) = (at.0 < n) × (link + 1 < 2 ^ 64)
IsFrame n (f.Print at k vs) = at.0 < n
IsFrame n f.NewError = Unit {0}
IsFrame n f.Import = Unit {0}

unfoldable pub AreFrames : ℕ → List Frame → Type 0
AreFrames n [] = Unit {0}
AreFrames n (frame ∷ frames) = IsFrame n frame × AreFrames n frames

abbrev pub IsFocus : ℕ → Focus → Type 0
IsFocus n (focus.Begin id) = id.0 < n
IsFocus n (focus.Value v) = Unit {0}

-- the function that a value is, if it is one
abbrev pub IsFunction : CodeValue → Option FuncId → Type 0
IsFunction v None = is_func (look_of v) ≡ false
IsFunction v (Some function) = func_value function ≡ v

-- the text of what can be joined
abbrev pub IsShown : Look → Option Shown → Type 0
IsShown l None = shown l ≡ None
IsShown l (Some s) = (is_text l ≡ s.is_text) × (shown l ≡ Some s.text)

-- a text was copied
abbrev pub Copied : {S : Type 0} → Bool → List ℕ → Result (Option Shown) (ExprEnd S) → Type 0
Copied is bytes (Ok (Some s)) = (s.is_text ≡ is) × (s.text ≡ bytes)
Copied is bytes (Ok None) = ⊥
Copied is bytes (Err (ends.Stopped why)) = ⊥
Copied is bytes (Err ends.Memory) = Unit {0}

-- How much of an expression is left.
abbrev mutual
  pub size : ast.Expr → ℕ
  size (ast.Text s) = 1
  size (ast.Truth b) = 1
  size ast.Undefined = 1
  size (ast.Name x) = 1
  size (ast.Group e) = 1 + size e
  size (ast.Or e es) = 2 + size e + sizes es
  size (ast.And e es) = 2 + size e + sizes es
  size (ast.Equal e cs) = 2 + size e + compared_size cs
  size (ast.Sum e es) = 2 + size e + sizes es
  size (ast.Not e) = 2 + size e
  size (ast.Post e ls) = 3 + size e + links_size ls
  size (ast.Print es) = 1 + sizes es
  size ast.EmptyError = 2
  size (ast.NewError e) = 2 + size e
  size (ast.Import e) = 2 + size e
  size ast.Url = 1

  pub sizes : ast.Exprs → ℕ
  sizes ast.none = 0
  sizes (ast.more e es) = 2 + size e + sizes es

  pub compared_size : ast.Compared → ℕ
  compared_size ast.last = 0
  compared_size (ast.compared b e cs) = 3 + size e + compared_size cs

  pub links_size : ast.Links → ℕ
  links_size ast.ends = 0
  links_size (ast.member x ls) = 1 + links_size ls
  links_size (ast.call es ls) = 2 + sizes es + links_size ls

abbrev pub frame_work : List ast.Expr → Frame → ℕ
frame_work exprs (f.Or at n) = 1 + sizes (from n (operands_of exprs at))
frame_work exprs (f.And at n) = 1 + sizes (from n (operands_of exprs at))
frame_work exprs (f.Equal at n) = 1 + compared_size (compared_from n (comparisons_of exprs at))
frame_work exprs (f.Compared at n alike v) = 2 + compared_size (compared_from n (comparisons_of exprs at))
frame_work exprs (f.Sum at n) = 1 + sizes (from n (operands_of exprs at))
frame_work exprs (f.Added at n v) = 2 + sizes (from n (operands_of exprs at))
frame_work exprs f.Not = 1
frame_work exprs (f.Post at n) = 1 + links_size (links_from n (links_of (part exprs at)))
frame_work exprs (f.Arguments at link n callee vs) = 2 + sizes (from n (arguments_of exprs at link)) + links_size (links_from (link + 1)
    (links_of (part exprs at)))
frame_work exprs (f.Print at n vs) = 1 + sizes (from n (operands_of exprs at))
frame_work exprs f.NewError = 1
frame_work exprs f.Import = 1

unfoldable pub frames_work : List ast.Expr → List Frame → ℕ
frames_work exprs [] = 0
frames_work exprs (frame ∷ frames) = frame_work exprs frame + frames_work exprs frames

abbrev pub focus_work : List ast.Expr → Focus → ℕ
focus_work exprs (focus.Begin id) = size (part exprs id)
focus_work exprs (focus.Value v) = 0

module _ {W S : Type 0} (url : W → List ℕ) (acts : Acting W CodeValue S) where
  -- what the second leads to, the first leads to
  abbrev pub GoesOn : W → Term CodeValue → W → Term CodeValue → Type 0
  GoesOn w t v u = (end : TermEnd CodeValue S) (after : W) → Leads numbered url acts v u end after → Leads numbered url acts w t end after

  -- how one turn ends
  abbrev pub EndsTurn : List ast.Expr → W → Term CodeValue → Result Next (ExprEnd S) → W → List Frame → Type 0
  EndsTurn exprs w t (Ok (next.Focus f)) after frames = GoesOn w t after (around exprs frames (at_focus exprs f))
  EndsTurn exprs w t (Ok (next.Done v)) after frames = Leads numbered url acts w t (TermEnd.Value (value_of v)) after
  EndsTurn exprs w t (Ok (next.Thrown v)) after frames = Leads numbered url acts w t (TermEnd.Thrown (value_of v)) after
  EndsTurn exprs w t (Ok (next.Call f vs)) after frames = Leads numbered url acts w t (TermEnd.Call (func_value f) (values_of vs.items)
      (around exprs frames Waits)) after
  EndsTurn exprs w t (Err (ends.Stopped why)) after frames = Leads numbered url acts w t (TermEnd.Stopped why) after
  EndsTurn exprs w t (Err ends.Memory) after frames = Unit {0}

  -- what is planned of a value comes to this answer
  abbrev pub AnswersPlan : W → ((CodeValue → Term CodeValue) → Plan CodeValue S (Term CodeValue)) → Result Out (ExprEnd S) → W → Type 0
  AnswersPlan w plan (Ok (o.Value v)) after = (rest : CodeValue → Term CodeValue)
      → Follows acts w (plan rest) (Goes (rest (value_of v))) after
  AnswersPlan w plan (Ok (o.Thrown v)) after = (rest : CodeValue → Term CodeValue) → Follows acts w (plan rest) (Leaves (value_of v)) after
  AnswersPlan w plan (Err (ends.Stopped why)) after = (rest : CodeValue → Term CodeValue) → Follows acts w (plan rest) (Stops why) after
  AnswersPlan w plan (Err ends.Memory) after = Unit {0}

  -- a call of these values comes to this answer, and its frame is there
  abbrev pub IsCalled : W → List Frame → Frame → CodeValue → List CodeValue → Result Next (ExprEnd S) → W → List Frame → Type 0
  IsCalled w old frame f vs (Ok (next.Focus part)) after new = ⊥
  IsCalled w old frame f vs (Ok (next.Done v)) after new = ⊥
  IsCalled w old frame f vs (Ok (next.Thrown v)) after new = (ls : LinkTerms CodeValue)
      → Follows acts w (called numbered f vs ls) (Leaves (value_of v)) after
  IsCalled w old frame f vs (Ok (next.Call g us)) after new = (func_value g ≡ f) × (values_of us.items ≡ vs) × (new ≡ old ++ frame ∷ [])
      × ((ls : LinkTerms CodeValue) → Follows acts w (called numbered f vs ls) (Calls f vs (Post Waits ls)) after)
  IsCalled w old frame f vs (Err (ends.Stopped why)) after new = (ls : LinkTerms CodeValue)
      → Follows acts w (called numbered f vs ls) (Stops why) after
  IsCalled w old frame f vs (Err ends.Memory) after new = Unit {0}

  -- one turn follows this plan, up to a value or a throw
  abbrev pub FollowsPlan : W → Plan CodeValue S (Term CodeValue) → Result Next (ExprEnd S) → W → Type 0
  FollowsPlan w plan (Ok (next.Focus (focus.Value v))) after = Follows acts w plan (Goes (Val (value_of v))) after
  FollowsPlan w plan (Ok (next.Focus (focus.Begin id))) after = ⊥
  FollowsPlan w plan (Ok (next.Done v)) after = ⊥
  FollowsPlan w plan (Ok (next.Thrown v)) after = Follows acts w plan (Leaves (value_of v)) after
  FollowsPlan w plan (Ok (next.Call g us)) after = ⊥
  FollowsPlan w plan (Err (ends.Stopped why)) after = Follows acts w plan (Stops why) after
  FollowsPlan w plan (Err ends.Memory) after = Unit {0}

  -- an operand of a sum is seen so, after what is asked for that
  abbrev pub Sees : W → CodeValue → Result (Option Shown) (ExprEnd S) → W → Type 0
  Sees w v (Ok s) mid = (l : Look) × IsShown l s
      × ((next : Look → Plan CodeValue S (Term CodeValue)) (c : Rewritten CodeValue S (Term CodeValue)) (after : W)
      → Follows acts mid (next l) c after → Follows acts w (operand numbered v (numbered.look v) next) c after)
  Sees w v (Err (ends.Stopped why)) after = (next : Look → Plan CodeValue S (Term CodeValue))
      → Follows acts w (operand numbered v (numbered.look v) next) (Stops why) after
  Sees w v (Err ends.Memory) after = Unit {0}

-- what stays in order: the frames and the focus name parts of the tree, and less is left than so much
abbrev pub Keeps : {S : Type 0} → List ast.Expr → ℕ → Result Next (ExprEnd S) → List Frame → Type 0
Keeps exprs most (Ok (next.Focus f)) frames = AreFrames (length exprs) frames × IsFocus (length exprs) f
    × (frames_work exprs frames + focus_work exprs f < most)
Keeps exprs most (Ok (next.Done v)) frames = Unit {0}
Keeps exprs most (Ok (next.Thrown v)) frames = Unit {0}
Keeps exprs most (Ok (next.Call f vs)) frames = AreFrames (length exprs) frames
Keeps exprs most (Err end) frames = Unit {0}

-- a part was begun in a frame
abbrev pub Begins : {S : Type 0} → List Frame → Frame → ExprId → Result Next (ExprEnd S) → List Frame → Type 0
Begins old frame part (Ok (next.Focus (focus.Begin id))) new = (id ≡ part) × (new ≡ old ++ frame ∷ [])
Begins old frame part (Ok (next.Focus (focus.Value v))) new = ⊥
Begins old frame part (Ok (next.Thrown v)) new = ⊥
Begins old frame part (Ok (next.Call f vs)) new = ⊥
Begins old frame part (Ok (next.Done v)) new = ⊥
Begins old frame part (Err (ends.Stopped why)) new = ⊥
Begins old frame part (Err ends.Memory) new = Unit {0}
