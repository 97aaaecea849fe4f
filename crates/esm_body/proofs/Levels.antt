-- The innermost level in its contexts is the whole.
use Rattle.std.proofs.Common.{◌≡◌, ℕ, zero, suc, ◌+◌, ◌<◌, ◌≤◌, List, [], ◌∷◌, ◌++◌, reverse, length, drop, refl, ap, sym, ◌∙◌, subst, get_or, slice_set, length-set, arith}
use Rattle.esm_body.specs.declared.work.Work.{Work}
use Rattle.esm_body.specs.declared.work.Work.TheVariants as w
use Rattle.esm_tree.specs.declared.node.StmtId.{StmtId}
use Rattle.std.proofs.lemmas.List.{drop_more}
use Rattle.std.proofs.lemmas.Grind.{reverse_onto}
use Rattle.std.proofs.Math.ListN.{drop_of_length-le}
use Rattle.esm_tree.specs.Flat.{bindings_of, init_of, init_need, bindings_need}
use Rattle.esm_tree.specs.declared.node.LexicalBinding.{LexicalBinding}
use Rattle.esm_values.specs.Code.{numbered}
use Rattle.esm_rewriting.specs.Rest.{does_bindings, does_init, begin as begin_of}
use Rattle.esm_rewriting.specs.Rest.{Use as uses}
use Rattle.esm_tree.specs.Syntax as x
use Rattle.esm_tree.specs.Syntax.{Stmt as Statement}
use Rattle.esm_tree.specs.Flat.{stmt_part, stmt_parts, AllStmtsBelow}
use Rattle.esm_body.proofs.Remainders.{wholes_more}
use Rattle.esm_body.specs.Inner.Remainders.{wholes}
use Rattle.esm_values.specs.Code.{CodeValue}
use Rattle.esm_rewriting.specs.Scopes.{Scope, unset, scope_of}
use Rattle.std.specs.Prelude.{map, Option, Some, None, Result, Ok, Err, OnOk}
use Rattle.esm_tree.specs.Syntax.{Stmts}
use Rattle.esm_env.specs.Declarations.{Declaration, declared_in}
use Rattle.esm_body.specs.Slots.{slot_of, scope_of_slots, unset_slots}
use Rattle.esm_body.specs.declared.work.Slot.{Slot}
use Rattle.esm_base.specs.declared.memory.Memory.{Memory}
use Rattle.esm_rewriting.specs.Rest.{Rest, end, more, whole}
use Rattle.esm_rewriting.specs.Contexts.{Context, placed, surrounded}
use Rattle.esm_body.specs.Inner.Stack.{part_by, levels_rest, tries, IsFront, AreNamed, Becomes, IsPopped, IsTaken}
use Rattle.esm_body.specs.Code.{in_front, scope_of_level, context_by, contexts_of, innermost, trying, part_of, bound_name, name_in, IsWork, AreWork, IsKind, AreLevels}
use Rattle.esm_rewriting.specs.Rest.{Part as parts}
use Rattle.esm_body.specs.declared.work.Kind.{Kind}
use Rattle.esm_body.specs.declared.work.Kind.TheVariants as k
use Rattle.esm_body.specs.declared.work.Level.{Level}

last_context : (cs : List (Context CodeValue)) (c : Context CodeValue) (r : Rest CodeValue) → surrounded (cs ++ c ∷ []) r ≡ placed c (surrounded cs r)
last_context [] c r = refl
last_context (d ∷ cs) c r = last_context cs c (placed d r)

module _ (stmts : List Statement) where
  tried : (s : Statement) (scope : Scope CodeValue) (r rest : Rest CodeValue) → placed (trying stmts s scope rest) r ≡ more (tries stmts s (more (parts.In scope r) end)) rest
  tried x.Empty scope r rest = refl
  tried (x.Expression e) scope r rest = refl
  tried (x.Assign y e) scope r rest = refl
  tried (x.Block ss) scope r rest = refl
  tried (x.If e ss) scope r rest = refl
  tried (x.IfElse e ss ts) scope r rest = refl
  tried (x.Try ss ts) scope r rest = refl
  tried (x.TryCatch ss y ts) scope r rest = refl
  tried (x.Throw e) scope r rest = refl
  tried x.Return scope r rest = refl
  tried (x.ReturnValue e) scope r rest = refl
  tried (x.Await e) scope r rest = refl
  tried (x.PrintAwait e) scope r rest = refl
  tried (x.Const bs) scope r rest = refl
  tried (x.Let bs) scope r rest = refl
  tried (x.Default e) scope r rest = refl

  placed_by : (kind : Kind) (scope : Scope CodeValue) (r rest : Rest CodeValue) → placed (context_by stmts kind scope rest) r ≡ more (part_by stmts kind scope r) rest
  placed_by k.Block scope r rest = refl
  placed_by (k.Tries id) scope r rest = tried (stmt_part stmts id) scope r rest

  pub levels_surround : (ls : List Level) → surrounded (contexts_of stmts ls) (innermost stmts ls) ≡ levels_rest stmts ls
  levels_surround [] = refl
  levels_surround (l ∷ []) = refl
  levels_surround (l ∷ m ∷ ls) =
      let c = context_by stmts m.kind (scope_of_level m) (in_front stmts l.work end) in
      last_context (contexts_of stmts (m ∷ ls)) c (innermost stmts (m ∷ ls)) ∙ ap (placed c) (levels_surround (m ∷ ls)) ∙ placed_by m.kind (scope_of_level m) (levels_rest stmts (m ∷ ls)) (in_front stmts l.work end)

module _ (stmts : List Statement) where
  -- one more part is done first
  pub front_push : (ws : List Work) (one : Work) (rest : Rest CodeValue) → in_front stmts (ws ++ one ∷ []) rest ≡ more (part_of stmts one) (in_front stmts ws rest)
  front_push [] one rest = refl
  front_push (v ∷ ws) one rest = front_push ws one (more (part_of stmts v) rest)

  -- the contexts don't see the work of the innermost level
  contexts_last : (ls : List Level) (i : ℕ) (d n : Level) → i + 1 ≡ length ls → n.kind ≡ (get_or ls i d).kind → n.slots ≡ (get_or ls i d).slots → contexts_of stmts (slice_set ls i n) ≡ contexts_of stmts ls
  contexts_last [] i d n h k s = absurd (omega (arith, h))
  contexts_last (l ∷ []) zero d n h k s = refl
  contexts_last (l ∷ []) (suc i) d n h k s = absurd (omega (arith, h))
  contexts_last (l ∷ m ∷ ls) zero d n h k s = absurd (omega (arith, h))
  contexts_last (l ∷ m ∷ []) (suc zero) d n h k s = rw (k, s) refl
  contexts_last (l ∷ m ∷ []) (suc (suc i)) d n h k s = absurd (omega (arith, h))
  contexts_last (l ∷ m ∷ o ∷ ls) (suc zero) d n h k s = absurd (omega (arith, h))
  contexts_last (l ∷ m ∷ o ∷ ls) (suc (suc i)) d n h k s = ap (λ cs. cs ++ context_by stmts m.kind (scope_of_level m) (in_front stmts l.work end) ∷ []) (contexts_last (m ∷ o ∷ ls) (suc i) d n (omega (arith, h)) k s)

  innermost_last : (ls : List Level) (i : ℕ) (d : Level) → i + 1 ≡ length ls → innermost stmts ls ≡ in_front stmts (get_or ls i d).work end
  innermost_last [] i d h = absurd (omega (arith, h))
  innermost_last (l ∷ []) zero d h = refl
  innermost_last (l ∷ []) (suc i) d h = absurd (omega (arith, h))
  innermost_last (l ∷ m ∷ ls) zero d h = absurd (omega (arith, h))
  innermost_last (l ∷ m ∷ ls) (suc i) d h = innermost_last (m ∷ ls) i d (omega (arith, h))

  innermost_set : (ls : List Level) (i : ℕ) (n : Level) → i + 1 ≡ length ls → innermost stmts (slice_set ls i n) ≡ in_front stmts n.work end
  innermost_set [] i n h = absurd (omega (arith, h))
  innermost_set (l ∷ []) zero n h = refl
  innermost_set (l ∷ []) (suc i) n h = absurd (omega (arith, h))
  innermost_set (l ∷ m ∷ ls) zero n h = absurd (omega (arith, h))
  innermost_set (l ∷ m ∷ []) (suc zero) n h = refl
  innermost_set (l ∷ m ∷ []) (suc (suc i)) n h = absurd (omega (arith, h))
  innermost_set (l ∷ m ∷ o ∷ ls) (suc zero) n h = absurd (omega (arith, h))
  innermost_set (l ∷ m ∷ o ∷ ls) (suc (suc i)) n h = innermost_set (m ∷ o ∷ ls) (suc i) n (omega (arith, h))

  pub added : (ls : List Level) (i : ℕ) (d n : Level) (one : Work) → i + 1 ≡ length ls → n.kind ≡ (get_or ls i d).kind → n.slots ≡ (get_or ls i d).slots → n.work ≡ (get_or ls i d).work ++ one ∷ [] → levels_rest stmts (slice_set ls i n) ≡ surrounded (contexts_of stmts ls) (more (part_of stmts one) (innermost stmts ls))
  added ls i d n one h k s e =
      let inner : innermost stmts (slice_set ls i n) ≡ more (part_of stmts one) (innermost stmts ls) =
      innermost_set ls i n h ∙ ap (λ ws. in_front stmts ws end) e ∙ front_push (get_or ls i d).work one end ∙ ap (λ r. more (part_of stmts one) r) (sym (innermost_last ls i d h)) in
      sym (levels_surround stmts (slice_set ls i n)) ∙ (λ j. surrounded (contexts_last ls i d n h k s j) (inner j))

  pub added_front : (ls : List Level) (i : ℕ) (d n : Level) (one : Work) → i + 1 ≡ length ls → n.kind ≡ (get_or ls i d).kind → n.slots ≡ (get_or ls i d).slots → n.work ≡ (get_or ls i d).work ++ one ∷ [] → IsFront stmts ls (slice_set ls i n) (more (part_of stmts one) (innermost stmts ls))
  added_front ls i d n one h k s e =
      let long = length-set ls i n in
      (contexts_last ls i d n h k s, innermost_set ls i n h ∙ ap (λ ws. in_front stmts ws end) e ∙ front_push (get_or ls i d).work one end ∙ ap (λ r. more (part_of stmts one) r) (sym (innermost_last ls i d h)), omega (arith, h, long))

-- bindings from the last one on
pub binding_front : (exprs : List x.Expr) (bs : List LexicalBinding) (i : ℕ) (d : LexicalBinding) (rest : Rest CodeValue) → i < length bs → does_bindings numbered (bindings_of exprs (drop i bs)) rest ≡ more (does_init numbered (uses.Sets (get_or bs i d).name) (init_of exprs (get_or bs i d).value)) (does_bindings numbered (bindings_of exprs (drop (i + 1) bs)) rest)
binding_front exprs bs i d rest h = ap (λ r. does_bindings numbered (bindings_of exprs r) rest) (drop_more bs i d h)

pub binding_name : (exprs : List x.Expr) (bs : List LexicalBinding) (i : ℕ) (d : LexicalBinding) → i < length bs → name_in (bindings_of exprs bs) i ≡ (get_or bs i d).name
binding_name exprs [] i d h = absurd (omega (arith, h))
binding_name exprs (b ∷ bs) zero d h = refl
binding_name exprs (b ∷ bs) (suc i) d h = binding_name exprs bs i d (omega (arith, h))

pub binding_need : (bs : List LexicalBinding) (i : ℕ) (d : LexicalBinding) (n : ℕ) → bindings_need bs ≤ n → i < length bs → init_need (get_or bs i d).value ≤ n
binding_need [] i d n a h = absurd (omega (arith, h))
binding_need (b ∷ bs) zero d n a h = omega (arith, a)
binding_need (b ∷ bs) (suc i) d n a h = binding_need bs i d n (omega (arith, a)) (omega (arith, h))

pub no_bindings : (exprs : List x.Expr) (bs : List LexicalBinding) (rest : Rest CodeValue) → does_bindings numbered (bindings_of exprs (drop (length bs) bs)) rest ≡ rest
no_bindings exprs bs rest = ap (λ r. does_bindings numbered (bindings_of exprs r) rest) (drop_of_length-le bs (omega arith))

-- one more binding is begun in front of those behind it
pub bindings_go : (stmts : List Statement) (id : StmtId) (exprs : List x.Expr) (bs : List LexicalBinding) (i p : ℕ) (d : LexicalBinding) (old mid new : List Level) → p ≡ i + 1 → i < length bs → AreNamed stmts id (bindings_of exprs bs) → IsFront stmts old mid (does_bindings numbered (bindings_of exprs (drop p bs)) (innermost stmts old)) → IsFront stmts mid new (more (does_init numbered (uses.Sets (bound_name (stmt_part stmts id) i)) (init_of exprs (get_or bs i d).value)) (innermost stmts mid)) → IsFront stmts old new (does_bindings numbered (bindings_of exprs (drop i bs)) (innermost stmts old))
bindings_go stmts id exprs bs i p d old mid new e h named a b =
    let rest = innermost stmts old in
    let a' : innermost stmts mid ≡ does_bindings numbered (bindings_of exprs (drop (i + 1) bs)) rest = subst (λ q. innermost stmts mid ≡ does_bindings numbered (bindings_of exprs (drop q bs)) rest) e a.1 in
    let name = named i ∙ binding_name exprs bs i d h in
    (b.0 ∙ a.0, b.1 ∙ (λ j. more (does_init numbered (uses.Sets (name j)) (init_of exprs (get_or bs i d).value)) (a' j)) ∙ sym (binding_front exprs bs i d rest h), b.2)

-- ---- blocks

module _ (stmts : List Statement) where
  -- a statement in front of others
  pub statement_more : (ids : List StmtId) (id : StmtId) → in_front stmts (wholes (ids ++ id ∷ [])) end ≡ more (parts.Whole (stmt_part stmts id)) (in_front stmts (wholes ids) end)
  statement_more ids id = ap (λ ws. in_front stmts ws end) (wholes_more ids id) ∙ front_push stmts (wholes ids) (w.Whole id) end

  -- the statements of a block
  pub block_front : (ids : List StmtId) → in_front stmts (wholes (reverse ids)) end ≡ whole (stmt_parts stmts ids)
  block_front [] = refl
  block_front (id ∷ ids) =
      ap (λ js. in_front stmts (wholes js) end) (reverse_onto ids id []) ∙ statement_more (reverse ids) id ∙ ap (λ r. more (parts.Whole (stmt_part stmts id)) r) (block_front ids)

  pub contexts_push : (ls : List Level) (m : Level) → 0 < length ls → contexts_of stmts (ls ++ m ∷ []) ≡ context_by stmts m.kind (scope_of_level m) (innermost stmts ls) ∷ contexts_of stmts ls
  contexts_push [] m h = absurd (omega (arith, h))
  contexts_push (l ∷ []) m h = refl
  contexts_push (l ∷ o ∷ ls) m h = ap (λ cs. cs ++ context_by stmts o.kind (scope_of_level o) (in_front stmts l.work end) ∷ []) (contexts_push (o ∷ ls) m (omega arith))

  pub innermost_push : (ls : List Level) (m : Level) → 0 < length ls → innermost stmts (ls ++ m ∷ []) ≡ in_front stmts m.work end
  innermost_push [] m h = absurd (omega (arith, h))
  innermost_push (l ∷ []) m h = refl
  innermost_push (l ∷ o ∷ ls) m h = innermost_push (o ∷ ls) m (omega arith)

-- ---- numbers that name parts

module _ (n : ℕ) where
  pub work_push : (ws : List Work) (one : Work) → AreWork n ws → IsWork n one → AreWork n (ws ++ one ∷ [])
  work_push [] one h k = (k, tt)
  work_push (w ∷ ws) one h k = (h.0, work_push ws one h.1 k)

  pub levels_push : (ls : List Level) (l : Level) → AreLevels n ls → IsKind n l.kind → AreWork n l.work → AreLevels n (ls ++ l ∷ [])
  levels_push [] l h k w = (k, w, tt)
  levels_push (m ∷ ls) l h k w = (h.0, h.1, levels_push ls l h.2 k w)

  pub levels_added : (ls : List Level) (i : ℕ) (d l : Level) (one : Work) → i < length ls → l.kind ≡ (get_or ls i d).kind → l.work ≡ (get_or ls i d).work ++ one ∷ [] → IsWork n one → AreLevels n ls → AreLevels n (slice_set ls i l)
  levels_added [] i d l one lt k w o h = absurd (omega (arith, lt))
  levels_added (m ∷ ls) zero d l one lt k w o h = (subst (λ k. IsKind n k) (sym k) h.0, subst (λ ws. AreWork n ws) (sym w) (work_push m.work one h.1 o), h.2)
  levels_added (m ∷ ls) (suc i) d l one lt k w o h = (h.0, h.1, levels_added ls i d l one (omega (arith, lt)) k w o h.2)

  -- the statements of a block
  pub statement_sound : (ids : List StmtId) (id : StmtId) → AreWork n (wholes ids) → id.0 < n → AreWork n (wholes (ids ++ id ∷ []))
  statement_sound ids id h b = subst (AreWork n) (sym (wholes_more ids id)) (work_push (wholes ids) (w.Whole id) h b)

  pub block_sound : (ids : List StmtId) → AllStmtsBelow n ids → AreWork n (wholes (reverse ids))
  block_sound [] b = tt
  block_sound (id ∷ ids) b = subst (λ js. AreWork n (wholes js)) (sym (reverse_onto ids id [])) (statement_sound (reverse ids) id (block_sound ids b.1) b.0)

-- a block is begun
pub begun : (stmts : List Statement) (ls : List Level) (m : Level) → 0 < length ls → levels_rest stmts (ls ++ m ∷ []) ≡ surrounded (contexts_of stmts ls) (placed (context_by stmts m.kind (scope_of_level m) (innermost stmts ls)) (in_front stmts m.work end))
begun stmts ls m h =
    sym (levels_surround stmts (ls ++ m ∷ [])) ∙ (λ i. surrounded (contexts_push stmts ls m h i) (innermost_push stmts ls m h i))

-- what becomes of the innermost level becomes of the whole
pub becomes : (stmts : List Statement) (old new : List Level) (r : Rest CodeValue) → IsFront stmts old new r → Becomes stmts old new r
becomes stmts old new r f = sym (levels_surround stmts new) ∙ (λ i. surrounded (f.0 i) (f.1 i))

-- ---- names of a block

slots_append : (a b : List Slot) → scope_of_slots (a ++ b) ≡ scope_of_slots a ++ scope_of_slots b
slots_append [] b = refl
slots_append (s ∷ a) b = ap (λ ss. slot_of s ∷ ss) (slots_append a b)

unset_scope : (ds : List Declaration) → scope_of_slots (unset_slots ds) ≡ map unset ds
unset_scope [] = refl
unset_scope (d ∷ ds) = ap (λ ss. unset d ∷ ss) (unset_scope ds)

pub slots_scope : (names : List Slot) (ss : Stmts) → scope_of_slots (names ++ unset_slots (declared_in ss)) ≡ scope_of_slots names ++ scope_of ss
slots_scope names ss = slots_append names (unset_slots (declared_in ss)) ∙ ap (λ s. scope_of_slots names ++ s) (unset_scope (declared_in ss))

pub push_some : (ls : List Level) (m : Level) → 0 < length (ls ++ m ∷ [])
push_some [] m = omega arith
push_some (l ∷ ls) m = omega arith

pub below_up : (m n : ℕ) (ids : List StmtId) → m < n → AllStmtsBelow m ids → AllStmtsBelow n ids
below_up m n [] h b = tt
below_up m n (id ∷ ids) h b = (let x = b.0 in omega (arith, h, x), below_up m n ids h b.1)

pub becomes_ok : (stmts : List Statement) (old new : List Level) (r : Rest CodeValue) (result : Result (Unit {0}) Memory) → OnOk result (IsFront stmts old new r) → OnOk result (Becomes stmts old new r)
becomes_ok stmts old new r (Ok u) h = becomes stmts old new r h
becomes_ok stmts old new r (Err e) h = tt

pub sound_ok : (n : ℕ) (stmts : List Statement) (old new : List Level) (r : Rest CodeValue) (result : Result (Unit {0}) Memory) → OnOk result (IsFront stmts old new r) → OnOk result (AreLevels n new) → OnOk result (AreLevels n new × (0 < length new))
sound_ok n stmts old new r (Ok u) h s = (s, h.2)
sound_ok n stmts old new r (Err e) h s = tt

pub name_beyond : (exprs : List x.Expr) (bs : List LexicalBinding) (i : ℕ) → length bs ≤ i → name_in (bindings_of exprs bs) i ≡ []
name_beyond exprs [] i h = refl
name_beyond exprs (b ∷ bs) zero h = absurd (omega (arith, h))
name_beyond exprs (b ∷ bs) (suc i) h = name_beyond exprs bs i (omega (arith, h))

-- ---- the next part

module _ (n : ℕ) where
  pub work_pop : (ws : List Work) (one : Work) → AreWork n (ws ++ one ∷ []) → IsWork n one × AreWork n ws
  work_pop [] one h = (h.0, tt)
  work_pop (w ∷ ws) one h = let r = work_pop ws one h.1 in (r.0, (h.0, r.1))

  pub levels_set : (ls : List Level) (i : ℕ) (d l : Level) → i < length ls → l.kind ≡ (get_or ls i d).kind → AreWork n l.work → AreLevels n ls → AreLevels n (slice_set ls i l)
  levels_set [] i d l lt k w h = absurd (omega (arith, lt))
  levels_set (m ∷ ls) zero d l lt k w h = (subst (λ k. IsKind n k) (sym k) h.0, w, h.2)
  levels_set (m ∷ ls) (suc i) d l lt k w h = (h.0, h.1, levels_set ls i d l (omega (arith, lt)) k w h.2)

  pub level_at : (ls : List Level) (i : ℕ) (d : Level) → i < length ls → AreLevels n ls → AreWork n (get_or ls i d).work
  level_at [] i d lt h = absurd (omega (arith, lt))
  level_at (m ∷ ls) zero d lt h = h.1
  level_at (m ∷ ls) (suc i) d lt h = level_at ls i d (omega (arith, lt)) h.2

module _ (stmts : List Statement) where
  pub taken : (ls : List Level) (i : ℕ) (d l : Level) (one : Option Work) → i + 1 ≡ length ls → IsPopped (get_or ls i d) one l → IsTaken stmts ls one (slice_set ls i l)
  taken ls i d l None h p =
      let long = length-set ls i l in
      let inner : innermost stmts (slice_set ls i l) ≡ end = innermost_set stmts ls i l h ∙ ap (λ ws. in_front stmts ws end) p.0.1 in
      (innermost_last stmts ls i d h ∙ ap (λ ws. in_front stmts ws end) p.0.0, (contexts_last stmts ls i d l h p.1 p.2, inner, omega (arith, h, long)), long, λ n all. levels_set n ls i d l (omega (arith, h)) p.1 (rw p.0.1 tt) all)
  taken ls i d l (Some one) h p =
      let long = length-set ls i l in
      let inner = innermost_set stmts ls i l h in
      let whole' : innermost stmts ls ≡ more (part_of stmts one) (innermost stmts (slice_set ls i l)) =
      innermost_last stmts ls i d h ∙ ap (λ ws. in_front stmts ws end) p.0 ∙ front_push stmts l.work one end ∙ ap (λ r. more (part_of stmts one) r) (sym inner) in (
        whole',
        (contexts_last stmts ls i d l h p.1 p.2, refl, omega (arith, h, long)),
        long,
        λ n all. let w = work_pop n l.work one (subst (λ ws. AreWork n ws) p.0 (level_at n ls i d (omega (arith, h)) all)) in (w.0, levels_set n ls i d l (omega (arith, h)) p.1 w.1 all),
      )

-- ---- a statement begins

pub begins_ok : (stmts : List Statement) (old new : List Level) (s t : Statement) (result : Result (Unit {0}) Memory) → s ≡ t → OnOk result (IsFront stmts old new (begin_of numbered t (innermost stmts old))) → OnOk result (Becomes stmts old new (begin_of numbered s (innermost stmts old)))
begins_ok stmts old new s t (Ok u) e h = subst (λ s. Becomes stmts old new (begin_of numbered s (innermost stmts old))) (sym e) (becomes stmts old new _ h)
begins_ok stmts old new s t (Err why) e h = tt

pub becomes_same : (stmts : List Statement) (old : List Level) (s : Statement) → s ≡ x.Empty → Becomes stmts old old (begin_of numbered s (innermost stmts old))
becomes_same stmts old s e = subst (λ s. Becomes stmts old old (begin_of numbered s (innermost stmts old))) (sym e) (sym (levels_surround stmts old))

abbrev block_start : List Statement → List Level → Kind → List Slot → List StmtId → Rest CodeValue
block_start stmts old kind names ids = placed (context_by stmts kind (scope_of_slots names ++ scope_of (stmt_parts stmts ids)) (innermost stmts old)) (whole (stmt_parts stmts ids))

ok_as : (stmts : List Statement) (old new : List Level) (r s : Rest CodeValue) (result : Result (Unit {0}) Memory) → r ≡ s → OnOk result (Becomes stmts old new r) → OnOk result (Becomes stmts old new s)
ok_as stmts old new r s (Ok u) e h = h ∙ ap (surrounded (contexts_of stmts old)) e
ok_as stmts old new r s (Err why) e h = tt

start_as : (stmts : List Statement) (old : List Level) (kind : Kind) (names : List Slot) (ids slice : List StmtId) → names ≡ [] → slice ≡ ids → block_start stmts old kind names slice ≡ block_start stmts old kind [] ids
start_as stmts old kind names ids slice n e = λ i. block_start stmts old kind (n i) (e i)

pub block_ok : (stmts : List Statement) (old new : List Level) (s : Statement) (ids slice : List StmtId) (names : List Slot) (result : Result (Unit {0}) Memory) → s ≡ x.Block (stmt_parts stmts ids) → names ≡ [] → slice ≡ ids
    → OnOk result (Becomes stmts old new (block_start stmts old k.Block names slice)) → OnOk result (Becomes stmts old new (begin_of numbered s (innermost stmts old)))
block_ok stmts old new s ids slice names result e n l h =
    ok_as stmts old new _ _ result (start_as stmts old k.Block names ids slice n l ∙ ap (λ s. begin_of numbered s (innermost stmts old)) (sym e)) h

pub try_ok : (stmts : List Statement) (old new : List Level) (id : StmtId) (ids slice : List StmtId) (names : List Slot) (handler : Stmts) (result : Result (Unit {0}) Memory) → stmt_part stmts id ≡ x.Try (stmt_parts stmts ids) handler → names ≡ [] → slice ≡ ids
    → OnOk result (Becomes stmts old new (block_start stmts old (k.Tries id) names slice)) → OnOk result (Becomes stmts old new (begin_of numbered (stmt_part stmts id) (innermost stmts old)))
try_ok stmts old new id ids slice names handler result e n l h =
    ok_as stmts old new _ _ result (start_as stmts old (k.Tries id) names ids slice n l ∙ rw e refl) h

pub catch_ok : (stmts : List Statement) (old new : List Level) (id : StmtId) (ids slice : List StmtId) (names : List Slot) (name : List ℕ) (handler : Stmts) (result : Result (Unit {0}) Memory) → stmt_part stmts id ≡ x.TryCatch (stmt_parts stmts ids) name handler → names ≡ [] → slice ≡ ids
    → OnOk result (Becomes stmts old new (block_start stmts old (k.Tries id) names slice)) → OnOk result (Becomes stmts old new (begin_of numbered (stmt_part stmts id) (innermost stmts old)))
catch_ok stmts old new id ids slice names name handler result e n l h =
    ok_as stmts old new _ _ result (start_as stmts old (k.Tries id) names ids slice n l ∙ rw e refl) h
