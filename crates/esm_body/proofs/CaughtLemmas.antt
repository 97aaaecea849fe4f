-- Levels that are taken off, and where a throw leads.
use Rattle.std.proofs.Common.{◌≡◌, ℕ, ◌+◌, ◌<◌, ◌≤◌, Bool, List, [], ◌∷◌, ◌++◌, length, refl, ap, subst, sym, ◌∙◌, arith}
use Rattle.esm_base.specs.declared.limits.Limit.{Limit}
use Rattle.esm_tree.specs.Syntax.{Stmt as Statement}
use Rattle.esm_values.specs.Value.{Value}
use Rattle.esm_values.specs.Code.{CodeValue, value_of}
use Rattle.esm_values.specs.declared.value.Value.{Value as Value'}
use Rattle.esm_body.specs.declared.work.Kind.{Kind as BlockKind}
use Rattle.esm_env.specs.Modules.{Modules}
use Rattle.esm_values.specs.Plans.Rewritten.{Goes, Leaves}
use Rattle.std.specs.Prelude.{Option, None, Result, Ok, Err, OnOk}
use Rattle.esm_tree.specs.Syntax as x
use Rattle.esm_tree.specs.Flat.{stmt_part, stmt_parts}
use Rattle.esm_tree.specs.declared.node.StmtId.{StmtId}
use Rattle.esm_rewriting.specs.Scopes.{Scope, scope_of, caught_name, handler_scope}
use Rattle.esm_body.specs.Slots.{scope_of_slots}
use Rattle.esm_body.specs.declared.work.Slot.{Slot}
use Rattle.esm_body.specs.declared.work.Kind.TheVariants as k
use Rattle.esm_base.specs.declared.memory.Memory.{Memory}
use Rattle.esm_rewriting.specs.Rest.{Rest, more, whole}
use Rattle.esm_rewriting.specs.Rest.Part.{In}
use Rattle.esm_rewriting.specs.State.{Importing}
use Rattle.esm_rewriting.specs.BodyRewriting.{RewrittenBody, On}
use Rattle.esm_rewriting.specs.Contexts.{Context, Block, Trying, scopes_in, placed, surrounded, caught_in}
use Rattle.esm_body.specs.Inner.Stack.{handler_of, caught_of, Becomes, IsHandled, IsCaught, IsLeft}
use Rattle.esm_body.specs.Code.{scope_of_level, contexts_of, context_by, innermost, trying, IsKind, AreLevels}
use Rattle.esm_body.specs.declared.work.Level.{Level}
use Rattle.esm_body.proofs.Levels.{contexts_push}
use Rattle.esm_rewriting.proofs.Moved as moved
use Rattle.esm_rewriting.proofs.Paths.{same_scopes}

length_push : (ls : List Level) (l : Level) → length (ls ++ l ∷ []) ≡ length ls + 1
length_push [] l = refl
length_push (m ∷ ls) l = let e = length_push ls l in omega (arith, e)

pub left : (stmts : List Statement) (old new : List Level) (l : Level) → 1 < length old → old ≡ new ++ l ∷ [] → IsLeft stmts old l.kind new
left stmts old new l h e =
    let n : length old ≡ length new + 1 = ap length e ∙ length_push new l in
    let some : 0 < length new = omega (arith, h, n) in
    record { scope = scope_of_level l; contexts = ap (λ ls. contexts_of stmts ls) e ∙ contexts_push stmts new l some; some = some }

levels_pop : (n : ℕ) (ls : List Level) (l : Level) → AreLevels n (ls ++ l ∷ []) → IsKind n l.kind × AreLevels n ls
levels_pop n [] l h = (h.0, tt)
levels_pop n (m ∷ ls) l h = let r = levels_pop n ls l h.2 in (r.0, (h.0, h.1, r.1))

pub left_sound : (n : ℕ) (old new : List Level) (l : Level) → old ≡ new ++ l ∷ [] → AreLevels n old → IsKind n l.kind × AreLevels n new
left_sound n old new l e h = levels_pop n new l (subst (λ ls. AreLevels n ls) e h)

pub left_fewer : (old new : List Level) (l : Level) → old ≡ new ++ l ∷ [] → length new < length old
left_fewer old new l e = let n : length old ≡ length new + 1 = ap length e ∙ length_push new l in omega (arith, n)

-- where a throw leads, as the moves of the whole have it
pub thrown_is : {N I : Type 0} (same : N → N → Bool) (modules : I → Modules N) (begins : Importing N I) (m : N) (cs : List (Context (Value N))) (v : Value N) → moved.thrown same modules begins m cs (scopes_in cs) v ≡ caught_in cs v
thrown_is same modules begins m [] v = refl
thrown_is same modules begins m (Block scope rest ∷ cs) v = thrown_is same modules begins m cs v
thrown_is same modules begins m (Trying scope x handler rest ∷ cs) v = ap (λ ds. On (Goes (surrounded ds (more (In (handler_scope x v handler) (whole handler)) rest)))) (same_scopes cs)

-- ---- handlers

pub trying_as : (stmts : List Statement) (s : Statement) (scope : Scope CodeValue) (rest : Rest CodeValue) → trying stmts s scope rest ≡ Trying scope (caught_of s) (handler_of s) rest
trying_as stmts x.Empty scope rest = refl
trying_as stmts (x.Expression e) scope rest = refl
trying_as stmts (x.Assign y e) scope rest = refl
trying_as stmts (x.Block ss) scope rest = refl
trying_as stmts (x.If e ss) scope rest = refl
trying_as stmts (x.IfElse e ss ts) scope rest = refl
trying_as stmts (x.Try ss ts) scope rest = refl
trying_as stmts (x.TryCatch ss y ts) scope rest = refl
trying_as stmts (x.Throw e) scope rest = refl
trying_as stmts x.Return scope rest = refl
trying_as stmts (x.ReturnValue e) scope rest = refl
trying_as stmts (x.Await e) scope rest = refl
trying_as stmts (x.PrintAwait e) scope rest = refl
trying_as stmts (x.Const bs) scope rest = refl
trying_as stmts (x.Let bs) scope rest = refl
trying_as stmts (x.Default e) scope rest = refl

pub handled : (stmts : List Statement) (old new : List Level) (s t : Statement) (ids : List StmtId) (names : List Slot) (name : Option (List ℕ)) (v : CodeValue) (result : Result (Unit {0}) Memory) → s ≡ t → stmt_parts stmts ids ≡ handler_of t → name ≡ caught_of t
    → scope_of_slots names ≡ caught_name name v
    → OnOk result (Becomes stmts old new (placed (context_by stmts k.Block (scope_of_slots names ++ scope_of (stmt_parts stmts ids)) (innermost stmts old)) (whole (stmt_parts stmts ids)))) → IsHandled stmts old s v result new
handled stmts old new s t ids names name v (Err why) e h n c b = tt
handled stmts old new s t ids names name v (Ok u) e h n c b =
    λ scope. ap (λ d. caught_in {S = Limit} (d ∷ contexts_of stmts old) v) (ap (λ s. trying stmts s scope (innermost stmts old)) e ∙ trying_as stmts t scope (innermost stmts old))
    ∙ ap (λ r. On (Goes r)) ((λ i. surrounded (contexts_of stmts old) (more (In (caught_name (sym n i) v ++ scope_of (sym h i)) (whole (sym h i))) (innermost stmts old)))
    ∙ (λ i. surrounded (contexts_of stmts old) (more (In (sym c i ++ scope_of (stmt_parts stmts ids)) (whole (stmt_parts stmts ids))) (innermost stmts old))) ∙ sym b)

-- ---- a throw goes out through levels

abbrev Caught : List Statement → List Level → CodeValue → RewrittenBody CodeValue Limit
Caught stmts ls v = caught_in (contexts_of stmts ls) v

pub block_leads : (stmts : List Statement) (old new : List Level) (kind : BlockKind) (v : CodeValue) → kind ≡ k.Block → IsLeft stmts old kind new → Caught stmts old v ≡ Caught stmts new v
block_leads stmts old new kind v e h = let h' = subst (λ kind. IsLeft stmts old kind new) e h in ap (λ cs. caught_in {S = Limit} cs v) h'.contexts

pub try_leads : (stmts : List Statement) (first mid new late : List Level) (kind : BlockKind) (id : StmtId) (v : Value') → kind ≡ k.Tries id → IsLeft stmts mid kind new → (result : Result (Unit {0}) Memory) → result ≡ Ok tt → IsHandled stmts new (stmt_part stmts id) (value_of v) result late
    → Caught stmts first (value_of v) ≡ Caught stmts mid (value_of v) → IsCaught stmts first v (Ok None) late
try_leads stmts first mid new late kind id v e h result o g l =
    let h' = subst (λ kind. IsLeft stmts mid kind new) e h in
    let g' = subst (λ r. IsHandled stmts new (stmt_part stmts id) (value_of v) r late) o g in
    l ∙ ap (λ cs. caught_in {S = Limit} cs (value_of v)) h'.contexts ∙ g' h'.scope

pub no_handler : (stmts : List Statement) (ls : List Level) (v : CodeValue) → length ls ≤ 1 → Caught stmts ls v ≡ On (Leaves v)
no_handler stmts [] v h = refl
no_handler stmts (l ∷ []) v h = refl
no_handler stmts (l ∷ m ∷ ls) v h = absurd (omega (arith, h))
