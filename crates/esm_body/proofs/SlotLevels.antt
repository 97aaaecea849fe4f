-- Levels that changed in their slots alone: what remains is the same, in scopes with the new values.
use Rattle.std.proofs.Common.{◌≡◌, ℕ, ◌+◌, ◌<◌, List, [], ◌∷◌, ◌++◌, length, refl, ap, sym, ◌∙◌, arith}
use Rattle.esm_tree.specs.Syntax.{Stmt as Statement}
use Rattle.esm_tree.specs.Flat.{stmt_part}
use Rattle.esm_values.specs.Code.{CodeValue}
use Rattle.esm_rewriting.specs.Scopes.{Scope}
use Rattle.esm_rewriting.specs.Rest.{Rest, end}
use Rattle.esm_rewriting.specs.Contexts.{Context, surrounded, rescoped, retaken}
use Rattle.esm_body.specs.Inner.Stack.{levels_rest, scopes_round}
use Rattle.esm_body.specs.Code.{contexts_of, context_by, innermost, in_front, scope_of_level, AreLevels}
use Rattle.esm_body.specs.Inner.Written.{OnlySlots}
use Rattle.esm_body.specs.declared.work.Kind.{Kind}
use Rattle.esm_body.specs.declared.work.Kind.TheVariants as k
use Rattle.esm_body.specs.declared.work.Level.{Level}
use Rattle.esm_body.proofs.Levels.{levels_surround}
use Rattle.esm_body.proofs.CaughtLemmas.{trying_as}

retaken_more : (cs : List (Context CodeValue)) (ss : List (Scope CodeValue)) (c : Context CodeValue) (s : Scope CodeValue) → length ss ≡ length cs → retaken (cs ++ c ∷ []) (ss ++ s ∷ []) ≡ retaken cs ss ++ rescoped c s ∷ []
retaken_more [] [] c s h = refl
retaken_more [] (t ∷ ss) c s h = absurd (omega (arith, h))
retaken_more (d ∷ cs) [] c s h = absurd (omega (arith, h))
retaken_more (d ∷ cs) (t ∷ ss) c s h = ap (λ ds. rescoped d t ∷ ds) (retaken_more cs ss c s (omega (arith, h)))

many_more : {A : Type 0} (xs : List A) (x : A) → length (xs ++ x ∷ []) ≡ length xs + 1
many_more [] x = refl
many_more (y ∷ xs) x = let r = many_more xs x in omega (arith, r)

rescoped_by : (stmts : List Statement) (kind : Kind) (s t : Scope CodeValue) (rest : Rest CodeValue) → rescoped (context_by stmts kind s rest) t ≡ context_by stmts kind t rest
rescoped_by stmts k.Block s t rest = refl
rescoped_by stmts (k.Tries id) s t rest = ap (λ c. rescoped c t) (trying_as stmts (stmt_part stmts id) s rest) ∙ sym (trying_as stmts (stmt_part stmts id) t rest)

module _ (stmts : List Statement) where
  pub rounds_many : (ls : List Level) → length (scopes_round ls) ≡ length (contexts_of stmts ls)
  rounds_many [] = refl
  rounds_many (l ∷ []) = refl
  rounds_many (l ∷ m ∷ ls) =
      many_more (scopes_round (m ∷ ls)) (scope_of_level m) ∙ ap (λ n. n + 1) (rounds_many (m ∷ ls))
      ∙ sym (many_more (contexts_of stmts (m ∷ ls)) (context_by stmts m.kind (scope_of_level m) (in_front stmts l.work end)))

  pub slots_many : (old new : List Level) → OnlySlots old new → length (contexts_of stmts new) ≡ length (contexts_of stmts old)
  slots_many [] [] h = refl
  slots_many [] (m ∷ ms) h = absurd h
  slots_many (l ∷ ls) [] h = absurd h
  slots_many (l ∷ []) (m ∷ []) h = refl
  slots_many (l ∷ []) (m ∷ n ∷ ms) h = absurd h.2
  slots_many (l ∷ o ∷ ls) (m ∷ []) h = absurd h.2
  slots_many (l ∷ o ∷ ls) (m ∷ n ∷ ms) h =
      many_more (contexts_of stmts (n ∷ ms)) _ ∙ ap (λ i. i + 1) (slots_many (o ∷ ls) (n ∷ ms) h.2) ∙ sym (many_more (contexts_of stmts (o ∷ ls)) _)

  pub slots_contexts : (old new : List Level) → OnlySlots old new → contexts_of stmts new ≡ retaken (contexts_of stmts old) (scopes_round new)
  slots_contexts [] [] h = refl
  slots_contexts [] (m ∷ ms) h = absurd h
  slots_contexts (l ∷ ls) [] h = absurd h
  slots_contexts (l ∷ []) (m ∷ []) h = refl
  slots_contexts (l ∷ []) (m ∷ n ∷ ms) h = absurd h.2
  slots_contexts (l ∷ o ∷ ls) (m ∷ []) h = absurd h.2
  slots_contexts (l ∷ o ∷ ls) (m ∷ n ∷ ms) h =
      let fewer : length (scopes_round (n ∷ ms)) ≡ length (contexts_of stmts (o ∷ ls)) = rounds_many (n ∷ ms) ∙ slots_many (o ∷ ls) (n ∷ ms) h.2 in
      (λ i. slots_contexts (o ∷ ls) (n ∷ ms) h.2 i ++ context_by stmts (h.2.0 i) (scope_of_level n) (in_front stmts (h.1 i) end) ∷ [])
      ∙ ap (λ c. retaken (contexts_of stmts (o ∷ ls)) (scopes_round (n ∷ ms)) ++ c ∷ []) (sym (rescoped_by stmts o.kind (scope_of_level o) (scope_of_level n) (in_front stmts l.work end)))
      ∙ sym (retaken_more (contexts_of stmts (o ∷ ls)) (scopes_round (n ∷ ms)) (context_by stmts o.kind (scope_of_level o) (in_front stmts l.work end)) (scope_of_level n) fewer)

  pub slots_innermost : (old new : List Level) → OnlySlots old new → innermost stmts new ≡ innermost stmts old
  slots_innermost [] [] h = refl
  slots_innermost [] (m ∷ ms) h = absurd h
  slots_innermost (l ∷ ls) [] h = absurd h
  slots_innermost (l ∷ []) (m ∷ []) h = ap (λ w. in_front stmts w end) h.1
  slots_innermost (l ∷ []) (m ∷ n ∷ ms) h = absurd h.2
  slots_innermost (l ∷ o ∷ ls) (m ∷ []) h = absurd h.2
  slots_innermost (l ∷ o ∷ ls) (m ∷ n ∷ ms) h = slots_innermost (o ∷ ls) (n ∷ ms) h.2

  -- what remains, in the scopes that there are now
  pub slots_rest : (old new : List Level) → OnlySlots old new → surrounded (retaken (contexts_of stmts old) (scopes_round new)) (innermost stmts old) ≡ levels_rest stmts new
  slots_rest old new h = (λ i. surrounded (sym (slots_contexts old new h) i) (sym (slots_innermost old new h) i)) ∙ levels_surround stmts new

pub slots_levels : (n : ℕ) (old new : List Level) → OnlySlots old new → AreLevels n old → AreLevels n new
slots_levels n [] [] h a = tt
slots_levels n [] (m ∷ ms) h a = absurd h
slots_levels n (l ∷ ls) [] h a = absurd h
slots_levels n (l ∷ ls) (m ∷ ms) h a = (rw h.0 a.0, rw h.1 a.1, slots_levels n ls ms h.2 a.2)

pub slots_some : (old new : List Level) → OnlySlots old new → 0 < length old → 0 < length new
slots_some [] [] h s = s
slots_some [] (m ∷ ms) h s = absurd h
slots_some (l ∷ ls) [] h s = absurd h
slots_some (l ∷ ls) (m ∷ ms) h s = omega arith
