-- What remains of a level, as it grows and is taken.
use Rattle.std.proofs.Common.{◌≡◌, List, [], ◌∷◌, ◌++◌, ap, sym, ◌∙◌, append_assoc}
use Rattle.std.proofs.lemmas.List.{append-nil, map_push}
use Rattle.std.specs.Prelude.{Option, Some, None}
use Rattle.esm_tree.specs.declared.node.StmtId.{StmtId}
use Rattle.esm_body.specs.Inner.Remainders.{wholes, IsLast}
use Rattle.esm_body.specs.declared.work.Work.{Work}
use Rattle.esm_body.specs.declared.work.Work.TheVariants as w

-- a statement in front of others
pub wholes_more : (ids : List StmtId) (id : StmtId) → wholes (ids ++ id ∷ []) ≡ wholes ids ++ w.Whole id ∷ []
wholes_more ids id = map_push (λ id. w.Whole id) ids id

-- a part in front
pub part_more : (ids : List StmtId) (front new : List Work) (one : Work) → new ≡ front ++ one ∷ [] → wholes ids ++ new ≡ (wholes ids ++ front) ++ one ∷ []
part_more ids front new one e = ap (λ ws. wholes ids ++ ws) e ∙ sym (append_assoc (wholes ids) front (one ∷ []))

-- the last is a statement, where nothing is in front of them
pub last_behind : (old new front after : List Work) (o : Option Work) → front ≡ [] → after ≡ [] → IsLast old o new → IsLast (old ++ front) o (new ++ after)
last_behind old new front after None a b h = ((λ i. h.0 i ++ a i), (λ i. h.1 i ++ b i))
last_behind old new front after (Some one) a b h =
    (λ i. h i ++ a i) ∙ append-nil (new ++ one ∷ []) ∙ ap (λ ws. ws ++ one ∷ []) (sym ((λ i. new ++ b i) ∙ append-nil new))
