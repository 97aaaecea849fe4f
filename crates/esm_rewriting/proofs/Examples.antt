-- The worked examples, rewriting by rewriting.
use Rattle.std.proofs.Common.{ℕ, List, [], ◌∷◌, refl}
use Rattle.std.specs.Prelude.{codes}
use Rattle.esm_tree.specs.Syntax as syntax
use Rattle.esm_values.specs.Value.{Value, Undefined, Text}
use Rattle.esm_values.specs.Plans.Rewritten.{Goes, Leaves}
use Rattle.esm_values.specs.Plans.Follows.{ends, asks}
use Rattle.esm_expr_eval.specs.Terms.{Term}
use Rattle.esm_expr_eval.specs.Terms.Term.{Val, Print}
use Rattle.esm_expr_eval.specs.Terms.{Terms as terms}
use Rattle.esm_expr_eval.specs.Rewriting.AreValues.{nil, cons}
use Rattle.esm_expr_eval.specs.Rewriting.{Rewrites as rewrites}
use Rattle.esm_rewriting.specs.Rest.{Rest, end, more}
use Rattle.esm_rewriting.specs.Rest.Use.{Drops, Throws, Awaits}
use Rattle.esm_rewriting.specs.Rest.Part.{Whole, Does}
use Rattle.esm_rewriting.specs.BodyRewriting.{On, Waits}
use Rattle.esm_rewriting.specs.BodyRewriting.{RewritesBody as moves}
use Rattle.esm_rewriting.specs.Segment.{Normal}
use Rattle.esm_rewriting.specs.Segment.{Segment as segment}
use Rattle.esm_rewriting.specs.Bodies.{RunsBody as runs}
use Rattle.esm_rewriting.specs.Bodies.{StartsBody as starts}
use Rattle.esm_rewriting.specs.Examples.{ThrowLeaves, AwaitDivides, printing, waiting, behind_await}

-- an expression statement that has begun
abbrev drop_of : Term (Value ℕ) → Rest (Value ℕ) → Rest (Value ℕ)
drop_of e rest = more (Does Drops e) rest

abbrev print_of : List ℕ → Term (Value ℕ)
print_of text = Print (terms.more (Val (Text text)) terms.none)

pub throw_leaves : ThrowLeaves
throw_leaves f = runs.segment refl
    (segment.goes (On (Goes (more (Does Throws (Val (Text (codes "x")))) end))) (moves.begins_at (asks tt refl ends)) refl
    (segment.over (On (Leaves (Text (codes "x")))) moves.throws refl)) refl

abbrev last : Rest (Value ℕ)
last = more (Whole (printing (codes "b"))) end

abbrev waits : Rest (Value ℕ)
waits = more (Whole (syntax.Await syntax.Undefined)) last

pub await_divides : AwaitDivides
await_divides = record {
  started = λ f. starts.segment refl
      (segment.goes (On (Goes (drop_of (print_of (codes "a")) waits))) (moves.begins_at (asks tt refl ends)) refl
      (segment.goes (On (Goes (drop_of (Val Undefined) waits)))
      (moves.does (rewrites.print (cons nil) (asks tt refl (asks tt (codes "a" ∷ [], (codes "a", [], refl, refl, refl), refl) ends)))) refl
      (segment.goes (On (Goes waits)) moves.drops refl
      (segment.goes (On (Goes (more (Does (Awaits Drops) (Val Undefined)) last))) (moves.begins_at (asks tt refl ends)) refl
      (segment.over (Waits Undefined behind_await) moves.awaits refl))))) refl;
  resumed = λ f. record {
    taken = record { standing = waiting; others = [] };
    ended = Normal;
    late = _;
    stands = refl;
    runs = segment.goes (On (Goes last)) moves.drops refl
        (segment.goes (On (Goes (drop_of (print_of (codes "b")) end))) (moves.begins_at (asks tt refl ends)) refl
        (segment.goes (On (Goes (drop_of (Val Undefined) end)))
        (moves.does (rewrites.print (cons nil) (asks tt refl (asks tt (codes "b" ∷ [], (codes "b", [], refl, refl, refl), refl) ends)))) refl
        (segment.goes (On (Goes end)) moves.drops refl segment.ends)));
    ends = refl;
  };
}
