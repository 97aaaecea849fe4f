-- Links one after another: what is there and what is left are the whole. And the name of one of them.
use Rattle.std.proofs.Common.{◌≡◌, ◌≤◌, ◌<◌, ℕ, zero, suc, ◌+◌, List, [], ◌∷◌, ◌++◌, length, drop, refl, ap, sym, ◌∙◌, get_or, append_assoc, arith}
use Rattle.std.proofs.lemmas.List.{drop_more}
use Rattle.std.proofs.Math.ListN.{drop_of_length-le}
use Rattle.esm_tree.specs.Syntax.{Expr}
use Rattle.esm_tree.specs.Flat.{links}
use Rattle.esm_tree.specs.declared.node.ExprId.{ExprId}
use Rattle.esm_tree.specs.declared.node.Link.{Link}
use Rattle.esm_tree.specs.declared.node.Link.TheVariants as link
use Rattle.esm_rows.specs.Making.{link_name, link_tasks, links_tasks}
use Rattle.esm_rows.specs.declared.tasks.Task.{Task}
use Rattle.esm_rows.proofs.Pushed.{nothing_behind}

module _ (id : ExprId) (ls : List Link) where
  abbrev pub LinksLeft : ℕ → List Task → List Task → Type 0
  LinksLeft i there all = there ++ links_tasks id i (drop i ls) ≡ all

  pub goes : (i : ℕ) (l : Link) (there all : List Task) → l ≡ get_or ls i l → i < length ls → LinksLeft i there all → LinksLeft (i + 1) (there ++ link_tasks id i l) all
  goes i l there all is h left =
      append_assoc there (link_tasks id i l) _ ∙ ap (λ m. there ++ (link_tasks id i m ++ links_tasks id (i + 1) (drop (i + 1) ls))) is ∙ ap (λ rest. there ++ links_tasks id i rest) (sym (drop_more ls i l h)) ∙ left

  pub ends : (i : ℕ) (there all : List Task) → length ls ≤ i → LinksLeft i there all → there ≡ all
  ends i there all h left = sym (nothing_behind there) ∙ ap (λ rest. there ++ links_tasks id i rest) (sym (drop_of_length-le ls h)) ∙ left

-- the name of the link at a place
pub name_at : (exprs : List Expr) (ls : List Link) (i : ℕ) (d : Link) (name : List ℕ) → i < length ls → name ≡ link_name (links exprs (get_or ls i d ∷ [])) 0 → name ≡ link_name (links exprs ls) i
name_at exprs [] i d name h e = absurd (omega (arith, h))
name_at exprs (link.Member x ∷ ls) zero d name h e = e
name_at exprs (link.Call ids ∷ ls) zero d name h e = e
name_at exprs (link.Member x ∷ ls) (suc i) d name h e = name_at exprs ls i d name (omega (arith, h)) e
name_at exprs (link.Call ids ∷ ls) (suc i) d name h e = name_at exprs ls i d name (omega (arith, h)) e

pub no_name : (exprs : List Expr) (ls : List Link) (i : ℕ) → length ls ≤ i → ◌≡◌ {A = List ℕ} [] (link_name (links exprs ls) i)
no_name exprs [] i h = refl
no_name exprs (l ∷ ls) zero h = absurd (omega (arith, h))
no_name exprs (link.Member x ∷ ls) (suc i) h = no_name exprs ls i (omega (arith, h))
no_name exprs (link.Call ids ∷ ls) (suc i) h = no_name exprs ls i (omega (arith, h))
