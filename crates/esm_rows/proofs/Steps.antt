-- Tasks one after another: what is there leads on to what is there then.
use Rattle.std.proofs.Common.{◌≡◌, ℕ, zero, suc, ◌+◌, Bool, List, [], ◌∷◌, ◌++◌, length, refl, ap, subst, sym, ◌∙◌, arith}
use Rattle.std.specs.List.{flat_map}
use Rattle.esm_tree.specs.Syntax as x
use Rattle.esm_tree.specs.Syntax.{Expr}
use Rattle.esm_tree.specs.Flat.{part, links, compared_parts}
use Rattle.esm_tree.specs.Flat.{parts as expr_parts}
use Rattle.esm_tree.specs.declared.node.ExprId.{ExprId}
use Rattle.esm_tree.specs.declared.node.Link.{Link}
use Rattle.esm_tree.specs.declared.node.Link.TheVariants as link
use Rattle.esm_rows.specs.Rows.{Row, Names, among, expr_row, exprs_row, ors_row, ands_row, links_row}
use Rattle.esm_rows.specs.Rows.{Operation as o}
use Rattle.esm_rows.specs.declared.op.Op.{Op}
use Rattle.esm_rows.specs.declared.op.Op.TheVariants as op
use Rattle.esm_rows.specs.declared.tasks.Task.{Task}
use Rattle.esm_rows.specs.declared.tasks.Task.TheVariants as task
use Rattle.esm_rows.specs.Making.{AreTold, step, undone, part_tasks, or_tasks, and_tasks, sum_tasks, compare_tasks, link_tasks, links_tasks, member_name, link_name, IsPlain, ArePlain, LeadsTo}
use Rattle.esm_rows.proofs.Made as made

-- ---- operations that name no text

pub plain_both : (ts us : List Task) → ArePlain ts → ArePlain us → ArePlain (ts ++ us)
plain_both [] us h k = k
plain_both (t ∷ ts) us h k = (h.0, plain_both ts us h.1 k)

pub plain_front : (ts us : List Task) → ArePlain (ts ++ us) → ArePlain ts
plain_front [] us h = tt
plain_front (t ∷ ts) us h = (h.0, plain_front ts us h.1)

pub plain_last : (ts : List Task) (t : Task) → ArePlain (ts ++ t ∷ []) → IsPlain t
plain_last [] t h = h.0
plain_last (u ∷ ts) t h = plain_last ts t h.1

pub plain_each : {X : Type 0} (f : X → List Task) → ((y : X) → ArePlain (f y)) → (ys : List X) → ArePlain (flat_map f ys)
plain_each f h [] = tt
plain_each f h (y ∷ ys) = plain_both (f y) (flat_map f ys) (h y) (plain_each f h ys)

pub plain_parts : (ids : List ExprId) → ArePlain (flat_map part_tasks ids)
plain_parts ids = plain_each part_tasks (λ id. (tt, tt)) ids

pub plain_ors : (left : ℕ) (ids : List ExprId) → ArePlain (flat_map (or_tasks left) ids)
plain_ors left ids = plain_each (or_tasks left) (λ id. ((λ texts. refl), (tt, tt))) ids

pub plain_ands : (left : ℕ) (ids : List ExprId) → ArePlain (flat_map (and_tasks left) ids)
plain_ands left ids = plain_each (and_tasks left) (λ id. ((λ texts. refl), (tt, tt))) ids

pub plain_sums : (ids : List ExprId) → ArePlain (flat_map sum_tasks ids)
plain_sums ids = plain_each sum_tasks (λ id. (tt, ((λ texts. refl), tt))) ids

pub plain_compared : (cs : List (Bool × ExprId)) → ArePlain (flat_map compare_tasks cs)
plain_compared cs = plain_each compare_tasks (λ c. (tt, ((λ texts. refl), tt))) cs

pub plain_all : (ids : List ExprId) (q : Op) → IsPlain (task.Put q) → ArePlain (flat_map part_tasks ids ++ task.Put q ∷ [])
plain_all ids q h = plain_both (flat_map part_tasks ids) (task.Put q ∷ []) (plain_parts ids) (h, tt)

pub plain_links : (id : ExprId) (k : ℕ) (ls : List Link) → ArePlain (links_tasks id k ls)
plain_links id k [] = tt
plain_links id k (link.Member name ∷ ls) = (tt, plain_links id (k + 1) ls)
plain_links id k (link.Call ids ∷ ls) =
    plain_both (link_tasks id k (link.Call ids)) (links_tasks id (k + 1) ls) (plain_all ids.items (op.Call (length ids.items)) (λ texts. refl)) (plain_links id (k + 1) ls)

-- ---- how many there are

many_more : (exprs : List Expr) (n : ℕ) (ids : List ExprId) → among n (expr_parts exprs ids) ≡ n + length ids
many_more exprs n [] = omega arith
many_more exprs n (id ∷ ids) = let k = many_more exprs (suc n) ids in omega (arith, k)

pub many : (exprs : List Expr) (ids : List ExprId) → length ids ≡ among zero (expr_parts exprs ids)
many exprs ids = let k = many_more exprs zero ids in omega (arith, k)

-- ---- what tasks come to

module _ (names : Names) (exprs : List Expr) where
  pub all_make : (ids : List ExprId) (q : Op) (c : Row) → undone names exprs (flat_map part_tasks ids ++ task.Put q ∷ []) c ≡ exprs_row names (expr_parts exprs ids) (step names exprs (task.Put q) c)
  all_make ids q c = made.both names exprs (flat_map part_tasks ids) (task.Put q ∷ []) c ∙ made.parts names exprs ids (step names exprs (task.Put q) c)

  pub print_makes : (ids : List ExprId) (c : Row) → undone names exprs (flat_map part_tasks ids ++ task.Put (op.Print (length ids)) ∷ []) c ≡ expr_row names (x.Print (expr_parts exprs ids)) c
  print_makes ids c = all_make ids (op.Print (length ids)) c ∙ ap (λ n. exprs_row names (expr_parts exprs ids) (o.Print n ∷ c)) (many exprs ids)

  links_from : (id : ExprId) (k : ℕ) (ls : List Link) (c : Row) → ((n : ℕ) → member_name (part exprs id) (k + n) ≡ link_name (links exprs ls) n) → undone names exprs (links_tasks id k ls) c ≡ links_row names (links exprs ls) c
  links_from id k [] c h = refl
  links_from id k (link.Member name ∷ ls) c h =
      let rest = links_from id (k + 1) ls c (λ n. let e : k + 1 + n ≡ k + suc n = omega arith in rw e (h (suc n))) in
      let zero_on : k + zero ≡ k = omega arith in
      let here = rw zero_on at (h zero) in
      (λ i. o.Member (here i) ∷ rest i)
  links_from id k (link.Call ids ∷ ls) c h =
      let rest = links_from id (k + 1) ls c (λ n. let e : k + 1 + n ≡ k + suc n = omega arith in rw e (h (suc n))) in
      made.both names exprs (link_tasks id k (link.Call ids)) (links_tasks id (k + 1) ls) c ∙ all_make ids.items (op.Call (length ids.items)) (undone names exprs (links_tasks id (k + 1) ls) c) ∙ (λ i. exprs_row names (expr_parts exprs ids.items) (o.Call (many exprs ids.items i) ∷ rest i))

  pub post_makes : (id head : ExprId) (ls : List Link) (c : Row) → part exprs id ≡ x.Post (part exprs head) (links exprs ls) → undone names exprs (task.Part head ∷ links_tasks id 0 ls) c ≡ expr_row names (x.Post (part exprs head) (links exprs ls)) c
  post_makes id head ls c e =
      ap (expr_row names (part exprs head)) (links_from id 0 ls c (λ n. let z : 0 + n ≡ n = omega arith in rw z (ap (λ w. member_name w n) e)))

  pub or_makes : (first : ExprId) (ids : List ExprId) (left : ℕ) (c : Row) → left ≡ length c → undone names exprs (task.Part first ∷ flat_map (or_tasks left) ids) c ≡ expr_row names (x.Or (part exprs first) (expr_parts exprs ids)) c
  or_makes first ids left c e =
      ap (expr_row names (part exprs first)) (made.ors names exprs left ids c ∙ ap (λ n. ors_row names (expr_parts exprs ids) n c) e)

  pub and_makes : (first : ExprId) (ids : List ExprId) (left : ℕ) (c : Row) → left ≡ length c → undone names exprs (task.Part first ∷ flat_map (and_tasks left) ids) c ≡ expr_row names (x.And (part exprs first) (expr_parts exprs ids)) c
  and_makes first ids left c e =
      ap (expr_row names (part exprs first)) (made.ands names exprs left ids c ∙ ap (λ n. ands_row names (expr_parts exprs ids) n c) e)

  pub sum_makes : (first : ExprId) (ids : List ExprId) (c : Row) → undone names exprs (task.Part first ∷ flat_map sum_tasks ids) c ≡ expr_row names (x.Sum (part exprs first) (expr_parts exprs ids)) c
  sum_makes first ids c = ap (expr_row names (part exprs first)) (made.sums names exprs ids c)

  pub equal_makes : (first : ExprId) (cs : List (Bool × ExprId)) (c : Row) → undone names exprs (task.Part first ∷ flat_map compare_tasks cs) c ≡ expr_row names (x.Equal (part exprs first) (compared_parts exprs cs)) c
  equal_makes first cs c = ap (expr_row names (part exprs first)) (made.compared names exprs cs c)

  -- ---- a task is done

  -- its operations are there
  pub after : (ts : List Task) (t : Task) {texts texts2 : List (List ℕ)} {ops ops2 : List Op} {whole : Row} → (l : LeadsTo names exprs (ts ++ t ∷ []) texts ops whole) → AreTold [] texts2 ops2 (step names exprs t l.row) → LeadsTo names exprs ts texts2 ops2 whole
  after ts t l told = record {
    row = step names exprs t l.row;
    told = told;
    makes = sym (made.more names exprs ts t l.row) ∙ l.makes;
    plain_tasks = plain_front ts (t ∷ []) l.plain_tasks;
  }

  -- those of an expression are
  pub leaf : (ts : List Task) (id : ExprId) (e : Expr) {texts texts2 : List (List ℕ)} {ops ops2 : List Op} {whole : Row} → (l : LeadsTo names exprs (ts ++ task.Part id ∷ []) texts ops whole) → part exprs id ≡ e → AreTold [] texts2 ops2 (expr_row names e l.row) → LeadsTo names exprs ts texts2 ops2 whole
  leaf ts id e {texts2 = texts2} {ops2 = ops2} l is told =
      after ts (task.Part id) l (subst (λ w. AreTold [] texts2 ops2 (expr_row names w l.row)) (sym is) told)

  -- its parts are put down
  pub became : (ts us ws : List Task) (id : ExprId) (e : Expr) {texts : List (List ℕ)} {ops : List Op} {whole : Row} → (l : LeadsTo names exprs (ts ++ task.Part id ∷ []) texts ops whole) → part exprs id ≡ e → ArePlain us → undone names exprs us l.row ≡ expr_row names e l.row → ws ≡ ts ++ us → LeadsTo names exprs ws texts ops whole
  became ts us ws id e l is plain same w = record {
    row = l.row;
    told = l.told;
    makes = ap (λ ts. undone names exprs ts l.row) w ∙ made.both names exprs ts us l.row ∙ ap (undone names exprs ts) (same ∙ ap (λ w. expr_row names w l.row) (sym is)) ∙ sym (made.more names exprs ts (task.Part id) l.row) ∙ l.makes;
    plain_tasks = subst ArePlain (sym w) (plain_both ts us (plain_front ts (task.Part id ∷ []) l.plain_tasks) plain);
  }

  -- nothing is left to be done
  pub done : (ts : List Task) (texts : List (List ℕ)) (ops : List Op) (whole : Row) → length ts ≡ 0 → LeadsTo names exprs ts texts ops whole → AreTold [] texts ops whole
  done [] texts ops whole h l = subst (λ c. AreTold [] texts ops c) l.makes l.told
  done (t ∷ ts) texts ops whole h l = absurd (omega (arith, h))
