-- Reading and writing nodes of a table.
use Rattle.std.proofs.Common.{◌≡◌, ℕ, zero, suc, ◌<◌, ◌≤◌, nat_eq, true, false, List, [], ◌∷◌, length, map, length-set, refl, ap, sym, subst, ◌∙◌, Option, Some, None, slice_get, slice_set, get_or, arith}
use Rattle.std.specs.Option.{option_map}
use Rattle.std.proofs.lemmas.Option.{slice_get-map, slice_get_past, slice_get_read}
use Rattle.esm_base.specs.Lists.{is_in}
use Rattle.esm_realm.proofs.Numbers.{place_of}
use Rattle.esm_realm.proofs.Urls.{not_true}
use Rattle.esm_values.specs.Code.{CodeValue}
use Rattle.esm_eval.specs.Nodes as nodes
use Rattle.esm_eval.specs.declared.nodes.Node.{Node}
use Rattle.esm_eval.specs.Table.{Table, size, AreDone, AreKept, HasPassed, IsBounded, IsOrderOf, is_done_by, is_done_in, node_of, node_by, put_at, table_of, node_at, with_node}

pub put_there : (ns : List Node) (x : ℕ) (old new : Node) → slice_get ns x ≡ Some old → map node_of (slice_set ns x new) ≡ put_at (map node_of ns) x (node_of new)
put_there [] x old new e = cc
put_there (n ∷ ns) zero old new e = refl
put_there (n ∷ ns) (suc x) old new e = ap (λ ms. node_of n ∷ ms) (put_there ns x old new e)

pub reads : (ns : List Node) (len x : ℕ) (n : Node) → len ≡ length ns → x < len → n ≡ get_or ns x n → slice_get ns x ≡ Some n
reads ns len x n e h r = slice_get_read ns len x n e h r

pub node_there : (ns : List Node) (stamps : List ℕ) (x : ℕ) (n : Node) → slice_get ns x ≡ Some n → node_at (table_of ns stamps) x ≡ node_of n
node_there ns stamps x n e = ap node_by (slice_get-map node_of ns x ∙ ap (option_map node_of) e)

pub nothing_past : (ns : List Node) (stamps : List ℕ) (x : ℕ) → length ns ≤ x → node_at (table_of ns stamps) x ≡ nodes.untouched
nothing_past ns stamps x h = let e : slice_get ns x ≡ None = slice_get_past ns x h in ap node_by (slice_get-map node_of ns x ∙ ap (option_map node_of) e)

pub writes : (f : nodes.Node ℕ CodeValue → nodes.Node ℕ CodeValue) (ns : List Node) (stamps : List ℕ) (x : ℕ) (old new : Node) → slice_get ns x ≡ Some old
    → node_of new ≡ f (node_of old) → table_of (slice_set ns x new) stamps ≡ with_node (table_of ns stamps) x (f (node_at (table_of ns stamps) x))
writes f ns stamps x old new e h =
    ap (λ ms. record { nodes = ms; stamps = stamps }) (put_there ns x old new e ∙ ap (put_at (map node_of ns) x) (h ∙ ap f (sym (node_there ns stamps x old e))))

pub unstamped_past : (ns : List Node) (stamps : List ℕ) (x : ℕ) → AreKept ns stamps → length ns ≤ x → is_in nat_eq stamps x ≡ false
unstamped_past ns stamps x k h = not_true (is_in nat_eq stamps x) (λ i. let p = place_of stamps x i in absurd (let lt = k.below p.place x p.is in omega (arith, lt, h)))

apart : (P : ℕ → Node → Type 0) (ns : List Node) (x : ℕ) (new : Node) (y : ℕ) (n : Node) → slice_get (slice_set ns x new) y ≡ Some n
    → P x new → ((z : ℕ) (m : Node) → slice_get ns z ≡ Some m → P z m) → P y n
apart P [] x new y n e here there = cc
apart P (m ∷ ns) zero new zero n e here there = let same : new ≡ n = cc in subst (λ k. P zero k) same here
apart P (m ∷ ns) zero new (suc y) n e here there = there (suc y) n e
apart P (m ∷ ns) (suc x) new zero n e here there = there zero n e
apart P (m ∷ ns) (suc x) new (suc y) n e here there = apart (λ z k. P (suc z) k) ns x new y n e here (λ z k h. there (suc z) k h)

-- what is done stays done
pub done_on : (ns : List Node) (x : ℕ) (old new : Node) → slice_get ns x ≡ Some old → (old.done ≡ true → new.done ≡ true) → (y : ℕ) → is_done_in ns y ≡ true → is_done_in (slice_set ns x new) y ≡ true
done_on [] x old new e d y h = cc
done_on (n ∷ ns) zero old new e d zero h = let same : n ≡ old = cc in d (subst (λ m. m.done ≡ true) same h)
done_on (n ∷ ns) zero old new e d (suc y) h = h
done_on (n ∷ ns) (suc x) old new e d zero h = h
done_on (n ∷ ns) (suc x) old new e d (suc y) h = done_on ns x old new e d y h

pub passed_on : (ns : List Node) (x : ℕ) (old new : Node) → slice_get ns x ≡ Some old → (old.done ≡ true → new.done ≡ true) → (n : Node) → HasPassed ns n → HasPassed (slice_set ns x new) n
passed_on ns x old new e d n p = record { within = p.within; passed = λ k y lt at. done_on ns x old new e d y (p.passed k y lt at) }

-- a node in the place of another, which keeps its order and has passed what it says
pub keeps_by : (ns : List Node) (stamps : List ℕ) (x : ℕ) (old new : Node) → AreKept ns stamps → slice_get ns x ≡ Some old
    → IsBounded (length ns) new → new.order ≡ old.order → (old.done ≡ true → new.done ≡ true) → HasPassed ns new → AreKept (slice_set ns x new) stamps
keeps_by ns stamps x old new k e b s d p = record {
  bounded = λ y n h. subst (λ len. IsBounded len n) (sym (length-set ns x new)) (apart (λ z m. IsBounded (length ns) m) ns x new y n h b k.bounded);
  ordered = λ y n h. apart (λ z m. IsOrderOf stamps z m.order) ns x new y n h (subst (λ o. IsOrderOf stamps x o) (sym s) (k.ordered x old e)) k.ordered;
  below = λ i y h. subst (λ len. y < len) (sym (length-set ns x new)) (k.below i y h);
  gone = λ y n h. passed_on ns x old new e d n (apart (λ z m. HasPassed ns m) ns x new y n h p k.gone);
}

-- a node that has passed the same waits, and is done where it was
pub record IsLater (old new : Node) : Type 0 where
  pub gone : new.passed ≡ old.passed
  pub same : new.waits.items ≡ old.waits.items
  pub stays : old.done ≡ true → new.done ≡ true

pub later_passed : (ns : List Node) (old new : Node) → IsLater old new → HasPassed ns old → HasPassed ns new
later_passed ns old new l p = record {
  within = let w = p.within in let g = l.gone in let s = ap length l.same in omega (arith, w, g, s);
  passed = λ k y lt at. p.passed k y (let g = l.gone in omega (arith, lt, g)) (subst (λ ws. slice_get ws k ≡ Some y) l.same at);
}

pub keeps : (ns : List Node) (stamps : List ℕ) (x : ℕ) (old new : Node) → AreKept ns stamps → slice_get ns x ≡ Some old
    → IsBounded (length ns) new → new.order ≡ old.order → IsLater old new → AreKept (slice_set ns x new) stamps
keeps ns stamps x old new k e b s l = keeps_by ns stamps x old new k e b s l.stays (later_passed ns old new l (k.gone x old e))

-- what is read of done modules
pub done_read : (ns : List Node) (stamps : List ℕ) (y : ℕ) → (node_at (table_of ns stamps) y).done ≡ is_done_in ns y
done_read ns stamps y = ap (λ o. (node_by o).done) (slice_get-map node_of ns y) ∙ by (slice_get ns y)
  where
    by : (o : Option Node) → (node_by (option_map node_of o)).done ≡ is_done_by o
    by None = refl
    by (Some n) = refl

pub passed_read : (ns : List Node) (stamps : List ℕ) (x : ℕ) (n : Node) → AreKept ns stamps → slice_get ns x ≡ Some n → AreDone (table_of ns stamps) (node_at (table_of ns stamps) x).waits n.passed
passed_read ns stamps x n k e = λ i y lt at. done_read ns stamps y ∙ (k.gone x n e).passed i y lt (subst (λ m. slice_get m.waits i ≡ Some y) (node_there ns stamps x n e) at)

as_long : (ns : List Node) → length (map node_of ns) ≡ length ns
as_long [] = refl
as_long (n ∷ ns) = ap suc (as_long ns)

pub bound : (ns : List Node) (stamps : List ℕ) (t : Table) (x : ℕ) → table_of ns stamps ≡ t → x < size t → x < length ns
bound ns stamps t x e h = let same : size t ≡ length ns = ap (λ u. size u) (sym e) ∙ as_long ns in omega arith

pub has_node : (ns : List Node) (stamps : List ℕ) (t : Table) (x : ℕ) → table_of ns stamps ≡ t → x < length ns → x < size t
has_node ns stamps t x e h = let same : size t ≡ length ns = ap (λ u. size u) (sym e) ∙ as_long ns in omega arith

pub some_below : (r n : ℕ) → n < r → (k : ℕ) → Some n ≡ Some k → k < r
some_below r n lt k e = let same : n ≡ k = cc in subst (λ z. z < r) same lt

-- ---- sizes

pub size_set : (ns : List Node) (stamps late : List ℕ) (t : Table) (x : ℕ) (n : Node) → table_of ns stamps ≡ t → size (table_of (slice_set ns x n) late) ≡ size t
size_set ns stamps late t x n e = as_long (slice_set ns x n) ∙ length-set ns x n ∙ sym (as_long ns) ∙ ap (λ u. size u) e

pub same_size : (ns : List Node) (stamps late : List ℕ) (t : Table) → table_of ns stamps ≡ t → size (table_of ns late) ≡ size t
same_size ns stamps late t e = ap (λ u. size u) e
