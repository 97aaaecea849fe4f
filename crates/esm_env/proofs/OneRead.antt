-- A name reads as one thing.
use Rattle.std.proofs.Common.{◌≡◌, ℕ, List, false, Option, Some, None, refl, ap, subst, sym, ◌∙◌}
use Rattle.esm_ast.specs.declared.entries.ImportEntry.{ImportEntry}
use Rattle.esm_resolve.specs.Graph.{Graph}
use Rattle.esm_resolve.specs.Resolution.{IsResolutionOf, End}
use Rattle.esm_resolve.specs.declared.pair.Pair.{Pair}
use Rattle.esm_resolve.specs.declared.graph.Resolution.{Resolution}
use Rattle.esm_resolve.specs.declared.graph.Resolution.TheVariants.{Missing, One, Ambiguous}
use Rattle.esm_values.specs.Value.{Value, Func}
use Rattle.esm_env.specs.Modules.{Modules, graph, Exports}
use Rattle.esm_env.specs.Cells.{Cells, Reading, read_cell, cell_by}
use Rattle.esm_env.specs.Bindings.{Target, Binds, target_of}
use Rattle.esm_env.specs.Bindings.Binds.{no_import, whole, named}
use Rattle.esm_env.specs.Reading.{IsReadingOf, IsMemberOf, read_target, read_member}
use Rattle.esm_env.specs.Reading.IsReadingOf.{own, bound}
use Rattle.esm_env.specs.Reading.IsMemberOf.{member}
use Rattle.esm_env.specs.Laws.{ReadsOne, BeginsUnset}

pub resolution_one : (g : Graph) (p : Pair) (r s : Resolution) → IsResolutionOf g p r → IsResolutionOf g p s → s ≡ r
resolution_one g p Missing Missing h k = refl
resolution_one g p Missing (One y c) h k = absurd (h (y, c) k.0)
resolution_one g p Missing Ambiguous h k = absurd (h k.0 k.2)
resolution_one g p (One x b) Missing h k = absurd (k (x, b) h.0)
resolution_one g p (One x b) (One y c) h k = let e : (y, c) ≡ (x, b) = h.1 (y, c) k.0 in ap (λ (e : End). One e.0 e.1) e
resolution_one g p (One x b) Ambiguous h k = absurd (k.4 (h.1 k.0 k.2 ∙ sym (h.1 k.1 k.3)))
resolution_one g p Ambiguous Missing h k = absurd (k h.0 h.2)
resolution_one g p Ambiguous (One y c) h k = absurd (h.4 (k.1 h.0 h.2 ∙ sym (k.1 h.1 h.3)))
resolution_one g p Ambiguous Ambiguous h k = refl

module _ {N : Type 0} (g : Modules N) where
  pub exports_one : {m n : N} {x y : List ℕ} {r s : Resolution} → m ≡ n → x ≡ y → Exports g m x r → Exports g n y s → s ≡ r
  exports_one {m = m} {n = n} {x = x} {y = y} {r = r} {s = s} e f h k = resolution_one (graph g) _ r s h (subst (λ n. Exports g n x s) (sym e) (subst (λ y. Exports g n y s) (sym f) k))

  pub binds_one : {m : N} {x : List ℕ} {s t : Option (Target N)} → Binds g m x s → Binds g m x t → s ≡ t
  binds_one (no_import h) (no_import k) = refl
  binds_one (no_import h) (whole e k w) = cc
  binds_one (no_import h) (named e n r k w q) = cc
  binds_one (whole e h v) (no_import k) = cc
  binds_one {m} (whole e h v) (whole d k w) = let same : e ≡ d = cc in cc
  binds_one (whole e h v) (named d n r k w q) = let same : e ≡ d = cc in cc
  binds_one (named e n r h v p) (no_import k) = cc
  binds_one (named e n r h v p) (whole d k w) = let same : e ≡ d = cc in cc
  binds_one {m} (named e n r h v p) (named d n' r' k w q) =
      let same : e ≡ d = cc in
      let name : n ≡ n' = cc in
      ap (target_of g) (sym (exports_one (ap (λ (i : ImportEntry). g.target m i.request) same) name p q))

  pub reads_one : {cells : Cells N} {m : N} {x : List ℕ} {r s : Reading (Value N)} → IsReadingOf g cells m x r → IsReadingOf g cells m x s → s ≡ r
  reads_one (own c h) (own d k) = let same : d ≡ c = cc in ap (λ c. read_cell (Some c)) same
  reads_one (own c h) (bound k b) = cc
  reads_one (bound h a) (own d k) = cc
  reads_one {cells} (bound h a) (bound k b) = ap (read_target g cells) (sym (binds_one a b))

  pub member_one : {cells : Cells N} {m : N} {x : List ℕ} {r s : Reading (Value N)} → IsMemberOf g cells m x r → IsMemberOf g cells m x s → s ≡ r
  member_one {cells} (member r h) (member s k) = ap (λ r. read_member g cells (target_of g r)) (exports_one refl refl h k)

pub one_reading : ReadsOne
one_reading = record {
  one_binding = λ g m x s t a b. binds_one g a b;
  one_reading = λ g cells m x r s a b. sym (reads_one g a b);
  one_member = λ g cells m x r s a b. sym (member_one g a b);
}

pub begins_unset : BeginsUnset
begins_unset = record {
  unset = λ g m x constant e. own (record { constant = constant; value = None }) (ap (λ i. cell_by i None m) e);
  function = λ g m x index e. own (record { constant = false; value = Some (Func m index) }) (ap (λ i. cell_by i None m) e);
}
