-- The names of linked modules, and the members of their namespaces, can be read.
use Rattle.std.proofs.Common.{◌≡◌, ℕ, ◌<◌, Bool, true, false, List, [], ◌∷◌, Option, Some, None, refl, subst, length}
use Rattle.std.specs.Prelude.{⊤, if◌then◌else◌}
use Rattle.std.specs.Str.{bytes_eq}
use Rattle.std.specs.List.{AllByRecursion}
use Rattle.std.proofs.lemmas.List.Elements.{recursion_from_All}
use Rattle.esm_tree.specs.declared.node.Wanted.{Wanted}
use Rattle.esm_tree.specs.declared.node.Wanted.TheVariants as wanted
use Rattle.esm_ast.specs.declared.entries.ImportEntry.{ImportEntry}
use Rattle.esm_ast.specs.Entries.{import_named}
use Rattle.esm_ast.proofs.Requests.{names_requests}
use Rattle.esm_resolve.specs.SharedSet.{SharedSetAgrees, SharedSetEnds}
use Rattle.esm_resolve.specs.declared.graph.Resolution.{Resolution}
use Rattle.esm_resolve.specs.declared.graph.Resolution.TheVariants as resolutions
use Rattle.esm_resolve.specs.declared.graph.Binding.TheVariants as bindings
use Rattle.esm_values.specs.Value.{Value}
use Rattle.esm_env.specs.Declarations.{Initial, initial}
use Rattle.esm_env.specs.Declarations.{Initial as initially}
use Rattle.esm_env.specs.Modules.{Modules, entries}
use Rattle.esm_env.specs.Bindings.{Target, CellOf, WholeOf, Binds, import_as, whole_only, whole_by, own_by, target_of}
use Rattle.esm_env.specs.Bindings.Binds.{no_import, whole, named}
use Rattle.esm_env.specs.Cells.{Cell, Cells, Reading, read_cell, read_value, cell_by, cell_at, or_function}
use Rattle.esm_env.specs.Reading.{IsReadingOf, IsMemberOf, read_target, read_member}
use Rattle.esm_env.specs.Reading.IsReadingOf.{own, bound}
use Rattle.esm_env.specs.Reading.IsMemberOf.{member}
use Rattle.esm_rewriting.specs.Fits.{IsKnown, IsKnownReading, AreKnownCells, AreLinked, HoldsValue}
use Rattle.esm_rewriting.proofs.TreesFit.{function_there}
use Rattle.esm_rewriting.proofs.Resolved.{good, resolved, ResolvedGood}

module _ {N : Type 0} (g : Modules N) (linked : N → Bool) (h : AreLinked g linked) where
  -- ---- cells

  abbrev CellKnown : Option (Cell (Value N)) → Type 0
  CellKnown None = ⊤
  CellKnown (Some c) = HoldsValue (IsKnown g linked) c.value

  function_known : (m : N) (x : List ℕ) (index : ℕ) → linked m ≡ true → initial (g.tree m) x ≡ Some (initially.FunctionAt index) → (o : Option (Value N)) → HoldsValue (IsKnown g linked) o → IsKnown g linked (or_function o m index)
  function_known m x index l e None k = (l, function_there (g.tree m) x index e)
  function_known m x index l e (Some v) k = k

  cell_by_known : (m : N) (x : List ℕ) → linked m ≡ true → (i : Option Initial) → initial (g.tree m) x ≡ i → (o : Option (Value N)) → HoldsValue (IsKnown g linked) o → CellKnown (cell_by i o m)
  cell_by_known m x l None e o k = tt
  cell_by_known m x l (Some (initially.Unset constant)) e o k = k
  cell_by_known m x l (Some (initially.FunctionAt index)) e o k = function_known m x index l e o k

  held_by : (o : Option (Value N)) → ((v : Value N) → o ≡ Some v → IsKnown g linked v) → HoldsValue (IsKnown g linked) o
  held_by None k = tt
  held_by (Some v) k = k v refl

  cell_known : (cells : Cells N) (m : N) (x : List ℕ) → AreKnownCells g linked cells → linked m ≡ true → CellKnown (cell_at g cells m x)
  cell_known cells m x k l = cell_by_known m x l (initial (g.tree m) x) refl (cells m x) (held_by (cells m x) (λ v e. k m x v e))

  value_known : (o : Option (Value N)) → HoldsValue (IsKnown g linked) o → IsKnownReading g linked (read_value o)
  value_known None k = tt
  value_known (Some v) k = k

  read_known : (o : Option (Cell (Value N))) → CellKnown o → IsKnownReading g linked (read_cell o)
  read_known None k = tt
  read_known (Some c) k = value_known c.value k

  -- ---- targets

  abbrev TargetKnown : Option (Target N) → Type 0
  TargetKnown None = ⊤
  TargetKnown (Some (CellOf m x)) = linked m ≡ true
  TargetKnown (Some (WholeOf m)) = linked m ≡ true

  target_read : (cells : Cells N) → AreKnownCells g linked cells → (t : Option (Target N)) → TargetKnown t → IsKnownReading g linked (read_target g cells t)
  target_read cells k None q = tt
  target_read cells k (Some (CellOf m x)) q = read_known (cell_at g cells m x) (cell_known cells m x k q)
  target_read cells k (Some (WholeOf m)) q = q

  import_among : (P : ImportEntry → Type 0) (es : List ImportEntry) (x : List ℕ) (e : ImportEntry) → AllByRecursion P es → import_named es x ≡ Some e → P e
  unfolding import_named
  import_among P [] x e a q = absurd cc
  import_among P (i ∷ is) x e a q = by (bytes_eq i.local x) (import_among P is x e a.1) q
    where
      by : (b : Bool) → (import_named is x ≡ Some e → P e) → (if b then Some i else import_named is x) ≡ Some e → P e
      by true later q = subst P (let s : i ≡ e = cc in s) a.0
      by false later q = later q

  request_linked : (m : N) (x : List ℕ) (e : ImportEntry) → linked m ≡ true → import_as g m x ≡ Some e → linked (g.target m e.request) ≡ true
  request_linked m x e l q =
      h.targets m e.request l (import_among (λ (e : ImportEntry). e.request < length (entries g m).requests) (entries g m).imports x e
      (recursion_from_All (λ (e : ImportEntry). e.request < length (entries g m).requests) _ (names_requests (g.tree m)).imports) q)

  whole_known : (m : N) (x : List ℕ) → linked m ≡ true → (o : Option ImportEntry) → import_as g m x ≡ o → TargetKnown (whole_by g m o)
  whole_known m x l None q = tt
  whole_known m x l (Some e) q = by e.wanted
    where
      by : (w : Wanted) → TargetKnown (whole_only g m e.request w)
      by wanted.Whole = request_linked m x e l q
      by (wanted.Named name) = tt

  own_known : (m : N) (x : List ℕ) → linked m ≡ true → (i : Option Initial) → TargetKnown (own_by g m x i)
  own_known m x l (Some i) = l
  own_known m x l None = whole_known m x l (import_as g m x) refl

  end_known : (r : Resolution) → ResolvedGood g linked h r → TargetKnown (target_of g r)
  end_known resolutions.Missing k = tt
  end_known (resolutions.One id (bindings.Local x)) k = own_known (g.named id.0) x k.is_linked (initial (g.tree (g.named id.0)) x)
  end_known (resolutions.One id bindings.Whole) k = k.is_linked
  end_known resolutions.Ambiguous k = tt

  module _ (agrees : SharedSetAgrees) (ends : SharedSetEnds) where
    abbrev Bound : N → List ℕ → Type 0
    Bound m x = (t : Option (Target N)) × (Binds g m x t × TargetKnown t)

    binds_wanted : (m : N) (x : List ℕ) (e : ImportEntry) → linked m ≡ true → import_as g m x ≡ Some e → (w : Wanted) → e.wanted ≡ w → Bound m x
    binds_wanted m x e l q wanted.Whole s = (Some (WholeOf (g.target m e.request)), (whole e q s, request_linked m x e l q))
    binds_wanted m x e l q (wanted.Named name) s =
        let t = g.target m e.request in
        let r = resolved g linked h agrees ends (g.number t) name (good g linked h t (request_linked m x e l q)) in
        (target_of g r.0, (named e name r.0 q s r.1.0, end_known r.0 r.1.1))

    binds_by : (m : N) (x : List ℕ) → linked m ≡ true → (o : Option ImportEntry) → import_as g m x ≡ o → Bound m x
    binds_by m x l None q = (None, (no_import q, tt))
    binds_by m x l (Some e) q = binds_wanted m x e l q e.wanted refl

    reads_by : (cells : Cells N) (m : N) (x : List ℕ) → AreKnownCells g linked cells → linked m ≡ true → (c : Option (Cell (Value N))) → cell_at g cells m x ≡ c
        → (read : Reading (Value N)) × IsReadingOf g cells m x read × IsKnownReading g linked read
    reads_by cells m x k l (Some c) e = (read_cell (Some c), own c e, read_known (Some c) (subst CellKnown e (cell_known cells m x k l)))
    reads_by cells m x k l None e =
        let b = binds_by m x l (import_as g m x) refl in
        (read_target g cells b.0, bound e b.1.0, target_read cells k b.0 b.1.1)

    pub names_read : (cells : Cells N) (m : N) (x : List ℕ) → AreKnownCells g linked cells → linked m ≡ true → (read : Reading (Value N)) × IsReadingOf g cells m x read × IsKnownReading g linked read
    names_read cells m x k l = reads_by cells m x k l (cell_at g cells m x) refl

    member_known : (cells : Cells N) → AreKnownCells g linked cells → (t : Option (Target N)) → TargetKnown t → IsKnownReading g linked (read_member g cells t)
    member_known cells k None q = tt
    member_known cells k (Some t) q = target_read cells k (Some t) q

    pub members_read : (cells : Cells N) (m : N) (x : List ℕ) → AreKnownCells g linked cells → linked m ≡ true → (read : Reading (Value N)) × IsMemberOf g cells m x read × IsKnownReading g linked read
    members_read cells m x k l =
        let r = resolved g linked h agrees ends (g.number m) x (good g linked h m l) in
        (read_member g cells (target_of g r.0), member r.0 r.1.0, member_known cells k (target_of g r.0) (end_known r.0 r.1.1))
