-- What names read as, and what is written, follows the names of modules.
use Rattle.std.proofs.Common.{◌≡◌, ℕ, ◌<◌, Bool, true, false, ◌&&◌, List, [], ◌∷◌, Option, Some, None, All, refl, ap, subst, sym, ◌∙◌, length}
use Rattle.std.specs.Prelude.{if◌then◌else◌, is_some}
use Rattle.std.specs.Option.{option_map}
use Rattle.std.specs.Str.{bytes_eq}
use Rattle.std.proofs.lemmas.List.Elements.{All-head, All-tail}
use Rattle.esm_base.specs.Lists.{IsSameness}
use Rattle.esm_tree.specs.Syntax.{Item}
use Rattle.esm_tree.specs.declared.node.Wanted.{Wanted}
use Rattle.esm_tree.specs.declared.node.Wanted.TheVariants as wanted
use Rattle.esm_ast.specs.Entries.{import_named, entries_of}
use Rattle.esm_ast.specs.declared.entries.ImportEntry.{ImportEntry}
use Rattle.esm_ast.proofs.Requests.{names_requests}
use Rattle.esm_resolve.specs.declared.graph.Resolution.{Resolution}
use Rattle.esm_resolve.specs.declared.graph.Resolution.TheVariants as resolutions
use Rattle.esm_resolve.specs.declared.graph.Binding.TheVariants as bindings
use Rattle.esm_resolve.specs.Resolution.{pair_of, IsResolutionOf}
use Rattle.esm_resolve.specs.Keys.{AreNamespaceKeysOf}
use Rattle.esm_resolve.specs.Renumbered.{renumbered}
use Rattle.esm_resolve.proofs.Renumbered.{follows_numbers, end_home}
use Rattle.esm_values.specs.Value.{Value}
use Rattle.esm_values.specs.Naming.{Naming, renamed_value}
use Rattle.esm_env.specs.Declarations.{Initial, initial}
use Rattle.esm_env.specs.Declarations.{Initial as initially}
use Rattle.esm_env.specs.Modules.{Modules, entries, graph, Exports}
use Rattle.esm_env.specs.Cells.{Cell, Cells, write_cell, or_function, cell_by, cell_at, Reading, read_value, read_cell}
use Rattle.esm_env.specs.Bindings.{Target, CellOf, WholeOf, import_as, whole_only, whole_by, own_by, target_of, Binds}
use Rattle.esm_env.specs.Reading.{read_target, IsReadingOf, read_member, IsMemberOf}
use Rattle.esm_env.specs.Writing.{write_by, constant_by, write_at, writing_of}
use Rattle.esm_env.specs.Naming.{AreNamed, renamed_in, renamed_cells, renamed_reading, renamed_writing, FollowsNames}

true_false : (b : Bool) → b ≡ true → b ≡ false → ⊥
true_false true h k = cc
true_false false h k = cc

import_below : (n : ℕ) (x : List ℕ) (e : ImportEntry) (es : List ImportEntry) → All (λ (i : ImportEntry). i.request < n) es → import_named es x ≡ Some e → e.request < n
unfolding import_named
import_below n x e [] a is = cc
import_below n x e (d ∷ ds) a is = by (bytes_eq d.local x) is (import_below n x e ds (All-tail (λ (i : ImportEntry). i.request < n) d ds a))
  where
    by : (b : Bool) → (if b then Some d else import_named ds x) ≡ Some e → (import_named ds x ≡ Some e → e.request < n) → e.request < n
    by true is rest = let same : d ≡ e = cc in subst (λ (i : ImportEntry). i.request < n) same (All-head (λ (i : ImportEntry). i.request < n) d ds a)
    by false is rest = rest is

module _ {M N : Type 0} (names : Naming M N) where
  abbrev V : Value M → Value N
  V v = renamed_value names.name v

  abbrev of_cell : Cell (Value M) → Cell (Value N)
  of_cell c = record { constant = c.constant; value = option_map V c.value }

  abbrev of_target : Target M → Target N
  of_target (CellOf m x) = CellOf (names.name m) x
  of_target (WholeOf m) = WholeOf (names.name m)

  written_at : (cells : Cells M) (m : M) (x : List ℕ) → renamed_cells names cells (names.name m) x ≡ option_map V (cells m x)
  written_at cells m x = ap (renamed_in names cells x) (names.back m)

  or_follows : (o : Option (Value M)) (m : M) (i : ℕ) → or_function (option_map V o) (names.name m) i ≡ V (or_function o m i)
  or_follows None m i = refl
  or_follows (Some v) m i = refl

  cell_by_follows : (i : Option Initial) (o : Option (Value M)) (m : M) → cell_by i (option_map V o) (names.name m) ≡ option_map of_cell (cell_by i o m)
  cell_by_follows None o m = refl
  cell_by_follows (Some (initially.Unset constant)) o m = refl
  cell_by_follows (Some (initially.FunctionAt i)) o m = ap (λ v. Some (record { constant = false; value = Some v })) (or_follows o m i)

  module _ (g : Modules M) (h : Modules N) (k : AreNamed names g h) where
    pub cell_follows : (cells : Cells M) (m : M) (x : List ℕ) → cell_at h (renamed_cells names cells) (names.name m) x ≡ option_map of_cell (cell_at g cells m x)
    cell_follows cells m x = (λ i. cell_by (initial (k.tree m i) x) (written_at cells m x i) (names.name m)) ∙ cell_by_follows (initial (g.tree m) x) (cells m x) m

    import_follows : (m : M) (x : List ℕ) → import_as h (names.name m) x ≡ import_as g m x
    import_follows m x = ap (λ (items : List Item). import_named (entries_of items).imports x) (k.tree m)

    -- the target of an import
    imported : (m : M) (x : List ℕ) (e : ImportEntry) → import_as g m x ≡ Some e → h.target (names.name m) e.request ≡ names.name (g.target m e.request)
    imported m x e is = k.target m e.request (import_below (length (entries g m).requests) x e (entries g m).imports (names_requests (g.tree m)).imports is)

    exports_follow : (m : M) (x : List ℕ) (r : Resolution) → Exports g m x r → Exports h (names.name m) x (renumbered k.number r)
    exports_follow m x r p = subst (λ n. IsResolutionOf (graph h) (pair_of n x) (renumbered k.number r)) (k.numbers m) (follows_numbers.resolution (graph g) (graph h) k.number (g.number m) x r (k.renumbers m) p)

    own_follows : (m : M) (x : List ℕ) (i : Option Initial) → own_by h (names.name m) x i ≡ option_map of_target (own_by g m x i)
    own_follows m x (Some i) = refl
    own_follows m x None = ap (whole_by h (names.name m)) (import_follows m x) ∙ by (import_as g m x) refl
      where
        only : (e : ImportEntry) → import_as g m x ≡ Some e → (w : Wanted) → whole_only h (names.name m) e.request w ≡ option_map of_target (whole_only g m e.request w)
        only e is wanted.Whole = ap (λ t. Some (WholeOf t)) (imported m x e is)
        only e is (wanted.Named name) = refl

        by : (o : Option ImportEntry) → import_as g m x ≡ o → whole_by h (names.name m) o ≡ option_map of_target (whole_by g m o)
        by None is = refl
        by (Some e) is = only e is e.wanted

    target_follows : (m : M) (x : List ℕ) (r : Resolution) → Exports g m x r → target_of h (renumbered k.number r) ≡ option_map of_target (target_of g r)
    target_follows m x resolutions.Missing p = refl
    target_follows m x resolutions.Ambiguous p = refl
    target_follows m x (resolutions.One id bindings.Whole) p = ap (λ n. Some (WholeOf n)) (k.named m id.0 (end_home (graph g) (graph h) k.number (g.number m) (k.renumbers m) x (id, bindings.Whole) p.0))
    target_follows m x (resolutions.One id (bindings.Local y)) p =
        let at = k.named m id.0 (end_home (graph g) (graph h) k.number (g.number m) (k.renumbers m) x (id, bindings.Local y) p.0) in
        ap (λ n. own_by h n y (initial (h.tree n) y)) at
        ∙ ap (λ items. own_by h (names.name (g.named id.0)) y (initial items y)) (k.tree (g.named id.0))
        ∙ own_follows (g.named id.0) y (initial (g.tree (g.named id.0)) y)

    binds_follow : (m : M) (x : List ℕ) {t : Option (Target M)} → Binds g m x t → Binds h (names.name m) x (option_map of_target t)
    binds_follow m x (Binds.no_import e) = Binds.no_import (import_follows m x ∙ e)
    binds_follow m x (Binds.whole e is w) = subst (λ t. Binds h (names.name m) x (Some (WholeOf t))) (imported m x e is) (Binds.whole e (import_follows m x ∙ is) w)
    binds_follow m x (Binds.named e name r is w p) =
        subst (λ t. Binds h (names.name m) x t) (target_follows (g.target m e.request) name r p)
        (Binds.named e name (renumbered k.number r) (import_follows m x ∙ is) w (subst (λ t. Exports h t name (renumbered k.number r)) (sym (imported m x e is)) (exports_follow (g.target m e.request) name r p)))

    -- ---- readings

    value_follows : (o : Option (Value M)) → read_value (option_map V o) ≡ renamed_reading names (read_value o)
    value_follows None = refl
    value_follows (Some v) = refl

    pub read_follows : (o : Option (Cell (Value M))) → read_cell (option_map of_cell o) ≡ renamed_reading names (read_cell o)
    read_follows None = refl
    read_follows (Some c) = value_follows c.value

    target_read : (cells : Cells M) (t : Option (Target M)) → read_target h (renamed_cells names cells) (option_map of_target t) ≡ renamed_reading names (read_target g cells t)
    target_read cells None = refl
    target_read cells (Some (CellOf m x)) = ap read_cell (cell_follows cells m x) ∙ read_follows (cell_at g cells m x)
    target_read cells (Some (WholeOf m)) = refl

    reads : (cells : Cells M) (m : M) (x : List ℕ) (r : Reading (Value M)) → IsReadingOf g cells m x r → IsReadingOf h (renamed_cells names cells) (names.name m) x (renamed_reading names r)
    reads cells m x r (IsReadingOf.own c e) =
        subst (λ r. IsReadingOf h (renamed_cells names cells) (names.name m) x r) (read_follows (Some c)) (IsReadingOf.own (of_cell c) (cell_follows cells m x ∙ ap (option_map of_cell) e))
    reads cells m x r (IsReadingOf.bound {t = t} e b) =
        subst (λ r. IsReadingOf h (renamed_cells names cells) (names.name m) x r) (target_read cells t) (IsReadingOf.bound (cell_follows cells m x ∙ ap (option_map of_cell) e) (binds_follow m x b))

    member_follows : (cells : Cells M) (t : Option (Target M)) → read_member h (renamed_cells names cells) (option_map of_target t) ≡ renamed_reading names (read_member g cells t)
    member_follows cells None = refl
    member_follows cells (Some t) = target_read cells (Some t)

    members : (cells : Cells M) (m : M) (x : List ℕ) (r : Reading (Value M)) → IsMemberOf g cells m x r → IsMemberOf h (renamed_cells names cells) (names.name m) x (renamed_reading names r)
    members cells m x r (IsMemberOf.member s p) =
        subst (λ r. IsMemberOf h (renamed_cells names cells) (names.name m) x r) (ap (read_member h (renamed_cells names cells)) (target_follows m x s p) ∙ member_follows cells (target_of g s))
        (IsMemberOf.member (renumbered k.number s) (exports_follow m x s p))

    keys_follow : (m : M) (ks : List (List ℕ)) → AreNamespaceKeysOf (graph g) (g.number m) ks → AreNamespaceKeysOf (graph h) (h.number (names.name m)) ks
    keys_follow m ks p = subst (λ n. AreNamespaceKeysOf (graph h) n ks) (k.numbers m) (follows_numbers.keys (graph g) (graph h) k.number (g.number m) ks (k.renumbers m) p)

    -- ---- writings

    module _ (same : M → M → Bool) (other : N → N → Bool) (s : IsSameness same) (t : IsSameness other) where
      -- a name is the name of a module where the modules are the same
      pub same_follows : (m n : M) → other (names.name m) (names.name n) ≡ same m n
      same_follows m n = by (same m n) refl (other (names.name m) (names.name n)) refl
        where
          by : (b : Bool) → same m n ≡ b → (c : Bool) → other (names.name m) (names.name n) ≡ c → c ≡ b
          by true e true f = refl
          by true e false f = absurd (true_false (other (names.name m) (names.name n)) (subst (λ n. other (names.name m) (names.name n) ≡ true) (s.equal m n e) (t.own (names.name m))) f)
          by false e true f =
              let is : Some m ≡ Some n = sym (names.back m) ∙ ap names.of (t.equal (names.name m) (names.name n) f) ∙ names.back n in
              let eq : m ≡ n = cc in
              absurd (true_false (same m n) (subst (λ n. same m n ≡ true) eq (s.own m)) e)
          by false e false f = refl

      picked : (b : Bool) (a c : Option (Value M)) → (if b then option_map V a else option_map V c) ≡ option_map V (if b then a else c)
      picked true a c = refl
      picked false a c = refl

      cell_written : (cells : Cells M) (m : M) (x : List ℕ) (v : Value M) (n : N) (y : List ℕ) → (o : Option M) → names.of n ≡ o
          → (if other (names.name m) n && bytes_eq x y then Some (V v) else renamed_in names cells y o) ≡ renamed_in names (write_cell same cells m x v) y o
      cell_written cells m x v n y None e = by (other (names.name m) n) refl
        where
          by : (b : Bool) → other (names.name m) n ≡ b → (if b && bytes_eq x y then Some (V v) else None) ≡ None
          by true f = let is : Some m ≡ None = sym (names.back m) ∙ ap names.of (t.equal (names.name m) n f) ∙ e in cc
          by false f = refl
      cell_written cells m x v n y (Some l) e =
          ap (λ b. if b && bytes_eq x y then Some (V v) else option_map V (cells l y)) (ap (other (names.name m)) (sym (names.only n l e)) ∙ same_follows m l)
          ∙ picked (same m l && bytes_eq x y) (Some v) (cells l y)

      cells_written : (cells : Cells M) (m : M) (x : List ℕ) (v : Value M) → write_cell other (renamed_cells names cells) (names.name m) x (V v) ≡ renamed_cells names (write_cell same cells m x v)
      cells_written cells m x v = λ i n y. cell_written cells m x v n y (names.of n) refl i

      write_by_follows : (cells : Cells M) (constant : Bool) (o : Option (Value M)) → write_by (renamed_cells names cells) constant (option_map V o) ≡ renamed_writing names (write_by cells constant o)
      write_by_follows cells constant None = refl
      write_by_follows cells true (Some v) = refl
      write_by_follows cells false (Some v) = refl

      constant_follows : (b : Bool) → constant_by {N = N} b ≡ renamed_writing names (constant_by b)
      constant_follows true = refl
      constant_follows false = refl

      write_at_follows : (cells : Cells M) (c : Option (Cell (Value M))) (b : Bool) → write_at (renamed_cells names cells) (option_map of_cell c) b ≡ renamed_writing names (write_at cells c b)
      write_at_follows cells (Some c) b = write_by_follows cells c.constant c.value
      write_at_follows cells None b = constant_follows b

      writes : (cells : Cells M) (m : M) (x : List ℕ) (v : Value M) → writing_of other h (renamed_cells names cells) (names.name m) x (V v) ≡ renamed_writing names (writing_of same g cells m x v)
      writes cells m x v =
          (λ i. write_at (cells_written cells m x v i) (cell_follows cells m x i) (is_some (import_follows m x i)))
          ∙ write_at_follows (write_cell same cells m x v) (cell_at g cells m x) (is_some (import_as g m x))

pub follows_names : {M N : Type 0} (names : Naming M N) (same : M → M → Bool) (other : N → N → Bool) → FollowsNames names same other
follows_names names same other = record {
  reads = λ g h k. record { reads = reads names g h k; members = members names g h k; keys = keys_follow names g h k };
  writes = λ g h s t k. record { cells = cells_written names g h k same other s t; writes = writes names g h k same other s t };
}
