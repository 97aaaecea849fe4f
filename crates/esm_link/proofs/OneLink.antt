-- Linking has one outcome.
use Rattle.std.proofs.Common.{◌≡◌, Bool, List, [], Option, Some, refl, ap, subst, sym}
use Rattle.esm_ast.specs.declared.entries.ImportEntry.{ImportEntry}
use Rattle.esm_ast.specs.declared.entries.IndirectExport.{IndirectExport}
use Rattle.esm_env.specs.Modules.{Modules}
use Rattle.esm_env.proofs.OneRead.{exports_one}
use Rattle.esm_realm.specs.Walk.{Mark}
use Rattle.esm_realm.proofs.OneWalk.{walk_one}
use Rattle.esm_link.specs.Faults.{FaultAt, ExportFault, ImportFault, FirstFault, export_fault, import_fault}
use Rattle.esm_link.specs.Faults.FirstFault.{of_exports, of_imports}
use Rattle.esm_link.specs.Link.{targets, LinksMarks, IsLinking}
use Rattle.esm_link.specs.Link.LinksMarks.{done, enters, passes, fails, stays, component}
use Rattle.esm_link.specs.Laws.{OneLinking}

module _ {N : Type 0} (g : Modules N) (x : N) where
  export_one : {es : List IndirectExport} {a b : Option (FaultAt N)} → ExportFault g x es a → ExportFault g x es b → b ≡ a
  export_one ExportFault.none ExportFault.none = refl
  export_one (ExportFault.fine r h o p) (ExportFault.fine s k u q) = export_one p q
  export_one (ExportFault.fine r h o p) (ExportFault.found s k u) = let e = exports_one g refl refl h k in cc
  export_one (ExportFault.found r h o) (ExportFault.fine s k u q) = let e = exports_one g refl refl h k in cc
  export_one (ExportFault.found {e = entry} r h o) (ExportFault.found s k u) = ap (λ r. Some (export_fault g x entry r)) (exports_one g refl refl h k)

  import_one : {es : List ImportEntry} {a b : Option (FaultAt N)} → ImportFault g x es a → ImportFault g x es b → b ≡ a
  import_one ImportFault.none ImportFault.none = refl
  import_one (ImportFault.whole w p) (ImportFault.whole v q) = import_one p q
  import_one (ImportFault.whole w p) (ImportFault.fine n s v k u q) = cc
  import_one (ImportFault.whole w p) (ImportFault.found n s v k u) = cc
  import_one (ImportFault.fine m r w h o p) (ImportFault.whole v q) = cc
  import_one (ImportFault.fine m r w h o p) (ImportFault.fine n s v k u q) = import_one p q
  import_one (ImportFault.fine m r w h o p) (ImportFault.found n s v k u) = let name : m ≡ n = cc in let e = exports_one g refl name h k in cc
  import_one (ImportFault.found m r w h o) (ImportFault.whole v q) = cc
  import_one (ImportFault.found m r w h o) (ImportFault.fine n s v k u q) = let name : m ≡ n = cc in let e = exports_one g refl name h k in cc
  import_one (ImportFault.found {e = entry} m r w h o) (ImportFault.found n s v k u) =
      let name : m ≡ n = cc in
      let e = exports_one g refl name h k in
      λ i. Some (import_fault g x entry (sym name i) (e i))

  pub fault_one : {a b : Option (FaultAt N)} → FirstFault g x a → FirstFault g x b → b ≡ a
  fault_one (of_exports p) (of_exports q) = export_one p q
  fault_one (of_exports p) (of_imports q k) = let e = export_one p q in cc
  fault_one (of_imports p h) (of_exports q) = let e = export_one p q in cc
  fault_one (of_imports p h) (of_imports q k) = import_one h k

module _ {N : Type 0} (same : N → N → Bool) (g : Modules N) where
  links_one : {opened closed x y : List N} {ms : List (Mark N)} {a b : Option (FaultAt N)} → LinksMarks same g opened closed ms a x → LinksMarks same g opened closed ms b y → (b ≡ a) × (y ≡ x)
  links_one done done = (refl, refl)
  links_one (enters p) (enters q) = links_one p q
  links_one (passes p) (passes q) = links_one p q
  links_one (fails f) (fails h) = (fault_one g _ f h, refl)
  links_one (fails f) (stays n c q) = let e = fault_one g _ f n in absurd cc
  links_one (fails f) (component n c q) = let e = fault_one g _ f n in absurd cc
  links_one (stays n c p) (fails f) = let e = fault_one g _ f n in absurd cc
  links_one (stays n c p) (stays m d q) = links_one p q
  links_one (stays n c p) (component m d q) = absurd cc
  links_one (component n c p) (fails f) = let e = fault_one g _ f n in absurd cc
  links_one (component n c p) (stays m d q) = absurd cc
  links_one (component n c p) (component m d q) = links_one p q

  pub linking_one : {closed x y : List N} {root : N} {a b : Option (FaultAt N)} → IsLinking same g closed root a x → IsLinking same g closed root b y → (b ≡ a) × (y ≡ x)
  linking_one {closed} {y = y} {b = b} p q = links_one p.links (subst (λ ms. LinksMarks same g [] closed ms b y) (walk_one same (targets g) q.walk p.walk) q.links)

pub one_linking : (N : Type 0) → OneLinking N
one_linking N same g closed root one other x y p q = linking_one same g p q
