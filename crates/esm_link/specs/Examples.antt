-- Worked examples of linking. Modules are named by numbers, and their URLs are single letters.
use Rattle.std.specs.Prelude.{◌≡◌, ℕ, nat_eq, [], ◌∷◌, Some, true, codes, if◌then◌else◌}
use Rattle.esm_tree.specs.Syntax.{ImportEffect, ImportFrom, ExportFrom}
use Rattle.esm_tree.specs.declared.node.Wanted.TheVariants.{Named}
use Rattle.esm_values.specs.Errors.{fault_text}
use Rattle.esm_env.specs.Modules.{Modules}
use Rattle.esm_link.specs.declared.LinkKind.TheVariants.{K1, K3}
use Rattle.esm_link.specs.Faults.{FaultAt, link_error}
use Rattle.esm_link.specs.Link.{IsLinking}

-- ---- m imports a for its effect; a: export {x} from "b"; b: export {x} from "a"

abbrev pub unbound : Modules ℕ
unbound = record {
  url = λ m. if nat_eq m 0 then codes "m" else if nat_eq m 1 then codes "a" else codes "b";
  tree = λ m. if nat_eq m 0 then ImportEffect (codes "a") ∷ []
      else if nat_eq m 1 then ExportFrom (record { first = codes "x"; is_name = true; exported = codes "x" } ∷ []) (codes "b") ∷ []
      else ExportFrom (record { first = codes "x"; is_name = true; exported = codes "x" } ∷ []) (codes "a") ∷ [];
  target = λ m i. if nat_eq m 1 then 2 else 1;
  size = 3;
  number = λ m. m;
  named = λ m. m;
}

abbrev pub unbound_x : FaultAt ℕ
unbound_x = record { kind = K3; module_is = 2; name = codes "x"; target = 1 }

-- b is left first, and is at fault; all three stay unlinked
pub record UnboundCycle : Type 0 where
  pub linking : IsLinking nat_eq unbound [] 0 (Some unbound_x) []
  pub text : fault_text (link_error unbound unbound_x) ≡ codes "SyntaxError: b: no binding for export x"

-- ---- m: import {n} from "a"; a has no items

abbrev pub needy : Modules ℕ
needy = record {
  url = λ m. if nat_eq m 0 then codes "m" else codes "a";
  tree = λ m. if nat_eq m 0 then ImportFrom (codes "a") (record { wanted = Named (codes "n"); local = codes "l" } ∷ []) ∷ [] else [];
  target = λ m i. 1;
  size = 2;
  number = λ m. m;
  named = λ m. m;
}

abbrev pub needy_n : FaultAt ℕ
needy_n = record { kind = K1; module_is = 0; name = codes "n"; target = 1 }

-- m is at fault; a, whose component has closed before, is linked
pub record ClosedBeforeFault : Type 0 where
  pub linking : IsLinking nat_eq needy [] 0 (Some needy_n) (1 ∷ [])
  pub text : fault_text (link_error needy needy_n) ≡ codes "SyntaxError: m: no export n in a"
