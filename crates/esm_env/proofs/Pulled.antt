-- Modules that are read by other names are the same by their names.
use Rattle.std.proofs.Common.{◌≡◌, ℕ, Some, refl, ap, sym, ◌∙◌}
use Rattle.esm_ast.specs.Entries.{entries_of}
use Rattle.esm_values.specs.Naming.{Naming}
use Rattle.esm_env.specs.Modules.{Modules, IsNumbered, graph}
use Rattle.esm_env.specs.Naming.{AreNamed, pulled, PulledAreNamed}

one_name : {M : Type 0} (m n : M) → Some m ≡ Some n → m ≡ n
one_name m n e = cc

module _ {M N : Type 0} (names : Naming M N) (total : (n : N) → (m : M) × (names.of n ≡ Some m)) where
  is_named : (n : N) → n ≡ names.name ((total n).0)
  is_named n = sym (names.only n ((total n).0) ((total n).1))

  is_of : (m : M) → (total (names.name m)).0 ≡ m
  is_of m = one_name ((total (names.name m)).0) m (sym ((total (names.name m)).1) ∙ names.back m)

  named : (h : Modules N) → AreNamed names (pulled names total h) h
  named h = record {
    url = λ m. refl;
    tree = λ m. refl;
    target = λ m i below. is_named (h.target (names.name m) i);
    number = λ x. x;
    numbers = λ m. refl;
    renumbers = λ m. record {
      entries = λ x r. ap (λ n. entries_of (h.tree n)) (is_named (h.named x));
      by_name = λ x e r c. target x e.request;
      by_star = λ x star r c. target x star;
      apart = λ x y r s e. e;
    };
    named = λ m x r. is_named (h.named x);
  }
    where
      target : (x i : ℕ) → (graph h).target x i ≡ (graph (pulled names total h)).target x i
      target x i = ap (λ n. h.number (h.target n i)) (is_named (h.named x)) ∙ ap h.number (is_named (h.target (names.name ((total (h.named x)).0)) i))

  numbered : (h : Modules N) → IsNumbered h → IsNumbered (pulled names total h)
  numbered h k m below = ap (λ n. (total n).0) (k (names.name m) below) ∙ is_of m

pub pulled_are_named : {M N : Type 0} (names : Naming M N) → PulledAreNamed names
pulled_are_named names = record { named = λ total h. named names total h; numbered = λ total h k. numbered names total h k }
