-- A scope that linking has made is faithful to its module.
use Rattle.std.proofs.Common.{ap, subst, sym}
use Rattle.esm_resolve.specs.Resolution.{module_id}
use Rattle.esm_env.specs.Bindings.{Binds}
use Rattle.esm_env.specs.Declarations.{initial}
use Rattle.esm_env.specs.Faithful.{SlotFits, target_in}
use Rattle.esm_env.specs.Scopes.{import_in}
use Rattle.esm_env.specs.Slots.{slot_in}
use Rattle.esm_env.proofs.MadeLemmas.{made_fits}
use Rattle.esm_link.specs.Realm.{modules_of, items_by, items_at}
use Rattle.esm_link.specs.Laws.{LinkedScopesAreFaithful}

pub linked_scopes_are_faithful : LinkedScopesAreFaithful
linked_scopes_are_faithful trees rs x s l = record {
  slots = λ name. subst (λ slots. SlotFits x (slot_in slots name) (initial (items_at trees x) name)) (sym l.made.0)
      (subst (λ items. SlotFits x (slot_in (Rattle.esm_env.specs.Makes.slots_for (module_id x) l.tree.items) name) (initial items name)) (sym (ap items_by l.tree_is)) (made_fits (module_id x) l.tree.items name));
  bound = λ name. subst (λ is. Binds (modules_of trees rs) x name (target_in (import_in is name))) (sym l.made.1) (l.bound name);
  namespace = l.made.3;
}
