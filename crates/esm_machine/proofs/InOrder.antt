-- What keeps the parts of a machine in order.
use Rattle.esm_promise.specs.Code.{Numbered}
use Rattle.esm_eval.specs.Begins.{HaveBegunOnce}
use Rattle.esm_machine.specs.Inner.Parts.{AreInOrder, ByIds, parts_with_promises}
use Rattle.esm_machine.specs.declared.parts.Parts.{Parts}
use Rattle.esm_machine.specs.declared.parts.EntryState.{EntryState}

module _ (p : Parts) (o : AreInOrder p) where
  pub with_entry_in_order : (e : EntryState) → AreInOrder (record p { entry = e })
  with_entry_in_order e = record {
    whole = o.whole;
    nodes = o.nodes;
    ids = o.ids;
    scopes = o.scopes;
    standing = o.standing;
    between = o.between;
  }

  -- promises are no part of what evaluation keeps of modules
  begun_with : (ps : Numbered) → HaveBegunOnce ByIds (parts_with_promises p ps).host
  begun_with ps = record {
    between = record {
      idle = o.between.between.idle;
      unstamped = o.between.between.unstamped;
      undone = o.between.between.undone;
      free = o.between.between.free;
      stamped = o.between.between.stamped;
      joined = o.between.between.joined;
      waiting = o.between.between.waiting;
    };
    unbegun = o.between.unbegun;
    distinct = o.between.distinct;
  }

  pub with_promises_in_order : (ps : Numbered) → AreInOrder (parts_with_promises p ps)
  with_promises_in_order ps = record {
    whole = o.whole;
    nodes = o.nodes;
    ids = o.ids;
    scopes = o.scopes;
    standing = o.standing;
    between = begun_with ps;
  }
