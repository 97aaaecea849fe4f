use Rattle.esm_env.proofs.scope.ModuleScope.new.Goals as goal

pub invariant_of-scope-clause-slots_at : goal.invariant_of-scope-clause-slots_at
invariant_of-scope-clause-slots_at c = rw c.as_slice.ensures.value at c.in_ok-slot_places.ensures

pub invariant_of-scope-clause-imports_at : goal.invariant_of-scope-clause-imports_at
invariant_of-scope-clause-imports_at c = rw c.as_slice-2.ensures.value at c.in_ok-import_places.ensures

pub invariant_of-scope-clause-functions_at : goal.invariant_of-scope-clause-functions_at
invariant_of-scope-clause-functions_at c = rw c.deref.ensures at c.in_ok-functions.ensures
