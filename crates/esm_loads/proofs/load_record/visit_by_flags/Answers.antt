-- The flags are right before the flag of the place is set, and behind that.
use Rattle.std.proofs.Common.{◌≡◌, ◌++◌, ◌∷◌, [], sym, subst, rules, true}
use Rattle.std.specs.Prelude.{slice_set}
use Rattle.esm_loads.specs.Inner.Flags.{AreFlags, HaveFlags}
use Rattle.esm_loads.proofs.Flags.{flags_visit, right_flags}
use Rattle.esm_loads.proofs.load_record.visit_by_flags.Goals as goal

pub returns-in_err-grow-clause-kept : goal.returns-in_err-grow-clause-kept
returns-in_err-grow-clause-kept c =
    let made = subst (λ ks. AreFlags c.make_flags.new.flags.items ks) c.as_slice.ensures.value c.in_ok-make_flags.ensures.flags in
    right_flags c.grow.new.flags.items c.args.visited.now.items (c.grow.ensures.flags c.args.visited.now.items made)

pub returns-in_err-push-clause-kept : goal.returns-in_err-push-clause-kept
returns-in_err-push-clause-kept c =
    let made = subst (λ ks. AreFlags c.make_flags.new.flags.items ks) c.as_slice.ensures.value c.in_ok-make_flags.ensures.flags in
    let grown = right_flags c.grow.new.flags.items c.args.visited.now.items (c.grow.ensures.flags c.args.visited.now.items made) in
    subst (λ ks. HaveFlags c.grow.new.flags.items ks) (sym c.in_err-push.ensures.items) grown

pub returns-clause-kept : goal.returns-clause-kept
returns-clause-kept c =
    let made = subst (λ ks. AreFlags c.make_flags.new.flags.items ks) c.as_slice.ensures.value c.in_ok-make_flags.ensures.flags in
    let visited : c.push.new.self.items ≡ c.args.visited.now.items ++ c.args.id ∷ [] = search rules in
    right_flags (slice_set c.grow.new.flags.items c.args.id true) c.push.new.self.items
    (subst (λ ks. AreFlags (slice_set c.grow.new.flags.items c.args.id true) ks) (sym visited)
    (flags_visit c.grow.new.flags.items c.args.visited.now.items c.args.id c.in_ok-grow.ensures.room (c.grow.ensures.flags c.args.visited.now.items made)))
