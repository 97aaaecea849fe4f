-- The mark of the module is set.
use Rattle.std.proofs.Common.{◌≡◌, ◌<◌, ◌++◌, ◌∷◌, [], sym, subst, length, rules, true}
use Rattle.std.specs.Prelude.{slice_set}
use Rattle.esm_body.specs.Noted.{AreMarked}
use Rattle.esm_body.specs.declared.engine.Event.TheVariants as events
use Rattle.esm_body.proofs.Marks.{marks_same, marks_start}
use Rattle.esm_body.proofs.events.Events.push_start.Goals as goal

pub invariant_of-self : goal.invariant_of-self
invariant_of-self c =
    let list : c.push.new.self.items ≡ c.self.inside.list.items ++ events.Begins c.args.m ∷ [] = search rules in
    let room : c.args.m.0 < length c.grow.new.marks.items = search rules in
    subst (λ es. AreMarked (slice_set c.grow.new.marks.items c.args.m.0 true) es) (sym list)
    (marks_start c.grow.new.marks.items c.self.inside.list.items c.args.m room (marks_same c.self.inside.marks.items c.grow.new.marks.items c.self.inside.list.items c.grow.ensures.same c.self.invariant))
