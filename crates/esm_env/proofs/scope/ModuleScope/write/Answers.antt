use Rattle.std.proofs.Common.{ap, sym, ◌∙◌}
use Rattle.esm_env.specs.NamePlaces.{first_place}
use Rattle.esm_env.proofs.FoundNames.{slot_names, names_written}
use Rattle.esm_env.proofs.scope.ModuleScope.write.Goals as goal

pub invariant_of-self-clause-slots_at : goal.invariant_of-self-clause-slots_at
invariant_of-self-clause-slots_at c = λ x. c.args.self.now.slots_at x ∙ ap (λ names. first_place names x) (sym (ap slot_names c.write_at.ensures ∙ names_written c.args.self.now.slots.items c.in-Some.at c.args.value))

pub invariant_of-self-clause-named : goal.invariant_of-self-clause-named
invariant_of-self-clause-named c = ap slot_names c.write_at.ensures ∙ names_written c.args.self.now.slots.items c.in-Some.at c.args.value ∙ c.args.self.now.named
