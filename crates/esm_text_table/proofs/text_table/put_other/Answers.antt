-- The key is the text.
use Rattle.std.proofs.Common.{subst, sym, ◌∙◌, Some}
use Rattle.std.specs.BTreeMap.{Updates}
use Rattle.std.specs.Cmp.Lexicographic.{slice_cmp}
use Rattle.std.specs.Ordering.{nat_cmp}
use Rattle.esm_text_table.proofs.Slots.{ok_by}
use Rattle.esm_text_table.proofs.text_table.put_other.Goals as goal

pub returns-clause-others : goal.returns-clause-others
returns-clause-others c =
    subst (λ k. Updates (slice_cmp nat_cmp) c.args.others.now c.insert.new.self k (Some c.args.place)) c.in_ok-key.ensures (ok_by c.insert.result (sym c.is_err.ensures.value ∙ c.if-is_err.false) c.insert.ensures.updates)
