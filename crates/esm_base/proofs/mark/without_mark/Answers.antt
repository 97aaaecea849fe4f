use Rattle.std.proofs.Common.{◌≡◌, List, ℕ, true, false, drop, refl, ap, sym, ◌∙◌, if◌then◌else◌}
use Rattle.esm_base.specs.Mark.{has_mark, without_mark}
use Rattle.esm_base.proofs.mark.without_mark.Goals as goal

without_is : (bytes : List ℕ) → without_mark bytes ≡ (if has_mark bytes then drop 3 bytes else bytes)
unfolding without_mark
without_is bytes = refl

kept : (bytes : List ℕ) → has_mark bytes ≡ false → bytes ≡ without_mark bytes
kept bytes h = sym (without_is bytes ∙ ap (λ b. if b then drop 3 bytes else bytes) h)

dropped : (bytes : List ℕ) → has_mark bytes ≡ true → drop 3 bytes ≡ without_mark bytes
dropped bytes h = sym (without_is bytes ∙ ap (λ b. if b then drop 3 bytes else bytes) h)

pub returns-then-starts_with : goal.returns-then-starts_with
returns-then-starts_with c = c.split_at.ensures.back ∙ dropped _ (sym c.starts_with.ensures.value ∙ c.if-starts_with.true)

pub returns-else-starts_with : goal.returns-else-starts_with
returns-else-starts_with c = kept _ (sym c.starts_with.ensures.value ∙ c.if-starts_with.false)
