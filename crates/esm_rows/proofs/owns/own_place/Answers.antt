use Rattle.std.proofs.Common.{refl, ap, sym, ◌∙◌}
use Rattle.std.specs.Prelude.{Some}
use Rattle.esm_rows.proofs.owns.own_place.Goals as goal

pub returns-in-Ok : goal.returns-in-Ok
returns-in-Ok c = λ owns texts x e f. (x, f ∙ ap (λ n. Some n) (sym c.in-Ok.ensures.1), refl)

pub returns-in-Err : goal.returns-in-Err
returns-in-Err c = λ owns texts x e f. (x, e, refl)
