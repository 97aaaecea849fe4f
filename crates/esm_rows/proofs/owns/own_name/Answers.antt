use Rattle.std.proofs.Common.{refl, subst, ◌≡◌, ◌∙◌}
use Rattle.std.specs.Prelude.{Some}
use Rattle.esm_env.specs.NamePlaces.{first_place}
use Rattle.esm_env.specs.Placed.{names_of}
use Rattle.esm_rows.proofs.Owned.{placed, text_is}
use Rattle.esm_rows.proofs.owns.own_name.Goals as goal

pub returns-in-Some : goal.returns-in-Some
returns-in-Some c = λ x e.
    let s = c.args.scope.now in
    let same = c.as_str.ensures ∙ text_is c.args.texts.now c.args.text x _ _ e c.index-texts-at.is in
    let place = placed s.slots.items c.as_str.result.now c.in-Some.place c.in-Some.ensures.0 c.in-Some.ensures.1 in
    c.own_place.ensures (names_of s) c.args.texts.now x e (subst (λ y. first_place (names_of s) y ≡ Some c.in-Some.place) same place)

pub returns-in-None : goal.returns-in-None
returns-in-None c = λ x e. (x, e, refl)

pub returns-else-at-texts : goal.returns-else-at-texts
returns-else-at-texts c = λ x e. (x, e, refl)
