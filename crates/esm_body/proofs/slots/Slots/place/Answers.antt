use Rattle.std.proofs.Common.{◌≡◌, ◌∙◌, ap, sym, subst}
use Rattle.esm_env.specs.NamePlaces.{IsIndexOf, first_place}
use Rattle.esm_body.specs.Inner.SlotPlaces.{names_of}
use Rattle.esm_body.proofs.slots.Slots.place.Goals as goal

pub place-requires : goal.place-requires
place-requires c = subst (λ ss. IsIndexOf c.self.inside.places (names_of ss)) (sym c.as_slice.ensures.value) c.self.invariant

pub returns : goal.returns
returns c =
    let there : c.place.result ≡ first_place (names_of c.as_slice.result.now) c.args.name.now = c.place.ensures in
    sym (there ∙ ap (λ ss. first_place (names_of ss) c.args.name.now) (c.as_slice.ensures.value ∙ c.self.view_is))
