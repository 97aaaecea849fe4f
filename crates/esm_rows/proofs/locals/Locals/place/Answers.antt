use Rattle.std.proofs.Common.{◌≡◌, ◌∙◌, ap, sym, subst}
use Rattle.esm_env.specs.NamePlaces.{IsIndexOf, first_place}
use Rattle.esm_rows.specs.LocalPlaces.{texts_of}
use Rattle.esm_rows.proofs.locals.Locals.place.Goals as goal

pub place-requires : goal.place-requires
place-requires c = subst (λ ls. IsIndexOf c.self.inside.places (texts_of ls)) (sym c.as_slice.ensures.value) c.self.invariant

pub returns : goal.returns
returns c =
    let there : c.place.result ≡ first_place (texts_of c.as_slice.result.now) c.args.name.now = c.place.ensures in
    there ∙ ap (λ ls. first_place (texts_of ls) c.args.name.now) (c.as_slice.ensures.value ∙ c.self.view_is)
