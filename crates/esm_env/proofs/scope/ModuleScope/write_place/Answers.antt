use Rattle.std.proofs.Common.{◌≡◌, ◌<◌, true, false, ap, refl, sym, ◌∙◌, length, arith}
use Rattle.std.proofs.lemmas.Option.{slice_get-get_or}
use Rattle.std.specs.Prelude.{Some}
use Rattle.esm_env.specs.NamePlaces.{first_place}
use Rattle.esm_env.proofs.FoundNames.{slot_names, names_written}
use Rattle.esm_env.proofs.OwnLemmas.{unset_at, constant_at, done_at, none_at}
use Rattle.esm_env.proofs.scope.ModuleScope.write_place.Goals as goal

pub invariant_of-self-clause-slots_at : goal.invariant_of-self-clause-slots_at
invariant_of-self-clause-slots_at c = λ x. c.args.self.now.slots_at x ∙ ap (λ names. first_place names x) (sym (ap slot_names c.write_at.ensures ∙ names_written c.args.self.now.slots.items c.args.place c.args.value))

pub invariant_of-self-clause-named : goal.invariant_of-self-clause-named
invariant_of-self-clause-named c = ap slot_names c.write_at.ensures ∙ names_written c.args.self.now.slots.items c.args.place c.args.value ∙ c.args.self.now.named

pub returns-then-not-is_set : goal.returns-then-not-is_set
returns-then-not-is_set c =
    let slots = c.args.self.now.slots.items in
    let below : c.args.place < length slots = omega (arith, c.if-place-len.true, c.len.ensures, c.args.self.now.slots.ok.0) in
    let b : c.is_set.result ≡ false = cc in
    (unset_at slots c.args.place c.is_set.result (λ d. rw c.as_slice.ensures.value at (c.is_set.ensures d)) b below, refl)

pub returns-then-index : goal.returns-then-index
returns-then-index c =
    let slots = c.args.self.now.slots.items in
    let below : c.args.place < length slots = omega (arith, c.if-place-len.true, c.len.ensures, c.args.self.now.slots.ok.0) in
    let b : c.is_set.result ≡ true = cc in
    let there = slice_get-get_or slots c.args.place _ below ∙ ap (λ t. Some t) (sym c.index.ensures) in
    (constant_at slots c.args.place c.is_set.result c.index.result.now (λ d. rw c.as_slice.ensures.value at (c.is_set.ensures d)) b below there c.if-index.true, refl)

pub returns-else-index : goal.returns-else-index
returns-else-index c =
    let slots = c.args.self.now.slots.items in
    let below : c.args.place < length slots = omega (arith, c.if-place-len.true, c.len.ensures, c.args.self.now.slots.ok.0) in
    let b : c.is_set.result ≡ true = cc in
    let there = slice_get-get_or slots c.args.place _ below ∙ ap (λ t. Some t) (sym c.index.ensures) in (
      done_at slots c.args.place c.is_set.result c.index.result.now (λ d. rw c.as_slice.ensures.value at (c.is_set.ensures d)) b below there c.if-index.false,
      (c.write_at.ensures, refl, refl, refl),
    )

pub returns-else-place-len : goal.returns-else-place-len
returns-else-place-len c =
    (none_at c.args.self.now.slots.items c.args.place (omega (arith, c.if-place-len.false, c.len.ensures, c.args.self.now.slots.ok.0)), refl)
