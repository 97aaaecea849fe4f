-- The places are right before the module is open, and behind that.
use Rattle.std.proofs.Common.{◌≡◌, ◌++◌, ◌∷◌, [], sym, subst, rules, ◌∙◌, length}
use Rattle.std.specs.Prelude.{slice_set}
use Rattle.esm_eval.specs.Inner.Stack.{HavePlaces, KeepsPlaces}
use Rattle.esm_eval.proofs.Inner.Stacks as stacks
use Rattle.esm_eval.proofs.stack.push_by_places.Goals as goal

pub returns-in_err-grow-clause-kept : goal.returns-in_err-grow-clause-kept
returns-in_err-grow-clause-kept c =
    let made = subst (λ xs. HavePlaces xs c.make_places.new.places.items) c.as_slice.ensures.value c.in_ok-make_places.ensures.made in
    stacks.keeps_right c.args.opened.now.items c.grow.new.places.items c.requires.keeps.once (c.grow.ensures.kept c.args.opened.now.items made)

pub returns-in_err-push-clause-kept : goal.returns-in_err-push-clause-kept
returns-in_err-push-clause-kept c =
    let made = subst (λ xs. HavePlaces xs c.make_places.new.places.items) c.as_slice.ensures.value c.in_ok-make_places.ensures.made in
    let grown = stacks.keeps_right c.args.opened.now.items c.grow.new.places.items c.requires.keeps.once (c.grow.ensures.kept c.args.opened.now.items made) in
    subst (λ xs. KeepsPlaces xs c.grow.new.places.items) (sym c.in_err-push.ensures.items) grown

pub returns-clause-kept : goal.returns-clause-kept
returns-clause-kept c =
    let xs = c.args.opened.now.items in
    let made = subst (λ xs. HavePlaces xs c.make_places.new.places.items) c.as_slice.ensures.value c.in_ok-make_places.ensures.made in
    let opened : c.push.new.self.items ≡ xs ++ c.args.x ∷ [] = search rules in
    let last : c.len-place.result ≡ length xs = c.len-place.ensures ∙ search rules in
    let new = slice_set c.grow.new.places.items c.args.x c.len-place.result in
    subst (λ ys. KeepsPlaces ys new) (sym opened)
    (stacks.push_right xs c.args.places.now.items c.args.x c.requires.keeps c.requires.new new
    (stacks.pushed xs c.grow.new.places.items (c.grow.ensures.kept xs made) c.args.x c.len-place.result c.in_ok-grow.ensures.room c.requires.new last))
