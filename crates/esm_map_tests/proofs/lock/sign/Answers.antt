use Rattle.std.proofs.Common.{rules, ap, ◌∙◌, sym, subst, ◌≡◌, inl, inr, ◌++◌, ◌∷◌, [], Some, None, ℕ, List, Bool, true, false, Option}
use Rattle.std.specs.Prelude.{MatchBool}
use Rattle.esm_map_tests.specs.declared.lock.Note.{Note}
use Rattle.esm_hlock.specs.Makers.{times, names, MayMake, IsStep}
use Rattle.esm_hlock.specs.Words.{found}
use Rattle.esm_map_tests.proofs.NewMakers.{is_new}
use Rattle.esm_map_tests.proofs.lock.sign.Goals as goal

by_none : {E : Type 0} (maker : E → Option ℕ) (b : Bool) (number : Option ℕ) (seen now : List E) (e : E) (k : ℕ) → maker e ≡ Some k → number ≡ None → names maker k seen ≡ 0
    → MatchBool b (now ≡ seen ++ e ∷ []) (now ≡ seen) → IsStep maker number seen now
by_none maker true number seen now e k made none new is = inr (e, is, subst (λ n. MayMake maker seen n (maker e)) (sym none) (subst (MayMake maker seen None) (sym made) new))
by_none maker false number seen now e k made none new is = inl is

pub leave-requires-clause-step : goal.leave-requires-clause-step
leave-requires-clause-step g c = let v = found c.enter-held.result in let e = c.enter-held.ensures in
    let maker : Note → Option ℕ = λ note. Some note.thread in
    let whole : v.shares ≡ 1024 = e.shares ∙ c.requires.alone.0 in
    let none : v.number ≡ None = e.numbers.0 ∙ c.requires.alone.1 in
    let empty : times c.args.note.thread v.numbers ≡ 0 = ap (times c.args.note.thread) (e.numbers.1 ∙ c.requires.alone.2) in
    let same : c.state.result.now.notes.notes.items ≡ v.seen = search rules in
    by_none maker c.add-added.result v.number v.seen c.add-added.new.self.notes.items c.args.note c.args.note.thread (λ _. Some c.args.note.thread) none (is_new maker v c.args.note.thread e.makers whole empty)
    (subst (λ l. MatchBool c.add-added.result (c.add-added.new.self.notes.items ≡ l ++ c.args.note ∷ []) (c.add-added.new.self.notes.items ≡ l)) same c.add-added.ensures)
