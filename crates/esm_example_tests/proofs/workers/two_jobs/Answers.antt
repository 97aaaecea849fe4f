use Rattle.std.proofs.Common.{ap, ◌∙◌, sym, subst, ◌∷◌, [], ◌++◌}
use Rattle.std.specs.Prelude.{All}
use Rattle.std.proofs.lemmas.List.Elements.{All-nil, All-cons}
use Rattle.esm_fetch.specs.Pool.{IsToBegin, IsGuided}
use Rattle.esm_example_tests.proofs.workers.two_jobs.Goals as goal

pub returns-clause-jobs : goal.returns-clause-jobs
returns-clause-jobs g c = let P = IsToBegin c.args.modules.now.lock.table.shared.table_id g.S.Source.holds g.S.Source.asked in
    subst (All P) (sym (c.push_reserved-2.ensures.items ∙ ap (λ l. l ++ c.args.other ∷ []) (c.push_reserved.ensures.items ∙ ap (λ l. l ++ c.args.one ∷ []) c.in_ok-jobs.ensures.items)))
    (All-cons P c.args.one (c.args.other ∷ []) c.requires.one (All-cons P c.args.other [] c.requires.other (All-nil P)))

pub returns-clause-guides : goal.returns-clause-guides
returns-clause-guides g c = let P = IsGuided c.args.guide.now in
    subst (All P) (sym (c.push_reserved-2.ensures.items ∙ ap (λ l. l ++ c.args.other ∷ []) (c.push_reserved.ensures.items ∙ ap (λ l. l ++ c.args.one ∷ []) c.in_ok-jobs.ensures.items)))
    (All-cons P c.args.one (c.args.other ∷ []) (subst (λ m. IsGuided m c.args.one) (sym c.requires.map) c.requires.guides.0) (All-cons P c.args.other [] (subst (λ m. IsGuided m c.args.other) (sym c.requires.map) c.requires.guides.1) (All-nil P)))
