use Rattle.std.proofs.Common.{◌≡◌, ◌∙◌, ◌++◌, ℕ, codes, decimal}
use Rattle.std.proofs.lemmas.List.{append_assoc}
use Rattle.esm_gen.proofs.summary.Summary.text.Goals as goal

-- the pieces of a printed summary are its text
printed : (modules started lines code status : ℕ) → code ≡ status
    → codes "modules " ++ (decimal modules ++ (codes "\nstarted " ++ (decimal started ++ (codes "\nlines " ++ (decimal lines ++ (codes "\nstatus " ++ (decimal code ++ codes "\n")))))))
    ≡ codes "modules " ++ decimal modules ++ codes "\nstarted " ++ decimal started ++ codes "\nlines " ++ decimal lines ++ codes "\nstatus " ++ decimal status ++ codes "\n"
printed modules started lines code status e = rw e (simp append_assoc)

pub returns : goal.returns
returns c = c.from_string.ensures ∙ c.in_ok-text.ensures.ok ∙ printed _ _ _ _ _ c.code-code.ensures
