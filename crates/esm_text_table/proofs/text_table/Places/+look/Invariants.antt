use Rattle.esm_text_table.proofs.text_table.Places.+look.Given as goal

abbrev pub decreases-look : goal.decreases-look
decreases-look l = l.left
