use Rattle.esm_text_table.proofs.text_table.+room_of.Given as goal

abbrev pub decreases-room_of : goal.decreases-room_of
decreases-room_of l = l.left
