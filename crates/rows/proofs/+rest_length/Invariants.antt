use Rattle.rows.proofs.+rest_length.Given as goal

abbrev pub decreases-rest_length : goal.decreases-rest_length
decreases-rest_length l = l.n
