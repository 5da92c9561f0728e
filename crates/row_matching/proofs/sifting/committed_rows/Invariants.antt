use Rattle.row_matching.proofs.sifting.committed_rows.Given as goal

abbrev pub ghosts-committed_by : goal.ghosts-committed_by
ghosts-committed_by g a = record { name = a.blank.name; parts = a.blank.parts }
