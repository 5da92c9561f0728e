use Rattle.store_query.proofs.uncounted.select.Given as goal

abbrev pub ghosts-select_by : goal.ghosts-select_by
ghosts-select_by g a = record { name = a.blank.name; parts = a.blank.parts }
