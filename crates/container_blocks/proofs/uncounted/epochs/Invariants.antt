use Rattle.container_blocks.proofs.uncounted.epochs.Given as goal

abbrev pub ghosts-epochs_by : goal.ghosts-epochs_by
ghosts-epochs_by g a = record { name = a.blank.name; parts = a.blank.parts }
