use Rattle.container_blocks.proofs.uncounted.block.Given as goal

abbrev pub ghosts-block_by : goal.ghosts-block_by
ghosts-block_by g a = record { name = a.blank.name; parts = a.blank.parts }
