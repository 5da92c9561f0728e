use Rattle.exec_group.proofs.columns.take_each.Goals as goal

pub take_place-requires-clause-row : goal.take_place-requires-clause-row
take_place-requires-clause-row c = c.requires.rows c.loop-place.place-index 0 c.loop-place-test.true
