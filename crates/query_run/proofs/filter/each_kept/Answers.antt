use Rattle.query_run.proofs.filter.each_kept.Goals as goal

pub holds_at-requires-clause-row : goal.holds_at-requires-clause-row
holds_at-requires-clause-row c = c.requires.rows c.loop-place.place-index 0 c.loop-place-test.true
