use Rattle.query_cover.proofs.Enough.{great_enough, not_great_enough, printed_enough}
use Rattle.query_cover.proofs.bounds.enough_rows_decide.Goals as goal

pub returns-clause-printed : goal.returns-clause-printed
returns-clause-printed c = printed_enough

pub returns-clause-great : goal.returns-clause-great
returns-clause-great c = great_enough

pub returns-clause-not_great : goal.returns-clause-not_great
returns-clause-not_great c = not_great_enough
