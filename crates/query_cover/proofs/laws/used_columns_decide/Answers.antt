use Rattle.query_cover.proofs.Permuted.{great_seen, not_great_seen, printed_seen}
use Rattle.query_cover.proofs.laws.used_columns_decide.Goals as goal

pub returns-clause-printed : goal.returns-clause-printed
returns-clause-printed c = printed_seen

pub returns-clause-great : goal.returns-clause-great
returns-clause-great c = great_seen

pub returns-clause-not_great : goal.returns-clause-not_great
returns-clause-not_great c = not_great_seen
