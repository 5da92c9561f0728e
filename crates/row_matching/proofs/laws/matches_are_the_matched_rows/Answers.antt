use Rattle.row_matching.proofs.Matches.{matched_so, matched_many}
use Rattle.row_matching.proofs.laws.matches_are_the_matched_rows.Goals as goal

pub returns-clause-rows : goal.returns-clause-rows
returns-clause-rows c = matched_so

pub returns-clause-count : goal.returns-clause-count
returns-clause-count c = matched_many
