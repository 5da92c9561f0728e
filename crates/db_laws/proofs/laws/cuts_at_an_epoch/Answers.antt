use Rattle.db_laws.proofs.Cuts.{commit_unseen, like_cut}
use Rattle.db_laws.proofs.laws.cuts_at_an_epoch.Goals as goal

pub returns : goal.returns
returns c = record { later = commit_unseen; alike = like_cut }
