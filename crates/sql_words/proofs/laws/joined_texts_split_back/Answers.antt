use Rattle.sql_words.proofs.Joined.{splits_back}
use Rattle.sql_words.proofs.laws.joined_texts_split_back.Goals as goal

pub returns : goal.returns
returns c = splits_back
