-- What is spelled is read again, and a reading has one value.
use Rattle.sql_phrases.proofs.GoodStatements.{spelled_once}
use Rattle.sql_reader.proofs.reader.one_reading.Goals as goal

pub returns : goal.returns
returns c = spelled_once
