-- The reading of all symbols shows what is spelled, or the place.
use Rattle.sql_reader.proofs.Closing.{found_at, left_at, stopped_at, behind_at, wrong_at}
use Rattle.sql_reader.proofs.reader.read.Goals as goal

pub returns-then-len-eq0-clause-found : goal.returns-then-len-eq0-clause-found
returns-then-len-eq0-clause-found c = found_at c.args.text.now c.args.tokens.now c.new-left.result c.statement.new.tokens c.in-Ok.found c.len.result c.new-left.ensures c.in-Ok.ensures c.len.ensures c.if-len-eq0.true

pub place_of-requires-clause-below : goal.place_of-requires-clause-below
place_of-requires-clause-below c = left_at c.args.text.now c.args.tokens.now c.new-left.result c.statement.new.tokens c.in-Ok.found c.len-in-Ok.result c.new-left.ensures c.in-Ok.ensures c.len-in-Ok.ensures

pub place_of-requires-in-Err-Here-clause-below : goal.place_of-requires-in-Err-Here-clause-below
place_of-requires-in-Err-Here-clause-below c = stopped_at c.args.text.now c.args.tokens.now c.new-left.result c.statement.new.tokens c.len-in-Err-Here.result c.new-left.ensures (rw c.in-Err-Here.field-0-is at c.in-Err-Here.ensures) c.len-in-Err-Here.ensures

pub returns-else-len-eq0-clause-refused : goal.returns-else-len-eq0-clause-refused
returns-else-len-eq0-clause-refused c = behind_at c.args.text.now c.args.tokens.now c.new-left.result c.statement.new.tokens c.in-Ok.found c.len.result c.len-in-Ok.result c.place_of.result c.new-left.ensures c.in-Ok.ensures c.len.ensures c.if-len-eq0.false c.len-in-Ok.ensures c.place_of.ensures

pub returns-in-Err-Here-clause-refused : goal.returns-in-Err-Here-clause-refused
returns-in-Err-Here-clause-refused c = wrong_at c.args.text.now c.args.tokens.now c.new-left.result c.statement.new.tokens c.len-in-Err-Here.result c.place_of-in-Err-Here.result c.new-left.ensures (rw c.in-Err-Here.field-0-is at c.in-Err-Here.ensures) c.len-in-Err-Here.ensures c.place_of-in-Err-Here.ensures
