use Rattle.std.proofs.Common.{rules, arith}
use Rattle.col_bytes.proofs.Pushed.{none_pushed, one_pushed, all_pushed}
use Rattle.col_bytes.proofs.varint.push_groups.Goals as goal

pub loop-rest-init : goal.loop-rest-init
loop-rest-init c = none_pushed c.args.out.now.items c.args.n (omega arith)

pub loop-rest-preserved : goal.loop-rest-preserved
loop-rest-preserved c = one_pushed c.args.out.now.items c.loop-rest.out.items c.push.new.self.items c.args.n c.loop-rest.rest c.loop-rest.invariant (omega arith) (search rules)

pub returns-clause-ok : goal.returns-clause-ok
returns-clause-ok c = all_pushed c.args.out.now.items c.loop-rest.out.items c.push-2.new.self.items c.args.n c.loop-rest.rest c.loop-rest.invariant (omega arith) (search rules)
