use Rattle.std.proofs.Common.{rules, arith, refl}
use Rattle.col_bytes.proofs.Pushed.{none_pushed, one_pushed, all_pushed}
use Rattle.enc_delta.proofs.Room.{pushed_before}
use Rattle.enc_delta.proofs.delta.put_reserved.Goals as goal

pub loop-rest-init : goal.loop-rest-init
loop-rest-init c = record { pushed = none_pushed c.args.out.now.items c.args.delta (omega arith); capacity = refl }

pub push_reserved-requires : goal.push_reserved-requires
push_reserved-requires c = let before = pushed_before c.args.out.now.items c.loop-rest.out.items c.args.delta c.loop-rest.rest c.loop-rest.invariant.pushed in
    omega (arith, before, c.args.out.now.ok.0, c.loop-rest.out.ok.0, c.requires, c.loop-rest.invariant.capacity)

pub loop-rest-preserved : goal.loop-rest-preserved
loop-rest-preserved c = record { pushed = one_pushed c.args.out.now.items c.loop-rest.out.items c.push_reserved.new.self.items c.args.delta c.loop-rest.rest c.loop-rest.invariant.pushed (omega arith) (search rules); capacity = search rules }

pub push_reserved-requires-2 : goal.push_reserved-requires-2
push_reserved-requires-2 c = let before = pushed_before c.args.out.now.items c.loop-rest.out.items c.args.delta c.loop-rest.rest c.loop-rest.invariant.pushed in
    omega (arith, before, c.args.out.now.ok.0, c.loop-rest.out.ok.0, c.requires, c.loop-rest.invariant.capacity)

pub returns-clause-items : goal.returns-clause-items
returns-clause-items c = all_pushed c.args.out.now.items c.loop-rest.out.items c.push_reserved-2.new.self.items c.args.delta c.loop-rest.rest c.loop-rest.invariant.pushed (omega arith) (search rules)

pub returns-clause-few : goal.returns-clause-few
returns-clause-few c = let before = pushed_before c.args.out.now.items c.loop-rest.out.items c.args.delta c.loop-rest.rest c.loop-rest.invariant.pushed in
    omega (arith, before, c.args.out.now.ok.0, c.loop-rest.out.ok.0, c.push_reserved-2.ensures.len)
