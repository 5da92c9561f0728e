use Rattle.std.proofs.Common.{◌≡◌, ◌∙◌, ◌+◌, ◌-◌, sym, ap, arith}
use Rattle.wanted_rows.specs.Wanted.{asked_in, count_in, need_in, Adds, Needed}
use Rattle.wanted_rows.proofs.Counting.{less_at}
use Rattle.wanted_rows.proofs.needs.Needs.take_counted.Goals as goal

pub returns : goal.returns
returns c =
    let a = asked_in c.args.row.now in
    let counts = c.self.inside.counts.entries in
    let left : count_in counts a ≡ (c.in-Some.count - 1) + 1 = omega (arith, c.in-Some.ensures.count, c.if-count-eq0.false) in
    let less : Adds a (count_in c.set.new.counts.entries) (count_in counts) =
    less_at a (count_in counts) (count_in c.set.new.counts.entries) (c.in-Some.count - 1) left (c.set.ensures.each c.args.row.now c.in-Some.count c.in-Some.ensures.there) in
    record {
      taken = record {
        took = λ q. ap (λ (needs : Needed). need_in needs q) (sym c.self.view_is) ∙ omega (arith, less q);
        same = tt;
        none = tt;
      };
    }
